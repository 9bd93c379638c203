-- A client comes back in time: its SYN comes when the server has forgotten the key, and it gets a connection.
use Rattle.tcp_rules.specs.declared.timestamping.Timestamping.TheVariants.{Off}
use Rattle.std.specs.Prelude.{Some, List, [], ◌∷◌, map}
use Rattle.tcp_rules.specs.Profile.{plain}
use Rattle.seq_arith.specs.Message.Body.{OpenMsg, OpenedMsg}
use Rattle.ft_model.specs.Client.{Client}
use Rattle.ft_model.specs.Log.{new_entry}
use Rattle.ft_model.specs.Node.Place.{Opens, Lives}
use Rattle.ft_model.specs.Node.Stage.{Serving}
use Rattle.ft_model.specs.Opening.{point_opened}
use Rattle.ft_model.specs.Point.{Point}
use Rattle.ft_model.specs.declared.event.Event.TheVariants.{Deliver}
use Rattle.ft_model.specs.declared.phase.Phase.TheVariants.{Established}
use Rattle.ft_model.specs.WorkedRuns.Common.{key, to_client, to_log, from_log}
use Rattle.ft_model.specs.WorkedRuns.FirstPath.{opening_trace, node_at, log_with}
use Rattle.long_laws.specs.LongTrace.{LongMoment, forgotten}
use Rattle.long_laws.specs.LongTrace.LongStep.{Joint_event, Forgets}
use Rattle.long_laws.specs.EarlyReturn.{joint_moment, moment, moment_11, moment_12, moment_13, moment_14, moment_15, moment_16, moment_17, past}
use Rattle.long_laws.specs.EarlyReturn.{opening, numbers}

-- the server forgets the key while the new client's SYN is under way
abbrev pub moment_18 : LongMoment
moment_18 = moment (Forgets key) [] past (forgotten key moment_17.world.now)

abbrev pub moment_19 : LongMoment
moment_19 = moment (Joint_event (Deliver 3)) (to_log 1 (OpenMsg numbers) ∷ []) past
    (record moment_18.world.now { node = Some (node_at (Serving 2 (Opens numbers Off ∷ []))) })

abbrev pub moment_20 : LongMoment
moment_20 = moment (Joint_event (Deliver 4)) (from_log 1 (OpenedMsg numbers) ∷ []) past (record moment_19.world.now { log = log_with (new_entry numbers ∷ []) })

abbrev pub begun_point : Point
begun_point = record (point_opened plain Off numbers) { rest = 1 }

abbrev pub moment_21 : LongMoment
moment_21 = moment (Joint_event (Deliver 5)) (to_client 18 70536 9001 65535 (Some 1460) [] ∷ []) past
    (record moment_20.world.now { node = Some (node_at (Serving 2 (Lives begun_point ∷ []))) })

abbrev pub open_client : Client
open_client = record opening { phase = Established; sisn = 70536 }

abbrev pub moment_22 : LongMoment
moment_22 = moment (Joint_event (Deliver 6)) [] past (record moment_21.world.now { clients = open_client ∷ [] })

abbrev pub trace : List LongMoment
trace =
    moment_22 ∷ moment_21 ∷ moment_20 ∷ moment_19 ∷ moment_18 ∷ moment_17 ∷ moment_16 ∷ moment_15 ∷ moment_14 ∷ moment_13 ∷ moment_12 ∷ moment_11
    ∷ map joint_moment opening_trace
