-- A server answers as CLOSED while it fetches the log: the client is reset, although its connection is logged. The law Restart refuses the turn: before its
-- entry is fetched, a client gets no answer.
use Rattle.std.specs.Prelude.{Some, None, List, [], ◌∷◌}
use Rattle.tcp_rules.specs.Profile.{plain}
use Rattle.seq_arith.specs.Message.Body.{HelloMsg, SummaryMsg, ListMsg}
use Rattle.ft_model.specs.Client.{Client}
use Rattle.ft_model.specs.Node.{booted}
use Rattle.ft_model.specs.World.{Moment}
use Rattle.ft_model.specs.declared.phase.Phase.TheVariants.{Reset}
use Rattle.ft_model.specs.declared.event.Event.TheVariants.{Boot, Crash, Deliver, Ack}
use Rattle.ft_model.specs.WorkedRuns.Common.{server, from_client, to_client, to_log, from_log, fetching}
use Rattle.ft_model.specs.WorkedRuns.FirstPath.{moment, trace, moment_17, served_client, read_entry}

-- the first path, then a crash, and the next boot's Hello has reached the log
abbrev pub moment_18 : Moment
moment_18 = moment Crash [] (record moment_17.world { node = None })

abbrev pub moment_19 : Moment
moment_19 = moment (Boot 2 900000) (to_log 2 HelloMsg ∷ []) (record moment_18.world { boot = 2; node = Some (booted server plain 2 900000) })

abbrev pub moment_20 : Moment
moment_20 = moment (Deliver 16) (from_log 2 (SummaryMsg 1) ∷ []) (record moment_19.world { log = record { boot = 2; entries = read_entry ∷ [] } })

abbrev pub moment_21 : Moment
moment_21 = moment (Deliver 17) (to_log 2 (ListMsg 0) ∷ []) (record moment_20.world { node = Some (fetching 2 900000 []) })

-- the client acknowledges what it has accepted
abbrev pub acknowledging_client : Client
acknowledging_client = record served_client { edge = 65540 }

abbrev pub moment_22 : Moment
moment_22 = moment (Ack 1 65535) (from_client 16 1006 5006 65535 [] ∷ []) (record moment_21.world { clients = acknowledging_client ∷ [] })

abbrev pub earlier : List Moment
earlier = moment_22 ∷ moment_21 ∷ moment_20 ∷ moment_19 ∷ moment_18 ∷ trace

-- and gets a RST
abbrev pub wrong : Moment
wrong = moment (Deliver 19) (to_client 4 5006 0 0 None [] ∷ []) moment_22.world

abbrev pub reset_client : Client
reset_client = record acknowledging_client { phase = Reset }

abbrev pub moment_24 : Moment
moment_24 = moment (Deliver 20) [] (record wrong.world { clients = reset_client ∷ [] })

abbrev pub later : List Moment
later = moment_24 ∷ []
