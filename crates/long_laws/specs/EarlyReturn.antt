-- A client comes back too soon. Its first connection is reset, and the log recycles the entry; the server has not forgotten the key when the next client's
-- SYN comes, and answers as CLOSED. The SYN comes again when the server has forgotten the key, and its connection is opened. Then the first answer arrives.
use Rattle.tcp_rules.specs.declared.timestamping.Timestamping.TheVariants.{Off}
use Rattle.std.specs.Prelude.{true, Some, None, List, [], ◌∷◌, ◌++◌, map}
use Rattle.seq_arith.specs.Message.{Numbers}
use Rattle.seq_arith.specs.Message.Body.{OpenMsg, OpenedMsg, DoneMsg, EndedMsg}
use Rattle.ft_model.specs.Client.{Client, new_client}
use Rattle.ft_model.specs.Client.ClientKind.{Scripted}
use Rattle.ft_model.specs.Log.{Entry, new_entry}
use Rattle.ft_model.specs.Network.{Packet}
use Rattle.ft_model.specs.Node.Place.{Opens, Ended}
use Rattle.ft_model.specs.Node.Stage.{Serving}
use Rattle.ft_model.specs.Point.{Point}
use Rattle.ft_model.specs.World.{World, Moment}
use Rattle.ft_model.specs.declared.event.Event.TheVariants.{Deliver, Begin, Reset}
use Rattle.ft_model.specs.declared.phase.Phase.TheVariants as phases
use Rattle.ft_model.specs.WorkedRuns.Common.{server, key, from_client, to_client, to_log, from_log}
use Rattle.ft_model.specs.WorkedRuns.FirstPath.{opening_trace, moment_10, open_client, opened_entry, open_point, node_at, node_live, log_with}
use Rattle.long_laws.specs.LongTrace.{LongStep, LongMoment, Gone, recycled, forgotten, with_new}
use Rattle.long_laws.specs.LongTrace.LongStep.{Joint_event, Recycles, Forgets, Arrives}

-- a moment of a joint trace
abbrev pub joint_moment : Moment → LongMoment
joint_moment moment = record { step = Joint_event moment.event; sent = moment.sent; world = record { now = moment.world; past = [] } }

-- a moment in which these packets are sent and the rest of the world is as given
abbrev pub moment : LongStep → List Packet → List Gone → World → LongMoment
moment step sent past world = record { step = step; sent = sent; world = record { now = record world { packets = world.packets ++ sent }; past = past } }

-- the first connection is open, and its client resets it
abbrev pub reset_client : Client
reset_client = record open_client { phase = phases.Reset }

abbrev pub reset_point : Point
reset_point = record open_point { reset = true }

abbrev pub done_entry : Entry
done_entry = record opened_entry { done = true }

abbrev pub moment_11 : LongMoment
moment_11 = moment (Joint_event (Reset 1)) (from_client 4 1001 0 0 [] ∷ []) [] (record moment_10.world { clients = reset_client ∷ [] })

abbrev pub moment_12 : LongMoment
moment_12 = moment (Joint_event (Deliver 8)) (to_log 1 (DoneMsg key) ∷ []) [] (record moment_11.world.now { node = Some (node_live reset_point) })

abbrev pub moment_13 : LongMoment
moment_13 = moment (Joint_event (Deliver 9)) (from_log 1 (EndedMsg key) ∷ []) [] (record moment_12.world.now { log = log_with (done_entry ∷ []) })

abbrev pub moment_14 : LongMoment
moment_14 = moment (Joint_event (Deliver 10)) [] [] (record moment_13.world.now { node = Some (node_at (Serving 1 (Ended key ∷ []))) })

-- the log recycles the entry, and a new client arrives at its address and port. Of the packets two are left, the server's Hello and its answer
abbrev pub past : List Gone
past = record { client = reset_client; lengths = [] } ∷ []

abbrev pub moment_15 : LongMoment
moment_15 = moment (Recycles key) [] past (recycled key moment_14.world.now)

abbrev pub comer : Client
comer = new_client Scripted server key 9000 []

abbrev pub moment_16 : LongMoment
moment_16 = moment (Arrives comer) [] past (with_new comer moment_15.world.now)

abbrev pub opening : Client
opening = record comer { phase = phases.Opening; edge = 65535 }

abbrev pub moment_17 : LongMoment
moment_17 = moment (Joint_event (Begin 1 65535)) (from_client 2 9000 0 65535 [] ∷ []) past (record moment_16.world.now { clients = opening ∷ [] })

-- its SYN gets CLOSED's RST, ..
abbrev pub moment_18 : LongMoment
moment_18 = moment (Joint_event (Deliver 3)) (to_client 20 0 9001 0 None [] ∷ []) past moment_17.world.now

-- .. the server forgets the key, ..
abbrev pub moment_19 : LongMoment
moment_19 = moment (Forgets key) [] past (forgotten key moment_18.world.now)

-- .. and the SYN comes again and is logged
abbrev pub numbers : Numbers
numbers = record { key = key; cisn = 9000; sisn = 70536; mss = 536 }

abbrev pub moment_20 : LongMoment
moment_20 = moment (Joint_event (Deliver 3)) (to_log 1 (OpenMsg numbers) ∷ []) past
    (record moment_19.world.now { node = Some (node_at (Serving 2 (Opens numbers Off ∷ []))) })

abbrev pub moment_21 : LongMoment
moment_21 = moment (Joint_event (Deliver 5)) (from_log 1 (OpenedMsg numbers) ∷ []) past (record moment_20.world.now { log = log_with (new_entry numbers ∷ []) })

abbrev pub opened_trace : List LongMoment
opened_trace =
    moment_21 ∷ moment_20 ∷ moment_19 ∷ moment_18 ∷ moment_17 ∷ moment_16 ∷ moment_15 ∷ moment_14 ∷ moment_13 ∷ moment_12 ∷ moment_11
    ∷ map joint_moment opening_trace

-- the RST arrives
abbrev pub moment_22 : LongMoment
moment_22 = moment (Joint_event (Deliver 4)) [] past (record moment_21.world.now { clients = record opening { phase = phases.Reset } ∷ [] })

abbrev pub trace : List LongMoment
trace = moment_22 ∷ opened_trace
