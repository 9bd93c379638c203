-- A crash loses a read: the first incarnation reads three bytes, and neither Data nor Read reaches the log before it crashes. The second one, to which the
-- client sends all five bytes, reads them at once. The service's output shows the lengths of its reads.
use Rattle.std.specs.Prelude.{ℕ, Bool, false, ◌==◌, Some, None, List, [], ◌∷◌, length}
use Rattle.tcp_rules.specs.Profile.{plain}
use Rattle.seq_arith.specs.Message.Body.{HelloMsg, SummaryMsg, ListMsg, EntryMsg, DataMsg, StableMsg, ReadMsg, ReadsMsg}
use Rattle.server_trait.specs.Service.{Served, Machine}
use Rattle.ft_model.specs.Client.{Client}
use Rattle.ft_model.specs.Log.{Log, Entry}
use Rattle.ft_model.specs.Network.{Packet}
use Rattle.ft_model.specs.Node.{booted}
use Rattle.ft_model.specs.Point.{Point}
use Rattle.ft_model.specs.World.{Moment}
use Rattle.ft_model.specs.declared.event.Event.TheVariants.{Boot, Crash, Deliver, Send}
use Rattle.ft_model.specs.WorkedRuns.Common.{server, key, hello_text, from_client, to_client, to_log, from_log, kept_with, part_with, head_with}
use Rattle.ft_model.specs.WorkedRuns.Common.{fetching, serving_at}
use Rattle.ft_model.specs.WorkedRuns.FirstPath.{moment, opening_trace, moment_10, open_client, opened_entry, open_point, node_live}

-- for each read the service writes one byte, the read's length, and it closes at the end of input
abbrev pub metered : Bool → List ℕ → Served Bool
metered state chunk = record { next = state; output = length chunk ∷ []; closed = length chunk == 0 }

abbrev pub meter : Machine Bool
meter = record { fresh = false; greeting = []; after = metered }

-- the bytes of "hel"
abbrev pub first_text : List ℕ
first_text = 104 ∷ 101 ∷ 108 ∷ []

-- what the first incarnation sends the client when they arrive: a pure ACK, or the output of its read
abbrev pub bare : Packet
bare = to_client 16 5001 1001 65535 None []

abbrev pub early : Packet
early = to_client 16 5001 1001 65535 None (3 ∷ [])

-- the Data and the Read of the first incarnation, and those of the second
abbrev pub first_data : Packet
first_data = to_log 1 (DataMsg (part_with 0 0 false first_text))

abbrev pub first_read : Packet
first_read = to_log 1 (ReadMsg key 0 3)

abbrev pub second_data : Packet
second_data = to_log 2 (DataMsg (part_with 0 0 false hello_text))

abbrev pub second_read : Packet
second_read = to_log 2 (ReadMsg key 0 5)

-- the client when it has sent three bytes, and when it has sent all
abbrev pub begun_client : Client
begun_client = record open_client { sent = 3 }

abbrev pub whole_client : Client
whole_client = record begun_client { sent = 5 }

-- the connection when the first incarnation has read, when the second one is restarted, and when that has read
abbrev pub first_point : Point
first_point = record open_point { taken = first_text; lengths = 3 ∷ [] }

abbrev pub restarted : Point
restarted = record open_point { edge = 0 }

abbrev pub second_point : Point
second_point = record restarted { taken = hello_text; lengths = 5 ∷ []; edge = 65535 }

abbrev pub log_with : Entry → Log
log_with e = record { boot = 2; entries = e ∷ [] }

abbrev pub filled_entry : Entry
filled_entry = record opened_entry { bytes = hello_text }

abbrev pub moment_11 : Moment
moment_11 = moment (Send 1 0 3) (from_client 16 1001 5001 65535 first_text ∷ []) (record moment_10.world { clients = begun_client ∷ [] })

-- the moments from here on, given what is sent to the client then
abbrev pub moment_12 : Packet → Moment
moment_12 reported = moment (Deliver 8) (reported ∷ first_data ∷ first_read ∷ []) (record moment_11.world { node = Some (node_live first_point) })

abbrev pub moment_13 : Packet → Moment
moment_13 reported = moment Crash [] (record (moment_12 reported).world { node = None })

abbrev pub moment_14 : Packet → Moment
moment_14 reported = moment (Boot 2 900000) (to_log 2 HelloMsg ∷ []) (record (moment_13 reported).world {
  boot = 2;
  node = Some (booted server plain 2 900000);
})

abbrev pub moment_15 : Packet → Moment
moment_15 reported = moment (Deliver 12) (from_log 2 (SummaryMsg 1) ∷ []) (record (moment_14 reported).world { log = log_with opened_entry })

abbrev pub moment_16 : Packet → Moment
moment_16 reported = moment (Deliver 13) (to_log 2 (ListMsg 0) ∷ []) (record (moment_15 reported).world { node = Some (fetching 2 900000 []) })

abbrev pub moment_17 : Packet → Moment
moment_17 reported = moment (Deliver 14) (from_log 2 (EntryMsg 0 (head_with 0 false 0 0)) ∷ []) (moment_16 reported).world

abbrev pub moment_18 : Packet → Moment
moment_18 reported = moment (Deliver 15) (bare ∷ []) (record (moment_17 reported).world { node = Some (serving_at 2 900000 restarted) })

abbrev pub moment_19 : Packet → Moment
moment_19 reported = moment (Send 1 0 5) (from_client 16 1001 5001 65535 hello_text ∷ []) (record (moment_18 reported).world { clients = whole_client ∷ [] })

abbrev pub moment_20 : Packet → Moment
moment_20 reported = moment (Deliver 17) (bare ∷ second_data ∷ second_read ∷ [])
    (record (moment_19 reported).world { node = Some (serving_at 2 900000 second_point) })

abbrev pub moment_21 : Packet → Moment
moment_21 reported = moment (Deliver 19) (from_log 2 (StableMsg (kept_with 5 false 0)) ∷ []) (record (moment_20 reported).world { log = log_with filled_entry })

-- the trace until the client has sent its first text, and the moments from then until the second one's Data is logged
abbrev pub sent_trace : List Moment
sent_trace = moment_11 ∷ opening_trace

abbrev pub restart_trace : Packet → List Moment
restart_trace reported =
    moment_21 reported ∷ moment_20 reported ∷ moment_19 reported ∷ moment_18 reported ∷ moment_17 reported ∷ moment_16 reported ∷ moment_15 reported
    ∷ moment_14 reported ∷ moment_13 reported ∷ []

-- Early output. The output is sent before its read is logged, and the network delivers it only once the second read is logged. The law Output refuses the turn.
abbrev pub early_22 : Moment
early_22 = moment (Deliver 20) (from_log 2 (ReadsMsg (kept_with 5 false 1)) ∷ [])
    (record (moment_21 early).world { log = log_with (record filled_entry { lengths = 5 ∷ [] }) })

abbrev pub early_client : Client
early_client = record whole_client { accepted = 3 ∷ [] }

abbrev pub early_23 : Moment
early_23 = moment (Deliver 9) [] (record early_22.world { clients = early_client ∷ [] })

abbrev pub after_early : List Moment
after_early = early_23 ∷ early_22 ∷ restart_trace early

-- No fence. The first incarnation's Read reaches the log after the second one's Data. The log's law refuses it, since its boot is older. Where the log keeps
-- it, the second one assumes that its own read is logged, and sends output that isn't that of the logged read.
abbrev pub before_unfenced : List Moment
before_unfenced = moment_21 bare ∷ moment_20 bare ∷ moment_19 bare ∷ moment_18 bare ∷ moment_17 bare ∷ moment_16 bare ∷ moment_15 bare ∷ moment_14 bare
    ∷ moment_13 bare ∷ moment_12 bare ∷ sent_trace

abbrev pub unfenced : Moment
unfenced = moment (Deliver 11) (from_log 1 (ReadsMsg (kept_with 5 false 1)) ∷ [])
    (record (moment_21 bare).world { log = log_with (record filled_entry { lengths = 3 ∷ [] }) })

abbrev pub unfenced_23 : Moment
unfenced_23 = moment (Deliver 20) (from_log 2 (ReadsMsg (kept_with 5 false 1)) ∷ []) unfenced.world

abbrev pub released_point : Point
released_point = record second_point { answered = 5; reads_answered = 1; sent = 1; rest = 1 }

abbrev pub unfenced_24 : Moment
unfenced_24 = moment (Deliver 23) (to_client 16 5001 1006 65535 None (5 ∷ []) ∷ [])
    (record unfenced_23.world { node = Some (serving_at 2 900000 released_point) })

abbrev pub unfenced_client : Client
unfenced_client = record whole_client { acknowledged = 5; accepted = 5 ∷ [] }

abbrev pub unfenced_25 : Moment
unfenced_25 = moment (Deliver 24) [] (record unfenced_24.world { clients = unfenced_client ∷ [] })

abbrev pub after_unfenced : List Moment
after_unfenced = unfenced_25 ∷ unfenced_24 ∷ unfenced_23 ∷ []
