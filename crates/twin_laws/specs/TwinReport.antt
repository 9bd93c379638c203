-- The report of a run with two loggers: as with one, but the datagrams between the loggers have lines too, among those of the packets.
use Rattle.std.specs.Prelude.{ℕ, ◌+◌, List, [], ◌∷◌, ◌++◌, length}
use Rattle.ft_model.specs.Client.{Client}
use Rattle.ft_model.specs.Report.{header, event_line, packet_line, line_of_packet, forward_words, got_words, way_of, closing_lines}
use Rattle.ft_model.specs.Schedule.{clients_of}
use Rattle.ft_model.specs.declared.schedule.Schedule.{Schedule}
use Rattle.ft_model.specs.declared.way.Way.{Way}
use Rattle.ft_model.specs.declared.way.Way.TheVariants.{HeadToTail, TailToHead}
use Rattle.twin_laws.specs.Twin.{Between}
use Rattle.twin_laws.specs.Twin.Between.{Forward, Got}
use Rattle.twin_laws.specs.TwinWorld.{Parcel, TwinMoment, seen, twin_after}
use Rattle.twin_laws.specs.TwinWorld.Parcel.{Outside, Inside}
use Rattle.twin_laws.specs.TwinLegal.{twin_start, event_of}

abbrev pub way_of_between : Between → Way
way_of_between (Forward number request) = HeadToTail
way_of_between (Got number) = TailToHead

abbrev pub between_words : Between → List (List ℕ)
between_words (Forward number request) = forward_words number request.message
between_words (Got number) = got_words number

-- the direction of a parcel
abbrev pub way_of_parcel : List Client → Parcel → Way
way_of_parcel clients (Outside packet) = way_of clients packet
way_of_parcel clients (Inside between) = way_of_between between

-- a parcel with its number
abbrev pub parcel_line : List Client → ℕ → Parcel → List ℕ
parcel_line clients n (Outside packet) = packet_line n (way_of clients packet) packet
parcel_line clients n (Inside between) = line_of_packet n (way_of_between between) (between_words between)

-- parcels, numbered from n on
abbrev pub parcel_lines : List Client → ℕ → List Parcel → List ℕ
parcel_lines clients n [] = []
parcel_lines clients n (parcel ∷ others) = parcel_line clients n parcel ++ parcel_lines clients (n + 1) others

-- how many parcels a trace has sent
abbrev pub parcel_count : List TwinMoment → ℕ
parcel_count [] = 0
parcel_count (moment ∷ earlier) = parcel_count earlier + length moment.sent

-- each event of a trace with its parcels. Events are numbered from 1, and so are parcels, over the whole run
abbrev pub twin_event_lines : List Client → List TwinMoment → List ℕ
twin_event_lines clients [] = []
twin_event_lines clients (moment ∷ earlier) =
    twin_event_lines clients earlier
    ++ (event_line (length earlier + 1) (event_of moment.event) ++ parcel_lines clients (parcel_count earlier + 1) moment.sent)

-- The report of a trace of a schedule. Its log is the one that serves at the end
abbrev pub twin_report : Schedule → List TwinMoment → List ℕ
twin_report schedule trace =
    header schedule
    ++ (twin_event_lines (clients_of schedule.server schedule.clients) trace
    ++ closing_lines (seen (twin_after (twin_start schedule) trace) []) (length trace))
