-- The report of a run with marks: as without them, but the messages about marks have lines too, among those of the packets.
use Rattle.std.specs.Prelude.{ℕ, ◌+◌, codes, List, [], ◌∷◌, ◌++◌, length}
use Rattle.std.specs.Fmt.{decimal}
use Rattle.ft_io.specs.declared.Key.{Key}
use Rattle.seq_arith.specs.Mark.{Mark, MarkBody, MarkMessage}
use Rattle.seq_arith.specs.Mark.MarkBody.{MarkMsg, MarkedMsg, AskMsg, HeldMsg}
use Rattle.ft_model.specs.Client.{Client}
use Rattle.ft_model.specs.Report.{header, event_line, packet_line, line_of_packet, key_words, way_of, closing_lines}
use Rattle.ft_model.specs.Schedule.{clients_of}
use Rattle.ft_model.specs.Texts.{hex_text}
use Rattle.ft_model.specs.declared.schedule.Schedule.{Schedule}
use Rattle.ft_model.specs.declared.way.Way.{Way}
use Rattle.ft_model.specs.declared.way.Way.TheVariants.{ServerToLogger, LoggerToServer}
use Rattle.mark_laws.specs.MarkedLegal.{marked_start}
use Rattle.mark_laws.specs.MarkedWorld.{Parcel, MarkedMoment, seen, marked_after}
use Rattle.mark_laws.specs.MarkedWorld.Parcel.{Usual, Mark_sent, Mark_answered}

abbrev pub name_of_mark : MarkBody → List ℕ
name_of_mark (MarkMsg key m) = codes "Mark"
name_of_mark (MarkedMsg key reads) = codes "Marked"
name_of_mark (AskMsg key) = codes "Ask"
name_of_mark (HeldMsg key m) = codes "Held"

-- a mark of a connection: its numbers, and the form of its state
abbrev pub words_of_mark : Key → Mark → List (List ℕ)
words_of_mark key m =
    key_words key
    ++ (codes "reads" ∷ decimal m.reads ∷ codes "length" ∷ decimal m.length ∷ codes "made" ∷ decimal m.made ∷ codes "state" ∷ hex_text m.state ∷ [])

-- the fields of a body by name, in the order of the message
abbrev pub fields_of_mark : MarkBody → List (List ℕ)
fields_of_mark (MarkMsg key m) = words_of_mark key m
fields_of_mark (MarkedMsg key reads) = key_words key ++ (codes "reads" ∷ decimal reads ∷ [])
fields_of_mark (AskMsg key) = key_words key
fields_of_mark (HeldMsg key m) = words_of_mark key m

-- a message about marks: as any message, its name, its boot number and its fields
unfoldable pub mark_words : MarkMessage → List (List ℕ)
mark_words message = name_of_mark message.body ∷ codes "boot" ∷ decimal message.boot ∷ fields_of_mark message.body

-- the direction of a parcel
abbrev pub way_of_marked : List Client → Parcel → Way
way_of_marked clients (Usual packet) = way_of clients packet
way_of_marked clients (Mark_sent message) = ServerToLogger
way_of_marked clients (Mark_answered message) = LoggerToServer

-- a parcel with its number
abbrev pub marked_parcel_line : List Client → ℕ → Parcel → List ℕ
marked_parcel_line clients n (Usual packet) = packet_line n (way_of clients packet) packet
marked_parcel_line clients n (Mark_sent message) = line_of_packet n ServerToLogger (mark_words message)
marked_parcel_line clients n (Mark_answered message) = line_of_packet n LoggerToServer (mark_words message)

-- parcels, numbered from n on
abbrev pub marked_parcel_lines : List Client → ℕ → List Parcel → List ℕ
marked_parcel_lines clients n [] = []
marked_parcel_lines clients n (parcel ∷ others) = marked_parcel_line clients n parcel ++ marked_parcel_lines clients (n + 1) others

-- how many parcels a trace has sent
abbrev pub marked_parcel_count : List MarkedMoment → ℕ
marked_parcel_count [] = 0
marked_parcel_count (moment ∷ earlier) = marked_parcel_count earlier + length moment.sent

-- each event of a trace with its parcels. Events are numbered from 1, and so are parcels, over the whole run
abbrev pub marked_event_lines : List Client → List MarkedMoment → List ℕ
marked_event_lines clients [] = []
marked_event_lines clients (moment ∷ earlier) =
    marked_event_lines clients earlier
    ++ (event_line (length earlier + 1) moment.event ++ marked_parcel_lines clients (marked_parcel_count earlier + 1) moment.sent)

-- The report of a trace of a schedule. Its log has all bytes and all lengths of reads, also those below a mark
abbrev pub marked_report : Schedule → List MarkedMoment → List ℕ
marked_report schedule trace =
    header schedule
    ++ (marked_event_lines (clients_of schedule.server schedule.clients) trace
    ++ closing_lines (seen (marked_after (marked_start schedule) trace)) (length trace))
