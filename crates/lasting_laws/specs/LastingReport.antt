-- The report of a run whose server lasts: the messages about forgetting have lines among those of the packets, and at the end the recycled entries have lines
-- before those of the log.
use Rattle.std.specs.Prelude.{ℕ, ◌+◌, ◌&&◌, codes, map, List, [], ◌∷◌, ◌++◌, length, if◌then◌else◌}
use Rattle.std.specs.List.{flat_map}
use Rattle.std.specs.Fmt.{decimal}
use Rattle.ft_io.specs.declared.Key.{Key}
use Rattle.ft_io.specs.Key.{key_eq}
use Rattle.ft_model.specs.Log.{Entry}
use Rattle.ft_model.specs.Network.{source_of, destination_of}
use Rattle.ft_model.specs.Network.Packet.{To_server, To_client, To_logger, From_logger}
use Rattle.ft_model.specs.Report.{header, event_line, line_of_packet, content_words, key_words, client_lines, log_line, end_line}
use Rattle.ft_model.specs.Texts.{line, key_text, bit_text, list_text}
use Rattle.ft_model.specs.declared.schedule.Lasting.{Lasting}
use Rattle.ft_model.specs.declared.schedule.Schedule.{Schedule}
use Rattle.ft_model.specs.declared.way.Way.{Way}
use Rattle.ft_model.specs.declared.way.Way.TheVariants.{ClientToServer, ServerToClient, ServerToLogger, LoggerToServer}
use Rattle.long_laws.specs.Forgetting.{Named, ForgetBody, ForgetMessage, named_of}
use Rattle.long_laws.specs.Forgetting.ForgetBody.{ForgetMsg, ForgottenMsg}
use Rattle.lasting_laws.specs.LastingWorld.{Parcel, Guest, LastingWorld, LastingMoment, has_come, lasting_after}
use Rattle.lasting_laws.specs.LastingWorld.Parcel.{Usual, Forget_sent, Forgotten_sent}
use Rattle.lasting_laws.specs.LastingLegal.{lasting_start}

-- a message about forgetting: as any message, its name, its boot number and its fields
abbrev pub name_of_forget : ForgetBody → List ℕ
name_of_forget (ForgetMsg n) = codes "Forget"
name_of_forget (ForgottenMsg n) = codes "Forgotten"

abbrev pub named_words : Named → List (List ℕ)
named_words n = key_words n.key ++ (codes "cisn" ∷ decimal n.cisn ∷ codes "sisn" ∷ decimal n.sisn ∷ [])

unfoldable pub forget_words : ForgetMessage → List (List ℕ)
forget_words message = name_of_forget message.body ∷ codes "boot" ∷ decimal message.boot ∷ named_words (named_of message.body)

-- the number of the client that came last to an address; 0 for none. Those before it have smaller numbers
abbrev pub last_to_come : ℕ → Key → (found : ℕ) → List Guest → ℕ
last_to_come n key found [] = found
last_to_come n key found (g ∷ others) = last_to_come (n + 1) key (if key_eq g.client.key key && has_come g then n else found) others

abbrev pub number_of_guest : List Guest → Key → ℕ
number_of_guest guests key = last_to_come 1 key 0 guests

-- the direction of a parcel, and its content
abbrev pub way_of_lasting : List Guest → Parcel → Way
way_of_lasting guests (Usual (To_server segment)) = ClientToServer (number_of_guest guests (source_of segment))
way_of_lasting guests (Usual (To_client segment)) = ServerToClient (number_of_guest guests (destination_of segment))
way_of_lasting guests (Usual (To_logger message)) = ServerToLogger
way_of_lasting guests (Usual (From_logger message)) = LoggerToServer
way_of_lasting guests (Forget_sent message) = ServerToLogger
way_of_lasting guests (Forgotten_sent message) = LoggerToServer

abbrev pub parcel_words : Parcel → List (List ℕ)
parcel_words (Usual packet) = content_words packet
parcel_words (Forget_sent message) = forget_words message
parcel_words (Forgotten_sent message) = forget_words message

-- parcels, numbered from n on, at a moment with these clients
abbrev pub lasting_parcel_lines : List Guest → ℕ → List Parcel → List ℕ
lasting_parcel_lines guests n [] = []
lasting_parcel_lines guests n (parcel ∷ others) =
    line_of_packet n (way_of_lasting guests parcel) (parcel_words parcel) ++ lasting_parcel_lines guests (n + 1) others

abbrev pub lasting_parcel_count : List LastingMoment → ℕ
lasting_parcel_count [] = 0
lasting_parcel_count (moment ∷ earlier) = lasting_parcel_count earlier + length moment.parcels

-- each event of a trace with its parcels. Events are numbered from 1, and so are parcels, over the whole run
abbrev pub lasting_event_lines : List LastingMoment → List ℕ
lasting_event_lines [] = []
lasting_event_lines (moment ∷ earlier) =
    lasting_event_lines earlier
    ++ (event_line (length earlier + 1) moment.event ++ lasting_parcel_lines moment.world.guests (lasting_parcel_count earlier + 1) moment.parcels)

-- a recycled entry, with the fields of a line of the log
unfoldable pub gone_line : Entry → List ℕ
gone_line e =
    line (codes "gone") (key_text e.key ∷ codes "length" ∷ decimal (length e.bytes) ∷ codes "fin" ∷ bit_text e.fin ∷ codes "acked" ∷ decimal e.acknowledged
    ∷ codes "done" ∷ bit_text e.done ∷ codes "reads" ∷ list_text e.lengths ∷ [])

-- the state of a world after n events
abbrev pub lasting_closing_lines : LastingWorld → ℕ → List ℕ
lasting_closing_lines w n =
    client_lines 1 (map (λ g. g.client) w.guests) ++ (flat_map gone_line w.recycled ++ (flat_map log_line w.log.entries ++ end_line n))

-- The report of a trace of a schedule
abbrev pub lasting_report : Lasting → Schedule → List LastingMoment → List ℕ
lasting_report waits schedule trace =
    header schedule ++ (lasting_event_lines trace ++ lasting_closing_lines (lasting_after (lasting_start waits schedule) trace) (length trace))
