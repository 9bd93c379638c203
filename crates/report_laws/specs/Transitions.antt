-- The checker of reports as a relation. It reads a report line by line. At each line the report so far may continue, is rejected by a law, or is accepted.
-- Nothing here parses: a line is compared with what the report's own definitions would print.
--
-- | law | at this line |
-- |---|---|
-- | client, log, server | the packet lines of the last event end, and no legal trace has them; the law names the party whose turn the event is |
-- | packet | the packet lines of the last event are complete, and another packet line follows |
-- | text | a line of the header, or the line of the next event, isn't in its one spelling |
-- | event | the next event isn't allowed, or is the 100,001st |
-- | end | a closing line is expected and another line follows, the text ends early, or it continues after the last line |
use Rattle.std.specs.Prelude.{◌≡◌, ℕ, Bool, false, ◌+◌, ◌≤◌, ◌&&◌, nat_eq, nat_le, ◌||◌, ◌⊎◌, codes, decimal, Option, Some, None, is_some, List, []}
use Rattle.std.specs.Prelude.{◌∷◌, ◌++◌, length, if◌then◌else◌}
use Rattle.std.specs.Bool.{MatchBool}
use Rattle.std.specs.List.{starts_with, slice_split}
use Rattle.std.specs.Str.{bytes_eq}
use Rattle.seq_arith.specs.declared.kinds.Grammar.{Grammar}
use Rattle.tcp_rules.specs.Profile.{grammar_of}
use Rattle.tcp_rules.specs.Profiles.{profile_of}
use Rattle.server_trait.specs.Service.{Machine}
use Rattle.ft_model.specs.Client.{Client, mover_of}
use Rattle.ft_model.specs.Grammar.{with_line}
use Rattle.ft_model.specs.Legal.{Legal, IsLegalFor, start_of, refusal}
use Rattle.ft_model.specs.Network.{Packet, packet_at}
use Rattle.ft_model.specs.Network.Packet.{To_client, To_logger}
use Rattle.ft_model.specs.Readable.{IsReadable}
use Rattle.ft_model.specs.Report.{report, header, event_line, event_lines, packet_line, packet_lines, way_of, packet_count, closing_lines}
use Rattle.ft_model.specs.Schedule.{clients_of}
use Rattle.ft_model.specs.Wire.{HasWireBy}
use Rattle.ft_model.specs.Words.{is}
use Rattle.ft_model.specs.World.{World, Moment, world_after}
use Rattle.ft_model.specs.declared.event.Event.{Event}
use Rattle.ft_model.specs.declared.event.Event.TheVariants.{Deliver, Flip}
use Rattle.ft_model.specs.declared.line.Draft.{Draft}
use Rattle.ft_model.specs.declared.line.Draft.TheVariants.{Empty, Named, Begun}
use Rattle.ft_model.specs.declared.line.Line.{Line}
use Rattle.ft_model.specs.declared.line.Line.TheVariants as says
use Rattle.ft_model.specs.declared.schedule.Schedule.{Schedule}
use Rattle.report_laws.specs.declared.Law.{Law}
use Rattle.report_laws.specs.declared.Law.TheVariants as law
use Rattle.report_laws.specs.Lines.{lines_in}
use Rattle.report_laws.specs.Canonical.{IsWithinLimits, IsCanonical}

abbrev pub clients_in : Schedule → List Client
clients_in schedule = clients_of schedule.server schedule.clients

-- the grammar in which server and log write their messages
abbrev pub grammar_in : Schedule → Grammar
grammar_in schedule = grammar_of (profile_of schedule.profile)

-- The text is the report of a legal trace of at most 200,000 packets, for a schedule within the limits.
pub record IsReport {State : Type 0} (service : ℕ → Machine State) (text : List ℕ) : Type 0 where
  pub schedule : Schedule
  pub trace : List Moment
  pub within : IsWithinLimits schedule
  pub legal : Legal service schedule trace
  pub packets : packet_count trace ≤ 200000
  pub text_is : text ≡ report schedule trace

-- how far a report is read
pub data Position : Type 0 where
  AtStart : Position  -- no line is read
  InHeader : Draft → Position  -- lines of the header are read, which spell this draft
  InTurn : Schedule → List Moment → Event → List Packet → Position  -- a schedule's legal trace is read, then the line of an event, and these packets of it
  InClosing : List (List ℕ) → Position  -- all is read but these closing lines

-- the effect of the next line on the verdict. The end of the text counts as a line
pub data Step : Type 0 where
  Continues : Position → Step
  Rejects : Law → Step
  Accepts : Step

-- if something with this property exists, its outcome; otherwise the other outcome
abbrev pub IfExists : {A : Type 0} → (A → Type 0) → (A → Type 0) → Type 0 → Type 0
IfExists {A} Is Outcome otherwise = ((a : A) × Is a × Outcome a) ⊎ (((a : A) → Is a → ⊥) × otherwise)

-- the line of event n: its number, and the canonical line by which a schedule asks for it
pub record IsEventLine (schedule : Schedule) (n : ℕ) (event : Event) (text : List ℕ) : Type 0 where
  pub asked : List ℕ
  pub spelled : text ≡ codes "event " ++ (decimal n ++ 32 ∷ asked)
  pub canonical : IsCanonical (Begun schedule) (says.Event event) asked

-- the line of packet n, between the server and a client of the schedule, or between the server and the logger
pub record IsPacketLine (schedule : Schedule) (n : ℕ) (packet : Packet) (text : List ℕ) : Type 0 where
  pub readable : IsReadable schedule.server (clients_in schedule) packet
  pub written : HasWireBy (grammar_in schedule) packet
  pub number : n ≤ 200000
  pub spelled : text ≡ packet_line n (way_of (clients_in schedule) packet) packet

-- the law of the party that receives a packet
abbrev pub receiver : Option Packet → Law
receiver (Some (To_client segment)) = law.Client
receiver (Some (To_logger message)) = law.Log
receiver _ = law.Server

-- .. of the party whose turn an event is: a moving client, or the receiver of a packet; every other event is the server's
abbrev pub actor : World → Event → Law
actor w (Deliver number) = receiver (packet_at w.packets number)
actor w (Flip number bit) = receiver (packet_at w.packets number)
actor w event = if is_some (mover_of event) then law.Client else law.Server

abbrev pub begins_with : List ℕ → List ℕ → Bool
begins_with word text = starts_with nat_eq text word

-- the effect of a line if these closing lines remain
abbrev pub ClosingLine : List (List ℕ) → Option (List ℕ) → Step → Type 0
ClosingLine [] None step = step ≡ Accepts
ClosingLine (due ∷ more) (Some text) step = MatchBool (bytes_eq text due) (step ≡ Continues (InClosing more)) (step ≡ Rejects law.End)
ClosingLine _ _ step = step ≡ Rejects law.End

-- the effect of a line that begins with `event `, where the next event may follow
abbrev pub EventLine : Schedule → List Moment → List ℕ → Step → Type 0
EventLine schedule trace text step =
    IfExists (λ event. IsEventLine schedule (length trace + 1) event text)
    (λ event. MatchBool (is_some (refusal (world_after (start_of schedule) trace) event) || nat_le 100000 (length trace)) (step ≡ Rejects law.Event)
    (step ≡ Continues (InTurn (record schedule { events = schedule.events ++ event ∷ [] }) trace event [])))
    (step ≡ Rejects law.Text)

-- the lines that close the report of a trace
abbrev pub closing_of : Schedule → List Moment → List (List ℕ)
closing_of schedule trace = lines_in (closing_lines (world_after (start_of schedule) trace) (length trace))

-- the effect of a line after the header and the turns of a legal trace
abbrev pub AfterTurn : Schedule → List Moment → Option (List ℕ) → Step → Type 0
AfterTurn schedule trace (Some text) step =
    MatchBool (begins_with (codes "packet ") text && nat_le 1 (length trace)) (step ≡ Rejects law.Packet)
    (MatchBool (begins_with (codes "event ") text) (EventLine schedule trace text step) (ClosingLine (closing_of schedule trace) (Some text) step))
AfterTurn schedule trace None step = ClosingLine (closing_of schedule trace) None step

-- a line of the header after the server's names the profile or a client
abbrev pub SaysMore : Line → Type 0
SaysMore (says.Profile profile) = Unit {0}
SaysMore (says.Client client) = Unit {0}
SaysMore _ = ⊥

-- The effect of a line of the header: the service's, the server's, then the profile's or the next client's
abbrev pub HeaderLine : Draft → List ℕ → Step → Type 0
HeaderLine Empty text step =
    IfExists (λ kind. IsCanonical Empty (says.Service kind) text) (λ kind. step ≡ Continues (InHeader (Named kind))) (step ≡ Rejects law.Text)
HeaderLine (Named kind) text step =
    IfExists (λ at. IsCanonical (Named kind) (says.Server at) text) (λ at. step ≡ Continues (InHeader (with_line (Named kind) (says.Server at)))) (step
    ≡ Rejects law.Text)
HeaderLine (Begun schedule) text step =
    IfExists (λ l. SaysMore l × IsCanonical (Begun schedule) l text) (λ l. step ≡ Continues (InHeader (with_line (Begun schedule) l))) (step ≡ Rejects law.Text)

-- the words of a line, each before a space or the line feed
abbrev pub pieces : List ℕ → List (List ℕ)
pieces text = slice_split (λ c. is 32 c || is 10 c) text

-- After the server's line, a line belongs to the header if it is one for the next client, or has the word `profile`. Schedules with the words `twin`,
-- `marks` and `lasting` aren't checked, so a line with one of these belongs to the header too, and is rejected there
abbrev pub is_lone_word : List ℕ → Bool
is_lone_word word = bytes_eq word (codes "profile") || bytes_eq word (codes "twin") || bytes_eq word (codes "marks") || bytes_eq word (codes "lasting")

abbrev pub is_header_line : Schedule → List (List ℕ) → Bool
is_header_line schedule [] = false
is_header_line schedule (first ∷ []) = is_lone_word first
is_header_line schedule (first ∷ second ∷ more) =
    is_lone_word first || bytes_eq first (codes "client") && bytes_eq second (decimal (length schedule.clients + 1))

-- The effect of a line at a position.
abbrev pub LineGives : {State : Type 0} → (ℕ → Machine State) → Position → Option (List ℕ) → Step → Type 0
LineGives service AtStart None step = step ≡ Rejects law.End
LineGives service AtStart (Some text) step = MatchBool (bytes_eq text (codes "ftreplay 1\n")) (step ≡ Continues (InHeader Empty)) (step ≡ Rejects law.Text)
LineGives service (InHeader (Begun schedule)) (Some text) step =
    MatchBool (is_header_line schedule (pieces text)) (HeaderLine (Begun schedule) text step) (AfterTurn schedule [] (Some text) step)
LineGives service (InHeader (Begun schedule)) None step = AfterTurn schedule [] None step
LineGives service (InHeader draft) None step = step ≡ Rejects law.End
LineGives service (InHeader draft) (Some text) step = HeaderLine draft text step
-- a packet line continues the turn; any other line ends it, and then the packets are judged together
LineGives service (InTurn schedule trace event sent) text step =
    IfExists (λ packet. (line : List ℕ) × (text ≡ Some line) × IsPacketLine schedule (packet_count trace + length sent + 1) packet line)
    (λ packet. step ≡ Continues (InTurn schedule trace event (sent ++ packet ∷ [])))
    (IfExists (λ w. IsLegalFor service schedule schedule.events (record { event = event; sent = sent; world = w } ∷ trace))
    (λ w. AfterTurn schedule (record { event = event; sent = sent; world = w } ∷ trace) text step)
    (step ≡ Rejects (actor (world_after (start_of schedule) trace) event)))
LineGives service (InClosing due) text step = ClosingLine due text step

-- the report up to the last turn of a trace
abbrev pub report_so_far : Schedule → List Moment → List ℕ
report_so_far schedule trace = header schedule ++ event_lines (clients_in schedule) trace

-- the lines of an event and of its packets
abbrev pub turn_so_far : Schedule → List Moment → Event → List Packet → List ℕ
turn_so_far schedule trace event sent = event_line (length trace + 1) event ++ packet_lines (clients_in schedule) (packet_count trace + 1) sent

abbrev pub report_with_turn : Schedule → List Moment → Event → List Packet → List ℕ
report_with_turn schedule trace event sent = report_so_far schedule trace ++ turn_so_far schedule trace event sent
