-- A text that is accepted is the report of a legal trace.
use Rattle.std.proofs.Common.{◌≡◌, ℕ, ◌+◌, ◌-◌, ◌≤◌, ◌<◌, Bool, true, false, ◌&&◌, ◌||◌, nat_le, MatchBool, is_some, inl, inr, refl, sym, ap, ap₂, ◌∙◌, subst, arith, Option, Some, None, Ok, List, [], ◌∷◌, ◌++◌, codes, length, length-append, take, append_assoc, append-nil}
use Rattle.std.specs.List.{concat}
use Rattle.std.specs.Str.{bytes_eq}
use Rattle.std.proofs.lemmas.Bool.{leb-false}
use Rattle.std.proofs.lemmas.Slice.Eq.{bytes_eq-Decides}
use Rattle.ft_io.proofs.Booleans.{right_false}
use Rattle.ft_io.specs.declared.Addr.{Addr}
use Rattle.server_trait.specs.Service.{Machine}
use Rattle.tcp_rules.specs.declared.profile.Profile.TheVariants.{Plain, Wan}
use Rattle.ft_model.specs.Client.{Client}
use Rattle.ft_model.specs.Legal.{Legal, start_of, refusal}
use Rattle.ft_model.specs.Network.{Packet}
use Rattle.ft_model.specs.Report.{header, profile_line, twin_line, marks_line, lasting_line, schedule_line, schedule_lines, event_line, event_lines, packet_line, packet_lines, packet_count, way_of, closing_lines}
use Rattle.ft_model.specs.Grammar.{read_text, with_line}
use Rattle.ft_model.specs.World.{World, Moment, IsStart, world_after}
use Rattle.ft_model.specs.declared.event.Event.{Event}
use Rattle.ft_model.specs.declared.line.Draft.{Draft}
use Rattle.ft_model.specs.declared.line.Draft.TheVariants.{Empty, Named, Begun}
use Rattle.ft_model.specs.declared.line.Line.TheVariants as says
use Rattle.ft_model.specs.declared.schedule.ClientLine.{ClientLine}
use Rattle.ft_model.specs.declared.schedule.Schedule.{Schedule}
use Rattle.ft_model.specs.declared.schedule.ServiceKind.{ServiceKind}
use Rattle.report_laws.specs.declared.Law.{Law}
use Rattle.report_laws.specs.declared.Law.TheVariants as law
use Rattle.report_laws.specs.Lines.{lines_in}
use Rattle.report_laws.specs.Canonical.{IsCanonical, Follows, ClientsAccepted, EventsAccepted, HeaderAccepted, IsWithinLimits, profiled, canonical_line, schedule_bytes}
use Rattle.report_laws.specs.Transitions.{Position, LineGives, HeaderLine, ClosingLine, AfterTurn, EventLine, IsReport, clients_in, report_so_far, turn_so_far, begins_with, actor, is_header_line, pieces}
use Rattle.report_laws.specs.Transitions.Position.{AtStart, InHeader, InTurn, InClosing}
use Rattle.report_laws.specs.Transitions.Step.{Continues, Rejects, Accepts}
use Rattle.report_laws.specs.Verdict.{AcceptedFrom}
use Rattle.report_laws.proofs.Rejection.{kind_of, position_in}
use Rattle.report_laws.proofs.EventLines.{event_is_spelled}
use Rattle.report_laws.proofs.LineLemmas.{lines_join, events_count}
use Rattle.report_laws.proofs.ProfileLines.{IsNaming, profile_stands, profile_text, profile_accepted}
use Rattle.report_laws.proofs.ReadLines.{own_text_read}
use Rattle.ft_model.proofs.PlayableLemmas.{playable, starts}

abbrev pub name_line : List ℕ
name_line = codes "ftreplay 1\n"

-- what is known of the lines read so far, which make up the text
abbrev Holds : {State : Type 0} → (ℕ → Machine State) → Position → List ℕ → Type 0
Holds service AtStart text = text ≡ []
Holds service (InHeader Empty) text = text ≡ name_line
Holds service (InHeader (Named kind)) text = (text ≡ name_line ++ canonical_line Empty (says.Service kind)) × Follows Empty (says.Service kind)
Holds service (InHeader (Begun schedule)) text = (text ≡ header schedule) × HeaderAccepted schedule × (schedule.events ≡ [])
Holds service (InTurn schedule trace event sent) text =
    (text ≡ report_so_far schedule trace ++ turn_so_far schedule trace event sent) × IsWithinLimits schedule × (packet_count trace + length sent ≤ 200000)
Holds service (InClosing due) text = IsReport service (text ++ concat due)

-- a choice by a test, undone
tested : (b : Bool) (A B P : Type 0) → (b ≡ true → A → P) → (b ≡ false → B → P) → MatchBool b A B → P
tested true A B P one other x = one refl x
tested false A B P one other x = other refl x

on_fails : {P : Type 0} (next : Position) (a : Law) → Continues next ≡ Rejects a → P
on_fails next a e = let f : 0 ≡ 1 = ap kind_of e in absurd (omega (arith, f))

on_ends : {P : Type 0} (next : Position) → Continues next ≡ Accepts → P
on_ends next e = let f : 0 ≡ 2 = ap kind_of e in absurd (omega (arith, f))

ends_fails : {P : Type 0} (a : Law) → Accepts ≡ Rejects a → P
ends_fails a e = let f : 2 ≡ 1 = ap kind_of e in absurd (omega (arith, f))

on_same : (a b : Position) → Continues a ≡ Continues b → a ≡ b
on_same a b e = ap (λ s. position_in s a) e

-- the header doesn't depend on the events
pub begun : (schedule : Schedule) (trace : List Moment) (line text : List ℕ) (event : Event) → text ≡ report_so_far schedule trace → line ≡ event_line (length trace + 1) event
    → text ++ line ≡ report_so_far (record schedule { events = schedule.events ++ event ∷ [] }) trace ++ turn_so_far (record schedule { events = schedule.events ++ event ∷ [] }) trace event []
unfolding header
begun schedule trace line text event is spelled = ap₂ ◌++◌ is (spelled ∙ sym (append-nil (event_line (length trace + 1) event)))

-- one more packet line
pub lines_more : (clients : List Client) (n : ℕ) (sent : List Packet) (packet : Packet)
    → packet_lines clients n (sent ++ packet ∷ []) ≡ packet_lines clients n sent ++ packet_line (n + length sent) (way_of clients packet) packet
lines_more clients n [] packet =
    let same : n ≡ n + 0 = omega arith in
    append-nil (packet_line n (way_of clients packet) packet) ∙ ap (λ k. packet_line k (way_of clients packet) packet) same
lines_more clients n (p ∷ sent) packet =
    let first : List ℕ = packet_line n (way_of clients p) p in
    let number : (n + 1) + length sent ≡ n + length (p ∷ sent) = omega arith in
    ap (λ l. first ++ l) (lines_more clients (n + 1) sent packet ∙ ap (λ k. packet_lines clients (n + 1) sent ++ packet_line k (way_of clients packet) packet) number)
    ∙ sym (append_assoc first (packet_lines clients (n + 1) sent) (packet_line (n + length (p ∷ sent)) (way_of clients packet) packet))

pub more_sent : (schedule : Schedule) (trace : List Moment) (event : Event) (sent : List Packet) (packet : Packet) (line text : List ℕ)
    → text ≡ report_so_far schedule trace ++ turn_so_far schedule trace event sent → line ≡ packet_line (packet_count trace + length sent + 1) (way_of (clients_in schedule) packet) packet
    → text ++ line ≡ report_so_far schedule trace ++ turn_so_far schedule trace event (sent ++ packet ∷ [])
more_sent schedule trace event sent packet line text is spelled =
    let cs : List Client = clients_in schedule in
    let e : List ℕ = event_line (length trace + 1) event in
    let ps : List ℕ = packet_lines cs (packet_count trace + 1) sent in
    let number : packet_count trace + length sent + 1 ≡ (packet_count trace + 1) + length sent = omega arith in
    let last : line ≡ packet_line ((packet_count trace + 1) + length sent) (way_of cs packet) packet = spelled ∙ ap (λ k. packet_line k (way_of cs packet) packet) number in
    ap₂ ◌++◌ is last ∙ (append_assoc (report_so_far schedule trace) (e ++ ps) _
    ∙ ap (λ l. report_so_far schedule trace ++ l) (append_assoc e ps _ ∙ ap (λ l. e ++ l) (sym (lines_more cs (packet_count trace + 1) sent packet))))

-- a whole turn's lines are the trace's
pub whole_turn : (schedule : Schedule) (trace : List Moment) (event : Event) (sent : List Packet) (w : World) (text : List ℕ)
    → text ≡ report_so_far schedule trace ++ turn_so_far schedule trace event sent → text ≡ report_so_far schedule (record { event = event; sent = sent; world = w } ∷ trace)
whole_turn schedule trace event sent w text is = is ∙ append_assoc (header schedule) (event_lines (clients_in schedule) trace) (turn_so_far schedule trace event sent)

-- one more event, accepted after the others
pub event_accepted : (s : Schedule) (events : List Event) (e : Event) → EventsAccepted s events → Follows (Begun (record s { events = s.events ++ events })) (says.Event e)
    → EventsAccepted s (events ++ e ∷ [])
event_accepted s [] e h last = (subst (λ es. Follows (Begun (record s { events = es })) (says.Event e)) (append-nil s.events) last, tt)
event_accepted s (x ∷ events) e h last =
    (h.0, event_accepted (record s { events = s.events ++ x ∷ [] }) events e h.1 (subst (λ es. Follows (Begun (record s { events = es })) (says.Event e)) (sym (append_assoc s.events (x ∷ []) events)) last))

-- .. and one more client
client_accepted : (s : Schedule) (clients : List ClientLine) (c : ClientLine) → ClientsAccepted s clients → Follows (Begun (record s { clients = s.clients ++ clients })) (says.Client c)
    → ClientsAccepted s (clients ++ c ∷ [])
client_accepted s [] c h last = (subst (λ cs. Follows (Begun (record s { clients = cs })) (says.Client c)) (append-nil s.clients) last, tt)
client_accepted s (x ∷ clients) c h last =
    (h.0, client_accepted (record s { clients = s.clients ++ x ∷ [] }) clients c h.1 (subst (λ cs. Follows (Begun (record s { clients = cs })) (says.Client c)) (sym (append_assoc s.clients (x ∷ []) clients)) last))

pub more_accepted : (schedule : Schedule) (client : ClientLine) → HeaderAccepted schedule → schedule.events ≡ [] → Follows (Begun schedule) (says.Client client)
    → HeaderAccepted (record schedule { clients = schedule.clients ++ client ∷ [] })
more_accepted schedule client h none follows =
    let bare_too : Follows (Begun (record (profiled schedule) { clients = schedule.clients })) (says.Client client) =
    subst (λ es. Follows (Begun (record schedule { twin = false; marks = None; lasting = None; events = es })) (says.Client client)) none
    (subst (λ l. Follows (Begun (record schedule { twin = false; marks = None; lasting = l })) (says.Client client)) h.fleeting
    (subst (λ m. Follows (Begun (record schedule { twin = false; marks = m })) (says.Client client)) h.unmarked
    (subst (λ t. Follows (Begun (record schedule { twin = t })) (says.Client client)) h.one_logger follows))) in
    record {
      one_logger = h.one_logger;
      unmarked = h.unmarked;
      fleeting = h.fleeting;
      service = h.service;
      server = h.server;
      profile = h.profile;
      clients = client_accepted (profiled schedule) schedule.clients client h.clients bare_too;
    }

schedule_lines_more : (n : ℕ) (clients : List ClientLine) (c : ClientLine) → schedule_lines n (clients ++ c ∷ []) ≡ schedule_lines n clients ++ schedule_line (n + length clients) c
schedule_lines_more n [] c =
    let same : n ≡ n + 0 = omega arith in
    append-nil (schedule_line n c) ∙ ap (λ k. schedule_line k c) same
schedule_lines_more n (x ∷ clients) c =
    let number : (n + 1) + length clients ≡ n + length (x ∷ clients) = omega arith in
    ap (λ l. schedule_line n x ++ l) (schedule_lines_more (n + 1) clients c ∙ ap (λ k. schedule_lines (n + 1) clients ++ schedule_line k c) number)
    ∙ sym (append_assoc (schedule_line n x) (schedule_lines (n + 1) clients) (schedule_line (n + length (x ∷ clients)) c))

pub client_text : (schedule : Schedule) (client : ClientLine) (text line : List ℕ) → text ≡ header schedule → line ≡ schedule_line (length schedule.clients + 1) client
    → text ++ line ≡ header (record schedule { clients = schedule.clients ++ client ∷ [] })
unfolding header
client_text schedule client text line is spelled =
    let a : List ℕ = canonical_line Empty (says.Service schedule.service) in
    let b : List ℕ = canonical_line (Named schedule.service) (says.Server schedule.server) in
    let p : List ℕ = profile_line schedule.profile in
    let t : List ℕ = twin_line schedule.twin in
    let m : List ℕ = marks_line schedule.marks in
    let l : List ℕ = lasting_line schedule.lasting in
    let c : List ℕ = schedule_lines 1 schedule.clients in
    let number : length schedule.clients + 1 ≡ 1 + length schedule.clients = omega arith in
    let last : c ++ line ≡ schedule_lines 1 (schedule.clients ++ client ∷ []) =
    ap (λ x. c ++ x) (spelled ∙ ap (λ k. schedule_line k client) number) ∙ sym (schedule_lines_more 1 schedule.clients client) in
    ap (λ s. s ++ line) is
    ∙ (append_assoc name_line (a ++ (b ++ (p ++ (t ++ (m ++ (l ++ c)))))) line
    ∙ ap (λ s. name_line ++ s) (append_assoc a (b ++ (p ++ (t ++ (m ++ (l ++ c))))) line
    ∙ ap (λ s. a ++ s) (append_assoc b (p ++ (t ++ (m ++ (l ++ c)))) line
    ∙ ap (λ s. b ++ s) (append_assoc p (t ++ (m ++ (l ++ c))) line
    ∙ ap (λ s. p ++ s) (append_assoc t (m ++ (l ++ c)) line
    ∙ ap (λ s. t ++ s) (append_assoc m (l ++ c) line ∙ ap (λ s. m ++ s) (append_assoc l c line ∙ ap (λ s. l ++ s) last)))))))

pub server_text : (kind : ServiceKind) (at : Addr) (text line : List ℕ) → text ≡ name_line ++ canonical_line Empty (says.Service kind) → line ≡ canonical_line (Named kind) (says.Server at)
    → text ++ line ≡ header (record { service = kind; server = at; profile = Plain; twin = false; marks = None; lasting = None; clients = []; events = [] })
unfolding header
server_text kind at text line is spelled =
    let a : List ℕ = canonical_line Empty (says.Service kind) in
    let b : List ℕ = canonical_line (Named kind) (says.Server at) in
    ap₂ ◌++◌ is spelled ∙ (append_assoc name_line a b ∙ ap (λ s. name_line ++ (a ++ s)) (sym (append-nil b)))

module _ {State : Type 0} (service : ℕ → Machine State) where
  -- one of the closing lines
  due_on : (due : List (List ℕ)) (line text : List ℕ) (next : Position) → IsReport service (text ++ concat due) → ClosingLine due (Some line) (Continues next) → Holds service next (text ++ line)
  due_on [] line text next reported d = on_fails next law.End d
  due_on (first ∷ more) line text next reported d =
      tested (bytes_eq line first) (Continues next ≡ Continues (InClosing more)) (Continues next ≡ Rejects law.End) (Holds service next (text ++ line))
      (λ same e. let is : line ≡ first = (bytes_eq-Decides line first).0 same in
      let whole : text ++ concat (first ∷ more) ≡ (text ++ line) ++ concat more =
      sym (append_assoc text first (concat more)) ∙ ap (λ l. (text ++ l) ++ concat more) (sym is) in
      subst (λ s. Holds service s (text ++ line)) (sym (on_same next (InClosing more) e)) (subst (IsReport service) whole reported))
      (λ same e. on_fails next law.End e) d

  due_ends : (due : List (List ℕ)) (text : List ℕ) → IsReport service (text ++ concat due) → ClosingLine due None Accepts → IsReport service text
  due_ends [] text reported d = subst (IsReport service) (append-nil text) reported
  due_ends (first ∷ more) text reported d = ends_fails law.End d

  -- a legal trace's turns and its closing lines are its report
  closes : (schedule : Schedule) (trace : List Moment) (text : List ℕ) → Legal service schedule trace → IsWithinLimits schedule → packet_count trace ≤ 200000
      → text ≡ report_so_far schedule trace → IsReport service (text ++ concat (lines_in (closing_lines (world_after (start_of schedule) trace) (length trace))))
  closes schedule trace text legal within few is =
      let end : List ℕ = closing_lines (world_after (start_of schedule) trace) (length trace) in
      record {
        schedule = schedule;
        trace = trace;
        within = within;
        legal = legal;
        packets = few;
        text_is = ap₂ ◌++◌ is (lines_join end) ∙ append_assoc (header schedule) (event_lines (clients_in schedule) trace) end;
      }

  event_on : (schedule : Schedule) (trace : List Moment) (line text : List ℕ) (next : Position) → Legal service schedule trace → IsWithinLimits schedule → packet_count trace ≤ 200000
      → text ≡ report_so_far schedule trace → EventLine schedule trace line (Continues next) → Holds service next (text ++ line)
  event_on schedule trace line text next legal within few is (inr (none, e)) = on_fails next law.Text e
  event_on schedule trace line text next legal within few is (inl (event, l, e)) =
      tested (is_some (refusal (world_after (start_of schedule) trace) event) || nat_le 100000 (length trace)) (Continues next ≡ Rejects law.Event)
      (Continues next ≡ Continues (InTurn (record schedule { events = schedule.events ++ event ∷ [] }) trace event [])) (Holds service next (text ++ line))
      (λ b f. on_fails next law.Event f)
      (λ b f. let goes : Position = InTurn (record schedule { events = schedule.events ++ event ∷ [] }) trace event [] in
      let same : length schedule.events ≡ length trace = sym (ap length legal.events_are) ∙ events_count trace in
      let more : length (schedule.events ++ event ∷ []) ≡ length schedule.events + 1 = length-append schedule.events (event ∷ []) in
      let not_full : nat_le 100000 (length trace) ≡ false = right_false (is_some (refusal (world_after (start_of schedule) trace) event)) (nat_le 100000 (length trace)) b in
      let below : length trace < 100000 = leb-false 100000 (length trace) not_full in
      let canonical : Follows (Begun schedule) (says.Event event) = subst (IsCanonical (Begun schedule) (says.Event event)) l.canonical.spelled l.canonical in
      let later : IsWithinLimits (record schedule { events = schedule.events ++ event ∷ [] }) = record {
        header = record { one_logger = within.header.one_logger; unmarked = within.header.unmarked; fleeting = within.header.fleeting; service = within.header.service; server = within.header.server; profile = within.header.profile; clients = within.header.clients };
        events = event_accepted (record schedule { events = [] }) schedule.events event within.events canonical;
        few = omega (arith, more, same, below);
      } in
      let count : packet_count trace + length {A = Packet} [] ≤ 200000 = omega (arith, few) in
      subst (λ s. Holds service s (text ++ line)) (sym (on_same next goes f))
      (begun schedule trace line text event is (event_is_spelled event (length trace + 1) line schedule l), later, count))
      e

  behind_on : (schedule : Schedule) (trace : List Moment) (line text : List ℕ) (next : Position) → Legal service schedule trace → IsWithinLimits schedule → packet_count trace ≤ 200000
      → text ≡ report_so_far schedule trace → AfterTurn schedule trace (Some line) (Continues next) → Holds service next (text ++ line)
  behind_on schedule trace line text next legal within few is b =
      let due : List (List ℕ) = lines_in (closing_lines (world_after (start_of schedule) trace) (length trace)) in
      let Goal : Type 0 = Holds service next (text ++ line) in
      tested (begins_with (codes "packet ") line && nat_le 1 (length trace)) (Continues next ≡ Rejects law.Packet)
      (MatchBool (begins_with (codes "event ") line) (EventLine schedule trace line (Continues next)) (ClosingLine due (Some line) (Continues next))) Goal
      (λ e f. on_fails next law.Packet f)
      (λ e f. tested (begins_with (codes "event ") line) (EventLine schedule trace line (Continues next)) (ClosingLine due (Some line) (Continues next)) Goal
      (λ g h. event_on schedule trace line text next legal within few is h) (λ g h. due_on due line text next (closes schedule trace text legal within few is) h) f) b

  turn_on : (schedule : Schedule) (trace : List Moment) (event : Event) (sent : List Packet) (line text : List ℕ) (next : Position)
      → Holds service (InTurn schedule trace event sent) text → LineGives service (InTurn schedule trace event sent) (Some line) (Continues next) → Holds service next (text ++ line)
  turn_on schedule trace event sent line text next h (inl (packet, l, e)) =
      let there : line ≡ l.0 = ap (λ t. text_of t) l.1 in
      let number : packet_count trace + length sent + 1 ≤ 200000 = l.2.number in
      let longer : length (sent ++ packet ∷ []) ≡ length sent + 1 = length-append sent (packet ∷ []) in
      let few : packet_count trace + length (sent ++ packet ∷ []) ≤ 200000 = omega (arith, number, longer) in
      subst (λ s. Holds service s (text ++ line)) (sym (on_same next (InTurn schedule trace event (sent ++ packet ∷ [])) e))
      (more_sent schedule trace event sent packet line text h.0 (there ∙ l.2.spelled), h.1, few)
    where
      text_of : Option (List ℕ) → List ℕ
      text_of (Some t) = t
      text_of None = []
  turn_on schedule trace event sent line text next h (inr (none, inr (never, e))) = on_fails next (actor (world_after (start_of schedule) trace) event) e
  turn_on schedule trace event sent line text next h (inr (none, inl (w, legal, b))) =
      let m : Moment = record { event = event; sent = sent; world = w } in
      behind_on schedule (m ∷ trace) line text next legal h.1 h.2 (whole_turn schedule trace event sent w text h.0) b

  turn_ends : (schedule : Schedule) (trace : List Moment) (event : Event) (sent : List Packet) (text : List ℕ)
      → Holds service (InTurn schedule trace event sent) text → LineGives service (InTurn schedule trace event sent) None Accepts → IsReport service text
  turn_ends schedule trace event sent text h (inl (packet, l, e)) = on_ends (InTurn schedule trace event (sent ++ packet ∷ [])) (sym e)
  turn_ends schedule trace event sent text h (inr (none, inr (never, e))) = ends_fails (actor (world_after (start_of schedule) trace) event) e
  turn_ends schedule trace event sent text h (inr (none, inl (w, legal, b))) =
      let m : Moment = record { event = event; sent = sent; world = w } in
      due_ends (lines_in (closing_lines (world_after (start_of schedule) (m ∷ trace)) (length (m ∷ trace)))) text
      (closes schedule (m ∷ trace) text legal h.1 h.2 (whole_turn schedule trace event sent w text h.0)) b

  -- a header is followed by the turns of no events
  nothing_played : (schedule : Schedule) (text : List ℕ) → text ≡ header schedule → HeaderAccepted schedule → schedule.events ≡ []
      → IsWithinLimits schedule × Legal service schedule [] × (text ≡ report_so_far schedule [])
  nothing_played schedule text is accepted none =
      let within : IsWithinLimits schedule = record {
        header = accepted;
        events = subst (EventsAccepted (record schedule { events = [] })) (sym none) tt;
        few = subst (λ es. length es ≤ 100000) (sym none) (omega arith);
      } in
      let read : read_text (take (length (schedule_bytes (Begun schedule)) - 1) (schedule_bytes (Begun schedule))) ≡ Ok schedule = own_text_read schedule within in
      let start : IsStart (start_of schedule) = starts schedule (playable (take (length (schedule_bytes (Begun schedule)) - 1) (schedule_bytes (Begun schedule))) schedule read) accepted.fleeting in
      (within, record { joint = start; events_are = sym none; allowed = tt }, is ∙ sym (append-nil (header schedule)))

  header_on : (draft : Draft) (line text : List ℕ) (next : Position) → Holds service (InHeader draft) text → LineGives service (InHeader draft) (Some line) (Continues next) → Holds service next (text ++ line)
  header_on Empty line text next h (inr (none, e)) = on_fails next law.Text e
  header_on Empty line text next h (inl (kind, l, e)) =
      subst (λ s. Holds service s (text ++ line)) (sym (on_same next (InHeader (Named kind)) e)) (ap₂ ◌++◌ h l.spelled, subst (IsCanonical Empty (says.Service kind)) l.spelled l)
  header_on (Named kind) line text next h (inr (none, e)) = on_fails next law.Text e
  header_on (Named kind) line text next h (inl (at, l, e)) =
      let follows : Follows (Named kind) (says.Server at) = subst (IsCanonical (Named kind) (says.Server at)) l.spelled l in
      let accepted : HeaderAccepted (record { service = kind; server = at; profile = Plain; twin = false; marks = None; lasting = None; clients = []; events = [] }) =
      record { one_logger = refl; unmarked = refl; fleeting = refl; service = h.1; server = follows; profile = tt; clients = tt } in
      subst (λ s. Holds service s (text ++ line)) (sym (on_same next (InHeader (with_line (Named kind) (says.Server at))) e))
      (server_text kind at text line h.0 l.spelled, accepted, refl)
  header_on (Begun schedule) line text next h b =
      tested (is_header_line schedule (pieces line)) (HeaderLine (Begun schedule) line (Continues next)) (AfterTurn schedule [] (Some line) (Continues next)) (Holds service next (text ++ line))
      (λ t c. more_on c)
      (λ t c. let played : IsWithinLimits schedule × Legal service schedule [] × (text ≡ report_so_far schedule []) = nothing_played schedule text h.0 h.1 h.2 in
      let none : packet_count [] ≤ 200000 = omega arith in
      behind_on schedule [] line text next played.1 played.0 none played.2 c) b
    where
      more_on : HeaderLine (Begun schedule) line (Continues next) → Holds service next (text ++ line)
      more_on (inr (none, e)) = on_fails next law.Text e
      more_on (inl (says.Service kind, l, e)) = absurd l.0
      more_on (inl (says.Server at, l, e)) = absurd l.0
      more_on (inl (says.Twin, l, e)) = absurd l.0
      more_on (inl (says.Marks every, l, e)) = absurd l.0
      more_on (inl (says.Lasting waits, l, e)) = absurd l.0
      more_on (inl (says.Event x, l, e)) = absurd l.0
      more_on (inl (says.Client client, l, e)) =
          let follows : Follows (Begun schedule) (says.Client client) = subst (IsCanonical (Begun schedule) (says.Client client)) l.1.spelled l.1 in
          subst (λ s. Holds service s (text ++ line)) (sym (on_same next (InHeader (with_line (Begun schedule) (says.Client client))) e))
          (client_text schedule client text line h.0 l.1.spelled, more_accepted schedule client h.1 h.2 follows, h.2)
      more_on (inl (says.Profile profile, l, e)) =
          let naming : IsNaming schedule profile = profile_stands schedule (take (length line - 1) line) profile l.1.accepted in
          let wide : IsNaming schedule Wan = record { named = refl; unnamed = naming.unnamed; alone = naming.alone } in
          let c : IsCanonical (Begun schedule) (says.Profile Wan) line = subst (λ p. IsCanonical (Begun schedule) (says.Profile p) line) naming.named l.1 in
          let follows : Follows (Begun schedule) (says.Profile Wan) = subst (IsCanonical (Begun schedule) (says.Profile Wan)) c.spelled c in
          let goes : Continues next ≡ Continues (InHeader (Begun (record schedule { profile = Wan }))) =
          e ∙ ap (λ p. Continues (InHeader (Begun (record schedule { profile = p })))) naming.named in
          subst (λ s. Holds service s (text ++ line)) (sym (on_same next (InHeader (Begun (record schedule { profile = Wan }))) goes))
          (profile_text schedule text line wide h.1.one_logger h.1.unmarked h.1.fleeting h.0 c.spelled, profile_accepted schedule h.1 wide h.2 follows, h.2)

  header_ends : (draft : Draft) (text : List ℕ) → Holds service (InHeader draft) text → LineGives service (InHeader draft) None Accepts → IsReport service text
  header_ends Empty text h e = ends_fails law.End e
  header_ends (Named kind) text h e = ends_fails law.End e
  header_ends (Begun schedule) text h b =
      let played : IsWithinLimits schedule × Legal service schedule [] × (text ≡ report_so_far schedule []) = nothing_played schedule text h.0 h.1 h.2 in
      let none : packet_count [] ≤ 200000 = omega arith in
      due_ends (lines_in (closing_lines (start_of schedule) 0)) text (closes schedule [] text played.1 played.0 none played.2) b

  start_on : (line text : List ℕ) (next : Position) → text ≡ [] → LineGives service AtStart (Some line) (Continues next) → Holds service next (text ++ line)
  start_on line text next is b =
      tested (bytes_eq line name_line) (Continues next ≡ Continues (InHeader Empty)) (Continues next ≡ Rejects law.Text) (Holds service next (text ++ line))
      (λ same e. subst (λ s. Holds service s (text ++ line)) (sym (on_same next (InHeader Empty) e)) (ap (λ t. t ++ line) is ∙ (bytes_eq-Decides line name_line).0 same))
      (λ same e. on_fails next law.Text e) b

  line_on : (position : Position) (line text : List ℕ) (next : Position) → Holds service position text → LineGives service position (Some line) (Continues next) → Holds service next (text ++ line)
  line_on AtStart line text next h b = start_on line text next h b
  line_on (InHeader draft) line text next h b = header_on draft line text next h b
  line_on (InTurn schedule trace event sent) line text next h b = turn_on schedule trace event sent line text next h b
  line_on (InClosing due) line text next h b = due_on due line text next h b

  text_ends : (position : Position) (text : List ℕ) → Holds service position text → LineGives service position None Accepts → IsReport service text
  text_ends AtStart text h e = ends_fails law.End e
  text_ends (InHeader draft) text h e = header_ends draft text h e
  text_ends (InTurn schedule trace event sent) text h e = turn_ends schedule trace event sent text h e
  text_ends (InClosing due) text h e = due_ends due text h e

  -- the lines read so far and the accepted ones after them are a report
  accepted_reported : (position : Position) (lines : List (List ℕ)) (text : List ℕ) → Holds service position text → AcceptedFrom service position lines → IsReport service (text ++ concat lines)
  accepted_reported position [] text h e = subst (IsReport service) (sym (append-nil text)) (text_ends position text h e)
  accepted_reported position (line ∷ lines) text h e =
      subst (IsReport service) (append_assoc text line (concat lines)) (accepted_reported e.0 lines (text ++ line) (line_on position line text e.0 h e.1) e.2)

  pub read_reported : (text : List ℕ) → AcceptedFrom service AtStart (lines_in text) → IsReport service text
  read_reported text e = subst (IsReport service) (lines_join text) (accepted_reported AtStart (lines_in text) [] refl e)
