-- A line of a header continues it exactly where the whole header, with that line, is a schedule's.
use Rattle.std.proofs.Common.{◌≡◌, ℕ, ◌+◌, ◌-◌, ◌<◌, ◌≤◌, Bool, true, false, if◌then◌else◌, ◌⊎◌, inl, inr, Option, None, Some, Result, Ok, Err, List, [], ◌∷◌, ◌++◌, codes, take, drop, length, length-append, append_assoc, append-nil, refl, sym, ap, ap₂, ◌∙◌, subst, arith, true≢false}
use Rattle.std.specs.Prelude.{is_none, is_some, nat_le, not, ◌&&◌, MatchOption}
use Rattle.std.specs.List.{flat_map}
use Rattle.std.specs.Str.{bytes_eq}
use Rattle.std.specs.Cmp.Derive.{both_true}
use Rattle.std.proofs.lemmas.Bool.{leb-true}
use Rattle.std.proofs.lemmas.List.{append_cancel_left, take-append-drop, length-take, length-drop}
use Rattle.std.proofs.Math.Seq.{take-append-add, drop-append_seam}
use Rattle.ft_io.proofs.Booleans.{left_true, right_true, not_true}
use Rattle.tcp_rules.specs.declared.profile.Profile.{Profile}
use Rattle.tcp_rules.specs.declared.profile.Profile.TheVariants.{Plain, Wan}
use Rattle.ft_model.specs.Grammar.{◌>>=◌, Refusal, no_objection, unless_objected, keyword_of, is_misnamed, service_line, line_behind, line_of, with_line, is_full, is_passed_over, is_printable, is_too_much, after_line, at_line, read_lines, read_with, read_text}
use Rattle.ft_model.specs.Grammar.Refusal.{TooLong}
use Rattle.ft_model.specs.Report.{header, schedule_line, profile_line, twin_line, marks_line, lasting_line, schedule_lines}
use Rattle.ft_model.specs.Spelling.{service_of}
use Rattle.ft_model.specs.Texts.{service_text}
use Rattle.ft_model.specs.Words.{lines_of, words_of}
use Rattle.ft_model.specs.declared.event.Event.{Event}
use Rattle.ft_model.specs.declared.line.Draft.{Draft}
use Rattle.ft_model.specs.declared.line.Draft.TheVariants.{Empty, Named, Begun}
use Rattle.ft_model.specs.declared.line.Line.{Line}
use Rattle.ft_model.specs.declared.line.Line.TheVariants as says
use Rattle.ft_model.specs.declared.schedule.Limit.TheVariants as limit
use Rattle.ft_model.specs.declared.schedule.LineWhy.{LineWhy}
use Rattle.ft_model.specs.declared.schedule.Schedule.{Schedule}
use Rattle.ft_model.specs.declared.schedule.ServiceKind.{ServiceKind}
use Rattle.ft_model.proofs.Fetching.{chosen_is}
use Rattle.ft_model.specs.declared.schedule.ServiceKind.TheVariants as services
use Rattle.schedule_text.specs.EventLines.{asked_line}
use Rattle.report_laws.specs.declared.Law.TheVariants as law
use Rattle.report_laws.specs.Canonical.{EventsAccepted, FitsLimit, HeaderAccepted, Follows, IsCanonical, canonical_line, schedule_bytes}
use Rattle.report_laws.specs.Transitions.{SaysMore, HeaderLine}
use Rattle.report_laws.specs.Transitions.Position.{InHeader}
use Rattle.report_laws.specs.Transitions.Step.{Continues, Rejects}
use Rattle.report_laws.proofs.Accepted.{client_text, server_text}
use Rattle.report_laws.proofs.ProfileLines.{IsNaming, profile_stands, profile_text}
use Rattle.report_laws.proofs.Fronts.{HasFront, front_of, no_feed, printable_of, cut_last}
use Rattle.report_laws.proofs.ReadLines.{Reads, IsClean, joined, joined_more, all_more, more_read, within_read, lines_back, spelled_by}
use Rattle.line_check.specs.HeaderText.{IsHeaderSoFar, header_so_far, own_text, is_header_of, if_header, header_in, service_text_line, service_among, all_services, service_in}
use Rattle.line_check.proofs.Spelled.{same_bytes, bytes_same}
use Rattle.ft_model.proofs.AcceptedLemmas.{none_is}

-- what the lines so far lead the grammar to
pub service_follows : (kind : ServiceKind) → Follows Empty (says.Service kind)
unfolding line_of line_behind is_printable words_of keyword_of is_misnamed service_line service_of service_text
service_follows services.Echo = record { spelled = refl; accepted = refl; short = omega arith }
service_follows services.Line = record { spelled = refl; accepted = refl; short = omega arith }
service_follows services.Transfer = record { spelled = refl; accepted = refl; short = omega arith }
service_follows services.Meter = record { spelled = refl; accepted = refl; short = omega arith }

named_read : (kind : ServiceKind) → Reads (schedule_bytes (Named kind)) (Named kind)
named_read kind =
    let start : Reads [] Empty = record { lines = []; cut = refl; clean = tt; number = 1; reads = λ more. refl } in
    more_read [] (canonical_line Empty (says.Service kind)) Empty (says.Service kind) start (service_follows kind) refl

begun_read : (schedule : Schedule) → HeaderAccepted schedule → schedule.events ≡ [] → Reads (schedule_bytes (Begun schedule)) (Begun schedule)
begun_read schedule h none =
    let no_events : EventsAccepted (record schedule { events = [] }) schedule.events = subst (EventsAccepted (record schedule { events = [] })) (sym none) tt in
    let count : length schedule.events ≡ 0 = ap length none in
    within_read schedule (record { header = h; events = no_events; few = omega (arith, count) })

so_far_read : (draft : Draft) → IsHeaderSoFar draft → Reads (schedule_bytes draft) draft
so_far_read Empty h = absurd h
so_far_read (Named kind) h = named_read kind
so_far_read (Begun schedule) h = begun_read schedule h.0 h.1

not_full : (draft : Draft) → IsHeaderSoFar draft → is_full draft ≡ false
not_full Empty h = absurd h
not_full (Named kind) h = refl
not_full (Begun schedule) h = ap (λ events. nat_le 100000 (length {A = Event} events)) h.1

pub header_is : (schedule : Schedule) → schedule.twin ≡ false → schedule.marks ≡ None → schedule.lasting ≡ None → schedule.events ≡ [] → header schedule ≡ codes "ftreplay 1\n" ++ schedule_bytes (Begun schedule)
unfolding header
header_is schedule one unmarked fleeting none =
    let a : List ℕ = canonical_line Empty (says.Service schedule.service) in
    let b : List ℕ = canonical_line (Named schedule.service) (says.Server schedule.server) in
    let p : List ℕ = profile_line schedule.profile in
    let c : List ℕ = schedule_lines 1 schedule.clients in
    ap₂ (λ t m. codes "ftreplay 1\n" ++ (a ++ (b ++ (p ++ (twin_line t ++ (marks_line m ++ (lasting_line schedule.lasting ++ c))))))) one unmarked
    ∙ (ap (λ l. codes "ftreplay 1\n" ++ (a ++ (b ++ (p ++ (lasting_line l ++ c))))) fleeting
    ∙ ap (λ t. codes "ftreplay 1\n" ++ (a ++ (b ++ (p ++ t)))) (sym (append-nil c) ∙ ap (λ es. c ++ flat_map (λ e. asked_line e ++ 10 ∷ []) es) (sym none)))

-- without its last byte, the text behind the first line is the lines so far and the front of the last one
own_is : (bytes line : List ℕ) → own_text (codes "ftreplay 1\n" ++ (bytes ++ line)) ≡ take (length (bytes ++ line) - 1) (bytes ++ line)
own_is bytes line =
    let more : length (codes "ftreplay 1\n" ++ (bytes ++ line)) ≡ 11 + length (bytes ++ line) = length-append (codes "ftreplay 1\n") (bytes ++ line) in
    let size : length (codes "ftreplay 1\n" ++ (bytes ++ line)) - 1 - 11 ≡ length (bytes ++ line) - 1 = omega (arith, more) in
    ap₂ take size (drop-append_seam (codes "ftreplay 1\n") (bytes ++ line))

front_is : (bytes line : List ℕ) → 0 < length line → take (length (bytes ++ line) - 1) (bytes ++ line) ≡ bytes ++ take (length line - 1) line
front_is bytes line some =
    let more : length (bytes ++ line) ≡ length bytes + length line = length-append bytes line in
    let size : length (bytes ++ line) - 1 ≡ length bytes + (length line - 1) = omega (arith, more, some) in
    ap (λ k. take k (bytes ++ line)) size ∙ take-append-add bytes line (length line - 1)

-- what one line more does, by the grammar
after_reported : (n : ℕ) (draft later : Draft) (front : List ℕ) → after_line no_objection n draft front ≡ Ok later
    → (later ≡ draft) ⊎ ((l : Line) × (line_of draft front ≡ Ok l) × (later ≡ with_line draft l))
unfolding after_line
after_reported n draft later front e = by_tests (is_passed_over front) (is_too_much draft front) (line_of draft front) refl e
  where
    by_tests : (a b : Bool) (r : Result Line LineWhy) → line_of draft front ≡ r
        → (if a then Ok draft else (if b then Err (TooLong limit.Events) else at_line n (r >>= λ l. unless_objected (no_objection draft l) (with_line draft l)))) ≡ Ok later
        → (later ≡ draft) ⊎ ((l : Line) × (line_of draft front ≡ Ok l) × (later ≡ with_line draft l))
    by_tests true b r f g = let same : draft ≡ later = cc in inl (sym same)
    by_tests false true r f g = absurd (cc)
    by_tests false false (Ok l) f g = let same : with_line draft l ≡ later = cc in inr (l, f, sym same)
    by_tests false false (Err why) f g = absurd (cc)

last_reported : (n : ℕ) (draft : Draft) (front : List ℕ) (schedule : Schedule) → read_lines no_objection n draft (front ∷ []) ≡ Ok schedule
    → after_line no_objection n draft front ≡ Ok (Begun schedule)
unfolding read_lines
last_reported n draft front schedule e = by_after (after_line no_objection n draft front) refl e
  where
    by_after : (r : Result Draft Refusal) → after_line no_objection n draft front ≡ r → (r >>= λ later. read_lines no_objection (n + 1) later []) ≡ Ok schedule
        → after_line no_objection n draft front ≡ Ok (Begun schedule)
    by_after (Ok Empty) f g = absurd (cc)
    by_after (Ok (Named kind)) f g = absurd (cc)
    by_after (Ok (Begun other)) f g = let same : other ≡ schedule = cc in f ∙ ap (λ s. Ok (Begun s)) same
    by_after (Err why) f g = absurd (cc)

lines_are : (bytes front : List ℕ) (draft : Draft) (r : Reads bytes draft) → IsClean front → lines_of (bytes ++ front) ≡ r.lines ++ front ∷ []
lines_are bytes front draft r clean =
    let whole : joined (r.lines ++ front ∷ []) ≡ (bytes ++ front) ++ 10 ∷ [] =
    joined_more r.lines front ∙ (ap (λ t. t ++ (front ++ 10 ∷ [])) (sym r.cut) ∙ sym (append_assoc bytes front (10 ∷ []))) in
    ap lines_of (sym (cut_last (bytes ++ front)) ∙ ap (λ t. take (length t - 1) t) (sym whole)) ∙ lines_back (r.lines ++ front ∷ []) (all_more r.lines front r.clean clean)

-- a header that is read, and written again as it was
record IsRead (draft : Draft) (line : List ℕ) (schedule : Schedule) : Type 0 where
  number : ℕ
  after : after_line no_objection number draft (take (length line - 1) line) ≡ Ok (Begun schedule)
  short : length (schedule_bytes draft ++ take (length line - 1) line) ≤ 8388608
  one_logger : schedule.twin ≡ false
  unmarked : schedule.marks ≡ None
  fleeting : schedule.lasting ≡ None
  written : header schedule ≡ codes "ftreplay 1\n" ++ (schedule_bytes draft ++ line)

text_read : (bytes front : List ℕ) (draft : Draft) (r : Reads bytes draft) (schedule : Schedule) → IsClean front → read_text (bytes ++ front) ≡ Ok schedule
    → (length (bytes ++ front) ≤ 8388608) × (after_line no_objection r.number draft front ≡ Ok (Begun schedule))
unfolding read_with
text_read bytes front draft r schedule clean e = by_size (nat_le (length (bytes ++ front)) 8388608) refl e
  where
    by_size : (b : Bool) → nat_le (length (bytes ++ front)) 8388608 ≡ b → (if b then read_lines no_objection 1 Empty (lines_of (bytes ++ front)) else Err (TooLong limit.Text)) ≡ Ok schedule
        → (length (bytes ++ front) ≤ 8388608) × (after_line no_objection r.number draft front ≡ Ok (Begun schedule))
    by_size true f g = (
      leb-true (length (bytes ++ front)) 8388608 f,
      last_reported r.number draft front schedule (sym (r.reads (front ∷ [])) ∙ (ap (read_lines no_objection 1 Empty) (sym (lines_are bytes front draft r clean)) ∙ g)),
    )
    by_size false f g = absurd (cc)

is_read : (draft : Draft) (line : List ℕ) (schedule : Schedule) → IsHeaderSoFar draft → IsClean (take (length line - 1) line) → 0 < length line
    → header_in (codes "ftreplay 1\n" ++ (schedule_bytes draft ++ line)) ≡ Some schedule → IsRead draft line schedule
is_read draft line schedule h clean some e = by_result (read_text (own_text text)) refl e
  where
    text : List ℕ
    text = codes "ftreplay 1\n" ++ (schedule_bytes draft ++ line)

    by_result : (r : Result Schedule Refusal) → read_text (own_text text) ≡ r → if_header r text ≡ Some schedule → IsRead draft line schedule
    by_result (Err why) f g = absurd (cc)
    by_result (Ok other) f g =
        let c : (is_header_of other text ≡ true) × (other ≡ schedule) = chosen_is (is_header_of other text) other schedule g in
        let t : is_header_of schedule text ≡ true = subst (λ s. is_header_of s text ≡ true) c.1 c.0 in
        let all : (not schedule.twin && is_none schedule.marks && is_none schedule.lasting) ≡ true = left_true (not schedule.twin && is_none schedule.marks && is_none schedule.lasting) _ t in
        let plain : (not schedule.twin && is_none schedule.marks) ≡ true = left_true (not schedule.twin && is_none schedule.marks) (is_none schedule.lasting) all in
        let own : own_text text ≡ schedule_bytes draft ++ take (length line - 1) line = own_is (schedule_bytes draft) line ∙ front_is (schedule_bytes draft) line some in
        let read : read_text (schedule_bytes draft ++ take (length line - 1) line) ≡ Ok schedule = ap read_text (sym own) ∙ (f ∙ ap Ok c.1) in
        let r : Reads (schedule_bytes draft) draft = so_far_read draft h in
        let after = text_read (schedule_bytes draft) (take (length line - 1) line) draft r schedule clean read in
        record {
          number = r.number;
          after = after.1;
          short = after.0;
          one_logger = not_true schedule.twin (left_true (not schedule.twin) (is_none schedule.marks) plain);
          unmarked = none_is schedule.marks (right_true (not schedule.twin) (is_none schedule.marks) plain);
          fleeting = none_is schedule.lasting (right_true (not schedule.twin && is_none schedule.marks) (is_none schedule.lasting) all);
          written = same_bytes (header schedule) text (right_true (not schedule.twin && is_none schedule.marks && is_none schedule.lasting) _ t);
        }

-- the limit, without the last byte
fits : (bytes line all : List ℕ) → 0 < length line → length all ≡ length (bytes ++ line) → length (bytes ++ take (length line - 1) line) ≤ 8388608 → length all - 1 ≤ 8388608
fits bytes line all some same short =
    let front : length (take (length line - 1) line) ≡ length line - 1 = (let e = length-take (length line - 1) line in omega (arith, e)) in
    let a : length (bytes ++ line) ≡ length bytes + length line = length-append bytes line in
    let b : length (bytes ++ take (length line - 1) line) ≡ length bytes + length (take (length line - 1) line) = length-append bytes (take (length line - 1) line) in
    omega (arith, front, a, b, some, same, short)

-- the server's line
named_reported : (kind : ServiceKind) (line : List ℕ) (schedule : Schedule) → 0 < length line → IsRead (Named kind) line schedule
    → HeaderLine (Named kind) line (Continues (InHeader (Begun schedule)))
named_reported kind line schedule some r = by_line (after_reported r.number (Named kind) (Begun schedule) (take (length line - 1) line) r.after)
  where
    by_line : (Begun schedule ≡ Named kind) ⊎ ((l : Line) × (line_of (Named kind) (take (length line - 1) line) ≡ Ok l) × (Begun schedule ≡ with_line (Named kind) l))
        → HeaderLine (Named kind) line (Continues (InHeader (Begun schedule)))
    by_line (inl e) = absurd (cc)
    by_line (inr (says.Service other, f, e)) = absurd (cc)
    by_line (inr (says.Profile profile, f, e)) = absurd (cc)
    by_line (inr (says.Twin, f, e)) = absurd (cc)
    by_line (inr (says.Marks every, f, e)) = absurd (cc)
    by_line (inr (says.Lasting waits, f, e)) = absurd (cc)
    by_line (inr (says.Client c, f, e)) = absurd (cc)
    by_line (inr (says.Event x, f, e)) = absurd (cc)
    by_line (inr (says.Server at, f, e)) =
        let own : Schedule = record { service = kind; server = at; profile = Plain; twin = false; marks = None; lasting = None; clients = []; events = [] } in
        let same : schedule ≡ own = cc in
        let a : List ℕ = canonical_line Empty (says.Service kind) in
        let b : List ℕ = canonical_line (Named kind) (says.Server at) in
        let written : codes "ftreplay 1\n" ++ (a ++ line) ≡ codes "ftreplay 1\n" ++ (a ++ b) =
        sym r.written ∙ (ap header same ∙ (sym (server_text kind at (codes "ftreplay 1\n" ++ a) b refl refl) ∙ append_assoc (codes "ftreplay 1\n") a b)) in
        let spelled : line ≡ b = append_cancel_left a line b (append_cancel_left (codes "ftreplay 1\n") (a ++ line) (a ++ b) written) in
        let size : length (schedule_bytes (Begun own)) ≡ length (a ++ line) = ap (λ t. length (a ++ t)) (append-nil b ∙ sym spelled) in
        let canonical : IsCanonical (Named kind) (says.Server at) line = record { spelled = spelled; accepted = f; short = fits a line (schedule_bytes (Begun own)) some size r.short } in
        inl (at, canonical, ap (λ d. Continues (InHeader d)) e)

-- an event changes nothing of the header
no_events : (before : Schedule) (x : Event) → header (record before { events = before.events ++ x ∷ [] }) ≡ header before
unfolding header
no_events before x = refl

-- the line of a profile or of a client
begun_reported : (before : Schedule) (line : List ℕ) (schedule : Schedule) → HeaderAccepted before → before.events ≡ [] → 0 < length line → IsRead (Begun before) line schedule
    → HeaderLine (Begun before) line (Continues (InHeader (Begun schedule)))
begun_reported before line schedule h none some r = by_line (after_reported r.number (Begun before) (Begun schedule) (take (length line - 1) line) r.after)
  where
    bytes : List ℕ
    bytes = schedule_bytes (Begun before)

    -- no line leaves the header as it was
    no_more : header schedule ≡ header before → ⊥
    no_more e =
        let whole : codes "ftreplay 1\n" ++ (bytes ++ line) ≡ codes "ftreplay 1\n" ++ bytes = sym r.written ∙ (e ∙ header_is before h.one_logger h.unmarked h.fleeting none) in
        let same : length (bytes ++ line) ≡ length bytes = ap length (append_cancel_left (codes "ftreplay 1\n") (bytes ++ line) bytes whole) in
        let more : length (bytes ++ line) ≡ length bytes + length line = length-append bytes line in
        omega (arith, same, more, some)

    by_line : (Begun schedule ≡ Begun before) ⊎ ((l : Line) × (line_of (Begun before) (take (length line - 1) line) ≡ Ok l) × (Begun schedule ≡ with_line (Begun before) l))
        → HeaderLine (Begun before) line (Continues (InHeader (Begun schedule)))
    by_line (inl e) = let same : schedule ≡ before = cc in absurd (no_more (ap header same))
    by_line (inr (says.Service other, f, e)) = let same : schedule ≡ before = cc in absurd (no_more (ap header same))
    by_line (inr (says.Server at, f, e)) = let same : schedule ≡ before = cc in absurd (no_more (ap header same))
    by_line (inr (says.Twin, f, e)) =
        let same : schedule ≡ record before { twin = true } = cc in
        absurd (true≢false (sym (ap (λ s. s.twin) same) ∙ r.one_logger))
    by_line (inr (says.Marks every, f, e)) =
        let same : schedule ≡ record before { marks = Some every } = cc in
        absurd (true≢false (sym (ap is_none r.unmarked) ∙ ap (λ s. is_none s.marks) same))
    by_line (inr (says.Lasting waits, f, e)) =
        let same : schedule ≡ record before { lasting = Some waits } = cc in
        absurd (true≢false (sym (ap is_none r.fleeting) ∙ ap (λ s. is_none s.lasting) same))
    by_line (inr (says.Event x, f, e)) =
        let same : schedule ≡ record before { events = before.events ++ x ∷ [] } = cc in absurd (no_more (ap header same ∙ no_events before x))
    by_line (inr (says.Client c, f, e)) =
        let later : Schedule = record before { clients = before.clients ++ c ∷ [] } in
        let same : schedule ≡ later = cc in
        let b : List ℕ = schedule_line (length before.clients + 1) c in
        let written : codes "ftreplay 1\n" ++ (bytes ++ line) ≡ codes "ftreplay 1\n" ++ (bytes ++ b) =
        sym r.written ∙ (ap header same ∙ (sym (client_text before c (codes "ftreplay 1\n" ++ bytes) b (sym (header_is before h.one_logger h.unmarked h.fleeting none)) refl) ∙ append_assoc (codes "ftreplay 1\n") bytes b)) in
        let spelled : line ≡ b = append_cancel_left bytes line b (append_cancel_left (codes "ftreplay 1\n") (bytes ++ line) (bytes ++ b) written) in
        let own : codes "ftreplay 1\n" ++ schedule_bytes (Begun later) ≡ codes "ftreplay 1\n" ++ (bytes ++ line) = sym (header_is later h.one_logger h.unmarked h.fleeting none) ∙ (ap header (sym same) ∙ r.written) in
        let size : length (schedule_bytes (Begun later)) ≡ length (bytes ++ line) = ap length (append_cancel_left (codes "ftreplay 1\n") (schedule_bytes (Begun later)) (bytes ++ line) own) in
        let canonical : IsCanonical (Begun before) (says.Client c) line = record { spelled = spelled; accepted = f; short = fits bytes line (schedule_bytes (Begun later)) some size r.short } in
        inl (says.Client c, (tt, canonical), ap (λ d. Continues (InHeader d)) e)
    by_line (inr (says.Profile profile, f, e)) =
        let naming : IsNaming before profile = profile_stands before (take (length line - 1) line) profile f in
        let wide : IsNaming before Wan = record { named = refl; unnamed = naming.unnamed; alone = naming.alone } in
        let later : Schedule = record before { profile = Wan } in
        let said : schedule ≡ record before { profile = profile } = cc in
        let same : schedule ≡ later = said ∙ ap (λ p. let s : Schedule = record before { profile = p } in s) naming.named in
        let b : List ℕ = profile_line Wan in
        let written : codes "ftreplay 1\n" ++ (bytes ++ line) ≡ codes "ftreplay 1\n" ++ (bytes ++ b) =
        sym r.written ∙ (ap header same ∙ (sym (profile_text before (codes "ftreplay 1\n" ++ bytes) b wide h.one_logger h.unmarked h.fleeting (sym (header_is before h.one_logger h.unmarked h.fleeting none)) refl)
        ∙ append_assoc (codes "ftreplay 1\n") bytes b)) in
        let spelled : line ≡ b = append_cancel_left bytes line b (append_cancel_left (codes "ftreplay 1\n") (bytes ++ line) (bytes ++ b) written) in
        let own : codes "ftreplay 1\n" ++ schedule_bytes (Begun later) ≡ codes "ftreplay 1\n" ++ (bytes ++ line) = sym (header_is later h.one_logger h.unmarked h.fleeting none) ∙ (ap header (sym same) ∙ r.written) in
        let size : length (schedule_bytes (Begun later)) ≡ length (bytes ++ line) = ap length (append_cancel_left (codes "ftreplay 1\n") (schedule_bytes (Begun later)) (bytes ++ line) own) in
        let accepted : line_of (Begun before) (take (length line - 1) line) ≡ Ok (says.Profile Wan) = f ∙ ap (λ p. Ok (says.Profile p)) naming.named in
        let canonical : IsCanonical (Begun before) (says.Profile Wan) line = record { spelled = spelled; accepted = accepted; short = fits bytes line (schedule_bytes (Begun later)) some size r.short } in
        inl (says.Profile Wan, (tt, canonical), ap (λ s. Continues (InHeader (Begun s))) same)

line_reported : (draft : Draft) (line : List ℕ) (schedule : Schedule) → IsHeaderSoFar draft → 0 < length line → IsRead draft line schedule
    → HeaderLine draft line (Continues (InHeader (Begun schedule)))
line_reported Empty line schedule h some r = absurd h
line_reported (Named kind) line schedule h some r = named_reported kind line schedule some r
line_reported (Begun before) line schedule h some r = begun_reported before line schedule h.0 h.1 some r

-- the lines that may follow
abbrev IsNext : Draft → Line → Type 0
IsNext (Named kind) (says.Server at) = Unit {0}
IsNext (Begun schedule) l = SaysMore l
IsNext _ _ = ⊥

no_line : (draft : Draft) (line : List ℕ) → IsHeaderSoFar draft → ((l : Line) → IsNext draft l → IsCanonical draft l line → ⊥) → HeaderLine draft line (Rejects law.Text)
no_line Empty line h never = absurd h
no_line (Named kind) line h never = inr ((λ at c. never (says.Server at) tt c), refl)
no_line (Begun schedule) line h never = inr ((λ l c. never l c.0 c.1), refl)

-- a line that may follow is read with the header before it
whole_read : (bytes line : List ℕ) (draft : Draft) (l : Line) (schedule : Schedule) → Reads bytes draft → is_full draft ≡ false → IsCanonical draft l line
    → with_line draft l ≡ Begun schedule → schedule.twin ≡ false → schedule.marks ≡ None → schedule.lasting ≡ None → schedule.events ≡ [] → header schedule ≡ codes "ftreplay 1\n" ++ (bytes ++ line)
    → header_in (codes "ftreplay 1\n" ++ (bytes ++ line)) ≡ Some schedule
whole_read bytes line draft l schedule r full c e one unmarked fleeting none written =
    let text : List ℕ = codes "ftreplay 1\n" ++ (bytes ++ line) in
    let reads : Reads (bytes ++ line) (Begun schedule) = subst (Reads (bytes ++ line)) e (more_read bytes line draft l r c full) in
    let same : schedule_bytes (Begun schedule) ≡ bytes ++ line = append_cancel_left (codes "ftreplay 1\n") (schedule_bytes (Begun schedule)) (bytes ++ line) (sym (header_is schedule one unmarked fleeting none) ∙ written) in
    let short : length (schedule_bytes (Begun schedule)) - 1 ≤ 8388608 = subst FitsLimit e c.short in
    let few : length (bytes ++ line) - 1 ≤ 8388608 = subst (λ t. length t - 1 ≤ 8388608) same short in
    let read : read_text (own_text text) ≡ Ok schedule = ap read_text (own_is bytes line) ∙ spelled_by (bytes ++ line) schedule reads few in
    let test : is_header_of schedule text ≡ true = both_true (both_true (both_true (ap not one) (ap is_none unmarked)) (ap is_none fleeting)) (ap (λ t. bytes_eq t text) written ∙ bytes_same text) in
    ap (λ r. if_header r text) read ∙ ap (λ b. if b then Some schedule else None) test

some_schedule : (draft : Draft) (line : List ℕ) (l : Line) → IsHeaderSoFar draft → IsNext draft l → IsCanonical draft l line
    → is_some (header_in (codes "ftreplay 1\n" ++ (schedule_bytes draft ++ line))) ≡ true
some_schedule Empty line l h n c = absurd h
some_schedule (Named kind) line (says.Service other) h n c = absurd n
some_schedule (Named kind) line (says.Profile profile) h n c = absurd n
some_schedule (Named kind) line says.Twin h n c = absurd n
some_schedule (Named kind) line (says.Marks every) h n c = absurd n
some_schedule (Named kind) line (says.Lasting waits) h n c = absurd n
some_schedule (Named kind) line (says.Client client) h n c = absurd n
some_schedule (Named kind) line (says.Event x) h n c = absurd n
some_schedule (Named kind) line (says.Server at) h n c =
    let own : Schedule = record { service = kind; server = at; profile = Plain; twin = false; marks = None; lasting = None; clients = []; events = [] } in
    let a : List ℕ = canonical_line Empty (says.Service kind) in
    let written : header own ≡ codes "ftreplay 1\n" ++ (a ++ line) = sym (server_text kind at (codes "ftreplay 1\n" ++ a) line refl c.spelled) ∙ append_assoc (codes "ftreplay 1\n") a line in
    ap is_some (whole_read a line (Named kind) (says.Server at) own (named_read kind) refl c refl refl refl refl refl written)
some_schedule (Begun before) line (says.Service other) h n c = absurd n
some_schedule (Begun before) line (says.Server at) h n c = absurd n
some_schedule (Begun before) line says.Twin h n c = absurd n
some_schedule (Begun before) line (says.Marks every) h n c = absurd n
some_schedule (Begun before) line (says.Lasting waits) h n c = absurd n
some_schedule (Begun before) line (says.Event x) h n c = absurd n
some_schedule (Begun before) line (says.Client client) h n c =
    let later : Schedule = record before { clients = before.clients ++ client ∷ [] } in
    let bytes : List ℕ = schedule_bytes (Begun before) in
    let written : header later ≡ codes "ftreplay 1\n" ++ (bytes ++ line) =
    sym (client_text before client (codes "ftreplay 1\n" ++ bytes) line (sym (header_is before h.0.one_logger h.0.unmarked h.0.fleeting h.1)) c.spelled) ∙ append_assoc (codes "ftreplay 1\n") bytes line in
    ap is_some (whole_read bytes line (Begun before) (says.Client client) later (begun_read before h.0 h.1) (not_full (Begun before) h) c refl h.0.one_logger h.0.unmarked h.0.fleeting h.1 written)
some_schedule (Begun before) line (says.Profile profile) h n c =
    let naming : IsNaming before profile = profile_stands before (take (length line - 1) line) profile c.accepted in
    let wide : IsNaming before Wan = record { named = refl; unnamed = naming.unnamed; alone = naming.alone } in
    let named : IsCanonical (Begun before) (says.Profile Wan) line = subst (λ p. IsCanonical (Begun before) (says.Profile p) line) naming.named c in
    let later : Schedule = record before { profile = Wan } in
    let bytes : List ℕ = schedule_bytes (Begun before) in
    let written : header later ≡ codes "ftreplay 1\n" ++ (bytes ++ line) =
    sym (profile_text before (codes "ftreplay 1\n" ++ bytes) line wide h.0.one_logger h.0.unmarked h.0.fleeting (sym (header_is before h.0.one_logger h.0.unmarked h.0.fleeting h.1)) named.spelled)
    ∙ append_assoc (codes "ftreplay 1\n") bytes line in
    ap is_some (whole_read bytes line (Begun before) (says.Profile Wan) later (begun_read before h.0 h.1) (not_full (Begun before) h) named refl h.0.one_logger h.0.unmarked h.0.fleeting h.1 written)

-- the text, cut where the line begins
text_is : (text : List ℕ) (start : ℕ) (draft : Draft) → take start text ≡ header_so_far draft → text ≡ codes "ftreplay 1\n" ++ (schedule_bytes draft ++ drop start text)
text_is text start draft e = sym (take-append-drop start text) ∙ (ap (λ t. t ++ drop start text) e ∙ append_assoc (codes "ftreplay 1\n") (schedule_bytes draft) (drop start text))

line_length : (text : List ℕ) (start : ℕ) → length (drop start text) ≡ length text - start
line_length text start = length-drop start text

front_clean : (front : List ℕ) → 0 < length front → is_printable front ≡ true → IsClean front
front_clean front some plain = (some, no_feed front plain)

-- a line that is too short, or has a byte that isn't printable, continues no header
pub short_line_stops : (text : List ℕ) (start : ℕ) (draft : Draft) → length text < start + 2 → IsHeaderSoFar draft → HeaderLine draft (drop start text) (Rejects law.Text)
short_line_stops text start draft few h = no_line draft (drop start text) h (λ l n c. by_front (front_of draft l (drop start text) c))
  where
    by_front : {l : Line} → HasFront draft l (drop start text) → ⊥
    by_front f =
        let len : length (drop start text) ≡ length text - start = line_length text start in
        let whole : length (drop start text) ≡ length f.front + 1 = ap length f.whole ∙ length-append f.front (10 ∷ []) in
        omega (arith, few, len, whole, f.some)

pub unprintable_line_stops : (text : List ℕ) (start : ℕ) (draft : Draft) → is_printable (take (length text - 1 - start) (drop start text)) ≡ false → IsHeaderSoFar draft
    → HeaderLine draft (drop start text) (Rejects law.Text)
unprintable_line_stops text start draft plain h = no_line draft (drop start text) h (λ l n c. by_front l (front_of draft l (drop start text) c))
  where
    by_front : (l : Line) → HasFront draft l (drop start text) → ⊥
    by_front l f =
        let len : length (drop start text) ≡ length text - start = line_length text start in
        let size : length text - 1 - start ≡ length (drop start text) - 1 = omega (arith, len) in
        let same : take (length text - 1 - start) (drop start text) ≡ f.front =
        ap (λ k. take k (drop start text)) size ∙ (ap (λ t. take (length t - 1) t) f.whole ∙ cut_last f.front) in
        true≢false (sym (ap is_printable same ∙ printable_of draft f.front l f.accepted) ∙ plain)

-- any other continues it exactly where the header with it is a schedule's
pub header_given : (text : List ℕ) (start : ℕ) (draft : Draft) (read : Option Schedule) → start + 2 ≤ length text → is_printable (take (length text - 1 - start) (drop start text)) ≡ true
    → read ≡ header_in text → IsHeaderSoFar draft → take start text ≡ header_so_far draft
    → MatchOption read (HeaderLine draft (drop start text) (Rejects law.Text)) (λ schedule. HeaderLine draft (drop start text) (Continues (InHeader (Begun schedule))))
header_given text start draft None long plain e h front =
    no_line draft (drop start text) h (λ l n c. true≢false (sym (some_schedule draft (drop start text) l h n c) ∙ ap is_some (ap header_in (sym (text_is text start draft front)) ∙ sym e)))
header_given text start draft (Some schedule) long plain e h front =
    let line : List ℕ = drop start text in
    let len : length line ≡ length text - start = line_length text start in
    let size : length text - 1 - start ≡ length line - 1 = omega (arith, len) in
    let printable : is_printable (take (length line - 1) line) ≡ true = ap (λ k. is_printable (take k line)) (sym size) ∙ plain in
    let e_taken = length-take (length line - 1) line in
    let taken : length (take (length line - 1) line) ≡ length line - 1 = omega (arith, e_taken) in
    let some : 0 < length line = omega (arith, len, long) in
    let clean : IsClean (take (length line - 1) line) = front_clean (take (length line - 1) line) (omega (arith, taken, len, long)) printable in
    line_reported draft line schedule h some (is_read draft line schedule h clean some (ap header_in (sym (text_is text start draft front)) ∙ sym e))

-- the service's line
service_is : (kind : ServiceKind) → service_text_line kind ≡ canonical_line Empty (says.Service kind)
unfolding service_text
service_is services.Echo = refl
service_is services.Line = refl
service_is services.Transfer = refl
service_is services.Meter = refl

service_reported : (line : List ℕ) (kind : ServiceKind) → service_in line ≡ Some kind → line ≡ service_text_line kind
service_reported line kind e = among all_services e
  where
    by_test : (first : ServiceKind) (more : List ServiceKind) (b : Bool) → bytes_eq line (service_text_line first) ≡ b → (if b then Some first else service_among more line) ≡ Some kind
        → (service_among more line ≡ Some kind → line ≡ service_text_line kind) → line ≡ service_text_line kind
    by_test first more true same f rest = let is : first ≡ kind = cc in same_bytes line (service_text_line first) same ∙ ap service_text_line is
    by_test first more false same f rest = rest f

    among : (more : List ServiceKind) → service_among more line ≡ Some kind → line ≡ service_text_line kind
    among [] f = absurd (cc)
    among (first ∷ more) f = by_test first more (bytes_eq line (service_text_line first)) refl f (among more)

service_shown : (kind : ServiceKind) → service_in (service_text_line kind) ≡ Some kind
service_shown services.Echo = refl
service_shown services.Line = refl
service_shown services.Transfer = refl
service_shown services.Meter = refl

pub service_given : (line : List ℕ) (result : Option ServiceKind) → result ≡ service_in line
    → MatchOption result (HeaderLine Empty line (Rejects law.Text)) (λ kind. HeaderLine Empty line (Continues (InHeader (Named kind))))
service_given line (Some kind) e =
    let is : line ≡ canonical_line Empty (says.Service kind) = service_reported line kind (sym e) ∙ service_is kind in
    inl (kind, subst (IsCanonical Empty (says.Service kind)) (sym is) (service_follows kind), refl)
service_given line None e =
    inr ((λ kind c. true≢false (ap is_some (sym (service_shown kind) ∙ ap service_in (service_is kind ∙ sym c.spelled)) ∙ ap is_some (sym e))), refl)
