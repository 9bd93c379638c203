-- The grammar reads a schedule within the limits from its canonical lines.
use Rattle.std.proofs.Common.{◌≡◌, ℕ, ◌+◌, ◌-◌, ◌≤◌, ◌<◌, nat_le, Bool, true, false, refl, sym, ap, ap₂, ◌∙◌, subst, arith, true≢false, None, Ok, Err, List, [], ◌∷◌, ◌++◌, length, length-append, take, append_assoc, append-nil, if◌then◌else◌}
use Rattle.std.specs.Prelude.{All}
use Rattle.std.specs.List.{AllByRecursion, flat_map, slice_split}
use Rattle.std.proofs.lemmas.Bool.{le-leb, ne_eqb}
use Rattle.std.proofs.lemmas.List.Elements.{All-nil, All-cons}
use Rattle.std.proofs.lemmas.List.Splits.{slice_split_at, slice_split_none}
use Rattle.std.proofs.Math.Seq.{take-append-add}
use Rattle.std.proofs.lemmas.List.{length-take}
use Rattle.tcp_rules.specs.declared.profile.Profile.{Profile}
use Rattle.tcp_rules.specs.declared.profile.Profile.TheVariants.{Plain, Wan}
use Rattle.ft_model.specs.Grammar.{no_objection, line_of, line_of_words, with_line, is_comment, is_passed_over, is_full, is_too_much, after_line, read_lines, read_with, read_text}
use Rattle.ft_model.specs.Report.{profile_line, schedule_line, schedule_lines}
use Rattle.ft_model.specs.Words.{is, is_empty, lines_of, words_of, without_empty_last}
use Rattle.ft_model.specs.declared.event.Event.{Event}
use Rattle.ft_model.specs.declared.event.Event.TheVariants.{Boot, Crash, Tick, Deliver, Flip, Begin, Send, Fin, Ack, Reset, Stop}
use Rattle.ft_model.specs.declared.line.Draft.{Draft}
use Rattle.ft_model.specs.declared.line.Draft.TheVariants.{Empty, Named, Begun}
use Rattle.ft_model.specs.declared.line.Line.{Line}
use Rattle.ft_model.specs.declared.line.Line.TheVariants as says
use Rattle.ft_model.specs.declared.schedule.ClientLine.{ClientLine}
use Rattle.ft_model.specs.declared.schedule.LineWhy.TheVariants as why
use Rattle.ft_model.specs.declared.schedule.Schedule.{Schedule}
use Rattle.schedule_text.specs.EventLines.{asked_line}
use Rattle.schedule_text.proofs.Pieces.{lines_of_first, lines_of_last}
use Rattle.report_laws.specs.Canonical.{IsCanonical, IsWithinLimits, ClientsAccepted, EventsAccepted, ProfileAccepted, FitsLimit, bare, profiled, line_for, next_client, canonical_line, schedule_bytes}
use Rattle.report_laws.proofs.CutLines.{HasNoFeed}
use Rattle.report_laws.proofs.Fronts.{HasFront, front_of, is_ok, cut_last}

-- lines, each with its feed
abbrev pub joined : List (List ℕ) → List ℕ
joined lines = flat_map (λ l. l ++ 10 ∷ []) lines

abbrev pub IsClean : List ℕ → Type 0
IsClean line = (0 < length line) × AllByRecursion HasNoFeed line

-- a text of lines that lead the grammar to a draft
pub record Reads (text : List ℕ) (draft : Draft) : Type 0 where
  pub lines : List (List ℕ)
  pub cut : text ≡ joined lines
  pub clean : AllByRecursion IsClean lines
  pub number : ℕ
  pub reads : (more : List (List ℕ)) → read_lines no_objection 1 Empty (lines ++ more) ≡ read_lines no_objection number draft more

not_comment : (n : ℕ) (l : Line) → is_comment (line_for n l) ≡ false
unfolding schedule_line
not_comment n (says.Service kind) = refl
not_comment n (says.Server at) = refl
not_comment n (says.Profile Plain) = refl
not_comment n (says.Profile Wan) = refl
not_comment n says.Twin = refl
not_comment n (says.Marks every) = refl
not_comment n (says.Lasting waits) = refl
not_comment n (says.Client c) = refl
not_comment n (says.Event (Boot boot isn)) = refl
not_comment n (says.Event Crash) = refl
not_comment n (says.Event Tick) = refl
not_comment n (says.Event (Deliver packet)) = refl
not_comment n (says.Event (Flip packet bit)) = refl
not_comment n (says.Event (Begin client window)) = refl
not_comment n (says.Event (Send client from len)) = refl
not_comment n (says.Event (Fin client)) = refl
not_comment n (says.Event (Ack client window)) = refl
not_comment n (says.Event (Reset client)) = refl
not_comment n (says.Event (Stop part)) = refl

front_comment : (front : List ℕ) → 0 < length front → is_comment (front ++ 10 ∷ []) ≡ is_comment front
front_comment [] h = absurd (omega (arith, h))
front_comment (c ∷ front) h = refl

some_words : (draft : Draft) (text : List ℕ) (l : Line) → line_of draft text ≡ Ok l → is_empty (words_of text) ≡ false
unfolding line_of
some_words draft text l e = by_test _ (words_of text) e
  where
    by_test : (b : Bool) (words : List (List ℕ)) → (if b then line_of_words draft words else Err why.Character) ≡ Ok l → is_empty words ≡ false
    by_test true [] e = absurd (true≢false (sym (ap is_ok e)))
    by_test true (w ∷ words) e = refl
    by_test false words e = absurd (true≢false (sym (ap is_ok e)))

after_accepted : (n : ℕ) (draft : Draft) (l : Line) (front : List ℕ) → is_comment front ≡ false → is_empty (words_of front) ≡ false → is_full draft ≡ false → line_of draft front ≡ Ok l
    → after_line no_objection n draft front ≡ Ok (with_line draft l)
unfolding after_line is_passed_over is_too_much
after_accepted n draft l front comment words full accepted = rw (comment, words, full, accepted) refl

one_more : (n : ℕ) (draft later : Draft) (front : List ℕ) (more : List (List ℕ)) → after_line no_objection n draft front ≡ Ok later
    → read_lines no_objection n draft (front ∷ more) ≡ read_lines no_objection (n + 1) later more
unfolding read_lines
one_more n draft later front more e = rw e refl

pub joined_more : (lines : List (List ℕ)) (front : List ℕ) → joined (lines ++ front ∷ []) ≡ joined lines ++ (front ++ 10 ∷ [])
joined_more [] front = append-nil (front ++ 10 ∷ [])
joined_more (l ∷ lines) front = ap (λ t. (l ++ 10 ∷ []) ++ t) (joined_more lines front) ∙ sym (append_assoc (l ++ 10 ∷ []) (joined lines) (front ++ 10 ∷ []))

pub all_more : (lines : List (List ℕ)) (front : List ℕ) → AllByRecursion IsClean lines → IsClean front → AllByRecursion IsClean (lines ++ front ∷ [])
all_more [] front h c = (c, tt)
all_more (l ∷ lines) front h c = (h.0, all_more lines front h.1 c)

-- one more line
pub more_read : (text line : List ℕ) (draft : Draft) (l : Line) → Reads text draft → IsCanonical draft l line → is_full draft ≡ false → Reads (text ++ line) (with_line draft l)
more_read text line draft l r c full =
    let f : HasFront draft l line = front_of draft l line c in
    let comment : is_comment f.front ≡ false =
    sym (front_comment f.front f.some) ∙ (ap is_comment (sym f.whole) ∙ (ap is_comment c.spelled ∙ not_comment (next_client draft) l)) in
    let after : after_line no_objection r.number draft f.front ≡ Ok (with_line draft l) =
    after_accepted r.number draft l f.front comment (some_words draft f.front l f.accepted) full f.accepted in
    record {
      lines = r.lines ++ f.front ∷ [];
      cut = ap₂ ◌++◌ r.cut f.whole ∙ sym (joined_more r.lines f.front);
      clean = all_more r.lines f.front r.clean (f.some, f.clean);
      number = r.number + 1;
      reads = λ more. ap (read_lines no_objection 1 Empty) (append_assoc r.lines (f.front ∷ []) more)
          ∙ (r.reads (f.front ∷ more) ∙ one_more r.number draft (with_line draft l) f.front more after);
    }

no_feed_before : (line : List ℕ) → AllByRecursion HasNoFeed line → All (λ c. is 10 c ≡ false) line
no_feed_before [] h = All-nil (λ c. is 10 c ≡ false)
no_feed_before (c ∷ line) h = All-cons (λ c. is 10 c ≡ false) c line (ne_eqb c 10 (λ e. omega (arith, e, h.0))) (no_feed_before line h.1)

no_lines : lines_of [] ≡ []
unfolding lines_of without_empty_last
no_lines = refl

joined_some : (l : List ℕ) (lines : List (List ℕ)) → 0 < length (joined (l ∷ lines))
joined_some l lines =
    let whole : length (joined (l ∷ lines)) ≡ length (l ++ 10 ∷ []) + length (joined lines) = length-append (l ++ 10 ∷ []) (joined lines) in
    let first : length (l ++ 10 ∷ []) ≡ length l + 1 = length-append l (10 ∷ []) in
    omega (arith, whole, first)

-- without its last feed, a text of lines is cut into them
pub lines_back : (lines : List (List ℕ)) → AllByRecursion IsClean lines → lines_of (take (length (joined lines) - 1) (joined lines)) ≡ lines
lines_back [] h = no_lines
lines_back (l ∷ []) h =
    let one : joined (l ∷ []) ≡ l ++ 10 ∷ [] = append-nil (l ++ 10 ∷ []) in
    let alone : slice_split (is 10) l ≡ l ∷ [] = slice_split_none (is 10) l (no_feed_before l h.0.1) in
    ap lines_of (ap (λ t. take (length t - 1) t) one ∙ cut_last l) ∙ (lines_of_last l h.0.0 alone ∙ ap (λ ls. l ∷ ls) no_lines)
lines_back (l ∷ k ∷ more) h =
    let rest : List ℕ = joined (k ∷ more) in
    let some : 0 < length rest = joined_some k more in
    let whole : length ((l ++ 10 ∷ []) ++ rest) ≡ length (l ++ 10 ∷ []) + length rest = length-append (l ++ 10 ∷ []) rest in
    let len : length ((l ++ 10 ∷ []) ++ rest) - 1 ≡ length (l ++ 10 ∷ []) + (length rest - 1) = omega (arith, whole, some) in
    let short : List ℕ = take (length rest - 1) rest in
    let front : take (length ((l ++ 10 ∷ []) ++ rest) - 1) ((l ++ 10 ∷ []) ++ rest) ≡ l ++ 10 ∷ short =
    ap (λ n. take n ((l ++ 10 ∷ []) ++ rest)) len ∙ (take-append-add (l ++ 10 ∷ []) rest (length rest - 1) ∙ append_assoc l (10 ∷ []) short) in
    let split : slice_split (is 10) (l ++ 10 ∷ short) ≡ l ∷ slice_split (is 10) short = slice_split_at (is 10) l 10 short (no_feed_before l h.0.1) refl in
    ap lines_of front ∙ (lines_of_first (l ++ 10 ∷ short) l short split ∙ ap (λ ls. l ∷ ls) (lines_back (k ∷ more) h.1))

not_full : (n : ℕ) → n < 100000 → nat_le 100000 n ≡ false
not_full n h = grind (arith, h)

pub clients_read : (s : Schedule) (text : List ℕ) (clients : List ClientLine) → Reads text (Begun s) → ClientsAccepted s clients → is_full (Begun s) ≡ false
    → Reads (text ++ schedule_lines (length s.clients + 1) clients) (Begun (record s { clients = s.clients ++ clients }))
clients_read s text [] r h full =
    subst (λ t. Reads t (Begun (record s { clients = s.clients ++ [] }))) (sym (append-nil text)) (subst (λ cs. Reads text (Begun (record s { clients = cs }))) (sym (append-nil s.clients)) r)
clients_read s text (c ∷ more) r h full =
    let next : Schedule = record s { clients = s.clients ++ c ∷ [] } in
    let line : List ℕ = schedule_line (length s.clients + 1) c in
    let rest : Reads ((text ++ line) ++ schedule_lines (length (s.clients ++ c ∷ []) + 1) more) (Begun (record s { clients = (s.clients ++ c ∷ []) ++ more })) =
    clients_read next (text ++ line) more (more_read text line (Begun s) (says.Client c) r h.0 full) h.1 full in
    let number : length (s.clients ++ c ∷ []) + 1 ≡ (length s.clients + 1) + 1 = ap (λ k. k + 1) (length-append s.clients (c ∷ [])) in
    subst (λ cs. Reads (text ++ (line ++ schedule_lines ((length s.clients + 1) + 1) more)) (Begun (record s { clients = cs }))) (append_assoc s.clients (c ∷ []) more)
    (subst (λ t. Reads t (Begun (record s { clients = (s.clients ++ c ∷ []) ++ more }))) (append_assoc text line (schedule_lines ((length s.clients + 1) + 1) more))
    (subst (λ k. Reads ((text ++ line) ++ schedule_lines k more) (Begun (record s { clients = (s.clients ++ c ∷ []) ++ more }))) number rest))

events_read : (s : Schedule) (text : List ℕ) (events : List Event) → Reads text (Begun s) → EventsAccepted s events → length s.events + length events ≤ 100000
    → Reads (text ++ flat_map (λ e. asked_line e ++ 10 ∷ []) events) (Begun (record s { events = s.events ++ events }))
events_read s text [] r h few =
    subst (λ t. Reads t (Begun (record s { events = s.events ++ [] }))) (sym (append-nil text)) (subst (λ es. Reads text (Begun (record s { events = es }))) (sym (append-nil s.events)) r)
events_read s text (e ∷ more) r h few =
    let next : Schedule = record s { events = s.events ++ e ∷ [] } in
    let line : List ℕ = asked_line e ++ 10 ∷ [] in
    let rest_lines : List ℕ = flat_map (λ e. asked_line e ++ 10 ∷ []) more in
    let longer : length (s.events ++ e ∷ []) ≡ length s.events + 1 = length-append s.events (e ∷ []) in
    let still : length (s.events ++ e ∷ []) + length more ≤ 100000 = omega (arith, longer, few) in
    let full : is_full (Begun s) ≡ false = not_full (length s.events) (omega (arith, few)) in
    let rest : Reads ((text ++ line) ++ rest_lines) (Begun (record s { events = (s.events ++ e ∷ []) ++ more })) =
    events_read next (text ++ line) more (more_read text line (Begun s) (says.Event e) r h.0 full) h.1 still in
    subst (λ es. Reads (text ++ (line ++ rest_lines)) (Begun (record s { events = es }))) (append_assoc s.events (e ∷ []) more)
    (subst (λ t. Reads t (Begun (record s { events = (s.events ++ e ∷ []) ++ more }))) (append_assoc text line rest_lines) rest)

pub clients_short : (s : Schedule) (clients : List ClientLine) → FitsLimit (Begun s) → ClientsAccepted s clients → FitsLimit (Begun (record s { clients = s.clients ++ clients }))
clients_short s [] short h = subst (λ cs. FitsLimit (Begun (record s { clients = cs }))) (sym (append-nil s.clients)) short
clients_short s (c ∷ more) short h =
    subst (λ cs. FitsLimit (Begun (record s { clients = cs }))) (append_assoc s.clients (c ∷ []) more) (clients_short (record s { clients = s.clients ++ c ∷ [] }) more h.0.short h.1)

events_short : (s : Schedule) (events : List Event) → FitsLimit (Begun s) → EventsAccepted s events → FitsLimit (Begun (record s { events = s.events ++ events }))
events_short s [] short h = subst (λ es. FitsLimit (Begun (record s { events = es }))) (sym (append-nil s.events)) short
events_short s (e ∷ more) short h =
    subst (λ es. FitsLimit (Begun (record s { events = es }))) (append_assoc s.events (e ∷ []) more) (events_short (record s { events = s.events ++ e ∷ [] }) more h.0.short h.1)

-- with one logger, the schedule before its clients
with_one : (schedule : Schedule) (P : Schedule → Type 0) → schedule.twin ≡ false → schedule.marks ≡ None → schedule.lasting ≡ None
    → P (record schedule { twin = false; marks = None; lasting = None }) → P schedule
with_one schedule P one unmarked fleeting p =
    subst (λ t. P (record schedule { twin = t })) (sym one)
    (subst (λ m. P (record schedule { twin = false; marks = m })) (sym unmarked) (subst (λ l. P (record schedule { twin = false; marks = None; lasting = l })) (sym fleeting) p))

profile_read : (schedule : Schedule) (text : List ℕ) (profile : Profile) → Reads text (Begun (bare schedule)) → ProfileAccepted (bare schedule) profile
    → Reads (text ++ profile_line profile) (Begun (record (bare schedule) { profile = profile }))
profile_read schedule text Plain r h = subst (λ t. Reads t (Begun (bare schedule))) (sym (append-nil text)) r
profile_read schedule text Wan r h = more_read text (profile_line Wan) (Begun (bare schedule)) (says.Profile Wan) r h refl

pub within_read : (schedule : Schedule) → IsWithinLimits schedule → Reads (schedule_bytes (Begun schedule)) (Begun schedule)
within_read schedule w =
    let a : List ℕ = canonical_line Empty (says.Service schedule.service) in
    let b : List ℕ = canonical_line (Named schedule.service) (says.Server schedule.server) in
    let p : List ℕ = profile_line schedule.profile in
    let c : List ℕ = schedule_lines 1 schedule.clients in
    let d : List ℕ = flat_map (λ e. asked_line e ++ 10 ∷ []) schedule.events in
    let start : Reads [] Empty = record { lines = []; cut = refl; clean = tt; number = 1; reads = λ more. refl } in
    let service : Reads ([] ++ a) (Named schedule.service) = more_read [] a Empty (says.Service schedule.service) start w.header.service refl in
    let server : Reads (([] ++ a) ++ b) (Begun (bare schedule)) = more_read ([] ++ a) b (Named schedule.service) (says.Server schedule.server) service w.header.server refl in
    let profile : Reads ((([] ++ a) ++ b) ++ p) (Begun (profiled schedule)) = profile_read schedule (([] ++ a) ++ b) schedule.profile server w.header.profile in
    let clients : Reads (((([] ++ a) ++ b) ++ p) ++ c) (Begun (record schedule { twin = false; marks = None; lasting = None; events = [] })) =
    clients_read (profiled schedule) ((([] ++ a) ++ b) ++ p) schedule.clients profile w.header.clients refl in
    let single : Reads (((([] ++ a) ++ b) ++ p) ++ c) (Begun (record schedule { events = [] })) =
    with_one (record schedule { events = [] }) (λ s. Reads (((([] ++ a) ++ b) ++ p) ++ c) (Begun s)) w.header.one_logger w.header.unmarked w.header.fleeting clients in
    let few : length {A = Event} [] + length schedule.events ≤ 100000 = omega (arith, w.few) in
    let events : Reads ((((([] ++ a) ++ b) ++ p) ++ c) ++ d) (Begun schedule) =
    events_read (record schedule { events = [] }) (((([] ++ a) ++ b) ++ p) ++ c) schedule.events single w.events few in
    subst (λ t. Reads t (Begun schedule)) (append_assoc ((a ++ b) ++ p) c d ∙ (append_assoc (a ++ b) p (c ++ d) ∙ append_assoc a b (p ++ (c ++ d)))) events

pub profile_short : (schedule : Schedule) (profile : Profile) → FitsLimit (Begun (bare schedule)) → ProfileAccepted (bare schedule) profile
    → FitsLimit (Begun (record (bare schedule) { profile = profile }))
profile_short schedule Plain short h = short
profile_short schedule Wan short h = h.short

within_short : (schedule : Schedule) → IsWithinLimits schedule → FitsLimit (Begun schedule)
within_short schedule w =
    let clients : FitsLimit (Begun (record schedule { twin = false; marks = None; lasting = None; events = [] })) =
    clients_short (profiled schedule) schedule.clients (profile_short schedule schedule.profile w.header.server.short w.header.profile) w.header.clients in
    let single : FitsLimit (Begun (record schedule { events = [] })) = with_one (record schedule { events = [] }) (λ s. FitsLimit (Begun s)) w.header.one_logger w.header.unmarked w.header.fleeting clients in
    events_short (record schedule { events = [] }) schedule.events single w.events

at_end : (n : ℕ) (schedule : Schedule) → read_lines no_objection n (Begun schedule) [] ≡ Ok schedule
unfolding read_lines
at_end n schedule = refl

taken_short : (n : ℕ) (text : List ℕ) → length (take n text) ≤ n
taken_short n text = let e = length-take n text in omega (arith, e)

-- what lines lead the grammar to is what their text spells
pub spelled_by : (text : List ℕ) (schedule : Schedule) → Reads text (Begun schedule) → length text - 1 ≤ 8388608 → read_text (take (length text - 1) text) ≡ Ok schedule
unfolding read_with
spelled_by text schedule r few =
    let own : List ℕ = take (length text - 1) text in
    let most : length own ≤ length text - 1 = taken_short (length text - 1) text in
    let short : nat_le (length own) 8388608 ≡ true = le-leb (length own) 8388608 (omega (arith, most, few)) in
    let lines : lines_of own ≡ r.lines = ap (λ t. lines_of (take (length t - 1) t)) r.cut ∙ lines_back r.lines r.clean in
    let read : read_lines no_objection 1 Empty (lines_of own) ≡ Ok schedule =
    ap (read_lines no_objection 1 Empty) (lines ∙ sym (append-nil r.lines)) ∙ (r.reads [] ∙ at_end r.number schedule) in
    rw short read

-- a schedule within the limits is what its own text spells
pub own_text_read : (schedule : Schedule) → IsWithinLimits schedule → read_text (take (length (schedule_bytes (Begun schedule)) - 1) (schedule_bytes (Begun schedule))) ≡ Ok schedule
own_text_read schedule w = spelled_by (schedule_bytes (Begun schedule)) schedule (within_read schedule w) (within_short schedule w)
