-- A line is read as an event exactly where it is the event's line after those of a schedule.
use Rattle.std.proofs.Common.{◌≡◌, ℕ, ◌+◌, ◌-◌, ◌<◌, ◌≤◌, ◌^◌, Bool, true, false, Option, None, Some, List, [], ◌∷◌, ◌++◌, codes, decimal, take, length, length-append, append_assoc, append-nil, refl, sym, ap, ap₂, ◌∙◌, subst, arith, true≢false}
use Rattle.std.specs.Prelude.{◌&&◌}
use Rattle.std.specs.List.{AllByRecursion, flat_map, join_with_byte, slice_split}
use Rattle.std.specs.Str.{bytes_eq}
use Rattle.std.specs.Cmp.Derive.{both_true}
use Rattle.std.proofs.lemmas.List.Splits.{join_with_byte-slice_split}
use Rattle.ft_io.proofs.Booleans.{left_true, right_true}
use Rattle.ft_io.proofs.Outcomes.{none_is_not}
use Rattle.ft_model.specs.Grammar.{line_of, with_line}
use Rattle.ft_model.specs.Readable.{IsWord}
use Rattle.ft_model.specs.Report.{event_words, event_line, profile_line, schedule_lines}
use Rattle.ft_model.specs.Texts.{line as line_with, service_text, address_text}
use Rattle.ft_model.specs.Words.{is}
use Rattle.ft_model.specs.declared.event.Event.{Event}
use Rattle.ft_model.specs.declared.line.Draft.TheVariants.{Begun}
use Rattle.ft_model.specs.declared.line.Line.TheVariants as says
use Rattle.ft_model.specs.declared.schedule.Schedule.{Schedule}
use Rattle.ft_model.proofs.ReportContent.{lit}
use Rattle.ft_model.proofs.ReportWords.{word_decimal}
use Rattle.schedule_text.specs.EventLines.{IsAskable, asked_line}
use Rattle.schedule_text.proofs.RoundTrip.{asked_in_line, read_back}
use Rattle.report_laws.specs.Canonical.{FitsLimit, schedule_bytes}
use Rattle.report_laws.specs.Transitions.{IsEventLine}
use Rattle.report_laws.proofs.CutLines.{words_event}
use Rattle.report_laws.proofs.EventLines.{event_is_spelled}
use Rattle.line_check.specs.Words.{number_word, is_numbered, ends_with_feed}
use Rattle.line_check.specs.EventWords.{event_of_words, if_true, event_in_words, event_in_text}
use Rattle.line_check.proofs.Spelled.{same_bytes, bytes_same}
use Rattle.report_laws.proofs.Fronts.{cut_last}
use Rattle.line_check.proofs.LineWords.{joined_cut, line_joined, feed_shown, feed_reported, numbered_reported, numbered_shown}
use Rattle.line_check.proofs.EventWords.{event_reported, event_shown}
use Rattle.line_check.proofs.EventRanges.{askable_of, fits_of}

tested : (b : Bool) (o : Option Event) (e : Event) → if_true b o ≡ Some e → (b ≡ true) × (o ≡ Some e)
tested true o e h = (refl, h)
tested false o e h = none_is_not h

passed : (b : Bool) (o : Option Event) (e : Event) → b ≡ true → o ≡ Some e → if_true b o ≡ Some e
passed true o e t h = h
passed false o e t h = absurd (true≢false (sym t))

-- the words of the line of event n
words_reported : (n : ℕ) (words : List (List ℕ)) (e : Event) → event_in_words n words ≡ Some e → (words ≡ codes "event" ∷ decimal n ∷ event_words e) × IsAskable e
unfolding event_in_words
words_reported n [] e h = none_is_not h
words_reported n (a ∷ []) e h = none_is_not h
words_reported n (a ∷ b ∷ words) e h =
    let t = tested (bytes_eq a (codes "event") && is_numbered n (number_word (2 ^ 32 - 1) b)) (event_of_words words) e h in
    let first : a ≡ codes "event" = same_bytes a (codes "event") (left_true (bytes_eq a (codes "event")) _ t.0) in
    let second : b ≡ decimal n = numbered_reported n b (right_true (bytes_eq a (codes "event")) _ t.0) in
    let reported : (words ≡ event_words e) × IsAskable e = event_reported words e t.1 in
    (ap₂ (λ x y. x ∷ y) first (ap₂ (λ x y. x ∷ y) second reported.0), reported.1)

words_shown : (n : ℕ) (e : Event) → n ≤ 2 ^ 32 - 1 → IsAskable e → event_in_words n (codes "event" ∷ decimal n ∷ event_words e) ≡ Some e
unfolding event_in_words
words_shown n e few h =
    passed (bytes_eq (codes "event") (codes "event") && is_numbered n (number_word (2 ^ 32 - 1) (decimal n))) (event_of_words (event_words e)) e
    (both_true (bytes_same (codes "event")) (numbered_shown n few)) (event_shown e h)

line_is : (n : ℕ) (e : Event) → event_line n e ≡ join_with_byte 32 (codes "event" ∷ decimal n ∷ event_words e) ++ 10 ∷ []
unfolding event_line
line_is n e = line_joined (codes "event") (decimal n) (event_words e)

pub line_reported : (n : ℕ) (text : List ℕ) (e : Event) → event_in_text n text ≡ Some e → (text ≡ event_line n e) × IsAskable e
unfolding event_in_text
line_reported n text e h =
    let front : List ℕ = take (length text - 1) text in
    let t = tested (ends_with_feed text) (event_in_words n (slice_split (is 32) front)) e h in
    let reported = words_reported n (slice_split (is 32) front) e t.1 in
    let joined : front ≡ join_with_byte 32 (codes "event" ∷ decimal n ∷ event_words e) = sym (join_with_byte-slice_split 32 front) ∙ ap (join_with_byte 32) reported.0 in
    (feed_reported text t.0 ∙ (ap (λ t. t ++ 10 ∷ []) joined ∙ sym (line_is n e)), reported.1)

pub line_shown : (n : ℕ) (e : Event) → n ≤ 2 ^ 32 - 1 → IsAskable e → event_in_text n (event_line n e) ≡ Some e
unfolding event_in_text
line_shown n e few h =
    let front : List ℕ = join_with_byte 32 (codes "event" ∷ decimal n ∷ event_words e) in
    let plain : AllByRecursion IsWord (codes "event" ∷ decimal n ∷ event_words e) =
    (lit (codes "event") refl, (word_decimal n (omega (arith, few)), words_event e (fits_of e h))) in
    let cut : slice_split (is 32) front ≡ codes "event" ∷ decimal n ∷ event_words e = joined_cut (codes "event") (decimal n ∷ event_words e) plain in
    ap (event_in_text n) (line_is n e)
    ∙ passed (ends_with_feed (front ++ 10 ∷ [])) (event_in_words n (slice_split (is 32) (take (length (front ++ 10 ∷ []) - 1) (front ++ 10 ∷ [])))) e
    (feed_shown front) (ap (λ t. event_in_words n (slice_split (is 32) t)) (cut_last front) ∙ (ap (event_in_words n) cut ∙ words_shown n e few h))

-- the size of a schedule's own text with another event
bytes_more : (xs ys zs : List ℕ) (events : List Event) (e : Event)
    → length (xs ++ (ys ++ (zs ++ flat_map (λ e. asked_line e ++ 10 ∷ []) (events ++ e ∷ [])))) ≡ length (xs ++ (ys ++ (zs ++ flat_map (λ e. asked_line e ++ 10 ∷ []) events))) + length (asked_line e ++ 10 ∷ [])
bytes_more xs ys zs events e =
    let tail : flat_map (λ e. asked_line e ++ 10 ∷ []) (events ++ e ∷ []) ≡ flat_map (λ e. asked_line e ++ 10 ∷ []) events ++ (asked_line e ++ 10 ∷ []) = more events in
    let all : List ℕ = flat_map (λ e. asked_line e ++ 10 ∷ []) events in
    ap length (ap (λ t. xs ++ (ys ++ (zs ++ t))) tail
    ∙ (ap (λ t. xs ++ (ys ++ t)) (sym (append_assoc zs all (asked_line e ++ 10 ∷ [])))
    ∙ (ap (λ t. xs ++ t) (sym (append_assoc ys (zs ++ all) (asked_line e ++ 10 ∷ []))) ∙ sym (append_assoc xs (ys ++ (zs ++ all)) (asked_line e ++ 10 ∷ [])))))
    ∙ length-append (xs ++ (ys ++ (zs ++ all))) (asked_line e ++ 10 ∷ [])
  where
    more : (events : List Event) → flat_map (λ e. asked_line e ++ 10 ∷ []) (events ++ e ∷ []) ≡ flat_map (λ e. asked_line e ++ 10 ∷ []) events ++ (asked_line e ++ 10 ∷ [])
    more [] = append-nil (asked_line e ++ 10 ∷ [])
    more (f ∷ events) = ap (λ t. (asked_line f ++ 10 ∷ []) ++ t) (more events) ∙ sym (append_assoc (asked_line f ++ 10 ∷ []) (flat_map (λ e. asked_line e ++ 10 ∷ []) events) (asked_line e ++ 10 ∷ []))

-- .. with one more part in front
bytes_more_behind : (ws xs ys zs : List ℕ) (events : List Event) (e : Event)
    → length (ws ++ (xs ++ (ys ++ (zs ++ flat_map (λ e. asked_line e ++ 10 ∷ []) (events ++ e ∷ [])))))
    ≡ length (ws ++ (xs ++ (ys ++ (zs ++ flat_map (λ e. asked_line e ++ 10 ∷ []) events)))) + length (asked_line e ++ 10 ∷ [])
bytes_more_behind ws xs ys zs events e =
    let before : List ℕ = xs ++ (ys ++ (zs ++ flat_map (λ e. asked_line e ++ 10 ∷ []) events)) in
    let after : List ℕ = xs ++ (ys ++ (zs ++ flat_map (λ e. asked_line e ++ 10 ∷ []) (events ++ e ∷ []))) in
    omega (arith, bytes_more xs ys zs events e, length-append ws before, length-append ws after)

pub size_with_event : (schedule : Schedule) (n : ℕ) (e : Event) (text : List ℕ) → text ≡ event_line n e
    → length (schedule_bytes (with_line (Begun schedule) (says.Event e))) + (7 + length (decimal n)) ≡ length (schedule_bytes (Begun schedule)) + length text
size_with_event schedule n e text same =
    let asked : List ℕ = asked_line e ++ 10 ∷ [] in
    let whole : length text ≡ length (codes "event " ++ (decimal n ++ 32 ∷ asked)) = ap length (same ∙ asked_in_line n e) in
    let number : length (decimal n ++ 32 ∷ asked) ≡ length (decimal n) + length (32 ∷ asked) = length-append (decimal n) (32 ∷ asked) in
    let more = bytes_more_behind (line_with (codes "service") (service_text schedule.service ∷ []))
    (line_with (codes "server") (address_text schedule.server.ip schedule.server.port ∷ [])) (profile_line schedule.profile)
    (schedule_lines 1 schedule.clients) schedule.events e in
    omega (arith, whole, number, more)

-- the line of an event that a schedule can ask for, where the schedule's text stays within its limit
pub event_line_reported : (schedule : Schedule) (n : ℕ) (e : Event) (text : List ℕ) → event_in_text n text ≡ Some e → FitsLimit (with_line (Begun schedule) (says.Event e)) → IsEventLine schedule n e text
event_line_reported schedule n e text h short =
    let t : (text ≡ event_line n e) × IsAskable e = line_reported n text e h in
    let asked : List ℕ = asked_line e ++ 10 ∷ [] in
    record {
      asked = asked;
      spelled = t.0 ∙ asked_in_line n e;
      canonical = record {
        spelled = refl;
        accepted = ap (line_of (Begun schedule)) (cut_last (asked_line e)) ∙ read_back schedule e t.1;
        short = short;
      };
    }

pub event_line_shown : (schedule : Schedule) (n : ℕ) (e : Event) (text : List ℕ) → n ≤ 2 ^ 32 - 1 → IsEventLine schedule n e text → event_in_text n text ≡ Some e
event_line_shown schedule n e text few l =
    ap (event_in_text n) (event_is_spelled e n text schedule l)
    ∙ line_shown n e few (askable_of (Begun schedule) (take (length l.asked - 1) l.asked) e l.canonical.accepted)

-- what the reader of event lines gives
pub no_event_line : (schedule : Schedule) (n : ℕ) (text : List ℕ) → n < 2 ^ 32 → None ≡ event_in_text n text → (event : Event) → IsEventLine schedule n event text → ⊥
no_event_line schedule n text few none event l = none_is_not (none ∙ event_line_shown schedule n event text (omega (arith, few)) l)

size_is : (schedule : Schedule) (n size more : ℕ) (e : Event) (text : List ℕ) → Some e ≡ event_in_text n text → more ≡ size + length text - (7 + length (decimal n)) → length (schedule_bytes (Begun schedule)) ≡ size
    → length (schedule_bytes (with_line (Begun schedule) (says.Event e))) ≡ more
size_is schedule n size more e text read is begins =
    let t : (text ≡ event_line n e) × IsAskable e = line_reported n text e (sym read) in
    let whole = size_with_event schedule n e text t.0 in
    omega (arith, whole, is, begins)

pub event_line_given : (schedule : Schedule) (n size more : ℕ) (e : Event) (text : List ℕ) → Some e ≡ event_in_text n text → more ≡ size + length text - (7 + length (decimal n)) → more ≤ 8388609
    → length (schedule_bytes (Begun schedule)) ≡ size → IsEventLine schedule n e text × (length (schedule_bytes (with_line (Begun schedule) (says.Event e))) ≡ more)
event_line_given schedule n size more e text read is few begins =
    let whole = size_is schedule n size more e text read is begins in
    let short : FitsLimit (with_line (Begun schedule) (says.Event e)) = omega (arith, whole, few) in
    (event_line_reported schedule n e text (sym read) short, whole)

pub event_line_too_long : (schedule : Schedule) (n size more : ℕ) (e : Event) (text : List ℕ) → n < 2 ^ 32 → Some e ≡ event_in_text n text → more ≡ size + length text - (7 + length (decimal n)) → 8388609 < more
    → length (schedule_bytes (Begun schedule)) ≡ size → (event : Event) → IsEventLine schedule n event text → ⊥
event_line_too_long schedule n size more e text few read is long begins event l =
    let same : event ≡ e = some_same (sym (event_line_shown schedule n event text (omega (arith, few)) l) ∙ sym read) in
    let whole = size_is schedule n size more e text read is begins in
    let short : length (schedule_bytes (with_line (Begun schedule) (says.Event event))) - 1 ≤ 8388608 = l.canonical.short in
    let kept : length (schedule_bytes (with_line (Begun schedule) (says.Event e))) - 1 ≤ 8388608 = subst (λ x. length (schedule_bytes (with_line (Begun schedule) (says.Event x))) - 1 ≤ 8388608) same short in
    omega (arith, whole, kept, long)
  where
    some_same : {A : Type 0} {x y : A} → Some x ≡ Some y → x ≡ y
    some_same e = cc
