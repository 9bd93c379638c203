-- An accepted canonical line is a line of printable characters and its line feed.
use Rattle.std.proofs.Common.{◌≡◌, ℕ, ◌+◌, ◌-◌, ◌≤◌, ◌<◌, ◌&&◌, nat_le, Bool, true, false, ◌⊎◌, inl, inr, refl, sym, ap, ◌∙◌, arith, true≢false, Result, Ok, Err, List, [], ◌∷◌, ◌++◌, codes, length, length-append, take, append_assoc, if◌then◌else◌}
use Rattle.std.specs.List.{AllByRecursion}
use Rattle.std.proofs.lemmas.Bool.{leb-true}
use Rattle.std.proofs.Math.Seq.{take-append_seam}
use Rattle.ft_io.proofs.Booleans.{left_true, right_true}
use Rattle.tcp_rules.specs.declared.profile.Profile.TheVariants.{Plain, Wan}
use Rattle.ft_model.specs.Grammar.{line_of, line_of_words, is_printable}
use Rattle.ft_model.specs.Report.{schedule_line}
use Rattle.ft_model.specs.Texts.{spaced, key_text, address_text, service_text, script_text}
use Rattle.std.specs.Fmt.{decimal}
use Rattle.ft_model.specs.Words.{words_of}
use Rattle.ft_model.specs.declared.line.Draft.{Draft}
use Rattle.ft_model.specs.declared.line.Line.{Line}
use Rattle.ft_model.specs.declared.line.Line.TheVariants as says
use Rattle.ft_model.specs.declared.schedule.LineWhy.{LineWhy}
use Rattle.ft_model.specs.declared.schedule.LineWhy.TheVariants as why
use Rattle.schedule_text.specs.EventLines.{asked_line}
use Rattle.report_laws.specs.Canonical.{IsCanonical, line_for, next_client}
use Rattle.report_laws.proofs.CutLines.{HasNoFeed}

-- the line before its line feed
pub record HasFront (draft : Draft) (l : Line) (text : List ℕ) : Type 0 where
  pub front : List ℕ
  pub whole : text ≡ front ++ 10 ∷ []
  pub clean : AllByRecursion HasNoFeed front
  pub some : 0 < length front
  pub accepted : line_of draft front ≡ Ok l

abbrev pub is_ok : Result Line LineWhy → Bool
is_ok (Ok l) = true
is_ok (Err e) = false

nothing_accepted : (draft : Draft) (l : Line) → line_of draft [] ≡ Ok l → ⊥
unfolding line_of is_printable words_of
nothing_accepted draft l e = true≢false (sym (ap is_ok e))

pub printable_of : (draft : Draft) (text : List ℕ) (l : Line) → line_of draft text ≡ Ok l → is_printable text ≡ true
unfolding line_of
printable_of draft text l e = by_test (is_printable text) (line_of_words draft (words_of text)) e
  where
    by_test : (b : Bool) (r : Result Line LineWhy) → (if b then r else Err why.Character) ≡ Ok l → b ≡ true
    by_test true r e = refl
    by_test false r e = absurd (true≢false (sym (ap is_ok e)))

pub no_feed : (text : List ℕ) → is_printable text ≡ true → AllByRecursion HasNoFeed text
unfolding is_printable
no_feed [] e = tt
no_feed (c ∷ text) e =
    let here : nat_le 32 c && nat_le c 126 ≡ true = left_true (nat_le 32 c && nat_le c 126) _ e in
    let least : 32 ≤ c = leb-true 32 c (left_true (nat_le 32 c) (nat_le c 126) here) in
    (omega (arith, least), no_feed text (right_true (nat_le 32 c && nat_le c 126) _ e))

pub cut_last : (front : List ℕ) → take (length (front ++ 10 ∷ []) - 1) (front ++ 10 ∷ []) ≡ front
cut_last front =
    let more : length (front ++ 10 ∷ []) ≡ length front + 1 = length-append front (10 ∷ []) in
    let len : length (front ++ 10 ∷ []) - 1 ≡ length front = omega (arith, more) in
    ap (λ k. take k (front ++ 10 ∷ [])) len ∙ take-append_seam front (10 ∷ [])

-- a canonical line ends with its line feed
feed_last : (n : ℕ) (l : Line) → ((front : List ℕ) × (line_for n l ≡ front ++ 10 ∷ [])) ⊎ (line_for n l ≡ [])
unfolding schedule_line
feed_last n (says.Service kind) = inl (codes "service" ++ spaced (service_text kind ∷ []), sym (append_assoc (codes "service") (spaced (service_text kind ∷ [])) (10 ∷ [])))
feed_last n (says.Server at) =
    inl (codes "server" ++ spaced (address_text at.ip at.port ∷ []), sym (append_assoc (codes "server") (spaced (address_text at.ip at.port ∷ [])) (10 ∷ [])))
feed_last n (says.Profile Plain) = inr refl
feed_last n (says.Profile Wan) = inl (codes "profile wan", refl)
feed_last n says.Twin = inr refl
feed_last n (says.Marks every) = inr refl
feed_last n (says.Lasting waits) = inr refl
feed_last n (says.Client c) =
    let words : List (List ℕ) = decimal n ∷ key_text c.key ∷ decimal c.isn ∷ script_text c.script ∷ [] in
    inl (codes "client" ++ spaced words, sym (append_assoc (codes "client") (spaced words) (10 ∷ [])))
feed_last n (says.Event e) = inl (asked_line e, refl)

not_empty : (draft : Draft) (l : Line) (front : List ℕ) → line_of draft front ≡ Ok l → 0 < length front
not_empty draft l [] e = absurd (nothing_accepted draft l e)
not_empty draft l (c ∷ front) e = omega arith

pub front_of : (draft : Draft) (l : Line) (text : List ℕ) → IsCanonical draft l text → HasFront draft l text
front_of draft l text c = by_case (feed_last (next_client draft) l)
  where
    fronted : (front : List ℕ) → text ≡ front ++ 10 ∷ [] → HasFront draft l text
    fronted front whole =
        let same : take (length text - 1) text ≡ front = ap (λ t. take (length t - 1) t) whole ∙ cut_last front in
        let read : line_of draft front ≡ Ok l = ap (line_of draft) (sym same) ∙ c.accepted in
        record { front = front; whole = whole; clean = no_feed front (printable_of draft front l read); some = not_empty draft l front read; accepted = read }

    by_case : ((front : List ℕ) × (line_for (next_client draft) l ≡ front ++ 10 ∷ [])) ⊎ (line_for (next_client draft) l ≡ []) → HasFront draft l text
    by_case (inl (front, e)) = fronted front (c.spelled ∙ e)
    by_case (inr e) =
        let none : text ≡ [] = c.spelled ∙ e in
        absurd (nothing_accepted draft l (ap (λ t. line_of draft (take (length t - 1) t)) (sym none) ∙ c.accepted))
