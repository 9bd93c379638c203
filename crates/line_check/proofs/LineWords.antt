-- A line is its words, each after a space, and a line feed.
use Rattle.std.proofs.Common.{◌≡◌, ℕ, ◌+◌, ◌-◌, ◌<◌, ◌≤◌, ◌^◌, ◌==◌, true, false, Option, None, Some, decimal, true≢false, List, [], ◌∷◌, ◌++◌, take, drop, length, length-append, append_assoc, refl, sym, ap, ◌∙◌, arith}
use Rattle.std.specs.Prelude.{All, nat_lt}
use Rattle.std.specs.List.{AllByRecursion, join_with_byte, slice_split}
use Rattle.std.specs.Str.{bytes_eq}
use Rattle.std.specs.Cmp.Derive.{both_true}
use Rattle.std.proofs.lemmas.Bool.{ne_eqb}
use Rattle.std.proofs.lemmas.List.{take-append-drop}
use Rattle.std.proofs.lemmas.List.Elements.{All-nil, All-cons}
use Rattle.std.proofs.lemmas.List.Splits.{slice_split_none, slice_split_at}
use Rattle.std.proofs.Math.Seq.{drop-append_seam}
use Rattle.ft_io.proofs.Booleans.{right_true}
use Rattle.ft_model.specs.Readable.{IsWord}
use Rattle.ft_model.specs.Texts.{line}
use Rattle.ft_model.specs.Words.{is}
use Rattle.schedule_text.proofs.RoundTrip.{spaced_joined}
use Rattle.line_check.specs.Words.{number_word, is_numbered, ends_with_feed}
use Rattle.line_check.proofs.Spelled.{same_bytes, number_reported, number_shown}

-- joined words are cut apart again
no_space : (word : List ℕ) → IsWord word → All (λ c. is 32 c ≡ false) word
no_space [] h = All-nil (λ c. is 32 c ≡ false)
no_space (c ∷ word) h = All-cons (λ c. is 32 c ≡ false) c word (ne_eqb c 32 (λ e. omega (arith, e, h.0))) (no_space word h.1)

pub joined_cut : (first : List ℕ) (words : List (List ℕ)) → AllByRecursion IsWord (first ∷ words) → slice_split (is 32) (join_with_byte 32 (first ∷ words)) ≡ first ∷ words
joined_cut first [] h = slice_split_none (is 32) first (no_space first h.0)
joined_cut first (next ∷ words) h =
    slice_split_at (is 32) first 32 (join_with_byte 32 (next ∷ words)) (no_space first h.0) refl ∙ ap (λ ws. first ∷ ws) (joined_cut next words h.1)

pub line_joined : (first word : List ℕ) (words : List (List ℕ)) → line first (word ∷ words) ≡ join_with_byte 32 (first ∷ word ∷ words) ++ 10 ∷ []
line_joined first word words =
    ap (λ rest. first ++ (rest ++ 10 ∷ [])) (spaced_joined word words) ∙ sym (append_assoc first (32 ∷ join_with_byte 32 (word ∷ words)) (10 ∷ []))

pub feed_shown : (front : List ℕ) → ends_with_feed (front ++ 10 ∷ []) ≡ true
feed_shown front =
    let more : length (front ++ 10 ∷ []) ≡ length front + 1 = length-append front (10 ∷ []) in
    let len : length (front ++ 10 ∷ []) - 1 ≡ length front = omega (arith, more) in
    let some : nat_lt 0 (length (front ++ 10 ∷ [])) ≡ true = grind (arith, more) in
    both_true some (ap (λ w. bytes_eq w (10 ∷ [])) (ap (λ k. drop k (front ++ 10 ∷ [])) len ∙ drop-append_seam front (10 ∷ [])))

pub feed_reported : (text : List ℕ) → ends_with_feed text ≡ true → text ≡ take (length text - 1) text ++ 10 ∷ []
feed_reported text e =
    sym (take-append-drop (length text - 1) text) ∙ ap (λ t. take (length text - 1) text ++ t) (same_bytes (drop (length text - 1) text) (10 ∷ []) (right_true (nat_lt 0 (length text)) _ e))

-- a line's number
pub numbered_reported : (n : ℕ) (word : List ℕ) → is_numbered n (number_word (2 ^ 32 - 1) word) ≡ true → word ≡ decimal n
numbered_reported n word e = by_number (number_word (2 ^ 32 - 1) word) refl e
  where
    by_number : (o : Option ℕ) → number_word (2 ^ 32 - 1) word ≡ o → is_numbered n o ≡ true → word ≡ decimal n
    by_number None f g = absurd (true≢false (sym g))
    by_number (Some m) f g = let same : m ≡ n = grind (arith, g) in (number_reported (2 ^ 32 - 1) m word f).1 ∙ ap decimal same

pub numbered_shown : (n : ℕ) → n ≤ 2 ^ 32 - 1 → is_numbered n (number_word (2 ^ 32 - 1) (decimal n)) ≡ true
numbered_shown n below =
    let small : n < 2 ^ 64 = omega (arith, below) in
    let itself : (n == n) ≡ true = grind arith in
    ap (is_numbered n) (number_shown (2 ^ 32 - 1) n below small) ∙ itself
