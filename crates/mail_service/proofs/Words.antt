-- A list of words is tested word by word.
use Rattle.std.proofs.Common.{◌≡◌, ℕ, ◌+◌, ◌<◌, ◌≤◌, ◌==◌, Bool, true, false, List, length, take, drop, get_or, ◌∙◌, ap, refl, arith}
use Rattle.std.specs.Prelude.{◌||◌}
use Rattle.std.specs.List.{All, position_or_len, slice_split, list_any}
use Rattle.std.proofs.lemmas.Bool.{false_from_ne_true}
use Rattle.std.proofs.lemmas.List.Elements.{All-from_get_or}
use Rattle.std.proofs.lemmas.List.Splits.{slice_split_first, slice_split_none}
use Rattle.web_service.proofs.Texts.{place_found, or_nothing}
use Rattle.mail_service.specs.declared.command.Parameter.{Parameter}
use Rattle.mail_service.specs.Command.{parameter_of, is_kind, any_word}

-- up to the first space, and after it
pub word_first : (kind : Parameter) (words : List ℕ) (k : ℕ) → k < length words → ((j : ℕ) → 0 ≤ j → j < k → (get_or words j 0 == 32) ≡ true → ⊥) → (get_or words k 0 == 32) ≡ true
    → any_word kind words ≡ (is_kind kind (parameter_of (take k words)) || any_word kind (drop (k + 1) words))
word_first kind words k within none here =
    let place = place_found 32 words k within none here in
    let less : position_or_len (λ b. b == 32) words < length words = omega (arith, place, within) in
    ap (list_any (λ word. is_kind kind (parameter_of word))) (slice_split_first (λ b. b == 32) words 0 less)
    ∙ ap (λ (n : ℕ). is_kind kind (parameter_of (take n words)) || any_word kind (drop (n + 1) words)) place

-- what is left after the last space is the last word
pub word_last : (kind : Parameter) (words : List ℕ) → ((j : ℕ) → 0 ≤ j → j < length words → (get_or words j 0 == 32) ≡ true → ⊥) → any_word kind words ≡ is_kind kind (parameter_of words)
word_last kind words none =
    let all : All (λ b. (b == 32) ≡ false) words = All-from_get_or (λ b. (b == 32) ≡ false) words 0 (λ j below. false_from_ne_true (get_or words j 0 == 32) (none j (omega arith) below)) in
    ap (list_any (λ word. is_kind kind (parameter_of word))) (slice_split_none (λ b. b == 32) words all) ∙ or_nothing (is_kind kind (parameter_of words))
