-- How texts are cut and trimmed.
use Rattle.std.proofs.Common.{◌≡◌, ℕ, ◌+◌, ◌<◌, ◌≤◌, ◌==◌, Bool, true, false, List, length, take, drop, get_or, length-take, refl, sym, ◌∙◌, ap, arith}
use Rattle.std.specs.Prelude.{◌↔◌, IsTrue, map, ◌||◌, bytes_eq, codes}
use Rattle.std.proofs.lemmas.List.Elements.{All-from_get_or}
use Rattle.std.specs.List.{All, position_or_len, slice_split, list_any}
use Rattle.std.specs.Char.{to_ascii_lowercase}
use Rattle.std.specs.Str.{str_to_ascii_lowercase}
use Rattle.std.specs.Cmp.Lexicographic.{same_text}
use Rattle.std.proofs.lemmas.List.{length-map}
use Rattle.std.proofs.lemmas.Slice.Eq.{bytes_eq-Decides}
use Rattle.std.proofs.Common.{rules}
use Rattle.std.proofs.lemmas.Bool.{false_from_ne_true}
use Rattle.std.proofs.lemmas.List.Sums.{position_or_len_is}
use Rattle.std.proofs.lemmas.List.Splits.{slice_split_first, slice_split_none}
use Rattle.web_service.specs.Text.{trimmed, same_word}

-- the first place of a byte, as a search tells it
pub place_found : (byte : ℕ) (bytes : List ℕ) (k : ℕ) → k < length bytes → ((j : ℕ) → 0 ≤ j → j < k → (get_or bytes j 0 == byte) ≡ true → ⊥) → (get_or bytes k 0 == byte) ≡ true
    → position_or_len (λ b. b == byte) bytes ≡ k
place_found byte bytes k within none here =
    position_or_len_is (λ b. b == byte) bytes k 0 (omega arith) (λ j below. false_from_ne_true (get_or bytes j 0 == byte) (none j (omega arith) below)) (λ _. here)

-- and where it isn't found, the end
pub place_none : (byte : ℕ) (bytes : List ℕ) → ((j : ℕ) → 0 ≤ j → j < length bytes → (get_or bytes j 0 == byte) ≡ true → ⊥) → position_or_len (λ b. b == byte) bytes ≡ length bytes
place_none byte bytes none =
    position_or_len_is (λ b. b == byte) bytes (length bytes) 0 (omega arith) (λ j below. false_from_ne_true (get_or bytes j 0 == byte) (none j (omega arith) below)) (λ less. absurd (omega arith))

-- the test on a list with commas, at its first comma
abbrev pub any_option : List ℕ → List ℕ → Bool
any_option word bytes = list_any (λ part. same_word (trimmed part) word) (slice_split (λ b. b == 44) bytes)

pub option_first : (word bytes : List ℕ) (k : ℕ) → k < length bytes → ((j : ℕ) → 0 ≤ j → j < k → (get_or bytes j 0 == 44) ≡ true → ⊥) → (get_or bytes k 0 == 44) ≡ true
    → any_option word bytes ≡ (same_word (trimmed (take k bytes)) word || any_option word (drop (k + 1) bytes))
option_first word bytes k within none here =
    let place = place_found 44 bytes k within none here in
    let less : position_or_len (λ b. b == 44) bytes < length bytes = omega arith in
    ap (list_any (λ part. same_word (trimmed part) word)) (slice_split_first (λ b. b == 44) bytes 0 less)
    ∙ ap (λ (n : ℕ). same_word (trimmed (take n bytes)) word || any_option word (drop (n + 1) bytes)) place

-- what is left after the last comma is the last part
pub or_nothing : (b : Bool) → (b || false) ≡ b
or_nothing true = refl
or_nothing false = refl

pub option_last : (word bytes : List ℕ) → ((j : ℕ) → 0 ≤ j → j < length bytes → (get_or bytes j 0 == 44) ≡ true → ⊥) → any_option word bytes ≡ same_word (trimmed bytes) word
option_last word bytes none =
    let all : All (λ b. (b == 44) ≡ false) bytes = All-from_get_or (λ b. (b == 44) ≡ false) bytes 0 (λ j below. false_from_ne_true (get_or bytes j 0 == 44) (none j (omega arith) below)) in
    ap (list_any (λ part. same_word (trimmed part) word)) (slice_split_none (λ b. b == 44) bytes all) ∙ or_nothing (same_word (trimmed bytes) word)

-- two words are equal where they are in lower case
pub same_tested : (a b : List ℕ) (r : Bool) → (IsTrue r ↔ (map to_ascii_lowercase a ≡ map to_ascii_lowercase b)) → r ≡ same_word a b
unfolding same_word
same_tested a b r test = search (rules, bytes_eq-Decides)

-- what has fewer bytes than a scheme doesn't begin with one
pub short_scheme : (target : List ℕ) → length target < 7 → same_word (take 7 target) (codes "http://") ≡ false
unfolding same_word
short_scheme target short =
    let scheme = str_to_ascii_lowercase (codes "http://") in
    let start = str_to_ascii_lowercase (take 7 target) in
    let size : length start ≡ length (take 7 target) = length-map (take 7 target) to_ascii_lowercase in
    let taken = length-take 7 target in
    false_from_ne_true (bytes_eq start scheme) (λ is. let same : length start ≡ 7 = ap (length {A = ℕ}) (same_text start scheme (sym is)) in absurd (omega arith))
