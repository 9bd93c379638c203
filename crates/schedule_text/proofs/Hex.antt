-- Bytes turned into hexadecimal part by part, and back.
use Rattle.std.proofs.Common.{◌≡◌, ℕ, ◌+◌, ◌*◌, ◌%◌, true, List, [], ◌∷◌, ◌++◌, length, take, drop, refl, sym, ap, ap₂, ◌∙◌, arith, append_assoc, append-nil}
use Rattle.std.proofs.lemmas.List.{take-append-drop}
use Rattle.hex.specs.Hex.{encode_lower, encode_with, hex_digit_value, pair_value, decode_pairs, decode_of}
use Rattle.hex.specs.declared.error.FromHexError.{FromHexError}
use Rattle.hex.proofs.HexLemmas.{decode_of-even}
use Rattle.std.specs.Prelude.{Some, Result, Ok}
use Rattle.std.specs.Char.{digit_value, is_ascii_hexdigit}
use Rattle.std.specs.List.{list_all}
use Rattle.std.proofs.lemmas.Grind.{common_steps}
use Rattle.ft_model.specs.Spelling.{hex_bytes}
use Rattle.ft_io.proofs.Booleans.{left_true, right_true}

pub encode_append : (t xs ys : List ℕ) → encode_with t (xs ++ ys) ≡ encode_with t xs ++ encode_with t ys
unfolding encode_with
encode_append t [] ys = refl
encode_append t (x ∷ xs) ys = rw (encode_append t xs ys) refl

-- a part is written, and what is after it is left
pub part_written : (line new rest part behind digits whole : List ℕ) (n : ℕ) → new ≡ line ++ digits → digits ≡ encode_lower part → part ≡ take n rest → behind ≡ drop n rest
    → line ++ encode_lower rest ≡ whole → new ++ encode_lower behind ≡ whole
part_written line new rest part behind digits whole n written is front back e =
    ap (λ l. l ++ encode_lower behind) written ∙ append_assoc line digits (encode_lower behind)
    ∙ ap (λ d. line ++ (d ++ encode_lower behind)) is
    ∙ ap (λ d. line ++ d) (sym (encode_append _ part behind) ∙ ap encode_lower (ap₂ (λ a b. a ++ b) front back ∙ take-append-drop n rest))
    ∙ e

-- nothing is left
pub all_written : (line rest whole : List ℕ) → length rest ≡ 0 → line ++ encode_lower rest ≡ whole → line ≡ whole
unfolding encode_with
all_written line [] whole none e = sym (append-nil line) ∙ e
all_written line (x ∷ rest) whole none e = absurd (omega arith)

-- a digit has one value
digit_read : (c : ℕ) → is_ascii_hexdigit c ≡ true → hex_digit_value c ≡ Some (digit_value c)
digit_read c h = grind (arith, common_steps)

pair_read : (high low i : ℕ) → is_ascii_hexdigit high ≡ true → is_ascii_hexdigit low ≡ true → pair_value high low i ≡ Ok (16 * digit_value high + digit_value low)
pair_read high low i h l = by_values high low i (digit_value high) (digit_value low) (digit_read high h) (digit_read low l)
  where
    by_values : (high low i a b : ℕ) → hex_digit_value high ≡ Some a → hex_digit_value low ≡ Some b → pair_value high low i ≡ Ok (16 * a + b)
    by_values high low i a b e f = rw (e, f) (ap (λ byte. Ok byte) (omega arith))

pair_first : (i high low byte : ℕ) (rest bytes : List ℕ) → pair_value high low i ≡ Ok byte → decode_pairs (i + 2) rest ≡ Ok bytes → decode_pairs i (high ∷ low ∷ rest) ≡ Ok (byte ∷ bytes)
unfolding decode_pairs
pair_first i high low byte rest bytes e f = rw (e, f) refl

pairs_read : (i : ℕ) (digits : List ℕ) → list_all is_ascii_hexdigit digits ≡ true → length digits % 2 ≡ 0 → decode_pairs i digits ≡ Ok (hex_bytes digits)
unfolding decode_pairs hex_bytes
pairs_read i [] h even = refl
pairs_read i (high ∷ []) h even = absurd (omega arith)
pairs_read i (high ∷ low ∷ rest) h even =
    let more = right_true (is_ascii_hexdigit high) _ h in
    pair_first i high low _ rest _ (pair_read high low i (left_true _ _ h) (left_true _ _ more)) (pairs_read (i + 2) rest (right_true (is_ascii_hexdigit low) _ more) (omega (arith, even)))

-- pairs of digits are read as the bytes that they write
pub digits_read : (digits bytes : List ℕ) → list_all is_ascii_hexdigit digits ≡ true → length digits % 2 ≡ 0 → decode_of digits ≡ Ok bytes → bytes ≡ hex_bytes digits
digits_read digits bytes h even read =
    let same : ◌≡◌ {A = Result (List ℕ) FromHexError} (Ok bytes) (Ok (hex_bytes digits)) = sym read ∙ decode_of-even digits even ∙ pairs_read 0 digits h even in cc
