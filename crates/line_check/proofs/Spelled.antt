-- A word passes the test of its kind exactly where it is the spelling of a value in range.
use Rattle.std.proofs.Common.{◌≡◌, ℕ, zero, suc, ◌<◌, ◌≤◌, ◌+◌, ◌-◌, ◌*◌, ◌/◌, ◌%◌, ◌^◌, ◌==◌, Bool, true, false, if◌then◌else◌, Option, None, Some, List, [], ◌∷◌, ◌++◌, codes, decimal, length, map, refl, sym, ap, ap₂, ◌∙◌, subst, arith, true≢false}
use Rattle.std.specs.Prelude.{nat_le, nat_lt, ◌&&◌, ◌||◌, is_some, slice_index, All}
use Rattle.std.specs.Char.{is_ascii_digit}
use Rattle.std.specs.List.{AllByRecursion, join_with_byte, list_all, slice_split}
use Rattle.std.specs.Option.{option_and_then}
use Rattle.std.specs.Str.{bytes_eq}
use Rattle.std.specs.Str.Parse.{digits_value}
use Rattle.std.specs.Cmp.Derive.{both_true}
use Rattle.std.proofs.lemmas.Bool.{le-leb, leb-true, ltb-true, ne_eqb}
use Rattle.std.proofs.lemmas.Fmt.{decimal_is_IsNumeral, decimal_nonempty, length-decimal-le}
use Rattle.std.proofs.lemmas.List.Elements.{All-nil, All-cons}
use Rattle.std.proofs.lemmas.List.Splits.{slice_split_none, slice_split_at, join_with_byte-slice_split, length-slice_split}
use Rattle.std.proofs.lemmas.Slice.Eq.{bytes_eq-Decides}
use Rattle.hex.specs.Hex.{encode_lower, encode_with, lower_digits}
use Rattle.ft_io.proofs.Booleans.{left_true, right_true}
use Rattle.ft_io.specs.declared.Key.{Key}
use Rattle.ft_io.proofs.Choices.{by_cases}
use Rattle.server_trait.specs.Service.{AreBytes}
use Rattle.ft_model.specs.Readable.{FitsU64, FitsKey}
use Rattle.ft_model.specs.Spelling.{numeral, number_of, within}
use Rattle.ft_model.specs.Texts.{octets, hex_text, list_text, address_text, key_text, mss_text}
use Rattle.ft_model.specs.Words.{is}
use Rattle.ft_model.proofs.ReportParts.{or_dash_cons, joined_behind, list_text_cons}
use Rattle.ft_model.proofs.ReportWords.{IsDigit, all_append, all_weaken, digits_decimal}
use Rattle.ft_model.proofs.Fetching.{chosen_is}
use Rattle.schedule_text.proofs.RoundTrip.{digits_of}
use Rattle.line_check.specs.Words.{as_printed, number_word, is_number, is_lower_digit, is_hex_word, byte_count, lens_count, are_octets, are_address, is_address, option_size}

pub decide : (b : Bool) → (b ≡ true → ⊥) → b ≡ false
decide true no_way = absurd (no_way refl)
decide false no_way = refl

abbrev pub value_or : {A : Type 0} → A → Option A → A
value_or other (Some x) = x
value_or other None = other

abbrev is_none : {A : Type 0} → Option A → Bool
is_none None = true
is_none (Some x) = false

pub same_bytes : (xs ys : List ℕ) → bytes_eq xs ys ≡ true → xs ≡ ys
same_bytes xs ys = (bytes_eq-Decides xs ys).0

pub bytes_same : (xs : List ℕ) → bytes_eq xs xs ≡ true
bytes_same xs = (bytes_eq-Decides xs xs).1 refl

-- numbers
within_most : (most : ℕ) (o : Option ℕ) (n : ℕ) → option_and_then (within 0 most) o ≡ Some n → n ≤ most
within_most most None n e = absurd (cc)
within_most most (Some m) n e =
    let c : (nat_le 0 m && nat_le m most ≡ true) × (m ≡ n) = chosen_is (nat_le 0 m && nat_le m most) m n e in
    let same : m ≡ n = c.1 in
    let below : m ≤ most = leb-true m most (right_true (nat_le 0 m) (nat_le m most) c.0) in
    omega (arith, same, below)

pub number_reported : (most n : ℕ) (word : List ℕ) → number_word most word ≡ Some n → (n ≤ most) × (word ≡ decimal n)
unfolding number_word number_of
number_reported most n word e = by_number (option_and_then (within 0 most) (numeral 20 word)) refl e
  where
    by_number : (o : Option ℕ) → option_and_then (within 0 most) (numeral 20 word) ≡ o → as_printed o word ≡ Some n → (n ≤ most) × (word ≡ decimal n)
    by_number None f e = absurd (cc)
    by_number (Some m) f e =
        let c : (bytes_eq (decimal m) word ≡ true) × (m ≡ n) = chosen_is (bytes_eq (decimal m) word) m n e in
        (within_most most (numeral 20 word) n (f ∙ ap Some c.1), sym (same_bytes (decimal m) word c.0) ∙ ap decimal c.1)

pub number_shown : (most n : ℕ) → n ≤ most → n < 2 ^ 64 → number_word most (decimal n) ≡ Some n
unfolding number_word number_of numeral
number_shown most n high fits =
    let some : nat_le 1 (length (decimal n)) ≡ true = le-leb 1 (length (decimal n)) (omega (arith, decimal_nonempty n fits)) in
    let few : nat_le (length (decimal n)) 20 ≡ true = le-leb (length (decimal n)) 20 (length-decimal-le 20 n (omega arith) (omega (arith, fits)) fits) in
    let digits : list_all is_ascii_digit (decimal n) ≡ true = digits_of (decimal n) (digits_decimal n fits) in
    let value : digits_value 10 (decimal n) ≡ n = (decimal_is_IsNumeral n fits).1 in
    let above : nat_le 0 n ≡ true = le-leb 0 n (omega arith) in
    let below : nat_le n most ≡ true = le-leb n most high in
    let again : bytes_eq (decimal n) (decimal n) ≡ true = bytes_same (decimal n) in
    rw (some, few, digits, value, above, below, again) refl

pub is_number_reported : (most : ℕ) (word : List ℕ) → is_number most word ≡ true → (n : ℕ) × (n ≤ most) × (word ≡ decimal n)
is_number_reported most word e = by_number (number_word most word) refl e
  where
    by_number : (o : Option ℕ) → number_word most word ≡ o → is_some o ≡ true → (n : ℕ) × (n ≤ most) × (word ≡ decimal n)
    by_number None f e = absurd (true≢false (sym e))
    by_number (Some n) f e = let t : (n ≤ most) × (word ≡ decimal n) = number_reported most n word f in (n, t.0, t.1)

pub is_number_shown : (most n : ℕ) → n ≤ most → n < 2 ^ 64 → is_number most (decimal n) ≡ true
is_number_shown most n high fits = ap is_some (number_shown most n high fits)

-- hexadecimal digits
table : (k : ℕ) → k < 16 → slice_index lower_digits k ≡ (if nat_lt k 10 then 48 + k else 87 + k)
table zero h = refl
table (suc zero) h = refl
table (suc (suc zero)) h = refl
table (suc (suc (suc zero))) h = refl
table (suc (suc (suc (suc zero)))) h = refl
table (suc (suc (suc (suc (suc zero))))) h = refl
table (suc (suc (suc (suc (suc (suc zero)))))) h = refl
table (suc (suc (suc (suc (suc (suc (suc zero))))))) h = refl
table (suc (suc (suc (suc (suc (suc (suc (suc zero)))))))) h = refl
table (suc (suc (suc (suc (suc (suc (suc (suc (suc zero))))))))) h = refl
table (suc (suc (suc (suc (suc (suc (suc (suc (suc (suc zero)))))))))) h = refl
table (suc (suc (suc (suc (suc (suc (suc (suc (suc (suc (suc zero))))))))))) h = refl
table (suc (suc (suc (suc (suc (suc (suc (suc (suc (suc (suc (suc zero)))))))))))) h = refl
table (suc (suc (suc (suc (suc (suc (suc (suc (suc (suc (suc (suc (suc zero))))))))))))) h = refl
table (suc (suc (suc (suc (suc (suc (suc (suc (suc (suc (suc (suc (suc (suc zero)))))))))))))) h = refl
table (suc (suc (suc (suc (suc (suc (suc (suc (suc (suc (suc (suc (suc (suc (suc zero))))))))))))))) h = refl
table (suc (suc (suc (suc (suc (suc (suc (suc (suc (suc (suc (suc (suc (suc (suc (suc k)))))))))))))))) h = absurd (omega (arith, h))

glyph_lower : (k : ℕ) → k < 16 → is_lower_digit (slice_index lower_digits k) ≡ true
glyph_lower zero h = refl
glyph_lower (suc zero) h = refl
glyph_lower (suc (suc zero)) h = refl
glyph_lower (suc (suc (suc zero))) h = refl
glyph_lower (suc (suc (suc (suc zero)))) h = refl
glyph_lower (suc (suc (suc (suc (suc zero))))) h = refl
glyph_lower (suc (suc (suc (suc (suc (suc zero)))))) h = refl
glyph_lower (suc (suc (suc (suc (suc (suc (suc zero))))))) h = refl
glyph_lower (suc (suc (suc (suc (suc (suc (suc (suc zero)))))))) h = refl
glyph_lower (suc (suc (suc (suc (suc (suc (suc (suc (suc zero))))))))) h = refl
glyph_lower (suc (suc (suc (suc (suc (suc (suc (suc (suc (suc zero)))))))))) h = refl
glyph_lower (suc (suc (suc (suc (suc (suc (suc (suc (suc (suc (suc zero))))))))))) h = refl
glyph_lower (suc (suc (suc (suc (suc (suc (suc (suc (suc (suc (suc (suc zero)))))))))))) h = refl
glyph_lower (suc (suc (suc (suc (suc (suc (suc (suc (suc (suc (suc (suc (suc zero))))))))))))) h = refl
glyph_lower (suc (suc (suc (suc (suc (suc (suc (suc (suc (suc (suc (suc (suc (suc zero)))))))))))))) h = refl
glyph_lower (suc (suc (suc (suc (suc (suc (suc (suc (suc (suc (suc (suc (suc (suc (suc zero))))))))))))))) h = refl
glyph_lower (suc (suc (suc (suc (suc (suc (suc (suc (suc (suc (suc (suc (suc (suc (suc (suc k)))))))))))))))) h = absurd (omega (arith, h))

digit_reported : (c : ℕ) → is_lower_digit c ≡ true → (k : ℕ) × (k < 16) × (slice_index lower_digits k ≡ c)
digit_reported c e = by_cases (nat_le 48 c && nat_le c 57)
    (λ d. let low : 48 ≤ c = leb-true 48 c (left_true (nat_le 48 c) (nat_le c 57) d) in
    let high : c ≤ 57 = leb-true c 57 (right_true (nat_le 48 c) (nat_le c 57) d) in
    let small : c - 48 < 16 = omega (arith, low, high) in
    let first : nat_lt (c - 48) 10 ≡ true = grind (arith, low, high) in
    let value : 48 + (c - 48) ≡ c = omega (arith, low) in
    (c - 48, small, table (c - 48) small ∙ (ap (λ b. if b then 48 + (c - 48) else 87 + (c - 48)) first ∙ value)))
    (λ d. let f : nat_le 97 c && nat_le c 102 ≡ true = ap (λ b. b || (nat_le 97 c && nat_le c 102)) (sym d) ∙ e in
    let low : 97 ≤ c = leb-true 97 c (left_true (nat_le 97 c) (nat_le c 102) f) in
    let high : c ≤ 102 = leb-true c 102 (right_true (nat_le 97 c) (nat_le c 102) f) in
    let small : c - 87 < 16 = omega (arith, low, high) in
    let later : nat_lt (c - 87) 10 ≡ false = grind (arith, low, high) in
    let value : 87 + (c - 87) ≡ c = omega (arith, low) in
    (c - 87, small, table (c - 87) small ∙ (ap (λ b. if b then 48 + (c - 87) else 87 + (c - 87)) later ∙ value)))

hex_reported : (word : List ℕ) → list_all is_lower_digit word ≡ true → length word % 2 ≡ 0
    → (bytes : List ℕ) × AreBytes bytes × (2 * length bytes ≡ length word) × (encode_lower bytes ≡ word)
unfolding encode_with
hex_reported [] e even = ([], tt, refl, refl)
hex_reported (c ∷ []) e even = absurd (omega (arith, even))
hex_reported (high ∷ low ∷ rest) e even =
    let more : is_lower_digit low && list_all is_lower_digit rest ≡ true = right_true (is_lower_digit high) _ e in
    let a : (k : ℕ) × (k < 16) × (slice_index lower_digits k ≡ high) = digit_reported high (left_true (is_lower_digit high) _ e) in
    let b : (k : ℕ) × (k < 16) × (slice_index lower_digits k ≡ low) = digit_reported low (left_true (is_lower_digit low) _ more) in
    let less : length rest % 2 ≡ 0 = omega (arith, even) in
    let others : (bytes : List ℕ) × AreBytes bytes × (2 * length bytes ≡ length rest) × (encode_lower bytes ≡ rest) = hex_reported rest (right_true (is_lower_digit low) _ more) less in
    let byte : ℕ = 16 * a.0 + b.0 in
    let small : byte < 256 = omega (arith, a.1, b.1) in
    let first : byte / 16 ≡ a.0 = omega (arith, b.1) in
    let second : byte % 16 ≡ b.0 = omega (arith, b.1) in
    let count : 2 * length (byte ∷ others.0) ≡ length (high ∷ low ∷ rest) = omega (arith, others.2) in (
      byte ∷ others.0,
      (small, others.1),
      count,
      ap₂ (λ x y. x ∷ y) (ap (slice_index lower_digits) first ∙ a.2) (ap₂ (λ x y. x ∷ y) (ap (slice_index lower_digits) second ∙ b.2) others.3),
    )

hex_shown : (bytes : List ℕ) → AreBytes bytes → (list_all is_lower_digit (encode_lower bytes) ≡ true) × (length (encode_lower bytes) ≡ 2 * length bytes)
unfolding encode_with
hex_shown [] h = (refl, refl)
hex_shown (b ∷ bytes) h =
    let small : b < 256 = h.0 in
    let high : b / 16 < 16 = omega (arith, small) in
    let low : b % 16 < 16 = omega arith in
    let others : (list_all is_lower_digit (encode_lower bytes) ≡ true) × (length (encode_lower bytes) ≡ 2 * length bytes) = hex_shown bytes h.1 in
    (both_true (glyph_lower (b / 16) high) (both_true (glyph_lower (b % 16) low) others.0), omega (arith, others.1))

hex_text_some : (b : ℕ) (bytes : List ℕ) → hex_text (b ∷ bytes) ≡ encode_lower (b ∷ bytes)
unfolding hex_text encode_with
hex_text_some b bytes = or_dash_cons _ _

pub byte_count_reported : (n : ℕ) (word : List ℕ) → byte_count word ≡ Some n → (bytes : List ℕ) × AreBytes bytes × (length bytes ≡ n) × (word ≡ hex_text bytes)
unfolding byte_count is_hex_word hex_text encode_with
byte_count_reported n word e = by_cases (bytes_eq word (codes "-"))
    (λ d. let f : Some 0 ≡ Some n = sym (ap (λ b. if b then Some 0 else (if (nat_lt 0 (length word) && (length word % 2 == 0) && list_all is_lower_digit word) then Some (length word / 2) else None)) d) ∙ e in
    let zero_is : 0 ≡ n = (chosen_is true 0 n f).1 in
    ([], tt, zero_is, same_bytes word (codes "-") d))
    (λ d. let f : (if (nat_lt 0 (length word) && (length word % 2 == 0) && list_all is_lower_digit word) then Some (length word / 2) else None) ≡ Some n =
    sym (ap (λ b. if b then Some 0 else (if (nat_lt 0 (length word) && (length word % 2 == 0) && list_all is_lower_digit word) then Some (length word / 2) else None)) d) ∙ e in
    let c = chosen_is (nat_lt 0 (length word) && (length word % 2 == 0) && list_all is_lower_digit word) (length word / 2) n f in
    let front : nat_lt 0 (length word) && (length word % 2 == 0) ≡ true = left_true (nat_lt 0 (length word) && (length word % 2 == 0)) (list_all is_lower_digit word) c.0 in
    let even : length word % 2 ≡ 0 = grind (arith, right_true (nat_lt 0 (length word)) (length word % 2 == 0) front) in
    let some : 0 < length word = ltb-true 0 (length word) (left_true (nat_lt 0 (length word)) (length word % 2 == 0) front) in
    let reported : (bytes : List ℕ) × AreBytes bytes × (2 * length bytes ≡ length word) × (encode_lower bytes ≡ word) =
    hex_reported word (right_true (nat_lt 0 (length word) && (length word % 2 == 0)) (list_all is_lower_digit word) c.0) even in
    let half : length word / 2 ≡ n = c.1 in
    let count : length reported.0 ≡ n = omega (arith, reported.2, half) in
    (reported.0, reported.1, count, sym reported.3 ∙ shown reported.0 (omega (arith, reported.2, some))))
  where
    shown : (bytes : List ℕ) → 0 < length bytes → encode_lower bytes ≡ hex_text bytes
    shown [] h = absurd (omega (arith, h))
    shown (b ∷ bytes) h = sym (hex_text_some b bytes)

no_bytes : byte_count (hex_text []) ≡ Some 0
unfolding byte_count hex_text encode_with
no_bytes = refl

pub byte_count_shown : (bytes : List ℕ) → AreBytes bytes → byte_count (hex_text bytes) ≡ Some (length bytes)
unfolding byte_count is_hex_word
byte_count_shown [] h = no_bytes
byte_count_shown (b ∷ bytes) h =
    let word : List ℕ = encode_lower (b ∷ bytes) in
    let s : (list_all is_lower_digit word ≡ true) × (length word ≡ 2 * length (b ∷ bytes)) = hex_shown (b ∷ bytes) h in
    let no_dash : bytes_eq word (codes "-") ≡ false =
    decide (bytes_eq word (codes "-")) (λ d. let one : length word ≡ 1 = ap length (same_bytes word (codes "-") d) in omega (arith, one, s.1)) in
    let some : nat_lt 0 (length word) ≡ true = grind (arith, s.1) in
    let even : (length word % 2 == 0) ≡ true = grind (arith, s.1) in
    let half : length word / 2 ≡ length (b ∷ bytes) = omega (arith, s.1) in
    ap byte_count (hex_text_some b bytes) ∙ rw (no_dash, some, even, s.0, half) refl

-- marks cut a word of digits apart
no_mark : (mark : ℕ) → mark < 48 → (word : List ℕ) → AllByRecursion IsDigit word → All (λ c. is mark c ≡ false) word
no_mark mark low [] h = All-nil (λ c. is mark c ≡ false)
no_mark mark low (c ∷ word) h = All-cons (λ c. is mark c ≡ false) c word (ne_eqb c mark (λ e. omega (arith, e, h.0.0, low))) (no_mark mark low word h.1)

number_cut : (mark n : ℕ) (rest : List ℕ) → mark < 48 → n < 2 ^ 64 → slice_split (is mark) (decimal n ++ mark ∷ rest) ≡ decimal n ∷ slice_split (is mark) rest
number_cut mark n rest low small =
    slice_split_at (is mark) (decimal n) mark rest (no_mark mark low (decimal n) (digits_decimal n small)) (itself mark)
  where
    itself : (m : ℕ) → (m == m) ≡ true
    itself m = grind arith

number_last : (mark n : ℕ) → mark < 48 → n < 2 ^ 64 → slice_split (is mark) (decimal n) ≡ decimal n ∷ []
number_last mark n low small = slice_split_none (is mark) (decimal n) (no_mark mark low (decimal n) (digits_decimal n small))

-- lists of lengths
abbrev pub AreLengths : List ℕ → Type 0
AreLengths lens = AllByRecursion (λ len. len ≤ 2048) lens

pieces_reported : (pieces : List (List ℕ)) → list_all (is_number 2048) pieces ≡ true → (lens : List ℕ) × AreLengths lens × (pieces ≡ map decimal lens)
pieces_reported [] e = ([], tt, refl)
pieces_reported (piece ∷ pieces) e =
    let first : (n : ℕ) × (n ≤ 2048) × (piece ≡ decimal n) = is_number_reported 2048 piece (left_true (is_number 2048 piece) _ e) in
    let others : (lens : List ℕ) × AreLengths lens × (pieces ≡ map decimal lens) = pieces_reported pieces (right_true (is_number 2048 piece) _ e) in
    (first.0 ∷ others.0, (first.1, others.1), ap₂ (λ x y. x ∷ y) first.2 others.2)

pieces_shown : (lens : List ℕ) → AreLengths lens → list_all (is_number 2048) (map decimal lens) ≡ true
pieces_shown [] h = refl
pieces_shown (len ∷ lens) h =
    let small : len < 2 ^ 64 = omega (arith, h.0) in
    both_true (is_number_shown 2048 len h.0 small) (pieces_shown lens h.1)

joined_cut : (len : ℕ) (lens : List ℕ) → AreLengths (len ∷ lens) → slice_split (is 44) (join_with_byte 44 (map decimal (len ∷ lens))) ≡ map decimal (len ∷ lens)
joined_cut len [] h = let small : len < 2 ^ 64 = omega (arith, h.0) in number_last 44 len (omega arith) small
joined_cut len (next ∷ lens) h =
    let small : len < 2 ^ 64 = omega (arith, h.0) in
    number_cut 44 len (join_with_byte 44 (map decimal (next ∷ lens))) (omega arith) small ∙ ap (λ ps. decimal len ∷ ps) (joined_cut next lens h.1)

length_map : (lens : List ℕ) → length (map decimal lens) ≡ length lens
length_map [] = refl
length_map (len ∷ lens) = let more : length (map decimal lens) ≡ length lens = length_map lens in omega (arith, more)

pieces_some : (p : ℕ → Bool) (word : List ℕ) → 0 < length (slice_split p word)
pieces_some p word = let count = length-slice_split p word in omega (arith, count)

pub lens_reported : (n : ℕ) (word : List ℕ) → lens_count word ≡ Some n → (lens : List ℕ) × AreLengths lens × (length lens ≡ n) × (word ≡ list_text lens)
unfolding lens_count
lens_reported n word e =
    let c : (list_all (is_number 2048) (slice_split (is 44) word) && nat_le (length (slice_split (is 44) word)) 512 ≡ true) × (length (slice_split (is 44) word) ≡ n) =
    chosen_is (list_all (is_number 2048) (slice_split (is 44) word) && nat_le (length (slice_split (is 44) word)) 512) (length (slice_split (is 44) word)) n e in
    let reported : (lens : List ℕ) × AreLengths lens × (slice_split (is 44) word ≡ map decimal lens) =
    pieces_reported (slice_split (is 44) word) (left_true (list_all (is_number 2048) (slice_split (is 44) word)) _ c.0) in
    let count : length (slice_split (is 44) word) ≡ length reported.0 = ap length reported.2 ∙ length_map reported.0 in
    let same : length reported.0 ≡ n = sym count ∙ c.1 in
    let some : 0 < length reported.0 = omega (arith, count, pieces_some (is 44) word) in
    (reported.0, reported.1, same, sym (join_with_byte-slice_split 44 word) ∙ (ap (join_with_byte 44) reported.2 ∙ listed reported.0 reported.1 some))
  where
    listed : (lens : List ℕ) → AreLengths lens → 0 < length lens → join_with_byte 44 (map decimal lens) ≡ list_text lens
    listed [] h some = absurd (omega (arith, some))
    listed (len ∷ lens) h some = let small : FitsU64 len = omega (arith, h.0) in joined_behind len lens ∙ sym (list_text_cons len lens small)

pub lens_shown : (lens : List ℕ) → AreLengths lens → 0 < length lens → length lens ≤ 512 → lens_count (list_text lens) ≡ Some (length lens)
unfolding lens_count
lens_shown [] h some few = absurd (omega (arith, some))
lens_shown (len ∷ lens) h some few =
    let within_room : nat_le (length (len ∷ lens)) 512 ≡ true = le-leb (length (len ∷ lens)) 512 few in
    let small : FitsU64 len = omega (arith, h.0) in
    let text : list_text (len ∷ lens) ≡ join_with_byte 44 (map decimal (len ∷ lens)) = list_text_cons len lens small ∙ sym (joined_behind len lens) in
    let cut : slice_split (is 44) (list_text (len ∷ lens)) ≡ map decimal (len ∷ lens) = ap (slice_split (is 44)) text ∙ joined_cut len lens h in
    rw (cut, pieces_shown (len ∷ lens) h, length_map (len ∷ lens), within_room) refl

-- addresses
four_reported : (pieces : List (List ℕ)) → are_octets pieces ≡ true
    → (a b c d : ℕ) × (a ≤ 255) × (b ≤ 255) × (c ≤ 255) × (d ≤ 255) × (pieces ≡ decimal a ∷ decimal b ∷ decimal c ∷ decimal d ∷ [])
four_reported [] e = absurd (true≢false (sym e))
four_reported (a ∷ []) e = absurd (true≢false (sym e))
four_reported (a ∷ b ∷ []) e = absurd (true≢false (sym e))
four_reported (a ∷ b ∷ c ∷ []) e = absurd (true≢false (sym e))
four_reported (a ∷ b ∷ c ∷ d ∷ x ∷ more) e = absurd (true≢false (sym e))
four_reported (a ∷ b ∷ c ∷ d ∷ []) e =
    let two : is_number 255 b && (is_number 255 c && is_number 255 d) ≡ true = right_true (is_number 255 a) _ e in
    let three : is_number 255 c && is_number 255 d ≡ true = right_true (is_number 255 b) _ two in
    let na : (n : ℕ) × (n ≤ 255) × (a ≡ decimal n) = is_number_reported 255 a (left_true (is_number 255 a) _ e) in
    let nb : (n : ℕ) × (n ≤ 255) × (b ≡ decimal n) = is_number_reported 255 b (left_true (is_number 255 b) _ two) in
    let nc : (n : ℕ) × (n ≤ 255) × (c ≡ decimal n) = is_number_reported 255 c (left_true (is_number 255 c) _ three) in
    let nd : (n : ℕ) × (n ≤ 255) × (d ≡ decimal n) = is_number_reported 255 d (right_true (is_number 255 c) _ three) in
    (na.0, nb.0, nc.0, nd.0, na.1, nb.1, nc.1, nd.1, ap₂ (λ x y. x ∷ y) na.2 (ap₂ (λ x y. x ∷ y) nb.2 (ap₂ (λ x y. x ∷ y) nc.2 (ap (λ x. x ∷ []) nd.2))))

two_reported : (pieces : List (List ℕ)) → are_address pieces ≡ true
    → (host port : List ℕ) × (pieces ≡ host ∷ port ∷ []) × (are_octets (slice_split (is 46) host) ≡ true) × (is_number 65535 port ≡ true)
two_reported [] e = absurd (true≢false (sym e))
two_reported (host ∷ []) e = absurd (true≢false (sym e))
two_reported (host ∷ port ∷ x ∷ more) e = absurd (true≢false (sym e))
two_reported (host ∷ port ∷ []) e = (host, port, refl, left_true (are_octets (slice_split (is 46) host)) _ e, right_true (are_octets (slice_split (is 46) host)) _ e)

octets_of : (a b c d ip : ℕ) → a ≤ 255 → b ≤ 255 → c ≤ 255 → d ≤ 255 → ip ≡ 16777216 * a + 65536 * b + 256 * c + d → octets ip ≡ a ∷ b ∷ c ∷ d ∷ []
octets_of a b c d ip ha hb hc hd e =
    let one : ip / 2 ^ 24 ≡ a = omega (arith, e, hb, hc, hd) in
    let two : ip / 2 ^ 16 % 256 ≡ b = omega (arith, e, ha, hb, hc, hd) in
    let three : ip / 2 ^ 8 % 256 ≡ c = omega (arith, e, ha, hb, hc, hd) in
    let four : ip % 256 ≡ d = omega (arith, e, hd) in
    ap₂ (λ x y. x ∷ y) one (ap₂ (λ x y. x ∷ y) two (ap₂ (λ x y. x ∷ y) three (ap (λ x. x ∷ []) four)))

pub address_reported : (word : List ℕ) → is_address word ≡ true → (key : Key) × FitsKey key × (word ≡ key_text key)
unfolding is_address address_text
address_reported word e =
    let parts = two_reported (slice_split (is 58) word) e in
    let host : List ℕ = parts.0 in
    let port : List ℕ = parts.1 in
    let four = four_reported (slice_split (is 46) host) parts.3 in
    let door : (n : ℕ) × (n ≤ 65535) × (port ≡ decimal n) = is_number_reported 65535 port parts.4 in
    let ip : ℕ = 16777216 * four.0 + 65536 * four.1 + 256 * four.2 + four.3 in
    let ip_fits : ip < 2 ^ 32 = omega (arith, four.4, four.5, four.6, four.7) in
    let port_fits : door.0 < 2 ^ 16 = omega (arith, door.1) in
    let whole : word ≡ host ++ 58 ∷ port = sym (join_with_byte-slice_split 58 word) ∙ ap (join_with_byte 58) parts.2 in
    let numbers : octets ip ≡ four.0 ∷ four.1 ∷ four.2 ∷ four.3 ∷ [] = octets_of four.0 four.1 four.2 four.3 ip four.4 four.5 four.6 four.7 refl in
    let front : host ≡ join_with_byte 46 (map decimal (octets ip)) =
    sym (join_with_byte-slice_split 46 host) ∙ (ap (join_with_byte 46) four.8 ∙ ap (λ ns. join_with_byte 46 (map decimal ns)) (sym numbers)) in
    (record { ip = ip; port = door.0 }, (ip_fits, port_fits), whole ∙ ap₂ (λ h p. h ++ 58 ∷ p) front door.2)

host_plain : (a b c d : ℕ) → a < 2 ^ 64 → b < 2 ^ 64 → c < 2 ^ 64 → d < 2 ^ 64
    → AllByRecursion (λ x. x < 58) (decimal a ++ 46 ∷ (decimal b ++ 46 ∷ (decimal c ++ 46 ∷ decimal d)))
host_plain a b c d ha hb hc hd =
    let P : ℕ → Type 0 = λ x. x < 58 in
    let plain : (n : ℕ) → n < 2 ^ 64 → AllByRecursion P (decimal n) = λ n h. all_weaken IsDigit P (λ x d. omega (arith, d.1)) (decimal n) (digits_decimal n h) in
    all_append P (decimal a) _ (plain a ha) (omega arith, all_append P (decimal b) _ (plain b hb) (omega arith, all_append P (decimal c) _ (plain c hc) (omega arith, plain d hd)))

no_colon : (word : List ℕ) → AllByRecursion (λ x. x < 58) word → All (λ c. is 58 c ≡ false) word
no_colon [] h = All-nil (λ c. is 58 c ≡ false)
no_colon (c ∷ word) h = All-cons (λ c. is 58 c ≡ false) c word (ne_eqb c 58 (λ e. omega (arith, e, h.0))) (no_colon word h.1)

pub address_shown : (key : Key) → FitsKey key → is_address (key_text key) ≡ true
unfolding is_address address_text
address_shown key h =
    let ip : key.ip < 2 ^ 32 = h.0 in
    let a : ℕ = key.ip / 2 ^ 24 in
    let b : ℕ = key.ip / 2 ^ 16 % 256 in
    let c : ℕ = key.ip / 2 ^ 8 % 256 in
    let d : ℕ = key.ip % 256 in
    let host : List ℕ = decimal a ++ 46 ∷ (decimal b ++ 46 ∷ (decimal c ++ 46 ∷ decimal d)) in
    let fa : a < 2 ^ 64 = omega (arith, ip) in
    let fb : b < 2 ^ 64 = omega arith in
    let fc : c < 2 ^ 64 = omega arith in
    let fd : d < 2 ^ 64 = omega arith in
    let fp : key.port < 2 ^ 64 = omega (arith, h.1) in
    let clear : All (λ c. is 58 c ≡ false) host = no_colon host (host_plain a b c d fa fb fc fd) in
    let door : slice_split (is 58) (decimal key.port) ≡ decimal key.port ∷ [] =
    slice_split_none (is 58) (decimal key.port) (no_colon (decimal key.port) (all_weaken IsDigit (λ x. x < 58) (λ x d. omega (arith, d.1)) (decimal key.port) (digits_decimal key.port fp))) in
    let outer : slice_split (is 58) (host ++ 58 ∷ decimal key.port) ≡ host ∷ decimal key.port ∷ [] =
    slice_split_at (is 58) host 58 (decimal key.port) clear refl ∙ ap (λ ps. host ∷ ps) door in
    let inner : slice_split (is 46) host ≡ decimal a ∷ decimal b ∷ decimal c ∷ decimal d ∷ [] =
    number_cut 46 a (decimal b ++ 46 ∷ (decimal c ++ 46 ∷ decimal d)) (omega arith) fa
    ∙ ap (λ ps. decimal a ∷ ps) (number_cut 46 b (decimal c ++ 46 ∷ decimal d) (omega arith) fb
    ∙ ap (λ ps. decimal b ∷ ps) (number_cut 46 c (decimal d) (omega arith) fc ∙ ap (λ ps. decimal c ∷ ps) (number_last 46 d (omega arith) fd))) in
    let ra : a ≤ 255 = omega (arith, ip) in
    let rb : b ≤ 255 = omega arith in
    let rc : c ≤ 255 = omega arith in
    let rd : d ≤ 255 = omega arith in
    let rp : key.port ≤ 65535 = omega (arith, h.1) in
    let all_four : are_octets (decimal a ∷ decimal b ∷ decimal c ∷ decimal d ∷ []) ≡ true =
    both_true (is_number_shown 255 a ra fa) (both_true (is_number_shown 255 b rb fb) (both_true (is_number_shown 255 c rc fc) (is_number_shown 255 d rd fd))) in
    ap are_address outer ∙ both_true (ap are_octets inner ∙ all_four) (is_number_shown 65535 key.port rp fp)

-- the option for the maximum segment size
abbrev pub size_of : Option ℕ → ℕ
size_of None = 0
size_of (Some mss) = 4

pub option_reported : (n : ℕ) (word : List ℕ) → option_size word ≡ Some n → (mss : Option ℕ) × ((m : ℕ) → mss ≡ Some m → m < 2 ^ 16) × (size_of mss ≡ n) × (word ≡ mss_text mss)
unfolding option_size mss_text
option_reported n word e = by_cases (bytes_eq word (codes "-"))
    (λ d. let f : Some 0 ≡ Some n = sym (ap (λ b. if b then Some 0 else (if is_number 65535 word then Some 4 else None)) d) ∙ e in
    (None, (λ m g. absurd (none_some m g)), (chosen_is true 0 n f).1, same_bytes word (codes "-") d))
    (λ d. let f : (if is_number 65535 word then Some 4 else None) ≡ Some n = sym (ap (λ b. if b then Some 0 else (if is_number 65535 word then Some 4 else None)) d) ∙ e in
    let c : (is_number 65535 word ≡ true) × (4 ≡ n) = chosen_is (is_number 65535 word) 4 n f in
    let reported : (m : ℕ) × (m ≤ 65535) × (word ≡ decimal m) = is_number_reported 65535 word c.0 in
    (Some reported.0, (λ m g. let same : reported.0 ≡ m = (chosen_is true reported.0 m g).1 in omega (arith, same, reported.1)), c.1, reported.2))
  where
    none_some : (m : ℕ) → None ≡ Some m → ⊥
    none_some m g = true≢false (sym (ap is_some g))

pub option_shown : (mss : Option ℕ) → ((m : ℕ) → mss ≡ Some m → m < 2 ^ 16) → option_size (mss_text mss) ≡ Some (size_of mss)
unfolding option_size mss_text
option_shown None h = refl
option_shown (Some m) h =
    let small : m < 2 ^ 16 = h m refl in
    let below : m ≤ 65535 = omega (arith, small) in
    let fits : m < 2 ^ 64 = omega (arith, small) in
    let digits : AllByRecursion IsDigit (decimal m) = digits_decimal m fits in
    let no_dash : bytes_eq (decimal m) (codes "-") ≡ false = decide (bytes_eq (decimal m) (codes "-")) (λ d. let h : AllByRecursion IsDigit (codes "-") = subst (AllByRecursion IsDigit) (same_bytes (decimal m) (codes "-") d) digits in omega (arith, h.0.0)) in
    rw (no_dash, is_number_shown 65535 m below fits) refl
