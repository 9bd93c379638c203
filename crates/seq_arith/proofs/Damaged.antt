-- What the tests of both grammars make of a damaged string. One bit inverted changes the sum of a string's words by less than a carry, so
-- the string doesn't sum to its checksum any more; and the length that a string says stays where its count of bytes changes.
use Rattle.std.proofs.Common.{◌≡◌, ℕ, zero, suc, ◌<◌, ◌≤◌, ◌+◌, ◌-◌, ◌*◌, ◌/◌, ◌%◌, ◌^◌, ◌⊎◌, inl, inr, ⊎_elim, Bool, true, false, List, [], ◌∷◌, ◌++◌, length, take, drop, get_or, ap, refl, sym, arith, ◌∙◌, length-set, length-drop}
use Rattle.std.specs.Prelude.{bit_xor, bit_and, slice_set}
use Rattle.std.specs.Int.Bits.{xor_add_and}
use Rattle.std.specs.Int.{bit_at}
use Rattle.std.proofs.lemmas.Nat.Bits.{and_pow, bit_at-lt}
use Rattle.std.proofs.lemmas.Nat.{pow_pos}
use Rattle.std.proofs.Math.Nat.{pow-le-pow_right, zero-mul, one-mul}
use Rattle.std.proofs.lemmas.List.{take-set-le, drop-set-add, get_or-take, get_or-drop, length-take-le}
use Rattle.std.proofs.Math.Seq.{take-set-lt}
use Rattle.seq_arith.specs.Bytes.{two}
use Rattle.seq_arith.specs.Checksum.{word_sum, odd_after, folded, check_of, checksum}
use Rattle.seq_arith.specs.Damage.{flipped}
use Rattle.seq_arith.specs.PacketGrammar.{tcp_text}
use Rattle.seq_arith.proofs.Sums.{word_sum_append}

-- numbers with less than a carry between them
pub record Apart (a b : ℕ) : Type 0 where
  pub by : ℕ
  pub some : 0 < by
  pub few : by < 65535
  pub way : (b ≡ a + by) ⊎ (a ≡ b + by)

-- numbers with one bit of a byte between them
record Step (a b : ℕ) : Type 0 where
  by : ℕ
  some : 0 < by
  few : by ≤ 128
  way : (b ≡ a + by) ⊎ (a ≡ b + by)

bit_value : (k : ℕ) → k < 8 → (0 < 2 ^ k) × (2 ^ k ≤ 128)
bit_value k h = let small : k ≤ 7 = omega arith in let two_pos : 0 < 2 = omega arith in let most : 2 ^ k ≤ 2 ^ 7 = pow-le-pow_right {n = 2} two_pos small in (pow_pos k, omega arith)

clear_or_set : (n : ℕ) → n < 2 → (n ≡ 0) ⊎ (n ≡ 1)
clear_or_set zero h = inl refl
clear_or_set (suc zero) h = inr refl
clear_or_set (suc (suc n)) h = absurd (omega arith)

bit_steps : (byte k : ℕ) → k < 8 → Step byte (bit_xor byte (2 ^ k))
bit_steps byte k h =
    let both : bit_xor byte (2 ^ k) + bit_and byte (2 ^ k) * 2 ≡ byte + 2 ^ k = xor_add_and byte (2 ^ k)
    in let clear : bit_at byte k ≡ 0 → bit_and byte (2 ^ k) ≡ 0 = λ e. and_pow byte k ∙ ap (λ n. n * 2 ^ k) e ∙ zero-mul (2 ^ k)
    in let set : bit_at byte k ≡ 1 → bit_and byte (2 ^ k) ≡ 2 ^ k = λ e. and_pow byte k ∙ ap (λ n. n * 2 ^ k) e ∙ one-mul (2 ^ k)
    in record {
      by = 2 ^ k;
      some = (bit_value k h).0;
      few = (bit_value k h).1;
      way = ⊎_elim (λ (e : bit_at byte k ≡ 0). inl (omega (arith, both, clear e))) (λ (e : bit_at byte k ≡ 1). inr (omega (arith, both, set e))) (clear_or_set (bit_at byte k) (bit_at-lt byte k));
    }

apart_behind : (c a b : ℕ) → Apart a b → Apart (c + a) (c + b)
apart_behind c a b apart = record {
  by = apart.by;
  some = apart.some;
  few = apart.few;
  way = ⊎_elim (λ (e : b ≡ a + apart.by). inl (omega arith)) (λ (e : a ≡ b + apart.by). inr (omega arith)) apart.way;
}

high_apart : (a b c : ℕ) → Step a b → Apart (256 * a + c) (256 * b + c)
high_apart a b c step = record {
  by = 256 * step.by;
  some = let s : 0 < step.by = step.some in omega arith;
  few = let f : step.by ≤ 128 = step.few in omega arith;
  way = ⊎_elim (λ (e : b ≡ a + step.by). inl (omega arith)) (λ (e : a ≡ b + step.by). inr (omega arith)) step.way;
}

low_apart : (a b c : ℕ) → Step a b → Apart (a + c) (b + c)
low_apart a b c step = record {
  by = step.by;
  some = step.some;
  few = let f : step.by ≤ 128 = step.few in omega arith;
  way = ⊎_elim (λ (e : b ≡ a + step.by). inl (omega arith)) (λ (e : a ≡ b + step.by). inr (omega arith)) step.way;
}

set_apart : (odd : Bool) (bytes : List ℕ) (i v : ℕ) → i < length bytes → Step (get_or bytes i 0) v → Apart (word_sum odd bytes) (word_sum odd (slice_set bytes i v))
set_apart odd [] i v h step = absurd (omega arith)
set_apart false (x ∷ bytes) zero v h step = high_apart x v (word_sum true bytes) step
set_apart true (x ∷ bytes) zero v h step = low_apart x v (word_sum false bytes) step
set_apart false (x ∷ bytes) (suc i) v h step = apart_behind (256 * x) _ _ (set_apart true bytes i v (omega arith) step)
set_apart true (x ∷ bytes) (suc i) v h step = apart_behind x _ _ (set_apart false bytes i v (omega arith) step)

whole_words : (total : ℕ) → check_of total ≡ 0 → total % 65535 ≡ 0
unfolding check_of folded
whole_words total none = grind arith

pub sums_no_more : (a b : ℕ) → Apart a b → check_of a ≡ 0 → check_of b ≡ 0 → ⊥
sums_no_more a b apart first second =
    let at_a : a % 65535 ≡ 0 = whole_words a first
    in let at_b : b % 65535 ≡ 0 = whole_words b second
    in let some : 0 < apart.by = apart.some
    in let few : apart.by < 65535 = apart.few
    in ⊎_elim (λ (e : b ≡ a + apart.by). omega arith) (λ (e : a ≡ b + apart.by). omega arith) apart.way

flipped_apart : (odd : Bool) (bytes : List ℕ) (i k : ℕ) → i < length bytes → k < 8
    → Apart (word_sum odd bytes) (word_sum odd (slice_set bytes i (bit_xor (get_or bytes i 0) (2 ^ k))))
flipped_apart odd bytes i k within small = set_apart odd bytes i (bit_xor (get_or bytes i 0) (2 ^ k)) within (bit_steps (get_or bytes i 0) k small)

-- a string that summed to its checksum, with one bit inverted
pub flip_is_seen : (bit : ℕ) (bytes : List ℕ) → bit < 8 * length bytes → checksum bytes ≡ 0 → checksum (flipped bit bytes) ≡ 0 → ⊥
unfolding flipped
flip_is_seen bit bytes within was is =
    sums_no_more (word_sum false bytes) _ (flipped_apart false bytes (bit / 8) (bit % 8) (omega arith) (omega arith)) was is

-- a write in front of what is dropped, and after it
drop_set : (n i v : ℕ) (bytes : List ℕ) → n ≤ i → drop n (slice_set bytes i v) ≡ slice_set (drop n bytes) (i - n) v
drop_set n i v bytes h =
    let there : i ≡ n + (i - n) = omega arith in ap (λ at. drop n (slice_set bytes at v)) there ∙ drop-set-add n bytes (i - n) v

-- the IP header of a packet with a bit of it inverted
pub flip_in_front : (bit : ℕ) (bytes : List ℕ) → bit < 160 → 20 ≤ length bytes → checksum (take 20 bytes) ≡ 0 → checksum (take 20 (flipped bit bytes)) ≡ 0 → ⊥
unfolding flipped
flip_in_front bit bytes front long was is =
    let byte : ℕ = get_or bytes (bit / 8) 0
    in let here : bit / 8 < 20 = omega arith
    in let same : get_or (take 20 bytes) (bit / 8) 0 ≡ byte = get_or-take 20 bytes (bit / 8) 0 here
    in let moved : take 20 (slice_set bytes (bit / 8) (bit_xor byte (2 ^ (bit % 8)))) ≡ slice_set (take 20 bytes) (bit / 8) (bit_xor (get_or (take 20 bytes) (bit / 8) 0) (2 ^ (bit % 8))) =
    take-set-lt 20 bytes (bit / 8) (bit_xor byte (2 ^ (bit % 8))) here ∙ ap (λ b. slice_set (take 20 bytes) (bit / 8) (bit_xor b (2 ^ (bit % 8)))) (sym same)
    in let apart : Apart (word_sum false (take 20 bytes)) (word_sum false (slice_set (take 20 bytes) (bit / 8) (bit_xor (get_or (take 20 bytes) (bit / 8) 0) (2 ^ (bit % 8))))) =
    flipped_apart false (take 20 bytes) (bit / 8) (bit % 8) (omega (arith, length-take-le 20 bytes long)) (omega arith)
    in sums_no_more _ _ apart was (ap checksum (sym moved) ∙ is)

-- what the TCP checksum sums in front of the TCP header
unfoldable pseudo_header : List ℕ → List ℕ
pseudo_header bytes = take 8 (drop 12 bytes) ++ (0 ∷ 6 ∷ two (length bytes - 20))

text_in_two : (bytes : List ℕ) → tcp_text bytes ≡ pseudo_header bytes ++ drop 20 bytes
unfolding tcp_text pseudo_header
text_in_two bytes = refl

pseudo_header_stays : (bytes : List ℕ) (i v : ℕ) → 20 ≤ i → pseudo_header (slice_set bytes i v) ≡ pseudo_header bytes
unfolding pseudo_header
pseudo_header_stays bytes i v behind =
    let addresses : take 8 (drop 12 (slice_set bytes i v)) ≡ take 8 (drop 12 bytes) =
    ap (take 8) (drop_set 12 i v bytes (omega arith)) ∙ take-set-le 8 (drop 12 bytes) (i - 12) v (omega arith)
    in let long : length (slice_set bytes i v) ≡ length bytes = length-set bytes i v
    in cc (addresses, long)

-- what the TCP checksum sums of a packet with a bit after the IP header inverted
pub flip_behind : (bit : ℕ) (bytes : List ℕ) → 160 ≤ bit → bit < 8 * length bytes → checksum (tcp_text bytes) ≡ 0 → checksum (tcp_text (flipped bit bytes)) ≡ 0 → ⊥
unfolding flipped
flip_behind bit bytes behind within was is =
    let byte : ℕ = get_or bytes (bit / 8) 0
    in let rest : List ℕ = drop 20 bytes
    in let at : ℕ = bit / 8 - 20
    in let there : 20 + at ≡ bit / 8 = omega arith
    in let same : get_or rest at 0 ≡ byte = get_or-drop 20 bytes at 0 ∙ ap (λ i. get_or bytes i 0) there
    in let written : List ℕ = slice_set rest at (bit_xor (get_or rest at 0) (2 ^ (bit % 8)))
    in let text : tcp_text (slice_set bytes (bit / 8) (bit_xor byte (2 ^ (bit % 8)))) ≡ pseudo_header bytes ++ written =
    text_in_two (slice_set bytes (bit / 8) (bit_xor byte (2 ^ (bit % 8))))
    ∙ ap (λ front. front ++ drop 20 (slice_set bytes (bit / 8) (bit_xor byte (2 ^ (bit % 8))))) (pseudo_header_stays bytes (bit / 8) (bit_xor byte (2 ^ (bit % 8))) (omega arith))
    ∙ ap (λ back. pseudo_header bytes ++ back) (drop_set 20 (bit / 8) (bit_xor byte (2 ^ (bit % 8))) bytes (omega arith) ∙ ap (λ b. slice_set rest at (bit_xor b (2 ^ (bit % 8)))) (sym same))
    in let odd : Bool = odd_after false (pseudo_header bytes)
    in let apart : Apart (word_sum odd rest) (word_sum odd written) = flipped_apart odd rest at (bit % 8) (omega (arith, length-drop 20 bytes)) (omega arith)
    in let whole : Apart (word_sum false (pseudo_header bytes) + word_sum odd rest) (word_sum false (pseudo_header bytes) + word_sum odd written) = apart_behind (word_sum false (pseudo_header bytes)) _ _ apart
    in sums_no_more _ _ whole (ap check_of (sym (word_sum_append false (pseudo_header bytes) rest)) ∙ ap checksum (sym (text_in_two bytes)) ∙ was)
    (ap check_of (sym (word_sum_append false (pseudo_header bytes) written)) ∙ ap checksum (sym text) ∙ is)
