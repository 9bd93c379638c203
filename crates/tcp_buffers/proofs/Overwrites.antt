-- Bytes written over others: what is there then, and how a gap is filled, bytes are set and others appended one after another.
use Rattle.std.proofs.Common.{◌≡◌, ℕ, zero, suc, ◌+◌, ◌-◌, ◌<◌, ◌≤◌, refl, sym, ap, arith, ◌∙◌, List, [], ◌∷◌, ◌++◌, length, length-append, append_assoc, append-nil, take, drop, min, max}
use Rattle.std.specs.Prelude.{slice_set, replicate}
use Rattle.std.proofs.lemmas.List.{take_min, drop_min, take-append-drop, take-replicate, length-replicate}
use Rattle.std.proofs.Math.Seq.{drop-nil, take-nil}
use Rattle.std.proofs.Math.Nat.{min_comm}
use Rattle.ft_io.proofs.Numbers.{plus_one}
use Rattle.tcp_buffers.specs.Runs.{written}

pub zero_plus : (k : ℕ) → k ≡ 0 + k
zero_plus k = omega arith

length_front : (bytes area : List ℕ) → length (written 0 bytes area) ≡ max (length area) (length bytes)
unfolding written
length_front [] area = omega arith
length_front (x ∷ bytes) [] = ap suc (length_front bytes []) ∙ omega arith
length_front (x ∷ bytes) (y ∷ area) = ap suc (length_front bytes area) ∙ omega arith

pub length_written : (at : ℕ) (bytes area : List ℕ) → 0 < length bytes → length (written at bytes area) ≡ max (length area) (at + length bytes)
unfolding written
length_written at [] area some = absurd (omega (arith, some))
length_written zero (x ∷ bytes) [] some = ap suc (length_front bytes []) ∙ omega arith
length_written zero (x ∷ bytes) (y ∷ area) some = ap suc (length_front bytes area) ∙ omega arith
length_written (suc k) (x ∷ bytes) [] some = ap suc (length_written k (x ∷ bytes) [] some) ∙ omega arith
length_written (suc k) (x ∷ bytes) (y ∷ area) some = ap suc (length_written k (x ∷ bytes) area some) ∙ omega arith

pub suc_plus : (n at : ℕ) → suc n + at ≡ suc (n + at)
suc_plus n at = omega arith

-- bytes written after others leave those as they are
pub take_written : (n at : ℕ) (bytes items : List ℕ) → n ≤ length items → take n (written (n + at) bytes items) ≡ take n items
unfolding written
take_written zero at bytes items h = refl
take_written (suc n) at [] items h = refl
take_written (suc n) at (x ∷ bytes) [] h = absurd (omega (arith, h))
take_written (suc n) at (x ∷ bytes) (y ∷ items) h =
    ap (λ k. take (suc n) (written k (x ∷ bytes) (y ∷ items))) (suc_plus n at) ∙ ap (λ l. y ∷ l) (take_written n at (x ∷ bytes) items (omega (arith, h)))

pub drop_written : (n at : ℕ) (bytes items : List ℕ) → n ≤ length items → drop n (written (n + at) bytes items) ≡ written at bytes (drop n items)
unfolding written
drop_written zero at bytes items h = ap (λ k. written k bytes items) (sym (zero_plus at))
drop_written (suc n) at [] items h = refl
drop_written (suc n) at (x ∷ bytes) [] h = absurd (omega (arith, h))
drop_written (suc n) at (x ∷ bytes) (y ∷ items) h =
    ap (λ k. drop (suc n) (written k (x ∷ bytes) (y ∷ items))) (suc_plus n at) ∙ drop_written n at (x ∷ bytes) items (omega (arith, h))

-- bytes written at the front are there, and what is after them stays
pub written_front : (bytes area : List ℕ) → written 0 bytes area ≡ bytes ++ drop (length bytes) area
unfolding written
written_front [] area = refl
written_front (x ∷ bytes) [] = ap (λ l. x ∷ l) (written_front bytes [] ∙ ap (λ l. bytes ++ l) (drop-nil (length bytes)))
written_front (x ∷ bytes) (y ∷ area) = ap (λ l. x ∷ l) (written_front bytes area)

-- writing: a gap is filled first, then bytes are set one by one, and the others appended
pub pad_one : (at : ℕ) (bytes items : List ℕ) → 0 < length bytes → length items < at → written at bytes (items ++ 0 ∷ []) ≡ written at bytes items
unfolding written
pad_one at [] items some h = absurd (omega (arith, some))
pad_one zero (x ∷ bytes) items some h = absurd (omega (arith, h))
pad_one (suc k) (x ∷ bytes) [] some h = refl
pad_one (suc k) (x ∷ bytes) (y ∷ items) some h = ap (λ l. y ∷ l) (pad_one k (x ∷ bytes) items some (omega (arith, h)))

pub set_one : (at x : ℕ) (bytes items : List ℕ) → at < length items → written (suc at) bytes (slice_set items at x) ≡ written at (x ∷ bytes) items
unfolding written
set_one at x bytes [] h = absurd (omega (arith, h))
set_one zero x [] (y ∷ items) h = refl
set_one zero x (z ∷ bytes) (y ∷ items) h = refl
set_one (suc k) x [] (y ∷ items) h = ap (λ l. y ∷ l) (set_one k x [] items (omega (arith, h)))
set_one (suc k) x (z ∷ bytes) (y ∷ items) h = ap (λ l. y ∷ l) (set_one k x (z ∷ bytes) items (omega (arith, h)))

one_less : (n : ℕ) → suc n - 0 ≡ suc (n - 0)
one_less n = omega arith

onward : (k x y : ℕ) (bytes items : List ℕ) (n : ℕ) → suc (length items) - suc k ≡ n → (written k (take n (x ∷ bytes)) items ++ drop n (x ∷ bytes)) ≡ written k (x ∷ bytes) items
    → written (suc k) (take (suc (length items) - suc k) (x ∷ bytes)) (y ∷ items) ++ drop (suc (length items) - suc k) (x ∷ bytes) ≡ y ∷ written k (x ∷ bytes) items
unfolding written
onward k x y bytes items zero e h = ap (λ n. written (suc k) (take n (x ∷ bytes)) (y ∷ items) ++ drop n (x ∷ bytes)) e ∙ ap (λ l. y ∷ l) h
onward k x y bytes items (suc n) e h = ap (λ n. written (suc k) (take n (x ∷ bytes)) (y ∷ items) ++ drop n (x ∷ bytes)) e ∙ ap (λ l. y ∷ l) h

pub written_apart : (at : ℕ) (bytes items : List ℕ) → at ≤ length items
    → written at (take (length items - at) bytes) items ++ drop (length items - at) bytes ≡ written at bytes items
unfolding written
written_apart at [] items h = ap (λ l. written at l items ++ drop (length items - at) []) (take-nil (length items - at)) ∙ ap (λ l. items ++ l) (drop-nil (length items - at)) ∙ append-nil items
written_apart zero (x ∷ bytes) [] h = ap (λ l. x ∷ l) (sym (written_front bytes [] ∙ ap (λ l. bytes ++ l) (drop-nil (length bytes)) ∙ append-nil bytes))
written_apart zero (x ∷ bytes) (y ∷ items) h =
    ap (λ n. written 0 (take n (x ∷ bytes)) (y ∷ items) ++ drop n (x ∷ bytes)) (one_less (length items)) ∙ ap (λ l. x ∷ l) (written_apart zero bytes items (omega arith))
written_apart (suc k) (x ∷ bytes) [] h = absurd (omega (arith, h))
written_apart (suc k) (x ∷ bytes) (y ∷ items) h = onward k x y bytes items (length items - k) (omega (arith, h)) (written_apart k (x ∷ bytes) items (omega (arith, h)))

pub long_written : (at : ℕ) (bytes items : List ℕ) → at ≤ length items → length (written at bytes items) ≡ max (length items) (at + length bytes)
unfolding written
long_written at [] items h = omega (arith, h)
long_written at (x ∷ bytes) items h = length_written at (x ∷ bytes) items (omega arith)

pub written_end : (items fits : List ℕ) → written (length items) fits items ≡ items ++ fits
unfolding written
written_end [] [] = refl
written_end [] (x ∷ fits) = ap (λ l. x ∷ l) (written_front fits [] ∙ ap (λ l. fits ++ l) (drop-nil (length fits)) ∙ append-nil fits)
written_end (y ∷ items) [] = sym (append-nil (y ∷ items))
written_end (y ∷ items) (x ∷ fits) = ap (λ l. y ∷ l) (written_end items (x ∷ fits))

pub length_set : (items : List ℕ) (i x : ℕ) → length (slice_set items i x) ≡ length items
length_set [] i x = refl
length_set (y ∷ items) zero x = refl
length_set (y ∷ items) (suc i) x = ap suc (length_set items i x)

pub written_none : (at : ℕ) (bytes items : List ℕ) → length bytes ≡ 0 → items ≡ written at bytes items
unfolding written
written_none at [] items h = refl
written_none at (x ∷ bytes) items h = absurd (omega (arith, h))

pub written_whole : (from over : ℕ) (bytes items padded set after : List ℕ) → 0 < length bytes → from ≤ length padded → over ≡ min (length bytes) (length padded - from)
    → written from bytes padded ≡ written from bytes items → set ≡ written from (take over bytes) padded → after ≡ set ++ drop over bytes → after ≡ written from bytes items
written_whole from over bytes items padded set after some within o p s a =
    let k : ℕ = length padded - from in
    let t : take over bytes ≡ take k bytes = ap (λ m. take m bytes) (o ∙ min_comm (length bytes) k) ∙ take_min k bytes in
    let d : drop over bytes ≡ drop k bytes = ap (λ m. drop m bytes) (o ∙ min_comm (length bytes) k) ∙ drop_min k bytes in
    a ∙ (λ i. (s ∙ ap (λ l. written from l padded) t) i ++ d i) ∙ written_apart from bytes padded within ∙ p

pub no_items : {A : Type 0} (xs : List A) → length xs ≡ 0 → xs ≡ []
no_items [] h = refl
no_items (x ∷ xs) h = absurd (omega (arith, h))

pub set_next : (at x : ℕ) (bytes items : List ℕ) → at < length items → written (at + 1) bytes (slice_set items at x) ≡ written at (x ∷ bytes) items
set_next at x bytes items h = ap (λ k. written k bytes (slice_set items at x)) (plus_one at) ∙ set_one at x bytes items h

-- some zeros of a gap
pub pad_more : (at : ℕ) (bytes items : List ℕ) (n : ℕ) → 0 < length bytes → length items + n ≤ at → written at bytes (items ++ replicate n 0) ≡ written at bytes items
pad_more at bytes items zero some h = ap (λ l. written at bytes l) (append-nil items)
pad_more at bytes items (suc n) some h =
    ap (λ l. written at bytes l) (sym (append_assoc items (0 ∷ []) (replicate n 0)))
    ∙ pad_more at bytes (items ++ 0 ∷ []) n some (omega (arith, length-append items (0 ∷ []), h))
    ∙ pad_one at bytes items some (omega (arith, h))

pub zeros_count : (zeros : List ℕ) → zeros ≡ replicate 512 0 → length zeros ≡ 512
zeros_count zeros e = ap length e ∙ length-replicate {A = ℕ} 512 0

pub zeros_after : (items zeros after : List ℕ) (count : ℕ) → zeros ≡ replicate 512 0 → count ≤ 512 → after ≡ items ++ take count zeros → after ≡ items ++ replicate count 0
zeros_after items zeros after count e few a = a ∙ ap (λ l. items ++ l) (ap (λ l. take count l) e ∙ take-replicate {X = ℕ} count 512 0 few)

pub zeros_longer : (items after : List ℕ) (count : ℕ) → after ≡ items ++ replicate count 0 → length after ≡ length items + count
zeros_longer items after count a = ap length a ∙ length-append items (replicate count 0) ∙ ap (λ n. length items + n) (length-replicate {A = ℕ} count 0)

-- bytes copied over others
pub written_within : (at : ℕ) (bytes items : List ℕ) → at ≤ length items → take at items ++ (bytes ++ drop (length bytes) (drop at items)) ≡ written at bytes items
unfolding written
written_within at [] items h = take-append-drop at items
written_within zero (x ∷ bytes) items h = sym (written_front (x ∷ bytes) items)
written_within (suc k) (x ∷ bytes) [] h = absurd (omega (arith, h))
written_within (suc k) (x ∷ bytes) (y ∷ items) h = ap (λ l. y ∷ l) (written_within k (x ∷ bytes) items (omega (arith, h)))
