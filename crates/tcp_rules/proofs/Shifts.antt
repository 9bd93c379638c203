-- Adding one number to both sides of a test on offsets changes nothing.
use Rattle.std.proofs.Common.{◌≡◌, ℕ, ◌+◌, ◌-◌, refl, sym, arith, ◌∙◌}
use Rattle.std.specs.Prelude.{ℤ, pos, negsuc, ◌+ℤ◌, ◌≤ℤ◌, nat_le, int_lt, int_le}
use Rattle.std.proofs.lemmas.Int.{ints}
use Rattle.std.proofs.lemmas.Bool.{cond_both}
use Rattle.tcp_rules.specs.Arrival.{int_eq, lies_in, is_acceptable, below, is_new_ack, is_beyond, una_after, updates_window}

le_shift : (n k : ℕ) (z : ℤ) → int_le (pos (n + k)) (z +ℤ pos k) ≡ int_le (pos n) z
le_shift n k z = grind (arith, ints)

lt_shift : (n k : ℕ) (z : ℤ) → int_lt (z +ℤ pos k) (pos (n + k)) ≡ int_lt z (pos n)
lt_shift n k z = grind (arith, ints)

pub above_shift : (n k : ℕ) (z : ℤ) → int_lt (pos (n + k)) (z +ℤ pos k) ≡ int_lt (pos n) z
above_shift n k z = grind (arith, ints)

pub under_shift : (n k : ℕ) (z : ℤ) → int_le (z +ℤ pos k) (pos (n + k)) ≡ int_le z (pos n)
under_shift n k z = grind (arith, ints)

between_shift : (k : ℕ) (x y : ℤ) → int_lt (x +ℤ pos k) (y +ℤ pos k) ≡ int_lt x y
between_shift k x y = grind (arith, ints)

same_shift : (k : ℕ) (x y : ℤ) → int_eq (x +ℤ pos k) (y +ℤ pos k) ≡ int_eq x y
same_shift k x y = grind (arith, ints)

pub lies_in_shift : (next window k : ℕ) (offset : ℤ) → lies_in (next + k) window (offset +ℤ pos k) ≡ lies_in next window offset
lies_in_shift next window k offset =
    let end : next + k + window ≡ next + window + k = omega arith
    in rw (le_shift next k offset, end, lt_shift (next + window) k offset) refl

pub point_shift : (next k : ℕ) (first : ℤ) → int_eq (first +ℤ pos k) (pos (next + k)) ≡ int_eq first (pos next)
point_shift next k first = grind (arith, ints)

pub is_acceptable_shift : (next window k : ℕ) (first : ℤ) (len : ℕ)
    → is_acceptable (next + k) window (first +ℤ pos k) len ≡ is_acceptable next window first len
is_acceptable_shift next window k first len =
    let last : first +ℤ pos k +ℤ pos (len - 1) ≡ first +ℤ pos (len - 1) +ℤ pos k = omega (arith, ints)
    in rw (last, lies_in_shift next window k first, lies_in_shift next window k (first +ℤ pos (len - 1)), point_shift next k first) refl

-- how much lies below, by whether anything does
below_high : (next : ℕ) (first : ℤ) → pos next ≤ℤ first → below next first ≡ 0
below_high next (pos n) h = omega (arith, ints)
below_high next (negsuc n) h = absurd (omega (arith, ints))

pub below_low : (next : ℕ) (first : ℤ) → first ≤ℤ pos next → (first +ℤ pos (below next first)) ≡ pos next
below_low next (pos n) h = omega (arith, ints)
below_low next (negsuc n) h = omega (arith, ints)

pub below_shift : (next k : ℕ) (first : ℤ) → below (next + k) (first +ℤ pos k) ≡ below next first
below_shift next k first =
    cond_both {A = ℕ} (int_le (pos next) first) 0 1 (λ _. below (next + k) (first +ℤ pos k) ≡ below next first)
    (λ e. let high : pos next ≤ℤ first = grind (arith, ints) in
    below_high (next + k) (first +ℤ pos k) (omega (arith, ints)) ∙ sym (below_high next first high))
    (λ e. let low : first ≤ℤ pos next = grind (arith, ints) in
    omega (arith, ints, below_low (next + k) (first +ℤ pos k) (omega (arith, ints)), below_low next first low))

pub is_new_ack_shift : (una sent k : ℕ) (ack : ℤ) → is_new_ack (una + k) (sent + k) (ack +ℤ pos k) ≡ is_new_ack una sent ack
is_new_ack_shift una sent k ack = rw (above_shift una k ack, under_shift sent k ack) refl

pub is_beyond_shift : (sent k : ℕ) (ack : ℤ) → is_beyond (sent + k) (ack +ℤ pos k) ≡ is_beyond sent ack
is_beyond_shift sent k ack = above_shift sent k ack

pub una_after_shift : (una k ack : ℕ) → una_after (una + k) (ack + k) ≡ una_after una ack + k
una_after_shift una k ack = grind arith

-- the window's test, with the receiver's offsets j further on and the sender's k
pub updates_window_shift : (una : ℕ) (wl1 : ℤ) (wl2 : ℕ) (first : ℤ) (ack j k : ℕ)
    → updates_window (una + k) (wl1 +ℤ pos j) (wl2 + k) (first +ℤ pos j) (ack + k) ≡ updates_window una wl1 wl2 first ack
updates_window_shift una wl1 wl2 first ack j k =
    let una_test : nat_le (una + k) (ack + k) ≡ nat_le una ack = grind arith
    in let wl2_test : nat_le (wl2 + k) (ack + k) ≡ nat_le wl2 ack = grind arith
    in rw (una_test, wl2_test, between_shift j wl1 first, same_shift j wl1 first) refl
