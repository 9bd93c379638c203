-- The peer's numbers, modulo 2^32, against the receiver's offsets: a test on numbers is the test on the offsets that they name.
use Rattle.std.proofs.Common.{◌≡◌, ℕ, ◌<◌, ◌≤◌, ◌+◌, ◌%◌, ◌^◌, true, false, refl, arith}
use Rattle.std.specs.Prelude.{ℤ, pos, negsuc, ◌+ℤ◌, ◌≤ℤ◌, nat_eq, int_lt}
use Rattle.std.proofs.lemmas.Int.{ints}
use Rattle.seq_arith.specs.Number.{distance, number_at, offset_of, precedes, is_in_window}
use Rattle.tcp_rules.specs.Arrival.{int_eq, lies_in, is_acceptable, is_at_right_edge, is_acceptable_or_at_edge, is_allowed_at_zero, is_usable, below}
use Rattle.tcp_rules.specs.Coming.{ahead}
use Rattle.seq_arith.proofs.Gaps.{offset_leads}
use Rattle.tcp_buffers.specs.Near.{IsNearFirst}
use Rattle.tcp_rules.proofs.Shifts.{below_low}
use Rattle.ft_io.proofs.Booleans.{or_other}
use Rattle.ft_io.proofs.Choices.{by_cases}

pub lies_in_window : (irs number next len : ℕ) → number < 2 ^ 32 → next ≤ 2 ^ 30 + 1 → len ≤ 2 ^ 17
    → is_in_window number (number_at irs next) len ≡ lies_in next len (offset_of irs number)
lies_in_window irs number next len small near short = grind (arith, ints, offset_leads irs number small)

pub last_lies_in : (irs number next len n : ℕ) → number < 2 ^ 32 → next ≤ 2 ^ 30 + 1 → len ≤ 2 ^ 17 → n ≤ 2 ^ 17
    → lies_in next len (offset_of irs ((number + n) % 2 ^ 32)) ≡ lies_in next len (offset_of irs number +ℤ pos n)
last_lies_in irs number next len n small near short few =
    grind (arith, ints, offset_leads irs number small, offset_leads irs ((number + n) % 2 ^ 32) (omega arith))

pub is_next : (irs number next : ℕ) → number < 2 ^ 32 → next ≤ 2 ^ 30 + 1
    → nat_eq number (number_at irs next) ≡ int_eq (offset_of irs number) (pos next)
is_next irs number next small near = grind (arith, ints, offset_leads irs number small)

pub ends_there : (irs number len place : ℕ) → number < 2 ^ 32 → len ≤ 2 ^ 16 → place ≤ 2 ^ 30 + 1
    → nat_eq ((number + len) % 2 ^ 32) (number_at irs place) ≡ int_eq (offset_of irs number +ℤ pos len) (pos place)
ends_there irs number len place small short near = grind (arith, ints, offset_leads irs number small)

pub is_later : (irs number next : ℕ) → number < 2 ^ 32 → next ≤ 2 ^ 30 + 1 → IsNearFirst (offset_of irs number)
    → precedes (number_at irs next) number ≡ int_lt (pos next) (offset_of irs number)
is_later irs number next small near first = grind (arith, ints, offset_leads irs number small)

pub skipped : (irs number next : ℕ) → number < 2 ^ 32 → next ≤ 2 ^ 30 + 1 → IsNearFirst (offset_of irs number)
    → int_lt (pos next) (offset_of irs number) ≡ false → distance (number_at irs next) number ≡ below next (offset_of irs number)
skipped irs number next small near first no_gap =
    let low : offset_of irs number ≤ℤ pos next = grind (arith, ints)
    in omega (arith, ints, offset_leads irs number small, below_low next (offset_of irs number) low)

gap_up : (next : ℕ) (first : ℤ) → int_lt (pos next) first ≡ true → pos next ≤ℤ first
gap_up next first h = grind (arith, ints)

ahead_past : (next : ℕ) (first : ℤ) → int_lt (pos next) first ≡ true → pos (next + ahead next first) ≡ first
ahead_past next (pos first) h = grind (arith, ints)
ahead_past next (negsuc first) h = grind (arith, ints)

-- how far past the receiver's offset a number stands
pub past : (irs number next : ℕ) → number < 2 ^ 32 → next ≤ 2 ^ 30 + 1 → IsNearFirst (offset_of irs number)
    → int_lt (pos next) (offset_of irs number) ≡ true → distance number (number_at irs next) ≡ ahead next (offset_of irs number)
past irs number next small near first gap =
    omega (arith, ints, offset_leads irs number small, ahead_past next (offset_of irs number) gap, gap_up next (offset_of irs number) gap)

pub not_past : (next : ℕ) (first : ℤ) → int_lt (pos next) first ≡ false → ahead next first ≡ 0
not_past next (pos first) h = grind (arith, ints)
not_past next (negsuc first) h = refl

-- what begins past the offset has nothing before it
pub none_skipped : (next : ℕ) (first : ℤ) → 0 < ahead next first → below next first ≡ 0
none_skipped next (pos first) h = omega (arith, h)
none_skipped next (negsuc first) h = absurd (omega (arith, h))

-- the offset at which a text ends, where it ends in the stream, ..
pub end_place : (irs number len k : ℕ) → number < 2 ^ 32 → len ≤ 2 ^ 16 → IsNearFirst (offset_of irs number) → offset_of irs number +ℤ pos len ≡ pos k
    → distance ((number + len) % 2 ^ 32) ((irs + 1) % 2 ^ 32) ≡ k
end_place irs number len k small short near e = omega (arith, ints, offset_leads irs number small, near.0, near.1, e)

-- .. and where it ends before it
pub end_below : (irs number len k : ℕ) → number < 2 ^ 32 → len ≤ 2 ^ 16 → IsNearFirst (offset_of irs number) → offset_of irs number +ℤ pos len ≡ negsuc k
    → 2 ^ 31 ≤ distance ((number + len) % 2 ^ 32) ((irs + 1) % 2 ^ 32)
end_below irs number len k small short near e = omega (arith, ints, offset_leads irs number small, near.0, near.1, e)

-- an acceptable segment begins near to the window
pub near_of_acceptable : (next window : ℕ) (first : ℤ) (len : ℕ) → next ≤ 2 ^ 30 + 1 → window ≤ 2 ^ 16 → len ≤ 2 ^ 16
    → is_acceptable next window first len ≡ true → IsNearFirst first
near_of_acceptable next window first len near small short h = (grind (arith, ints), grind (arith, ints))

-- .. and so does one at a place of the receiver's
pub near_of_place : (place : ℕ) (first : ℤ) → place ≤ 2 ^ 30 + 1 → int_eq first (pos place) ≡ true → IsNearFirst first
near_of_place place first near h = (grind (arith, ints), grind (arith, ints))

-- .. and so does one whose acknowledgement is used
near_at_edge : (next window : ℕ) (first : ℤ) (len : ℕ) → next ≤ 2 ^ 30 + 1 → window ≤ 2 ^ 16 → is_at_right_edge next window first len ≡ true → IsNearFirst first
unfolding is_at_right_edge
near_at_edge next window first len near small h = (grind (arith, ints), grind (arith, ints))

near_at_zero : (next window : ℕ) (first : ℤ) → next ≤ 2 ^ 30 + 1 → is_allowed_at_zero next window first ≡ true → IsNearFirst first
unfolding is_allowed_at_zero
near_at_zero next window first near h = (grind (arith, ints), grind (arith, ints))

pub near_of_accepted : (next window : ℕ) (first : ℤ) (len : ℕ) → next ≤ 2 ^ 30 + 1 → window ≤ 2 ^ 16 → len ≤ 2 ^ 16
    → is_acceptable_or_at_edge next window first len ≡ true → IsNearFirst first
near_of_accepted next window first len near small short h =
    by_cases (is_acceptable next window first len) (near_of_acceptable next window first len near small short)
    (λ no. near_at_edge next window first len near small (or_other (is_acceptable next window first len) (is_at_right_edge next window first len) no h))

pub near_of_usable : (next window : ℕ) (first : ℤ) (len : ℕ) → next ≤ 2 ^ 30 + 1 → window ≤ 2 ^ 16 → len ≤ 2 ^ 16
    → is_usable next window first len ≡ true → IsNearFirst first
near_of_usable next window first len near small short h =
    by_cases (is_acceptable_or_at_edge next window first len) (near_of_accepted next window first len near small short)
    (λ no. near_at_zero next window first near (or_other (is_acceptable_or_at_edge next window first len) (is_allowed_at_zero next window first) no h))
