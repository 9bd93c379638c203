-- What is said elsewhere of what a segment makes of the peer's stream, in one place to import from; and whether a segment is used, where its stream
-- begins further up.
use Rattle.std.proofs.Common.{◌≡◌, ℕ, ◌+◌, ap, ap₂, arith}
use Rattle.std.specs.Prelude.{ℤ, pos, ◌+ℤ◌, ◌&&◌, ◌||◌, ◌==◌, nat_lt}
use Rattle.std.proofs.lemmas.Int.{ints}
use Rattle.tcp_rules.specs.Arrival.{int_eq, is_at_right_edge, is_allowed_at_zero, is_acceptable_or_at_edge, is_usable}
use Rattle.tcp_rules.proofs.Shifts.{is_acceptable_shift}
pub use Rattle.tcp_rules.proofs.ComingKeeps.{behind_gap, comes_ended, comes_shut, comes_bare, stays_behind, behind_within, comes_within, fin_within, fin_stays, behind_up, nothing_behind}
pub use Rattle.tcp_rules.proofs.ComingAlone.{in_order, ends_at, ComesAlone, comes_alone}
pub use Rattle.tcp_rules.proofs.ComingFins.{HeldOrOwn, fin_held, FinComes, fin_comes, was_or_comes}
pub use Rattle.tcp_rules.proofs.ComingShifts.{comes_from, behind_from}

is_at_right_edge_shift : (next window k : ℕ) (first : ℤ) (len : ℕ) → is_at_right_edge (next + k) window (first +ℤ pos k) len ≡ is_at_right_edge next window first len
unfolding is_at_right_edge
is_at_right_edge_shift next window k first len =
    let same : int_eq (first +ℤ pos k) (pos (next + k + window)) ≡ int_eq first (pos (next + window)) = grind (arith, ints) in
    ap (λ b. len == 0 && nat_lt 0 window && b) same

is_allowed_at_zero_shift : (next window k : ℕ) (first : ℤ) → is_allowed_at_zero (next + k) window (first +ℤ pos k) ≡ is_allowed_at_zero next window first
unfolding is_allowed_at_zero
is_allowed_at_zero_shift next window k first =
    let same : int_eq (first +ℤ pos k) (pos (next + k)) ≡ int_eq first (pos next) = grind (arith, ints) in
    ap (λ b. window == 0 && b) same

pub is_acceptable_or_at_edge_shift : (next window k : ℕ) (first : ℤ) (len : ℕ)
    → is_acceptable_or_at_edge (next + k) window (first +ℤ pos k) len ≡ is_acceptable_or_at_edge next window first len
is_acceptable_or_at_edge_shift next window k first len =
    ap₂ (λ a b. a || b) (is_acceptable_shift next window k first len) (is_at_right_edge_shift next window k first len)

pub is_usable_shift : (next window k : ℕ) (first : ℤ) (len : ℕ) → is_usable (next + k) window (first +ℤ pos k) len ≡ is_usable next window first len
is_usable_shift next window k first len =
    ap₂ (λ a b. a || b) (is_acceptable_or_at_edge_shift next window k first len) (is_allowed_at_zero_shift next window k first)
