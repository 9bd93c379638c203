-- The log's rule for reads, given the sum of the reads before and whether one of them closes.
use Rattle.std.specs.Prelude.{ℕ, Bool, true, ◌+◌, ◌==◌, ◌&&◌, ◌||◌, not, nat_lt, nat_le, List, [], ◌∷◌}

abbrev pub follows : (len : ℕ) → (fin : Bool) → (read : ℕ) → (closed : Bool) → ℕ → Bool
follows len fin read closed n = not closed && nat_le (read + n) len && (nat_lt 0 n || (fin && read == len))

abbrev pub follow_on : (len : ℕ) → (fin : Bool) → (read : ℕ) → (closed : Bool) → List ℕ → Bool
follow_on len fin read closed [] = true
follow_on len fin read closed (n ∷ more) = follows len fin read closed n && follow_on len fin (read + n) (closed || (n == 0)) more
