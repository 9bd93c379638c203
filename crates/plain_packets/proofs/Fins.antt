-- A FIN before the stream's beginning is not held.
use Rattle.std.proofs.Common.{◌≡◌, ℕ, ◌+◌, ◌-◌, Bool, false, arith, length, drop}
use Rattle.std.specs.Prelude.{ℤ, pos, ◌<ℤ◌, nat_abs, int_lt, int_le, not, ◌&&◌}
use Rattle.std.proofs.lemmas.Int.{ints}
use Rattle.std.proofs.lemmas.Bool.{and_left, and_right}
use Rattle.tcp_rules.specs.Early.{holds_some}
use Rattle.tcp_rules.specs.Coming.{Came, is_none, holds_fin}

pub none_before : (n edge : ℕ) (place : ℤ) (c : Came) → place <ℤ pos 0 → holds_fin n edge place c ≡ false
unfolding holds_fin
none_before n edge place c before =
    let below : Bool = int_lt place (pos edge) in
    let behind : Bool = int_le (pos (n + length c.added)) place in
    let alone : Bool = not (holds_some (drop (nat_abs place - (n + length c.added)) c.early.text)) in
    let free : Bool = is_none c.early.fin in
    let early : behind ≡ false = grind (arith, ints, before) in
    and_left (below && behind && alone && free) (not c.fin)
    (and_left (below && behind && alone) free (and_left (below && behind) alone (and_right below behind early)))
