-- Gaps as whole numbers: what leads from one number to another, so that arithmetic sees through `gap`.
use Rattle.std.proofs.Common.{◌≡◌, ℕ, ◌<◌, ◌≤◌, ◌+◌, ◌-◌, ◌*◌, ◌/◌, ◌%◌, ◌^◌, arith}
use Rattle.std.specs.Prelude.{ℤ, pos, negsuc, ◌+ℤ◌, ◌-ℤ◌, ◌≤ℤ◌, ◌<ℤ◌, nat_lt}
use Rattle.std.proofs.lemmas.Int.{ints}
use Rattle.std.proofs.lemmas.Bool.{cond_both, ltb-true, ltb-false}
use Rattle.seq_arith.specs.Number.{distance, gap, offset_of}

-- z is the way from one number to another, modulo 2^32, and no other way is shorter
pub record Leads (from to : ℕ) (z : ℤ) : Type 0 where
  pub turns : ℕ
  pub leads : (z +ℤ pos (from + 2 ^ 32)) ≡ pos (to + turns * 2 ^ 32)
  pub low : (pos 0 -ℤ pos (2 ^ 31)) ≤ℤ z
  pub high : z <ℤ pos (2 ^ 31)

pub gap_leads : (from to : ℕ) → from < 2 ^ 32 → to < 2 ^ 32 → Leads from to (gap to from)
gap_leads from to p q =
    cond_both (nat_lt (distance to from) (2 ^ 31)) (pos (distance to from)) (negsuc (2 ^ 32 - 1 - distance to from)) (λ z. Leads from to z)
    (λ e. let near : distance to from < 2 ^ 31 = ltb-true _ _ e in
    record { turns = (distance to from + from + 2 ^ 32) / 2 ^ 32; leads = omega (arith, ints); low = omega (arith, ints); high = omega (arith, ints) })
    (λ e. let far : 2 ^ 31 ≤ distance to from = ltb-false _ _ e in
    record { turns = (distance to from + from) / 2 ^ 32; leads = omega (arith, ints); low = omega (arith, ints); high = omega (arith, ints) })

pub offset_leads : (isn number : ℕ) → number < 2 ^ 32 → Leads ((isn + 1) % 2 ^ 32) number (offset_of isn number)
unfolding offset_of
offset_leads isn number p = gap_leads ((isn + 1) % 2 ^ 32) number (omega arith) p
