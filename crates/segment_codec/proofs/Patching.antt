-- A checksum that is patched where a word is replaced: what summed to it does so again, and the one summed anew stays so (RFC 1624).
use Rattle.std.proofs.Common.{◌≡◌, ℕ, ◌<◌, ◌+◌, ◌^◌, ap, sym, arith, ◌∙◌}
use Rattle.seq_arith.specs.Checksum.{folded, check_of, patched}

pub patched_small : (check old new : ℕ) → patched check old new < 2 ^ 16
unfolding patched
patched_small check old new = omega arith

-- the other words sum to `others`
pub still_sums : (others old new check : ℕ) → 0 < others → old < 2 ^ 16 → check < 2 ^ 16
    → check_of (others + old + check) ≡ 0 → check_of (others + new + patched check old new) ≡ 0
unfolding check_of folded patched
still_sums others old new check some small short sums = grind arith

pub as_anew : (others old new check : ℕ) → 0 < others → old < 2 ^ 16 → check ≡ check_of (others + old) → patched check old new ≡ check_of (others + new)
unfolding check_of folded patched
as_anew others old new check some small is = grind arith

-- two words replaced, one after the other
pub still_sums_twice : (others high low new_high new_low check : ℕ) → 0 < others → high < 2 ^ 16 → low < 2 ^ 16 → check < 2 ^ 16
    → check_of (others + high + low + check) ≡ 0
    → check_of (others + new_high + new_low + patched (patched check high new_high) low new_low) ≡ 0
still_sums_twice others high low new_high new_low check some small small' short sums =
    let first : ℕ = patched check high new_high
    in let moved : others + high + low + check ≡ others + low + high + check = omega arith
    in let one : check_of (others + low + new_high + first) ≡ 0 = still_sums (others + low) high new_high check (omega arith) small short (ap check_of (sym moved) ∙ sums)
    in let again : others + low + new_high + first ≡ others + new_high + low + first = omega arith
    in still_sums (others + new_high) low new_low first (omega arith) small' (patched_small check high new_high) (ap check_of (sym again) ∙ one)

pub as_anew_twice : (others high low new_high new_low check : ℕ) → 0 < others → high < 2 ^ 16 → low < 2 ^ 16 → check ≡ check_of (others + high + low)
    → patched (patched check high new_high) low new_low ≡ check_of (others + new_high + new_low)
as_anew_twice others high low new_high new_low check some small small' is =
    let moved : others + high + low ≡ others + low + high = omega arith
    in let one : patched check high new_high ≡ check_of (others + low + new_high) = as_anew (others + low) high new_high check (omega arith) small (is ∙ ap check_of moved)
    in let again : others + low + new_high ≡ others + new_high + low = omega arith
    in as_anew (others + new_high) low new_low (patched check high new_high) (omega arith) small' (one ∙ ap check_of again)
