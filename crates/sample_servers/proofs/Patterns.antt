-- The pattern that Transfer writes.
use Rattle.std.proofs.Common.{◌≡◌, ℕ, zero, suc, ◌+◌, ◌%◌, [], ◌∷◌, ◌++◌, refl, sym, ◌∙◌, ap, arith}
use Rattle.sample_servers.specs.Transfer.{pattern}

pub pattern_none : (place : ℕ) → pattern place 0 ≡ []
unfolding pattern
pattern_none place = refl

-- one byte more
pub pattern_push : (place size : ℕ) → pattern place (size + 1) ≡ pattern place size ++ (place + size) % 251 ∷ []
unfolding pattern
pattern_push place zero = let e : place + 0 ≡ place = omega arith in rw e refl
pattern_push place (suc size) =
    let e : place + 1 + size ≡ place + suc size = omega arith in
    let one : suc size + 1 ≡ suc (size + 1) = omega arith in
    rw one (ap (λ bytes. place % 251 ∷ bytes) (pattern_push (place + 1) size ∙ ap (λ at. pattern (place + 1) size ++ at % 251 ∷ []) e))

-- two stretches of the pattern, one after the other
pub pattern-append : (place size more : ℕ) → pattern place size ++ pattern (place + size) more ≡ pattern place (size + more)
unfolding pattern
pattern-append place zero more = let here : place + 0 ≡ place = omega arith in let none : 0 + more ≡ more = omega arith in rw (here, none) refl
pattern-append place (suc size) more =
    let there : place + suc size ≡ place + 1 + size = omega arith in
    let one : suc size + more ≡ suc (size + more) = omega arith in
    rw (there, one) (ap (λ bytes. place % 251 ∷ bytes) (pattern-append (place + 1) size more))

-- the pattern comes round
pub pattern_round : (place size : ℕ) → pattern (place % 251) size ≡ pattern place size
unfolding pattern
pattern_round place zero = refl
pattern_round place (suc size) =
    let byte : place % 251 % 251 ≡ place % 251 = omega arith in
    let there : (place % 251 + 1) % 251 ≡ (place + 1) % 251 = omega arith in
    let rest : pattern (place % 251 + 1) size ≡ pattern (place + 1) size =
    sym (pattern_round (place % 251 + 1) size) ∙ ap (λ at. pattern at size) there ∙ pattern_round (place + 1) size in
    rw (byte, rest) refl
