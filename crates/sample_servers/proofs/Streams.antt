-- How steps of a service come one after another.
use Rattle.std.proofs.Common.{◌≡◌, ℕ, Bool, true, false, List, [], ◌∷◌, ◌++◌, refl, sym, ◌∙◌, ap, append_assoc}
use Rattle.server_trait.specs.Service.{Served}
use Rattle.sample_servers.specs.Stream.{written, and_then, each_byte}

-- what was written before stays before
pub written-written : {S : Type 0} (a b : List ℕ) (s : Served S) → written a (written b s) ≡ written (a ++ b) s
written-written a b s = rw append_assoc refl

-- steps by their parts, since a step splits by whether it closed
pub and_then-written : {S : Type 0} (a : List ℕ) (next : S) (output : List ℕ) (closed : Bool) (f : S → Served S) → and_then (written a (record { next = next; output = output; closed = closed })) f ≡ written a (and_then (record { next = next; output = output; closed = closed }) f)
and_then-written a next output true f = refl
and_then-written a next output false f = sym (written-written a output (f next))

-- three steps, the first two or the last two taken together
pub and_then_assoc : {S : Type 0} (next : S) (output : List ℕ) (closed : Bool) (f g : S → Served S) → and_then (and_then (record { next = next; output = output; closed = closed }) f) g ≡ and_then (record { next = next; output = output; closed = closed }) (λ s. and_then (f s) g)
and_then_assoc next output true f g = refl
and_then_assoc next output false f g = let t = f next in and_then-written output t.next t.output t.closed g

-- what comes after a step may be replaced by what does the same
pub and_then_same : {S : Type 0} (next : S) (output : List ℕ) (closed : Bool) (f g : S → Served S) → ((s : S) → f s ≡ g s) → and_then (record { next = next; output = output; closed = closed }) f ≡ and_then (record { next = next; output = output; closed = closed }) g
and_then_same next output true f g same = refl
and_then_same next output false f g same = ap (λ t. written output t) (same next)

-- bytes in two parts
pub each_byte-append : {S : Type 0} (step : S → ℕ → Served S) (s : S) (xs ys : List ℕ) → each_byte step s (xs ++ ys) ≡ and_then (each_byte step s xs) (λ t. each_byte step t ys)
each_byte-append {S} step s [] ys = refl
each_byte-append {S} step s (x ∷ xs) ys =
    let t = step s x in
    let front = λ (u : S). each_byte step u xs in
    let back = λ (u : S). each_byte step u ys in
    and_then_same t.next t.output t.closed (λ u. each_byte step u (xs ++ ys)) (λ u. and_then (front u) back) (λ u. each_byte-append step u xs ys)
    ∙ sym (and_then_assoc t.next t.output t.closed front back)
