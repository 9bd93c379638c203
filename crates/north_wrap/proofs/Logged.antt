-- The run over the reads that are known to be logged, beside the run over all.
use Rattle.std.proofs.Common.{◌≡◌, ℕ, zero, suc, ◌≤◌, true, refl, sym, ap, ◌∙◌, List, [], ◌∷◌, length, take, arith}
use Rattle.std.proofs.lemmas.List.{take-append-le}
use Rattle.server_trait.specs.Service.{Machine, reference}
use Rattle.ft_model.specs.Point.{Point, made, released, whole_run, answered_run}
use Rattle.ft_model.proofs.Lists.{take_first}
use Rattle.ft_model.proofs.Services.{RunExtends, reads_proceed}
use Rattle.ft_model.specs.Growth.{IsPrefix}
use Rattle.north_wrap.specs.Refinement.{with_reads}

-- the answered run is a front of the whole one
pub answered_front : {S : Type 0} (service : Machine S) (p : Point) → RunExtends (answered_run service p) (whole_run service p)
answered_front service p = reads_proceed service p.taken (take p.reads_answered p.lengths) p.lengths (take_first p.reads_answered p.lengths)

-- where the logged run has closed, all that is made is released
pub all_released : {S : Type 0} (service : Machine S) (p : Point) → (answered_run service p).closed ≡ true → made service p ≡ released service p
all_released service p c = ap length ((answered_front service p).closed c).0

-- reads of this turn aren't logged, so the logged run stays ..
pub answered_stays : {S : Type 0} (service : Machine S) (p : Point) (ks : List ℕ) → p.reads_answered ≤ length p.lengths → answered_run service (with_reads ks p) ≡ answered_run service p
answered_stays service p ks h = ap (λ l. reference service p.taken l) (take-append-le p.reads_answered p.lengths ks h)

-- .. and where it has closed the service, they make nothing more
pub made_stays : {S : Type 0} (service : Machine S) (p : Point) (ks : List ℕ) → p.reads_answered ≤ length p.lengths → (answered_run service p).closed ≡ true → made service (with_reads ks p) ≡ made service p
made_stays service p ks h c =
    let same = answered_stays service p ks h in
    all_released service (with_reads ks p) (ap (λ r. r.closed) same ∙ c) ∙ ap (λ r. length r.output) same ∙ sym (all_released service p c)

-- a shorter front is a front of a longer one
front_of_front : (a b : ℕ) (xs : List ℕ) → a ≤ b → IsPrefix (take a xs) (take b xs)
front_of_front zero b xs h = (take b xs, refl)
front_of_front (suc a) zero xs h = absurd (omega (arith, h))
front_of_front (suc a) (suc b) [] h = ([], refl)
front_of_front (suc a) (suc b) (x ∷ xs) h = let rest = front_of_front a b xs (omega (arith, h)) in (rest.0, ap (λ l. x ∷ l) rest.1)

-- a service that has closed in the logged run has closed when more reads are logged
pub still_closed : {S : Type 0} (service : Machine S) (p : Point) (count : ℕ) → p.reads_answered ≤ count → (answered_run service p).closed ≡ true → (reference service p.taken (take count p.lengths)).closed ≡ true
still_closed service p count h c =
    ((reads_proceed service p.taken (take p.reads_answered p.lengths) (take count p.lengths) (front_of_front p.reads_answered count p.lengths h)).closed c).1
