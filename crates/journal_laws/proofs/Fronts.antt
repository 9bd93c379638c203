-- Fronts of calls: in which part they end.
use Rattle.std.proofs.Common.{◌≡◌, ◌⊎◌, inl, inr, ◌≤◌, refl, ap, ap₂, List, [], ◌∷◌, ◌++◌, length, arith}
use Rattle.ft_io.specs.declared.link_call.LinkCall.{LinkCall}
use Rattle.disk.specs.Remains.{IsFrontOf, failed}
use Rattle.disk.specs.CallRecord.{on_link, on_disk}
use Rattle.disk.specs.declared.calls.DiskCall.{DiskCall}
use Rattle.disk.specs.declared.calls.DeskCall.{DeskCall}
use Rattle.journal_laws.specs.Moments.{IsFront}

-- in the first part, or after it
abbrev pub Within : (xs ys done : List DeskCall) → Type 0
Within xs ys done = IsFront xs done ⊎ ((rest : List DeskCall) × (done ≡ xs ++ rest) × IsFront ys rest)

pub within : (xs ys done : List DeskCall) → IsFront (xs ++ ys) done → Within xs ys done
within [] ys done f = inr (done, refl, f)
within (x ∷ xs) ys [] f = inl tt
within (x ∷ xs) ys (call ∷ done) (inr last) = inl (inr last)
within (x ∷ xs) ys (call ∷ done) (inl (is, f)) = on (within xs ys done f)
  where
    on : Within xs ys done → Within (x ∷ xs) ys (call ∷ done)
    on (inl g) = inl (inl (is, g))
    on (inr (rest, same, g)) = inr (rest, ap₂ (λ a b. a ∷ b) is same, g)

-- of calls on the network: the first ones
pub record IsFirst (xs : List LinkCall) (done : List DeskCall) : Type 0 where
  pub first : List LinkCall
  pub others : List LinkCall
  pub done_is : done ≡ on_link first
  pub all_are : xs ≡ first ++ others

pub link_front : (xs : List LinkCall) (done : List DeskCall) → IsFront (on_link xs) done → IsFirst xs done
link_front [] [] f = record { first = []; others = []; done_is = refl; all_are = refl }
link_front [] (call ∷ done) f = absurd f
link_front (x ∷ xs) [] f = record { first = []; others = x ∷ xs; done_is = refl; all_are = refl }
link_front (x ∷ xs) (call ∷ done) (inl (is, f)) =
    let s = link_front xs done f in
    record { first = x ∷ s.first; others = s.others; done_is = ap₂ (λ a b. a ∷ b) is s.done_is; all_are = ap (λ l. x ∷ l) s.all_are }
link_front (x ∷ xs) (call ∷ done) (inr (is, last)) = record { first = x ∷ []; others = xs; done_is = ap₂ (λ a b. a ∷ b) is last; all_are = refl }

-- .. of which there is one at most
pub one_front : (xs : List LinkCall) (done : List DeskCall) → length xs ≤ 1 → IsFront (on_link xs) done → (done ≡ []) ⊎ (done ≡ on_link xs)
one_front [] [] few f = inl refl
one_front [] (call ∷ done) few f = absurd f
one_front (x ∷ []) [] few f = inl refl
one_front (x ∷ []) (call ∷ []) few (inl (is, f)) = inr (ap (λ c. c ∷ []) is)
one_front (x ∷ []) (call ∷ next ∷ done) few (inl (is, f)) = absurd f
one_front (x ∷ []) (call ∷ done) few (inr (is, last)) = inr (ap₂ (λ a b. a ∷ b) is last)
one_front (x ∷ y ∷ xs) done few f = absurd (omega (arith, few))

-- of calls on the file
pub disk_front : (xs : List DiskCall) (done : List DeskCall) → IsFront (on_disk xs) done → (some : List DiskCall) × (done ≡ on_disk some) × IsFrontOf xs some
disk_front [] [] f = ([], refl, tt)
disk_front [] (call ∷ done) f = absurd f
disk_front (x ∷ xs) [] f = ([], refl, tt)
disk_front (x ∷ xs) (call ∷ done) (inl (is, f)) =
    let some = disk_front xs done f in
    (x ∷ some.0, ap₂ (λ a b. a ∷ b) is some.1, inl (refl, some.2))
disk_front (x ∷ xs) (call ∷ done) (inr (is, last)) = (failed x ∷ [], ap₂ (λ a b. a ∷ b) is last, inr (refl, refl))
