-- What was written at the front of some room, and what is after it.
use Rattle.std.proofs.Common.{◌≡◌, ◌∙◌, ℕ, zero, suc, ◌+◌, ◌<◌, sym, ap, arith, refl, subst, append_assoc, get_or, List, [], ◌∷◌, ◌++◌, length, length-append, take}
use Rattle.std.specs.Prelude.{slice_get, Some, Bool, ◌||◌, map}
use Rattle.std.specs.List.{list_any}
use Rattle.ft_io.proofs.Choices.{same_some}
use Rattle.ft_model.proofs.Lists.{none_is_some}
use Rattle.std.proofs.Math.Seq.{take-append_seam}
use Rattle.std.proofs.lemmas.List.{length-take, length-map, map-append, drop-map}
use Rattle.std.proofs.lemmas.Option.{slice_get_read}
use Rattle.seq_arith.specs.TwinGrammar.{spelling}
use Rattle.seq_arith.specs.TwinDatagram.{TwinDatagram as datagrams}
use Rattle.twin_laws.specs.declared.part.Side.{Side}
use Rattle.twin_laws.specs.declared.part.Side.TheVariants as sides
use Rattle.twin_laws.specs.StoredState.{forwards_sent}

pub in_front : {A : Type 0} (n : ℕ) (xs : List A) (i : ℕ) → i < length (take n xs) → slice_get (take n xs) i ≡ slice_get xs i
in_front zero xs i within = absurd (omega (arith, within))
in_front (suc n) [] i within = refl
in_front (suc n) (x ∷ xs) zero within = refl
in_front (suc n) (x ∷ xs) (suc i) within = in_front n xs i (omega (arith, within))

-- what is read in front of some room
pub read_in_front : {A : Type 0} (n : ℕ) (xs front : List A) (i : ℕ) (x : A) → take n xs ≡ front → i < length front → x ≡ get_or xs i x → slice_get front i ≡ Some x
read_in_front n xs front i x is within read =
    let inside : i < length (take n xs) = subst (λ ys. i < length ys) (sym is) within
    in let all : i < length xs = omega (arith, inside, length-take n xs)
    in ap (λ ys. slice_get ys i) (sym is) ∙ in_front n xs i inside ∙ slice_get_read xs (length xs) i x refl all read

-- one Forward more
pub forward_more : (confirmed i : ℕ) (messages : List (List ℕ)) (message : List ℕ) → slice_get messages i ≡ Some message
    → forwards_sent confirmed (take (i + 1) messages) ≡ forwards_sent confirmed (take i messages) ++ (sides.Other, spelling (datagrams.Forward (confirmed + i + 1) message)) ∷ []
forward_more confirmed i messages message e =
    let next : i + 1 ≡ suc i = omega arith
    in ap (λ k. forwards_sent confirmed (take k messages)) next ∙ more confirmed i messages message e
  where
    more : (n i : ℕ) (messages : List (List ℕ)) (message : List ℕ) → slice_get messages i ≡ Some message
        → forwards_sent n (take (suc i) messages) ≡ forwards_sent n (take i messages) ++ (sides.Other, spelling (datagrams.Forward (n + i + 1) message)) ∷ []
    more n i [] message e = none_is_some message e
    more n zero (x ∷ messages) message e =
        let at : n + 1 ≡ n + 0 + 1 = omega arith
        in ap (λ m. (sides.Other, spelling (datagrams.Forward (n + 1) m)) ∷ []) (same_some e) ∙ ap (λ k. (sides.Other, spelling (datagrams.Forward k message)) ∷ []) at
    more n (suc i) (x ∷ messages) message e =
        let at : n + 1 + i + 1 ≡ n + suc i + 1 = omega arith
        in ap (λ rest. (sides.Other, spelling (datagrams.Forward (n + 1) x)) ∷ rest)
        (more (n + 1) i messages message e ∙ ap (λ k. forwards_sent (n + 1) (take i messages) ++ (sides.Other, spelling (datagrams.Forward k message)) ∷ []) at)

pub forwarded : (confirmed i : ℕ) (messages : List (List ℕ)) (message : List ℕ) (before out sent : List (Side × List ℕ))
    → (out ≡ before ++ forwards_sent confirmed (take i messages)) × (length out ≡ length before + i)
    → sent ≡ out ++ (sides.Other, spelling (datagrams.Forward (confirmed + i + 1) message)) ∷ [] → slice_get messages i ≡ Some message
    → (sent ≡ before ++ forwards_sent confirmed (take (i + 1) messages)) × (length sent ≡ length before + (i + 1))
forwarded confirmed i messages message before out sent so_far is at =
    let one : List (Side × List ℕ) = (sides.Other, spelling (datagrams.Forward (confirmed + i + 1) message)) ∷ []
    in (
      is ∙ ap (λ xs. xs ++ one) so_far.0 ∙ append_assoc before (forwards_sent confirmed (take i messages)) one
          ∙ ap (λ xs. before ++ xs) (sym (forward_more confirmed i messages message at)),
      omega (arith, ap length is, length-append out one, so_far.1),
    )

-- a test of what is made of each element
pub any_map : {X Y : Type 0} (p : Y → Bool) (f : X → Y) (xs : List X) → list_any p (map f xs) ≡ list_any (λ x. p (f x)) xs
any_map p f [] = refl
any_map p f (x ∷ xs) = ap (λ rest. p (f x) || rest) (any_map p f xs)

-- what the code's tactics cite
pub ruleset seams = (take-append_seam)

pub ruleset taken = (length-take)

pub ruleset any_mapped = (any_map)

pub ruleset mapped = (length-map, map-append, drop-map)
