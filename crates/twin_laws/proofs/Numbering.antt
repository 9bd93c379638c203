-- Packets keep what their new numbers name.
use Rattle.std.proofs.Common.{◌≡◌, ℕ, zero, suc, ◌+◌, ◌-◌, Bool, true, false, refl, ap, ◌∙◌, subst, true≢false, Some, List, [], ◌∷◌, ◌++◌, map, length, drop, slice_get, append_assoc, length-append, arith}
use Rattle.ft_model.specs.Network.{Packet, packet_at}
use Rattle.ft_model.specs.Network.Packet.{To_logger}
use Rattle.ft_model.proofs.Lists.{none_is_some, some_is}
use Rattle.ft_model.proofs.Resumed.{get_left}
use Rattle.twin_laws.specs.Twin.{Request, Between}
use Rattle.twin_laws.specs.TwinWorld.{Parcel, parcel_at}
use Rattle.twin_laws.specs.TwinWorld.Parcel.{Outside, Inside}
use Rattle.twin_laws.specs.Flat.{outside, numbers_of, number_at}

pub packet_more : (ps more : List Packet) (q : ℕ) (p : Packet) → packet_at ps q ≡ Some p → packet_at (ps ++ more) q ≡ Some p
packet_more ps more zero p e = none_is_some p e
packet_more ps more (suc q) p e = get_left ps more q p e

-- the parcels that go outside have these numbers
abbrev pub Named : List Packet → List Parcel → List ℕ → Type 0
Named packets [] [] = Unit {0}
Named packets [] (q ∷ qs) = ⊥
Named packets (x ∷ xs) [] = ⊥
Named packets (Outside p ∷ xs) (q ∷ qs) = (packet_at packets q ≡ Some p) × Named packets xs qs
Named packets (Inside b ∷ xs) (q ∷ qs) = Named packets xs qs

pub named_more : (packets more : List Packet) (xs : List Parcel) (qs : List ℕ) → Named packets xs qs → Named (packets ++ more) xs qs
named_more packets more [] [] n = tt
named_more packets more [] (q ∷ qs) n = absurd n
named_more packets more (x ∷ xs) [] n = absurd n
named_more packets more (Outside p ∷ xs) (q ∷ qs) n = (packet_more packets more q p n.0, named_more packets more xs qs n.1)
named_more packets more (Inside b ∷ xs) (q ∷ qs) n = named_more packets more xs qs n

pub named_append : (packets : List Packet) (xs ys : List Parcel) (qs rs : List ℕ) → Named packets xs qs → Named packets ys rs → Named packets (xs ++ ys) (qs ++ rs)
named_append packets [] ys [] rs n m = m
named_append packets [] ys (q ∷ qs) rs n m = absurd n
named_append packets (x ∷ xs) ys [] rs n m = absurd n
named_append packets (Outside p ∷ xs) ys (q ∷ qs) rs n m = (n.0, named_append packets xs ys qs rs n.1 m)
named_append packets (Inside b ∷ xs) ys (q ∷ qs) rs n m = named_append packets xs ys qs rs n m

get_at_end : {A : Type 0} (xs : List A) (x : A) (more : List A) → slice_get (xs ++ x ∷ more) (length xs) ≡ Some x
get_at_end [] x more = refl
get_at_end (y ∷ xs) x more = get_at_end xs x more

pub numbered_anew : (packets : List Packet) (sent : List Parcel) → Named (packets ++ outside sent) sent (numbers_of (length packets) sent)
numbered_anew packets [] = tt
numbered_anew packets (Inside b ∷ sent) = numbered_anew packets sent
numbered_anew packets (Outside p ∷ sent) =
    let next : length packets + 1 ≡ suc (length packets) = omega arith in
    let long : length (packets ++ p ∷ []) ≡ length packets + 1 = length-append packets (p ∷ []) in
    let here : packet_at (packets ++ p ∷ outside sent) (length packets + 1) ≡ Some p =
    ap (packet_at (packets ++ p ∷ outside sent)) next ∙ get_at_end packets p (outside sent) in
    let others : Named ((packets ++ p ∷ []) ++ outside sent) sent (numbers_of (length (packets ++ p ∷ [])) sent) = numbered_anew (packets ++ p ∷ []) sent in (
      here,
      subst (λ k. Named (packets ++ p ∷ outside sent) sent (numbers_of k sent)) long
          (subst (λ ps. Named ps sent (numbers_of (length (packets ++ p ∷ [])) sent)) (append_assoc packets (p ∷ []) (outside sent)) others),
    )

outside_is : (r p : Packet) → Outside r ≡ Outside p → r ≡ p
outside_is r p e = cc

abbrev is_inside : Parcel → Bool
is_inside (Inside b) = true
is_inside (Outside p) = false

named_get : (packets : List Packet) (xs : List Parcel) (qs : List ℕ) (i : ℕ) (p : Packet) → Named packets xs qs → slice_get xs i ≡ Some (Outside p)
    → packet_at packets (number_at qs i) ≡ Some p
named_get packets [] qs i p n e = none_is_some (Outside p) e
named_get packets (x ∷ xs) [] i p n e = absurd n
named_get packets (Outside r ∷ xs) (q ∷ qs) zero p n e = n.0 ∙ ap Some (outside_is r p (some_is (Outside r) (Outside p) e))
named_get packets (Inside b ∷ xs) (q ∷ qs) zero p n e = absurd (true≢false (ap is_inside (some_is (Inside b) (Outside p) e)))
named_get packets (Outside r ∷ xs) (q ∷ qs) (suc i) p n e = named_get packets xs qs i p n.1 e
named_get packets (Inside b ∷ xs) (q ∷ qs) (suc i) p n e = named_get packets xs qs i p n e

pub named_at : (packets : List Packet) (xs : List Parcel) (qs : List ℕ) (number : ℕ) (p : Packet) → Named packets xs qs → parcel_at xs number ≡ Some (Outside p)
    → packet_at packets (number_at qs (number - 1)) ≡ Some p
named_at packets xs qs zero p n e = none_is_some (Outside p) e
named_at packets xs qs (suc i) p n e =
    let less : suc i - 1 ≡ i = omega arith in
    ap (λ k. packet_at packets (number_at qs k)) less ∙ named_get packets xs qs i p n e

-- the head took these messages by these packets
abbrev pub TakenBy : List Packet → List ℕ → List Request → Type 0
TakenBy packets [] [] = Unit {0}
TakenBy packets [] (r ∷ rs) = ⊥
TakenBy packets (q ∷ qs) [] = ⊥
TakenBy packets (q ∷ qs) (r ∷ rs) = (packet_at packets q ≡ Some (To_logger r.message)) × TakenBy packets qs rs

pub taken_more : (packets more : List Packet) (qs : List ℕ) (rs : List Request) → TakenBy packets qs rs → TakenBy (packets ++ more) qs rs
taken_more packets more [] [] t = tt
taken_more packets more [] (r ∷ rs) t = absurd t
taken_more packets more (q ∷ qs) [] t = absurd t
taken_more packets more (q ∷ qs) (r ∷ rs) t = (packet_more packets more q (To_logger r.message) t.0, taken_more packets more qs rs t.1)

pub taken_append : (packets : List Packet) (qs more : List ℕ) (rs others : List Request) → TakenBy packets qs rs → TakenBy packets more others
    → TakenBy packets (qs ++ more) (rs ++ others)
taken_append packets [] more [] others t u = u
taken_append packets [] more (r ∷ rs) others t u = absurd t
taken_append packets (q ∷ qs) more [] others t u = absurd t
taken_append packets (q ∷ qs) more (r ∷ rs) others t u = (t.0, taken_append packets qs more rs others t.1 u)

pub taken_at : (packets : List Packet) (qs : List ℕ) (rs : List Request) (i : ℕ) (r : Request) → TakenBy packets qs rs → slice_get rs i ≡ Some r
    → packet_at packets (number_at qs i) ≡ Some (To_logger r.message)
taken_at packets qs [] i r t e = none_is_some r e
taken_at packets [] (x ∷ rs) i r t e = absurd t
taken_at packets (q ∷ qs) (x ∷ rs) zero r t e = t.0 ∙ ap (λ z. Some (To_logger z.message)) (some_is x r e)
taken_at packets (q ∷ qs) (x ∷ rs) (suc i) r t e = taken_at packets qs rs i r t.1 e

pub taken_rest : (packets : List Packet) (n : ℕ) (qs : List ℕ) (rs : List Request) → TakenBy packets qs rs → TakenBy packets (drop n qs) (drop n rs)
taken_rest packets zero qs rs t = t
taken_rest packets (suc n) [] [] t = tt
taken_rest packets (suc n) [] (r ∷ rs) t = absurd t
taken_rest packets (suc n) (q ∷ qs) [] t = absurd t
taken_rest packets (suc n) (q ∷ qs) (r ∷ rs) t = taken_rest packets n qs rs t.1

pub outside_of : (ps : List Packet) → outside (map Outside ps) ≡ ps
outside_of [] = refl
outside_of (p ∷ ps) = ap (λ qs. p ∷ qs) (outside_of ps)

pub outside_append : (xs ys : List Parcel) → outside (xs ++ ys) ≡ outside xs ++ outside ys
outside_append [] ys = refl
outside_append (Outside p ∷ xs) ys = ap (λ qs. p ∷ qs) (outside_append xs ys)
outside_append (Inside b ∷ xs) ys = outside_append xs ys

pub none_outside : (bs : List Between) → outside (map Inside bs) ≡ []
none_outside [] = refl
none_outside (b ∷ bs) = none_outside bs
