-- A stored packet by its number, and the parcel that it is.
use Rattle.std.proofs.Common.{◌≡◌, ◌∙◌, ℕ, zero, suc, ◌+◌, sym, ap, subst, refl, arith, Option, None, Some, List, [], ◌∷◌, map, slice_get, length}
use Rattle.std.specs.Option.{option_map_or}
use Rattle.ft_io.specs.declared.Key.{Key}
use Rattle.seq_arith.specs.declared.kinds.Grammar.{Grammar}
use Rattle.ft_model.specs.declared.way.Way.{Way}
use Rattle.ft_model.proofs.Lists.{none_is_some, some_is}
use Rattle.lasting_laws.specs.LastingWorld.{Sent, bytes_of, sent_at, parcel_concerns}
use Rattle.schedule_network.specs.AtNumber.{at_number}
use Rattle.lasting_world.specs.Abouts.{names}
use Rattle.lasting_world.specs.NetworkStands.{Stored, ParcelStands, AllStand, NetworkStands, IsWayOf}
use Rattle.lasting_world.specs.NetworkView.{about_at, is_lost_about, is_lost_at, lost_to}
use Rattle.lasting_world.specs.declared.network.Network.{Network}

-- what stands at a place of what each gives
pub stored_at : {A B : Type 0} (f : A → B) (xs : List A) (i : ℕ) (y : B) → slice_get (map f xs) i ≡ Some y → (x : A) × (slice_get xs i ≡ Some x) × (f x ≡ y)
stored_at f [] i y e = none_is_some y e
stored_at f (x ∷ xs) zero y e = (x, refl, some_is (f x) y e)
stored_at f (x ∷ xs) (suc i) y e = stored_at f xs i y e

pub given_at : {A B : Type 0} (f : A → B) (xs : List A) (i : ℕ) (x : A) → slice_get xs i ≡ Some x → slice_get (map f xs) i ≡ Some (f x)
given_at f [] i x e = none_is_some x e
given_at f (y ∷ xs) zero x e = ap (λ z. Some (f z)) (some_is y x e)
given_at f (y ∷ xs) (suc i) x e = given_at f xs i x e

record StandsAt (grammar : Grammar) (number : ℕ) (up_to : Key → ℕ) (sent : List Sent) (i : ℕ) (k : Stored) : Type 0 where
  pub s : Sent
  pub is : slice_get sent i ≡ Some s
  pub stands : ParcelStands grammar number up_to k s

stands_at : (grammar : Grammar) (n : ℕ) (up_to : Key → ℕ) (stored : List Stored) (sent : List Sent) (i : ℕ) (k : Stored) → AllStand grammar n up_to stored sent → slice_get stored i ≡ Some k
    → StandsAt grammar (n + suc i) up_to sent i k
stands_at grammar n up_to [] [] i k a e = none_is_some k e
stands_at grammar n up_to (x ∷ stored) (s ∷ sent) zero k a e = record { s = s; is = refl; stands = subst (λ y. ParcelStands grammar (n + 1) up_to y s) (some_is x k e) a.0 }
stands_at grammar n up_to (x ∷ stored) (s ∷ sent) (suc i) k a e =
    let r : StandsAt grammar (n + 1 + suc i) up_to sent i k = stands_at grammar (n + 1) up_to stored sent i k a.1 e in
    let same : n + 1 + suc i ≡ n + suc (suc i) = omega arith in
    record { s = r.s; is = r.is; stands = subst (λ m. ParcelStands grammar m up_to k r.s) same r.stands }
stands_at grammar n up_to [] (s ∷ sent) i k a e = absurd a
stands_at grammar n up_to (x ∷ stored) [] i k a e = absurd a

none_at : (grammar : Grammar) (n : ℕ) (up_to : Key → ℕ) (stored : List Stored) (sent : List Sent) (i : ℕ) → AllStand grammar n up_to stored sent → slice_get (map (λ k. k.way) stored) i ≡ None
    → slice_get sent i ≡ None
none_at grammar n up_to [] [] i a e = refl
none_at grammar n up_to (x ∷ stored) (s ∷ sent) zero a e = none_is_some x.way (sym e)
none_at grammar n up_to (x ∷ stored) (s ∷ sent) (suc i) a e = none_at grammar (n + 1) up_to stored sent i a.1 e
none_at grammar n up_to [] (s ∷ sent) i a e = absurd a
none_at grammar n up_to (x ∷ stored) [] i a e = absurd a

-- a packet with this number is stored
pub record Found (grammar : Grammar) (network : Network) (sent : List Sent) (number : ℕ) (way : Way) : Type 0 where
  pub s : Sent
  pub is : sent_at sent number ≡ Some s
  pub goes : IsWayOf s.parcel way
  pub concerns : (key : Key) → parcel_concerns key s.parcel ≡ names (about_at number network) key
  pub lost : is_lost_at number network ≡ s.lost
  pub bytes : at_number network.packets.bytes number ≡ Some (bytes_of grammar s.parcel)

pub found : (grammar : Grammar) (network : Network) (sent : List Sent) (number : ℕ) (way : Way) → NetworkStands grammar network sent → at_number network.packets.ways number ≡ Some way
    → Found grammar network sent number way
found grammar network sent zero way n e = none_is_some way e
found grammar network sent (suc i) way n e =
    let at = stored_at (λ k. k.way) n.stored i way (subst (λ ws. slice_get ws i ≡ Some way) n.ways e) in
    let k : Stored = at.0 in
    let r : StandsAt grammar (0 + suc i) (lost_to network) sent i k = stands_at grammar 0 (lost_to network) n.stored sent i k n.parcels at.1 in
    let about_is : about_at (suc i) network ≡ k.about =
    ap (λ (keys : List (Option Key)). option_map_or (λ (key : Option Key). key) (slice_get keys i) None) n.about
    ∙ ap (λ (o : Option (Option Key)). option_map_or (λ (key : Option Key). key) o None) (given_at (λ (x : Stored). x.about) n.stored i k at.1) in
    let same : 0 + suc i ≡ suc i = omega arith in
    record {
      s = r.s;
      is = r.is;
      goes = subst (IsWayOf r.s.parcel) at.2 r.stands.goes;
      concerns = λ key. r.stands.concerns key ∙ ap (λ o. names o key) (sym about_is);
      lost = ap (λ o. is_lost_about (suc i) o (lost_to network)) about_is ∙ (ap (λ m. is_lost_about m k.about (lost_to network)) (sym same) ∙ r.stands.lost);
      bytes = ap (λ (bs : List (List ℕ)). slice_get bs i) n.bytes ∙ (given_at (λ (x : Stored). x.bytes) n.stored i k at.1 ∙ ap Some r.stands.spells);
    }

-- none is
pub missing : (grammar : Grammar) (network : Network) (sent : List Sent) (number : ℕ) → NetworkStands grammar network sent → at_number network.packets.ways number ≡ None → sent_at sent number ≡ None
missing grammar network sent zero n e = refl
missing grammar network sent (suc i) n e = none_at grammar 0 (lost_to network) n.stored sent i n.parcels (subst (λ ws. slice_get ws i ≡ None) n.ways e)

-- as many are stored as were sent
pub as_many : (grammar : Grammar) (n : ℕ) (up_to : Key → ℕ) (stored : List Stored) (sent : List Sent) → AllStand grammar n up_to stored sent → length stored ≡ length sent
as_many grammar n up_to [] [] a = refl
as_many grammar n up_to (k ∷ stored) (s ∷ sent) a = ap suc (as_many grammar (n + 1) up_to stored sent a.1)
as_many grammar n up_to [] (s ∷ sent) a = absurd a
as_many grammar n up_to (k ∷ stored) [] a = absurd a
