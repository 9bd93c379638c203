-- The stored packets: one more is stored, or those of a connection are lost.
use Rattle.std.proofs.Common.{◌≡◌, ◌∙◌, ℕ, suc, ◌+◌, ◌≤◌, ◌<◌, ◌||◌, nat_le, Bool, true, false, sym, ap, ap₂, subst, refl, arith, Option, None, Some, List, [], ◌∷◌, ◌++◌, map, length, length-append}
use Rattle.std.proofs.lemmas.List.{map-append, length-map}
use Rattle.std.specs.Map.{lookup}
use Rattle.std.specs.Option.{option_map_or}
use Rattle.ft_io.specs.declared.Key.{Key}
use Rattle.ft_io.specs.Key.{key_eq}
use Rattle.seq_arith.specs.declared.kinds.Grammar.{Grammar}
use Rattle.ft_model.specs.declared.way.Way.{Way}
use Rattle.ft_model.proofs.Lists.{same_key}
use Rattle.ft_io.proofs.Numbers.{at_most_of_test}
use Rattle.ft_model.proofs.PlayableLemmas.{same_either_way}
use Rattle.ft_model.proofs.Wires.{is_low}
use Rattle.lasting_laws.specs.LastingWorld.{Parcel, Sent, under_way, lost_with, bytes_of, parcel_concerns}
use Rattle.schedule_network.specs.StoredPackets.{no_packets}
use Rattle.lasting_world.specs.Abouts.{names}
use Rattle.lasting_world.specs.NetworkStands.{Stored, ParcelStands, AllStand, NetworkStands, IsWayOf}
use Rattle.lasting_world.specs.NetworkView.{AddsPacket, LosesAll, lost_to, is_lost_about}
use Rattle.lasting_world.specs.declared.network.Network.{Network}

-- a number above all that are lost is of no lost packet
above : (number limit : ℕ) → limit < number → nat_le number limit ≡ false
above number limit h = by_test (nat_le number limit) refl
  where
    by_test : (b : Bool) → nat_le number limit ≡ b → nat_le number limit ≡ false
    by_test true e = absurd (omega (arith, h, at_most_of_test number limit e))
    by_test false e = e

not_lost : (number : ℕ) (about : Option Key) (up_to : Key → ℕ) → ((key : Key) → up_to key < number) → is_lost_about number about up_to ≡ false
not_lost number (Some key) up_to low = above number (up_to key) (low key)
not_lost number None up_to low = refl

last_stands : (grammar : Grammar) (n : ℕ) (up_to : Key → ℕ) (stored : List Stored) (sent : List Sent) (k : Stored) (s : Sent) → AllStand grammar n up_to stored sent
    → ParcelStands grammar (n + length stored + 1) up_to k s → AllStand grammar n up_to (stored ++ k ∷ []) (sent ++ s ∷ [])
last_stands grammar n up_to [] [] k s a p = let same : n + 0 + 1 ≡ n + 1 = omega arith in (subst (λ m. ParcelStands grammar m up_to k s) same p, tt)
last_stands grammar n up_to (x ∷ stored) (y ∷ sent) k s a p =
    let same : n + suc (length stored) + 1 ≡ n + 1 + length stored + 1 = omega arith in
    (a.0, last_stands grammar (n + 1) up_to stored sent k s a.1 (subst (λ m. ParcelStands grammar m up_to k s) same p))
last_stands grammar n up_to [] (y ∷ sent) k s a p = absurd a
last_stands grammar n up_to (x ∷ stored) [] k s a p = absurd a

-- a parcel is sent, and stored
pub adds : (grammar : Grammar) (old new : Network) (sent : List Sent) (way : Way) (about : Option Key) (bytes : List ℕ) (parcel : Parcel) → AddsPacket way about bytes old new → IsWayOf parcel way
    → bytes ≡ bytes_of grammar parcel → ((key : Key) → parcel_concerns key parcel ≡ names about key) → NetworkStands grammar old sent
    → NetworkStands grammar new (sent ++ under_way (parcel ∷ []))
adds grammar old new sent way about bytes parcel a goes spells concerns n =
    let k : Stored = record { way = way; bytes = bytes; about = about } in
    let same : (key : Key) → lost_to new key ≡ lost_to old key = λ key. ap (λ l. lost_to (record old { lost = l }) key) a.lost in
    let low : (key : Key) → lost_to old key < 0 + length n.stored + 1 = λ key. omega (arith, n.bound key) in
    let last : ParcelStands grammar (0 + length n.stored + 1) (lost_to old) k (record { parcel = parcel; lost = false }) =
    record { goes = goes; spells = spells; concerns = concerns; lost = not_lost (0 + length n.stored + 1) about (lost_to old) low } in
    record {
      stored = n.stored ++ k ∷ [];
      ways = ap (λ p. p.ways) a.packets ∙ (ap (λ l. l ++ way ∷ []) n.ways ∙ sym (map-append (λ x. x.way) n.stored (k ∷ [])));
      bytes = ap (λ p. p.bytes) a.packets ∙ (ap (λ l. l ++ bytes ∷ []) n.bytes ∙ sym (map-append (λ x. x.bytes) n.stored (k ∷ [])));
      about = a.about_is ∙ (ap (λ l. l ++ about ∷ []) n.about ∙ sym (map-append (λ x. x.about) n.stored (k ∷ [])));
      parcels = subst (λ l. AllStand grammar 0 (lost_to (record old { lost = l })) (n.stored ++ k ∷ []) (sent ++ under_way (parcel ∷ []))) (sym a.lost)
          (last_stands grammar 0 (lost_to old) n.stored sent k (record { parcel = parcel; lost = false }) n.parcels last);
      bound = λ key. let many : length (n.stored ++ k ∷ []) ≡ length n.stored + 1 = length-append n.stored (k ∷ []) in omega (arith, same key, n.bound key, many);
    }

-- what a connection's loss makes of a packet
still_lost : (key : Key) (old new : Network) (count number : ℕ) (about : Option Key) → number ≤ count → lost_to new key ≡ count → ((k : Key) → key_eq key k ≡ false → lost_to new k ≡ lost_to old k)
    → is_lost_about number about (lost_to new) ≡ (is_lost_about number about (lost_to old) || names about key)
still_lost key old new count number None low its others = refl
still_lost key old new count number (Some k) low its others = by_key (key_eq k key) refl
  where
    or_true : (b : Bool) → (b || true) ≡ true
    or_true true = refl
    or_true false = refl

    or_false : (b : Bool) → (b || false) ≡ b
    or_false true = refl
    or_false false = refl

    by_key : (b : Bool) → key_eq k key ≡ b → nat_le number (lost_to new k) ≡ (nat_le number (lost_to old k) || key_eq k key)
    by_key true e =
        let same : k ≡ key = same_key k key e in
        let count_is : lost_to new k ≡ count = ap (lost_to new) same ∙ its in
        is_low number (lost_to new k) (omega (arith, low, count_is)) ∙ sym (ap (λ c. nat_le number (lost_to old k) || c) e ∙ or_true (nat_le number (lost_to old k)))
    by_key false e =
        ap (nat_le number) (others k (sym (same_either_way k key) ∙ e)) ∙ sym (ap (λ c. nat_le number (lost_to old k) || c) e ∙ or_false (nat_le number (lost_to old k)))

all_lost : (grammar : Grammar) (key : Key) (old new : Network) (count n : ℕ) (stored : List Stored) (sent : List Sent) → n + length stored ≤ count → lost_to new key ≡ count
    → ((k : Key) → key_eq key k ≡ false → lost_to new k ≡ lost_to old k) → AllStand grammar n (lost_to old) stored sent
    → AllStand grammar n (lost_to new) stored (map (lost_with key) sent)
all_lost grammar key old new count n [] [] low its others a = tt
all_lost grammar key old new count n (k ∷ stored) (s ∷ sent) low its others a =
    let p : ParcelStands grammar (n + 1) (lost_to old) k s = a.0 in (
      record {
        goes = p.goes;
        spells = p.spells;
        concerns = p.concerns;
        lost = still_lost key old new count (n + 1) k.about (omega arith) its others ∙ ap₂ (λ b c. b || c) p.lost (sym (p.concerns key));
      },
      all_lost grammar key old new count (n + 1) stored sent (omega arith) its others a.1,
    )
all_lost grammar key old new count n [] (s ∷ sent) low its others a = absurd a
all_lost grammar key old new count n (k ∷ stored) [] low its others a = absurd a

-- all that is under way of a connection is lost
pub loses : (grammar : Grammar) (key : Key) (old new : Network) (sent : List Sent) → LosesAll key old new → NetworkStands grammar old sent
    → NetworkStands grammar new (map (lost_with key) sent)
loses grammar key old new sent l n =
    let many : length old.about.items ≡ length n.stored = ap length n.about ∙ length-map n.stored (λ k. k.about) in
    let its : lost_to new key ≡ length n.stored = l.its ∙ many in
    record {
      stored = n.stored;
      ways = ap (λ p. p.ways) l.packets ∙ n.ways;
      bytes = ap (λ p. p.bytes) l.packets ∙ n.bytes;
      about = l.about_is ∙ n.about;
      parcels = all_lost grammar key old new (length n.stored) 0 n.stored sent (omega arith) its l.others n.parcels;
      bound = λ k. by_key k (key_eq key k) refl its;
    }
  where
    by_key : (k : Key) (b : Bool) → key_eq key k ≡ b → lost_to new key ≡ length n.stored → lost_to new k ≤ length n.stored
    by_key k true e its = let same : lost_to new k ≡ lost_to new key = ap (lost_to new) (sym (same_key key k e)) in omega (arith, same, its)
    by_key k false e its = omega (arith, l.others k e, n.bound k)

-- nothing is stored
pub nothing_stands : (grammar : Grammar) (network : Network) → network.packets ≡ no_packets → network.about.items ≡ [] → network.lost.entries ≡ [] → NetworkStands grammar network []
nothing_stands grammar network packets about lost = record {
  stored = [];
  ways = ap (λ p. p.ways) packets;
  bytes = ap (λ p. p.bytes) packets;
  about = about;
  parcels = tt;
  bound = λ key. let none : lost_to network key ≡ 0 = ap (λ (es : List (Key × ℕ)). option_map_or (λ n. n) (lookup (key_eq key) es) 0) lost in omega (arith, none);
}
