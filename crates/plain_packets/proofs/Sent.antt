-- What is sent in two steps is sent in one, and a packet's wire has the packet's number.
use Rattle.std.proofs.Common.{◌≡◌, ◌∙◌, ℕ, zero, suc, refl, sym, ap, List, [], ◌∷◌, ◌++◌, map, slice_get, append_assoc, append-nil}
use Rattle.std.specs.Prelude.{option_map}
use Rattle.std.specs.List.{AllByRecursion}
use Rattle.std.proofs.lemmas.List.{map-append}
use Rattle.ft_model.specs.Network.{Packet, packet_at}
use Rattle.ft_model.specs.Wire.{Wire}
use Rattle.ft_model.proofs.FormedWorld.{all_behind}
use Rattle.plain_packets.specs.Sent.{Appends, wire_at, kept_wire, CanBeKept}

pub appends_none : (wires : List Wire) → Appends wires wires []
appends_none wires = record { follow = λ _. sym (append-nil wires) }

pub appends_same : (before after : List Wire) → after ≡ before → Appends before after []
appends_same before after same = record { follow = λ _. same ∙ sym (append-nil before) }

first_of_all : {X : Type 0} (P : X → Type 0) (xs ys : List X) → AllByRecursion P (xs ++ ys) → AllByRecursion P xs
first_of_all P [] ys all = tt
first_of_all P (x ∷ xs) ys all = (all.0, first_of_all P xs ys all.1)

pub appends_both : {before middle after : List Wire} {first more : List Packet} → Appends before middle first → Appends middle after more → Appends before after (first ++ more)
appends_both {before} {middle} {after} {first} {more} a b = record {
  follow = λ wires.
      b.follow (all_behind CanBeKept first more wires) ∙ ap (λ w. w ++ map kept_wire more) (a.follow (first_of_all CanBeKept first more wires))
      ∙ append_assoc before (map kept_wire first) (map kept_wire more) ∙ ap (λ w. before ++ w) (sym (map-append kept_wire first more));
}

slice_mapped : {X Y : Type 0} (f : X → Y) (xs : List X) (n : ℕ) → slice_get (map f xs) n ≡ option_map f (slice_get xs n)
slice_mapped f [] n = refl
slice_mapped f (x ∷ xs) zero = refl
slice_mapped f (x ∷ xs) (suc n) = slice_mapped f xs n

pub wire_numbered : (packets : List Packet) (n : ℕ) → wire_at (map kept_wire packets) n ≡ option_map kept_wire (packet_at packets n)
wire_numbered packets zero = refl
wire_numbered packets (suc n) = slice_mapped kept_wire packets n

-- one packet is sent
pub one_follows : (before after : List Wire) (packet : Packet) → (CanBeKept packet → after ≡ before ++ kept_wire packet ∷ []) → Appends before after (packet ∷ [])
one_follows before after packet goes = record { follow = λ wires. goes wires.0 }
