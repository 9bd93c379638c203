-- The stored packets: the connection that each concerns, and whether it is lost.
use Rattle.std.specs.Prelude.{◌≡◌, ℕ, zero, suc, ◌∷◌, ◌++◌, [], nat_le, Bool, false, Option, None, Some, List, slice_get, length}
use Rattle.std.specs.Option.{option_map_or}
use Rattle.std.specs.Map.{lookup}
use Rattle.ft_io.specs.declared.Key.{Key}
use Rattle.ft_io.specs.Key.{key_eq}
use Rattle.ft_model.specs.declared.way.Way.{Way}
use Rattle.schedule_network.specs.StoredPackets.{with_packet}
use Rattle.lasting_world.specs.declared.network.Network.{Network}

-- one packet more
pub record AddsPacket (way : Way) (about : Option Key) (bytes : List ℕ) (old new : Network) : Type 0 where
  pub packets : new.packets ≡ with_packet old.packets way bytes
  pub about_is : new.about.items ≡ old.about.items ++ about ∷ []
  pub lost : new.lost ≡ old.lost

-- up to which number the packets of a key are lost
abbrev pub lost_to : Network → Key → ℕ
lost_to network key = option_map_or (λ n. n) (lookup (key_eq key) network.lost.entries) 0

-- the key that a packet concerns, by its number from 1 on
abbrev pub about_number : ℕ → List (Option Key) → Option Key
about_number zero about = None
about_number (suc n) about = option_map_or (λ key. key) (slice_get about n) None

abbrev pub about_at : (n : ℕ) → Network → Option Key
about_at n network = about_number n network.about.items

-- whether the packet with this number, which concerns this key, is lost
abbrev pub is_lost_about : (n : ℕ) → Option Key → (Key → ℕ) → Bool
is_lost_about n (Some key) up_to = nat_le n (up_to key)
is_lost_about n None up_to = false

abbrev pub is_lost_at : (n : ℕ) → Network → Bool
is_lost_at n network = is_lost_about n (about_at n network) (lost_to network)

-- all so far that concern a key are lost, and no others
pub record LosesAll (key : Key) (old new : Network) : Type 0 where
  pub packets : new.packets ≡ old.packets
  pub about_is : new.about.items ≡ old.about.items
  pub its : lost_to new key ≡ length old.about.items
  pub others : (k : Key) → key_eq key k ≡ false → lost_to new k ≡ lost_to old k
