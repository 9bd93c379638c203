-- The clients of the code, and those of the definitions.
use Rattle.std.specs.Prelude.{◌≡◌, ℕ, ◌+◌, ◌&&◌, ◌||◌, not, Bool, false, Option, Some, None, is_some, position, take, List, [], ◌∷◌, slice_get, if◌then◌else◌}
use Rattle.std.specs.List.{list_any}
use Rattle.ft_io.specs.declared.Addr.{Addr}
use Rattle.ft_io.specs.declared.Key.{Key}
use Rattle.ft_io.specs.Key.{key_eq}
use Rattle.ft_model.specs.Client.{is_new}
use Rattle.ft_model.specs.Schedule.{client_of}
use Rattle.ft_model.specs.declared.schedule.ClientLine.{ClientLine}
use Rattle.lasting_laws.specs.LastingWorld as law_world
use Rattle.lasting_world.specs.declared.guest.Guest.{Guest}

abbrev pub new_guest : Addr → ClientLine → Guest
new_guest server line = record { key = line.key; client = client_of server line; gone = false }

abbrev pub guest_has_come : Guest → Bool
guest_has_come g = not (is_new g.client.phase)

abbrev pub guest_is_there : Key → Guest → Bool
guest_is_there key g = key_eq g.key key && (guest_has_come g && not g.gone)

-- the number of the client that came last to an address, counted from n on
abbrev pub last_come : ℕ → Key → (found : ℕ) → List Guest → ℕ
last_come n key found [] = found
last_come n key found (g ∷ others) = last_come (n + 1) key (if key_eq g.key key && guest_has_come g then n else found) others

abbrev pub index_there : Key → List Guest → Option ℕ
index_there key guests = position (guest_is_there key) guests

-- the client at this place is gone, or one before it at its address isn't
abbrev pub is_off_guest : List Guest → Option Guest → Bool
is_off_guest earlier (Some g) = g.gone || list_any (λ x. key_eq x.key g.key && not x.gone) earlier
is_off_guest earlier None = false

abbrev pub is_off : List Guest → (place : ℕ) → Bool
is_off guests place = is_off_guest (take place guests) (slice_get guests place)

pub record GuestStands (now : Guest) (g : law_world.Guest) : Type 0 where
  pub key : now.key ≡ g.client.key
  pub client : now.client ≡ g.client
  pub gone : now.gone ≡ is_some g.gone

abbrev pub GuestsStand : List Guest → List law_world.Guest → Type 0
GuestsStand [] [] = Unit {0}
GuestsStand (now ∷ more) (g ∷ others) = GuestStands now g × GuestsStand more others
GuestsStand _ _ = ⊥
