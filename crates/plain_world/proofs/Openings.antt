-- Which keys have a place, how many openings are pending, and which are asked for.
use Rattle.std.proofs.Common.{◌≡◌, ◌∙◌, ℕ, ◌+◌, ◌≤◌, ◌<◌, Bool, true, false, ◌||◌, refl, sym, ap, arith, List, [], ◌∷◌, ◌++◌, map, filter, length, take, get_or, find, is_some, append-nil}
use mir.Val.{bool_byte}
use Rattle.std.specs.List.{list_any, flat_map}
use Rattle.std.proofs.lemmas.List.{map_more, length-append}
use Rattle.std.proofs.lemmas.List.Elements.{filter-append}
use Rattle.std.proofs.lemmas.Grind.{flat_map-append}
use Rattle.ft_io.specs.declared.Key.{Key}
use Rattle.ft_io.specs.Key.{key_eq}
use Rattle.ft_io.proofs.Numbers.{bool_byte_low}
use Rattle.ft_model.specs.Network.{Packet}
use Rattle.ft_model.specs.Node.{Place, key_of, is_known, is_pending, pending_count}
use Rattle.ft_model.specs.Node.Place.{Opens, Lives, Ended}
use Rattle.plain_world.specs.declared.place.PlainPlace.{PlainPlace}
use Rattle.plain_world.specs.Values.{place_in, places_in}

found_first : {A : Type 0} (p : A → Bool) (x : A) (xs : List A) (b : Bool) → p x ≡ b → is_some (find p (x ∷ xs)) ≡ (b || is_some (find p xs))
found_first p x xs true e = rw e refl
found_first p x xs false e = rw e refl

found_is : {A B : Type 0} (p : B → Bool) (f : A → B) (xs : List A) → is_some (find p (map f xs)) ≡ list_any (λ x. p (f x)) xs
found_is p f [] = refl
found_is p f (x ∷ xs) = found_first p (f x) (map f xs) (p (f x)) refl ∙ ap (λ b. p (f x) || b) (found_is p f xs)

pub known_is : {S : Type 0} (key : Key) (places : List (PlainPlace S)) → is_known key (places_in places) ≡ list_any (λ place. key_eq (key_of (place_in place)) key) places
known_is key places = found_is (λ place. key_eq (key_of place) key) place_in places

pending_one : (place : Place) → pending_count (place ∷ []) ≡ bool_byte (is_pending place)
pending_one (Opens numbers timestamping) = refl
pending_one (Lives p) = refl
pending_one (Ended key) = refl

-- so many of the first openings are pending, and no more than there are
abbrev pub IsPendingCount : {S : Type 0} → (i count : ℕ) → List (PlainPlace S) → Type 0
IsPendingCount i count places = (count ≡ pending_count (places_in (take i places))) × (count ≤ i)

pub one_more_pending : {S : Type 0} (places : List (PlainPlace S)) (i count byte : ℕ) (place : PlainPlace S) → i < length places → place ≡ get_or places i place
    → byte ≡ bool_byte (is_pending (place_in place)) → IsPendingCount i count places → IsPendingCount (i + 1) (count + byte) places
one_more_pending places i count byte place lt is e h =
    let front : List Place = places_in (take i places) in
    let more : places_in (take (i + 1) places) ≡ front ++ place_in place ∷ [] = map_more place_in places i place lt ∙ ap (λ p. front ++ place_in p ∷ []) (sym is) in
    let sum : pending_count (front ++ place_in place ∷ []) ≡ pending_count front + pending_count (place_in place ∷ []) =
    ap length (filter-append is_pending front (place_in place ∷ [])) ∙ length-append (filter is_pending front) (filter is_pending (place_in place ∷ [])) in
    let one : pending_count (place_in place ∷ []) ≡ bool_byte (is_pending (place_in place)) = pending_one (place_in place) in
    let all : pending_count (places_in (take (i + 1) places)) ≡ pending_count (front ++ place_in place ∷ []) = ap pending_count more in
    let low : bool_byte (is_pending (place_in place)) ≤ 1 = bool_byte_low (is_pending (place_in place)) in
    let were : count ≡ pending_count front = h.0 in
    let few : count ≤ i = h.1 in
    (omega (arith, all, sum, one, e, were), omega (arith, few, low, e))

-- what is sent for one more place
pub sent_more : {S : Type 0} (sends : Place → List Packet) (places : List (PlainPlace S)) (i : ℕ) (place : PlainPlace S) → i < length places → place ≡ get_or places i place
    → flat_map sends (places_in (take i places)) ++ sends (place_in place) ≡ flat_map sends (places_in (take (i + 1) places))
sent_more sends places i place lt is =
    let front : List Place = places_in (take i places) in
    let more : places_in (take (i + 1) places) ≡ front ++ place_in place ∷ [] = map_more place_in places i place lt ∙ ap (λ p. front ++ place_in p ∷ []) (sym is) in
    sym (ap (flat_map sends) more ∙ (flat_map-append sends front (place_in place ∷ []) ∙ ap (λ ps. flat_map sends front ++ ps) (append-nil (sends (place_in place)))))
