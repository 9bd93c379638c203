-- A client moves whose turn at its address has come.
use Rattle.std.proofs.Common.{◌≡◌, ◌∙◌, ℕ, zero, suc, ◌+◌, ◌&&◌, ◌||◌, not, Bool, true, false, true≢false, sym, ap, ap₂, subst, refl, arith, Option, None, Some, is_some, is_none, List, [], ◌∷◌, take, slice_get, if◌then◌else◌}
use Rattle.std.specs.List.{AllByRecursion, list_any}
use Rattle.ft_io.specs.declared.Key.{Key}
use Rattle.ft_io.specs.Key.{key_eq}
use Rattle.ft_model.specs.Client.{Client, is_new}
use Rattle.ft_model.proofs.Lists.{none_is_some, some_is, same_key, key_is}
use Rattle.ft_model.proofs.PlayableLemmas.{same_either_way}
use Rattle.lasting_laws.specs.LastingLegal.{is_awaited}
use Rattle.lasting_laws.specs.LastingReport.{last_to_come}
use Rattle.lasting_laws.specs.LastingWorld as law
use Rattle.lasting_laws.specs.LastingWorld.{has_come, with_guest}
use Rattle.lasting_world.specs.Around.{IsWaiting, TakeTurns}
use Rattle.lasting_world.specs.Guests.{GuestStands, GuestsStand, is_off, is_off_guest}
use Rattle.lasting_world.specs.declared.guest.Guest.{Guest}

-- the code asks of those before what the definitions ask
any_is : (key : Key) (count : ℕ) (guests : List Guest) (gs : List law.Guest) → GuestsStand guests gs
    → list_any (λ x. key_eq x.key key && not x.gone) (take count guests) ≡ list_any (λ x. key_eq x.client.key key && is_none x.gone) (take count gs)
any_is key zero guests gs s = none guests gs
  where
    none : (guests : List Guest) (gs : List law.Guest)
        → list_any (λ x. key_eq x.key key && not x.gone) (take 0 guests) ≡ list_any (λ x. key_eq x.client.key key && is_none x.gone) (take 0 gs)
    none [] [] = refl
    none [] (g ∷ others) = refl
    none (now ∷ more) [] = refl
    none (now ∷ more) (g ∷ others) = refl
any_is key (suc count) [] [] s = refl
any_is key (suc count) (now ∷ more) (g ∷ others) s =
    ap₂ (λ a b. a || b) (ap₂ (λ (k : Key) b. key_eq k key && b) s.0.key (ap not s.0.gone ∙ not_some g.gone)) (any_is key count more others s.1)
  where
    not_some : {A : Type 0} (o : Option A) → not (is_some o) ≡ is_none o
    not_some None = refl
    not_some (Some x) = refl
any_is key (suc count) [] (g ∷ others) s = absurd s
any_is key (suc count) (now ∷ more) [] s = absurd s

stands_at : (place : ℕ) (guests : List Guest) (gs : List law.Guest) → GuestsStand guests gs → (g : law.Guest) → slice_get gs place ≡ Some g → (now : Guest) × (slice_get guests place ≡ Some now) × GuestStands now g
stands_at place [] [] s g e = none_is_some g e
stands_at zero (now ∷ more) (h ∷ others) s g e = (now, refl, subst (GuestStands now) (some_is h g e) s.0)
stands_at (suc place) (now ∷ more) (h ∷ others) s g e = stands_at place more others s.1 g e
stands_at place [] (h ∷ others) s g e = absurd s
stands_at place (now ∷ more) [] s g e = absurd s

pub off_is : (place : ℕ) (guests : List Guest) (gs : List law.Guest) → GuestsStand guests gs → (g : law.Guest) → slice_get gs place ≡ Some g
    → is_off guests place ≡ (is_some g.gone || is_awaited (take place gs) g)
off_is place guests gs s g e =
    let at = stands_at place guests gs s g e in
    ap (is_off_guest (take place guests)) at.1
    ∙ ap₂ (λ a b. a || b) at.2.gone (ap (λ (k : Key). list_any (λ x. key_eq x.key k && not x.gone) (take place guests)) at.2.key ∙ any_is g.client.key place guests gs s)

-- it keeps its place, and nobody before it at its address is left
or_false : (a b : Bool) → (a || b) ≡ false → (a ≡ false) × (b ≡ false)
or_false false b e = (refl, e)
or_false true b e = absurd (true≢false e)

still_wait : (h : law.Guest) (place : ℕ) (others : List law.Guest) (g : law.Guest) (client : Client) → slice_get others place ≡ Some g → client.key ≡ g.client.key
    → (key_eq g.client.key h.client.key ≡ true → ⊥) → AllByRecursion (IsWaiting h) others → AllByRecursion (IsWaiting h) (with_guest (suc place) client others)
still_wait h place [] g client e k never a = none_is_some g e
still_wait h zero (x ∷ others) g client e k never a = ((λ t. absurd (never (subst (λ j. key_eq j h.client.key ≡ true) k t))), a.1)
still_wait h (suc place) (x ∷ others) g client e k never a = (a.0, still_wait h place others g client e k never a.1)

pub moved_turns : (place : ℕ) (gs : List law.Guest) (g : law.Guest) (client : Client) → slice_get gs place ≡ Some g → client.key ≡ g.client.key → is_awaited (take place gs) g ≡ false → TakeTurns gs
    → TakeTurns (with_guest (suc place) client gs)
moved_turns place [] g client e k first t = none_is_some g e
moved_turns zero (h ∷ others) g client e k first t =
    let same : h ≡ g = some_is h g e in
    ((λ left. again others (t.0 left)), t.1)
  where
    key_is : h.client.key ≡ client.key
    key_is = ap (λ (x : law.Guest). x.client.key) (some_is h g e) ∙ sym k

    again : (xs : List law.Guest) → AllByRecursion (IsWaiting h) xs → AllByRecursion (IsWaiting (record h { client = client })) xs
    again [] a = tt
    again (x ∷ xs) a = ((λ t. a.0 (subst (λ j. key_eq x.client.key j ≡ true) (sym key_is) t)), again xs a.1)
moved_turns (suc place) (h ∷ others) g client e k first t =
    let split = or_false (key_eq h.client.key g.client.key && is_none h.gone) (is_awaited (take place others) g) first in
    ((λ left. still_wait h place others g client e k (nobody left split.0) (t.0 left)), moved_turns place others g client e k split.1 t.1)
  where
    nobody : is_none h.gone ≡ true → (key_eq h.client.key g.client.key && is_none h.gone) ≡ false → key_eq g.client.key h.client.key ≡ true → ⊥
    nobody left off its =
        true≢false (sym (ap₂ (λ a b. a && b) (sym (same_either_way g.client.key h.client.key) ∙ its) left) ∙ off)

-- it is the last that came to its address
nobody_later : (n : ℕ) (key : Key) (found : ℕ) (g : law.Guest) (others : List law.Guest) → key_eq g.client.key key ≡ true → AllByRecursion (IsWaiting g) others → last_to_come n key found others ≡ found
nobody_later n key found g [] its a = refl
nobody_later n key found g (x ∷ others) its a =
    ap (λ f. last_to_come (n + 1) key f others) (by_key (key_eq x.client.key key) refl) ∙ nobody_later (n + 1) key found g others its a.1
  where
    by_key : (b : Bool) → key_eq x.client.key key ≡ b → (if key_eq x.client.key key && has_come x then n else found) ≡ found
    by_key false e = ap (λ b. if b && has_come x then n else found) e
    by_key true e =
        let new : is_new x.client.phase ≡ true = a.0 (subst (λ k. key_eq x.client.key k ≡ true) (sym (same_key g.client.key key its)) e) in
        ap₂ (λ b c. if b && not c then n else found) e new

pub comes_last : (n : ℕ) (place : ℕ) (found : ℕ) (gs : List law.Guest) (g : law.Guest) (client : Client) → slice_get gs place ≡ Some g → client.key ≡ g.client.key → is_new client.phase ≡ false
    → is_none g.gone ≡ true → TakeTurns gs → last_to_come n g.client.key found (with_guest (suc place) client gs) ≡ n + place
comes_last n place found [] g client e k came left t = none_is_some g e
comes_last n zero found (h ∷ others) g client e k came left t =
    let same : h ≡ g = some_is h g e in
    let its : key_eq client.key g.client.key ≡ true = subst (λ j. key_eq j g.client.key ≡ true) (sym k) (key_is g.client.key) in
    let here : (if key_eq client.key g.client.key && not (is_new client.phase) then n else found) ≡ n = ap₂ (λ b c. if b && not c then n else found) its came in
    let later : last_to_come (n + 1) g.client.key n others ≡ n =
    nobody_later (n + 1) g.client.key n g others (key_is g.client.key) (subst (λ x. AllByRecursion (IsWaiting x) others) same (t.0 (subst (λ (x : law.Guest). is_none x.gone ≡ true) (sym same) left))) in
    ap (λ f. last_to_come (n + 1) g.client.key f others) here ∙ (later ∙ omega arith)
comes_last n (suc place) found (h ∷ others) g client e k came left t =
    let later = comes_last (n + 1) place (if key_eq h.client.key g.client.key && has_come h then n else found) others g client e k came left t.1 in
    later ∙ omega arith
