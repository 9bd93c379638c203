-- The clients that come to one address one after another: at most one is there.
use Rattle.std.proofs.Common.{◌≡◌, ◌∙◌, ℕ, ◌+◌, ◌&&◌, not, Bool, true, false, true≢false, sym, ap, ap₂, subst, refl, Option, None, Some, is_some, is_none, List, [], ◌∷◌, map, if◌then◌else◌}
use Rattle.std.specs.List.{AllByRecursion}
use Rattle.ft_io.specs.declared.Key.{Key}
use Rattle.ft_io.specs.Key.{key_eq}
use Rattle.seq_arith.specs.Packet.{Segment}
use Rattle.ft_model.specs.Client.{Client, is_new, received}
use Rattle.ft_model.proofs.FaithfulKept.{received_same}
use Rattle.ft_model.proofs.Lists.{same_key}
use Rattle.lasting_laws.specs.LastingReport.{last_to_come}
use Rattle.lasting_laws.specs.LastingWorld as law
use Rattle.lasting_laws.specs.LastingWorld.{has_come, is_present, is_there, received_by, gone_from}
use Rattle.lasting_world.specs.Around.{IsWaiting, TakeTurns}
use Rattle.lasting_world.specs.LogTurns.{IsOneThere, gone_guest}
use Rattle.lasting_world.specs.Guests.{GuestStands, GuestsStand, guest_has_come, guest_is_there, last_come}
use Rattle.lasting_world.specs.declared.guest.Guest.{Guest}

not_some : {A : Type 0} (o : Option A) → not (is_some o) ≡ is_none o
not_some None = refl
not_some (Some x) = refl

-- the code's client is there where that of the definitions is
pub there_is : (key : Key) (now : Guest) (g : law.Guest) → GuestStands now g → guest_is_there key now ≡ is_there key g
there_is key now g s =
    ap₂ (λ (k : Key) b. key_eq k key && b) s.key
    (ap₂ (λ (c : Client) b. not (is_new c.phase) && b) s.client (ap not s.gone ∙ not_some g.gone))

come_is : (now : Guest) (g : law.Guest) → GuestStands now g → guest_has_come now ≡ has_come g
come_is now g s = ap (λ (c : Client). not (is_new c.phase)) s.client

-- the number of the client that came last
pub last_is : (n : ℕ) (key : Key) (found : ℕ) (guests : List Guest) (gs : List law.Guest) → GuestsStand guests gs → last_come n key found guests ≡ last_to_come n key found gs
last_is n key found [] [] s = refl
last_is n key found (now ∷ more) (g ∷ others) s =
    let same : (if key_eq now.key key && guest_has_come now then n else found) ≡ (if key_eq g.client.key key && has_come g then n else found) =
    ap₂ (λ (k : Key) b. if key_eq k key && b then n else found) s.0.key (come_is now g s.0) in
    ap (λ f. last_come (n + 1) key f more) same ∙ last_is (n + 1) key (if key_eq g.client.key key && has_come g then n else found) more others s.1
last_is n key found [] (g ∷ others) s = absurd s
last_is n key found (now ∷ more) [] s = absurd s

-- whoever is there has come, and isn't gone
there_split : (a b c : Bool) → (a && (b && c)) ≡ true → (a ≡ true) × (b ≡ true) × (c ≡ true)
there_split true true true e = (refl, refl, refl)
there_split true true false e = absurd (true≢false (sym e))
there_split true false c e = absurd (true≢false (sym e))
there_split false b c e = absurd (true≢false (sym e))

new_isnt_there : (key : Key) (g : law.Guest) → is_new g.client.phase ≡ true → is_there key g ≡ false
new_isnt_there key g e = ap (λ b. key_eq g.client.key key && (not b && is_none g.gone)) e ∙ and_false (key_eq g.client.key key)
  where
    and_false : (a : Bool) → (a && false) ≡ false
    and_false true = refl
    and_false false = refl

-- while one is there, no other is
none_other : (key : Key) (g : law.Guest) (others : List law.Guest) → key_eq g.client.key key ≡ true → AllByRecursion (IsWaiting g) others → AllByRecursion (λ x. is_there key x ≡ false) others
none_other key g [] its a = tt
none_other key g (x ∷ others) its a = (by_key (key_eq x.client.key key) refl, none_other key g others its a.1)
  where
    by_key : (b : Bool) → key_eq x.client.key key ≡ b → is_there key x ≡ false
    by_key true e = new_isnt_there key x (a.0 (subst (λ k. key_eq x.client.key k ≡ true) (sym (same_key g.client.key key its)) e))
    by_key false e = ap (λ b. b && is_present x) e

all_elsewhere : (key : Key) (guests : List Guest) (gs : List law.Guest) → GuestsStand guests gs → AllByRecursion (λ x. is_there key x ≡ false) gs → AllByRecursion (λ x. guest_is_there key x ≡ false) guests
all_elsewhere key [] [] s a = tt
all_elsewhere key (now ∷ more) (g ∷ others) s a = (there_is key now g s.0 ∙ a.0, all_elsewhere key more others s.1 a.1)
all_elsewhere key [] (g ∷ others) s a = absurd s
all_elsewhere key (now ∷ more) [] s a = absurd s

pub one_there : (key : Key) (guests : List Guest) (gs : List law.Guest) → GuestsStand guests gs → TakeTurns gs → IsOneThere key guests
one_there key [] [] s t = tt
one_there key (now ∷ more) (g ∷ others) s t = (
  λ here.
      let split = there_split (key_eq g.client.key key) (has_come g) (is_none g.gone) (sym (there_is key now g s.0) ∙ here) in
      all_elsewhere key more others s.1 (none_other key g others split.0 (t.0 split.2)),
  one_there key more others s.1 t.1,
)
one_there key [] (g ∷ others) s t = absurd s
one_there key (now ∷ more) [] s t = absurd s

-- the client that is there is gone
pub gone_stand : (key : Key) (lengths : List ℕ) (guests : List Guest) (gs : List law.Guest) → GuestsStand guests gs → GuestsStand (map (gone_guest key) guests) (map (gone_from key lengths) gs)
gone_stand key lengths [] [] s = tt
gone_stand key lengths (now ∷ more) (g ∷ others) s = (by_there (is_there key g) refl, gone_stand key lengths more others s.1)
  where
    by_there : (b : Bool) → is_there key g ≡ b → GuestStands (gone_guest key now) (gone_from key lengths g)
    by_there true e =
        subst (λ b. GuestStands (if b then record now { gone = true } else now) (gone_from key lengths g)) (sym (there_is key now g s.0 ∙ e))
        (subst (λ b. GuestStands (record now { gone = true }) (if b then record g { gone = Some lengths } else g)) (sym e) (record { key = s.0.key; client = s.0.client; gone = refl }))
    by_there false e =
        subst (λ b. GuestStands (if b then record now { gone = true } else now) (gone_from key lengths g)) (sym (there_is key now g s.0 ∙ e))
        (subst (λ b. GuestStands now (if b then record g { gone = Some lengths } else g)) (sym e) s.0)
gone_stand key lengths [] (g ∷ others) s = absurd s
gone_stand key lengths (now ∷ more) [] s = absurd s

-- a segment is heard there
abbrev pub received_guest : Key → (Client → Client) → Guest → Guest
received_guest key on_receipt g = if guest_is_there key g then record g { client = on_receipt g.client } else g

pub received_stand : (key : Key) (segment : Segment) (guests : List Guest) (gs : List law.Guest) → GuestsStand guests gs
    → GuestsStand (map (received_guest key (λ c. received c segment)) guests) (map (received_by key segment) gs)
received_stand key segment [] [] s = tt
received_stand key segment (now ∷ more) (g ∷ others) s = (by_there (is_there key g) refl, received_stand key segment more others s.1)
  where
    by_there : (b : Bool) → is_there key g ≡ b → GuestStands (received_guest key (λ c. received c segment) now) (received_by key segment g)
    by_there true e =
        subst (λ b. GuestStands (if b then record now { client = received now.client segment } else now) (received_by key segment g)) (sym (there_is key now g s.0 ∙ e))
        (subst (λ b. GuestStands (record now { client = received now.client segment }) (if b then record g { client = received g.client segment } else g)) (sym e)
        (record { key = s.0.key ∙ sym (received_same g.client segment).key; client = ap (λ c. received c segment) s.0.client; gone = s.0.gone }))
    by_there false e =
        subst (λ b. GuestStands (if b then record now { client = received now.client segment } else now) (received_by key segment g)) (sym (there_is key now g s.0 ∙ e))
        (subst (λ b. GuestStands now (if b then record g { client = received g.client segment } else g)) (sym e) s.0)
received_stand key segment [] (g ∷ others) s = absurd s
received_stand key segment (now ∷ more) [] s = absurd s

-- what changes only clients that are there keeps their turns
record Keeps (change : law.Guest → law.Guest) : Type 0 where
  pub key : (g : law.Guest) → (change g).client.key ≡ g.client.key
  pub gone : (g : law.Guest) → is_none (change g).gone ≡ true → is_none g.gone ≡ true
  pub new : (g : law.Guest) → is_new g.client.phase ≡ true → is_new (change g).client.phase ≡ true

all_wait : (change : law.Guest → law.Guest) → Keeps change → (g : law.Guest) (others : List law.Guest) → AllByRecursion (IsWaiting g) others → AllByRecursion (IsWaiting (change g)) (map change others)
all_wait change k g [] a = tt
all_wait change k g (x ∷ others) a = (
  λ e. k.new x (a.0 (subst (λ j. key_eq j g.client.key ≡ true) (k.key x) (subst (λ j. key_eq (change x).client.key j ≡ true) (k.key g) e))),
  all_wait change k g others a.1,
)

turns_kept : (change : law.Guest → law.Guest) → Keeps change → (gs : List law.Guest) → TakeTurns gs → TakeTurns (map change gs)
turns_kept change k [] t = tt
turns_kept change k (g ∷ others) t = ((λ e. all_wait change k g others (t.0 (k.gone g e))), turns_kept change k others t.1)

by_there : (P : law.Guest → Type 0) (b : Bool) (one another : law.Guest) → (b ≡ true → P one) → (b ≡ false → P another) → P (if b then one else another)
by_there P true one another f g = f refl
by_there P false one another f g = g refl

pub gone_turns : (key : Key) (lengths : List ℕ) (gs : List law.Guest) → TakeTurns gs → TakeTurns (map (gone_from key lengths) gs)
gone_turns key lengths = turns_kept (gone_from key lengths) (record {
  key = λ g. by_there (λ x. x.client.key ≡ g.client.key) (is_there key g) (record g { gone = Some lengths }) g (λ t. refl) (λ t. refl);
  gone = λ g. by_there (λ x. is_none x.gone ≡ true → is_none g.gone ≡ true) (is_there key g) (record g { gone = Some lengths }) g (λ t e. absurd (true≢false (sym e))) (λ t e. e);
  new = λ g. by_there (λ x. is_new g.client.phase ≡ true → is_new x.client.phase ≡ true) (is_there key g) (record g { gone = Some lengths }) g (λ t e. e) (λ t e. e);
})

pub received_turns : (key : Key) (segment : Segment) (gs : List law.Guest) → TakeTurns gs → TakeTurns (map (received_by key segment) gs)
received_turns key segment = turns_kept (received_by key segment) (record {
  key = λ g.
      by_there (λ x. x.client.key ≡ g.client.key) (is_there key g) (record g { client = received g.client segment }) g (λ t. (received_same g.client segment).key) (λ t. refl);
  gone = λ g. by_there (λ x. is_none x.gone ≡ true → is_none g.gone ≡ true) (is_there key g) (record g { client = received g.client segment }) g (λ t e. e) (λ t e. e);
  new = λ g.
      by_there (λ x. is_new g.client.phase ≡ true → is_new x.client.phase ≡ true) (is_there key g) (record g { client = received g.client segment }) g
      (λ t e. absurd (true≢false (sym t ∙ new_isnt_there key g e))) (λ t e. e);
})
