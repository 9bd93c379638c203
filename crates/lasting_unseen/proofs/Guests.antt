-- The clients of a schedule, by number, and those that are there in a long trace, in the order in which they came.
use Rattle.std.proofs.Common.{◌≡◌, ℕ, zero, suc, Bool, true, false, true≢false, ◌&&◌, ◌||◌, not, refl, sym, ap, ap₂, ◌∙◌, subst, Option, Some, None, List, [], ◌∷◌, map, filter, slice_get, if◌then◌else◌}
use Rattle.std.specs.Prelude.{is_none}
use Rattle.std.specs.List.{AllByRecursion, list_any}
use Rattle.std.proofs.lemmas.Bool.{and_parts}
use Rattle.ft_io.specs.declared.Addr.{Addr}
use Rattle.ft_io.specs.declared.Key.{Key}
use Rattle.ft_io.specs.Key.{key_eq}
use Rattle.ft_io.proofs.Choices.{holds_if, if_true, if_false}
use Rattle.seq_arith.specs.Packet.{Segment}
use Rattle.ft_model.specs.Client.{Client, is_new, received}
use Rattle.ft_model.specs.Client.ClientKind.{Scripted}
use Rattle.ft_model.specs.Keys.{has_key}
use Rattle.ft_model.specs.World.{IsNewClient, is_apart, with_client}
use Rattle.ft_model.proofs.ClientKeys.{keys_in, keys_stay}
use Rattle.ft_model.proofs.FaithfulKept.{received_same}
use Rattle.ft_model.proofs.Lists.{all_weaker, all_map, all_append, all_slice_get, none_is_some, some_is}
use Rattle.long_laws.specs.LongTrace.{Gone, others}
use Rattle.lasting_laws.specs.LastingWorld.{Guest, has_come, is_present, is_there, received_by}
use Rattle.lasting_laws.specs.LastingUnseen.{those_there, those_gone, gone_of}
use Rattle.lasting_unseen.proofs.Came.{came_still}
use Rattle.lasting_unseen.proofs.Parcels.{IsAmong}

-- membership
pub among_map : {A B : Type 0} (f : A → B) (x : A) (xs : List A) (i : ℕ) → slice_get xs i ≡ Some x → slice_get (map f xs) i ≡ Some (f x)
among_map f x [] i e = none_is_some x e
among_map f x (y ∷ xs) zero e = ap (λ z. Some (f z)) (some_is y x e)
among_map f x (y ∷ xs) (suc i) e = among_map f x xs i e

pub among_others : {A : Type 0} (passes : A → Bool) (x : A) (xs : List A) (i : ℕ) → slice_get xs i ≡ Some x → passes x ≡ false → IsAmong x (others passes xs)
among_others passes x [] i e p = none_is_some x e
among_others passes x (y ∷ xs) zero e p =
    holds_if (IsAmong x) (passes y) (others passes xs) (y ∷ others passes xs) (λ t. absurd (true≢false (sym t ∙ (ap passes (some_is y x e) ∙ p)))) (λ t. (zero, e))
among_others passes x (y ∷ xs) (suc i) e p =
    let rest : IsAmong x (others passes xs) = among_others passes x xs i e p in
    holds_if (IsAmong x) (passes y) (others passes xs) (y ∷ others passes xs) (λ t. rest) (λ t. (suc rest.0, rest.1))

pub among_filter : {A : Type 0} (passes : A → Bool) (x : A) (xs : List A) (i : ℕ) → slice_get xs i ≡ Some x → passes x ≡ true → IsAmong x (filter passes xs)
among_filter passes x [] i e p = none_is_some x e
among_filter passes x (y ∷ xs) zero e p =
    holds_if (IsAmong x) (passes y) (y ∷ filter passes xs) (filter passes xs) (λ t. (zero, e)) (λ t. absurd (true≢false (sym (ap passes (some_is y x e) ∙ p) ∙ t)))
among_filter passes x (y ∷ xs) (suc i) e p =
    let rest : IsAmong x (filter passes xs) = among_filter passes x xs i e p in
    holds_if (IsAmong x) (passes y) (y ∷ filter passes xs) (filter passes xs) (λ t. (suc rest.0, rest.1)) (λ t. rest)

-- while one isn't gone, those behind it at its address haven't come
abbrev pub Waits : Guest → Guest → Type 0
Waits g h = key_eq h.client.key g.client.key ≡ true → has_come h ≡ false

abbrev pub InTurn : List Guest → Type 0
InTurn [] = Unit {0}
InTurn (g ∷ guests) = (is_none g.gone ≡ true → AllByRecursion (Waits g) guests) × InTurn guests

abbrev pub IsHere : List Client → Guest → Type 0
IsHere clients g = is_present g ≡ true → IsAmong g.client clients

abbrev pub IsYetToCome : Addr → Guest → Type 0
IsYetToCome server g = has_come g ≡ false → IsNewClient server g.client × (g.gone ≡ None)

abbrev pub IsPast : List Gone → Guest → Type 0
IsPast past g = AllByRecursion (λ x. IsAmong x past) (gone_of g.client g.gone)

-- what is constant of a guest
abbrev pub IsGuest : Addr → Guest → Type 0
IsGuest server g = (g.client.kind ≡ Scripted) × (is_apart server g.client.key [] ≡ true)

abbrev pub IsScripted : Client → Type 0
IsScripted c = c.kind ≡ Scripted

pub record Guested (server : Addr) (guests : List Guest) (clients : List Client) (past : List Gone) : Type 0 where
  pub here : AllByRecursion (IsHere clients) guests
  pub taken : (key : Key) → list_any (is_there key) guests ≡ has_key key (keys_in clients)
  pub in_turn : InTurn guests
  pub new : AllByRecursion (IsYetToCome server) guests
  pub gone : AllByRecursion (IsPast past) guests
  pub kinds : AllByRecursion (IsGuest server) guests
  pub scripted : AllByRecursion IsScripted clients

-- what holds of the clients that are there holds of the guests that are present
pub of_those_there : (P : Client → Type 0) (clients : List Client) (guests : List Guest) → AllByRecursion P clients → AllByRecursion (IsHere clients) guests → AllByRecursion P (those_there guests)
of_those_there P clients [] a h = tt
of_those_there P clients (g ∷ guests) a h =
    holds_if (AllByRecursion P) (is_present g) (g.client ∷ those_there guests) (those_there guests)
    (λ t. (let there = h.0 t in all_slice_get P clients there.0 g.client a there.1, of_those_there P clients guests a h.1)) (λ t. of_those_there P clients guests a h.1)

pub of_those_gone : (P : Gone → Type 0) (past : List Gone) (guests : List Guest) → AllByRecursion P past → AllByRecursion (IsPast past) guests → AllByRecursion P (those_gone guests)
of_those_gone P past [] a h = tt
of_those_gone P past (g ∷ guests) a h =
    all_append P (gone_of g.client g.gone) (those_gone guests)
    (all_weaker (λ x. IsAmong x past) P (gone_of g.client g.gone) (λ x there. all_slice_get P past there.0 x a there.1) h.0) (of_those_gone P past guests a h.1)

-- a guest that keeps its turn
pub record KeepsTurn (g h : Guest) : Type 0 where
  pub key : h.client.key ≡ g.client.key
  pub come : has_come h ≡ has_come g
  pub left : is_none h.gone ≡ true → is_none g.gone ≡ true

pub in_turn_map : (f : Guest → Guest) → ((g : Guest) → KeepsTurn g (f g)) → (guests : List Guest) → InTurn guests → InTurn (map f guests)
in_turn_map f keeps [] t = tt
in_turn_map f keeps (g ∷ guests) t = (
  λ e. all_map (Waits (f g)) f guests
      (all_weaker (Waits g) (λ h. Waits (f g) (f h)) guests
      (λ h waits same. (keeps h).come ∙ waits (ap₂ key_eq (sym (keeps h).key) (sym (keeps g).key) ∙ same)) (t.0 ((keeps g).left e))),
  in_turn_map f keeps guests t.1,
)

-- A segment arrives at the client of a key
module _ (server : Addr) (key : Key) (segment : Segment) where
  was_present : (g : Guest) → is_there key g ≡ true → (key_eq g.client.key key ≡ true) × (is_present g ≡ true)
  was_present g t = let parts = and_parts (key_eq g.client.key key) (is_present g) t in (parts.0, parts.1)

  now_keeps : (g : Guest) → KeepsTurn g (received_by key segment g)
  now_keeps g =
      holds_if (KeepsTurn g) (is_there key g) (record g { client = received g.client segment }) g
      (λ t. let come : has_come g ≡ true = (and_parts (has_come g) (is_none g.gone) (was_present g t).1).0 in
      record {
        key = (received_same g.client segment).key;
        come = ap not (came_still g.client segment (not_true_is (is_new g.client.phase) come)) ∙ sym come;
        left = λ e. e;
      })
      (λ t. record { key = refl; come = refl; left = λ e. e })
    where
      not_true_is : (b : Bool) → not b ≡ true → b ≡ false
      not_true_is false e = refl
      not_true_is true e = absurd (true≢false (sym e))

  same_gone : (g : Guest) → (received_by key segment g).gone ≡ g.gone
  same_gone g = holds_if (λ h. h.gone ≡ g.gone) (is_there key g) (record g { client = received g.client segment }) g (λ t. refl) (λ t. refl)

  there_still : (k : Key) (g : Guest) → is_there k (received_by key segment g) ≡ is_there k g
  there_still k g =
      let keeps = now_keeps g in
      ap₂ (λ a b. key_eq a k && b) keeps.key (ap₂ (λ a b. a && is_none b) keeps.come (same_gone g))

  any_still : (k : Key) (guests : List Guest) → list_any (is_there k) (map (received_by key segment) guests) ≡ list_any (is_there k) guests
  any_still k [] = refl
  any_still k (g ∷ guests) = ap₂ (λ a b. a || b) (there_still k g) (any_still k guests)

  module _ (clients : List Client) where
    abbrev later : List Client
    later = with_client key (λ c. received c segment) clients

    here_still : (g : Guest) → IsHere clients g → IsHere later (received_by key segment g)
    here_still g h =
        holds_if (λ x. is_present x ≡ true → IsAmong x.client later) (is_there key g) (record g { client = received g.client segment }) g
        (λ t p. let was = was_present g t in let there = h was.1 in
        (there.0, among_map (λ c. if key_eq c.key key then received c segment else c) g.client clients there.0 there.1 ∙ ap Some (if_true (key_eq g.client.key key) (received g.client segment) g.client was.0)))
        (λ t p. let there = h p in
        (there.0, among_map (λ c. if key_eq c.key key then received c segment else c) g.client clients there.0 there.1 ∙ ap Some (if_false (key_eq g.client.key key) (received g.client segment) g.client (elsewhere g t p))))
      where
        not_both : (a b : Bool) → (a && b) ≡ false → b ≡ true → a ≡ false
        not_both false b t p = refl
        not_both true b t p = absurd (true≢false (sym p ∙ t))

        elsewhere : (g : Guest) → is_there key g ≡ false → is_present g ≡ true → key_eq g.client.key key ≡ false
        elsewhere g t p = not_both (key_eq g.client.key key) (is_present g) t p

  new_still : (g : Guest) → IsYetToCome server g → IsYetToCome server (received_by key segment g)
  new_still g n =
      holds_if (IsYetToCome server) (is_there key g) (record g { client = received g.client segment }) g
      (λ t e. let come : has_come g ≡ true = (and_parts (has_come g) (is_none g.gone) (was_present g t).1).0 in
      absurd (true≢false (sym (received_come g t come) ∙ e)))
      (λ t. n)
    where
      is_false : (b : Bool) → not b ≡ true → b ≡ false
      is_false false e = refl
      is_false true e = absurd (true≢false (sym e))

      received_come : (g : Guest) → is_there key g ≡ true → has_come g ≡ true → has_come (record g { client = received g.client segment }) ≡ true
      received_come g t come = ap not (came_still g.client segment (is_false (is_new g.client.phase) come))

  past_still : (past : List Gone) (g : Guest) → IsPast past g → IsPast past (received_by key segment g)
  past_still past g p =
      holds_if (IsPast past) (is_there key g) (record g { client = received g.client segment }) g
      (λ t. subst (λ o. AllByRecursion (λ x. IsAmong x past) (gone_of (received g.client segment) o)) (sym (none_of g.gone (and_parts (has_come g) (is_none g.gone) (was_present g t).1).1)) tt)
      (λ t. p)
    where
      none_of : (o : Option (List ℕ)) → is_none o ≡ true → o ≡ None
      none_of None e = refl
      none_of (Some x) e = absurd (true≢false (sym e))

  guest_still : (g : Guest) → IsGuest server g → IsGuest server (received_by key segment g)
  guest_still g k =
      holds_if (IsGuest server) (is_there key g) (record g { client = received g.client segment }) g
      (λ t. ((received_same g.client segment).kind ∙ k.0, ap (λ z. is_apart server z []) (received_same g.client segment).key ∙ k.1)) (λ t. k)

  pub guested_received : (guests : List Guest) (clients : List Client) (past : List Gone) → Guested server guests clients past
      → Guested server (map (received_by key segment) guests) (with_client key (λ c. received c segment) clients) past
  guested_received guests clients past o = record {
    here = all_map (IsHere (later clients)) (received_by key segment) guests (all_weaker (IsHere clients) (λ g. IsHere (later clients) (received_by key segment g)) guests (here_still clients) o.here);
    taken = λ k. any_still k guests ∙ (o.taken k ∙ ap (has_key k) (sym (keys_stay key (λ c. received c segment) clients (λ c t. (received_same c segment).key))));
    in_turn = in_turn_map (received_by key segment) now_keeps guests o.in_turn;
    new = all_map (IsYetToCome server) (received_by key segment) guests (all_weaker (IsYetToCome server) (λ g. IsYetToCome server (received_by key segment g)) guests new_still o.new);
    gone = all_map (IsPast past) (received_by key segment) guests (all_weaker (IsPast past) (λ g. IsPast past (received_by key segment g)) guests (past_still past) o.gone);
    kinds = all_map (IsGuest server) (received_by key segment) guests (all_weaker (IsGuest server) (λ g. IsGuest server (received_by key segment g)) guests guest_still o.kinds);
    scripted = all_map IsScripted (λ c. if key_eq c.key key then received c segment else c) clients
        (all_weaker IsScripted (λ c. IsScripted (if key_eq c.key key then received c segment else c)) clients
        (λ c s. holds_if IsScripted (key_eq c.key key) (received c segment) c (λ t. (received_same c segment).kind ∙ s) (λ t. s)) o.scripted);
  }
