-- A client of a schedule makes a move; with its first one it comes to its address.
use Rattle.std.proofs.Common.{◌≡◌, ℕ, zero, suc, Bool, true, false, true≢false, ◌&&◌, ◌||◌, not, refl, sym, ap, ap₂, ◌∙◌, subst, Some, None, List, [], ◌∷◌, ◌++◌, take, length, slice_get, if◌then◌else◌}
use Rattle.std.specs.Prelude.{is_none}
use Rattle.std.specs.List.{AllByRecursion, list_any}
use Rattle.std.proofs.lemmas.Bool.{or_parts, and_parts}
use Rattle.ft_io.specs.declared.Addr.{Addr}
use Rattle.ft_io.specs.declared.Key.{Key}
use Rattle.ft_io.specs.Key.{key_eq}
use Rattle.ft_io.proofs.Choices.{by_cases, holds_if, if_true, if_false}
use Rattle.ft_model.specs.Client.{Client, is_new}
use Rattle.ft_model.specs.Keys.{has_key}
use Rattle.ft_model.specs.World.{is_apart, with_client}
use Rattle.ft_model.proofs.ClientKeys.{keys_in, keys_stay}
use Rattle.ft_model.proofs.Lists.{all_weaker, all_map, all_both, all_slice_get, same_key, key_is, none_is_some, some_is}
use Rattle.long_laws.specs.LongTrace.{Gone}
use Rattle.long_laws.proofs.Others.{last_there}
use Rattle.lasting_laws.specs.LastingWorld.{Guest, has_come, is_present, is_there, with_guest}
use Rattle.lasting_laws.specs.LastingUnseen.{gone_of}
use Rattle.lasting_unseen.proofs.Guests.{Guested, IsHere, IsYetToCome, IsPast, IsGuest, IsScripted, Waits, InTurn, among_map}
use Rattle.lasting_unseen.proofs.Parcels.{IsAmong, among_before}

-- what holds of all but one
abbrev pub AllOther : (Guest → Type 0) → List Guest → ℕ → Type 0
AllOther P [] n = Unit {0}
AllOther P (g ∷ guests) zero = AllByRecursion P guests
AllOther P (g ∷ guests) (suc n) = P g × AllOther P guests n

all_but : (P : Guest → Type 0) (guests : List Guest) (n : ℕ) → AllByRecursion P guests → AllOther P guests n
all_but P [] n a = tt
all_but P (g ∷ guests) zero a = a.1
all_but P (g ∷ guests) (suc n) a = (a.0, all_but P guests n a.1)

both_other : (P Q R : Guest → Type 0) (guests : List Guest) (n : ℕ) → ((g : Guest) → P g → Q g → R g) → AllOther P guests n → AllOther Q guests n → AllOther R guests n
both_other P Q R [] n f a b = tt
both_other P Q R (g ∷ guests) zero f a b = all_both P Q R guests f a b
both_other P Q R (g ∷ guests) (suc n) f a b = (f g a.0 b.0, both_other P Q R guests n f a.1 b.1)

-- the one is put in its place again
put_back : (P : Guest → Type 0) (guests : List Guest) (n : ℕ) (g : Guest) (later : Client) → slice_get guests n ≡ Some g → AllOther P guests n → P (record g { client = later })
    → AllByRecursion P (with_guest (suc n) later guests)
put_back P [] n g later e a p = none_is_some g e
put_back P (x ∷ guests) zero g later e a p = (subst (λ y. P (record y { client = later })) (sym (some_is x g e)) p, a)
put_back P (x ∷ guests) (suc n) g later e a p = (a.0, put_back P guests n g later e a.1 p)

module _ (server : Addr) (guests : List Guest) (past : List Gone) (n : ℕ) (g : Guest) (at : slice_get guests n ≡ Some g) (gone : g.gone ≡ None)
    (alone : list_any (λ x. key_eq x.client.key g.client.key && is_none x.gone) (take n guests) ≡ false) (turns : InTurn guests) where
  abbrev pub Elsewhere : Guest → Type 0
  Elsewhere h = is_present h ≡ true → key_eq h.client.key g.client.key ≡ false

  -- nobody else is there at its address
  no_other_behind : (h : Guest) → Waits g h → Elsewhere h
  no_other_behind h waits present =
      by_cases (key_eq h.client.key g.client.key) (λ t. absurd (true≢false (sym (and_parts (has_come h) (is_none h.gone) present).0 ∙ waits t))) (λ t. t)

  no_other_before : (h : Guest) → (key_eq h.client.key g.client.key && is_none h.gone) ≡ false → Elsewhere h
  no_other_before h none present = first_false (key_eq h.client.key g.client.key) (is_none h.gone) none (and_parts (has_come h) (is_none h.gone) present).1
    where
      first_false : (a b : Bool) → (a && b) ≡ false → b ≡ true → a ≡ false
      first_false false b none t = refl
      first_false true b none t = absurd (true≢false (sym t ∙ none))

  others_elsewhere : (gs : List Guest) (m : ℕ) → slice_get gs m ≡ Some g → list_any (λ x. key_eq x.client.key g.client.key && is_none x.gone) (take m gs) ≡ false → InTurn gs
      → AllOther Elsewhere gs m
  others_elsewhere [] m e none t = tt
  others_elsewhere (x ∷ gs) zero e none t =
      let same : x ≡ g = some_is x g e in
      all_weaker (Waits g) Elsewhere gs no_other_behind (subst (λ y. AllByRecursion (Waits y) gs) same (t.0 (ap (λ y. is_none y.gone) same ∙ ap is_none gone)))
  others_elsewhere (x ∷ gs) (suc m) e none t =
      let parts = or_parts (key_eq x.client.key g.client.key && is_none x.gone) (list_any (λ x. key_eq x.client.key g.client.key && is_none x.gone) (take m gs)) none in
      (no_other_before x parts.0, others_elsewhere gs m e parts.1 t.1)

  pub elsewhere : AllOther Elsewhere guests n
  elsewhere = others_elsewhere guests n at alone turns

  -- the client after its move has come
  module _ (later : Client) (key : later.key ≡ g.client.key) (come : is_new later.phase ≡ false) where
    abbrev pub moved_guest : Guest
    moved_guest = record g { client = later }

    is_there_now : (k : Key) → is_there k moved_guest ≡ key_eq g.client.key k
    is_there_now k = ap₂ (λ a b. key_eq a k && b) key (ap₂ (λ a b. not a && is_none b) come gone) ∙ and_true (key_eq g.client.key k)
      where
        and_true : (b : Bool) → (b && true) ≡ b
        and_true true = refl
        and_true false = refl

    either : (a b c : Bool) → (a || c) ≡ (a || ((a && b) || c))
    either true b c = refl
    either false b c = refl

    turned : (a b c : Bool) → (b || (a || c)) ≡ (a || (b || c))
    turned true true c = refl
    turned true false c = refl
    turned false b c = refl

    any_now : (k : Key) (gs : List Guest) (m : ℕ) → slice_get gs m ≡ Some g
        → list_any (is_there k) (with_guest (suc m) later gs) ≡ (key_eq g.client.key k || list_any (is_there k) gs)
    any_now k [] m e = none_is_some g e
    any_now k (x ∷ gs) zero e =
        let same : x ≡ g = some_is x g e in
        ap (λ y. is_there k (record y { client = later }) || list_any (is_there k) gs) same
        ∙ (ap (λ b. b || list_any (is_there k) gs) (is_there_now k)
        ∙ (either (key_eq g.client.key k) (is_present g) (list_any (is_there k) gs) ∙ ap (λ y. key_eq g.client.key k || (is_there k y || list_any (is_there k) gs)) (sym same)))
    any_now k (x ∷ gs) (suc m) e =
        ap (λ b. is_there k x || b) (any_now k gs m e) ∙ turned (key_eq g.client.key k) (is_there k x) (list_any (is_there k) gs)

    -- it doesn't come before its turn
    turns_now : (gs : List Guest) (m : ℕ) → slice_get gs m ≡ Some g → list_any (λ x. key_eq x.client.key g.client.key && is_none x.gone) (take m gs) ≡ false → InTurn gs
        → InTurn (with_guest (suc m) later gs)
    turns_now [] m e none t = tt
    turns_now (x ∷ gs) zero e none t =
        let same : x.client.key ≡ g.client.key = ap (λ y. y.client.key) (some_is x g e) in
        (λ i. all_weaker (Waits x) (Waits (record x { client = later })) gs (λ h waits s. waits (ap (λ k. key_eq h.client.key k) (same ∙ sym key) ∙ s)) (t.0 i), t.1)
    turns_now (x ∷ gs) (suc m) e none t =
        let parts = or_parts (key_eq x.client.key g.client.key && is_none x.gone) (list_any (λ x. key_eq x.client.key g.client.key && is_none x.gone) (take m gs)) none in (
          λ i. put_back (Waits x) gs m g later e (all_but (Waits x) gs m (t.0 i))
              (λ s. absurd (true≢false (sym (both_true (key_eq x.client.key g.client.key) (is_none x.gone) (turn x.client.key g.client.key (ap (λ k. key_eq k x.client.key) (sym key) ∙ s)) i) ∙ parts.0))),
          turns_now gs m e parts.1 t.1,
        )
      where
        both_true : (a b : Bool) → a ≡ true → b ≡ true → (a && b) ≡ true
        both_true true b p q = q
        both_true false b p q = absurd (true≢false (sym p))

        turn : (a b : Key) → key_eq b a ≡ true → key_eq a b ≡ true
        turn a b s = subst (λ z. key_eq a z ≡ true) (sym (same_key b a s)) (key_is a)

    -- where it stands among those that are there
    module _ (clients : List Client) (own : IsAmong g.client clients) (others : AllOther (IsHere clients) guests n)
        (taken : (k : Key) → (key_eq g.client.key k || list_any (is_there k) guests) ≡ has_key k (keys_in clients)) where
      abbrev after : List Client
      after = with_client g.client.key (λ c. later) clients

      here_still : (h : Guest) → IsHere clients h → Elsewhere h → IsHere after h
      here_still h here far present =
          let there = here present in
          (there.0, among_map (λ c. if key_eq c.key g.client.key then later else c) h.client clients there.0 there.1 ∙ ap Some (if_false (key_eq h.client.key g.client.key) later h.client (far present)))

      here_now : IsHere after moved_guest
      here_now present =
          (own.0, among_map (λ c. if key_eq c.key g.client.key then later else c) g.client clients own.0 own.1 ∙ ap Some (if_true (key_eq g.client.key g.client.key) later g.client (key_is g.client.key)))

      pub guested_moved : (old : List Client) → Guested server guests old past → AllByRecursion IsScripted clients → later.kind ≡ g.client.kind → Guested server (with_guest (suc n) later guests) after past
      guested_moved old o scripted kind = record {
        here = put_back (IsHere after) guests n g later at (both_other (IsHere clients) Elsewhere (IsHere after) guests n here_still others elsewhere) here_now;
        taken = λ k. any_now k guests n at ∙ (taken k ∙ ap (has_key k) (sym (keys_stay g.client.key (λ c. later) clients (λ c t. key ∙ sym (same_key c.key g.client.key t)))));
        in_turn = turns_now guests n at alone turns;
        new = put_back (IsYetToCome server) guests n g later at (all_but (IsYetToCome server) guests n o.new) (λ e. absurd (true≢false (sym (ap not come) ∙ e)));
        gone = put_back (IsPast past) guests n g later at (all_but (IsPast past) guests n o.gone)
            (subst (λ x. AllByRecursion (λ y. IsAmong y past) (gone_of later x)) (sym gone) tt);
        kinds = put_back (IsGuest server) guests n g later at (all_but (IsGuest server) guests n o.kinds)
            (let was = all_slice_get (IsGuest server) guests n g o.kinds at in (kind ∙ was.0, ap (λ z. is_apart server z []) key ∙ was.1));
        scripted = all_map IsScripted (λ c. if key_eq c.key g.client.key then later else c) clients
            (all_weaker IsScripted (λ c. IsScripted (if key_eq c.key g.client.key then later else c)) clients
            (λ c s. holds_if IsScripted (key_eq c.key g.client.key) later c (λ t. kind ∙ (all_slice_get (IsGuest server) guests n g o.kinds at).0) (λ t. s)) scripted);
      }

-- It is there already
pub own_when_present : (guests : List Guest) (clients : List Client) (n : ℕ) (g : Guest) → slice_get guests n ≡ Some g → AllByRecursion (IsHere clients) guests → is_present g ≡ true → IsAmong g.client clients
own_when_present guests clients n g at here present = all_slice_get (IsHere clients) guests n g here at present

pub others_here : (guests : List Guest) (clients : List Client) (n : ℕ) → AllByRecursion (IsHere clients) guests → AllOther (IsHere clients) guests n
others_here guests clients n here = all_but (IsHere clients) guests n here

pub taken_when_present : (guests : List Guest) (n : ℕ) (g : Guest) (k : Key) → slice_get guests n ≡ Some g → is_present g ≡ true
    → (key_eq g.client.key k || list_any (is_there k) guests) ≡ list_any (is_there k) guests
taken_when_present [] n g k at present = none_is_some g at
taken_when_present (x ∷ guests) zero g k at present =
    ap (λ y. key_eq y.client.key k || (is_there k (x) || list_any (is_there k) guests)) (sym (some_is x g at)) ∙ absorbs (key_eq x.client.key k) (is_present x) (list_any (is_there k) guests) (ap is_present (some_is x g at) ∙ present)
  where
    absorbs : (a b c : Bool) → b ≡ true → (a || ((a && b) || c)) ≡ ((a && b) || c)
    absorbs true true c e = refl
    absorbs true false c e = absurd (true≢false (sym e))
    absorbs false b c e = refl
taken_when_present (x ∷ guests) (suc n) g k at present =
    swap (key_eq g.client.key k) (is_there k x) (list_any (is_there k) guests) ∙ ap (λ b. is_there k x || b) (taken_when_present guests n g k at present)
  where
    swap : (a b c : Bool) → (a || (b || c)) ≡ (b || (a || c))
    swap true true c = refl
    swap true false c = refl
    swap false b c = refl

-- .. or comes
pub others_with_new : (guests : List Guest) (clients : List Client) (c : Client) (n : ℕ) → AllByRecursion (IsHere clients) guests → AllOther (IsHere (clients ++ c ∷ [])) guests n
others_with_new guests clients c n here =
    all_but (IsHere (clients ++ c ∷ [])) guests n
    (all_weaker (IsHere clients) (IsHere (clients ++ c ∷ [])) guests (λ h there p. let t = there p in (t.0, among_before h.client clients (c ∷ []) t.0 t.1)) here)

pub own_when_new : (clients : List Client) (c : Client) → IsAmong c (clients ++ c ∷ [])
own_when_new clients c = (length clients, last_there clients c)

pub taken_with_new : (clients : List Client) (c : Client) (k : Key) → (key_eq c.key k || has_key k (keys_in clients)) ≡ has_key k (keys_in (clients ++ c ∷ []))
taken_with_new [] c k = refl
taken_with_new (x ∷ clients) c k = swap (key_eq c.key k) (key_eq x.key k) (has_key k (keys_in clients)) ∙ ap (λ b. key_eq x.key k || b) (taken_with_new clients c k)
  where
    swap : (a b c : Bool) → (a || (b || c)) ≡ (b || (a || c))
    swap true true c = refl
    swap true false c = refl
    swap false b c = refl
