-- Which guest a client is that is there, or past: they keep their keys and numbers.
use Rattle.std.proofs.Common.{◌≡◌, ◌⊎◌, ⊎_elim, ℕ, zero, suc, Bool, true, false, true≢false, ◌&&◌, not, refl, sym, ap, ap₂, ◌∙◌, subst, Option, Some, None, is_some, List, [], ◌∷◌, ◌++◌, map, filter, slice_get, if◌then◌else◌}
use Rattle.std.specs.Prelude.{is_none}
use Rattle.std.specs.List.{AllByRecursion}
use Rattle.ft_io.specs.declared.Key.{Key}
use Rattle.ft_io.specs.Key.{key_eq}
use Rattle.ft_io.proofs.Choices.{holds_if, if_true, if_false}
use Rattle.seq_arith.specs.Packet.{Segment}
use Rattle.ft_model.specs.Client.{Client, is_new, received}
use Rattle.ft_model.specs.World.{with_client}
use Rattle.ft_model.proofs.FaithfulKept.{received_same}
use Rattle.ft_model.proofs.Lists.{all_weaker, all_append, all_map, none_is_some, some_is}
use Rattle.long_laws.specs.LongTrace.{Gone, others, gone_with}
use Rattle.long_laws.proofs.Others.{all_others, all_filtered}
use Rattle.lasting_laws.specs.LastingWorld.{Guest, has_come, is_present, is_there, received_by, gone_from, with_guest}
use Rattle.lasting_unseen.proofs.Came.{came_still}
use Rattle.lasting_unseen.proofs.Guests.{among_map}

-- a guest with this key and number, that is gone or not
pub record IsGuestOf (guests : List Guest) (left : Bool) (c : Client) : Type 0 where
  pub at : ℕ
  pub guest : Guest
  pub found : slice_get guests at ≡ Some guest
  pub gone : is_some guest.gone ≡ left
  pub come : has_come guest ≡ true
  pub key : guest.client.key ≡ c.key
  pub isn : guest.client.isn ≡ c.isn

pub record Identified (guests : List Guest) (clients : List Client) (past : List Gone) : Type 0 where
  pub here : AllByRecursion (IsGuestOf guests false) clients
  pub gone : AllByRecursion (λ x. IsGuestOf guests true x.client) past

-- what each guest is known by stays
abbrev pub Identity : Type 0
Identity = Key × ℕ

abbrev pub identity : Guest → Identity
identity g = (g.client.key, g.client.isn)

pub record StaysKnown (g h : Guest) : Type 0 where
  pub gone : is_some h.gone ≡ is_some g.gone
  pub come : has_come g ≡ true → has_come h ≡ true
  pub same : identity h ≡ identity g

guest_stays : (guests later : List Guest) (left : Bool) (c : Client) → ((i : ℕ) (g : Guest) → slice_get guests i ≡ Some g → (h : Guest) × (slice_get later i ≡ Some h) × StaysKnown g h)
    → IsGuestOf guests left c → IsGuestOf later left c
guest_stays guests later left c f o =
    let next = f o.at o.guest o.found in
    record {
      at = o.at;
      guest = next.0;
      found = next.1;
      gone = next.2.gone ∙ o.gone;
      come = next.2.come o.come;
      key = ap (λ i. i.0) next.2.same ∙ o.key;
      isn = ap (λ i. i.1) next.2.same ∙ o.isn;
    }

-- A segment arrives
module _ (key : Key) (segment : Segment) where
  received_known : (g : Guest) → StaysKnown g (received_by key segment g)
  received_known g =
      holds_if (StaysKnown g) (is_there key g) (record g { client = received g.client segment }) g
      (λ t. record {
        gone = refl;
        come = λ e. ap not (came_still g.client segment (was_not (is_new g.client.phase) e));
        same = ap₂ (λ k i. (k, i)) (received_same g.client segment).key (received_same g.client segment).isn;
      })
      (λ t. record { gone = refl; come = λ e. e; same = refl })
    where
      was_not : (b : Bool) → not b ≡ true → b ≡ false
      was_not false e = refl
      was_not true e = absurd (true≢false (sym e))

  pub identified_received : (guests : List Guest) (clients : List Client) (past : List Gone) → Identified guests clients past
      → Identified (map (received_by key segment) guests) (with_client key (λ c. received c segment) clients) past
  identified_received guests clients past o = record {
    here = all_map (IsGuestOf later false) (λ c. if key_eq c.key key then received c segment else c) clients
        (all_weaker (IsGuestOf guests false) (λ c. IsGuestOf later false (if key_eq c.key key then received c segment else c)) clients
        (λ c p. let q = stays false c p in
        holds_if (IsGuestOf later false) (key_eq c.key key) (received c segment) c
        (λ t. record {
          at = q.at;
          guest = q.guest;
          found = q.found;
          gone = q.gone;
          come = q.come;
          key = q.key ∙ sym (received_same c segment).key;
          isn = q.isn ∙ sym (received_same c segment).isn;
        }) (λ t. q)) o.here);
    gone = all_weaker (λ x. IsGuestOf guests true x.client) (λ x. IsGuestOf later true x.client) past (λ x p. stays true x.client p) o.gone;
  }
    where
      later : List Guest
      later = map (received_by key segment) guests

      stays : (left : Bool) (c : Client) → IsGuestOf guests left c → IsGuestOf (map (received_by key segment) guests) left c
      stays left c = guest_stays guests (map (received_by key segment) guests) left c (λ i g e. (received_by key segment g, among_map (received_by key segment) g guests i e, received_known g))

-- An entry is recycled
module _ (key : Key) (lengths : List ℕ) (guests : List Guest) (clients : List Client) (past : List Gone) (o : Identified guests clients past) where
  abbrev then_ : List Guest
  then_ = map (gone_from key lengths) guests

  -- one of another key stays
  other_stays : (c : Client) → key_eq c.key key ≡ false → IsGuestOf guests false c → IsGuestOf then_ false c
  other_stays c far p =
      let same : gone_from key lengths p.guest ≡ p.guest =
      if_false (is_there key p.guest) (record p.guest { gone = Some lengths }) p.guest
      (ap (λ b. b && is_present p.guest) (ap (λ k. key_eq k key) p.key ∙ far)) in
      record {
        at = p.at;
        guest = p.guest;
        found = among_map (gone_from key lengths) p.guest guests p.at p.found ∙ ap Some same;
        gone = p.gone;
        come = p.come;
        key = p.key;
        isn = p.isn;
      }

  past_stays : (c : Client) → IsGuestOf guests true c → IsGuestOf then_ true c
  past_stays c p = record {
    at = p.at;
    guest = gone_from key lengths p.guest;
    found = among_map (gone_from key lengths) p.guest guests p.at p.found;
    gone = holds_if (λ h. is_some h.gone ≡ true) (is_there key p.guest) (record p.guest { gone = Some lengths }) p.guest (λ t. refl) (λ t. p.gone);
    come = holds_if (λ h. has_come h ≡ true) (is_there key p.guest) (record p.guest { gone = Some lengths }) p.guest (λ t. p.come) (λ t. p.come);
    key = holds_if (λ h. h.client.key ≡ c.key) (is_there key p.guest) (record p.guest { gone = Some lengths }) p.guest (λ t. p.key) (λ t. p.key);
    isn = holds_if (λ h. h.client.isn ≡ c.isn) (is_there key p.guest) (record p.guest { gone = Some lengths }) p.guest (λ t. p.isn) (λ t. p.isn);
  }

  -- the one of the key is gone
  own_goes : (c : Client) → key_eq c.key key ≡ true → IsGuestOf guests false c → IsGuestOf then_ true c
  own_goes c own p =
      let there : is_there key p.guest ≡ true = all_three (ap (λ k. key_eq k key) p.key ∙ own) p.come (none_then p.guest.gone p.gone) in
      let same : gone_from key lengths p.guest ≡ record p.guest { gone = Some lengths } = if_true (is_there key p.guest) (record p.guest { gone = Some lengths }) p.guest there in
      record {
        at = p.at;
        guest = record p.guest { gone = Some lengths };
        found = among_map (gone_from key lengths) p.guest guests p.at p.found ∙ ap Some same;
        gone = refl;
        come = p.come;
        key = p.key;
        isn = p.isn;
      }
    where
      all_three : {a b c : Bool} → a ≡ true → b ≡ true → c ≡ true → (a && (b && c)) ≡ true
      all_three p q r = ap₂ (λ x y. x && y) p (ap₂ (λ x y. x && y) q r)

      none_then : (x : Option (List ℕ)) → is_some x ≡ false → is_none x ≡ true
      none_then None e = refl
      none_then (Some y) e = absurd (true≢false e)

  pub identified_gone : Identified then_ (others (λ c. key_eq c.key key) clients) (past ++ gone_with lengths (filter (λ c. key_eq c.key key) clients))
  identified_gone = record {
    here = all_others (IsGuestOf guests false) (IsGuestOf then_ false) (λ c. key_eq c.key key) clients other_stays o.here;
    gone = all_append (λ x. IsGuestOf then_ true x.client) past (gone_with lengths (filter (λ c. key_eq c.key key) clients))
        (all_weaker (λ x. IsGuestOf guests true x.client) (λ x. IsGuestOf then_ true x.client) past (λ x p. past_stays x.client p) o.gone)
        (all_map (λ x. IsGuestOf then_ true x.client) (λ c. record { client = c; lengths = lengths }) (filter (λ c. key_eq c.key key) clients)
        (all_filtered (IsGuestOf guests false) (IsGuestOf then_ true) (λ c. key_eq c.key key) clients own_goes o.here));
  }

-- A client moves
module _ (guests : List Guest) (n : ℕ) (g : Guest) (at : slice_get guests n ≡ Some g) (gone : g.gone ≡ None) (later : Client) (come : is_new later.phase ≡ false)
    (key : later.key ≡ g.client.key) (isn : later.isn ≡ g.client.isn) where
  moved_known : (gs : List Guest) (m : ℕ) → slice_get gs m ≡ Some g → (i : ℕ) (h : Guest) → slice_get gs i ≡ Some h → (k : Guest) × (slice_get (with_guest (suc m) later gs) i ≡ Some k) × StaysKnown h k
  moved_known [] m e i h f = none_is_some h f
  moved_known (x ∷ gs) zero e zero h f =
      let same : x ≡ h = some_is x h f in let own : x ≡ g = some_is x g e in (
        record x { client = later },
        refl,
        subst (λ y. StaysKnown y (record x { client = later })) same
            (record { gone = refl; come = λ c. ap not come; same = ap₂ (λ k i. (k, i)) (key ∙ ap (λ y. y.client.key) (sym own)) (isn ∙ ap (λ y. y.client.isn) (sym own)) }),
      )
  moved_known (x ∷ gs) zero e (suc i) h f = (h, f, record { gone = refl; come = λ c. c; same = refl })
  moved_known (x ∷ gs) (suc m) e zero h f = (h, f, record { gone = refl; come = λ c. c; same = refl })
  moved_known (x ∷ gs) (suc m) e (suc i) h f = moved_known gs m e i h f

  -- where it stands
  now_at : (gs : List Guest) (m : ℕ) → slice_get gs m ≡ Some g → slice_get (with_guest (suc m) later gs) m ≡ Some (record g { client = later })
  now_at [] m e = none_is_some g e
  now_at (x ∷ gs) zero e = ap {A = Guest} (λ y. Some (record y { client = later })) (some_is x g e)
  now_at (x ∷ gs) (suc m) e = now_at gs m e

  own_now : IsGuestOf (with_guest (suc n) later guests) false later
  own_now = record { at = n; guest = record g { client = later }; found = now_at guests n at; gone = ap is_some gone; come = ap not come; key = refl; isn = refl }

  stays_known : (left : Bool) (c : Client) → IsGuestOf guests left c → IsGuestOf (with_guest (suc n) later guests) left c
  stays_known left c = guest_stays guests (with_guest (suc n) later guests) left c (moved_known guests n at)

  -- it was there, or arrived first
  pub identified_moved : (clients : List Client) (past : List Gone) → AllByRecursion (λ c. (key_eq c.key g.client.key ≡ true) ⊎ IsGuestOf guests false c) clients
      → AllByRecursion (λ x. IsGuestOf guests true x.client) past → Identified (with_guest (suc n) later guests) (with_client g.client.key (λ c. later) clients) past
  identified_moved clients past here left = record {
    here = all_map (IsGuestOf (with_guest (suc n) later guests) false) (λ c. if key_eq c.key g.client.key then later else c) clients
        (all_weaker (λ c. (key_eq c.key g.client.key ≡ true) ⊎ IsGuestOf guests false c) (λ c. IsGuestOf (with_guest (suc n) later guests) false (if key_eq c.key g.client.key then later else c)) clients
        (λ c p. holds_if (IsGuestOf (with_guest (suc n) later guests) false) (key_eq c.key g.client.key) later c (λ t. own_now)
        (λ t. ⊎_elim (λ own. absurd (true≢false (sym own ∙ t))) (λ q. stays_known false c q) p)) here);
    gone = all_weaker (λ x. IsGuestOf guests true x.client) (λ x. IsGuestOf (with_guest (suc n) later guests) true x.client) past (λ x p. stays_known true x.client p) left;
  }

-- identities stay
pub identities_received : (key : Key) (segment : Segment) (guests : List Guest) → map identity (map (received_by key segment) guests) ≡ map identity guests
identities_received key segment [] = refl
identities_received key segment (g ∷ guests) = ap₂ (λ x l. x ∷ l) (received_known key segment g).same (identities_received key segment guests)

pub identities_gone : (key : Key) (lengths : List ℕ) (guests : List Guest) → map identity (map (gone_from key lengths) guests) ≡ map identity guests
identities_gone key lengths [] = refl
identities_gone key lengths (g ∷ guests) =
    ap₂ (λ x l. x ∷ l) (holds_if (λ h. identity h ≡ identity g) (is_there key g) (record g { gone = Some lengths }) g (λ t. refl) (λ t. refl)) (identities_gone key lengths guests)

pub identities_moved : (guests : List Guest) (n : ℕ) (g : Guest) (later : Client) → slice_get guests n ≡ Some g → later.key ≡ g.client.key → later.isn ≡ g.client.isn
    → map identity (with_guest (suc n) later guests) ≡ map identity guests
identities_moved [] n g later e k i = none_is_some g e
identities_moved (x ∷ guests) zero g later e k i =
    ap (λ y. y ∷ map identity guests) (ap₂ (λ a b. (a, b)) (k ∙ ap (λ y. y.client.key) (sym (some_is x g e))) (i ∙ ap (λ y. y.client.isn) (sym (some_is x g e))))
identities_moved (x ∷ guests) (suc n) g later e k i = ap (λ l. identity x ∷ l) (identities_moved guests n g later e k i)
