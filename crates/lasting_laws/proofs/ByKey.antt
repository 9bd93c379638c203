-- What a turn does at one key.
use Rattle.std.proofs.Common.{◌≡◌, ◌∙◌, ⊎_elim, ◌⊎◌, inl, inr, true, false, refl, sym, ap, subst, flat_map, Option, Some, None, List, [], ◌∷◌, ◌++◌, map, if◌then◌else◌}
use Rattle.std.specs.Prelude.{ℕ, ◌+◌, length}
use Rattle.std.proofs.lemmas.Bool.{or_parts, or_from}
use Rattle.std.specs.List.{AllByRecursion}
use Rattle.ft_io.specs.declared.Key.{Key}
use Rattle.ft_io.specs.Key.{key_eq}
use Rattle.ft_io.proofs.Choices.{by_cases, if_true, if_false}
use Rattle.server_trait.specs.Service.{Machine}
use Rattle.ft_model.specs.Connection.{ConnectionTurn}
use Rattle.ft_model.specs.Keys.{has_key, AreDistinct}
use Rattle.ft_model.specs.Lawful.{LawfulTurn, NodeTurn, StageTurn, fence}
use Rattle.ft_model.specs.Network.{Packet}
use Rattle.ft_model.specs.News.{News}
use Rattle.ft_model.specs.News.News.{Begins}
use Rattle.ft_model.specs.Node.{Node, Place, Stage, Input, key_of, place_at}
use Rattle.ft_model.specs.Node.Place.{Opens, Lives, Ended}
use Rattle.ft_model.specs.Node.Stage.{Serving}
use Rattle.ft_model.specs.Opening.{point_opened}
use Rattle.ft_model.specs.Point.{Point}
use Rattle.ft_model.specs.ServingTurn.{PlaceTurn, AllGo, ServingTurn, newcomers}
use Rattle.ft_model.proofs.Lists.{found_passes, same_key, key_is}
use Rattle.ft_model.proofs.PlaceTurns.{PlaceWent, place_went}
use Rattle.ft_model.proofs.PlaceTurns.PlaceWent.{stayed, went_on, began, dropped, ended, refused}
use Rattle.ft_model.proofs.StageTurns.{either_turn}
use Rattle.long_laws.specs.Forgetting.{Named}
use Rattle.long_laws.specs.LongTrace.{places_at}
use Rattle.long_laws.specs.Quarantine.{Quarantined, begun, aged, named_in, quarantined_at, proceeds_or_begins, quarantine_of, quarantine_after}
use Rattle.long_laws.proofs.QuarantineKept.{named_key}
use Rattle.lasting_laws.specs.ByKey.{next_quarantine, quarantine_at, KeyWent}
use Rattle.long_laws.proofs.QuarantineWhole.{aged_key}

-- The quarantine of a key after a turn is that of its place
module _ (node : Node) (input : Input) (qs : List Quarantined) where
  its_key : (k : Key) (q : Quarantined) → quarantined_at k qs ≡ Some q → (aged input q).named.key ≡ k
  its_key k q e = aged_key input q ∙ same_key q.named.key k (found_passes (λ x. key_eq x.named.key k) qs q e)

  skip_of : (key k : Key) (rest : List Quarantined) → key_eq k key ≡ false → (q : Option Quarantined) (n : Option Named) → quarantined_at k qs ≡ q → named_in node input node.stage k ≡ n
      → quarantined_at key (proceeds_or_begins input q n ++ rest) ≡ quarantined_at key rest
  skip_of key k rest other (Some q) n e f =
      if_false (key_eq (aged input q).named.key key) (Some (aged input q)) (quarantined_at key rest) (ap (λ x. key_eq x key) (its_key k q e) ∙ other)
  skip_of key k rest other None (Some n) e f =
      if_false (key_eq n.key key) (Some (begun n)) (quarantined_at key rest) (ap (λ x. key_eq x key) (named_key node input node.stage k n f) ∙ other)
  skip_of key k rest other None None e f = refl

  skip : (key : Key) (place : Place) (rest : List Quarantined) → key_eq (key_of place) key ≡ false → quarantined_at key (quarantine_of node input qs place ++ rest) ≡ quarantined_at key rest
  skip key (Ended k) rest other = skip_of key k rest other (quarantined_at k qs) (named_in node input node.stage k) refl refl
  skip key (Lives p) rest other = refl
  skip key (Opens n timestamping) rest other = refl

  none_there : (key : Key) (places : List Place) → has_key key (map key_of places) ≡ false → quarantined_at key (flat_map (quarantine_of node input qs) places) ≡ None
  none_there key [] none = refl
  none_there key (p ∷ places) none =
      let parts = or_parts (key_eq (key_of p) key) (has_key key (map key_of places)) none in
      skip key p (flat_map (quarantine_of node input qs) places) parts.0 ∙ none_there key places parts.1

  here_of : (key : Key) (rest : List Quarantined) → quarantined_at key rest ≡ None → (q : Option Quarantined) (n : Option Named) → quarantined_at key qs ≡ q
      → named_in node input node.stage key ≡ n → quarantined_at key (proceeds_or_begins input q n ++ rest) ≡ next_quarantine input q n
  here_of key rest none (Some q) n e f =
      if_true (key_eq (aged input q).named.key key) (Some (aged input q)) (quarantined_at key rest) (ap (λ x. key_eq x key) (its_key key q e) ∙ key_is key)
  here_of key rest none None (Some n) e f =
      if_true (key_eq n.key key) (Some (begun n)) (quarantined_at key rest) (ap (λ x. key_eq x key) (named_key node input node.stage key n f) ∙ key_is key)
  here_of key rest none None None e f = none

  here : (key : Key) (place : Place) (rest : List Quarantined) → key_eq (key_of place) key ≡ true → quarantined_at key rest ≡ None
      → quarantined_at key (quarantine_of node input qs place ++ rest) ≡ quarantine_at node input key (quarantined_at key qs) (Some place)
  here key (Ended k) rest its none =
      subst (λ x. quarantined_at key (proceeds_or_begins input (quarantined_at x qs) (named_in node input node.stage x) ++ rest)
      ≡ next_quarantine input (quarantined_at key qs) (named_in node input node.stage key)) (sym (same_key k key its))
      (here_of key rest none (quarantined_at key qs) (named_in node input node.stage key) refl refl)
  here key (Lives p) rest its none = none
  here key (Opens n timestamping) rest its none = none

  all_there : (key : Key) (places : List Place) → AreDistinct (map key_of places)
      → quarantined_at key (flat_map (quarantine_of node input qs) places) ≡ quarantine_at node input key (quarantined_at key qs) (place_at key places)
  all_there key [] d = refl
  all_there key (p ∷ places) d =
      by_cases (key_eq (key_of p) key)
      (λ t. here key p (flat_map (quarantine_of node input qs) places) t
      (none_there key places (subst (λ k. has_key k (map key_of places) ≡ false) (same_key (key_of p) key t) d.0))
      ∙ sym (ap (quarantine_at node input key (quarantined_at key qs)) (if_true (key_eq (key_of p) key) (Some p) (place_at key places) t)))
      (λ f. skip key p (flat_map (quarantine_of node input qs) places) f
      ∙ (all_there key places d.1 ∙ sym (ap (quarantine_at node input key (quarantined_at key qs)) (if_false (key_eq (key_of p) key) (Some p) (place_at key places) f))))

  pub quarantine_by_key : (later : Stage) (key : Key) → AreDistinct (map key_of (places_at later))
      → quarantined_at key (quarantine_after node input later qs) ≡ quarantine_at node input key (quarantined_at key qs) (place_at key (places_at later))
  quarantine_by_key later key d = all_there key (places_at later) d

  -- no key has two
  one_key : (k : Key) (q : Option Quarantined) (n : Option Named) → quarantined_at k qs ≡ q → named_in node input node.stage k ≡ n
      → (proceeds_or_begins input q n ≡ []) ⊎ ((x : Quarantined) × (proceeds_or_begins input q n ≡ x ∷ []) × (x.named.key ≡ k))
  one_key k (Some q) n e f = inr (aged input q, refl, its_key k q e)
  one_key k None (Some n) e f = inr (begun n, refl, named_key node input node.stage k n f)
  one_key k None None e f = inl refl

  at_most_one : (place : Place) → (quarantine_of node input qs place ≡ []) ⊎ ((x : Quarantined) × (quarantine_of node input qs place ≡ x ∷ []) × (x.named.key ≡ key_of place))
  at_most_one (Ended k) = one_key k (quarantined_at k qs) (named_in node input node.stage k) refl refl
  at_most_one (Lives p) = inl refl
  at_most_one (Opens n timestamping) = inl refl

  abbrev keys_in : List Quarantined → List Key
  keys_in xs = map (λ x. x.named.key) xs

  none_among : (key : Key) (places : List Place) → has_key key (map key_of places) ≡ false → has_key key (keys_in (flat_map (quarantine_of node input qs) places)) ≡ false
  none_among key [] none = refl
  none_among key (p ∷ places) none =
      let parts = or_parts (key_eq (key_of p) key) (has_key key (map key_of places)) none in
      ⊎_elim (λ e. ap (λ l. has_key key (keys_in (l ++ flat_map (quarantine_of node input qs) places))) e ∙ none_among key places parts.1)
      (λ x. ap (λ l. has_key key (keys_in (l ++ flat_map (quarantine_of node input qs) places))) x.1
      ∙ or_from (key_eq x.0.named.key key) (has_key key (keys_in (flat_map (quarantine_of node input qs) places))) (ap (λ k. key_eq k key) x.2 ∙ parts.0) (none_among key places parts.1)) (at_most_one p)

  pub quarantines_differ : (places : List Place) → AreDistinct (map key_of places) → AreDistinct (map (λ x. x.named.key) (flat_map (quarantine_of node input qs) places))
  quarantines_differ [] d = tt
  quarantines_differ (p ∷ places) d =
      let rest = flat_map (quarantine_of node input qs) places in
      ⊎_elim (λ e. subst (λ l. AreDistinct (map (λ x. x.named.key) (l ++ rest))) (sym e) (quarantines_differ places d.1))
      (λ x. subst (λ l. AreDistinct (map (λ y. y.named.key) (l ++ rest))) (sym x.1)
      (subst (λ k. has_key k (map (λ y. y.named.key) rest) ≡ false) (sym x.2) (none_among (key_of p) places d.0), quarantines_differ places d.1)) (at_most_one p)

-- A place keeps its key
module _ {State : Type 0} (service : Machine State) (node : Node) (input : Input) where
  same_after : (news : News) (p q : Point) (sent : List Packet) → ConnectionTurn service node.server node.boot news p q sent → q.key ≡ p.key
  same_after news p q sent t = either_turn service node.server node.boot news p q sent (λ r. ap (λ x. x.key) r.point) (λ l. l.same.key) t

  keeps : (place : Place) (now : List Place) (sent : List Packet) → PlaceWent service node input place now sent → AllByRecursion (λ q. key_of q ≡ key_of place) now
  keeps place now sent (stayed n s) = subst (AllByRecursion (λ q. key_of q ≡ key_of place)) (sym n) (refl, tt)
  keeps place now sent (went_on news p q e w n t) =
      subst (AllByRecursion (λ x. key_of x ≡ key_of place)) (sym n) (same_after news p q sent t ∙ sym (ap key_of e), tt)
  keeps place now sent (began asked kept timestamping q e h n t) =
      subst (AllByRecursion (λ x. key_of x ≡ key_of place)) (sym n) (same_after Begins (point_opened node.profile timestamping kept) q sent t ∙ (h.key ∙ sym (ap key_of e)), tt)
  keeps place now sent (dropped asked timestamping e d n s) = subst (AllByRecursion (λ x. key_of x ≡ key_of place)) (sym n) tt
  keeps place now sent (ended p e h n s) = subst (AllByRecursion (λ x. key_of x ≡ key_of place)) (sym n) (sym (ap key_of e), tt)
  keeps place now sent (refused k segment e i same n s) = subst (AllByRecursion (λ x. key_of x ≡ key_of place)) (sym n) (sym (ap key_of e), tt)

  pub keeps_key : (place : Place) (now : List Place) (sent : List Packet) → PlaceTurn service node input place now sent → AllByRecursion (λ q. key_of q ≡ key_of place) now
  keeps_key place now sent t = keeps place now sent (place_went service node input place now sent t)

  -- what is at a key after some places and then others
  behind : (key : Key) (now later : List Place) → AllByRecursion (λ q. key_eq (key_of q) key ≡ false) now → place_at key (now ++ later) ≡ place_at key later
  behind key [] later a = refl
  behind key (q ∷ now) later a = if_false (key_eq (key_of q) key) (Some q) (place_at key (now ++ later)) a.0 ∙ behind key now later a.1

  ahead : (key : Key) (now later : List Place) → place_at key later ≡ None → place_at key (now ++ later) ≡ place_at key now
  ahead key [] later none = none
  ahead key (q ∷ now) later none = ap (λ o. if key_eq (key_of q) key then Some q else o) (ahead key now later none)

  others : (key : Key) (place : Place) (now : List Place) → key_eq (key_of place) key ≡ false → AllByRecursion (λ q. key_of q ≡ key_of place) now
      → AllByRecursion (λ q. key_eq (key_of q) key ≡ false) now
  others key place [] other a = tt
  others key place (q ∷ now) other a = (ap (λ k. key_eq k key) a.0 ∙ other, others key place now other a.1)

  none_comes : (key : Key) (before after : List Place) (sent : List Packet) → has_key key (map key_of before) ≡ false → AllGo (PlaceTurn service node input) before after sent
      → place_at key after ≡ None
  none_comes key [] after sent none t = ap (place_at key) t.0
  none_comes key (p ∷ places) after sent none (now, later, first, more, places_are, sent_is, goes, rest) =
      let parts = or_parts (key_eq (key_of p) key) (has_key key (map key_of places)) none in
      ap (place_at key) places_are
      ∙ (behind key now later (others key p now parts.0 (keeps_key p now first goes)) ∙ none_comes key places later more parts.1 rest)

  pub key_went : (key : Key) (before after : List Place) (sent : List Packet) → AreDistinct (map key_of before) → AllGo (PlaceTurn service node input) before after sent
      → KeyWent service node input key (place_at key before) after
  key_went key [] after sent d t = ap (place_at key) t.0
  key_went key (p ∷ places) after sent d (now, later, first, more, places_are, sent_is, goes, rest) =
      by_cases (key_eq (key_of p) key)
      (λ t. subst (λ o. KeyWent service node input key o after) (sym (if_true (key_eq (key_of p) key) (Some p) (place_at key places) t)) (
        now,
        first,
        goes,
        ap (place_at key) places_are
            ∙ ahead key now later (none_comes key places later more (subst (λ k. has_key k (map key_of places) ≡ false) (same_key (key_of p) key t) d.0) rest),
      ))
      (λ f. subst (λ o. KeyWent service node input key o after) (sym (if_false (key_eq (key_of p) key) (Some p) (place_at key places) f))
      (moved (place_at key places) (ap (place_at key) places_are ∙ behind key now later (others key p now f (keeps_key p now first goes)))
      (key_went key places later more d.1 rest)))
    where
      moved : (o : Option Place) → place_at key after ≡ place_at key later → KeyWent service node input key o later → KeyWent service node input key o after
      moved (Some place) e (n, s, turn, is) = (n, s, turn, e ∙ is)
      moved None e is = e ∙ is

-- a turn of a node that serves
pub serves_on : {State : Type 0} (service : Machine State) (node later : Node) (input : Input) (opened : ℕ) (places : List Place) (sent : List Packet) → node.stage ≡ Serving opened places
    → fence node input ≡ None → LawfulTurn service node input sent later
    → (after : List Place) × (later.stage ≡ Serving (opened + length (newcomers node input opened places)) after) × ServingTurn service node input opened places after sent
serves_on service node later input opened places sent at unfenced t =
    subst (λ stage. StageTurn service node stage input later.stage sent) at (subst (λ o. NodeTurn service node input o later.stage sent) unfenced t.stage)
