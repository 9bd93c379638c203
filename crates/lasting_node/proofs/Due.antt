-- The Forgets of a tick: those that are due by what is known are those of the law.
use Rattle.std.proofs.Common.{◌≡◌, ◌∙◌, ℕ, zero, suc, ◌≤◌, ◌<◌, ◌-◌, ◌^◌, Bool, true, false, nat_le, refl, sym, ap, ap₂, arith, map, option_map, flat_map, filter, slice_get, take, length, Option, Some, None, List, [], ◌∷◌, ◌++◌, append_assoc, append-nil, MatchOption, if◌then◌else◌}
use Rattle.std.specs.List.{AllByRecursion}
use Rattle.std.specs.Map.{lookup, keys_of}
use Rattle.std.specs.Option.{option_to_list}
use Rattle.ft_io.specs.declared.Key.{Key}
use Rattle.ft_io.specs.Key.{key_eq}
use Rattle.ft_io.proofs.Choices.{if_true, if_false}
use Rattle.server_trait.specs.declared.Service.{Ghosts}
use Rattle.ft_model.specs.Keys.{AreDistinct}
use Rattle.ft_model.specs.Node.{Node, Place, Stage, Input, key_of, place_at}
use Rattle.ft_model.specs.Node.Input.{Tick_comes}
use Rattle.ft_model.specs.Node.Place.{Opens, Lives, Ended}
use Rattle.ft_model.proofs.Keys.{all_from_get, finds_itself}
use Rattle.ft_model.proofs.Lists.{none_is_some, some_is}
use Rattle.long_laws.specs.Forgetting.{Named, forget}
use Rattle.long_laws.specs.LongTrace.{places_at}
use Rattle.long_laws.specs.Quarantine.{Quarantined, quarantined_at, quarantine_of, quarantine_after, proceeds_or_begins, named_in, is_leaving, forgets}
use Rattle.lasting_laws.specs.ByKey.{next_quarantine, quarantine_at}
use Rattle.lasting_laws.specs.LastingTurn as law
use Rattle.lasting_laws.proofs.ByKey.{quarantine_by_key}
use Rattle.lasting_lives.specs.declared.life.Life.{Life}
use Rattle.lasting_lives.specs.declared.life.Life.TheVariants as life
use Rattle.lasting_lives.specs.declared.life.Resting.{Resting}
use Rattle.lasting_lives.specs.Lives.{resting_in}
use Rattle.forget_wire.specs.Value.{named_said}
use Rattle.lasting_lives.specs.Known.{LifeStands}
use Rattle.lasting_lives.specs.Watches.{QuarantineStands}
use Rattle.lasting_lives.proofs.Counts.{leaving_is}
use Rattle.lasting_node.specs.declared.node.LastingNode.{LastingNode}
use Rattle.lasting_node.specs.Tending.{SendsOnly, forget_due, forgets_due}
use Rattle.lasting_node.specs.Turns.{known_of, forget_wire}

-- a list up to a place, and one more
pub flat_step : {A B : Type 0} (f : A → List B) (xs : List A) (i : ℕ) (x : A) → slice_get xs i ≡ Some x → flat_map f (take (suc i) xs) ≡ flat_map f (take i xs) ++ f x
flat_step f [] i x e = none_is_some x e
flat_step f (y ∷ ys) zero x e = ap (λ z. f z ++ []) (some_is y x e) ∙ append-nil (f x)
flat_step f (y ∷ ys) (suc i) x e = ap (λ l. f y ++ l) (flat_step f ys i x e) ∙ sym (append_assoc (f y) (flat_map f (take i ys)) (f x))

-- within a list there is something
pub within_some : {A P : Type 0} (xs : List A) (i : ℕ) → i < length xs → slice_get xs i ≡ None → P
within_some [] i less e = absurd (omega (arith, less))
within_some (x ∷ xs) zero less e = none_is_some x (sym e)
within_some (x ∷ xs) (suc i) less e = within_some xs i (omega (arith, less)) e

-- The quarantine is in the order of the places
module _ (node : Node) (input : Input) (qs : List Quarantined) (later : Stage) (d : AreDistinct (map key_of (places_at later))) where
  abbrev whole : List Quarantined
  whole = quarantine_after node input later qs

  both : (q : Option Quarantined) (named : Option Named) → proceeds_or_begins input q named ≡ option_to_list (next_quarantine input q named)
  both (Some q) named = refl
  both None (Some named) = refl
  both None None = refl

  one : (place : Place) → quarantine_of node input qs place ≡ option_to_list (quarantine_at node input (key_of place) (quarantined_at (key_of place) qs) (Some place))
  one (Ended k) = both (quarantined_at k qs) (named_in node input node.stage k)
  one (Lives p) = refl
  one (Opens n t) = refl

  its : (place : Place) → place_at (key_of place) (places_at later) ≡ Some place → quarantine_of node input qs place ≡ option_to_list (quarantined_at (key_of place) whole)
  its place there =
      one place
      ∙ ap option_to_list (ap (quarantine_at node input (key_of place) (quarantined_at (key_of place) qs)) (sym there) ∙ sym (quarantine_by_key node input qs later (key_of place) d))

  all_its : (left : List Place) → AllByRecursion (λ place. place_at (key_of place) (places_at later) ≡ Some place) left
      → flat_map (quarantine_of node input qs) left ≡ flat_map (λ key. option_to_list (quarantined_at key whole)) (map key_of left)
  all_its [] a = refl
  all_its (p ∷ left) a = ap₂ (λ x y. x ++ y) (its p a.0) (all_its left a.1)

  pub in_order : whole ≡ flat_map (λ key. option_to_list (quarantined_at key whole)) (map key_of (places_at later))
  in_order =
      all_its (places_at later)
      (all_from_get (λ place. place_at (key_of place) (places_at later) ≡ Some place) (places_at later) (λ i x e. finds_itself key_of (places_at later) i x d e))

module _ {S : Type 0} {s : Ghosts S} (n : law.LastingNode) (now : LastingNode S s) (small : now.patience.wait ≤ 2 ^ 32 - 1) (boot : now.node.who.boot ≡ n.node.boot) where
  abbrev due_by_law : Option Quarantined → List Rattle.ft_model.specs.Wire.Wire
  due_by_law o = map forget_wire (forgets now.patience.wait n.node.boot Tick_comes (option_to_list o))

  one_leaves : (q : Quarantined) (b : Bool) → is_leaving now.patience.wait q ≡ b → due_by_law (Some q) ≡ (if b then forget_wire (forget n.node.boot q.named) ∷ [] else [])
  one_leaves q true e = ap (λ qs. map forget_wire (map (λ x. forget n.node.boot x.named) qs)) (if_true (is_leaving now.patience.wait q) (q ∷ []) [] e)
  one_leaves q false e = ap (λ qs. map forget_wire (map (λ x. forget n.node.boot x.named) qs)) (if_false (is_leaving now.patience.wait q) (q ∷ []) [] e)

  one_due : (key : Key) (o : Option Place) (l : Option Life) → LifeStands n key o l → due_by_law (quarantined_at key n.quarantine) ≡ forget_due now l
  one_due key (Some (Lives p)) (Some (life.Watched w)) st = ap due_by_law st.0
  one_due key (Some (Lives p)) (Some (life.Resting r)) st = absurd st
  one_due key (Some (Lives p)) None st = absurd st
  one_due key (Some (Opens m t)) None st = ap due_by_law st
  one_due key (Some (Opens m t)) (Some x) st = absurd st
  one_due key None None st = ap due_by_law st
  one_due key None (Some x) st = absurd st
  one_due key (Some (Ended k)) (Some (life.Watched w)) st = absurd st
  one_due key (Some (Ended k)) None st = absurd st
  one_due key (Some (Ended k)) (Some (life.Resting r)) st = by (quarantined_at key n.quarantine) st
    where
      by : (o : Option Quarantined) → MatchOption o ⊥ (λ q. QuarantineStands r q × (r.end.0 ≡ n.ends key)) → due_by_law o ≡ forget_due now (Some (life.Resting r))
      by None x = absurd x
      by (Some q) x =
          one_leaves q (nat_le now.patience.wait r.age) (sym (leaving_is now.patience.wait r q small x.0))
          ∙ ap₂ (λ b m. if nat_le now.patience.wait r.age then forget_wire (forget b m) ∷ [] else []) (sym boot) (sym x.0.named)

  more_due : (o : Option Quarantined) (qs : List Quarantined)
      → map forget_wire (forgets now.patience.wait n.node.boot Tick_comes (option_to_list o ++ qs)) ≡ due_by_law o ++ map forget_wire (forgets now.patience.wait n.node.boot Tick_comes qs)
  more_due None qs = refl
  more_due (Some q) qs = by (is_leaving now.patience.wait q) refl
    where
      by : (b : Bool) → is_leaving now.patience.wait q ≡ b
          → map forget_wire (forgets now.patience.wait n.node.boot Tick_comes (q ∷ qs)) ≡ due_by_law (Some q) ++ map forget_wire (forgets now.patience.wait n.node.boot Tick_comes qs)
      by true e =
          ap (λ xs. map forget_wire (map (λ x. forget n.node.boot x.named) xs)) (if_true (is_leaving now.patience.wait q) (q ∷ filter (is_leaving now.patience.wait) qs) (filter (is_leaving now.patience.wait) qs) e)
          ∙ ap (λ l. l ++ map forget_wire (forgets now.patience.wait n.node.boot Tick_comes qs)) (sym (one_leaves q true e))
      by false e =
          ap (λ xs. map forget_wire (map (λ x. forget n.node.boot x.named) xs)) (if_false (is_leaving now.patience.wait q) (q ∷ filter (is_leaving now.patience.wait) qs) (filter (is_leaving now.patience.wait) qs) e)
          ∙ ap (λ l. l ++ map forget_wire (forgets now.patience.wait n.node.boot Tick_comes qs)) (sym (one_leaves q false e))

  all_due : (keys : List Key) (place : Key → Option Place) → ((key : Key) → LifeStands n key (place key) (known_of now key))
      → map forget_wire (forgets now.patience.wait n.node.boot Tick_comes (flat_map (λ key. option_to_list (quarantined_at key n.quarantine)) keys)) ≡ forgets_due now keys
  all_due [] place st = refl
  all_due (key ∷ keys) place st =
      more_due (quarantined_at key n.quarantine) (flat_map (λ k. option_to_list (quarantined_at k n.quarantine)) keys)
      ∙ ap₂ (λ a b. a ++ b) (one_due key (place key) (known_of now key) (st key)) (all_due keys place st)

  -- where the quarantine is in the order of these keys
  pub all_forgets : (keys : List Key) (place : Key → Option Place) → ((key : Key) → LifeStands n key (place key) (known_of now key))
      → n.quarantine ≡ flat_map (λ key. option_to_list (quarantined_at key n.quarantine)) keys
      → map forget_wire (forgets now.patience.wait n.node.boot Tick_comes n.quarantine) ≡ forgets_due now keys
  all_forgets keys place st order = ap (λ qs. map forget_wire (forgets now.patience.wait n.node.boot Tick_comes qs)) order ∙ all_due keys place st

-- where only what is sent changes
pub sends_none : {S : Type 0} {s : Ghosts S} (was : LastingNode S s) → SendsOnly was was
sends_none was = record { node = refl; patience = refl; lives = refl }

pub sends_more : {S : Type 0} {s : Ghosts S} (was mid now : LastingNode S s) → SendsOnly was mid → SendsOnly mid now → SendsOnly was now
sends_more was mid now a b = record { node = b.node ∙ a.node; patience = b.patience ∙ a.patience; lives = b.lives ∙ a.lives }

due_same_at : {S : Type 0} {s : Ghosts S} (was mid : LastingNode S s) (l : Option Life) → SendsOnly was mid → forget_due mid l ≡ forget_due was l
due_same_at was mid (Some (life.Resting r)) only =
    ap₂ (λ w b. if nat_le w r.age then forget_wire (forget b (named_said r.named)) ∷ [] else []) (ap (λ p. p.wait) only.patience) (ap (λ x. x.who.boot) only.node)
due_same_at was mid (Some (life.Watched w)) only = refl
due_same_at was mid None only = refl

pub due_same : {S : Type 0} {s : Ghosts S} (was mid : LastingNode S s) (key : Key) → SendsOnly was mid → forget_due mid (known_of mid key) ≡ forget_due was (known_of was key)
due_same was mid key only = due_same_at was mid (known_of mid key) only ∙ ap (λ lives. forget_due was (lookup (key_eq key) lives)) only.lives

-- what is due of one key
pub none_due : {S : Type 0} {s : Ghosts S} (now : LastingNode S s) (l : Option Life) → resting_in l ≡ None → forget_due now l ≡ []
none_due now (Some (life.Resting r)) e = none_is_some r (sym e)
none_due now (Some (life.Watched w)) e = refl
none_due now None e = refl

pub not_due : {S : Type 0} {s : Ghosts S} (now : LastingNode S s) (l : Option Life) (r : Resting) → resting_in l ≡ Some r → nat_le now.patience.wait r.age ≡ false → forget_due now l ≡ []
not_due now (Some (life.Resting x)) r e young =
    if_false (nat_le now.patience.wait x.age) (forget_wire (forget now.node.who.boot (named_said x.named)) ∷ []) [] (ap (λ y. nat_le now.patience.wait y.age) (some_is x r e) ∙ young)
not_due now (Some (life.Watched w)) r e young = none_is_some r e
not_due now None r e young = none_is_some r e

pub is_due : {S : Type 0} {s : Ghosts S} (now : LastingNode S s) (l : Option Life) (r : Resting) → resting_in l ≡ Some r → nat_le now.patience.wait r.age ≡ true
    → forget_due now l ≡ forget_wire (forget now.node.who.boot (named_said r.named)) ∷ []
is_due now (Some (life.Resting x)) r e old =
    if_true (nat_le now.patience.wait x.age) (forget_wire (forget now.node.who.boot (named_said x.named)) ∷ []) [] (ap (λ y. nat_le now.patience.wait y.age) (some_is x r e) ∙ old)
    ∙ ap (λ y. forget_wire (forget now.node.who.boot (named_said y.named)) ∷ []) (some_is x r e)
is_due now (Some (life.Watched w)) r e old = none_is_some r e
is_due now None r e old = none_is_some r e

-- the keys of slots
pub none_mapped : {A B : Type 0} (f : A → B) (o : Option A) → option_map f o ≡ None → o ≡ None
none_mapped f None e = refl
none_mapped f (Some x) e = none_is_some (f x) (sym e)

pub nth_key : {A : Type 0} (es : List (Key × A)) (i : ℕ) → slice_get (keys_of es) i ≡ option_map (λ e. e.0) (slice_get es i)
nth_key [] i = refl
nth_key (e ∷ es) zero = refl
nth_key (e ∷ es) (suc i) = nth_key es i

pub key_of_slot : {A : Type 0} (es : List (Key × A)) (i : ℕ) (key : Key) → Some key ≡ option_map (λ e. e.0) (slice_get es i) → slice_get (keys_of es) i ≡ Some key
key_of_slot es i key e = nth_key es i ∙ sym e

pub key_count : {A : Type 0} (es : List (Key × A)) → length (keys_of es) ≡ length es
key_count [] = refl
key_count (e ∷ es) = ap suc (key_count es)
