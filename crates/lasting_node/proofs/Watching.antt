-- The watches that begin where a restart ends, and the quarantines of what was fetched as done.
use Rattle.std.proofs.Common.{◌≡◌, ◌∙◌, ℕ, zero, suc, Bool, true, false, ◌||◌, refl, sym, ap, ap₂, subst, true≢false, slice_get, take, Option, Some, None, option_map, List, [], ◌∷◌, if◌then◌else◌}
use Rattle.std.specs.List.{list_any}
use Rattle.std.specs.Map.{keys_of}
use Rattle.ft_io.specs.declared.Key.{Key}
use Rattle.ft_io.specs.Key.{key_eq}
use Rattle.ft_io.proofs.Booleans.{left_false, right_false}
use Rattle.ft_io.proofs.Choices.{by_cases, if_true, if_false}
use Rattle.server_trait.specs.Service.{Machine}
use Rattle.ft_model.specs.Node.{Node, Place, Stage, key_of, place_at}
use Rattle.ft_model.specs.Node.Place.{Opens, Lives, Ended}
use Rattle.ft_model.proofs.Lists.{none_is_some, some_is, same_key}
use Rattle.lasting_lives.specs.declared.life.Life.{Life}
use Rattle.lasting_lives.specs.Known.{restored_life}
use Rattle.lasting_lives.specs.Noted.{ChangesAt, StaysKnown, NotesRestored}
use Rattle.node_serving.specs.Loan.{place_in}
use Rattle.node_serving.specs.Slots.{AllStand}
use Rattle.node_serving.specs.declared.slot.Slot.{Slot}
use Rattle.node_serving.proofs.OneKey.{place_key}
use Rattle.server_node.specs.Places.{slots_at, is_serving}
use Rattle.server_node.specs.Stages.{StageStands}
use Rattle.server_node.specs.declared.stage.Stage.{Stage as CodeStage}
use Rattle.server_node.specs.declared.stage.Stage.TheVariants as stage

-- a key among some
abbrev pub is_among : Key → List Key → Bool
is_among key keys = list_any (λ k. key_eq k key) keys

-- what is known of a key once the watches of the first keys have begun
abbrev pub restored_so_far : Stage → List Key → (Key → Option Life) → Key → Option Life
restored_so_far at keys lives key = if is_among key keys then restored_life (place_in key at) (lives key) else lives key

again : (o : Option Place) (l : Option Life) → restored_life o (restored_life o l) ≡ restored_life o l
again (Some (Lives p)) l = refl
again (Some (Opens m t)) l = refl
again (Some (Ended k)) l = refl
again None l = refl

either_again : (o : Option Place) (l : Option Life) (b : Bool) → restored_life o (if b then restored_life o l else l) ≡ restored_life o l
either_again o l true = again o l
either_again o l false = refl

or_some : (b : Bool) → (b || true) ≡ true
or_some true = refl
or_some false = refl

or_none : (b : Bool) → (b || false) ≡ b
or_none true = refl
or_none false = refl

among_more : {S : Type 0} (es : List (Key × Slot S)) (i : ℕ) (e : Key × Slot S) (key : Key) → slice_get es i ≡ Some e
    → is_among key (keys_of (take (suc i) es)) ≡ (is_among key (keys_of (take i es)) || key_eq e.0 key)
among_more [] i e key at = none_is_some e at
among_more (x ∷ es) zero e key at = or_none (key_eq x.0 key) ∙ ap (λ y. key_eq y.0 key) (some_is x e at)
among_more (x ∷ es) (suc i) e key at = ap (λ b. key_eq x.0 key || b) (among_more es i e key at) ∙ assoc (key_eq x.0 key) (is_among key (keys_of (take i es))) (key_eq e.0 key)
  where
    assoc : (a b c : Bool) → (a || (b || c)) ≡ ((a || b) || c)
    assoc true b c = refl
    assoc false b c = refl

-- one key more
pub one_watched : {S : Type 0} (es : List (Key × Slot S)) (i : ℕ) (key : Key) (at : Stage) (first old new : Key → Option Life) → Some key ≡ option_map (λ e. e.0) (slice_get es i)
    → ((k : Key) → old k ≡ restored_so_far at (keys_of (take i es)) first k) → ChangesAt key (restored_life (place_in key at)) old new
    → (k : Key) → new k ≡ restored_so_far at (keys_of (take (suc i) es)) first k
one_watched {S} es i key at first old new found before change k = by (slice_get es i) refl found
  where
    by : (o : Option (Key × Slot S)) → slice_get es i ≡ o → Some key ≡ option_map (λ e. e.0) o → new k ≡ restored_so_far at (keys_of (take (suc i) es)) first k
    by None e f = none_is_some key (sym f)
    by (Some x) e f =
        let its : key ≡ x.0 = some_is key x.0 f in
        let among : is_among k (keys_of (take (suc i) es)) ≡ (is_among k (keys_of (take i es)) || key_eq key k) =
        among_more es i x k e ∙ ap (λ y. is_among k (keys_of (take i es)) || key_eq y k) (sym its) in
        by_cases (key_eq key k)
        (λ t. change k
        ∙ (if_true (key_eq key k) (restored_life (place_in key at) (old k)) (old k) t
        ∙ (ap₂ (λ y l. restored_life (place_in y at) l) (same_key key k t) (before k)
        ∙ (either_again (place_in k at) (first k) (is_among k (keys_of (take i es)))
        ∙ sym (if_true (is_among k (keys_of (take (suc i) es))) (restored_life (place_in k at) (first k)) (first k)
        (among ∙ (ap (λ b. is_among k (keys_of (take i es)) || b) t ∙ or_some (is_among k (keys_of (take i es))))))))))
        (λ f. change k
        ∙ (if_false (key_eq key k) (restored_life (place_in key at) (old k)) (old k) f
        ∙ (before k
        ∙ ap (λ b. if b then restored_life (place_in k at) (first k) else first k)
        (sym (among ∙ (ap (λ b. is_among k (keys_of (take i es)) || b) f ∙ or_none (is_among k (keys_of (take i es)))))))))

-- a key without a slot has no place
no_place : {S : Type 0} (service : Machine S) (node : Node) (key : Key) (es : List (Key × Slot S)) (places : List Place) → AllStand service node es places → is_among key (keys_of es) ≡ false
    → place_at key places ≡ None
no_place service node key [] [] st none = refl
no_place service node key [] (q ∷ qs) st none = absurd st
no_place service node key (e ∷ es) [] st none = absurd st
no_place service node key (e ∷ es) (q ∷ qs) st none =
    if_false (key_eq (key_of q) key) (Some q) (place_at key qs)
    (ap (λ k. key_eq k key) (place_key service node e.0 e.1 q st.0) ∙ left_false (key_eq e.0 key) (is_among key (keys_of es)) none)
    ∙ no_place service node key es qs st.1 (right_false (key_eq e.0 key) (is_among key (keys_of es)) none)

-- all of them
pub all_watched : {S : Type 0} (service : Machine S) (node : Node) (now : CodeStage S) (at : Stage) (first new : Key → Option Life) → node.stage ≡ at → StageStands service node now
    → ((k : Key) → new k ≡ restored_so_far at (keys_of (slots_at now)) first k) → (k : Key) → new k ≡ restored_life (place_in k at) (first k)
all_watched service node now at first new is st all k =
    all k
    ∙ by_cases (is_among k (keys_of (slots_at now)))
    (λ t. if_true (is_among k (keys_of (slots_at now))) (restored_life (place_in k at) (first k)) (first k) t)
    (λ f. if_false (is_among k (keys_of (slots_at now))) (restored_life (place_in k at) (first k)) (first k) f
    ∙ sym (ap (λ o. restored_life o (first k)) (subst (λ x. place_in k x ≡ None) is (nowhere now st f))))
  where
    nowhere : (x : CodeStage _) → StageStands service node x → is_among k (keys_of (slots_at x)) ≡ false → place_in k node.stage ≡ None
    nowhere stage.Asking st f = ap (place_in k) st
    nowhere (stage.Fetching y) st f = ap (place_in k) st.2
    nowhere (stage.Serving y) st f = ap (place_in k) st.2 ∙ no_place service node k y.slots.entries st.1 st.3.slots f
    nowhere (stage.Marked y) st f = absurd st
    nowhere stage.Lost st f = absurd st

-- where the node serves by then, and where it doesn't
pub restored_serving : {S : Type 0} (service : Machine S) (node : Node) (now : CodeStage S) (at : Stage) (old new : Key → Option Life) → node.stage ≡ at → StageStands service node now
    → is_serving now ≡ true → ((k : Key) → new k ≡ restored_life (place_in k at) (old k)) → NotesRestored at old new
restored_serving service node (stage.Serving y) at old new is st e all =
    subst (λ x. NotesRestored x old new) (sym st.2 ∙ is) (λ k. all k ∙ ap (λ x. restored_life (place_in k x) (old k)) (sym is ∙ st.2))
restored_serving service node stage.Asking at old new is st e all = absurd (true≢false (sym e))
restored_serving service node (stage.Fetching y) at old new is st e all = absurd (true≢false (sym e))
restored_serving service node (stage.Marked y) at old new is st e all = absurd st
restored_serving service node stage.Lost at old new is st e all = absurd st

pub restored_later : {S : Type 0} (service : Machine S) (node : Node) (now : CodeStage S) (at : Stage) (old new : Key → Option Life) → node.stage ≡ at → StageStands service node now
    → is_serving now ≡ false → StaysKnown old new → NotesRestored at old new
restored_later service node stage.Asking at old new is st e same = subst (λ x. NotesRestored x old new) (sym st ∙ is) same
restored_later service node (stage.Fetching y) at old new is st e same = subst (λ x. NotesRestored x old new) (sym st.2 ∙ is) same
restored_later service node (stage.Serving y) at old new is st e same = absurd (true≢false e)
restored_later service node (stage.Marked y) at old new is st e same = absurd st
restored_later service node stage.Lost at old new is st e same = absurd st
