-- The end of a restart, one entry after another, the oldest first.
use Rattle.std.proofs.Common.{◌≡◌, ◌∙◌, ◌+◌, ◌≤◌, false, if◌then◌else◌, refl, sym, ap, subst, arith, List, [], ◌∷◌, ◌++◌, map, filter, length, append_assoc, append-nil}
use Rattle.std.proofs.lemmas.List.{map-append, length-append}
use Rattle.std.proofs.lemmas.List.Elements.{filter-append}
use Rattle.std.specs.Prelude.{not}
use Rattle.ft_io.proofs.Choices.{holds_either_way}
use Rattle.server_trait.specs.Service.{Machine}
use Rattle.ft_model.specs.Lawful.{Revives, restored, all_restored, restored_count}
use Rattle.ft_model.specs.News.News.{Begins}
use Rattle.ft_model.specs.Node.{Node, Place}
use Rattle.ft_model.specs.Node.Place.{Lives, Ended}
use Rattle.ft_model.specs.Restart.{Fetched, entry_in, point_of}
use Rattle.ft_model.specs.ServingTurn.{AllGo, LivesOn}
use Rattle.ft_model.specs.Wire.{Wire}
use Rattle.plain_packets.proofs.Sent.{appends_none}
use Rattle.plain_world.specs.declared.place.PlainPlace.{PlainPlace}
use Rattle.plain_world.specs.declared.serving.Serving.{Serving}
use Rattle.plain_world.specs.Restored.{IsRestored, AreRestored}
use Rattle.plain_world.specs.NodeTurns.{SendsBy}
use Rattle.plain_world.specs.Values.{place_in, places_in}
use Rattle.plain_world.proofs.AllPlaces.{sends_on}
use Rattle.plain_world.proofs.Places.{sends_as}

-- the oldest of these entries are restored, and the others are left
pub record LastRestored {S : Type 0} (service : Machine S) (node : Node) (before left : List Fetched) (now : Serving S) (old new : List Wire) : Type 0 where
  pub done : List Fetched
  pub split : before ≡ left ++ done
  pub restored : AreRestored service node done now old new

counted : (f : Fetched) (done : List Fetched) → restored_count (f ∷ done) ≡ restored_count (f ∷ []) + restored_count done
counted f done = ap length (filter-append (λ e. not e.head.done) (f ∷ []) done) ∙ length-append (filter (λ e. not e.head.done) (f ∷ [])) (filter (λ e. not e.head.done) done)

pub count_is_low : (f : Fetched) → restored_count (f ∷ []) ≤ 1
count_is_low f = holds_either_way (λ (es : List Fetched). length es ≤ 1) (not f.head.done) (f ∷ []) [] (omega arith) (omega arith)

-- an entry that isn't done becomes live at its point
pub revived : {S : Type 0} (service : Machine S) (node : Node) (f : Fetched) (now : List Place) (old new : List Wire) → f.head.done ≡ false
    → SendsBy (LivesOn service node Begins (point_of service node.profile (entry_in f)) now) old new → SendsBy (Revives service node (restored service node.profile f) now) old new
revived service node f now old new live h =
    sends_as (LivesOn service node Begins (point_of service node.profile (entry_in f)) now) (Revives service node (restored service node.profile f) now) old new
    (λ sent l. subst (λ b. Revives service node (if b then Ended f.head.key else Lives (point_of service node.profile (entry_in f))) now sent) (sym live) l) h

module _ {S : Type 0} (service : Machine S) (node : Node) where
  pub none_restored : (before : List Fetched) (now : Serving S) (wires : List Wire) → now.opened ≡ 0 → now.places.items ≡ [] → LastRestored service node before before now wires wires
  none_restored before now wires none empty = record {
    done = [];
    split = sym (append-nil before);
    restored = record {
      opened = none;
      go = subst (λ (places : List (PlainPlace S)). SendsBy (AllGo (Revives service node) [] (places_in places)) wires wires) (sym empty)
          (record { sent = []; lawful = (refl, refl); packets = appends_none wires });
    };
  }

  pub more_restored : (before left rest : List Fetched) (f : Fetched) (now after : Serving S) (old mid new : List Wire) → LastRestored service node before left now old mid
      → left ≡ rest ++ f ∷ [] → after.opened ≡ now.opened + restored_count (f ∷ []) → IsRestored service node f now.places.items after.places.items mid new
      → LastRestored service node before rest after old new
  more_restored before left rest f now after old mid new l cut opened is = record {
    done = f ∷ l.done;
    split = l.split ∙ (ap (λ fs. fs ++ l.done) cut ∙ append_assoc rest (f ∷ []) l.done);
    restored = record {
      opened = let were : now.opened ≡ restored_count l.done = l.restored.opened in omega (arith, opened, were, counted f l.done);
      go = subst (λ places. SendsBy (AllGo (Revives service node) (all_restored service node.profile (f ∷ l.done)) places) old new)
          (sym (map-append place_in now.places.items (is.place ∷ [])) ∙ ap (map place_in) (sym is.places))
          (sends_on (Revives service node) (all_restored service node.profile l.done) (places_in now.places.items) (place_in is.place ∷ []) (restored service node.profile f) old mid new l.restored.go is.turn);
    };
  }

  pub all_restored_now : (before left : List Fetched) (now : Serving S) (old new : List Wire) → LastRestored service node before left now old new → left ≡ []
      → AreRestored service node before now old new
  all_restored_now before left now old new l none =
      subst (λ fs. AreRestored service node fs now old new) (sym (l.split ∙ ap (λ fs. fs ++ l.done) none)) l.restored
