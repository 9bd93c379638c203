-- A turn with marks, without them.
use Rattle.std.proofs.Common.{◌≡◌, ℕ, ◌-◌, Bool, refl, sym, ap, ap₂, ◌∙◌, subst, List, [], ◌∷◌, ◌++◌, map, length, take, drop, if◌then◌else◌}
use Rattle.std.specs.List.{flat_map}
use Rattle.std.proofs.lemmas.List.{take-append-drop}
use Rattle.ft_io.specs.declared.Key.{Key}
use Rattle.ft_io.proofs.Choices.{holds_if}
use Rattle.ft_model.specs.Network.{Packet}
use Rattle.ft_model.specs.Node.{Place, Input, key_of}
use Rattle.ft_model.specs.Node.Place.{Lives, Opens, Ended}
use Rattle.ft_model.specs.ServingTurn.{AllGo, PlaceTurn, ServingTurn, concerns, refusals, opens_at}
use Rattle.mark_laws.specs.Marking.{Marking, Outgoing, with_marks, without_marks}
use Rattle.mark_laws.specs.Marking.Outgoing.{Plain, Mark_to_logger}
use Rattle.mark_laws.proofs.MarksSent.{without_append, without_out, without_plain}
use Rattle.mark_laws.specs.MarkedNode.{Marker, MarkedNode, GoesMarked, AllGoMarked, ServesMarked, marks_at, marks_in, is_tick_input}
use Rattle.mark_laws.specs.MarkedWorld.{Parcel, usual, parcel_of}
use Rattle.mark_laws.specs.MarkedWorld.Parcel.{Usual, Mark_sent, Mark_answered}

-- marks among packets
packets_stay : (behind : ℕ) (marks : List Outgoing) (packets : List Packet) → without_marks marks ≡ [] → without_marks (with_marks behind marks packets) ≡ packets
packets_stay behind marks packets none =
    let k : ℕ = length packets - behind in
    without_append (map Plain (take k packets)) (marks ++ map Plain (drop k packets))
    ∙ (ap₂ ◌++◌ (without_plain (take k packets)) (without_append marks (map Plain (drop k packets)) ∙ ap₂ ◌++◌ none (without_plain (drop k packets))) ∙ take-append-drop k packets)

all_marks : (marks : Place → List Outgoing) → ((place : Place) → without_marks (marks place) ≡ []) → (places : List Place) → without_marks (flat_map marks places) ≡ []
all_marks marks only [] = refl
all_marks marks only (place ∷ places) = without_append (marks place) (flat_map marks places) ∙ ap₂ ◌++◌ (only place) (all_marks marks only places)

pub stripped : (Goes : Place → List Place → List Packet → Type 0) (marks : Place → List Outgoing) → ((place : Place) → without_marks (marks place) ≡ [])
    → (places after : List Place) (sent : List Outgoing) → AllGoMarked (GoesMarked Goes marks) places after sent → AllGo Goes places after (without_marks sent)
stripped Goes marks only [] after sent t = (t.0, ap without_marks t.1)
stripped Goes marks only (place ∷ places) after sent t =
    let g : GoesMarked Goes marks place t.0 t.2 = t.6 in
    let first : without_marks t.2 ≡ g.packets = ap without_marks g.sent_are ∙ packets_stay _ (flat_map marks t.0) g.packets (all_marks marks only t.0) in (
      t.0,
      t.1,
      without_marks t.2,
      without_marks t.3,
      t.4,
      ap without_marks t.5 ∙ without_append t.2 t.3,
      subst (Goes place t.0) (sym first) g.goes,
      stripped Goes marks only places t.1 t.3 t.7,
    )

-- the marks of a place are only marks
pub only_marks : {State : Type 0} (by : Marker State) (boot : ℕ) (tick : Bool) (marking : Key → Marking) (place : Place) → without_marks (marks_at by boot tick marking place) ≡ []
only_marks by boot tick marking (Lives p) = without_out boot p (marks_in by tick (marking p.key) p)
only_marks by boot tick marking (Opens n timestamping) = refl
only_marks by boot tick marking (Ended k) = refl

-- .. so a turn of a server that serves is one without marks
pub serves_plainly : {State : Type 0} (by : Marker State) (node : MarkedNode) (input : Input) (opened : ℕ) (before after : List Place) (marking : Key → Marking) (sent : List Outgoing)
    → ServesMarked by node input opened before after marking sent → ServingTurn by.service node.plain input opened before after (without_marks sent)
serves_plainly by node input opened before after marking sent t =
    let rest : List Packet = refusals node.plain input before ++ flat_map (opens_at node.plain input) after in
    record {
      went = t.went;
      by_places = without_marks t.by_places;
      all_go = stripped (PlaceTurn by.service node.plain input)
          (λ place. if concerns node.plain input (key_of place) then marks_at by node.plain.boot (is_tick_input input) node.marking place else [])
          (λ place. holds_if (λ ms. without_marks ms ≡ []) (concerns node.plain input (key_of place)) (marks_at by node.plain.boot (is_tick_input input) node.marking place) []
          (λ c. only_marks by node.plain.boot (is_tick_input input) node.marking place) (λ c. refl)) before t.went t.by_places t.all_go;
      places = t.places;
      packets = ap without_marks t.packets ∙ (without_append t.by_places (map Plain rest) ∙ ap (λ l. without_marks t.by_places ++ l) (without_plain rest));
    }

-- What the world sees of it
pub usual_append : (xs ys : List Parcel) → usual (xs ++ ys) ≡ usual xs ++ usual ys
usual_append [] ys = refl
usual_append (Usual packet ∷ xs) ys = ap (λ l. packet ∷ l) (usual_append xs ys)
usual_append (Mark_sent message ∷ xs) ys = usual_append xs ys
usual_append (Mark_answered message ∷ xs) ys = usual_append xs ys

pub usual_of : (packets : List Packet) → usual (map Usual packets) ≡ packets
usual_of [] = refl
usual_of (packet ∷ packets) = ap (λ l. packet ∷ l) (usual_of packets)

pub usual_out : (out : List Outgoing) → usual (map parcel_of out) ≡ without_marks out
usual_out [] = refl
usual_out (Plain packet ∷ out) = ap (λ l. packet ∷ l) (usual_out out)
usual_out (Mark_to_logger message ∷ out) = usual_out out
