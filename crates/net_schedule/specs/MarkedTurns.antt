-- What the methods of the code's world do if it is a world with marks whose service can be saved. Each relation is for every such world of the definitions
-- to which the code's world may correspond.
use Rattle.std.specs.Prelude.{◌≡◌, ℕ, true, Some, List}
use Rattle.server_trait.specs.declared.Service.{Ghosts}
use Rattle.ft_model.specs.declared.event.Event.{Event}
use Rattle.ft_model.specs.declared.event.EventWhy.{EventWhy}
use Rattle.ft_model.specs.declared.way.Way.{Way}
use Rattle.mark_laws.specs.MarkedLegal.{marked_refusal}
use Rattle.mark_laws.specs.MarkedNode.{Marker, MarkedInput}
use Rattle.mark_laws.specs.MarkedWorld.{Parcel, MarkedWorld, ServerMoves, ComesAs}
use Rattle.net_schedule.specs.WorldView.{kept, services_of}
use Rattle.node_serving.specs.Markers.{Saving}
use Rattle.net_schedule.specs.MarkedRefinement.{MarkedWorldStands, MarkedProceeds, MarkedAdvances, MarkedPremises, MayComeMarked, MarkedComesAs}
use Rattle.net_schedule.specs.MarkedRefinement.{marker_for, way_of_parcel}
use Rattle.net_schedule.specs.declared.world.World.{World}

-- how its server makes marks, if one is due after so many reads
abbrev pub marker_in : {State : Type 0} {ghosts : Ghosts State} → Saving State → (every : ℕ) → World State ghosts → Marker State
marker_in saved every w = marker_for saved (services_of w) every w.kind

-- the server takes its turn on what may arrive
abbrev pub MarkedServes : {State : Type 0} {ghosts : Ghosts State} → Saving State → MarkedInput → (before after : World State ghosts) → Type 0
MarkedServes saved input before after =
    saved.savable ≡ true → (every : ℕ) (v : MarkedWorld) → MarkedWorldStands (marker_in saved every before) (kept before) v
    → MarkedPremises (marker_in saved every before) v → MayComeMarked v input
    → MarkedProceeds (marker_in saved every before) (ServerMoves (marker_in saved every before) input v) v (kept after)

-- bytes reach the addressee of a parcel that has this direction
abbrev pub MarkedBrings : {State : Type 0} {ghosts : Ghosts State} → Saving State → Way → List ℕ → (before after : World State ghosts) → Type 0
MarkedBrings saved way bytes before after =
    saved.savable ≡ true → (every : ℕ) (v : MarkedWorld) (parcel : Parcel) → MarkedWorldStands (marker_in saved every before) (kept before) v
    → MarkedPremises (marker_in saved every before) v → way ≡ way_of_parcel (kept before).keys parcel → MarkedComesAs v parcel bytes
    → MarkedProceeds (marker_in saved every before) (ComesAs (marker_in saved every before) parcel bytes v) v (kept after)

-- an event is allowed and happens
abbrev pub MarkedDoes : {State : Type 0} {ghosts : Ghosts State} → Saving State → Event → (before after : World State ghosts) → Type 0
MarkedDoes saved event before after =
    saved.savable ≡ true → (every : ℕ) (v : MarkedWorld) → MarkedWorldStands (marker_in saved every before) (kept before) v
    → MarkedPremises (marker_in saved every before) v → MarkedAdvances (marker_in saved every before) v event (kept after)

-- an event is refused
abbrev pub MarkedRefuses : {State : Type 0} {ghosts : Ghosts State} → Saving State → Event → (before : World State ghosts) → EventWhy → Type 0
MarkedRefuses saved event before why =
    saved.savable ≡ true → (every : ℕ) (v : MarkedWorld) → MarkedWorldStands (marker_in saved every before) (kept before) v
    → MarkedPremises (marker_in saved every before) v → marked_refusal v event ≡ Some why
