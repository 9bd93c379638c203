-- How far a walk over a report's turns has got.
use Rattle.std.specs.Prelude.{◌≡◌, ℕ, ◌+◌, ◌≤◌, List, [], ◌∷◌, length, map, take, drop}
use Rattle.server_trait.specs.Service.{Machine}
use Rattle.ft_model.specs.Legal.{start_of}
use Rattle.ft_model.specs.Report.{packet_count}
use Rattle.ft_model.specs.World.{Moment, world_after}
use Rattle.ft_model.specs.declared.line.Draft.TheVariants.{Begun}
use Rattle.ft_model.specs.declared.schedule.Schedule.{Schedule}
use Rattle.plain_packets.specs.Sent.{kept_wire}
use Rattle.plain_world.specs.WorldState.{WorldState, IsAt}
use Rattle.report_laws.specs.declared.Law.{Law}
use Rattle.report_laws.specs.Canonical.{IsWithinLimits, schedule_bytes}
use Rattle.report_laws.specs.TurnLines.{schedule_through}
use Rattle.report_laws.specs.Transitions.{IsReport, actor, report_so_far, report_with_turn}
use Rattle.report_laws.specs.Transitions.Position.{InTurn}
use Rattle.trace_check.specs.declared.check.Yes.{Yes}
use Rattle.trace_check.specs.declared.walk.Place.{Place}
use Rattle.trace_check.specs.After.{IsAfter}
use Rattle.trace_check.specs.Leads.{Leads}

-- a place in a text, and in the schedule's own text
abbrev pub IsPlaceIn : List ℕ → Place → Type 0
IsPlaceIn text place = (place.at ≤ length text) × (place.lines ≤ place.at) × (place.size ≤ 8388609)

-- up to a place, the text is the report of a legal trace up to its last turn, and the plain world is the one after it
pub record IsWalked {State : Type 0} (service : ℕ
    → Machine State) (text : List ℕ) (schedule : Schedule) (trace : List Moment) (place : Place) (world : WorldState State) : Type 0 where
  pub after : IsAfter service text (schedule_through schedule trace) trace (drop place.at text) place.lines
  pub stands : IsAt service schedule trace world
  pub limits : IsWithinLimits (schedule_through schedule trace)
  pub size_is : length (schedule_bytes (Begun (schedule_through schedule trace))) ≡ place.size
  pub sent : length world.packets ≡ packet_count trace
  pub few : packet_count trace ≤ 200000
  pub text_is : take place.at text ≡ report_so_far (schedule_through schedule trace) trace

-- the next event's line is read too, and the plain world is the one after the event
pub record IsPlayed {State : Type 0} (service : ℕ
    → Machine State) (text : List ℕ) (schedule : Schedule) (trace : List Moment) (moment : Moment) (place : Place) (before : ℕ) (turn : Law)
    (world : WorldState State) : Type 0 where
  pub leads : Leads service text (InTurn (schedule_through schedule (moment ∷ trace)) trace moment.event []) (drop place.at text) place.lines
  pub stands : IsAt service schedule (moment ∷ trace) world
  pub limits : IsWithinLimits (schedule_through schedule (moment ∷ trace))
  pub size_is : length (schedule_bytes (Begun (schedule_through schedule (moment ∷ trace)))) ≡ place.size
  pub sent : before ≡ packet_count trace
  pub packets : drop before world.packets ≡ map kept_wire moment.sent
  pub count : length world.packets ≡ before + length moment.sent
  pub few : packet_count trace ≤ 200000
  pub law_is : turn ≡ actor (world_after (start_of schedule) trace) moment.event
  pub text_is : take place.at text ≡ report_with_turn (schedule_through schedule (moment ∷ trace)) trace moment.event []

-- the text is the report of a legal trace with these counts
abbrev pub Reports : {State : Type 0} → (ℕ → Machine State) → List ℕ → Yes → Type 0
Reports service text counts = (r : IsReport service text) × (counts.events ≡ length r.trace) × (counts.packets ≡ packet_count r.trace)
