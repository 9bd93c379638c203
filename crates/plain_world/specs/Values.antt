-- The node's values as those of the definitions.
use Rattle.std.specs.Prelude.{ℕ, Bool, true, false, List, [], ◌∷◌, map}
use Rattle.ft_io.specs.declared.Addr.{Addr}
use Rattle.seq_arith.specs.declared.kinds.Grammar.TheVariants.{Wide}
use Rattle.logger_wire.specs.Value.{message_of, IsSendableBy}
use Rattle.segment_codec.specs.Value.{segment_of}
use Rattle.tcp_rules.specs.Profile.{Profile}
use Rattle.tcp_rules.specs.Profiles.{profile_of}
use Rattle.ft_model.specs.Node as law
use Rattle.logger_wire.specs.Records.{numbers_said}
use Rattle.plain_world.specs.declared.incarnation.Incarnation.{Incarnation}
use Rattle.plain_world.specs.declared.input.Input.{Input}
use Rattle.plain_world.specs.declared.input.Input.TheVariants as input
use Rattle.plain_world.specs.declared.place.PlainPlace.{PlainPlace}
use Rattle.plain_world.specs.declared.place.PlainPlace.TheVariants as place
use Rattle.plain_world.specs.declared.stage.PlainStage.{PlainStage}
use Rattle.plain_world.specs.declared.stage.PlainStage.TheVariants as stage

abbrev pub input_in : Input → law.Input
input_in (input.Packet packet) = law.Input.Packet_comes (segment_of packet)
input_in (input.Message msg) = law.Input.Message_comes (message_of msg)
input_in input.Noise = law.Input.Noise_comes
input_in input.Tick = law.Input.Tick_comes

-- an input that a codec reads: its message is one that may be sent
abbrev pub IsReadInput : Input → Type 0
IsReadInput (input.Message msg) = IsSendableBy Wide msg
IsReadInput _ = Unit {0}

abbrev pub place_in : {S : Type 0} → PlainPlace S → law.Place
place_in (place.Opens opening) = law.Place.Opens (numbers_said opening.numbers) opening.timestamping
place_in (place.Lives connection) = law.Place.Lives connection.point
place_in (place.Ended key) = law.Place.Ended key

abbrev pub places_in : {S : Type 0} → List (PlainPlace S) → List law.Place
places_in places = map place_in places

-- a place that stays after its turn, or is gone
abbrev pub left_in : {S : Type 0} → Bool → PlainPlace S → List law.Place
left_in true place = place_in place ∷ []
left_in false place = []

abbrev pub stage_in : {S : Type 0} → PlainStage S → law.Stage
stage_in stage.Asking = law.Stage.Asking
stage_in (stage.Fetching count fetched) = law.Stage.Fetching count fetched
stage_in (stage.Serving serving) = law.Stage.Serving serving.opened (places_in serving.places.items)

-- an incarnation in a stage
abbrev pub node_of : Incarnation → law.Stage → law.Node
node_of who stage = record { server = who.server; profile = profile_of who.profile; boot = who.boot; isn = who.isn; stage = stage }

-- a node as its contracts see it
pub record NodeState (S : Type 0) : Type 0 where
  pub kind : ℕ
  pub server : Addr
  pub profile : Profile
  pub boot : ℕ
  pub isn : ℕ
  pub stage : PlainStage S

abbrev pub node_in : {S : Type 0} → NodeState S → law.Node
node_in n = record { server = n.server; profile = n.profile; boot = n.boot; isn = n.isn; stage = stage_in n.stage }

-- how many initial sequence numbers are used up
abbrev pub opened_at : {S : Type 0} → PlainStage S → ℕ
opened_at (stage.Serving serving) = serving.opened
opened_at _ = 0

abbrev pub opened_in : {S : Type 0} → NodeState S → ℕ
opened_in n = opened_at n.stage
