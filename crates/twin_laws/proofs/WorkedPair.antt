-- The worked run is joint, and flat it is the boot and the delivery of its Hello.
use Rattle.std.proofs.Common.{◌≡◌, refl, arith, [], ◌∷◌}
use Rattle.server_trait.specs.Service.{Machine}
use Rattle.seq_arith.specs.declared.kinds.Grammar.TheVariants as grammars
use Rattle.seq_arith.specs.MessageGrammar as messages
use Rattle.ft_model.specs.Log.{log_after, answer_to}
use Rattle.ft_model.specs.Network.Packet.{To_logger}
use Rattle.ft_model.specs.declared.event.Event.TheVariants.{Boot, Deliver}
use Rattle.twin_laws.specs.Twin.Between.{Forward}
use Rattle.twin_laws.specs.TwinWorld.{TwinJoint, TwinHappens, IsTwinStart, request_of}
use Rattle.twin_laws.specs.TwinWorld.Parcel.{Outside, Inside}
use Rattle.twin_laws.specs.TwinWorld.TwinEvent.{Usual}
use Rattle.twin_laws.specs.Flat.{flat}
use Rattle.twin_laws.specs.WorkedPair.{hello, at_first, booted_world, taken_world, applied_world, first_sent, second_sent, third_sent, worked, events_in, flat_events}

starts : IsTwinStart at_first
starts = record {
  start = record { ip = omega arith; port = omega arith; apart = refl; clients = tt; log = refl; packets = refl; boot = refl; node = refl };
  pair = refl;
  parcels = refl;
}

boots : {State : Type 0} (service : Machine State) → TwinHappens service at_first (Usual (Boot 1 5000)) first_sent booted_world
boots service = (To_logger hello ∷ [], refl, (refl, (omega arith, omega arith), refl, refl), refl, refl)

takes : {State : Type 0} (service : Machine State) → TwinHappens service booted_world (Usual (Deliver 1)) second_sent taken_world
unfolding messages.spelling_by messages.spelled messages.header
takes service = (Outside (To_logger hello), refl, (refl, refl))

applies : {State : Type 0} (service : Machine State) → TwinHappens service taken_world (Usual (Deliver 2)) third_sent applied_world
unfolding answer_to log_after
applies service = (Inside (Forward 1 (request_of grammars.Plain hello)), refl, (refl, refl))

pub joint : {State : Type 0} (service : Machine State) → TwinJoint service at_first worked
joint service = (((starts, boots service), takes service), applies service)

pub flat_is : events_in (flat at_first worked).trace ≡ flat_events
flat_is = refl
