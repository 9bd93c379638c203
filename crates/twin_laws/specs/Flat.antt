-- A trace with two loggers as one with a single log. What is sent between the loggers is left out, and the packets are renumbered.
use Rattle.std.specs.Prelude.{ℕ, ◌+◌, ◌-◌, ◌==◌, ◌&&◌, not, Option, Some, None, option_map, List, [], ◌∷◌, ◌++◌, length, drop, slice_get, if◌then◌else◌}
use Rattle.std.specs.Option.{option_map_or, option_to_list}
use Rattle.seq_arith.specs.Message.{Message, is_answer}
use Rattle.ft_model.specs.Log.{log_after, answer_to}
use Rattle.ft_model.specs.Network.{Packet}
use Rattle.ft_model.specs.Network.Packet.{To_logger, From_logger}
use Rattle.ft_model.specs.World.{World, Moment}
use Rattle.ft_model.specs.declared.event.Event.{Event}
use Rattle.ft_model.specs.declared.event.Event.TheVariants.{Deliver, Flip}
use Rattle.twin_laws.specs.declared.part.Part.{Part}
use Rattle.twin_laws.specs.declared.part.Part.TheVariants as parts
use Rattle.twin_laws.specs.Twin.{Request, has_room}
use Rattle.twin_laws.specs.Twin.Between.{Forward, Got}
use Rattle.twin_laws.specs.TwinWorld.{Parcel, TwinWorld, TwinEvent, TwinMoment, seen, parcel_at, twin_after}
use Rattle.twin_laws.specs.TwinWorld.Parcel.{Outside, Inside}
use Rattle.twin_laws.specs.TwinWorld.TwinEvent.{Usual, Stop}

pub record Flat : Type 0 where
  pub trace : List Moment  -- newest first
  pub packets : List Packet  -- all that were sent in it, in order
  pub numbers : List ℕ  -- the new number of each parcel of the trace with two loggers; 0 if it is left out
  pub origins : List ℕ  -- the new numbers of the packets whose delivery made the head take its requests, in order

abbrev pub flat_start : Flat
flat_start = record { trace = []; packets = []; numbers = []; origins = [] }

abbrev pub outside : List Parcel → List Packet
outside [] = []
outside (Outside packet ∷ sent) = packet ∷ outside sent
outside (Inside between ∷ sent) = outside sent

-- parcels renumbered, after `n` packets
abbrev pub numbers_of : ℕ → List Parcel → List ℕ
numbers_of n [] = []
numbers_of n (Outside packet ∷ sent) = (n + 1) ∷ numbers_of (n + 1) sent
numbers_of n (Inside between ∷ sent) = 0 ∷ numbers_of n sent

-- the number at a place of a list; 0 if there is none
abbrev pub number_at : List ℕ → ℕ → ℕ
number_at numbers place = option_map_or (λ n. n) (slice_get numbers place) 0

abbrev pub new_number : Flat → ℕ → ℕ
new_number f n = number_at f.numbers (n - 1)

-- a turn stays in the flat trace, as this event
abbrev pub kept_as : Event → TwinMoment → Flat → Flat
kept_as event moment f = record f {
  trace = record { event = event; sent = outside moment.sent; world = seen moment.world (f.packets ++ outside moment.sent) } ∷ f.trace;
  packets = f.packets ++ outside moment.sent;
  numbers = f.numbers ++ numbers_of (length f.packets) moment.sent;
}

-- a turn is left out
abbrev pub left_out : TwinMoment → Flat → Flat
left_out moment f = record f { numbers = f.numbers ++ numbers_of (length f.packets) moment.sent }

-- these packets, with what they ask for, are delivered to the log in order
abbrev pub delivered_to_log : World → List (ℕ × Request) → Flat → Flat
delivered_to_log w [] f = f
delivered_to_log w ((number, request) ∷ more) f =
    let answer = option_to_list (option_map From_logger (answer_to w.log request.message)) in
    let after = record w { log = log_after w.log request.message; packets = w.packets ++ answer } in
    delivered_to_log after more
    (record f { trace = record { event = Deliver number; sent = answer; world = after } ∷ f.trace; packets = f.packets ++ answer })

abbrev pub both : {A B : Type 0} → List A → List B → List (A × B)
both [] bs = []
both (a ∷ as_) [] = []
both (a ∷ as_) (b ∷ bs) = (a, b) ∷ both as_ bs

-- a turn of a logger that serves alone stays. That of a paired logger becomes `paired`
abbrev pub kept_alone : TwinWorld → Event → TwinMoment → Flat → Flat → Flat
kept_alone w event moment paired f =
    if w.pair.head_stopped then kept_as event moment f else (if w.pair.tail_stopped then kept_as event moment f else paired)

-- a request arrives at a logger. One to a paired head is left out, and the head may take it
abbrev pub asked_flat : TwinWorld → ℕ → Message → TwinMoment → Flat → Flat
asked_flat w n message moment f =
    kept_alone w (Deliver (new_number f n)) moment
    (let g = left_out moment f in if not (is_answer message.body) && has_room w.pair.head then record g { origins = f.origins ++ new_number f n ∷ [] } else g) f

-- the turn in which the tail applies a request becomes the delivery of that request's packet
abbrev pub forwarded_flat : TwinWorld → ℕ → TwinMoment → Flat → Flat
forwarded_flat w number moment f =
    if w.pair.head_stopped then left_out moment f
    else (if w.pair.tail_stopped then left_out moment f
    else (if number == w.pair.tail.applied + 1 then kept_as (Deliver (number_at f.origins w.pair.tail.applied)) moment f else left_out moment f))

abbrev pub delivered_flat : TwinWorld → ℕ → Option Parcel → TwinMoment → Flat → Flat
delivered_flat w n None moment f = f
delivered_flat w n (Some (Outside (To_logger message))) moment f = asked_flat w n message moment f
delivered_flat w n (Some (Outside packet)) moment f = kept_as (Deliver (new_number f n)) moment f
delivered_flat w n (Some (Inside (Forward number request))) moment f = forwarded_flat w number moment f
delivered_flat w n (Some (Inside (Got number))) moment f = left_out moment f

-- a flip of a packet stays, unless the packet is for a paired logger. A flip of a datagram between the loggers is left out
abbrev pub flipped_flat : TwinWorld → ℕ → ℕ → Option Parcel → TwinMoment → Flat → Flat
flipped_flat w n bit None moment f = f
flipped_flat w n bit (Some (Outside (To_logger message))) moment f = kept_alone w (Flip (new_number f n) bit) moment (left_out moment f) f
flipped_flat w n bit (Some (Outside packet)) moment f = kept_as (Flip (new_number f n) bit) moment f
flipped_flat w n bit (Some (Inside between)) moment f = left_out moment f

-- the stop of the head is left out. The stop of the tail becomes the deliveries of the requests that it hadn't applied; their answers are never delivered
abbrev pub stopped_flat : TwinWorld → Part → TwinMoment → Flat → Flat
stopped_flat w parts.Head moment f = left_out moment f
stopped_flat w parts.Tail moment f =
    delivered_to_log (seen w f.packets) (both (drop w.pair.tail.applied f.origins) (drop w.pair.tail.applied w.pair.head.taken)) f

abbrev pub flat_step : TwinWorld → TwinMoment → TwinEvent → Flat → Flat
flat_step w moment (Usual (Deliver n)) f = delivered_flat w n (parcel_at w.parcels n) moment f
flat_step w moment (Usual (Flip n bit)) f = flipped_flat w n bit (parcel_at w.parcels n) moment f
flat_step w moment (Usual event) f = kept_as event moment f
flat_step w moment (Stop part) f = stopped_flat w part moment f

-- the complete trace, made flat
abbrev pub flat : TwinWorld → List TwinMoment → Flat
flat start [] = flat_start
flat start (moment ∷ earlier) = flat_step (twin_after start earlier) moment moment.event (flat start earlier)
