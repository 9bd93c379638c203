-- A legal trace of a schedule with two loggers. It is like one with a single log, except that one of the two may stop, once, and that the datagrams between
-- them count among the packets.
use Rattle.std.specs.Prelude.{◌≡◌, ℕ, ◌*◌, ◌==◌, ◌&&◌, ◌||◌, not, Bool, length, nat_le, Option, Some, None, is_some, List, [], ◌∷◌, ◌++◌, if◌then◌else◌}
use Rattle.seq_arith.specs.declared.kinds.Grammar.{Grammar}
use Rattle.tcp_rules.specs.Profile.{grammar_of}
use Rattle.tcp_rules.specs.Profiles.{profile_of}
use Rattle.server_trait.specs.Service.{Machine}
use Rattle.ft_model.specs.Legal.{refusal, IsScripted}
use Rattle.ft_model.specs.Schedule.{kind_of, clients_of}
use Rattle.ft_model.specs.Wire.{wire_by}
use Rattle.ft_model.specs.declared.event.Event.{Event}
use Rattle.ft_model.specs.declared.event.Event.TheVariants as events
use Rattle.ft_model.specs.declared.event.EventWhy.{EventWhy}
use Rattle.ft_model.specs.declared.event.EventWhy.TheVariants as why
use Rattle.ft_model.specs.declared.schedule.Schedule.{Schedule}
use Rattle.twin_laws.specs.declared.part.Part.{Part}
use Rattle.twin_laws.specs.declared.part.Part.TheVariants as parts
use Rattle.twin_laws.specs.Twin.{bytes_of}
use Rattle.twin_laws.specs.Pair.{Pair, new_pair}
use Rattle.twin_laws.specs.TwinWorld.{Parcel, TwinWorld, TwinEvent, TwinMoment, TwinJoint, seen, parcel_at, twin_after}
use Rattle.twin_laws.specs.TwinWorld.Parcel.{Outside, Inside}
use Rattle.twin_laws.specs.TwinWorld.TwinEvent.{Usual, Stop}
use Rattle.twin_laws.specs.Flat.{outside}

-- before the first event: nothing was sent, both logs are empty, and the server is down. Its profile is the schedule's
abbrev pub twin_start : Schedule → TwinWorld
twin_start schedule =
    record {
      server = schedule.server;
      profile = profile_of schedule.profile;
      clients = clients_of schedule.server schedule.clients;
      pair = new_pair;
      parcels = [];
      boot = 0;
      node = None;
    }

-- how a schedule numbers the two loggers
abbrev pub part_number : Part → ℕ
part_number parts.Head = 1
part_number parts.Tail = 2

-- an event of a trace, as a schedule names it
abbrev pub event_of : TwinEvent → Event
event_of (Usual event) = event
event_of (Stop part) = events.Stop (part_number part)

-- the events of a trace, oldest first
abbrev pub twin_events_of : List TwinMoment → List Event
twin_events_of [] = []
twin_events_of (moment ∷ earlier) = twin_events_of earlier ++ event_of moment.event ∷ []

abbrev pub bytes_of_parcel : Grammar → Parcel → List ℕ
bytes_of_parcel grammar (Outside packet) = (wire_by grammar packet).bytes
bytes_of_parcel grammar (Inside between) = bytes_of between

-- why a bit of a packet can't be changed: the packet doesn't exist, or has no such bit
abbrev pub refusal_of_twin_flip : Grammar → Option Parcel → ℕ → Option EventWhy
refusal_of_twin_flip grammar None bit = Some why.Packet
refusal_of_twin_flip grammar (Some parcel) bit = if nat_le (8 * length (bytes_of_parcel grammar parcel)) bit then Some why.Bit else None

-- there is a logger with this number, and both still run
abbrev pub may_stop : Pair → ℕ → Bool
may_stop pair part = (part == 1 || part == 2) && not (pair.head_stopped || pair.tail_stopped)

-- Why an event may not happen: the first test that holds. An event that names no packet and stops no logger is tested as with a single log
abbrev pub twin_refusal : TwinWorld → Event → Option EventWhy
twin_refusal w (events.Deliver number) = if is_some (parcel_at w.parcels number) then None else Some why.Packet
twin_refusal w (events.Flip number bit) = refusal_of_twin_flip (grammar_of w.profile) (parcel_at w.parcels number) bit
twin_refusal w (events.Stop part) = if may_stop w.pair part then None else Some why.Stop
twin_refusal w (events.Boot boot isn) = refusal (seen w []) (events.Boot boot isn)
twin_refusal w events.Crash = refusal (seen w []) events.Crash
twin_refusal w events.Tick = refusal (seen w []) events.Tick
twin_refusal w (events.Begin client window) = refusal (seen w []) (events.Begin client window)
twin_refusal w (events.Send client from len) = refusal (seen w []) (events.Send client from len)
twin_refusal w (events.Fin client) = refusal (seen w []) (events.Fin client)
twin_refusal w (events.Ack client window) = refusal (seen w []) (events.Ack client window)
twin_refusal w (events.Reset client) = refusal (seen w []) (events.Reset client)

-- an allowed event, played by scripted clients
pub record IsTwinAllowed (before : TwinWorld) (moment : TwinMoment) : Type 0 where
  pub allowed : twin_refusal before (event_of moment.event) ≡ None
  pub scripted : IsScripted (seen before []) (event_of moment.event) (outside moment.sent) (seen moment.world [])

abbrev pub AllTwinAllowed : TwinWorld → List TwinMoment → Type 0
AllTwinAllowed start [] = Unit {0}
AllTwinAllowed start (moment ∷ earlier) = AllTwinAllowed start earlier × IsTwinAllowed (twin_after start earlier) moment

-- a legal trace of these events, from the start of the schedule, by the machine of the kind that the schedule names
pub record IsTwinLegalFor {State : Type 0} (service : ℕ → Machine State) (schedule : Schedule) (events : List Event) (trace : List TwinMoment) : Type 0 where
  pub joint : TwinJoint (service (kind_of schedule.service)) (twin_start schedule) trace
  pub events_are : twin_events_of trace ≡ events
  pub allowed : AllTwinAllowed (twin_start schedule) trace

-- a legal trace of a schedule, from its first event to its last
abbrev pub TwinLegal : {State : Type 0} → (ℕ → Machine State) → Schedule → List TwinMoment → Type 0
TwinLegal service schedule trace = IsTwinLegalFor service schedule schedule.events trace

-- how many packets were sent up to the end of a trace, including those between the loggers
abbrev pub twin_packets_sent : Schedule → List TwinMoment → ℕ
twin_packets_sent schedule trace = length (twin_after (twin_start schedule) trace).parcels
