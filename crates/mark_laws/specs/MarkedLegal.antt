-- A legal trace of a schedule with marks. It is like one without, except that the messages about marks count among the packets.
use Rattle.std.specs.Prelude.{◌≡◌, ℕ, ◌*◌, length, nat_le, Option, Some, None, is_some, List, [], ◌∷◌, ◌++◌, if◌then◌else◌}
use Rattle.tcp_rules.specs.Profiles.{profile_of}
use Rattle.server_trait.specs.Service.{Machine}
use Rattle.server_trait.specs.Saved.{writing}
use Rattle.seq_arith.specs.declared.kinds.Grammar.{Grammar}
use Rattle.tcp_rules.specs.Profile.{grammar_of}
use Rattle.ft_model.specs.Legal.{refusal, IsScripted}
use Rattle.ft_model.specs.Schedule.{kind_of, clients_of}
use Rattle.ft_model.specs.declared.event.Event.{Event}
use Rattle.ft_model.specs.declared.event.Event.TheVariants.{Deliver, Flip}
use Rattle.ft_model.specs.declared.event.EventWhy.{EventWhy}
use Rattle.ft_model.specs.declared.event.EventWhy.TheVariants as why
use Rattle.ft_model.specs.declared.schedule.Schedule.{Schedule}
use Rattle.mark_laws.specs.MarkedLog.{nothing_logged}
use Rattle.mark_laws.specs.MarkedNode.{Marker}
use Rattle.mark_laws.specs.MarkedWorld.{Parcel, MarkedWorld, MarkedMoment, MarkedJoint, seen, usual, parcel_at, bytes_of, marked_after}

-- before the first event: nothing was sent, nothing is logged, and the server is down. Its profile is the schedule's
abbrev pub marked_start : Schedule → MarkedWorld
marked_start schedule =
    record {
      server = schedule.server;
      profile = profile_of schedule.profile;
      clients = clients_of schedule.server schedule.clients;
      log = nothing_logged;
      parcels = [];
      boot = 0;
      node = None;
    }

-- the events of a trace, oldest first
abbrev pub marked_events_of : List MarkedMoment → List Event
marked_events_of [] = []
marked_events_of (moment ∷ earlier) = marked_events_of earlier ++ moment.event ∷ []

-- why a bit of a parcel can't be changed: the parcel doesn't exist, or has no such bit
abbrev pub refusal_of_marked_flip : Grammar → Option Parcel → ℕ → Option EventWhy
refusal_of_marked_flip grammar None bit = Some why.Packet
refusal_of_marked_flip grammar (Some parcel) bit = if nat_le (8 * length (bytes_of grammar parcel)) bit then Some why.Bit else None

-- Why an event may not happen: the first test that holds. An event that names no packet is tested as without marks
abbrev pub marked_refusal : MarkedWorld → Event → Option EventWhy
marked_refusal w (Deliver number) = if is_some (parcel_at w.parcels number) then None else Some why.Packet
marked_refusal w (Flip number bit) = refusal_of_marked_flip (grammar_of w.profile) (parcel_at w.parcels number) bit
marked_refusal w event = refusal (seen w) event

-- an allowed event, played by scripted clients
pub record IsMarkedAllowed (before : MarkedWorld) (moment : MarkedMoment) : Type 0 where
  pub allowed : marked_refusal before moment.event ≡ None
  pub scripted : IsScripted (seen before) moment.event (usual moment.sent) (seen moment.world)

abbrev pub AllMarkedAllowed : MarkedWorld → List MarkedMoment → Type 0
AllMarkedAllowed start [] = Unit {0}
AllMarkedAllowed start (moment ∷ earlier) = AllMarkedAllowed start earlier × IsMarkedAllowed (marked_after start earlier) moment

-- how a server with one of these services marks, for each kind
abbrev pub markers : {State : Type 0} → (ℕ → Machine State) → (State → List ℕ) → (ℕ → List ℕ → Option State) → (every : ℕ) → ℕ → Marker State
markers service form state_of every kind = record { service = service kind; writing = writing form (state_of kind); every = every }

-- a legal trace of these events, from the start of the schedule, by the service of the kind that the schedule names
pub record IsMarkedLegalFor {State : Type 0} (by : ℕ → Marker State) (schedule : Schedule) (events : List Event) (trace : List MarkedMoment) : Type 0 where
  pub joint : MarkedJoint (by (kind_of schedule.service)) (marked_start schedule) trace
  pub events_are : marked_events_of trace ≡ events
  pub allowed : AllMarkedAllowed (marked_start schedule) trace

-- a legal trace of a schedule, from its first event to its last
abbrev pub MarkedLegal : {State : Type 0} → (ℕ → Marker State) → Schedule → List MarkedMoment → Type 0
MarkedLegal by schedule trace = IsMarkedLegalFor by schedule schedule.events trace

-- how many packets were sent up to the end of a trace, including those about marks
abbrev pub marked_packets_sent : Schedule → List MarkedMoment → ℕ
marked_packets_sent schedule trace = length (marked_after (marked_start schedule) trace).parcels
