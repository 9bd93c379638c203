-- A legal trace of a schedule whose server lasts: it starts with the schedule's clients and an empty log, its events are the schedule's, in order, and each is
-- allowed.
use Rattle.std.specs.Prelude.{◌≡◌, ℕ, zero, suc, ◌*◌, ◌<◌, ◌≤◌, ◌&&◌, ◌||◌, not, length, map, take, nat_le, Bool, Option, Some, None, is_some}
use Rattle.std.specs.Prelude.{is_none, List, [], ◌∷◌, ◌++◌, if◌then◌else◌}
use Rattle.std.specs.List.{list_any}
use Rattle.ft_io.specs.Key.{key_eq}
use Rattle.seq_arith.specs.declared.kinds.Grammar.{Grammar}
use Rattle.tcp_rules.specs.Profiles.{profile_of}
use Rattle.server_trait.specs.Service.{Machine}
use Rattle.ft_model.specs.Client.{Move, move_asked, refusal_of_move}
use Rattle.ft_model.specs.Log.{empty_log}
use Rattle.ft_model.specs.Schedule.{kind_of, clients_of}
use Rattle.ft_model.specs.declared.event.Event.{Event}
use Rattle.ft_model.specs.declared.event.Event.TheVariants.{Boot, Crash, Tick, Deliver, Flip, Begin, Send, Fin, Ack, Reset, Stop}
use Rattle.ft_model.specs.declared.event.EventWhy.{EventWhy}
use Rattle.ft_model.specs.declared.event.EventWhy.TheVariants as why
use Rattle.ft_model.specs.declared.schedule.Lasting.{Lasting}
use Rattle.ft_model.specs.declared.schedule.Schedule.{Schedule}
use Rattle.lasting_laws.specs.LastingTurn.{Patience}
use Rattle.lasting_laws.specs.LastingWorld.{Guest, Sent, LastingWorld, LastingMoment, LastingHappens, grammar_in, bytes_of, sent_at, guest_at, lasting_after}

abbrev pub patience_of : Lasting → Patience
patience_of waits = record { wait = waits.wait; silence = waits.silence }

-- before the first event: nobody is gone, nothing was sent, nothing is logged, and the server is down
abbrev pub lasting_start : Lasting → Schedule → LastingWorld
lasting_start waits schedule = record {
  server = schedule.server;
  profile = profile_of schedule.profile;
  patience = patience_of waits;
  guests = map (λ client. record { client = client; gone = None }) (clients_of schedule.server schedule.clients);
  log = empty_log;
  recycled = [];
  sent = [];
  boot = 0;
  node = None;
}

-- a client's turn has come once all those before it at its address are gone
abbrev pub is_awaited : List Guest → Guest → Bool
is_awaited earlier g = list_any (λ x. key_eq x.client.key g.client.key && is_none x.gone) earlier

abbrev pub earlier_than : ℕ → List Guest → List Guest
earlier_than zero guests = []
earlier_than (suc n) guests = take n guests

-- Why a client doesn't make a move. The schedule may have no such client; one that is gone, or whose turn hasn't come, makes none; then as without forgetting
abbrev pub refusal_of_guest : List Guest → Option Guest → Move → Option EventWhy
refusal_of_guest earlier None move = Some why.Client
refusal_of_guest earlier (Some g) move =
    if is_some g.gone || is_awaited earlier g then Some why.State else refusal_of_move g.client move

abbrev pub refusal_of_asked : List Guest → Option (ℕ × Move) → Option EventWhy
refusal_of_asked guests None = None
refusal_of_asked guests (Some asks) = refusal_of_guest (earlier_than asks.0 guests) (guest_at guests asks.0) asks.1

abbrev pub refusal_of_flip : Grammar → Option Sent → ℕ → Option EventWhy
refusal_of_flip grammar None bit = Some why.Packet
refusal_of_flip grammar (Some s) bit = if nat_le (8 * length (bytes_of grammar s.parcel)) bit then Some why.Bit else None

-- Why an event may not happen: the first test that holds. A parcel that is lost has its number still
abbrev pub lasting_refusal : LastingWorld → Event → Option EventWhy
lasting_refusal w (Boot boot isn) = if is_some w.node then Some why.Up else (if nat_le boot w.boot then Some why.Boot else None)
lasting_refusal w Crash = if is_some w.node then None else Some why.Down
lasting_refusal w Tick = if is_some w.node then None else Some why.Down
lasting_refusal w (Deliver number) = if is_some (sent_at w.sent number) then None else Some why.Packet
lasting_refusal w (Flip number bit) = refusal_of_flip (grammar_in w) (sent_at w.sent number) bit
lasting_refusal w (Begin client window) = refusal_of_asked w.guests (move_asked (Begin client window))
lasting_refusal w (Send client from len) = refusal_of_asked w.guests (move_asked (Send client from len))
lasting_refusal w (Fin client) = refusal_of_asked w.guests (move_asked (Fin client))
lasting_refusal w (Ack client window) = refusal_of_asked w.guests (move_asked (Ack client window))
lasting_refusal w (Reset client) = refusal_of_asked w.guests (move_asked (Reset client))
lasting_refusal w (Stop part) = Some why.Stop

-- a trace, newest moment first: each event is allowed in the world after the earlier ones, and happens there
abbrev pub LastingJoint : {State : Type 0} → Machine State → LastingWorld → List LastingMoment → Type 0
LastingJoint service start [] = Unit {0}
LastingJoint service start (moment ∷ earlier) =
    LastingJoint service start earlier × (lasting_refusal (lasting_after start earlier) moment.event ≡ None)
    × LastingHappens service (lasting_after start earlier) moment.event moment.parcels moment.world

-- the events of a trace, oldest first
abbrev pub lasting_events_of : List LastingMoment → List Event
lasting_events_of [] = []
lasting_events_of (moment ∷ earlier) = lasting_events_of earlier ++ moment.event ∷ []

-- a legal trace of these events, from the start of the schedule, by the service of the kind that the schedule names
pub record IsLastingLegalFor {State : Type 0} (service : ℕ → Machine State) (waits : Lasting) (schedule : Schedule) (events : List Event)
    (trace : List LastingMoment) : Type 0 where
  pub joint : LastingJoint (service (kind_of schedule.service)) (lasting_start waits schedule) trace
  pub events_are : lasting_events_of trace ≡ events

-- .. from its first event to its last
abbrev pub LastingLegal : {State : Type 0} → (ℕ → Machine State) → Lasting → Schedule → List LastingMoment → Type 0
LastingLegal service waits schedule trace = IsLastingLegalFor service waits schedule schedule.events trace

-- how many parcels were sent up to the end of a trace, those that are lost too
abbrev pub lasting_packets_sent : Lasting → Schedule → List LastingMoment → ℕ
lasting_packets_sent waits schedule trace = length (lasting_after (lasting_start waits schedule) trace).sent

-- What becomes of a schedule when its events are played in order: all are done, one is refused, or the packets exceed their limit
pub record IsLastingWhole {State : Type 0} (service : ℕ → Machine State) (waits : Lasting) (schedule : Schedule) : Type 0 where
  pub trace : List LastingMoment
  pub legal : LastingLegal service waits schedule trace
  pub within : lasting_packets_sent waits schedule trace ≤ 200000

pub record IsLastingRefused {State : Type 0} (service : ℕ → Machine State) (waits : Lasting) (schedule : Schedule) : Type 0 where
  pub played : List Event
  pub event : Event
  pub others : List Event
  pub why : EventWhy
  pub trace : List LastingMoment
  pub events : schedule.events ≡ played ++ event ∷ others
  pub legal : IsLastingLegalFor service waits schedule played trace
  pub within : lasting_packets_sent waits schedule trace ≤ 200000
  pub refused : lasting_refusal (lasting_after (lasting_start waits schedule) trace) event ≡ Some why

pub record IsLastingPastPackets {State : Type 0} (service : ℕ → Machine State) (waits : Lasting) (schedule : Schedule) : Type 0 where
  pub played : List Event
  pub event : Event
  pub others : List Event
  pub moment : LastingMoment
  pub earlier : List LastingMoment
  pub events : schedule.events ≡ played ++ event ∷ others
  pub legal : IsLastingLegalFor service waits schedule (played ++ event ∷ []) (moment ∷ earlier)
  pub within : lasting_packets_sent waits schedule earlier ≤ 200000
  pub over : 200000 < lasting_packets_sent waits schedule (moment ∷ earlier)
