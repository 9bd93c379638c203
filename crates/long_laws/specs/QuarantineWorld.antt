-- The world in which a server has entries recycled by messages: the steps of a long trace, but for those that messages bring about, and the deliveries of these
-- messages. Like packets they may be lost, come again, and overtake one another.
use Rattle.std.specs.Prelude.{◌≡◌, ◌⊎◌, ℕ, zero, suc, ◌==◌, ◌&&◌, Bool, true, false, filter, if◌then◌else◌, Option, Some, None, List, [], ◌∷◌, ◌++◌, slice_get}
use Rattle.std.specs.Bool.{MatchBool}
use Rattle.std.specs.List.{AllByRecursion, list_any}
use Rattle.ft_io.specs.declared.Key.{Key}
use Rattle.ft_io.specs.Key.{key_eq}
use Rattle.seq_arith.specs.Message.{Numbers}
use Rattle.seq_arith.specs.Packet.{has_rst}
use Rattle.seq_arith.specs.PacketGrammar as segments
use Rattle.seq_arith.specs.MessageGrammar as messages
use Rattle.seq_arith.specs.Damage.{flipped}
use Rattle.server_trait.specs.Service.{Machine}
use Rattle.ft_model.specs.Growth.{logged_lengths}
use Rattle.ft_model.specs.Log.{Log, entry_of}
use Rattle.ft_model.specs.Network.{Packet, packet_at}
use Rattle.ft_model.specs.Network.Packet.{To_server, To_client, To_logger, From_logger}
use Rattle.ft_model.specs.Node.{Node, Place, Stage, Input}
use Rattle.ft_model.specs.Node.Input.{Packet_comes, Message_comes, Tick_comes}
use Rattle.ft_model.specs.Node.Place.{Opens, Lives, Ended}
use Rattle.ft_model.specs.Node.Stage.{Serving}
use Rattle.ft_model.specs.ServingTurn.{newcomers}
use Rattle.seq_arith.specs.declared.kinds.Grammar.{Grammar}
use Rattle.tcp_rules.specs.Profile.{grammar_of}
use Rattle.ft_model.specs.Wire.{wire_by}
use Rattle.ft_model.specs.World.{World, IsStart, segment_or_noise, message_or_noise}
use Rattle.ft_model.specs.declared.event.Event.{Event}
use Rattle.ft_model.specs.declared.event.Event.TheVariants.{Tick, Deliver, Flip}
use Rattle.long_laws.specs.Forgetting.{Named, ForgetBody, ForgetMessage, is_recycled, ForgetAnswer, after_forget, answer_to_forget, named_of, forget}
use Rattle.long_laws.specs.Forgetting.ForgetBody.{ForgetMsg, ForgottenMsg}
use Rattle.long_laws.specs.Forgetting.ForgetAnswer.{About_forgetting, Of_log}
use Rattle.long_laws.specs.LongResets.{says_full}
use Rattle.long_laws.specs.LongTrace.{others, places_at, without_entry, recycled, MayRecycle, forgotten, Gone, gone_with, LongWorld, LongStep}
use Rattle.long_laws.specs.LongTrace.{MayPass, IsMaskedMoment}
use Rattle.long_laws.specs.LongTrace.LongStep.{Joint_event, Recycles, Forgets}
use Rattle.long_laws.specs.Quarantine.{Quarantined, quarantined_at, quarantine_after, forgets, ended_early, is_dropped, taken_away}

pub record QuarantineWorld : Type 0 where
  pub now : World
  pub past : List Gone
  pub notes : List ForgetMessage  -- the messages about forgetting that may still come
  pub quarantine : List Quarantined  -- what the server that is up has in quarantine

abbrev pub seen : QuarantineWorld → LongWorld
seen w = record { now = w.now; past = w.past }

-- What comes to the server by an event
abbrev pub arriving : Option Packet → Option Input
arriving (Some (To_server segment)) = Some (Packet_comes segment)
arriving (Some (From_logger message)) = Some (Message_comes message)
arriving _ = None

abbrev pub arriving_as : Grammar → Option Packet → (bit : ℕ) → Option Input
arriving_as grammar (Some (To_server segment)) bit = Some (segment_or_noise (segments.reading (flipped bit (wire_by grammar (To_server segment)).bytes)))
arriving_as grammar (Some (From_logger message)) bit =
    Some (message_or_noise (messages.reading_by grammar (flipped bit (wire_by grammar (From_logger message)).bytes)))
arriving_as grammar _ bit = None

abbrev pub event_input : World → Event → Option Input
event_input w Tick = Some Tick_comes
event_input w (Deliver number) = arriving (packet_at w.packets number)
event_input w (Flip number bit) = arriving_as (grammar_of w.profile) (packet_at w.packets number) bit
event_input w _ = None

abbrev pub step_input : World → LongStep → Option Input
step_input w (Joint_event event) = event_input w event
step_input w _ = None

-- The quarantine of the server that is up. It dies with the server
abbrev pub quarantine_then : Option Node → Option Input → Option Node → List Quarantined → List Quarantined
quarantine_then (Some node) (Some input) (Some later) qs = quarantine_after node input later.stage qs
quarantine_then (Some node) None (Some later) qs = qs
quarantine_then _ _ _ qs = []

abbrev pub forgets_then : (wait : ℕ) → Option Node → Option Input → List Quarantined → List ForgetMessage
forgets_then wait (Some node) (Some input) qs = forgets wait node.boot input qs
forgets_then wait _ _ qs = []

abbrev pub drops : (wait : ℕ) → Option Node → Option Input → List Quarantined → Bool
drops wait (Some node) (Some input) qs = is_dropped wait node.server input qs
drops wait _ _ qs = false

-- Full comes to the server
abbrev pub is_full_input : Option Input → Bool
is_full_input (Some (Message_comes message)) = says_full message.body
is_full_input _ = false

-- these two are brought about by messages alone
abbrev pub is_by_message : LongStep → Bool
is_by_message (Recycles key) = true
is_by_message (Forgets key) = true
is_by_message _ = false

-- Premise: an opening takes numbers that no message about forgetting of the server's own boot under way names. So such a message does nothing to a later
-- connection of its key; one of an older boot does nothing anyway. The server's own numbers come again after 65,536 openings
abbrev pub has_numbers : Named → Numbers → Bool
has_numbers n numbers = key_eq numbers.key n.key && (numbers.cisn == n.cisn && numbers.sisn == n.sisn)

abbrev pub NotOpening : Named → Place → Type 0
NotOpening n (Opens numbers timestamping) = has_numbers n numbers ≡ false
NotOpening n (Lives p) = Unit {0}
NotOpening n (Ended key) = Unit {0}

abbrev pub new_places : Node → Input → Stage → List Place
new_places node input (Serving opened places) = newcomers node input opened places
new_places node input _ = []

abbrev pub IsFresh : (boot : ℕ) → List Place → ForgetMessage → Type 0
IsFresh boot places message = message.boot ≡ boot → AllByRecursion (NotOpening (named_of message.body)) places

abbrev pub AllAreFresh : Option Node → Option Input → List ForgetMessage → Type 0
AllAreFresh (Some node) (Some input) notes = AllByRecursion (IsFresh node.boot (new_places node input node.stage)) notes
AllAreFresh _ _ notes = Unit {0}

-- a step that a server without quarantine may take too
pub record Usually {State : Type 0} (service : Machine State) (wait : ℕ) (before : QuarantineWorld) (step : LongStep) (sent : List Packet)
    (after : QuarantineWorld) : Type 0 where
  pub passes : MayPass service (seen before) step sent (seen after)
  pub quarantine : after.quarantine ≡ quarantine_then before.now.node (step_input before.now step) after.now.node before.quarantine
  pub notes : after.notes ≡ before.notes ++ forgets_then wait before.now.node (step_input before.now step) after.quarantine
  pub fresh : AllAreFresh before.now.node (step_input before.now step) before.notes

-- Full drops the opening that it names, and no RST goes out: the log will have room again, and the client repeats its SYN
pub record DropsSilently {State : Type 0} (service : Machine State) (before : QuarantineWorld) (step : LongStep) (sent : List Packet)
    (after : QuarantineWorld) : Type 0 where
  pub all : List Packet  -- what a server without quarantine would send
  pub there : World  -- .. and the world after that
  pub passes : MayPass service (seen before) step all (record { now = there; past = after.past })
  pub quarantine : after.quarantine ≡ quarantine_then before.now.node (step_input before.now step) there.node before.quarantine
  pub notes : after.notes ≡ before.notes
  pub sent_is : sent ≡ []
  pub now_is : after.now ≡ record there { packets = before.now.packets }

-- A message about forgetting reaches the log. Where it has an entry recycled, the client is gone, and what is under way of the connection is lost
abbrev pub key_recycled : ForgetBody → Log → Option Key
key_recycled (ForgetMsg n) log = if list_any (is_recycled n) log.entries then Some n.key else None
key_recycled (ForgottenMsg n) log = None

abbrev pub recycled_by : ForgetMessage → Log → Option Key
recycled_by message log = if message.boot == log.boot then key_recycled message.body log else None

abbrev pub recycled_world : Option Key → QuarantineWorld → QuarantineWorld
recycled_world (Some key) w = record w {
  now = recycled key w.now;
  past = w.past ++ gone_with (logged_lengths key w.now.log) (filter (λ c. key_eq c.key key) w.now.clients);
}
recycled_world None w = w

abbrev pub with_answer : Option ForgetAnswer → QuarantineWorld → QuarantineWorld
with_answer (Some (About_forgetting answer)) w = record w { notes = w.notes ++ answer ∷ [] }
with_answer (Some (Of_log answer)) w = record w { now = record w.now { packets = w.now.packets ++ From_logger answer ∷ [] } }
with_answer None w = w

abbrev pub answer_sent : Option ForgetAnswer → List Packet
answer_sent (Some (Of_log answer)) = From_logger answer ∷ []
answer_sent _ = []

abbrev pub after_forget_came : ForgetMessage → QuarantineWorld → QuarantineWorld
after_forget_came message w = with_answer (answer_to_forget w.now.log message) (recycled_world (recycled_by message w.now.log) w)

-- One reaches the server
abbrev pub without_place : Option Key → QuarantineWorld → QuarantineWorld
without_place (Some key) w = record w {
  now = forgotten key w.now;
  quarantine = others (λ q. key_eq q.named.key key) w.quarantine;
}
without_place None w = w

abbrev pub after_forgotten_came : ForgetMessage → QuarantineWorld → QuarantineWorld
after_forgotten_came message w = without_place (taken_away w.now.node message w.quarantine) w

-- The server ends the quarantine of a key early: a Forget goes out at once
pub record EndsEarly (wait : ℕ) (key : Key) (before after : QuarantineWorld) : Type 0 where
  pub node : Node
  pub up : before.now.node ≡ Some node
  pub quarantined : Quarantined
  pub found : quarantined_at key before.quarantine ≡ Some quarantined
  pub after_is : after ≡ record before { notes = before.notes ++ forget node.boot quarantined.named ∷ []; quarantine = ended_early wait key before.quarantine }

-- a list without the item with this number
abbrev pub without_at : {A : Type 0} → ℕ → List A → List A
without_at number [] = []
without_at zero (x ∷ xs) = xs
without_at (suc number) (x ∷ xs) = x ∷ without_at number xs

pub data QuarantineStep : Type 0 where
  Usual : LongStep → QuarantineStep
  To_log : (number : ℕ) → QuarantineStep  -- the message about forgetting with this number, from 0, reaches the log
  To_node : (number : ℕ) → QuarantineStep  -- .. or the server
  Is_lost : (number : ℕ) → QuarantineStep  -- .. or is lost, and comes no more
  Ends_early : Key → QuarantineStep  -- the server ends a quarantine before its time

abbrev pub MayQuarantine : {State : Type 0} → Machine State → (wait : ℕ) → QuarantineWorld → QuarantineStep → List Packet → QuarantineWorld → Type 0
MayQuarantine service wait before (Usual step) sent after =
    (is_by_message step ≡ false)
    × MatchBool (drops wait before.now.node (step_input before.now step) before.quarantine) ((sent ≡ []) × (after ≡ before))
    (MatchBool (is_full_input (step_input before.now step)) (DropsSilently service before step sent after) (Usually service wait before step sent after))
MayQuarantine service wait before (To_log number) sent after =
    (message : ForgetMessage) × (slice_get before.notes number ≡ Some message) × (sent ≡ answer_sent (answer_to_forget before.now.log message))
    × (after ≡ after_forget_came message before)
MayQuarantine service wait before (To_node number) sent after =
    (message : ForgetMessage) × (slice_get before.notes number ≡ Some message) × (sent ≡ []) × (after ≡ after_forgotten_came message before)
MayQuarantine service wait before (Is_lost number) sent after = (sent ≡ []) × (after ≡ record before { notes = without_at number before.notes })
MayQuarantine service wait before (Ends_early key) sent after = (sent ≡ []) × EndsEarly wait key before after

pub record QuarantineMoment : Type 0 where
  pub step : QuarantineStep
  pub sent : List Packet
  pub world : QuarantineWorld

abbrev pub quarantine_start : World → QuarantineWorld
quarantine_start start = record { now = start; past = []; notes = []; quarantine = [] }

abbrev pub after_moments : World → List QuarantineMoment → QuarantineWorld
after_moments start [] = quarantine_start start
after_moments start (moment ∷ earlier) = moment.world

-- a trace of such worlds, newest moment first
abbrev pub QuarantineJoint : {State : Type 0} → Machine State → (wait : ℕ) → World → List QuarantineMoment → Type 0
QuarantineJoint service wait start [] = IsStart start
QuarantineJoint service wait start (moment ∷ earlier) =
    QuarantineJoint service wait start earlier × MayQuarantine service wait (after_moments start earlier) moment.step moment.sent moment.world

-- a RST to a client
abbrev pub IsRefusal : Packet → Type 0
IsRefusal (To_client segment) = has_rst segment ≡ true
IsRefusal (To_server segment) = ⊥
IsRefusal (To_logger message) = ⊥
IsRefusal (From_logger message) = ⊥

-- a step of a long trace that sends nothing but RSTs, which are lost
pub record LosesRefusals {State : Type 0} (service : Machine State) (before : LongWorld) (sent : List Packet) (after : LongWorld) : Type 0 where
  pub step : LongStep
  pub all : List Packet
  pub there : World
  pub passes : MayPass service before step all (record { now = there; past = after.past })
  pub refusals : AllByRecursion IsRefusal all
  pub packets : there.packets ≡ before.now.packets ++ all
  pub sent_is : sent ≡ []
  pub now_is : after.now ≡ record there { packets = before.now.packets }

-- nothing happens, or it is a step of a long trace, if need be without its RSTs
abbrev pub IsLongStep : {State : Type 0} → Machine State → LongWorld → List Packet → LongWorld → Type 0
IsLongStep service before sent after =
    ((sent ≡ []) × (after ≡ before)) ⊎ (((step : LongStep) × MayPass service before step sent after) ⊎ LosesRefusals service before sent after)

abbrev pub AreLongSteps : {State : Type 0} → Machine State → World → List QuarantineMoment → Type 0
AreLongSteps service start [] = Unit {0}
AreLongSteps service start (moment ∷ earlier) =
    AreLongSteps service start earlier × IsLongStep service (seen (after_moments start earlier)) moment.sent (seen moment.world)

-- the four facts of the headline hold after every moment, and those that are gone saw no failure
abbrev pub AreMaskedMoments : {State : Type 0} → Machine State → World → List QuarantineMoment → Type 0
AreMaskedMoments service start [] = Unit {0}
AreMaskedMoments service start (moment ∷ earlier) =
    AreMaskedMoments service start earlier × IsMaskedMoment service (after_moments start earlier).now moment.sent (seen moment.world)

-- if this message reaches the log, it changes nothing there, or it is the step Recycles, which may be taken
abbrev pub IsRecycling : World → ForgetMessage → Type 0
IsRecycling w message =
    (after_forget w.log message ≡ w.log) ⊎ ((key : Key) × MayRecycle key w × (after_forget w.log message ≡ without_entry key w.log))

-- a server that serves, and has nothing but one connection in quarantine
abbrev pub with_one : World → (isn opened age : ℕ) → Named → QuarantineWorld
with_one w isn opened age n = record {
  now = record w { node = Some (record { server = w.server; profile = w.profile; boot = w.log.boot; isn = isn; stage = Serving opened (Ended n.key ∷ []) }) };
  past = [];
  notes = [];
  quarantine = (record { named = n; age = age }) ∷ [];
}

-- it is forgotten in three steps: a tick, at which Forget goes out; Forget reaches the log; Forgotten reaches the server
pub record IsForgotten {State : Type 0} (service : Machine State) (wait : ℕ) (before : QuarantineWorld) (n : Named) : Type 0 where
  pub one : QuarantineWorld
  pub two : QuarantineWorld
  pub three : QuarantineWorld
  pub tick : MayQuarantine service wait before (Usual (Joint_event Tick)) [] one
  pub to_log : MayQuarantine service wait one (To_log 0) [] two
  pub to_node : MayQuarantine service wait two (To_node 1) [] three
  pub entry : entry_of n.key three.now.log ≡ None
  pub places : (node : Node) → three.now.node ≡ Some node → places_at node.stage ≡ []
  pub quarantine : three.quarantine ≡ []

-- what is done is in quarantine
abbrev pub IsHeld : List Quarantined → Place → Type 0
IsHeld qs (Ended key) = (q : Quarantined) × (quarantined_at key qs ≡ Some q)
IsHeld qs (Lives p) = Unit {0}
IsHeld qs (Opens numbers timestamping) = Unit {0}

abbrev pub AllAreHeld : QuarantineWorld → Type 0
AllAreHeld w = (node : Node) → w.now.node ≡ Some node → AllByRecursion (IsHeld w.quarantine) (places_at node.stage)
