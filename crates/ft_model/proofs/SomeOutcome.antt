-- Every schedule that can start has an outcome: where an event is allowed it happens, since a server of a joint trace always has a turn.
use Rattle.std.proofs.Common.{◌≡◌, ℕ, ◌*◌, ◌<◌, ◌≤◌, ◌^◌, Bool, true, false, ◌&&◌, nat_le, refl, sym, ap, ap₂, ◌∙◌, subst, inl, inr, Option, Some, None, is_some, option_map, option_to_list, Result, Ok, Err, List, [], ◌∷◌, ◌++◌, length, append-nil, append_assoc, arith, leb-true, if◌then◌else◌}
use Rattle.std.specs.List.{AllByRecursion}
use Rattle.std.proofs.lemmas.Bool.{leb-false, and_from, lt-ltb}
use Rattle.ft_io.specs.declared.Key.{Key}
use Rattle.seq_arith.specs.Packet.{Segment}
use Rattle.seq_arith.specs.Message.{Message}
use Rattle.seq_arith.specs.PacketGrammar as segments
use Rattle.seq_arith.specs.MessageGrammar as messages
use Rattle.seq_arith.specs.Damage.{flipped}
use Rattle.seq_arith.specs.declared.BadPacket.{BadPacket}
use Rattle.seq_arith.specs.declared.kinds.BadMsg.{BadMsg}
use Rattle.server_trait.specs.Service.{Machine, WritesBytes}
use Rattle.ft_model.specs.Client.{Client, Move, may_move, move_asked, move_of, window_of, refusal_of_move, segment_of, moved, may_advertise, suits_kind, suits_phase, suits_range, received}
use Rattle.ft_model.specs.Client.Move.{Syn, Text, Acknowledge, Rst}
use Rattle.ft_model.specs.Client.Move.{Fin as Fin_move}
use Rattle.ft_model.specs.Log.{log_after, answer_to}
use Rattle.ft_model.specs.Network.{Packet, packet_at, destination_of}
use Rattle.ft_model.specs.Network.Packet.{To_server, To_client, To_logger, From_logger}
use Rattle.seq_arith.specs.declared.kinds.Grammar.{Grammar}
use Rattle.tcp_rules.specs.Profile.{grammar_of}
use Rattle.ft_model.specs.Wire.{wire_by, HasWireBy}
use Rattle.ft_model.specs.Node.{Node, Input, booted}
use Rattle.ft_model.specs.Node.Input.{Packet_comes, Message_comes, Tick_comes}
use Rattle.ft_model.specs.Lawful.{hello}
use Rattle.ft_model.specs.Schedule.{kind_of}
use Rattle.ft_model.specs.World.{World, Moment, ServerTurn, ServerMoves, ClientReads, LogReads, segment_or_noise, message_or_noise, DeliveredAs, Delivered, Moves, Happens, Joint, IsStart, world_after, client_at, with_client}
use Rattle.ft_model.specs.Legal.{start_of, refusal, refusal_of_client, refusal_of_flip, IsScripted, IsLegalFor}
use Rattle.ft_model.specs.Outcome.{HasOutcome}
use Rattle.ft_model.specs.Readable.{FitsEvent}
use Rattle.ft_model.specs.declared.event.Event.{Event}
use Rattle.ft_model.specs.declared.event.Event.TheVariants.{Boot, Crash, Tick, Deliver, Flip, Begin, Send, Fin, Ack, Reset, Stop}
use Rattle.ft_model.specs.declared.event.EventWhy.{EventWhy}
use Rattle.ft_model.specs.declared.event.EventWhy.TheVariants as why
use Rattle.ft_model.specs.declared.schedule.Schedule.{Schedule}
use Rattle.ft_model.proofs.AskedMoves.{quiet_event}
use Rattle.ft_model.proofs.Lists.{none_is_some, some_is}
use Rattle.ft_model.proofs.Running.{HasSmallOutputs}
use Rattle.ft_model.proofs.Happened.{all_sent}
use Rattle.ft_model.proofs.ClientKinds.{suits_either}
use Rattle.ft_model.proofs.NeverStuck.{never_stuck}
use Rattle.ft_model.proofs.FormedWorld.{wires_here}

-- the event can happen, with scripted clients
abbrev CanHappen : {State : Type 0} → Machine State → World → Event → Type 0
CanHappen service w event = (sent : List Packet) × (after : World) × Happens service w event sent after × IsScripted w event sent after

pub is_none : {A : Type 0} (o : Option A) → is_some o ≡ false → o ≡ None
is_none (Some x) e = absurd (cc)
is_none None e = refl

-- a server has a turn for whatever comes, and one that is down lets it pass
abbrev CanMove : {State : Type 0} → Machine State → World → Input → Type 0
CanMove service w input = (sent : List Packet) × (after : World) × ServerMoves service input w sent after

by_node : {State : Type 0} (service : Machine State) → HasSmallOutputs service → (start : World) (trace : List Moment) (input : Input) → Joint service start trace → (node : Option Node)
    → (world_after start trace).node ≡ node → CanMove service (world_after start trace) input
by_node service small start trace input j None down =
    let w : World = world_after start trace in
    ([], record w { node = None; packets = w.packets ++ [] }, (subst (λ n. ServerTurn service input n [] None) (sym down) (refl, refl), refl))
by_node service small start trace input j (Some node) up =
    let w : World = world_after start trace in
    let t = never_stuck service small start trace node input j up in
    (t.1, record w { node = Some t.0; packets = w.packets ++ t.1 }, (subst (λ n. ServerTurn service input n t.1 (Some t.0)) (sym up) (t.0, refl, t.2), refl))

server_can : {State : Type 0} (service : Machine State) → HasSmallOutputs service → (start : World) (trace : List Moment) (input : Input) → Joint service start trace
    → CanMove service (world_after start trace) input
server_can service small start trace input j = by_node service small start trace input j (world_after start trace).node refl

client_can : (key : Key) (r : Result Segment BadPacket) (w : World) → (after : World) × ClientReads key r w [] after
client_can key (Ok segment) w = (record w { clients = with_client key (λ c. received c segment) w.clients; packets = w.packets ++ [] }, (refl, refl))
client_can key (Err why) w = (record w { packets = w.packets ++ [] }, (refl, refl))

log_can : (r : Result Message BadMsg) (w : World) → (sent : List Packet) × (after : World) × LogReads r w sent after
log_can (Ok message) w =
    let sent : List Packet = option_to_list (option_map From_logger (answer_to w.log message)) in
    (sent, record w { log = log_after w.log message; packets = w.packets ++ sent }, (refl, refl))
log_can (Err why) w = ([], record w { packets = w.packets ++ [] }, (refl, refl))

delivery_can : {State : Type 0} (service : Machine State) → HasSmallOutputs service → (start : World) (trace : List Moment) → Joint service start trace → (packet : Packet)
    → (sent : List Packet) × (after : World) × Delivered service (world_after start trace) packet sent after
delivery_can service small start trace j (To_server segment) = server_can service small start trace (Packet_comes segment) j
delivery_can service small start trace j (To_client segment) =
    let w : World = world_after start trace in
    ([], record w { clients = with_client (destination_of segment) (λ c. received c segment) w.clients; packets = w.packets ++ [] }, (refl, refl))
delivery_can service small start trace j (To_logger message) = log_can (Ok message) (world_after start trace)
delivery_can service small start trace j (From_logger message) = server_can service small start trace (Message_comes message) j

changed_can : {State : Type 0} (service : Machine State) → HasSmallOutputs service → (start : World) (trace : List Moment) → Joint service start trace → (packet : Packet) (bytes : List ℕ)
    → (sent : List Packet) × (after : World) × DeliveredAs service (world_after start trace) packet bytes sent after
changed_can service small start trace j (To_server segment) bytes = server_can service small start trace (segment_or_noise (segments.reading bytes)) j
changed_can service small start trace j (To_client segment) bytes =
    let c = client_can (destination_of segment) (segments.reading bytes) (world_after start trace) in ([], c.0, c.1)
changed_can service small start trace j (To_logger message) bytes = log_can (messages.reading_by (grammar_of (world_after start trace).profile) bytes) (world_after start trace)
changed_can service small start trace j (From_logger message) bytes = server_can service small start trace (message_or_noise (messages.reading_by (grammar_of (world_after start trace).profile) bytes)) j

-- what the tests of an event leave
not_refused : (b : Bool) (why : EventWhy) → (if b then Some why else None) ≡ None → b ≡ false
not_refused true why e = none_is_some why (sym e)
not_refused false why e = refl

pub is_up : (b : Bool) → (if b then None else Some why.Down) ≡ None → b ≡ true
is_up true e = refl
is_up false e = none_is_some why.Down (sym e)

first_free : (a b : Bool) → (if a then Some why.Up else (if b then Some why.Boot else None)) ≡ None → (if a then Some why.Up else None) ≡ None
first_free true b e = e
first_free false b e = refl

second_free : (a b : Bool) → (if a then Some why.Up else (if b then Some why.Boot else None)) ≡ None → (if b then Some why.Boot else None) ≡ None
second_free true b e = none_is_some why.Up (sym e)
second_free false b e = e

-- a packet that an event names was sent
pub named : (o : Option Packet) (why : EventWhy) → (if is_some o then None else Some why) ≡ None → (packet : Packet) × (o ≡ Some packet)
named (Some packet) why e = (packet, refl)
named None why e = none_is_some why (sym e)

pub named_with_bit : (grammar : Grammar) (o : Option Packet) (bit : ℕ) → refusal_of_flip grammar o bit ≡ None
    → (packet : Packet) × (o ≡ Some packet) × (bit < 8 * length (wire_by grammar packet).bytes)
named_with_bit grammar (Some packet) bit e = (packet, refl, leb-false _ _ (not_refused (nat_le (8 * length (wire_by grammar packet).bytes) bit) why.Bit e))
named_with_bit grammar None bit e = none_is_some why.Packet (sym e)

-- a scripted client makes a move that its state allows
pub move_may : (client : Client) (event : Event) (move : Move) → move_of event ≡ Some move → refusal_of_move client move ≡ None → may_move client move ≡ true
move_may client event move asked free =
    let parts = allowed (suits_phase client move) (suits_range client move) free in
    and_from (suits_kind client.kind move && suits_phase client move) (suits_range client move)
    (and_from (suits_kind client.kind move) (suits_phase client move) (suits_either client.kind event move asked) parts.0) parts.1
  where
    allowed : (p r : Bool) → (if p then (if r then None else Some why.Range) else Some why.State) ≡ None → (p ≡ true) × (r ≡ true)
    allowed true true e = (refl, refl)
    allowed true false e = none_is_some why.Range (sym e)
    allowed false r e = none_is_some why.State (sym e)

-- and advertises a window that a head can hold
pub window_fits : (client : Client) (event : Event) (move : Move) → FitsEvent event → move_of event ≡ Some move → may_advertise move (window_of client event) ≡ true
window_fits client (Begin n window) move h e = subst (λ m. may_advertise m window ≡ true) (some_is (Syn None) move e) (lt-ltb window (2 ^ 16) h.1)
window_fits client (Ack n window) move h e = subst (λ m. may_advertise m window ≡ true) (some_is Acknowledge move e) (lt-ltb window (2 ^ 16) h.1)
window_fits client (Send n from len) move h e =
    subst (λ m. may_advertise m (window_of client (Send n from len)) ≡ true) (some_is (Text from len) move e) (lt-ltb _ _ (omega arith))
window_fits client (Fin n) move h e = subst (λ m. may_advertise m (window_of client (Fin n)) ≡ true) (some_is Fin_move move e) (lt-ltb _ _ (omega arith))
window_fits client (Reset n) move h e = subst (λ m. may_advertise m 0 ≡ true) (some_is Rst move e) refl
window_fits client (Boot boot isn) move h e = none_is_some move e
window_fits client Crash move h e = none_is_some move e
window_fits client Tick move h e = none_is_some move e
window_fits client (Deliver n) move h e = none_is_some move e
window_fits client (Flip n bit) move h e = none_is_some move e
window_fits client (Stop part) move h e = none_is_some move e

pub asks : (o : Option (ℕ × Move)) (number : ℕ) → option_map (λ a. a.0) o ≡ Some number → (move : Move) × (o ≡ Some (number, move))
asks (Some a) number e = (a.1, (ap (λ n. Some (n, a.1)) (some_is a.0 number e)))
asks None number e = none_is_some number e

pub asks_for : (event : Event) (number : ℕ) (move : Move) → move_asked event ≡ Some (number, move) → move_of event ≡ Some move
asks_for event number move e = subst (λ o. option_map (λ a. a.1) o ≡ Some move) (sym e) refl

-- the client of a move
pub mover_there : (o : Option Client) (move : Move) → refusal_of_client o move ≡ None → (client : Client) × (o ≡ Some client) × (refusal_of_move client move ≡ None)
mover_there (Some client) move free = (client, refl, free)
mover_there None move free = none_is_some why.Client (sym free)

abbrev CanBeMoved : World → Event → ℕ → Type 0
CanBeMoved w event number = (sent : List Packet) × (after : World) × Moves w number sent after × IsScripted w event sent after

move_can : (w : World) (event : Event) (number : ℕ) (move : Move) → FitsEvent event → move_asked event ≡ Some (number, move) → refusal_of_client (client_at w.clients number) move ≡ None
    → CanBeMoved w event number
move_can w event number move h asks free =
    let c = mover_there (client_at w.clients number) move free in
    let alone : move_of event ≡ Some move = asks_for event number move asks in
    let client : Client = c.0 in
    let window : ℕ = window_of client event in
    let sent : List Packet = To_server (segment_of client move window) ∷ [] in
    let after : World = record w { clients = with_client client.key (λ _. moved client move window) w.clients; packets = w.packets ++ sent } in (
      sent,
      after,
      record {
        client = client;
        segment = segment_of client move window;
        later = moved client move window;
        is_there = c.1;
        move = record { move = move; window = window; may = move_may client event move alone c.2; fits = window_fits client event move h alone; timestamps = None; carries = refl; segment_is = refl; after_is = refl };
        sent_is = refl;
        after_is = refl;
      },
      λ n step other is at.
          let asked_alike : (number, move) ≡ (n, step) = some_is (number, move) (n, step) (sym asks ∙ is) in
          let same : client ≡ other = some_is client other (sym c.1 ∙ (ap (λ a. client_at w.clients a.0) asked_alike ∙ at)) in
          let alike : move ≡ step = ap (λ a. a.1) asked_alike in (
            ap₂ (λ x m. To_server (segment_of x m (window_of x event)) ∷ []) same alike,
            ap₂ (λ x m. with_client x.key (λ _. moved x m (window_of x event)) w.clients) same alike,
          ),
    )

-- an allowed event can happen
event_can : {State : Type 0} (service : Machine State) → HasSmallOutputs service → WritesBytes service → (start : World) (trace : List Moment) → Joint service start trace
    → (event : Event) → FitsEvent event → refusal (world_after start trace) event ≡ None → CanHappen service (world_after start trace) event
event_can service small writes start trace j (Boot boot isn) h e =
    let w : World = world_after start trace in
    let up = not_refused (is_some w.node) why.Up (first_free (is_some w.node) (nat_le boot w.boot) e) in
    let low = not_refused (nat_le boot w.boot) why.Boot (second_free (is_some w.node) (nat_le boot w.boot) e) in
    let sent : List Packet = hello (booted w.server w.profile boot isn) in
    let after : World = record w { boot = boot; node = Some (booted w.server w.profile boot isn); packets = w.packets ++ sent } in
    (sent, after, (is_none w.node up, (leb-false boot w.boot low, h.0), refl, refl), quiet_event w (Boot boot isn) sent after refl)
event_can service small writes start trace j Crash h e =
    let w : World = world_after start trace in
    let after : World = record w { node = None; packets = w.packets ++ [] } in
    ([], after, (is_up (is_some w.node) e, refl, refl), quiet_event w Crash [] after refl)
event_can service small writes start trace j Tick h e =
    let w : World = world_after start trace in
    let s = server_can service small start trace Tick_comes j in
    (s.0, s.1, (is_up (is_some w.node) e, s.2), quiet_event w Tick s.0 s.1 refl)
event_can service small writes start trace j (Deliver number) h e =
    let w : World = world_after start trace in
    let p = named (packet_at w.packets number) why.Packet e in
    let d = delivery_can service small start trace j p.0 in
    (d.0, d.1, (p.0, p.1, d.2), quiet_event w (Deliver number) d.0 d.1 refl)
event_can service small writes start trace j (Flip number bit) h e =
    let w : World = world_after start trace in
    let p = named_with_bit (grammar_of w.profile) (packet_at w.packets number) bit e in
    let d = changed_can service small start trace j p.0 (flipped bit (wire_by (grammar_of w.profile) p.0).bytes) in (
      d.0,
      d.1,
      (p.0, p.1, record { wire = all_sent (HasWireBy (grammar_of w.profile)) w p.0 (wires_here service small writes start trace j) (number, p.1); within = p.2; comes = d.2 }),
      quiet_event w (Flip number bit) d.0 d.1 refl,
    )
event_can service small writes start trace j (Begin client window) h e = move_can (world_after start trace) (Begin client window) client (Syn None) h refl e
event_can service small writes start trace j (Send client from len) h e = move_can (world_after start trace) (Send client from len) client (Text from len) h refl e
event_can service small writes start trace j (Fin client) h e = move_can (world_after start trace) (Fin client) client Fin_move h refl e
event_can service small writes start trace j (Ack client window) h e = move_can (world_after start trace) (Ack client window) client Acknowledge h refl e
event_can service small writes start trace j (Reset client) h e = move_can (world_after start trace) (Reset client) client Rst h refl e
event_can service small writes start trace j (Stop part) h e = none_is_some why.Stop (sym e)

-- the events that are left, from where some are played
module _ {State : Type 0} (service : ℕ → Machine State) (small : (kind : ℕ) → HasSmallOutputs (service kind)) (writes : (kind : ℕ) → WritesBytes (service kind)) where
  more : (schedule : Schedule) (played : List Event) (event : Event) (trace : List Moment) (sent : List Packet) (after : World) → IsLegalFor service schedule played trace
      → Happens (service (kind_of schedule.service)) (world_after (start_of schedule) trace) event sent after → refusal (world_after (start_of schedule) trace) event ≡ None
      → IsScripted (world_after (start_of schedule) trace) event sent after
      → IsLegalFor service schedule (played ++ event ∷ []) (record { event = event; sent = sent; world = after } ∷ trace)
  more schedule played event trace sent after l h free scripted = record {
    joint = (l.joint, h);
    events_are = ap (λ es. es ++ event ∷ []) l.events_are;
    allowed = (l.allowed, record { allowed = free; scripted = scripted });
  }

  -- where an event happens, either the packets pass the limit with it, or the others go on
  by_count : (schedule : Schedule) (played : List Event) (event : Event) (others : List Event) (trace : List Moment) (sent : List Packet) (after : World)
      → schedule.events ≡ played ++ event ∷ others → length (world_after (start_of schedule) trace).packets ≤ 200000
      → IsLegalFor service schedule (played ++ event ∷ []) (record { event = event; sent = sent; world = after } ∷ trace)
      → (length after.packets ≤ 200000 → HasOutcome service schedule) → (b : Bool) → nat_le (length after.packets) 200000 ≡ b → HasOutcome service schedule
  by_count schedule played event others trace sent after is low l next true few = next (leb-true _ _ few)
  by_count schedule played event others trace sent after is low l next false few =
      inr (inr (record {
        played = played;
        event = event;
        others = others;
        moment = record { event = event; sent = sent; world = after };
        earlier = trace;
        events = is;
        legal = l;
        within = low;
        over = leb-false _ _ few;
      }))

  -- an event is refused, or it happens
  by_refusal : (schedule : Schedule) (played : List Event) (event : Event) (others : List Event) (trace : List Moment)
      → schedule.events ≡ played ++ event ∷ others → length (world_after (start_of schedule) trace).packets ≤ 200000 → IsLegalFor service schedule played trace → FitsEvent event
      → ((sent : List Packet) (after : World) → IsLegalFor service schedule (played ++ event ∷ []) (record { event = event; sent = sent; world = after } ∷ trace)
      → length after.packets ≤ 200000 → HasOutcome service schedule)
      → (o : Option EventWhy) → refusal (world_after (start_of schedule) trace) event ≡ o → HasOutcome service schedule
  by_refusal schedule played event others trace is low l fits next (Some cause) e =
      inr (inl (record { played = played; event = event; others = others; why = cause; trace = trace; events = is; legal = l; within = low; refused = e }))
  by_refusal schedule played event others trace is low l fits next None e =
      let kind : ℕ = kind_of schedule.service in
      let c = event_can (service kind) (small kind) (writes kind) (start_of schedule) trace l.joint event fits e in
      let legal = more schedule played event trace c.0 c.1 l c.2 e c.3 in
      by_count schedule played event others trace c.0 c.1 is low legal (next c.0 c.1 legal) (nat_le (length c.1.packets) 200000) refl

  proceeds_from : (schedule : Schedule) (events played : List Event) (trace : List Moment) → AllByRecursion FitsEvent events → schedule.events ≡ played ++ events
      → IsLegalFor service schedule played trace → length (world_after (start_of schedule) trace).packets ≤ 200000 → HasOutcome service schedule
  proceeds_from schedule [] played trace h is l low =
      inl (record { trace = trace; legal = subst (λ es. IsLegalFor service schedule es trace) (sym (is ∙ append-nil played)) l; within = low })
  proceeds_from schedule (event ∷ others) played trace h is l low =
      by_refusal schedule played event others trace is low l h.0
      (λ sent after legal few.
      proceeds_from schedule others (played ++ event ∷ []) (record { event = event; sent = sent; world = after } ∷ trace) h.1
      (is ∙ sym (append_assoc played (event ∷ []) others)) legal few)
      (refusal (world_after (start_of schedule) trace) event) refl

  pub has_outcome : (schedule : Schedule) → IsStart (start_of schedule) → AllByRecursion FitsEvent schedule.events → HasOutcome service schedule
  has_outcome schedule s h = proceeds_from schedule schedule.events [] [] h refl (record { joint = s; events_are = refl; allowed = tt }) (omega arith)
