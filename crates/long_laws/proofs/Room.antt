-- A log that always has room never says Full, so no false reset is sent.
use Rattle.std.proofs.Common.{◌≡◌, ℕ, ◌<◌, false, refl, sym, subst, ⊎_elim, Option, Some, None, option_to_list, List, [], ◌∷◌, length, arith}
use Rattle.std.specs.List.{AllByRecursion, list_any}
use Rattle.std.proofs.lemmas.Bool.{or_from}
use Rattle.seq_arith.specs.Message.{Body}
use Rattle.seq_arith.specs.Message.Body.{FullMsg}
use Rattle.server_trait.specs.Service.{Machine}
use Rattle.ft_model.specs.Log.{Log, log_after}
use Rattle.ft_model.specs.Network.{Packet, packet_at}
use Rattle.ft_model.specs.Network.Packet.{To_server, To_client, To_logger, From_logger}
use Rattle.ft_model.specs.Node.Input.{Packet_comes}
use Rattle.ft_model.specs.Resets.{ResetsNoLogged}
use Rattle.ft_model.specs.World.{World}
use Rattle.ft_model.specs.declared.event.Event.{Event}
use Rattle.ft_model.specs.declared.event.Event.TheVariants.{Boot, Crash, Tick, Deliver, Flip, Begin, Send, Fin, Ack, Reset, Stop}
use Rattle.ft_model.proofs.Fenced.{IsOurs, turn_ours}
use Rattle.ft_model.proofs.Happened.{Happened, happened, all_sent, answers}
use Rattle.ft_model.proofs.Happened.Happened.{log_received, client_received, client_moved, server_turned, server_booted, server_down}
use Rattle.ft_model.proofs.Lists.{all_weaker, all_append}
use Rattle.ft_model.proofs.Refused.{Says, answers_say}
use Rattle.ft_model.proofs.Resumed.{length_map}
use Rattle.ft_model.proofs.Running.{HasSmallOutputs}
use Rattle.ft_model.proofs.StageTurns.{stage_went}
use Rattle.long_laws.specs.LongTrace.{LongWorld, LongStep, LongMoment, LongJoint, MayPass, long_after, concerns, keep_alive, last_rst}
use Rattle.long_laws.specs.LongTrace.LongStep.{Joint_event, Recycles, Forgets, Arrives, Lets_go, Keeps_alive}
use Rattle.long_laws.specs.LongResets.{says_full, is_full, brings_full, receives_full, HasRoom}
use Rattle.long_laws.proofs.Others.{all_others}
use Rattle.long_laws.proofs.Spared.{moment_spares}

abbrev IsNotFull : Packet → Type 0
IsNotFull p = is_full p ≡ false

abbrev NoneFull : World → Type 0
NoneFull w = AllByRecursion IsNotFull w.packets

-- Full is said of a log that is full
room_says : (log : Log) (body : Body) → length log.entries < 64 → Says log (From_logger (record { boot = 0; body = body })) → says_full body ≡ false
room_says log (FullMsg key) few s = let size = length_map (λ e. e.key) log.entries in absurd (omega (arith, few, size, s.1))
room_says log _ few s = refl

room_packet : (log : Log) → length log.entries < 64 → (p : Packet) → Says log p → IsNotFull p
room_packet log few (From_logger message) s = room_says log message.body few s
room_packet log few (To_server segment) s = refl
room_packet log few (To_client segment) s = refl
room_packet log few (To_logger message) s = refl

ours_not_full : (boot : ℕ) (p : Packet) → IsOurs boot p → IsNotFull p
ours_not_full boot (To_client segment) o = refl
ours_not_full boot (To_logger message) o = refl
ours_not_full boot (To_server segment) o = refl
ours_not_full boot (From_logger message) o = absurd o

event_room : {State : Type 0} (service : Machine State) (before : World) (sent : List Packet) (after : World) → NoneFull before → Happened service before sent after
    → length after.log.entries < 64 → NoneFull after
event_room service before sent after k (log_received message under s e) few =
    let log : Log = log_after before.log message in
    let room : length log.entries < 64 = subst (λ w. length w.log.entries < 64) e few in
    subst NoneFull (sym e)
    (all_append IsNotFull before.packets sent k
    (subst (AllByRecursion IsNotFull) (sym s) (all_weaker (Says log) IsNotFull (answers before.log message) (room_packet log room) (answers_say before.log message))))
event_room service before sent after k (client_received segment under s e) few =
    subst NoneFull (sym e) (all_append IsNotFull before.packets sent k (subst (AllByRecursion IsNotFull) (sym s) tt))
event_room service before sent after k (client_moved number m) few =
    subst NoneFull (sym m.after_is) (all_append IsNotFull before.packets sent k (subst (AllByRecursion IsNotFull) (sym m.sent_is) (refl, tt)))
event_room service before sent after k (server_turned input node later brought is turn e) few =
    subst NoneFull (sym e)
    (all_append IsNotFull before.packets sent k
    (all_weaker (IsOurs node.boot) IsNotFull sent (ours_not_full node.boot) (turn_ours service node input sent later.stage (stage_went service node later input sent turn))))
event_room service before sent after k (server_booted boot isn down larger s e) few =
    subst NoneFull (sym e) (all_append IsNotFull before.packets sent k (subst (AllByRecursion IsNotFull) (sym s) (refl, tt)))
event_room service before sent after k (server_down s e) few =
    subst NoneFull (sym e) (all_append IsNotFull before.packets sent k (subst (AllByRecursion IsNotFull) (sym s) tt))

step_room : {State : Type 0} (service : Machine State) (before after : LongWorld) (sent : List Packet) (step : LongStep) → NoneFull before.now → MayPass service before step sent after
    → length after.now.log.entries < 64 → NoneFull after.now
step_room service before after sent (Joint_event event) k h few =
    ⊎_elim (λ x. event_room service before.now sent after.now k x few) (λ q. subst NoneFull (sym q.1) k) (happened service before.now event sent after.now h.0)
step_room service before after sent (Recycles key) k h few = subst NoneFull (sym h.2) (all_others IsNotFull IsNotFull (concerns key) before.now.packets (λ p a x. x) k)
step_room service before after sent (Forgets key) k h few = subst NoneFull (sym h.2) k
step_room service before after sent (Arrives c) k h few = subst NoneFull (sym h.2) k
step_room service before after sent (Lets_go key) k h few =
    let l = h.0 in
    subst NoneFull (sym l.after_is)
    (all_append IsNotFull before.now.packets sent k
    (all_weaker (IsOurs l.node.boot) IsNotFull sent (ours_not_full l.node.boot)
    (turn_ours service l.node (Packet_comes (last_rst l.node.server l.point)) sent l.later.stage (stage_went service l.node l.later (Packet_comes (last_rst l.node.server l.point)) sent l.turn))))
step_room service before after sent (Keeps_alive key) k h few =
    let l = h.0 in subst NoneFull (sym l.after_is) (all_append IsNotFull before.now.packets (To_client (keep_alive l.node.server l.point) ∷ []) k (refl, tt))

all_room : {State : Type 0} (service : Machine State) (start : World) (trace : List LongMoment) → LongJoint service start trace → HasRoom trace → NoneFull (long_after start trace).now
all_room service start [] j r = subst (AllByRecursion IsNotFull) (sym j.packets) tt
all_room service start (moment ∷ earlier) j r =
    step_room service (long_after start earlier) moment.world moment.sent moment.step (all_room service start earlier j.0 r.0) j.1 r.1

-- so none is heard
found_not_full : (w : World) (number : ℕ) (o : Option Packet) → NoneFull w → packet_at w.packets number ≡ o → list_any is_full (option_to_list o) ≡ false
found_not_full w number None k e = refl
found_not_full w number (Some p) k e = or_from (is_full p) false (all_sent IsNotFull w p k (number, e)) refl

event_receives : (w : World) (event : Event) → NoneFull w → brings_full w event ≡ false
event_receives w (Deliver number) k = found_not_full w number (packet_at w.packets number) k refl
event_receives w (Boot boot isn) k = refl
event_receives w Crash k = refl
event_receives w Tick k = refl
event_receives w (Flip number bit) k = refl
event_receives w (Begin client window) k = refl
event_receives w (Send client from len) k = refl
event_receives w (Fin client) k = refl
event_receives w (Ack client window) k = refl
event_receives w (Reset client) k = refl
event_receives w (Stop part) k = refl

step_receives : (w : World) (step : LongStep) → NoneFull w → receives_full w step ≡ false
step_receives w (Joint_event event) k = event_receives w event k
step_receives w (Recycles key) k = refl
step_receives w (Forgets key) k = refl
step_receives w (Arrives c) k = refl
step_receives w (Lets_go key) k = refl
step_receives w (Keeps_alive key) k = refl

pub room_spares : {State : Type 0} (service : Machine State) → HasSmallOutputs service → (start : World) (moment : LongMoment) (earlier : List LongMoment) → LongJoint service start (moment ∷ earlier)
    → HasRoom earlier → AllByRecursion (ResetsNoLogged moment.world.now.log) moment.sent
room_spares service small start moment earlier j r =
    moment_spares service small start moment earlier j (step_receives (long_after start earlier).now moment.step (all_room service start earlier j.0 r))
