-- Near, by the moves that are made: of every move but a refusal, and so of all that is sent in a legal trace.
use Rattle.std.proofs.Common.{◌≡◌, ℕ, ◌&&◌, Bool, true, false, refl, sym, ap, subst, Result, Ok, Err, Option, Some, None, List, [], ◌∷◌, ◌++◌, if◌then◌else◌}
use Rattle.std.specs.List.{AllByRecursion}
use Rattle.ft_io.specs.declared.Key.{Key}
use Rattle.seq_arith.specs.Packet.{Segment}
use Rattle.seq_arith.specs.declared.BadPacket.{BadPacket}
use Rattle.server_trait.specs.Service.{Machine}
use Rattle.ft_model.specs.Schedule.{kind_of}
use Rattle.ft_model.specs.Client.{Client, Move, move_of, window_of, suits_phase, suits_range, segment_of, may_move}
use Rattle.ft_model.specs.Client.Move.{Syn, Text, Fin, Acknowledge, Rst}
use Rattle.ft_model.specs.Network.{Packet, destination_of}
use Rattle.ft_model.specs.Network.Packet.{To_server, To_client, To_logger, From_logger}
use Rattle.ft_model.specs.Node.{Node, Input}
use Rattle.ft_model.specs.Node.Input.{Packet_comes, Message_comes, Noise_comes, Tick_comes}
use Rattle.ft_model.specs.Lawful.{AreNear, IsNearInput}
use Rattle.ft_model.specs.Legal.{Legal, IsScripted, AllAllowed, start_of, refusal, refusal_of_client}
use Rattle.ft_model.specs.World.{World, Moment, MayCome, Joint, Moves, Happens, Delivered, Flipped, ClientReads, ServerTurn, client_at, world_after}
use Rattle.ft_model.specs.declared.event.Event.{Event}
use Rattle.ft_model.specs.declared.event.Event.TheVariants as events
use Rattle.ft_model.specs.declared.event.EventWhy.TheVariants as why
use Rattle.ft_model.specs.declared.schedule.Schedule.{Schedule}
use Rattle.ft_model.proofs.Lists.{all_weaker, all_append, none_is_some}
use Rattle.ft_model.proofs.LogAnswers.{all_answers}
use Rattle.ft_model.proofs.LogOver.{log_over}
use Rattle.ft_model.proofs.OneTrace.{proceeds}
use Rattle.ft_model.proofs.Happened.{all_sent, flip_is_quiet}
use Rattle.ft_model.proofs.StageTurns.{stage_went}
use Rattle.ft_model.proofs.Fenced.{IsOurs, turn_ours}
use Rattle.ft_model.proofs.Running.{HasSmallOutputs}
use Rattle.ft_model.proofs.ClientKinds.{suits_either}
use Rattle.ft_model.proofs.Seen.{IsSeen}
use Rattle.ft_model.proofs.FaithfulKept.{ClientFits}
use Rattle.ft_model.proofs.FaithfulOver.{script_of, isn_of, client_there}
use Rattle.trace_laws.specs.Premises.{is_refusal}
use Rattle.trace_laws.proofs.Near.{SentWithin, FirstNear, PacketNear, KeptNear, near_after, near_later, stage_near, all_near, begins_near, move_near}

earlier_joint : {State : Type 0} (service : Machine State) (start : World) (later earlier : List Moment) → Joint service start (later ++ earlier) → Joint service start earlier
earlier_joint service start [] earlier j = j
earlier_joint service start (moment ∷ later) earlier j = earlier_joint service start later earlier j.0

-- every move but a refusal
pub moves_near : {State : Type 0} (service : Machine State) → HasSmallOutputs service → (number : ℕ) (start : World) (later earlier : List Moment) (moment : Moment) (node : Node)
    → Joint service start (later ++ moment ∷ earlier) → (m : Moves (world_after start earlier) number moment.sent moment.world) → is_refusal m.move.move ≡ false
    → (world_after start (later ++ moment ∷ earlier)).node ≡ Some node → AreNear node.server m.segment node.stage
moves_near service small number start later earlier moment node j m plain up =
    let isn : Key → ℕ = isn_of start in
    let script : Key → List ℕ = script_of start in
    let then_ : World = world_after start earlier in
    let now : World = world_after start (later ++ moment ∷ earlier) in
    let joint : Joint service start (moment ∷ earlier) = earlier_joint service start later (moment ∷ earlier) j in
    let was : KeptNear service start then_ = near_after service small start earlier joint.0 in
    let is : KeptNear service start now = near_after service small start (later ++ moment ∷ earlier) j in
    let c : Client = m.client in
    let within : SentWithin c = client_there SentWithin then_.clients number c was.1.clients m.is_there in
    let fits : ClientFits script isn c = client_there (ClientFits script isn) then_.clients number c was.0.faithful.clients m.is_there in
    let seen : IsSeen service script then_.log c = client_there (IsSeen service script then_.log) then_.clients number c was.0.sees m.is_there in
    let first : FirstNear isn m.segment = subst (FirstNear isn) (sym m.move.segment_is) (begins_near script isn c m.move.move m.move.window fits within m.move.may plain) in
    let near : PacketNear isn then_.log (To_server m.segment) =
    subst (λ x. PacketNear isn then_.log (To_server x)) (sym m.move.segment_is) (move_near service script isn then_ c m.move.move m.move.window was.0.author seen fits within m.move.may) in
    let same : moment.world.log ≡ then_.log = ap (λ w. w.log) m.after_is in
    let there : PacketNear isn now.log (To_server m.segment) =
    near_later isn moment.world.log now.log (log_over service start later (moment ∷ earlier) j) (To_server m.segment) (subst (λ l. PacketNear isn l (To_server m.segment)) (sym same) near) in
    stage_near node.server script isn now.log m.segment first there.1 node.stage (is.0.faithful.stage node up)

-- a legal trace: its moves are the schedule's, none a refusal

abbrev pub OwnNear : (Key → ℕ) → Packet → Type 0
OwnNear isn (To_server segment) = FirstNear isn segment
OwnNear isn _ = Unit {0}

pub ours_own : (isn : Key → ℕ) (own : ℕ) (packet : Packet) → IsOurs own packet → OwnNear isn packet
ours_own isn own (To_server segment) o = absurd o
ours_own isn own _ o = tt

server_own : {State : Type 0} (service : Machine State) (isn : Key → ℕ) (input : Input) (node : Option Node) (sent : List Packet) (after : Option Node) → ServerTurn service input node sent after
    → AllByRecursion (OwnNear isn) sent
server_own service isn input None sent after t = subst (AllByRecursion (OwnNear isn)) (sym t.0) tt
server_own service isn input (Some node) sent after t =
    all_weaker (IsOurs node.boot) (OwnNear isn) sent (ours_own isn node.boot) (turn_ours service node input sent t.0.stage (stage_went service node t.0 input sent t.2))

delivered_own : {State : Type 0} (service : Machine State) (isn : Key → ℕ) (before : World) (packet : Packet) (sent : List Packet) (after : World) → Delivered service before packet sent after
    → AllByRecursion (OwnNear isn) sent
delivered_own service isn before (To_server segment) sent after d = server_own service isn (Packet_comes segment) before.node sent after.node d.0
delivered_own service isn before (To_client segment) sent after d = subst (AllByRecursion (OwnNear isn)) (sym d.0) tt
delivered_own service isn before (To_logger message) sent after d = subst (AllByRecursion (OwnNear isn)) (sym d.0) (all_answers (OwnNear isn) before.log message (λ body a. tt))
delivered_own service isn before (From_logger message) sent after d = server_own service isn (Message_comes message) before.node sent after.node d.0

-- a client that reads a changed packet, or nothing, sends nothing
client_own : (isn : Key → ℕ) (key : Key) (r : Result Segment BadPacket) (before : World) (sent : List Packet) (after : World) → ClientReads key r before sent after
    → AllByRecursion (OwnNear isn) sent
client_own isn key (Ok segment) before sent after h = subst (AllByRecursion (OwnNear isn)) (sym h.0) tt
client_own isn key (Err why) before sent after h = subst (AllByRecursion (OwnNear isn)) (sym h.0) tt

flipped_own : {State : Type 0} (service : Machine State) (isn : Key → ℕ) (before : World) (packet : Packet) (bit : ℕ) (sent : List Packet) (after : World)
    → Flipped service before packet bit sent after → AllByRecursion (OwnNear isn) sent
flipped_own service isn before (To_server segment) bit sent after f = server_own service isn _ before.node sent after.node f.comes.0
flipped_own service isn before (To_client segment) bit sent after f =
    client_own isn (destination_of segment) _ before sent after f.comes
flipped_own service isn before (To_logger message) bit sent after f = subst (AllByRecursion (OwnNear isn)) (sym (flip_is_quiet service before message bit sent after f).0) tt
flipped_own service isn before (From_logger message) bit sent after f = server_own service isn _ before.node sent after.node f.comes.0

by_tests : (a b : Bool) → (if a then (if b then None else Some why.Range) else Some why.State) ≡ None → (a && b) ≡ true
by_tests true true e = refl
by_tests true false e = none_is_some why.Range (sym e)
by_tests false b e = none_is_some why.State (sym e)

-- an allowed move of a scripted client
scripted_own : {State : Type 0} (service : Machine State) (start before : World) (number : ℕ) (event : Event) (move : Move) (sent : List Packet) (after : World) → KeptNear service start before
    → Moves before number sent after → is_refusal move ≡ false → move_of event ≡ Some move → refusal_of_client (client_at before.clients number) move ≡ None
    → ((client : Client) → client_at before.clients number ≡ Some client → sent ≡ To_server (segment_of client move (window_of client event)) ∷ [])
    → AllByRecursion (OwnNear (isn_of start)) sent
scripted_own service start before number event move sent after k m plain asks allowed says =
    let isn : Key → ℕ = isn_of start in
    let c : Client = m.client in
    let within : SentWithin c = client_there SentWithin before.clients number c k.1.clients m.is_there in
    let fits : ClientFits (script_of start) isn c = client_there (ClientFits (script_of start) isn) before.clients number c k.0.faithful.clients m.is_there in
    let may : may_move c move ≡ true =
    subst (λ b. (b && suits_phase c move && suits_range c move) ≡ true) (sym (suits_either c.kind event move asks))
    (by_tests (suits_phase c move) (suits_range c move) (subst (λ o. refusal_of_client o move ≡ None) m.is_there allowed)) in
    subst (AllByRecursion (OwnNear isn)) (sym (says c m.is_there)) (begins_near (script_of start) isn c move (window_of c event) fits within may plain, tt)

moment_own : {State : Type 0} (service : Machine State) (start before : World) (event : Event) (sent : List Packet) (after : World) → KeptNear service start before
    → Happens service before event sent after → refusal before event ≡ None → IsScripted before event sent after → AllByRecursion (OwnNear (isn_of start)) sent
moment_own service start before (events.Boot boot isn) sent after k h a s = subst (AllByRecursion (OwnNear (isn_of start))) (sym h.2) (tt, tt)
moment_own service start before events.Crash sent after k h a s = subst (AllByRecursion (OwnNear (isn_of start))) (sym h.1) tt
moment_own service start before events.Tick sent after k h a s = server_own service (isn_of start) Tick_comes before.node sent after.node h.1.0
moment_own service start before (events.Deliver number) sent after k h a s = delivered_own service (isn_of start) before h.0 sent after h.2
moment_own service start before (events.Flip number bit) sent after k h a s = flipped_own service (isn_of start) before h.0 bit sent after h.2
moment_own service start before (events.Begin client window) sent after k h a s =
    scripted_own service start before client (events.Begin client window) (Syn None) sent after k h refl refl a (λ c e. (s client (Syn None) c refl e).0)
moment_own service start before (events.Send client from len) sent after k h a s =
    scripted_own service start before client (events.Send client from len) (Text from len) sent after k h refl refl a (λ c e. (s client (Text from len) c refl e).0)
moment_own service start before (events.Fin client) sent after k h a s =
    scripted_own service start before client (events.Fin client) Fin sent after k h refl refl a (λ c e. (s client Fin c refl e).0)
moment_own service start before (events.Ack client window) sent after k h a s =
    scripted_own service start before client (events.Ack client window) Acknowledge sent after k h refl refl a (λ c e. (s client Acknowledge c refl e).0)
moment_own service start before (events.Reset client) sent after k h a s =
    scripted_own service start before client (events.Reset client) Rst sent after k h refl refl a (λ c e. (s client Rst c refl e).0)
moment_own service start before (events.Stop part) sent after k h a s = absurd h

legal_own : {State : Type 0} (service : Machine State) → HasSmallOutputs service → (start : World) (trace : List Moment) → Joint service start trace → AllAllowed start trace
    → AllByRecursion (OwnNear (isn_of start)) (world_after start trace).packets
legal_own service small start [] j a = subst (AllByRecursion (OwnNear (isn_of start))) (sym j.packets) tt
legal_own service small start (moment ∷ earlier) j a =
    let before : World = world_after start earlier in
    subst (AllByRecursion (OwnNear (isn_of start))) (sym (proceeds service moment.event before moment.world moment.sent j.1))
    (all_append (OwnNear (isn_of start)) before.packets moment.sent (legal_own service small start earlier j.0 a.0)
    (moment_own service start before moment.event moment.sent moment.world (near_after service small start earlier j.0) j.1 a.1.allowed a.1.scripted))

input_near : {State : Type 0} (service : Machine State) (start w : World) (node : Node) (input : Input) → KeptNear service start w → AllByRecursion (OwnNear (isn_of start)) w.packets
    → w.node ≡ Some node → MayCome w input → IsNearInput node.server input node.stage
input_near service start w node (Packet_comes segment) k own up comes = all_near service start w node segment k up comes (all_sent (OwnNear (isn_of start)) w (To_server segment) own comes)
input_near service start w node (Message_comes message) k own up comes = tt
input_near service start w node Noise_comes k own up comes = tt
input_near service start w node Tick_comes k own up comes = tt

pub inputs_near : {State : Type 0} (service : ℕ → Machine State) → ((kind : ℕ) → HasSmallOutputs (service kind)) → (schedule : Schedule) (trace : List Moment) (node : Node) (input : Input)
    → Legal service schedule trace → (world_after (start_of schedule) trace).node ≡ Some node → MayCome (world_after (start_of schedule) trace) input → IsNearInput node.server input node.stage
inputs_near service small schedule trace node input l up comes =
    let kind : ℕ = kind_of schedule.service in
    input_near (service kind) (start_of schedule) (world_after (start_of schedule) trace) node input (near_after (service kind) (small kind) (start_of schedule) trace l.joint)
    (legal_own (service kind) (small kind) (start_of schedule) trace l.joint l.allowed) up comes
