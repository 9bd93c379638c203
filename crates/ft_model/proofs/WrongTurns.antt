-- A wrong turn is refused: the lawful one, which is the only one, sends something else.
use Rattle.std.proofs.Common.{◌≡◌, ℕ, Bool, true, false, ◌==◌, ◌&&◌, ◌+◌, ◌*◌, if◌then◌else◌, refl, sym, ap, ◌∙◌, true≢false, subst, Some, List, [], ◌∷◌, length}
use Rattle.seq_arith.specs.Packet.{Segment}
use Rattle.server_trait.specs.Service.{Machine}
use Rattle.tcp_rules.specs.declared.timestamping.Timestamping.TheVariants.{Off}
use Rattle.ft_model.specs.Network.{Packet, packet_at}
use Rattle.ft_model.specs.Network.Packet.{To_server, To_client, To_logger}
use Rattle.ft_model.specs.World.{World, ServerTurn, Delivered, Happens}
use Rattle.ft_model.specs.declared.event.Event.TheVariants.{Deliver}
use Rattle.ft_model.specs.Node.Input.{Packet_comes}
use Rattle.ft_model.proofs.Lists.{some_is}
use Rattle.seq_arith.specs.Message.{Body}
use Rattle.seq_arith.specs.Message.Body.{DataMsg, ReadMsg, BytesMsg, CutsMsg}
use Rattle.ft_model.specs.Node.{Node, Input}
use Rattle.ft_model.specs.News.News.{Ticks}
use Rattle.ft_model.specs.Node.Input.{Tick_comes}
use Rattle.ft_model.specs.Node.Stage.{Serving}
use Rattle.ft_model.specs.Node.Place.{Opens}
use Rattle.ft_model.specs.Lawful.{LawfulTurn}
use Rattle.ft_model.specs.WorkedRuns.Common.{echo, server, numbers, IsUnlawful}
use Rattle.ft_model.specs.WorkedRuns.FirstPath as run
use Rattle.ft_model.specs.WorkedRuns.Closing as closing
use Rattle.ft_model.specs.WorkedRuns.ZeroWindow as probe
use Rattle.ft_model.specs.WorkedRuns.SegmentWhileRestarting as restart
use Rattle.ft_model.specs.WorkedRuns.RestartInTurns as questions
use Rattle.ft_model.proofs.TurnOnce.{turn_once}
use Rattle.ft_model.proofs.FirstPath.{turn_5, turn_12, turn_14}
use Rattle.ft_model.proofs.Turns.{laws, goes, serves}
use Rattle.ft_model.proofs.Closing.{first_5, first_6}
use Rattle.ft_model.proofs.ZeroWindow.{probe_7, probe_8, probe_9}
use Rattle.ft_model.proofs.SegmentWhileRestarting.{restart_3}
use Rattle.ft_model.proofs.RestartFromHello.{serves_again}
use Rattle.ft_model.proofs.RestartInTurns.{turn_2, turn_3}

-- what tells packets apart: their count, and the kind, flags, acknowledgement, length, index, place or ending of each
abbrev pub mark_of_body : Body → ℕ
mark_of_body (ReadMsg key index n) = index
mark_of_body (BytesMsg key offset) = 101 + 10 * offset
mark_of_body (CutsMsg key first) = 102 + 10 * first
mark_of_body (DataMsg part) = 103 + 10 * part.offset + (if part.more then 5 else 0)
mark_of_body _ = 100

abbrev pub mark : Packet → ℕ
mark (To_client segment) = 1000 + segment.head.ack + 10 * length segment.payload + 100000 * segment.head.flags
mark (To_logger message) = mark_of_body message.body
mark _ = 200

abbrev pub marks : List Packet → List ℕ
marks [] = []
marks (packet ∷ packets) = mark packet ∷ marks packets

abbrev pub are_same : List ℕ → List ℕ → Bool
are_same [] [] = true
are_same (n ∷ ns) (m ∷ ms) = n == m && are_same ns ms
are_same _ _ = false

pub refused : {State : Type 0} (service : Machine State) (before after : Node) (input : Input) (right wrong : List Packet) → LawfulTurn service before input right after
    → are_same (marks right) (marks right) ≡ true → are_same (marks right) (marks wrong) ≡ false → (later : Node) → LawfulTurn service before input wrong later → ⊥
refused service before after input right wrong turn same other =
    λ later t. true≢false (sym same ∙ (ap (λ xs. are_same (marks right) (marks xs)) ((turn_once service before after later input right wrong turn t).1) ∙ other))

-- so a moment in which it is made doesn't happen
pub never_happens : {State : Type 0} (service : Machine State) (before after : World) (number : ℕ) (segment : Segment) (node : Node) (sent : List Packet)
    → packet_at before.packets number ≡ Some (To_server segment) → before.node ≡ Some node → ((later : Node) → LawfulTurn service node (Packet_comes segment) sent later → ⊥)
    → Happens service before (Deliver number) sent after → ⊥
never_happens service before after number segment node sent at up none h =
    let same : h.0 ≡ To_server segment = some_is _ _ (sym h.1 ∙ at) in
    let came : Delivered service before (To_server segment) sent after = subst (λ p. Delivered service before p sent after) same h.2 in
    let turn : ServerTurn service (Packet_comes segment) (Some node) sent after.node = subst (λ n. ServerTurn service (Packet_comes segment) n sent after.node) up came.0 in
    none turn.0 turn.2

-- the wrong turns of the text's arrival
by_text : (wrong : List Packet) → are_same (marks run.moment_12.sent) (marks wrong) ≡ false → IsUnlawful (run.node_live run.open_point) run.text_comes wrong
by_text wrong other = refused echo (run.node_live run.open_point) (run.node_live run.taken_point) run.text_comes run.moment_12.sent wrong turn_12 refl other

pub without_copy : IsUnlawful (run.node_live run.open_point) run.text_comes run.without_copy
without_copy = by_text run.without_copy refl

pub one_too_high : IsUnlawful (run.node_live run.open_point) run.text_comes run.one_too_high
one_too_high = by_text run.one_too_high refl

pub passed_on : IsUnlawful (run.node_live run.open_point) run.text_comes run.passed_on
passed_on = by_text run.passed_on refl

pub read_first : IsUnlawful (run.node_live run.open_point) run.text_comes run.read_first
read_first = by_text run.read_first refl

pub one_index_off : IsUnlawful (run.node_live run.open_point) run.text_comes run.one_index_off
one_index_off = by_text run.one_index_off refl

pub released_early : IsUnlawful (run.node_live run.open_point) run.text_comes run.released_early
released_early = by_text run.released_early refl

-- silence in the turn of Stable
pub silent : IsUnlawful (run.node_live run.taken_point) run.stable_comes []
silent = refused echo (run.node_live run.taken_point) (run.node_live run.logged_point) run.stable_comes run.moment_14.sent [] turn_14 refl refl

-- a SYN-ACK before Opened
pub answered_early : IsUnlawful (run.node_at (Serving 0 [])) run.syn_comes (run.packet_6 ∷ [])
answered_early = refused echo (run.node_at (Serving 0 [])) (run.node_at (Serving 1 (Opens numbers Off ∷ []))) run.syn_comes run.moment_5.sent (run.packet_6 ∷ []) (turn_5 echo) refl refl

-- the FIN before its read is logged
pub fin_with_read : IsUnlawful closing.first_4.node closing.first_5.input closing.fin_with_read
fin_with_read = refused echo closing.first_4.node closing.first_5.node closing.first_5.input closing.first_5.sent closing.fin_with_read first_5 refl refl

pub fin_before_reads : IsUnlawful closing.first_5.node closing.first_6.input closing.fin_before_reads
fin_before_reads = refused echo closing.first_5.node closing.first_6.node closing.first_6.input closing.first_6.sent closing.fin_before_reads first_6 refl refl

-- Reads out of order: a tick sends the unanswered ones again by index
reads_again : LawfulTurn echo (run.node_live run.twice_read_point) Tick_comes run.reads_again (run.node_live run.twice_read_point)
unfolding laws
reads_again = serves echo 1 5000 Tick_comes run.twice_read_point run.twice_read_point run.reads_again refl refl refl (run.twice_read_point, refl, goes echo server 1 Ticks run.twice_read_point run.twice_read_point run.reads_again refl refl refl refl)

pub reads_turned : IsUnlawful (run.node_live run.twice_read_point) Tick_comes run.reads_turned
reads_turned = refused echo (run.node_live run.twice_read_point) (run.node_live run.twice_read_point) Tick_comes run.reads_again run.reads_turned reads_again refl refl

-- no probe, a probe of two bytes, a probe before the timer expires, and output past the edge
pub no_probe : IsUnlawful probe.probe_7.node Tick_comes []
no_probe = refused echo probe.probe_7.node probe.probe_8.node Tick_comes probe.probe_8.sent [] probe_8 refl refl

pub wide_probe : IsUnlawful probe.probe_7.node Tick_comes probe.wide_probe
wide_probe = refused echo probe.probe_7.node probe.probe_8.node Tick_comes probe.probe_8.sent probe.wide_probe probe_8 refl refl

pub early_probe : IsUnlawful probe.probe_8.node Tick_comes probe.probe_8.sent
early_probe = refused echo probe.probe_8.node probe.probe_9.node Tick_comes [] probe.probe_8.sent probe_9 refl refl

pub past_the_edge : IsUnlawful probe.probe_6.node probe.probe_7.input probe.past_the_edge
past_the_edge = refused echo probe.probe_6.node probe.probe_7.node probe.probe_7.input [] probe.past_the_edge probe_7 refl refl

-- questions out of their order
pub bytes_first : IsUnlawful questions.turn_1.node questions.turn_2.input questions.bytes_first
bytes_first = refused echo questions.turn_1.node questions.turn_2.node questions.turn_2.input questions.turn_2.sent questions.bytes_first turn_2 refl refl

pub lengths_ahead : IsUnlawful questions.turn_2.node questions.turn_3.input questions.lengths_ahead
lengths_ahead = refused echo questions.turn_2.node questions.turn_3.node questions.turn_3.input questions.turn_3.sent questions.lengths_ahead turn_3 refl refl

-- while a server fetches, and when it has fetched all
pub reset_meanwhile : IsUnlawful restart.restart_2.node restart.restart_3.input restart.reset_meanwhile
reset_meanwhile = refused echo restart.restart_2.node restart.restart_3.node restart.restart_3.input restart.restart_3.sent restart.reset_meanwhile restart_3 refl refl

pub silent_meanwhile : IsUnlawful restart.restart_2.node restart.restart_3.input []
silent_meanwhile = refused echo restart.restart_2.node restart.restart_3.node restart.restart_3.input restart.restart_3.sent [] restart_3 refl refl

pub stays_restarting : IsUnlawful restart.restart_4.node restart.restart_5.input []
stays_restarting = refused echo restart.restart_4.node restart.restart_5.node restart.restart_5.input restart.restart_5.sent [] serves_again refl refl
