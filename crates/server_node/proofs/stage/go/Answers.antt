use Rattle.std.proofs.Common.{rules, ◌≡◌, ◌∙◌, Ok, IfOk, IfErr, ap, refl, subst, sym}
use Rattle.std.specs.Prelude.{IsErrOf}
use Rattle.server_node.specs.declared.input.TurnEnd.TheVariants.{NoMemory}
use Rattle.server_trait.specs.Service.{machine}
use Rattle.seq_arith.specs.PacketGrammar.{reading}
use Rattle.segment_codec.specs.Value as packets
use Rattle.logger_wire.specs.Value as messages
use Rattle.ft_model.specs.Node.Input.{Packet_comes, Message_comes, Noise_comes}
use Rattle.ft_model.specs.World.{segment_or_noise, message_or_noise}
use Rattle.server_node.specs.Apart.{TurnsApart}
use Rattle.server_node.specs.Inputs.{input_of}
use Rattle.server_node.specs.StageTurns.{StageTurns, IsUnfenced, IsFenceOf}
use Rattle.server_node.proofs.Staged.{noise_rests}
use Rattle.server_node.proofs.StagedApart.{rest_apart, noise_knows}
use Rattle.ft_io.proofs.Choices.{by_cases}
use Rattle.node_serving.specs.Identity.{node_of, grammar_in}
use Rattle.server_node.specs.Stages.{is_marked}
use Rattle.server_node.proofs.MarkedStage.{stands_plain, marked_apart, unreceived, unreceived_apart}
use Rattle.node_serving.specs.Markers.{saving}
use Rattle.server_node.specs.MarkedTurns.{IsTurnMarked, marked_input_of, received_of}
use Rattle.mark_laws.specs.MarkedNode.MarkedInput.{Plain_comes}
use Rattle.seq_arith.specs.MarkGrammar.{reading as mark_reading}
use Rattle.server_node.proofs.MarkedNodes.{noise_turn, not_of_log, of_the_log}
use Rattle.server_node.proofs.stage.go.Goals as goal

pub returns-in_ok-on_tick-in-Tick-clause-turn : goal.returns-in_ok-on_tick-in-Tick-clause-turn
returns-in_ok-on_tick-in-Tick-clause-turn g c =
    subst (λ i. StageTurns g.S.Service c.args.who i c.args.stage c.in_ok-on_tick-in-Tick.field-0 c.on_tick.new.turn.sent.items) (sym (ap (input_of (grammar_in c.args.who)) c.in-Tick.is)) c.in_ok-on_tick-in-Tick.ensures.turn

pub returns-in_ok-on_tick-in-Tick-clause-apart : goal.returns-in_ok-on_tick-in-Tick-clause-apart
returns-in_ok-on_tick-in-Tick-clause-apart g c =
    let service = machine (g.S.Service.started c.args.who.kind) g.S.Service.after g.S.Service.greeting in
    subst (λ i. TurnsApart service c.args.who i c.args.stage c.in_ok-on_tick-in-Tick.field-0 c.on_tick.new.turn.sent.items) (sym (ap (input_of (grammar_in c.args.who)) c.in-Tick.is)) c.in_ok-on_tick-in-Tick.ensures.apart

pub on_packet-requires-clause-read : goal.on_packet-requires-clause-read
on_packet-requires-clause-read g c =
    sym c.read_packet.ensures ∙ ap packets.seen c.in-Ok.is

pub returns-in_ok-on_packet-in-Ok-clause-turn : goal.returns-in_ok-on_packet-in-Ok-clause-turn
returns-in_ok-on_packet-in-Ok-clause-turn g c =
    let reads : reading c.in-Packet.bytes.now ≡ Ok (packets.segment_of c.in-Ok.segment) = sym c.read_packet.ensures ∙ ap packets.seen c.in-Ok.is in
    let is : input_of (grammar_in c.args.who) c.args.input ≡ Packet_comes (packets.segment_of c.in-Ok.segment) = ap (input_of (grammar_in c.args.who)) c.in-Packet.is ∙ ap segment_or_noise reads in
    subst (λ i. StageTurns g.S.Service c.args.who i c.args.stage c.in_ok-on_packet-in-Ok.field-0 c.on_packet.new.turn.sent.items) (sym is) c.in_ok-on_packet-in-Ok.ensures.turn

pub returns-in_ok-on_packet-in-Ok-clause-apart : goal.returns-in_ok-on_packet-in-Ok-clause-apart
returns-in_ok-on_packet-in-Ok-clause-apart g c =
    let service = machine (g.S.Service.started c.args.who.kind) g.S.Service.after g.S.Service.greeting in
    let reads : reading c.in-Packet.bytes.now ≡ Ok (packets.segment_of c.in-Ok.segment) = sym c.read_packet.ensures ∙ ap packets.seen c.in-Ok.is in
    let is : input_of (grammar_in c.args.who) c.args.input ≡ Packet_comes (packets.segment_of c.in-Ok.segment) = ap (input_of (grammar_in c.args.who)) c.in-Packet.is ∙ ap segment_or_noise reads in
    subst (λ i. TurnsApart service c.args.who i c.args.stage c.in_ok-on_packet-in-Ok.field-0 c.on_packet.new.turn.sent.items) (sym is) c.in_ok-on_packet-in-Ok.ensures.apart

pub returns-in-Err-clause-turn : goal.returns-in-Err-clause-turn
returns-in-Err-clause-turn g c =
    let service = machine (g.S.Service.started c.args.who.kind) g.S.Service.after g.S.Service.greeting in
    let noise : input_of (grammar_in c.args.who) c.args.input ≡ Noise_comes = ap (input_of (grammar_in c.args.who)) c.in-Packet.is ∙ ap segment_or_noise (sym c.read_packet.ensures ∙ ap packets.seen c.in-Err.is) in
    subst (λ i. StageTurns g.S.Service c.args.who i c.args.stage c.args.stage c.args.turn.now.sent.items) (sym noise)
    (subst (λ xs. StageTurns g.S.Service c.args.who Noise_comes c.args.stage c.args.stage xs) (sym c.requires.empty) (λ standing near sound st. noise_rests service c.args.who standing c.args.stage st))

pub returns-in-Err-clause-apart : goal.returns-in-Err-clause-apart
returns-in-Err-clause-apart g c =
    let service = machine (g.S.Service.started c.args.who.kind) g.S.Service.after g.S.Service.greeting in
    let noise : input_of (grammar_in c.args.who) c.args.input ≡ Noise_comes = ap (input_of (grammar_in c.args.who)) c.in-Packet.is ∙ ap segment_or_noise (sym c.read_packet.ensures ∙ ap packets.seen c.in-Err.is) in
    subst (λ i. TurnsApart service c.args.who i c.args.stage c.args.stage c.args.turn.now.sent.items) (sym noise)
    (subst (λ xs. TurnsApart service c.args.who Noise_comes c.args.stage c.args.stage xs) (sym c.requires.empty)
    (rest_apart service c.args.who Noise_comes c.args.stage (search rules) c.requires.sound (λ standing key. refl) (λ standing. tt)
    (λ standing. noise_knows (node_of c.args.who standing) c.args.stage)))

pub returns-in_ok-receive_about_mark-in-Err-read_message-clause-turn : goal.returns-in_ok-receive_about_mark-in-Err-read_message-clause-turn
returns-in_ok-receive_about_mark-in-Err-read_message-clause-turn g c = λ standing near sound st.
    let service = machine (g.S.Service.started c.args.who.kind) g.S.Service.after g.S.Service.greeting in
    let noise : input_of (grammar_in c.args.who) c.args.input ≡ Noise_comes = ap (input_of (grammar_in c.args.who)) c.in-Message.is ∙ ap message_or_noise (sym c.read_message.ensures.value ∙ ap messages.seen c.in-Err-read_message.is) in
    let rests = c.in_ok-receive_about_mark-in-Err-read_message.ensures.plain (stands_plain service (node_of c.args.who standing) c.args.stage st) in
    unreceived service c.args.who standing (input_of (grammar_in c.args.who) c.args.input) c.args.stage c.in_ok-receive_about_mark-in-Err-read_message.field-0 c.receive_about_mark.new.turn.sent.items noise rests.0 (rests.1 ∙ c.requires.empty) st

pub returns-in_ok-receive_about_mark-in-Err-read_message-clause-apart : goal.returns-in_ok-receive_about_mark-in-Err-read_message-clause-apart
returns-in_ok-receive_about_mark-in-Err-read_message-clause-apart g c =
    let service = machine (g.S.Service.started c.args.who.kind) g.S.Service.after g.S.Service.greeting in
    let noise : input_of (grammar_in c.args.who) c.args.input ≡ Noise_comes = ap (input_of (grammar_in c.args.who)) c.in-Message.is ∙ ap message_or_noise (sym c.read_message.ensures.value ∙ ap messages.seen c.in-Err-read_message.is) in
    by_cases (is_marked c.args.stage)
    (λ on. marked_apart service c.args.who (input_of (grammar_in c.args.who) c.args.input) c.args.stage c.in_ok-receive_about_mark-in-Err-read_message.field-0 c.receive_about_mark.new.turn.sent.items on)
    (λ off.
    let rests = c.in_ok-receive_about_mark-in-Err-read_message.ensures.plain off in
    unreceived_apart service c.args.who (input_of (grammar_in c.args.who) c.args.input) c.args.stage c.in_ok-receive_about_mark-in-Err-read_message.field-0 c.receive_about_mark.new.turn.sent.items noise rests.0 (rests.1 ∙ c.requires.empty)
    (search rules) c.requires.sound)

pub returns-in-Ok-read_message-clause-turn : goal.returns-in-Ok-read_message-clause-turn
returns-in-Ok-read_message-clause-turn g c =
    let is : input_of (grammar_in c.args.who) c.args.input ≡ Message_comes (messages.message_of c.in-Ok-read_message.m) =
    ap (input_of (grammar_in c.args.who)) c.in-Message.is ∙ ap message_or_noise (sym c.read_message.ensures.value ∙ ap messages.seen c.in-Ok-read_message.is) in
    subst (λ i. IfOk c.receive.result (λ after. StageTurns g.S.Service c.args.who i c.args.stage after c.receive.new.turn.sent.items)) (sym is) c.receive.ensures.turn

pub returns-in-Ok-read_message-clause-apart : goal.returns-in-Ok-read_message-clause-apart
returns-in-Ok-read_message-clause-apart g c =
    let service = machine (g.S.Service.started c.args.who.kind) g.S.Service.after g.S.Service.greeting in
    let is : input_of (grammar_in c.args.who) c.args.input ≡ Message_comes (messages.message_of c.in-Ok-read_message.m) =
    ap (input_of (grammar_in c.args.who)) c.in-Message.is ∙ ap message_or_noise (sym c.read_message.ensures.value ∙ ap messages.seen c.in-Ok-read_message.is) in
    subst (λ i. IfOk c.receive.result (λ after. TurnsApart service c.args.who i c.args.stage after c.receive.new.turn.sent.items)) (sym is) c.receive.ensures.apart

pub returns-in-Ok-read_message-clause-unfenced : goal.returns-in-Ok-read_message-clause-unfenced
returns-in-Ok-read_message-clause-unfenced g c =
    let is : input_of (grammar_in c.args.who) c.args.input ≡ Message_comes (messages.message_of c.in-Ok-read_message.m) =
    ap (input_of (grammar_in c.args.who)) c.in-Message.is ∙ ap message_or_noise (sym c.read_message.ensures.value ∙ ap messages.seen c.in-Ok-read_message.is) in
    subst (λ i. IfOk c.receive.result (λ after. IsUnfenced c.args.who i)) (sym is) c.receive.ensures.unfenced

pub returns-in-Ok-read_message-clause-fenced : goal.returns-in-Ok-read_message-clause-fenced
returns-in-Ok-read_message-clause-fenced g c =
    let is : input_of (grammar_in c.args.who) c.args.input ≡ Message_comes (messages.message_of c.in-Ok-read_message.m) =
    ap (input_of (grammar_in c.args.who)) c.in-Message.is ∙ ap message_or_noise (sym c.read_message.ensures.value ∙ ap messages.seen c.in-Ok-read_message.is) in
    subst (λ i. IfErr c.receive.result (IsFenceOf c.args.who i)) (sym is) c.receive.ensures.fenced

pub returns-in-Ok-read_message-clause-memory : goal.returns-in-Ok-read_message-clause-memory
returns-in-Ok-read_message-clause-memory g c =
    let is : input_of (grammar_in c.args.who) c.args.input ≡ Message_comes (messages.message_of c.in-Ok-read_message.m) =
    ap (input_of (grammar_in c.args.who)) c.in-Message.is ∙ ap message_or_noise (sym c.read_message.ensures.value ∙ ap messages.seen c.in-Ok-read_message.is) in
    subst (λ i. IsErrOf c.receive.result NoMemory → IsUnfenced c.args.who i) (sym is) c.receive.ensures.memory

pub returns-in_ok-on_tick-in-Tick-clause-marked : goal.returns-in_ok-on_tick-in-Tick-clause-marked
returns-in_ok-on_tick-in-Tick-clause-marked g c =
    subst (λ i. IsTurnMarked g.S.Service (saving g.S.Saved.form g.S.Saved.state_of g.S.Saved.is_savable) c.args.who i c.args.stage c.in_ok-on_tick-in-Tick.field-0 c.on_tick.new.turn.sent.items) (sym (ap (marked_input_of (grammar_in c.args.who)) c.in-Tick.is)) c.in_ok-on_tick-in-Tick.ensures.marked

pub returns-in_ok-on_packet-in-Ok-clause-marked : goal.returns-in_ok-on_packet-in-Ok-clause-marked
returns-in_ok-on_packet-in-Ok-clause-marked g c =
    let reads : reading c.in-Packet.bytes.now ≡ Ok (packets.segment_of c.in-Ok.segment) = sym c.read_packet.ensures ∙ ap packets.seen c.in-Ok.is in
    let is : marked_input_of (grammar_in c.args.who) c.args.input ≡ Plain_comes (Packet_comes (packets.segment_of c.in-Ok.segment)) = ap (marked_input_of (grammar_in c.args.who)) c.in-Packet.is ∙ ap (λ r. Plain_comes (segment_or_noise r)) reads in
    subst (λ i. IsTurnMarked g.S.Service (saving g.S.Saved.form g.S.Saved.state_of g.S.Saved.is_savable) c.args.who i c.args.stage c.in_ok-on_packet-in-Ok.field-0 c.on_packet.new.turn.sent.items) (sym is) c.in_ok-on_packet-in-Ok.ensures.marked

pub returns-in-Err-clause-marked : goal.returns-in-Err-clause-marked
returns-in-Err-clause-marked g c =
    let noise : marked_input_of (grammar_in c.args.who) c.args.input ≡ Plain_comes Noise_comes = ap (marked_input_of (grammar_in c.args.who)) c.in-Packet.is ∙ ap (λ r. Plain_comes (segment_or_noise r)) (sym c.read_packet.ensures ∙ ap packets.seen c.in-Err.is) in
    subst (λ i. IsTurnMarked g.S.Service (saving g.S.Saved.form g.S.Saved.state_of g.S.Saved.is_savable) c.args.who i c.args.stage c.args.stage c.args.turn.now.sent.items) (sym noise)
    (noise_turn g.S.Service (saving g.S.Saved.form g.S.Saved.state_of g.S.Saved.is_savable) c.args.who c.args.stage c.args.turn.now.sent.items c.requires.empty c.fit_slots.ensures (search rules) c.requires.sound)

pub returns-in_ok-receive_about_mark-in-Err-read_message-clause-marked : goal.returns-in_ok-receive_about_mark-in-Err-read_message-clause-marked
returns-in_ok-receive_about_mark-in-Err-read_message-clause-marked g c =
    let is : marked_input_of (grammar_in c.args.who) c.args.input ≡ received_of (mark_reading c.in-Message.bytes.now) =
    ap (marked_input_of (grammar_in c.args.who)) c.in-Message.is ∙ not_of_log (grammar_in c.args.who) c.in-Message.bytes.now c.in-Err-read_message.field-0 (sym c.read_message.ensures.value ∙ ap messages.seen c.in-Err-read_message.is) in
    subst (λ i. IsTurnMarked g.S.Service (saving g.S.Saved.form g.S.Saved.state_of g.S.Saved.is_savable) c.args.who i c.args.stage c.in_ok-receive_about_mark-in-Err-read_message.field-0 c.receive_about_mark.new.turn.sent.items) (sym is) c.in_ok-receive_about_mark-in-Err-read_message.ensures.marked

pub returns-in-Ok-read_message-clause-marked : goal.returns-in-Ok-read_message-clause-marked
returns-in-Ok-read_message-clause-marked g c =
    let is : marked_input_of (grammar_in c.args.who) c.args.input ≡ Plain_comes (Message_comes (messages.message_of c.in-Ok-read_message.m)) =
    ap (marked_input_of (grammar_in c.args.who)) c.in-Message.is ∙ of_the_log (grammar_in c.args.who) c.in-Message.bytes.now (messages.message_of c.in-Ok-read_message.m) (sym c.read_message.ensures.value ∙ ap messages.seen c.in-Ok-read_message.is) in
    subst (λ i. IfOk c.receive.result (λ after. IsTurnMarked g.S.Service (saving g.S.Saved.form g.S.Saved.state_of g.S.Saved.is_savable) c.args.who i c.args.stage after c.receive.new.turn.sent.items)) (sym is) c.receive.ensures.marked
