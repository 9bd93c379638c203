use Rattle.std.proofs.Common.{rules, ◌≡◌, ◌∙◌, Ok, true≢false, ap, refl, subst, sym}
use Rattle.std.specs.Prelude.{IsErrOf, OnOk}
use Rattle.server_node.specs.declared.input.TurnEnd.TheVariants.{NoMemory}
use Rattle.server_trait.specs.Service.{machine}
use Rattle.seq_arith.specs.PacketGrammar.{reading}
use Rattle.segment_codec.specs.Value as packets
use Rattle.logger_wire.specs.Value as messages
use Rattle.ft_io.proofs.Booleans.{not_true}
use Rattle.ft_model.specs.Node.{is_for}
use Rattle.ft_model.specs.Node.Input.{Packet_comes, Message_comes, Noise_comes, Tick_comes}
use Rattle.ft_model.specs.Lawful.{AreNear}
use Rattle.ft_model.specs.World.{segment_or_noise, message_or_noise}
use Rattle.server_node.specs.declared.stage.Stage.TheVariants as stage
use Rattle.server_node.specs.Apart.{TurnsApart}
use Rattle.server_node.specs.Inputs.{input_of}
use Rattle.server_node.specs.StageTurns.{StageTurns, IsUnfenced}
use Rattle.node_serving.specs.Identity.{node_of, grammar_in}
use Rattle.node_serving.specs.ServingStage.{ServingGoes}
use Rattle.server_node.proofs.Staged.{noise_rests, serves_on}
use Rattle.server_node.proofs.StagedApart.{rest_apart, noise_knows, serving_apart}
use Rattle.server_node.proofs.serving_turn.serve.Goals as goal

pub returns-in_ok-serve_tick-in-Tick-clause-turn : goal.returns-in_ok-serve_tick-in-Tick-clause-turn
returns-in_ok-serve_tick-in-Tick-clause-turn g c =
    let service = machine (g.S.Service.started c.args.who.kind) g.S.Service.after g.S.Service.greeting in
    let reported = rw c.in_ok-serve_tick-in-Tick.was at c.serve_tick.ensures.turn in
    subst (λ i. StageTurns g.S.Service c.args.who i (stage.Serving c.args.serving.now) (stage.Serving c.serve_tick.new.serving) c.serve_tick.new.turn.sent.items)
    (sym (ap (input_of (grammar_in c.args.who)) c.in-Tick.is))
    (λ standing near sound st. serves_on service c.args.who standing Tick_comes c.args.serving.now c.serve_tick.new.serving c.serve_tick.new.turn.sent.items refl st
    (λ opened places is stands. subst (λ xs. ServingGoes service (node_of c.args.who standing) Tick_comes opened places c.serve_tick.new.serving xs c.serve_tick.new.turn.sent.items) c.requires.empty
    (reported standing opened places tt stands)))

pub returns-in_ok-serve_tick-in-Tick-clause-apart : goal.returns-in_ok-serve_tick-in-Tick-clause-apart
returns-in_ok-serve_tick-in-Tick-clause-apart g c =
    let service = machine (g.S.Service.started c.args.who.kind) g.S.Service.after g.S.Service.greeting in
    let reported = rw c.in_ok-serve_tick-in-Tick.was at c.serve_tick.ensures.alone in
    let known = rw c.in_ok-serve_tick-in-Tick.was at c.serve_tick.ensures.known in
    subst (λ i. TurnsApart service c.args.who i (stage.Serving c.args.serving.now) (stage.Serving c.serve_tick.new.serving) c.serve_tick.new.turn.sent.items)
    (sym (ap (input_of (grammar_in c.args.who)) c.in-Tick.is))
    (serving_apart service c.args.who Tick_comes c.args.serving.now c.serve_tick.new.serving c.args.turn.now.sent.items c.serve_tick.new.turn.sent.items c.requires.empty reported
    (λ standing nobody. absurd (true≢false (sym nobody))) (λ standing. tt) known)

pub serve_bytes-requires-clause-read : goal.serve_bytes-requires-clause-read
serve_bytes-requires-clause-read g c = sym c.read_packet.ensures ∙ ap packets.seen c.in-Ok.is

pub returns-in_ok-serve_bytes-in-Ok-clause-turn : goal.returns-in_ok-serve_bytes-in-Ok-clause-turn
returns-in_ok-serve_bytes-in-Ok-clause-turn g c =
    let segment = packets.segment_of c.in-Ok.segment in
    let service = machine (g.S.Service.started c.args.who.kind) g.S.Service.after g.S.Service.greeting in
    let reads : reading c.in-Packet.bytes.now ≡ Ok segment = sym c.read_packet.ensures ∙ ap packets.seen c.in-Ok.is in
    let input : input_of (grammar_in c.args.who) c.args.input ≡ Packet_comes segment = ap (input_of (grammar_in c.args.who)) c.in-Packet.is ∙ ap segment_or_noise reads in
    let reported = rw c.in_ok-serve_bytes-in-Ok.was at c.serve_bytes.ensures.turn in
    subst (λ i. StageTurns g.S.Service c.args.who i (stage.Serving c.args.serving.now) (stage.Serving c.serve_bytes.new.serving) c.serve_bytes.new.turn.sent.items) (sym input)
    (λ standing near sound st. serves_on service c.args.who standing (Packet_comes segment) c.args.serving.now c.serve_bytes.new.serving c.serve_bytes.new.turn.sent.items refl st
    (λ opened places is stands. subst (λ xs. ServingGoes service (node_of c.args.who standing) (Packet_comes segment) opened places c.serve_bytes.new.serving xs c.serve_bytes.new.turn.sent.items) c.requires.empty
    (reported standing opened places (subst (AreNear c.args.who.local segment) is near) stands)))

pub returns-in_ok-serve_bytes-in-Ok-clause-apart : goal.returns-in_ok-serve_bytes-in-Ok-clause-apart
returns-in_ok-serve_bytes-in-Ok-clause-apart g c =
    let service = machine (g.S.Service.started c.args.who.kind) g.S.Service.after g.S.Service.greeting in
    let segment = packets.segment_of c.in-Ok.segment in
    let reads : reading c.in-Packet.bytes.now ≡ Ok segment = sym c.read_packet.ensures ∙ ap packets.seen c.in-Ok.is in
    let input : input_of (grammar_in c.args.who) c.args.input ≡ Packet_comes segment = ap (input_of (grammar_in c.args.who)) c.in-Packet.is ∙ ap segment_or_noise reads in
    let alone = rw c.in_ok-serve_bytes-in-Ok.was at c.serve_bytes.ensures.alone in
    let untouched = rw c.in_ok-serve_bytes-in-Ok.was at c.serve_bytes.ensures.untouched in
    let known = rw c.in_ok-serve_bytes-in-Ok.was at c.serve_bytes.ensures.known in
    subst (λ i. TurnsApart service c.args.who i (stage.Serving c.args.serving.now) (stage.Serving c.serve_bytes.new.serving) c.serve_bytes.new.turn.sent.items) (sym input)
    (serving_apart service c.args.who (Packet_comes segment) c.args.serving.now c.serve_bytes.new.serving c.args.turn.now.sent.items c.serve_bytes.new.turn.sent.items c.requires.empty alone
    (λ standing nobody.
    let same = untouched (not_true (is_for c.args.who.local segment) nobody) in
    (ap stage.Serving same.0, same.1 ∙ c.requires.empty)) (λ standing. tt) known)

pub returns-in-Err-clause-turn : goal.returns-in-Err-clause-turn
returns-in-Err-clause-turn g c =
    let service = machine (g.S.Service.started c.args.who.kind) g.S.Service.after g.S.Service.greeting in
    let at = stage.Serving c.args.serving.now in
    let noise : input_of (grammar_in c.args.who) c.args.input ≡ Noise_comes =
    ap (input_of (grammar_in c.args.who)) c.in-Packet.is ∙ ap segment_or_noise (sym c.read_packet.ensures ∙ ap packets.seen c.in-Err.is) in
    subst (λ i. StageTurns g.S.Service c.args.who i at at c.args.turn.now.sent.items) (sym noise)
    (subst (λ xs. StageTurns g.S.Service c.args.who Noise_comes at at xs) (sym c.requires.empty) (λ standing near sound st. noise_rests service c.args.who standing at st))

pub returns-in-Err-clause-apart : goal.returns-in-Err-clause-apart
returns-in-Err-clause-apart g c =
    let service = machine (g.S.Service.started c.args.who.kind) g.S.Service.after g.S.Service.greeting in
    let at = stage.Serving c.args.serving.now in
    let noise : input_of (grammar_in c.args.who) c.args.input ≡ Noise_comes =
    ap (input_of (grammar_in c.args.who)) c.in-Packet.is ∙ ap segment_or_noise (sym c.read_packet.ensures ∙ ap packets.seen c.in-Err.is) in
    subst (λ i. TurnsApart service c.args.who i at at c.args.turn.now.sent.items) (sym noise)
    (subst (λ xs. TurnsApart service c.args.who Noise_comes at at xs) (sym c.requires.empty)
    (rest_apart service c.args.who Noise_comes at (search rules) c.requires.sound (λ standing key. refl) (λ standing. tt)
    (λ standing. noise_knows (node_of c.args.who standing) at)))

pub returns-in-Err-read_message-clause-turn : goal.returns-in-Err-read_message-clause-turn
returns-in-Err-read_message-clause-turn g c =
    let service = machine (g.S.Service.started c.args.who.kind) g.S.Service.after g.S.Service.greeting in
    let at = stage.Serving c.args.serving.now in
    let noise : input_of (grammar_in c.args.who) c.args.input ≡ Noise_comes =
    ap (input_of (grammar_in c.args.who)) c.in-Message.is ∙ ap message_or_noise (sym c.read_message.ensures.value ∙ ap messages.seen c.in-Err-read_message.is) in
    subst (λ i. StageTurns g.S.Service c.args.who i at at c.args.turn.now.sent.items) (sym noise)
    (subst (λ xs. StageTurns g.S.Service c.args.who Noise_comes at at xs) (sym c.requires.empty) (λ standing near sound st. noise_rests service c.args.who standing at st))

pub returns-in-Err-read_message-clause-apart : goal.returns-in-Err-read_message-clause-apart
returns-in-Err-read_message-clause-apart g c =
    let service = machine (g.S.Service.started c.args.who.kind) g.S.Service.after g.S.Service.greeting in
    let at = stage.Serving c.args.serving.now in
    let noise : input_of (grammar_in c.args.who) c.args.input ≡ Noise_comes =
    ap (input_of (grammar_in c.args.who)) c.in-Message.is ∙ ap message_or_noise (sym c.read_message.ensures.value ∙ ap messages.seen c.in-Err-read_message.is) in
    subst (λ i. TurnsApart service c.args.who i at at c.args.turn.now.sent.items) (sym noise)
    (subst (λ xs. TurnsApart service c.args.who Noise_comes at at xs) (sym c.requires.empty)
    (rest_apart service c.args.who Noise_comes at (search rules) c.requires.sound (λ standing key. refl) (λ standing. tt)
    (λ standing. noise_knows (node_of c.args.who standing) at)))

pub returns-in-Ok-read_message-clause-unfenced : goal.returns-in-Ok-read_message-clause-unfenced
returns-in-Ok-read_message-clause-unfenced g c =
    let is : input_of (grammar_in c.args.who) c.args.input ≡ Message_comes (messages.message_of c.in-Ok-read_message.m) =
    ap (input_of (grammar_in c.args.who)) c.in-Message.is ∙ ap message_or_noise (sym c.read_message.ensures.value ∙ ap messages.seen c.in-Ok-read_message.is) in
    subst (λ i. OnOk c.receive.result (IsUnfenced c.args.who i)) (sym is) c.receive.ensures.unfenced

pub returns-in-Ok-read_message-clause-memory : goal.returns-in-Ok-read_message-clause-memory
returns-in-Ok-read_message-clause-memory g c =
    let is : input_of (grammar_in c.args.who) c.args.input ≡ Message_comes (messages.message_of c.in-Ok-read_message.m) =
    ap (input_of (grammar_in c.args.who)) c.in-Message.is ∙ ap message_or_noise (sym c.read_message.ensures.value ∙ ap messages.seen c.in-Ok-read_message.is) in
    subst (λ i. IsErrOf c.receive.result NoMemory → IsUnfenced c.args.who i) (sym is) c.receive.ensures.memory
