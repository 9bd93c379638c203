use Rattle.std.proofs.Common.{refl, sym, ap, subst, OnOk, IfErr}
use Rattle.std.specs.Prelude.{IsErrOf}
use Rattle.std.proofs.lemmas.Result.{on_ok_weaker}
use Rattle.ft_io.proofs.Outcomes.{if_err}
use Rattle.seq_arith.specs.PacketGrammar.{reading}
use Rattle.node_serving.specs.Identity.{grammar_in}
use Rattle.server_node.specs.declared.input.TurnEnd.TheVariants.{NoMemory}
use Rattle.lasting_laws.specs.LastingTurn.LastingInput.{Usual_comes}
use Rattle.ft_model.specs.Node.Input.{Tick_comes}
use Rattle.ft_model.specs.World.{segment_or_noise}
use Rattle.lasting_node.specs.Turns.{LastingTurns, lasting_input_of, message_said, sent_by, IsUnfencedLasting, IsFenceOfLasting}
use Rattle.lasting_node.proofs.Going.{from_own}
use Rattle.lasting_node.proofs.Reading.{packet_unfenced, memory_alone}
use Rattle.lasting_node.proofs.node.LastingNode.turn.Goals as goal

-- on a packet
pub returns-in-Packet-clause-turn : goal.returns-in-Packet-clause-turn
returns-in-Packet-clause-turn g c =
    let was = c.args.self.now in
    on_ok_weaker c.take_packet.result
    (λ t. subst (λ i. LastingTurns i was c.take_packet.new.self (sent_by c.take_packet.new.self)) (sym (ap (lasting_input_of (grammar_in was.node.who)) c.in-Packet.is))
    (from_own (Usual_comes (segment_or_noise (reading c.in-Packet.bytes.now))) was _ c.take_packet.new.self (sent_by c.take_packet.new.self) refl refl refl t)) c.take_packet.ensures.turn

pub returns-in-Packet-clause-unfenced : goal.returns-in-Packet-clause-unfenced
returns-in-Packet-clause-unfenced g c =
    let was = c.args.self.now in
    on_ok_weaker c.take_packet.result
    (λ t. subst (IsUnfencedLasting was.node.who) (sym (ap (lasting_input_of (grammar_in was.node.who)) c.in-Packet.is)) (packet_unfenced was.node.who (reading c.in-Packet.bytes.now))) c.take_packet.ensures.turn

pub returns-in-Packet-clause-fenced : goal.returns-in-Packet-clause-fenced
returns-in-Packet-clause-fenced g c =
    let was = c.args.self.now in
    if_err c.take_packet.result
    (λ end e. subst (λ i. IsFenceOfLasting was.node.who i end) (sym (ap (lasting_input_of (grammar_in was.node.who)) c.in-Packet.is))
    (memory_alone was.node.who (segment_or_noise (reading c.in-Packet.bytes.now)) end e)) c.take_packet.ensures.fenced

pub returns-in-Packet-clause-memory : goal.returns-in-Packet-clause-memory
returns-in-Packet-clause-memory g c = λ is_memory.
    let was = c.args.self.now in
    subst (IsUnfencedLasting was.node.who) (sym (ap (lasting_input_of (grammar_in was.node.who)) c.in-Packet.is)) (packet_unfenced was.node.who (reading c.in-Packet.bytes.now))

-- on a message
pub returns-in-Message-clause-turn : goal.returns-in-Message-clause-turn
returns-in-Message-clause-turn g c =
    let was = c.args.self.now in
    on_ok_weaker c.take_message.result
    (λ t. subst (λ i. LastingTurns i was c.take_message.new.self (sent_by c.take_message.new.self)) (sym (ap (lasting_input_of (grammar_in was.node.who)) c.in-Message.is))
    (from_own (message_said (grammar_in was.node.who) c.in-Message.bytes.now) was _ c.take_message.new.self (sent_by c.take_message.new.self) refl refl refl t)) c.take_message.ensures.turn

pub returns-in-Message-clause-unfenced : goal.returns-in-Message-clause-unfenced
returns-in-Message-clause-unfenced g c =
    let was = c.args.self.now in
    subst (λ i. OnOk c.take_message.result (IsUnfencedLasting was.node.who i)) (sym (ap (lasting_input_of (grammar_in was.node.who)) c.in-Message.is)) c.take_message.ensures.unfenced

pub returns-in-Message-clause-fenced : goal.returns-in-Message-clause-fenced
returns-in-Message-clause-fenced g c =
    let was = c.args.self.now in
    subst (λ i. IfErr c.take_message.result (IsFenceOfLasting was.node.who i)) (sym (ap (lasting_input_of (grammar_in was.node.who)) c.in-Message.is)) c.take_message.ensures.fenced

pub returns-in-Message-clause-memory : goal.returns-in-Message-clause-memory
returns-in-Message-clause-memory g c =
    let was = c.args.self.now in
    subst (λ i. IsErrOf c.take_message.result NoMemory → IsUnfencedLasting was.node.who i) (sym (ap (lasting_input_of (grammar_in was.node.who)) c.in-Message.is)) c.take_message.ensures.memory

-- at a tick
pub returns-in-Tick-clause-turn : goal.returns-in-Tick-clause-turn
returns-in-Tick-clause-turn g c =
    let was = c.args.self.now in
    on_ok_weaker c.tick.result
    (λ t. subst (λ i. LastingTurns i was c.tick.new.self (sent_by c.tick.new.self)) (sym (ap (lasting_input_of (grammar_in was.node.who)) c.in-Tick.is))
    (from_own (Usual_comes Tick_comes) was _ c.tick.new.self (sent_by c.tick.new.self) refl refl refl t)) c.tick.ensures.turn

pub returns-in-Tick-clause-unfenced : goal.returns-in-Tick-clause-unfenced
returns-in-Tick-clause-unfenced g c =
    let was = c.args.self.now in
    on_ok_weaker c.tick.result
    (λ t. subst (IsUnfencedLasting was.node.who) (sym (ap (lasting_input_of (grammar_in was.node.who)) c.in-Tick.is)) (λ standing. refl)) c.tick.ensures.turn

pub returns-in-Tick-clause-fenced : goal.returns-in-Tick-clause-fenced
returns-in-Tick-clause-fenced g c =
    let was = c.args.self.now in
    if_err c.tick.result
    (λ end e. subst (λ i. IsFenceOfLasting was.node.who i end) (sym (ap (lasting_input_of (grammar_in was.node.who)) c.in-Tick.is)) (memory_alone was.node.who Tick_comes end e)) c.tick.ensures.fenced

pub returns-in-Tick-clause-memory : goal.returns-in-Tick-clause-memory
returns-in-Tick-clause-memory g c = λ is_memory.
    let was = c.args.self.now in
    subst (IsUnfencedLasting was.node.who) (sym (ap (lasting_input_of (grammar_in was.node.who)) c.in-Tick.is)) (λ standing. refl)
