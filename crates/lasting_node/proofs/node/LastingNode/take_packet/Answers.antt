use Rattle.std.proofs.Common.{◌≡◌, ◌∙◌, Ok, false, sym, ap, subst}
use Rattle.std.proofs.lemmas.Result.{on_ok_weaker}
use Rattle.ft_io.proofs.Outcomes.{if_err}
use Rattle.seq_arith.specs.PacketGrammar.{reading}
use Rattle.segment_codec.specs.Value.{seen, segment_of}
use Rattle.ft_model.specs.Node.{is_for}
use Rattle.ft_model.specs.Node.Input.{Noise_comes}
use Rattle.ft_model.specs.World.{segment_or_noise}
use Rattle.lasting_laws.specs.LastingTurn.LastingInput.{Usual_comes}
use Rattle.server_node.specs.Places.{is_serving}
use Rattle.lasting_node.specs.Turns.{LastingTurns, NodeProceeds, sent_by}
use Rattle.lasting_node.proofs.Passing.{noise_passes, other_passes, waiting_passes}
use Rattle.lasting_node.proofs.Reading.{memory_of_packet}
use Rattle.lasting_node.proofs.node.LastingNode.take_packet.Goals as goal

-- noise
pub returns-in_default-clause-turn : goal.returns-in_default-clause-turn
returns-in_default-clause-turn g c =
    let was = c.args.self.now in
    let noise : segment_or_noise (reading c.args.bytes.now) ≡ Noise_comes = ap segment_or_noise (sym c.read_packet.ensures ∙ ap seen c.in_default.is) in
    on_ok_weaker c.go.result
    (λ proceeds. subst (λ i. LastingTurns (Usual_comes i) was c.go.new.self (sent_by c.go.new.self)) (sym noise)
    (noise_passes was c.go.new.self c.requires c.go.ensures.alone (subst (λ i. NodeProceeds i was c.go.new.self) noise proceeds))) c.go.ensures.turn

pub returns-in_default-clause-fenced : goal.returns-in_default-clause-fenced
returns-in_default-clause-fenced g c = if_err c.go.result (λ end f. memory_of_packet c.args.self.now.node.who (reading c.args.bytes.now) end f) c.go.ensures.fenced

-- a segment for another server
pub returns-then-not-is_for-clause-turn : goal.returns-then-not-is_for-clause-turn
returns-then-not-is_for-clause-turn g c =
    let was = c.args.self.now in
    let reads : reading c.args.bytes.now ≡ Ok (segment_of c.in-Ok.segment) = sym c.read_packet.ensures ∙ ap seen c.in-Ok.is in
    let other : is_for was.node.who.local (segment_of c.in-Ok.segment) ≡ false = ap (λ w. is_for w.local (segment_of c.in-Ok.segment)) (sym c.who.ensures) ∙ (sym c.is_for.ensures ∙ c.if-not-is_for.true) in
    on_ok_weaker c.go-then-not-is_for.result
    (λ proceeds. subst (λ r. LastingTurns (Usual_comes (segment_or_noise r)) was c.go-then-not-is_for.new.self (sent_by c.go-then-not-is_for.new.self)) (sym reads)
    (other_passes was c.go-then-not-is_for.new.self c.requires c.go-then-not-is_for.ensures.alone (segment_of c.in-Ok.segment) other
    (subst (λ r. NodeProceeds (segment_or_noise r) was c.go-then-not-is_for.new.self) reads proceeds))) c.go-then-not-is_for.ensures.turn

pub returns-then-not-is_for-clause-fenced : goal.returns-then-not-is_for-clause-fenced
returns-then-not-is_for-clause-fenced g c = if_err c.go-then-not-is_for.result (λ end f. memory_of_packet c.args.self.now.node.who (reading c.args.bytes.now) end f) c.go-then-not-is_for.ensures.fenced

-- a segment, while the node restarts
pub returns-then-not-is_serving-clause-turn : goal.returns-then-not-is_serving-clause-turn
returns-then-not-is_serving-clause-turn g c =
    let was = c.args.self.now in
    let reads : reading c.args.bytes.now ≡ Ok (segment_of c.in-Ok.segment) = sym c.read_packet.ensures ∙ ap seen c.in-Ok.is in
    let waits : is_serving was.node.stage ≡ false = sym c.is_serving.ensures ∙ c.if-not-is_serving.true in
    on_ok_weaker c.go-then-not-is_serving.result
    (λ proceeds. subst (λ r. LastingTurns (Usual_comes (segment_or_noise r)) was c.go-then-not-is_serving.new.self (sent_by c.go-then-not-is_serving.new.self)) (sym reads)
    (waiting_passes was c.go-then-not-is_serving.new.self c.requires c.go-then-not-is_serving.ensures.alone (segment_of c.in-Ok.segment) waits
    (subst (λ r. NodeProceeds (segment_or_noise r) was c.go-then-not-is_serving.new.self) reads proceeds))) c.go-then-not-is_serving.ensures.turn

pub returns-then-not-is_serving-clause-fenced : goal.returns-then-not-is_serving-clause-fenced
returns-then-not-is_serving-clause-fenced g c = if_err c.go-then-not-is_serving.result (λ end f. memory_of_packet c.args.self.now.node.who (reading c.args.bytes.now) end f) c.go-then-not-is_serving.ensures.fenced

pub take_segment-requires-clause-read : goal.take_segment-requires-clause-read
take_segment-requires-clause-read g c = sym c.read_packet.ensures ∙ ap seen c.in-Ok.is

pub returns-clause-turn : goal.returns-clause-turn
returns-clause-turn g c =
    let was = c.args.self.now in
    let reads : reading c.args.bytes.now ≡ Ok (segment_of c.in-Ok.segment) = sym c.read_packet.ensures ∙ ap seen c.in-Ok.is in
    on_ok_weaker c.take_segment.result
    (λ t. subst (λ r. LastingTurns (Usual_comes (segment_or_noise r)) was c.take_segment.new.self (sent_by c.take_segment.new.self)) (sym reads) t) c.take_segment.ensures.turn

pub take_segment-requires-clause-ours : goal.take_segment-requires-clause-ours
take_segment-requires-clause-ours g c = ap (λ w. is_for w.local (segment_of c.in-Ok.segment)) (sym c.who.ensures) ∙ (sym c.is_for.ensures ∙ c.if-not-is_for.false)

pub take_segment-requires-clause-serving : goal.take_segment-requires-clause-serving
take_segment-requires-clause-serving g c = sym c.is_serving.ensures ∙ c.if-not-is_serving.false
