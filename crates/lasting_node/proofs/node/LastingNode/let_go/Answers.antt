use Rattle.std.proofs.Common.{◌≡◌, ◌∙◌, ◌++◌, [], length, take, Ok, refl, sym, ap, ap₂, subst}
use Rattle.seq_arith.specs.Packet.{Segment}
use Rattle.seq_arith.specs.PacketGrammar.{reading}
use Rattle.seq_arith.specs.Value.{said}
use Rattle.seq_arith.proofs.Spelling.{size}
use Rattle.ft_model.specs.World.{segment_or_noise}
use Rattle.long_laws.specs.LongTrace.{last_rst}
use Rattle.ft_io.proofs.Outcomes.{of_error}
use Rattle.server_node.specs.StageTurns.{IsFenceOf}
use Rattle.node_serving.specs.Identity.{service_of}
use Rattle.ft_model.specs.Lawful.{IsNearInput, IsSoundInput}
use Rattle.lasting_node.specs.Turns.{NodeWent}
use Rattle.lasting_node.proofs.Going.{places_differ}
use Rattle.lasting_node.proofs.Reading.{memory_of_packet}
use Rattle.lasting_node.proofs.Tended.{let_go_tends}
use Rattle.lasting_node.proofs.TendOne.{rst_near_at}
use Rattle.lasting_node.proofs.node.LastingNode.let_go.Goals as goal

pub slice_bounds-go-end : goal.slice_bounds-go-end
slice_bounds-go-end g c =
    let segment : Segment = record { head = said c.args.rst; payload = [] } in
    c.write_packet-len.ensures.length ∙ sym (size segment) ∙ sym (ap length c.write_packet-len.ensures.front)

pub returns-clause-turn : goal.returns-clause-turn
returns-clause-turn g c = λ n p st there small gone rst.
    let was = c.args.self.now in
    let service = service_of g.S.Service was.node.who in
    let mid = c.go.new.self in
    let reads : reading (take c.write_packet-len.result c.write_packet-len.new.out) ≡ Ok (last_rst n.node.server p) = c.write_packet-len.ensures.read ∙ ap Ok rst in
    let near = rst_near_at n.node.server p n.node.stage (places_differ service n.node was.node.stage st.stage c.apart.ensures) there small in
    let w = subst (λ r. NodeWent service n (segment_or_noise r) mid) reads
    (c.in_ok-go.ensures.turn n (subst (λ r. IsNearInput n.node.server (segment_or_noise r) n.node.stage) (sym reads) near) (subst (λ r. IsSoundInput service n.node (segment_or_noise r) n.node.stage) (sym reads) tt)
    (record { who = st.who; stage = st.stage })) in
    let_go_tends n p was mid _ st there gone w c.go.ensures.alone.lives refl refl
    (c.in_ok-append.ensures ∙ ap₂ (λ a b. a ++ b) (ap (λ t. t.sent.items) c.go.ensures.alone.own) c.sent.ensures)

pub returns-in_err-go-clause-fenced : goal.returns-in_err-go-clause-fenced
returns-in_err-go-clause-fenced g c =
    let who = c.args.self.now.node.who in
    let read = reading (take c.write_packet-len.result c.write_packet-len.new.out) in
    of_error c.from_residual.result c.from_residual.ensures.1 (λ end is. memory_of_packet who read end (subst (IsFenceOf who (segment_or_noise read)) (sym is) c.in_err-go.ensures.fenced))
