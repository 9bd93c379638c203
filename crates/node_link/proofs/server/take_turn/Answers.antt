use Rattle.ft_model.specs.Legal.{machines}
use Rattle.std.proofs.Common.{◌≡◌, ◌∙◌, ◌≤◌, ◌^◌, sym, ap, subst, length, take, Some, Err, arith}
use Rattle.link_parts.specs.Receipt.{datagram, IsQuiet}
use Rattle.ft_model.specs.Node.{Stage as law_stage}
use Rattle.ft_model.specs.Lawful.{fence}
use Rattle.node_serving.specs.Identity.{node_of, grammar_in}
use Rattle.server_node.specs.Inputs.{input_of}
use Rattle.server_node.specs.Stages.{IsFence}
use Rattle.node_link.specs.ServerParts.{standing_of}
use Rattle.link_parts.proofs.Fronts.{at_some}
use Rattle.node_link.proofs.Serviced.{turned, turn_stops}
use Rattle.node_link.proofs.server.take_turn.Goals as goal
use Rattle.ft_io.proofs.Outcomes.{of_error}

pub returns-in_err-packets-clause-stops : goal.returns-in_err-packets-clause-stops
unfolding standing_of
returns-in_err-packets-clause-stops g c =
    let r = c.receive-came.ensures.received in
    of_error c.from_residual.result c.from_residual.ensures.1
    (λ end is. turn_stops c.args.loggers (standing_of c.args.node.now) (g.L.Link.reported c.args.link.now) (g.L.Link.reported c.receive-came.new.link) r.0 (input_of (grammar_in c.args.node.now.who) c.input_of.result) end r.1
    (c.input_of.ensures (grammar_in c.args.node.now.who) r.0 (at_some c.receive-came.result (IsQuiet r.0) (λ g. (g.0 ≤ length c.receive-came.new.buffer) × (r.0 ≡ datagram g.1 (take g.0 c.receive-came.new.buffer)))
    (λ g. r.0 ≡ datagram g.1 (take g.0 c.receive-came.new.buffer)) (λ g h. h.1) r.3))
    (subst (λ e. IsFence e (λ newer. (standing : law_stage) → fence (node_of c.args.node.now.who standing) (input_of (grammar_in c.args.node.now.who) c.input_of.result) ≡ Some newer)) (sym is) c.in_err-packets.ensures.fenced)
    (λ lost. c.in_err-packets.ensures.memory (ap (λ e. Err e) (sym is ∙ lost))))

pub returns-clause-turned : goal.returns-clause-turned
unfolding standing_of
returns-clause-turned g c =
    let r = c.receive-came.ensures.received in
    let went = (rw c.in_ok-packets.was at c.turn.follows.holds-at-none).0 in
    let few : length c.in_ok-packets.packets.now ≤ 2 ^ 64 = omega (arith, c.send_all.ensures.short) in
    turned (machines g.S.Service.started g.S.Service.after g.S.Service.greeting) c.args.loggers (standing_of c.args.node.now) (standing_of c.turn.follows.lender-at-none) (g.L.Link.reported c.args.link.now) (g.L.Link.reported c.receive-came.new.link) (g.L.Link.reported c.send_all.new.link)
    c.args.counts.now c.receive-came.new.counts c.send_all.new.counts r.0 (input_of (grammar_in c.args.node.now.who) c.input_of.result) c.in_ok-packets.packets.now r.1 r.2
    (c.input_of.ensures (grammar_in c.args.node.now.who) r.0 (at_some c.receive-came.result (IsQuiet r.0) (λ g. (g.0 ≤ length c.receive-came.new.buffer) × (r.0 ≡ datagram g.1 (take g.0 c.receive-came.new.buffer)))
    (λ g. r.0 ≡ datagram g.1 (take g.0 c.receive-came.new.buffer)) (λ g h. h.1) r.3)) few c.send_all.ensures.sent went.who went.turn went.apart c.in_ok-packets.ensures.unfenced
