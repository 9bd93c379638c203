use Rattle.std.proofs.Common.{◌≡◌, ◌∙◌, ◌≤◌, ◌^◌, sym, ap, subst, length, take, Some, Err, arith}
use Rattle.node_serving.specs.Identity.{grammar_in}
use Rattle.lasting_node.specs.Turns.{lasting_input_of, LastingTurns, IsFenceOfLasting}
use Rattle.link_parts.specs.Receipt.{datagram, IsQuiet}
use Rattle.link_parts.proofs.Fronts.{at_some}
use Rattle.ft_io.proofs.Outcomes.{of_error}
use Rattle.lasting_link.proofs.LastingRun.{turned, turn_ends}
use Rattle.lasting_link.proofs.server.take_turn.Goals as goal

pub returns-in_err-turn-clause-stops : goal.returns-in_err-turn-clause-stops
returns-in_err-turn-clause-stops g c =
    let r = c.receive-came.ensures.received in
    let grammar = grammar_in c.args.node.now.node.who in
    of_error c.from_residual.result c.from_residual.ensures.1
    (λ end is. turn_ends c.args.loggers c.args.node.now (g.L.Link.reported c.args.link.now) (g.L.Link.reported c.receive-came.new.link) r.0 (lasting_input_of grammar c.input_of.result) end r.1
    (c.input_of.ensures grammar r.0 (at_some c.receive-came.result (IsQuiet r.0) (λ g. (g.0 ≤ length c.receive-came.new.buffer) × (r.0 ≡ datagram g.1 (take g.0 c.receive-came.new.buffer)))
    (λ g. r.0 ≡ datagram g.1 (take g.0 c.receive-came.new.buffer)) (λ g h. h.1) r.3))
    (subst (IsFenceOfLasting c.args.node.now.node.who (lasting_input_of grammar c.input_of.result)) (sym is) c.in_err-turn.ensures.fenced)
    (λ lost. c.in_err-turn.ensures.memory (ap (λ e. Err e) (sym is ∙ lost))))

pub returns-clause-turned : goal.returns-clause-turned
returns-clause-turned g c =
    let r = c.receive-came.ensures.received in
    let grammar = grammar_in c.args.node.now.node.who in
    let few : length c.sent.result.now ≤ 2 ^ 64 = omega (arith, c.send_all.ensures.short) in
    turned c.args.loggers c.args.node.now c.turn.new.self (g.L.Link.reported c.args.link.now) (g.L.Link.reported c.receive-came.new.link) (g.L.Link.reported c.send_all.new.link) c.args.counts.now
    c.receive-came.new.counts c.send_all.new.counts r.0 (lasting_input_of grammar c.input_of.result) c.sent.result.now r.1 r.2
    (c.input_of.ensures grammar r.0 (at_some c.receive-came.result (IsQuiet r.0) (λ g. (g.0 ≤ length c.receive-came.new.buffer) × (r.0 ≡ datagram g.1 (take g.0 c.receive-came.new.buffer)))
    (λ g. r.0 ≡ datagram g.1 (take g.0 c.receive-came.new.buffer)) (λ g h. h.1) r.3)) few c.send_all.ensures.sent c.turn.ensures.same.0 c.turn.ensures.same.1
    (subst (λ w. LastingTurns (lasting_input_of grammar c.input_of.result) c.args.node.now c.turn.new.self w) (sym c.sent.ensures) c.in_ok-turn.ensures.turn) c.in_ok-turn.ensures.unfenced
