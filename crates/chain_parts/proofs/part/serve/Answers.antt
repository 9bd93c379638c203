use Rattle.std.proofs.Common.{◌≡◌, ◌∙◌, ap, refl}
use Rattle.link_parts.specs.LoggerParts.{grammar_for}
use Rattle.chain_parts.specs.PartSteps.{standing_of}
use Rattle.chain_parts.specs.PartTurns.{at_start}
use Rattle.ft_io.proofs.Outcomes.{at_err}
use Rattle.chain_parts.proofs.PairRun.{serving_none, serving_on, room_in_turn, cut_before, cut_serving}
use Rattle.chain_parts.proofs.part.serve.Goals as goal

pub take_turn-requires : goal.take_turn-requires
take_turn-requires g c =
    room_in_turn c.args.role.now c.loop-turn._turn c.args.role.now.logger.turns (standing_of c.loop-turn.twin) (g.L.Link.reported c.args.link.now) (g.L.Link.reported c.loop-turn.link)
    c.loop-turn.counts c.loop-turn-test.true c.requires c.loop-turn.invariant.0

pub loop-turn-init : goal.loop-turn-init
loop-turn-init g c =
    let begun : standing_of c.in_ok-twin.twin ≡ at_start (grammar_for c.args.role.now.logger) c.args.role.now.part =
    c.in_ok-twin.ensures ∙ ap (λ grammar. at_start grammar c.args.role.now.part) c.grammar.ensures
    in (serving_none c.args.role.now (standing_of c.in_ok-twin.twin) (g.L.Link.reported c.args.link.now) c.new-counts.result begun c.new-counts.ensures, refl)

pub loop-turn-preserved : goal.loop-turn-preserved
loop-turn-preserved g c = (
  serving_on c.args.role.now c.loop-turn._turn (standing_of c.loop-turn.twin) (standing_of c.take_turn.new.twin) (g.L.Link.reported c.args.link.now) (g.L.Link.reported c.loop-turn.link)
      (g.L.Link.reported c.take_turn.new.link) c.loop-turn.counts c.take_turn.new.counts c.loop-turn.invariant.0 c.in_ok-take_turn.ensures.turned,
  c.take_turn.ensures.no_bind_fault ∙ c.loop-turn.invariant.1,
)

pub returns-in_err-twin-clause-cut_off : goal.returns-in_err-twin-clause-cut_off
returns-in_err-twin-clause-cut_off g c = at_err c.from_residual.result (cut_before c.args.role.now (g.L.Link.reported c.args.link.now))

pub returns-in_err-take_turn-clause-cut_off : goal.returns-in_err-take_turn-clause-cut_off
returns-in_err-take_turn-clause-cut_off g c =
    let off = c.in_err-take_turn.ensures.cut_off in
    at_err c.from_residual-in_err-take_turn.result
    (cut_serving c.args.role.now c.loop-turn._turn (standing_of c.loop-turn.twin) (g.L.Link.reported c.args.link.now) (g.L.Link.reported c.loop-turn.link) (g.L.Link.reported c.take_turn.new.link)
    c.loop-turn.counts off.0 c.loop-turn-test.true c.loop-turn.invariant.0 off.1 off.2)
