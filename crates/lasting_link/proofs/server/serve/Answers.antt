use Rattle.std.proofs.Common.{◌∙◌, sym, subst}
use Rattle.lasting_link.specs.LastingParts.{EndsLasting}
use Rattle.lasting_link.proofs.LastingRun.{serving_none, serving_on, serving_stops, room_for_turn}
use Rattle.lasting_link.proofs.server.serve.Goals as goal
use Rattle.ft_io.proofs.Outcomes.{of_error}

pub take_turn-requires : goal.take_turn-requires
take_turn-requires g c =
    room_for_turn c.args.role.now c.loop-turn._turn c.args.role.now.server.turns c.loop-turn.node (g.L.Link.reported c.args.link.now) (g.L.Link.reported c.loop-turn.link) c.loop-turn.counts
    c.loop-turn-test.true c.requires.server.turns c.loop-turn.invariant.0

pub loop-turn-init : goal.loop-turn-init
loop-turn-init g c = (
  serving_none c.args.role.now c.in_ok-node.node (g.L.Link.reported c.args.link.now) (g.L.Link.reported c.boot.new.link) c.new-counts.result c.boot.new.counts c.new-counts.ensures c.in_ok-node.ensures.booted,
  c.boot.ensures.no_bind_fault,
)

pub loop-turn-preserved : goal.loop-turn-preserved
loop-turn-preserved g c = (
  serving_on c.args.role.now c.loop-turn._turn c.loop-turn.node c.take_turn.new.node (g.L.Link.reported c.args.link.now) (g.L.Link.reported c.loop-turn.link) (g.L.Link.reported c.take_turn.new.link)
      c.loop-turn.counts c.take_turn.new.counts c.loop-turn.invariant.0 c.in_ok-take_turn.ensures.turned,
  c.take_turn.ensures.no_bind_fault ∙ c.loop-turn.invariant.1,
)

pub returns-in_err-take_turn-clause-stops : goal.returns-in_err-take_turn-clause-stops
returns-in_err-take_turn-clause-stops g c =
    of_error c.from_residual-in_err-take_turn.result c.from_residual-in_err-take_turn.ensures.1
    (λ end is. serving_stops c.args.role.now c.loop-turn._turn c.loop-turn.node (g.L.Link.reported c.args.link.now) (g.L.Link.reported c.loop-turn.link) (g.L.Link.reported c.take_turn.new.link)
    c.loop-turn.counts end c.loop-turn-test.true c.loop-turn.invariant.0
    (subst (EndsLasting c.args.role.now.server.loggers c.loop-turn.node (g.L.Link.reported c.loop-turn.link) (g.L.Link.reported c.take_turn.new.link)) (sym is) c.in_err-take_turn.ensures.stops))
