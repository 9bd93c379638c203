use Rattle.ft_model.specs.Legal.{machines}
use Rattle.std.proofs.Common.{◌∙◌, sym, subst}
use Rattle.node_link.specs.ServerParts.{standing_of, TurnStops}
use Rattle.node_link.proofs.Serviced.{serving_none, serving_on, serving_stops, room_for_turn}
use Rattle.node_link.proofs.server.serve.Goals as goal
use Rattle.ft_io.proofs.Outcomes.{of_error}

pub take_turn-requires : goal.take_turn-requires
take_turn-requires g c =
    room_for_turn (machines g.S.Service.started g.S.Service.after g.S.Service.greeting) c.args.role.now c.loop-turn._turn c.args.role.now.turns (standing_of c.loop-turn.node) (g.L.Link.reported c.args.link.now) (g.L.Link.reported c.loop-turn.link) c.loop-turn.counts c.loop-turn-test.true
    c.requires.turns c.loop-turn.invariant.0

pub loop-turn-init : goal.loop-turn-init
loop-turn-init g c = (
  serving_none (machines g.S.Service.started g.S.Service.after g.S.Service.greeting) c.args.role.now (standing_of c.in_ok-node.node) (g.L.Link.reported c.args.link.now) (g.L.Link.reported c.boot.new.link) c.new-counts.result c.boot.new.counts c.new-counts.ensures c.in_ok-node.ensures.booted,
  c.boot.ensures.no_bind_fault,
)

pub loop-turn-preserved : goal.loop-turn-preserved
loop-turn-preserved g c = (
  serving_on (machines g.S.Service.started g.S.Service.after g.S.Service.greeting) c.args.role.now c.loop-turn._turn (standing_of c.loop-turn.node) (standing_of c.take_turn.new.node) (g.L.Link.reported c.args.link.now) (g.L.Link.reported c.loop-turn.link) (g.L.Link.reported c.take_turn.new.link)
      c.loop-turn.counts c.take_turn.new.counts c.loop-turn.invariant.0 c.in_ok-take_turn.ensures.turned,
  c.take_turn.ensures.no_bind_fault ∙ c.loop-turn.invariant.1,
)

pub returns-in_err-take_turn-clause-stops : goal.returns-in_err-take_turn-clause-stops
returns-in_err-take_turn-clause-stops g c =
    of_error c.from_residual-in_err-take_turn.result c.from_residual-in_err-take_turn.ensures.1
    (λ end is. serving_stops (machines g.S.Service.started g.S.Service.after g.S.Service.greeting) c.args.role.now c.loop-turn._turn (standing_of c.loop-turn.node) (g.L.Link.reported c.args.link.now) (g.L.Link.reported c.loop-turn.link) (g.L.Link.reported c.take_turn.new.link)
    c.loop-turn.counts end c.loop-turn-test.true c.loop-turn.invariant.0
    (subst (TurnStops c.args.role.now.loggers (standing_of c.loop-turn.node) (g.L.Link.reported c.loop-turn.link) (g.L.Link.reported c.take_turn.new.link)) (sym is) c.in_err-take_turn.ensures.stops))
