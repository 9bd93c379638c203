use Rattle.std.proofs.Common.{◌∙◌, refl}
use Rattle.link_parts.proofs.LoggerRun.{served_none, served_on, room_in_turn}
use Rattle.link_parts.proofs.logger.serve.Goals as goal

pub take_turn-requires : goal.take_turn-requires
take_turn-requires g c =
    room_in_turn c.args.heeded c.loop-turn._turn c.args.turns (g.L.Link.reported c.args.link.now) (g.L.Link.reported c.loop-turn.link) c.loop-turn.store c.loop-turn.counts c.loop-turn-test.true c.requires c.loop-turn.invariant.0

pub loop-turn-init : goal.loop-turn-init
loop-turn-init g c = (served_none c.args.heeded (g.L.Link.reported c.args.link.now) c.new-store.result c.new-counts.result c.new-store.ensures c.new-counts.ensures, refl)

pub loop-turn-preserved : goal.loop-turn-preserved
loop-turn-preserved g c = (
  served_on c.args.heeded c.loop-turn._turn (g.L.Link.reported c.args.link.now) (g.L.Link.reported c.loop-turn.link) (g.L.Link.reported c.take_turn.new.link) c.loop-turn.store c.take_turn.new.store
      c.loop-turn.counts c.take_turn.new.counts c.loop-turn.invariant.0 c.in_ok-take_turn.ensures.turned,
  c.take_turn.ensures.no_bind_fault ∙ c.loop-turn.invariant.1,
)
