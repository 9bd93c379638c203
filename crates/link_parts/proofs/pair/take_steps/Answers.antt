use Rattle.std.proofs.Common.{◌<◌, ◌∙◌, length, sym, subst, arith}
use Rattle.link_parts.specs.declared.pair.PairFault.{PairFault}
use Rattle.link_parts.specs.PairParts.{StepStops}
use Rattle.link_parts.proofs.Pairing.{proceeds, step_stops}
use Rattle.link_parts.proofs.pair.take_steps.Goals as goal
use Rattle.ft_io.proofs.Outcomes.{of_error}

pub loop-step-preserved : goal.loop-step-preserved
loop-step-preserved g c =
    let within : c.loop-step.step-index < length c.args.steps.now = omega (arith, c.loop-step-test.true) in (
      proceeds c.args.steps.now c.loop-step.step-index (g.P.Spawner.started c.args.kids.now) c.step-item.result c.loop-step.children (g.P.Spawner.started c.loop-step.kids)
          (g.P.Spawner.reported c.args.kids.now) (g.P.Spawner.reported c.loop-step.kids) (g.O.Sink.taken c.args.out.now) (g.O.Sink.taken c.loop-step.out) within c.step-item.is
          c.loop-step.invariant.0 c.take_step.new.children (g.P.Spawner.started c.take_step.new.kids) (g.P.Spawner.reported c.take_step.new.kids) (g.O.Sink.taken c.take_step.new.out)
          c.in_ok-take_step.ensures.done,
      c.in_ok-take_step.ensures.no_child_fault ∙ c.loop-step.invariant.1,
      c.in_ok-take_step.ensures.no_write_fault ∙ c.loop-step.invariant.2,
    )

pub returns-in_err-take_step-clause-stops : goal.returns-in_err-take_step-clause-stops
returns-in_err-take_step-clause-stops g c =
    let within : c.loop-step.step-index < length c.args.steps.now = omega (arith, c.loop-step-test.true) in
    of_error c.from_residual.result c.from_residual.ensures.1
    (λ fault is. step_stops c.args.steps.now c.loop-step.step-index (g.P.Spawner.started c.args.kids.now) c.step-item.result c.loop-step.children (g.P.Spawner.started c.loop-step.kids)
    (g.P.Spawner.reported c.args.kids.now) (g.P.Spawner.reported c.loop-step.kids) (g.O.Sink.taken c.args.out.now) (g.O.Sink.taken c.loop-step.out) within c.step-item.is
    c.loop-step.invariant.0 (g.P.Spawner.reported c.take_step.new.kids) (g.O.Sink.taken c.take_step.new.out) fault
    (subst
    (λ (f : PairFault). StepStops c.step-item.result c.loop-step.children (g.P.Spawner.started c.loop-step.kids) (g.P.Spawner.reported c.loop-step.kids)
    (g.P.Spawner.reported c.take_step.new.kids) (g.O.Sink.taken c.loop-step.out) (g.O.Sink.taken c.take_step.new.out) f)
    (sym is) c.in_err-take_step.ensures.stops))
