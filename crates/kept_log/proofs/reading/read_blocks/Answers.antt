use Rattle.std.proofs.Common.{◌∙◌, subst, arith}
use Rattle.kept_log.specs.ReadSteps.{IsAt, Steps}
use Rattle.kept_log.proofs.Files.{quiet_on}
use Rattle.kept_log.proofs.Onward.{step_more, step_block}
use Rattle.kept_log.proofs.reading.read_blocks.Goals as goal
use Rattle.kept_log.proofs.reading.read_blocks.Goals.{in-Block, in-Short}

pub loop-step-preserved : goal.loop-step-preserved
loop-step-preserved g c =
    let left = g.D.Disk.left in
    let reported = g.D.Disk.reported in
    let inv = c.loop-step.invariant in
    let on : IsAt c.args.made.now c.args.window.now (left c.args.disk.now) (left c.step.new.disk) c.step.new.window c.step.new.tip c.step.new.store =
    elim c.match-branch-2.branch [
      | in-Block w ↦
          step_block c.args.made.now c.args.window.now (left c.args.disk.now) (left c.loop-step.disk) (left c.step.new.disk) c.loop-step.window c.step.new.window c.loop-step.tip c.step.new.tip
          c.loop-step.store c.step.new.store inv.0
          (subst (Steps (left c.loop-step.disk) (left c.step.new.disk) c.loop-step.tip c.step.new.tip c.loop-step.window c.step.new.window c.loop-step.store c.step.new.store) w.in-Block.is c.in_ok-step.ensures.stepped)
      | in-Short w ↦
          step_more c.args.made.now c.args.window.now (left c.args.disk.now) (left c.loop-step.disk) (left c.step.new.disk) c.loop-step.window c.step.new.window c.loop-step.tip c.step.new.tip
          c.loop-step.store c.step.new.store inv.0
          (subst (Steps (left c.loop-step.disk) (left c.step.new.disk) c.loop-step.tip c.step.new.tip c.loop-step.window c.step.new.window c.loop-step.store c.step.new.store) w.in-Short.is c.in_ok-step.ensures.stepped)
    ] in
    (on, quiet_on (reported c.args.disk.now) (reported c.loop-step.disk) (reported c.step.new.disk) inv.1 c.step.ensures.reported, omega (arith, inv.2, c.step.ensures.never_falls), c.step.ensures.beside ∙ inv.3)
