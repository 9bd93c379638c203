use Rattle.std.proofs.Common.{◌∙◌, sym, subst, arith}
use Rattle.log_snapshot.specs.Steps.{IsSaid}
use Rattle.kept_log.proofs.Files.{quiet_on}
use Rattle.kept_log.proofs.Said.{IsPartly, partly_on}
use Rattle.kept_log.proofs.snapshot.write_entry.Goals as goal

pub loop-next-preserved : goal.loop-next-preserved
loop-next-preserved g c =
    let t = g.K.Disk.reported in
    let a = g.K.Desk.aside in
    let s = c.loop-next.invariant in
    let says = c.write_step-next.ensures.says in (
      partly_on c.args.boot c.args.entry.now (a c.args.desk.now) (a c.loop-next.desk) (a c.take.new.desk) c.args.draft.now c.loop-next.draft c.take.new.self c.in-Some.step c.write_step-next.result says.0
          (subst (IsPartly c.args.boot c.args.entry.now (a c.args.desk.now) c.args.draft.now (a c.loop-next.desk) c.loop-next.draft) c.in-Some.is s.0)
          (c.in_ok-take.ensures.taken c.args.grammar says.0 (subst (IsSaid c.args.grammar says.0) (sym c.bytes.ensures.value) says.1)) says.2,
      quiet_on (t c.args.desk.now) (t c.loop-next.desk) (t c.take.new.desk) s.1 c.take.ensures.reported,
      omega (arith, s.2, c.take.ensures.never_falls),
      c.take.ensures.beside ∙ s.3,
    )
