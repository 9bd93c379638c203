use Rattle.std.proofs.Common.{inr, subst}
use Rattle.kept_log.specs.Startup.{IsCutShort, HasStopped}
use Rattle.kept_log.specs.ReadSteps.{FindsAs}
use Rattle.kept_log.specs.declared.reading.Found.TheVariants.{Whole}
use Rattle.kept_log.specs.declared.opening.OpenEnd.TheVariants.{Failed}
use Rattle.kept_log.proofs.Settled.{if_err, whole_opened, whole_stopped}
use Rattle.kept_log.proofs.opening.open_file.Goals as goal

pub returns-in_err-cut_tail-in-Whole-clause-stopped : goal.returns-in_err-cut_tail-in-Whole-clause-stopped
returns-in_err-cut_tail-in-Whole-clause-stopped g c =
    let left = g.D.Disk.left in
    let reported = g.D.Disk.reported in
    let found : FindsAs (left c.args.disk.now) c.read_file.new.store (Whole c.in-Whole.tip c.in-Whole.tail) = subst (FindsAs (left c.args.disk.now) c.read_file.new.store) c.in-Whole.is c.in_ok-tip.ensures.found in
    let short : IsCutShort (left c.args.disk.now) (reported c.args.disk.now) (reported c.cut_tail.new.disk) =
    whole_stopped (left c.args.disk.now) (reported c.args.disk.now) (reported c.read_file.new.disk) (reported c.cut_tail.new.disk) c.read_file.new.store c.read_file.ensures.reported c.in-Whole.tip c.in-Whole.tail
    found c.in_err-cut_tail-in-Whole.ensures.stopped in
    if_err c.from_residual-in_err-cut_tail-in-Whole.result Failed (HasStopped (left c.args.disk.now) (reported c.args.disk.now) (reported c.cut_tail.new.disk))
    c.from_residual-in_err-cut_tail-in-Whole.ensures.1 (inr short)

pub returns-in_ok-cut_tail-in-Whole-clause-opened : goal.returns-in_ok-cut_tail-in-Whole-clause-opened
returns-in_ok-cut_tail-in-Whole-clause-opened g c =
    let left = g.D.Disk.left in
    let reported = g.D.Disk.reported in
    let found : FindsAs (left c.args.disk.now) c.read_file.new.store (Whole c.in-Whole.tip c.in-Whole.tail) = subst (FindsAs (left c.args.disk.now) c.read_file.new.store) c.in-Whole.is c.in_ok-tip.ensures.found in
    whole_opened (left c.args.disk.now) (reported c.args.disk.now) (reported c.read_file.new.disk) (reported c.cut_tail.new.disk) c.read_file.new.store c.read_file.ensures.reported c.in-Whole.tip c.in-Whole.tail
    found c.in_ok-cut_tail-in-Whole.ensures.cut
