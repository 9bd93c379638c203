use Rattle.std.proofs.Common.{[], ◌∷◌, false}
use Rattle.std.proofs.lemmas.Result.{on_err_weaker}
use Rattle.disk.specs.declared.calls.DiskCall.TheVariants.{Cut, Synced}
use Rattle.ft_io.proofs.Outcomes.{at_err}
use Rattle.kept_log.proofs.Settled.{IsFrontReported, first_failed, sync_failed, some_cut}
use Rattle.kept_log.proofs.opening.cut_tail.Goals as goal

pub returns-in_err-cut-clause-stopped : goal.returns-in_err-cut-clause-stopped
returns-in_err-cut-clause-stopped g c =
    let reported = g.D.Disk.reported in
    at_err c.from_residual.result
    (some_cut (λ calls. IsFrontReported calls (reported c.args.disk.now) (reported c.cut.new.self)) c.args.end c.args.tail c.if-tail-eq0.false
    (first_failed (Cut c.args.end false) (Synced false ∷ []) (reported c.args.disk.now) (reported c.cut.new.self) c.in_err-cut.ensures.reported))

pub returns-clause-stopped : goal.returns-clause-stopped
returns-clause-stopped g c =
    let reported = g.D.Disk.reported in
    on_err_weaker c.sync.result (λ front. some_cut (λ calls. IsFrontReported calls (reported c.args.disk.now) (reported c.sync.new.self)) c.args.end c.args.tail c.if-tail-eq0.false front)
    (sync_failed (Cut c.args.end false) (reported c.args.disk.now) (reported c.cut.new.self) (reported c.sync.new.self) c.sync.result c.in_ok-cut.ensures.reported c.sync.ensures.reported)
