use Rattle.ft_io.proofs.Outcomes.{at_err}
use Rattle.kept_log.proofs.Drafts.{unnamed, unsynced}
use Rattle.kept_log.proofs.snapshot.take_place.Goals as goal

pub returns-in_err-replace-clause-failed : goal.returns-in_err-replace-clause-failed
returns-in_err-replace-clause-failed g c =
    at_err c.from_residual.result
    (unnamed (g.K.Desk.aside_synced c.args.desk.now) (g.K.Disk.reported c.args.desk.now) (g.K.Disk.reported c.replace.new.self) c.in_err-replace.ensures.reported)

pub returns-in_err-sync-clause-failed : goal.returns-in_err-sync-clause-failed
returns-in_err-sync-clause-failed g c =
    at_err c.from_residual-in_err-sync.result
    (unsynced (g.K.Desk.aside_synced c.args.desk.now) (g.K.Disk.reported c.args.desk.now) (g.K.Disk.reported c.replace.new.self) (g.K.Disk.reported c.sync.new.self) c.in_ok-replace.ensures.reported
    c.in_err-sync.ensures.reported)
