use Rattle.ft_io.proofs.Outcomes.{at_err}
use Rattle.kept_log.proofs.Drafts.{compacted, cut_compaction}
use Rattle.kept_log.proofs.snapshot.replace_file.Goals as goal

pub returns-in_err-take_place-clause-failed : goal.returns-in_err-take_place-clause-failed
returns-in_err-take_place-clause-failed g c =
    let t = g.K.Disk.reported in
    at_err c.from_residual.result
    (cut_compaction c.args.made.now c.in-Ok.tip c.args.store.now (g.K.Desk.aside_synced c.write_snapshot.new.desk) (t c.args.desk.now) (t c.write_snapshot.new.desk) (t c.take_place.new.desk)
    c.requires.time c.in-Ok.ensures.written c.write_snapshot.ensures.reported c.in_err-take_place.ensures.failed)

pub returns-clause-replaced : goal.returns-clause-replaced
returns-clause-replaced g c =
    let t = g.K.Disk.reported in
    compacted c.args.made.now c.in-Ok.tip c.args.store.now (g.K.Desk.aside_synced c.write_snapshot.new.desk) (t c.args.desk.now) (t c.write_snapshot.new.desk) (t c.take_place.new.desk)
    c.requires.time c.in-Ok.ensures.written c.write_snapshot.ensures.reported c.in_ok-take_place.ensures.replaced
