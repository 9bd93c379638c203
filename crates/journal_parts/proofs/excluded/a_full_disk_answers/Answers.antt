use Rattle.std.proofs.Common.{subst}
use Rattle.std.proofs.lemmas.Result.{on_err_weaker}
use Rattle.ft_io.specs.Reported.{Reports}
use Rattle.journal_parts.proofs.excluded.a_full_disk_answers.Goals as goal

pub returns : goal.returns
returns g c =
    on_err_weaker c.take_round.result
    (λ cut. (
      cut.received,
      cut.unanswered.done,
      subst (Reports (g.K.Disk.reported c.args.desk.now) (g.K.Disk.reported c.take_round.new.desk)) cut.unanswered.calls_are cut.reports,
    ))
    c.take_round.ensures.stopped
