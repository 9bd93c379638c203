use Rattle.std.proofs.Common.{List, ℕ, subst}
use Rattle.ft_io.specs.Reported.{Reports}
use Rattle.disk.specs.CallRecord.{on_disk}
use Rattle.seq_arith.specs.MessageGrammar.{number_bytes}
use Rattle.kept_log.specs.Format.{making}
use Rattle.kept_log.proofs.kept.KeptLog.begin.Goals as goal

pub returns-clause-reported : goal.returns-clause-reported
unfolding number_bytes
returns-clause-reported g c =
    subst (λ (b : List ℕ). Reports (g.D.Disk.reported c.args.disk.now) (g.D.Disk.reported c.make.new.disk) (on_disk (making b))) c.to_be_bytes.ensures c.in_ok-tip.ensures.made
