use Rattle.std.proofs.Common.{arith, length, subst, sym}
use Rattle.link_parts.specs.Counts.{HasRoom}
use Rattle.ft_io.proofs.Outcomes.{at_err}
use Rattle.journal_parts.specs.RoundParts.{HasAnswered}
use Rattle.journal_parts.proofs.Rounding.{cut_by_commit, room_to_answer, turned}
use Rattle.journal_parts.proofs.rounds.take_round.Goals as goal

pub returns-in_err-commit-clause-stopped : goal.returns-in_err-commit-clause-stopped
returns-in_err-commit-clause-stopped g c =
    at_err c.from_residual-in_err-commit.result
    (cut_by_commit c.in_ok-count.count c.args.most c.args.kept.now c.gather.new.kept (g.K.Disk.reported c.args.desk.now) (g.K.Disk.reported c.gather.new.desk) (g.K.Disk.reported c.commit.new.disk)
    c.args.counts.now c.gather.new.counts c.gather.new.answers.items c.in_ok-count.ensures.count.1 c.requires.idle c.in_ok-count.ensures.gathered c.in_err-commit.ensures.stopped c.in_err-commit.ensures.some)

pub reply_to_all-requires : goal.reply_to_all-requires
reply_to_all-requires g c =
    subst (λ l. HasRoom (length l) c.gather.new.counts) (sym c.deref.ensures.value)
    (room_to_answer c.in_ok-count.count c.args.kept.now c.gather.new.kept (g.K.Disk.reported c.args.desk.now) (g.K.Disk.reported c.gather.new.desk) c.args.counts.now c.gather.new.counts
    c.gather.new.answers.items c.requires.counts c.in_ok-count.ensures.gathered (omega (arith, c.in_ok-count.ensures.count.1, c.requires.within)))

pub returns-clause-turned : goal.returns-clause-turned
returns-clause-turned g c =
    turned c.in_ok-count.count c.args.kept.now c.gather.new.kept c.commit.new.self (g.K.Disk.reported c.args.desk.now) (g.K.Disk.reported c.gather.new.desk) (g.K.Disk.reported c.commit.new.disk)
    (g.K.Disk.reported c.reply_to_all.new.desk) c.args.counts.now c.gather.new.counts c.reply_to_all.new.counts c.gather.new.answers.items c.requires.idle c.in_ok-count.ensures.gathered
    c.in_ok-commit.ensures.kept c.in_ok-commit.ensures.round c.in_ok-commit.ensures.log c.in_ok-commit.ensures.heeded c.in_ok-commit.ensures.tip
    (subst (λ l. HasAnswered l (g.K.Disk.reported c.commit.new.disk) (g.K.Disk.reported c.reply_to_all.new.desk) c.gather.new.counts c.reply_to_all.new.counts) c.deref.ensures.value c.reply_to_all.ensures.answered)
