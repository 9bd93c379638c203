use Rattle.std.proofs.Common.{◌∙◌, arith}
use Rattle.ft_io.proofs.Outcomes.{at_err}
use Rattle.journal_parts.proofs.Gathering.{room_to_receive, gathering_cut, gathered_with, gathering_on}
use Rattle.journal_parts.proofs.Waiting.{waited_on}
use Rattle.journal_parts.proofs.rounds.gather.Goals as goal

pub take_next-requires-clause-counts : goal.take_next-requires-clause-counts
take_next-requires-clause-counts g c =
    room_to_receive c.loop-count.count c.args.most c.args.kept.now c.loop-count.kept (g.K.Disk.reported c.args.desk.now) (g.K.Disk.reported c.loop-count.desk) c.args.counts.now
    c.loop-count.counts c.loop-count.answers.items c.loop-count-test.true c.requires.within c.requires.counts c.loop-count.invariant.gathering

pub returns-in_err-take_next-clause-cut_off : goal.returns-in_err-take_next-clause-cut_off
returns-in_err-take_next-clause-cut_off g c =
    at_err c.from_residual.result
    (gathering_cut c.loop-count.count c.args.most c.args.kept.now c.loop-count.kept (g.K.Disk.reported c.args.desk.now) (g.K.Disk.reported c.loop-count.desk) (g.K.Disk.reported c.take_next.new.desk)
    c.args.counts.now c.loop-count.counts c.loop-count.answers.items c.loop-count-test.true c.requires.within c.loop-count.invariant.gathering c.in_err-take_next.ensures.cut_off)

pub returns-then-not-branch-clause-gathered : goal.returns-then-not-branch-clause-gathered
returns-then-not-branch-clause-gathered g c =
    gathered_with c.loop-count.count c.args.most c.in_ok-take_next.field-0 c.args.kept.now c.loop-count.kept c.take_next.new.kept (g.K.Disk.reported c.args.desk.now)
    (g.K.Disk.reported c.loop-count.desk) (g.K.Disk.reported c.take_next.new.desk) c.args.counts.now c.loop-count.counts c.take_next.new.counts c.loop-count.answers.items
    c.take_next.new.answers.items c.loop-count-test.true c.requires.within c.loop-count.invariant.gathering c.in_ok-take_next.ensures.taken

pub loop-count-preserved : goal.loop-count-preserved
loop-count-preserved g c = record {
  gathering =
      gathering_on c.loop-count.count c.in_ok-take_next.field-0 c.args.kept.now c.loop-count.kept c.take_next.new.kept (g.K.Disk.reported c.args.desk.now) (g.K.Disk.reported c.loop-count.desk)
      (g.K.Disk.reported c.take_next.new.desk) c.args.counts.now c.loop-count.counts c.take_next.new.counts c.loop-count.answers.items c.take_next.new.answers.items
      c.if-not-branch.false c.loop-count.invariant.gathering c.in_ok-take_next.ensures.taken;
  no_disk_fault = c.take_next.ensures.no_disk_fault ∙ c.loop-count.invariant.no_disk_fault;
  no_bind_fault = c.take_next.ensures.no_bind_fault ∙ c.loop-count.invariant.no_bind_fault;
  waited = waited_on c.loop-count.count (g.K.Disk.beside c.args.desk.now).waits (g.K.Disk.beside c.loop-count.desk).waits (g.K.Disk.beside c.take_next.new.desk).waits
      c.loop-count.invariant.waited c.take_next.ensures.waited;
  few = omega (arith, c.take_next.ensures.few, c.loop-count.invariant.few);
  capacity = c.take_next.ensures.capacity ∙ c.loop-count.invariant.capacity;
}

pub returns-then-not-branch-clause-waited : goal.returns-then-not-branch-clause-waited
returns-then-not-branch-clause-waited g c =
    waited_on c.loop-count.count (g.K.Disk.beside c.args.desk.now).waits (g.K.Disk.beside c.loop-count.desk).waits (g.K.Disk.beside c.take_next.new.desk).waits
    c.loop-count.invariant.waited c.take_next.ensures.waited

pub take_next-requires-clause-space : goal.take_next-requires-clause-space
take_next-requires-clause-space g c =
    omega (arith, c.loop-count.invariant.few, c.loop-count.invariant.capacity, c.loop-count-test.true, c.requires.within, c.requires.room)
