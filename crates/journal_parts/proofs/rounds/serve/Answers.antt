use Rattle.std.proofs.Common.{◌+◌, ◌∙◌, ◌≤◌, ap, subst, sym, arith}
use Rattle.journal_parts.specs.RoundParts.{place_of, HasCompacted, FailsToCompact, HasEndedBy}
use Rattle.link_parts.specs.declared.status.NodeEnd.TheVariants.{NoMemory}
use Rattle.journal_parts.specs.declared.status.ProcessEnd.TheVariants.{Node}
use Rattle.journal_parts.proofs.Living.{said_end}
use Rattle.journal_parts.proofs.Rounding.{room_for_round, served_on, readied, replacing_cut, serving_cut, ended_by, faulted_by, unbegun}
use Rattle.journal_parts.proofs.rounds.serve.Goals as goal

pub take_round-requires-clause-counts : goal.take_round-requires-clause-counts
take_round-requires-clause-counts g c =
    let s = c.loop-left.invariant in
    room_for_round c.args.compact s.done (place_of c.args.kept.now) (place_of c.loop-left.kept) (g.K.Disk.reported c.args.desk.now) (g.K.Disk.reported c.loop-left.desk) c.loop-left.counts
    (omega (arith, s.count_is, c.requires.within)) s.serving.served

pub loop-left-preserved : goal.loop-left-preserved
loop-left-preserved g c =
    let s = c.loop-left.invariant in
    let count = c.in_ok-left.ensures.count.1 in
    let least = c.min.ensures in
    let compacted = subst (λ n. HasCompacted n c.loop-left.compaction.last c.compact_if_due.new.compaction.last c.loop-left.kept c.compact_if_due.new.kept (g.K.Disk.reported c.loop-left.desk)
    (g.K.Disk.reported c.compact_if_due.new.desk)) s.least_is c.in_ok-compact_if_due.ensures.done in
    let ready = readied c.args.compact c.loop-left.compaction.last c.compact_if_due.new.compaction.last s.done (place_of c.args.kept.now) c.loop-left.kept c.compact_if_due.new.kept
    (g.K.Disk.reported c.args.desk.now) (g.K.Disk.reported c.loop-left.desk) (g.K.Disk.reported c.compact_if_due.new.desk) c.loop-left.counts s.serving compacted in
    record {
      done = s.done + c.in_ok-left.field-0;
      count_is = omega (arith, s.count_is, count, least);
      least_is = c.compact_if_due.ensures.least ∙ s.least_is;
      serving = served_on c.args.compact c.compact_if_due.new.compaction.last s.done c.in_ok-left.field-0 (place_of c.args.kept.now) c.compact_if_due.new.kept c.take_round.new.kept
          (g.K.Disk.reported c.args.desk.now) (g.K.Disk.reported c.compact_if_due.new.desk) (g.K.Disk.reported c.take_round.new.desk) c.loop-left.counts c.take_round.new.counts ready
          c.in_ok-left.ensures.turned;
      idle = c.in_ok-left.ensures.turned.idle;
      room = subst (λ n. 256 ≤ n) (sym c.take_round.ensures.capacity) s.room;
      never_falls = omega (arith, s.never_falls, c.take_round.ensures.never_falls, c.compact_if_due.ensures.never_falls);
      no_bind_fault = c.take_round.ensures.no_bind_fault ∙ (ap (λ b. b.bind_faults) c.compact_if_due.ensures.beside ∙ s.no_bind_fault);
    }

-- there was no memory for the answers of a round, so none has begun
pub returns-in_err-answers-clause-stopped : goal.returns-in_err-answers-clause-stopped
returns-in_err-answers-clause-stopped g c =
    said_end c.from_residual.result (Node NoMemory)
    (HasEndedBy c.args.compact c.args.turns (place_of c.args.kept.now) (g.K.Disk.reported c.args.desk.now) (g.K.Disk.reported c.args.desk.now)) c.from_residual.ensures.1
    (unbegun c.args.compact c.args.turns (place_of c.args.kept.now) (g.K.Disk.reported c.args.desk.now))

-- a new file was to take the place of the old one
pub returns-in_err-compact_if_due-clause-stopped : goal.returns-in_err-compact_if_due-clause-stopped
returns-in_err-compact_if_due-clause-stopped g c =
    let s = c.loop-left.invariant in
    let t = g.K.Disk.reported in
    let fails = subst (λ n. FailsToCompact n c.loop-left.compaction.last c.loop-left.kept (t c.loop-left.desk) (t c.compact_if_due.new.desk)) s.least_is
    c.in_err-compact_if_due.ensures.stopped in
    let cut = replacing_cut c.args.compact c.loop-left.compaction.last s.done c.args.turns (place_of c.args.kept.now) c.loop-left.kept (t c.args.desk.now) (t c.loop-left.desk)
    (t c.compact_if_due.new.desk) c.loop-left.counts (omega (arith, s.count_is)) s.serving fails in
    said_end c.from_residual-in_err-compact_if_due.result c.in_err-compact_if_due.field-0.0
    (HasEndedBy c.args.compact c.args.turns (place_of c.args.kept.now) (t c.args.desk.now) (t c.compact_if_due.new.desk)) c.from_residual-in_err-compact_if_due.ensures.1
    (faulted_by c.args.compact c.args.turns (place_of c.args.kept.now) (t c.args.desk.now) (t c.compact_if_due.new.desk) c.in_err-compact_if_due.field-0.0
    c.in_err-compact_if_due.ensures.fault cut)

-- a round wasn't answered
pub returns-in_err-left-clause-stopped : goal.returns-in_err-left-clause-stopped
returns-in_err-left-clause-stopped g c =
    let s = c.loop-left.invariant in
    let t = g.K.Disk.reported in
    let least = c.min.ensures in
    let compacted = subst (λ n. HasCompacted n c.loop-left.compaction.last c.compact_if_due.new.compaction.last c.loop-left.kept c.compact_if_due.new.kept (t c.loop-left.desk)
    (t c.compact_if_due.new.desk)) s.least_is c.in_ok-compact_if_due.ensures.done in
    let ready = readied c.args.compact c.loop-left.compaction.last c.compact_if_due.new.compaction.last s.done (place_of c.args.kept.now) c.loop-left.kept c.compact_if_due.new.kept
    (t c.args.desk.now) (t c.loop-left.desk) (t c.compact_if_due.new.desk) c.loop-left.counts s.serving compacted in
    let cut = serving_cut c.args.compact c.compact_if_due.new.compaction.last s.done c.min.result c.args.turns (place_of c.args.kept.now) (place_of c.compact_if_due.new.kept)
    (t c.args.desk.now) (t c.compact_if_due.new.desk) (t c.take_round.new.desk) c.loop-left.counts (omega (arith, s.count_is, least)) ready c.in_err-left.ensures.stopped in
    said_end c.from_residual-in_err-left.result c.in_err-left.field-0.0
    (HasEndedBy c.args.compact c.args.turns (place_of c.args.kept.now) (t c.args.desk.now) (t c.take_round.new.desk)) c.from_residual-in_err-left.ensures.1
    (ended_by c.args.compact c.args.turns (place_of c.args.kept.now) (t c.args.desk.now) (t c.take_round.new.desk) c.in_err-left.field-0.0 c.in_err-left.ensures.ends cut)
