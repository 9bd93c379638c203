use Rattle.std.proofs.Common.{List, ℕ, OnOk, OnErr, subst}
use Rattle.std.specs.Io.KnownBytes.{Appends}
use Rattle.ft_io.specs.Sink.{AppendsFront}
use Rattle.journal_parts.specs.declared.status.ProcessEnd.TheVariants.{JournalFault, BadJournal, NoJournal, InUse}
use Rattle.journal_parts.proofs.EndReport.{reported_end}
use Rattle.journal_parts.proofs.status.report_end.Goals as goal

pub returns-in-JournalFault-clause-reported : goal.returns-in-JournalFault-clause-reported
returns-in-JournalFault-clause-reported g c =
    rw c.in-JournalFault.is (reported_end JournalFault c.write_all.result (g.E.Sink.taken c.args.err.now) (g.E.Sink.taken c.write_all.new.out) (g.E.Sink.fault_count c.args.err.now)
    (g.E.Sink.fault_count c.write_all.new.out) c.status_of.result.code c.write_all.ensures.whole c.write_all.ensures.front c.write_all.ensures.cause c.status_of.ensures.ok c.status_of.ensures.err)

pub returns-in-BadJournal-clause-reported : goal.returns-in-BadJournal-clause-reported
returns-in-BadJournal-clause-reported g c =
    rw c.in-BadJournal.is (reported_end (BadJournal c.in-BadJournal.at) c.write_place.result (g.E.Sink.taken c.args.err.now) (g.E.Sink.taken c.write_place.new.err)
    (g.E.Sink.fault_count c.args.err.now) (g.E.Sink.fault_count c.write_place.new.err) c.status_of-in-BadJournal.result.code c.write_place.ensures.whole c.write_place.ensures.front
    c.write_place.ensures.cause c.status_of-in-BadJournal.ensures.ok c.status_of-in-BadJournal.ensures.err)

pub returns-in-InUse-clause-reported : goal.returns-in-InUse-clause-reported
returns-in-InUse-clause-reported g c =
    rw c.in-InUse.is (reported_end InUse c.write_all-in-InUse.result (g.E.Sink.taken c.args.err.now) (g.E.Sink.taken c.write_all-in-InUse.new.out) (g.E.Sink.fault_count c.args.err.now)
    (g.E.Sink.fault_count c.write_all-in-InUse.new.out) c.status_of-in-InUse.result.code c.write_all-in-InUse.ensures.whole c.write_all-in-InUse.ensures.front
    c.write_all-in-InUse.ensures.cause c.status_of-in-InUse.ensures.ok c.status_of-in-InUse.ensures.err)

pub returns-in-NoJournal-clause-reported : goal.returns-in-NoJournal-clause-reported
returns-in-NoJournal-clause-reported g c =
    let written = c.write_all-in-NoJournal.result in
    let whole = subst (λ (t : List ℕ). OnOk written (Appends (g.E.Sink.taken c.args.err.now) (g.E.Sink.taken c.write_all-in-NoJournal.new.out) t)) c.line_of.ensures c.write_all-in-NoJournal.ensures.whole in
    let front = subst (λ (t : List ℕ). OnErr written (AppendsFront (g.E.Sink.taken c.args.err.now) (g.E.Sink.taken c.write_all-in-NoJournal.new.out) t)) c.line_of.ensures c.write_all-in-NoJournal.ensures.front in
    rw c.in-NoJournal.is (reported_end (NoJournal c.in-NoJournal.lack) written (g.E.Sink.taken c.args.err.now) (g.E.Sink.taken c.write_all-in-NoJournal.new.out)
    (g.E.Sink.fault_count c.args.err.now) (g.E.Sink.fault_count c.write_all-in-NoJournal.new.out) c.status_of-in-NoJournal.result.code whole front
    c.write_all-in-NoJournal.ensures.cause c.status_of-in-NoJournal.ensures.ok c.status_of-in-NoJournal.ensures.err)
