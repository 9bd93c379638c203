use Rattle.std.proofs.Common.{arith}
use Rattle.reincarnate.proofs.Questions.{bytes_askable, cuts_askable, few_reads}
use Rattle.reincarnate.proofs.fetched_entry.FetchedEntry.question.Goals as goal

pub returns-in-Bytes-clause-sendable : goal.returns-in-Bytes-clause-sendable
returns-in-Bytes-clause-sendable g c =
    bytes_askable c.self.inside.head.key c.self.inside.bytes c.fit_key.ensures (omega (arith, c.self.invariant.bytes, c.self.invariant.stream))

pub returns-in-Lengths-clause-sendable : goal.returns-in-Lengths-clause-sendable
returns-in-Lengths-clause-sendable g c =
    let s = c.self.invariant in
    let cuts = c.self.inside.cuts in
    cuts_askable c.self.inside.head.key cuts.count c.fit_key.ensures (few_reads cuts.count cuts.sum c.self.inside.head.length cuts.ended s.have s.cuts s.stream)
