use Rattle.std.proofs.Common.{subst}
use Rattle.seq_arith.specs.Mark.{Mark}
use Rattle.seq_arith.specs.MarkGrammar.{IsSpellable}
use Rattle.logger_wire.specs.MarkValue.{mark_said, body_of}
use Rattle.mark_store.proofs.Steps.{mark_ranges, IsInRange}
use Rattle.mark_store.proofs.store.MarkStore.take.Goals as goal

pub take_mark-requires-clause-reads : goal.take_mark-requires-clause-reads
take_mark-requires-clause-reads c =
    let m : Mark = mark_said c.in-Mark.mark in
    let ranges : IsInRange m =
    mark_ranges c.args.m.now.boot c.in-Mark.key m (subst (λ b. IsSpellable (record { boot = c.args.m.now.boot; body = body_of b })) c.in-Mark.is c.requires) in ranges.reads

pub take_mark-requires-clause-length : goal.take_mark-requires-clause-length
take_mark-requires-clause-length c =
    let m : Mark = mark_said c.in-Mark.mark in
    let ranges : IsInRange m =
    mark_ranges c.args.m.now.boot c.in-Mark.key m (subst (λ b. IsSpellable (record { boot = c.args.m.now.boot; body = body_of b })) c.in-Mark.is c.requires) in ranges.bytes

pub take_mark-requires-clause-made : goal.take_mark-requires-clause-made
take_mark-requires-clause-made c =
    let m : Mark = mark_said c.in-Mark.mark in
    let ranges : IsInRange m =
    mark_ranges c.args.m.now.boot c.in-Mark.key m (subst (λ b. IsSpellable (record { boot = c.args.m.now.boot; body = body_of b })) c.in-Mark.is c.requires) in ranges.made

pub take_mark-requires-clause-state : goal.take_mark-requires-clause-state
take_mark-requires-clause-state c =
    let m : Mark = mark_said c.in-Mark.mark in
    let ranges : IsInRange m =
    mark_ranges c.args.m.now.boot c.in-Mark.key m (subst (λ b. IsSpellable (record { boot = c.args.m.now.boot; body = body_of b })) c.in-Mark.is c.requires) in ranges.state
