use Rattle.std.proofs.Common.{◌-◌, ◌<◌, ◌++◌, ap, arith, length, ◌∙◌, sym, eqb-true}
use Rattle.std.specs.Prelude.{min}
use Rattle.std.proofs.lemmas.List.{take_rest}
use Rattle.tcp_buffers.proofs.Overwrites.{written_none, written_whole}
use Rattle.tcp_buffers.proofs.overwriting.overwrite.Goals as goal

pub returns-then-is_empty-clause-items : goal.returns-then-is_empty-clause-items
returns-then-is_empty-clause-items c = written_none c.args.from c.args.bytes.now c.args.queue.now.items (eqb-true _ _ (sym c.is_empty.ensures ∙ c.if-is_empty.true))

pub returns-clause-items : goal.returns-clause-items
returns-clause-items c =
    let some : 0 < length c.args.bytes.now = grind (arith, c.is_empty.ensures, c.if-is_empty.false) in
    written_whole c.args.from c.min-over.result c.args.bytes.now c.args.queue.now.items c.pad.new.queue.items c.set_all.new.queue.items _ some c.pad.ensures.long
    (c.min-over.ensures ∙ ap (λ k. min (length c.args.bytes.now) (k - c.args.from)) c.len.ensures.len) (c.pad.ensures.items c.args.bytes.now some) c.set_all.ensures.items
    (c.append.ensures.items ∙ ap (λ l. c.set_all.new.queue.items ++ l) (take_rest c.args.bytes.now c.min-over.result))
