use Rattle.std.proofs.Common.{◌∙◌, [], ◌++◌, ap, take, drop}
use Rattle.seq_arith.specs.declared.mark.MarkKind.TheVariants as kinds
use Rattle.logger_wire.specs.MarkSpelling.{sealed}
use Rattle.logger_wire.proofs.MarkSpelled.{marked_numbers, ask_numbers}
use Rattle.logger_wire.proofs.marks.writing.put_body.Goals as goal

pub returns-in-Marked-clause-bytes : goal.returns-in-Marked-clause-bytes
returns-in-Marked-clause-bytes c =
    let numbers = ap (take 10) c.numbers-in-Marked.ensures ∙ marked_numbers c.in-Marked.key c.in-Marked.reads in
    rw c.in-Marked.is (c.put-in-Marked.ensures.bytes ∙ ap (λ xs. sealed kinds.Marked c.args.boot (xs ++ []) ++ drop c.put-in-Marked.result c.args.out.now) numbers)

pub returns-in-Ask-clause-bytes : goal.returns-in-Ask-clause-bytes
returns-in-Ask-clause-bytes c =
    let numbers = ap (take 6) c.numbers-in-Ask.ensures ∙ ask_numbers c.in-Ask.key in
    rw c.in-Ask.is (c.put-in-Ask.ensures.bytes ∙ ap (λ xs. sealed kinds.Ask c.args.boot (xs ++ []) ++ drop c.put-in-Ask.result c.args.out.now) numbers)
