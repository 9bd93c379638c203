use Rattle.std.proofs.Common.{◌≡◌, ◌∙◌, ◌+◌, ◌++◌, ap, arith, take, drop}
use Rattle.std.proofs.lemmas.List.{drop-append-le}
use Rattle.schedule_text.specs.Line.{Written}
use Rattle.schedule_text.proofs.Digits.{first_appended}
use Rattle.schedule_text.proofs.line_out.LineOut.append_first.Goals as goal

pub returns-clause-ok : goal.returns-clause-ok
returns-clause-ok c =
    let items = c.self.inside.bytes.items in
    let first = take c.args.count c.args.bytes.now in
    let kept : c.truncate.new.self.items ≡ items ++ first =
    c.truncate.ensures.items ∙ ap (take (c.len.result + c.args.count)) c.in_ok-extend_from_slice.ensures.items
    ∙ first_appended (c.len.result + c.args.count) c.args.count items c.args.bytes.now (omega (arith, c.len.ensures, c.self.inside.bytes.ok.0)) in
    ap (drop c.self.inside.start) kept ∙ drop-append-le c.self.inside.start items first c.self.invariant
    ∙ ap (λ (line : Written). line.words ++ first) c.self.view_is
