use Rattle.std.proofs.Common.{sym, ◌∙◌}
use Rattle.std.proofs.lemmas.Bool.{OnTrue_at}
use Rattle.wrapped_conn.proofs.PassedOn.{passed_none, not_false}
use Rattle.wrapped_conn.proofs.Stamping.{passed_when}
use Rattle.std.specs.List.{list_any}
use Rattle.seq_arith.specs.Packet.{has_rst}
use Rattle.wrapped_conn.proofs.leaving.pass_stamped.Goals as goal

pub returns-then-append_all-clause-passed : goal.returns-then-append_all-clause-passed
returns-then-append_all-clause-passed c = λ segments is readable.
    let both = c.append_all.ensures.passed segments is readable in
    c.swap.ensures.x_after ∙ OnTrue_at c.if-append_all.true both.1 ∙ passed_when c.args.south.now segments (sym c.if-append_all.true ∙ both.0)

pub returns-else-append_all-clause-passed : goal.returns-else-append_all-clause-passed
returns-else-append_all-clause-passed c = λ segments is readable.
    let both = c.append_all.ensures.passed segments is readable in
    c.clear-else-append_all.ensures ∙ passed_none c.args.south.now segments (not_false (list_any has_rst segments) (sym c.if-append_all.false ∙ both.0))
