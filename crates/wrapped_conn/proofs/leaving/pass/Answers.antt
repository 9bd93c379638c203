use Rattle.std.proofs.Common.{sym, ap, ◌∙◌}
use Rattle.std.specs.Prelude.{is_some}
use Rattle.tcp_rules.specs.Timestamping.{timestamps_sent}
use Rattle.wrapped_conn.proofs.leaving.pass.Goals as goal

pub pass_outward-requires-clause-off : goal.pass_outward-requires-clause-off
pass_outward-requires-clause-off c = ap timestamps_sent (sym c.timestamping.ensures) ∙ sym c.sent.ensures ∙ c.in-None.is

pub pass_stamped-requires-clause-spelled : goal.pass_stamped-requires-clause-spelled
pass_stamped-requires-clause-spelled c =
    let h = c.requires.spelled in
    (h.0, h.1, h.2, h.3 (ap (λ t. is_some (timestamps_sent t)) (sym c.timestamping.ensures) ∙ ap is_some (sym c.sent.ensures) ∙ ap is_some c.in-Some.is))
