use Rattle.std.proofs.Common.{ap, ◌∙◌, sym, length}
use Rattle.std.specs.Prelude.{◌==◌, ◌&&◌}
use Rattle.tcp_endpoint.specs.Output.{is_ack_pending, bare_segment}
use Rattle.tcp_endpoint.proofs.Spelled.{unsent_readable}
use Rattle.tcp_endpoint.proofs.endpoint.Endpoint.send_pending_ack.Goals as goal

pub returns-else-sends_bare-clause-readable : goal.returns-else-sends_bare-clause-readable
returns-else-sends_bare-clause-readable c full is all =
    unsent_readable (bare_segment c.args.self.now) (is_ack_pending c.args.self.now) full
    (ap (λ ps. (length ps == 0) && is_ack_pending c.args.self.now) (sym is) ∙ sym c.sends_bare.ensures ∙ c.if-sends_bare.false) all
