use Rattle.std.proofs.Common.{◌∙◌}
use Rattle.tcp_endpoint.proofs.Acks.{part_is}
use Rattle.tcp_endpoint.proofs.sender.Sender.is_partial.Goals as goal

pub returns : goal.returns
returns c = rw (← c.self.view_is) (λ short was.
    let i = c.self.inside in
    c.acks_part.ensures ∙ part_is i.iss.0 i.numbers i.iss.0 c.args.ack.0 i.syn_acked i.timing i.held i.closed i.fin_sent c.fit.ensures short was)
