use Rattle.std.proofs.Common.{◌∙◌, sym, ap, arith}
use Rattle.std.specs.Prelude.{◌&&◌}
use Rattle.tcp_endpoint.specs.SendHalf.{repeats}
use Rattle.tcp_endpoint.proofs.Acks.{duplicate_is}
use Rattle.tcp_endpoint.proofs.sender.Sender.is_duplicate.Goals as goal

pub returns-then-is_bare : goal.returns-then-is_bare
returns-then-is_bare c = rw (← c.self.view_is) (λ short.
    let i = c.self.inside in
    c.repeats.ensures ∙ sym (ap (λ b. b && repeats i.numbers c.args.ack.0 c.args.window) c.if-is_bare.true)
    ∙ duplicate_is i.iss.0 i.numbers i.iss.0 c.args.ack.0 c.args.window i.syn_acked i.timing i.held i.closed i.fin_sent c.args.is_bare c.fit.ensures (omega arith) short)

pub returns-else-is_bare : goal.returns-else-is_bare
returns-else-is_bare c = rw (← c.self.view_is) (λ short.
    let i = c.self.inside in
    c.if-is_bare.false ∙ sym (ap (λ b. b && repeats i.numbers c.args.ack.0 c.args.window) c.if-is_bare.false)
    ∙ duplicate_is i.iss.0 i.numbers i.iss.0 c.args.ack.0 c.args.window i.syn_acked i.timing i.held i.closed i.fin_sent c.args.is_bare c.fit.ensures (omega arith) short)
