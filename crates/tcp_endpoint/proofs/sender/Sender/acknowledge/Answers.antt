use Rattle.std.proofs.Common.{◌∙◌, ap, arith, drop}
use Rattle.tcp_endpoint.proofs.Acks.{sent_is, used_is}
use Rattle.tcp_endpoint.proofs.sender.Sender.acknowledge.Goals as goal

pub returns-clause-used : goal.returns-clause-used
returns-clause-used c = rw (← c.self.view_is) (λ short.
    let i = c.self.inside in
    c.was_sent.ensures
    ∙ sent_is i.iss.0 i.numbers c.args.seq.0 c.args.ack.0 i.syn_acked i.timing i.held i.closed i.fin_sent c.on_ack-kind.result c.fit.ensures short c.on_ack-kind.ensures.kind)

pub returns-clause-state : goal.returns-clause-state
returns-clause-state c = rw (← c.self.view_is) (λ short.
    let i = c.self.inside in
    used_is i.iss.0 i.numbers c.on_ack-kind.new.self c.restart.new.numbers c.args.seq.0 c.args.ack.0 c.args.window i.syn_acked i.timing c.restart.new.timing i.held
    c.drop_front.new.self i.closed i.fin_sent c.on_ack-kind.result c.fit.ensures (omega arith) short (omega (arith, c.self.invariant.most))
    c.on_ack-kind.ensures.kind c.on_ack-kind.ensures.used c.on_ack-kind.ensures.beyond
    (c.drop_front.ensures ∙ ap (λ k. drop k i.held) (cc (c.min-units.ensures, c.units_of.ensures, c.len.ensures.count))) c.restart.ensures.numbers c.restart.ensures.timing)
