use Rattle.wrapped_conn.proofs.Onward.{proceeds}
use Rattle.wrapped_conn.proofs.conn.Conn.proceed.Goals as goal

pub returns-clause-turn : goal.returns-clause-turn
returns-clause-turn g c = λ copied first.
    let s = c.in_ok-serve.ensures in
    proceeds g.S.Service.after c.args.before c.args.repeats c.is_ack_pending.result copied c.args.self.now c.serve.new.self c.delay_ack.new.self c.flush.new.self c.serve.new.self.north c.serve.new.news c.flush.new.out
    c.send_syn_ack.new.out c.send_bare.new.out c.args.out.now.messages c.send_reads.new.out s.north s.state c.delay_ack.ensures.sent c.delay_ack.ensures.ended c.flush.ensures.state c.flush.ensures.sent c.send_syn_ack.ensures c.is_ack_pending.ensures
    c.send_bare.ensures first c.send_reads.ensures.reported
