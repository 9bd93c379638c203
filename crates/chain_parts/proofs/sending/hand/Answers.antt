use Rattle.chain_parts.proofs.Handing.{sent_to}
use Rattle.chain_parts.proofs.sending.hand.Goals as goal

pub returns-in-Some-clause-sent : goal.returns-in-Some-clause-sent
returns-in-Some-clause-sent g c =
    sent_to c.args.to c.in-Some.to c.args.bytes.now (g.L.Link.reported c.args.link.now) (g.L.Link.reported c.send-sent.new.self) c.args.counts.now c.note_sent.new.self c.send-sent.result
    c.in-Some.is c.send-sent.ensures.reported (c.note_sent.ensures c.in-Some.to c.args.bytes.now)
