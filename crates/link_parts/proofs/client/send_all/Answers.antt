use Rattle.std.proofs.Common.{◌≡◌, ◌∙◌, refl, length, arith}
use Rattle.link_parts.proofs.ClientRunning.{hands_none, hands_more, hands_all}
use Rattle.link_parts.proofs.client.send_all.Goals as goal

pub loop-i-init : goal.loop-i-init
loop-i-init g c = (hands_none c.args.to c.args.outbox.now (g.L.Link.reported c.args.link.now), refl)

pub loop-i-preserved : goal.loop-i-preserved
loop-i-preserved g c = (
  hands_more c.args.to c.packet.result.now c.args.outbox.now c.loop-i.i (g.L.Link.reported c.args.link.now) (g.L.Link.reported c.loop-i.link) (g.L.Link.reported c.send.new.self)
      c.send.result c.packet.ensures c.loop-i.invariant.0 c.send.ensures.reported,
  c.send.ensures.no_bind_fault ∙ c.loop-i.invariant.1,
)

pub returns-clause-handed : goal.returns-clause-handed
returns-clause-handed g c =
    let all : c.loop-i.i ≡ length c.args.outbox.now = omega (arith, c.loop-i-test.false, c.loop-i.auto.i-end, c.len-i-end.ensures) in
    hands_all c.args.to c.loop-i.i c.args.outbox.now (g.L.Link.reported c.args.link.now) (g.L.Link.reported c.loop-i.link) all c.loop-i.invariant.0
