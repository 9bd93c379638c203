use Rattle.std.proofs.Common.{◌∙◌, subst, refl, arith}
use Rattle.chain_parts.specs.PartTurns.{addressed_to}
use Rattle.chain_parts.specs.PartSteps.{HasSent}
use Rattle.chain_parts.proofs.Handing.{sent_none, sent_on, room_for_one}
use Rattle.chain_parts.proofs.sending.send_all.Goals as goal

pub loop-i-init : goal.loop-i-init
loop-i-init g c = (sent_none (g.L.Link.reported c.args.link.now) c.args.counts.now, refl)

pub hand-requires : goal.hand-requires
hand-requires g c =
    room_for_one c.args.server c.args.other c.args.out.now c.loop-i.i (g.L.Link.reported c.args.link.now) (g.L.Link.reported c.loop-i.link) c.args.counts.now c.loop-i.counts
    (omega (arith, c.loop-i-test.true, c.loop-i.auto.i-end, c.len-i-end.ensures)) (omega (arith, c.len-i-end.ensures, c.len-i-end.type_inv)) c.requires c.loop-i.invariant.0

pub loop-i-preserved : goal.loop-i-preserved
loop-i-preserved g c = (
  sent_on c.args.server c.args.other c.args.out.now c.loop-i.i c.to.result c.bytes.result.now (g.L.Link.reported c.args.link.now) (g.L.Link.reported c.loop-i.link) (g.L.Link.reported c.hand.new.link)
      c.args.counts.now c.loop-i.counts c.hand.new.counts (omega (arith, c.loop-i-test.true, c.loop-i.auto.i-end, c.len-i-end.ensures)) c.to.ensures c.bytes.ensures c.loop-i.invariant.0
      (subst (λ to. HasSent (addressed_to to c.bytes.result.now) (g.L.Link.reported c.loop-i.link) (g.L.Link.reported c.hand.new.link) c.loop-i.counts c.hand.new.counts) c.address_for.ensures
      c.hand.ensures.sent),
  c.hand.ensures.no_bind_fault ∙ c.loop-i.invariant.1,
)
