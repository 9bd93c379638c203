use Rattle.std.proofs.Common.{◌∙◌, ap, sym, subst, pos, ◌+ℤ◌, length, []}
use Rattle.seq_arith.specs.Number.{offset_of}
use Rattle.tcp_buffers.specs.Near.{IsNearFirst}
use Rattle.tcp_endpoint.specs.ReceiveHalf.{Receiving, with_came, with_segment}
use Rattle.tcp_endpoint.proofs.Reassembly.{one_segment}
use Rattle.tcp_endpoint.proofs.receiver.Receiver.take.Goals as goal

pub take_fin-requires-clause-near : goal.take_fin-requires-clause-near
unfolding with_came
take_fin-requires-clause-near c = subst (λ (r : Receiving). IsNearFirst (offset_of r.irs c.args.seq.0)) (sym c.take_text.ensures) c.requires.near

pub returns : goal.returns
unfolding with_came
returns c =
    let first = offset_of c.args.self.now.irs c.args.seq.0 in
    c.take_fin.ensures
    ∙ ap (λ (r : Receiving). with_segment r (offset_of r.irs c.args.seq.0 +ℤ pos (length c.args.text.now)) [] c.args.fin) c.take_text.ensures
    ∙ one_segment c.args.self.now first c.args.text.now c.args.fin c.ranges-2.ensures.behind
