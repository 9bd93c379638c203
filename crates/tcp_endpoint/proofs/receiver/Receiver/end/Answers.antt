use Rattle.std.proofs.Common.{◌≡◌, ◌+◌, ◌%◌, ◌^◌, ◌∙◌, ap, arith}
use Rattle.seq_arith.specs.Number.{distance}
use Rattle.tcp_endpoint.specs.ReceiveHalf.{Receiving}
use Rattle.tcp_endpoint.proofs.Places.{end_place, end_below}
use Rattle.tcp_endpoint.proofs.receiver.Receiver.end.Goals as goal

number_is : (c : goal.After-minus) → c.minus.result ≡ distance ((c.args.seq.0 + c.args.len) % 2 ^ 32) ((c.args.self.now.irs + 1) % 2 ^ 32)
number_is c =
    let base = c.add-2.ensures ∙ ap (λ (r : Receiving). (r.irs + 1) % 2 ^ 32) c.self.view_is in
    c.minus.ensures ∙ ap (λ n. distance n c.add-2.result.0) c.add.ensures ∙ ap (distance ((c.args.seq.0 + c.args.len) % 2 ^ 32)) base

pub returns-clause-place : goal.returns-clause-place
returns-clause-place c = λ k e. number_is c ∙ end_place c.args.self.now.irs c.args.seq.0 c.args.len k c.ranges-2.ensures.number c.requires.short c.requires.near e

pub returns-clause-past : goal.returns-clause-past
returns-clause-past c = λ k e.
    let far = end_below c.args.self.now.irs c.args.seq.0 c.args.len k c.ranges-2.ensures.number c.requires.short c.requires.near e in
    omega (arith, number_is c, far, c.ranges-2.ensures.far)
