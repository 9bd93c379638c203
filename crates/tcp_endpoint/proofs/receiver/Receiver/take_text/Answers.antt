use Rattle.std.proofs.Common.{◌≡◌, ◌+◌, ◌∙◌, ap, sym, length, true, false, None}
use Rattle.seq_arith.specs.Number.{offset_of}
use Rattle.tcp_rules.specs.Coming.{stands_at}
use Rattle.tcp_endpoint.proofs.Reassembly.{Makes, fits_queue, is_put, text_ends, text_proceeds}
use Rattle.tcp_endpoint.specs.contracts.receiver.Receiver.{the_view}
use Rattle.tcp_endpoint.proofs.receiver.Receiver.take_text.Goals as goal

pub put-requires : goal.put-requires
put-requires c = record {
  fits = fits_queue (the_view c.self.inside) c.args.self.now (offset_of c.args.self.now.irs c.args.seq.0) c.args.text.now c.new_part-part.result.now c.gap-gap.result
      c.self.view_is c.self.invariant c.gap-gap.ensures.count c.new_part-part.ensures;
}

ended : (c : goal.After-self-then-stands_at-1) → Makes c.args.self.now (offset_of c.args.self.now.irs c.args.seq.0) c.args.text.now false
    (record (the_view c.self.inside) { unread = c.put.new.queue.unread; early = record { text = c.put.new.queue.early; fin = None }; fin = true })
ended c =
    let first = offset_of c.args.self.now.irs c.args.seq.0 in
    let stands : stands_at (c.self.inside.read + length c.put.new.queue.unread) c.self.inside.held_fin ≡ true =
    ap (λ n. stands_at (c.self.inside.read + n) c.self.inside.held_fin) (sym c.len.ensures.count) ∙ sym c.stands_at.ensures ∙ c.if-stands_at.true in
    text_ends (the_view c.self.inside) c.args.self.now first c.args.text.now c.put.new.queue c.self.view_is c.self.invariant
    (is_put (the_view c.self.inside) c.args.self.now first c.args.text.now c.new_part-part.result.now c.gap-gap.result c.put.new.queue c.self.view_is c.self.invariant c.gap-gap.ensures.count c.new_part-part.ensures c.put.ensures) stands

gone_on : (c : goal.Else-stands_at) → Makes c.args.self.now (offset_of c.args.self.now.irs c.args.seq.0) c.args.text.now false
    (record (the_view c.self.inside) { unread = c.put.new.queue.unread; early = record { text = c.put.new.queue.early; fin = c.self.inside.held_fin } })
gone_on c =
    let first = offset_of c.args.self.now.irs c.args.seq.0 in
    let stands : stands_at (c.self.inside.read + length c.put.new.queue.unread) c.self.inside.held_fin ≡ false =
    ap (λ n. stands_at (c.self.inside.read + n) c.self.inside.held_fin) (sym c.len.ensures.count) ∙ sym c.stands_at.ensures ∙ c.if-stands_at.false in
    text_proceeds (the_view c.self.inside) c.args.self.now first c.args.text.now c.put.new.queue c.self.view_is c.self.invariant
    (is_put (the_view c.self.inside) c.args.self.now first c.args.text.now c.new_part-part.result.now c.gap-gap.result c.put.new.queue c.self.view_is c.self.invariant c.gap-gap.ensures.count c.new_part-part.ensures c.put.ensures) stands

pub invariant_of-self : goal.invariant_of-self
invariant_of-self c = (ended c).keeps

pub invariant_of-self-else-stands_at : goal.invariant_of-self-else-stands_at
invariant_of-self-else-stands_at c = (gone_on c).keeps

pub returns-then-stands_at : goal.returns-then-stands_at
returns-then-stands_at c = (ended c).view

pub returns-else-stands_at : goal.returns-else-stands_at
returns-else-stands_at c = (gone_on c).view
