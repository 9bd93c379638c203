use Rattle.std.proofs.Common.{rules, ◌≡◌, ◌∙◌, ◌+◌, ◌≤◌, ap, ap₂, length, sym, arith}
use mir.Val.{bool_byte}
use Rattle.std.proofs.lemmas.List.{take_all}
use Rattle.node_serving.specs.Openings.{pending_slots, is_pending_slot}
use Rattle.node_serving.proofs.Collecting.{entry_with}
use Rattle.node_serving.proofs.Opens.{pending_more, one_pending}
use Rattle.node_serving.proofs.opening.pending_count.Goals as goal
use Rattle.ft_io.proofs.Numbers.{bool_byte_low}

pub loop-i-preserved : goal.loop-i-preserved
loop-i-preserved g c =
    let es = c.args.slots.now.entries in
    let at = entry_with es c.loop-i.i c.index.result.now c.index.ensures in
    let count : c.from-count.result ≡ bool_byte (is_pending_slot c.index.result.now) = c.from-count.ensures ∙ ap bool_byte c.is_pending.ensures in (
      ap₂ ◌+◌ c.loop-i.invariant.0 (count ∙ sym (one_pending at.0 c.index.result.now)) ∙ sym (pending_more es c.loop-i.i at.0 c.index.result.now at.1),
      omega (arith, c.loop-i.invariant.1, count, bool_byte_low (is_pending_slot c.index.result.now)),
    )

pub returns : goal.returns
returns g c =
    let past : length c.args.slots.now.entries ≤ c.loop-i.i = search rules in
    c.loop-i.invariant.0 ∙ ap pending_slots (take_all c.loop-i.i c.args.slots.now.entries past)
