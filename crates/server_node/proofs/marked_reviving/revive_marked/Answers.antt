use Rattle.std.proofs.Common.{◌≡◌, ◌∙◌, ap, sym, subst, Some}
use Rattle.node_serving.specs.Identity.{node_of, grammar_in}
use Rattle.node_serving.specs.Markers.{saving, marker_of}
use Rattle.node_serving.specs.Slots.{SlotStands}
use Rattle.conn_marks.specs.Settled.{MarksPlace}
use Rattle.server_node.proofs.MarkedRestored.{revives_with}
use Rattle.server_node.proofs.marked_reviving.revive_marked.Goals as goal

pub returns-clause-turn : goal.returns-clause-turn
returns-clause-turn g c = λ every standing e is sound bytes number.
    let by = marker_of g.S.Service (saving g.S.Saved.form g.S.Saved.state_of g.S.Saved.is_savable) c.args.who every in
    let reported = rw c.in_ok-mark_slot.was at c.mark_slot.ensures in
    let key : c.head.result.key ≡ e.key = ap (λ h. h.key) c.head.ensures ∙ ap (λ h. h.key) is.head in
    revives_with by (node_of c.args.who standing) e c.in_ok-slot.slot c.args.marks.now c.mark_slot.new.marks c.args.turn.now.sent.items c.revive.new.turn.sent.items c.mark_slot.new.turn.sent.items bytes
    (c.in_ok-slot.ensures.turn standing e is sound)
    (λ place st.
    let marked = reported every standing place number (subst (λ k. SlotStands by.service (node_of c.args.who standing) k c.in_ok-slot.slot place) (sym key) st) in
    subst (λ n. MarksPlace by (grammar_in c.args.who) c.args.who.boot e.key n (Some place) c.args.marks.now c.mark_slot.new.marks c.revive.new.turn.sent.items c.mark_slot.new.turn.sent.items) c.len-from.ensures
    (subst (λ k. MarksPlace by (grammar_in c.args.who) c.args.who.boot k c.len-from.result (Some place) c.args.marks.now c.mark_slot.new.marks c.revive.new.turn.sent.items c.mark_slot.new.turn.sent.items) key marked))
