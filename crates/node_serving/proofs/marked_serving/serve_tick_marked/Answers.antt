use Rattle.std.proofs.Common.{rules}
use Rattle.std.proofs.lemmas.Result.{on_ok_weaker}
use Rattle.node_serving.specs.Markers.{saving, marker_of}
use Rattle.node_serving.proofs.MarkedTicks.{serving_ticks}
use Rattle.node_serving.specs.Identity.{node_of, service_of}
use Rattle.node_serving.proofs.Among.{ticks_beside}
use Rattle.node_serving.proofs.Knocking.{counted_by}
use Rattle.node_serving.proofs.marked_serving.serve_tick_marked.Goals as goal

pub returns-clause-turn : goal.returns-clause-turn
returns-clause-turn g c =
    let reported = rw c.in_ok-tick_all_marked.was at c.tick_all_marked.ensures.turn in
    on_ok_weaker c.ask_all.result
    (λ asked every standing awaits marking opened places near keeps settled st.
    serving_ticks (marker_of g.S.Service (saving g.S.Saved.form g.S.Saved.state_of g.S.Saved.is_savable) c.args.who every) c.args.who standing awaits marking opened places
    (record { next = c.args.serving.now.next; slots = c.tick_all_marked.new.slots }) c.args.marks.now c.args.turn.now.sent.items c.tick_all_marked.new.turn.sent.items c.ask_all.new.turn.sent.items
    st.number keeps (reported every standing marking places keeps settled st.slots) (asked standing)) c.ask_all.ensures.asked

pub returns-clause-alone : goal.returns-clause-alone
returns-clause-alone g c =
    let reported = rw c.in_ok-tick_all_marked.was at c.tick_all_marked.ensures.alone in
    let count = counted_by c.args.who.isn c.args.serving.now.next.0 (search rules) c.requires.counted in
    on_ok_weaker c.ask_all.result
    (λ asked standing.
    ticks_beside (service_of g.S.Service c.args.who) (node_of c.args.who standing) c.args.serving.now (record { next = c.args.serving.now.next; slots = c.tick_all_marked.new.slots }) c.args.marks.now count.0
    c.args.turn.now.sent.items c.tick_all_marked.new.turn.sent.items c.ask_all.new.turn.sent.items count.1 c.ask_all.ensures.unique (reported standing) (asked standing)) c.ask_all.ensures.asked
