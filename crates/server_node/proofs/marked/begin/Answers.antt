use Rattle.std.proofs.Common.{rules, ◌≡◌, ◌∙◌, false, refl, sym, subst, None}
use Rattle.ft_io.proofs.Outcomes.{if_ok}
use Rattle.logger_wire.specs.Value.{body_of, message_of}
use Rattle.ft_model.specs.Lawful.{summary_count}
use Rattle.ft_model.specs.Node.Input.{Message_comes}
use Rattle.ft_model.specs.Node.Stage.{Asking}
use Rattle.mark_laws.specs.MarkedNode.MarkedInput.{Plain_comes}
use Rattle.server_node.specs.FetchStage.{IsOf}
use Rattle.node_serving.specs.Identity.{node_of}
use Rattle.node_serving.specs.Markers.{saving, marker_of, node_at}
use Rattle.server_node.specs.MarkedTurns.{TurnsOn}
use Rattle.node_serving.proofs.Outcomes.{same_ok}
use Rattle.server_node.proofs.MarkedFetch.{asking_rests, begun_at, begun_stands, reported_no_count, reported_count, nothing_yet}
use Rattle.server_node.proofs.Ranged.{count_in_range}
use Rattle.server_node.proofs.marked.begin.Goals as goal

pub on_summary-requires : goal.on_summary-requires
on_summary-requires g c = count_in_range c.args.m.now c.in-Some.count c.requires.sendable (sym c.count_in.ensures ∙ c.in-Some.is)

pub proceed-requires-clause-own : goal.proceed-requires-clause-own
proceed-requires-clause-own g c = subst (IsOf c.args.who) (sym (same_ok c.on_summary.result c.in-Ok.fetching _ c.in-Ok.is c.on_summary.ensures.value)) (record { boot = c.new-asked.ensures; kind = refl })

pub returns-in_default-clause-turn : goal.returns-in_default-clause-turn
returns-in_default-clause-turn g c = λ boot calm every standing awaits marking bytes lengths unfenced fair st.
    let by = marker_of g.S.Service (saving g.S.Saved.form g.S.Saved.state_of g.S.Saved.is_savable) c.args.who every in
    let none : summary_count (body_of c.args.m.now.body) ≡ None = search rules in
    subst (λ n. TurnsOn by c.args.who bytes lengths (node_at c.args.who standing awaits marking) (Plain_comes (Message_comes (message_of c.args.m.now))) n c.args.turn.now.sent.items) (sym c.asking.ensures)
    (asking_rests by c.args.who (Message_comes (message_of c.args.m.now)) standing awaits marking bytes lengths c.args.marks c.args.turn.now.sent.items unfenced
    (reported_no_count by c.args.who (message_of c.args.m.now) none) c.requires.empty st)

pub returns-clause-turn : goal.returns-clause-turn
returns-clause-turn g c = if_ok c.proceed.result
    (λ after reported boot calm every standing awaits marking bytes lengths unfenced fair st.
    let by = marker_of g.S.Service (saving g.S.Saved.form g.S.Saved.state_of g.S.Saved.is_savable) c.args.who every in
    let is = same_ok c.on_summary.result c.in-Ok.fetching _ c.in-Ok.is c.on_summary.ensures.value in
    begun_at by c.args.who (message_of c.args.m.now) c.in-Some.count standing awaits marking bytes lengths c.args.marks after c.proceed.new.turn.sent.items unfenced
    (reported_count (node_of c.args.who Asking) (message_of c.args.m.now) c.in-Some.count boot (sym c.count_in.ensures ∙ c.in-Some.is)) st
    (λ keeps. reported every Asking false marking marking c.in-Some.count nothing_yet keeps
    (begun_stands by c.new-asked.result c.args.who.kind c.in-Some.count marking c.args.marks g.S.Saved.is_savable c.are_made.result every c.in-Ok.fetching refl is c.are_made.ensures keeps c.in-Ok.ensures.law) tt)) c.proceed.ensures.turn
