use Rattle.std.proofs.Common.{◌≡◌, ◌∙◌, true, false, true≢false, sym, subst, rules}
use Rattle.ft_io.proofs.Outcomes.{if_ok}
use Rattle.server_trait.specs.Service.{machine}
use Rattle.server_trait.specs.Saved.{writing}
use Rattle.reincarnate.specs.Marking.{any_of}
use Rattle.reincarnate.specs.Refinement.{StandsSoFar, AnyLeads}
use Rattle.server_node.specs.Marked.{IsSoundMarked}
use Rattle.node_serving.specs.Markers.{saving, marker_of}
use Rattle.server_node.proofs.MarkedFetch.{took_at, kept_on}
use Rattle.server_node.proofs.MarkedStage.{answer_kept}
use Rattle.server_node.proofs.marked.take_answer.Goals as goal

pub returns-then-not-branch-clause-turn : goal.returns-then-not-branch-clause-turn
returns-then-not-branch-clause-turn g c = λ every standing awaits marking bytes lengths unfenced fair st.
    let by = marker_of g.S.Service (saving g.S.Saved.form g.S.Saved.state_of g.S.Saved.is_savable) c.args.who every in
    let fits : c.in_ok-on_answer.field-0 ≡ false = search rules in
    took_at by c.args.who standing awaits marking bytes lengths (any_of c.args.m.now) c.args.fetching c.on_answer.new.self c.in_ok-on_answer.field-0 c.args.marks c.args.marks c.fetching_on.result c.args.turn.now.sent.items unfenced fair c.fit_part.ensures st
    c.requires.own.boot (kept_on g.S.Service.started g.S.Service.after g.S.Service.greeting g.S.Saved.state_of (any_of c.args.m.now) c.args.fetching c.on_answer.new.self c.in_ok-on_answer.field-0 c.in_ok-on_answer.ensures.value)
    (λ x. subst (λ k. StandsSoFar (machine (g.S.Service.started k) g.S.Service.after g.S.Service.greeting) x c.args.fetching
    → AnyLeads (machine (g.S.Service.started k) g.S.Service.after g.S.Service.greeting) (writing g.S.Saved.form (g.S.Saved.state_of k)) x (any_of c.args.m.now) c.in_ok-on_answer.field-0 c.args.fetching c.on_answer.new.self) c.requires.own.kind
    (c.in_ok-on_answer.ensures.law x))
    (λ no. (c.fetching_on.ensures, c.requires.empty)) (λ yes. absurd (true≢false (sym yes ∙ fits)))

pub returns-then-not-branch-clause-sound : goal.returns-then-not-branch-clause-sound
returns-then-not-branch-clause-sound g c =
    subst (IsSoundMarked c.args.who) (sym c.fetching_on.ensures)
    (answer_kept g.S.Service.started g.S.Service.after g.S.Service.greeting g.S.Saved.state_of (any_of c.args.m.now) c.args.who c.args.fetching c.on_answer.new.self c.in_ok-on_answer.field-0 c.in_ok-on_answer.ensures.value c.requires.own)

pub proceed-requires-clause-own : goal.proceed-requires-clause-own
proceed-requires-clause-own g c = answer_kept g.S.Service.started g.S.Service.after g.S.Service.greeting g.S.Saved.state_of (any_of c.args.m.now) c.args.who c.args.fetching c.on_answer.new.self c.in_ok-on_answer.field-0 c.in_ok-on_answer.ensures.value c.requires.own

pub returns-clause-turn : goal.returns-clause-turn
returns-clause-turn g c =
    if_ok c.proceed.result
    (λ after reported every standing awaits marking bytes lengths unfenced fair st.
    let by = marker_of g.S.Service (saving g.S.Saved.form g.S.Saved.state_of g.S.Saved.is_savable) c.args.who every in
    let fits : c.in_ok-on_answer.field-0 ≡ true = search rules in
    took_at by c.args.who standing awaits marking bytes lengths (any_of c.args.m.now) c.args.fetching c.on_answer.new.self c.in_ok-on_answer.field-0 c.args.marks c.note_last.new.marks after c.proceed.new.turn.sent.items unfenced fair c.fit_part.ensures st
    c.requires.own.boot (kept_on g.S.Service.started g.S.Service.after g.S.Service.greeting g.S.Saved.state_of (any_of c.args.m.now) c.args.fetching c.on_answer.new.self c.in_ok-on_answer.field-0 c.in_ok-on_answer.ensures.value)
    (λ x. subst (λ k. StandsSoFar (machine (g.S.Service.started k) g.S.Service.after g.S.Service.greeting) x c.args.fetching
    → AnyLeads (machine (g.S.Service.started k) g.S.Service.after g.S.Service.greeting) (writing g.S.Saved.form (g.S.Saved.state_of k)) x (any_of c.args.m.now) c.in_ok-on_answer.field-0 c.args.fetching c.on_answer.new.self) c.requires.own.kind
    (c.in_ok-on_answer.ensures.law x))
    (λ no. absurd (true≢false (sym fits ∙ no)))
    (λ yes. (c.in_ok-note_last.ensures, λ then_marking count more keeps stands sound. reported every standing awaits marking then_marking count more keeps stands sound))) c.proceed.ensures.turn
