use Rattle.std.proofs.Common.{◌≡◌, ◌∙◌, true, false, sym, subst, rules, List, reverse}
use Rattle.server_trait.specs.Service.{machine}
use Rattle.ft_model.specs.Wire.{Wire}
use Rattle.mark_laws.specs.Restart.{next_question}
use Rattle.reincarnate.specs.Questions.{any_asked}
use Rattle.reincarnate.specs.Refinement.{StandsSoFar, StandsFetching, StandsWhole}
use Rattle.node_serving.specs.Identity.{grammar_in}
use Rattle.server_node.specs.MarkedTurns.{FetchesOn, SendsQuestion}
use Rattle.node_serving.specs.Markers.{saving, marker_of, node_at}
use Rattle.server_node.proofs.MarkedFetch.{asked_on, ended_on}
use Rattle.server_node.proofs.marked.proceed.Goals as goal

pub returns-then-branch-clause-turn : goal.returns-then-branch-clause-turn
returns-then-branch-clause-turn g c = λ every standing awaits before marking count fetched keeps st sound.
    let by = marker_of g.S.Service (saving g.S.Saved.form g.S.Saved.state_of g.S.Saved.is_savable) c.args.who every in
    let asks : c.in_ok-ask.field-0 ≡ true = search rules in
    let next : any_asked c.args.fetching ≡ next_question c.args.who.boot count fetched =
    c.ask.ensures.law fetched (subst (λ k. StandsSoFar (machine (g.S.Service.started k) g.S.Service.after g.S.Service.greeting) fetched c.args.fetching) (sym c.requires.own.kind) st.entries)
    ∙ (λ j. next_question (c.requires.own.boot j) (st.so_many j) fetched) in
    let sent = subst (λ (l : List Wire). SendsQuestion (grammar_in c.args.who) (any_asked c.args.fetching) true l c.ask.new.turn.sent.items) c.requires.empty
    (subst (λ b. SendsQuestion (grammar_in c.args.who) (any_asked c.args.fetching) b c.args.turn.now.sent.items c.ask.new.turn.sent.items) asks c.in_ok-ask.ensures.sent) in
    subst (λ n. FetchesOn by c.args.who (node_at c.args.who standing awaits before) count fetched marking n c.ask.new.turn.sent.items) (sym c.fetching_on.ensures)
    (asked_on by c.args.who standing awaits before marking count fetched c.args.fetching c.args.marks (any_asked c.args.fetching) c.ask.new.turn.sent.items (sym next) sent keeps st)

pub finish-requires : goal.finish-requires
finish-requires g c = c.in_ok-ask.ensures.missing (search rules)

pub returns-clause-turn : goal.returns-clause-turn
returns-clause-turn g c = λ every standing awaits before marking count fetched keeps st sound.
    let by = marker_of g.S.Service (saving g.S.Saved.form g.S.Saved.state_of g.S.Saved.is_savable) c.args.who every in
    let asks : c.in_ok-ask.field-0 ≡ false = search rules in
    let next : any_asked c.args.fetching ≡ next_question c.args.who.boot count fetched =
    c.ask.ensures.law fetched (subst (λ k. StandsSoFar (machine (g.S.Service.started k) g.S.Service.after g.S.Service.greeting) fetched c.args.fetching) (sym c.requires.own.kind) st.entries)
    ∙ (λ j. next_question (c.requires.own.boot j) (st.so_many j) fetched) in
    let sent = subst (λ (l : List Wire). SendsQuestion (grammar_in c.args.who) (any_asked c.args.fetching) false l c.ask.new.turn.sent.items) c.requires.empty
    (subst (λ b. SendsQuestion (grammar_in c.args.who) (any_asked c.args.fetching) b c.args.turn.now.sent.items c.ask.new.turn.sent.items) asks c.in_ok-ask.ensures.sent) in
    let whole = subst (λ k. StandsWhole (machine (g.S.Service.started k) g.S.Service.after g.S.Service.greeting) (reverse fetched.entries) c.finish.result) c.requires.own.kind
    (c.finish.ensures.law fetched.entries (subst (λ k. StandsFetching (machine (g.S.Service.started k) g.S.Service.after g.S.Service.greeting) fetched.entries c.args.fetching) (sym c.requires.own.kind) st.entries.fetched)) in
    let restored = c.in_ok-serving.ensures.turn every standing marking fetched.entries whole st.distinct sound st.bytes keeps in
    subst (λ n. FetchesOn by c.args.who (node_at c.args.who standing awaits before) count fetched marking n c.restore_all_marked.new.turn.sent.items) (sym c.serving_on.ensures)
    (ended_on by c.args.who standing awaits before marking count fetched c.in_ok-serving.serving c.restore_all_marked.new.marks (any_asked c.args.fetching) c.ask.new.turn.sent.items c.restore_all_marked.new.turn.sent.items (sym next) sent restored)
