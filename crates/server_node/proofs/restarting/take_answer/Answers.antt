use Rattle.std.proofs.Common.{rules, tests, ◌≡◌, ◌∙◌, true, false, true≢false, refl, sym, subst}
use Rattle.server_trait.specs.Service.{machine}
use Rattle.logger_wire.specs.Value.{message_of}
use Rattle.reincarnate.specs.Refinement.{StandsFetching, AnswerLeads, fetched_then}
use Rattle.server_node.proofs.FetchAnswer.{answer_same, still_own}
use Rattle.server_node.specs.declared.stage.Stage.TheVariants as stage
use Rattle.server_node.proofs.Resuming.{answers_nothing, answers_on, answers_alone}
use Rattle.node_serving.specs.Identity.{grammar_in}
use Rattle.server_node.proofs.restarting.take_answer.Goals as goal
use Rattle.ft_io.proofs.Outcomes.{if_ok}

pub returns-then-not-branch-clause-turn : goal.returns-then-not-branch-clause-turn
returns-then-not-branch-clause-turn g c = λ standing count fetched st sound.
    let before = subst (λ k. StandsFetching (machine (g.S.Service.started k) g.S.Service.after g.S.Service.greeting) fetched c.args.fetching) (sym c.requires.own.kind) st.entries in
    let leads = subst (λ k. AnswerLeads (machine (g.S.Service.started k) g.S.Service.after g.S.Service.greeting) (fetched_then c.args.fetching.boot c.args.fetching.count (message_of c.args.m.now) fetched)
    c.in_ok-receive_answer.field-0 c.args.fetching c.receive_answer.new.fetching) c.requires.own.kind (c.in_ok-receive_answer.ensures.law fetched before) in
    let unfit : c.in_ok-receive_answer.field-0 ≡ false = search (rules, tests) in
    answers_nothing (machine (g.S.Service.started c.args.who.kind) g.S.Service.after g.S.Service.greeting) c.args.who standing (message_of c.args.m.now) count fetched c.args.fetching c.receive_answer.new.fetching
    c.in_ok-receive_answer.field-0 c.args.turn.now.sent.items unfit c.requires.own st leads

pub returns-then-not-branch-clause-sound : goal.returns-then-not-branch-clause-sound
returns-then-not-branch-clause-sound g c =
    still_own c.args.who c.args.fetching c.receive_answer.new.fetching
    (answer_same g.S.Service.started g.S.Service.after g.S.Service.greeting (message_of c.args.m.now) c.args.fetching c.receive_answer.new.fetching c.in_ok-receive_answer.field-0 c.in_ok-receive_answer.ensures.value) c.requires.own

pub proceed-requires-clause-own : goal.proceed-requires-clause-own
proceed-requires-clause-own g c =
    still_own c.args.who c.args.fetching c.receive_answer.new.fetching
    (answer_same g.S.Service.started g.S.Service.after g.S.Service.greeting (message_of c.args.m.now) c.args.fetching c.receive_answer.new.fetching c.in_ok-receive_answer.field-0 c.in_ok-receive_answer.ensures.value) c.requires.own

pub returns-clause-turn : goal.returns-clause-turn
returns-clause-turn g c =
    let same = answer_same g.S.Service.started g.S.Service.after g.S.Service.greeting (message_of c.args.m.now) c.args.fetching c.receive_answer.new.fetching c.in_ok-receive_answer.field-0 c.in_ok-receive_answer.ensures.value in
    let fit : c.in_ok-receive_answer.field-0 ≡ true = search (rules, tests) in
    if_ok c.proceed.result
    (λ after h standing count fetched st sound.
    let before = subst (λ k. StandsFetching (machine (g.S.Service.started k) g.S.Service.after g.S.Service.greeting) fetched c.args.fetching) (sym c.requires.own.kind) st.entries in
    let leads = subst (λ k. AnswerLeads (machine (g.S.Service.started k) g.S.Service.after g.S.Service.greeting) (fetched_then c.args.fetching.boot c.args.fetching.count (message_of c.args.m.now) fetched)
    c.in_ok-receive_answer.field-0 c.args.fetching c.receive_answer.new.fetching) c.requires.own.kind (c.in_ok-receive_answer.ensures.law fetched before) in
    answers_on (machine (g.S.Service.started c.args.who.kind) g.S.Service.after g.S.Service.greeting) c.args.who standing (message_of c.args.m.now) count fetched c.args.fetching c.receive_answer.new.fetching
    c.in_ok-receive_answer.field-0 after c.args.turn.now.sent.items c.proceed.new.turn.sent.items fit same c.requires.own st sound leads (λ more stands sounds. h standing count more stands sounds))
    c.proceed.ensures.turn

pub returns-then-not-branch-clause-alone : goal.returns-then-not-branch-clause-alone
returns-then-not-branch-clause-alone g c = λ standing count fetched st.
    let same = answer_same g.S.Service.started g.S.Service.after g.S.Service.greeting (message_of c.args.m.now) c.args.fetching c.receive_answer.new.fetching c.in_ok-receive_answer.field-0 c.in_ok-receive_answer.ensures.value in
    let before = subst (λ k. StandsFetching (machine (g.S.Service.started k) g.S.Service.after g.S.Service.greeting) fetched c.args.fetching) (sym c.requires.own.kind) st.entries in
    let leads = subst (λ k. AnswerLeads (machine (g.S.Service.started k) g.S.Service.after g.S.Service.greeting) (fetched_then c.args.fetching.boot c.args.fetching.count (message_of c.args.m.now) fetched)
    c.in_ok-receive_answer.field-0 c.args.fetching c.receive_answer.new.fetching) c.requires.own.kind (c.in_ok-receive_answer.ensures.law fetched before) in
    let unfit : c.in_ok-receive_answer.field-0 ≡ false = search (rules, tests) in
    answers_alone (machine (g.S.Service.started c.args.who.kind) g.S.Service.after g.S.Service.greeting) c.args.who standing (message_of c.args.m.now) count fetched c.args.fetching c.receive_answer.new.fetching
    c.in_ok-receive_answer.field-0 (stage.Fetching c.receive_answer.new.fetching) c.args.turn.now.sent.items c.args.turn.now.sent.items same c.requires.own st leads
    (λ e. (refl, refl)) (λ e more stands. absurd (true≢false (sym e ∙ unfit)))

pub returns-clause-alone : goal.returns-clause-alone
returns-clause-alone g c =
    let same = answer_same g.S.Service.started g.S.Service.after g.S.Service.greeting (message_of c.args.m.now) c.args.fetching c.receive_answer.new.fetching c.in_ok-receive_answer.field-0 c.in_ok-receive_answer.ensures.value in
    let fit : c.in_ok-receive_answer.field-0 ≡ true = search (rules, tests) in
    if_ok c.proceed.result
    (λ after h standing count fetched st.
    let before = subst (λ k. StandsFetching (machine (g.S.Service.started k) g.S.Service.after g.S.Service.greeting) fetched c.args.fetching) (sym c.requires.own.kind) st.entries in
    let leads = subst (λ k. AnswerLeads (machine (g.S.Service.started k) g.S.Service.after g.S.Service.greeting) (fetched_then c.args.fetching.boot c.args.fetching.count (message_of c.args.m.now) fetched)
    c.in_ok-receive_answer.field-0 c.args.fetching c.receive_answer.new.fetching) c.requires.own.kind (c.in_ok-receive_answer.ensures.law fetched before) in
    answers_alone (machine (g.S.Service.started c.args.who.kind) g.S.Service.after g.S.Service.greeting) c.args.who standing (message_of c.args.m.now) count fetched c.args.fetching c.receive_answer.new.fetching
    c.in_ok-receive_answer.field-0 after c.args.turn.now.sent.items c.proceed.new.turn.sent.items same c.requires.own st leads
    (λ e. absurd (true≢false (sym fit ∙ e))) (λ e more stands. h standing count more stands))
    c.proceed.ensures.alone

pub receive_answer-requires-clause-sendable : goal.receive_answer-requires-clause-sendable
receive_answer-requires-clause-sendable g c = record { grammar = grammar_in c.args.who; sendable = c.requires.sendable }
