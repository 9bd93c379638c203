use Rattle.std.proofs.Common.{◌∙◌, reverse, sym, subst}
use Rattle.server_trait.specs.Service.{machine}
use Rattle.reincarnate.specs.Questions.{asked}
use Rattle.reincarnate.specs.Refinement.{StandsFetching, StandsWhole}
use Rattle.server_node.proofs.Questions.{nothing_asked}
use Rattle.server_node.proofs.Resuming.{waits_on, serves_on, still_asks, serves_alone}
use Rattle.server_node.proofs.restarting.proceed.Goals as goal

pub returns-then-branch-clause-turn : goal.returns-then-branch-clause-turn
returns-then-branch-clause-turn g c = λ standing count fetched st sound.
    let reported = rw c.in_ok-ask.was at c.ask.ensures.turn in
    waits_on (machine (g.S.Service.started c.args.who.kind) g.S.Service.after g.S.Service.greeting) c.args.who standing count fetched c.args.fetching c.args.turn.now.sent.items c.ask.new.turn.sent.items st
    (sym (c.in_ok-ask.ensures.missing count fetched st) ∙ c.if-branch.true) (reported standing count fetched st)

pub finish-requires : goal.finish-requires
finish-requires g c = nothing_asked (asked c.args.fetching) (sym c.if-branch.false ∙ c.in_ok-ask.ensures.asks)

pub returns-clause-turn : goal.returns-clause-turn
returns-clause-turn g c = λ standing count fetched st sound.
    let reported = rw c.in_ok-ask.was at c.ask.ensures.turn in
    let before = subst (λ k. StandsFetching (machine (g.S.Service.started k) g.S.Service.after g.S.Service.greeting) fetched c.args.fetching) (sym c.requires.own.kind) st.entries in
    let whole = subst (λ k. StandsWhole (machine (g.S.Service.started k) g.S.Service.after g.S.Service.greeting) (reverse fetched) c.finish.result) c.requires.own.kind (c.finish.ensures.law fetched before) in
    serves_on (machine (g.S.Service.started c.args.who.kind) g.S.Service.after g.S.Service.greeting) c.args.who standing count fetched c.in_ok-serving.serving c.args.turn.now.sent.items c.ask.new.turn.sent.items c.restore_all.new.turn.sent.items
    (sym (c.in_ok-ask.ensures.missing count fetched st) ∙ c.if-branch.false) (reported standing count fetched st) (c.in_ok-serving.ensures.turn standing fetched whole st.distinct sound)

pub returns-then-branch-clause-alone : goal.returns-then-branch-clause-alone
returns-then-branch-clause-alone g c = λ standing count fetched st.
    let reported = rw c.in_ok-ask.was at c.ask.ensures.turn in
    still_asks (machine (g.S.Service.started c.args.who.kind) g.S.Service.after g.S.Service.greeting) c.args.who standing count fetched c.args.fetching c.args.turn.now.sent.items c.ask.new.turn.sent.items
    (sym (c.in_ok-ask.ensures.missing count fetched st) ∙ c.if-branch.true) st (reported standing count fetched st)

pub returns-clause-alone : goal.returns-clause-alone
returns-clause-alone g c = λ standing count fetched st.
    let reported = rw c.in_ok-ask.was at c.ask.ensures.turn in
    let before = subst (λ k. StandsFetching (machine (g.S.Service.started k) g.S.Service.after g.S.Service.greeting) fetched c.args.fetching) (sym c.requires.own.kind) st.entries in
    let whole = subst (λ k. StandsWhole (machine (g.S.Service.started k) g.S.Service.after g.S.Service.greeting) (reverse fetched) c.finish.result) c.requires.own.kind (c.finish.ensures.law fetched before) in
    serves_alone (machine (g.S.Service.started c.args.who.kind) g.S.Service.after g.S.Service.greeting) c.args.who standing count fetched c.in_ok-serving.serving c.args.turn.now.sent.items c.ask.new.turn.sent.items c.restore_all.new.turn.sent.items
    (sym (c.in_ok-ask.ensures.missing count fetched st) ∙ c.if-branch.false) (reported standing count fetched st) (c.in_ok-serving.ensures.alone standing fetched whole st.distinct)
