use Rattle.std.proofs.Common.{◌∙◌, false, None, Some, option_map, ap, sym}
use Rattle.server_trait.specs.Service.{machine}
use Rattle.reincarnate.specs.Marking.{any_of}
use Rattle.server_node.proofs.Unmarked.{asked_of_log, law_asked, so_far_unmarked}
use Rattle.server_node.proofs.restarting.question_of.Goals as goal

pub returns-in-Some-clause-value : goal.returns-in-Some-clause-value
returns-in-Some-clause-value g c =
    c.log_message.ensures.value
    ∙ asked_of_log c.args.fetching.now (Some (any_of c.in-Some.question)) c.requires (ap (option_map any_of) (sym c.in-Some.is) ∙ c.question.ensures.value)

pub returns-in-Some-clause-law : goal.returns-in-Some-clause-law
returns-in-Some-clause-law g c = λ fetched st.
    let service = machine (g.S.Service.started c.args.fetching.now.kind) g.S.Service.after g.S.Service.greeting in
    c.log_message.ensures.value
    ∙ law_asked c.args.fetching.now.boot c.args.fetching.now.count fetched (Some (any_of c.in-Some.question))
    (ap (option_map any_of) (sym c.in-Some.is)
    ∙ c.question.ensures.law (record { entries = fetched; awaits_mark = false }) (so_far_unmarked service c.args.fetching.now fetched c.requires st))

pub returns-in-None-clause-value : goal.returns-in-None-clause-value
returns-in-None-clause-value g c =
    asked_of_log c.args.fetching.now None c.requires (ap (option_map any_of) (sym c.in-None.is) ∙ c.question.ensures.value)

pub returns-in-None-clause-law : goal.returns-in-None-clause-law
returns-in-None-clause-law g c = λ fetched st.
    let service = machine (g.S.Service.started c.args.fetching.now.kind) g.S.Service.after g.S.Service.greeting in
    law_asked c.args.fetching.now.boot c.args.fetching.now.count fetched None
    (ap (option_map any_of) (sym c.in-None.is)
    ∙ c.question.ensures.law (record { entries = fetched; awaits_mark = false }) (so_far_unmarked service c.args.fetching.now fetched c.requires st))
