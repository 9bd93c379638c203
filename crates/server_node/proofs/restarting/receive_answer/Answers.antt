use Rattle.std.proofs.Common.{false}
use Rattle.server_trait.specs.Service.{machine}
use Rattle.server_trait.specs.Saved.{writing}
use Rattle.logger_wire.specs.Value.{message_of}
use Rattle.ft_io.proofs.Outcomes.{if_ok}
use Rattle.server_node.proofs.Unmarked.{answer_of_log, leads_as_unmarked, so_far_unmarked}
use Rattle.server_node.proofs.restarting.receive_answer.Goals as goal

pub returns-clause-value : goal.returns-clause-value
returns-clause-value g c =
    if_ok c.on_answer.result
    (λ fits m. answer_of_log g.S.Service.started g.S.Service.after g.S.Service.greeting g.S.Saved.state_of (message_of c.args.m.now) c.args.fetching.now c.on_answer.new.self fits c.requires.unmarked m)
    c.on_answer.ensures.value

pub returns-clause-law : goal.returns-clause-law
returns-clause-law g c =
    if_ok c.on_answer.result
    (λ fits leads fetched st.
    let service = machine (g.S.Service.started c.args.fetching.now.kind) g.S.Service.after g.S.Service.greeting in
    leads_as_unmarked service (writing g.S.Saved.form (g.S.Saved.state_of c.args.fetching.now.kind)) (message_of c.args.m.now) c.args.fetching.now c.on_answer.new.self fits fetched
    (leads (record { entries = fetched; awaits_mark = false }) (so_far_unmarked service c.args.fetching.now fetched c.requires.unmarked st)))
    c.on_answer.ensures.law
