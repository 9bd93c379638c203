use Rattle.std.proofs.Common.{◌∙◌}
use Rattle.server_trait.specs.Service.{machine}
use Rattle.server_trait.specs.Saved.{writing}
use Rattle.ft_io.proofs.Outcomes.{if_ok}
use Rattle.mark_laws.proofs.MarksSent.{is_quiet_there, quiet_where_it_is}
use Rattle.conn_marks.proofs.Due.{advances, short_form}
use Rattle.conn_marks.proofs.marking.Marking.advance.Goals as goal

pub returns-clause-law : goal.returns-clause-law
returns-clause-law g c = if_ok c.make.result
    (λ made is savable kind p st bytes.
    let service = machine (g.S.Service.started kind) g.S.Service.after g.S.Service.greeting in
    let written = writing g.S.Saved.form (g.S.Saved.state_of kind) in
    is
    ∙ advances service written c.args.every p c.args.self.now c.args.conn.now g.met.S.Service.closes (quiet_where_it_is service p, is_quiet_there service p) c.requires st
    (λ some quiet. short_form service written p (g.met.S.Saved.reads_back (savable some) kind) bytes quiet))
    c.make.ensures.state
