use Rattle.reincarnate.proofs.MarkLaw.{any_leads}
use Rattle.reincarnate.specs.Marking.{any_of}
use Rattle.reincarnate.proofs.fetching.Fetching.on_answer.Goals as goal
use Rattle.ft_io.proofs.Outcomes.{if_ok}

pub returns-clause-law : goal.returns-clause-law
returns-clause-law g c =
    if_ok c.receive_any.result (λ fits reported so_far st. any_leads g.S.Service.started g.S.Service.after g.S.Service.greeting g.S.Saved.form g.S.Saved.state_of c.args.self.now so_far (any_of c.args.m.now) fits
    c.receive_any.new.self st reported) c.receive_any.ensures.value
