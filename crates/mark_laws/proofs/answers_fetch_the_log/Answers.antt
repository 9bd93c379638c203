use Rattle.server_trait.specs.Service.{machine}
use Rattle.mark_laws.proofs.Answered.{answers_agree, answers_lead}
use Rattle.mark_laws.proofs.answers_fetch_the_log.Goals as goal

pub returns : goal.returns
returns g c = λ kind writing l marks boot count asked answer before back log was same e.
    answers_lead (machine (g.S.Service.started kind) g.S.Service.after g.S.Service.greeting) writing l marks boot count answer before back log was (answers_agree l asked answer same e)
