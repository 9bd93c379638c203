use Rattle.std.proofs.Common.{◌∙◌, ap}
use Rattle.std.proofs.lemmas.Result.{on_ok_weaker}
use Rattle.twin_log.proofs.Cases.{wide_is_noise}
use Rattle.twin_log.proofs.excluded.a_plain_pair_takes_a_wide_message.Goals as goal

pub returns-clause-next : goal.returns-clause-next
returns-clause-next c =
    on_ok_weaker c.on_server.result (λ is. is ∙ ap (λ d. d.next) (wide_is_noise c.args.log.now c.requires.plain)) c.on_server.ensures.next

pub returns-clause-sent : goal.returns-clause-sent
returns-clause-sent c =
    on_ok_weaker c.on_server.result (λ is. is ∙ ap (λ d. d.sent) (wide_is_noise c.args.log.now c.requires.plain)) c.on_server.ensures.sent
