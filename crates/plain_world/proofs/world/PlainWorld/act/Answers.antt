use Rattle.std.proofs.Common.{subst, sym}
use Rattle.std.proofs.lemmas.Result.{on_ok_weaker}
use Rattle.ft_model.specs.Legal.{machines}
use Rattle.plain_world.specs.Turns.{Does}
use Rattle.plain_world.proofs.world.PlainWorld.act.Goals as goal

pub returns-in-Flip : goal.returns-in-Flip
returns-in-Flip g c =
    on_ok_weaker c.flip.result
    (λ does. subst (λ event. Does (machines g.S.Service.started g.S.Service.after g.S.Service.greeting) event c.args.self.now c.flip.new.self) (sym c.in-Flip.is) (does c.in-Flip.bit)) c.flip.ensures
