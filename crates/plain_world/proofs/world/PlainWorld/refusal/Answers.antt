use Rattle.ft_model.specs.Legal.{machines}
use Rattle.plain_world.proofs.Trace.{refusal_seen}
use Rattle.plain_world.proofs.world.PlainWorld.refusal.Goals as goal

pub returns : goal.returns
returns g c = refusal_seen (machines g.S.Service.started g.S.Service.after g.S.Service.greeting) c.args.self.now c.args.event.now c.refusal_now.result c.refusal_now.ensures
