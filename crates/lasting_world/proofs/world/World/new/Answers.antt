use Rattle.std.proofs.Common.{refl}
use Rattle.ft_model.specs.Legal.{machines}
use Rattle.lasting_world.proofs.Trace.{starts}
use Rattle.lasting_world.proofs.world.World.new.Goals as goal

pub returns : goal.returns
returns g c =
    starts (machines g.S.Service.started g.S.Service.after g.S.Service.greeting) c.args.waits c.args.schedule.now _ c.requires.playable c.number.ensures refl refl refl refl c.in_ok-new.ensures.profile
    (c.in_ok-new.ensures.stands c.args.waits)
