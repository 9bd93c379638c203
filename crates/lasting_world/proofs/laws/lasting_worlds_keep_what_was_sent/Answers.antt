use Rattle.ft_model.specs.Legal.{machines}
use Rattle.lasting_world.proofs.Trace.{worlds_keep}
use Rattle.lasting_world.proofs.laws.lasting_worlds_keep_what_was_sent.Goals as goal

pub returns : goal.returns
returns g c = record { all = worlds_keep (machines g.S.Service.started g.S.Service.after g.S.Service.greeting) c.lasting_parcels_are_written.ensures.kept }
