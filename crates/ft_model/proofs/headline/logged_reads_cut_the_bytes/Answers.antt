use Rattle.ft_model.proofs.headline.logged_reads_cut_the_bytes.Goals as goal
use Rattle.server_trait.specs.Service.{machine}
use Rattle.ft_model.proofs.Cuttable.{cut_over}

pub returns : goal.returns
returns g c = λ kind start trace joint. cut_over (machine (g.S.Service.started kind) g.S.Service.after g.S.Service.greeting) start trace joint
