use Rattle.ft_model.specs.Legal.{machines}
use Rattle.mark_laws.specs.MarkedLegal.{markers}
use Rattle.mark_laws.proofs.Strip.{serves_plainly}
use Rattle.mark_laws.proofs.serving_turns_without_marks_are_lawful.Goals as goal

pub returns : goal.returns
returns g c = λ kind every opened node input before after marking sent t.
    serves_plainly (markers (machines g.S.Service.started g.S.Service.after g.S.Service.greeting) g.S.Saved.form g.S.Saved.state_of every kind) node input opened before after marking sent t
