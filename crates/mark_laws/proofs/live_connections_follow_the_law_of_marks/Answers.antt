use Rattle.ft_model.specs.Legal.{machines}
use Rattle.mark_laws.specs.MarkedLegal.{markers}
use Rattle.mark_laws.proofs.LawOfMarks.{follows_law}
use Rattle.mark_laws.proofs.live_connections_follow_the_law_of_marks.Goals as goal

pub returns : goal.returns
returns g c = λ kind every node news p now sent t.
    follows_law (markers (machines g.S.Service.started g.S.Service.after g.S.Service.greeting) g.S.Saved.form g.S.Saved.state_of every kind) node news p now sent t
