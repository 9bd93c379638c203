use Rattle.ft_model.specs.Legal.{machines}
use Rattle.mark_laws.specs.MarkedLegal.{markers}
use Rattle.net_schedule.proofs.MarkedSent.{marked_keys_are, keeps_all_marked, marked_sent_as}
use Rattle.net_schedule.proofs.laws.marked_worlds_keep_what_was_sent.Goals as goal

pub returns-clause-keys : goal.returns-clause-keys
returns-clause-keys g c = λ every. marked_keys_are (markers (machines g.S.Service.started g.S.Service.after g.S.Service.greeting) g.S.Saved.form g.S.Saved.state_of every)

pub returns-clause-all : goal.returns-clause-all
returns-clause-all g c = λ savable every.
    keeps_all_marked (markers (machines g.S.Service.started g.S.Service.after g.S.Service.greeting) g.S.Saved.form g.S.Saved.state_of every)
    (λ kind start trace joint. c.marked_parcels_are_written.ensures kind every start trace (λ some. savable) joint)

pub returns-clause-each : goal.returns-clause-each
returns-clause-each g c = λ savable every.
    marked_sent_as (markers (machines g.S.Service.started g.S.Service.after g.S.Service.greeting) g.S.Saved.form g.S.Saved.state_of every)
    (λ kind start trace joint. c.marked_parcels_are_written.ensures kind every start trace (λ some. savable) joint)
