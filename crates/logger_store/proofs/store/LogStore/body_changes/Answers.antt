use Rattle.std.proofs.Common.{◌∙◌, sym, ap}
use Rattle.std.proofs.lemmas.Bool.{not-false}
use Rattle.ft_model.specs.Log.{with_body}
use Rattle.logger_wire.specs.Records.{numbers_said}
use Rattle.logger_wire.specs.Value.{body_of}
use Rattle.logger_store.proofs.Changed.{open_stays}
use Rattle.logger_store.proofs.store.LogStore.body_changes.Goals as goal

pub returns-in-Open-clause-stays : goal.returns-in-Open-clause-stays
returns-in-Open-clause-stays c = λ none.
    ap (λ b. with_body (body_of b) c.args.self.now) c.in-Open.is
    ∙ open_stays (numbers_said c.in-Open.numbers) c.args.self.now
    (sym c.turns_away.ensures ∙ not-false c.turns_away.result none)
