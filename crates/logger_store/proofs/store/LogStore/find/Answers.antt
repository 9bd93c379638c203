use Rattle.std.proofs.Common.{◌∙◌, sym, ap}
use Rattle.ft_model.specs.Log.{entry_of}
use Rattle.logger_store.proofs.Entries.{found}
use Rattle.logger_store.proofs.store.LogStore.find.Goals as goal

pub returns : goal.returns
returns c = c.get.ensures.value ∙ (sym (found c.args.key c.self.inside.entries.entries c.self.invariant.0) ∙ ap (λ l. entry_of c.args.key l) c.self.view_is)
