use Rattle.std.proofs.Common.{◌≤◌, length, ap, subst, sym, arith}
use Rattle.logger_store.proofs.Fronts.{each_within}
use Rattle.logger_store.proofs.stored_entry.StoredEntry.read_length.Goals as goal

pub returns-clause-within : goal.returns-clause-within
returns-clause-within c = subst (λ n. n ≤ 2048) (sym c.at.ensures) (each_within 2048 c.args.index c.self.inside.lengths (omega (arith, ap (λ e. length e.lengths) c.self.view_is, c.requires)) c.self.invariant.4.each)
