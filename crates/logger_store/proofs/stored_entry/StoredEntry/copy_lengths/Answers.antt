use Rattle.std.proofs.Common.{◌∙◌, ◌-◌, ap, length, min}
use Rattle.std.specs.Prelude.{nat_le}
use Rattle.std.specs.List.{list_all}
use Rattle.logger_store.proofs.Fronts.{front_length, front_holds}
use Rattle.logger_store.proofs.stored_entry.StoredEntry.copy_lengths.Goals as goal

pub returns-clause-count : goal.returns-clause-count
returns-clause-count c = ap length c.copy.ensures ∙ (front_length 512 c.args.first c.self.inside.lengths ∙ ap (λ e. min 512 (length e.lengths - c.args.first)) c.self.view_is)

pub returns-clause-each : goal.returns-clause-each
returns-clause-each c = ap (list_all (λ n. nat_le n 2048)) c.copy.ensures ∙ front_holds (λ n. nat_le n 2048) 512 c.args.first c.self.inside.lengths c.self.invariant.4.each
