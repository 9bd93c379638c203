use Rattle.std.proofs.Common.{◌∙◌, ◌-◌, ap, length, min}
use Rattle.logger_store.proofs.Fronts.{front_length}
use Rattle.logger_store.proofs.stored_entry.StoredEntry.copy_bytes.Goals as goal

pub returns-clause-count : goal.returns-clause-count
returns-clause-count c = ap length c.copy.ensures ∙ (front_length 1024 c.args.offset c.self.inside.bytes.bytes ∙ ap (λ e. min 1024 (length e.bytes - c.args.offset)) c.self.view_is)
