-- What changes nothing needn't be kept.
use Rattle.std.proofs.Common.{◌≡◌, inl, inr, sym, ap, ◌∙◌, List, [], ◌∷◌}
use Rattle.seq_arith.specs.Message.{Message}
use Rattle.ft_model.specs.Log.{Log, log_after}
use Rattle.trace_laws.specs.NeededMessages.{log_after_all, IsKeptOf}

pub kept_alone : (log : Log) (messages kept : List Message) → IsKeptOf log messages kept → log_after_all log kept ≡ log_after_all log messages
kept_alone log [] kept none = ap (log_after_all log) none
kept_alone log (message ∷ messages) kept (inl (rest, is, k)) = ap (log_after_all log) is ∙ kept_alone (log_after log message) messages rest k
kept_alone log (message ∷ messages) kept (inr (same, k)) = kept_alone log messages kept k ∙ ap (λ (l : Log). log_after_all l messages) (sym same)
