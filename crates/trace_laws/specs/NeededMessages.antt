-- Which messages a file has to keep so that it gives the same log.
use Rattle.std.specs.Prelude.{◌≡◌, ◌⊎◌, List, [], ◌∷◌}
use Rattle.seq_arith.specs.Message.{Message}
use Rattle.ft_model.specs.Log.{Log, log_after}

-- the log after messages, the oldest first
abbrev pub log_after_all : Log → List Message → Log
log_after_all log [] = log
log_after_all log (message ∷ messages) = log_after_all (log_after log message) messages

-- of all messages these are kept: each one that changes the log, and maybe others
abbrev pub IsKeptOf : Log → List Message → List Message → Type 0
IsKeptOf log [] kept = kept ≡ []
IsKeptOf log (message ∷ messages) kept =
    ((rest : List Message) × (kept ≡ message ∷ rest) × IsKeptOf (log_after log message) messages rest)
    ⊎ ((log_after log message ≡ log) × IsKeptOf log messages kept)
