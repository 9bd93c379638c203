-- A restart's questions to a log with marks, and the answers.
use Rattle.std.specs.Prelude.{◌≡◌, ◌⊎◌, Option, option_map, map}
use Rattle.std.specs.List.{AllByRecursion}
use Rattle.server_trait.specs.Service.{Machine, AreBytes}
use Rattle.server_trait.specs.Saved.{Writing}
use Rattle.ft_model.specs.Log.{log_after}
use Rattle.ft_model.specs.Keys.{AreDistinct}
use Rattle.mark_laws.specs.MarkedLog.{MarkedLog, AnyMessage, no_mark, after_mark, answer_above, answer_to_mark}
use Rattle.mark_laws.specs.MarkedLog.AnyMessage.{About_mark, Of_log}
use Rattle.mark_laws.specs.Runs.{IsRunOf}

-- the log's answer to any message
abbrev pub answer_of : MarkedLog → AnyMessage → Option AnyMessage
answer_of l (Of_log message) = option_map Of_log (answer_above l message)
answer_of l (About_mark message) = answer_to_mark l message

-- a message that changes nothing
abbrev pub IsQuestion : MarkedLog → AnyMessage → Type 0
IsQuestion l (Of_log message) = log_after l.log message ≡ l.log
IsQuestion l (About_mark message) = after_mark l message ≡ l

-- a log of bytes in which no two entries have the same key, and each has a true mark or none
pub record HasTrueMarks {State : Type 0} (service : Machine State) (writing : Writing State) (l : MarkedLog) : Type 0 where
  pub distinct : AreDistinct (map (λ e. e.key) l.log.entries)
  pub bytes : AllByRecursion (λ e. AreBytes e.bytes) l.log.entries
  pub marks : AllByRecursion (λ e. (l.marks e.key ≡ no_mark) ⊎ IsRunOf service writing e (l.marks e.key)) l.log.entries
