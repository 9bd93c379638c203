-- The messages that a logger heeds: those of the log in one grammar, and, if its words say so, those about forgetting.
use Rattle.std.specs.Prelude.{ℕ, ◌==◌, ◌&&◌, Bool, true, false, Option, Some, None, option_map, Result, Ok, Err, List, [], ◌∷◌}
use Rattle.std.specs.List.{list_any}
use Rattle.seq_arith.specs.Message.{Message}
use Rattle.seq_arith.specs.MessageGrammar as messages
use Rattle.seq_arith.specs.declared.kinds.BadMsg.{BadMsg}
use Rattle.seq_arith.specs.declared.kinds.Grammar.{Grammar}
use Rattle.ft_model.specs.Log.{Log, log_after, answer_to}
use Rattle.logger_store.specs.Changes.{changes}
use Rattle.logger_store.specs.StoreState.{wants_memory}
use Rattle.logger_wire.specs.Value as wire
use Rattle.long_laws.specs.Forgetting.{ForgetBody, ForgetMessage, ForgetAnswer, is_recycled, after_forget, answer_to_forget}
use Rattle.long_laws.specs.Forgetting.ForgetBody.{ForgetMsg, ForgottenMsg}
use Rattle.long_laws.specs.Forgetting.ForgetAnswer.{Of_log}
use Rattle.long_laws.specs.ForgetGrammar as forgets
use Rattle.forget_wire.specs.Value as forget_wire
use Rattle.forget_store.specs.declared.heeding.Heeded.{Heeded}
use Rattle.forget_store.specs.declared.heeding.AnyMsg as code
use Rattle.forget_store.specs.declared.heeding.AnyMsg.TheVariants as any

pub data AnyMessage : Type 0 where
  Usual : Message → AnyMessage  -- of the log
  Forgetting : ForgetMessage → AnyMessage  -- about forgetting

-- the code's message as that of the definitions
abbrev pub any_said : code.AnyMsg → AnyMessage
any_said (any.Usual message) = Usual (wire.message_of message)
any_said (any.Forgetting message) = Forgetting (forget_wire.message_of message)

-- it was read in this grammar, so its answer can be sent
abbrev pub IsAnswerable : Grammar → code.AnyMsg → Type 0
IsAnswerable grammar (any.Usual message) = wire.IsSendableBy grammar message
IsAnswerable grammar (any.Forgetting message) = forgets.IsSpellable (forget_wire.message_of message)

-- what bytes say to a logger: nothing if they are no message that it heeds
abbrev pub forgetting_as : (forgets : Bool) → Result ForgetMessage BadMsg → Option AnyMessage
forgetting_as true (Ok message) = Some (Forgetting message)
forgetting_as true (Err bad) = None
forgetting_as false read = None

abbrev pub heeded_as : (forgets : Bool) → Result Message BadMsg → Result ForgetMessage BadMsg → Option AnyMessage
heeded_as forgets (Ok message) read = Some (Usual message)
heeded_as forgets (Err bad) read = forgetting_as forgets read

abbrev pub heeded_in : Heeded → List ℕ → Option AnyMessage
heeded_in heeded bytes = heeded_as heeded.forgets (messages.reading_by heeded.grammar bytes) (forgets.reading bytes)

-- the log after a message, and its answer
abbrev pub log_after_any : Log → AnyMessage → Log
log_after_any log (Usual message) = log_after log message
log_after_any log (Forgetting message) = after_forget log message

abbrev pub answer_to_any : Log → AnyMessage → Option ForgetAnswer
answer_to_any log (Usual message) = option_map Of_log (answer_to log message)
answer_to_any log (Forgetting message) = answer_to_forget log message

-- whether the log may need memory for it: only for a message that adds to it
abbrev pub wants_for : Log → AnyMessage → Bool
wants_for log (Usual message) = wants_memory log message
wants_for log (Forgetting message) = false

-- a message about forgetting changes the log if it has the log's boot number, and recycles an entry
abbrev pub recycles : ForgetBody → Log → Bool
recycles (ForgetMsg n) log = list_any (is_recycled n) log.entries
recycles (ForgottenMsg n) log = false

abbrev pub is_changed_by : Log → AnyMessage → Bool
is_changed_by log (Usual message) = changes log message
is_changed_by log (Forgetting message) = message.boot == log.boot && recycles message.body log

-- the log after messages, the oldest first
abbrev pub log_after_each : Log → List AnyMessage → Log
log_after_each log [] = log
log_after_each log (any ∷ others) = log_after_each (log_after_any log any) others
