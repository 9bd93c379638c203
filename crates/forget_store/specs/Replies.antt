-- How bytes change a log whose entries may be recycled, and the bytes of the answer to them.
use Rattle.std.specs.Prelude.{ℕ, ◌≤◌, ◌<◌, Option, Some, None, option_map, Result, Ok, Err, List, []}
use Rattle.seq_arith.specs.Message.{Message}
use Rattle.seq_arith.specs.Message.Body.{StaleMsg}
use Rattle.seq_arith.specs.MessageGrammar as messages
use Rattle.seq_arith.specs.declared.kinds.BadMsg.{BadMsg}
use Rattle.seq_arith.specs.declared.kinds.Grammar.{Grammar}
use Rattle.ft_model.specs.Log.{Log, log_after, answer_to}
use Rattle.long_laws.specs.Forgetting.{ForgetMessage, ForgetAnswer, forgotten_message, after_forget, answer_to_forget}
use Rattle.long_laws.specs.Forgetting.ForgetAnswer.{About_forgetting, Of_log}
use Rattle.long_laws.specs.ForgetGrammar as forgets
use Rattle.forget_wire.specs.Value.{named_said}
use Rattle.forget_store.specs.declared.reply.Reply.{Reply}
use Rattle.forget_store.specs.declared.reply.Reply.TheVariants as reply

-- the code's answer as that of the definitions
abbrev pub reply_said : Reply → ForgetAnswer
reply_said (reply.Forgotten boot named) = About_forgetting (forgotten_message boot (named_said named))
reply_said (reply.Stale boot newer) = Of_log (record { boot = boot; body = StaleMsg newer })

-- it can be written
abbrev pub IsSendable : Reply → Type 0
IsSendable (reply.Forgotten boot named) = forgets.IsSpellable (forgotten_message boot (named_said named))
IsSendable (reply.Stale boot newer) = (1 ≤ boot) × (boot < newer)

-- the log after bytes that are a message of the log, one about forgetting, or neither
abbrev pub after_reading : Result Message BadMsg → Result ForgetMessage BadMsg → Log → Log
after_reading (Ok message) _ log = log_after log message
after_reading (Err _) (Ok message) log = after_forget log message
after_reading (Err _) (Err _) log = log

-- .. in a grammar
abbrev pub after_bytes : Grammar → List ℕ → Log → Log
after_bytes grammar bytes log = after_reading (messages.reading_by grammar bytes) (forgets.reading bytes) log

-- .. and the answer
abbrev pub answer_to_reading : Result Message BadMsg → Result ForgetMessage BadMsg → Log → Option ForgetAnswer
answer_to_reading (Ok message) _ log = option_map Of_log (answer_to log message)
answer_to_reading (Err _) (Ok message) log = answer_to_forget log message
answer_to_reading (Err _) (Err _) log = None

abbrev pub reply_bytes : Grammar → Option ForgetAnswer → List ℕ
reply_bytes grammar (Some (About_forgetting message)) = forgets.spelling message
reply_bytes grammar (Some (Of_log message)) = messages.spelling_by grammar message
reply_bytes grammar None = []

-- the bytes of the answer to bytes, or none
abbrev pub answer_to_bytes : Grammar → List ℕ → Log → List ℕ
answer_to_bytes grammar bytes log = reply_bytes grammar (answer_to_reading (messages.reading_by grammar bytes) (forgets.reading bytes) log)

-- a message about forgetting is sent in place of one of the log
abbrev pub bytes_out : Option (List ℕ) → List ℕ → List ℕ
bytes_out (Some forgotten) of_log = forgotten
bytes_out None of_log = of_log
