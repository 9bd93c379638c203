-- How bytes change the log with marks, and the bytes of the answer to them.
use Rattle.std.specs.Prelude.{ℕ, ◌-◌, Option, Some, None, option_map, Result, Ok, Err, List, [], length, slice_get}
use Rattle.std.specs.Option.{option_map_or}
use Rattle.seq_arith.specs.Mark.{MarkMessage}
use Rattle.seq_arith.specs.Message.{Message}
use Rattle.seq_arith.specs.MarkGrammar as marks
use Rattle.seq_arith.specs.MessageGrammar as messages
use Rattle.seq_arith.specs.declared.mark.BadMark.{BadMark}
use Rattle.seq_arith.specs.declared.kinds.BadMsg.{BadMsg}
use Rattle.seq_arith.specs.declared.kinds.Grammar.{Grammar}
use Rattle.seq_arith.specs.declared.kinds.Grammar.TheVariants.{Plain}
use Rattle.log_pages.specs.Pages.{pages}
use Rattle.mark_laws.specs.MarkedLog.{MarkedLog, AnyMessage, after_mark, after_message, answer_above, answer_to_mark}
use Rattle.mark_laws.specs.MarkedLog.AnyMessage.{About_mark, Of_log}

-- the log after bytes that are a message of the log, one about marks, or neither
abbrev pub after_reading : Result Message BadMsg → Result MarkMessage BadMark → MarkedLog → MarkedLog
after_reading (Ok message) _ l = after_message l message
after_reading (Err _) (Ok message) l = after_mark l message
after_reading (Err _) (Err _) l = l

-- .. whose messages have this grammar; those about marks have one grammar
abbrev pub after_bytes_by : Grammar → List ℕ → MarkedLog → MarkedLog
after_bytes_by grammar bytes l = after_reading (messages.reading_by grammar bytes) (marks.reading bytes) l

abbrev pub after_bytes : List ℕ → MarkedLog → MarkedLog
after_bytes bytes l = after_bytes_by Plain bytes l

abbrev pub reply_to_reading : Result Message BadMsg → Result MarkMessage BadMark → MarkedLog → Option AnyMessage
reply_to_reading (Ok message) _ l = option_map Of_log (answer_above l message)
reply_to_reading (Err _) (Ok message) l = answer_to_mark l message
reply_to_reading (Err _) (Err _) l = None

abbrev pub reply_bytes_by : Grammar → Option AnyMessage → List ℕ
reply_bytes_by grammar (Some (About_mark message)) = marks.spelling message
reply_bytes_by grammar (Some (Of_log message)) = messages.spelling_by grammar message
reply_bytes_by grammar None = []

abbrev pub reply_bytes : Option AnyMessage → List ℕ
reply_bytes reply = reply_bytes_by Plain reply

-- the bytes of the reply to bytes, or none
abbrev pub reply_to_by : Grammar → List ℕ → MarkedLog → List ℕ
reply_to_by grammar bytes l = reply_bytes_by grammar (reply_to_reading (messages.reading_by grammar bytes) (marks.reading bytes) l)

abbrev pub reply_to : List ℕ → MarkedLog → List ℕ
reply_to bytes l = reply_to_by Plain bytes l

-- how many bytes of the entry at a place are stored: those past the complete pages below its mark
abbrev pub kept_at : ℕ → MarkedLog → ℕ
kept_at i l = option_map_or (λ e. length e.bytes - pages (l.marks e.key).length) (slice_get l.log.entries i) 0
