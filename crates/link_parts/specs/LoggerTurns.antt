-- The turns of a logger over its link. In each turn it receives once, and hands the log's answer, if there is one, to send, addressed to the message's
-- sender, before it receives again. The messages of its log and the answers have one grammar; if its words say so, it heeds messages about forgetting too.
use Rattle.std.specs.Prelude.{Bool, false, Option, None, Some, List, [], ◌∷◌, ◌++◌}
use Rattle.ft_io.specs.declared.Addr.{Addr}
use Rattle.ft_io.specs.declared.link_call.LinkCall.{LinkCall}
use Rattle.ft_io.specs.declared.link_call.LinkCall.TheVariants.{Handed}
use Rattle.seq_arith.specs.declared.kinds.Grammar.{Grammar}
use Rattle.ft_model.specs.Log.{Log, empty_log}
use Rattle.long_laws.specs.Forgetting.{ForgetAnswer}
use Rattle.forget_store.specs.declared.heeding.Heeded.{Heeded}
use Rattle.forget_store.specs.AnyMessage.{AnyMessage, heeded_in, log_after_any, answer_to_any, wants_for}
use Rattle.forget_store.specs.Replies.{reply_bytes}
use Rattle.link_parts.specs.Receipt.{Received, datagram, silence, failure, received_as}

-- what was received, and whether the send of the answer fails: then the answer is lost
pub record LoggerTurn : Type 0 where
  pub received : Received
  pub is_lost : Bool

-- the log after a message, and its answer. Bytes that are no message that is heeded change nothing and get no answer
abbrev pub log_with : Log → Option AnyMessage → Log
log_with log (Some any) = log_after_any log any
log_with log None = log

abbrev pub answer_for : Log → Option AnyMessage → Option ForgetAnswer
answer_for log (Some any) = answer_to_any log any
answer_for log None = None

-- whether the log may need memory for them: only for a message that adds to it
abbrev pub wants_in : Log → Option AnyMessage → Bool
wants_in log (Some any) = wants_for log any
wants_in log None = false

abbrev pub log_then : Heeded → Log → Received → Log
log_then heeded log (datagram from bytes) = log_with log (heeded_in heeded bytes)
log_then heeded log silence = log
log_then heeded log failure = log

abbrev pub handing : Grammar → Addr → Bool → Option ForgetAnswer → List LinkCall
handing grammar to is_lost None = []
handing grammar to is_lost (Some answer) = Handed to (reply_bytes grammar (Some answer)) is_lost ∷ []

abbrev pub answering : Heeded → Log → Bool → Received → List LinkCall
answering heeded log is_lost (datagram from bytes) = handing heeded.grammar from is_lost (answer_for log (heeded_in heeded bytes))
answering heeded log is_lost silence = []
answering heeded log is_lost failure = []

-- the calls of one turn
abbrev pub turn_calls : Heeded → Log → LoggerTurn → List LinkCall
turn_calls heeded log turn = received_as turn.received ∷ answering heeded log turn.is_lost turn.received

-- the log after turns, the newest first, from the empty log on
abbrev pub log_at : Heeded → List LoggerTurn → Log
log_at heeded [] = empty_log
log_at heeded (turn ∷ earlier) = log_then heeded (log_at heeded earlier) turn.received

-- the calls of turns, the newest first; the oldest call first
abbrev pub calls_of : Heeded → List LoggerTurn → List LinkCall
calls_of heeded [] = []
calls_of heeded (turn ∷ earlier) = calls_of heeded earlier ++ turn_calls heeded (log_at heeded earlier) turn
