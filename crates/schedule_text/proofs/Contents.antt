-- What the line of a packet says behind its direction, for the packets of a world with one log, and for messages about marks.
use Rattle.std.proofs.Common.{◌≡◌, ◌∙◌, ℕ, ◌==◌, Bool, true, false, true≢false, not, nat_lt, List, length, Result, Ok, Err, Some, option_map, refl, ap, sym, subst, eqb-true, if◌then◌else◌}
use Rattle.std.specs.Prelude.{IsErr, IsOk}
use Rattle.seq_arith.specs.Bytes.{word_at}
use Rattle.seq_arith.specs.Mark.{MarkMessage}
use Rattle.seq_arith.specs.Message.{Message}
use Rattle.seq_arith.specs.declared.kinds.BadMsg.{BadMsg}
use Rattle.seq_arith.specs.declared.kinds.Grammar.{Grammar}
use Rattle.seq_arith.specs.declared.kinds.BadMsg.TheVariants as bad_msg
use Rattle.seq_arith.specs.declared.mark.BadMark.{BadMark}
use Rattle.seq_arith.specs.declared.mark.BadMark.TheVariants as bad_mark
use Rattle.seq_arith.specs.MarkGrammar as marks
use Rattle.seq_arith.specs.MessageGrammar as messages
use Rattle.seq_arith.proofs.Refused.{accepted}
use Rattle.ft_model.specs.Network.{Packet}
use Rattle.ft_model.specs.Network.Packet.{To_logger, From_logger}
use Rattle.ft_model.specs.Report.{content_words, message_words}
use Rattle.ft_model.specs.declared.way.Way.{Way}
use Rattle.ft_model.specs.declared.way.Way.TheVariants.{ClientToServer, ServerToClient, ServerToLogger, LoggerToServer, HeadToTail, TailToHead}
use Rattle.ft_model.proofs.Lists.{none_is_some}
use Rattle.mark_laws.specs.MarkedReport.{mark_words}
use Rattle.schedule_text.specs.Bytes.{said_as, packet_by, logged_words, content_by}

-- a message is read as itself, whatever the other grammar says of its bytes
message_said : (as_packet : Message → Packet) → ((message : Message) → content_words (as_packet message) ≡ message_words message) → (read : Result Message BadMsg) (about_marks : Result MarkMessage BadMark)
    (packet : Packet) → said_as as_packet read ≡ Some packet → logged_words read about_marks ≡ Some (content_words packet)
message_said as_packet same (Ok message) about_marks packet e = ap Some (sym (same message)) ∙ ap (option_map content_words) e
message_said as_packet same (Err why) about_marks packet e = none_is_some packet e

to_logger_words : (message : Message) → content_words (To_logger message) ≡ message_words message
unfolding content_words
to_logger_words message = refl

from_logger_words : (message : Message) → content_words (From_logger message) ≡ message_words message
unfolding content_words
from_logger_words message = refl

pub content_of_packet : (grammar : Grammar) (way : Way) (bytes : List ℕ) (packet : Packet) → packet_by grammar way bytes ≡ Some packet
    → content_by grammar way bytes ≡ Some (content_words packet)
content_of_packet grammar (ClientToServer n) bytes packet e = ap (option_map content_words) e
content_of_packet grammar (ServerToClient n) bytes packet e = ap (option_map content_words) e
content_of_packet grammar ServerToLogger bytes packet e = message_said To_logger to_logger_words (messages.reading_by grammar bytes) (marks.reading bytes) packet e
content_of_packet grammar LoggerToServer bytes packet e = message_said From_logger from_logger_words (messages.reading_by grammar bytes) (marks.reading bytes) packet e
content_of_packet grammar HeadToTail bytes packet e = none_is_some packet e
content_of_packet grammar TailToHead bytes packet e = none_is_some packet e

-- what begins as a message about marks is no other message
begins_so : {V : Type 0} (short magic : Bool) (rest : Result V BadMark) → IsOk (if short then Err bad_mark.Short else (if not magic then Err bad_mark.Magic else rest)) → magic ≡ true
begins_so true magic rest ok = absurd (true≢false (sym ok))
begins_so false true rest ok = refl
begins_so false false rest ok = absurd (true≢false (sym ok))

begins_otherwise : {V : Type 0} (short magic : Bool) (rest : Result V BadMsg) → magic ≡ false → IsErr (if short then Err bad_msg.Short else (if not magic then Err bad_msg.Magic else rest))
begins_otherwise true magic rest other = refl
begins_otherwise false true rest other = absurd (true≢false other)
begins_otherwise false false rest other = refl

other_magic : (word : ℕ) → (word == 18006) ≡ true → (word == 18004) ≡ false
other_magic word is = subst (λ n. (n == 18004) ≡ false) (sym (eqb-true word 18006 is)) refl

no_message : (grammar : Grammar) (bytes : List ℕ) → IsOk (marks.reading bytes) → IsErr (messages.reading_by grammar bytes)
unfolding marks.reading messages.reading_by
no_message grammar bytes ok =
    begins_otherwise (nat_lt (length bytes) 16) (word_at bytes 0 == 18004) _ (other_magic (word_at bytes 0) (begins_so (nat_lt (length bytes) 16) (word_at bytes 0 == 18006) _ ok))

mark_said : (read : Result Message BadMsg) (about_marks : Result MarkMessage BadMark) (message : MarkMessage) → IsErr read → about_marks ≡ Ok message → logged_words read about_marks ≡ Some (mark_words message)
mark_said (Ok other) about_marks message refused is = absurd (true≢false (sym refused))
mark_said (Err why) about_marks message refused is = ap (logged_words (Err why)) is

pub content_of_mark : (grammar : Grammar) (bytes : List ℕ) (message : MarkMessage) → marks.reading bytes ≡ Ok message
    → logged_words (messages.reading_by grammar bytes) (marks.reading bytes) ≡ Some (mark_words message)
content_of_mark grammar bytes message is =
    mark_said (messages.reading_by grammar bytes) (marks.reading bytes) message (no_message grammar bytes (accepted is)) is
