-- Whole sessions: the replies to all bytes of a connection, however they are cut, and what lines and messages are (RFC 5321, sections 2.3.8 and 4.5.2).
use Rattle.std.specs.Prelude.{ℕ, Bool, true, false, ◌==◌, ◌&&◌, ◌||◌, Option, Some, None, List, [], ◌∷◌, ◌++◌, codes, if◌then◌else◌}
use Rattle.std.specs.List.{list_any}
use Rattle.mail_service.specs.declared.reply.Reply.{Reply}
use Rattle.mail_service.specs.declared.phase.Phase.{Phase}
use Rattle.mail_service.specs.declared.phase.Phase.TheVariants.{Silent, Ready, Sender, Recipients, Message}
use Rattle.mail_service.specs.Reply.{reply_text, reply_closes}
use Rattle.mail_service.specs.Phase.{at_first}
use Rattle.mail_service.specs.Mail.{MailState, at_line, read_byte}

-- the replies that are due in these bytes, in order
abbrev pub onto_replies : Option Reply → List Reply → List Reply
onto_replies None replies = replies
onto_replies (Some reply) replies = reply ∷ replies

abbrev pub replies_in : MailState → List ℕ → List Reply
replies_in state [] = []
replies_in state (byte ∷ bytes) = onto_replies (read_byte state byte).due (replies_in (read_byte state byte).next bytes)

-- the state after these bytes
abbrev pub state_after : MailState → List ℕ → MailState
state_after state [] = state
state_after state (byte ∷ bytes) = state_after (read_byte state byte).next bytes

-- the bytes of these replies, up to the first that closes
abbrev pub replies_text : List Reply → List ℕ
replies_text [] = []
replies_text (reply ∷ replies) = reply_text reply ++ (if reply_closes reply then [] else replies_text replies)

abbrev pub one_closes : List Reply → Bool
one_closes = list_any reply_closes

-- whether CR LF is among these bytes, where the byte before them is CR or isn't
abbrev pub has_end : (returned : Bool) → List ℕ → Bool
has_end returned [] = false
has_end returned (byte ∷ bytes) = (returned && byte == 10) || has_end (byte == 13) bytes

-- no message is being received
abbrev pub IsCommandPhase : Phase → Type 0
IsCommandPhase Silent = Unit {0}
IsCommandPhase Ready = Unit {0}
IsCommandPhase Sender = Unit {0}
IsCommandPhase (Recipients count) = Unit {0}
IsCommandPhase (Message text) = ⊥

-- a line on the wire
abbrev pub line_text : List ℕ → List ℕ
line_text line = line ++ codes "\r\n"

-- after DATA a message begins
abbrev pub at_message : (accepted : ℕ) → MailState
at_message accepted = at_line (Message at_first) accepted

-- the text of a message
abbrev pub text_of : List (List ℕ) → List ℕ
text_of [] = []
text_of (line ∷ lines) = line_text line ++ text_of lines

-- the client puts a dot before a line that begins with a dot, ..
abbrev pub dotted : List ℕ → List ℕ
dotted [] = []
dotted (byte ∷ line) = if byte == 46 then 46 ∷ byte ∷ line else byte ∷ line

abbrev pub stuffed : List (List ℕ) → List ℕ
stuffed [] = []
stuffed (line ∷ lines) = line_text (dotted line) ++ stuffed lines

-- .. and ends the message by a line that is a dot
abbrev pub the_end : List ℕ
the_end = codes ".\r\n"
