-- The phases of a session (RFC 5321, section 4.1.4), and the text of a message (section 4.5.2): only CR LF . CR LF ends it. A dot that begins a line was put
-- there by the client, and is no part of the text. A CR or a LF elsewhere is text.
use Rattle.std.specs.Prelude.{ℕ, ◌+◌, min, ◌==◌, nat_lt, Option, Some, None, if◌then◌else◌}
use Rattle.mail_service.specs.declared.reply.Answer.{Answer}
use Rattle.mail_service.specs.declared.reply.Answer.TheVariants.{Hello, Extended, Done, Send, TooMany, Unverified, Bye, WrongPhase}
use Rattle.mail_service.specs.declared.command.Command.{Command}
use Rattle.mail_service.specs.declared.command.Command.TheVariants.{Helo, Ehlo, Mail, Rcpt, Data, Rset, Noop, Vrfy, Quit, Wrong}
use Rattle.mail_service.specs.declared.phase.Ending.{Ending}
use Rattle.mail_service.specs.declared.phase.Ending.TheVariants.{Inside, Return, LineStart, Dot, DotReturn}
use Rattle.mail_service.specs.declared.phase.Text.{Text}
use Rattle.mail_service.specs.declared.phase.Phase.{Phase}
use Rattle.mail_service.specs.declared.phase.Phase.TheVariants.{Silent, Ready, Sender, Recipients, Message}
use Rattle.mail_service.specs.declared.phase.Step.{Step}
use Rattle.mail_service.specs.Command.{size_limit}

-- so many more bytes. The size stays at one more than a message may have
abbrev pub larger : (size more : ℕ) → ℕ
larger size more = min (size + more) (size_limit + 1)

-- a message of which nothing has been received
abbrev pub at_first : Text
at_first = record { ending = LineStart; size = 0 }

-- what has been received of the end, after a byte within a line, ..
abbrev pub in_line : ℕ → Ending
in_line byte = if byte == 13 then Return else Inside

-- .. after one that follows CR, ..
abbrev pub after_return : ℕ → Ending
after_return byte = if byte == 10 then LineStart else in_line byte

-- .. after the first of a line, ..
abbrev pub after_start : (size byte : ℕ) → Text
after_start size byte = if byte == 46 then record { ending = Dot; size = size } else record { ending = in_line byte; size = larger size 1 }

-- .. after one that follows a dot there, ..
abbrev pub after_dot : (size byte : ℕ) → Text
after_dot size byte = if byte == 13 then record { ending = DotReturn; size = size } else record { ending = in_line byte; size = larger size 1 }

-- .. and after one that follows the dot and CR: a LF ends the message
abbrev pub after_dot_return : (size byte : ℕ) → Option Text
after_dot_return size byte = if byte == 10 then None else Some (record { ending = in_line byte; size = larger size 2 })

-- the message after one more byte, or none where it ends
abbrev pub text_after : Ending → (size byte : ℕ) → Option Text
text_after Inside size byte = Some (record { ending = in_line byte; size = larger size 1 })
text_after Return size byte = Some (record { ending = after_return byte; size = larger size 1 })
text_after LineStart size byte = Some (after_start size byte)
text_after Dot size byte = Some (after_dot size byte)
text_after DotReturn size byte = after_dot_return size byte

-- a reply that leaves the phase as it is
abbrev pub stays : Phase → Answer → Step
stays phase reply = record { next = phase; reply = reply }

-- MAIL begins a transaction, ..
abbrev pub mail_step : Phase → Step
mail_step Silent = stays Silent WrongPhase
mail_step Ready = record { next = Sender; reply = Done }
mail_step Sender = stays Sender WrongPhase
mail_step (Recipients count) = stays (Recipients count) WrongPhase
mail_step (Message text) = stays (Message text) WrongPhase

-- .. RCPT adds a recipient, up to 100, ..
abbrev pub one_more : ℕ → Step
one_more count =
    if nat_lt count 100 then record { next = Recipients (count + 1); reply = Done } else record { next = Recipients count; reply = TooMany }

abbrev pub recipient_step : Phase → Step
recipient_step Silent = stays Silent WrongPhase
recipient_step Ready = stays Ready WrongPhase
recipient_step Sender = record { next = Recipients 1; reply = Done }
recipient_step (Recipients count) = one_more count
recipient_step (Message text) = stays (Message text) WrongPhase

-- .. DATA begins the message, ..
abbrev pub data_step : Phase → Step
data_step Silent = stays Silent WrongPhase
data_step Ready = stays Ready WrongPhase
data_step Sender = stays Sender WrongPhase
data_step (Recipients count) = record { next = Message at_first; reply = Send }
data_step (Message text) = stays (Message text) WrongPhase

-- .. and RSET ends the transaction
abbrev pub after_reset : Phase → Phase
after_reset Silent = Silent
after_reset Ready = Ready
after_reset Sender = Ready
after_reset (Recipients count) = Ready
after_reset (Message text) = Ready

-- what a command does in a phase
unfoldable pub step : Phase → Command → Step
step phase Helo = record { next = Ready; reply = Hello }
step phase Ehlo = record { next = Ready; reply = Extended }
step phase Mail = mail_step phase
step phase Rcpt = recipient_step phase
step phase Data = data_step phase
step phase Rset = record { next = after_reset phase; reply = Done }
step phase Noop = stays phase Done
step phase Vrfy = stays phase Unverified
step phase Quit = stays phase Bye
step phase (Wrong reply) = stays phase reply
