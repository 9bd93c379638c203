-- A receiver of mail as a service (RFC 5321): it greets, answers each line where CR LF ends it, and each message where CR LF . CR LF does.
use Rattle.std.specs.Prelude.{ℕ, ◌+◌, ◌-◌, ◌^◌, min, Bool, true, false, ◌==◌, ◌&&◌, nat_lt, if◌then◌else◌}
use Rattle.std.specs.Prelude.{Option, Some, None, List, [], ◌∷◌, ◌++◌, length, take, codes}
use Rattle.server_trait.specs.Service.{Served, Machine, machine}
use Rattle.sample_servers.specs.Stream.{each_byte}
use Rattle.mail_service.specs.declared.reply.Reply.{Reply}
use Rattle.mail_service.specs.declared.reply.Reply.TheVariants.{Fixed, Accepted}
use Rattle.mail_service.specs.declared.reply.Answer.TheVariants.{TooLarge, LongLine}
use Rattle.mail_service.specs.declared.command.Command.{Command}
use Rattle.mail_service.specs.declared.command.Command.TheVariants.{Wrong}
use Rattle.mail_service.specs.declared.phase.Text.{Text}
use Rattle.mail_service.specs.declared.phase.Phase.{Phase}
use Rattle.mail_service.specs.declared.phase.Phase.TheVariants.{Silent, Ready, Sender, Recipients, Message}
use Rattle.mail_service.specs.Reply.{reply_text, reply_closes}
use Rattle.mail_service.specs.Command.{size_limit, command_of}
use Rattle.mail_service.specs.Phase.{text_after, step}

-- how far a session has come
pub record MailState : Type 0 where
  pub phase : Phase
  pub held : List ℕ  -- the bytes of the unfinished line, at most 511 of them
  pub long : Bool  -- whether it has more
  pub returned : Bool  -- whether its last byte is CR
  pub accepted : ℕ  -- how many messages have been accepted

-- a session in this phase, at the start of a line
abbrev pub at_line : Phase → (accepted : ℕ) → MailState
at_line phase accepted = record { phase = phase; held = []; long = false; returned = false; accepted = accepted }

abbrev pub mail_started : MailState
mail_started = at_line Silent 0

-- the greeting
unfoldable pub mail_greeting : MailState → List ℕ
mail_greeting state = codes "220 mail.example ESMTP\r\n"

-- a byte is read: the state after it, and the reply that is due
pub record Read : Type 0 where
  pub next : MailState
  pub due : Option Reply

-- a byte that only makes the line longer
unfoldable pub longer : MailState → ℕ → MailState
longer state byte =
    if nat_lt (length state.held) 511
    then record state { held = state.held ++ byte ∷ []; returned = byte == 13 }
    else record state { long = true; returned = byte == 13 }

-- the command in a line that CR LF has ended: a line has at most 512 bytes with them (RFC 5321, section 4.5.3.1.4)
abbrev pub line_command : (long : Bool) → (held : List ℕ) → Command
line_command long held = if long then Wrong LongLine else command_of (take (length held - 1) held)

unfoldable pub line_end : MailState → Read
line_end state =
    let done = step state.phase (line_command state.long state.held) in
    record { next = at_line done.next state.accepted; due = Some (Fixed done.reply) }

-- a byte of a line. A LF ends it only after CR
unfoldable pub command_byte : MailState → ℕ → Read
command_byte state byte =
    if state.returned && byte == 10 then line_end state else record { next = longer state byte; due = None }

-- the number of the next accepted message. It stays at 2^32 - 1, which no connection reaches
abbrev pub next_number : ℕ → ℕ
next_number accepted = min (accepted + 1) (2 ^ 32 - 1)

-- a message whose text has so many bytes has ended
unfoldable pub message_end : MailState → (size : ℕ) → Read
message_end state size =
    if nat_lt size_limit size
    then record { next = record state { phase = Ready }; due = Some (Fixed TooLarge) }
    else record { next = record state { phase = Ready; accepted = next_number state.accepted }; due = Some (Accepted (next_number state.accepted) size) }

abbrev pub message_goes : MailState → (size : ℕ) → Option Text → Read
message_goes state size None = message_end state size
message_goes state size (Some text) = record { next = record state { phase = Message text }; due = None }

-- a byte of a message
unfoldable pub message_byte : MailState → Text → ℕ → Read
message_byte state text byte = message_goes state text.size (text_after text.ending text.size byte)

abbrev pub phase_byte : Phase → MailState → ℕ → Read
phase_byte Silent state byte = command_byte state byte
phase_byte Ready state byte = command_byte state byte
phase_byte Sender state byte = command_byte state byte
phase_byte (Recipients count) state byte = command_byte state byte
phase_byte (Message text) state byte = message_byte state text byte

abbrev pub read_byte : MailState → ℕ → Read
read_byte state byte = phase_byte state.phase state byte

-- the reply that is due is given
abbrev pub due_text : Option Reply → List ℕ
due_text None = []
due_text (Some reply) = reply_text reply

abbrev pub due_closes : Option Reply → Bool
due_closes None = false
due_closes (Some reply) = reply_closes reply

-- what one byte does
abbrev pub mail_byte : MailState → ℕ → Served MailState
mail_byte state byte =
    let read = read_byte state byte in
    record { next = read.next; output = due_text read.due; closed = due_closes read.due }

-- what a chunk does. An empty one is the end of input, and closes
abbrev pub mail_after : MailState → List ℕ → Served MailState
mail_after state chunk =
    if length chunk == 0
    then record { next = state; output = []; closed = true }
    else each_byte mail_byte state chunk

-- the service as runs see it
abbrev pub mail_machine : Machine MailState
mail_machine = machine mail_started mail_after mail_greeting
