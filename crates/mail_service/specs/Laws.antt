-- What the trait requires of the receiver of mail: the output of a chunk is short, and consists of bytes, and so does the greeting.
use Rattle.std.proofs.Common.{◌≡◌, ℕ, ◌+◌, ◌*◌, ◌^◌, ◌<◌, ◌≤◌, ◌==◌, ◌&&◌, Bool, true, false, List, [], ◌∷◌, ◌++◌, length, refl, arith, length-append}
use Rattle.std.specs.Prelude.{Option, Some, None, nat_lt, decimal, codes, if◌then◌else◌}
use Rattle.std.proofs.lemmas.Fmt.{length-decimal-le}
use Rattle.std.proofs.lemmas.Bool.Decides.{nat_tests}
use Rattle.server_trait.specs.Service.{Served, AreBytes, WritesBytes}
use Rattle.sample_servers.specs.Stream.{and_then, each_byte}
use Rattle.sample_servers.specs.WrittenBytes.{Anything, bytes_append, bytes_fold}
use Rattle.web_service.specs.Laws.{either_way, bytes_decimal, bytes_test, bytes_text}
use Rattle.mail_service.specs.declared.reply.Reply.{Reply}
use Rattle.mail_service.specs.declared.reply.Reply.TheVariants.{Fixed, Accepted}
use Rattle.mail_service.specs.declared.reply.Answer.{Answer}
use Rattle.mail_service.specs.declared.reply.Answer.TheVariants.{Hello, Extended, Done, Send, TooLarge, TooMany, Unverified, Bye, LongLine, Unknown}
use Rattle.mail_service.specs.declared.reply.Answer.TheVariants.{BadArgument, NotImplemented, WrongPhase, BadParameter}
use Rattle.mail_service.specs.declared.phase.Text.{Text}
use Rattle.mail_service.specs.declared.phase.Phase.{Phase}
use Rattle.mail_service.specs.declared.phase.Phase.TheVariants.{Silent, Ready, Sender, Recipients, Message}
use Rattle.mail_service.specs.Reply.{accepted_text, answer_text}
use Rattle.mail_service.specs.Command.{size_limit}
use Rattle.mail_service.specs.Phase.{text_after, step}
use Rattle.mail_service.specs.Mail.{MailState, Read, mail_started, mail_greeting, line_command, longer, line_end, command_byte, next_number}
use Rattle.mail_service.specs.Mail.{message_end, message_goes, message_byte, phase_byte, due_text, mail_byte, mail_after, mail_machine}

-- a reply is at most 128 bytes, all of them bytes
record IsShortText (text : List ℕ) : Type 0 where
  short : length text ≤ 128
  bytes : AreBytes text

short_text : (text : List ℕ) → nat_lt 128 (length text) ≡ false → bytes_test text ≡ true → IsShortText text
short_text text few passes = record { short = grind (arith, nat_tests); bytes = bytes_text text passes }

short_answer : (answer : Answer) → IsShortText (answer_text answer)
unfolding answer_text
short_answer Hello = short_text (answer_text Hello) refl refl
short_answer Extended = short_text (answer_text Extended) refl refl
short_answer Done = short_text (answer_text Done) refl refl
short_answer Send = short_text (answer_text Send) refl refl
short_answer TooLarge = short_text (answer_text TooLarge) refl refl
short_answer TooMany = short_text (answer_text TooMany) refl refl
short_answer Unverified = short_text (answer_text Unverified) refl refl
short_answer Bye = short_text (answer_text Bye) refl refl
short_answer LongLine = short_text (answer_text LongLine) refl refl
short_answer Unknown = short_text (answer_text Unknown) refl refl
short_answer BadArgument = short_text (answer_text BadArgument) refl refl
short_answer NotImplemented = short_text (answer_text NotImplemented) refl refl
short_answer WrongPhase = short_text (answer_text WrongPhase) refl refl
short_answer BadParameter = short_text (answer_text BadParameter) refl refl

short_accepted : (number size : ℕ) → number < 2 ^ 32 → size < 2 ^ 32 → IsShortText (accepted_text number size)
unfolding accepted_text
short_accepted number size few small =
    let first : length (decimal number) ≤ 10 = length-decimal-le 10 number (omega arith) (omega (arith, few)) (omega (arith, few)) in
    let second : length (decimal size) ≤ 10 = length-decimal-le 10 size (omega arith) (omega (arith, small)) (omega (arith, small)) in
    let head : length (codes "250 message ") ≡ 12 = refl in
    let middle : length (codes " accepted, ") ≡ 11 = refl in
    let last : length (codes " bytes\r\n") ≡ 8 = refl in
    let begun : List ℕ = codes "250 message " ++ decimal number in
    let numbered : List ℕ = begun ++ codes " accepted, " in
    let sized : List ℕ = numbered ++ decimal size in
    let a = length-append (codes "250 message ") (decimal number) in
    let b = length-append begun (codes " accepted, ") in
    let c = length-append numbered (decimal size) in
    let d = length-append sized (codes " bytes\r\n") in
    record {
      short = omega (arith, a, b, c, d, first, second, head, middle, last);
      bytes = bytes_append sized (codes " bytes\r\n") (bytes_append numbered (decimal size) (bytes_append begun (codes " accepted, ")
          (bytes_append (codes "250 message ") (decimal number) (bytes_text (codes "250 message ") refl) (bytes_decimal number))
          (bytes_text (codes " accepted, ") refl))
          (bytes_decimal size)) (bytes_text (codes " bytes\r\n") refl);
    }

abbrev IsShortDue : Option Reply → Type 0
IsShortDue due = IsShortText (due_text due)

nothing_due : IsShortDue None
nothing_due = record { short = omega arith; bytes = tt }

abbrev end_by : MailState → ℕ → Bool → Read
end_by state size large =
    if large
    then record { next = record state { phase = Ready }; due = Some (Fixed TooLarge) }
    else record { next = record state { phase = Ready; accepted = next_number state.accepted }; due = Some (Accepted (next_number state.accepted) size) }

short_by : (state : MailState) (size : ℕ) (large : Bool) → nat_lt size_limit size ≡ large → IsShortDue (end_by state size large).due
short_by state size true is = short_answer TooLarge
short_by state size false is =
    let fits : size ≤ 8000000 = grind (arith, nat_tests) in
    short_accepted (next_number state.accepted) size (omega arith) (omega (arith, fits))

short_end : (state : MailState) (size : ℕ) → IsShortDue (message_end state size).due
unfolding message_end
short_end state size = short_by state size (nat_lt size_limit size) refl

short_message : (state : MailState) (size : ℕ) (text : Option Text) → IsShortDue (message_goes state size text).due
short_message state size None = short_end state size
short_message state size (Some text) = nothing_due

short_line : (state : MailState) (byte : ℕ) → IsShortDue (command_byte state byte).due
unfolding command_byte line_end
short_line state byte =
    either_way (λ (read : Read). IsShortDue read.due) (state.returned && byte == 10) (line_end state) (record { next = longer state byte; due = None })
    (short_answer (step state.phase (line_command state.long state.held)).reply) nothing_due

short_phase : (phase : Phase) (state : MailState) (byte : ℕ) → IsShortDue (phase_byte phase state byte).due
unfolding message_byte
short_phase Silent state byte = short_line state byte
short_phase Ready state byte = short_line state byte
short_phase Sender state byte = short_line state byte
short_phase (Recipients count) state byte = short_line state byte
short_phase (Message text) state byte = short_message state text.size (text_after text.ending text.size byte)

-- a step and what comes after it
short_then : (n : ℕ) (next : MailState) (output : List ℕ) (closed : Bool) (f : MailState → Served MailState) → length output ≤ 128 → length (f next).output ≤ n
    → length (and_then (record { next = next; output = output; closed = closed }) f).output ≤ n + 128
short_then n next output true f first later = omega arith
short_then n next output false f first later = omega (arith, length-append output (f next).output)

length-each_byte-le : (s : MailState) (bytes : List ℕ) → length (each_byte mail_byte s bytes).output ≤ 128 * length bytes
length-each_byte-le s [] = omega arith
length-each_byte-le s (x ∷ xs) =
    let t = mail_byte s x in
    let one = short_then (128 * length xs) t.next t.output t.closed (λ (next : MailState). each_byte mail_byte next xs) (short_phase s.phase s x).short
    (length-each_byte-le t.next xs) in
    omega (arith, one)

pub length-mail_after-le : (s : MailState) (chunk : List ℕ) → length chunk ≤ 2048 → length (mail_after s chunk).output ≤ 2 ^ 20
length-mail_after-le s chunk short =
    let most = length-each_byte-le s chunk in
    either_way (λ (t : Served MailState). length t.output ≤ 2 ^ 20) (length chunk == 0) (record {
      next = s;
      output = [];
      closed = true;
    }) (each_byte mail_byte s chunk)
    (omega arith) (omega (arith, most, short))

pub short_mail_greeting : (s : MailState) → length (mail_greeting s) ≤ 65535
unfolding mail_greeting
short_mail_greeting s = omega arith

bytes_then : (next : MailState) (output : List ℕ) (closed : Bool) (f : MailState → Served MailState) → AreBytes output → AreBytes (f next).output
    → AreBytes (and_then (record { next = next; output = output; closed = closed }) f).output
bytes_then next output true f first later = first
bytes_then next output false f first later = bytes_append output (f next).output first later

bytes_each : (s : MailState) (bytes : List ℕ) → AreBytes (each_byte mail_byte s bytes).output
bytes_each s [] = tt
bytes_each s (x ∷ xs) =
    let t = mail_byte s x in
    bytes_then t.next t.output t.closed (λ next. each_byte mail_byte next xs) (short_phase s.phase s x).bytes (bytes_each t.next xs)

bytes_after : (s : MailState) (chunk : List ℕ) → AreBytes (mail_after s chunk).output
bytes_after s chunk =
    either_way (λ (t : Served MailState). AreBytes t.output) (length chunk == 0) (record { next = s; output = []; closed = true })
    (each_byte mail_byte s chunk) tt (bytes_each s chunk)

bytes_greeting : AreBytes (mail_greeting mail_started)
unfolding mail_greeting
bytes_greeting = bytes_text (mail_greeting mail_started) refl

pub bytes-mail : WritesBytes mail_machine
bytes-mail = bytes_fold mail_machine Anything bytes_greeting tt (λ s chunk _ _. (bytes_after s chunk, tt))
