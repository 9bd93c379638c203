-- The texts of the replies (RFC 5321, section 4.2).
use Rattle.std.specs.Prelude.{ℕ, Bool, true, false, List, ◌++◌, decimal, codes}
use Rattle.mail_service.specs.declared.reply.Answer.{Answer}
use Rattle.mail_service.specs.declared.reply.Reply.{Reply}
use Rattle.mail_service.specs.declared.reply.Reply.TheVariants.{Fixed, Accepted}
use Rattle.mail_service.specs.declared.reply.Answer.TheVariants.{Hello, Extended, Done, Send, TooLarge, TooMany, Unverified, Bye, LongLine, Unknown}
use Rattle.mail_service.specs.declared.reply.Answer.TheVariants.{BadArgument, NotImplemented, WrongPhase, BadParameter}

-- the reply to an accepted message: its number, and the bytes of its text
unfoldable pub accepted_text : (number size : ℕ) → List ℕ
accepted_text number size = codes "250 message " ++ decimal number ++ codes " accepted, " ++ decimal size ++ codes " bytes\r\n"

unfoldable pub answer_text : Answer → List ℕ
answer_text Hello = codes "250 mail.example\r\n"
answer_text Extended = codes "250-mail.example\r\n250-PIPELINING\r\n250-8BITMIME\r\n250 SIZE 8000000\r\n"
answer_text Done = codes "250 ok\r\n"
answer_text Send = codes "354 end the message with a dot on a line\r\n"
answer_text TooLarge = codes "552 the message is too large\r\n"
answer_text TooMany = codes "452 too many recipients\r\n"
answer_text Unverified = codes "252 not verified, but accepted\r\n"
answer_text Bye = codes "221 mail.example closes\r\n"
answer_text LongLine = codes "500 the line is too long\r\n"
answer_text Unknown = codes "500 unknown command\r\n"
answer_text BadArgument = codes "501 wrong argument\r\n"
answer_text NotImplemented = codes "502 not implemented\r\n"
answer_text WrongPhase = codes "503 not now\r\n"
answer_text BadParameter = codes "555 unknown parameter\r\n"

-- whether the connection closes after it
unfoldable pub answer_closes : Answer → Bool
answer_closes Bye = true
answer_closes Hello = false
answer_closes Extended = false
answer_closes Done = false
answer_closes Send = false
answer_closes TooLarge = false
answer_closes TooMany = false
answer_closes Unverified = false
answer_closes LongLine = false
answer_closes Unknown = false
answer_closes BadArgument = false
answer_closes NotImplemented = false
answer_closes WrongPhase = false
answer_closes BadParameter = false

abbrev pub reply_text : Reply → List ℕ
reply_text (Fixed answer) = answer_text answer
reply_text (Accepted number size) = accepted_text number size

abbrev pub reply_closes : Reply → Bool
reply_closes (Fixed answer) = answer_closes answer
reply_closes (Accepted number size) = false
