use Rattle.std.proofs.Common.{◌≡◌, drop}
use Rattle.sample_servers.specs.Stream.{written, each_byte}
use Rattle.mail_service.specs.Mail.{mail_byte}
use Rattle.mail_service.proofs.mail.Mail.take_bytes.Given as goal

-- what is written, and what the bytes that are left do, is what all of them do
abbrev pub invariant-loop-byte : goal.invariant-loop-byte
invariant-loop-byte l =
    written l.out.items (each_byte mail_byte l.self (drop l.byte-index l.bytes)) ≡ written l.initial.out.items (each_byte mail_byte l.initial.self l.bytes)
