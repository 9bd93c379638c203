use Rattle.std.proofs.Common.{◌≡◌, drop}
use Rattle.sample_servers.specs.Stream.{written, each_byte}
use Rattle.web_service.specs.Web.{web_byte}
use Rattle.web_service.proofs.web.Web.take_bytes.Given as goal

-- what is written, and what the bytes that are left do, is what all of them do
abbrev pub invariant-loop-byte : goal.invariant-loop-byte
invariant-loop-byte l =
    written l.out.items (each_byte web_byte l.self (drop l.byte-index l.bytes)) ≡ written l.initial.out.items (each_byte web_byte l.initial.self l.bytes)
