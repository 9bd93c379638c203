use Rattle.std.proofs.Common.{◌≡◌, drop}
use Rattle.sample_servers.specs.Stream.{written}
use Rattle.sample_servers.specs.Transfer.{bytes_served}
use Rattle.sample_servers.proofs.transfer.Transfer.take_bytes.Given as goal

-- what is written, and what the bytes that are left do, is what all of them do
abbrev pub invariant-loop-byte : goal.invariant-loop-byte
invariant-loop-byte l =
    written l.out.items (bytes_served l.self (drop l.byte-index l.bytes)) ≡ written l.initial.out.items (bytes_served l.initial.self l.bytes)
