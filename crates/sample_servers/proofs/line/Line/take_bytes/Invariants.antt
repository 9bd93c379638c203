use Rattle.std.proofs.Common.{◌≡◌, length}
use Rattle.sample_servers.specs.Stream.{written, each_byte}
use Rattle.sample_servers.specs.Line.{line_byte}
use Rattle.sample_servers.proofs.line.Line.take_bytes.Given as goal

-- what is written, and what the bytes that are left do, is what all of them do
abbrev pub invariant-loop-len : goal.invariant-loop-len
invariant-loop-len l =
    written l.out.items (each_byte line_byte l.self l.rest) ≡ written l.initial.out.items (each_byte line_byte l.initial.self l.initial.rest)

abbrev pub decreases-loop-len : goal.decreases-loop-len
decreases-loop-len l = length l.rest
