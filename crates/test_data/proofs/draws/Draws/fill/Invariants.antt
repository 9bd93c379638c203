use Rattle.std.proofs.Common.{◌≡◌, ℕ, ◌+◌, ◌%◌, ◌<◌, get_or}
use Rattle.pseudorandom.specs.Generator.{drawn}
use Rattle.test_data.specs.Draws.{state_after}
use Rattle.test_data.proofs.draws.Draws.fill.Given as goal

abbrev pub invariant-loop-byte : goal.invariant-loop-byte
invariant-loop-byte l = record {
  state : l.self ≡ state_after l.byte-index l.initial.self;
  bytes : (k : ℕ) → k < l.byte-index → get_or l.bytes k 0 ≡ drawn (state_after (k + 1) l.initial.self) % 256;
}
