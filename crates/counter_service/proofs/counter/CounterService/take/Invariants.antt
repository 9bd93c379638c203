use Rattle.std.proofs.Common.{◌≡◌, ◌++◌, drop}
use Rattle.counter_service.specs.Counter.{count_after, answers}
use Rattle.counter_service.proofs.counter.CounterService.take.Given as goal

-- the bytes that are left lead on to where the whole chunk leads
abbrev pub invariant-loop-byte : goal.invariant-loop-byte
invariant-loop-byte l =
    (count_after l.self.count (drop l.byte-index l.chunk) ≡ count_after l.initial.self.count l.chunk)
    × (l.out.items ++ answers l.self.count (drop l.byte-index l.chunk) ≡ l.initial.out.items ++ answers l.initial.self.count l.chunk)
