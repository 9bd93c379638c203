-- How a generated run ends: what was written of its summary.
use Rattle.std.specs.Prelude.{Result, Ok, Err}
use Rattle.replay_seed.specs.SeedSummaries.{IsSummarized, IsSummarizedInPart, IsPastLimit}
use Rattle.replay_seed.specs.declared.asked.Asked.{Asked}
use Rattle.replay_seed.specs.declared.seed_run.SeedEnd.{SeedEnd}
use Rattle.replay_seed.specs.declared.seed_run.SeedEnd.TheVariants as seeds
use Rattle.replay_check.specs.Stream.{Stream, HasFailed, HasNotFailed}
use Rattle.replay_check.specs.declared.status.TooMuch.TheVariants.{Packets}
use Rattle.replay_check.specs.declared.status.RunEnd.{RunEnd}
use Rattle.replay_check.specs.declared.status.RunEnd.TheVariants.{Usage, NoMemory, WriteFault, TooLong}

-- its end as one of the program
abbrev pub end_of_seed : SeedEnd → RunEnd
end_of_seed seeds.Usage = Usage
end_of_seed seeds.NoMemory = NoMemory
end_of_seed seeds.WriteFault = WriteFault
end_of_seed seeds.PacketLimit = TooLong Packets

-- how it ends early: nothing was written to out, unless a call on out failed; then a prefix of the summary was
abbrev pub SeedStops : Asked → (out : Stream) → RunEnd → Type 0
SeedStops asked out NoMemory = out.Untouched
SeedStops asked out WriteFault = IsSummarizedInPart asked out.before out.after × HasFailed out
SeedStops asked out (TooLong Packets) = IsPastLimit asked × out.Untouched
SeedStops asked out _ = ⊥

-- the result of a generated run
abbrev pub SeedDoes : Asked → (out : Stream) → Result (Unit {0}) RunEnd → Type 0
SeedDoes asked out (Ok _) = IsSummarized asked out.before out.after × HasNotFailed out
SeedDoes asked out (Err end) = SeedStops asked out end
