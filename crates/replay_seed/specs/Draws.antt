-- What a generator draws from a state. The state after the draw is its successor.
use Rattle.std.specs.Prelude.{ℕ}
use Rattle.pseudorandom.specs.Generator.{stepped, drawn}

abbrev pub draw : ℕ → ℕ
draw state = drawn (stepped state)
