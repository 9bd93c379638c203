-- The states of the generator of Rattle.pseudorandom.specs.Generator.
use Rattle.std.specs.Prelude.{ℕ, zero, suc}
use Rattle.pseudorandom.specs.Generator.{stepped}

-- the state after so many draws
unfoldable pub state_after : ℕ → ℕ → ℕ
state_after zero state = state
state_after (suc draws) state = stepped (state_after draws state)
