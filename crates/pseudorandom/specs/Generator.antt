-- Pseudorandom numbers from a seed: the linear congruential generator of Knuth's MMIX (The Art of Computer Programming, volume 2, 3.3.4). Only the upper 31
-- bits of a state are drawn, since the lower ones repeat soon.
use Rattle.std.specs.Prelude.{ℕ, ◌+◌, ◌*◌, ◌/◌, ◌%◌, ◌^◌}

-- the next state
unfoldable pub stepped : ℕ → ℕ
stepped state = (state * 6364136223846793005 + 1442695040888963407) % 2 ^ 64

-- the number drawn from a state
abbrev pub drawn : ℕ → ℕ
drawn state = state / 2 ^ 33
