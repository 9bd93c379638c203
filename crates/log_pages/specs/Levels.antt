-- Two runs whose lengths differ by one: the larger length is that of the second, and the first run isn't empty unless the second is.
use Rattle.std.specs.Prelude.{◌≡◌, ◌<◌, ◌+◌, ◌^◌, ◌⊎◌}
use Rattle.log_pages.specs.declared.runs.Run.{Run}

pub record AreLevel (low high : Run) : Type 0 where
  pub next : high.length ≡ low.length + 1
  pub some : (high.count ≡ 0) ⊎ (0 < low.count)
  pub few : low.count + high.count < 2 ^ 32
