use Rattle.std.specs.Prelude.{⊤}
use Rattle.tcp_rules.specs.Timing.{with_acknowledged, with_tick, without_trip, with_backoff, with_sent}

-- what the tactics of functions unfold: the definitions of each, by its name

unfoldable pub unmeasured_timing_stays_words : ⊤
unfolding with_acknowledged with_tick without_trip with_backoff with_sent
unmeasured_timing_stays_words = tt
