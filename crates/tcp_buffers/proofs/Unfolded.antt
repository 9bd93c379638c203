use Rattle.std.specs.Prelude.{⊤}
use Rattle.tcp_rules.specs.Timing.{with_sent, with_tick, with_acknowledged, with_sample}

-- what the tactics of functions unfold: the definitions of each, by its name

unfoldable pub a_later_unit_is_timed_words : ⊤
unfolding with_sent with_tick with_acknowledged with_sample
a_later_unit_is_timed_words = tt
