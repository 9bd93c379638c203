use Rattle.std.specs.Prelude.{⊤}
use Rattle.sample_servers.specs.Transfer.{bytes_served, request_served, pattern}

-- what the tactics of functions unfold: the definitions of each, by its name

unfoldable pub restarts_the_pattern_words : ⊤
unfolding bytes_served request_served pattern
restarts_the_pattern_words = tt
