use Rattle.std.specs.Prelude.{⊤}
use Rattle.tcp_endpoint.specs.Tcb.{connecting, listening, connecting_measuring, listening_measuring}

-- what the tactics of functions unfold: the definitions of each, by its name

unfoldable pub new_words : ⊤
unfolding connecting listening connecting_measuring listening_measuring
new_words = tt
