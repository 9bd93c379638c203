use Rattle.std.specs.Prelude.{⊤}
use Rattle.tcp_endpoint.specs.Arrival.{accepts, check_sequence, in_others, with_time_wait_restarted}
use Rattle.tcp_endpoint.specs.Tcb.{connecting, listening, connecting_measuring, listening_measuring}
use Rattle.tcp_endpoint.specs.Output.{retransmission_out, retransmitted_segment}

-- what the tactics of functions unfold: the definitions of each, by its name

unfoldable pub in_others_words : ⊤
unfolding accepts check_sequence in_others with_time_wait_restarted
in_others_words = tt

unfoldable pub connect_words : ⊤
unfolding connecting listening connecting_measuring listening_measuring
connect_words = tt

unfoldable pub retransmit_words : ⊤
unfolding retransmission_out retransmitted_segment
retransmit_words = tt
