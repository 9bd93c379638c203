use Rattle.std.specs.Prelude.{⊤}
use Rattle.ft_model.specs.Taken.{taken_after, early_after, fin_after}
use Rattle.ft_model.specs.Answered.{answered_after, reads_answered_after}
use Rattle.ft_model.specs.Sending.{syn_acked_after, acknowledged_after, edge_after, wl1_after, wl2_after, congestion_after}
use Rattle.ft_model.specs.Timer.{timing_noted}

-- what the tactics of functions unfold: the definitions of each, by its name

unfoldable pub note_words : ⊤
unfolding taken_after early_after fin_after answered_after reads_answered_after syn_acked_after acknowledged_after edge_after wl1_after wl2_after
    congestion_after timing_noted
note_words = tt
