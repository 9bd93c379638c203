-- An entry that no lawful run has: the log of the first path keeps a FIN after a full stream of 2^24 bytes, and so past the receive edge.
use Rattle.std.specs.Prelude.{ℕ, true, List, [], ◌∷◌}
use Rattle.ft_model.specs.World.{Moment}
use Rattle.ft_model.specs.declared.event.Event.TheVariants.{Deliver}
use Rattle.ft_model.specs.WorkedRuns.FirstPath.{moment, moment_10, packet_5, opened_entry, log_with}

-- the log receives the Open again
abbrev pub wrong : List ℕ → Moment
wrong bytes = moment (Deliver 4) (packet_5 ∷ []) (record moment_10.world { log = log_with (record opened_entry { bytes = bytes; fin = true } ∷ []) })
