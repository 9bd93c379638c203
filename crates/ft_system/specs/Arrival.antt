-- What arrives at a link in memory.
use Rattle.std.specs.Prelude.{ℕ, List, [], ◌∷◌, take}
use Rattle.ft_system.specs.declared.mem_link.Arrival.{Arrival}
use Rattle.ft_system.specs.declared.mem_link.Arrival.TheVariants.{Datagram, Nothing}
use Rattle.ft_io.specs.declared.link_call.LinkCall.{LinkCall}
use Rattle.ft_io.specs.declared.link_call.LinkCall.TheVariants.{Came, Silent}

-- what a receive with this much room gives: as much of the next datagram as fits, or nothing. Nothing comes after the last arrival
abbrev pub arriving : ℕ → List Arrival → LinkCall
arriving room [] = Silent
arriving room (Datagram from bytes ∷ later) = Came from (take room bytes)
arriving room (Nothing ∷ later) = Silent
