-- Which calls on a link are recorded, by their results.
use Rattle.std.specs.Prelude.{ℕ, ◌≤◌, List, [], ◌∷◌, take, true, false, Ok, Err}
use Rattle.std.specs.declared.result.Result.{Result}
use Rattle.ft_io.specs.declared.Addr.{Addr}
use Rattle.ft_io.specs.declared.Failed.{Failed}
use Rattle.ft_io.specs.declared.link.Receipt.{Receipt}
use Rattle.ft_io.specs.declared.link.Receipt.TheVariants.{Got, Nothing}
use Rattle.ft_io.specs.declared.link_call.LinkCall.{LinkCall}
use Rattle.ft_io.specs.declared.link_call.LinkCall.TheVariants.{Bound, Came, Silent, Missed, Handed}

-- a bind that succeeded is recorded with its address, and one that failed isn't recorded
abbrev pub bind_reported : Addr → Result (Unit {0}) Failed → List LinkCall
bind_reported at (Ok _) = Bound at ∷ []
bind_reported at (Err _) = []

-- a datagram handed to send is recorded in full, with its address and whether the call failed
abbrev pub send_reported : Addr → List ℕ → Result (Unit {0}) Failed → List LinkCall
send_reported to bytes (Ok _) = Handed to bytes false ∷ []
send_reported to bytes (Err _) = Handed to bytes true ∷ []

-- what was received, by the bytes that were moved to the beginning of the buffer
abbrev pub received_as : Receipt → List ℕ → LinkCall
received_as (Got count from) buffer = Came from (take count buffer)
received_as Nothing buffer = Silent

-- the outcome of a receive is recorded: what was received, or that it failed
abbrev pub recv_reported : Result Receipt Failed → List ℕ → List LinkCall
recv_reported (Ok receipt) buffer = received_as receipt buffer ∷ []
recv_reported (Err _) buffer = Missed ∷ []

-- what was received has at most this many bytes
abbrev pub HasAtMost : Receipt → ℕ → Type 0
HasAtMost (Got count from) most = count ≤ most
HasAtMost Nothing most = Unit {0}
