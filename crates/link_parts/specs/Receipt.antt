-- What a process over a link receives in a turn: a datagram, or else a tick.
use Rattle.std.specs.Prelude.{◌≡◌, ◌⊎◌, ◌==◌, ◌&&◌, ℕ, Bool, List}
use Rattle.ft_io.specs.declared.Addr.{Addr}
use Rattle.ft_io.specs.declared.link_call.LinkCall.{LinkCall}
use Rattle.ft_io.specs.declared.link_call.LinkCall.TheVariants.{Came, Silent, Missed}

-- whether a datagram has come from this address
abbrev pub is_from : Addr → Addr → Bool
is_from at from = from.ip == at.ip && from.port == at.port

-- the result of a receive. A failed one is a tick, like silence
pub data Received : Type 0 where
  datagram : Addr → List ℕ → Received
  silence : Received
  failure : Received

abbrev pub received_as : Received → LinkCall
received_as (datagram from bytes) = Came from bytes
received_as silence = Silent
received_as failure = Missed

-- no datagram came
abbrev pub IsQuiet : Received → Type 0
IsQuiet r = (r ≡ silence) ⊎ (r ≡ failure)
