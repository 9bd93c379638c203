-- What a datagram between two loggers says.
use Rattle.std.specs.Prelude.{ℕ, List}

-- A forwarded message is kept as the bytes in which it arrived
pub data TwinDatagram : Type 0 where
  Forward : (number : ℕ) → (message : List ℕ) → TwinDatagram
  Got : (number : ℕ) → TwinDatagram
  Alone : TwinDatagram
