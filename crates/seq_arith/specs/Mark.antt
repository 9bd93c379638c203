-- What a message about marks says: a boot number and one of four bodies.
use Rattle.std.specs.Prelude.{ℕ, List}
use Rattle.ft_io.specs.declared.Key.{Key}

-- A mark is a service's state at one point of a connection: how many reads led to it, how many bytes they took, how much output the service had written by
-- then, and the bytes of its state
pub record Mark : Type 0 where
  pub reads : ℕ
  pub length : ℕ
  pub made : ℕ
  pub state : List ℕ

pub data MarkBody : Type 0 where
  MarkMsg : Key → Mark → MarkBody
  MarkedMsg : Key → (reads : ℕ) → MarkBody
  AskMsg : Key → MarkBody
  HeldMsg : Key → Mark → MarkBody

pub record MarkMessage : Type 0 where
  pub boot : ℕ
  pub body : MarkBody
