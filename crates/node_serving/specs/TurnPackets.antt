-- The packets of a turn, as contracts see them.
use Rattle.std.specs.Prelude.{List}
use Rattle.ft_model.specs.Wire.{Wire}

-- in the order in which they are sent
pub record Packets : Type 0 where
  pub items : List Wire
