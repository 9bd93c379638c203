-- The moves of the code as moves of the client machine.
use Rattle.std.specs.Prelude.{None}
use Rattle.ft_model.specs.Client.{Move as moves}
use Rattle.plain_world.specs.declared.moves.Move.{Move}
use Rattle.plain_world.specs.declared.moves.Move.TheVariants.{Syn, Text, Fin, Acknowledge, Rst}

abbrev pub move_value : Move → moves
move_value Syn = moves.Syn None
move_value (Text from len) = moves.Text from len
move_value Fin = moves.Fin
move_value Acknowledge = moves.Acknowledge
move_value Rst = moves.Rst
