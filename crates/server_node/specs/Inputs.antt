-- The bytes that arrive at the node, as the law's inputs: bytes that the codec refuses are noise, and so is a message of the other grammar.
use Rattle.seq_arith.specs.PacketGrammar as packets
use Rattle.seq_arith.specs.MessageGrammar as messages
use Rattle.seq_arith.specs.declared.kinds.Grammar.{Grammar}
use Rattle.ft_model.specs.Node as law
use Rattle.ft_model.specs.Node.Input.{Tick_comes}
use Rattle.ft_model.specs.World.{segment_or_noise, message_or_noise}
use Rattle.server_node.specs.declared.input.Input.{Input}
use Rattle.server_node.specs.declared.input.Input.TheVariants as input

abbrev pub input_of : Grammar → Input → law.Input
input_of grammar (input.Packet bytes) = segment_or_noise (packets.reading bytes.now)
input_of grammar (input.Message bytes) = message_or_noise (messages.reading_by grammar bytes.now)
input_of grammar input.Tick = Tick_comes
