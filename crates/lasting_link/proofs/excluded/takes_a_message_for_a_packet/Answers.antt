use Rattle.std.proofs.Common.{◌≡◌, ◌∙◌, refl, take}
use Rattle.std.proofs.lemmas.Bool.{and_from, eq-eqb}
use Rattle.ft_io.proofs.Choices.{if_true}
use Rattle.seq_arith.specs.PacketGrammar as packets
use Rattle.ft_model.specs.World.{segment_or_noise}
use Rattle.ft_model.proofs.Lists.{or_left}
use Rattle.lasting_laws.specs.LastingTurn.LastingInput.{Usual_comes}
use Rattle.lasting_node.specs.Turns.{message_said}
use Rattle.link_parts.specs.Receipt.{is_from, datagram}
use Rattle.node_link.specs.ServerTurns.{is_from_logger, is_from_second}
use Rattle.lasting_link.proofs.excluded.takes_a_message_for_a_packet.Goals as goal

-- what comes from the logger's own address is a message
pub returns : goal.returns
returns c = λ grammar.
    let first = c.args.loggers.first in
    let bytes = take c.args.len c.args.buffer.now in
    c.input_of.ensures grammar (datagram first bytes) refl
    ∙ if_true (is_from_logger c.args.loggers first) (message_said grammar bytes) (Usual_comes (segment_or_noise (packets.reading bytes)))
    (or_left (is_from first first) (is_from_second c.args.loggers.second first) (and_from _ _ (eq-eqb first.ip first.ip refl) (eq-eqb first.port first.port refl)))
