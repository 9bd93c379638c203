use Rattle.ft_model.proofs.WiresDetermine.{packet_reported, turns_reported}
use Rattle.ft_model.proofs.wire.wires_determine_packets.Goals as goal

pub returns : goal.returns
returns c = record { packet = packet_reported; turns = turns_reported }
