use Rattle.ft_model.proofs.ReportPackets.{packet_same}
use Rattle.ft_model.proofs.report.packets_of_lines.Goals as goal

pub returns : goal.returns
returns c = packet_same
