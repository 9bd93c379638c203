use Rattle.tcp_rules.proofs.Texts.{text_between_is_cut}
use Rattle.tcp_rules.proofs.laws.text_between_is_cut.Goals as goal

pub returns : goal.returns
returns c = text_between_is_cut
