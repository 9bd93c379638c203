use Rattle.tcp_buffers.proofs.NumbersShow.{units_are}
use Rattle.tcp_buffers.proofs.laws.numbers_show_units.Goals as goal

pub returns : goal.returns
returns c = units_are
