use Rattle.tcp_buffers.proofs.NumbersShow.{new_is}
use Rattle.tcp_buffers.proofs.laws.numbers_show_new.Goals as goal

pub returns : goal.returns
returns c = new_is
