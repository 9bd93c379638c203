use Rattle.tcp_buffers.proofs.NumbersShow.{ahead_is}
use Rattle.tcp_buffers.proofs.laws.numbers_show_beyond.Goals as goal

pub returns : goal.returns
returns c = ahead_is
