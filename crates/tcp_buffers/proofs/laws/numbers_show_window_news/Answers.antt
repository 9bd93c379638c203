use Rattle.tcp_buffers.proofs.NumbersShow.{window_news_is}
use Rattle.tcp_buffers.proofs.laws.numbers_show_window_news.Goals as goal

pub returns : goal.returns
returns c = window_news_is
