-- The news of a turn, as the model's news.
use Rattle.segment_codec.specs.Value.{segment_of}
use Rattle.ft_model.specs.News as model
use Rattle.logger_wire.specs.Records.{kept_said}
use Rattle.plain_connection.specs.declared.news.News.{News}
use Rattle.plain_connection.specs.declared.news.News.TheVariants.{Segment, Logged, Tick, Begins}

abbrev pub news_in : News → model.News
news_in (Segment packet) = model.News.Comes (segment_of packet)
news_in (Logged kept) = model.News.Logged (kept_said kept)
news_in Tick = model.News.Ticks
news_in Begins = model.News.Begins
