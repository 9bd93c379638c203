-- The law Answered: what the logger's answers say is logged (FT-TCP, INFOCOM 2001: the stable number). Each Stable and each Reads of this boot reports how much
-- of the connection the log has.
use Rattle.std.specs.Prelude.{ℕ, ◌+◌, max, min, length}
use Rattle.ft_model.specs.Offset.{one_if}
use Rattle.ft_model.specs.Point.{Point}
use Rattle.ft_model.specs.News.{News}
use Rattle.ft_model.specs.News.News.{Comes, Logged, Ticks, Begins}

-- Answered: the units known to be logged never fall
unfoldable pub answered_after : News → Point → ℕ
answered_after (Logged kept) p = max p.answered (kept.length + one_if kept.fin)
answered_after (Comes segment) p = p.answered
answered_after Ticks p = p.answered
answered_after Begins p = p.answered

-- .. nor does the count of answered reads. An answer counts for at most the reads made before the turn
unfoldable pub reads_answered_after : News → Point → ℕ
reads_answered_after (Logged kept) p = max p.reads_answered (min kept.reads (length p.lengths))
reads_answered_after (Comes segment) p = p.reads_answered
reads_answered_after Ticks p = p.reads_answered
reads_answered_after Begins p = p.reads_answered
