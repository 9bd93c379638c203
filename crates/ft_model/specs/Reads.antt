-- The law Reads: how the service reads, and how its reads are reported to the logger (FT-TCP, INFOCOM 2001: the north side wrapper, which logs the length of
-- each read).
use Rattle.limits.specs.Limits.{buffer_size, longest_stream}
use Rattle.std.specs.Prelude.{◌≡◌, ℕ, Bool, ◌+◌, ◌-◌, ◌^◌, ◌==◌, ◌&&◌, not, nat_lt, nat_le, min, Option, Some, None, List, [], ◌∷◌, ◌++◌, length}
use Rattle.std.specs.Prelude.{drop, if◌then◌else◌}
use Rattle.std.specs.List.{list_any}
use Rattle.ft_io.specs.declared.Key.{Key}
use Rattle.seq_arith.specs.Message.{Body}
use Rattle.seq_arith.specs.Message.Body.{ReadMsg}
use Rattle.server_trait.specs.Service.{Machine}
use Rattle.ft_model.specs.Point.{Point, bytes_read, made, released}
use Rattle.ft_model.specs.News.{News}
use Rattle.ft_model.specs.News.News.{Comes, Logged, Ticks, Begins}

-- how much there is to read: of the fetched bytes while some are unread, and then of all bytes taken. A read has at most 2,048 bytes. When all are read and
-- the FIN is taken, one read of length 0 follows
unfoldable pub next_length : Point → Option ℕ
next_length p =
    if nat_lt (bytes_read p) p.fetched then Some (min 2048 (p.fetched - bytes_read p))
    else (if nat_lt (bytes_read p) (length p.taken) then Some (min 2048 (length p.taken - bytes_read p))
    else (if p.fin && not (list_any (λ n. n == 0) p.lengths) then Some 0 else None))

-- whether the service may read on: all its output so far is released, that is, each of its reads that made output is answered; that output is acknowledged or
-- has room in the send buffer; it stays within the stream with the output of one more read; and fewer than 32 reads are unanswered
unfoldable pub may_read : {State : Type 0} → Machine State → Point → Bool
may_read service p =
    nat_le (made service p) (min (released service p) (p.una + buffer_size)) && nat_le (made service p) (longest_stream - 2 ^ 20)
    && nat_lt (length p.lengths - p.reads_answered) 32

-- the length of the next read, if one is made
abbrev pub next_read : {State : Type 0} → Machine State → Point → Option ℕ
next_read service p = if may_read service p then next_length p else None

abbrev pub with_read : ℕ → Point → Point
with_read n p = record p { lengths = p.lengths ++ n ∷ [] }

-- exactly these reads are made, one after another, until there is none to make
abbrev pub Makes : {State : Type 0} → Machine State → Point → List ℕ → Type 0
Makes service p [] = next_read service p ≡ None
Makes service p (n ∷ lengths) = (next_read service p ≡ Some n) × Makes service (with_read n p) lengths

-- Reads: given what is taken, answered and acknowledged after the turn, new reads are appended to the earlier ones
pub record MakesReads {State : Type 0} (service : Machine State) (before after : Point) : Type 0 where
  pub news : List ℕ
  pub lengths : after.lengths ≡ before.lengths ++ news
  pub makes : Makes service (record after { lengths = before.lengths }) news

-- the messages of these reads. The first has this index
abbrev pub read_messages : Key → ℕ → List ℕ → List Body
read_messages key index [] = []
read_messages key index (n ∷ lengths) = ReadMsg key index n ∷ read_messages key (index + 1) lengths

-- the index of the first read that is reported in this turn: a new one, or at a tick the first unanswered one
abbrev pub first_reported : News → Point → Point → ℕ
first_reported Ticks before after = after.reads_answered
first_reported (Comes segment) before after = length before.lengths
first_reported (Logged kept) before after = length before.lengths
first_reported Begins before after = length before.lengths

-- Reads: a Read is sent in the turn in which the read is made, and all unanswered ones are sent again at each tick, by index
unfoldable pub reads_reported : News → Point → Point → List Body
reads_reported news before after = read_messages after.key (first_reported news before after) (drop (first_reported news before after) after.lengths)
