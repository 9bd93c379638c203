-- A store with marks and its full log, which is the log without the marks and drops nothing; and what becomes of both when bytes arrive.
use Rattle.std.specs.Prelude.{◌≡◌, ℕ, ◌≤◌, false, List, [], map, length}
use Rattle.ft_io.specs.declared.Key.{Key}
use Rattle.seq_arith.specs.declared.kinds.Grammar.{Grammar}
use Rattle.seq_arith.specs.Message.{Part}
use Rattle.ft_model.specs.Log.{Log}
use Rattle.ft_model.specs.declared.way.Way.{Way}
use Rattle.ft_model.specs.declared.way.Way.TheVariants.{ClientToServer, ServerToClient, ServerToLogger, LoggerToServer, HeadToTail, TailToHead}
use Rattle.ft_model.specs.Keys.{AreDistinct}
use Rattle.mark_laws.specs.MarkedLog.{MarkedLog}
use Rattle.mark_store.specs.Bytes.{after_bytes_by, reply_to_by}
use Rattle.mark_store.specs.Refinement.{TrimmedAtMarks, IsLeftOfMarked}
use Rattle.schedule_network.specs.StoredPackets.{Carried, with_answer}

pub record StoreAndLog : Type 0 where
  pub store : TrimmedAtMarks
  pub full_log : Log

-- the store has what is left of a log with marks, and the full log is that log without the marks
pub record AreAt (both : StoreAndLog) (l : MarkedLog) : Type 0 where
  pub left : IsLeftOfMarked both.store l
  pub full_log : both.full_log ≡ l.log

-- no two entries have the same key
abbrev pub HasDistinctKeys : MarkedLog → Type 0
HasDistinctKeys l = AreDistinct (map (λ e. e.key) l.log.entries)

-- a Data without bytes, which only acknowledges
abbrev pub no_bytes : Key → (offset units : ℕ) → Part
no_bytes key offset units = record { key = key; offset = offset; acked = units; fin = false; more = false; bytes = [] }

-- the store has made this change to the log, and now the full log makes it too
abbrev pub Notes : (MarkedLog → MarkedLog) → StoreAndLog → StoreAndLog → Type 0
Notes change before after =
    (l : MarkedLog) → IsLeftOfMarked before.store (change l) → before.full_log ≡ l.log → HasDistinctKeys l → AreAt after (change l)

-- the log after bytes of this direction, if it leads to the logger, and the bytes of the answer
abbrev pub log_along : Grammar → Way → List ℕ → MarkedLog → MarkedLog
log_along grammar ServerToLogger bytes l = after_bytes_by grammar bytes l
log_along grammar (ClientToServer number) bytes l = l
log_along grammar (ServerToClient number) bytes l = l
log_along grammar LoggerToServer bytes l = l
log_along grammar HeadToTail bytes l = l
log_along grammar TailToHead bytes l = l

abbrev pub answer_along : Grammar → Way → List ℕ → MarkedLog → List ℕ
answer_along grammar ServerToLogger bytes l = reply_to_by grammar bytes l
answer_along grammar (ClientToServer number) bytes l = []
answer_along grammar (ServerToClient number) bytes l = []
answer_along grammar LoggerToServer bytes l = []
answer_along grammar HeadToTail bytes l = []
answer_along grammar TailToHead bytes l = []

-- what becomes of the store, the full log and the stored packets
pub record MarksReceive (grammar : Grammar) (way : Way) (bytes : List ℕ) (before after : StoreAndLog × Carried) : Type 0 where
  pub log : (l : MarkedLog) → AreAt before.0 l → HasDistinctKeys l → AreAt after.0 (log_along grammar way bytes l)
  pub sent : (l : MarkedLog) → AreAt before.0 l → HasDistinctKeys l → after.1 ≡ with_answer before.1 (answer_along grammar way bytes l)
  pub grew : length before.1.bytes ≤ length after.1.bytes
