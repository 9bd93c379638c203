-- What keeps the log of a world: one logger, two, or one that keeps marks; and what becomes of it when bytes arrive. It takes messages of one grammar, and
-- answers in that.
use Rattle.std.specs.Prelude.{◌≡◌, ℕ, List, Result, Ok, Err}
use Rattle.seq_arith.specs.Message.{Message}
use Rattle.seq_arith.specs.MessageGrammar.{reading_by}
use Rattle.seq_arith.specs.declared.kinds.BadMsg.{BadMsg}
use Rattle.seq_arith.specs.declared.kinds.Grammar.{Grammar}
use Rattle.ft_model.specs.Log.{Log, log_after, answer_to}
use Rattle.ft_model.specs.declared.way.Way.{Way}
use Rattle.ft_model.specs.declared.way.Way.TheVariants.{ClientToServer, ServerToClient, ServerToLogger, LoggerToServer, HeadToTail, TailToHead}
use Rattle.logger_store.specs.StoreState.{answer_bytes_by}
use Rattle.mark_laws.specs.MarkedLog.{nothing_logged}
use Rattle.mark_store.specs.Refinement.{TrimmedAtMarks}
use Rattle.schedule_network.specs.StoredPackets.{Carried, with_answer}
use Rattle.schedule_network.specs.Loggers.{Loggers, serving_log, pair_receives}
use Rattle.schedule_network.specs.FullLog.{StoreAndLog, AreAt, MarksReceive}
use Rattle.schedule_network.specs.declared.logs.Logs.{Logs}
use Rattle.schedule_network.specs.declared.logs.Logs.TheVariants.{One, Two, Marked}

-- a store with marks and its full log, with nothing logged
abbrev pub IsNewMarked : Logs → Type 0
IsNewMarked logs = (kept : StoreAndLog) × (logs ≡ Marked kept) × AreAt kept nothing_logged

-- the log that serves: with marks, the full log
abbrev pub log_in : Logs → Log
log_in (One log) = log
log_in (Two loggers) = serving_log loggers
log_in (Marked kept) = kept.full_log

-- what keeps the log: one logger, a head and a tail, or a store with marks
pub data Keepers : Type 0 where
  Single : Keepers
  Paired : Loggers → Keepers
  With_marks : TrimmedAtMarks → Keepers

abbrev pub keepers_in : Logs → Keepers
keepers_in (One log) = Single
keepers_in (Two loggers) = Paired loggers
keepers_in (Marked kept) = With_marks kept.store

-- the only logger takes a message, and its answer is sent. What is no message changes nothing
abbrev pub log_reads : Grammar → Result Message BadMsg → Log × Carried → Log × Carried
log_reads grammar (Err bad) h = h
log_reads grammar (Ok message) h = (log_after h.0 message, with_answer h.1 (answer_bytes_by grammar (answer_to h.0 message)))

-- bytes of this direction arrive at the only logger, if it leads there
abbrev pub log_receives : Grammar → Way → List ℕ → Log × Carried → Log × Carried
log_receives grammar ServerToLogger bytes h = log_reads grammar (reading_by grammar bytes) h
log_receives grammar (ClientToServer number) bytes h = h
log_receives grammar (ServerToClient number) bytes h = h
log_receives grammar LoggerToServer bytes h = h
log_receives grammar HeadToTail bytes h = h
log_receives grammar TailToHead bytes h = h

-- what keeps the log, and the packets
abbrev pub both : Logs → Carried → Logs × Carried
both logs packets = (logs, packets)

-- bytes of this direction arrive at what keeps the log: `now` is its state after that, and `sent` are the stored packets with what it sends. Two loggers know
-- their grammar
abbrev pub ReceivesIn : Grammar → Logs → Way → List ℕ → Carried → Logs → Carried → Type 0
ReceivesIn grammar (One log) way bytes packets now sent = let h = log_receives grammar way bytes (log, packets) in both now sent ≡ both (One h.0) h.1
ReceivesIn grammar (Two loggers) way bytes packets now sent = let h = pair_receives way bytes (loggers, packets) in both now sent ≡ both (Two h.0) h.1
ReceivesIn grammar (Marked kept) way bytes packets now sent =
    (after : StoreAndLog) × (now ≡ Marked after) × MarksReceive grammar way bytes (kept, packets) (after, sent)
