-- Which logs with marks a store represents.
use Rattle.std.specs.Prelude.{◌≡◌, ◌≤◌, ℕ, List, length, slice_index_or}
use Rattle.std.specs.Option.{option_map_or}
use Rattle.ft_io.specs.declared.Key.{Key}
use Rattle.seq_arith.specs.Mark.{Mark}
use Rattle.log_pages.specs.Pages.{place_of}
use Rattle.logger_store.specs.Trim.{TrimmedLog, trim_at, IsLeftOf}
use Rattle.mark_laws.specs.MarkedLog.{MarkedLog, no_mark}

-- a log that is trimmed at its marks, and the marks of its first entries, in their order
pub record TrimmedAtMarks : Type 0 where
  pub trimmed : TrimmedLog
  pub marks : List Mark

abbrev pub mark_at : List Mark → ℕ → Mark
mark_at marks i = slice_index_or marks i no_mark

-- the mark of a key's entry; none if the key has no entry
abbrev pub mark_of : Key → TrimmedAtMarks → Mark
mark_of key s = option_map_or (mark_at s.marks) (place_of key s.trimmed.log) no_mark

-- a store represents a log with marks: it has that log's marks, and represents the log, with each entry trimmed at its mark
pub record IsLeftOfMarked (s : TrimmedAtMarks) (l : MarkedLog) : Type 0 where
  pub left : IsLeftOf s.trimmed l.log
  pub marks : (key : Key) → l.marks key ≡ mark_of key s
  pub at_marks : (i : ℕ) → trim_at s.trimmed.trims i ≡ record { bytes = (mark_at s.marks i).length; reads = (mark_at s.marks i).reads }
  pub opened : length s.marks ≤ length s.trimmed.log.entries
  pub room : length s.trimmed.trims ≡ 64
