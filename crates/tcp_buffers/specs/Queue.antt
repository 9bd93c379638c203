-- A receive queue, and what a push and a hold do to it: the bytes in order that aren't read, and after them places that each hold a byte or none.
use Rattle.limits.specs.Limits.{buffer_size}
use Rattle.std.specs.Prelude.{ℕ, ◌-◌, Option, List, [], ◌++◌, length, take, drop}
use Rattle.tcp_rules.specs.Early.{front_run, behind_front_run}

pub record Queue : Type 0 where
  pub unread : List ℕ  -- in order, the oldest first
  pub early : List (Option ℕ)  -- out of order: the places after those, each with a byte or none

abbrev pub empty_queue : Queue
empty_queue = record { unread = []; early = [] }

-- the prefix of these bytes that fits after those in order
abbrev pub fitting : List ℕ → Queue → List ℕ
fitting bytes q = take (buffer_size - length q.unread) bytes

-- the places after those of the fitting bytes. What is held at the places of these bytes is dropped
abbrev pub left_over : List ℕ → Queue → List (Option ℕ)
left_over bytes q = drop (length (fitting bytes q)) q.early

-- a push appends the fitting bytes, and then the held bytes that continue them
unfoldable pub added_by : List ℕ → Queue → List ℕ
added_by bytes q = fitting bytes q ++ front_run (left_over bytes q)

unfoldable pub pushed : List ℕ → Queue → Queue
pushed bytes q = record { unread = q.unread ++ added_by bytes q; early = behind_front_run (left_over bytes q) }
