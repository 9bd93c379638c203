-- A socket in memory, for tests: what the peer sent, and what was written to it.
use Rattle.std.specs.Prelude.{ℕ, Bool, true, List, ◌++◌, ◌-◌, length, drop, if◌then◌else◌}

pub record MemSocket : Type 0 where
  pub unread : List ℕ
  pub has_end : Bool
  pub written : List ℕ
  pub closed : Bool

-- it has room for eight written bytes
abbrev pub room_of : MemSocket → ℕ
room_of s = if s.closed then 0 else 8 - length s.written

abbrev pub read_from : MemSocket → ℕ → MemSocket
read_from s n = record s { unread = drop n s.unread }

abbrev pub written_to : MemSocket → List ℕ → MemSocket
written_to s bytes = record s { written = s.written ++ bytes }

abbrev pub closed_by_user : MemSocket → MemSocket
closed_by_user s = record s { closed = true }
