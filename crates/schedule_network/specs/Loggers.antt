-- A head and a tail as the code stores them, what each of them does with bytes that arrive, and what it sends, as the network stores it.
use Rattle.std.specs.Prelude.{ℕ, ◌==◌, Option, None, Some, List, ◌++◌, map, if◌then◌else◌}
use Rattle.seq_arith.specs.declared.kinds.Grammar.{Grammar}
use Rattle.ft_model.specs.Log.{Log}
use Rattle.ft_model.specs.declared.way.Way.{Way}
use Rattle.ft_model.specs.declared.way.Way.TheVariants.{ClientToServer, ServerToClient, ServerToLogger, LoggerToServer, HeadToTail, TailToHead}
use Rattle.twin_laws.specs.declared.part.Part.{Part}
use Rattle.twin_laws.specs.declared.part.Part.TheVariants as parts
use Rattle.twin_laws.specs.declared.part.Side.{Side}
use Rattle.twin_laws.specs.declared.part.Side.TheVariants as sides
use Rattle.twin_laws.specs.StoredState.{Kept, new_kept, left_alone, kept_does}
use Rattle.schedule_network.specs.StoredPackets.{Carried}

-- one of them serves alone exactly if the other has stopped
pub record Loggers : Type 0 where
  pub head : Kept
  pub tail : Kept

-- .. with nothing logged, and messages of this grammar
abbrev pub new_loggers : Grammar → Loggers
new_loggers grammar = record { head = new_kept grammar parts.Head; tail = new_kept grammar parts.Tail }

-- the log that serves is the tail's, until the tail stops
abbrev pub serving_log : Loggers → Log
serving_log l = if l.head.alone then l.head.log else l.tail.log

-- one of them stops, and the other serves alone from then on
abbrev pub stopped : Part → Loggers → Loggers
stopped parts.Head l = record l { tail = left_alone l.tail }
stopped parts.Tail l = record l { head = left_alone l.head }

-- the direction of what a logger sends: its answers are sent to the server, all else to the other logger
abbrev pub way_out : Part → Side → Way
way_out part sides.Server = LoggerToServer
way_out parts.Head sides.Other = HeadToTail
way_out parts.Tail sides.Other = TailToHead

-- the packets that were stored before, and then what a logger sends
abbrev pub with_datagrams : Part → Carried → List (Side × List ℕ) → Carried
with_datagrams part kept sent =
    record { ways = kept.ways ++ map (λ d. way_out part d.0) sent; bytes = kept.bytes ++ map (λ d. d.1) sent }

-- bytes arrive at one of them from a side. One that has stopped does nothing
abbrev pub head_receives : Side → List ℕ → Loggers × Carried → Loggers × Carried
head_receives from bytes h =
    if h.0.tail.alone then h
    else (let d = kept_does from bytes h.0.head in (record h.0 { head = d.next }, with_datagrams parts.Head h.1 d.sent))

abbrev pub tail_receives : Side → List ℕ → Loggers × Carried → Loggers × Carried
tail_receives from bytes h =
    if h.0.head.alone then h
    else (let d = kept_does from bytes h.0.tail in (record h.0 { tail = d.next }, with_datagrams parts.Tail h.1 d.sent))

-- what the server sends reaches the head, or the tail once the head has stopped
abbrev pub front_receives : List ℕ → Loggers × Carried → Loggers × Carried
front_receives bytes h = if h.0.tail.alone then tail_receives sides.Server bytes h else head_receives sides.Server bytes h

-- bytes of this direction arrive at the logger to which it leads, if it leads to one
abbrev pub pair_receives : Way → List ℕ → Loggers × Carried → Loggers × Carried
pair_receives ServerToLogger bytes h = front_receives bytes h
pair_receives HeadToTail bytes h = tail_receives sides.Other bytes h
pair_receives TailToHead bytes h = head_receives sides.Other bytes h
pair_receives (ClientToServer number) bytes h = h
pair_receives (ServerToClient number) bytes h = h
pair_receives LoggerToServer bytes h = h

-- the logger that a schedule means by a number
abbrev pub part_numbered : ℕ → Option Part
part_numbered number = if number == 1 then Some parts.Head else (if number == 2 then Some parts.Tail else None)
