-- A new SYN at the place of a connection that is done. A SYN above the old connection's last number is of a new connection (RFC 9293, 3.6.1: it must be larger
-- than the largest number that the previous incarnation used): then the server has the entry recycled at once.
-- The SYN itself is dropped, and its repetition opens.
use Rattle.std.specs.Prelude.{ℕ, ◌+◌, ◌&&◌, Bool, find, option_map, unwrap_or, Option, Some, None, List, if◌then◌else◌}
use Rattle.ft_io.specs.declared.Addr.{Addr}
use Rattle.ft_io.specs.declared.Key.{Key}
use Rattle.ft_io.specs.Key.{key_eq}
use Rattle.seq_arith.specs.Number.{number_at, precedes_or_is}
use Rattle.seq_arith.specs.Message.{EntryHead}
use Rattle.seq_arith.specs.Packet.{Segment}
use Rattle.ft_model.specs.Network.{source_of}
use Rattle.ft_model.specs.Node.{Node, Place, Stage, Input, place_at, is_for}
use Rattle.ft_model.specs.Node.Input.{Packet_comes, Message_comes, Noise_comes, Tick_comes}
use Rattle.ft_model.specs.Node.Place.{Lives}
use Rattle.ft_model.specs.Node.Stage.{Asking, Fetching, Serving, Fenced}
use Rattle.ft_model.specs.Offset.{one_if}
use Rattle.ft_model.specs.Opening.{is_syn}
use Rattle.ft_model.specs.Point.{taken_units}
use Rattle.long_laws.specs.Quarantine.{Quarantined, quarantined_at, fetched_now}

-- the number after the client's last one: RCV.NXT of a live connection, and of a fetched entry
abbrev pub end_of_place : Option Place → Option ℕ
end_of_place (Some (Lives p)) = Some (number_at p.cisn (taken_units p))
end_of_place _ = None

abbrev pub end_of_head : EntryHead → ℕ
end_of_head head = number_at head.cisn (head.length + one_if head.fin)

-- .. before this input, at the stage before it
abbrev pub end_in : Node → Input → Stage → Key → Option ℕ
end_in node input (Serving opened places) key = end_of_place (place_at key places)
end_in node input (Fetching count fetched) key = option_map (λ f. end_of_head f.head) (find (λ f. key_eq f.head.key key) (fetched_now node input count fetched))
end_in node input Asking key = None
end_in node input (Fenced newer) key = None

-- a connection that is done keeps the number with which it ended
abbrev pub ends_after : Node → Input → (Key → ℕ) → Key → ℕ
ends_after node input ends key = unwrap_or (end_in node input node.stage key) (ends key)

-- a SYN, without ACK and RST, at or above this number
abbrev pub is_newer : (end : ℕ) → Segment → Bool
is_newer end segment = is_syn segment && precedes_or_is end segment.head.seq

-- the connection in quarantine that such a SYN ends at once
abbrev pub ended_by : Addr → (Key → ℕ) → Input → List Quarantined → Option Quarantined
ended_by server ends (Packet_comes segment) qs =
    if is_for server segment && is_newer (ends (source_of segment)) segment then quarantined_at (source_of segment) qs else None
ended_by server ends (Message_comes message) qs = None
ended_by server ends Noise_comes qs = None
ended_by server ends Tick_comes qs = None
