-- The law Reset and end, for RSTs: the three cases in which a client gets one (RFC 9293, 3.10.7.1 and 3.10.7.2). Every RST has window 0, and
-- acknowledgement 0 where it has no ACK.
use Rattle.std.specs.Prelude.{ℕ, ◌+◌, ◌&&◌, not, List, [], ◌∷◌, if◌then◌else◌}
use Rattle.ft_io.specs.declared.Addr.{Addr}
use Rattle.ft_io.specs.declared.Key.{Key}
use Rattle.seq_arith.specs.Number.{number_at}
use Rattle.seq_arith.specs.declared.flags.TheConstants.{RST, ACK}
use Rattle.seq_arith.specs.Packet.{Segment, has_rst, has_ack}
use Rattle.seq_arith.specs.Reset.{reset, reset_at_ack, reset_behind}
use Rattle.seq_arith.specs.Message.{Numbers}
use Rattle.ft_model.specs.Offset.{length_of}

-- a RST to a client
abbrev pub rst_to : Addr → Key → (seq ack flags : ℕ) → Segment
rst_to server key seq ack flags = record { head = reset server key seq ack flags; payload = [] }

-- <SEQ=SEG.ACK><CTL=RST>
abbrev pub rst_at_ack : Addr → Segment → Segment
rst_at_ack server segment = record { head = reset_at_ack server segment.head; payload = [] }

-- <SEQ=0><ACK=SEG.SEQ+SEG.LEN><CTL=RST,ACK>
abbrev pub rst_behind : Addr → Segment → Segment
rst_behind server segment = record { head = reset_behind server (length_of segment) segment.head; payload = [] }

-- the answer, as in LISTEN, to a segment of an unknown key: a RST to an acknowledgement, none to a RST
abbrev pub as_listen : Addr → Segment → List Segment
as_listen server segment = if has_ack segment && not (has_rst segment) then rst_at_ack server segment ∷ [] else []

-- the answer, as in CLOSED, to a segment of a key that is done: a RST to all but a RST
abbrev pub as_closed : Addr → Segment → List Segment
as_closed server segment = if has_rst segment then [] else (if has_ack segment then rst_at_ack server segment ∷ [] else rst_behind server segment ∷ [])

-- the log is full: the SYN of the opening is refused
abbrev pub full_rst : Addr → Numbers → Segment
full_rst server numbers = rst_to server numbers.key 0 (number_at numbers.cisn 0) (RST + ACK)
