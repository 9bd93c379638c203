-- The live client: an active open of the TCP endpoint. Its user writes a script as there is room, closes after it, and reads what was accepted.
use Rattle.limits.specs.Limits.{longest_stream}
use Rattle.std.specs.Prelude.{ℕ, Bool, false, ◌+◌, ◌==◌, ◌&&◌, ◌||◌, nat_le, min, Option, None, Some, Result, Ok, Err, List, length, take, drop, if◌then◌else◌}
use Rattle.ft_io.specs.declared.Addr.{Addr}
use Rattle.seq_arith.specs.Packet.{Segment}
use Rattle.seq_arith.specs.PacketGrammar.{reading}
use Rattle.seq_arith.specs.declared.BadPacket.{BadPacket}
use Rattle.tcp_rules.specs.Profile.{Profile}
use Rattle.tcp_rules.specs.Timestamping.{timestamps_sent}
use Rattle.tcp_endpoint.specs.States.{has_begun, is_closed, is_syn_sent, is_time_wait}
use Rattle.tcp_endpoint.specs.Tcb.{Tcb, connecting, connecting_measuring}
use Rattle.tcp_endpoint.specs.Arrival.{received}
use Rattle.tcp_endpoint.specs.UserCalls.{after_tick, after_read, after_write, closing, write_room}
use Rattle.tcp_endpoint.specs.Output.{leaving, flushed}
use Rattle.peer_client.specs.Stamping.{StampState, first_stamps, as_read, stamps_after, all_stamped, after_sending}
use Rattle.peer_client.specs.declared.live.ClientEnd.{ClientEnd}
use Rattle.peer_client.specs.declared.live.ClientEnd.TheVariants.{Closed, Reset}

pub record LiveState : Type 0 where
  pub local : Addr
  pub server : Addr
  pub tcb : Tcb  -- the client's TCP
  pub script : List ℕ
  pub written : ℕ  -- how many bytes of the script were given to TCP
  pub seen : ℕ  -- how many of TCP's unread bytes were handed to the caller
  pub outcome : Option ClientEnd
  pub stamps : StampState  -- the timestamps of its segments

-- a new client, before its first flush
abbrev pub new_live : Addr → Addr → ℕ → List ℕ → LiveState
new_live local server isn script = record {
  local = local;
  server = server;
  tcb = connecting local server isn longest_stream;
  script = script;
  written = 0;
  seen = 0;
  outcome = None;
  stamps = first_stamps false;
}

-- the same of a client with this profile. A client has no log, so of the profile it has the measuring and the timestamps
abbrev pub new_live_in : Profile → Addr → Addr → ℕ → List ℕ → LiveState
new_live_in profile local server isn script =
    record (new_live local server isn script) {
      tcb = connecting_measuring profile.measures local server isn longest_stream;
      stamps = first_stamps profile.timestamps;
    }

-- whether the segment is one of the connection, by both addresses and ports (RFC 9293, 3.10.7)
abbrev pub is_of : Addr → Addr → Segment → Bool
is_of local server segment =
    (segment.head.src == server.ip) && (segment.head.sport == server.port) && (segment.head.dst == local.ip) && (segment.head.dport == local.port)

-- how the connection of this endpoint has ended, if it has: by a RST, or by the FINs of both sides, after which it is in TIME-WAIT or CLOSED
abbrev pub end_of : Tcb → Option ClientEnd
end_of e = if e.reset then Some Reset else (if is_time_wait e.name || is_closed e.name then Some Closed else None)

-- the first outcome stays
abbrev pub first_end : Option ClientEnd → Option ClientEnd → Option ClientEnd
first_end (Some end) later = Some end
first_end None later = later

-- TCP takes a segment
abbrev pub reached : LiveState → Segment → LiveState
reached l segment = record l { tcb = received l.tcb segment; outcome = first_end l.outcome (end_of (received l.tcb segment)) }

-- a segment of the connection reaches TCP, and its timestamps are noted
abbrev pub met : LiveState → Segment → LiveState
met l segment =
    let taken : LiveState = reached l (as_read l.stamps segment)
    in record taken { stamps = stamps_after (is_syn_sent l.tcb.name) (has_begun taken.tcb.name) segment l.stamps }

-- bytes arrive: those that are no packet of the connection are dropped
abbrev pub arrivals : LiveState → Result Segment BadPacket → LiveState
arrivals l (Ok segment) = if is_of l.local l.server segment then met l segment else l
arrivals l (Err bad) = l

abbrev pub after_packet : LiveState → List ℕ → LiveState
after_packet l bytes = arrivals l (reading bytes)

abbrev pub ticked : LiveState → LiveState
ticked l = record l { tcb = after_tick l.tcb }

-- the accepted bytes that weren't handed out
abbrev pub unread : LiveState → List ℕ
unread l = drop l.seen l.tcb.receiving.unread

-- some of them are handed out. They stay unread in TCP until the turn ends, so that no window opens within it
abbrev pub handed : LiveState → ℕ → LiveState
handed l n = record l { seen = l.seen + n }

-- at the turn's end TCP drops what was handed out, ..
abbrev pub given_up : LiveState → LiveState
given_up l = record l { tcb = after_read l.tcb (min l.seen (length l.tcb.receiving.unread)); seen = 0 }

-- .. takes as much of the script as it has room for, ..
abbrev pub next_part : LiveState → List ℕ
next_part l = take (write_room l.tcb) (drop l.written l.script)

abbrev pub supplied : LiveState → LiveState
supplied l = record l { tcb = after_write l.tcb (next_part l); written = l.written + length (next_part l) }

-- .. and is closed after the whole script, once the connection has begun
abbrev pub closes : LiveState → Bool
closes l = has_begun l.tcb.name && nat_le (length l.script) l.written

abbrev pub shut : LiveState → LiveState
shut l = record l { tcb = if closes l then closing l.tcb else l.tcb }

abbrev pub before_flush : LiveState → LiveState
before_flush l = shut (supplied (given_up l))

-- the segments that TCP sends then, and those that leave: with timestamps, where the client's segments carry them
abbrev pub sent_by_tcp : LiveState → List Segment
sent_by_tcp l = leaving (before_flush l).tcb

abbrev pub sent_by : LiveState → List Segment
sent_by l = all_stamped (timestamps_sent l.stamps.timestamping) (sent_by_tcp l)

abbrev pub tcp_turned : LiveState → LiveState
tcp_turned l = record (before_flush l) { tcb = flushed (before_flush l).tcb }

abbrev pub turned : LiveState → LiveState
turned l = record (tcp_turned l) { stamps = after_sending (sent_by_tcp l) l.stamps }
