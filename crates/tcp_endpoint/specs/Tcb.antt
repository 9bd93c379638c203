-- What an endpoint is: a connection's variables in stream offsets (RFC 9293, 3.3.1), and what is due at the end of the turn.
use Rattle.std.specs.Prelude.{ℕ, Bool, true, false, ◌^◌, min, Option, None}
use Rattle.ft_io.specs.declared.Addr.{Addr}
use Rattle.segment_codec.specs.declared.Head.{Head}
use Rattle.tcp_endpoint.specs.declared.states.StateName.{StateName}
use Rattle.tcp_endpoint.specs.declared.states.StateName.TheVariants.{Listen, SynSent}
use Rattle.tcp_endpoint.specs.ReceiveHalf.{Receiving, receiving_up_to}
use Rattle.tcp_endpoint.specs.SendHalf.{Sending, sending_from, sending_measuring}

pub record Tcb : Type 0 where
  pub local : Addr  -- our address
  pub remote : Addr  -- the peer's address, once it is known
  pub name : StateName  -- the state's name
  pub reset : Bool  -- whether the peer has reset the connection
  pub receiving : Receiving  -- the peer's stream: IRS, RCV.NXT, RCV.WND
  pub sending : Sending  -- our stream: ISS, SND.UNA, SND.NXT, SND.WND
  pub wait : ℕ  -- the ticks that TIME-WAIT still lasts
  pub last_ack_sent : ℕ  -- the acknowledgement last sent, ..
  pub last_advertised_edge : ℕ  -- .. and the right edge last advertised
  pub ack_pending : Bool  -- of this turn: its input requires an ACK,
  pub retransmission_due : Bool  -- the first unacknowledged segment is due: a first SYN or SYN-ACK, or a retransmission,
  pub probe : Bool  -- a zero-window probe is due,
  pub reset_reply : Option Head  -- and the RST that is due in reply to a segment

-- the largest right edge of an endpoint's receive window, as an offset: the smaller of the caller's limit and 2^30
abbrev pub kept_limit : ℕ → ℕ
kept_limit limit = min limit (2 ^ 30)

-- a passive open
unfoldable pub listening : Addr → ℕ → ℕ → Tcb
listening local iss limit = record {
  local = local;
  remote = record { ip = 0; port = 0 };
  name = Listen;
  reset = false;
  receiving = receiving_up_to (kept_limit limit);
  sending = sending_from iss;
  wait = 0;
  last_ack_sent = 0;
  last_advertised_edge = 0;
  ack_pending = false;
  retransmission_due = false;
  probe = false;
  reset_reply = None;
}

-- an active open: the SYN is due
unfoldable pub connecting : Addr → Addr → ℕ → ℕ → Tcb
connecting local remote iss limit = record (listening local iss limit) { remote = remote; name = SynSent; retransmission_due = true }

-- the same of an endpoint that may measure round trips
unfoldable pub listening_measuring : (measures : Bool) → Addr → ℕ → ℕ → Tcb
listening_measuring measures local iss limit = record (listening local iss limit) { sending = sending_measuring measures iss }

unfoldable pub connecting_measuring : (measures : Bool) → Addr → Addr → ℕ → ℕ → Tcb
connecting_measuring measures local remote iss limit =
    record (listening_measuring measures local iss limit) { remote = remote; name = SynSent; retransmission_due = true }
