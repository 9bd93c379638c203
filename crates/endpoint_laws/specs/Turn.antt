-- A turn of an endpoint, from one flush to the next: a segment arrives, a tick passes, or neither; the user makes calls, and one flush ends the turn. In a turn
-- without either, only the user's calls and the flush change the endpoint.
use Rattle.limits.specs.Limits.{longest_stream}
use Rattle.std.specs.Prelude.{◌≡◌, ℕ, true, false, ◌+◌, ◌-◌, ◌≤◌, ◌^◌, List, [], ◌∷◌, length, None}
use Rattle.seq_arith.specs.Packet.{Segment}
use Rattle.ft_model.specs.News.{News}
use Rattle.ft_model.specs.News.News.{Comes, Ticks}
use Rattle.tcp_endpoint.specs.ReceiveHalf.{next, advertised_edge}
use Rattle.tcp_endpoint.specs.SendHalf.{bytes_end, must_run}
use Rattle.tcp_endpoint.specs.Tcb.{Tcb}
use Rattle.tcp_endpoint.specs.Arrival.{received}
use Rattle.tcp_endpoint.specs.Output.{leaving, flushed}
use Rattle.tcp_endpoint.specs.UserCalls.{after_tick, after_read, after_write, closing, write_room}
use Rattle.endpoint_laws.specs.Laws.{IsBounded, IsUsual, IsShut, last_advertised}

abbrev pub arrived : News → Tcb → Tcb
arrived (Comes segment) e = received e segment
arrived Ticks e = after_tick e
arrived _ e = e

-- a call of the user: bytes are read, these are written, or our stream is closed
pub data Call : Type 0 where
  Reads : ℕ → Call
  Writes : List ℕ → Call
  Closes : Call

abbrev pub called : Call → Tcb → Tcb
called (Reads n) e = after_read e n
called (Writes bytes) e = after_write e bytes
called Closes e = closing e

-- one call after another
abbrev pub used : List Call → Tcb → Tcb
used [] e = e
used (call ∷ calls) e = used calls (called call e)

-- the endpoint at the end of a turn, before the flush ..
abbrev pub before_flush : News → List Call → Tcb → Tcb
before_flush news calls e = used calls (arrived news e)

-- .. and after it
abbrev pub turned : News → List Call → Tcb → Tcb
turned news calls e = flushed (before_flush news calls e)

-- and the segments that are sent
abbrev pub sent_in : News → List Call → Tcb → List Segment
sent_in news calls e = leaving (before_flush news calls e)

-- what happens in a turn
pub record Events : Type 0 where
  pub news : News
  pub calls : List Call

-- an allowed call: no more is read than there is, no more is written than there is room for, and a stream has at most 2^24 bytes
abbrev pub MayCall : Call → Tcb → Type 0
MayCall (Reads n) e = n ≤ length e.receiving.unread
MayCall (Writes bytes) e = (length bytes ≤ write_room e) × (bytes_end e.sending + length bytes ≤ longest_stream)
MayCall Closes e = Unit {0}

abbrev pub MayUse : List Call → Tcb → Type 0
MayUse [] e = Unit {0}
MayUse (call ∷ calls) e = MayCall call e × MayUse calls (called call e)

-- a segment that arrives is a usual one: it acknowledges nothing far before our stream
abbrev pub IsUsualNews : News → Tcb → Type 0
IsUsualNews (Comes segment) e = IsUsual e segment
IsUsualNews _ e = Unit {0}

-- between two turns of a connection that has begun nothing is due, and all that is taken and the edge are advertised
pub record IsBetweenTurns (e : Tcb) : Type 0 where
  pub bounds : IsBounded e
  pub reported : last_advertised e ≡ (next e.receiving, advertised_edge e.receiving)
  pub ack_pending : e.ack_pending ≡ false
  pub retransmission_due : e.retransmission_due ≡ false
  pub probe : e.probe ≡ false
  pub reset_reply : e.reset_reply ≡ None
  -- a FIN is sent after all that was written, by a user who closed
  pub fin_last : e.sending.fin_sent ≡ true → (e.sending.closed ≡ true) × (1 ≤ e.sending.sent) × (length e.sending.held ≡ e.sending.sent - 1 - e.sending.una)
  pub shut : IsShut e.sending
  pub interval : 1 ≤ e.sending.interval
  pub runs : 1 ≤ e.sending.rest → must_run e.sending ≡ true  -- the timer runs only where it must
