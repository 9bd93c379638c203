-- An endpoint of `connecting` before its SYN is answered, and what is required of the segments that arrive.
use Rattle.limits.specs.Limits.{longest_stream}
use Rattle.std.specs.Prelude.{◌≡◌, ℕ, false, ◌<◌, ◌≤◌, ◌^◌, length, None}
use Rattle.ft_model.specs.News.{News}
use Rattle.ft_model.specs.News.News.{Comes}
use Rattle.tcp_endpoint.specs.declared.states.StateName.TheVariants.{SynSent}
use Rattle.tcp_endpoint.specs.ReceiveHalf.{receiving_up_to}
use Rattle.tcp_endpoint.specs.SendHalf.{sending_measuring}
use Rattle.tcp_endpoint.specs.Tcb.{Tcb, kept_limit}
use Rattle.endpoint_laws.specs.Laws.{KeepsTime}

-- between two turns of an endpoint in SYN-SENT, measuring or not, nothing is due, and nothing is received or sent yet except the SYN, for which the timer
-- runs. The user may have written, but not closed
pub record IsConnecting (iss limit : ℕ) (e : Tcb) : Type 0 where
  pub name : e.name ≡ SynSent
  pub receiving : e.receiving ≡ receiving_up_to (kept_limit limit)
  pub sending : e.sending
      ≡ record (sending_measuring e.sending.timing.measures iss) {
        held = e.sending.held;
        timing = e.sending.timing;
        interval = e.sending.interval;
        rest = e.sending.rest;
      }
  pub timing : KeepsTime e.sending.timing
  pub written : length e.sending.held ≤ longest_stream
  pub interval : 1 ≤ e.sending.interval
  pub runs : 1 ≤ e.sending.rest
  pub ack_pending : e.ack_pending ≡ false
  pub retransmission_due : e.retransmission_due ≡ false
  pub probe : e.probe ≡ false
  pub reset_reply : e.reset_reply ≡ None

-- the number and the window of an arriving segment fit their bytes
abbrev pub FieldsFit : News → Type 0
FieldsFit (Comes segment) = (segment.head.seq < 2 ^ 32) × (segment.head.window ≤ 65535)
FieldsFit _ = Unit {0}
