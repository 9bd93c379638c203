-- An endpoint of `listen` before a SYN has arrived, and whether news brings it one.
use Rattle.limits.specs.Limits.{longest_stream}
use Rattle.std.specs.Prelude.{◌≡◌, ℕ, Bool, false, ◌≤◌, ◌^◌, length, None}
use Rattle.ft_model.specs.News.{News}
use Rattle.ft_model.specs.News.News.{Comes}
use Rattle.ft_model.specs.Opening.{is_syn}
use Rattle.tcp_endpoint.specs.declared.states.StateName.TheVariants.{Listen}
use Rattle.tcp_endpoint.specs.ReceiveHalf.{receiving_up_to}
use Rattle.tcp_endpoint.specs.SendHalf.{sending_measuring}
use Rattle.tcp_endpoint.specs.Tcb.{Tcb, kept_limit}

-- between two turns of an endpoint in LISTEN, measuring or not, nothing is due, and nothing is received or sent yet. The user may have written, but not closed
pub record IsListening (iss limit : ℕ) (e : Tcb) : Type 0 where
  pub name : e.name ≡ Listen
  pub receiving : e.receiving ≡ receiving_up_to (kept_limit limit)
  pub sending : e.sending ≡ record (sending_measuring e.sending.timing.measures iss) { held = e.sending.held }
  pub written : length e.sending.held ≤ longest_stream
  pub ack_pending : e.ack_pending ≡ false
  pub retransmission_due : e.retransmission_due ≡ false
  pub probe : e.probe ≡ false
  pub reset_reply : e.reset_reply ≡ None

-- whether a SYN arrives that opens a connection: one without ACK and RST
abbrev pub brings_syn : News → Bool
brings_syn (Comes segment) = is_syn segment
brings_syn _ = false
