-- What a tick and the user's calls do to an endpoint (RFC 9293, 3.8.1, 3.8.6.1, 3.9.1 and 3.10).
use Rattle.limits.specs.Limits.{buffer_size}
use Rattle.std.specs.Prelude.{ℕ, Bool, true, ◌-◌, ◌&&◌, ◌||◌, not, nat_lt, List, ◌++◌, length, if◌then◌else◌}
use Rattle.seq_arith.specs.Number.{number_at}
use Rattle.tcp_endpoint.specs.declared.states.StateName.TheVariants.{Closed}
use Rattle.tcp_endpoint.specs.States.{after_close, is_listen, is_time_wait}
use Rattle.tcp_endpoint.specs.ReceiveHalf.{read_out}
use Rattle.tcp_endpoint.specs.SendHalf.{expires, ticked, is_unacknowledged}
use Rattle.tcp_endpoint.specs.Tcb.{Tcb}

-- a tick of the timer. Where it expires, a retransmission is due, or a probe if nothing is unacknowledged
unfoldable pub timer_ticked : Tcb → Tcb
timer_ticked e = record e {
  sending = ticked e.sending;
  retransmission_due = e.retransmission_due || (expires e.sending && is_unacknowledged e.sending);
  probe = e.probe || (expires e.sending && not (is_unacknowledged e.sending));
}

-- TIME-WAIT ends with its last tick
unfoldable pub waited : Tcb → Tcb
waited e = record e {
  name = if is_time_wait e.name && nat_lt e.wait 2 then Closed else e.name;
  wait = if is_time_wait e.name then e.wait - 1 else e.wait;
}

unfoldable pub after_tick : Tcb → Tcb
after_tick e = waited (timer_ticked e)

-- the user's calls
abbrev pub after_read : Tcb → ℕ → Tcb
after_read e n = record e { receiving = read_out e.receiving n }

abbrev pub after_write : Tcb → List ℕ → Tcb
after_write e bytes = record e { sending = record e.sending { held = e.sending.held ++ bytes } }

abbrev pub closing : Tcb → Tcb
closing e = record e { name = after_close e.name; sending = record e.sending { closed = true } }

-- the user's stream has ended, by `close` or by a reset
abbrev pub is_ended : Tcb → Bool
is_ended e = e.sending.closed || e.reset

abbrev pub write_room : Tcb → ℕ
write_room e = if is_ended e then 0 else buffer_size - length e.sending.held

-- SND.NXT, which is ISS in LISTEN, and SND.UNA, which is ISS until the SYN is acknowledged
abbrev pub sent_number : Tcb → ℕ
sent_number e = if is_listen e.name then e.sending.iss else number_at e.sending.iss e.sending.sent

abbrev pub acked_number : Tcb → ℕ
acked_number e = if e.sending.syn_acked then number_at e.sending.iss e.sending.una else e.sending.iss
