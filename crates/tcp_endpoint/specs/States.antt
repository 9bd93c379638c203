-- The states of a connection and their transitions (RFC 9293, 3.3.2, figure 5, and 3.10).
use Rattle.std.specs.Prelude.{Bool, true, false, if◌then◌else◌}
use Rattle.tcp_endpoint.specs.declared.states.StateName.{StateName}
use Rattle.tcp_endpoint.specs.declared.states.StateName.TheVariants.{Closed, Listen, SynSent, Established, FinWait1, FinWait2, CloseWait, Closing}
use Rattle.tcp_endpoint.specs.declared.states.StateName.TheVariants.{LastAck, TimeWait}

-- the user closes (3.10.4). In SYN-RECEIVED the FIN waits for ESTABLISHED
abbrev pub after_close : StateName → StateName
after_close Listen = Closed
after_close SynSent = Closed
after_close Established = FinWait1
after_close CloseWait = LastAck
after_close name = name

-- our SYN is acknowledged; the user may have closed before that
abbrev pub after_syn_acked : Bool → StateName
after_syn_acked closed = if closed then FinWait1 else Established

-- our FIN is acknowledged (3.10.7.4, fifth check)
abbrev pub after_fin_acked : StateName → StateName
after_fin_acked FinWait1 = FinWait2
after_fin_acked Closing = TimeWait
after_fin_acked LastAck = Closed
after_fin_acked name = name

-- the peer's FIN is taken (3.10.7.4, eighth check)
abbrev pub after_fin : StateName → StateName
after_fin Established = CloseWait
after_fin FinWait1 = Closing
after_fin FinWait2 = TimeWait
after_fin name = name

abbrev pub is_closed : StateName → Bool
is_closed Closed = true
is_closed name = false

abbrev pub is_listen : StateName → Bool
is_listen Listen = true
is_listen name = false

abbrev pub is_syn_sent : StateName → Bool
is_syn_sent SynSent = true
is_syn_sent name = false

abbrev pub is_time_wait : StateName → Bool
is_time_wait TimeWait = true
is_time_wait name = false

-- SYN-RECEIVED and the synchronized states: both initial sequence numbers are known
abbrev pub has_begun : StateName → Bool
has_begun Closed = false
has_begun Listen = false
has_begun SynSent = false
has_begun name = true
