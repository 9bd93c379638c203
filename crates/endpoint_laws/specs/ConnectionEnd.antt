-- How a connection that has begun ends: its state shows what has happened (RFC 9293, 3.3.2, figure 5), and it becomes CLOSED by a RST at exactly the next
-- number, or once the peer's FIN is taken and its own FIN is acknowledged.
use Rattle.std.specs.Prelude.{◌≡◌, Bool, true, false, pos, ◌&&◌}
use Rattle.tcp_rules.specs.Arrival.{int_eq}
use Rattle.seq_arith.specs.Packet.{has_rst}
use Rattle.ft_model.specs.News.{News}
use Rattle.ft_model.specs.News.News.{Comes}
use Rattle.tcp_endpoint.specs.declared.states.StateName.{StateName}
use Rattle.tcp_endpoint.specs.declared.states.StateName.TheVariants.{Closed, Listen, SynSent, SynReceived, Established, FinWait1, FinWait2, CloseWait}
use Rattle.tcp_endpoint.specs.declared.states.StateName.TheVariants.{Closing, LastAck, TimeWait}
use Rattle.tcp_endpoint.specs.ReceiveHalf.{next}
use Rattle.tcp_endpoint.specs.SendHalf.{fin_acked}
use Rattle.tcp_endpoint.specs.Tcb.{Tcb}
use Rattle.tcp_endpoint.specs.Arrival.{first}

-- the state of a connection that has begun, by whether its SYN is acknowledged, the user has closed, the peer's FIN is taken, and our FIN is acknowledged.
-- Nothing is taken before the SYN is acknowledged
abbrev pub IsNamed : StateName → (syn_acked closed fin acked : Bool) → Type 0
IsNamed Closed syn_acked closed fin acked = Unit {0}
IsNamed Listen syn_acked closed fin acked = Unit {0}
IsNamed SynSent syn_acked closed fin acked = Unit {0}
IsNamed SynReceived syn_acked closed fin acked = (syn_acked ≡ false) × (fin ≡ false)
IsNamed Established syn_acked closed fin acked = (syn_acked ≡ true) × (closed ≡ false) × (fin ≡ false)
IsNamed CloseWait syn_acked closed fin acked = (syn_acked ≡ true) × (closed ≡ false) × (fin ≡ true)
IsNamed FinWait1 syn_acked closed fin acked = (syn_acked ≡ true) × (closed ≡ true) × (fin ≡ false) × (acked ≡ false)
IsNamed FinWait2 syn_acked closed fin acked = (syn_acked ≡ true) × (closed ≡ true) × (fin ≡ false) × (acked ≡ true)
IsNamed Closing syn_acked closed fin acked = (syn_acked ≡ true) × (closed ≡ true) × (fin ≡ true) × (acked ≡ false)
IsNamed LastAck syn_acked closed fin acked = (syn_acked ≡ true) × (closed ≡ true) × (fin ≡ true) × (acked ≡ false)
IsNamed TimeWait syn_acked closed fin acked = (syn_acked ≡ true) × (closed ≡ true) × (fin ≡ true) × (acked ≡ true)

-- the states of a connection that has begun in which the peer's FIN is taken. CLOSED doesn't show it: a RST leads there too
abbrev pub has_taken_fin : StateName → Bool
has_taken_fin CloseWait = true
has_taken_fin Closing = true
has_taken_fin LastAck = true
has_taken_fin TimeWait = true
has_taken_fin name = false

-- an endpoint in the state that its halves imply
abbrev pub IsNamedRightly : Tcb → Type 0
IsNamedRightly e = IsNamed e.name e.sending.syn_acked e.sending.closed e.receiving.fin (fin_acked e.sending)

-- a RST arrives at exactly the next number
abbrev pub resets : News → Tcb → Bool
resets (Comes segment) e = has_rst segment && int_eq (first e segment) (pos (next e.receiving))
resets _ e = false

-- the peer's FIN is taken, and ours is acknowledged
abbrev pub is_over : Tcb → Bool
is_over e = e.receiving.fin && fin_acked e.sending
