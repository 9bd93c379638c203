-- TIME-WAIT, from turn to turn (RFC 9293, 3.6.1, 3.10.7.4 and 3.10.8).
use Rattle.std.specs.Prelude.{◌≡◌, ℕ, Bool, false, pos, ◌+◌, ◌+ℤ◌, ◌==◌, ◌&&◌, List, [], ◌∷◌, length, if◌then◌else◌}
use Rattle.std.specs.Bool.{MatchBool}
use Rattle.tcp_rules.specs.Arrival.{int_eq}
use Rattle.seq_arith.specs.Offset.{first_of, fin_of}
use Rattle.ft_model.specs.News.{News}
use Rattle.ft_model.specs.News.News.{Comes, Ticks}
use Rattle.tcp_endpoint.specs.declared.states.StateName.TheVariants.{Closed, TimeWait}
use Rattle.tcp_endpoint.specs.ReceiveHalf.{next}
use Rattle.tcp_endpoint.specs.Tcb.{Tcb}
use Rattle.endpoint_laws.specs.Turn.{Events, turned}
use Rattle.endpoint_laws.specs.ConnectionEnd.{resets}

-- 2 MSL
abbrev pub time_wait_ticks : ℕ
time_wait_ticks = 4

-- the peer repeats its FIN: the last unit before RCV.NXT
abbrev pub brings_fin_again : News → Tcb → Bool
brings_fin_again (Comes segment) e =
    fin_of segment && int_eq (first_of e.receiving.irs segment +ℤ pos (length segment.payload + 1)) (pos (next e.receiving))
brings_fin_again _ e = false

-- the ticks since the peer's FIN last arrived
abbrev pub ticks_after : (ticks : ℕ) → News → Tcb → ℕ
ticks_after ticks Ticks e = ticks + 1
ticks_after ticks news e = if brings_fin_again news e then 0 else ticks

-- turn by turn, up to a RST at the next number: TIME-WAIT until 2 MSL have passed, and then CLOSED
abbrev pub WaitsOut : (ticks : ℕ) → Tcb → List Events → Type 0
WaitsOut ticks e [] = Unit {0}
WaitsOut ticks e (turn ∷ turns) =
    resets turn.news e ≡ false
    → MatchBool (ticks_after ticks turn.news e == time_wait_ticks)
    ((turned turn.news turn.calls e).name ≡ Closed)
    (((turned turn.news turn.calls e).name ≡ TimeWait) × WaitsOut (ticks_after ticks turn.news e) (turned turn.news turn.calls e) turns)
