-- What the connection that `Node::conn` returns shows of its point.
use Rattle.std.specs.Prelude.{◌≡◌, ◌≤◌, ℕ, true, false, ◌+◌, ◌-◌, ◌%◌, ◌^◌}
use Rattle.seq_arith.specs.Number.{number_at, distance}
use Rattle.server_trait.specs.Service.{Machine}
use Rattle.ft_model.specs.Point.{Point, made, is_over}
use Rattle.south_wrap.specs.SouthPoint.{south_at}
use Rattle.tcp_endpoint.specs.States.{is_closed}
use Rattle.tcp_endpoint.specs.Tcb.{Tcb}
use Rattle.tcp_endpoint.specs.UserCalls.{sent_number, acked_number}
use Rattle.wrapped_conn.specs.ConnState.{ConnState}
use Rattle.wrapped_conn.specs.Refinement.{Reports}

-- the inner TCP began its output after the units that the client had acknowledged then, with a number of its own, which is delta below the client's number of
-- the same unit
pub record BeginsBehind (p : Point) (delta : ℕ) (e : Tcb) : Type 0 where
  pub behind : ℕ
  pub low : behind ≤ p.una
  pub una : e.sending.una ≡ p.una - behind
  pub shift : (e.sending.iss + delta) % 2 ^ 32 ≡ (p.sisn + behind) % 2 ^ 32

-- its SND.NXT is the point's minus delta, and once the SYN is acknowledged so is its SND.UNA
pub record TcpShows (p : Point) (delta : ℕ) (e : Tcb) : Type 0 where
  pub unclosed : is_closed e.name ≡ false
  pub unreset : e.reset ≡ false
  pub sent : sent_number e ≡ distance (number_at p.sisn p.sent) delta
  pub acked : p.syn_acked ≡ true → acked_number e ≡ distance (number_at p.sisn p.una) delta

pub record ReportsItsPoint {S : Type 0} (service : Machine S) (p : Point) (c : ConnState S) : Type 0 where
  pub numbers : Reports p c
  pub south : c.south ≡ south_at c.south.delta p
  pub made : c.north.run.made ≡ made service p
  pub begins : p.reset ≡ false → BeginsBehind p c.south.delta c.endpoint
  -- until the connection is over or reset
  pub tcp : p.reset ≡ false → is_over service p ≡ false → TcpShows p c.south.delta c.endpoint
