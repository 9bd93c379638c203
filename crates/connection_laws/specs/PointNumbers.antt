-- What a connection's parts show of its point, so that its numbers needn't be stored separately.
use Rattle.std.specs.Prelude.{◌≡◌, ◌≤◌, ℕ, Bool, ◌+◌, ◌%◌, ◌^◌, ◌||◌, max, length, drop, if◌then◌else◌}
use Rattle.seq_arith.specs.Number.{distance, number_at, offset_of}
use Rattle.ft_model.specs.Copy.{from_start}
use Rattle.server_trait.specs.Service.{Machine}
use Rattle.ft_model.specs.News.{News}
use Rattle.ft_model.specs.Point.{Point, is_over}
use Rattle.ft_model.specs.Sending.{syn_acked_after, acknowledged_after}
use Rattle.ft_model.specs.Taken.{taken_after, fin_after}
use Rattle.tcp_endpoint.specs.States.{is_closed, is_time_wait}
use Rattle.tcp_endpoint.specs.Tcb.{Tcb}
use Rattle.tcp_endpoint.specs.UserCalls.{sent_number, acked_number}
use Rattle.endpoint_laws.specs.ConnectionEnd.{has_taken_fin}
use Rattle.north_wrap.specs.NorthState.{NorthState}

-- a TCP that isn't reset shows by its state whether the client's FIN is taken, and whether the connection is over
abbrev pub reports_fin : Tcb → Bool
reports_fin e = has_taken_fin e.name || is_closed e.name

abbrev pub reports_over : Tcb → Bool
reports_over e = is_time_wait e.name || is_closed e.name

-- the sequence number up to which output is acknowledged; until the SYN is acknowledged, that of the SYN
abbrev pub acked_at : (syn_acked : Bool) → (sisn una : ℕ) → ℕ
acked_at syn_acked sisn una = if syn_acked then number_at sisn una else sisn

-- TCP's sequence number as the client knows it, and the units before a sequence number: none before the end of the SYN
abbrev pub raised_by : (delta number : ℕ) → ℕ
raised_by delta number = (number + delta) % 2 ^ 32

abbrev pub units_before : (sisn number : ℕ) → ℕ
units_before sisn number = from_start (offset_of sisn number)

-- between two turns: the bytes taken, the FIN, whether it is over, and TCP's numbers, which are delta below the client's
pub record PartsShow {S : Type 0} (service : Machine S) (delta : ℕ) (p : Point) (n : NorthState S) (e : Tcb) : Type 0 where
  pub taken : length p.taken ≡ max p.fetched n.read + length e.receiving.unread
  pub fin : p.fin ≡ reports_fin e
  pub over : is_over service p ≡ reports_over e
  pub sent : sent_number e ≡ distance (number_at p.sisn p.sent) delta
  pub acked : acked_number e ≡ distance (acked_at p.syn_acked p.sisn p.una) delta
  pub sent_outside : raised_by delta (sent_number e) ≡ number_at p.sisn p.sent
  pub sent_units : units_before p.sisn (raised_by delta (sent_number e)) ≡ p.sent
  pub acked_units : units_before p.sisn (raised_by delta (acked_number e)) ≡ p.una
  pub order : p.una ≤ p.sent
  pub few : p.sent ≤ n.run.made + 1

-- once the news has arrived, before the north wrapper's turn
pub record NewsShow {S : Type 0} (delta : ℕ) (news : News) (p : Point) (n : NorthState S) (m : Tcb) : Type 0 where
  pub taken : length (taken_after news p) ≡ max p.fetched n.read + length m.receiving.unread
  pub unread : drop (max p.fetched n.read) (taken_after news p) ≡ m.receiving.unread
  pub fin : fin_after news p ≡ reports_fin m
  pub acked : acked_number m ≡ distance (acked_at (syn_acked_after news p) p.sisn (acknowledged_after news p)) delta
  pub acked_units : units_before p.sisn (raised_by delta (acked_number m)) ≡ acknowledged_after news p
  pub few : acknowledged_after news p ≤ n.run.made + 1
