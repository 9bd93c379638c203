-- The numbers of a connection are those of its point.
use Rattle.std.proofs.Common.{◌≡◌, ℕ, ◌≤◌, ◌+◌, ◌%◌, ◌^◌, length, sum, max, min, refl, sym, arith, ◌∙◌}
use Rattle.std.specs.Prelude.{◌||◌}
use Rattle.seq_arith.specs.Number.{number_at, distance}
use Rattle.seq_arith.specs.Offset.{one_if}
use Rattle.server_trait.specs.Service.{Machine}
use Rattle.ft_model.specs.Point.{Point, taken_units, advertised_edge, is_over as is_over_by_law}
use Rattle.ft_model.specs.News.{News}
use Rattle.ft_model.specs.Sending.{acknowledged_after}
use Rattle.tcp_endpoint.specs.declared.states.StateName.{StateName}
use Rattle.tcp_endpoint.specs.declared.states.StateName.TheVariants.{Closed, Listen, SynSent, SynReceived, Established, FinWait1, FinWait2, CloseWait, Closing, LastAck, TimeWait}
use Rattle.tcp_endpoint.specs.States.{is_closed, is_time_wait}
use Rattle.tcp_endpoint.specs.UserCalls.{acked_number}
use Rattle.endpoint_laws.specs.ConnectionEnd.{has_taken_fin}
use Rattle.connection_laws.specs.PointNumbers.{PartsShow, NewsShow, units_before, raised_by}
use Rattle.wrapped_conn.specs.ConnState.{ConnState}
use Rattle.wrapped_conn.specs.Refinement.{TcpShows}
use Rattle.wrapped_conn.specs.Numbers.{has_fin, is_over, bytes_taken, units_taken, advertised, una_units, logged_units, outer_sent}
use Rattle.wrapped_conn.proofs.Ended.{few_units, units_of}

pub has_fin_is : (name : StateName) → has_fin name ≡ (has_taken_fin name || is_closed name)
has_fin_is Closed = refl
has_fin_is Listen = refl
has_fin_is SynSent = refl
has_fin_is SynReceived = refl
has_fin_is Established = refl
has_fin_is FinWait1 = refl
has_fin_is FinWait2 = refl
has_fin_is CloseWait = refl
has_fin_is Closing = refl
has_fin_is LastAck = refl
has_fin_is TimeWait = refl

pub is_over_is : (name : StateName) → is_over name ≡ (is_time_wait name || is_closed name)
is_over_is Closed = refl
is_over_is Listen = refl
is_over_is SynSent = refl
is_over_is SynReceived = refl
is_over_is Established = refl
is_over_is FinWait1 = refl
is_over_is FinWait2 = refl
is_over_is CloseWait = refl
is_over_is Closing = refl
is_over_is LastAck = refl
is_over_is TimeWait = refl

pub record NumbersAt {S : Type 0} (service : Machine S) (p : Point) (c : ConnState S) : Type 0 where
  pub bytes : bytes_taken c ≡ length p.taken
  pub fin : has_fin c.endpoint.name ≡ p.fin
  pub units : units_taken c ≡ taken_units p
  pub edge : advertised c ≡ advertised_edge p
  pub over : is_over c.endpoint.name ≡ is_over_by_law service p

pub numbers_at : {S : Type 0} (service : Machine S) (delta : ℕ) (p : Point) (c : ConnState S) → PartsShow service delta p c.north c.endpoint → c.fetched ≡ p.fetched → c.north.read ≡ sum p.lengths
    → NumbersAt service p c
numbers_at service delta p c shown fetched read =
    let bytes : bytes_taken c ≡ length p.taken = (λ j. max (fetched j) c.north.read + length c.endpoint.receiving.unread) ∙ sym shown.taken in
    let fin : has_fin c.endpoint.name ≡ p.fin = has_fin_is c.endpoint.name ∙ sym shown.fin in
    record {
      bytes = bytes;
      fin = fin;
      units = λ j. bytes j + one_if (fin j);
      edge = λ j. min (max (fetched j) (read j) + 65535) (2 ^ 24) + one_if (fin j);
      over = is_over_is c.endpoint.name ∙ sym shown.over;
    }

least : (una most : ℕ) → una ≤ most → min una most ≡ una
least una most h = omega (arith, h)

few : (una sent made : ℕ) → una ≤ sent → sent ≤ made + 1 → made ≤ 2 ^ 24 → una ≤ 2 ^ 24 + 1
few una sent made a b c = omega (arith, a, b, c)

units_reported : {S : Type 0} (c : ConnState S) (sisn una : ℕ) → c.south.sisn ≡ sisn → units_before sisn (raised_by c.south.delta (acked_number c.endpoint)) ≡ una → una ≤ 2 ^ 24 + 1 → una_units c ≡ una
units_reported c sisn una same reported most = (λ j. min (units_before (same j) (raised_by c.south.delta (acked_number c.endpoint))) (2 ^ 24 + 1)) ∙ (λ j. min (reported j) (2 ^ 24 + 1)) ∙ least una (2 ^ 24 + 1) most

pub una_is : {S : Type 0} (service : Machine S) (p : Point) (c : ConnState S) → PartsShow service c.south.delta p c.north c.endpoint → c.south.sisn ≡ p.sisn → c.north.run.made ≤ 2 ^ 24 → una_units c ≡ p.una
una_is service p c shown same made = units_reported c p.sisn p.una same shown.acked_units (few p.una p.sent c.north.run.made shown.order shown.few made)

pub news_una_is : {S : Type 0} (news : News) (p : Point) (c : ConnState S) → NewsShow c.south.delta news p c.north c.endpoint → c.south.sisn ≡ p.sisn → c.north.run.made ≤ 2 ^ 24
    → una_units c ≡ acknowledged_after news p
news_una_is news p c shown same made = units_reported c p.sisn (acknowledged_after news p) same shown.acked_units (few_units (acknowledged_after news p) c.north.run.made shown.few made)

pub logged_at : (cisn answered : ℕ) → answered ≤ 2 ^ 24 + 1 → distance (number_at cisn answered) ((cisn + 1) % 2 ^ 32) ≡ answered
logged_at cisn answered most = omega (arith, most)

pub logged_is : {S : Type 0} (c : ConnState S) → c.south.answered ≤ 2 ^ 24 + 1 → logged_units c ≡ c.south.answered
logged_is c most = logged_at c.south.cisn c.south.answered most

pub tcp_shows : {S : Type 0} (service : Machine S) (p : Point) (c : ConnState S) → PartsShow service c.south.delta p c.north c.endpoint → c.fetched ≡ p.fetched → c.north.read ≡ sum p.lengths
    → c.south.sisn ≡ p.sisn → c.north.run.made ≤ 2 ^ 24 → TcpShows p c
tcp_shows service p c shown fetched read sisn made = record {
  taken = (numbers_at service c.south.delta p c shown fetched read).units;
  una = una_is service p c shown sisn made;
  sent = units_of p.sisn c.south.sisn p.sent (outer_sent c) shown.sent_outside sisn (few_units p.sent c.north.run.made shown.few made);
}
