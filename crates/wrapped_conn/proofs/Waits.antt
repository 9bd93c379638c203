-- Where the connection's ACK waits for the log, the law's does.
use Rattle.std.proofs.Common.{◌≡◌, ◌⊎◌, ℕ, ◌+◌, ◌-◌, ◌^◌, Bool, true, false, length, min, None, Some, Option, refl, sym, ap, ⊎_elim, ◌∙◌}
use Rattle.std.specs.Prelude.{◌==◌, ◌&&◌, nat_lt, is_none, option_map}
use Rattle.tcp_rules.specs.Coming.{Early, early_from}
use Rattle.seq_arith.specs.Offset.{one_if}
use Rattle.seq_arith.specs.Packet.{Segment}
use Rattle.server_trait.specs.Service.{Machine}
use Rattle.ft_model.specs.News.{News}
use Rattle.ft_model.specs.News.News.{Comes}
use Rattle.ft_model.specs.PendingAck.{is_segment, is_delayed as is_delayed_by_law}
use Rattle.ft_model.specs.Point.{Point, taken_units, advertised_edge}
use Rattle.tcp_endpoint.specs.Output.{flushed}
use Rattle.tcp_endpoint.specs.ReceiveHalf.{Receiving}
use Rattle.tcp_endpoint.specs.Tcb.{Tcb}
use Rattle.connection_laws.specs.ClosedTcp.{StandsClosed}
use Rattle.connection_laws.specs.Parts.{StandsOpen}
use Rattle.connection_laws.proofs.Delaying.{waits_segment}
use Rattle.wrapped_conn.specs.declared.stage.Before.{Before}
use Rattle.wrapped_conn.specs.ConnState.{ConnState}
use Rattle.wrapped_conn.specs.Arrival.{before_segment}
use Rattle.wrapped_conn.specs.Numbers.{has_fin, units_taken, advertised, fetched_or_read, logged_units, acknowledgeable}
use Rattle.wrapped_conn.specs.Output.{turn_ended, is_delayed}
use Rattle.wrapped_conn.proofs.Flushed.{flush_name}
use Rattle.wrapped_conn.proofs.NumbersAt.{NumbersAt}

-- both as a function of what they compare
abbrev delay : (delays : Bool) (before after held : ℕ) (no_fin : Bool) (old new edge to : ℕ) → Bool
delay delays before after held no_fin old new edge to =
    delays && true && nat_lt before after && held == 0 && no_fin && old == new && min 65535 (edge - old) == min 65535 (to - new)

no_fin_held : (k : ℕ) (fin : Option ℕ) → is_none (option_map (λ offset. offset + k) fin) ≡ is_none fin
no_fin_held k None = refl
no_fin_held k (Some offset) = refl

-- the end of TCP's turn changes none of it
units_still : {S : Type 0} (x : ConnState S) → units_taken (turn_ended x) ≡ units_taken x
units_still x = λ j. fetched_or_read x + length ((flush_name x.endpoint).1 j).unread + one_if (has_fin ((flush_name x.endpoint).0 j))

edge_still : {S : Type 0} (x : ConnState S) → advertised (turn_ended x) ≡ advertised x
edge_still x = λ j. min (fetched_or_read x + 65535) (2 ^ 24) + one_if (has_fin ((flush_name x.endpoint).0 j))

-- what is held, of an open TCP and of one that is CLOSED
early_at : {S : Type 0} (service : Machine S) (u i delta : ℕ) (q : Point) (e : Tcb) → StandsOpen u i delta q e ⊎ StandsClosed service u i delta q e
    → q.early ≡ early_from q.fetched e.receiving.early
early_at service u i delta q e stands = ⊎_elim (λ o. o.stands.stands.receives.early) (λ k. k.receives.early) stands

pub delayed_is : {S : Type 0} (service : Machine S) (u i delta : ℕ) (p q : Point) (c x : ConnState S) (segment : Segment) → x.delays ≡ p.delays
    → NumbersAt service p c → NumbersAt service q (turn_ended x) → logged_units c ≡ p.answered → logged_units x ≡ q.answered
    → StandsOpen u i delta q (flushed x.endpoint) ⊎ StandsClosed service u i delta q (flushed x.endpoint)
    → is_delayed (before_segment c segment) x ≡ is_delayed_by_law (Comes segment) p q
unfolding is_delayed_by_law
delayed_is service u i delta p q c x segment delays n m logged logged_on stands =
    let units : units_taken x ≡ taken_units q = sym (units_still x) ∙ m.units in
    let edge : advertised x ≡ advertised_edge q = sym (edge_still x) ∙ m.edge in
    let held : early_from q.fetched (flushed x.endpoint).receiving.early ≡ q.early = sym (early_at service u i delta q (flushed x.endpoint) stands) in
    let text : length x.endpoint.receiving.early.text ≡ length q.early.text =
    sym (ap (λ (r : Receiving). length r.early.text) (flush_name x.endpoint).1) ∙ ap (λ (e : Early). length e.text) held in
    let fin : is_none x.endpoint.receiving.early.fin ≡ is_none q.early.fin =
    sym (ap (λ (r : Receiving). is_none r.early.fin) (flush_name x.endpoint).1) ∙ sym (no_fin_held q.fetched (flushed x.endpoint).receiving.early.fin)
    ∙ ap (λ (e : Early). is_none e.fin) held in
    λ j. delay (delays j) (n.units j) (units j) (text j) (fin j) (min (n.units j) (logged j)) (min (units j) (logged_on j)) (n.edge j) (edge j)

-- in any other turn no ACK waits
off_second : (d n t f o w : Bool) → (d && false && n && t && f && o && w) ≡ false
off_second true n t f o w = refl
off_second false n t f o w = refl

pub none_delayed : {S : Type 0} (news : News) (p q : Point) (before : Before) (x : ConnState S) → before.segment ≡ false → is_segment news ≡ false
    → is_delayed before x ≡ is_delayed_by_law news p q
none_delayed news p q before x off other =
    (λ j. x.delays && off j && nat_lt (before.taken + one_if before.fin) (units_taken x) && length x.endpoint.receiving.early.text == 0 && is_none x.endpoint.receiving.early.fin
    && before.acknowledgeable == acknowledgeable x && min 65535 (before.edge - before.acknowledgeable) == min 65535 (advertised x - acknowledgeable x))
    ∙ off_second x.delays (nat_lt (before.taken + one_if before.fin) (units_taken x)) (length x.endpoint.receiving.early.text == 0) (is_none x.endpoint.receiving.early.fin)
    (before.acknowledgeable == acknowledgeable x) (min 65535 (before.edge - before.acknowledgeable) == min 65535 (advertised x - acknowledgeable x))
    ∙ sym (waits_segment (is_delayed_by_law news p q) news p q other refl)
