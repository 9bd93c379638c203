-- No more is ever sent of a connection than may be sent: not even a probe is past all output and its FIN. So a connection is over only where the service has
-- closed.
use Rattle.tcp_rules.specs.declared.timestamping.Timestamping.{Timestamping}
use Rattle.std.proofs.Common.{◌≡◌, ◌⊎◌, ℕ, zero, suc, ◌+◌, ◌≤◌, ◌<◌, Bool, true, false, ◌==◌, ◌&&◌, ◌||◌, not, nat_lt, max, min, sum, le_refl, le_trans, refl, sym, ap, ◌∙◌, subst, true≢false, inl, inr, ⊎_elim, eqb-true, ltb-true, ltb-false, append-nil, List, [], ◌∷◌, length, take, arith}
use Rattle.std.proofs.lemmas.Bool.{and_parts}
use Rattle.std.proofs.lemmas.List.{take_all}
use Rattle.ft_io.specs.declared.Addr.{Addr}
use Rattle.tcp_rules.specs.Profile.{Profile}
use Rattle.tcp_rules.specs.Arrival.{una_after}
use Rattle.tcp_rules.specs.Congestion.{with_expiry}
use Rattle.seq_arith.specs.Message.{Numbers}
use Rattle.server_trait.specs.Service.{Machine, reference}
use Rattle.ft_io.proofs.Booleans.{not_true}
use Rattle.ft_io.proofs.Choices.{by_cases, holds_if, if_false}
use Rattle.ft_model.specs.Answered.{reads_answered_after}
use Rattle.ft_model.specs.Connection.{LiveTurn, ResetTurn}
use Rattle.ft_model.specs.Growth.{IsPrefix}
use Rattle.ft_model.specs.Log.{Entry}
use Rattle.ft_model.specs.Network.{Packet}
use Rattle.ft_model.specs.News.{News}
use Rattle.ft_model.specs.News.News.{Comes, Logged, Ticks, Begins}
use Rattle.ft_model.specs.Offset.{one_if}
use Rattle.ft_model.specs.Opening.{point_opened}
use Rattle.ft_model.specs.Point.{Point, answered_run, released, target, is_over}
use Rattle.ft_model.specs.Restart.{point_of}
use Rattle.ft_model.specs.Sending.{acknowledges, acknowledged_by, acknowledged_after, edge_after, congestion_after, is_lost, is_first_expiry, flight, send_edge, sent_after, sent_at_once}
use Rattle.ft_model.specs.Timer.{expires, probes, must_run, rest_after}
use Rattle.ft_model.proofs.Authored.{take_of_prefix}
use Rattle.ft_model.proofs.Running.{taken_grows}
use Rattle.ft_model.proofs.Services.{RunExtends, more_bytes, reads_proceed, sum_take, units_proceed}
use Rattle.ft_model.proofs.Turns.{all_is_sent}

pub record Sends {State : Type 0} (service : Machine State) (p : Point) : Type 0 where
  pub order : p.una ≤ p.sent
  pub within : p.sent ≤ target service p
  pub all : p.reset ≡ false → min (target service p) (send_edge p) ≤ p.sent
  pub runs : (p.rest ≡ 0) ⊎ (must_run service p ≡ true)

-- what is read is taken, and what is known to be logged of the reads was read
pub record CountsOwn (p : Point) : Type 0 where
  pub enough : sum p.lengths ≤ length p.taken
  pub counts : p.reads_answered ≤ length p.lengths

take_less : (a b : ℕ) (xs : List ℕ) → a ≤ b → IsPrefix (take a xs) (take b xs)
take_less zero b xs h = (take b xs, refl)
take_less (suc a) zero xs h = absurd (omega (arith, h))
take_less (suc a) (suc b) [] h = ([], refl)
take_less (suc a) (suc b) (x ∷ xs) h = let rest = take_less a b xs (omega (arith, h)) in (rest.0, ap (λ l. x ∷ l) rest.1)

-- what may leave is never less than before
extends : {State : Type 0} (service : Machine State) (p q : Point) → CountsOwn p → IsPrefix p.taken q.taken → IsPrefix p.lengths q.lengths → p.reads_answered ≤ q.reads_answered
    → RunExtends (answered_run service p) (answered_run service q)
extends service p q c taken lengths more =
    let a : ℕ = p.reads_answered in
    let front : IsPrefix (take a p.lengths) (take q.reads_answered q.lengths) =
    subst (λ l. IsPrefix l (take q.reads_answered q.lengths)) (take_of_prefix a p.lengths q.lengths lengths c.counts) (take_less a q.reads_answered q.lengths more) in
    subst (λ r. RunExtends r (answered_run service q))
    (more_bytes service p.taken q.taken (take a p.lengths) taken (le_trans (sum_take a p.lengths) c.enough))
    (reads_proceed service q.taken (take a p.lengths) (take q.reads_answered q.lengths) front)

target_grows : {State : Type 0} (service : Machine State) (p q : Point) → CountsOwn p → IsPrefix p.taken q.taken → IsPrefix p.lengths q.lengths → p.reads_answered ≤ q.reads_answered
    → target service p ≤ target service q
target_grows service p q c taken lengths more = units_proceed (answered_run service p) (answered_run service q) (extends service p q c taken lengths more)

answered_more : (news : News) (p : Point) → p.reads_answered ≤ reads_answered_after news p
unfolding reads_answered_after
answered_more (Comes segment) p = le_refl p.reads_answered
answered_more (Logged kept) p = omega arith
answered_more Ticks p = le_refl p.reads_answered
answered_more Begins p = le_refl p.reads_answered

-- SND.UNA stays below SND.NXT
una_within : (news : News) (p : Point) → p.una ≤ p.sent → acknowledged_after news p ≤ p.sent
unfolding acknowledged_after
una_within (Comes segment) p h =
    holds_if (λ u. u ≤ p.sent) (acknowledges p segment) (una_after p.una (acknowledged_by p segment)) p.una
    (λ t. holds_if (λ u. u ≤ p.sent) (nat_lt p.una (acknowledged_by p segment)) (acknowledged_by p segment) p.una (λ s. omega arith) (λ s. h)) (λ t. h)
una_within (Logged kept) p h = h
una_within Ticks p h = h
una_within Begins p h = h

-- where the timer must run and nothing is unacknowledged, something waits to be sent
waits : {State : Type 0} (service : Machine State) (p : Point) → must_run service p ≡ true → p.syn_acked ≡ true → nat_lt p.una p.sent ≡ false → p.sent < target service p
unfolding must_run
waits service p m acked none =
    let low : p.sent ≤ p.una = ltb-false _ _ none in
    let less : nat_lt p.una (max p.sent (target service p)) ≡ true = subst (λ b. (not b || nat_lt p.una (max p.sent (target service p))) ≡ true) acked m in
    let most : p.una < max p.sent (target service p) = ltb-true _ _ less in
    omega (arith, low, most)

-- a probe is sent with the edge of before
same_edge : (p q : Point) → q.una ≡ acknowledged_after Ticks p → q.edge ≡ edge_after Ticks p → q.congestion ≡ congestion_after Ticks p → nat_lt p.una p.sent ≡ false → send_edge q ≡ send_edge p
unfolding acknowledged_after edge_after congestion_after
same_edge p q una edge congestion none =
    let still : is_lost p ≡ false = by_cases (is_lost p)
    (λ t. absurd (true≢false (sym (and_parts (expires Ticks p) (nat_lt p.una p.sent) (and_parts (expires Ticks p && nat_lt p.una p.sent) (nat_lt p.una p.edge) t).0).1 ∙ none))) (λ t. t) in
    let window : q.congestion ≡ p.congestion = congestion ∙ if_false (is_lost p) (with_expiry p.mss (flight p) (is_first_expiry p) p.congestion) p.congestion still in
    let size : q.congestion.cwnd ≡ p.congestion.cwnd = ap (λ c. c.cwnd) window in
    omega (arith, una, edge, size)

-- the turn of a probe
probed : {State : Type 0} (service : Machine State) (server : Addr) (boot : ℕ) (news : News) (p q : Point) (sent : List Packet) → p.reset ≡ false → Sends service p → LiveTurn service server boot news p q sent
    → target service p ≤ target service q → probes news p ≡ true → (p.sent + 1 ≤ target service p) × (sent_at_once service p q ≡ p.sent)
unfolding sent_at_once
probed service server boot (Comes segment) p q sent live s t more e = absurd (true≢false (sym e))
probed service server boot (Logged kept) p q sent live s t more e = absurd (true≢false (sym e))
probed service server boot Begins p q sent live s t more e = absurd (true≢false (sym e))
probed service server boot Ticks p q sent live s t more e =
    let two = and_parts (expires Ticks p && p.syn_acked) (not (nat_lt p.una p.sent)) e in
    let one = and_parts (expires Ticks p) p.syn_acked two.0 in
    let none : nat_lt p.una p.sent ≡ false = not_true (nat_lt p.una p.sent) two.1 in
    let rest : p.rest ≡ 1 = eqb-true _ _ one.0 in
    let runs : must_run service p ≡ true = ⊎_elim (λ z. absurd (omega (arith, z, rest))) (λ m. m) s.runs in
    let less : p.sent < target service p = waits service p runs one.1 none in
    let edge : send_edge q ≡ send_edge p = same_edge p q t.una t.edge t.congestion none in
    let all : min (target service p) (send_edge p) ≤ p.sent = s.all live in
    (omega (arith, less), omega (arith, less, edge, all))

sent_within : {State : Type 0} (service : Machine State) (server : Addr) (boot : ℕ) (news : News) (p q : Point) (sent : List Packet) → p.reset ≡ false → Sends service p → LiveTurn service server boot news p q sent
    → target service p ≤ target service q → q.sent ≤ target service q
unfolding sent_after sent_at_once
sent_within service server boot news p q sent live s t more =
    by_cases (probes news p)
    (λ e. let x = probed service server boot news p q sent live s t more e in
    let once : max p.sent (min (target service q) (send_edge q)) ≡ p.sent = x.1 in
    let one : one_if (probes news p) ≡ 1 = ap one_if e in
    omega (arith, x.0, once, one, more, t.sent_units))
    (λ e. let one : one_if (probes news p) ≡ 0 = ap one_if e in
    omega (arith, one, more, s.within, t.sent_units))

runs_by : {State : Type 0} (service : Machine State) (news : News) (p q : Point) → q.rest ≡ rest_after service news p q → (q.rest ≡ 0) ⊎ (must_run service q ≡ true)
unfolding rest_after
runs_by service news p q e = by_cases (must_run service q) (λ t. inr t) (λ t. inl (e ∙ if_false (must_run service q) _ 0 t))

pub live_counts : {State : Type 0} (service : Machine State) (server : Addr) (boot : ℕ) (news : News) (p q : Point) (sent : List Packet) → CountsOwn p → LiveTurn service server boot news p q sent
    → target service p ≤ target service q
live_counts service server boot news p q sent c t =
    target_grows service p q c (subst (IsPrefix p.taken) (sym t.taken) (taken_grows news p)) (t.reads.news, sym t.reads.lengths)
    (subst (λ n. p.reads_answered ≤ n) (sym t.reads_answered) (answered_more news p))

pub live_sends : {State : Type 0} (service : Machine State) (server : Addr) (boot : ℕ) (news : News) (p q : Point) (sent : List Packet) → CountsOwn p → p.reset ≡ false → Sends service p
    → LiveTurn service server boot news p q sent → Sends service q
unfolding sent_after sent_at_once
live_sends service server boot news p q sent c live s t =
    let more : target service p ≤ target service q = live_counts service server boot news p q sent c t in
    let una : acknowledged_after news p ≤ p.sent = una_within news p s.order in
    record {
      order = omega (arith, una, t.una, t.sent_units);
      within = sent_within service server boot news p q sent live s t more;
      all = λ r. all_is_sent service server boot news p q sent t;
      runs = runs_by service news p q t.rest;
    }

-- more to be sent only makes the timer's run more needed
runs_more : {State : Type 0} (service : Machine State) (p q : Point) → q.syn_acked ≡ p.syn_acked → q.una ≡ p.una → q.sent ≡ p.sent → target service p ≤ target service q
    → must_run service p ≡ true → must_run service q ≡ true
unfolding must_run
runs_more service p q acked una sent more m =
    by_cases (must_run service q) (λ t. t) (λ t. absurd (never p.syn_acked q.syn_acked acked m t))
  where
    never : (a b : Bool) → b ≡ a → (not a || nat_lt p.una (max p.sent (target service p))) ≡ true → (not b || nat_lt q.una (max q.sent (target service q))) ≡ false → ⊥
    never true true e x y = let low : p.una < max p.sent (target service p) = ltb-true _ _ x in let high : max q.sent (target service q) ≤ q.una = ltb-false _ _ y in omega (arith, low, high, una, sent, more)
    never false false e x y = true≢false y
    never true false e x y = true≢false y
    never false true e x y = true≢false e

pub reset_sends : {State : Type 0} (service : Machine State) (boot : ℕ) (news : News) (p q : Point) (sent : List Packet) → CountsOwn p → Sends service p → ResetTurn boot news p q sent → Sends service q
reset_sends service boot news p q sent c s t =
    let more : target service p ≤ target service q =
    target_grows service p q c ([], append-nil p.taken ∙ sym (ap (λ x. x.taken) t.point)) ([], append-nil p.lengths ∙ sym (ap (λ x. x.lengths) t.point))
    (subst (λ n. p.reads_answered ≤ n) (sym (ap (λ x. x.reads_answered) t.point)) (answered_more news p)) in
    let una : q.una ≡ p.una = ap (λ x. x.una) t.point in
    let same : q.sent ≡ p.sent = ap (λ x. x.sent) t.point in
    record {
      order = omega (arith, s.order, una, same);
      within = omega (arith, s.within, same, more);
      all = λ r. absurd (true≢false (sym (ap (λ x. x.reset) t.point) ∙ r));
      runs = ⊎_elim (λ z. inl (ap (λ x. x.rest) t.point ∙ z)) (λ m. inr (runs_more service p q (ap (λ x. x.syn_acked) t.point) una same more m)) s.runs;
    }

-- the point of an entry, and that of a new connection

pub entry_sends : {State : Type 0} (service : Machine State) (profile : Profile) (e : Entry) → Sends service (point_of service profile e)
entry_sends service profile e =
    let p : Point = point_of service profile e in
    let run : released service p ≡ length (reference service e.bytes e.lengths).output =
    ap (λ l. length (reference service e.bytes l).output) (take_all (length e.lengths) e.lengths (le_refl (length e.lengths))) in
    record { order = le_refl p.sent; within = omega (arith, run); all = λ r. omega arith; runs = inl refl }

pub entry_counts : {State : Type 0} (service : Machine State) (profile : Profile) (e : Entry) → sum e.lengths ≤ length e.bytes → CountsOwn (point_of service profile e)
entry_counts service profile e enough = record { enough = enough; counts = le_refl (length e.lengths) }

pub opened_sends : {State : Type 0} (service : Machine State) (profile : Profile) (timestamping : Timestamping) (n : Numbers) → Sends service (point_opened profile timestamping n)
opened_sends service profile timestamping n = record { order = le_refl 0; within = omega arith; all = λ r. omega arith; runs = inl refl }

pub opened_counts : (profile : Profile) (timestamping : Timestamping) (n : Numbers) → CountsOwn (point_opened profile timestamping n)
opened_counts profile timestamping n = record { enough = le_refl 0; counts = le_refl 0 }

-- a connection that is over
pub record IsClosedAt {State : Type 0} (service : Machine State) (p : Point) : Type 0 where
  pub closed : (answered_run service p).closed ≡ true
  pub past : released service p < p.una

pub over_closed : {State : Type 0} (service : Machine State) (p : Point) → Sends service p → is_over service p ≡ true → IsClosedAt service p
over_closed service p s over =
    let past : released service p < p.una = ltb-true _ _ (and_parts p.fin (nat_lt (released service p) p.una) over).1 in
    record {
      closed = by_cases (answered_run service p).closed (λ t. t) (λ t. let none : one_if (answered_run service p).closed ≡ 0 = ap one_if t in absurd (omega (arith, s.order, s.within, past, none)));
      past = past;
    }
