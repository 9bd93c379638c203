-- A turn's parts, put together.
use Rattle.std.proofs.Common.{◌≡◌, ◌∙◌, ℕ, ◌+◌, ◌||◌, Bool, true, false, refl, sym, ap, ap₂, subst, not, nat_lt, max, min, if◌then◌else◌, List, [], ◌∷◌, ◌++◌, map}
use Rattle.std.specs.Bool.{MatchBool}
use Rattle.std.specs.Int.{from_bool}
use Rattle.ft_io.specs.declared.Addr.{Addr}
use Rattle.server_trait.specs.Service.{Machine}
use Rattle.tcp_rules.specs.Timing.{Timing}
use Rattle.ft_model.specs.Connection.{LiveTurn, ResetTurn, sent_by, reported_by}
use Rattle.ft_model.specs.Copy.{copies}
use Rattle.ft_model.specs.Network.Packet.{To_client}
use Rattle.ft_model.specs.News.{News}
use Rattle.ft_model.specs.Offset.{one_if}
use Rattle.ft_model.specs.Point.{Point, target}
use Rattle.ft_model.specs.Reads.{Makes, next_length, may_read, reads_reported}
use Rattle.ft_model.specs.ResetAndEnd.{reset_after, is_end_tick, end_ticks_after, dones}
use Rattle.ft_model.specs.Segments.{segments_of}
use Rattle.ft_model.specs.Sending.{sent_at_once, sent_after, timing_after}
use Rattle.ft_model.specs.Timer.{is_tick, probes as probes_with, interval_after, rest_after, must_run}
use Rattle.ft_model.specs.Wire.{Wire}
use Rattle.plain_packets.specs.Sent.{Appends}
use Rattle.plain_packets.proofs.Sent.{appends_both}
use Rattle.plain_point.specs.declared.ending.Timer.{Timer}
use Rattle.plain_point.specs.Turn.{noted, timer_of, timing_since, interval_since, rest_since}
use Rattle.plain_connection.specs.declared.before.Before.{Before}
use Rattle.plain_connection.specs.Before.{IsBefore}
use Rattle.plain_connection.specs.Turn.{TakesTurn, reset_noted, timed_since, settled_since}
use Rattle.plain_connection.proofs.Reporting.{reported_both}

-- the point after a turn: the news noted, these reads made, and the rest settled
abbrev pub point_after : {State : Type 0} → Machine State → News → Point → List ℕ → Point
point_after service news p reads = settled_since service news p (record (noted news p) { lengths = p.lengths ++ reads })

-- which reads are made doesn't hang on what is settled, nor on whether the connection is reset
makes_as : {State : Type 0} (service : Machine State) (p : Point) (reads lengths : List ℕ) (timing : Timing) (sent interval rest end_ticks : ℕ)
    → Makes service (record p { lengths = lengths }) reads
    → Makes service (record p { lengths = lengths; timing = timing; sent = sent; interval = interval; rest = rest; end_ticks = end_ticks }) reads
unfolding next_length may_read
makes_as service p [] lengths timing sent interval rest end_ticks m = m
makes_as service p (n ∷ reads) lengths timing sent interval rest end_ticks m = (m.0, makes_as service p reads (lengths ++ n ∷ []) timing sent interval rest end_ticks m.1)

pub live_turn : {State : Type 0} (service : Machine State) (server : Addr) (boot : ℕ) (news : News) (p : Point) (reads : List ℕ) → p.reset ≡ false → Makes service (noted news p) reads
    → LiveTurn service server boot news p (point_after service news p reads) (sent_by service server boot news p (point_after service news p reads))
unfolding sent_after sent_at_once timing_after interval_after rest_after must_run end_ticks_after
live_turn service server boot news p reads live makes =
    let after : Point = point_after service news p reads in
    record {
      same = record { key = refl; cisn = refl; sisn = refl; mss = refl; fetched = refl; fetched_output = refl; delays = refl; batches = refl };
      taken = refl;
      fin = refl;
      early = refl;
      answered = refl;
      reads_answered = refl;
      reads = record { news = reads; lengths = refl; makes = makes_as service (noted news p) reads p.lengths after.timing after.sent after.interval after.rest after.end_ticks makes };
      syn_acked = refl;
      una = refl;
      edge = refl;
      wl1 = refl;
      wl2 = refl;
      congestion = refl;
      sent_units = refl;
      timing = refl;
      timestamping = refl;
      interval = refl;
      rest = refl;
      end_ticks = refl;
      reset = live;
      packets = refl;
    }

-- the news are noted, the reads are made, and the rest is settled
pub advanced : {State : Type 0} (service : Machine State) (server : Addr) (boot : ℕ) (news : News) (p q after : Point) (reads : List ℕ) → p.reset ≡ false
    → q ≡ record (noted news p) { lengths = p.lengths ++ reads } → Makes service (noted news p) reads → after ≡ settled_since service news p q
    → LiveTurn service server boot news p after (sent_by service server boot news p after)
advanced service server boot news p q after reads live read makes settled =
    subst (λ x. LiveTurn service server boot news p x (sent_by service server boot news p x)) (sym (settled ∙ ap (settled_since service news p) read))
    (live_turn service server boot news p reads live makes)

-- what is settled, step by step
abbrev with_timed : (sent at_once : ℕ) → Point → Point
with_timed sent at_once p = record p { timing = timing_since sent at_once p }

abbrev with_sent : ℕ → Point → Point
with_sent sent p = record p { sent = sent }

abbrev with_timer : Bool → Timer → Bool → Point → Point
with_timer ticks timer must p = record p { interval = interval_since ticks timer p; rest = rest_since must ticks timer p }

abbrev with_end : Bool → Point → Point
with_end ends p = record p { end_ticks = (if ends then min 4 (p.end_ticks + 1) else p.end_ticks) }

abbrev must_run_to : Point → ℕ → Bool
must_run_to p target = not p.syn_acked || nat_lt p.una (max p.sent target)

pub settled_is : {State : Type 0} (service : Machine State) (news : News) (p start q p0 p1 p2 p3 : Point) (before : Before) (sent at_once to : ℕ) (must ticks ends : Bool)
    → IsBefore service news p before → start ≡ q → sent ≡ sent_after service news p q → at_once ≡ sent_at_once service p q → to ≡ target service q
    → ends ≡ is_end_tick service news q → p0 ≡ with_timed before.sent at_once start → p1 ≡ with_sent sent p0 → must ≡ must_run_to p1 to
    → ticks ≡ is_tick news → p2 ≡ with_timer ticks before.timer must p1 → p3 ≡ with_end ends p2 → p3 ≡ settled_since service news p q
unfolding interval_after rest_after must_run end_ticks_after
settled_is service news p start q p0 p1 p2 p3 before sent at_once to must ticks ends b e0 es ea et ee e00 e1 em ek e2 e3 =
    let whole : ℕ = sent_after service news p q in
    let timed : Point = timed_since service p q in
    let q0 : p0 ≡ timed = e00 ∙ (ap₂ (λ n a. with_timed n a start) b.sent ea ∙ ap (with_timed p.sent (sent_at_once service p q)) e0) in
    let q1 : p1 ≡ with_sent whole timed = e1 ∙ (ap (λ n. with_sent n p0) es ∙ ap (with_sent whole) q0) in
    let m : must ≡ must_run_to (with_sent whole timed) (target service q) = em ∙ ap₂ must_run_to q1 et in
    let q2 : p2 ≡ with_timer (is_tick news) (timer_of p) (must_run_to (with_sent whole timed) (target service q)) (with_sent whole timed) =
    e2 ∙ (ap₂ (λ k timer. with_timer k timer must p1) ek b.timer ∙ ap₂ (with_timer (is_tick news) (timer_of p)) m q1) in
    e3 ∙ ap₂ with_end ee q2

one_is : (b : Bool) → from_bool b ≡ one_if b
one_is true = refl
one_is false = refl

pub sent_is : {State : Type 0} (service : Machine State) (news : News) (p q : Point) (at_once sent : ℕ) (probes : Bool) → at_once ≡ sent_at_once service p q → probes ≡ probes_with news p
    → sent ≡ at_once + from_bool probes → sent ≡ sent_after service news p q
unfolding sent_after
sent_is service news p q at_once sent probes e f g = g ∙ ap₂ (λ a b. a + b) e (one_is probes ∙ ap one_if f)

-- what is sent, in its order
pub sent_in_order : {State : Type 0} (service : Machine State) (server : Addr) (boot : ℕ) (news : News) (p q : Point) (w0 w1 w2 w3 w4 : List Wire)
    → Appends w0 w1 (map To_client (segments_of service server news p q)) → Appends w1 w2 (map (reported_by boot) (copies news p q))
    → Appends w2 w3 (map (reported_by boot) (reads_reported news p q)) → Appends w3 w4 (map (reported_by boot) (dones news p q))
    → Appends w0 w4 (sent_by service server boot news p q)
sent_in_order service server boot news p q w0 w1 w2 w3 w4 segments copied read done =
    appends_both segments (reported_both boot w1 w2 w4 (copies news p q) (reads_reported news p q ++ dones news p q) copied (reported_both boot w2 w3 w4 (reads_reported news p q) (dones news p q) read done))

pub live_taken : {State : Type 0} (service : Machine State) (server : Addr) (boot : ℕ) (news : News) (p q : Point) (old new : List Wire) → reset_after news p ≡ false
    → LiveTurn service server boot news p q (sent_by service server boot news p q) → Appends old new (sent_by service server boot news p q)
    → TakesTurn service server boot news p q old new
live_taken service server boot news p q old new live turn packets = record {
  sent = sent_by service server boot news p q;
  lawful = subst (λ b. MatchBool b (ResetTurn boot news p q (sent_by service server boot news p q)) (LiveTurn service server boot news p q (sent_by service server boot news p q))) (sym live) turn;
  packets = packets;
}

pub reset_taken : {State : Type 0} (service : Machine State) (server : Addr) (boot : ℕ) (news : News) (p q : Point) (old new : List Wire) → reset_after news p ≡ true
    → q ≡ reset_noted news p → Appends old new (map (reported_by boot) (dones news p q)) → TakesTurn service server boot news p q old new
reset_taken service server boot news p q old new resets noted packets = record {
  sent = map (reported_by boot) (dones news p q);
  lawful = subst (λ b. MatchBool b (ResetTurn boot news p q (map (reported_by boot) (dones news p q))) (LiveTurn service server boot news p q (map (reported_by boot) (dones news p q)))) (sym resets)
      (record { point = noted; packets = refl });
  packets = packets;
}
