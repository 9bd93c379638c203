-- A live connection has a lawful turn at each news: the laws never contradict one another.
use Rattle.std.proofs.Common.{◌≡◌, ℕ, zero, suc, ◌+◌, ◌-◌, ◌≤◌, Bool, true, false, ◌&&◌, nat_lt, nat_le, ◌^◌, min, refl, Option, Some, None, List, [], ◌∷◌, ◌++◌, length, length-append, arith, if◌then◌else◌}
use Rattle.ft_io.specs.declared.Addr.{Addr}
use Rattle.server_trait.specs.Service.{Machine}
use Rattle.ft_model.specs.News.{News}
use Rattle.ft_model.specs.News.News.{Logged}
use Rattle.ft_model.specs.Point.{Point, made, released}
use Rattle.ft_model.specs.Answered.{reads_answered_after}
use Rattle.ft_model.specs.Reads.{Makes, next_read, next_length, may_read, with_read}
use Rattle.ft_model.specs.Timer.{timing_noted, interval_after, rest_after, must_run}
use Rattle.ft_model.specs.Sending.{sent_at_once, sent_after, timing_after}
use Rattle.ft_model.specs.ResetAndEnd.{end_ticks_after}
use Rattle.ft_model.specs.Connection.{LiveTurn, sent_by}
use Rattle.ft_model.proofs.Settled.{noted, settled, makes_alike}

abbrev with_next : Option ℕ → (ℕ → List ℕ) → List ℕ
with_next None more = []
with_next (Some n) more = n ∷ more n

-- at most k reads, one after another
abbrev pub reads_from : {State : Type 0} → Machine State → ℕ → Point → List ℕ
reads_from service zero p = []
reads_from service (suc k) p = with_next (next_read service p) (λ n. reads_from service k (with_read n p))

no_choice : (a b : Bool) (o : Option ℕ) → (if a && b && false then o else None) ≡ None
no_choice true true o = refl
no_choice true false o = refl
no_choice false true o = refl
no_choice false false o = refl

-- with 32 reads unanswered none is made
full : {State : Type 0} (service : Machine State) (p : Point) → 32 ≤ length p.lengths - p.reads_answered → next_read service p ≡ None
unfolding may_read
full service p many =
    let test : nat_lt (length p.lengths - p.reads_answered) 32 ≡ false = grind (arith, many) in
    rw (test) (no_choice (nat_le (made service p) (min (released service p) (p.una + 65535))) (nat_le (made service p) (2 ^ 24 - 2 ^ 20)) (next_length p))

by_next : {State : Type 0} (service : Machine State) (p : Point) (more : ℕ → List ℕ) → ((n : ℕ) → Makes service (with_read n p) (more n))
    → (o : Option ℕ) → next_read service p ≡ o → Makes service p (with_next o more)
by_next service p more makes None e = e
by_next service p more makes (Some n) e = (e, makes n)

reads_make : {State : Type 0} (service : Machine State) (k : ℕ) (p : Point) → p.reads_answered ≤ length p.lengths
    → 32 ≤ (length p.lengths - p.reads_answered) + k → Makes service p (reads_from service k p)
reads_make service zero p known many = full service p (omega (arith, many))
reads_make service (suc k) p known many =
    by_next service p (λ n. reads_from service k (with_read n p))
    (λ n. let longer : length (p.lengths ++ n ∷ []) ≡ length p.lengths + 1 = length-append p.lengths (n ∷ []) in
    reads_make service k (with_read n p) (omega (arith, known, longer)) (omega (arith, known, many, longer)))
    (next_read service p) refl

-- the counts of logged reads stay within the reads made
pub counts_within : (news : News) (p : Point) → p.reads_answered ≤ length p.lengths → reads_answered_after news p ≤ length p.lengths
unfolding reads_answered_after
counts_within (Logged kept) p known = omega (arith, known)
counts_within _ p known = known

-- the point after a turn with these news
unfoldable pub turned : {State : Type 0} → Machine State → News → Point → Point
turned service news p = settled service news p (p.lengths ++ reads_from service 32 (noted news p p.lengths 0 p.timing 0 0 0))

pub live_turn : {State : Type 0} (service : Machine State) (server : Addr) (boot : ℕ) (news : News) (p : Point) → p.reads_answered ≤ length p.lengths
    → LiveTurn service server boot news p (turned service news p) (sent_by service server boot news p (turned service news p))
unfolding turned sent_after sent_at_once timing_noted timing_after interval_after rest_after must_run end_ticks_after
live_turn service server boot news p known =
    let start : Point = noted news p p.lengths 0 p.timing 0 0 0 in
    let ns : List ℕ = reads_from service 32 start in
    let after : Point = turned service news p in
    let makes : Makes service start ns = reads_make service 32 start (counts_within news p known) (omega arith) in
    record {
      same = record { key = refl; cisn = refl; sisn = refl; mss = refl; fetched = refl; fetched_output = refl; delays = refl; batches = refl };
      taken = refl;
      fin = refl;
      early = refl;
      answered = refl;
      reads_answered = refl;
      reads = record { news = ns; lengths = refl; makes = makes_alike service news p ns p.lengths 0 p.timing 0 0 0 after.sent after.timing after.interval after.rest after.end_ticks makes };
      syn_acked = refl;
      una = refl;
      edge = refl;
      wl1 = refl;
      wl2 = refl;
      congestion = refl;
      sent_units = refl;
      timing = refl;
      timestamping = refl;
      interval = refl;
      rest = refl;
      end_ticks = refl;
      reset = refl;
      packets = refl;
    }
