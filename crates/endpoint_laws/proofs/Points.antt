-- Each turn of an endpoint has a point after it, and a service that reads and writes as its user.
use Rattle.std.proofs.Common.{◌≡◌, ℕ, ◌≤◌, ◌+◌, ◌-◌, Bool, true, false, List, [], ◌∷◌, ◌++◌, length, take, drop, max, refl, ap, arith, length-append, inl, ◌∙◌}
use Rattle.std.specs.Prelude.{if◌then◌else◌}
use Rattle.std.proofs.Math.ListN.{replicate}
use Rattle.std.proofs.Math.Seq.{drop-append_seam}
use Rattle.std.proofs.lemmas.List.{length-replicate, drop_all, take_all}
use Rattle.server_trait.specs.Service.{Machine, reference}
use Rattle.seq_arith.specs.Offset.{one_if}
use Rattle.ft_model.specs.Point.{Point, answered_run}
use Rattle.ft_model.specs.News.{News}
use Rattle.ft_model.specs.Sending.{sent_at_once, sent_after, timing_after}
use Rattle.ft_model.specs.Timer.{must_run, timing_noted, interval_after, rest_after}
use Rattle.tcp_endpoint.specs.States.{has_begun}
use Rattle.tcp_endpoint.specs.SendHalf.{Sending, bytes_end}
use Rattle.tcp_endpoint.specs.Tcb.{Tcb}
use Rattle.endpoint_laws.specs.Turn.{Call, MayUse, IsUsualNews, IsBetweenTurns, arrived, used, before_flush}
use Rattle.endpoint_laws.specs.Refinement.{StandsAt, MeetsLaws, IsUsedAt}
use Rattle.endpoint_laws.proofs.Calls.{FinIsLast, IsUsed, used_is, last_used}
use Rattle.endpoint_laws.proofs.Arrivals.{moved, Arrived, arrives}

-- a service that writes these bytes whenever it reads, and then closes or doesn't
abbrev writing : (bytes : List ℕ) (closed : Bool) → Machine ℕ
writing bytes closed = record { fresh = 0; greeting = []; after = λ state chunk. record { next = 0; output = bytes; closed = closed } }

-- the point after a turn in which the service has read so many bytes at once: all but what is sent and the timer, ..
abbrev after_read : News → Point → ℕ → Point
after_read news before n =
    let p : Point = moved news before
    in record p { answered = length p.taken + one_if p.fin; lengths = n ∷ []; reads_answered = 1 }

-- .. what is sent, the estimate of the round-trip time, and the timer's interval ..
abbrev after_sending : {State : Type 0} → Machine State → News → Point → ℕ → Point
after_sending service news before n =
    let p : Point = after_read news before n
    in let q : Point = record p { sent = sent_after service news before p; timing = timing_after service news before p }
    in record q { interval = interval_after news before q }

-- .. and the ticks that are left
abbrev point_after : {State : Type 0} → Machine State → News → Point → ℕ → Point
point_after service news before n =
    let p : Point = after_sending service news before n in record p { rest = rest_after service news before p }

-- it is the point that the laws lead to, whatever the service
after_meets_laws : {State : Type 0} (service : Machine State) (news : News) (before : Point) (n : ℕ) → MeetsLaws service news before (point_after service news before n)
unfolding sent_after sent_at_once timing_after timing_noted interval_after rest_after must_run
after_meets_laws service news before n = record {
  same = record { key = refl; cisn = refl; sisn = refl; mss = refl; fetched = refl; fetched_output = refl; delays = refl; batches = refl };
  taken = refl;
  fin = refl;
  early = refl;
  syn_acked = refl;
  una = refl;
  edge = refl;
  wl1 = refl;
  wl2 = refl;
  congestion = refl;
  sent = refl;
  timing = refl;
  timestamping = refl;
  interval = refl;
  rest = refl;
}

-- the run of that service has written its bytes
after_has_written : (bytes : List ℕ) (closed : Bool) (news : News) (before : Point) (n : ℕ)
    → answered_run (writing bytes closed) (point_after (writing bytes closed) news before n) ≡ record { state = 0; output = bytes; closed = closed }
unfolding reference
after_has_written bytes closed news before n = refl

-- the bytes that a user has written: what is held, after as many others as were acknowledged
abbrev written : Sending → List ℕ
written s = replicate (bytes_end s - length s.held) 0 ++ s.held

-- where all bytes end: what is held ends there, and begins where all before is acknowledged
end_is : (f c : Bool) (una len sent : ℕ) → (f ≡ true → (c ≡ true) × (1 ≤ sent) × (len ≡ sent - 1 - una))
    → (len ≤ (if f then sent - 1 else una + len)) × (len ≡ (if f then sent - 1 else una + len) - una)
end_is true c una len sent last = let h = last refl in (omega (arith, h.2), omega (arith, h.2))
end_is false c una len sent last = (omega arith, omega arith)

written_length : (s : Sending) → FinIsLast s → length (written s) ≡ bytes_end s
written_length s last =
    let n : ℕ = bytes_end s in
    let h = end_is s.fin_sent s.closed s.una (length s.held) s.sent last in
    let within : length s.held ≤ n = h.0 in
    omega (arith, within, length-append {A = ℕ} (replicate (n - length s.held) 0) s.held, length-replicate {A = ℕ} (n - length s.held) 0)

-- what is acknowledged of them is let go
dropped : (una n : ℕ) (held : List ℕ) → length held ≡ n - una → length held ≤ n → drop una (replicate (n - length held) 0 ++ held) ≡ held
dropped una n [] is within =
    drop_all una (replicate (n - 0) 0 ++ []) (omega (arith, is, length-append {A = ℕ} (replicate (n - 0) 0) [], length-replicate {A = ℕ} (n - 0) 0))
dropped una n (x ∷ held) is within =
    let k : ℕ = n - length (x ∷ held) in
    let front : una ≡ length (replicate k 0) = omega (arith, is, within, length-replicate {A = ℕ} k 0) in
    ap (λ m. drop m (replicate k 0 ++ x ∷ held)) front ∙ drop-append_seam (replicate k 0) (x ∷ held)

written_held : (s : Sending) → FinIsLast s → drop s.una (written s) ≡ s.held
written_held s last =
    let h = end_is s.fin_sent s.closed s.una (length s.held) s.sent last in
    dropped s.una (bytes_end s) s.held h.1 h.0

-- the endpoint is used by that service
read_so_far : (read fetched : ℕ) → max fetched (0 + (read + fetched)) ≡ read + fetched
read_so_far read fetched = omega arith

after_is_used : (news : News) (before : Point) (u : Tcb) → FinIsLast u.sending
    → IsUsedAt (writing (written u.sending) u.sending.closed)
    (point_after (writing (written u.sending) u.sending.closed) news before (u.receiving.read + before.fetched)) u
after_is_used news before u last =
    let bytes : List ℕ = written u.sending in
    let run = after_has_written bytes u.sending.closed news before (u.receiving.read + before.fetched) in
    record {
      read = read_so_far u.receiving.read before.fetched;
      output = ap (λ r. take (length u.sending.held) (drop u.sending.una r.output)) run ∙ ap (take (length u.sending.held)) (written_held u.sending last)
          ∙ take_all (length u.sending.held) u.sending.held (omega arith);
      written = inl (record { written = ap (λ r. length r.output) run ∙ written_length u.sending last; closed = ap (λ r. r.closed) run });
      answered = omega arith;
    }

-- a turn's user is a service, and there is a point after it
pub points_law : (news : News) (calls : List Call) (before : Point) (e : Tcb)
    → has_begun e.name ≡ true → IsBetweenTurns e → StandsAt before e → IsUsualNews news e → MayUse calls (arrived news e)
    → (service : Machine ℕ) × (after : Point) × MeetsLaws service news before after × IsUsedAt service after (before_flush news calls e)
points_law news calls before e begun between stands usual may =
    let m : Tcb = arrived news e in
    let u : Tcb = used calls m in
    let came : Arrived news before e m = arrives news before e begun between stands usual in
    let a : IsUsed m u = used_is calls m may in
    let last : FinIsLast u.sending = last_used m.sending u.sending a.sends came.fin_last in
    let service : Machine ℕ = writing (written u.sending) u.sending.closed in
    let n : ℕ = u.receiving.read + before.fetched in
    (service, point_after service news before n, after_meets_laws service news before n, after_is_used news before u last)
