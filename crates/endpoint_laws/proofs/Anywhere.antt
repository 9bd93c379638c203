-- Each endpoint between two turns stands at some point, so what the laws say of one that stands holds of all.
use Rattle.std.proofs.Common.{◌≡◌, ℕ, ◌<◌, ◌≤◌, ◌+◌, ◌-◌, ◌%◌, ◌^◌, true, List, [], ◌∷◌, ◌++◌, length, length-append, drop, max, sum, refl, ap, arith, ◌∙◌}
use Rattle.std.specs.Prelude.{pos, ◌+ℤ◌}
use Rattle.std.proofs.Math.ListN.{replicate}
use Rattle.std.proofs.Math.Seq.{drop-append_seam}
use Rattle.std.proofs.lemmas.List.{length-replicate}
use Rattle.tcp_rules.specs.Coming.{early_from}
use Rattle.seq_arith.specs.Number.{offset_of}
use Rattle.tcp_rules.specs.Profile.{plain}
use Rattle.ft_model.specs.Point.{Point, blank_point}
use Rattle.ft_model.specs.News.{News}
use Rattle.tcp_endpoint.specs.States.{has_begun}
use Rattle.tcp_endpoint.specs.ReceiveHalf.{Receiving}
use Rattle.tcp_endpoint.specs.Tcb.{Tcb}
use Rattle.endpoint_laws.specs.Turn.{Call, MayUse, IsUsualNews, IsBetweenTurns, arrived, before_flush, turned}
use Rattle.endpoint_laws.specs.Refinement.{StandsAt}
use Rattle.endpoint_laws.proofs.Points.{points_law}
use Rattle.endpoint_laws.proofs.Turns.{leads_law}

-- what its limit leaves of 2^24
abbrev ahead : Tcb → ℕ
ahead e = 2 ^ 24 - e.receiving.limit

-- a point for it: the bytes that are read may have been any
point_of : Tcb → Point
point_of e = record (blank_point plain (record { ip = e.remote.ip; port = e.remote.port }) ((e.receiving.irs + 2 ^ 32 - ahead e) % 2 ^ 32) e.sending.iss e.sending.mss) {
  fetched = ahead e;
  taken = replicate (e.receiving.read + ahead e) 0 ++ e.receiving.unread;
  fin = e.receiving.fin;
  early = early_from (ahead e) e.receiving.early;
  lengths = (e.receiving.read + ahead e) ∷ [];
  una = e.sending.una;
  sent = e.sending.sent;
  edge = e.sending.edge;
  wl1 = offset_of e.receiving.irs e.sending.wl1 +ℤ pos (ahead e);
  wl2 = e.sending.wl2;
  congestion = e.sending.congestion;
  timing = e.sending.timing;
  syn_acked = e.sending.syn_acked;
  interval = e.sending.interval;
  rest = e.sending.rest;
}

number_back : (irs k : ℕ) → irs < 2 ^ 32 → k ≤ 2 ^ 24 → irs ≡ ((irs + 2 ^ 32 - k) % 2 ^ 32 + k) % 2 ^ 32
number_back irs k fits few = omega (arith, fits, few)

one_read : (n k : ℕ) → max k (sum ((n + k) ∷ [])) ≡ n + k
one_read n k = omega arith

all_taken : (n k : ℕ) (unread : List ℕ) → length (replicate (n + k) 0 ++ unread) ≡ n + length unread + k
all_taken n k unread = omega (arith, length-append {A = ℕ} (replicate (n + k) 0) unread, length-replicate {A = ℕ} (n + k) 0)

rest_unread : (n : ℕ) (unread : List ℕ) → drop n (replicate n 0 ++ unread) ≡ unread
rest_unread n unread =
    let front : n ≡ length (replicate n 0) = omega (arith, length-replicate {A = ℕ} n 0)
    in ap (λ m. drop m (replicate n 0 ++ unread)) front ∙ drop-append_seam (replicate n 0) unread

stands_somewhere : (e : Tcb) → e.receiving.irs < 2 ^ 32 → IsBetweenTurns e → StandsAt (point_of e) e
unfolding point_of
stands_somewhere e fits between =
    let r : Receiving = e.receiving in
    record {
      ip = refl;
      port = refl;
      receives = record {
        cisn = number_back r.irs (ahead e) fits (omega arith);
        limit = omega (arith, between.bounds.limit);
        read = one_read r.read (ahead e);
        long = all_taken r.read (ahead e) r.unread;
        unread = rest_unread (r.read + ahead e) r.unread;
        fin = refl;
        early = refl;
      };
      sends = record { sisn = refl; mss = refl; syn_acked = refl; una = refl; edge = refl; wl1 = λ h. refl; wl2 = refl; congestion = refl };
      sent = refl;
      fetched_output = refl;
      interval = refl;
      rest = refl;
      timing = refl;
      delays = refl;
      timestamping = refl;
    }

pub kept_law : (news : News) (calls : List Call) (e : Tcb) → e.receiving.irs < 2 ^ 32 → has_begun e.name ≡ true → IsBetweenTurns e → IsUsualNews news e
    → MayUse calls (arrived news e) → has_begun (before_flush news calls e).name ≡ true → IsBetweenTurns (turned news calls e)
kept_law news calls e fits begun between usual may begun_after =
    let stands : StandsAt (point_of e) e = stands_somewhere e fits between in
    let p = points_law news calls (point_of e) e begun between stands usual may in
    (leads_law p.0 news calls (point_of e) p.1 e begun between stands usual may begun_after p.2 p.3).between
