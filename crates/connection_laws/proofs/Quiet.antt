-- Where all output and the FIN after it were sent before the turn, and nothing of it is sent again, nothing but a segment without data leaves.
use Rattle.std.proofs.Common.{◌≡◌, ℕ, ◌≤◌, ◌+◌, ◌-◌, Bool, true, false, not, [], ◌∷◌, ◌++◌, length, min, refl, ap, arith}
use Rattle.std.specs.Prelude.{◌==◌, ◌&&◌, ◌||◌, nat_abs, nat_lt, nat_le, if◌then◌else◌}
use Rattle.std.proofs.lemmas.Bool.{and_right}
use Rattle.tcp_rules.specs.Arrival.{una_after}
use Rattle.tcp_rules.specs.Congestion.{is_third}
use Rattle.ft_io.specs.declared.Addr.{Addr}
use Rattle.ft_io.proofs.Booleans.{and_false}
use Rattle.server_trait.specs.Service.{Machine}
use Rattle.ft_model.specs.Point.{Point, released}
use Rattle.ft_model.specs.News.{News}
use Rattle.ft_model.specs.News.News.{Comes, Logged, Ticks, Begins}
use Rattle.ft_model.specs.Offset.{ack_of, text_of, fin_of}
use Rattle.ft_model.specs.PendingAck.{is_ack_pending}
use Rattle.ft_model.specs.Sending.{acknowledges, acknowledged_by, window_by, acknowledged_after, is_duplicate, is_third_duplicate, is_partial_ack, sent_at_once, resends}
use Rattle.ft_model.specs.Timer.{expires}
use Rattle.ft_model.specs.Segments.{syn_ack, opens_with, full_segments, segments_of, resent, new_texts, new_fin, new_length, texts, bare_segment, or_bare, fin_if_closed, is_unacknowledged, first_unacknowledged, probe}
use Rattle.connection_laws.specs.ClosedTcp.{SendsAlone}

pub record IsQuiet {State : Type 0} (service : Machine State) (news : News) (p q : Point) : Type 0 where
  pub opens : opens_with news p ≡ false
  pub expires : expires news p ≡ false
  pub again : resends news p ≡ false
  pub past : released service q + 1 ≤ p.sent

-- where all that was sent is acknowledged after the turn, no duplicate comes in it
none_in_flight : (una sent n : ℕ) → una_after una n ≡ sent → (n == una && nat_lt una sent) ≡ false
none_in_flight una sent n h = grind (arith, h)

off_pair : (t f x y z w : Bool) → (x && y) ≡ false → ((true && t && f && x && y && z) && w) ≡ false
off_pair true true x y z w h = ap (λ v. (v && z) && w) h
off_pair true false x y z w h = refl
off_pair false f x y z w h = refl

none_third : (a t f z w : Bool) (una sent n : ℕ) → (if a then una_after una n else una) ≡ sent → ((a && t && f && n == una && nat_lt una sent && z) && w) ≡ false
none_third true t f z w una sent n h = off_pair t f (n == una) (nat_lt una sent) z w (none_in_flight una sent n h)
none_third false t f z w una sent n h = refl

pub no_third : (news : News) (p : Point) → acknowledged_after news p ≡ p.sent → is_third_duplicate news p ≡ false
unfolding acknowledged_after is_duplicate is_third_duplicate
no_third (Comes segment) p h =
    none_third (acknowledges p segment) (length (text_of segment) == 0) (not (fin_of segment))
    (acknowledged_by p segment + window_by p segment == p.edge) (is_third p.congestion)
    p.una p.sent (acknowledged_by p segment) h
no_third (Logged kept) p h = refl
no_third Ticks p h = refl
no_third Begins p h = refl

-- .. nor is one partial that acknowledges all that was sent
none_partial : (a recovers : Bool) (una sent n lost : ℕ) → (if a then una_after una n else una) ≡ sent → lost ≤ sent - una
    → ((a && nat_lt una n) && (recovers && nat_lt (n - una) lost)) ≡ false
none_partial true true una sent n lost h few = grind (arith, h, few)
none_partial true false una sent n lost h few = and_false (true && nat_lt una n)
none_partial false recovers una sent n lost h few = refl

no_partial : (news : News) (p : Point) → acknowledged_after news p ≡ p.sent → p.congestion.lost ≤ p.sent - p.una → is_partial_ack news p ≡ false
unfolding acknowledged_after is_partial_ack
no_partial (Comes segment) p h few = none_partial (acknowledges p segment) p.congestion.recovers p.una p.sent (acknowledged_by p segment) p.congestion.lost h few
no_partial (Logged kept) p h few = refl
no_partial Ticks p h few = refl
no_partial Begins p h few = refl

pub resends_none : (news : News) (p : Point) → acknowledged_after news p ≡ p.sent → p.congestion.lost ≤ p.sent - p.una → resends news p ≡ false
resends_none news p h few = λ i. no_third news p h i || no_partial news p h few i

-- where all is acknowledged before the turn nothing new is acknowledged
no_more : (una sent n : ℕ) → una ≡ sent → nat_lt una (min n sent) ≡ false
no_more una sent n h = grind (arith, h)

none_new : (a recovers : Bool) (una sent n lost : ℕ) → una ≡ sent → ((a && nat_lt una (min n sent)) && (recovers && nat_lt (min n sent - una) lost)) ≡ false
none_new true recovers una sent n lost h = ap (λ v. v && (recovers && nat_lt (min n sent - una) lost)) (no_more una sent n h)
none_new false recovers una sent n lost h = refl

still_partial : (news : News) (p : Point) → p.una ≡ p.sent → is_partial_ack news p ≡ false
unfolding is_partial_ack
still_partial (Comes segment) p h = none_new (acknowledges p segment) p.congestion.recovers p.una p.sent (nat_abs (ack_of p.sisn segment)) p.congestion.lost h
still_partial (Logged kept) p h = refl
still_partial Ticks p h = refl
still_partial Begins p h = refl

pub resends_still : (news : News) (p : Point) → acknowledged_after news p ≡ p.sent → p.una ≡ p.sent → resends news p ≡ false
resends_still news p h all = λ i. no_third news p h i || still_partial news p all i

none_long : (a r s : ℕ) → r + 1 ≤ s → min a r - s ≡ 0
none_long a r s h = omega (arith, h)

past_it : (r s : ℕ) → r + 1 ≤ s → nat_le s r ≡ false
past_it r s h = grind (arith, h)

nothing_full : {State : Type 0} (service : Machine State) (server : Addr) (news : News) (p q : Point) → IsQuiet service news p q → full_segments service server news p q ≡ []
unfolding full_segments resent new_texts new_fin
nothing_full service server news p q h =
    let long : new_length service p q ≡ 0 = none_long (sent_at_once service p q) (released service q) p.sent h.past in
    let fin : (nat_lt (released service q) (sent_at_once service p q) && nat_le p.sent (released service q)) ≡ false =
    and_right (nat_lt (released service q) (sent_at_once service p q)) (nat_le p.sent (released service q)) (past_it (released service q) p.sent h.past) in
    λ j. (if h.opens j then syn_ack server q ∷ [] else [])
    ++ ((if h.expires j || h.again j then (if is_unacknowledged p q then first_unacknowledged service server p q else probe service server p q) else [])
    ++ (texts service server q (long j) p.sent (long j) ++ (if fin j then fin_if_closed service server q else [])))

pub quiet_sends : {State : Type 0} (service : Machine State) (server : Addr) (news : News) (p q : Point) → IsQuiet service news p q → SendsAlone service server news p q
unfolding segments_of
quiet_sends service server news p q h = ap (or_bare (is_ack_pending service news p q) (bare_segment server q)) (nothing_full service server news p q h)
