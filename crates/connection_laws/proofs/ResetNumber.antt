-- A RST stands at the next number for TCP where it does for the connection.
use Rattle.std.proofs.Common.{◌≡◌, ℕ, ◌<◌, ◌≤◌, ◌+◌, ◌^◌, Bool, true, false, not, refl, sym, ap, arith, ◌∙◌}
use Rattle.std.specs.Prelude.{pos, ◌==◌, ◌&&◌, ◌||◌, if◌then◌else◌}
use Rattle.std.proofs.lemmas.Bool.{false≢true}
use Rattle.tcp_rules.specs.Arrival.{int_eq}
use Rattle.seq_arith.specs.Offset.{first_of}
use Rattle.seq_arith.specs.Packet.{Segment, has_syn, has_rst, has_ack}
use Rattle.seq_arith.proofs.Gaps.{offset_leads}
use Rattle.ft_model.specs.Point.{Point, taken_units}
use Rattle.ft_model.specs.News.News.{Comes, Begins}
use Rattle.ft_model.specs.ResetAndEnd.{reset_after}
use Rattle.tcp_endpoint.specs.ReceiveHalf.{next, taken}
use Rattle.tcp_endpoint.specs.Tcb.{Tcb}
use Rattle.endpoint_laws.specs.ConnectionEnd.{resets}
use Rattle.endpoint_laws.specs.Refinement.{ReceivesAt}
use Rattle.endpoint_laws.proofs.StandingLaw.{Moved, turns_by, is_moved, next_is}
use Rattle.south_wrap.specs.Translation.{inward, repeats_syn}
use Rattle.south_wrap.specs.SouthPoint.{south_at}
use Rattle.connection_laws.specs.Inside.{inside}
use Rattle.connection_laws.specs.Traffic.{news_inside}
use Rattle.connection_laws.specs.Turn.{StandsInside}

next_near : (taken limit : ℕ) (fin : Bool) → taken ≤ limit → limit ≤ 2 ^ 24 → taken + (if fin then 1 else 0) ≤ 2 ^ 30 + 1
next_near taken limit true a b = omega (arith, a, b)
next_near taken limit false a b = omega (arith, a, b)

at_next : (u i delta : ℕ) (p : Point) (segment : Segment) (e : Tcb) → StandsInside u i delta p e → segment.head.seq < 2 ^ 32
    → int_eq (first_of e.receiving.irs segment) (pos (next e.receiving)) ≡ int_eq (first_of p.cisn segment) (pos (taken_units p))
at_next u i delta p segment e st fits =
    let r : ReceivesAt (inside u i p) e = st.stands.receives in
    let few : p.fetched ≤ 2 ^ 24 = omega (arith, r.limit) in
    let m : Moved (first_of p.cisn segment) (first_of e.receiving.irs segment) p.fetched =
    turns_by p.cisn e.receiving.irs segment.head.seq p.fetched (first_of p.cisn segment) (first_of e.receiving.irs segment) r.cisn few
    (offset_leads p.cisn segment.head.seq fits) (offset_leads e.receiving.irs segment.head.seq fits) in
    let near : next e.receiving ≤ 2 ^ 30 + 1 =
    next_near (taken e.receiving) e.receiving.limit e.receiving.fin st.between.bounds.taken st.between.bounds.limit in
    sym (is_moved (next e.receiving) p.fetched (first_of p.cisn segment) (first_of e.receiving.irs segment) m few near)
    ∙ ap (λ n. int_eq (first_of p.cisn segment) (pos n)) (sym (next_is (inside u i p) e r))

syn_has_no_rst : (syn ack rst a b c : Bool) → ((syn && not ack && not rst) && a && b && c) ≡ true → rst ≡ false
syn_has_no_rst true true rst a b c h = absurd (false≢true h)
syn_has_no_rst true false true a b c h = absurd (false≢true h)
syn_has_no_rst true false false a b c h = refl
syn_has_no_rst false ack rst a b c h = absurd (false≢true h)

by_syn : (u i delta : ℕ) (p : Point) (segment : Segment) (e : Tcb) (b : Bool) → repeats_syn (south_at delta p) segment ≡ b → StandsInside u i delta p e → p.reset ≡ false
    → segment.head.seq < 2 ^ 32
    → resets (if b then Begins else Comes (inward (south_at delta p) segment)) e ≡ (p.reset || (has_rst segment && int_eq (first_of p.cisn segment) (pos (taken_units p))))
by_syn u i delta p segment e true repeats st none fits =
    let rst : has_rst segment ≡ false =
    syn_has_no_rst (has_syn segment) (has_ack segment) (has_rst segment) (segment.head.seq == p.cisn) (taken_units p == 0) (p.una == 0) repeats in
    sym (λ j. none j || (rst j && int_eq (first_of p.cisn segment) (pos (taken_units p))))
by_syn u i delta p segment e false repeats st none fits =
    ap (λ b. has_rst segment && b) (at_next u i delta p segment e st fits)
    ∙ sym (ap (λ b. b || (has_rst segment && int_eq (first_of p.cisn segment) (pos (taken_units p)))) none)

pub resets_is : (u i delta : ℕ) (p : Point) (segment : Segment) (e : Tcb) → StandsInside u i delta p e → p.reset ≡ false → segment.head.seq < 2 ^ 32
    → resets (news_inside delta p (Comes segment)) e ≡ reset_after (Comes segment) p
unfolding reset_after
resets_is u i delta p segment e st none fits = by_syn u i delta p segment e (repeats_syn (south_at delta p) segment) refl st none fits
