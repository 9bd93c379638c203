-- What a wrapped connection sends: TCP's segments mapped outward, the kept SYN-ACK, and the segments without data that are pending besides.
use Rattle.std.proofs.Common.{◌≡◌, ℕ, ◌≤◌, ◌+◌, ◌-◌, ◌^◌, Bool, true, false, not, Option, Some, None, List, [], ◌∷◌, ◌++◌, length, sum, min, max, refl, sym, ap, arith, append-nil, ◌∙◌}
use Rattle.std.specs.Prelude.{ℤ, pos, ◌==◌, ◌&&◌, ◌||◌, nat_lt, nat_le, int_lt, int_le, if◌then◌else◌}
use Rattle.std.specs.List.{list_any}
use Rattle.std.proofs.lemmas.Bool.{false≢true, and_left}
use Rattle.ft_io.specs.declared.Addr.{Addr}
use Rattle.tcp_rules.specs.Arrival.{int_eq}
use Rattle.seq_arith.specs.Packet.{Segment, has_syn, has_rst, has_ack}
use Rattle.server_trait.specs.Service.{Machine}
use Rattle.ft_model.specs.Offset.{first_of, ack_of, length_of}
use Rattle.ft_model.specs.Point.{Point, taken_units, most, advertised_edge, released}
use Rattle.ft_model.specs.Point as point
use Rattle.ft_model.specs.News.{News}
use Rattle.ft_model.specs.News.News.{Comes, Logged, Ticks, Begins}
use Rattle.ft_model.specs.Network.{Packet}
use Rattle.ft_model.specs.Answered.{answered_after}
use Rattle.ft_model.specs.Taken.{accepts, uses, acknowledges_unsent, counts, taken_after, fin_after}
use Rattle.ft_model.specs.PendingAck.{is_refused, is_unsent_ack, needs_ack, asks, is_delayed}
use Rattle.ft_model.specs.PendingAck as outer
use Rattle.ft_model.specs.Reads.{MakesReads, next_length, may_read}
use Rattle.ft_model.specs.Sending.{edge_after, is_third_duplicate, is_partial_ack, sent_at_once, syn_acked_after, resends}
use Rattle.ft_model.specs.Segments.{texts, new_length, fin_if_closed}
use Rattle.ft_model.specs.Refusal.{rst_at_ack}
use Rattle.ft_model.specs.Opening.{is_syn}
use Rattle.ft_model.specs.Segments.{syn_ack, repeats_syn, opens_with, full_segments, segments_of, or_bare, bare_segment, resent, new_texts, new_fin, is_unacknowledged, first_unacknowledged, probe}
use Rattle.ft_model.specs.Connection.{LiveTurn}
use Rattle.connection_laws.specs.Inside.{swallowing, inside, Proceeds}
use Rattle.connection_laws.specs.Traffic.{news_inside, passed, asks_besides, needs_ack_besides, leaves}
use Rattle.south_wrap.specs.Translation.{inward}
use Rattle.south_wrap.specs.SouthPoint.{south_at}
use Rattle.endpoint_laws.specs.Refinement.{MeetsLaws, news_needs_ack, is_ack_pending, refuses, refusals, full_by_laws, segments_by_laws}
use Rattle.connection_laws.specs.Turn.{Turns, SegmentFits}
use Rattle.connection_laws.proofs.Lowered.{Lowers, LowersAt, lowers, same_sign, unsent_inside}
use Rattle.connection_laws.proofs.Meets.{Moves, moves_inside_all, stays_inside, laws_inside, minus_none}
use Rattle.connection_laws.proofs.Leaving.{Sends, full, passed_is, or_besides}
use Rattle.ft_io.proofs.Booleans.{and_false, left_false, middle_false, second_of_three}
use Rattle.ft_io.proofs.Choices.{if_none}
use Rattle.ft_io.proofs.Numbers.{equal_itself, not_less_itself}
use Rattle.ft_model.proofs.Running.{none_made}
use Rattle.endpoint_laws.proofs.Ends.{less_is, none_if}
use Rattle.tcp_endpoint.proofs.Delayed.{without_ack}

-- in what order the reasons for a segment are asked doesn't matter
or_five : (o x y b r : Bool) → (((o || x) || y) || (b || r)) ≡ ((((o || b) || r) || x) || y)
or_five true x y b r = refl
or_five false true y true r = refl
or_five false true y false true = refl
or_five false true y false false = refl
or_five false false true true r = refl
or_five false false true false true = refl
or_five false false true false false = refl
or_five false false false true r = refl
or_five false false false false true = refl
or_five false false false false false = refl

-- while the SYN is unacknowledged, the same acknowledgements are refused inside
refused_by : (u sent most : ℕ) (syn_acked has unsent inner_unsent : Bool) (ack inner : ℤ) → (syn_acked ≡ false → u ≡ 0) → inner_unsent ≡ unsent → Lowers u sent most ack inner
    → (not syn_acked && has && (int_lt inner (pos 0) || inner_unsent)) ≡ (not syn_acked && has && (int_lt ack (pos 0) || unsent))
refused_by u sent most true has unsent inner_unsent ack inner o s l = refl
refused_by u sent most false has unsent inner_unsent ack inner o s l =
    let less : int_lt inner (pos 0) ≡ int_lt ack (pos 0) = less_is inner ∙ ap not (same_sign u sent most ack inner (o refl) l) ∙ sym (less_is ack) in
    λ j. true && has && (less j || s j)

refused_any : (u i delta : ℕ) (p : Point) (segment : Segment) (b : Bool) → has_ack segment ≡ b → Proceeds u i delta p → SegmentFits p segment
    → is_refused (inside u i p) (inward (south_at delta p) segment) ≡ is_refused p segment
refused_any u i delta p segment true h g f =
    let inner : Segment = inward (south_at delta p) segment in
    let l : LowersAt u i delta p segment = lowers u i delta p segment g f.ack (f.near h) in
    refused_by u p.sent (most p) p.syn_acked (has_ack segment) (acknowledges_unsent p segment) (acknowledges_unsent (inside u i p) inner) (ack_of p.sisn segment) (ack_of i inner)
    (λ o. (g.syn_unacked o).0) (unsent_inside u i delta p segment g l) l
refused_any u i delta p segment false h g f =
    let inner : Segment = inward (south_at delta p) segment in
    middle_false (not p.syn_acked) (has_ack segment) (int_lt (ack_of i inner) (pos 0) || acknowledges_unsent (inside u i p) inner) h
    ∙ sym (middle_false (not p.syn_acked) (has_ack segment) (int_lt (ack_of p.sisn segment) (pos 0) || acknowledges_unsent p segment) h)

refused_is : (u i delta : ℕ) (p : Point) (segment : Segment) → Proceeds u i delta p → SegmentFits p segment
    → is_refused (inside u i p) (inward (south_at delta p) segment) ≡ is_refused p segment
refused_is u i delta p segment g f = refused_any u i delta p segment (has_ack segment) refl g f

unsent_any : (u i delta : ℕ) (p : Point) (segment : Segment) (b : Bool) → has_ack segment ≡ b → Proceeds u i delta p → SegmentFits p segment
    → is_unsent_ack (inside u i p) (inward (south_at delta p) segment) ≡ is_unsent_ack p segment
unsent_any u i delta p segment true h g f =
    ap (λ b. has_ack segment && b) (unsent_inside u i delta p segment g (lowers u i delta p segment g f.ack (f.near h)))
unsent_any u i delta p segment false h g f =
    and_left (has_ack segment) (acknowledges_unsent (inside u i p) (inward (south_at delta p) segment)) h
    ∙ sym (and_left (has_ack segment) (acknowledges_unsent p segment) h)

needs_ack_is : (u i delta : ℕ) (p : Point) (segment : Segment) → Proceeds u i delta p → SegmentFits p segment
    → needs_ack (inside u i p) (inward (south_at delta p) segment) ≡ needs_ack p segment
unfolding needs_ack accepts
needs_ack_is u i delta p segment g f =
    let unsent = unsent_any u i delta p segment (has_ack segment) refl g f in
    λ j. if accepts p segment
    then (if has_rst segment then not (int_eq (first_of p.cisn segment) (pos (taken_units p)))
    else (if has_syn segment then true
    else (if refused_is u i delta p segment g f j then false else nat_lt 0 (length_of segment) || unsent j)))
    else not (has_rst segment)

-- what TCP sends by the laws, where its ACK may wait
abbrev pub out_by_laws : {State : Type 0} → Machine State → Addr → (u i : ℕ) → (news inner : News) → (before after : Point) → List Segment
out_by_laws service server u i news inner before after =
    if is_delayed news before after then full_by_laws (swallowing u service) server inner (inside u i before) (inside u i after)
    else segments_by_laws (swallowing u service) server inner (inside u i before) (inside u i after)

delayed_or : (d o : Bool) (bare : Segment) (xs : List Segment) → (if d then xs else or_bare o bare xs) ≡ or_bare (not d && o) bare xs
delayed_or true o bare xs = sym (without_ack bare xs)
delayed_or false o bare xs = refl

-- where the ACK waits, none is pending besides
delayed_ack : (d o b due : Bool) → (d ≡ true → b ≡ false) → (o || b) ≡ due → ((not d && o) || b) ≡ (not d && due)
delayed_ack true o b due none is = none refl
delayed_ack false o b due none is = is

out_is : {State : Type 0} (service : Machine State) (server : Addr) (u i : ℕ) (news inner : News) (p q : Point)
    → out_by_laws service server u i news inner p q
    ≡ or_bare (not (is_delayed news p q) && is_ack_pending inner (inside u i p) (inside u i q)) (bare_segment server (inside u i q))
    (full_by_laws (swallowing u service) server inner (inside u i p) (inside u i q))
out_is service server u i news inner p q =
    delayed_or (is_delayed news p q) (is_ack_pending inner (inside u i p) (inside u i q)) (bare_segment server (inside u i q))
    (full_by_laws (swallowing u service) server inner (inside u i p) (inside u i q))

-- where TCP's ACK waits, the connection adds none
abbrev pub AddsNone : {State : Type 0} → Machine State → News → (before after : Point) → Type 0
AddsNone service news before after = is_delayed news before after ≡ true → needs_ack_besides service news before after ≡ false

usually : {State : Type 0} (service : Machine State) (server : Addr) (news inner : News) (p q : Point) (u i delta : ℕ) → u ≤ q.sent
    → Sends service news inner p q u i delta → refusals server inner (inside u i p) ≡ [] → opens_with news p ≡ false
    → (news_needs_ack inner (inside u i p) || asks_besides service news p) ≡ asks service news p → AddsNone service news p q
    → leaves service server news p q (passed delta q (out_by_laws service server u i news inner p q)) ≡ segments_of service server news p q
unfolding segments_of full_segments outer.is_ack_due outer.is_ack_pending
usually service server news inner p q u i delta above s none opens asked alone =
    let bare : Segment = bare_segment server q in
    let b : Bool = needs_ack_besides service news p q in
    let d : Bool = is_delayed news p q in
    let now : Bool = is_ack_pending inner (inside u i p) (inside u i q) in
    let o : Bool = not d && now in
    let due : (now || b) ≡ outer.is_ack_due service news p q =
    or_five (news_needs_ack inner (inside u i p)) (not (taken_units p == taken_units q)) (not (advertised_edge p == advertised_edge q)) (asks_besides service news p) (nat_lt p.answered q.answered)
    ∙ ap (λ a. a || nat_lt p.answered q.answered || not (taken_units p == taken_units q) || not (advertised_edge p == advertised_edge q)) asked in
    let ack_pending : (o || b) ≡ outer.is_ack_pending service news p q = delayed_ack d now b (outer.is_ack_due service news p q) alone due in
    ap (λ xs. leaves service server news p q (passed delta q xs)) (out_is service server u i news inner p q)
    ∙ (λ j. or_bare b bare ((if opens j then syn_ack server q ∷ [] else [])
    ++ passed delta q (or_bare o (bare_segment server (inside u i q)) (none j ++ full (swallowing u service) server inner (inside u i p) (inside u i q)))))
    ∙ ap (or_bare b bare) (passed_is service server news inner p q u i delta o above s)
    ∙ or_besides o b bare (full service server news p q)
    ∙ (λ j. or_bare (ack_pending j) bare ((if sym opens j then syn_ack server q ∷ [] else []) ++ full service server news p q))

-- where nothing is taken nothing is read
pub never : (n : ℕ) → nat_lt n 0 ≡ false
never n = grind arith

nothing_to_read : (p : Point) → length p.taken ≡ 0 → p.fetched ≡ 0 → p.fin ≡ false → next_length p ≡ None
unfolding next_length
nothing_to_read p a b c =
    (λ j. if nat_lt (sum p.lengths) (b j) then Some (min 2048 (b j - sum p.lengths))
    else (if nat_lt (sum p.lengths) (a j) then Some (min 2048 (a j - sum p.lengths))
    else (if c j && not (list_any (λ n. n == 0) p.lengths) then Some 0 else None)))
    ∙ (λ j. if never (sum p.lengths) j then Some (min 2048 (0 - sum p.lengths))
    else (if never (sum p.lengths) j then Some (min 2048 (0 - sum p.lengths)) else None))

abbrev listed : Option ℕ → List ℕ
listed None = []
listed (Some n) = n ∷ []

none_some : (n : ℕ) (x : Option ℕ) → x ≡ None → x ≡ Some n → [] ≡ n ∷ []
none_some n x a b = ap listed (sym a ∙ b)

pub same_lengths : {State : Type 0} (service : Machine State) (p q : Point) → MakesReads service p q → length q.taken ≡ 0 → q.fetched ≡ 0 → q.fin ≡ false → q.lengths ≡ p.lengths
same_lengths service p q m a b c =
    let r : Point = record q { lengths = p.lengths } in
    m.lengths ∙ ap (λ ns. p.lengths ++ ns) (none_made service r m.news (if_none (may_read service r) (next_length r) (nothing_to_read r a b c)) m.makes) ∙ append-nil p.lengths

-- nothing is advertised anew
pub nothing_new : (p q : Point) → q.taken ≡ p.taken → q.fin ≡ p.fin → q.fetched ≡ p.fetched → q.lengths ≡ p.lengths
    → (not (taken_units p == taken_units q) || not (advertised_edge p == advertised_edge q)) ≡ false
nothing_new p q a b c d =
    (λ j. not (taken_units p == length (a j) + (if b j then 1 else 0)) || not (advertised_edge p == min (max (c j) (sum (d j)) + 65535) (2 ^ 24) + (if b j then 1 else 0)))
    ∙ (λ j. not (equal_itself (taken_units p) j) || not (equal_itself (advertised_edge p) j))

pub units_none : (n : ℕ) (b : Bool) → (n + (if b then 1 else 0) == 0) ≡ true → (n ≡ 0) × (b ≡ false)
units_none n true h = absurd (grind (arith, h))
units_none n false h = (grind (arith, h), refl)

abbrev pub syn_at : Point → Segment → Bool
syn_at p segment = is_syn segment && segment.head.seq == p.cisn

-- a SYN is repeated
pub repeated : {State : Type 0} (service : Machine State) (server : Addr) (boot : ℕ) (segment : Segment) (p q : Point) (sent : List Packet) (u i delta : ℕ) → u ≤ q.sent
    → Sends service (Comes segment) Begins p q u i delta → p.fetched ≤ length p.taken → repeats_syn p segment ≡ true → LiveTurn service server boot (Comes segment) p q sent
    → MeetsLaws (swallowing u service) Begins (inside u i p) (inside u i q)
    → leaves service server (Comes segment) p q (passed delta q (out_by_laws service server u i (Comes segment) Begins p q)) ≡ segments_of service server (Comes segment) p q
unfolding segments_of full_segments taken_after fin_after
repeated service server boot segment p q sent u i delta above s few opens l laws =
    let units = units_none (length p.taken) p.fin (second_of_three (syn_at p segment) (taken_units p == 0) (p.una == 0) opens) in
    let lens : q.lengths ≡ p.lengths =
    same_lengths service p q l.reads (ap length laws.taken ∙ units.0) (l.same.fetched ∙ omega (arith, few, units.0)) (laws.fin ∙ units.1) in
    let quiet : (not (is_delayed (Comes segment) p q) && is_ack_pending Begins (inside u i p) (inside u i q)) ≡ false =
    ap (λ o. not (is_delayed (Comes segment) p q) && o) (nothing_new p q laws.taken laws.fin l.same.fetched lens) ∙ and_false (not (is_delayed (Comes segment) p q)) in
    ap (λ xs. leaves service server (Comes segment) p q (passed delta q xs)) (out_is service server u i (Comes segment) Begins p q)
    ∙ (λ j. or_bare (needs_ack_besides service (Comes segment) p q) (bare_segment server q) ((if opens j then syn_ack server q ∷ [] else [])
    ++ passed delta q (or_bare (quiet j) (bare_segment server (inside u i q)) (full (swallowing u service) server Begins (inside u i p) (inside u i q)))))
    ∙ ap (λ xs. syn_ack server q ∷ xs) (passed_is service server (Comes segment) Begins p q u i delta false above s ∙ without_ack (bare_segment server q) (full service server (Comes segment) p q))
    ∙ (λ j. or_bare (outer.is_ack_pending service (Comes segment) p q) (bare_segment server q) ((if sym opens j then syn_ack server q ∷ [] else []) ++ full service server (Comes segment) p q))

four_of : (a b c d : Bool) → (a && not b && not c && d) ≡ true → (a ≡ true) × (b ≡ false) × (c ≡ false) × (d ≡ true)
four_of true false false true h = (refl, refl, refl, refl)
four_of true false false false h = absurd (false≢true h)
four_of true false true d h = absurd (false≢true h)
four_of true true c d h = absurd (false≢true h)
four_of false b c d h = absurd (false≢true h)

three_of : (a b c : Bool) → (not a && b && c) ≡ true → (a ≡ false) × (c ≡ true)
three_of false true true h = (refl, refl)
three_of false true false h = absurd (false≢true h)
three_of false false c h = absurd (false≢true h)
three_of true b c h = absurd (false≢true h)

-- what is refused doesn't count
off_refused : (x syn_acked named unsent : Bool) → syn_acked ≡ false → (not named || unsent) ≡ true → (x && (syn_acked || named) && not unsent) ≡ false
off_refused x true named unsent o h = absurd (false≢true (sym o))
off_refused true false true true o h = refl
off_refused true false true false o h = absurd (false≢true h)
off_refused true false false unsent o h = refl
off_refused false false named unsent o h = refl

pub nothing_at_once : (t e : ℕ) → max 0 (min t (min 0 e)) ≡ 0
nothing_at_once t e = omega arith

pub nothing_long : (r : ℕ) → min 0 r - 0 ≡ 0
nothing_long r = omega arith

-- an acceptable segment acknowledges anything but the SYN
record IsRefused (p q : Point) (segment : Segment) : Type 0 where
  opens : opens_with (Comes segment) p ≡ false
  ack_pending : needs_ack p segment ≡ false
  fin : p.fin ≡ false
  answered : q.answered ≡ p.answered
  new : (not (taken_units p == taken_units q) || not (advertised_edge p == advertised_edge q)) ≡ false
  sent : p.sent ≡ 0
  edge : q.edge ≡ 0
  again : resends (Comes segment) p ≡ false

refused_turn : {State : Type 0} (service : Machine State) (server : Addr) (boot : ℕ) (segment : Segment) (p q : Point) (sent : List Packet) (u i delta : ℕ)
    → Proceeds u i delta p → refuses p segment ≡ true → LiveTurn service server boot (Comes segment) p q sent → IsRefused p q segment
unfolding needs_ack counts answered_after taken_after fin_after edge_after is_third_duplicate is_partial_ack
refused_turn service server boot segment p q sent u i delta g r l =
    let f = four_of (accepts p segment) (has_rst segment) (has_syn segment) (is_refused p segment) r in
    let k = three_of p.syn_acked (has_ack segment) (int_lt (ack_of p.sisn segment) (pos 0) || acknowledges_unsent p segment) f.3 in
    let o = g.syn_unacked k.0 in
    let none : counts p segment ≡ false =
    off_refused (has_ack segment && not (has_syn segment) && not (has_rst segment) && uses p segment) p.syn_acked (int_le (pos 0) (ack_of p.sisn segment))
    (acknowledges_unsent p segment) k.0 (ap (λ b. b || acknowledges_unsent p segment) (sym (less_is (ack_of p.sisn segment))) ∙ k.1) in
    let m : Moves (Comes segment) p 0 i Begins = stays_inside 0 i p segment g.timing none in
    let taken : q.taken ≡ p.taken = l.taken ∙ sym m.taken in
    let fin : q.fin ≡ p.fin = l.fin ∙ sym m.fin in
    let lens : q.lengths ≡ p.lengths =
    same_lengths service p q l.reads (ap length (taken ∙ o.3)) (l.same.fetched ∙ o.6) (fin ∙ o.4) in
    record {
      opens = λ j. f.2 j && not (has_ack segment) && not (has_rst segment) && segment.head.seq == p.cisn && taken_units p == 0 && p.una == 0;
      ack_pending = λ j. if f.0 j then (if f.1 j then not (int_eq (first_of p.cisn segment) (pos (taken_units p)))
          else (if f.2 j then true else (if f.3 j then false else nat_lt 0 (length_of segment) || is_unsent_ack p segment)))
          else not (has_rst segment);
      fin = o.4;
      answered = l.answered;
      new = nothing_new p q taken fin l.same.fetched lens;
      sent = o.1;
      edge = l.edge ∙ minus_none (edge_after (Comes segment) p) p.edge (sym m.edge) ∙ o.2;
      again = sym m.again;
    }

refused : {State : Type 0} (service : Machine State) (server : Addr) (boot : ℕ) (segment inner : Segment) (p q : Point) (sent : List Packet) (u i delta : ℕ)
    → Proceeds u i delta p → refuses p segment ≡ true → refuses (inside u i p) inner ≡ true → LiveTurn service server boot (Comes segment) p q sent
    → leaves service server (Comes segment) p q (passed delta q (out_by_laws service server u i (Comes segment) (Comes inner) p q))
    ≡ segments_of service server (Comes segment) p q
unfolding segments_of full_segments outer.is_ack_due outer.is_ack_pending resent new_texts new_fin sent_at_once
refused service server boot segment inner p q sent u i delta g r s l =
    let t : IsRefused p q segment = refused_turn service server boot segment p q sent u i delta g r l in
    let once : sent_at_once service p q ≡ 0 = (λ j. max (t.sent j) (min (point.target service q) (min (t.edge j) (q.una + q.congestion.cwnd))))
    ∙ nothing_at_once (point.target service q) (q.una + q.congestion.cwnd) in
    let long : new_length service p q ≡ 0 = (λ j. min (once j) (released service q) - t.sent j) ∙ nothing_long (released service q) in
    let rose : nat_lt p.answered q.answered ≡ false = ap (nat_lt p.answered) t.answered ∙ not_less_itself p.answered in
    let besides : needs_ack_besides service (Comes segment) p q ≡ false = λ j. (t.fin j && nat_lt (released service p) p.una && not (has_rst segment)) || rose j in
    let again : resends (Comes segment) p ≡ false = t.again in
    let rest : full service server (Comes segment) p q ≡ [] =
    (λ j. (if again j then (if is_unacknowledged p q then first_unacknowledged service server p q else probe service server p q) else [])
    ++ (texts service server q (long j) p.sent (long j) ++ (if nat_lt (released service q) (once j) && nat_le p.sent (released service q) then fin_if_closed service server q else [])))
    ∙ (λ j. if never (released service q) j && nat_le p.sent (released service q) then fin_if_closed service server q else []) in
    let ack_pending : outer.is_ack_pending service (Comes segment) p q ≡ false =
    ap (λ o. not (is_delayed (Comes segment) p q) && o)
    ((λ j. ((t.ack_pending j || (t.fin j && nat_lt (released service p) p.una && not (has_rst segment))) || rose j || not (taken_units p == taken_units q)) || not (advertised_edge p == advertised_edge q)) ∙ t.new) ∙ and_false (not (is_delayed (Comes segment) p q)) in
    ap (λ xs. leaves service server (Comes segment) p q (passed delta q xs)) (out_is service server u i (Comes segment) (Comes inner) p q)
    ∙ (λ j. or_bare (besides j) (bare_segment server q) ((if t.opens j then syn_ack server q ∷ [] else [])
    ++ passed delta q (or_bare (not (is_delayed (Comes segment) p q) && is_ack_pending (Comes inner) (inside u i p) (inside u i q)) (bare_segment server (inside u i q))
    ((if s j then rst_at_ack server inner ∷ [] else []) ++ full (swallowing u service) server (Comes inner) (inside u i p) (inside u i q)))))
    ∙ (λ j. or_bare (sym ack_pending j) (bare_segment server q) ((if sym t.opens j then syn_ack server q ∷ [] else []) ++ sym rest j))

-- whichever comes
pub still_syn_unacked : (news : News) (p : Point) → syn_acked_after news p ≡ false → p.syn_acked ≡ false
unfolding syn_acked_after
still_syn_unacked (Comes segment) p h = left_false p.syn_acked (counts p segment) h
still_syn_unacked (Logged kept) p h = h
still_syn_unacked Ticks p h = h
still_syn_unacked Begins p h = h

sends : {State : Type 0} (service : Machine State) (server : Addr) (boot : ℕ) (news : News) (p q : Point) (sent : List Packet) (u i delta : ℕ)
    → Turns service server boot news p q sent u i delta → Proceeds u i delta p → Proceeds u i delta q → Sends service news (news_inside delta p news) p q u i delta
sends service server boot news p q sent u i delta t before after = record {
  shift = after.shift;
  sisn = after.sisn;
  expires = (moves_inside_all u i delta p news before t.fits).expires;
  again = (moves_inside_all u i delta p news before t.fits).again;
  sent = omega (arith, before.una, before.order);
  una = after.una;
  edge = after.edge;
  given = t.given;
  syn_unacked = λ h. (before.syn_unacked (still_syn_unacked news p (sym t.goes.syn_acked ∙ h))).0;
}

comes : {State : Type 0} (service : Machine State) (server : Addr) (boot : ℕ) (segment : Segment) (p q : Point) (sent : List Packet) (u i delta : ℕ) (b : Bool)
    → Turns service server boot (Comes segment) p q sent u i delta → Proceeds u i delta p → Proceeds u i delta q → refuses p segment ≡ b → repeats_syn p segment ≡ false
    → Sends service (Comes segment) (Comes (inward (south_at delta p) segment)) p q u i delta → AddsNone service (Comes segment) p q
    → leaves service server (Comes segment) p q (passed delta q (out_by_laws service server u i (Comes segment) (Comes (inward (south_at delta p) segment)) p q))
    ≡ segments_of service server (Comes segment) p q
unfolding accepts
comes service server boot segment p q sent u i delta true t before after r opens s alone =
    let inner : Segment = inward (south_at delta p) segment in
    let same : refuses (inside u i p) inner ≡ refuses p segment =
    ap (λ v. accepts p segment && not (has_rst segment) && not (has_syn segment) && v) (refused_is u i delta p segment before t.fits) in
    refused service server boot segment inner p q sent u i delta before r (same ∙ r) t.goes
comes service server boot segment p q sent u i delta false t before after r opens s alone =
    let inner : Segment = inward (south_at delta p) segment in
    let same : refuses (inside u i p) inner ≡ refuses p segment =
    ap (λ v. accepts p segment && not (has_rst segment) && not (has_syn segment) && v) (refused_is u i delta p segment before t.fits) in
    let none : refusals server (Comes inner) (inside u i p) ≡ [] = none_if (refuses (inside u i p) inner) (rst_at_ack server inner) (same ∙ r) in
    let asked : (news_needs_ack (Comes inner) (inside u i p) || asks_besides service (Comes segment) p) ≡ asks service (Comes segment) p =
    ap (λ v. v || asks_besides service (Comes segment) p) (needs_ack_is u i delta p segment before t.fits) in
    usually service server (Comes segment) (Comes inner) p q u i delta (omega (arith, after.una, after.order)) s none opens asked alone

by_syn : {State : Type 0} (service : Machine State) (server : Addr) (boot : ℕ) (segment : Segment) (p q : Point) (sent : List Packet) (u i delta : ℕ) (b : Bool)
    → repeats_syn p segment ≡ b → Turns service server boot (Comes segment) p q sent u i delta → Proceeds u i delta p → Proceeds u i delta q
    → Sends service (Comes segment) (if b then Begins else Comes (inward (south_at delta p) segment)) p q u i delta
    → MeetsLaws (swallowing u service) (if b then Begins else Comes (inward (south_at delta p) segment)) (inside u i p) (inside u i q)
    → AddsNone service (Comes segment) p q
    → leaves service server (Comes segment) p q (passed delta q (out_by_laws service server u i (Comes segment) (if b then Begins else Comes (inward (south_at delta p) segment)) p q))
    ≡ segments_of service server (Comes segment) p q
by_syn service server boot segment p q sent u i delta true opens t before after s laws alone =
    repeated service server boot segment p q sent u i delta (omega (arith, after.una, after.order)) s t.few opens t.goes laws
by_syn service server boot segment p q sent u i delta false opens t before after s laws alone =
    comes service server boot segment p q sent u i delta (refuses p segment) t before after refl opens s alone

pub sent_is : {State : Type 0} (service : Machine State) (server : Addr) (boot : ℕ) (news : News) (p q : Point) (sent : List Packet) (u i delta : ℕ)
    → Turns service server boot news p q sent u i delta → Proceeds u i delta p → Proceeds u i delta q → AddsNone service news p q
    → leaves service server news p q (passed delta q (out_by_laws service server u i news (news_inside delta p news) p q)) ≡ segments_of service server news p q
sent_is service server boot (Comes segment) p q sent u i delta t before after alone =
    by_syn service server boot segment p q sent u i delta (repeats_syn p segment) refl t before after (sends service server boot (Comes segment) p q sent u i delta t before after)
    (laws_inside service server boot u i delta (Comes segment) p q sent before t.fits after.una t.given t.goes) alone
sent_is service server boot (Logged kept) p q sent u i delta t before after alone =
    usually service server (Logged kept) (Logged kept) p q u i delta (omega (arith, after.una, after.order)) (sends service server boot (Logged kept) p q sent u i delta t before after) refl refl refl alone
sent_is service server boot Ticks p q sent u i delta t before after alone =
    usually service server Ticks Ticks p q u i delta (omega (arith, after.una, after.order)) (sends service server boot Ticks p q sent u i delta t before after) refl refl refl alone
sent_is service server boot Begins p q sent u i delta t before after alone =
    usually service server Begins Begins p q u i delta (omega (arith, after.una, after.order)) (sends service server boot Begins p q sent u i delta t before after) refl (ap not t.later) refl alone
