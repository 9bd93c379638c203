-- What a segment makes of an endpoint is what the laws of `ft_model` make of the point at which it stands.
use Rattle.std.proofs.Common.{◌≡◌, ℕ, zero, suc, ◌<◌, ◌≤◌, ◌+◌, ◌-◌, ◌*◌, ◌/◌, ◌%◌, ◌^◌, Bool, true, false, not, List, ◌++◌, length, length-append, append-nil, drop, min, max, refl, sym, ap, arith, ◌∙◌}
use Rattle.std.specs.Prelude.{ℤ, pos, ◌+ℤ◌, ◌-ℤ◌, ◌<ℤ◌, ◌≤ℤ◌, ◌==◌, ◌&&◌, ◌||◌, nat_abs, nat_lt, int_lt, int_le, if◌then◌else◌}
use Rattle.std.proofs.lemmas.Int.{ints}
use Rattle.std.proofs.lemmas.List.{drop-append-le}
use Rattle.std.proofs.lemmas.Bool.{false≢true, and_right, and_left}
use Rattle.seq_arith.specs.Number.{offset_of}
use Rattle.tcp_rules.specs.Arrival.{int_eq, lies_in, is_acceptable, is_at_right_edge, is_acceptable_or_at_edge, is_allowed_at_zero, is_beyond, una_after, updates_window}
use Rattle.tcp_rules.specs.Coming.{Came, early_from, nothing_came, came_from, comes}
use Rattle.tcp_rules.specs.Congestion.{Congestion, is_partial, with_new_data, is_third, with_duplicate}
use Rattle.seq_arith.specs.Packet.{Segment, has_syn, has_rst, has_ack}
use Rattle.seq_arith.proofs.Gaps.{Leads, offset_leads}
use Rattle.tcp_rules.proofs.Shifts.{lies_in_shift, updates_window_shift}
use Rattle.tcp_rules.proofs.Coming.{comes_from}
use Rattle.seq_arith.specs.Offset.{one_if, first_of, ack_of, text_of, fin_of, length_of}
use Rattle.ft_model.specs.Point.{Point, taken_units, room}
use Rattle.ft_model.specs.Point as point
use Rattle.ft_model.specs.News.News.{Comes}
use Rattle.ft_model.specs.Taken as model
use Rattle.ft_model.specs.Sending as sender
use Rattle.ft_model.specs.Timestamps.{timestamping_after}
use Rattle.tcp_buffers.specs.Near.{IsNearFirst}
use Rattle.tcp_endpoint.specs.States.{has_begun}
use Rattle.tcp_endpoint.specs.ReceiveHalf.{Receiving, taken, next, receive_edge, advertised_edge, came, with_came}
use Rattle.tcp_endpoint.specs.SendHalf.{Sending}
use Rattle.tcp_endpoint.specs.Tcb.{Tcb}
use Rattle.tcp_endpoint.specs.Arrival.{first, ack_at, received}
use Rattle.endpoint_laws.specs.Laws.{accepts, uses, acknowledges_unsent, counts, taken_by, acknowledges, uses_window, is_duplicate, is_third_duplicate, is_partial_ack, shows_loss, congestion_by, IsSentBy, IsBounded, IsUsual}
use Rattle.endpoint_laws.specs.Refinement.{ReceivesAt, SendsAt}
use Rattle.tcp_endpoint.proofs.Places.{near_of_usable}
use Rattle.endpoint_laws.proofs.TakenLaw.{if_when, counted, taken_law}
use Rattle.endpoint_laws.proofs.Bounding.{taken_within}
use Rattle.endpoint_laws.proofs.SendingLaw.{sending_law, next_near, window_short, length_short}
use Rattle.ft_io.proofs.Booleans.{left_true, right_true, and_when}
use Rattle.ft_io.proofs.Choices.{by_cases, of_if}

-- an endpoint at a point, and a segment that comes to it
pub record Meets (p : Point) (e : Tcb) (segment : Segment) : Type 0 where
  pub receives : ReceivesAt p e
  pub sends : SendsAt p e
  pub sent : p.sent ≡ e.sending.sent
  pub fetched_output : p.fetched_output ≡ 0
  pub bounds : IsBounded e
  pub usual : IsUsual e segment

pub next_is : (p : Point) (e : Tcb) → ReceivesAt p e → taken_units p ≡ next e.receiving + p.fetched
next_is p e r =
    let moved : taken_units p ≡ taken e.receiving + p.fetched + one_if e.receiving.fin = λ i. r.long i + one_if (r.fin i)
    in omega (arith, moved)

edge_by : (read limit fetched : ℕ) → limit + fetched ≡ 2 ^ 24 → min (read + fetched + 65535) (2 ^ 24) ≡ min (read + 65535) limit + fetched
edge_by read limit fetched h = omega arith

pub edge_is : (p : Point) (e : Tcb) → ReceivesAt p e → point.receive_edge p ≡ receive_edge e.receiving + p.fetched
edge_is p e r =
    let moved : point.receive_edge p ≡ min (e.receiving.read + p.fetched + 65535) (2 ^ 24) = ap (λ n. min (n + 65535) (2 ^ 24)) r.read
    in moved ∙ edge_by e.receiving.read e.receiving.limit p.fetched r.limit

pub advertised_is : (p : Point) (e : Tcb) → ReceivesAt p e → point.advertised_edge p ≡ advertised_edge e.receiving + p.fetched
advertised_is p e r =
    let moved : point.advertised_edge p ≡ receive_edge e.receiving + p.fetched + one_if e.receiving.fin = λ i. edge_is p e r i + one_if (r.fin i)
    in omega (arith, moved)

pub room_is : (p : Point) (e : Tcb) → ReceivesAt p e → room p ≡ advertised_edge e.receiving - next e.receiving
room_is p e r = omega (arith, advertised_is p e r, next_is p e r)

-- an offset counted from a stream's beginning, and from some bytes after it
near_moves : (cisn irs number fetched : ℕ) → number < 2 ^ 32 → irs ≡ (cisn + fetched) % 2 ^ 32 → fetched ≤ 2 ^ 24 → IsNearFirst (offset_of irs number)
    → offset_of cisn number ≡ offset_of irs number +ℤ pos fetched
near_moves cisn irs number fetched fits is few near = omega (arith, ints, offset_leads cisn number fits, offset_leads irs number fits)

-- an offset counted from some bytes after a stream's beginning, as far as numbers tell
pub record Moved (z moved : ℤ) (fetched : ℕ) : Type 0 where
  turns : ℕ
  is : (z +ℤ pos (turns * 2 ^ 32)) ≡ (moved +ℤ pos fetched)
  low : (pos 0 -ℤ pos (2 ^ 31)) ≤ℤ z
  high : moved <ℤ pos (2 ^ 31)

pub turns_by : (cisn irs number fetched : ℕ) (z moved : ℤ) → irs ≡ (cisn + fetched) % 2 ^ 32 → fetched ≤ 2 ^ 24
    → Leads ((cisn + 1) % 2 ^ 32) number z → Leads ((irs + 1) % 2 ^ 32) number moved → Moved z moved fetched
turns_by cisn irs number fetched z moved is few l k =
    let start : ℕ = (cisn + 1) % 2 ^ 32 in
    let wraps : ℕ = (start + fetched) / 2 ^ 32 in
    let irs_is : (irs + 1) % 2 ^ 32 + wraps * 2 ^ 32 ≡ start + fetched = omega (arith, is) in
    record {
      turns = k.turns + wraps - l.turns;
      is = omega (arith, ints, l.leads, k.leads, l.high, l.low, k.high, k.low, irs_is);
      low = l.low;
      high = k.high;
    }

below_window : (place : ℕ) (z : ℤ) → z <ℤ pos 0 → int_le (pos place) z ≡ false
below_window place z h = grind (arith, ints)

above_window : (end : ℕ) (z : ℤ) → pos end ≤ℤ z → int_lt z (pos end) ≡ false
above_window end z h = grind (arith, ints)

lies_by : (turns start window n fetched : ℕ) (z moved : ℤ) → (z +ℤ pos (turns * 2 ^ 32)) ≡ (moved +ℤ pos fetched) → (pos 0 -ℤ pos (2 ^ 31)) ≤ℤ z
    → moved <ℤ pos (2 ^ 31) → fetched ≤ 2 ^ 24 → start ≤ 2 ^ 30 + 1 → window ≤ 2 ^ 16 → n ≤ 2 ^ 16
    → lies_in (start + fetched) window (z +ℤ pos n) ≡ lies_in start window (moved +ℤ pos n)
lies_by zero start window n fetched z moved is low high few near short small =
    let same : (z +ℤ pos n) ≡ (moved +ℤ pos n +ℤ pos fetched) = omega (arith, ints, is)
    in ap (lies_in (start + fetched) window) same ∙ lies_in_shift start window fetched (moved +ℤ pos n)
lies_by (suc t) start window n fetched z moved is low high few near short small =
    and_left (int_le (pos (start + fetched)) (z +ℤ pos n)) _ (below_window (start + fetched) (z +ℤ pos n) (omega (arith, ints, is, high)))
    ∙ sym (and_right (int_le (pos start) (moved +ℤ pos n)) _ (above_window (start + window) (moved +ℤ pos n) (omega (arith, ints, is, low))))

lies_in_moved : (start window n fetched : ℕ) (z moved : ℤ) → Moved z moved fetched → fetched ≤ 2 ^ 24 → start ≤ 2 ^ 30 + 1 → window ≤ 2 ^ 16 → n ≤ 2 ^ 16
    → lies_in (start + fetched) window (z +ℤ pos n) ≡ lies_in start window (moved +ℤ pos n)
lies_in_moved start window n fetched z moved m few near short small =
    lies_by m.turns start window n fetched z moved m.is m.low m.high few near short small

place_moved : (place fetched : ℕ) (z moved : ℤ) → Moved z moved fetched → fetched ≤ 2 ^ 24 → place ≤ 2 ^ 30 + 2 ^ 17
    → int_eq z (pos (place + fetched)) ≡ int_eq moved (pos place)
place_moved place fetched z moved m few near = grind (arith, ints, m.is, m.low, m.high)

pub is_moved : (start fetched : ℕ) (z moved : ℤ) → Moved z moved fetched → fetched ≤ 2 ^ 24 → start ≤ 2 ^ 30 + 1
    → int_eq z (pos (start + fetched)) ≡ int_eq moved (pos start)
is_moved start fetched z moved m few near = place_moved start fetched z moved m few (omega (arith, near))

plus_none : (z : ℤ) → z +ℤ pos 0 ≡ z
plus_none z = omega (arith, ints)

-- a number that is far names no segment that is used, from wherever it is counted
acceptable_moves : (upper window len fetched : ℕ) (z y : ℤ) → Moved z y fetched → fetched ≤ 2 ^ 24 → upper ≤ 2 ^ 30 + 1 → window ≤ 2 ^ 16 → len ≤ 2 ^ 16
    → is_acceptable (upper + fetched) window z len ≡ is_acceptable upper window y len
acceptable_moves upper window len fetched z y m few near short small =
    let point : int_eq z (pos (upper + fetched)) ≡ int_eq y (pos upper) = is_moved upper fetched z y m few near in
    let first_lies : lies_in (upper + fetched) window z ≡ lies_in upper window y =
    (λ i. lies_in (upper + fetched) window (sym (plus_none z) i)) ∙ lies_in_moved upper window 0 fetched z y m few near short (omega arith)
    ∙ (λ i. lies_in upper window (plus_none y i)) in
    let last_lies : lies_in (upper + fetched) window (z +ℤ pos (len - 1)) ≡ lies_in upper window (y +ℤ pos (len - 1)) =
    lies_in_moved upper window (len - 1) fetched z y m few near short (omega (arith, small)) in
    λ i. if len == 0
    then (if window == 0 then point i else first_lies i)
    else (if window == 0 then false else (first_lies i || last_lies i))

right_edge_moves : (upper window len fetched : ℕ) (z y : ℤ) → Moved z y fetched → fetched ≤ 2 ^ 24 → upper ≤ 2 ^ 30 + 1 → window ≤ 2 ^ 16
    → is_at_right_edge (upper + fetched) window z len ≡ is_at_right_edge upper window y len
unfolding is_at_right_edge
right_edge_moves upper window len fetched z y m few near short =
    let end : upper + fetched + window ≡ upper + window + fetched = omega arith in
    let place : int_eq z (pos (upper + fetched + window)) ≡ int_eq y (pos (upper + window)) =
    ap (λ n. int_eq z (pos n)) end ∙ place_moved (upper + window) fetched z y m few (omega (arith, near, short)) in
    λ i. len == 0 && nat_lt 0 window && place i

zero_moves : (upper window fetched : ℕ) (z y : ℤ) → Moved z y fetched → fetched ≤ 2 ^ 24 → upper ≤ 2 ^ 30 + 1
    → is_allowed_at_zero (upper + fetched) window z ≡ is_allowed_at_zero upper window y
unfolding is_allowed_at_zero
zero_moves upper window fetched z y m few near = λ i. window == 0 && is_moved upper fetched z y m few near i

fetched_few : (limit fetched : ℕ) → limit + fetched ≡ 2 ^ 24 → fetched ≤ 2 ^ 24
fetched_few limit fetched h = omega arith

moved_first : (p : Point) (e : Tcb) (segment : Segment) → Meets p e segment → Moved (first_of p.cisn segment) (first e segment) p.fetched
moved_first p e segment m =
    let r : ReceivesAt p e = m.receives in
    turns_by p.cisn e.receiving.irs segment.head.seq p.fetched (first_of p.cisn segment) (first e segment) r.cisn (fetched_few e.receiving.limit p.fetched r.limit)
    (offset_leads p.cisn segment.head.seq m.usual.seq) (offset_leads e.receiving.irs segment.head.seq m.usual.seq)

pub accepts_is : (p : Point) (e : Tcb) (segment : Segment) → Meets p e segment → model.accepts p segment ≡ accepts e segment
unfolding model.accepts
accepts_is p e segment m =
    let r : ReceivesAt p e = m.receives in
    let few : p.fetched ≤ 2 ^ 24 = fetched_few e.receiving.limit p.fetched r.limit in
    let moved : Moved (first_of p.cisn segment) (first e segment) p.fetched = moved_first p e segment m in
    let near : next e.receiving ≤ 2 ^ 30 + 1 = next_near e.receiving m.bounds.limit m.bounds.taken in
    let short : advertised_edge e.receiving - next e.receiving ≤ 2 ^ 16 = window_short e.receiving in
    (λ i. is_acceptable_or_at_edge (next_is p e r i) (room_is p e r i) (first_of p.cisn segment) (length_of segment))
    ∙ (λ i. acceptable_moves (next e.receiving) (advertised_edge e.receiving - next e.receiving) (length_of segment) p.fetched (first_of p.cisn segment) (first e segment) moved few near
    short (length_short segment m.usual.text) i
    || right_edge_moves (next e.receiving) (advertised_edge e.receiving - next e.receiving) (length_of segment) p.fetched (first_of p.cisn segment) (first e segment) moved few near short i)

uses_is : (p : Point) (e : Tcb) (segment : Segment) → Meets p e segment → model.uses p segment ≡ uses e segment
unfolding model.uses model.accepts
uses_is p e segment m =
    let r : ReceivesAt p e = m.receives in
    let few : p.fetched ≤ 2 ^ 24 = fetched_few e.receiving.limit p.fetched r.limit in
    let near : next e.receiving ≤ 2 ^ 30 + 1 = next_near e.receiving m.bounds.limit m.bounds.taken in
    let at_zero : is_allowed_at_zero (taken_units p) (room p) (first_of p.cisn segment)
    ≡ is_allowed_at_zero (next e.receiving) (advertised_edge e.receiving - next e.receiving) (first e segment) =
    (λ i. is_allowed_at_zero (next_is p e r i) (room_is p e r i) (first_of p.cisn segment))
    ∙ zero_moves (next e.receiving) (advertised_edge e.receiving - next e.receiving) p.fetched (first_of p.cisn segment) (first e segment) (moved_first p e segment m) few near in
    λ i. accepts_is p e segment m i || at_zero i

near_of_uses : (e : Tcb) (segment : Segment) → IsBounded e → IsUsual e segment → uses e segment ≡ true → IsNearFirst (first e segment)
near_of_uses e segment b usual h =
    near_of_usable (next e.receiving) (advertised_edge e.receiving - next e.receiving) (first e segment) (length_of segment)
    (next_near e.receiving b.limit b.taken) (window_short e.receiving) (length_short segment usual.text) h

pub first_is : (p : Point) (e : Tcb) (segment : Segment) → Meets p e segment → uses e segment ≡ true
    → first_of p.cisn segment ≡ first e segment +ℤ pos p.fetched
first_is p e segment m h =
    near_moves p.cisn e.receiving.irs segment.head.seq p.fetched m.usual.seq m.receives.cisn
    (fetched_few e.receiving.limit p.fetched m.receives.limit) (near_of_uses e segment m.bounds m.usual h)

pub ack_is : (p : Point) (e : Tcb) (segment : Segment) → Meets p e segment → ack_of p.sisn segment ≡ ack_at e segment
ack_is p e segment m = λ i. offset_of (m.sends.sisn i) segment.head.ack

max_none : (n : ℕ) → max n 0 ≡ n
max_none n = omega arith

pub unsent_is : (p : Point) (e : Tcb) (segment : Segment) → Meets p e segment → model.acknowledges_unsent p segment ≡ acknowledges_unsent e segment
unfolding model.acknowledges_unsent
unsent_is p e segment m =
    (λ i. is_beyond (max (m.sent i) (m.fetched_output i)) (ack_is p e segment m i)) ∙ ap (λ n. is_beyond n (ack_at e segment)) (max_none e.sending.sent)

counts_is : (p : Point) (e : Tcb) (segment : Segment) → Meets p e segment → model.counts p segment ≡ counts e segment
unfolding model.counts
counts_is p e segment m = λ i.
    has_ack segment && not (has_syn segment) && not (has_rst segment) && uses_is p e segment m i && (m.sends.syn_acked i || int_le (pos 0) (ack_is p e segment m i))
    && not (unsent_is p e segment m i)

-- what comes is the same, counted from some bytes after a stream's beginning
abbrev brought : Tcb → Segment → Came
brought e segment =
    if counts e segment then came e.receiving (first e segment) (text_of segment) (fin_of segment) else nothing_came e.receiving.early e.receiving.fin

came_is : (p : Point) (e : Tcb) (segment : Segment) → Meets p e segment → model.came p segment ≡ came_from p.fetched (brought e segment)
unfolding model.came
came_is p e segment m =
    let r : Receiving = e.receiving in
    let k : ℕ = p.fetched in
    let brings : Came = came r (first e segment) (text_of segment) (fin_of segment) in
    ap (λ b. if b then comes (length p.taken) (point.receive_edge p) p.fin p.early (first_of p.cisn segment) (text_of segment) (fin_of segment) else nothing_came p.early p.fin)
    (counts_is p e segment m)
    ∙ if_when (counts e segment) _ (came_from k brings) _ (came_from k (nothing_came r.early r.fin))
    (λ h. (λ i. comes (m.receives.long i) (edge_is p e m.receives i) (m.receives.fin i) (m.receives.early i) (first_is p e segment m (counted e segment h).used i)
    (text_of segment) (fin_of segment))
    ∙ comes_from (taken r) (receive_edge r) k r.fin r.early (first e segment) (text_of segment) (fin_of segment))
    (λ h i. nothing_came (m.receives.early i) (m.receives.fin i))
    ∙ sym (of_if (came_from k) (counts e segment) brings (nothing_came r.early r.fin))

-- bytes are put after all that were taken, and so after those that aren't read
grown_rest : (all unread more : List ℕ) (read fetched : ℕ) → drop (read + fetched) all ≡ unread → length all ≡ read + length unread + fetched
    → drop (read + fetched) (all ++ more) ≡ unread ++ more
grown_rest all unread more read fetched rest long = drop-append-le (read + fetched) all more (omega (arith, long)) ∙ ap (λ xs. xs ++ more) rest

grown_long : (all unread more : List ℕ) (read fetched : ℕ) → length all ≡ read + length unread + fetched
    → length (all ++ more) ≡ read + length (unread ++ more) + fetched
grown_long all unread more read fetched long = omega (arith, long, length-append all more, length-append unread more)

-- .. and the endpoint takes just that
nothing_more : (r : Receiving) → r ≡ with_came r (nothing_came r.early r.fin)
unfolding with_came
nothing_more r = λ i. record r { unread = sym (append-nil r.unread) i }

taken_by_is : (e : Tcb) (segment : Segment) → taken_by e segment ≡ with_came e.receiving (brought e segment)
unfolding taken_by
taken_by_is e segment =
    let r : Receiving = e.receiving in
    if_when (counts e segment) _ _ _ _ (λ h. refl) (λ h. nothing_more r)
    ∙ sym (of_if (with_came r) (counts e segment) (came r (first e segment) (text_of segment) (fin_of segment)) (nothing_came r.early r.fin))

-- an acknowledgement of at most what was sent is used whole
used_whole : (z : ℤ) (sent : ℕ) → int_le (pos 0) z ≡ true → z ≤ℤ pos sent → min (nat_abs z) sent ≡ nat_abs z
used_whole z sent up h = grind (arith, ints)

acknowledges_is : (p : Point) (e : Tcb) (segment : Segment) → Meets p e segment → sender.acknowledges p segment ≡ acknowledges e segment
acknowledges_is p e segment m = λ i. counts_is p e segment m i && int_le (pos 0) (ack_is p e segment m i)

acknowledged_is : (p : Point) (e : Tcb) (segment : Segment) → Meets p e segment → acknowledges e segment ≡ true
    → sender.acknowledged_by p segment ≡ nat_abs (ack_at e segment)
acknowledged_is p e segment m does =
    (λ i. min (nat_abs (ack_is p e segment m i)) (m.sent i))
    ∙ used_whole (ack_at e segment) e.sending.sent (right_true (counts e segment) (int_le (pos 0) (ack_at e segment)) does)
    (counted e segment (left_true (counts e segment) (int_le (pos 0) (ack_at e segment)) does)).sent

pub una_is : (p : Point) (e : Tcb) (segment : Segment) → Meets p e segment
    → sender.acknowledged_after (Comes segment) p ≡ (if acknowledges e segment then una_after e.sending.una (nat_abs (ack_at e segment)) else e.sending.una)
unfolding sender.acknowledged_after
una_is p e segment m =
    ap (λ b. if b then una_after p.una (sender.acknowledged_by p segment) else p.una) (acknowledges_is p e segment m)
    ∙ if_when (acknowledges e segment) (una_after p.una (sender.acknowledged_by p segment)) (una_after e.sending.una (nat_abs (ack_at e segment))) p.una e.sending.una
    (λ h i. una_after (m.sends.una i) (acknowledged_is p e segment m h i)) (λ h. m.sends.una)

-- the window's test, once an acknowledgement has counted
uses_of_acknowledged : (e : Tcb) (segment : Segment) → acknowledges e segment ≡ true → uses e segment ≡ true
uses_of_acknowledged e segment h = (counted e segment (left_true (counts e segment) (int_le (pos 0) (ack_at e segment)) h)).used

window_test_moves : (una wl2 : ℕ) (wl1 first : ℤ) (ack k : ℕ) → updates_window una (wl1 +ℤ pos k) wl2 (first +ℤ pos k) ack ≡ updates_window una wl1 wl2 first ack
window_test_moves una wl2 wl1 first ack k =
    let una_same : una + 0 ≡ una = omega arith in
    let wl2_same : wl2 + 0 ≡ wl2 = omega arith in
    let ack_same : ack + 0 ≡ ack = omega arith in
    (λ i. updates_window (sym una_same i) (wl1 +ℤ pos k) (sym wl2_same i) (first +ℤ pos k) (sym ack_same i))
    ∙ updates_window_shift una wl1 wl2 first ack k 0

newer_is : (p : Point) (e : Tcb) (segment : Segment) → Meets p e segment → acknowledges e segment ≡ true → e.sending.syn_acked ≡ true
    → updates_window p.una p.wl1 p.wl2 (first_of p.cisn segment) (sender.acknowledged_by p segment)
    ≡ updates_window e.sending.una (offset_of e.receiving.irs e.sending.wl1) e.sending.wl2 (first e segment) (nat_abs (ack_at e segment))
newer_is p e segment m does is_syn_acked =
    (λ i. updates_window (m.sends.una i) (m.sends.wl1 is_syn_acked i) (m.sends.wl2 i) (first_is p e segment m (uses_of_acknowledged e segment does) i)
    (acknowledged_is p e segment m does i))
    ∙ window_test_moves e.sending.una e.sending.wl2 (offset_of e.receiving.irs e.sending.wl1) (first e segment) (nat_abs (ack_at e segment)) p.fetched

unless_when : (o b b' : Bool) → (o ≡ true → b ≡ b') → (not o || b) ≡ (not o || b')
unless_when true b b' same = same refl
unless_when false b b' same = refl

moves_is : (p : Point) (e : Tcb) (segment : Segment) → Meets p e segment → sender.moves_edge p segment ≡ uses_window e segment
moves_is p e segment m =
    let newer : Bool = updates_window p.una p.wl1 p.wl2 (first_of p.cisn segment) (sender.acknowledged_by p segment) in
    (λ i. acknowledges_is p e segment m i && (not (m.sends.syn_acked i) || newer))
    ∙ and_when (acknowledges e segment) _ _ (λ h. unless_when e.sending.syn_acked _ _ (λ o. newer_is p e segment m h o))

window_whole : (window a b : ℕ) → window ≤ 65535 → a ≡ b → min 65535 (window + b - a) ≡ window
window_whole window a b small is = omega arith

window_is : (p : Point) (e : Tcb) (segment : Segment) → Meets p e segment → acknowledges e segment ≡ true → sender.window_by p segment ≡ segment.head.window
window_is p e segment m does =
    let same : nat_abs (ack_of p.sisn segment) ≡ nat_abs (ack_at e segment) = ap nat_abs (ack_is p e segment m) in
    window_whole segment.head.window (sender.acknowledged_by p segment) (nat_abs (ack_of p.sisn segment)) m.usual.window (acknowledged_is p e segment m does ∙ sym same)

uses_acknowledges : (e : Tcb) (segment : Segment) → uses_window e segment ≡ true → acknowledges e segment ≡ true
uses_acknowledges e segment h = left_true (acknowledges e segment) _ h

right_edge_is : (p : Point) (e : Tcb) (segment : Segment) → Meets p e segment
    → sender.edge_after (Comes segment) p ≡ (if uses_window e segment then nat_abs (ack_at e segment) + segment.head.window else e.sending.edge)
unfolding sender.edge_after
right_edge_is p e segment m =
    ap (λ b. if b then sender.acknowledged_by p segment + sender.window_by p segment else p.edge) (moves_is p e segment m)
    ∙ if_when (uses_window e segment) (sender.acknowledged_by p segment + sender.window_by p segment) (nat_abs (ack_at e segment) + segment.head.window) p.edge e.sending.edge
    (λ h i. acknowledged_is p e segment m (uses_acknowledges e segment h) i + window_is p e segment m (uses_acknowledges e segment h) i) (λ h. m.sends.edge)

-- the first that counts uses the window
first_uses : (c o a w : Bool) → (c ≡ true → o ≡ false → a ≡ true) → (o || c) ≡ true → ((c && a) && (not o || w)) ≡ false → o ≡ true
first_uses c true a w up h none = refl
first_uses true false true w up h none = absurd (false≢true (sym none))
first_uses true false false w up h none = absurd (false≢true (up refl refl))
first_uses false false a w up h none = h

syn_acked_before : (e : Tcb) (segment : Segment) → (e.sending.syn_acked || counts e segment) ≡ true → uses_window e segment ≡ false → e.sending.syn_acked ≡ true
syn_acked_before e segment h none =
    first_uses (counts e segment) e.sending.syn_acked (int_le (pos 0) (ack_at e segment)) _ (λ c. (counted e segment c).acks_syn) h none

wl1_choice : (u : Bool) (z x x' y y' : ℤ) → z ≡ (if u then x' else y') → (u ≡ true → x ≡ x') → (u ≡ false → y ≡ y') → (if u then x else y) ≡ z
wl1_choice true z x x' y y' is on off = on refl ∙ sym is
wl1_choice false z x x' y y' is on off = off refl ∙ sym is

plus_choice : (u : Bool) (x y k : ℤ) → (if u then x else y) +ℤ k ≡ (if u then x +ℤ k else y +ℤ k)
plus_choice true x y k = refl
plus_choice false x y k = refl

wl1_is : (p : Point) (e : Tcb) (segment : Segment) → Meets p e segment → (e.sending.syn_acked || counts e segment) ≡ true
    → sender.wl1_after (Comes segment) p
    ≡ (if uses_window e segment then first e segment else offset_of e.receiving.irs e.sending.wl1) +ℤ pos p.fetched
unfolding sender.wl1_after
wl1_is p e segment m is_syn_acked =
    ap (λ b. if b then first_of p.cisn segment else p.wl1) (moves_is p e segment m)
    ∙ if_when (uses_window e segment) (first_of p.cisn segment) (first e segment +ℤ pos p.fetched) p.wl1 (offset_of e.receiving.irs e.sending.wl1 +ℤ pos p.fetched)
    (λ h. first_is p e segment m (uses_of_acknowledged e segment (uses_acknowledges e segment h)))
    (λ h. m.sends.wl1 (syn_acked_before e segment is_syn_acked h))
    ∙ sym (plus_choice (uses_window e segment) (first e segment) (offset_of e.receiving.irs e.sending.wl1) (pos p.fetched))

wl2_is : (p : Point) (e : Tcb) (segment : Segment) → Meets p e segment
    → sender.wl2_after (Comes segment) p ≡ (if uses_window e segment then nat_abs (ack_at e segment) else e.sending.wl2)
unfolding sender.wl2_after
wl2_is p e segment m =
    ap (λ b. if b then sender.acknowledged_by p segment else p.wl2) (moves_is p e segment m)
    ∙ if_when (uses_window e segment) (sender.acknowledged_by p segment) (nat_abs (ack_at e segment)) p.wl2 e.sending.wl2
    (λ h. acknowledged_is p e segment m (uses_acknowledges e segment h)) (λ h. m.sends.wl2)

-- a duplicate acknowledgement
duplicate_is : (p : Point) (e : Tcb) (segment : Segment) → Meets p e segment → sender.is_duplicate p segment ≡ is_duplicate e segment
unfolding sender.is_duplicate
duplicate_is p e segment m =
    let s : Sending = e.sending in
    let ack : ℕ = nat_abs (ack_at e segment) in
    let rest : Bool → ℕ → ℕ → ℕ → ℕ → ℕ → Bool = λ acked place una sent reached edge.
    acked && length (text_of segment) == 0 && not (fin_of segment) && place == una && nat_lt una sent && reached == edge in
    by_cases (acknowledges e segment)
    (λ h i. rest (acknowledges_is p e segment m i) (acknowledged_is p e segment m h i) (m.sends.una i) (m.sent i)
    (acknowledged_is p e segment m h i + window_is p e segment m h i) (m.sends.edge i))
    (λ h. ap (λ b. rest b (sender.acknowledged_by p segment) p.una p.sent (sender.acknowledged_by p segment + sender.window_by p segment) p.edge)
    (acknowledges_is p e segment m ∙ h)
    ∙ ap (λ b. rest b ack s.una s.sent (ack + segment.head.window) s.edge) (sym h))

third_is : (p : Point) (e : Tcb) (segment : Segment) → Meets p e segment → sender.is_third_duplicate (Comes segment) p ≡ is_third_duplicate e segment
unfolding sender.is_third_duplicate
third_is p e segment m = λ i. duplicate_is p e segment m i && is_third (m.sends.congestion i)

-- what shows a loss
partial_is : (p : Point) (e : Tcb) (segment : Segment) → Meets p e segment → sender.is_partial_ack (Comes segment) p ≡ is_partial_ack e segment
unfolding sender.is_partial_ack
partial_is p e segment m =
    let s : Sending = e.sending in
    let part : Bool → ℕ → ℕ → Congestion → Bool = λ acked place una c. acked && nat_lt una place && is_partial (place - una) c in
    by_cases (acknowledges e segment)
    (λ h i. part (acknowledges_is p e segment m i) (acknowledged_is p e segment m h i) (m.sends.una i) (m.sends.congestion i))
    (λ h. (λ i. part ((acknowledges_is p e segment m ∙ h) i) (sender.acknowledged_by p segment) (m.sends.una i) (m.sends.congestion i))
    ∙ ap (λ b. part b (nat_abs (ack_at e segment)) s.una s.congestion) (sym h))

pub loss_is : (p : Point) (e : Tcb) (segment : Segment) → Meets p e segment → sender.resends (Comes segment) p ≡ shows_loss e segment
loss_is p e segment m = λ i. third_is p e segment m i || partial_is p e segment m i

-- the congestion window
congestion_is : (p : Point) (e : Tcb) (segment : Segment) → Meets p e segment → sender.congestion_after (Comes segment) p ≡ congestion_by e segment
unfolding sender.congestion_after
congestion_is p e segment m =
    let s : Sending = e.sending in
    let ack : ℕ = nat_abs (ack_at e segment) in
    let chosen : Bool → Bool → ℕ → ℕ → ℕ → ℕ → Congestion → Congestion = λ acked duplicate mss place una sent c.
    if acked && nat_lt una place then with_new_data mss (place - una) c else (if duplicate then with_duplicate mss (sent - una) c else c) in
    by_cases (acknowledges e segment)
    (λ h i. chosen (acknowledges_is p e segment m i) (duplicate_is p e segment m i) (m.sends.mss i) (acknowledged_is p e segment m h i) (m.sends.una i)
    (m.sent i) (m.sends.congestion i))
    (λ h. (λ i. chosen ((acknowledges_is p e segment m ∙ h) i) (duplicate_is p e segment m i) (m.sends.mss i) (sender.acknowledged_by p segment)
    (m.sends.una i) (m.sent i) (m.sends.congestion i))
    ∙ ap (λ b. chosen b (is_duplicate e segment) s.mss ack s.una s.sent s.congestion) (sym h))

pub syn_acked_is : (p : Point) (e : Tcb) (segment : Segment) → Meets p e segment
    → sender.syn_acked_after (Comes segment) p ≡ (e.sending.syn_acked || counts e segment)
unfolding sender.syn_acked_after
syn_acked_is p e segment m = λ i. m.sends.syn_acked i || counts_is p e segment m i

-- the point that the laws lead to where a segment comes, with the reads as they were: all that a segment changes at once
abbrev pub point_after : Segment → Point → Point
point_after segment p = record p {
  taken = model.taken_after (Comes segment) p;
  fin = model.fin_after (Comes segment) p;
  early = model.early_after (Comes segment) p;
  syn_acked = sender.syn_acked_after (Comes segment) p;
  una = sender.acknowledged_after (Comes segment) p;
  edge = sender.edge_after (Comes segment) p;
  wl1 = sender.wl1_after (Comes segment) p;
  wl2 = sender.wl2_after (Comes segment) p;
  congestion = sender.congestion_after (Comes segment) p;
  timestamping = timestamping_after (Comes segment) p;
}

receives_after : (p : Point) (e after : Tcb) (segment : Segment) → Meets p e segment → after.receiving ≡ taken_by e segment → ReceivesAt (point_after segment p) after
unfolding with_came model.taken_after model.early_after model.fin_after
receives_after p e after segment m receiving =
    let r : ReceivesAt p e = m.receives in
    let is : after.receiving ≡ with_came e.receiving (brought e segment) = receiving ∙ taken_by_is e segment in
    let irs : after.receiving.irs ≡ e.receiving.irs = ap (λ (q : Receiving). q.irs) is in
    let limit : after.receiving.limit ≡ e.receiving.limit = ap (λ (q : Receiving). q.limit) is in
    let read : after.receiving.read ≡ e.receiving.read = ap (λ (q : Receiving). q.read) is in
    let unread : after.receiving.unread ≡ e.receiving.unread ++ (brought e segment).added = ap (λ (q : Receiving). q.unread) is in
    let added : (model.came p segment).added ≡ (brought e segment).added = ap (λ (c : Came). c.added) (came_is p e segment m) in
    record {
      cisn = irs ∙ r.cisn;
      limit = ap (λ n. n + p.fetched) limit ∙ r.limit;
      read = r.read ∙ ap (λ n. n + p.fetched) (sym read);
      long = (λ i. length (p.taken ++ added i)) ∙ grown_long p.taken e.receiving.unread (brought e segment).added e.receiving.read p.fetched r.long
          ∙ (λ i. sym read i + length (sym unread i) + p.fetched);
      unread = (λ i. drop (read i + p.fetched) (p.taken ++ added i))
          ∙ grown_rest p.taken e.receiving.unread (brought e segment).added e.receiving.read p.fetched r.unread r.long ∙ sym unread;
      fin = ap (λ (c : Came). c.fin) (came_is p e segment m) ∙ sym (ap (λ (q : Receiving). q.fin) is);
      early = ap (λ (c : Came). c.early) (came_is p e segment m) ∙ ap (λ (q : Receiving). early_from p.fetched q.early) (sym is);
    }

sends_after : (p : Point) (e after : Tcb) (segment : Segment) → Meets p e segment → after.receiving ≡ taken_by e segment → IsSentBy e segment after.sending
    → after.sending.mss ≡ e.sending.mss → SendsAt (point_after segment p) after
sends_after p e after segment m receiving sending mss =
    let irs : after.receiving.irs ≡ e.receiving.irs = ap (λ (q : Receiving). q.irs) receiving ∙ (taken_within e segment).irs in
    record {
      sisn = m.sends.sisn ∙ sym sending.iss;
      mss = m.sends.mss ∙ sym mss;
      syn_acked = syn_acked_is p e segment m ∙ sym sending.syn_acked;
      una = una_is p e segment m ∙ sym sending.una;
      edge = right_edge_is p e segment m ∙ sym sending.edge;
      wl1 = λ h. wl1_is p e segment m (sym sending.syn_acked ∙ h) ∙ ap (λ z. z +ℤ pos p.fetched) (sym sending.wl1)
          ∙ ap (λ n. offset_of n after.sending.wl1 +ℤ pos p.fetched) (sym irs);
      wl2 = wl2_is p e segment m ∙ sym sending.wl2;
      congestion = congestion_is p e segment m ∙ sym sending.congestion;
    }

pub received_receives : (p : Point) (e : Tcb) (segment : Segment) → has_begun e.name ≡ true → Meets p e segment → ReceivesAt (point_after segment p) (received e segment)
received_receives p e segment begun m = receives_after p e (received e segment) segment m (taken_law e segment begun m.bounds m.usual)

pub received_sends : (p : Point) (e : Tcb) (segment : Segment) → has_begun e.name ≡ true → Meets p e segment → (received e segment).sending.mss ≡ e.sending.mss
    → SendsAt (point_after segment p) (received e segment)
received_sends p e segment begun m mss =
    sends_after p e (received e segment) segment m (taken_law e segment begun m.bounds m.usual) (sending_law e segment begun m.bounds m.usual) mss
