-- The own numbers, modulo 2^32, against the sender's offsets.
use Rattle.std.proofs.Common.{◌≡◌, ℕ, ◌<◌, ◌≤◌, ◌+◌, ◌-◌, ◌%◌, ◌^◌, Bool, true, false, not, refl, sym, ap, arith, ◌∙◌, List, length, drop, min}
use Rattle.std.specs.Prelude.{ℤ, pos, ◌==◌, ◌&&◌, ◌||◌, nat_abs, nat_lt, nat_le, nat_eq, int_le, if◌then◌else◌}
use Rattle.std.proofs.lemmas.Int.{ints}
use Rattle.std.proofs.lemmas.List.{drop_min}
use Rattle.seq_arith.specs.Number.{distance, number_at, offset_of, precedes, precedes_or_is}
use Rattle.tcp_rules.specs.Arrival.{int_eq, is_new_ack}
use Rattle.tcp_rules.specs.Congestion.{with_new_data, is_partial, is_third}
use Rattle.tcp_rules.specs.Timing.{Timing, with_acknowledged}
use Rattle.seq_arith.proofs.Gaps.{offset_leads}
use Rattle.tcp_buffers.specs.declared.send_state.AckKind.{AckKind}
use Rattle.tcp_buffers.specs.declared.send_state.AckKind.TheVariants.{New, Old, Beyond}
use Rattle.tcp_buffers.specs.declared.send_state.SendState.{SendState}
use Rattle.tcp_buffers.specs.SendNumbers.{acks_new, acks_beyond, kind_of, una_by, interval_by, left_by, is_window_used, edge_of, congestion_of, congestion_by, segment_of, IsUsed}
use Rattle.tcp_buffers.specs.Near.{is_ahead}
use Rattle.tcp_buffers.proofs.NumbersShow.{ahead_is, WasSent, sent_by, from_is, up_to_is, new_is}
use Rattle.tcp_endpoint.specs.SendHalf.{Sending, own, sending_of, moves_edge, acknowledged, units_of, was_sent, repeats, acks_part, is_duplicate, is_third_duplicate, is_partial_ack, shows_loss, duplicated, untimed_if, answered_by, NumbersFit, IsShort}
use Rattle.tcp_endpoint.specs.SendHalf.{timing_by, interval_computed, rest_computed, restarted}
use Rattle.ft_io.proofs.Booleans.{left_true, and_when, second_of_three, first_of_three, second_of_four}

pub first_is : (iss ack : ℕ) → ack < 2 ^ 32 → nat_eq ack ((iss + 1) % 2 ^ 32) ≡ int_eq (offset_of iss ack) (pos 0)
first_is iss ack small = grind (arith, ints, offset_leads iss ack small)

-- numbers of the own stream by their offsets
una_number : (iss una : ℕ) → una < 2 ^ 32 → una ≡ number_at iss (own iss una)
una_number iss una fits = omega arith

nxt_number : (iss una nxt : ℕ) → una < 2 ^ 32 → nxt < 2 ^ 32 → nxt ≡ number_at iss (own iss una + distance nxt una)
nxt_number iss una nxt fits_una fits_nxt = omega arith

own_is : (iss ack : ℕ) → ack < 2 ^ 32 → int_le (pos 0) (offset_of iss ack) ≡ true → own iss ack ≡ nat_abs (offset_of iss ack)
own_is iss ack fits up = grind (arith, ints, offset_leads iss ack fits)

wl2_is : (iss w ack : ℕ) → w ≤ 2 ^ 30 → ack < 2 ^ 32 → int_le (pos 0) (offset_of iss ack) ≡ true
    → precedes_or_is (number_at iss w) ack ≡ nat_le w (nat_abs (offset_of iss ack))
wl2_is iss w ack short fits up = grind (arith, ints, offset_leads iss ack fits)

above_zero : (u : ℕ) (z : ℤ) → int_le (pos u) z ≡ true → int_le (pos 0) z ≡ true
above_zero u z h = grind (arith, ints)

-- the tests, on numbers and on offsets
pub ahead_test : (iss una nxt ack : ℕ) → una < 2 ^ 32 → nxt < 2 ^ 32 → ack < 2 ^ 32 → own iss una + distance nxt una ≤ 2 ^ 30
    → acks_beyond nxt ack ≡ is_ahead (own iss una + distance nxt una) (offset_of iss ack)
ahead_test iss una nxt ack fits_una fits_nxt fits_ack short =
    ap (λ n. acks_beyond n ack) (nxt_number iss una nxt fits_una fits_nxt) ∙ ahead_is iss _ ack short fits_ack

new_test : (iss una nxt ack : ℕ) → una < 2 ^ 32 → nxt < 2 ^ 32 → ack < 2 ^ 32 → own iss una + distance nxt una ≤ 2 ^ 30
    → is_ahead (own iss una + distance nxt una) (offset_of iss ack) ≡ false
    → acks_new una nxt ack ≡ is_new_ack (own iss una) (own iss una + distance nxt una) (offset_of iss ack)
new_test iss una nxt ack fits_una fits_nxt fits_ack short was =
    (λ i. acks_new (una_number iss una fits_una i) (nxt_number iss una nxt fits_una fits_nxt i) ack)
    ∙ new_is iss (own iss una) (own iss una + distance nxt una) ack (omega arith) short fits_ack was

-- a duplicate, on numbers and on offsets: it acknowledges SND.UNA, ..
at_una : (iss una ack : ℕ) → una < 2 ^ 32 → ack < 2 ^ 32 → own iss una ≤ 2 ^ 30 → int_eq (offset_of iss ack) (pos (own iss una)) ≡ nat_eq ack una
at_una iss una ack fits_una fits_ack short = grind (arith, ints, offset_leads iss ack fits_ack)

-- .. something is in flight, ..
flight_test : (iss una nxt : ℕ) → una < 2 ^ 32 → nxt < 2 ^ 32 → nat_lt (own iss una) (own iss una + distance nxt una) ≡ not (nat_eq una nxt)
flight_test iss una nxt fits_una fits_nxt = grind arith

-- .. and the edge stands
edge_stands : (iss una wnd window : ℕ) → una < 2 ^ 32 → wnd < 2 ^ 32 → window < 2 ^ 16 → own iss una ≤ 2 ^ 30
    → nat_eq (own iss una + window) (own iss ((una + wnd) % 2 ^ 32)) ≡ nat_eq wnd window
edge_stands iss una wnd window fits_una fits_wnd small short = grind arith

at_offset : (u : ℕ) (z : ℤ) → int_eq z (pos u) ≡ true → nat_abs z ≡ u
at_offset u z h = grind (arith, ints)

repeated_is : (iss : ℕ) (n : SendState) (seq ack window : ℕ) → NumbersFit n seq ack → window < 2 ^ 16 → own iss n.una.0 ≤ 2 ^ 30
    → repeats n ack window
    ≡ (int_eq (offset_of iss ack) (pos (own iss n.una.0)) && nat_lt (own iss n.una.0) (own iss n.una.0 + distance n.nxt.0 n.una.0)
    && nat_abs (offset_of iss ack) + window == own iss (edge_of n))
repeated_is iss n seq ack window fits small short =
    let z : ℤ = offset_of iss ack in
    let at : int_eq z (pos (own iss n.una.0)) ≡ nat_eq ack n.una.0 = at_una iss n.una.0 ack fits.una fits.ack short in
    sym ((λ i. at i && flight_test iss n.una.0 n.nxt.0 fits.una fits.nxt i && nat_eq (nat_abs z + window) (own iss (edge_of n)))
    ∙ and_when (nat_eq ack n.una.0 && not (nat_eq n.una.0 n.nxt.0)) _ _ (λ h.
    ap (λ k. nat_eq (k + window) (own iss (edge_of n))) (at_offset (own iss n.una.0) z (at ∙ left_true (nat_eq ack n.una.0) _ h))
    ∙ edge_stands iss n.una.0 n.wnd window fits.una fits.wnd small short))

duplicate_by : (s : Sending) (bare : Bool) (z : ℤ) (window : ℕ) (repeated : Bool)
    → repeated ≡ (int_eq z (pos s.una) && nat_lt s.una s.sent && nat_abs z + window == s.edge) → (bare && repeated) ≡ is_duplicate s bare z window
unfolding is_duplicate
duplicate_by s true z window repeated is = is
duplicate_by s false z window repeated is = refl

pub duplicate_is : (iss : ℕ) (n : SendState) (seq ack window : ℕ) (syn_acked : Bool) (timing : Timing) (held : List ℕ) (closed fin_sent bare : Bool)
    → NumbersFit n seq ack → window < 2 ^ 16 → IsShort (sending_of iss syn_acked n timing held closed fin_sent)
    → (bare && repeats n ack window) ≡ is_duplicate (sending_of iss syn_acked n timing held closed fin_sent) bare (offset_of iss ack) window
duplicate_is iss n seq ack window syn_acked timing held closed fin_sent bare fits small short =
    duplicate_by (sending_of iss syn_acked n timing held closed fin_sent) bare (offset_of iss ack) window (repeats n ack window)
    (repeated_is iss n seq ack window fits small (omega (arith, short.sent)))

-- a conjunction whose later parts are only looked at where the first holds
guarded : (a b b' c c' d e : Bool) → (a ≡ true → b ≡ b') → (a ≡ true → c ≡ c') → (a && b && (d || (e && c))) ≡ (a && b' && (d || (e && c')))
guarded true b b' c c' d e same_b same_c = λ i. true && same_b refl i && (d || (e && same_c refl i))
guarded false b b' c c' d e same_b same_c = refl

window_test : (iss : ℕ) (n : SendState) (seq ack : ℕ) (syn_acked : Bool) (timing : Timing) (held : List ℕ) (closed fin_sent : Bool) → NumbersFit n seq ack
    → IsShort (sending_of iss syn_acked n timing held closed fin_sent) → WasSent (own iss n.una.0 + distance n.nxt.0 n.una.0) (offset_of iss ack)
    → is_window_used n seq ack ≡ moves_edge (sending_of iss syn_acked n timing held closed fin_sent) seq (offset_of iss ack)
window_test iss n seq ack syn_acked timing held closed fin_sent fits short was =
    let u : ℕ = own iss n.una.0 in
    let s : ℕ = u + distance n.nxt.0 n.una.0 in
    let w : ℕ = own iss n.wl2.0 in
    let z : ℤ = offset_of iss ack in
    let una : precedes_or_is n.una.0 ack ≡ int_le (pos u) z =
    ap (λ k. precedes_or_is k ack) (una_number iss n.una.0 fits.una) ∙ from_is iss u s ack (omega arith) short.sent fits.ack was in
    let nxt : int_le (pos u) z ≡ true → precedes_or_is ack n.nxt.0 ≡ int_le z (pos s) =
    λ up. ap (λ k. precedes_or_is ack k) (nxt_number iss n.una.0 n.nxt.0 fits.una fits.nxt) ∙ up_to_is iss s ack short.sent fits.ack (above_zero u z up) in
    let wl2 : int_le (pos u) z ≡ true → precedes_or_is n.wl2.0 ack ≡ nat_le w (nat_abs z) =
    λ up. ap (λ k. precedes_or_is k ack) (una_number iss n.wl2.0 fits.wl2) ∙ wl2_is iss w ack short.wl2 fits.ack (above_zero u z up) in
    ap (λ a. a && precedes_or_is ack n.nxt.0 && (precedes n.wl1.0 seq || (n.wl1.0 == seq && precedes_or_is n.wl2.0 ack))) una
    ∙ guarded (int_le (pos u) z) (precedes_or_is ack n.nxt.0) (int_le z (pos s)) (precedes_or_is n.wl2.0 ack) (nat_le w (nat_abs z)) (precedes n.wl1.0 seq)
    (n.wl1.0 == seq) nxt wl2

-- the fields, by whether the acknowledgement is new and whether the window is used
abbrev kind_by : Bool → ℕ → AckKind
kind_by b units = if b then New units else Old

una_field : (iss una ack una' : ℕ) (b : Bool) (d a : ℕ) → una' ≡ una_by (kind_by b d) una ack → (b ≡ true → own iss ack ≡ a)
    → own iss una' ≡ (if b then a else own iss una)
una_field iss una ack una' true d a is on = ap (own iss) is ∙ on refl
una_field iss una ack una' false d a is on = ap (own iss) is

sent_field : (iss una ack una' nxt s : ℕ) (b : Bool) (d : ℕ) → una' ≡ una_by (kind_by b d) una ack → own iss una + distance nxt una ≡ s
    → (b ≡ true → own iss ack + distance nxt ack ≡ s) → own iss una' + distance nxt una' ≡ s
sent_field iss una ack una' nxt s true d is before on = ap (λ n. own iss n + distance nxt n) is ∙ on refl
sent_field iss una ack una' nxt s false d is before on = ap (λ n. own iss n + distance nxt n) is ∙ before

held_field : (held : List ℕ) (b : Bool) (d k : ℕ) → (b ≡ true → d ≡ k)
    → drop (min (units_of (kind_by b d)) (length held)) held ≡ (if b then drop k held else held)
held_field held true d k on = drop_min d held ∙ ap (λ n. drop n held) (on refl)
held_field held false d k on = drop_min 0 held

timing_field : (b : Bool) (d k : ℕ) (t : Timing) → (b ≡ true → d ≡ k) → timing_by (kind_by b d) t ≡ (if b then with_acknowledged k t else t)
timing_field true d k t on = ap (λ n. with_acknowledged n t) (on refl)
timing_field false d k t on = refl

interval_field : (b : Bool) (d k interval interval' : ℕ) (t : Timing) → (b ≡ true → d ≡ k) → interval' ≡ interval_by (kind_by b d) interval
    → interval_computed (kind_by b d) t interval' ≡ (if b then (if b then with_acknowledged k t else t).base else interval)
interval_field true d k interval interval' t on is = ap (λ n. (with_acknowledged n t).base) (on refl)
interval_field false d k interval interval' t on is = is

congestion_field : (n : SendState) (b : Bool) (d k : ℕ) → segment_of n ≡ n.mss → (b ≡ true → d ≡ k)
    → congestion_by (kind_by b d) n ≡ (if b then with_new_data n.mss k (congestion_of n) else congestion_of n)
congestion_field n true d k segment on = λ i. with_new_data (segment i) (on refl i) (congestion_of n)
congestion_field n false d k segment on = refl

left_field : (b c : Bool) (d k nxt ack left left' : ℕ) (t : Timing) → (b ≡ true → d ≡ k) → (b ≡ true → nat_eq ack nxt ≡ c)
    → left' ≡ left_by (kind_by b d) nxt ack left
    → rest_computed (kind_by b d) t left' ≡ (if b then (if c then 0 else (if b then with_acknowledged k t else t).base) else left)
left_field true true d k nxt ack left left' t on all is =
    ap (λ m. if m == 0 then 0 else (with_acknowledged d t).base) (is ∙ ap (λ v. if v then 0 else 1) (all refl))
left_field true false d k nxt ack left left' t on all is =
    ap (λ m. if m == 0 then 0 else (with_acknowledged d t).base) (is ∙ ap (λ v. if v then 0 else 1) (all refl)) ∙ ap (λ n. (with_acknowledged n t).base) (on refl)
left_field false c d k nxt ack left left' t on all is = is

edge_field : (iss edge ack window : ℕ) (m m' : Bool) (a : ℕ) → m ≡ m' → (m' ≡ true → own iss ((ack + window) % 2 ^ 32) ≡ a)
    → own iss (if m then (ack + window) % 2 ^ 32 else edge) ≡ (if m' then a else own iss edge)
edge_field iss edge ack window m true a is on = ap (λ v. own iss (if v then (ack + window) % 2 ^ 32 else edge)) is ∙ on refl
edge_field iss edge ack window m false a is on = ap (λ v. own iss (if v then (ack + window) % 2 ^ 32 else edge)) is

choice_field : (x y y' : ℕ) (m m' : Bool) → m ≡ m' → (m' ≡ true → y ≡ y') → (if m then y else x) ≡ (if m' then y' else x)
choice_field x y y' m true is on = ap (λ v. if v then y else x) is ∙ on refl
choice_field x y y' m false is on = ap (λ v. if v then y else x) is

wl2_field : (iss x y a : ℕ) (m m' : Bool) → m ≡ m' → (m' ≡ true → own iss y ≡ a) → own iss (if m then y else x) ≡ (if m' then a else own iss x)
wl2_field iss x y a m true is on = ap (λ v. own iss (if v then y else x)) is ∙ on refl
wl2_field iss x y a m false is on = ap (λ v. own iss (if v then y else x)) is

-- what a new acknowledgement says
new_bounds : (u s : ℕ) (z : ℤ) → is_new_ack u s z ≡ true → (int_le (pos 0) z ≡ true) × (u < nat_abs z) × (nat_abs z ≤ s)
new_bounds u s z h = (grind (arith, ints), grind (arith, ints), grind (arith, ints))

new_distance : (iss una ack : ℕ) → una < 2 ^ 32 → ack < 2 ^ 32 → own iss una ≤ own iss ack → distance ack una ≡ own iss ack - own iss una
new_distance iss una ack fits_una fits_ack up = omega arith

rest_distance : (iss una nxt ack : ℕ) → una < 2 ^ 32 → nxt < 2 ^ 32 → ack < 2 ^ 32 → own iss una + distance nxt una ≤ 2 ^ 30 → own iss una ≤ own iss ack
    → own iss ack ≤ own iss una + distance nxt una → own iss ack + distance nxt ack ≡ own iss una + distance nxt una
rest_distance iss una nxt ack fits_una fits_nxt fits_ack short up within = omega arith

all_acked : (iss una nxt ack : ℕ) → una < 2 ^ 32 → nxt < 2 ^ 32 → ack < 2 ^ 32 → own iss una + distance nxt una ≤ 2 ^ 30
    → nat_abs (offset_of iss ack) ≤ own iss una + distance nxt una → int_le (pos 0) (offset_of iss ack) ≡ true
    → nat_eq ack nxt ≡ int_le (pos (own iss una + distance nxt una)) (offset_of iss ack)
all_acked iss una nxt ack fits_una fits_nxt fits_ack short within up = grind (arith, ints, offset_leads iss ack fits_ack)

edge_reached : (iss ack window a : ℕ) → ack < 2 ^ 32 → own iss ack ≡ a → a ≤ 2 ^ 30 → window < 2 ^ 16 → own iss ((ack + window) % 2 ^ 32) ≡ a + window
edge_reached iss ack window a fits is near small = omega arith

-- what moves the edge was sent
moved_short : (s : Sending) (seq : ℕ) (z : ℤ) → s.sent ≤ 2 ^ 30 → moves_edge s seq z ≡ true → nat_abs z ≤ 2 ^ 30
moved_short s seq z short h =
    let up : int_le (pos 0) z ≡ true = above_zero s.una z (first_of_three (int_le (pos s.una) z) (int_le z (pos s.sent)) _ h)
    in let sent : int_le z (pos s.sent) ≡ true = second_of_three (int_le (pos s.una) z) (int_le z (pos s.sent)) _ h
    in grind (arith, ints)

-- the kind of an acknowledgement that isn't beyond SND.NXT
kind_is : (una nxt ack : ℕ) (b : Bool) → acks_beyond nxt ack ≡ false → acks_new una nxt ack ≡ b → kind_of una nxt ack ≡ kind_by b (distance ack una)
kind_is una nxt ack b is_sent is = rw (is_sent, is) refl

-- a sender whose fields are these
same_sender : (s s' : Sending) → s.iss ≡ s'.iss → s.syn_acked ≡ s'.syn_acked → s.una ≡ s'.una → s.sent ≡ s'.sent → s.edge ≡ s'.edge
    → s.wl1 ≡ s'.wl1 → s.wl2 ≡ s'.wl2 → s.held ≡ s'.held → s.closed ≡ s'.closed → s.fin_sent ≡ s'.fin_sent → s.mss ≡ s'.mss
    → s.congestion ≡ s'.congestion → s.timing ≡ s'.timing → s.interval ≡ s'.interval → s.rest ≡ s'.rest → s ≡ s'
same_sender s s' iss syn_acked una sent edge wl1 wl2 held closed fin_sent mss congestion timing interval rest = λ i. record {
  iss = iss i;
  syn_acked = syn_acked i;
  una = una i;
  sent = sent i;
  edge = edge i;
  wl1 = wl1 i;
  wl2 = wl2 i;
  held = held i;
  closed = closed i;
  fin_sent = fin_sent i;
  mss = mss i;
  congestion = congestion i;
  timing = timing i;
  interval = interval i;
  rest = rest i;
}

-- what an acknowledgement that isn't beyond SND.NXT makes of the numbers, once the timer's interval is computed, is what it makes of the offsets
pub acknowledged_is : (iss : ℕ) (n n' : SendState) (seq ack window : ℕ) (syn_acked : Bool) (timing : Timing) (held : List ℕ) (closed fin_sent : Bool)
    → NumbersFit n seq ack → window < 2 ^ 16 → IsShort (sending_of iss syn_acked n timing held closed fin_sent)
    → segment_of n ≡ n.mss → IsUsed n n' seq ack window → acks_beyond n.nxt.0 ack ≡ false
    → sending_of iss syn_acked (restarted (kind_of n.una.0 n.nxt.0 ack) timing n') (timing_by (kind_of n.una.0 n.nxt.0 ack) timing)
    (drop (min (units_of (kind_of n.una.0 n.nxt.0 ack)) (length held)) held) closed fin_sent
    ≡ acknowledged (sending_of iss syn_acked n timing held closed fin_sent) seq (offset_of iss ack) window
unfolding acknowledged
acknowledged_is iss n n' seq ack window syn_acked timing held closed fin_sent fits small short large used is_sent =
    let u : ℕ = own iss n.una.0 in
    let s : ℕ = u + distance n.nxt.0 n.una.0 in
    let z : ℤ = offset_of iss ack in
    let b : Bool = is_new_ack u s z in
    let was : is_ahead s z ≡ false = sym (ahead_test iss n.una.0 n.nxt.0 ack fits.una fits.nxt fits.ack short.sent) ∙ is_sent in
    let before : Sending = sending_of iss syn_acked n timing held closed fin_sent in
    let d : ℕ = distance ack n.una.0 in
    let is_new : acks_new n.una.0 n.nxt.0 ack ≡ b = new_test iss n.una.0 n.nxt.0 ack fits.una fits.nxt fits.ack short.sent was in
    let kind : kind_of n.una.0 n.nxt.0 ack ≡ kind_by b d = kind_is n.una.0 n.nxt.0 ack b is_sent is_new in
    let moves : is_window_used n seq ack ≡ moves_edge before seq z = window_test iss n seq ack syn_acked timing held closed fin_sent fits short (sent_by s z was) in
    let a : ℕ = nat_abs z in
    let on : b ≡ true → own iss ack ≡ a = λ h. own_is iss ack fits.ack (new_bounds u s z h).0 in
    let up : b ≡ true → u ≤ own iss ack = λ h. omega (arith, on h, (new_bounds u s z h).1) in
    let within : b ≡ true → own iss ack ≤ s = λ h. omega (arith, on h, (new_bounds u s z h).2) in
    let moved : moves_edge before seq z ≡ true → own iss ack ≡ a =
    λ h. own_is iss ack fits.ack (above_zero u z (first_of_three (int_le (pos u) z) (int_le z (pos s)) _ h)) in
    let una_is : n'.una.0 ≡ una_by (kind_by b d) n.una.0 ack = used.una ∙ ap (λ k. una_by k n.una.0 ack) kind in
    let nxt_is : n'.nxt.0 ≡ n.nxt.0 = ap (λ q. q.0) used.nxt in
    let units : b ≡ true → d ≡ a - u = λ h. new_distance iss n.una.0 ack fits.una fits.ack (up h) ∙ ap (λ v. v - u) (on h) in
    same_sender _ _ refl refl
    (una_field iss n.una.0 ack n'.una.0 b d a una_is on)
    (ap (λ q. own iss n'.una.0 + distance q n'.una.0) nxt_is
    ∙ sent_field iss n.una.0 ack n'.una.0 n.nxt.0 s b d una_is refl
    (λ h. rest_distance iss n.una.0 n.nxt.0 ack fits.una fits.nxt fits.ack short.sent (up h) (within h)))
    (ap (own iss) used.edge ∙ edge_field iss (edge_of n) ack window (is_window_used n seq ack) (moves_edge before seq z) (a + window) moves
    (λ h. edge_reached iss ack window a fits.ack (moved h) (moved_short before seq z (omega (arith, short.sent)) h) small))
    (used.wl1 ∙ choice_field n.wl1.0 seq seq _ _ moves (λ h. refl))
    (ap (own iss) used.wl2 ∙ wl2_field iss n.wl2.0 ack a _ _ moves moved)
    (ap (λ k. drop (min (units_of k) (length held)) held) kind
    ∙ held_field held b d (a - u) units)
    refl refl used.mss
    (used.congestion ∙ ap (λ k. congestion_by k n) kind ∙ congestion_field n b d (a - u) large units)
    (ap (λ k. timing_by k timing) kind ∙ timing_field b d (a - u) timing units)
    (ap (λ k. interval_computed k timing n'.interval) kind
    ∙ interval_field b d (a - u) n.interval n'.interval timing units (used.interval ∙ ap (λ k. interval_by k n.interval) kind))
    (ap (λ k. rest_computed k timing n'.left) kind
    ∙ left_field b (int_le (pos s) z) d (a - u) n.nxt.0 ack n.left n'.left timing units
    (λ h. all_acked iss n.una.0 n.nxt.0 ack fits.una fits.nxt fits.ack short.sent (new_bounds u s z h).2 (new_bounds u s z h).0)
    (used.left ∙ ap (λ k. left_by k n.nxt.0 ack n.left) kind))

-- a partial acknowledgement, on numbers and on offsets
pub part_is : (iss : ℕ) (n : SendState) (seq ack : ℕ) (syn_acked : Bool) (timing : Timing) (held : List ℕ) (closed fin_sent : Bool)
    → NumbersFit n seq ack → IsShort (sending_of iss syn_acked n timing held closed fin_sent)
    → is_ahead (sending_of iss syn_acked n timing held closed fin_sent).sent (offset_of iss ack) ≡ false
    → acks_part n ack ≡ is_partial_ack (sending_of iss syn_acked n timing held closed fin_sent) (offset_of iss ack)
part_is iss n seq ack syn_acked timing held closed fin_sent fits short was =
    let u : ℕ = own iss n.una.0 in
    let s : ℕ = u + distance n.nxt.0 n.una.0 in
    let z : ℤ = offset_of iss ack in
    let b : Bool = is_new_ack u s z in
    let is_new : acks_new n.una.0 n.nxt.0 ack ≡ b = new_test iss n.una.0 n.nxt.0 ack fits.una fits.nxt fits.ack short.sent was in
    let on : b ≡ true → own iss ack ≡ nat_abs z = λ h. own_is iss ack fits.ack (new_bounds u s z h).0 in
    let up : b ≡ true → u ≤ own iss ack = λ h. omega (arith, on h, (new_bounds u s z h).1) in
    ap (λ v. v && is_partial (distance ack n.una.0) (congestion_of n)) is_new
    ∙ and_when b _ _ (λ h. ap (λ d. is_partial d (congestion_of n))
    (new_distance iss n.una.0 ack fits.una fits.ack (up h) ∙ ap (λ v. v - u) (on h)))

kind_sent : (beyond new : Bool) (d : ℕ) → was_sent (if beyond then Beyond else (if new then New d else Old)) ≡ not beyond
kind_sent true new d = refl
kind_sent false true d = refl
kind_sent false false d = refl

choose : (b b' : Bool) (x y z : Sending) → b ≡ b' → (b ≡ true → x ≡ y) → (b ≡ false → x ≡ z) → x ≡ (if b' then y else z)
choose b true x y z is on off = on is
choose b false x y z is on off = off is

-- what Sender::on_ack answers, ..
pub sent_is : (iss : ℕ) (n : SendState) (seq ack : ℕ) (syn_acked : Bool) (timing : Timing) (held : List ℕ) (closed fin_sent : Bool) (kind : AckKind)
    → NumbersFit n seq ack → IsShort (sending_of iss syn_acked n timing held closed fin_sent)
    → kind ≡ kind_of n.una.0 n.nxt.0 ack
    → was_sent kind ≡ not (is_ahead (sending_of iss syn_acked n timing held closed fin_sent).sent (offset_of iss ack))
sent_is iss n seq ack syn_acked timing held closed fin_sent kind fits short is =
    ap was_sent is ∙ kind_sent (acks_beyond n.nxt.0 ack) (acks_new n.una.0 n.nxt.0 ack) (distance ack n.una.0)
    ∙ ap not (ahead_test iss n.una.0 n.nxt.0 ack fits.una fits.nxt fits.ack short.sent)

-- .. and what it makes of the sender
pub used_is : (iss : ℕ) (n n' m : SendState) (seq ack window : ℕ) (syn_acked : Bool) (timing t : Timing) (held held' : List ℕ) (closed fin_sent : Bool) (kind : AckKind)
    → NumbersFit n seq ack → window < 2 ^ 16 → IsShort (sending_of iss syn_acked n timing held closed fin_sent) → segment_of n ≡ n.mss
    → kind ≡ kind_of n.una.0 n.nxt.0 ack → IsUsed n n' seq ack window → (kind ≡ Beyond → n' ≡ n)
    → held' ≡ drop (min (units_of kind) (length held)) held → m ≡ restarted kind timing n' → t ≡ timing_by kind timing
    → sending_of iss syn_acked m t held' closed fin_sent
    ≡ (if is_ahead (sending_of iss syn_acked n timing held closed fin_sent).sent (offset_of iss ack)
    then sending_of iss syn_acked n timing held closed fin_sent
    else acknowledged (sending_of iss syn_acked n timing held closed fin_sent) seq (offset_of iss ack) window)
used_is iss n n' m seq ack window syn_acked timing t held held' closed fin_sent kind fits small short large is used unused held_is m_is t_is =
    let after : AckKind → Sending = λ k.
    sending_of iss syn_acked (restarted k timing n') (timing_by k timing) (drop (min (units_of k) (length held)) held) closed fin_sent in
    let all : sending_of iss syn_acked m t held' closed fin_sent ≡ after kind = λ i. sending_of iss syn_acked (m_is i) (t_is i) (held_is i) closed fin_sent in
    choose (acks_beyond n.nxt.0 ack) _ _ _ _ (ahead_test iss n.una.0 n.nxt.0 ack fits.una fits.nxt fits.ack short.sent)
    (λ h. let beyond : kind ≡ Beyond = is ∙ rw h refl in
    all ∙ ap after beyond ∙ ap (λ q. sending_of iss syn_acked n' timing q closed fin_sent) (drop_min 0 held)
    ∙ ap (λ q. sending_of iss syn_acked q timing held closed fin_sent) (unused beyond))
    (λ h. all ∙ ap after is
    ∙ acknowledged_is iss n n' seq ack window syn_acked timing held closed fin_sent fits small short large used h)

-- a duplicate acknowledges nothing new
not_new : (u s : ℕ) (z : ℤ) → int_eq z (pos u) ≡ true → is_new_ack u s z ≡ false
not_new u s z at = grind (arith, ints)

-- so the congestion window is what it was when a duplicate is counted
pub duplicate_keeps : (s : Sending) (bare : Bool) (seq : ℕ) (z : ℤ) (window : ℕ) → is_duplicate s bare z window ≡ true
    → (acknowledged s seq z window).congestion ≡ s.congestion
unfolding is_duplicate acknowledged
duplicate_keeps s bare seq z window h = rw (not_new s.una s.sent z (second_of_four bare _ _ _ h)) refl

-- so what was the third duplicate before the acknowledgement is used is it afterwards
pub third_is : (s : Sending) (bare : Bool) (seq : ℕ) (z : ℤ) (window : ℕ) (duplicate : Bool) (after : Sending) → duplicate ≡ is_duplicate s bare z window
    → after ≡ acknowledged s seq z window → (duplicate && is_third after.congestion) ≡ is_third_duplicate s bare z window
third_is s bare seq z window duplicate after is after_is =
    (λ i. is i && is_third (after_is i).congestion)
    ∙ and_when (is_duplicate s bare z window) _ _ (λ h. ap is_third (duplicate_keeps s bare seq z window h))

-- what shows a loss is the third duplicate, or a partial acknowledgement
pub loss_is : (s : Sending) (bare : Bool) (z : ℤ) (window : ℕ) (third partial : Bool) → third ≡ is_third_duplicate s bare z window
    → partial ≡ is_partial_ack s z → (third || partial) ≡ shows_loss s bare z window
unfolding shows_loss
loss_is s bare z window third partial is_third is_part = λ i. is_third i || is_part i

-- what an acknowledgement makes of the sender
pub answered_is : (s : Sending) (bare : Bool) (seq : ℕ) (z : ℤ) (window : ℕ) (duplicate loss : Bool) → duplicate ≡ is_duplicate s bare z window
    → loss ≡ shows_loss s bare z window
    → untimed_if loss (if duplicate then duplicated (acknowledged s seq z window) else acknowledged s seq z window) ≡ answered_by s bare seq z window
unfolding answered_by
answered_is s bare seq z window duplicate loss is_dup is_loss =
    λ i. untimed_if (is_loss i) (if is_dup i then duplicated (acknowledged s seq z window) else acknowledged s seq z window)
