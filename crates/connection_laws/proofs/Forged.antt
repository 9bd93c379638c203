-- A forged segment at the next number, without text and with window 0, changes what it is to change, and nothing else.
use Rattle.tcp_rules.specs.declared.timestamping.Timestamping.TheVariants.{Off}
use Rattle.std.proofs.Common.{◌≡◌, ℕ, zero, suc, ◌<◌, ◌+◌, ◌-◌, ◌^◌, Bool, true, false, not, [], ◌++◌, length, take, drop, sum, min, max, refl, sym, ap, subst, arith, append-nil, ◌∙◌}
use Rattle.std.specs.Prelude.{ℤ, pos, ◌+ℤ◌, ◌==◌, ◌&&◌, ◌||◌, nat_abs, nat_lt, int_lt, int_le, nat_le, if◌then◌else◌}
use Rattle.std.proofs.lemmas.Int.{ints}
use Rattle.std.proofs.lemmas.Bool.{false≢true, and_right}
use Rattle.tcp_rules.specs.Arrival.{int_eq, is_acceptable, is_at_right_edge, is_allowed_at_zero, is_usable, is_beyond, una_after, updates_window}
use Rattle.tcp_rules.specs.Coming.{nothing_came, nothing_early, comes}
use Rattle.tcp_rules.specs.Congestion.{is_partial, is_third, with_new_data, with_duplicate}
use Rattle.tcp_rules.proofs.Coming.{in_order, ComesAlone, comes_alone}
use Rattle.seq_arith.specs.Packet.{Segment, has_fin, has_syn, has_rst, has_ack}
use Rattle.server_trait.specs.Service.{Machine, reference}
use Rattle.tcp_rules.specs.Timing.{Timing, with_acknowledged, with_sample, without_trip, with_sent}
use Rattle.ft_model.specs.Offset.{one_if, first_of, ack_of, text_of, fin_of, length_of}
use Rattle.ft_model.specs.Point.{Point, taken_units, most, receive_edge, room, target}
use Rattle.ft_model.specs.News.News.{Comes}
use Rattle.ft_model.specs.Taken.{uses, acknowledges_unsent, counts, came, taken_after, early_after, fin_after}
use Rattle.ft_model.specs.Sending.{syn_acked_after, acknowledged_after, edge_after, wl1_after, wl2_after, is_duplicate, is_third_duplicate, is_partial_ack, resends, congestion_after, flight, sent_at_once, sent_after, timing_after, acknowledged_by, window_by}
use Rattle.ft_model.specs.Timer.{timing_noted, must_run, interval_after, rest_after}
use Rattle.endpoint_laws.specs.Refinement.{MeetsLaws}
use Rattle.ft_io.proofs.Booleans.{or_true, and_true, middle_false}
use Rattle.ft_io.proofs.Choices.{if_false}
use Rattle.ft_io.proofs.Numbers.{plus_none}
use Rattle.ft_model.proofs.StreamAgreement.{drop_nothing}
use Rattle.endpoint_laws.proofs.FirstPoint.{none_more}
use Rattle.ft_model.proofs.Stamped.{stays_off}

-- a service that writes nothing
abbrev pub silent : Machine ℕ
silent = record { fresh = 0; greeting = []; after = λ state chunk. record { next = 0; output = []; closed = false } }

pub record IsForged (p : Point) (segment : Segment) (fin : Bool) : Type 0 where
  pub ack : has_ack segment ≡ true
  pub syn : has_syn segment ≡ false
  pub rst : has_rst segment ≡ false
  pub fin_is : has_fin segment ≡ fin
  pub text : segment.payload ≡ []
  pub window : segment.head.window ≡ 0
  pub first : first_of p.cisn segment ≡ pos (length p.taken)
  pub back : ack_of p.sisn segment ≡ pos 0

-- all that was fetched is taken, nothing is held or sent, and nothing read
pub record IsFresh (p : Point) : Type 0 where
  pub fin : p.fin ≡ false
  pub early : p.early ≡ nothing_early
  pub una : p.una ≡ 0
  pub sent : p.sent ≡ 0
  pub edge : p.edge ≡ 0
  pub wl2 : p.wl2 ≡ 0
  pub lengths : p.lengths ≡ []
  pub fetched : p.fetched ≡ length p.taken
  pub wl1 : p.syn_acked ≡ true → p.wl1 ≡ pos (length p.taken)
  pub timed : p.timing.timed ≡ false
  pub timestamping : p.timestamping ≡ Off
  pub rest : p.syn_acked ≡ true → p.rest ≡ 0

take_none : (n : ℕ) → take {A = ℕ} n [] ≡ []
take_none zero = refl
take_none (suc n) = refl

acceptable_none : (n w : ℕ) → is_acceptable n w (pos n) 0 ≡ true
acceptable_none n w = grind (arith, ints)

acceptable_one : (n w : ℕ) → 0 < w → is_acceptable n w (pos n) 1 ≡ true
acceptable_one n w h = grind (arith, ints, h)

acceptable_if : (b : Bool) (n w : ℕ) → (b ≡ true → 0 < w) → is_acceptable n w (pos n) (if b then 1 else 0) ≡ true
acceptable_if true n w h = acceptable_one n w (h refl)
acceptable_if false n w h = acceptable_none n w

room_left : (n f : ℕ) → n < 2 ^ 24 → f ≡ n → 0 < min (max f 0 + 65535) (2 ^ 24) + 0 - (n + 0)
room_left n f h e = omega (arith, h, e)

at_start : (b : Bool) → (b || int_le (pos 0) (pos 0)) ≡ true
at_start true = refl
at_start false = grind (arith, ints)

sent_before : (n : ℕ) → is_beyond n (pos 0) ≡ false
sent_before n = grind (arith, ints)

forged_counts : (p : Point) (segment : Segment) (fin : Bool) → IsFresh p → IsForged p segment fin → (fin ≡ true → length p.taken < 2 ^ 24) → counts p segment ≡ true
unfolding counts uses acknowledges_unsent
forged_counts p segment fin f s few =
    let n : ℕ = length p.taken in
    let some : fin ≡ true → 0 < room p =
    λ h. subst (λ (r : ℕ). 0 < r) (sym (λ j. min (max p.fetched (sum (f.lengths j)) + 65535) (2 ^ 24) + (if f.fin j then 1 else 0) - (n + (if f.fin j then 1 else 0)))) (room_left n p.fetched (few h) f.fetched) in
    let len : length_of segment ≡ (if fin then 1 else 0) =
    (λ j. if s.rst j then 0 else (if s.syn j then 1 else length (s.text j) + (if s.fin_is j then 1 else 0))) ∙ none_more (if fin then 1 else 0) in
    let accepted : is_acceptable (taken_units p) (room p) (first_of p.cisn segment) (length_of segment) ≡ true =
    (λ j. is_acceptable (n + (if f.fin j then 1 else 0)) (room p) (s.first j) (len j)) ∙ ap (λ m. is_acceptable m (room p) (pos n) (if fin then 1 else 0)) (plus_none n)
    ∙ acceptable_if fin n (room p) some in
    let used : is_usable (taken_units p) (room p) (first_of p.cisn segment) (length_of segment) ≡ true =
    λ j. (accepted j || is_at_right_edge (taken_units p) (room p) (first_of p.cisn segment) (length_of segment)) || is_allowed_at_zero (taken_units p) (room p) (first_of p.cisn segment) in
    let low : (p.syn_acked || int_le (pos 0) (ack_of p.sisn segment)) ≡ true = ap (λ z. p.syn_acked || int_le (pos 0) z) s.back ∙ at_start p.syn_acked in
    let sent : acknowledges_unsent p segment ≡ false = ap (λ z. is_beyond (most p) z) s.back ∙ sent_before (most p) in
    λ j. s.ack j && not (s.syn j) && not (s.rst j) && used j && low j && not (sent j)

pub either : {A : Type 0} (b : Bool) (x y : A) → x ≡ y → (if b then x else y) ≡ y
either true x y h = h
either false x y h = refl

no_text : (b : Bool) (k m : ℕ) → (if b then [] else take {A = ℕ} k (drop m [])) ≡ []
no_text true k m = refl
no_text false k m = ap (take k) (drop_nothing m) ∙ take_none k

same_place : (n : ℕ) → int_eq (pos n +ℤ pos 0) (pos (n + 0)) ≡ true
same_place n = grind (arith, ints)

below_edge : (n f : ℕ) → n < 2 ^ 24 → f ≡ n → nat_lt n (min (max f 0 + 65535) (2 ^ 24)) ≡ true
below_edge n f h e = grind (arith, h, e)

-- at the next number, without text: its FIN is taken, where that is below the edge
fin_comes : (n edge : ℕ) (fin : Bool) → (fin ≡ true → nat_lt n edge ≡ true) → (fin && (int_eq (pos n +ℤ pos 0) (pos (n + 0)) && nat_lt (n + 0) edge)) ≡ fin
fin_comes n edge true below = λ j. same_place n j && ((λ i. nat_lt (plus_none n i) edge) ∙ below refl) j
fin_comes n edge false below = refl

not_ahead : (n : ℕ) → int_lt (pos n) (pos n) ≡ false
not_ahead n = grind (arith, ints)

bare_comes : (n edge : ℕ) (fin : Bool) → (fin ≡ true → nat_lt n edge ≡ true) → comes n edge false nothing_early (pos n) [] fin ≡ nothing_came nothing_early fin
bare_comes n edge fin below =
    let alone : ComesAlone n edge false (pos n) [] fin (comes n edge false nothing_early (pos n) [] fin) = comes_alone n edge false (pos n) [] fin in
    let none : in_order n edge false (pos n) [] ≡ [] = no_text (int_lt (pos n) (pos n)) (edge - n) (n - n) in
    λ j. record {
      added = (alone.added ∙ none) j;
      early = alone.early (not_ahead n) j;
      fin = (alone.fin ∙ (λ i. fin && (int_eq (pos n +ℤ pos 0) (pos (n + length ((alone.added ∙ none) i))) && nat_lt (n + length ((alone.added ∙ none) i)) edge))
          ∙ fin_comes n edge fin below) j;
    }

forged_came : (p : Point) (segment : Segment) (fin : Bool) → IsFresh p → IsForged p segment fin → (fin ≡ true → length p.taken < 2 ^ 24)
    → came p segment ≡ nothing_came nothing_early fin
unfolding came
forged_came p segment fin f s few =
    let n : ℕ = length p.taken in
    let c : counts p segment ≡ true = forged_counts p segment fin f s few in
    let text : text_of segment ≡ [] = λ j. if s.syn j || s.rst j then [] else s.text j in
    let fin_is : fin_of segment ≡ fin = (λ j. s.fin_is j && not (s.syn j || s.rst j)) ∙ and_true fin in
    let edge : receive_edge p ≡ min (max p.fetched 0 + 65535) (2 ^ 24) = λ j. min (max p.fetched (sum (f.lengths j)) + 65535) (2 ^ 24) in
    (λ j. if c j then comes n (receive_edge p) (f.fin j) (f.early j) (s.first j) (text j) (fin_is j) else nothing_came p.early p.fin)
    ∙ bare_comes n (receive_edge p) fin (λ h. ap (nat_lt n) edge ∙ below_edge n p.fetched (few h) f.fetched)

-- the point after it
abbrev pub after_forged : Bool → Point → Point
after_forged fin p = record p { syn_acked = true; fin = fin; answered = length p.taken + one_if fin; wl1 = pos (length p.taken); interval = p.timing.base; rest = 0 }

wl1_by : (c : Bool) (first wl1 w : ℤ) (m v : Bool) → first ≡ w → (c ≡ true → wl1 ≡ w) → m ≡ true → (if m && (not c || v) then first else wl1) ≡ w
wl1_by true first wl1 w m v a b h = either (m && (false || v)) first wl1 (a ∙ sym (b refl)) ∙ b refl
wl1_by false first wl1 w true v a b h = a
wl1_by false first wl1 w false v a b h = absurd (false≢true h)

starts_by : (c : Bool) (rest una : ℕ) → (c ≡ true → rest ≡ 0) → true ≡ (rest == 0 || (nat_lt una una || (true && not c)))
starts_by true rest una h = sym (λ j. (h refl j == 0) || (nat_lt una una || false))
starts_by false rest una h = or_true (rest == 0) ∙ ap (λ b. (rest == 0) || b) (or_true (nat_lt una una))

at_once_none : (t cwnd : ℕ) → 0 ≡ max 0 (min t (min 0 (0 + cwnd))) + 0
at_once_none t cwnd = omega arith

none_at_once : (t cwnd : ℕ) → max 0 (min t (min 0 (0 + cwnd))) ≡ 0
none_at_once t cwnd = omega arith

-- nothing is timed, and nothing is sent: the estimate stays
no_trip : (units : ℕ) (t : Timing) → t.timed ≡ false → with_acknowledged units t ≡ t
unfolding with_acknowledged
no_trip units t h = if_false t.timed (if nat_le t.ahead units then with_sample t else record t { ahead = t.ahead - units }) t h

timing_stays : (p q : Point) (segment : Segment) → p.timing.timed ≡ false → resends (Comes segment) p ≡ false → nat_lt p.sent (sent_at_once silent p q) ≡ false
    → timing_after silent (Comes segment) p q ≡ p.timing
unfolding timing_after timing_noted
timing_stays p q segment off again none =
    let t : Timing = with_acknowledged (q.una - p.una) p.timing in
    let noted : Timing = if resends (Comes segment) p then without_trip t else t in
    if_false (nat_lt p.sent (sent_at_once silent p q)) (with_sent (p.sent + 1 - q.una) noted) noted none ∙ if_false (resends (Comes segment) p) (without_trip t) t again
    ∙ no_trip (q.una - p.una) p.timing off

pub run_is : (p : Point) → p.lengths ≡ [] → reference silent p.taken (take p.reads_answered p.lengths) ≡ record { state = 0; output = []; closed = false }
unfolding reference
run_is p h = (λ j. reference silent p.taken (take p.reads_answered (h j))) ∙ ap (λ ns. reference silent p.taken ns) (take_none p.reads_answered)

acknowledged_none : (b : Bool) → (if b then una_after 0 (min 0 0) else 0) ≡ 0
acknowledged_none true = refl
acknowledged_none false = refl

edge_none : (b : Bool) → (if b then min 0 0 + min 65535 (0 + 0 - min 0 0) else 0) ≡ 0
edge_none true = refl
edge_none false = refl

wl2_none : (b : Bool) → (if b then min 0 0 else 0) ≡ 0
wl2_none true = refl
wl2_none false = refl

pub forged_laws : (p : Point) (segment : Segment) (fin : Bool) → IsFresh p → IsForged p segment fin → (fin ≡ true → length p.taken < 2 ^ 24)
    → MeetsLaws silent (Comes segment) p (after_forged fin p)
unfolding taken_after early_after fin_after syn_acked_after acknowledged_after edge_after wl1_after wl2_after is_duplicate is_third_duplicate is_partial_ack congestion_after sent_after sent_at_once interval_after rest_after must_run
forged_laws p segment fin f s few =
    let k : came p segment ≡ nothing_came nothing_early fin = forged_came p segment fin f s few in
    let c : counts p segment ≡ true = forged_counts p segment fin f s few in
    let start : int_le (pos 0) (pos 0) ≡ true = at_start false in
    let m : (counts p segment && int_le (pos 0) (ack_of p.sisn segment)) ≡ true = (λ j. c j && int_le (pos 0) (s.back j)) ∙ start in
    let w : Bool = updates_window p.una p.wl1 p.wl2 (first_of p.cisn segment) (acknowledged_by p segment) in
    let moves : Bool = (counts p segment && int_le (pos 0) (ack_of p.sisn segment)) && (not p.syn_acked || w) in
    let anew : true ≡ (p.rest == 0 || (nat_lt p.una p.una || (true && not p.syn_acked))) = starts_by p.syn_acked p.rest p.una f.rest in
    let used : Bool = counts p segment && int_le (pos 0) (ack_of p.sisn segment) in
    let fresh : (used && nat_lt p.una (acknowledged_by p segment)) ≡ false =
    and_right used (nat_lt p.una (acknowledged_by p segment)) (λ j. nat_lt (f.una j) (min (nat_abs (s.back j)) (f.sent j))) in
    let single : is_duplicate p segment ≡ false =
    middle_false (used && length (text_of segment) == 0 && not (fin_of segment) && acknowledged_by p segment == p.una) (nat_lt p.una p.sent)
    (acknowledged_by p segment + window_by p segment == p.edge) (λ j. nat_lt (f.una j) (f.sent j)) in
    let again : resends (Comes segment) p ≡ false = λ j. (single j && is_third p.congestion) || (fresh j && is_partial (acknowledged_by p segment - p.una) p.congestion) in
    let none : nat_lt p.sent (sent_at_once silent p (after_forged fin p)) ≡ false =
    (λ j. nat_lt (f.sent j) (max (f.sent j) (min (target silent (after_forged fin p)) (min (f.edge j) (f.una j + p.congestion.cwnd)))))
    ∙ ap (nat_lt 0) (none_at_once (target silent (after_forged fin p)) p.congestion.cwnd) in
    record {
      same = record { key = refl; cisn = refl; sisn = refl; mss = refl; fetched = refl; fetched_output = refl; delays = refl; batches = refl };
      taken = sym (ap (λ x. p.taken ++ x.added) k ∙ append-nil p.taken);
      fin = sym (ap (λ x. x.fin) k);
      early = f.early ∙ sym (ap (λ x. x.early) k);
      syn_acked = or_true p.syn_acked ∙ sym (ap (λ b. p.syn_acked || b) c);
      una = f.una ∙ sym ((λ j. if counts p segment && int_le (pos 0) (ack_of p.sisn segment) then una_after (f.una j) (min (nat_abs (s.back j)) (f.sent j)) else f.una j)
          ∙ acknowledged_none (counts p segment && int_le (pos 0) (ack_of p.sisn segment)));
      edge = f.edge ∙ sym ((λ j. if moves then min (nat_abs (s.back j)) (f.sent j) + min 65535 (s.window j + nat_abs (s.back j) - min (nat_abs (s.back j)) (f.sent j)) else f.edge j)
          ∙ edge_none moves);
      wl1 = sym (wl1_by p.syn_acked (first_of p.cisn segment) p.wl1 (pos (length p.taken)) (counts p segment && int_le (pos 0) (ack_of p.sisn segment)) w s.first f.wl1 m);
      wl2 = f.wl2 ∙ sym ((λ j. if moves then min (nat_abs (s.back j)) (f.sent j) else f.wl2 j) ∙ wl2_none moves);
      congestion = sym (λ j. if fresh j then with_new_data p.mss (acknowledged_by p segment - p.una) p.congestion
          else (if single j then with_duplicate p.mss (flight p) p.congestion else p.congestion));
      sent = f.sent ∙ at_once_none (target silent (after_forged fin p)) p.congestion.cwnd
          ∙ sym (λ j. max (f.sent j) (min (target silent (after_forged fin p)) (min (f.edge j) (f.una j + p.congestion.cwnd))) + 0);
      timing = sym (timing_stays p (after_forged fin p) segment f.timed again none);
      timestamping = f.timestamping ∙ sym (stays_off (Comes segment) p f.timestamping);
      interval = λ j. if anew j then p.timing.base else p.interval;
      rest = sym (λ j. if nat_lt (f.una j) (max (f.sent j) (length (run_is p f.lengths j).output + (if (run_is p f.lengths j).closed then 1 else 0)))
          then (if (p.rest == 0 || (nat_lt p.una p.una || (true && not p.syn_acked))) || false then interval_after (Comes segment) p (after_forged fin p) else p.rest) else 0);
    }
