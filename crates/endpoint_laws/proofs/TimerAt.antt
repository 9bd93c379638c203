-- The timer at the end of a turn is the one at the point that the law of the timer leads to.
use Rattle.std.proofs.Common.{◌≡◌, ℕ, ◌≤◌, ◌-◌, ◌*◌, Bool, true, false, not, max, min, refl, sym, ap, subst, arith, ◌∙◌}
use Rattle.std.specs.Prelude.{◌==◌, ◌&&◌, ◌||◌, nat_lt, if◌then◌else◌}
use Rattle.std.proofs.lemmas.Bool.{false≢true, or_parts}
use Rattle.server_trait.specs.Service.{Machine}
use Rattle.seq_arith.specs.Packet.{Segment}
use Rattle.tcp_rules.specs.Timing.{Timing}
use Rattle.ft_model.specs.Point.{Point}
use Rattle.ft_model.specs.News.{News}
use Rattle.ft_model.specs.News.News.{Comes, Logged, Ticks, Begins}
use Rattle.ft_model.specs.Sending.{syn_acked_after, acknowledged_after}
use Rattle.ft_model.specs.Timer as timer
use Rattle.tcp_endpoint.specs.States.{has_begun}
use Rattle.tcp_endpoint.specs.SendHalf.{Sending, target, must_run}
use Rattle.tcp_endpoint.specs.Tcb.{Tcb}
use Rattle.tcp_endpoint.specs.Arrival.{received}
use Rattle.tcp_endpoint.specs.Output.{after_full, is_timed, flushed}
use Rattle.tcp_endpoint.specs.UserCalls.{after_tick}
use Rattle.endpoint_laws.specs.Laws.{starts, IsTimedBy}
use Rattle.endpoint_laws.specs.Turn.{IsUsualNews, IsBetweenTurns, arrived}
use Rattle.endpoint_laws.specs.Refinement.{StandsAt, MeetsLaws}
use Rattle.endpoint_laws.proofs.TurnLaw.{flushed_timer, timer_law, ticked_law}
use Rattle.endpoint_laws.proofs.Calls.{IsUsed, runs_used}
use Rattle.endpoint_laws.proofs.Arrivals.{Arrived}

-- by whether the timer runs, and whether it starts anew: it runs where it doesn't start
interval_when : (runs anew : Bool) (base n : ℕ) → (anew ≡ false → runs ≡ true) → (if runs then (if anew then base else n) else base) ≡ (if anew then base else n)
interval_when true anew base n h = refl
interval_when false true base n h = refl
interval_when false false base n h = absurd (false≢true (h refl))

-- at the end of a turn without a tick
rest_when : (runs anew : Bool) (base n k : ℕ) → (if runs then (if anew then base else k) else 0)
    ≡ (if runs then (if anew || false then (if anew then base else n) else k) else 0)
rest_when true true base n k = refl
rest_when true false base n k = refl
rest_when false anew base n k = refl

-- .. and with one
ticked_interval_when : (runs : Bool) (rest base n : ℕ) → ((rest == 0) ≡ false → runs ≡ true)
    → (if runs then (if rest == 0 then base else (if rest == 1 then min 64 (2 * n) else n)) else base)
    ≡ (if rest == 0 then base else (if rest == 1 then min 64 (2 * n) else n))
ticked_interval_when runs rest base n h = interval_when runs (rest == 0) base (if rest == 1 then min 64 (2 * n) else n) h

ticked_rest_when : (runs : Bool) (rest base n : ℕ)
    → (if runs then (if rest == 0 then base else (if rest == 1 then min 64 (2 * n) else rest - 1)) else 0)
    ≡ (if runs then (if rest == 0 || rest == 1 then (if rest == 0 then base else (if rest == 1 then min 64 (2 * n) else n)) else rest - 1) else 0)
ticked_rest_when true rest base n = grind arith
ticked_rest_when false rest base n = refl

or_apart : (a b c : Bool) → (a || (b || c)) ≡ (a || b || c)
or_apart true b c = refl
or_apart false b c = refl

same_starts : (r : Bool) (una : ℕ) (syn_acked : Bool) → (r || (nat_lt una una || (syn_acked && not syn_acked))) ≡ r
same_starts true una syn_acked = refl
same_starts false una true = grind arith
same_starts false una false = grind arith

true_right : (b : Bool) → (b || (true && not false)) ≡ true
true_right true = refl
true_right false = refl

-- what the timer of the endpoint before the turn says: where it doesn't start anew it goes on running
proceeds : (o o' : Bool) (una una' sent goal goal' : ℕ) → (not o || nat_lt una (max sent goal)) ≡ true → una ≤ una' → (una' ≡ una → goal ≤ goal')
    → (nat_lt una una' || (o' && not o)) ≡ false → (not o' || nat_lt una' (max sent goal')) ≡ true
proceeds true true una una' sent goal goal' must up grows none = let same : una' ≡ una = grind arith in grind (arith, grows same)
proceeds true false una una' sent goal goal' must up grows none = refl
proceeds false false una una' sent goal goal' must up grows none = refl
proceeds false true una una' sent goal goal' must up grows none = absurd (false≢true (sym none ∙ true_right (nat_lt una una')))

pub some_left : (rest : ℕ) → (rest == 0) ≡ false → 1 ≤ rest
some_left rest h = grind arith

pub sent_more : (o : Bool) (una sent sent' goal : ℕ) → sent ≤ sent' → (not o || nat_lt una (max sent goal)) ≡ true → (not o || nat_lt una (max sent' goal)) ≡ true
sent_more true una sent sent' goal more h = grind arith
sent_more false una sent sent' goal more h = refl

-- the facts of a turn that its timer needs
pub record Timed {State : Type 0} (service : Machine State) (news : News) (before after : Point) (e m u : Tcb) : Type 0 where
  pub begun : has_begun e.name ≡ true
  pub between : IsBetweenTurns e
  pub stands : StandsAt before e
  pub usual : IsUsualNews news e
  pub news_are : m ≡ arrived news e
  pub arrived : Arrived news before e m
  pub used : IsUsed m u
  pub laws : MeetsLaws service news before after
  pub syn_acked : after.syn_acked ≡ m.sending.syn_acked
  pub una : after.una ≡ m.sending.una
  pub base : after.timing.base ≡ m.sending.timing.base
  pub runs : is_timed (after_full u) ≡ timer.must_run service after
  pub still : must_run u.sending ≡ true → timer.must_run service after ≡ true

starts_is : {State : Type 0} (service : Machine State) (news : News) (before after : Point) (e m u : Tcb) → Timed service news before after e m u
    → timer.is_set_anew before after ≡ starts e.sending m.sending
starts_is service news before after e m u t =
    (λ i. (t.stands.rest i == 0) || (nat_lt (t.stands.sends.una i) (t.una i) || (t.syn_acked i && not (t.stands.sends.syn_acked i))))
    ∙ or_apart (e.sending.rest == 0) (nat_lt e.sending.una m.sending.una) (m.sending.syn_acked && not e.sending.syn_acked)

runs_on : {State : Type 0} (service : Machine State) (news : News) (before after : Point) (e m u : Tcb) → Timed service news before after e m u
    → starts e.sending m.sending ≡ false → timer.must_run service after ≡ true
runs_on service news before after e m u t none =
    let s : Sending = e.sending in
    let k : Sending = m.sending in
    let parts = or_parts (s.rest == 0) (nat_lt s.una k.una || (k.syn_acked && not s.syn_acked))
    (or_apart (s.rest == 0) (nat_lt s.una k.una) (k.syn_acked && not s.syn_acked) ∙ none) in
    let must : must_run s ≡ true = t.between.runs (some_left s.rest parts.0) in
    let on : must_run k ≡ true =
    ap (λ n. not k.syn_acked || nat_lt k.una (max n (target k))) t.arrived.sent
    ∙ proceeds s.syn_acked k.syn_acked s.una k.una s.sent (target s) (target k) must t.arrived.una t.arrived.target parts.1 in
    t.still (runs_used k u.sending t.used.sends on)

-- it starts with the interval of the estimate, which the user's calls leave
base_is : {State : Type 0} (service : Machine State) (news : News) (before after : Point) (e m u : Tcb) → Timed service news before after e m u
    → after.timing.base ≡ u.sending.timing.base
base_is service news before after e m u t = t.base ∙ ap (λ (x : Timing). x.base) (sym t.used.sends.timing)

-- by the kind of news
comes_timer : {State : Type 0} (service : Machine State) (segment : Segment) (before after : Point) (e m u : Tcb) → Timed service (Comes segment) before after e m u
    → (after.interval ≡ (flushed u).sending.interval) × (after.rest ≡ (flushed u).sending.rest)
unfolding timer.interval_after timer.rest_after
comes_timer service segment before after e m u t =
    let base : after.timing.base ≡ u.sending.timing.base = base_is service (Comes segment) before after e m u t in
    let anew : Bool = starts e.sending m.sending in
    let r : Bool = is_timed (after_full u) in
    let same : m.sending ≡ (received e segment).sending = ap (λ (x : Tcb). x.sending) t.news_are in
    let law = timer_law e u segment t.begun t.between.bounds t.usual (t.used.sends.timing ∙ ap (λ (q : Sending). q.timing) same) (t.used.sends.interval ∙ ap (λ (q : Sending). q.interval) same)
    (t.used.sends.rest ∙ ap (λ (q : Sending). q.rest) same) in
    let now : ℕ = u.sending.timing.base in
    let P : Sending → Type 0 = λ q. IsTimedBy (flushed u).sending (if r then (if starts e.sending q then now else e.sending.interval) else now)
    (if r then (if starts e.sending q then now else e.sending.rest) else 0) in
    let by : P m.sending = subst P (sym same) law in
    let on : anew ≡ false → r ≡ true = λ h. t.runs ∙ runs_on service (Comes segment) before after e m u t h in (
      t.laws.interval ∙ (λ i. if starts_is service (Comes segment) before after e m u t i then base i else t.stands.interval i)
          ∙ sym (by.interval ∙ interval_when r anew now e.sending.interval on),
      t.laws.rest
          ∙ (λ i. if sym t.runs i then (if starts_is service (Comes segment) before after e m u t i || false
          then (if starts_is service (Comes segment) before after e m u t i then base i else t.stands.interval i) else t.stands.rest i) else 0)
          ∙ sym (by.rest ∙ rest_when r anew now e.sending.interval e.sending.rest),
    )

tick_timer : {State : Type 0} (service : Machine State) (before after : Point) (e m u : Tcb) → Timed service Ticks before after e m u
    → (after.interval ≡ (flushed u).sending.interval) × (after.rest ≡ (flushed u).sending.rest)
unfolding timer.interval_after timer.rest_after syn_acked_after acknowledged_after
tick_timer service before after e m u t =
    let base : after.timing.base ≡ u.sending.timing.base = base_is service Ticks before after e m u t in
    let s : Sending = e.sending in
    let r : Bool = is_timed (after_full u) in
    let same : m.sending ≡ (after_tick e).sending = ap (λ (x : Tcb). x.sending) t.news_are in
    let now : ℕ = u.sending.timing.base in
    let by = ticked_law e u t.between.interval (t.used.sends.timing ∙ ap (λ (q : Sending). q.timing) same) (t.used.sends.interval ∙ ap (λ (q : Sending). q.interval) same)
    (t.used.sends.rest ∙ ap (λ (q : Sending). q.rest) same) in
    let anew : timer.is_set_anew before after ≡ (s.rest == 0) =
    (λ i. (t.stands.rest i == 0) || (nat_lt before.una (t.laws.una i) || (t.laws.syn_acked i && not before.syn_acked))) ∙ same_starts (s.rest == 0) before.una before.syn_acked in
    let on : (s.rest == 0) ≡ false → r ≡ true = λ h.
    t.runs ∙ runs_on service Ticks before after e m u t (sym (starts_is service Ticks before after e m u t) ∙ anew ∙ h) in (
      t.laws.interval ∙ (λ i. if anew i then base i else (if t.stands.rest i == 1 then min 64 (2 * t.stands.interval i) else t.stands.interval i))
          ∙ sym (by.interval ∙ ticked_interval_when r s.rest now s.interval on),
      t.laws.rest
          ∙ (λ i. if sym t.runs i then (if anew i || t.stands.rest i == 1
          then (if anew i then base i else (if t.stands.rest i == 1 then min 64 (2 * t.stands.interval i) else t.stands.interval i)) else t.stands.rest i - 1) else 0)
          ∙ sym (by.rest ∙ ticked_rest_when r s.rest now s.interval),
    )

-- nothing comes for TCP
quiet_timer : {State : Type 0} (service : Machine State) (news : News) (before after : Point) (e m u : Tcb) → Timed service news before after e m u
    → m ≡ e → timer.is_tick news ≡ false → syn_acked_after news before ≡ before.syn_acked → acknowledged_after news before ≡ before.una
    → (after.interval ≡ (flushed u).sending.interval) × (after.rest ≡ (flushed u).sending.rest)
unfolding timer.interval_after timer.rest_after
quiet_timer service news before after e m u t same still syn_acked una =
    let base : after.timing.base ≡ u.sending.timing.base = base_is service news before after e m u t in
    let s : Sending = e.sending in
    let r : Bool = is_timed (after_full u) in
    let now : ℕ = u.sending.timing.base in
    let by = flushed_timer u now s.interval s.rest refl (t.used.sends.interval ∙ ap (λ (x : Tcb). x.sending.interval) same) (t.used.sends.rest ∙ ap (λ (x : Tcb). x.sending.rest) same) in
    let anew : timer.is_set_anew before after ≡ (s.rest == 0) =
    (λ i. (t.stands.rest i == 0) || (nat_lt before.una ((t.laws.una ∙ una) i) || ((t.laws.syn_acked ∙ syn_acked) i && not before.syn_acked)))
    ∙ same_starts (s.rest == 0) before.una before.syn_acked in
    let on : (s.rest == 0) ≡ false → r ≡ true = λ h.
    t.runs ∙ runs_on service news before after e m u t (sym (starts_is service news before after e m u t) ∙ anew ∙ h) in (
      t.laws.interval ∙ (λ i. if anew i then base i else (if still i && before.rest == 1 then min 64 (2 * before.interval) else t.stands.interval i))
          ∙ sym (by.interval ∙ interval_when r (s.rest == 0) now s.interval on),
      t.laws.rest
          ∙ (λ i. if sym t.runs i then (if anew i || (still i && before.rest == 1)
          then (if anew i then base i else (if still i && before.rest == 1 then min 64 (2 * before.interval) else t.stands.interval i)) else (if still i then before.rest - 1 else t.stands.rest i)) else 0)
          ∙ sym (by.rest ∙ rest_when r (s.rest == 0) now s.interval s.rest),
    )

pub timer_at : {State : Type 0} (service : Machine State) (news : News) (before after : Point) (e m u : Tcb) → Timed service news before after e m u
    → (after.interval ≡ (flushed u).sending.interval) × (after.rest ≡ (flushed u).sending.rest)
unfolding syn_acked_after acknowledged_after
timer_at service (Comes segment) before after e m u t = comes_timer service segment before after e m u t
timer_at service (Logged kept) before after e m u t = quiet_timer service (Logged kept) before after e m u t t.news_are refl refl refl
timer_at service Ticks before after e m u t = tick_timer service before after e m u t
timer_at service Begins before after e m u t = quiet_timer service Begins before after e m u t t.news_are refl refl refl
