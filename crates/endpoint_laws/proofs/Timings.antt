-- What each step of an estimate of the round-trip time keeps, and what of the losses of congestion control.
use Rattle.std.proofs.Common.{◌≡◌, ℕ, ◌≤◌, ◌+◌, ◌-◌, ◌*◌, Bool, true, false, not, max, min, refl, sym, ap, arith, ◌∙◌}
use Rattle.std.specs.Prelude.{◌&&◌, nat_le, if◌then◌else◌}
use Rattle.std.proofs.lemmas.Bool.{false≢true}
use Rattle.ft_io.proofs.Choices.{holds_if, holds_either_way, if_false}
use Rattle.tcp_rules.specs.Congestion.{Congestion, most_window, is_recovering, is_partial, with_new_data, lowered_threshold, is_third, with_duplicate, with_expiry}
use Rattle.tcp_rules.specs.Timing.{Timing, initial_timing, with_sample, with_acknowledged, with_tick, without_trip, with_backoff, with_sent}
use Rattle.endpoint_laws.specs.Laws.{KeepsTime}
use Rattle.endpoint_laws.proofs.TakenLaw.{same_if, if_when}

pub initial_keeps : (measures : Bool) → KeepsTime (initial_timing measures)
initial_keeps true = record { base = omega arith; ahead = λ h. absurd (false≢true h) }
initial_keeps false = record { base = omega arith; ahead = λ h. absurd (false≢true h) }

least_of : (n : ℕ) → 1 ≤ min 64 (max 2 n)
least_of n = omega arith

sample_keeps : (t : Timing) → KeepsTime (with_sample t)
unfolding with_sample
sample_keeps t = record { base = least_of _; ahead = λ h. absurd (false≢true h) }

left_over : (ahead units : ℕ) → nat_le ahead units ≡ false → 1 ≤ ahead - units
left_over ahead units h = grind arith

pub acknowledged_keeps : (units : ℕ) (t : Timing) → KeepsTime t → KeepsTime (with_acknowledged units t)
unfolding with_acknowledged
acknowledged_keeps units t k =
    holds_either_way KeepsTime t.timed (if nat_le t.ahead units then with_sample t else record t { ahead = t.ahead - units }) t
    (holds_if KeepsTime (nat_le t.ahead units) (with_sample t) (record t { ahead = t.ahead - units }) (λ h. sample_keeps t)
    (λ h. record { base = k.base; ahead = λ timed. left_over t.ahead units h }))
    k

pub tick_keeps : (t : Timing) → KeepsTime t → KeepsTime (with_tick t)
unfolding with_tick
tick_keeps t k = holds_either_way KeepsTime t.timed (record t { ticks = min 255 (t.ticks + 1) }) t (record { base = k.base; ahead = k.ahead }) k

pub trip_keeps : (b : Bool) (t : Timing) → KeepsTime t → KeepsTime (if b then without_trip t else t)
unfolding without_trip
trip_keeps b t k = holds_either_way KeepsTime b (record t { timed = false }) t (record { base = k.base; ahead = λ h. absurd (false≢true h) }) k

pub backoff_keeps : (interval : ℕ) (t : Timing) → 1 ≤ interval → KeepsTime t → KeepsTime (with_backoff interval t)
unfolding with_backoff
backoff_keeps interval t some k =
    holds_either_way KeepsTime t.measures (record t { base = interval; timed = false; backed_off = true }) t
    (record { base = some; ahead = λ h. absurd (false≢true h) }) k

pub unit_keeps : (ahead : ℕ) (t : Timing) → 1 ≤ ahead → KeepsTime t → KeepsTime (with_sent ahead t)
unfolding with_sent
unit_keeps ahead t some k =
    holds_either_way KeepsTime (t.measures && not t.timed) (record t { timed = true; ahead = ahead; ticks = 0 }) t
    (record { base = k.base; ahead = λ h. some }) k

-- the interval, where it isn't computed anew
pub unit_base : (ahead : ℕ) (t : Timing) → (with_sent ahead t).base ≡ t.base
unfolding with_sent
unit_base ahead t =
    holds_either_way (λ (x : Timing). x.base ≡ t.base) (t.measures && not t.timed) (record t { timed = true; ahead = ahead; ticks = 0 }) t refl refl

pub trip_base : (b : Bool) (t : Timing) → (if b then without_trip t else t).base ≡ t.base
unfolding without_trip
trip_base b t = holds_either_way (λ (x : Timing). x.base ≡ t.base) b (record t { timed = false }) t refl refl

pub tick_base : (t : Timing) → (with_tick t).base ≡ t.base
unfolding with_tick
tick_base t = holds_either_way (λ (x : Timing). x.base ≡ t.base) t.timed (record t { ticks = min 255 (t.ticks + 1) }) t refl refl

-- whether it measures never changes
pub ticked_measures : (b : Bool) (interval : ℕ) (t : Timing) → (if b then with_backoff interval t else with_tick t).measures ≡ t.measures
unfolding with_backoff with_tick
ticked_measures b interval t =
    let Same : Timing → Type 0 = λ x. x.measures ≡ t.measures in
    holds_either_way Same b (with_backoff interval t) (with_tick t)
    (holds_either_way Same t.measures (record t { base = interval; timed = false; backed_off = true }) t refl refl)
    (holds_either_way Same t.timed (record t { ticks = min 255 (t.ticks + 1) }) t refl refl)

-- an acknowledgement of nothing new changes nothing: a unit that is timed isn't acknowledged
none_reached : (ahead : ℕ) → 1 ≤ ahead → nat_le ahead 0 ≡ false
none_reached ahead some = grind (arith, some)

all_left : (ahead : ℕ) → ahead - 0 ≡ ahead
all_left ahead = omega arith

pub acknowledged_none : (t : Timing) → KeepsTime t → with_acknowledged 0 t ≡ t
unfolding with_acknowledged
acknowledged_none t k =
    if_when t.timed (if nat_le t.ahead 0 then with_sample t else record t { ahead = t.ahead - 0 }) t t t
    (λ h. if_false (nat_le t.ahead 0) (with_sample t) (record t { ahead = t.ahead - 0 }) (none_reached t.ahead (k.ahead h))
    ∙ ap (λ n. record t { ahead = n }) (all_left t.ahead))
    (λ h. refl)
    ∙ same_if t.timed t

pub itself_less : (n : ℕ) → n - n ≡ 0
itself_less n = omega arith

pub measured : (new : Bool) (una ack : ℕ) (t : Timing) → KeepsTime t
    → (if new then with_acknowledged (ack - una) t else t) ≡ with_acknowledged ((if new then ack else una) - una) t
measured true una ack t k = refl
measured false una ack t k = sym (ap (λ n. with_acknowledged n t) (itself_less una) ∙ acknowledged_none t k)

-- no more counts as lost than is in flight
pub choice_within : (x y n : ℕ) (b : Bool) → (b ≡ true → x ≤ n) → y ≤ n → (if b then x else y) ≤ n
choice_within x y n true p q = p refl
choice_within x y n false p q = q

pub new_data_lost : (mss units rest : ℕ) (c : Congestion) → c.lost ≤ units + rest → (with_new_data mss units c).lost ≤ rest
unfolding with_new_data
new_data_lost mss units rest c few = choice_within (c.lost - units) 0 rest (is_partial units c) (λ h. omega (arith, few)) (omega arith)

pub duplicate_lost : (mss flight : ℕ) (c : Congestion) → c.lost ≤ flight → (with_duplicate mss flight c).lost ≤ flight
unfolding with_duplicate
duplicate_lost mss flight c few =
    let Few : Congestion → Type 0 = λ x. x.lost ≤ flight in
    holds_either_way Few (nat_le 3 c.dups) (record c { cwnd = min most_window (c.cwnd + mss); dups = 4 }) _ few
    (holds_either_way Few (is_third c)
    (record c { cwnd = min most_window (lowered_threshold mss flight + 3 * mss); ssthresh = lowered_threshold mss flight; dups = 3; lost = if c.recovers then flight else 0 })
    (record c { dups = if is_recovering c then min 2 (c.dups + 1) else c.dups + 1 }) (choice_within flight 0 flight c.recovers (λ h. omega arith) (omega arith)) few)

pub expiry_lost : (mss flight : ℕ) (first : Bool) (c : Congestion) → (with_expiry mss flight first c).lost ≤ flight
unfolding with_expiry
expiry_lost mss flight first c = choice_within flight 0 flight c.recovers (λ h. omega arith) (omega arith)

pub by_ack_lost : (new duplicate : Bool) (mss una ack sent : ℕ) (c : Congestion) → c.lost ≤ sent - una → (new ≡ true → una ≤ ack)
    → (if new then with_new_data mss (ack - una) c else (if duplicate then with_duplicate mss (sent - una) c else c)).lost ≤ sent - (if new then ack else una)
by_ack_lost true duplicate mss una ack sent c few up = let h : una ≤ ack = up refl in new_data_lost mss (ack - una) (sent - ack) c (omega (arith, few, h))
by_ack_lost false true mss una ack sent c few up = duplicate_lost mss (sent - una) c few
by_ack_lost false false mss una ack sent c few up = few
