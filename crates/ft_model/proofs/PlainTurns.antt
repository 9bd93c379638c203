-- The laws of a turn as they are in a plain connection: the timer starts with one tick, only an expiry and a third duplicate retransmit, and an ACK that is due is
-- pending.
use Rattle.std.proofs.Common.{◌≡◌, refl, ap, ◌-◌, ◌*◌, Bool, true, false, ◌==◌, ◌&&◌, ◌||◌, not, nat_lt, min, if◌then◌else◌}
use Rattle.tcp_rules.specs.Timing.{initial_timing}
use Rattle.server_trait.specs.Service.{Machine}
use Rattle.ft_model.specs.News.{News}
use Rattle.ft_model.specs.News.News.{Comes, Logged, Ticks, Begins}
use Rattle.ft_model.specs.Point.{Point}
use Rattle.ft_model.specs.Timer.{expires, is_set_anew, interval_after}
use Rattle.ft_model.specs.Sending.{acknowledged_by, acknowledges_new, is_third_duplicate, is_partial_ack, resends, is_first_expiry}
use Rattle.ft_model.specs.PendingAck.{is_delayed, is_ack_due, is_ack_pending}

pub plain_interval : (news : News) (p q : Point) → q.timing ≡ initial_timing false
    → interval_after news p q ≡ (if is_set_anew p q then 1 else (if expires news p then min 64 (2 * p.interval) else p.interval))
unfolding interval_after
plain_interval news p q h = ap (λ t. if is_set_anew p q then t.base else (if expires news p then min 64 (2 * p.interval) else p.interval)) h

pub plain_first_expiry : (p : Point) → p.timing ≡ initial_timing false → is_first_expiry p ≡ (p.interval == 1)
plain_first_expiry p h = ap (λ t. if t.measures then not t.backed_off else p.interval == 1) h

or_nothing : (third acked recovers more : Bool) → recovers ≡ false → (third || (acked && (recovers && more))) ≡ third
or_nothing true acked recovers more h = refl
or_nothing false true recovers more h = ap (λ b. b && more) h
or_nothing false false recovers more h = refl

pub plain_resends : (news : News) (p : Point) → p.congestion.recovers ≡ false → resends news p ≡ is_third_duplicate news p
unfolding is_third_duplicate is_partial_ack
plain_resends (Comes segment) p h =
    or_nothing (is_third_duplicate (Comes segment) p) (acknowledges_new p segment) p.congestion.recovers (nat_lt (acknowledged_by p segment - p.una) p.congestion.lost) h
plain_resends (Logged kept) p h = refl
plain_resends Ticks p h = refl
plain_resends Begins p h = refl

pub due_is_pending : {State : Type 0} (service : Machine State) (news : News) (p q : Point) → p.delays ≡ false → is_ack_pending service news p q ≡ is_ack_due service news p q
unfolding is_ack_pending is_delayed
due_is_pending service news p q off =
    ap (λ d. not (is_delayed news (record p { delays = d }) q) && is_ack_due service news p q) off
