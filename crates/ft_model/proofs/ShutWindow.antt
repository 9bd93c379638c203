-- At a receive window of zero the acknowledgement of a segment at the next number is used, and nothing of it is taken; at the right edge of an open
-- window a segment of length 0 is acceptable.
use Rattle.std.proofs.Common.{◌≡◌, ℕ, ◌+◌, ◌-◌, ◌<◌, ℤ, pos, Bool, true, false, ◌==◌, ◌&&◌, ◌||◌, nat_lt, refl, sym, ap, ap₂, ◌∙◌, subst, List, ◌++◌, length, arith, append-nil, if◌then◌else◌}
use Rattle.std.proofs.lemmas.Int.{ints}
use Rattle.tcp_rules.specs.Arrival.{int_eq, is_acceptable, is_at_right_edge, is_allowed_at_zero}
use Rattle.seq_arith.specs.Packet.{Segment, has_rst}
use Rattle.tcp_rules.specs.Coming.{Early, Came, nothing_came, comes, StandsBehind}
use Rattle.tcp_rules.proofs.Coming.{comes_shut, comes_ended, behind_within}
use Rattle.ft_model.specs.Offset.{first_of, text_of, fin_of, length_of}
use Rattle.ft_model.specs.News.News.{Comes}
use Rattle.ft_model.specs.Point.{Point, taken_units, receive_edge, HoldsBehind, room}
use Rattle.ft_model.specs.Taken.{accepts, uses, came, counts, taken_after, fin_after}
use Rattle.ft_model.specs.PendingAck.{needs_ack}
use Rattle.ft_io.proofs.Choices.{holds_either_way}
use Rattle.ft_io.proofs.Booleans.{or_true}

same_place : (z : ℤ) (n : ℕ) → z ≡ pos n → int_eq z (pos n) ≡ true
same_place z n e = grind (arith, ints, e)

is_shut : (w : ℕ) (b : Bool) → w ≡ 0 → b ≡ true → ((w == 0) && b) ≡ true
is_shut w b e t = ap₂ (λ n c. (n == 0) && c) e t

pub shut_uses : (p : Point) (segment : Segment) → room p ≡ 0 → first_of p.cisn segment ≡ pos (taken_units p) → uses p segment ≡ true
unfolding uses is_allowed_at_zero
shut_uses p segment shut at =
    let allowed : is_allowed_at_zero (taken_units p) (room p) (first_of p.cisn segment) ≡ true =
    is_shut (room p) (int_eq (first_of p.cisn segment) (pos (taken_units p))) shut (same_place (first_of p.cisn segment) (taken_units p) at) in
    ap (λ b. is_acceptable (taken_units p) (room p) (first_of p.cisn segment) (length_of segment) || is_at_right_edge (taken_units p) (room p) (first_of p.cisn segment) (length_of segment) || b) allowed
    ∙ sym (or_true (is_acceptable (taken_units p) (room p) (first_of p.cisn segment) (length_of segment) || is_at_right_edge (taken_units p) (room p) (first_of p.cisn segment) (length_of segment)))

-- where the window is zero all that may be taken is
nothing_shut : (n edge : ℕ) (fin : Bool) (early : Early) (first : ℤ) (text : List ℕ) (has_fin : Bool) → StandsBehind n edge fin early
    → edge + (if fin then 1 else 0) - (n + (if fin then 1 else 0)) ≡ 0 → comes n edge fin early first text has_fin ≡ nothing_came early fin
nothing_shut n edge true early first text has_fin h e = comes_ended n edge early first text has_fin h
nothing_shut n edge false early first text has_fin h e =
    let same : edge ≡ n = omega (arith, e, behind_within n edge false early h) in
    ap (λ k. comes n k false early first text has_fin) same ∙ comes_shut n false early first text has_fin (subst (λ k. StandsBehind n k false early) same h)

shut_came : (p : Point) (segment : Segment) → HoldsBehind p → room p ≡ 0 → came p segment ≡ nothing_came p.early p.fin
unfolding came
shut_came p segment h shut =
    holds_either_way (λ c. c ≡ nothing_came p.early p.fin) (counts p segment)
    (comes (length p.taken) (receive_edge p) p.fin p.early (first_of p.cisn segment) (text_of segment) (fin_of segment)) (nothing_came p.early p.fin)
    (nothing_shut (length p.taken) (receive_edge p) p.fin p.early (first_of p.cisn segment) (text_of segment) (fin_of segment) h shut) refl

pub shut_takes : (p : Point) (segment : Segment) → HoldsBehind p → room p ≡ 0
    → (taken_after (Comes segment) p ≡ p.taken) × (fin_after (Comes segment) p ≡ p.fin)
unfolding taken_after fin_after
shut_takes p segment h shut =
    let none = shut_came p segment h shut in (ap (λ (c : Came). p.taken ++ c.added) none ∙ append-nil p.taken, ap (λ (c : Came). c.fin) none)

not_accepted : (next window : ℕ) (first : ℤ) (len : ℕ) → window ≡ 0 → 0 < len → (is_acceptable next window first len || is_at_right_edge next window first len) ≡ false
unfolding is_at_right_edge
not_accepted next window first len shut some =
    let long : (len == 0) ≡ false = grind (arith, some) in
    rw (long, shut) refl

pub shut_needs_ack : (p : Point) (segment : Segment) → room p ≡ 0 → 0 < length_of segment → has_rst segment ≡ false → needs_ack p segment ≡ true
unfolding needs_ack accepts
shut_needs_ack p segment shut some no_rst =
    rw (not_accepted (taken_units p) (room p) (first_of p.cisn segment) (length_of segment) shut some, no_rst) refl

pub edge_accepts : (p : Point) (segment : Segment) → 0 < room p → length_of segment ≡ 0 → first_of p.cisn segment ≡ pos (taken_units p + room p) → accepts p segment ≡ true
unfolding accepts is_at_right_edge
edge_accepts p segment open_ bare at =
    let place = same_place (first_of p.cisn segment) (taken_units p + room p) at in
    let some : nat_lt 0 (room p) ≡ true = grind (arith, open_) in
    ap (λ b. is_acceptable (taken_units p) (room p) (first_of p.cisn segment) (length_of segment) || b) (rw (bare, some, place) refl)
    ∙ sym (or_true (is_acceptable (taken_units p) (room p) (first_of p.cisn segment) (length_of segment)))
