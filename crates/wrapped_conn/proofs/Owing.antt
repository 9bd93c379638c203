-- Where a connection owes a segment of its own, the law does.
use Rattle.std.proofs.Common.{◌≡◌, ℕ, ℤ, ◌-◌, Bool, true, false, not, refl, sym, ◌∙◌}
use Rattle.std.specs.Prelude.{◌&&◌, ◌||◌, nat_lt, int_lt, pos, if◌then◌else◌}
use Rattle.std.proofs.lemmas.Bool.{false≢true}
use Rattle.tcp_rules.specs.Arrival.{int_eq, is_acceptable_or_at_edge}
use Rattle.seq_arith.specs.Offset.{first_of, ack_of, length_of}
use Rattle.seq_arith.specs.Packet.{Segment, has_rst, has_syn, has_ack}
use Rattle.server_trait.specs.Service.{Machine}
use Rattle.ft_model.specs.PendingAck.{is_refused, is_delayed, is_ack_due, is_ack_pending, needs_ack as needs_ack_by_law}
use Rattle.ft_model.specs.News.{News}
use Rattle.ft_model.specs.Point.{Point, taken_units, advertised_edge}
use Rattle.ft_model.specs.Taken.{accepts as accepts_by_law, acknowledges_unsent as unsent_by_law}
use Rattle.south_wrap.specs.SouthPoint.{south_at}
use Rattle.south_wrap.specs.SouthState.{acknowledges_unsent}
use Rattle.connection_laws.proofs.Delaying.{waits_none}
use Rattle.wrapped_conn.specs.ConnState.{ConnState}
use Rattle.wrapped_conn.specs.Numbers.{needs_ack}
use Rattle.wrapped_conn.proofs.NumbersAt.{NumbersAt}

pub ack_pending_same : (a o other e closed more taken : Bool) → more ≡ false → (closed ≡ true → taken ≡ false) → (closed ≡ true → o ≡ other)
    → (a || (closed && (o || e))) ≡ ((a || more) || (closed && ((((other || a) || more) || taken) || e)))
ack_pending_same a o other e closed true taken none t s = absurd (false≢true (sym none))
ack_pending_same true o other e closed false taken none t s = refl
ack_pending_same false o other e false false taken none t s = refl
ack_pending_same false o other e true false taken none t s = (λ j. s refl j || e) ∙ without other taken e (t refl)
  where
    without : (other taken e : Bool) → taken ≡ false → (other || e) ≡ ((((other || false) || false) || taken) || e)
    without other true e h = absurd (false≢true (sym h))
    without true false e h = refl
    without false false e h = refl

-- where TCP is CLOSED nothing is taken, so no ACK waits
pub due_where_closed : {S : Type 0} (service : Machine S) (news : News) (p q : Point) (closed : Bool) → (closed ≡ true → taken_units q ≡ taken_units p)
    → (closed && is_ack_due service news p q) ≡ (closed && is_ack_pending service news p q)
unfolding is_ack_pending
due_where_closed service news p q true same = sym (λ j. not (waits_none (is_delayed news p q) news p q (same refl) refl j) && is_ack_due service news p q)
due_where_closed service news p q false same = refl

acceptable : (rst syn text refused place : Bool) → refused ≡ false → (if rst then place else (syn || text)) ≡ (if rst then place else (if syn then true else (if refused then false else text)))
acceptable rst syn text true place h = absurd (false≢true (sym h))
acceptable true syn text false place h = refl
acceptable false true text false place h = refl
acceptable false false text false place h = refl

-- the answer that a connection owes by its numbers. `unsent` says whether the segment acknowledges what was never sent
abbrev needs_ack_at : (units edge : ℕ) → (first : ℤ) → (unsent : Bool) → Segment → Bool
needs_ack_at units edge first unsent segment =
    if is_acceptable_or_at_edge units (edge - units) first (length_of segment)
    then (if has_rst segment then not (int_eq first (pos units))
    else (has_syn segment || (nat_lt 0 (length_of segment) || (has_ack segment && unsent))))
    else not (has_rst segment)

by_law : (p : Point) (segment : Segment) → p.syn_acked ≡ true
    → needs_ack_at (taken_units p) (advertised_edge p) (first_of p.cisn segment) (unsent_by_law p segment) segment ≡ needs_ack_by_law p segment
unfolding needs_ack_by_law accepts_by_law
by_law p segment syn_acked =
    let off : is_refused p segment ≡ false = λ j. not (syn_acked j) && has_ack segment && (int_lt (ack_of p.sisn segment) (pos 0) || unsent_by_law p segment) in
    λ j. if is_acceptable_or_at_edge (taken_units p) (advertised_edge p - taken_units p) (first_of p.cisn segment) (length_of segment)
    then acceptable (has_rst segment) (has_syn segment) (nat_lt 0 (length_of segment) || (has_ack segment && unsent_by_law p segment)) (is_refused p segment)
    (not (int_eq (first_of p.cisn segment) (pos (taken_units p)))) off j
    else not (has_rst segment)

unsent_is : (delta : ℕ) (p : Point) (segment : Segment) → acknowledges_unsent (south_at delta p) segment.head.ack ≡ unsent_by_law p segment
unfolding unsent_by_law
unsent_is delta p segment = refl

pub needs_ack_is : {S : Type 0} (service : Machine S) (p : Point) (c : ConnState S) (segment : Segment) → NumbersAt service p c → c.south ≡ south_at c.south.delta p → p.syn_acked ≡ true
    → needs_ack c segment ≡ needs_ack_by_law p segment
unfolding needs_ack
needs_ack_is service p c segment n south syn_acked =
    (λ j. needs_ack_at (n.units j) (n.edge j) (first_of (south j).cisn segment) (acknowledges_unsent (south j) segment.head.ack) segment)
    ∙ (λ j. needs_ack_at (taken_units p) (advertised_edge p) (first_of p.cisn segment) (unsent_is c.south.delta p segment j) segment) ∙ by_law p segment syn_acked
