-- A segment that acknowledges what was never sent changes nothing of its connection.
use Rattle.std.proofs.Common.{◌≡◌, ℕ, ◌+◌, ℤ, pos, negsuc, true, false, ◌&&◌, ◌||◌, not, int_le, int_lt, refl, sym, ap, ◌∙◌, true≢false, ◌++◌, arith, append-nil}
use Rattle.std.proofs.lemmas.Bool.{and_parts, and_left, and_right, not_from_true, not_from_false, not-true}
use Rattle.seq_arith.specs.Packet.{Segment, has_syn, has_rst, has_ack}
use Rattle.tcp_rules.specs.Coming.{Came, nothing_came}
use Rattle.ft_model.specs.Offset.{ack_of}
use Rattle.ft_model.specs.News.News.{Comes}
use Rattle.ft_model.specs.Point.{Point, most}
use Rattle.ft_model.specs.Taken.{accepts, uses, acknowledges_unsent, counts, came, taken_after, early_after, fin_after}
use Rattle.ft_model.specs.Sending.{acknowledges, moves_edge, acknowledges_new, is_duplicate, syn_acked_after, acknowledged_after, edge_after, wl1_after, wl2_after, congestion_after}
use Rattle.ft_model.specs.PendingAck.{needs_ack, needs_ack_if_acceptable}
use Rattle.ft_io.proofs.Choices.{holds_if, holds_either_way, if_false}
use Rattle.ft_io.proofs.Booleans.{or_false, or_true}

unsent_counts : (p : Point) (segment : Segment) → acknowledges_unsent p segment ≡ true → counts p segment ≡ false
unfolding counts
unsent_counts p segment u = and_right _ (not (acknowledges_unsent p segment)) (not_from_true (acknowledges_unsent p segment) u)

unsent_came : (p : Point) (segment : Segment) → acknowledges_unsent p segment ≡ true → came p segment ≡ nothing_came p.early p.fin
unfolding came
unsent_came p segment u = if_false (counts p segment) _ (nothing_came p.early p.fin) (unsent_counts p segment u)

pub unsent_takes : (p : Point) (segment : Segment) → acknowledges_unsent p segment ≡ true
    → (taken_after (Comes segment) p ≡ p.taken) × (early_after (Comes segment) p ≡ p.early) × (fin_after (Comes segment) p ≡ p.fin)
unfolding taken_after early_after fin_after
unsent_takes p segment u =
    let none = unsent_came p segment u in (
      ap (λ (c : Came). p.taken ++ c.added) none ∙ append-nil p.taken,
      ap (λ (c : Came). c.early) none,
      ap (λ (c : Came). c.fin) none,
    )

unsent_acknowledges : (p : Point) (segment : Segment) → acknowledges_unsent p segment ≡ true → acknowledges p segment ≡ false
unsent_acknowledges p segment u = and_left (counts p segment) _ (unsent_counts p segment u)

unsent_duplicate : (p : Point) (segment : Segment) → acknowledges_unsent p segment ≡ true → is_duplicate p segment ≡ false
unfolding is_duplicate
unsent_duplicate p segment u = and_left _ _ (and_left _ _ (and_left _ _ (and_left _ _ (and_left _ _ (unsent_acknowledges p segment u)))))

pub unsent_syn : (p : Point) (segment : Segment) → acknowledges_unsent p segment ≡ true → syn_acked_after (Comes segment) p ≡ p.syn_acked
unfolding syn_acked_after
unsent_syn p segment u = ap (λ b. p.syn_acked || b) (unsent_counts p segment u) ∙ sym (or_false p.syn_acked)

pub unsent_una : (p : Point) (segment : Segment) → acknowledges_unsent p segment ≡ true → acknowledged_after (Comes segment) p ≡ p.una
unfolding acknowledged_after
unsent_una p segment u = if_false (acknowledges p segment) _ p.una (unsent_acknowledges p segment u)

unsent_moves : (p : Point) (segment : Segment) → acknowledges_unsent p segment ≡ true → moves_edge p segment ≡ false
unsent_moves p segment u = and_left (acknowledges p segment) _ (unsent_acknowledges p segment u)

pub unsent_window : (p : Point) (segment : Segment) → acknowledges_unsent p segment ≡ true
    → (edge_after (Comes segment) p ≡ p.edge) × (wl1_after (Comes segment) p ≡ p.wl1) × (wl2_after (Comes segment) p ≡ p.wl2)
unfolding edge_after wl1_after wl2_after
unsent_window p segment u =
    let stays = unsent_moves p segment u in (
      if_false (moves_edge p segment) _ p.edge stays,
      if_false (moves_edge p segment) _ p.wl1 stays,
      if_false (moves_edge p segment) _ p.wl2 stays,
    )

pub unsent_congestion : (p : Point) (segment : Segment) → acknowledges_unsent p segment ≡ true → congestion_after (Comes segment) p ≡ p.congestion
unfolding congestion_after
unsent_congestion p segment u =
    if_false (acknowledges_new p segment) _ _ (and_left (acknowledges p segment) _ (unsent_acknowledges p segment u))
    ∙ if_false (is_duplicate p segment) _ p.congestion (unsent_duplicate p segment u)

pub unsent_needs_ack : (p : Point) (segment : Segment) → p.syn_acked ≡ true → has_ack segment ≡ true → has_rst segment ≡ false → acknowledges_unsent p segment ≡ true
    → needs_ack p segment ≡ true
unfolding needs_ack
unsent_needs_ack p segment acked has no_rst u =
    holds_if (λ b. b ≡ true) (accepts p segment) (needs_ack_if_acceptable p segment) (not (has_rst segment))
    (λ t. rw (no_rst, u, has, acked)
    (holds_either_way (λ b. b ≡ true) (has_syn segment) true _ refl (sym (or_true _))))
    (λ t. not_from_false (has_rst segment) no_rst)

pub unsent_dropped : (p : Point) (segment : Segment) → p.syn_acked ≡ false → accepts p segment ≡ true → has_ack segment ≡ true → has_syn segment ≡ false → has_rst segment ≡ false
    → acknowledges_unsent p segment ≡ true → needs_ack p segment ≡ false
unfolding needs_ack
unsent_dropped p segment acked at has no_syn no_rst u =
    let refused : (int_lt (ack_of p.sisn segment) (pos 0) || acknowledges_unsent p segment) ≡ true =
    ap (λ b. int_lt (ack_of p.sisn segment) (pos 0) || b) u ∙ sym (or_true (int_lt (ack_of p.sisn segment) (pos 0))) in
    rw (at, no_rst, no_syn, refused, has, acked) refl

-- an acknowledgement that is neither before nor beyond the SYN
just_the_syn : (z : ℤ) (n : ℕ) → n ≡ 0 → int_le (pos 0) z ≡ true → int_lt (pos n) z ≡ false → z ≡ pos 0
just_the_syn (pos k) n none low high = ap pos (grind (arith, none, high))
just_the_syn (negsuc k) n none low high = absurd (true≢false (sym low))

pub first_counts : (p : Point) (segment : Segment) → p.syn_acked ≡ false → most p ≡ 0 → counts p segment ≡ true → ack_of p.sisn segment ≡ pos 0
unfolding counts acknowledges_unsent
first_counts p segment acked none c =
    let two = and_parts (has_ack segment && not (has_syn segment) && not (has_rst segment) && uses p segment && (p.syn_acked || int_le (pos 0) (ack_of p.sisn segment)))
    (not (int_lt (pos (most p)) (ack_of p.sisn segment))) c in
    let all = and_parts (has_ack segment && not (has_syn segment) && not (has_rst segment) && uses p segment) (p.syn_acked || int_le (pos 0) (ack_of p.sisn segment)) two.0 in
    just_the_syn (ack_of p.sisn segment) (most p) none (sym (ap (λ b. b || int_le (pos 0) (ack_of p.sisn segment)) acked) ∙ all.1)
    (not-true (int_lt (pos (most p)) (ack_of p.sisn segment)) two.1)
