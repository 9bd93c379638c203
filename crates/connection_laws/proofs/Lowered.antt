-- What the inner TCP makes of a segment whose acknowledgement is lowered is what the laws make of the segment itself, less where output goes on.
use Rattle.std.proofs.Common.{◌≡◌, ℕ, ◌<◌, ◌≤◌, ◌+◌, ◌-◌, ◌%◌, ◌^◌, Bool, true, false, not, min, refl, sym, ap, arith, inl, inr, ◌∙◌}
use Rattle.std.specs.Prelude.{ℤ, pos, negsuc, ◌⊎◌, ◌-ℤ◌, ◌≤ℤ◌, ◌&&◌, ◌||◌, nat_abs, nat_lt, nat_le, int_lt, int_le, if◌then◌else◌}
use Rattle.std.proofs.lemmas.Int.{ints}
use Rattle.std.proofs.Math.Nat.{max-zero}
use Rattle.seq_arith.specs.Number.{gap, distance, number_at, offset_of}
use Rattle.std.proofs.lemmas.Bool.{false≢true}
use Rattle.tcp_rules.specs.Arrival.{int_eq, is_beyond, una_after, updates_window}
use Rattle.seq_arith.specs.Packet.{Segment}
use Rattle.seq_arith.proofs.Shifts.{gap_from, offset_shift, offset_of_number}
use Rattle.ft_model.specs.Offset.{ack_of}
use Rattle.ft_model.specs.Point.{Point, most}
use Rattle.ft_model.specs.Taken.{acknowledges_unsent}
use Rattle.connection_laws.specs.Inside.{inside, Proceeds}
use Rattle.south_wrap.specs.Translation.{inward}
use Rattle.south_wrap.specs.SouthState.{is_high}
use Rattle.south_wrap.specs.SouthPoint.{south_at}
use Rattle.ft_io.proofs.Booleans.{and_false}
use Rattle.ft_io.proofs.Choices.{if_false, if_true}

proceeds : (sisn u number : ℕ) → number < 2 ^ 32 → u ≤ 2 ^ 24 → (pos 0 -ℤ pos (2 ^ 30)) ≤ℤ offset_of sisn number
    → offset_of ((sisn + u) % 2 ^ 32) number ≡ offset_of sisn number -ℤ pos u
unfolding offset_of
proceeds sisn u number fits small near =
    let start : ((sisn + u) % 2 ^ 32 + 1) % 2 ^ 32 ≡ ((sisn + 1) % 2 ^ 32 + u) % 2 ^ 32 = omega arith in
    ap (gap number) start ∙ gap_from number ((sisn + 1) % 2 ^ 32) u fits (omega arith) (omega (arith, small)) (omega (arith, ints, small, near))

-- a number that is lowered names an offset that is as much less as output has gone on
lowered_offset : (i delta sisn u number : ℕ) → (i + delta) % 2 ^ 32 ≡ (sisn + u) % 2 ^ 32 → number < 2 ^ 32 → delta < 2 ^ 32 → u ≤ 2 ^ 24
    → (pos 0 -ℤ pos (2 ^ 30)) ≤ℤ offset_of sisn number → offset_of i (distance number delta) ≡ offset_of sisn number -ℤ pos u
lowered_offset i delta sisn u number shift fits delta_fits small near =
    let back : (distance number delta + delta) % 2 ^ 32 ≡ number = omega (arith, fits, delta_fits) in
    let moved : offset_of ((i + delta) % 2 ^ 32) ((distance number delta + delta) % 2 ^ 32) ≡ offset_of i (distance number delta) =
    offset_shift i (distance number delta) delta (omega arith) in
    sym moved ∙ (λ j. offset_of (shift j) (back j)) ∙ proceeds sisn u number fits small near

-- an acknowledgement of what only an earlier incarnation can have sent; a usual one; one of what was acknowledged before it went on; one of nothing; one of what
-- was never sent
pub record High (u sent most : ℕ) (ack inner : ℤ) : Type 0 where
  pub k : ℕ
  pub is : ack ≡ pos k
  pub over : sent < k
  pub within : k ≤ most
  pub to : inner ≡ pos (sent - u)

pub record Usual (u sent : ℕ) (ack inner : ℤ) : Type 0 where
  pub k : ℕ
  pub is : ack ≡ pos k
  pub from : u ≤ k
  pub most : k ≤ sent
  pub to : inner ≡ pos (k - u)

pub record Known (u sent : ℕ) (ack inner : ℤ) : Type 0 where
  pub k : ℕ
  pub is : ack ≡ pos k
  pub under : k < u
  pub most : k ≤ sent
  pub negative : int_le (pos 0) inner ≡ false
  pub to : inner ≡ pos k -ℤ pos u

pub record Early (u : ℕ) (ack inner : ℤ) : Type 0 where
  pub negative : int_le (pos 0) ack ≡ false
  pub inside : int_le (pos 0) inner ≡ false
  pub to : inner ≡ ack -ℤ pos u

pub record Unsent (u sent most : ℕ) (ack inner : ℤ) : Type 0 where
  pub k : ℕ
  pub is : ack ≡ pos k
  pub over : sent < k
  pub beyond : most < k
  pub to : inner ≡ pos (k - u)

abbrev pub Lowers : (u sent most : ℕ) (ack inner : ℤ) → Type 0
Lowers u sent most ack inner =
    High u sent most ack inner ⊎ (Usual u sent ack inner ⊎ (Known u sent ack inner ⊎ (Early u ack inner ⊎ Unsent u sent most ack inner)))

-- the acknowledgement of a segment that comes at a point
abbrev pub LowersAt : (u i delta : ℕ) (p : Point) (segment : Segment) → Type 0
LowersAt u i delta p segment = Lowers u p.sent (most p) (ack_of p.sisn segment) (ack_of i (inward (south_at delta p) segment))

-- whether it is lowered to what was sent, and the window is raised by as much
abbrev pub is_lowered : (sent most : ℕ) (ack : ℤ) → Bool
is_lowered sent most ack = int_lt (pos sent) ack && not (is_beyond most ack)

abbrev pub window_inside : (sent most window : ℕ) (ack : ℤ) → ℕ
window_inside sent most window ack = if is_lowered sent most ack then min 65535 (window + (nat_abs ack - sent)) else window

pub window_usual : (sent most window k : ℕ) → k ≤ sent → window_inside sent most window (pos k) ≡ window
window_usual sent most window k h = grind (arith, ints, h)

window_high : (sent most window k : ℕ) → sent < k → k ≤ most → window_inside sent most window (pos k) ≡ min 65535 (window + (k - sent))
window_high sent most window k h w = grind (arith, ints, h, w)

window_unsent : (sent most window k : ℕ) → most < k → window_inside sent most window (pos k) ≡ window
window_unsent sent most window k h = grind (arith, ints, h)

below_or : (u sent most k : ℕ) (inner : ℤ) (low : Bool) → nat_lt k u ≡ low → k ≤ sent → inner ≡ pos k -ℤ pos u → Lowers u sent most (pos k) inner
below_or u sent most k inner true t usual to =
    inr (inr (inl (record { k = k; is = refl; under = grind (arith, t); most = usual; negative = rw to (grind (arith, ints, t)); to = to })))
below_or u sent most k inner false t usual to =
    let from : u ≤ k = grind (arith, t)
    in inr (inl (record { k = k; is = refl; from = from; most = usual; to = to ∙ omega (arith, ints, from) }))

less_of : (k u sent : ℕ) → u ≤ sent → sent < k → (pos k -ℤ pos u) ≡ pos (k - u)
less_of k u sent h o = omega (arith, ints, h, o)

lowers_by : (u sent most : ℕ) (ack inner : ℤ) (high beyond : Bool) → int_lt (pos sent) ack ≡ high → is_beyond most ack ≡ beyond → u ≤ sent
    → ((high && not beyond) ≡ true → inner ≡ pos sent -ℤ pos u) → ((high && not beyond) ≡ false → inner ≡ ack -ℤ pos u) → Lowers u sent most ack inner
lowers_by u sent most (pos k) inner true false t n h a b =
    inl (record { k = k; is = refl; over = grind (arith, ints, t); within = grind (arith, ints, n); to = a refl ∙ omega (arith, ints, h) })
lowers_by u sent most (pos k) inner true true t n h a b =
    let over : sent < k = grind (arith, ints, t)
    in inr (inr (inr (inr (record { k = k; is = refl; over = over; beyond = grind (arith, ints, n); to = b refl ∙ less_of k u sent h over }))))
lowers_by u sent most (pos k) inner false beyond t n h a b = below_or u sent most k inner (nat_lt k u) refl (grind (arith, ints, t)) (b refl)
lowers_by u sent most (negsuc k) inner true beyond t n h a b = absurd (grind (arith, ints, t))
lowers_by u sent most (negsuc k) inner false beyond t n h a b =
    inr (inr (inr (inl (record { negative = grind (arith, ints); inside = rw (b refl) (grind (arith, ints)); to = b refl }))))

-- the acknowledgement of a near segment
pub lowers : (u i delta : ℕ) (p : Point) (segment : Segment) → Proceeds u i delta p → segment.head.ack < 2 ^ 32
    → (pos 0 -ℤ pos (2 ^ 30)) ≤ℤ ack_of p.sisn segment → LowersAt u i delta p segment
lowers u i delta p segment g fits near =
    let high : Bool = is_high (south_at delta p) segment.head.ack in
    let n : ℕ = number_at p.sisn p.sent in
    let ack : ℤ = ack_of p.sisn segment in
    let at : offset_of p.sisn n ≡ pos p.sent = offset_of_number p.sisn p.sent (omega (arith, g.sent)) in
    lowers_by u p.sent (most p) ack (ack_of i (inward (south_at delta p) segment)) (int_lt (pos p.sent) ack) (is_beyond (most p) ack) refl refl (omega (arith, g.una, g.order))
    (λ t. ap (λ m. offset_of i (distance m delta)) (if_true high n segment.head.ack t)
    ∙ lowered_offset i delta p.sisn u n g.shift (omega arith) g.delta_fits g.small (rw at (omega (arith, ints)))
    ∙ ap (λ z. z -ℤ pos u) at)
    (λ t. ap (λ m. offset_of i (distance m delta)) (if_false high n segment.head.ack t)
    ∙ lowered_offset i delta p.sisn u segment.head.ack g.shift fits g.delta_fits g.small near)

-- whether it names an offset that counts
pub unsigned : (c s x : Bool) → s ≡ false → ((c && s) && x) ≡ false
unsigned true s x h = ap (λ v. v && x) h
unsigned false s x h = refl

off_behind : (c s n a y : Bool) → n ≡ false → a ≡ false → ((c && s) && (n || (a && y))) ≡ false
off_behind c s n a y p q = (λ j. (c && s) && (p j || (q j && y))) ∙ and_false (c && s)

-- SND.UNA
pub una_inside : (u una sent most : ℕ) (c : Bool) (ack inner : ℤ) → u ≤ una → una ≤ sent → Lowers u sent most ack inner
    → (if c && int_le (pos 0) inner then una_after (una - u) (min (nat_abs inner) (sent - u)) else una - u)
    ≡ (if c && int_le (pos 0) ack then una_after una (min (nat_abs ack) sent) else una) - u
una_inside u una sent most false ack inner a b l = refl
una_inside u una sent most true ack inner a b (inl h) = rw (h.is, h.to) (grind (arith, ints, h.over, a, b))
una_inside u una sent most true ack inner a b (inr (inl h)) = rw (h.is, h.to) (grind (arith, ints, h.from, h.most, a, b))
una_inside u una sent most true ack inner a b (inr (inr (inl h))) = rw (h.negative, h.is) (grind (arith, ints, h.under, h.most, a, b))
una_inside u una sent most true ack inner a b (inr (inr (inr (inl h)))) = rw (h.negative, h.inside) refl
una_inside u una sent most true ack inner a b (inr (inr (inr (inr h)))) = rw (h.is, h.to) (grind (arith, ints, h.over, a, b))

-- whether the window is used
abbrev pub moves : (c syn_acked : Bool) (una : ℕ) (wl1 : ℤ) (wl2 : ℕ) (first ack : ℤ) (sent : ℕ) → Bool
moves c syn_acked una wl1 wl2 first ack sent = (c && int_le (pos 0) ack) && (not syn_acked || updates_window una wl1 wl2 first (min (nat_abs ack) sent))

moves_same : (c syn_acked : Bool) (una una' : ℕ) (wl1 : ℤ) (wl2 wl2' : ℕ) (first ack ack' : ℤ) (sent sent' : ℕ) → int_le (pos 0) ack' ≡ int_le (pos 0) ack
    → nat_le una' (min (nat_abs ack') sent') ≡ nat_le una (min (nat_abs ack) sent) → nat_le wl2' (min (nat_abs ack') sent') ≡ nat_le wl2 (min (nat_abs ack) sent)
    → moves c syn_acked una' wl1 wl2' first ack' sent' ≡ moves c syn_acked una wl1 wl2 first ack sent
moves_same c syn_acked una una' wl1 wl2 wl2' first ack ack' sent sent' s a b =
    λ j. (c && s j) && (not syn_acked || (a j && (int_lt wl1 first || (int_eq wl1 first && b j))))

some_left : (syn_acked : Bool) (u k : ℕ) → (syn_acked ≡ false → u ≡ 0) → k < u → not syn_acked ≡ false
some_left true u k h l = refl
some_left false u k h l = absurd (omega (arith, h refl, l))

pub moves_inside : (u una sent most : ℕ) (c syn_acked : Bool) (wl1 : ℤ) (wl2 : ℕ) (first ack inner : ℤ) → u ≤ una → una ≤ sent → u ≤ wl2 → (syn_acked ≡ false → u ≡ 0)
    → Lowers u sent most ack inner → moves c syn_acked (una - u) wl1 (wl2 - u) first inner (sent - u) ≡ moves c syn_acked una wl1 wl2 first ack sent
moves_inside u una sent most c syn_acked wl1 wl2 first ack inner a b w o (inl h) =
    moves_same c syn_acked una (una - u) wl1 wl2 (wl2 - u) first ack inner sent (sent - u) (rw (h.is, h.to) (grind (arith, ints)))
    (rw (h.is, h.to) (grind (arith, ints, h.over, a, b))) (rw (h.is, h.to) (grind (arith, ints, h.over, a, b, w)))
moves_inside u una sent most c syn_acked wl1 wl2 first ack inner a b w o (inr (inl h)) =
    moves_same c syn_acked una (una - u) wl1 wl2 (wl2 - u) first ack inner sent (sent - u) (rw (h.is, h.to) (grind (arith, ints)))
    (rw (h.is, h.to) (grind (arith, ints, h.from, h.most, a, b))) (rw (h.is, h.to) (grind (arith, ints, h.from, h.most, a, b, w)))
moves_inside u una sent most c syn_acked wl1 wl2 first ack inner a b w o (inr (inr (inl h))) =
    unsigned c (int_le (pos 0) inner) _ h.negative
    ∙ sym (off_behind c (int_le (pos 0) ack) (not syn_acked) (nat_le una (min (nat_abs ack) sent)) _ (some_left syn_acked u h.k o h.under)
    (rw h.is (grind (arith, ints, h.under, h.most, a))))
moves_inside u una sent most c syn_acked wl1 wl2 first ack inner a b w o (inr (inr (inr (inl h)))) =
    unsigned c (int_le (pos 0) inner) _ h.inside ∙ sym (unsigned c (int_le (pos 0) ack) _ h.negative)
moves_inside u una sent most c syn_acked wl1 wl2 first ack inner a b w o (inr (inr (inr (inr h)))) =
    moves_same c syn_acked una (una - u) wl1 wl2 (wl2 - u) first ack inner sent (sent - u) (rw (h.is, h.to) (grind (arith, ints)))
    (rw (h.is, h.to) (grind (arith, ints, h.over, a, b))) (rw (h.is, h.to) (grind (arith, ints, h.over, a, b, w)))

-- where it is used, the acknowledgement is one that counts, and the window reaches as far
pub record Used (u sent window inner_window : ℕ) (ack inner : ℤ) : Type 0 where
  pub ack_is : min (nat_abs inner) (sent - u) ≡ min (nat_abs ack) sent - u
  pub from : u ≤ min (nat_abs ack) sent
  pub window_is : min 65535 (inner_window + nat_abs inner - min (nat_abs inner) (sent - u)) ≡ min 65535 (window + nat_abs ack - min (nat_abs ack) sent)

pub used_by : (u una sent most : ℕ) (c syn_acked : Bool) (wl1 : ℤ) (wl2 window : ℕ) (first ack inner : ℤ) → u ≤ una → una ≤ sent → (syn_acked ≡ false → u ≡ 0)
    → Lowers u sent most ack inner → moves c syn_acked una wl1 wl2 first ack sent ≡ true → Used u sent window (window_inside sent most window ack) ack inner
used_by u una sent most c syn_acked wl1 wl2 window first ack inner a b o (inl h) m = record {
  ack_is = rw (h.is, h.to) (grind (arith, ints, h.over, a, b));
  from = rw h.is (grind (arith, ints, h.over, a, b));
  window_is = rw (h.is, h.to, window_high sent most window h.k h.over h.within) (grind (arith, ints, h.over, a, b));
}
used_by u una sent most c syn_acked wl1 wl2 window first ack inner a b o (inr (inl h)) m = record {
  ack_is = rw (h.is, h.to) (grind (arith, ints, h.from, h.most, a, b));
  from = rw h.is (grind (arith, ints, h.from, h.most, a, b));
  window_is = rw (h.is, h.to, window_usual sent most window h.k h.most) (grind (arith, ints, h.from, h.most, a, b));
}
used_by u una sent most c syn_acked wl1 wl2 window first ack inner a b o (inr (inr (inl h))) m =
    absurd (false≢true (sym (off_behind c (int_le (pos 0) ack) (not syn_acked) (nat_le una (min (nat_abs ack) sent)) _ (some_left syn_acked u h.k o h.under)
    (rw h.is (grind (arith, ints, h.under, h.most, a)))) ∙ m))
used_by u una sent most c syn_acked wl1 wl2 window first ack inner a b o (inr (inr (inr (inl h)))) m =
    absurd (false≢true (sym (unsigned c (int_le (pos 0) ack) _ h.negative) ∙ m))
used_by u una sent most c syn_acked wl1 wl2 window first ack inner a b o (inr (inr (inr (inr h)))) m = record {
  ack_is = rw (h.is, h.to) (grind (arith, ints, h.over, a, b));
  from = rw h.is (grind (arith, ints, h.over, a, b));
  window_is = rw (h.is, h.to, window_unsent sent most window h.k h.beyond) (grind (arith, ints, h.over, a, b));
}

when : (m : Bool) (x y edge u : ℕ) → (m ≡ true → x ≡ y - u) → (if m then x else edge - u) ≡ (if m then y else edge) - u
when true x y edge u h = h refl
when false x y edge u h = refl

-- the right edge and SND.WL2
pub edge_inside : (u una sent most : ℕ) (c syn_acked : Bool) (wl1 : ℤ) (wl2 window edge : ℕ) (first ack inner : ℤ) → u ≤ una → una ≤ sent → (syn_acked ≡ false → u ≡ 0)
    → Lowers u sent most ack inner
    → (if moves c syn_acked una wl1 wl2 first ack sent then min (nat_abs inner) (sent - u)
    + min 65535 (window_inside sent most window ack + nat_abs inner - min (nat_abs inner) (sent - u)) else edge - u)
    ≡ (if moves c syn_acked una wl1 wl2 first ack sent then min (nat_abs ack) sent + min 65535 (window + nat_abs ack - min (nat_abs ack) sent) else edge) - u
edge_inside u una sent most c syn_acked wl1 wl2 window edge first ack inner a b o l =
    when (moves c syn_acked una wl1 wl2 first ack sent) _ _ edge u
    (λ m. let h = used_by u una sent most c syn_acked wl1 wl2 window first ack inner a b o l m in (λ j. h.ack_is j + h.window_is j) ∙ omega (arith, h.from))

pub wl2_inside : (u una sent most : ℕ) (c syn_acked : Bool) (wl1 : ℤ) (wl2 : ℕ) (first ack inner : ℤ) → u ≤ una → una ≤ sent → (syn_acked ≡ false → u ≡ 0)
    → Lowers u sent most ack inner
    → (if moves c syn_acked una wl1 wl2 first ack sent then min (nat_abs inner) (sent - u) else wl2 - u)
    ≡ (if moves c syn_acked una wl1 wl2 first ack sent then min (nat_abs ack) sent else wl2) - u
wl2_inside u una sent most c syn_acked wl1 wl2 first ack inner a b o l =
    when (moves c syn_acked una wl1 wl2 first ack sent) _ _ wl2 u (λ m. (used_by u una sent most c syn_acked wl1 wl2 0 first ack inner a b o l m).ack_is)

-- while nothing has counted, output goes on from its beginning
pub same_sign : (u sent most : ℕ) (ack inner : ℤ) → u ≡ 0 → Lowers u sent most ack inner → int_le (pos 0) inner ≡ int_le (pos 0) ack
same_sign u sent most ack inner o (inl h) = rw (h.is, h.to) (grind (arith, ints))
same_sign u sent most ack inner o (inr (inl h)) = rw (h.is, h.to) (grind (arith, ints))
same_sign u sent most ack inner o (inr (inr (inl h))) = absurd (omega (arith, o, h.under))
same_sign u sent most ack inner o (inr (inr (inr (inl h)))) = h.inside ∙ sym h.negative
same_sign u sent most ack inner o (inr (inr (inr (inr h)))) = rw (h.is, h.to) (grind (arith, ints))

-- .. so the first acknowledgement counts where it names an offset, on either side
pub counts_inside : (u sent most : ℕ) (syn_acked : Bool) (ack inner : ℤ) → (syn_acked ≡ false → u ≡ 0) → Lowers u sent most ack inner
    → (syn_acked || int_le (pos 0) inner) ≡ (syn_acked || int_le (pos 0) ack)
counts_inside u sent most true ack inner o l = refl
counts_inside u sent most false ack inner o l = same_sign u sent most ack inner (o refl) l

-- an acknowledgement of what was never sent is one on either side
below_none : (n : ℕ) (z : ℤ) → int_le (pos 0) z ≡ false → is_beyond n z ≡ false
below_none n z h = grind (arith, ints, h)

beyond_inside : (u sent most : ℕ) (ack inner : ℤ) → u ≤ sent → sent ≤ most → Lowers u sent most ack inner → is_beyond (sent - u) inner ≡ is_beyond most ack
beyond_inside u sent most ack inner a b (inl h) = rw (h.is, h.to) (grind (arith, ints, h.within))
beyond_inside u sent most ack inner a b (inr (inl h)) = rw (h.is, h.to) (grind (arith, ints, h.from, h.most, b))
beyond_inside u sent most ack inner a b (inr (inr (inl h))) = below_none (sent - u) inner h.negative ∙ sym (rw h.is (grind (arith, ints, h.most, b)))
beyond_inside u sent most ack inner a b (inr (inr (inr (inl h)))) = below_none (sent - u) inner h.inside ∙ sym (below_none most ack h.negative)
beyond_inside u sent most ack inner a b (inr (inr (inr (inr h)))) = rw (h.is, h.to) (grind (arith, ints, h.over, h.beyond, a))

pub unsent_inside : (u i delta : ℕ) (p : Point) (segment : Segment) → Proceeds u i delta p → LowersAt u i delta p segment
    → acknowledges_unsent (inside u i p) (inward (south_at delta p) segment) ≡ acknowledges_unsent p segment
unfolding acknowledges_unsent
unsent_inside u i delta p segment g l =
    ap (λ n. is_beyond n (ack_of i (inward (south_at delta p) segment))) (max-zero (p.sent - u))
    ∙ beyond_inside u p.sent (most p) (ack_of p.sisn segment) (ack_of i (inward (south_at delta p) segment)) (omega (arith, g.una, g.order)) (omega arith) l
