-- An acknowledgement makes the same of the congestion window inside and outside: it is a duplicate on both sides or on neither, and acknowledges as many
-- units for the first time.
use Rattle.std.proofs.Common.{◌≡◌, ℕ, ◌<◌, ◌≤◌, ◌+◌, ◌-◌, Bool, true, false, min, refl, sym, ap, arith, inl, inr, ◌∙◌}
use Rattle.std.specs.Prelude.{ℤ, pos, ◌==◌, ◌&&◌, nat_abs, nat_lt, int_le, if◌then◌else◌}
use Rattle.std.proofs.lemmas.Int.{ints}
use Rattle.std.proofs.lemmas.Bool.{false≢true}
use Rattle.tcp_rules.specs.Congestion.{Congestion, is_partial, with_new_data, with_duplicate}
use Rattle.ft_io.proofs.Booleans.{and_when}
use Rattle.connection_laws.proofs.Lowered.{Lowers, window_inside, window_usual, unsigned}

-- what the laws ask of the numbers: it acknowledges what no segment did before, ..
abbrev pub acknowledges_more : (una sent : ℕ) (c : Bool) (ack : ℤ) → Bool
acknowledges_more una sent c ack = (c && int_le (pos 0) ack) && nat_lt una (min (nat_abs ack) sent)

-- .. or it repeats the last one while something is in flight, and leaves the edge as it is
abbrev pub repeats : (una sent edge window : ℕ) (ack : ℤ) → Bool
repeats una sent edge window ack =
    min (nat_abs ack) sent == una && nat_lt una sent && min (nat_abs ack) sent + min 65535 (window + nat_abs ack - min (nat_abs ack) sent) == edge

-- its segment is without text, and without a FIN
abbrev pub duplicates : (una sent edge window : ℕ) (c textless finless : Bool) (ack : ℤ) → Bool
duplicates una sent edge window c textless finless ack =
    (c && int_le (pos 0) ack)
    && textless
    && finless
    && min (nat_abs ack) sent == una
    && nat_lt una sent
    && min (nat_abs ack) sent + min 65535 (window + nat_abs ack - min (nat_abs ack) sent) == edge

-- one that acknowledges all that was sent repeats nothing, ..
repeats_not : (una sent edge window k : ℕ) → sent < k → repeats una sent edge window (pos k) ≡ false
repeats_not una sent edge window k h = grind (arith, h)

-- .. nor does one of less than is acknowledged already
repeats_less : (una sent edge window k : ℕ) → k < una → repeats una sent edge window (pos k) ≡ false
repeats_less una sent edge window k h = grind (arith, h)

repeats_all : (una sent edge window : ℕ) → repeats una sent edge window (pos sent) ≡ false
repeats_all una sent edge window = grind arith

repeats_usual : (u una sent edge window k : ℕ) → u ≤ una → una ≤ sent → u ≤ edge → u ≤ k → k ≤ sent
    → repeats (una - u) (sent - u) (edge - u) window (pos (k - u)) ≡ repeats una sent edge window (pos k)
repeats_usual u una sent edge window k a b c d e =
    let inner : min (k - u) (sent - u) ≡ k - u = omega (arith, d, e) in
    let outer : min k sent ≡ k = omega (arith, e) in
    let same : ((k - u) == (una - u)) ≡ (k == una) = grind (arith, a, d) in
    let under_way : nat_lt (una - u) (sent - u) ≡ nat_lt una sent = grind (arith, a, b) in
    let edges : ((k - u) + min 65535 (window + (k - u) - (k - u)) == (edge - u)) ≡ (k + min 65535 (window + k - k) == edge) = grind (arith, c, d) in
    (λ i. inner i == (una - u) && nat_lt (una - u) (sent - u) && inner i + min 65535 (window + (k - u) - inner i) == (edge - u))
    ∙ (λ i. same i && under_way i && edges i)
    ∙ sym (λ i. outer i == una && nat_lt una sent && outer i + min 65535 (window + k - outer i) == edge)

none_of : (a t f x y z : Bool) → (x && y && z) ≡ false → (a && t && f && x && y && z) ≡ false
none_of true true true x y z h = h
none_of true true false x y z h = refl
none_of true false f x y z h = refl
none_of false t f x y z h = refl

unused : (c s t f x y z : Bool) → s ≡ false → ((c && s) && t && f && x && y && z) ≡ false
unused true s t f x y z h = ap (λ v. v && t && f && x && y && z) h
unused false s t f x y z h = refl

regroup : (a t f x y z x' y' z' : Bool) → (x && y && z) ≡ (x' && y' && z') → (a && t && f && x && y && z) ≡ (a && t && f && x' && y' && z')
regroup true true true x y z x' y' z' h = h
regroup true true false x y z x' y' z' h = refl
regroup true false f x y z x' y' z' h = refl
regroup false t f x y z x' y' z' h = refl

zero_up : (k : ℕ) → int_le (pos 0) (pos k) ≡ true
zero_up k = grind (arith, ints)

pub duplicates_inside : (u una sent most edge window : ℕ) (c textless finless : Bool) (ack inner : ℤ) → u ≤ una → una ≤ sent → u ≤ edge → Lowers u sent most ack inner
    → duplicates (una - u) (sent - u) (edge - u) (window_inside sent most window ack) c textless finless inner ≡ duplicates una sent edge window c textless finless ack
duplicates_inside u una sent most edge window c t f ack inner a b e (inl h) =
    none_of (c && int_le (pos 0) inner) t f _ _ _ (rw h.to (repeats_all (una - u) (sent - u) (edge - u) (window_inside sent most window ack)))
    ∙ sym (none_of (c && int_le (pos 0) ack) t f _ _ _ (rw h.is (repeats_not una sent edge window h.k h.over)))
duplicates_inside u una sent most edge window c t f ack inner a b e (inr (inl h)) =
    (λ i. duplicates (una - u) (sent - u) (edge - u) (window_inside sent most window (h.is i)) c t f (h.to i))
    ∙ (λ i. duplicates (una - u) (sent - u) (edge - u) (window_usual sent most window h.k h.most i) c t f (pos (h.k - u)))
    ∙ regroup (c && int_le (pos 0) (pos (h.k - u))) t f _ _ _ _ _ _ (repeats_usual u una sent edge window h.k a b e h.from h.most)
    ∙ (λ i. (c && (zero_up (h.k - u) ∙ sym (zero_up h.k)) i) && t && f && min h.k sent == una && nat_lt una sent
    && min h.k sent + min 65535 (window + h.k - min h.k sent) == edge)
    ∙ sym (λ i. duplicates una sent edge window c t f (h.is i))
duplicates_inside u una sent most edge window c t f ack inner a b e (inr (inr (inl h))) =
    unused c (int_le (pos 0) inner) t f _ _ _ h.negative
    ∙ sym (none_of (c && int_le (pos 0) ack) t f _ _ _ (rw h.is (repeats_less una sent edge window h.k (omega (arith, h.under, a)))))
duplicates_inside u una sent most edge window c t f ack inner a b e (inr (inr (inr (inl h)))) =
    unused c (int_le (pos 0) inner) t f _ _ _ h.inside ∙ sym (unused c (int_le (pos 0) ack) t f _ _ _ h.negative)
duplicates_inside u una sent most edge window c t f ack inner a b e (inr (inr (inr (inr h)))) =
    none_of (c && int_le (pos 0) inner) t f _ _ _
    (rw h.to (repeats_not (una - u) (sent - u) (edge - u) (window_inside sent most window ack) (h.k - u) (omega (arith, h.over, a, b))))
    ∙ sym (none_of (c && int_le (pos 0) ack) t f _ _ _ (rw h.is (repeats_not una sent edge window h.k h.over)))

-- as many units are acknowledged for the first time
more_same : (una una' sent sent' : ℕ) (c : Bool) (ack ack' : ℤ) → int_le (pos 0) ack' ≡ int_le (pos 0) ack
    → nat_lt una' (min (nat_abs ack') sent') ≡ nat_lt una (min (nat_abs ack) sent) → acknowledges_more una' sent' c ack' ≡ acknowledges_more una sent c ack
more_same una una' sent sent' c ack ack' s a = λ i. (c && s i) && a i

off_more : (c s m : Bool) → m ≡ false → ((c && s) && m) ≡ false
off_more true true m h = h
off_more true false m h = refl
off_more false s m h = refl

pub more_inside : (u una sent most : ℕ) (c : Bool) (ack inner : ℤ) → u ≤ una → una ≤ sent → Lowers u sent most ack inner
    → acknowledges_more (una - u) (sent - u) c inner ≡ acknowledges_more una sent c ack
more_inside u una sent most c ack inner a b (inl h) =
    more_same una (una - u) sent (sent - u) c ack inner (rw (h.is, h.to) (grind (arith, ints))) (rw (h.is, h.to) (grind (arith, ints, h.over, a, b)))
more_inside u una sent most c ack inner a b (inr (inl h)) =
    more_same una (una - u) sent (sent - u) c ack inner (rw (h.is, h.to) (grind (arith, ints))) (rw (h.is, h.to) (grind (arith, ints, h.from, h.most, a, b)))
more_inside u una sent most c ack inner a b (inr (inr (inl h))) =
    unsigned c (int_le (pos 0) inner) _ h.negative
    ∙ sym (off_more c (int_le (pos 0) ack) (nat_lt una (min (nat_abs ack) sent)) (rw h.is (grind (arith, ints, h.under, h.most, a))))
more_inside u una sent most c ack inner a b (inr (inr (inr (inl h)))) =
    unsigned c (int_le (pos 0) inner) _ h.inside ∙ sym (unsigned c (int_le (pos 0) ack) _ h.negative)
more_inside u una sent most c ack inner a b (inr (inr (inr (inr h)))) =
    more_same una (una - u) sent (sent - u) c ack inner (rw (h.is, h.to) (grind (arith, ints))) (rw (h.is, h.to) (grind (arith, ints, h.over, a, b)))

units_inside : (u una sent most : ℕ) (c : Bool) (ack inner : ℤ) → u ≤ una → una ≤ sent → Lowers u sent most ack inner → acknowledges_more una sent c ack ≡ true
    → min (nat_abs inner) (sent - u) - (una - u) ≡ min (nat_abs ack) sent - una
units_inside u una sent most c ack inner a b (inl h) m = rw (h.is, h.to) (grind (arith, ints, h.over, a, b))
units_inside u una sent most c ack inner a b (inr (inl h)) m = rw (h.is, h.to) (grind (arith, ints, h.from, h.most, a, b))
units_inside u una sent most c ack inner a b (inr (inr (inl h))) m =
    absurd (false≢true (sym (off_more c (int_le (pos 0) ack) (nat_lt una (min (nat_abs ack) sent)) (rw h.is (grind (arith, ints, h.under, h.most, a)))) ∙ m))
units_inside u una sent most c ack inner a b (inr (inr (inr (inl h)))) m = absurd (false≢true (sym (unsigned c (int_le (pos 0) ack) _ h.negative) ∙ m))
units_inside u una sent most c ack inner a b (inr (inr (inr (inr h)))) m = rw (h.is, h.to) (grind (arith, ints, h.over, a, b))

-- and as much is in flight
pub flight_inside : (u una sent : ℕ) → u ≤ una → (sent - u) - (una - u) ≡ sent - una
flight_inside u una sent a = omega (arith, a)

by_units : (m : Bool) (units units' mss : ℕ) (c x x' : Congestion) → (m ≡ true → units' ≡ units) → x' ≡ x
    → (if m then with_new_data mss units' c else x') ≡ (if m then with_new_data mss units c else x)
by_units true units units' mss c x x' h e = ap (λ n. with_new_data mss n c) (h refl)
by_units false units units' mss c x x' h e = e

pub congestion_inside : (u una sent most edge window mss : ℕ) (c textless finless : Bool) (ack inner : ℤ) (now : Congestion)
    → u ≤ una → una ≤ sent → u ≤ edge → Lowers u sent most ack inner
    → (if acknowledges_more (una - u) (sent - u) c inner then with_new_data mss (min (nat_abs inner) (sent - u) - (una - u)) now
    else (if duplicates (una - u) (sent - u) (edge - u) (window_inside sent most window ack) c textless finless inner
    then with_duplicate mss ((sent - u) - (una - u)) now else now))
    ≡ (if acknowledges_more una sent c ack then with_new_data mss (min (nat_abs ack) sent - una) now
    else (if duplicates una sent edge window c textless finless ack then with_duplicate mss (sent - una) now else now))
congestion_inside u una sent most edge window mss c t f ack inner now a b e l =
    (λ i. if more_inside u una sent most c ack inner a b l i then with_new_data mss (min (nat_abs inner) (sent - u) - (una - u)) now
    else (if duplicates_inside u una sent most edge window c t f ack inner a b e l i then with_duplicate mss (flight_inside u una sent a i) now else now))
    ∙ by_units (acknowledges_more una sent c ack) _ _ mss now _ _ (units_inside u una sent most c ack inner a b l) refl

-- it is partial on both sides or on neither
pub partial_inside : (u una sent most : ℕ) (c : Bool) (ack inner : ℤ) (now : Congestion) → u ≤ una → una ≤ sent → Lowers u sent most ack inner
    → (acknowledges_more (una - u) (sent - u) c inner && is_partial (min (nat_abs inner) (sent - u) - (una - u)) now)
    ≡ (acknowledges_more una sent c ack && is_partial (min (nat_abs ack) sent - una) now)
partial_inside u una sent most c ack inner now a b l =
    ap (λ v. v && is_partial (min (nat_abs inner) (sent - u) - (una - u)) now) (more_inside u una sent most c ack inner a b l)
    ∙ and_when (acknowledges_more una sent c ack) _ _ (λ m. ap (λ n. is_partial n now) (units_inside u una sent most c ack inner a b l m))
