-- What is held stays after what is taken, and both keep to the receive edge, whatever a segment brings.
use Rattle.std.proofs.Common.{◌≡◌, ℕ, zero, suc, ◌+◌, ◌-◌, ◌<◌, ◌≤◌, Bool, true, false, ◌==◌, ◌&&◌, not, min, refl, sym, ap, ◌∙◌, subst, true≢false, Option, Some, None, List, [], ◌∷◌, ◌++◌, length, take, drop, length-append, length-drop, length-take, drop-drop, arith, eqb-true}
use Rattle.std.specs.Prelude.{ℤ, pos, negsuc, ◌+ℤ◌, nat_abs, nat_le, int_lt, int_le, IfSome, if◌then◌else◌}
use Rattle.std.proofs.Math.Seq.{take-nil, drop-nil}
use Rattle.std.proofs.lemmas.Int.{ints}
use Rattle.std.proofs.lemmas.Bool.{and_parts}
use Rattle.tcp_rules.specs.Arrival.{below}
use Rattle.tcp_rules.specs.Early.{laid, run_count, most_runs, held_with, front_run, behind_front_run, holds_some}
use Rattle.tcp_rules.specs.Coming.{Early, nothing_early, Came, nothing_came, bounded_by, text_edge, ahead, new_text, with_text, is_none, holds_fin, with_fin, continued, stands_at, with_fin_taken, comes, StandsBehind}
use Rattle.ft_io.proofs.Choices.{holds_if, if_false}
use Rattle.ft_io.proofs.Booleans.{not_true}

length_laid : (at : ℕ) (new : List ℕ) (held : List (Option ℕ)) (most : ℕ) → length held ≤ most → (0 < length new → at + length new ≤ most)
    → length (laid at new held) ≤ most
unfolding laid
length_laid at [] held most p q = p
length_laid zero (x ∷ new) [] zero p q = absurd (omega (arith, q (omega arith)))
length_laid zero (x ∷ new) [] (suc most) p q = omega (arith, length_laid zero new [] most (omega arith) (λ s. omega (arith, q (omega arith))))
length_laid zero (x ∷ new) (y ∷ held) zero p q = absurd (omega (arith, p))
length_laid zero (x ∷ new) (y ∷ held) (suc most) p q = omega (arith, length_laid zero new held most (omega (arith, p)) (λ s. omega (arith, q (omega arith))))
length_laid (suc k) (x ∷ new) [] zero p q = absurd (omega (arith, q (omega arith)))
length_laid (suc k) (x ∷ new) [] (suc most) p q = omega (arith, length_laid k (x ∷ new) [] most (omega arith) (λ s. omega (arith, q (omega arith))))
length_laid (suc k) (x ∷ new) (y ∷ held) zero p q = absurd (omega (arith, p))
length_laid (suc k) (x ∷ new) (y ∷ held) (suc most) p q =
    omega (arith, length_laid k (x ∷ new) held most (omega (arith, p)) (λ s. omega (arith, q (omega arith))))

none_past : (k : ℕ) → holds_some (drop k []) ≡ false
unfolding holds_some
none_past zero = refl
none_past (suc k) = refl

-- what is laid below a place leaves the places from there on bare
past_laid : (at : ℕ) (new : List ℕ) (held : List (Option ℕ)) (k : ℕ) → (0 < length new → at + length new ≤ k) → holds_some (drop k held) ≡ false
    → holds_some (drop k (laid at new held)) ≡ false
unfolding laid
past_laid at [] held k p e = e
past_laid zero (x ∷ new) [] zero p e = absurd (omega (arith, p (omega arith)))
past_laid zero (x ∷ new) [] (suc k) p e = past_laid zero new [] k (λ s. omega (arith, p (omega arith))) (none_past k)
past_laid zero (x ∷ new) (y ∷ held) zero p e = absurd (omega (arith, p (omega arith)))
past_laid zero (x ∷ new) (y ∷ held) (suc k) p e = past_laid zero new held k (λ s. omega (arith, p (omega arith))) e
past_laid (suc a) (x ∷ new) [] zero p e = absurd (omega (arith, p (omega arith)))
past_laid (suc a) (x ∷ new) [] (suc k) p e = past_laid a (x ∷ new) [] k (λ s. omega (arith, p (omega arith))) (none_past k)
past_laid (suc a) (x ∷ new) (y ∷ held) zero p e = absurd (omega (arith, p (omega arith)))
past_laid (suc a) (x ∷ new) (y ∷ held) (suc k) p e = past_laid a (x ∷ new) held k (λ s. omega (arith, p (omega arith))) e

-- the held bytes in front end where no more is held
front_fits : (held : List (Option ℕ)) (k : ℕ) → holds_some (drop k held) ≡ false → length (front_run held) ≤ k
unfolding front_run holds_some
front_fits [] k e = omega arith
front_fits (None ∷ held) k e = omega arith
front_fits (Some x ∷ held) zero e = absurd (true≢false e)
front_fits (Some x ∷ held) (suc k) e = omega (arith, front_fits held k e)

past_front : (held : List (Option ℕ)) (k j : ℕ) → k ≡ length (front_run held) + j → holds_some (drop k held) ≡ false
    → holds_some (drop j (behind_front_run held)) ≡ false
unfolding front_run behind_front_run
past_front [] k j e h = none_past j
past_front (None ∷ held) k j e h = let same : k ≡ j = omega (arith, e) in subst (λ i. holds_some (drop i (None ∷ held)) ≡ false) same h
past_front (Some x ∷ held) zero j e h = absurd (omega (arith, e))
past_front (Some x ∷ held) (suc k) j e h = past_front held k j (omega (arith, e)) h

length_runs : (held : List (Option ℕ)) → length (front_run held) + length (behind_front_run held) ≡ length held
unfolding front_run behind_front_run
length_runs [] = refl
length_runs (None ∷ held) = omega arith
length_runs (Some x ∷ held) = omega (arith, length_runs held)

gap_in_front : (held : List (Option ℕ)) → front_run (behind_front_run held) ≡ []
unfolding front_run behind_front_run
gap_in_front [] = refl
gap_in_front (None ∷ held) = refl
gap_in_front (Some x ∷ held) = gap_in_front held

-- after a gap nothing continues what is taken
pub behind_gap : (held : List (Option ℕ)) → front_run held ≡ [] → behind_front_run held ≡ held
unfolding front_run behind_front_run
behind_gap [] e = refl
behind_gap (None ∷ held) e = refl
behind_gap (Some x ∷ held) e = absurd (omega (arith, ap length e))

-- what holds of a FIN that is held: from some place on, below the edge, and past all text that is held
abbrev pub Past : ℕ → ℕ → List (Option ℕ) → ℕ → Type 0
Past end edge held offset = (end ≤ offset) × (offset < edge) × (holds_some (drop (offset - end) held) ≡ false)

-- what is taken and held, while the FIN isn't taken
record Holding (n edge : ℕ) (c : Came) : Type 0 where
  pub text : n + length c.added + length c.early.text ≤ edge
  pub held_fin : IfSome c.early.fin (Past (n + length c.added) edge c.early.text)
  pub unended : c.fin ≡ false

pub bounded : (o : Option ℕ) (edge : ℕ) → bounded_by o edge ≤ edge
bounded None edge = omega arith
bounded (Some offset) edge = omega arith

new_fits : (n edge : ℕ) (early : Early) (first : ℤ) (text : List ℕ) → 0 < length (new_text n edge false early first text)
    → n + ahead n first + length (new_text n edge false early first text) ≤ bounded_by early.fin edge
unfolding new_text
new_fits n edge early first text some = omega (arith, length-take (bounded_by early.fin edge - (n + ahead n first)) (drop (below n first) text), some)

below_fin : (n m bound offset : ℕ) → (0 < m → n + 0 + m ≤ bound) → bound ≤ offset → n < offset → n + m ≤ offset
below_fin n zero bound offset p q h = omega (arith, h)
below_fin n (suc m) bound offset p q h = omega (arith, p (omega arith), q)

-- text in order leaves a FIN after it
fin_behind : (o : Option ℕ) (n edge m : ℕ) (held : List (Option ℕ)) → (0 < m → n + 0 + m ≤ bounded_by o edge)
    → IfSome o (λ offset. (n < offset) × (offset < edge) × (holds_some (drop (offset - n) held) ≡ false)) → IfSome o (Past (n + m) edge (drop m held))
fin_behind None n edge m held p h = tt
fin_behind (Some offset) n edge m held p h =
    let low : n + m ≤ offset = below_fin n m (min offset edge) offset p (omega arith) h.0 in
    let far : m + (offset - (n + m)) ≡ offset - n = omega (arith, low) in
    (low, h.1, ap holds_some (drop-drop (offset - (n + m)) m held ∙ ap (λ i. drop i held) far) ∙ h.2)

-- and so does text that is held
fin_past : (o : Option ℕ) (n edge at : ℕ) (new : List ℕ) (held : List (Option ℕ)) → (0 < length new → n + at + length new ≤ bounded_by o edge)
    → IfSome o (λ offset. (n < offset) × (offset < edge) × (holds_some (drop (offset - n) held) ≡ false)) → IfSome o (Past (n + 0) edge (held_with at new held))
unfolding held_with
fin_past None n edge at new held p h = tt
fin_past (Some offset) n edge at new held p h =
    let same : offset - n ≡ offset - (n + 0) = omega arith in
    let old : holds_some (drop (offset - (n + 0)) held) ≡ false = subst (λ i. holds_some (drop i held) ≡ false) same h.2 in (
      omega (arith, h.0),
      h.1,
      holds_if (λ (l : List (Option ℕ)). holds_some (drop (offset - (n + 0)) l) ≡ false) (nat_le (run_count (laid at new held)) most_runs) (laid at new held) held
          (λ t. past_laid at new held (offset - (n + 0)) (λ s. omega (arith, p s, h.0)) old) (λ t. old),
    )

length_held : (at : ℕ) (new : List ℕ) (held : List (Option ℕ)) (most : ℕ) → length held ≤ most → (0 < length new → at + length new ≤ most)
    → length (held_with at new held) ≤ most
unfolding held_with
length_held at new held most p q =
    holds_if (λ (l : List (Option ℕ)). length l ≤ most) (nat_le (run_count (laid at new held)) most_runs) (laid at new held) held (λ t. length_laid at new held most p q) (λ t. p)

text_holds : (n edge : ℕ) (early : Early) (first : ℤ) (text : List ℕ) → StandsBehind n edge false early
    → Holding n edge (with_text n edge first text (nothing_came early false))
unfolding with_text
text_holds n edge early first text s =
    let new : List ℕ = new_text n edge false early first text in
    let fits : 0 < length new → n + ahead n first + length new ≤ bounded_by early.fin edge = new_fits n edge early first text in
    let most : bounded_by early.fin edge ≤ edge = bounded early.fin edge in
    holds_if (Holding n edge) (ahead n first == 0) _ _
    (λ t. let here : ahead n first ≡ 0 = eqb-true (ahead n first) 0 t in
    let fits_here : 0 < length new → n + 0 + length new ≤ bounded_by early.fin edge = λ some. omega (arith, fits some, here) in
    record {
      text = grind (arith, length-drop (length new) early.text, s.text, fits_here, most);
      held_fin = fin_behind early.fin n edge (length new) early.text fits_here s.held_fin;
      unended = refl;
    })
    (λ t. record {
      text = omega (arith, length_held (ahead n first) new early.text (edge - n) (omega (arith, s.text)) (λ some. omega (arith, fits some, most)), s.text);
      held_fin = fin_past early.fin n edge (ahead n first) new early.text fits s.held_fin;
      unended = refl;
    })

-- a FIN that the test takes
pub record FinFits (n edge : ℕ) (place : ℤ) (c : Came) : Type 0 where
  pub at : place ≡ pos (nat_abs place)
  pub past : Past (n + length c.added) edge c.early.text (nat_abs place)
  pub alone : is_none c.early.fin ≡ true
  pub unended : not c.fin ≡ true

at_place : (place : ℤ) (low : ℕ) → int_le (pos low) place ≡ true → place ≡ pos (nat_abs place)
at_place (pos p) low h = refl
at_place (negsuc p) low h = absurd (grind (arith, ints, h))

place_low : (place : ℤ) (low : ℕ) → int_le (pos low) place ≡ true → low ≤ nat_abs place
place_low (pos p) low h = grind (arith, ints, h)
place_low (negsuc p) low h = absurd (grind (arith, ints, h))

place_high : (place : ℤ) (low edge : ℕ) → int_lt place (pos edge) ≡ true → int_le (pos low) place ≡ true → nat_abs place < edge
place_high (pos p) low edge t u = grind (arith, ints, t)
place_high (negsuc p) low edge t u = absurd (grind (arith, ints, u))

pub fin_fits : (n edge : ℕ) (place : ℤ) (c : Came) → holds_fin n edge place c ≡ true → FinFits n edge place c
unfolding holds_fin
fin_fits n edge place c h =
    let end : ℕ = n + length c.added in
    let high : Bool = int_lt place (pos edge) in
    let low : Bool = int_le (pos end) place in
    let bare : Bool = not (holds_some (drop (nat_abs place - end) c.early.text)) in
    let four = and_parts (high && low && bare && is_none c.early.fin) (not c.fin) h in
    let three = and_parts (high && low && bare) (is_none c.early.fin) four.0 in
    let two = and_parts (high && low) bare three.0 in
    let one = and_parts high low two.0 in
    record {
      at = at_place place end one.1;
      past = (place_low place end one.1, place_high place end edge one.0 one.1, not_true (holds_some (drop (nat_abs place - end) c.early.text)) two.1);
      alone = three.1;
      unended = four.1;
    }

fin_holds : (n edge : ℕ) (place : ℤ) (has_fin : Bool) (c : Came) → Holding n edge c → Holding n edge (with_fin n edge place has_fin c)
unfolding with_fin
fin_holds n edge place has_fin c h =
    holds_if (Holding n edge) (has_fin && holds_fin n edge place c) _ c
    (λ t. let f = fin_fits n edge place c (and_parts has_fin (holds_fin n edge place c) t).1 in
    record { text = h.text; held_fin = f.past; unended = h.unended })
    (λ t. h)

-- a FIN stays after the bytes that continue what is taken
fin_run : (o : Option ℕ) (end more edge : ℕ) (held : List (Option ℕ)) → more ≡ end + length (front_run held) → IfSome o (Past end edge held)
    → IfSome o (Past more edge (behind_front_run held))
fin_run None end more edge held e h = tt
fin_run (Some offset) end more edge held e h =
    let fits : length (front_run held) ≤ offset - end = front_fits held (offset - end) h.2 in
    (omega (arith, e, fits, h.0), h.1, past_front held (offset - end) (offset - more) (omega (arith, e, fits, h.0)) h.2)

run_holds : (n edge : ℕ) (c : Came) → Holding n edge c → Holding n edge (continued c)
unfolding continued
run_holds n edge c h =
    let size : length (c.added ++ front_run c.early.text) ≡ length c.added + length (front_run c.early.text) = length-append c.added (front_run c.early.text) in
    record {
      text = omega (arith, size, length_runs c.early.text, h.text);
      held_fin = fin_run c.early.fin (n + length c.added) (n + length (c.added ++ front_run c.early.text)) edge c.early.text (omega (arith, size)) h.held_fin;
      unended = h.unended;
    }

-- the FIN at the end of the bytes taken
stands_last : (o : Option ℕ) (end edge : ℕ) (held : List (Option ℕ)) → stands_at end o ≡ true → IfSome o (Past end edge held)
    → (end < edge) × (holds_some held ≡ false)
stands_last None end edge held t h = absurd (true≢false (sym t))
stands_last (Some offset) end edge held t h =
    let here : offset ≡ end = eqb-true offset end t in
    let none : offset - end ≡ 0 = omega (arith, here) in
    (omega (arith, here, h.1), subst (λ i. holds_some (drop i held) ≡ false) none h.2)

stands_on : (o : Option ℕ) (end edge : ℕ) (held : List (Option ℕ)) → stands_at end o ≡ false → IfSome o (Past end edge held)
    → IfSome o (λ offset. (end < offset) × (offset < edge) × (holds_some (drop (offset - end) held) ≡ false))
stands_on None end edge held t h = tt
stands_on (Some offset) end edge held t h =
    let past : end < offset = grind (arith, t, h.0) in
    (past, h.1, h.2)

record Ends (n edge : ℕ) (c : Came) : Type 0 where
  pub stands : StandsBehind (n + length c.added) edge c.fin c.early
  pub within : c.fin ≡ true → n + length c.added < edge

ends : (n edge : ℕ) (c : Came) → Holding n edge c → front_run c.early.text ≡ [] → Ends n edge (with_fin_taken n c)
unfolding with_fin_taken
ends n edge c h gap =
    holds_if (Ends n edge) (stands_at (n + length c.added) c.early.fin) _ c
    (λ t. let last = stands_last c.early.fin (n + length c.added) edge c.early.text t h.held_fin in
    record {
      stands = record { text = h.text; gap = gap; held_fin = tt; ended = λ e. (last.1, refl) };
      within = λ e. last.0;
    })
    (λ t. record {
      stands = record {
        text = h.text;
        gap = gap;
        held_fin = stands_on c.early.fin (n + length c.added) edge c.early.text t h.held_fin;
        ended = λ e. absurd (true≢false (sym e ∙ h.unended));
      };
      within = λ e. absurd (true≢false (sym e ∙ h.unended));
    })

run_gap : (c : Came) → front_run (continued c).early.text ≡ []
unfolding continued
run_gap c = gap_in_front c.early.text

open_ends : (n edge : ℕ) (early : Early) (first : ℤ) (text : List ℕ) (has_fin : Bool) → StandsBehind n edge false early
    → Ends n edge (comes n edge false early first text has_fin)
unfolding comes
open_ends n edge early first text has_fin s =
    let place : ℤ = first +ℤ pos (length text) in
    let c : Came = with_fin n edge place has_fin (with_text n edge first text (nothing_came early false)) in
    let h : Holding n edge c = fin_holds n edge place has_fin (with_text n edge first text (nothing_came early false)) (text_holds n edge early first text s) in
    ends n edge (continued c) (run_holds n edge c h) (run_gap c)

-- a segment whose text and FIN don't count changes nothing
same_held : (at : ℕ) (held : List (Option ℕ)) → held_with at [] held ≡ held
unfolding held_with laid
same_held at held = holds_if (λ (l : List (Option ℕ)). l ≡ held) (nat_le (run_count held) most_runs) held held (λ t. refl) (λ t. refl)

no_text : (n edge : ℕ) (fin : Bool) (early : Early) (first : ℤ) (text : List ℕ) → new_text n edge fin early first text ≡ []
    → with_text n edge first text (nothing_came early fin) ≡ nothing_came early fin
unfolding with_text
no_text n edge fin early first text e =
    (λ i. if ahead n first == 0
    then record (nothing_came early fin) { added = e i; early = record early { text = drop (length (e i)) early.text } }
    else record (nothing_came early fin) { early = record early { text = held_with (ahead n first) (e i) early.text } })
    ∙ holds_if (λ c. c ≡ nothing_came early fin) (ahead n first == 0) _ _ (λ t. refl) (λ t. ap (λ l. nothing_came (record early { text = l }) fin) (same_held (ahead n first) early.text))

no_fin : (n edge : ℕ) (place : ℤ) (has_fin : Bool) (c : Came) → has_fin && holds_fin n edge place c ≡ false → with_fin n edge place has_fin c ≡ c
unfolding with_fin
no_fin n edge place has_fin c e = if_false (has_fin && holds_fin n edge place c) _ c e

no_run : (early : Early) (fin : Bool) → front_run early.text ≡ [] → continued (nothing_came early fin) ≡ nothing_came early fin
unfolding continued
no_run early fin e = λ i. record { added = e i; early = record early { text = behind_gap early.text e i }; fin = fin }

not_last : (o : Option ℕ) (end : ℕ) → IfSome o (λ offset. end < offset) → stands_at end o ≡ false
not_last None end h = refl
not_last (Some offset) end h = grind (arith, h)

no_end : (n : ℕ) (early : Early) (fin : Bool) → IfSome early.fin (λ offset. n < offset) → with_fin_taken n (nothing_came early fin) ≡ nothing_came early fin
unfolding with_fin_taken
no_end n early fin h = if_false (stands_at (n + 0) early.fin) _ (nothing_came early fin) (not_last early.fin (n + 0) (up early.fin h))
  where
    up : (o : Option ℕ) → IfSome o (λ offset. n < offset) → IfSome o (λ offset. n + 0 < offset)
    up None h = tt
    up (Some offset) h = omega (arith, h)

pub nothing_new : (n edge : ℕ) (fin : Bool) (early : Early) (first : ℤ) (text : List ℕ) (has_fin : Bool) → front_run early.text ≡ [] → IfSome early.fin (λ offset. n < offset)
    → new_text n edge fin early first text ≡ [] → has_fin && holds_fin n edge (first +ℤ pos (length text)) (nothing_came early fin) ≡ false
    → comes n edge fin early first text has_fin ≡ nothing_came early fin
unfolding comes
nothing_new n edge fin early first text has_fin gap behind none bare =
    let place : ℤ = first +ℤ pos (length text) in
    ap (λ c. with_fin_taken n (continued (with_fin n edge place has_fin c))) (no_text n edge fin early first text none)
    ∙ ap (λ c. with_fin_taken n (continued c)) (no_fin n edge place has_fin (nothing_came early fin) bare)
    ∙ ap (with_fin_taken n) (no_run early fin gap) ∙ no_end n early fin behind

fin_above : (o : Option ℕ) (n edge : ℕ) (held : List (Option ℕ))
    → IfSome o (λ offset. (n < offset) × (offset < edge) × (holds_some (drop (offset - n) held) ≡ false)) → IfSome o (λ offset. n < offset)
fin_above None n edge held h = tt
fin_above (Some offset) n edge held h = h.0

pub no_room : (k : ℕ) (bytes : List ℕ) → k ≡ 0 → take k bytes ≡ []
no_room k bytes e = ap (λ i. take i bytes) e

pub and_false : (a b : Bool) → b ≡ false → (a && b) ≡ false
and_false true b e = e
and_false false b e = refl

-- nothing comes once the FIN is taken
pub comes_ended : (n edge : ℕ) (early : Early) (first : ℤ) (text : List ℕ) (has_fin : Bool) → StandsBehind n edge true early
    → comes n edge true early first text has_fin ≡ nothing_came early true
unfolding new_text holds_fin
comes_ended n edge early first text has_fin s =
    nothing_new n edge true early first text has_fin s.gap (fin_above early.fin n edge early.text s.held_fin)
    (no_room (n - (n + ahead n first)) (drop (below n first) text) (omega arith))
    (and_false has_fin _ (and_false _ (not true) refl))

shut_text : (n : ℕ) (early : Early) (first : ℤ) (text : List ℕ) → new_text n n false early first text ≡ []
unfolding new_text
shut_text n early first text = no_room (bounded_by early.fin n - (n + ahead n first)) (drop (below n first) text) (omega (arith, bounded early.fin n))

nowhere : (a b c d e : Bool) → (a ≡ true → b ≡ false) → (a && b && c && d && e) ≡ false
nowhere true true c d e h = absurd (true≢false (h refl))
nowhere true false c d e h = refl
nowhere false b c d e h = refl

shut_fin : (n : ℕ) (place : ℤ) (early : Early) → holds_fin n n place (nothing_came early false) ≡ false
unfolding holds_fin
shut_fin n place early =
    nowhere (int_lt place (pos n)) (int_le (pos (n + 0)) place) (not (holds_some (drop (nat_abs place - (n + 0)) early.text))) (is_none early.fin) true
    (λ h. grind (arith, ints, h))

-- nothing comes at the receive edge
pub comes_shut : (n : ℕ) (fin : Bool) (early : Early) (first : ℤ) (text : List ℕ) (has_fin : Bool) → StandsBehind n n fin early
    → comes n n fin early first text has_fin ≡ nothing_came early fin
comes_shut n true early first text has_fin s = comes_ended n n early first text has_fin s
comes_shut n false early first text has_fin s =
    nothing_new n n false early first text has_fin s.gap (fin_above early.fin n n early.text s.held_fin) (shut_text n early first text)
    (and_false has_fin _ (shut_fin n (first +ℤ pos (length text)) early))

-- a segment without text and FIN changes nothing
pub comes_bare : (n edge : ℕ) (fin : Bool) (early : Early) (first : ℤ) → StandsBehind n edge fin early
    → comes n edge fin early first [] false ≡ nothing_came early fin
unfolding new_text
comes_bare n edge fin early first s =
    nothing_new n edge fin early first [] false s.gap (fin_above early.fin n edge early.text s.held_fin)
    (ap (take (text_edge n edge fin early - (n + ahead n first))) (drop-nil (below n first)) ∙ take-nil (text_edge n edge fin early - (n + ahead n first)))
    refl

-- what is held stays after what is taken
pub stays_behind : (n edge : ℕ) (fin : Bool) (early : Early) (first : ℤ) (text : List ℕ) (has_fin : Bool) → n ≤ edge → StandsBehind n edge fin early
    → StandsBehind (n + length (comes n edge fin early first text has_fin).added) edge (comes n edge fin early first text has_fin).fin (comes n edge fin early first text has_fin).early
stays_behind n edge true early first text has_fin low s =
    subst (λ c. StandsBehind (n + length c.added) edge c.fin c.early) (sym (comes_ended n edge early first text has_fin s))
    (let same : n ≡ n + 0 = omega arith in subst (λ k. StandsBehind k edge true early) same s)
stays_behind n edge false early first text has_fin low s = (open_ends n edge early first text has_fin s).stands

pub behind_within : (n edge : ℕ) (fin : Bool) (early : Early) → StandsBehind n edge fin early → n ≤ edge
behind_within n edge fin early s = omega (arith, s.text)

-- what is taken keeps to the receive edge
pub comes_within : (n edge : ℕ) (fin : Bool) (early : Early) (first : ℤ) (text : List ℕ) (has_fin : Bool) → StandsBehind n edge fin early
    → n + length (comes n edge fin early first text has_fin).added ≤ edge
comes_within n edge fin early first text has_fin s =
    behind_within (n + length (comes n edge fin early first text has_fin).added) edge (comes n edge fin early first text has_fin).fin (comes n edge fin early first text has_fin).early
    (stays_behind n edge fin early first text has_fin (behind_within n edge fin early s) s)

-- a FIN that is newly taken stands below the receive edge
pub fin_within : (n edge : ℕ) (early : Early) (first : ℤ) (text : List ℕ) (has_fin : Bool) → StandsBehind n edge false early
    → (comes n edge false early first text has_fin).fin ≡ true → n + length (comes n edge false early first text has_fin).added < edge
fin_within n edge early first text has_fin s e = (open_ends n edge early first text has_fin s).within e

text_stays : (n edge : ℕ) (first : ℤ) (text : List ℕ) (c : Came) → c.fin ≡ true → (with_text n edge first text c).fin ≡ true
unfolding with_text
text_stays n edge first text c e = holds_if (λ (d : Came). d.fin ≡ true) (ahead n first == 0) _ _ (λ t. e) (λ t. e)

own_stays : (n edge : ℕ) (place : ℤ) (has_fin : Bool) (c : Came) → c.fin ≡ true → (with_fin n edge place has_fin c).fin ≡ true
unfolding with_fin
own_stays n edge place has_fin c e = holds_if (λ (d : Came). d.fin ≡ true) (has_fin && holds_fin n edge place c) _ c (λ t. e) (λ t. e)

end_stays : (n : ℕ) (c : Came) → c.fin ≡ true → (with_fin_taken n c).fin ≡ true
unfolding with_fin_taken
end_stays n c e = holds_if (λ (d : Came). d.fin ≡ true) (stands_at (n + length c.added) c.early.fin) _ c (λ t. refl) (λ t. e)

-- a FIN that is taken stays so
pub fin_stays : (n edge : ℕ) (fin : Bool) (early : Early) (first : ℤ) (text : List ℕ) (has_fin : Bool) → fin ≡ true
    → (comes n edge fin early first text has_fin).fin ≡ true
unfolding comes continued
fin_stays n edge fin early first text has_fin e =
    let place : ℤ = first +ℤ pos (length text) in
    let c : Came = with_text n edge first text (nothing_came early fin) in
    end_stays n (continued (with_fin n edge place has_fin c)) (own_stays n edge place has_fin c (text_stays n edge first text (nothing_came early fin) e))

-- a receive edge further up
pub behind_up : (n edge more : ℕ) (fin : Bool) (early : Early) → edge ≤ more → StandsBehind n edge fin early → StandsBehind n more fin early
behind_up n edge more fin early up s =
    record { text = omega (arith, s.text, up); gap = s.gap; held_fin = higher early.fin early.text s.held_fin; ended = s.ended }
  where
    higher : (o : Option ℕ) (held : List (Option ℕ)) → IfSome o (λ offset. (n < offset) × (offset < edge) × (holds_some (drop (offset - n) held) ≡ false))
        → IfSome o (λ offset. (n < offset) × (offset < more) × (holds_some (drop (offset - n) held) ≡ false))
    higher None held h = tt
    higher (Some offset) held h = (h.0, omega (arith, h.1, up), h.2)

pub nothing_behind : (n edge : ℕ) (fin : Bool) → n ≤ edge → StandsBehind n edge fin nothing_early
unfolding front_run holds_some
nothing_behind n edge fin up = record { text = omega (arith, up); gap = refl; held_fin = tt; ended = λ e. (refl, refl) }
