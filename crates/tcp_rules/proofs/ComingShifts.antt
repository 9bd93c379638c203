-- What a segment makes of the peer's stream stays where the stream begins further up: all offsets are as much more.
use Rattle.std.proofs.Common.{◌≡◌, ℕ, ◌+◌, ◌-◌, ◌<◌, Bool, true, false, ◌==◌, ◌&&◌, not, refl, sym, ap, ◌∙◌, subst, Option, Some, None, List, [], length, take, drop, arith}
use Rattle.std.specs.Prelude.{ℤ, pos, negsuc, ◌+ℤ◌, nat_abs, int_lt, int_le, IfSome, option_map, if◌then◌else◌}
use Rattle.std.proofs.lemmas.Int.{ints}
use Rattle.std.proofs.lemmas.Bool.{and_parts}
use Rattle.ft_io.proofs.Choices.{by_cases}
use Rattle.tcp_rules.specs.Early.{held_with, holds_some}
use Rattle.tcp_rules.specs.Coming.{Early, Came, early_from, came_from, nothing_came, bounded_by, text_edge, ahead, new_text, with_text, is_none, holds_fin, with_fin, continued, stands_at, with_fin_taken, comes, StandsBehind}
use Rattle.tcp_rules.proofs.Shifts.{below_shift}

ahead_from : (n k : ℕ) (first : ℤ) → ahead (n + k) (first +ℤ pos k) ≡ ahead n first
ahead_from n k (pos f) = omega arith
ahead_from n k (negsuc b) = up k n b (negsuc b +ℤ pos k) refl
  where
    up : (k n b : ℕ) (z : ℤ) → z ≡ negsuc b +ℤ pos k → ahead (n + k) z ≡ 0
    up k n b (pos f) e = omega (arith, ints, e)
    up k n b (negsuc c) e = refl

edge_from : (n edge k : ℕ) (fin : Bool) (early : Early) → text_edge (n + k) (edge + k) fin (early_from k early) ≡ text_edge n edge fin early + k
edge_from n edge k true early = refl
edge_from n edge k false early = bound early.fin
  where
    bound : (o : Option ℕ) → bounded_by (option_map (λ offset. offset + k) o) (edge + k) ≡ bounded_by o edge + k
    bound None = refl
    bound (Some offset) = omega arith

new_from : (n edge k : ℕ) (fin : Bool) (early : Early) (first : ℤ) (text : List ℕ)
    → new_text (n + k) (edge + k) fin (early_from k early) (first +ℤ pos k) text ≡ new_text n edge fin early first text
unfolding new_text
new_from n edge k fin early first text =
    let room : text_edge (n + k) (edge + k) fin (early_from k early) - (n + k + ahead (n + k) (first +ℤ pos k)) ≡ text_edge n edge fin early - (n + ahead n first) =
    omega (arith, edge_from n edge k fin early, ahead_from n k first) in
    λ i. take (room i) (drop (below_shift n k first i) text)

text_from : (n edge k : ℕ) (fin : Bool) (early : Early) (first : ℤ) (text : List ℕ)
    → with_text (n + k) (edge + k) (first +ℤ pos k) text (nothing_came (early_from k early) fin) ≡ came_from k (with_text n edge first text (nothing_came early fin))
unfolding with_text
text_from n edge k fin early first text =
    (λ i. if ahead_from n k first i == 0
    then record {
      added = new_from n edge k fin early first text i;
      early = record (early_from k early) { text = drop (length (new_from n edge k fin early first text i)) early.text };
      fin = fin;
    }
    else record {
      added = [];
      early = record (early_from k early) { text = held_with (ahead_from n k first i) (new_from n edge k fin early first text i) early.text };
      fin = fin;
    })
    ∙ either (ahead n first == 0) (new_text n edge fin early first text)
  where
    either : (b : Bool) (new : List ℕ)
        → (if b then record { added = new; early = record (early_from k early) { text = drop (length new) early.text }; fin = fin }
        else record { added = []; early = record (early_from k early) { text = held_with (ahead n first) new early.text }; fin = fin })
        ≡ came_from k (if b then record { added = new; early = record early { text = drop (length new) early.text }; fin = fin }
        else record { added = []; early = record early { text = held_with (ahead n first) new early.text }; fin = fin })
    either true new = refl
    either false new = refl

place_from : (k len : ℕ) (first : ℤ) → (first +ℤ pos k) +ℤ pos len ≡ (first +ℤ pos len) +ℤ pos k
place_from k len first = omega (arith, ints)

low_place : (n edge : ℕ) (place : ℤ) (c : Came) → holds_fin n edge place c ≡ true → int_le (pos 0) place ≡ true
unfolding holds_fin
low_place n edge place c h =
    let high : Bool = int_lt place (pos edge) in
    let low : Bool = int_le (pos (n + length c.added)) place in
    let bare : Bool = not (holds_some (drop (nat_abs place - (n + length c.added)) c.early.text)) in
    let two = and_parts high low
    (and_parts (high && low) bare (and_parts (high && low && bare) (is_none c.early.fin) (and_parts (high && low && bare && is_none c.early.fin) (not c.fin) h).0).0).0 in
    grind (arith, ints, two.1)

abs_from : (k : ℕ) (place : ℤ) → int_le (pos 0) place ≡ true → nat_abs (place +ℤ pos k) ≡ nat_abs place + k
abs_from k (pos p) h = omega (arith, ints)
abs_from k (negsuc b) h = absurd (grind (arith, ints, h))

pub none_from : (k : ℕ) (o : Option ℕ) → is_none (option_map (λ offset. offset + k) o) ≡ is_none o
none_from k None = refl
none_from k (Some offset) = refl

tests_from : (n edge k : ℕ) (place : ℤ) (m : ℕ) (held : List (Option ℕ))
    → (int_lt (place +ℤ pos k) (pos (edge + k)) && int_le (pos (n + k + m)) (place +ℤ pos k) && not (holds_some (drop (nat_abs (place +ℤ pos k) - (n + k + m)) held)))
    ≡ (int_lt place (pos edge) && int_le (pos (n + m)) place && not (holds_some (drop (nat_abs place - (n + m)) held)))
tests_from n edge k place m held =
    let high : int_lt (place +ℤ pos k) (pos (edge + k)) ≡ int_lt place (pos edge) = grind (arith, ints) in
    let low : int_le (pos (n + k + m)) (place +ℤ pos k) ≡ int_le (pos (n + m)) place = grind (arith, ints) in
    by_cases (int_le (pos 0) place)
    (λ t. let gap : nat_abs (place +ℤ pos k) - (n + k + m) ≡ nat_abs place - (n + m) = omega (arith, abs_from k place t) in
    λ i. high i && low i && not (holds_some (drop (gap i) held)))
    (λ t. let under : int_le (pos (n + m)) place ≡ false = grind (arith, ints, t) in
    (λ i. high i && (low ∙ under) i && not (holds_some (drop (nat_abs (place +ℤ pos k) - (n + k + m)) held)))
    ∙ no_middle (int_lt place (pos edge)) _ _
    ∙ sym (λ i. int_lt place (pos edge) && under i && not (holds_some (drop (nat_abs place - (n + m)) held))))
  where
    no_middle : (a b c : Bool) → (a && false && b) ≡ (a && false && c)
    no_middle true b c = refl
    no_middle false b c = refl

fin_from : (n edge k : ℕ) (place : ℤ) (fin : Bool) (c : Came) → with_fin (n + k) (edge + k) (place +ℤ pos k) fin (came_from k c) ≡ came_from k (with_fin n edge place fin c)
unfolding with_fin holds_fin
fin_from n edge k place fin c =
    let same : holds_fin (n + k) (edge + k) (place +ℤ pos k) (came_from k c) ≡ holds_fin n edge place c =
    λ i. tests_from n edge k place (length c.added) c.early.text i && none_from k c.early.fin i && not c.fin in
    ap (λ b. if fin && b then record (came_from k c) { early = record (early_from k c.early) { fin = Some (nat_abs (place +ℤ pos k)) } } else came_from k c) same
    ∙ both fin (holds_fin n edge place c) (λ h. abs_from k place (low_place n edge place c h))
  where
    both : (f h : Bool) → (h ≡ true → nat_abs (place +ℤ pos k) ≡ nat_abs place + k)
        → (if f && h then record (came_from k c) { early = record (early_from k c.early) { fin = Some (nat_abs (place +ℤ pos k)) } } else came_from k c)
        ≡ came_from k (if f && h then record c { early = record c.early { fin = Some (nat_abs place) } } else c)
    both true true e = λ i. record (came_from k c) { early = record (early_from k c.early) { fin = Some (e refl i) } }
    both true false e = refl
    both false h e = refl

stands_from : (k end : ℕ) (o : Option ℕ) → stands_at (end + k) (option_map (λ offset. offset + k) o) ≡ stands_at end o
stands_from k end None = refl
stands_from k end (Some offset) = grind arith

end_from : (n k : ℕ) (c : Came) → with_fin_taken (n + k) (came_from k c) ≡ came_from k (with_fin_taken n c)
unfolding with_fin_taken
end_from n k c =
    let turned : n + k + length c.added ≡ n + length c.added + k = omega arith in
    let same : stands_at (n + k + length c.added) (option_map (λ offset. offset + k) c.early.fin) ≡ stands_at (n + length c.added) c.early.fin =
    ap (λ e. stands_at e (option_map (λ offset. offset + k) c.early.fin)) turned ∙ stands_from k (n + length c.added) c.early.fin in
    ap (λ b. if b then record (came_from k c) { early = record (early_from k c.early) { fin = None }; fin = true } else came_from k c) same
    ∙ both (stands_at (n + length c.added) c.early.fin)
  where
    both : (b : Bool) → (if b then record (came_from k c) { early = record (early_from k c.early) { fin = None }; fin = true } else came_from k c)
        ≡ came_from k (if b then record c { early = record c.early { fin = None }; fin = true } else c)
    both true = refl
    both false = refl

pub comes_from : (n edge k : ℕ) (fin : Bool) (early : Early) (first : ℤ) (text : List ℕ) (has_fin : Bool)
    → comes (n + k) (edge + k) fin (early_from k early) (first +ℤ pos k) text has_fin ≡ came_from k (comes n edge fin early first text has_fin)
unfolding comes continued
comes_from n edge k fin early first text has_fin =
    let one : Came = with_text n edge first text (nothing_came early fin) in
    let place : ℤ = first +ℤ pos (length text) in
    let two : with_fin (n + k) (edge + k) ((first +ℤ pos k) +ℤ pos (length text)) has_fin (with_text (n + k) (edge + k) (first +ℤ pos k) text (nothing_came (early_from k early) fin))
    ≡ came_from k (with_fin n edge place has_fin one) =
    (λ i. with_fin (n + k) (edge + k) (place_from k (length text) first i) has_fin (text_from n edge k fin early first text i)) ∙ fin_from n edge k place has_fin one in
    ap (λ c. with_fin_taken (n + k) (continued c)) two ∙ end_from n k (continued (with_fin n edge place has_fin one))

-- and so does what stays true of what is held
pub behind_from : (n edge k : ℕ) (fin : Bool) (early : Early) → StandsBehind n edge fin early → StandsBehind (n + k) (edge + k) fin (early_from k early)
behind_from n edge k fin early s = record {
  text = omega (arith, s.text);
  gap = s.gap;
  held_fin = higher early.fin early.text s.held_fin;
  ended = λ e. ((s.ended e).0, ap (option_map (λ offset. offset + k)) (s.ended e).1);
}
  where
    higher : (o : Option ℕ) (held : List (Option ℕ)) → IfSome o (λ offset. (n < offset) × (offset < edge) × (holds_some (drop (offset - n) held) ≡ false))
        → IfSome (option_map (λ offset. offset + k) o) (λ offset. (n + k < offset) × (offset < edge + k) × (holds_some (drop (offset - (n + k)) held) ≡ false))
    higher None held h = tt
    higher (Some offset) held h =
        let same : offset - n ≡ offset + k - (n + k) = omega arith in
        (omega (arith, h.0), omega (arith, h.1), subst (λ i. holds_some (drop i held) ≡ false) same h.2)
