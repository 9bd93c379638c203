-- The two steps that a receiver makes, each from where the one before left it: the text, with what continues it and a FIN that is held at their end,
-- and then the segment's own FIN. Together they make what `comes` says.
use Rattle.std.proofs.Common.{◌≡◌, ℕ, suc, ◌+◌, ◌-◌, ◌≤◌, pos, negsuc, ◌+ℤ◌, Bool, true, false, ◌&&◌, not, refl, sym, ap, ◌∙◌, Option, Some, None, List, [], ◌∷◌, length, drop, arith, if◌then◌else◌}
use Rattle.std.specs.Prelude.{ℤ, nat_abs, int_lt, int_le}
use Rattle.std.proofs.lemmas.Bool.{true≢false, and_parts}
use Rattle.std.proofs.lemmas.Int.{ints}
use Rattle.ft_io.proofs.Booleans.{and_false}
use Rattle.ft_io.proofs.Choices.{by_cases, holds_either_way}
use Rattle.ft_io.proofs.Numbers.{plus_none}
use Rattle.tcp_rules.specs.Early.{laid, held_with, holds_some}
use Rattle.tcp_rules.specs.Coming.{Early, Came, nothing_came, with_text, is_none, holds_fin, with_fin, continued, stands_at, with_fin_taken, comes}
use Rattle.tcp_endpoint.proofs.Commutes.{fin_after_text}

-- nothing is held of no bytes
pub none_held : (at : ℕ) (bytes : List ℕ) (held : List (Option ℕ)) → length bytes ≡ 0 → held_with at bytes held ≡ held
unfolding held_with laid
none_held at [] held h = holds_either_way (λ l. l ≡ held) _ held held refl refl
none_held at (x ∷ bytes) held h = absurd (omega (arith, h))

-- the bytes taken so far
abbrev pub end_of : ℕ → Came → ℕ
end_of n c = n + length c.added

-- a segment's text, with what continues it
abbrev pub text_step : (n edge : ℕ) → Bool → Early → ℤ → List ℕ → Came
text_step n edge fin early first text = continued (with_text n edge first text (nothing_came early fin))

-- a segment's own FIN
abbrev pub fin_step : (n edge : ℕ) → Bool → Early → ℤ → Bool → Came
fin_step n edge fin early place has_fin = with_fin_taken n (with_fin n edge place has_fin (nothing_came early fin))

-- the same step from the bytes taken so far
abbrev pub fin_then : (n edge : ℕ) → ℤ → Bool → Came → Came
fin_then n edge place has_fin c = record (fin_step (end_of n c) edge c.fin c.early place has_fin) { added = c.added }

-- the FIN's test, and what it makes, from there
rebased_test : (n edge : ℕ) (place : ℤ) (c : Came) → holds_fin (end_of n c) edge place (nothing_came c.early c.fin) ≡ holds_fin n edge place c
unfolding holds_fin
rebased_test n edge place c =
    ap (λ e. int_lt place (pos edge) && int_le (pos e) place && not (holds_some (drop (nat_abs place - e) c.early.text)) && is_none c.early.fin && not c.fin) (plus_none (end_of n c))

rebased_fin : (n edge : ℕ) (place : ℤ) (has_fin : Bool) (c : Came) → with_fin n edge place has_fin c ≡ record (with_fin (end_of n c) edge place has_fin (nothing_came c.early c.fin)) { added = c.added }
unfolding with_fin
rebased_fin n edge place has_fin c =
    sym (ap (λ b. record (if has_fin && b then record (nothing_came c.early c.fin) { early = record c.early { fin = Some (nat_abs place) } } else nothing_came c.early c.fin) { added = c.added }) (rebased_test n edge place c)
    ∙ both (has_fin && holds_fin n edge place c))
  where
    both : (b : Bool) → record (if b then record (nothing_came c.early c.fin) { early = record c.early { fin = Some (nat_abs place) } } else nothing_came c.early c.fin) { added = c.added }
        ≡ (if b then record c { early = record c.early { fin = Some (nat_abs place) } } else c)
    both true = refl
    both false = refl

-- the end of the stream is looked for after the bytes added
rebased_end : (n : ℕ) (added : List ℕ) (c : Came) → c.added ≡ [] → with_fin_taken n (record c { added = added }) ≡ record (with_fin_taken (n + length added) c) { added = added }
unfolding with_fin_taken
rebased_end n added c none =
    let same : n + length added + length c.added ≡ n + length added = omega (arith, ap length none) in
    sym (ap (λ e. record (if stands_at e c.early.fin then record c { early = record c.early { fin = None }; fin = true } else c) { added = added }) same
    ∙ both (stands_at (n + length added) c.early.fin))
  where
    both : (b : Bool) → record (if b then record c { early = record c.early { fin = None }; fin = true } else c) { added = added }
        ≡ (if b then record c { added = added; early = record c.early { fin = None }; fin = true } else record c { added = added })
    both true = refl
    both false = refl

adds_none : (n edge : ℕ) (place : ℤ) (has_fin fin : Bool) (early : Early) → (with_fin n edge place has_fin (nothing_came early fin)).added ≡ []
unfolding with_fin
adds_none n edge place has_fin fin early = both (has_fin && holds_fin n edge place (nothing_came early fin))
  where
    both : (b : Bool) → (if b then record (nothing_came early fin) { early = record early { fin = Some (nat_abs place) } } else nothing_came early fin).added ≡ []
    both true = refl
    both false = refl

-- where no held FIN is taken, the segment's own is looked at where its text left off
fin_last : (n edge : ℕ) (place : ℤ) (has_fin : Bool) (c : Came) → with_fin_taken n (with_fin n edge place has_fin c) ≡ fin_then n edge place has_fin c
fin_last n edge place has_fin c =
    ap (with_fin_taken n) (rebased_fin n edge place has_fin c)
    ∙ rebased_end n c.added (with_fin (end_of n c) edge place has_fin (nothing_came c.early c.fin)) (adds_none (end_of n c) edge place has_fin c.fin c.early)

-- a FIN that is held or taken keeps every other out
both_shut : (x a b : Bool) → (a && b) ≡ false → (x && a && b) ≡ false
both_shut true a b e = e
both_shut false true b e = refl
both_shut false false b e = refl

held_out : (n edge : ℕ) (place : ℤ) (c : Came) → (is_none c.early.fin && not c.fin) ≡ false → holds_fin n edge place c ≡ false
unfolding holds_fin
held_out n edge place c out =
    both_shut (int_lt place (pos edge) && int_le (pos (end_of n c)) place && not (holds_some (drop (nat_abs place - end_of n c) c.early.text))) (is_none c.early.fin) (not c.fin) out

pub not_held : (n edge : ℕ) (place : ℤ) (has_fin : Bool) (c : Came) → (has_fin && holds_fin n edge place c) ≡ false → with_fin n edge place has_fin c ≡ c
unfolding with_fin
not_held n edge place has_fin c out = ap (λ b. if b then record c { early = record c.early { fin = Some (nat_abs place) } } else c) out

kept_out : (n edge : ℕ) (place : ℤ) (has_fin : Bool) (c : Came) → (is_none c.early.fin && not c.fin) ≡ false → with_fin n edge place has_fin c ≡ c
kept_out n edge place has_fin c out = not_held n edge place has_fin c (ap (λ b. has_fin && b) (held_out n edge place c out) ∙ and_false has_fin)

-- a FIN that is held where the bytes taken end is taken, and no other is
pub is_taken : (n : ℕ) (c : Came) → stands_at (end_of n c) c.early.fin ≡ true → with_fin_taken n c ≡ record c { early = record c.early { fin = None }; fin = true }
unfolding with_fin_taken
is_taken n c t = ap (λ b. if b then record c { early = record c.early { fin = None }; fin = true } else c) t

pub isnt_taken : (n : ℕ) (c : Came) → stands_at (end_of n c) c.early.fin ≡ false → with_fin_taken n c ≡ c
unfolding with_fin_taken
isnt_taken n c t = ap (λ b. if b then record c { early = record c.early { fin = None }; fin = true } else c) t

stands_none : (end : ℕ) (held : Option ℕ) → stands_at end held ≡ true → (is_none held && true) ≡ false
stands_none end None t = absurd (true≢false (sym t))
stands_none end (Some offset) t = refl

and_same : (b c : Bool) → (b && true) ≡ false → (b && c) ≡ false
and_same true c e = absurd (true≢false e)
and_same false c e = refl

-- so the segment's own FIN may be looked at once a held one is taken
both_fins : (n edge : ℕ) (place : ℤ) (has_fin : Bool) (c : Came) → with_fin_taken n (with_fin n edge place has_fin c) ≡ fin_then n edge place has_fin (with_fin_taken n c)
both_fins n edge place has_fin c =
    by_cases (stands_at (end_of n c) c.early.fin)
    (λ t. let d : Came = record c { early = record c.early { fin = None }; fin = true } in
    let out : (is_none c.early.fin && not c.fin) ≡ false = and_same (is_none c.early.fin) (not c.fin) (stands_none (end_of n c) c.early.fin t) in
    let last : fin_then n edge place has_fin d ≡ d =
    ap (λ (x : Came). record (with_fin_taken (end_of n d) x) { added = c.added }) (kept_out (end_of n d) edge place has_fin (nothing_came d.early d.fin) refl)
    ∙ ap (λ (x : Came). record x { added = c.added }) (isnt_taken (end_of n d) (nothing_came d.early d.fin) refl) in
    ap (with_fin_taken n) (kept_out n edge place has_fin c out) ∙ is_taken n c t ∙ sym (ap (fin_then n edge place has_fin) (is_taken n c t) ∙ last))
    (λ t. fin_last n edge place has_fin c ∙ sym (ap (fin_then n edge place has_fin) (isnt_taken n c t)))

-- so one step is made after the other
pub in_steps : (n edge : ℕ) (fin : Bool) (early : Early) (first : ℤ) (text : List ℕ) (has_fin : Bool)
    → comes n edge fin early first text has_fin ≡ fin_then n edge (first +ℤ pos (length text)) has_fin (comes n edge fin early first text false)
unfolding comes with_fin
in_steps n edge fin early first text has_fin =
    let place : ℤ = first +ℤ pos (length text) in
    let start : Came = with_text n edge first text (nothing_came early fin) in
    ap (with_fin_taken n) (sym (fin_after_text n edge place has_fin start)) ∙ both_fins n edge place has_fin (continued start)

-- of a segment without FIN there is the first step alone
pub text_alone : (n edge : ℕ) (fin : Bool) (early : Early) (first : ℤ) (text : List ℕ) → comes n edge fin early first text false ≡ with_fin_taken n (text_step n edge fin early first text)
unfolding comes with_fin
text_alone n edge fin early first text = refl

-- a FIN adds no text
pub step_adds_none : (n edge : ℕ) (fin : Bool) (early : Early) (place : ℤ) (has_fin : Bool) → (fin_step n edge fin early place has_fin).added ≡ []
unfolding with_fin_taken
step_adds_none n edge fin early place has_fin =
    let c : Came = with_fin n edge place has_fin (nothing_came early fin) in
    holds_either_way (λ (d : Came). d.added ≡ []) (stands_at (end_of n c) c.early.fin) (record c { early = record c.early { fin = None }; fin = true }) c
    (adds_none n edge place has_fin fin early) (adds_none n edge place has_fin fin early)

-- a FIN is held at its offset ..
pub held_at : (n edge : ℕ) (place : ℤ) (c : Came) → holds_fin n edge place c ≡ true → with_fin n edge place true c ≡ record c { early = record c.early { fin = Some (nat_abs place) } }
unfolding with_fin
held_at n edge place c t = ap (λ b. if b then record c { early = record c.early { fin = Some (nat_abs place) } } else c) t

-- .. where none was held
pub was_none : (n edge : ℕ) (place : ℤ) (c : Came) → holds_fin n edge place c ≡ true → c.early.fin ≡ None
unfolding holds_fin
was_none n edge place c t =
    let others : Bool = int_lt place (pos edge) && int_le (pos (end_of n c)) place && not (holds_some (drop (nat_abs place - end_of n c) c.early.text)) in
    none_is c.early.fin (and_parts others (is_none c.early.fin) (and_parts (others && is_none c.early.fin) (not c.fin) t).0).1
  where
    none_is : (o : Option ℕ) → is_none o ≡ true → o ≡ None
    none_is None e = refl
    none_is (Some offset) e = absurd (true≢false (sym e))

-- a FIN at the receive edge or past it isn't held, nor one before the stream
past_edge : (n edge number : ℕ) (c : Came) → edge ≤ number → holds_fin n edge (pos number) c ≡ false
unfolding holds_fin
past_edge n edge number c h =
    let past : int_lt (pos number) (pos edge) ≡ false = grind (arith, ints, h) in
    λ i. past i && int_le (pos (end_of n c)) (pos number) && not (holds_some (drop (number - end_of n c) c.early.text)) && is_none c.early.fin && not c.fin

before_stream : (n edge k : ℕ) (c : Came) → holds_fin n edge (negsuc k) c ≡ false
unfolding holds_fin
before_stream n edge k c =
    let low : int_le (pos (end_of n c)) (negsuc k) ≡ false = grind (arith, ints) in
    (λ i. int_lt (negsuc k) (pos edge) && low i && not (holds_some (drop (suc k - end_of n c) c.early.text)) && is_none c.early.fin && not c.fin)
    ∙ ap (λ b. b && not (holds_some (drop (suc k - end_of n c) c.early.text)) && is_none c.early.fin && not c.fin) (and_false (int_lt (negsuc k) (pos edge)))

-- the code's number of an offset, which lies past the edge where the offset is before the stream
pub held_by_number : (n edge : ℕ) (place : ℤ) (number : ℕ) (c : Came) → ((k : ℕ) → place ≡ pos k → number ≡ k) → ((k : ℕ) → place ≡ negsuc k → edge ≤ number)
    → holds_fin n edge place c ≡ holds_fin n edge (pos number) c
held_by_number n edge (pos k) number c f g = ap (λ m. holds_fin n edge (pos m) c) (sym (f k refl))
held_by_number n edge (negsuc k) number c f g = before_stream n edge k c ∙ sym (past_edge n edge number c (g k refl))

pub held_number : (n edge : ℕ) (place : ℤ) (number : ℕ) (c : Came) → ((k : ℕ) → place ≡ pos k → number ≡ k) → ((k : ℕ) → place ≡ negsuc k → edge ≤ number)
    → holds_fin n edge (pos number) c ≡ true → pos number ≡ place
held_number n edge (pos k) number c f g t = ap pos (f k refl)
held_number n edge (negsuc k) number c f g t = absurd (true≢false (sym t ∙ past_edge n edge number c (g k refl)))
