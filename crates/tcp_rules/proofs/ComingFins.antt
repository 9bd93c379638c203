-- Where a FIN that is taken or held comes from: it was so before, or the segment brings it, and it comes after the segment's text.
use Rattle.std.proofs.Common.{◌≡◌, ℕ, ◌+◌, ◌<◌, Bool, true, false, ◌==◌, ◌&&◌, refl, sym, ap, ◌∙◌, true≢false, inl, inr, ◌⊎◌, ⊎_elim, Option, Some, None, is_some, List, length, eqb-true}
use Rattle.std.specs.Prelude.{ℤ, pos, ◌+ℤ◌}
use Rattle.std.proofs.lemmas.Bool.{and_parts}
use Rattle.ft_io.proofs.Choices.{holds_if, same_some}
use Rattle.tcp_rules.specs.Coming.{Early, Came, nothing_came, ahead, with_text, holds_fin, with_fin, continued, stands_at, with_fin_taken, comes, StandsBehind}
use Rattle.tcp_rules.proofs.ComingKeeps.{fin_fits, fin_within}

-- the FIN at this offset was held, or the segment brings it
abbrev pub HeldOrOwn : Early → ℤ → List ℕ → Bool → ℕ → Type 0
HeldOrOwn early first text has_fin offset = (early.fin ≡ Some offset) ⊎ ((has_fin ≡ true) × (first +ℤ pos (length text) ≡ pos offset))

text_keeps : (n edge : ℕ) (first : ℤ) (text : List ℕ) (c : Came) → ((with_text n edge first text c).early.fin ≡ c.early.fin) × ((with_text n edge first text c).fin ≡ c.fin)
unfolding with_text
text_keeps n edge first text c =
    holds_if (λ (d : Came). (d.early.fin ≡ c.early.fin) × (d.fin ≡ c.fin)) (ahead n first == 0) _ _ (λ t. (refl, refl)) (λ t. (refl, refl))

fin_keeps : (n edge : ℕ) (place : ℤ) (has_fin : Bool) (c : Came) → (with_fin n edge place has_fin c).fin ≡ c.fin
unfolding with_fin
fin_keeps n edge place has_fin c = holds_if (λ (d : Came). d.fin ≡ c.fin) (has_fin && holds_fin n edge place c) _ c (λ t. refl) (λ t. refl)

fin_held_by : (n edge : ℕ) (place : ℤ) (has_fin : Bool) (c : Came) (offset : ℕ) → (with_fin n edge place has_fin c).early.fin ≡ Some offset
    → (c.early.fin ≡ Some offset) ⊎ ((has_fin ≡ true) × (place ≡ pos offset))
unfolding with_fin
fin_held_by n edge place has_fin c offset =
    holds_if (λ (d : Came). d.early.fin ≡ Some offset → (c.early.fin ≡ Some offset) ⊎ ((has_fin ≡ true) × (place ≡ pos offset))) (has_fin && holds_fin n edge place c) _ c
    (λ t e. let two = and_parts has_fin (holds_fin n edge place c) t in inr (two.0, (fin_fits n edge place c two.1).at ∙ ap pos (same_some e)))
    (λ t e. inl e)

last_is : (o : Option ℕ) (end : ℕ) → stands_at end o ≡ true → o ≡ Some end
last_is None end t = absurd (true≢false (sym t))
last_is (Some offset) end t = ap Some (eqb-true offset end t)

-- what the last step makes of the FIN
record Last (n : ℕ) (c d : Came) : Type 0 where
  pub fin : d.fin ≡ true → (c.fin ≡ true) ⊎ (c.early.fin ≡ Some (n + length d.added))
  pub held : (offset : ℕ) → d.early.fin ≡ Some offset → c.early.fin ≡ Some offset

last_step : (n : ℕ) (c : Came) → Last n c (with_fin_taken n c)
unfolding with_fin_taken
last_step n c =
    holds_if (Last n c) (stands_at (n + length c.added) c.early.fin) _ c
    (λ t. record { fin = λ e. inr (last_is c.early.fin (n + length c.added) t); held = λ offset e. absurd (true≢false (sym (ap is_some e))) })
    (λ t. record { fin = λ e. inl e; held = λ offset e. e })

-- what the first three make of it
before_last : (n edge : ℕ) (fin : Bool) (early : Early) (first : ℤ) (text : List ℕ) (has_fin : Bool) → Came
before_last n edge fin early first text has_fin =
    continued (with_fin n edge (first +ℤ pos (length text)) has_fin (with_text n edge first text (nothing_came early fin)))

brings : (n edge : ℕ) (fin : Bool) (early : Early) (first : ℤ) (text : List ℕ) (has_fin : Bool) (offset : ℕ)
    → (before_last n edge fin early first text has_fin).early.fin ≡ Some offset → HeldOrOwn early first text has_fin offset
unfolding continued before_last
brings n edge fin early first text has_fin offset e =
    let c : Came = with_text n edge first text (nothing_came early fin) in
    ⊎_elim (λ was. inl (sym (text_keeps n edge first text (nothing_came early fin)).0 ∙ was)) (λ own. inr own) (fin_held_by n edge (first +ℤ pos (length text)) has_fin c offset e)

ended_before : (n edge : ℕ) (fin : Bool) (early : Early) (first : ℤ) (text : List ℕ) (has_fin : Bool) → (before_last n edge fin early first text has_fin).fin ≡ fin
unfolding continued before_last
ended_before n edge fin early first text has_fin =
    let c : Came = with_text n edge first text (nothing_came early fin) in
    fin_keeps n edge (first +ℤ pos (length text)) has_fin c ∙ (text_keeps n edge first text (nothing_came early fin)).1

-- a FIN that is held then
pub fin_held : (n edge : ℕ) (fin : Bool) (early : Early) (first : ℤ) (text : List ℕ) (has_fin : Bool) (offset : ℕ)
    → (comes n edge fin early first text has_fin).early.fin ≡ Some offset → HeldOrOwn early first text has_fin offset
unfolding comes before_last
fin_held n edge fin early first text has_fin offset e =
    brings n edge fin early first text has_fin offset ((last_step n (before_last n edge fin early first text has_fin)).held offset e)

-- a FIN that is newly taken stands at the end of the bytes taken, below the edge
pub record FinComes (n edge : ℕ) (early : Early) (first : ℤ) (text : List ℕ) (has_fin : Bool) : Type 0 where
  pub origin : HeldOrOwn early first text has_fin (n + length (comes n edge false early first text has_fin).added)
  pub within : n + length (comes n edge false early first text has_fin).added < edge

pub fin_comes : (n edge : ℕ) (early : Early) (first : ℤ) (text : List ℕ) (has_fin : Bool) → StandsBehind n edge false early
    → (comes n edge false early first text has_fin).fin ≡ true → FinComes n edge early first text has_fin
unfolding comes before_last
fin_comes n edge early first text has_fin s e =
    let c : Came = before_last n edge false early first text has_fin in
    record {
      origin = ⊎_elim (λ was. absurd (true≢false (sym was ∙ ended_before n edge false early first text has_fin)))
          (λ last. brings n edge false early first text has_fin (n + length (comes n edge false early first text has_fin).added) last)
          ((last_step n c).fin e);
      within = fin_within n edge early first text has_fin s e;
    }

-- a FIN that is taken was so before, or it comes
pub was_or_comes : (n edge : ℕ) (fin : Bool) (early : Early) (first : ℤ) (text : List ℕ) (has_fin : Bool) → StandsBehind n edge fin early
    → (comes n edge fin early first text has_fin).fin ≡ true → (fin ≡ true) ⊎ FinComes n edge early first text has_fin
was_or_comes n edge true early first text has_fin s e = inl refl
was_or_comes n edge false early first text has_fin s e = inr (fin_comes n edge early first text has_fin s e)
