-- The marks of a store by their places, and what it answers of them.
use Rattle.std.proofs.Common.{◌≡◌, ◌∙◌, ℕ, zero, suc, ◌<◌, ◌==◌, Bool, true, false, refl, sym, ap, List, [], ◌∷◌, ◌++◌, length, replicate, true≢false, if◌then◌else◌}
use Rattle.std.specs.Prelude.{slice_set}
use Rattle.std.proofs.lemmas.Bool.{eqb-true}
use Rattle.std.proofs.lemmas.List.{get_or-set_same, get_or-set_other}
use Rattle.ft_io.proofs.Numbers.{equal_itself}
use Rattle.seq_arith.specs.Mark.{Mark}
use Rattle.mark_laws.specs.MarkedLog.{no_mark}
use Rattle.mark_store.specs.Refinement.{mark_at}

-- no marks behind the last one are read as none
none_behind : (marks : List Mark) (n j : ℕ) → mark_at (marks ++ replicate n no_mark) j ≡ mark_at marks j
none_behind [] zero j = refl
none_behind [] (suc n) zero = refl
none_behind [] (suc n) (suc j) = none_behind [] n j ∙ nothing j
  where
    nothing : (j : ℕ) → mark_at [] j ≡ no_mark
    nothing zero = refl
    nothing (suc j) = refl
none_behind (m ∷ marks) n zero = refl
none_behind (m ∷ marks) n (suc j) = none_behind marks n j

pub mark_put : (before more after : List Mark) (n at : ℕ) (m : Mark) → more ≡ before ++ replicate n no_mark → at < length more → after ≡ slice_set more at m
    → (j : ℕ) → mark_at after j ≡ (if j == at then m else mark_at before j)
mark_put before more after n at m more_is there is j = ap (λ ms. mark_at ms j) is ∙ by (j == at) refl
  where
    by : (c : Bool) → (j == at) ≡ c → mark_at (slice_set more at m) j ≡ (if c then m else mark_at before j)
    by true p = ap (mark_at (slice_set more at m)) (eqb-true j at p) ∙ get_or-set_same more at m no_mark there
    by false p = get_or-set_other more at j m no_mark (λ same. true≢false (sym (ap (λ k. k == at) same ∙ equal_itself at) ∙ p))
        ∙ (ap (λ ms. mark_at ms j) more_is ∙ none_behind before n j)
