-- All of a map's values after a tick.
use Rattle.std.proofs.Common.{◌≡◌, ◌∙◌, ℕ, zero, suc, List, [], ◌∷◌, ◌++◌, append-nil, take, drop, sym, ap, ap₂, is_some, Some, true≢false, slice_get}
use Rattle.std.specs.Prelude.{unwrap_or}
use Rattle.std.specs.Map.{values_of}
use Rattle.ft_io.specs.declared.Key.{Key}
use Rattle.indexmap.specs.Layout.{set_value_at}
use Rattle.lasting_lives.specs.declared.life.Life.{Life}
use Rattle.lasting_lives.specs.Lives.{older, all_older}

-- the first are a tick older
abbrev pub older_to : ℕ → List (Key × Life) → List (Key × Life)
older_to i lives = all_older (take i lives) ++ drop i lives

pub one_more : (i : ℕ) (lives : List (Key × Life)) (x now : Life) → slice_get (values_of (older_to i lives)) i ≡ Some x → now ≡ older x
    → set_value_at (older_to i lives) i now ≡ older_to (suc i) lives
one_more zero [] x now at is = absurd (true≢false (sym (ap is_some at)))
one_more (suc i) [] x now at is = absurd (true≢false (sym (ap is_some at)))
one_more zero (e ∷ lives) x now at is =
    let here : e.1 ≡ x = ap (λ o. unwrap_or o x) at in
    ap (λ (v : Life). (e.0, v) ∷ lives) (is ∙ ap older (sym here))
one_more (suc i) (e ∷ lives) x now at is = ap (λ rest. (e.0, older e.1) ∷ rest) (one_more i lives x now at is)

pub all_done : (i : ℕ) (lives : List (Key × Life)) → take i lives ≡ lives → drop i lives ≡ [] → older_to i lives ≡ all_older lives
all_done i lives first none = ap₂ (λ a b. all_older a ++ b) first none ∙ append-nil (all_older lives)
