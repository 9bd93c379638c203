-- Reads that are replayed one after another, while they are whole.
use Rattle.std.proofs.Common.{◌≡◌, ℕ, ◌+◌, ◌-◌, ◌≤◌, ◌∙◌, Bool, true, false, nat_le, List, [], ◌∷◌, length, drop, sum, Some, None, refl, ap, ap₂, sym, subst, arith, length-drop, if◌then◌else◌}
use Rattle.std.specs.List.{AllByRecursion}
use Rattle.server_trait.specs.Service.{Served}
use Rattle.ft_model.proofs.Lists.{some_is, none_is_some}
use Rattle.ft_model.proofs.Services.{sum_more}
use Rattle.log_replay.specs.Replay.{ReplayState, fed_on}
use Rattle.reincarnate.specs.Progress.{Waiting, first_whole, replayed_from, IsShort}
use Rattle.ft_io.proofs.Choices.{holds_if}

pub replays_on : {S : Type 0} (after : S → List ℕ → Served S) (ws ws' : List ℕ) (r r' : ReplayState S) (n : ℕ) → first_whole ws (length r.held) ≡ Some n → ws' ≡ drop 1 ws
    → r' ≡ fed_on after n r → replayed_from after ws' r' ≡ replayed_from after ws r
replays_on after [] ws' r r' n first rest fed = none_is_some n first
replays_on after (w ∷ ws) ws' r r' n first rest fed = by_whole (nat_le w (length r.held)) first
  where
    by_whole : (b : Bool) → (if b then Some w else None) ≡ Some n
        → replayed_from after ws' r' ≡ (if b then replayed_from after ws (fed_on after w r) else record { lengths = w ∷ ws; replay = r })
    by_whole true f = ap₂ (replayed_from after) rest (fed ∙ ap (λ k. fed_on after k r) (sym (some_is w n f)))
    by_whole false f = none_is_some n f

pub waits_for_bytes : {S : Type 0} (after : S → List ℕ → Served S) (ws : List ℕ) (r : ReplayState S) → first_whole ws (length r.held) ≡ None
    → replayed_from after ws r ≡ record { lengths = ws; replay = r }
waits_for_bytes after [] r first = refl
waits_for_bytes after (w ∷ ws) r first = by_whole (nat_le w (length r.held)) first
  where
    by_whole : (b : Bool) → (if b then Some w else None) ≡ None → (if b then replayed_from after ws (fed_on after w r) else record { lengths = w ∷ ws; replay = r }) ≡ record { lengths = w ∷ ws; replay = r }
    by_whole true f = none_is_some w (sym f)
    by_whole false f = refl

pub first_is_short : (ws : List ℕ) (held n : ℕ) → AllByRecursion (λ k. k ≤ 2048) ws → first_whole ws held ≡ Some n → n ≤ 2048
first_is_short [] held n most first = none_is_some n first
first_is_short (w ∷ ws) held n most first =
    holds_if (λ o. o ≡ Some n → n ≤ 2048) (nat_le w held) (Some w) None (λ t e. subst (λ k. k ≤ 2048) (some_is w n e) most.0) (λ t e. none_is_some n e) first

pub first_is_held : (ws : List ℕ) (held n : ℕ) → first_whole ws held ≡ Some n → n ≤ held
first_is_held [] held n first = none_is_some n first
first_is_held (w ∷ ws) held n first =
    holds_if (λ o. o ≡ Some n → n ≤ held) (nat_le w held) (Some w) None (λ t e. subst (λ k. k ≤ held) (some_is w n e) (grind (arith, t))) (λ t e. none_is_some n e) first

pub others_are_short : (ws ws' : List ℕ) → AllByRecursion (λ k. k ≤ 2048) ws → ws' ≡ drop 1 ws → AllByRecursion (λ k. k ≤ 2048) ws'
others_are_short [] ws' most rest = subst (AllByRecursion (λ k. k ≤ 2048)) (sym rest) tt
others_are_short (w ∷ ws) ws' most rest = subst (AllByRecursion (λ k. k ≤ 2048)) (sym rest) most.1

-- what is replayed is taken off both
pub record Replays {S : Type 0} (ws : List ℕ) (r : ReplayState S) (w : Waiting S) : Type 0 where
  pub balance : length w.replay.held + sum ws ≡ length r.held + sum w.lengths
  pub most : AllByRecursion (λ k. k ≤ 2048) ws → AllByRecursion (λ k. k ≤ 2048) w.lengths
  pub next : IsShort w.lengths (length w.replay.held)

fed_holds : {S : Type 0} (after : S → List ℕ → Served S) (n : ℕ) (r : ReplayState S) → length (fed_on after n r).held ≡ length r.held - n
unfolding fed_on
fed_holds after n r = length-drop n r.held

pub replays : {S : Type 0} (after : S → List ℕ → Served S) (ws : List ℕ) (r : ReplayState S) → Replays ws r (replayed_from after ws r)
replays after [] r = record { balance = refl; most = λ m. m; next = tt }
replays after (n ∷ ws) r =
    holds_if (Replays (n ∷ ws) r) (nat_le n (length r.held)) (replayed_from after ws (fed_on after n r)) (record { lengths = n ∷ ws; replay = r })
    (λ t. let rest = replays after ws (fed_on after n r) in
    let low : n ≤ length r.held = grind (arith, t) in
    let left = fed_holds after n r in
    let more = sum_more n ws in
    record { balance = omega (arith, rest.balance, low, left, more); most = λ m. rest.most m.1; next = rest.next })
    (λ t. record { balance = refl; most = λ m. m; next = grind (arith, t) })
