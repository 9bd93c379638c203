-- The fold of a log over messages, and its answers, with one message more.
use Rattle.std.proofs.Common.{◌≡◌, ℕ, zero, suc, ◌+◌, refl, sym, ap, ◌∙◌, Some, List, [], ◌∷◌, ◌++◌, take, slice_get, append-nil, append_assoc, arith}
use Rattle.std.specs.Option.{option_to_list}
use Rattle.ft_model.specs.Log.{Log, log_after, answer_to}
use Rattle.ft_model.proofs.Lists.{none_is_some, some_is}
use Rattle.twin_laws.specs.Twin.{Request}
use Rattle.twin_laws.specs.Pair.{log_over, answers_over}

pub log_more : (log : Log) (rs : List Request) (r : Request) → log_over log (rs ++ r ∷ []) ≡ log_after (log_over log rs) r.message
log_more log [] r = refl
log_more log (first ∷ rs) r = log_more (log_after log first.message) rs r

pub answers_more : (log : Log) (rs : List Request) (r : Request)
    → answers_over log (rs ++ r ∷ []) ≡ answers_over log rs ++ option_to_list (answer_to (log_over log rs) r.message)
answers_more log [] r = append-nil (option_to_list (answer_to log r.message))
answers_more log (first ∷ rs) r =
    ap (λ ans. option_to_list (answer_to log first.message) ++ ans) (answers_more (log_after log first.message) rs r)
    ∙ sym (append_assoc (option_to_list (answer_to log first.message)) (answers_over (log_after log first.message) rs) (option_to_list (answer_to (log_over (log_after log first.message) rs) r.message)))

pub log_append : (log : Log) (rs ss : List Request) → log_over log (rs ++ ss) ≡ log_over (log_over log rs) ss
log_append log [] ss = refl
log_append log (r ∷ rs) ss = log_append (log_after log r.message) rs ss

one_more_from : {A : Type 0} (xs : List A) (n : ℕ) (x : A) → slice_get xs n ≡ Some x → take (suc n) xs ≡ take n xs ++ x ∷ []
one_more_from [] n x e = none_is_some x e
one_more_from (y ∷ ys) zero x e = ap (λ z. z ∷ []) (some_is y x e)
one_more_from (y ∷ ys) (suc n) x e = ap (λ zs. y ∷ zs) (one_more_from ys n x e)

pub one_more : {A : Type 0} (xs : List A) (n : ℕ) (x : A) → slice_get xs n ≡ Some x → take (n + 1) xs ≡ take n xs ++ x ∷ []
one_more xs n x e = let next : n + 1 ≡ suc n = omega arith in ap (λ k. take k xs) next ∙ one_more_from xs n x e
