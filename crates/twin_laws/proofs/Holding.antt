-- What holds of a pair, part by part: its logs, its answers and its numbers, whichever of the two has stopped.
use Rattle.std.proofs.Common.{◌≡◌, ℕ, ◌+◌, ◌<◌, ◌≤◌, Bool, true, false, sym, ap, ap₂, ◌∙◌, Some, List, [], ◌∷◌, ◌++◌, length, take, slice_get, append-nil, append_assoc, length-append, arith}
use Rattle.std.proofs.lemmas.List.{take-append-le}
use Rattle.std.proofs.lemmas.Option.{slice_get_within}
use Rattle.std.specs.Option.{option_to_list}
use Rattle.seq_arith.specs.Message.{Message}
use Rattle.ft_model.specs.Log.{Log, empty_log, log_after, answer_to}
use Rattle.twin_laws.specs.Twin.{Request}
use Rattle.twin_laws.specs.Pair.{log_over, answers_over, given_if}
use Rattle.twin_laws.proofs.Folds.{log_more, answers_more, log_append, one_more}

abbrev pub front : ℕ → List Request → Log
front n taken = log_over empty_log (take n taken)

pub record Holds (hs ts : Bool) (taken : List Request) (c n : ℕ) (head tail : Log) (answers : List Message) (given : List Request) : Type 0 where
  pub confirmed : c ≤ n
  pub applied : n ≤ length taken
  pub tail_is : tail ≡ log_over empty_log (take n taken ++ given_if hs given)
  pub head_is : head ≡ log_over empty_log (taken ++ given_if ts given)
  pub answers_are : answers ≡ answers_over empty_log (take n taken)
      ++ (answers_over (front n taken) (given_if hs given) ++ answers_over (log_over empty_log taken) (given_if ts given))

-- nobody has stopped: the same without what is given
pub record Paired (taken : List Request) (c n : ℕ) (head tail : Log) (answers : List Message) : Type 0 where
  pub confirmed : c ≤ n
  pub applied : n ≤ length taken
  pub tail_is : tail ≡ front n taken
  pub head_is : head ≡ log_over empty_log taken
  pub answers_are : answers ≡ answers_over empty_log (take n taken)

pub paired_from : (taken : List Request) (c n : ℕ) (head tail : Log) (answers : List Message) (given : List Request)
    → Holds false false taken c n head tail answers given → Paired taken c n head tail answers
paired_from taken c n head tail answers given h = record {
  confirmed = h.confirmed;
  applied = h.applied;
  tail_is = h.tail_is ∙ ap (log_over empty_log) (append-nil (take n taken));
  head_is = h.head_is ∙ ap (log_over empty_log) (append-nil taken);
  answers_are = h.answers_are ∙ append-nil (answers_over empty_log (take n taken));
}

pub holds_from : (taken : List Request) (c n : ℕ) (head tail : Log) (answers : List Message) (given : List Request)
    → Paired taken c n head tail answers → Holds false false taken c n head tail answers given
holds_from taken c n head tail answers given h = record {
  confirmed = h.confirmed;
  applied = h.applied;
  tail_is = h.tail_is ∙ sym (ap (log_over empty_log) (append-nil (take n taken)));
  head_is = h.head_is ∙ sym (ap (log_over empty_log) (append-nil taken));
  answers_are = h.answers_are ∙ sym (append-nil (answers_over empty_log (take n taken)));
}

-- the head takes one more
pub took : (taken : List Request) (c n : ℕ) (head tail : Log) (answers : List Message) (r : Request)
    → Paired taken c n head tail answers → Paired (taken ++ r ∷ []) c n (log_after head r.message) tail answers
took taken c n head tail answers r h =
    let same : take n (taken ++ r ∷ []) ≡ take n taken = take-append-le n taken (r ∷ []) h.applied in
    let long : length (taken ++ r ∷ []) ≡ length taken + 1 = length-append taken (r ∷ []) in
    record {
      confirmed = h.confirmed;
      applied = omega (arith, long, h.applied);
      tail_is = h.tail_is ∙ ap (log_over empty_log) (sym same);
      head_is = ap (λ l. log_after l r.message) h.head_is ∙ sym (log_more empty_log taken r);
      answers_are = h.answers_are ∙ ap (answers_over empty_log) (sym same);
    }

-- the tail applies the next one, and its answer goes out
pub applies : (taken : List Request) (c n : ℕ) (head tail : Log) (answers : List Message) (r : Request)
    → slice_get taken n ≡ Some r → Paired taken c n head tail answers
    → Paired taken c (n + 1) head (log_after tail r.message) (answers ++ option_to_list (answer_to tail r.message))
applies taken c n head tail answers r at h =
    let more : take (n + 1) taken ≡ take n taken ++ r ∷ [] = one_more taken n r at in
    let within : n < length taken = slice_get_within taken n r at in
    record {
      confirmed = omega (arith, h.confirmed);
      applied = omega (arith, within);
      tail_is = ap (λ l. log_after l r.message) h.tail_is ∙ (sym (log_more empty_log (take n taken) r) ∙ ap (log_over empty_log) (sym more));
      head_is = h.head_is;
      answers_are = ap₂ (λ ans l. ans ++ option_to_list (answer_to l r.message)) h.answers_are h.tail_is
          ∙ (sym (answers_more empty_log (take n taken) r) ∙ ap (answers_over empty_log) (sym more));
    }

pub confirms : (taken : List Request) (c n k : ℕ) (head tail : Log) (answers : List Message) → k ≤ n → Paired taken c n head tail answers → Paired taken k n head tail answers
confirms taken c n k head tail answers few h =
    record { confirmed = few; applied = h.applied; tail_is = h.tail_is; head_is = h.head_is; answers_are = h.answers_are }

-- the tail, alone, is given one more
pub tail_given : (taken : List Request) (c n : ℕ) (head tail : Log) (answers : List Message) (given : List Request) (r : Request)
    → Holds true false taken c n head tail answers given
    → Holds true false taken c n head (log_after tail r.message) (answers ++ option_to_list (answer_to tail r.message)) (given ++ r ∷ [])
tail_given taken c n head tail answers given r h =
    let whole : List Request = take n taken ++ given in
    let tail_at : tail ≡ log_over (front n taken) given = h.tail_is ∙ log_append empty_log (take n taken) given in
    let answered : answers ≡ answers_over empty_log (take n taken) ++ answers_over (front n taken) given =
    h.answers_are ∙ ap (λ ans. answers_over empty_log (take n taken) ++ ans) (append-nil (answers_over (front n taken) given)) in
    record {
      confirmed = h.confirmed;
      applied = h.applied;
      tail_is = ap (λ l. log_after l r.message) h.tail_is ∙ (sym (log_more empty_log whole r) ∙ ap (log_over empty_log) (append_assoc (take n taken) given (r ∷ [])));
      head_is = h.head_is;
      answers_are = ap₂ (λ ans l. ans ++ option_to_list (answer_to l r.message)) answered tail_at
          ∙ (append_assoc (answers_over empty_log (take n taken)) (answers_over (front n taken) given) (option_to_list (answer_to (log_over (front n taken) given) r.message))
          ∙ ap (λ ans. answers_over empty_log (take n taken) ++ ans) (sym (answers_more (front n taken) given r) ∙ sym (append-nil (answers_over (front n taken) (given ++ r ∷ [])))));
    }

-- .. and so is the head
pub head_given : (taken : List Request) (c n : ℕ) (head tail : Log) (answers : List Message) (given : List Request) (r : Request)
    → Holds false true taken c n head tail answers given
    → Holds false true taken c n (log_after head r.message) tail (answers ++ option_to_list (answer_to head r.message)) (given ++ r ∷ [])
head_given taken c n head tail answers given r h =
    let all : Log = log_over empty_log taken in
    let head_at : head ≡ log_over all given = h.head_is ∙ log_append empty_log taken given in
    record {
      confirmed = h.confirmed;
      applied = h.applied;
      tail_is = h.tail_is;
      head_is = ap (λ l. log_after l r.message) h.head_is ∙ (sym (log_more empty_log (taken ++ given) r) ∙ ap (log_over empty_log) (append_assoc taken given (r ∷ [])));
      answers_are = ap₂ (λ ans l. ans ++ option_to_list (answer_to l r.message)) h.answers_are head_at
          ∙ (append_assoc (answers_over empty_log (take n taken)) (answers_over all given) (option_to_list (answer_to (log_over all given) r.message))
          ∙ ap (λ ans. answers_over empty_log (take n taken) ++ ans) (sym (answers_more all given r)));
    }

-- one of them stops, when nothing was given yet
pub head_stops : (taken : List Request) (c n : ℕ) (head tail : Log) (answers : List Message) (given : List Request) → given ≡ []
    → Holds false false taken c n head tail answers given → Holds true false taken c n head tail answers given
head_stops taken c n head tail answers given none h = record {
  confirmed = h.confirmed;
  applied = h.applied;
  tail_is = h.tail_is ∙ ap (λ g. log_over empty_log (take n taken ++ g)) (sym none);
  head_is = h.head_is;
  answers_are = h.answers_are ∙ ap (λ g. answers_over empty_log (take n taken) ++ (answers_over (front n taken) g ++ [])) (sym none);
}

pub tail_stops : (taken : List Request) (c n : ℕ) (head tail : Log) (answers : List Message) (given : List Request) → given ≡ []
    → Holds false false taken c n head tail answers given → Holds false true taken c n head tail answers given
tail_stops taken c n head tail answers given none h = record {
  confirmed = h.confirmed;
  applied = h.applied;
  tail_is = h.tail_is;
  head_is = h.head_is ∙ ap (λ g. log_over empty_log (taken ++ g)) (sym none);
  answers_are = h.answers_are ∙ ap (λ g. answers_over empty_log (take n taken) ++ answers_over (log_over empty_log taken) g) (sym none);
}
