-- Lengths of two bytes each, one after another.
use Rattle.std.proofs.Common.{◌≡◌, ℕ, zero, suc, ◌<◌, ◌≤◌, ◌+◌, ◌∙◌, Bool, true, false, List, [], ◌∷◌, ◌++◌, length, take, drop, sum, append_assoc, Option, Some, None, refl, ap, sym, arith, if◌then◌else◌}
use Rattle.std.specs.Prelude.{slice_index}
use Rattle.std.proofs.lemmas.List.{drop_more, take_all}
use Rattle.std.proofs.Math.Seq.{drop-nil}
use Rattle.ft_model.proofs.Lists.{some_is, none_is_some}
use Rattle.ft_model.proofs.Services.{sum_more}
use Rattle.log_replay.specs.declared.cuts.Cuts.{Cuts}
use Rattle.log_replay.specs.ReadLengths.{may_cut, cut_on, cuts_through}

by_choice : (len : ℕ) (fin : Bool) (on next : Cuts) (rest : List ℕ) (b : Bool) → (if b then Some on else None) ≡ Some next
    → (if b then cuts_through len fin on rest else None) ≡ cuts_through len fin next rest
by_choice len fin on next rest true was = ap (λ c. cuts_through len fin c rest) (some_is on next was)
by_choice len fin on next rest false was = none_is_some next was

none_by_choice : (on : Cuts) (last : Option Cuts) (b : Bool) → (if b then Some on else None) ≡ None → (if b then last else None) ≡ None
none_by_choice on last true was = none_is_some on (sym was)
none_by_choice on last false was = refl

here : (xs : List ℕ) (i n : ℕ) → i < length xs → n ≡ slice_index xs i → drop i xs ≡ n ∷ drop (i + 1) xs
here xs i n h e = drop_more xs i 0 h ∙ ap (λ k. k ∷ drop (i + 1) xs) (sym e)

-- one more read, at its place
pub goes_through : (len : ℕ) (fin : Bool) (cuts next : Cuts) (xs : List ℕ) (i n : ℕ) → i < length xs → n ≡ slice_index xs i
    → (if may_cut len fin cuts n then Some (cut_on cuts n) else None) ≡ Some next → cuts_through len fin cuts (drop i xs) ≡ cuts_through len fin next (drop (i + 1) xs)
goes_through len fin cuts next xs i n h e was =
    ap (cuts_through len fin cuts) (here xs i n h e) ∙ by_choice len fin (cut_on cuts n) next (drop (i + 1) xs) (may_cut len fin cuts n) was

-- it may not follow
pub stops_there : (len : ℕ) (fin : Bool) (cuts : Cuts) (xs : List ℕ) (i n : ℕ) → i < length xs → n ≡ slice_index xs i
    → (if may_cut len fin cuts n then Some (cut_on cuts n) else None) ≡ None → cuts_through len fin cuts (drop i xs) ≡ None
stops_there len fin cuts xs i n h e was =
    ap (cuts_through len fin cuts) (here xs i n h e) ∙ none_by_choice (cut_on cuts n) (cuts_through len fin (cut_on cuts n) (drop (i + 1) xs)) (may_cut len fin cuts n) was

-- none is left
pub all_through : (len : ℕ) (fin : Bool) (cuts : Cuts) (xs : List ℕ) (i : ℕ) → length xs ≤ i → cuts_through len fin cuts (drop i xs) ≡ Some cuts
all_through len fin cuts [] i h = ap (cuts_through len fin cuts) (drop-nil i)
all_through len fin cuts (x ∷ xs) zero h = absurd (omega (arith, h))
all_through len fin cuts (x ∷ xs) (suc i) h = all_through len fin cuts xs i (omega (arith, h))

by_may : (on next : Cuts) (was : ℕ) (rest : Option Cuts) (b : Bool) → (Some next ≡ rest → next.sum ≡ was) → Some next ≡ (if b then rest else None) → next.sum ≡ was
by_may on next was rest true so e = so e
by_may on next was rest false so e = none_is_some next (sym e)

-- the bytes of all of them
pub sum_through : (len : ℕ) (fin : Bool) (cuts next : Cuts) (xs : List ℕ) → Some next ≡ cuts_through len fin cuts xs → next.sum ≡ cuts.sum + sum xs
sum_through len fin cuts next [] was = ap (λ c. c.sum) (some_is next cuts was) ∙ omega arith
sum_through len fin cuts next (n ∷ xs) was =
    by_may (cut_on cuts n) next (cuts.sum + sum (n ∷ xs)) (cuts_through len fin (cut_on cuts n) xs) (may_cut len fin cuts n)
    (λ e. let rest = sum_through len fin (cut_on cuts n) next xs e in let more = sum_more n xs in omega (arith, rest, more)) was

one_taken : (xs : List ℕ) (i n : ℕ) → i < length xs → n ≡ slice_index xs i → take i xs ++ n ∷ [] ≡ take (suc i) xs
one_taken [] i n h e = absurd (omega (arith, h))
one_taken (x ∷ xs) zero n h e = ap (λ k. k ∷ []) e
one_taken (x ∷ xs) (suc i) n h e = ap (λ l. x ∷ l) (one_taken xs i n (omega (arith, h)) e)

-- lengths that are pushed one after another
pub one_pushed : (ws xs : List ℕ) (i n : ℕ) → i < length xs → n ≡ slice_index xs i → (ws ++ take i xs) ++ n ∷ [] ≡ ws ++ take (i + 1) xs
one_pushed ws xs i n h e =
    append_assoc ws (take i xs) (n ∷ []) ∙ ap (λ l. ws ++ l) (one_taken xs i n h e) ∙ (let next : suc i ≡ i + 1 = omega arith in ap (λ k. ws ++ take k xs) next)

pub all_pushed : (ws xs : List ℕ) (i : ℕ) → length xs ≤ i → ws ++ take i xs ≡ ws ++ xs
all_pushed ws xs i h = ap (λ l. ws ++ l) (take_all i xs h)
