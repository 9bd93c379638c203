-- How many bytes the first reads took, run by run.
use Rattle.std.proofs.Common.{◌≡◌, ◌∙◌, ℕ, zero, suc, ◌+◌, ◌*◌, ◌-◌, ◌<◌, ◌≤◌, ◌^◌, ◌==◌, ◌||◌, not, Bool, true, false, refl, sym, ap, subst, arith, List, [], ◌∷◌, ◌++◌, length, take, drop, min, sum, replicate, append-nil, append_assoc, Option, Some, None, IfSome, option_map, is_some, true≢false, inl, inr, if◌then◌else◌, get_or, le_trans}
use Rattle.std.specs.List.{list_any, flat_map}
use Rattle.std.proofs.Math.Nat.{suc-mul, zero-mul, mul-le-mul_right}
use Rattle.std.proofs.Math.Seq.{take-append-add}
use Rattle.std.proofs.lemmas.Bool.{cases_lt}
use Rattle.std.proofs.lemmas.List.{take_all, take-append-le, length-replicate, drop_more}
use Rattle.std.proofs.lemmas.List.Folds.{list_any-append}
use Rattle.ft_io.proofs.Choices.{same_some}
use Rattle.ft_model.proofs.Services.{sum_more, sum_take}
use Rattle.log_pages.specs.declared.runs.Run.{Run}
use Rattle.log_pages.specs.Pages.{lengths_in, reads_on, took}
use Rattle.log_pages.proofs.Lengths.{front_of_equals}

pub take_both : (n : ℕ) (xs ys : List ℕ) → take n (xs ++ ys) ≡ take n xs ++ take (n - length xs) ys
take_both n xs ys = elim (cases_lt n (length xs)) [ inl less ↦ inside less | inr more ↦ beyond more ]
  where
    nothing : (n m : ℕ) → n < m → 0 ≡ n - m
    nothing n m h = omega (arith, h)

    inside : n < length xs → take n (xs ++ ys) ≡ take n xs ++ take (n - length xs) ys
    inside h = take-append-le n xs ys (omega (arith, h)) ∙ (sym (append-nil (take n xs)) ∙ ap (λ k. take n xs ++ take k ys) (nothing n (length xs) h))

    whole : (n m : ℕ) → m ≤ n → n ≡ m + (n - m)
    whole n m h = omega (arith, h)

    beyond : length xs ≤ n → take n (xs ++ ys) ≡ take n xs ++ take (n - length xs) ys
    beyond h = ap (λ k. take k (xs ++ ys)) (whole n (length xs) h)
        ∙ (take-append-add xs ys (n - length xs) ∙ ap (λ zs. zs ++ take (n - length xs) ys) (sym (take_all n xs h)))

pub sum_of : (xs ys : List ℕ) → sum (xs ++ ys) ≡ sum xs + sum ys
sum_of [] ys = omega arith
sum_of (x ∷ xs) ys =
    let one = sum_more x (xs ++ ys) in
    let two = sum_more x xs in
    let three = sum_of xs ys in omega (arith, one, two, three)

abbrev pub plus : Option ℕ → Option ℕ → Option ℕ
plus None n = None
plus (Some m) n = option_map (λ k. m + k) n

parts : (c d : Bool) (m n : ℕ) → (if c || d then None else Some (m + n)) ≡ plus (if c then None else Some m) (if d then None else Some n)
parts true d m n = refl
parts false true m n = refl
parts false false m n = refl

pub took_both : (reads : ℕ) (xs ys : List ℕ) → took reads (xs ++ ys) ≡ plus (took reads xs) (took (reads - length xs) ys)
took_both reads xs ys =
    let front : List ℕ = take reads xs in
    let rest : List ℕ = take (reads - length xs) ys in
    ap (λ l. if list_any (λ n. n == 0) l then None else Some (sum l)) (take_both reads xs ys)
    ∙ ((λ i. if list_any-append (λ n. n == 0) front rest i then None else Some (sum_of front rest i))
    ∙ parts (list_any (λ n. n == 0) front) (list_any (λ n. n == 0) rest) (sum front) (sum rest))

-- of two runs and of what comes after them
pub took_three : (reads : ℕ) (low high : Run) (rest : List ℕ)
    → took reads (lengths_in low ++ (lengths_in high ++ rest))
    ≡ plus (took reads (lengths_in low)) (plus (took (reads - low.count) (lengths_in high)) (took (reads - low.count - high.count) rest))
took_three reads low high rest =
    took_both reads (lengths_in low) (lengths_in high ++ rest)
    ∙ ap (plus (took reads (lengths_in low)))
    (ap (λ n. took (reads - n) (lengths_in high ++ rest)) (length-replicate {A = ℕ} low.count low.length)
    ∙ (took_both (reads - low.count) (lengths_in high) rest
    ∙ ap (λ n. plus (took (reads - low.count) (lengths_in high)) (took (reads - low.count - n) rest)) (length-replicate {A = ℕ} high.count high.length)))

pub three_summed : (a b c : ℕ) → a + b + c ≡ a + (b + c)
three_summed a b c = omega arith

-- equal reads
pub sum_same : (k y : ℕ) → sum (replicate k y) ≡ k * y
sum_same zero y = sym (zero-mul y)
sum_same (suc k) y =
    let one = sum_more y (replicate k y) in
    let rest = sum_same k y in
    let all = suc-mul k y in omega (arith, one, rest, all)

pub none_same : (k y : ℕ) → (y == 0) ≡ false → list_any (λ n. n == 0) (replicate k y) ≡ false
none_same zero y e = refl
none_same (suc k) y e = ap (λ b. b || list_any (λ n. n == 0) (replicate k y)) e ∙ none_same k y e

-- of the first of equal reads, where these aren't closing ones
pub took_same : (reads c y count : ℕ) → count ≡ min reads c → (y == 0) ≡ false → took reads (replicate c y) ≡ Some (count * y)
took_same reads c y count is other =
    ap (λ l. if list_any (λ n. n == 0) l then None else Some (sum l)) (front_of_equals reads c y ∙ ap (λ k. replicate k y) (sym is))
    ∙ (ap (λ b. if b then None else Some (sum (replicate count y))) (none_same count y other) ∙ ap Some (sum_same count y))

-- .. where they are, and where there are none
pub took_closing : (reads c y count : ℕ) → count ≡ min reads c → y ≡ 0 → 0 < count → took reads (replicate c y) ≡ None
took_closing reads c y count is closing some =
    ap (λ l. if list_any (λ n. n == 0) l then None else Some (sum l)) (front_of_equals reads c y ∙ (ap (λ k. replicate k y) (sym is) ∙ ap (replicate count) closing))
    ∙ ap (λ b. if b then None else Some (sum (replicate count 0))) (any count some)
  where
    any : (k : ℕ) → 0 < k → list_any (λ n. n == 0) (replicate k 0) ≡ true
    any zero h = absurd (omega (arith, h))
    any (suc k) h = refl

pub took_nothing : (reads c y count : ℕ) → count ≡ min reads c → count ≡ 0 → took reads (replicate c y) ≡ Some 0
took_nothing reads c y count is none =
    ap (λ l. if list_any (λ n. n == 0) l then None else Some (sum l)) (front_of_equals reads c y ∙ ap (λ k. replicate k y) (sym is ∙ none))

pub few_fit : (reads c y count : ℕ) → count ≡ min reads c → sum (replicate c y) ≤ 2 ^ 24 → count * y ≤ 2 ^ 24
few_fit reads c y count is h = le_trans (mul-le-mul_right y (low reads c count is)) (subst (λ n. n ≤ 2 ^ 24) (sum_same c y) h)
  where
    low : (reads c count : ℕ) → count ≡ min reads c → count ≤ c
    low reads c count is = omega (arith, is)

-- the next run
some_of : (k n : ℕ) (xs : List ℕ) → took k xs ≡ Some n → n ≡ sum (take k xs)
some_of k n xs is = by (list_any (λ m. m == 0) (take k xs)) is
  where
    by : (c : Bool) → (if c then None else Some (sum (take k xs))) ≡ Some n → n ≡ sum (take k xs)
    by true p = absurd (true≢false (sym (ap is_some p)))
    by false p = sym (same_some p)

pub run_taken : (runs : List Run) (i reads left after total n : ℕ) (d : Run) (last whole : List ℕ) → i < length runs
    → (took reads whole ≡ plus (Some total) (took left (flat_map lengths_in (drop i runs) ++ last))) × (total + sum (flat_map lengths_in (drop i runs) ++ last) ≤ 2 ^ 24)
    → took left (lengths_in (get_or runs i d)) ≡ Some n → after ≡ left - (get_or runs i d).count
    → (took reads whole ≡ plus (Some (total + n)) (took after (flat_map lengths_in (drop (i + 1) runs) ++ last)))
    × (total + n + sum (flat_map lengths_in (drop (i + 1) runs) ++ last) ≤ 2 ^ 24)
run_taken runs i reads left after total n d last whole there so_far next is =
    let run : Run = get_or runs i d in
    let rest : List ℕ = flat_map lengths_in (drop (i + 1) runs) ++ last in
    let cut : flat_map lengths_in (drop i runs) ++ last ≡ lengths_in run ++ rest =
    ap (λ rs. flat_map lengths_in rs ++ last) (drop_more runs i d there) ∙ append_assoc (lengths_in run) (flat_map lengths_in (drop (i + 1) runs)) last in
    let behind : left - length (lengths_in run) ≡ after = ap (λ k. left - k) (length-replicate run.count run.length) ∙ sym is in
    let sums = ap sum cut ∙ sum_of (lengths_in run) rest in
    let counted = some_of left n (lengths_in run) next in
    let within = sum_take left (lengths_in run) in
    let few = so_far.1 in (
      so_far.0
          ∙ (ap (λ l. plus (Some total) (took left l)) cut
          ∙ (ap (plus (Some total)) (took_both left (lengths_in run) rest ∙ (λ j. plus (next j) (took (behind j) rest))) ∙ twice total n (took after rest))),
      omega (arith, sums, counted, within, few),
    )
  where
    add_three : (a b c : ℕ) → a + (b + c) ≡ a + b + c
    add_three a b c = omega arith

    twice : (a b : ℕ) (o : Option ℕ) → plus (Some a) (plus (Some b) o) ≡ plus (Some (a + b)) o
    twice a b None = refl
    twice a b (Some c) = ap Some (add_three a b c)

pub run_closing : (runs : List Run) (i reads left total : ℕ) (d : Run) (last whole : List ℕ) → i < length runs
    → took reads whole ≡ plus (Some total) (took left (flat_map lengths_in (drop i runs) ++ last))
    → took left (lengths_in (get_or runs i d)) ≡ None → took reads whole ≡ None
run_closing runs i reads left total d last whole there so_far closing =
    let run : Run = get_or runs i d in
    let rest : List ℕ = flat_map lengths_in (drop (i + 1) runs) ++ last in
    let cut : flat_map lengths_in (drop i runs) ++ last ≡ lengths_in run ++ rest =
    ap (λ rs. flat_map lengths_in rs ++ last) (drop_more runs i d there) ∙ append_assoc (lengths_in run) (flat_map lengths_in (drop (i + 1) runs)) last in
    so_far ∙ (ap (λ l. plus (Some total) (took left l)) cut ∙ ap (plus (Some total)) (took_both left (lengths_in run) rest ∙ ap (λ o. plus o (took (left - length (lengths_in run)) rest)) closing))

-- of a stream's reads
pub sum_took : (reads : ℕ) (xs : List ℕ) (o : Option ℕ) → o ≡ took reads xs → IfSome o (λ n. n ≡ sum (take reads xs))
sum_took reads xs None is = tt
sum_took reads xs (Some n) is = some_of reads n xs (sym is)

pub on_took : (reads : ℕ) (xs : List ℕ) (o : Option ℕ) → o ≡ took reads xs → IfSome o (λ n. reads_on (take reads xs) ≡ true)
on_took reads xs None is = tt
on_took reads xs (Some n) is = by (list_any (λ m. m == 0) (take reads xs)) (sym is)
  where
    by : (c : Bool) → (if c then None else Some (sum (take reads xs))) ≡ Some n → not c ≡ true
    by true p = absurd (true≢false (sym (ap is_some p)))
    by false p = refl

pub few_took : (reads bytes : ℕ) (xs : List ℕ) (o : Option ℕ) → o ≡ took reads xs → sum xs ≤ bytes → IfSome o (λ n. n ≤ bytes)
few_took reads bytes xs None is few = tt
few_took reads bytes xs (Some n) is few =
    let one = some_of reads n xs (sym is) in let all = sum_take reads xs in omega (arith, one, all, few)
