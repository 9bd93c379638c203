-- Reads that are dropped from the front of runs.
use Rattle.std.proofs.Common.{◌≡◌, ◌∙◌, ℕ, ◌+◌, ◌*◌, ◌-◌, ◌<◌, ◌≤◌, ◌^◌, refl, sym, ap, subst, arith, List, [], ◌∷◌, ◌++◌, length, take, drop, sum, replicate, min, get_or, append_assoc, append-nil}
use Rattle.std.specs.List.{flat_map}
use Rattle.std.proofs.Math.Seq.{drop-append-add, take-append-add, take-append_seam}
use Rattle.std.proofs.lemmas.List.{length-append, length-replicate, length-drop, drop_all, drop-append-le, take-append-le, take-append-drop, drop-replicate, flat_map_more, take_more, drop_more}
use Rattle.log_pages.specs.declared.runs.Run.{Run}
use Rattle.log_pages.specs.Pages.{lengths_in}
use Rattle.log_pages.proofs.Lengths.{front_of_equals}
use Rattle.log_pages.proofs.Took.{sum_of, sum_same}

-- a run more in front
next_run : (runs : List Run) (i : ℕ) (d : Run) → i < length runs
    → flat_map lengths_in (take (i + 1) runs) ≡ flat_map lengths_in (take i runs) ++ lengths_in (get_or runs i d)
next_run runs i d there = ap (flat_map lengths_in) (take_more runs i d there) ∙ sym (flat_map_more lengths_in [] (take i runs) (get_or runs i d))

pub more_reads : (runs : List Run) (i reads : ℕ) (d : Run) → i < length runs → reads ≡ length (flat_map lengths_in (take i runs))
    → reads + (get_or runs i d).count ≡ length (flat_map lengths_in (take (i + 1) runs))
more_reads runs i reads d there is =
    let next = ap length (next_run runs i d there) ∙ length-append (flat_map lengths_in (take i runs)) (lengths_in (get_or runs i d)) in
    let one = length-replicate (get_or runs i d).count (get_or runs i d).length in omega (arith, next, one, is)

pub more_bytes : (runs : List Run) (i bytes : ℕ) (d : Run) → i < length runs → bytes ≡ sum (flat_map lengths_in (take i runs))
    → bytes + (get_or runs i d).count * (get_or runs i d).length ≡ sum (flat_map lengths_in (take (i + 1) runs))
more_bytes runs i bytes d there is =
    let next = ap sum (next_run runs i d there) ∙ sum_of (flat_map lengths_in (take i runs)) (lengths_in (get_or runs i d)) in
    let one = sum_same (get_or runs i d).count (get_or runs i d).length in omega (arith, next, one, is)

-- runs before a place, and those from it on
both_runs : (i : ℕ) (runs : List Run) → flat_map lengths_in runs ≡ flat_map lengths_in (take i runs) ++ flat_map lengths_in (drop i runs)
both_runs i runs = ap (flat_map lengths_in) (sym (take-append-drop i runs)) ∙ flat_map_append (take i runs) (drop i runs)
  where
    flat_map_append : (xs ys : List Run) → flat_map lengths_in (xs ++ ys) ≡ flat_map lengths_in xs ++ flat_map lengths_in ys
    flat_map_append [] ys = refl
    flat_map_append (x ∷ xs) ys = ap (λ zs. lengths_in x ++ zs) (flat_map_append xs ys) ∙ sym (append_assoc (lengths_in x) (flat_map lengths_in xs) (flat_map lengths_in ys))

pub few_bytes : (runs : List Run) (i bytes : ℕ) (d : Run) → i < length runs → bytes ≡ sum (flat_map lengths_in (take i runs))
    → sum (flat_map lengths_in runs) ≤ 2 ^ 24 → bytes + (get_or runs i d).count * (get_or runs i d).length ≤ 2 ^ 24
few_bytes runs i bytes d there is few =
    let next = more_bytes runs i bytes d there is in
    let all = ap sum (both_runs (i + 1) runs) ∙ sum_of (flat_map lengths_in (take (i + 1) runs)) (flat_map lengths_in (drop (i + 1) runs)) in
    omega (arith, next, all, few)

-- the run at which a front ends
pub stops_there : (runs : List Run) (i reads so_far : ℕ) (d : Run) → i < length runs → reads < so_far + (get_or runs i d).count
    → (run : Run) → (rest : List Run) → drop i runs ≡ run ∷ rest → reads < so_far + run.count
stops_there runs i reads so_far d there h run rest is =
    let same : get_or runs i d ≡ run = ap (λ rs. get_or rs 0 d) (sym (drop_more runs i d there) ∙ is) in
    subst (λ r. reads < so_far + r.count) same h

pub stops_at_end : (runs : List Run) (i reads so_far : ℕ) → length runs ≤ i → (run : Run) → (rest : List Run) → drop i runs ≡ run ∷ rest → reads < so_far + run.count
stops_at_end runs i reads so_far h run rest is =
    let none : 0 ≡ length (run ∷ rest) = ap length (sym (drop_all i runs h) ∙ is) in absurd (omega (arith, none))

-- what is left of equal reads, and what the first of them took
pub cut_rest : (reads count n : ℕ) → replicate (count - reads) n ≡ drop reads (replicate count n)
cut_rest reads count n = sym (drop-replicate reads count n)

pub cut_took : (reads count n : ℕ) → reads ≤ count → reads * n ≡ sum (take reads (replicate count n))
cut_took reads count n h = sym (ap sum (front_of_equals reads count n ∙ ap (λ k. replicate k n) (low reads count h)) ∙ sum_same reads n)
  where
    low : (a b : ℕ) → a ≤ b → min a b ≡ a
    low a b h = omega (arith, h)

pub cut_few : (reads count n : ℕ) → reads ≤ count → sum (replicate count n) ≤ 2 ^ 24 → reads * n ≤ 2 ^ 24
cut_few reads count n h few =
    let all = sum_same count n in
    let less : reads * n ≤ count * n = grind (arith, h) in omega (arith, all, less, few)

-- of the first run
pub first_rest : (run cut : List ℕ) (rest : List ℕ) (reads : ℕ) → reads ≤ length run → cut ≡ drop reads run → cut ++ rest ≡ drop reads (run ++ rest)
first_rest run cut rest reads within is = ap (λ xs. xs ++ rest) is ∙ sym (drop-append-le reads run rest within)

pub first_took : (run rest : List ℕ) (reads took : ℕ) → reads ≤ length run → took ≡ sum (take reads run) → took ≡ sum (take reads (run ++ rest))
first_took run rest reads took within is = is ∙ ap sum (sym (take-append-le reads run rest within))

-- of all runs
pub all_rest : (runs : List Run) (i reads so_far : ℕ) (last after : List ℕ) → so_far ≡ length (flat_map lengths_in (take i runs)) → so_far ≤ reads
    → after ≡ drop (reads - so_far) (flat_map lengths_in (drop i runs) ++ last) → after ≡ drop reads (flat_map lengths_in runs ++ last)
all_rest runs i reads so_far last after counted within is =
    let front : List ℕ = flat_map lengths_in (take i runs) in
    let behind : List ℕ = flat_map lengths_in (drop i runs) ++ last in
    let whole : flat_map lengths_in runs ++ last ≡ front ++ behind = ap (λ xs. xs ++ last) (both_runs i runs) ∙ append_assoc front (flat_map lengths_in (drop i runs)) last in
    let at : reads ≡ length front + (reads - so_far) = omega (arith, counted, within) in
    is ∙ sym (ap (drop reads) whole ∙ (ap (λ n. drop n (front ++ behind)) at ∙ drop-append-add front behind (reads - so_far)))

pub all_took : (runs : List Run) (i reads so_far bytes more : ℕ) (last : List ℕ) → so_far ≡ length (flat_map lengths_in (take i runs)) → so_far ≤ reads
    → bytes ≡ sum (flat_map lengths_in (take i runs)) → more ≡ sum (take (reads - so_far) (flat_map lengths_in (drop i runs) ++ last))
    → bytes + more ≡ sum (take reads (flat_map lengths_in runs ++ last))
all_took runs i reads so_far bytes more last counted within bytes_is is =
    let front : List ℕ = flat_map lengths_in (take i runs) in
    let behind : List ℕ = flat_map lengths_in (drop i runs) ++ last in
    let whole : flat_map lengths_in runs ++ last ≡ front ++ behind = ap (λ xs. xs ++ last) (both_runs i runs) ∙ append_assoc front (flat_map lengths_in (drop i runs)) last in
    let at : reads ≡ length front + (reads - so_far) = omega (arith, counted, within) in
    let total = ap (λ xs. sum (take reads xs)) whole ∙ (ap (λ n. sum (take n (front ++ behind))) at
    ∙ (ap sum (take-append-add front behind (reads - so_far)) ∙ sum_of front (take (reads - so_far) behind))) in
    omega (arith, total, bytes_is, is)

pub behind_few : (runs : List Run) (i : ℕ) (last : List ℕ) → sum (flat_map lengths_in runs ++ last) ≤ 2 ^ 24 → sum (flat_map lengths_in (drop i runs) ++ last) ≤ 2 ^ 24
behind_few runs i last few =
    let all = sum_of (flat_map lengths_in runs) last in
    let cut = ap sum (both_runs i runs) ∙ sum_of (flat_map lengths_in (take i runs)) (flat_map lengths_in (drop i runs)) in
    let rest = sum_of (flat_map lengths_in (drop i runs)) last in omega (arith, all, cut, rest, few)

-- the last run, where the others are dropped
pub last_enough : (runs : List Run) (i reads so_far count n : ℕ) → reads ≤ length (flat_map lengths_in runs ++ replicate count n)
    → so_far ≡ length (flat_map lengths_in (take i runs)) → drop i runs ≡ [] → reads - so_far ≤ count
last_enough runs i reads so_far count n within counted none =
    let all = length-append (flat_map lengths_in runs) (replicate count n) in
    let front = ap length (both_runs i runs ∙ (ap (λ rs. flat_map lengths_in (take i runs) ++ flat_map lengths_in rs) none ∙ append-nil (flat_map lengths_in (take i runs)))) in
    let last = length-replicate count n in omega (arith, within, counted, all, front, last)

-- what a turn and a cut leave of a list
pub turned : (count : ℕ) (runs : List Run) → count ≤ length runs → take (length runs - count) (drop count runs ++ take count runs) ≡ drop count runs
turned count runs within =
    let long : length (drop count runs) ≡ length runs - count = length-drop count runs in
    ap (λ n. take n (drop count runs ++ take count runs)) (sym long) ∙ take-append_seam (drop count runs) (take count runs)
