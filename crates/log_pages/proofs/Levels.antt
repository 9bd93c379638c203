-- Level lengths: as many as the reads for which they stand, of the same sum, and none of them a closing one.
use Rattle.std.proofs.Common.{◌≡◌, ◌∙◌, ℕ, zero, suc, ◌+◌, ◌*◌, ◌-◌, ◌/◌, ◌%◌, ◌<◌, ◌≤◌, ◌==◌, ◌&&◌, ◌||◌, ◌⊎◌, not, nat_le, Bool, true, false, refl, sym, ap, ap₂, subst, arith, List, [], ◌∷◌, ◌++◌, length, take, drop, min, sum, replicate, append_assoc, eqb-true, true≢false, ⊎_elim, inl, inr}
use Rattle.std.specs.List.{list_any, list_all}
use Rattle.std.proofs.Math.Nat.{mod-lt, div-le_of_le-mul, mul_comm}
use Rattle.std.proofs.Math.Seq.{drop-append-add, take-append-add}
use Rattle.std.proofs.lemmas.Nat.{div-mul-add, mod-mul-add, div-add-mod', le-div}
use Rattle.std.proofs.lemmas.Bool.{cases_lt, leb-true, and_parts}
use Rattle.std.proofs.lemmas.List.{length-append, length-replicate, length-take-le, take-take, drop-take, length-drop, take-append-le, take-append-drop, drop-append-le, drop-drop}
use Rattle.std.proofs.lemmas.List.Folds.{list_any-append, list_all-append}
use Rattle.ft_model.proofs.Services.{sum_more}
use Rattle.log_pages.specs.Levels.{AreLevel}
use Rattle.log_pages.specs.Pages.{level, levelled, lengths_in, reads_on}
use Rattle.log_pages.specs.declared.runs.Run.{Run}
use Rattle.log_pages.proofs.Lengths.{front_of_equals}
use Rattle.log_pages.proofs.Took.{take_both, sum_of, sum_same, none_same}

both : (a b q : ℕ) → a * q + b * q ≡ (a + b) * q
both a b q = grind arith

-- so many of one length, and some of the next
steps : (x y q : ℕ) → sum (replicate x q ++ replicate y (q + 1)) ≡ (x + y) * q + y
steps x y q =
    let parts = sum_of (replicate x q) (replicate y (q + 1)) in
    let one = sum_same x q in
    let two = sum_same y (q + 1) in
    let more : y * (q + 1) ≡ y * q + y = grind arith in
    let all = both x y q in omega (arith, parts, one, two, more, all)

apart : (r b : ℕ) → 0 < r → r - b % r + b % r ≡ r
apart r b some = let less = mod-lt b some in omega (arith, less)

pub level_count : (r : ℕ) (ls : List ℕ) → length (level r (sum (take r ls))) ≡ r
level_count zero ls = refl
level_count (suc r) ls = by (sum (take (suc r) ls))
  where
    by : (b : ℕ) → length (level (suc r) b) ≡ suc r
    by b =
        let parts = length-append (replicate (suc r - b % suc r) (b / suc r)) (replicate (b % suc r) (b / suc r + 1)) in
        let one = length-replicate {A = ℕ} (suc r - b % suc r) (b / suc r) in
        let two = length-replicate {A = ℕ} (b % suc r) (b / suc r + 1) in
        let all = apart (suc r) b (omega arith) in omega (arith, parts, one, two, all)

pub level_sum : (r : ℕ) (ls : List ℕ) → sum (level r (sum (take r ls))) ≡ sum (take r ls)
level_sum zero ls = refl
level_sum (suc r) ls = by (sum (take (suc r) ls))
  where
    by : (b : ℕ) → sum (level (suc r) b) ≡ b
    by b = steps (suc r - b % suc r) (b % suc r) (b / suc r)
        ∙ (ap (λ n. n * (b / suc r) + b % suc r) (apart (suc r) b (omega arith))
        ∙ (ap (λ n. n + b % suc r) (mul_comm (suc r) (b / suc r)) ∙ div-add-mod' b (suc r)))

other : (n : ℕ) → 1 ≤ n → (n == 0) ≡ false
other zero h = absurd (omega (arith, h))
other (suc n) h = by (suc n == 0) refl
  where
    by : (c : Bool) → (suc n == 0) ≡ c → (suc n == 0) ≡ false
    by true p = let none = eqb-true (suc n) 0 p in absurd (omega (arith, none))
    by false p = p

-- lengths without a closing read are at least 1 each, and those that a message may say at most 2,048
pub at_least : (ls : List ℕ) → reads_on ls ≡ true → length ls ≤ sum ls
at_least [] on = omega arith
at_least (n ∷ ls) on = by n (n == 0) refl (λ h. at_least ls h) on
  where
    by : (n : ℕ) (c : Bool) → (n == 0) ≡ c → (reads_on ls ≡ true → length ls ≤ sum ls) → not (c || list_any (λ k. k == 0) ls) ≡ true → suc (length ls) ≤ sum (n ∷ ls)
    by n true p rest h = absurd (true≢false (sym h))
    by zero false p rest h = absurd (true≢false p)
    by (suc n) false p rest h = let least = rest h in let one = sum_more (suc n) ls in omega (arith, least, one)

pub at_most : (ls : List ℕ) → list_all (λ n. nat_le n 2048) ls ≡ true → sum ls ≤ 2048 * length ls
at_most [] each = omega arith
at_most (n ∷ ls) each =
    let parts = and_parts (nat_le n 2048) (list_all (λ k. nat_le k 2048) ls) each in
    let one : n ≤ 2048 = leb-true n 2048 parts.0 in
    let rest = at_most ls parts.1 in
    let more = sum_more n ls in omega (arith, one, rest, more)

pub level_on : (r : ℕ) (ls : List ℕ) → r ≤ length ls → reads_on (take r ls) ≡ true → reads_on (level r (sum (take r ls))) ≡ true
level_on zero ls within on = refl
level_on (suc r) ls within on = by (sum (take (suc r) ls)) enough
  where
    enough : suc r ≤ sum (take (suc r) ls)
    enough = let least = at_least (take (suc r) ls) on in let long = length-take-le (suc r) ls within in omega (arith, least, long)

    by : (b : ℕ) → suc r ≤ b → reads_on (level (suc r) b) ≡ true
    by b h =
        let q : 1 ≤ b / suc r = le-div 1 b (suc r) (omega arith) (omega (arith, h)) in
        ap not (list_any-append (λ n. n == 0) (replicate (suc r - b % suc r) (b / suc r)) (replicate (b % suc r) (b / suc r + 1))
        ∙ (λ i. none_same (suc r - b % suc r) (b / suc r) (other (b / suc r) q) i || none_same (b % suc r) (b / suc r + 1) (other (b / suc r + 1) (omega arith)) i))

-- equal lengths that a message may say
few_same : (k y : ℕ) → y ≤ 2048 → list_all (λ n. nat_le n 2048) (replicate k y) ≡ true
few_same zero y h = refl
few_same (suc k) y h = ap₂ ◌&&◌ (by (nat_le y 2048) refl) (few_same k y h)
  where
    by : (c : Bool) → nat_le y 2048 ≡ c → nat_le y 2048 ≡ true
    by true p = p
    by false p = grind (arith, p, h)

pub level_each : (r b : ℕ) → b ≤ 2048 * r → list_all (λ n. nat_le n 2048) (level r b) ≡ true
level_each zero b h = ap (λ n. list_all (λ m. nat_le m 2048) (level 0 n)) (none b h)
  where
    none : (b : ℕ) → b ≤ 2048 * 0 → b ≡ 0
    none b h = omega (arith, h)
level_each (suc r) b h =
    list_all-append (λ n. nat_le n 2048) (replicate (suc r - b % suc r) (b / suc r)) (replicate (b % suc r) (b / suc r + 1))
    ∙ ap₂ ◌&&◌ (few_same (suc r - b % suc r) (b / suc r) low) (larger (b % suc r) refl)
  where
    low : b / suc r ≤ 2048
    low = div-le_of_le-mul (suc r) (subst (λ n. b ≤ n) (mul_comm 2048 (suc r)) h)

    beyond : (y : ℕ) → b % suc r ≡ suc y → 2048 ≤ b / suc r → ⊥
    beyond y p more =
        let whole : b / suc r * suc r ≡ 2048 * suc r = ap (λ n. n * suc r) (omega (arith, more, low)) in
        let sum_is = div-add-mod' b (suc r) in omega (arith, whole, sum_is, p, h)

    larger : (y : ℕ) → b % suc r ≡ y → list_all (λ n. nat_le n 2048) (replicate y (b / suc r + 1)) ≡ true
    larger zero p = refl
    larger (suc y) p = few_same (suc y) (b / suc r + 1) (elim (cases_lt (b / suc r) 2048) [ inl less ↦ omega (arith, less) | inr more ↦ absurd (beyond y p more) ])

pub level_of : (k q z : ℕ) → z < k → level k (q * k + z) ≡ replicate (k - z) q ++ replicate z (q + 1)
level_of k q z h = λ i. replicate (k - mod-mul-add q k z h i) (div-mul-add q k z h i) ++ replicate (mod-mul-add q k z h i) (div-mul-add q k z h i + 1)

-- the first of level lengths are level
front_level : (x y q k : ℕ) → (y ≡ 0) ⊎ (0 < x) → k ≤ x + y
    → level k (sum (take k (replicate x q ++ replicate y (q + 1)))) ≡ take k (replicate x q ++ replicate y (q + 1))
front_level x y q zero some h = refl
front_level x y q (suc k) some h = ap (level (suc k)) (ap sum cut ∙ total) ∙ (level_of (suc k) q (suc k - x) less ∙ (same_low ∙ sym cut))
  where
    long : length (replicate {A = ℕ} x q) ≡ x
    long = length-replicate {A = ℕ} x q

    first : 0 < x
    first = ⊎_elim (λ none. omega (arith, none, h)) (λ is. is) some

    less : suc k - x < suc k
    less = omega (arith, first)

    cut : take (suc k) (replicate x q ++ replicate y (q + 1)) ≡ replicate (min (suc k) x) q ++ replicate (suc k - x) (q + 1)
    cut = take_both (suc k) (replicate x q) (replicate y (q + 1))
        ∙ ap₂ ◌++◌ (front_of_equals (suc k) x q)
        (ap (λ n. take (suc k - n) (replicate y (q + 1))) long ∙ (front_of_equals (suc k - x) y (q + 1) ∙ ap (λ n. replicate n (q + 1)) (within (suc k) x y h)))
      where
        within : (n a b : ℕ) → n ≤ a + b → min (n - a) b ≡ n - a
        within n a b h = omega (arith, h)

    count : min (suc k) x + (suc k - x) ≡ suc k
    count = by (suc k) x
      where
        by : (n a : ℕ) → min n a + (n - a) ≡ n
        by n a = omega arith

    total : sum (replicate (min (suc k) x) q ++ replicate (suc k - x) (q + 1)) ≡ q * suc k + (suc k - x)
    total = steps (min (suc k) x) (suc k - x) q ∙ ap (λ n. n + (suc k - x)) (ap (λ n. n * q) count ∙ mul_comm (suc k) q)

    same_low : replicate (suc k - (suc k - x)) q ++ replicate (suc k - x) (q + 1) ≡ replicate (min (suc k) x) q ++ replicate (suc k - x) (q + 1)
    same_low = ap (λ n. replicate n q ++ replicate (suc k - x) (q + 1)) (by (suc k) x)
      where
        by : (n a : ℕ) → n - (n - a) ≡ min n a
        by n a = omega arith

-- lengths of which the first are given up: as many, ..
pub levelled_count : (r : ℕ) (ls : List ℕ) → r ≤ length ls → length (levelled r ls) ≡ length ls
levelled_count r ls within =
    let parts = length-append (level r (sum (take r ls))) (drop r ls) in
    let front = level_count r ls in
    let rest = length-drop r ls in omega (arith, parts, front, rest, within)

-- .. of the same sum, ..
pub levelled_sum : (r : ℕ) (ls : List ℕ) → sum (levelled r ls) ≡ sum ls
levelled_sum r ls =
    sum_of (level r (sum (take r ls))) (drop r ls) ∙ (ap (λ n. n + sum (drop r ls)) (level_sum r ls) ∙ (sym (sum_of (take r ls) (drop r ls)) ∙ ap sum (take-append-drop r ls)))

-- .. with a closing read where there was one, ..
on_is : (xs : List ℕ) → reads_on xs ≡ true → list_any (λ n. n == 0) xs ≡ false
on_is xs h = by (list_any (λ n. n == 0) xs) h
  where
    by : (c : Bool) → not c ≡ true → c ≡ false
    by true p = absurd (true≢false (sym p))
    by false p = refl

pub levelled_closing : (r : ℕ) (ls : List ℕ) → r ≤ length ls → reads_on (take r ls) ≡ true
    → list_any (λ n. n == 0) (levelled r ls) ≡ list_any (λ n. n == 0) ls
levelled_closing r ls within on =
    list_any-append (λ n. n == 0) (level r (sum (take r ls))) (drop r ls)
    ∙ (ap (λ c. c || list_any (λ n. n == 0) (drop r ls)) (on_is (level r (sum (take r ls))) (level_on r ls within on) ∙ sym (on_is (take r ls) on))
    ∙ (sym (list_any-append (λ n. n == 0) (take r ls) (drop r ls)) ∙ ap (list_any (λ n. n == 0)) (take-append-drop r ls)))

-- .. with those that are added later, ..
pub levelled_more : (r : ℕ) (ls more : List ℕ) → r ≤ length ls → levelled r ls ++ more ≡ levelled r (ls ++ more)
levelled_more r ls more within =
    append_assoc (level r (sum (take r ls))) (drop r ls) more
    ∙ ap₂ (λ front rest. level r (sum front) ++ rest) (sym (take-append-le r ls more within)) (sym (drop-append-le r ls more within))

-- .. and the same from there on
pub levelled_rest : (r at : ℕ) (ls : List ℕ) → r ≤ at → drop at (levelled r ls) ≡ drop at ls
levelled_rest r at ls within =
    let place : at ≡ length (level r (sum (take r ls))) + (at - r) = let long = level_count r ls in omega (arith, long, within) in
    let back : r + (at - r) ≡ at = omega (arith, within) in
    ap (λ k. drop k (levelled r ls)) place
    ∙ (drop-append-add (level r (sum (take r ls))) (drop r ls) (at - r) ∙ (drop-drop (at - r) r ls ∙ ap (λ k. drop k ls) back))

-- The first of them took as many bytes, ..
pub levelled_front : (r n : ℕ) (ls : List ℕ) → r ≤ n → n ≤ length ls → sum (take n (levelled r ls)) ≡ sum (take n ls)
levelled_front r n ls low within =
    let front = sum_of (take n (levelled r ls)) (drop n (levelled r ls)) ∙ refl in
    let whole = ap sum (take-append-drop n (levelled r ls)) in
    let front_before = sum_of (take n ls) (drop n ls) in
    let whole_before = ap sum (take-append-drop n ls) in
    let all = levelled_sum r ls in
    let rest = ap sum (levelled_rest r n ls low) in omega (arith, front, whole, front_before, whole_before, all, rest)

levelled_cut : (r n : ℕ) (ls : List ℕ) → r ≤ n → n ≤ length ls → take n (levelled r ls) ≡ levelled r (take n ls)
levelled_cut r n ls low within =
    let long = level_count r ls in
    let at : n ≡ length (level r (sum (take r ls))) + (n - r) = omega (arith, long, low) in
    let front : take r (take n ls) ≡ take r ls = take-take r n ls low in
    let rest : drop r (take n ls) ≡ take (n - r) (drop r ls) = ap (λ k. drop r (take k ls)) (omega (arith, low)) ∙ drop-take r (n - r) ls in
    ap (λ k. take k (levelled r ls)) at
    ∙ (take-append-add (level r (sum (take r ls))) (drop r ls) (n - r) ∙ ap₂ (λ xs ys. level r (sum xs) ++ ys) (sym front) (sym rest))

-- .. with a closing read among them where there was one, ..
pub levelled_front_closing : (r n : ℕ) (ls : List ℕ) → r ≤ n → n ≤ length ls → reads_on (take r ls) ≡ true
    → list_any (λ k. k == 0) (take n (levelled r ls)) ≡ list_any (λ k. k == 0) (take n ls)
levelled_front_closing r n ls low within on =
    let long = length-take-le n ls within in
    ap (list_any (λ k. k == 0)) (levelled_cut r n ls low within)
    ∙ levelled_closing r (take n ls) (omega (arith, long, low)) (ap reads_on (take-take r n ls low) ∙ on)

-- .. and more of them may be given up later
pub levelled_twice : (r n : ℕ) (ls : List ℕ) → r ≤ n → n ≤ length ls → levelled n (levelled r ls) ≡ levelled n ls
levelled_twice r n ls low within = λ i. level n (levelled_front r n ls low within i) ++ levelled_rest r n ls low i

pub levelled_each : (r : ℕ) (ls : List ℕ) → r ≤ length ls → list_all (λ n. nat_le n 2048) ls ≡ true → list_all (λ n. nat_le n 2048) (levelled r ls) ≡ true
levelled_each r ls within each =
    let parts = and_parts (list_all (λ n. nat_le n 2048) (take r ls)) (list_all (λ n. nat_le n 2048) (drop r ls))
    (sym (list_all-append (λ n. nat_le n 2048) (take r ls) (drop r ls)) ∙ (ap (list_all (λ n. nat_le n 2048)) (take-append-drop r ls) ∙ each)) in
    let most = at_most (take r ls) parts.0 in
    let long = length-take-le r ls within in
    list_all-append (λ n. nat_le n 2048) (level r (sum (take r ls))) (drop r ls)
    ∙ ap₂ ◌&&◌ (level_each r (sum (take r ls)) (subst (λ n. sum (take r ls) ≤ 2048 * n) long most)) parts.1

-- level lengths of which the first are given up again
pub level_stays : (low high : Run) (rest : List ℕ) (k : ℕ) → AreLevel low high → k ≤ low.count + high.count
    → lengths_in low ++ (lengths_in high ++ rest) ≡ levelled k (lengths_in low ++ (lengths_in high ++ rest))
level_stays low high rest k a within =
    let front : List ℕ = lengths_in low ++ lengths_in high in
    let next : front ≡ replicate low.count low.length ++ replicate high.count (low.length + 1) = ap (λ n. lengths_in low ++ replicate high.count n) a.next in
    let both_parts = length-append (lengths_in low) (lengths_in high) in
    let one = length-replicate {A = ℕ} low.count low.length in
    let two = length-replicate {A = ℕ} high.count high.length in
    let long : k ≤ length front = omega (arith, both_parts, one, two, within) in
    let same : level k (sum (take k front)) ≡ take k front =
    subst (λ xs. level k (sum (take k xs)) ≡ take k xs) (sym next) (front_level low.count high.count low.length k a.some within) in
    let whole : lengths_in low ++ (lengths_in high ++ rest) ≡ front ++ rest = sym (append_assoc (lengths_in low) (lengths_in high) rest) in
    let cut : take k (front ++ rest) ≡ take k front = take-append-le k front rest long in
    whole ∙ (sym (take-append-drop k (front ++ rest)) ∙ (ap (λ xs. xs ++ drop k (front ++ rest)) (cut ∙ (sym same ∙ ap (λ xs. level k (sum xs)) (sym cut)))
    ∙ ap (levelled k) (sym whole)))

-- what the first reads took: all that is given up, and some of the rest
pub level_total : (low high : Run) (rest : List ℕ) (gone reads bytes took : ℕ) → gone ≡ low.count + high.count → gone ≤ reads → took ≡ sum (take (reads - gone) rest)
    → bytes ≡ low.count * low.length + high.count * high.length → bytes + took ≡ sum (take reads (lengths_in low ++ (lengths_in high ++ rest)))
level_total low high rest gone reads bytes took gone_is within took_is bytes_is =
    let front : List ℕ = lengths_in low ++ lengths_in high in
    let whole : lengths_in low ++ (lengths_in high ++ rest) ≡ front ++ rest = sym (append_assoc (lengths_in low) (lengths_in high) rest) in
    let parts = length-append (lengths_in low) (lengths_in high) in
    let one = length-replicate {A = ℕ} low.count low.length in
    let two = length-replicate {A = ℕ} high.count high.length in
    let at : reads ≡ length front + (reads - gone) = omega (arith, parts, one, two, gone_is, within) in
    let taken : take reads (lengths_in low ++ (lengths_in high ++ rest)) ≡ front ++ take (reads - gone) rest =
    ap (take reads) whole ∙ (ap (λ n. take n (front ++ rest)) at ∙ take-append-add front rest (reads - gone)) in
    let total = ap sum taken ∙ sum_of front (take (reads - gone) rest) in
    let both_sums = sum_of (lengths_in low) (lengths_in high) in
    let l = sum_same low.count low.length in
    let h = sum_same high.count high.length in omega (arith, total, both_sums, l, h, took_is, bytes_is)

pub level_ranges : (whole : List ℕ) (reads total : ℕ) → total ≡ sum (take reads whole) → reads ≤ length whole → reads_on (take reads whole) ≡ true
    → list_all (λ n. nat_le n 2048) whole ≡ true → (reads ≤ total) × (total ≤ 2048 * reads)
level_ranges whole reads total is within on each =
    let long = length-take-le reads whole within in
    let least = at_least (take reads whole) on in
    let front = and_parts (list_all (λ n. nat_le n 2048) (take reads whole)) (list_all (λ n. nat_le n 2048) (drop reads whole))
    (sym (list_all-append (λ n. nat_le n 2048) (take reads whole) (drop reads whole)) ∙ (ap (list_all (λ n. nat_le n 2048)) (take-append-drop reads whole) ∙ each)) in
    let most = at_most (take reads whole) front.0 in
    (omega (arith, is, long, least), omega (arith, is, long, most))

-- .. and those after them too
pub level_more : (low high low_after high_after : Run) (rest after : List ℕ) (gone reads bytes took : ℕ) → gone ≡ low.count + high.count → gone ≤ reads
    → took ≡ sum (take (reads - gone) rest) → bytes ≡ low.count * low.length + high.count * high.length → after ≡ drop (reads - gone) rest
    → lengths_in low_after ++ lengths_in high_after ≡ level reads (bytes + took)
    → lengths_in low_after ++ (lengths_in high_after ++ after) ≡ levelled reads (lengths_in low ++ (lengths_in high ++ rest))
level_more low high low_after high_after rest after gone reads bytes took gone_is within took_is bytes_is after_is level_is =
    let front : List ℕ = lengths_in low ++ lengths_in high in
    let whole : lengths_in low ++ (lengths_in high ++ rest) ≡ front ++ rest = sym (append_assoc (lengths_in low) (lengths_in high) rest) in
    let parts = length-append (lengths_in low) (lengths_in high) in
    let one = length-replicate {A = ℕ} low.count low.length in
    let two = length-replicate {A = ℕ} high.count high.length in
    let at : reads ≡ length front + (reads - gone) = omega (arith, parts, one, two, gone_is, within) in
    let left : drop reads (lengths_in low ++ (lengths_in high ++ rest)) ≡ drop (reads - gone) rest =
    ap (drop reads) whole ∙ (ap (λ n. drop n (front ++ rest)) at ∙ drop-append-add front rest (reads - gone)) in
    sym (append_assoc (lengths_in low_after) (lengths_in high_after) after)
    ∙ ap₂ ◌++◌ (level_is ∙ ap (level reads) (level_total low high rest gone reads bytes took gone_is within took_is bytes_is)) (after_is ∙ sym left)
