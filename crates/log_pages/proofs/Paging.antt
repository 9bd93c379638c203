-- Pages of a stream.
use Rattle.std.proofs.Common.{◌≡◌, ◌∙◌, ℕ, zero, suc, ◌+◌, ◌*◌, ◌-◌, ◌/◌, ◌%◌, ◌<◌, ◌≤◌, refl, sym, ap, subst, arith, List, [], ◌∷◌, ◌++◌, length, take, drop, get_or, min, append_assoc, append-nil, inl, inr}
use Rattle.std.specs.Prelude.{Option, None, Some, unwrap_or, slice_index, IfSome}
use Rattle.std.specs.List.{flat_map, All}
use Rattle.std.proofs.lemmas.List.{length-take, length-drop, take_all, drop_all, take-take, take_min, drop_at, drop-drop, take-append-drop, take-append-le, get_or-take, get_or-drop}
use Rattle.std.proofs.Math.Seq.{drop-append-add, take-append_seam, take-append-add, take-length}
use Rattle.std.proofs.lemmas.Bool.{cases_lt}
use Rattle.log_pages.specs.Pages.{IsFull, IsLast, page_of}
use Rattle.log_pages.proofs.Filling.{length_full, length_is, rest}

-- after a full page the pages count on
next_page : (p ys : List ℕ) (i : ℕ) → IsFull p → page_of (p ++ ys) (suc i) ≡ page_of ys i
next_page p ys i full =
    let at : 4096 * suc i ≡ length p + 4096 * i = omega arith in
    ap (take 4096) (ap (λ n. drop n (p ++ ys)) at ∙ drop-append-add p ys (4096 * i))

first_page : (p ys : List ℕ) → IsFull p → p ≡ page_of (p ++ ys) 0
first_page p ys full = sym (take-append_seam p ys) ∙ ap (λ n. take n (p ++ ys)) full

-- a full page
pub full_page : (pages : List (List ℕ)) (behind : List ℕ) (i : ℕ) (page d : List ℕ) → All IsFull pages → i < length pages → page ≡ get_or pages i d
    → page ≡ page_of (flat_map (λ p. p) pages ++ behind) i
full_page [] behind i page d h there at = absurd (omega (arith, there))
full_page (p ∷ ps) behind zero page d h there at =
    at ∙ (first_page p (flat_map (λ q. q) ps ++ behind) (h 0 p (omega arith)) ∙ ap (λ xs. page_of xs 0) (sym (append_assoc p (flat_map (λ q. q) ps) behind)))
full_page (p ∷ ps) behind (suc i) page d h there at =
    full_page ps behind i page d (rest IsFull p ps h) (omega (arith, there)) at
    ∙ (sym (next_page p (flat_map (λ q. q) ps ++ behind) i (h 0 p (omega arith))) ∙ ap (λ xs. page_of xs (suc i)) (sym (append_assoc p (flat_map (λ q. q) ps) behind)))

-- the page of the last byte
pub last_page : (pages : List (List ℕ)) (page : List ℕ) (i : ℕ) → All IsFull pages → length page ≤ 4096 → i ≡ length pages
    → page ≡ page_of (flat_map (λ p. p) pages ++ page) i
last_page pages page i h within at =
    let there : length (flat_map (λ p. p) pages) ≡ 4096 * i = length_full pages h ∙ ap (λ n. 4096 * n) (sym at) in
    sym (ap (take 4096) (drop_at (flat_map (λ p. p) pages) page (4096 * i) there) ∙ take_all 4096 page within)

-- after the last byte there is no page
pub no_page : (bytes : List ℕ) (i : ℕ) → length bytes ≤ 4096 * i → [] ≡ page_of bytes i
no_page bytes i behind = sym (ap (take 4096) (drop_all (4096 * i) bytes behind))

pub none_behind : (pages : List (List ℕ)) (last : Option (List ℕ)) (i : ℕ) → All IsFull pages → IfSome last IsLast → length pages < i
    → [] ≡ page_of (flat_map (λ p. p) pages ++ unwrap_or last []) i
none_behind pages None i h l behind = no_page _ i (subst (λ n. n ≤ 4096 * i) (sym (length_is pages None h)) (omega arith))
none_behind pages (Some p) i h l behind =
    no_page _ i (subst (λ n. n ≤ 4096 * i) (sym (length_is pages (Some p) h)) (omega (arith, l.within)))

-- a byte's page has it
pub byte_there : (bytes : List ℕ) (at : ℕ) → at < length bytes → at % 4096 < length (page_of bytes (at / 4096))
byte_there bytes at h =
    subst (λ n. at % 4096 < n) (sym (length-take 4096 (drop (4096 * (at / 4096)) bytes)))
    (subst (λ n. at % 4096 < min 4096 n) (sym (length-drop (4096 * (at / 4096)) bytes)) (omega arith))

pub byte_in_page : (bytes : List ℕ) (at : ℕ) → slice_index (page_of bytes (at / 4096)) (at % 4096) ≡ slice_index bytes at
byte_in_page bytes at =
    let from : 4096 * (at / 4096) + at % 4096 ≡ at = omega arith in
    get_or-take 4096 (drop (4096 * (at / 4096)) bytes) (at % 4096) 0 (omega arith)
    ∙ (get_or-drop (4096 * (at / 4096)) bytes (at % 4096) 0 ∙ ap (λ n. slice_index bytes n) from)

-- the front of a list in two pieces
split_front : (n : ℕ) (xs ys : List ℕ) → take n (xs ++ ys) ≡ take (min (length xs) n) xs ++ take (n - min (length xs) n) ys
split_front n xs ys = elim (cases_lt n (length xs)) [ inl short ↦ inside short | inr long ↦ beyond long ]
  where
    none_left : (n m : ℕ) → n < m → n - min m n ≡ 0
    none_left n m h = omega (arith, h)

    whole : (n m : ℕ) → n < m → min m n ≡ n
    whole n m h = omega (arith, h)

    inside : n < length xs → take n (xs ++ ys) ≡ take (min (length xs) n) xs ++ take (n - min (length xs) n) ys
    inside h = take-append-le n xs ys (omega (arith, h))
        ∙ (sym (append-nil (take n xs)) ∙ (λ i. take (sym (whole n (length xs) h) i) xs ++ take (sym (none_left n (length xs) h) i) ys))

    least : (n m : ℕ) → m ≤ n → min m n ≡ m
    least n m h = omega (arith, h)

    left : (n m : ℕ) → m ≤ n → m + (n - m) ≡ n
    left n m h = omega (arith, h)

    beyond : length xs ≤ n → take n (xs ++ ys) ≡ take (min (length xs) n) xs ++ take (n - min (length xs) n) ys
    beyond h = ap (λ k. take k (xs ++ ys)) (sym (left n (length xs) h))
        ∙ (take-append-add xs ys (n - length xs)
        ∙ (ap (λ zs. zs ++ take (n - length xs) ys) (sym (take-length xs))
        ∙ ap (λ k. take k xs ++ take (n - k) ys) (sym (least n (length xs) h))))

-- what comes after a place in the first n elements goes on after them
behind : (n r : ℕ) (xs : List ℕ) → r ≤ n → drop r xs ≡ drop r (take n xs) ++ drop n xs
behind n zero xs h = sym (take-append-drop n xs)
behind zero (suc r) xs h = absurd (omega (arith, h))
behind (suc n) (suc r) [] h = refl
behind (suc n) (suc r) (x ∷ xs) h = behind n r xs (omega (arith, h))

-- a front of a front
front_of_page : (n m : ℕ) (xs : List ℕ) → n ≤ m → take (min (length (take m xs)) n) (take m xs) ≡ take n xs
front_of_page n m xs h =
    ap (λ k. take k (take m xs)) (min_comm (length (take m xs)) n) ∙ (take_min n (take m xs) ∙ take-take n m xs h)
  where
    min_comm : (a b : ℕ) → min a b ≡ min b a
    min_comm a b = omega arith

two_pages : (xs page : List ℕ) (r count : ℕ) → r ≤ 4096 → page ≡ drop r (take 4096 xs) → count ≡ min (length page) 1024
    → take count page ++ take (min (length (take 4096 (drop 4096 xs))) (1024 - count)) (take 4096 (drop 4096 xs)) ≡ take 1024 (drop r xs)
two_pages xs page r count h is counted =
    ap (λ ys. take count page ++ ys) (front_of_page (1024 - count) 4096 (drop 4096 xs) (omega arith))
    ∙ (ap (λ n. take n page ++ take (1024 - n) (drop 4096 xs)) counted
    ∙ (sym (split_front 1024 page (drop 4096 xs))
    ∙ ap (take 1024) (ap (λ ys. ys ++ drop 4096 xs) is ∙ sym (behind 4096 r xs h))))

-- what a part is: the rest of a page, and the front of the next one
pub part_copied : (bytes page next : List ℕ) (from count more : ℕ) → page ≡ drop (from % 4096) (page_of bytes (from / 4096))
    → next ≡ page_of bytes (from / 4096 + 1) → count ≡ min (length page) 1024 → more ≡ min (length next) (1024 - count)
    → take count page ++ take more next ≡ take 1024 (drop from bytes)
part_copied bytes page next from count more is follows counted rest =
    let k : ℕ = from / 4096 in
    let xs : List ℕ = drop (4096 * k) bytes in
    let after : next ≡ take 4096 (drop 4096 xs) =
    follows ∙ ap (take 4096) (ap (λ n. drop n bytes) (next_place k) ∙ sym (drop-drop 4096 (4096 * k) bytes)) in
    let place : drop (from % 4096) xs ≡ drop from bytes = drop-drop (from % 4096) (4096 * k) bytes ∙ ap (λ n. drop n bytes) (from_place from) in
    ap (λ n. take count page ++ take n next) rest
    ∙ (ap (λ ys. take count page ++ take (min (length ys) (1024 - count)) ys) after
    ∙ (two_pages xs page (from % 4096) count (omega arith) is counted ∙ ap (take 1024) place))
  where
    next_place : (k : ℕ) → 4096 * (k + 1) ≡ 4096 * k + 4096
    next_place k = omega arith

    from_place : (from : ℕ) → 4096 * (from / 4096) + from % 4096 ≡ from
    from_place from = omega arith
