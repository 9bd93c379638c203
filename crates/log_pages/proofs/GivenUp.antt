-- Pages that were given up: zeros in front of those that are kept.
use Rattle.std.proofs.Common.{◌≡◌, ◌∙◌, ℕ, ◌+◌, ◌*◌, ◌-◌, ◌%◌, ◌<◌, ◌≤◌, refl, sym, ap, subst, arith, List, [], ◌∷◌, ◌++◌, length, take, drop, replicate, append_assoc, get_or, inl, inr, true, true≢false}
use Rattle.std.specs.Prelude.{Option, None, Some, unwrap_or, IfSome, is_some, option_to_list}
use Rattle.std.specs.List.{flat_map, All}
use Rattle.std.proofs.lemmas.List.{length-append, length-drop, length-replicate, take-append-le, drop-replicate, take-replicate, drop_all, drop_at, drop-drop, drop-append-le, replicate-append-replicate}
use Rattle.std.proofs.Math.Seq.{drop-append-add}
use Rattle.std.proofs.lemmas.Bool.{cases_lt}
use Rattle.log_pages.specs.Pages.{IsFull, IsLast, kept, page_of, room_after, zeroed}
use Rattle.log_pages.proofs.Filling.{length_is, room_is, room_of, rest}
use Rattle.log_pages.proofs.Paging.{last_page, none_behind, full_page}

-- the length, with what was given up
pub all_length : (gone : ℕ) (pages : List (List ℕ)) (last : Option (List ℕ)) → All IsFull pages
    → length (replicate (4096 * gone) 0 ++ kept pages last) ≡ 4096 * (gone + length pages) + length (unwrap_or last [])
all_length gone pages last h =
    let both = length-append (replicate (4096 * gone) 0) (kept pages last) in
    let front = length-replicate {A = ℕ} (4096 * gone) 0 in
    let rest = length_is pages last h in omega (arith, both, front, rest)

-- zeros in whole pages leave the room of the last page
pub same_room : (gone : ℕ) (xs : List ℕ) → room_after (length (replicate (4096 * gone) 0 ++ xs)) ≡ room_after (length xs)
same_room gone xs =
    ap room_after (length-append (replicate (4096 * gone) 0) xs ∙ ap (λ n. n + length xs) (length-replicate {A = ℕ} (4096 * gone) 0)) ∙ by gone (length xs)
  where
    by : (k n : ℕ) → (4096 - (4096 * k + n) % 4096) % 4096 ≡ (4096 - n % 4096) % 4096
    by k n = omega arith

pub room_kept : (gone : ℕ) (pages : List (List ℕ)) (last : Option (List ℕ)) → All IsFull pages → IfSome last IsLast
    → room_after (length (replicate (4096 * gone) 0 ++ kept pages last)) ≡ room_of last
room_kept gone pages last h l = same_room gone (kept pages last) ∙ room_is pages last h l

-- the pages after them count from there
pub page_kept : (gone i : ℕ) (xs : List ℕ) → gone ≤ i → page_of (replicate (4096 * gone) 0 ++ xs) i ≡ page_of xs (i - gone)
page_kept gone i xs h =
    let long = length-replicate {A = ℕ} (4096 * gone) 0 in
    let at : 4096 * i ≡ length (replicate (4096 * gone) 0) + 4096 * (i - gone) = omega (arith, long, h) in
    ap (take 4096) (ap (λ n. drop n (replicate (4096 * gone) 0 ++ xs)) at ∙ drop-append-add (replicate (4096 * gone) 0) xs (4096 * (i - gone)))

pub zero_page : (gone i : ℕ) (xs : List ℕ) → i < gone → replicate 4096 0 ≡ page_of (replicate (4096 * gone) 0 ++ xs) i
zero_page gone i xs h =
    let long = length-replicate {A = ℕ} (4096 * gone) 0 in
    let left = length-replicate {A = ℕ} (4096 * gone - 4096 * i) 0 in
    sym (ap (take 4096) (drop-append-le (4096 * i) (replicate (4096 * gone) 0) xs (omega (arith, long, h)) ∙ ap (λ zs. zs ++ xs) (drop-replicate (4096 * i) (4096 * gone) 0))
    ∙ (take-append-le 4096 (replicate (4096 * gone - 4096 * i) 0) xs (omega (arith, left, h)) ∙ take-replicate 4096 (4096 * gone - 4096 * i) 0 (omega (arith, h))))

pub last_kept : (gone i : ℕ) (pages : List (List ℕ)) (page : List ℕ) → All IsFull pages → length page ≤ 4096 → gone ≤ i → i - gone ≡ length pages
    → page ≡ page_of (replicate (4096 * gone) 0 ++ (flat_map (λ p. p) pages ++ page)) i
last_kept gone i pages page h within low at =
    last_page pages page (i - gone) h within at ∙ sym (page_kept gone i (flat_map (λ p. p) pages ++ page) low)

pub none_kept : (gone i : ℕ) (pages : List (List ℕ)) (last : Option (List ℕ)) → All IsFull pages → IfSome last IsLast → gone ≤ i → length pages < i - gone
    → [] ≡ page_of (replicate (4096 * gone) 0 ++ kept pages last) i
none_kept gone i pages last h l low behind =
    none_behind pages last (i - gone) h l behind ∙ sym (page_kept gone i (kept pages last) low)

pub full_kept : (gone i place : ℕ) (pages : List (List ℕ)) (behind page d : List ℕ) → All IsFull pages → gone ≤ i → place ≡ i - gone → place < length pages
    → page ≡ get_or pages place d → page ≡ page_of (replicate (4096 * gone) 0 ++ (flat_map (λ p. p) pages ++ behind)) i
full_kept gone i place pages behind page d h low is there at =
    full_page pages behind place page d h there at
    ∙ (ap (page_of (flat_map (λ p. p) pages ++ behind)) is ∙ sym (page_kept gone i (flat_map (λ p. p) pages ++ behind) low))

-- a page less in front
pub first_dropped : (p : List ℕ) (pages : List (List ℕ)) (last : Option (List ℕ)) → All IsFull (p ∷ pages) → kept pages last ≡ drop 4096 (kept (p ∷ pages) last)
first_dropped p pages last h =
    let one : length p ≡ 4096 = h 0 p (omega arith) in
    sym (ap (drop 4096) (append_assoc p (flat_map (λ q. q) pages) (unwrap_or last [])) ∙ drop_at p (kept pages last) 4096 one)

pub last_dropped : (last : Option (List ℕ)) → IfSome last IsLast → 4096 ≤ length (kept [] last) → [] ≡ drop 4096 (kept [] last)
last_dropped None l h = refl
last_dropped (Some p) l h = sym (drop_all 4096 p l.within)

-- pages given up one after another
pub one_more_dropped : (k : ℕ) (xs ys zs : List ℕ) → ys ≡ drop (4096 * k) xs → zs ≡ drop 4096 ys → zs ≡ drop (4096 * (k + 1)) xs
one_more_dropped k xs ys zs is more =
    more ∙ (ap (drop 4096) is ∙ (drop-drop 4096 (4096 * k) xs ∙ ap (λ n. drop n xs) (by k)))
  where
    by : (k : ℕ) → 4096 * k + 4096 ≡ 4096 * (k + 1)
    by k = omega arith

-- what is zero after pages were given up
pub zeroed_is : (gone pages : ℕ) (xs ys : List ℕ) → ys ≡ drop (4096 * (pages - gone)) xs
    → replicate (4096 * (gone + (pages - gone))) 0 ++ ys ≡ zeroed (4096 * pages) (replicate (4096 * gone) 0 ++ xs)
zeroed_is gone pages xs ys is = elim (cases_lt gone pages) [ inl more ↦ beyond more | inr none ↦ before none ]
  where
    long : length (replicate {A = ℕ} (4096 * gone) 0) ≡ 4096 * gone
    long = length-replicate {A = ℕ} (4096 * gone) 0

    beyond : gone < pages → replicate (4096 * (gone + (pages - gone))) 0 ++ ys ≡ zeroed (4096 * pages) (replicate (4096 * gone) 0 ++ xs)
    beyond h =
        let count : 4096 * (gone + (pages - gone)) ≡ 4096 * pages = omega (arith, h) in
        let at : 4096 * pages ≡ length (replicate {A = ℕ} (4096 * gone) 0) + 4096 * (pages - gone) = omega (arith, long, h) in
        ap (λ n. replicate n 0 ++ ys) count
        ∙ ap (λ l. replicate (4096 * pages) 0 ++ l)
        (is ∙ sym (ap (λ n. drop n (replicate (4096 * gone) 0 ++ xs)) at ∙ drop-append-add (replicate (4096 * gone) 0) xs (4096 * (pages - gone))))

    before : pages ≤ gone → replicate (4096 * (gone + (pages - gone))) 0 ++ ys ≡ zeroed (4096 * pages) (replicate (4096 * gone) 0 ++ xs)
    before h =
        let count : 4096 * (gone + (pages - gone)) ≡ 4096 * gone = omega (arith, h) in
        let none : 4096 * (pages - gone) ≡ 0 = omega (arith, h) in
        let parts : 4096 * pages + (4096 * gone - 4096 * pages) ≡ 4096 * gone = omega (arith, h) in
        let cut : drop (4096 * pages) (replicate (4096 * gone) 0 ++ xs) ≡ replicate (4096 * gone - 4096 * pages) 0 ++ xs =
        drop-append-le (4096 * pages) (replicate (4096 * gone) 0) xs (omega (arith, long, h)) ∙ ap (λ zs. zs ++ xs) (drop-replicate (4096 * pages) (4096 * gone) 0) in
        ap (λ n. replicate n 0 ++ ys) count
        ∙ (ap (λ l. replicate (4096 * gone) 0 ++ l) (is ∙ ap (λ n. drop n xs) none)
        ∙ sym (ap (λ l. replicate (4096 * pages) 0 ++ l) cut
        ∙ (sym (append_assoc (replicate (4096 * pages) 0) (replicate (4096 * gone - 4096 * pages) 0) xs)
        ∙ ap (λ l. l ++ xs) (replicate-append-replicate (4096 * pages) (4096 * gone - 4096 * pages) 0 ∙ ap (λ n. replicate n 0) parts))))

-- .. where there was one
pub popped_first : (before after : List (List ℕ)) (popped : Option (List ℕ)) (last : Option (List ℕ)) → All IsFull before
    → before ≡ option_to_list popped ++ after → is_some popped ≡ true
    → (kept after last ≡ drop 4096 (kept before last)) × All IsFull after
popped_first before after None last h is some = absurd (true≢false (sym some))
popped_first before after (Some p) last h is some =
    let all : All IsFull (p ∷ after) = subst (All IsFull) is h in
    (first_dropped p after last all ∙ ap (λ ps. drop 4096 (kept ps last)) (sym is), rest IsFull p after all)

pub drops_on : (k count : ℕ) (xs ys : List ℕ) → 4096 * count ≤ length xs → k < count → ys ≡ drop (4096 * k) xs → 4096 ≤ length ys
drops_on k count xs ys there more is =
    let left : length ys ≡ length xs - 4096 * k = ap length is ∙ length-drop (4096 * k) xs in omega (arith, left, there, more)
