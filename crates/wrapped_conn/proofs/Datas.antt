-- Text in Data of 1,460 bytes each but the last.
use Rattle.std.proofs.Common.{◌≡◌, ℕ, zero, suc, ◌+◌, ◌-◌, ◌<◌, ◌≤◌, Bool, true, false, nat_lt, min, refl, sym, ap, ◌∙◌, List, [], ◌∷◌, ◌++◌, length, take, drop, append_assoc, append-nil, length-take, length-drop, arith, add-one}
use Rattle.std.specs.Prelude.{◌&&◌, ◌||◌, map, if◌then◌else◌}
use Rattle.std.proofs.lemmas.List.{drop-drop, take_all, take-append-le}
use Rattle.std.proofs.lemmas.Bool.{false≢true}
use Rattle.ft_io.specs.declared.Key.{Key}
use Rattle.ft_io.proofs.Choices.{by_cases, if_false}
use Rattle.seq_arith.specs.Message.{Body}
use Rattle.seq_arith.specs.Message.Body.{DataMsg}
use Rattle.ft_model.specs.Copy.{datas, batch}
use Rattle.wrapped_conn.specs.ConnState.{ConnState}
use Rattle.wrapped_conn.specs.Numbers.{una_units}
use Rattle.wrapped_conn.specs.LoggerMessages.{spelled, datas_of, in_batch, followed}

-- a Data of a connection
abbrev pub a_data : {S : Type 0} → ConnState S → (offset : ℕ) → List ℕ → (fin more : Bool) → Body
a_data c offset text fin more = DataMsg (record { key = c.key; offset = offset; acked = una_units c; fin = fin; more = more; bytes = text })

then_same : (b : Bool) (x y z : List Body) → (b ≡ true → x ≡ y) → (if b then x else z) ≡ (if b then y else z)
then_same true x y z e = e refl
then_same false x y z e = refl

-- any count above the length does
same_datas : (k m : ℕ) (key : Key) (acked offset : ℕ) (text : List ℕ) (fin : Bool) → length text < k → length text < m → datas k key acked offset text fin ≡ datas m key acked offset text fin
unfolding datas
same_datas zero m key acked offset text fin a b = absurd (omega (arith, a))
same_datas (suc k) zero key acked offset text fin a b = absurd (omega (arith, b))
same_datas (suc k) (suc m) key acked offset text fin a b =
    then_same (nat_lt 1460 (length text)) _ _ _ (λ long. ap (λ xs. DataMsg (record { key = key; offset = offset; acked = acked; fin = false; more = false; bytes = take 1460 text }) ∷ xs)
    (same_datas k m key acked (offset + 1460) (drop 1460 text) fin (grind (arith, length-drop 1460 text, long, a)) (grind (arith, length-drop 1460 text, long, b))))

if_true : (b : Bool) (x y : List Body) → b ≡ true → (if b then x else y) ≡ x
if_true true x y h = refl
if_true false x y h = absurd (false≢true h)

long_first : (k : ℕ) (key : Key) (acked offset : ℕ) (text : List ℕ) (fin : Bool) → 1460 < length text
    → datas (suc k) key acked offset text fin ≡ DataMsg (record { key = key; offset = offset; acked = acked; fin = false; more = false; bytes = take 1460 text }) ∷ datas k key acked (offset + 1460) (drop 1460 text) fin
unfolding datas
long_first k key acked offset text fin long = if_true (nat_lt 1460 (length text)) _ _ (grind (arith, long))

short_last : (k : ℕ) (key : Key) (acked offset : ℕ) (text : List ℕ) (fin : Bool) → length text ≤ 1460
    → datas (suc k) key acked offset text fin ≡ (if nat_lt 0 (length text) || fin then DataMsg (record { key = key; offset = offset; acked = acked; fin = fin; more = false; bytes = text }) ∷ [] else [])
unfolding datas
short_last k key acked offset text fin short = if_false (nat_lt 1460 (length text)) _ _ (grind (arith, short))

-- the first of several
pub first_of_datas : {S : Type 0} (c : ConnState S) (offset : ℕ) (text : List ℕ) (fin : Bool) → 1460 < length text
    → datas_of c offset text fin ≡ a_data c offset (take 1460 text) false false ∷ datas_of c (offset + 1460) (drop 1460 text) fin
first_of_datas c offset text fin long =
    ap (λ k. datas k c.key (una_units c) offset text fin) (add-one (length text))
    ∙ long_first (length text) c.key (una_units c) offset text fin long
    ∙ ap (λ xs. a_data c offset (take 1460 text) false false ∷ xs)
    (same_datas (length text) (length (drop 1460 text) + 1) c.key (una_units c) (offset + 1460) (drop 1460 text) fin (omega (arith, length-drop 1460 text, long)) (omega arith))

-- and the last, if any
pub last_of_datas : {S : Type 0} (c : ConnState S) (offset : ℕ) (text : List ℕ) (fin : Bool) → length text ≤ 1460
    → datas_of c offset text fin ≡ (if nat_lt 0 (length text) || fin then a_data c offset text fin false ∷ [] else [])
last_of_datas c offset text fin short =
    ap (λ k. datas k c.key (una_units c) offset text fin) (add-one (length text)) ∙ short_last (length text) c.key (una_units c) offset text fin short

-- whether there is one
or_fin : (a fin : Bool) → fin ≡ true → (a || fin) ≡ true
or_fin true fin h = refl
or_fin false fin h = h

pub some_text : (n : ℕ) (fin : Bool) → 0 < n → (nat_lt 0 n || fin) ≡ true
some_text n fin h = let some : nat_lt 0 n ≡ true = grind (arith, h) in ap (λ b. b || fin) some

pub some_fin : (n : ℕ) (fin : Bool) → fin ≡ true → (nat_lt 0 n || fin) ≡ true
some_fin n fin h = or_fin (nat_lt 0 n) fin h

pub no_more : (n : ℕ) (fin : Bool) → n ≤ 0 → fin ≡ false → (nat_lt 0 n || fin) ≡ false
no_more n fin h e = let none : nat_lt 0 n ≡ false = grind (arith, h) in ap (λ b. b || fin) none ∙ e

-- whether there are any
abbrev pub has_some : List Body → Bool
has_some [] = false
has_some (body ∷ bodies) = true

some_if : (b : Bool) (body : Body) → has_some (if b then body ∷ [] else []) ≡ b
some_if true body = refl
some_if false body = refl

pub datas_has : {S : Type 0} (c : ConnState S) (offset : ℕ) (text : List ℕ) (fin : Bool) → has_some (datas_of c offset text fin) ≡ (nat_lt 0 (length text) || fin)
datas_has c offset text fin =
    by_cases (nat_lt 1460 (length text))
    (λ long. ap has_some (first_of_datas c offset text fin (grind (arith, long))) ∙ sym (some_text (length text) fin (grind (arith, long))))
    (λ short. ap has_some (last_of_datas c offset text fin (grind (arith, short))) ∙ some_if (nat_lt 0 (length text) || fin) (a_data c offset text fin false))

-- a batch from its first Data on ..
batch_first : (batches : Bool) (body : Body) (others : List Body) → has_some others ≡ true → in_batch batches (body ∷ others) ≡ followed batches body ∷ in_batch batches others
unfolding batch
batch_first false body others some = refl
batch_first true body [] some = absurd (false≢true some)
batch_first true body (other ∷ others) some = refl

batch_last : (batches b : Bool) (body : Body) → in_batch batches (if b then body ∷ [] else []) ≡ (if b then body ∷ [] else [])
unfolding batch
batch_last false b body = refl
batch_last true true body = refl
batch_last true false body = refl

-- .. or after one that comes before
pub batch_behind : (batches b : Bool) (own : Body) (others : List Body)
    → in_batch batches ((if b then own ∷ [] else []) ++ others) ≡ map (followed (batches && has_some others)) (if b then own ∷ [] else []) ++ in_batch batches others
unfolding batch
batch_behind false false own others = refl
batch_behind true false own others = refl
batch_behind false true own others = refl
batch_behind true true own [] = refl
batch_behind true true own (other ∷ others) = refl

followed_data : {S : Type 0} (c : ConnState S) (batches : Bool) (offset : ℕ) (text : List ℕ) → followed batches (a_data c offset text false false) ≡ a_data c offset text false batches
followed_data c true offset text = refl
followed_data c false offset text = refl

first_in_batch : {S : Type 0} (c : ConnState S) (offset : ℕ) (text : List ℕ) (fin : Bool) → 1460 < length text
    → in_batch c.batches (datas_of c offset text fin) ≡ a_data c offset (take 1460 text) false c.batches ∷ in_batch c.batches (datas_of c (offset + 1460) (drop 1460 text) fin)
first_in_batch c offset text fin long =
    let rest : List Body = datas_of c (offset + 1460) (drop 1460 text) fin in
    let some : has_some rest ≡ true = datas_has c (offset + 1460) (drop 1460 text) fin ∙ some_text (length (drop 1460 text)) fin (omega (arith, length-drop 1460 text, long)) in
    ap (in_batch c.batches) (first_of_datas c offset text fin long)
    ∙ batch_first c.batches (a_data c offset (take 1460 text) false false) rest some
    ∙ ap (λ x. x ∷ in_batch c.batches rest) (followed_data c c.batches offset (take 1460 text))

last_in_batch : {S : Type 0} (c : ConnState S) (offset : ℕ) (text : List ℕ) (fin : Bool) → length text ≤ 1460
    → in_batch c.batches (datas_of c offset text fin) ≡ (if nat_lt 0 (length text) || fin then a_data c offset text fin false ∷ [] else [])
last_in_batch c offset text fin short =
    ap (in_batch c.batches) (last_of_datas c offset text fin short) ∙ batch_last c.batches (nat_lt 0 (length text) || fin) (a_data c offset text fin false)

-- these Data of a connection, as a batch and as bytes
abbrev pub reported_of : {S : Type 0} → ConnState S → (offset : ℕ) → List ℕ → Bool → List (List ℕ)
reported_of c offset text fin = spelled c.batches c.boot (in_batch c.batches (datas_of c offset text fin))

-- one Data more has gone out
piece_at : {S : Type 0} (c : ConnState S) (offset from : ℕ) (text : List ℕ) (fin : Bool) (out new all : List (List ℕ)) → 1460 < length (drop from text)
    → new ≡ out ++ spelled c.batches c.boot (a_data c offset (take 1460 (drop from text)) false c.batches ∷ []) → out ++ reported_of c offset (drop from text) fin ≡ all
    → new ++ reported_of c (offset + 1460) (drop (from + 1460) text) fin ≡ all
piece_at c offset from text fin out new all long is before =
    ap (λ xs. xs ++ reported_of c (offset + 1460) (drop (from + 1460) text) fin) is
    ∙ append_assoc out _ _
    ∙ ap (λ xs. out ++ spelled c.batches c.boot (a_data c offset (take 1460 (drop from text)) false c.batches ∷ in_batch c.batches (datas_of c (offset + 1460) xs fin))) (sym (drop-drop 1460 from text))
    ∙ ap (λ xs. out ++ spelled c.batches c.boot xs) (sym (first_in_batch c offset (drop from text) fin long))
    ∙ before

further_on : (a b : ℕ) → a + (b + 1460) ≡ a + b + 1460
further_on a b = omega arith

pub piece_reported : {S : Type 0} (c : ConnState S) (start from reported : ℕ) (text : List ℕ) (fin : Bool) (out new all : List (List ℕ)) → 1460 < length (drop (from + reported) text)
    → new ≡ out ++ spelled c.batches c.boot (a_data c (start + reported) (take 1460 (drop (from + reported) text)) false c.batches ∷ [])
    → out ++ reported_of c (start + reported) (drop (from + reported) text) fin ≡ all
    → new ++ reported_of c (start + (reported + 1460)) (drop (from + (reported + 1460)) text) fin ≡ all
piece_reported c start from reported text fin out new all long is before =
    (λ j. new ++ reported_of c (further_on start reported j) (drop (further_on from reported j) text) fin)
    ∙ piece_at c (start + reported) (from + reported) text fin out new all long is before

-- the last one has gone out, ..
pub last_reported : {S : Type 0} (c : ConnState S) (offset : ℕ) (rest : List ℕ) (fin : Bool) (out new all : List (List ℕ)) → length rest ≤ 1460 → (nat_lt 0 (length rest) || fin) ≡ true
    → new ≡ out ++ spelled c.batches c.boot (a_data c offset (take 1460 rest) fin false ∷ []) → out ++ reported_of c offset rest fin ≡ all → new ≡ all
last_reported c offset rest fin out new all short some is before =
    is ∙ ap (λ xs. out ++ spelled c.batches c.boot (a_data c offset xs fin false ∷ [])) (take_all 1460 rest short)
    ∙ ap (λ xs. out ++ spelled c.batches c.boot xs) (sym (last_in_batch c offset rest fin short ∙ if_true (nat_lt 0 (length rest) || fin) _ _ some)) ∙ before

-- .. or there is none
pub none_left : {S : Type 0} (c : ConnState S) (offset : ℕ) (rest : List ℕ) (fin : Bool) (out all : List (List ℕ)) → length rest ≤ 1460 → (nat_lt 0 (length rest) || fin) ≡ false
    → out ++ reported_of c offset rest fin ≡ all → out ≡ all
none_left c offset rest fin out all short none before =
    sym (append-nil out)
    ∙ ap (λ xs. out ++ spelled c.batches c.boot xs) (sym (last_in_batch c offset rest fin short ∙ if_false (nat_lt 0 (length rest) || fin) (a_data c offset rest fin false ∷ []) [] none)) ∙ before

-- the bytes that a look at the unread ones has given
take_least : (xs : List ℕ) (n : ℕ) → n ≡ min (length xs) 1460 → take n xs ≡ take 1460 xs
take_least xs n is =
    by_cases (nat_lt (length xs) 1460)
    (λ few. take_all n xs (grind (arith, is, few)) ∙ sym (take_all 1460 xs (grind (arith, few))))
    (λ many. let same : n ≡ 1460 = grind (arith, is, many) in ap (λ k. take k xs) same)

pub peeked : (text seen old new : List ℕ) (from count most : ℕ) → seen ≡ text → most ≡ 1460 → count ≡ min (length seen - from) most → new ≡ take count (drop from seen) ++ drop count old
    → take count new ≡ take 1460 (drop from text)
peeked text seen old new from count most same whole is filled =
    let front : List ℕ = take count (drop from seen) in
    let size : length front ≡ count = omega (arith, length-take count (drop from seen), length-drop from seen, is) in
    ap (take count) filled ∙ take-append-le count front (drop count old) (omega (arith, size)) ∙ take_all count front (omega (arith, size))
    ∙ take_least (drop from seen) count (omega (arith, is, whole, length-drop from seen)) ∙ ap (λ xs. take 1460 (drop from xs)) same
