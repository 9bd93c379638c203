-- What a store that has given up fronts is left of a log: it takes each message as the log does, and answers alike where it isn't asked for what is trimmed.
use Rattle.std.proofs.Common.{◌≡◌, ◌∙◌, ℕ, zero, suc, ◌+◌, ◌-◌, ◌≤◌, ◌==◌, ◌&&◌, ◌||◌, not, nat_lt, nat_le, sum, Bool, true, false, refl, sym, ap, subst, arith, List, [], ◌∷◌, ◌++◌, length, take, drop, replicate, append_assoc, max, if◌then◌else◌}
use Rattle.std.specs.List.{list_any}
use Rattle.std.proofs.lemmas.List.{take-append-le, length-append, length-replicate, length-drop, drop-append-le, drop-drop}
use Rattle.std.proofs.Math.Seq.{drop-append-add}
use Rattle.seq_arith.specs.Message.{Part}
use Rattle.ft_model.specs.Log.{Entry, with_bytes, with_its_fin, with_part, with_read, is_next_read}
use Rattle.ft_model.proofs.Services.{sum_more}
use Rattle.log_pages.specs.Pages.{pages, zeroed, levelled, reads_on, without}
use Rattle.logger_store.specs.StoreState.{acknowledging}
use Rattle.logger_store.specs.Trim.{IsLeft}
use Rattle.logger_store.specs.declared.trimming.Trim.{Trim}
use Rattle.log_pages.proofs.Levels.{levelled_count, levelled_sum, levelled_closing, levelled_more, levelled_twice}

pub low : (b n : ℕ) → b ≤ n → pages b ≤ n
low b n h = omega (arith, h)

-- zeros in place of a front leave the length, ..
pub same_length : (n : ℕ) (xs : List ℕ) → n ≤ length xs → length (zeroed n xs) ≡ length xs
same_length n xs h =
    let both = length-append (replicate n 0) (drop n xs) in
    let front = length-replicate {A = ℕ} n 0 in
    let rest = length-drop n xs in omega (arith, both, front, rest, h)

-- .. what is added after, ..
pub more_behind : (n : ℕ) (xs ys : List ℕ) → n ≤ length xs → zeroed n xs ++ ys ≡ zeroed n (xs ++ ys)
more_behind n xs ys h = append_assoc (replicate n 0) (drop n xs) ys ∙ ap (λ l. replicate n 0 ++ l) (sym (drop-append-le n xs ys h))

-- .. and what stands past it
pub same_rest : (n at : ℕ) (xs : List ℕ) → n ≤ at → drop at (zeroed n xs) ≡ drop at xs
same_rest n at xs h =
    let long = length-replicate {A = ℕ} n 0 in
    let place : at ≡ length (replicate {A = ℕ} n 0) + (at - n) = omega (arith, long, h) in
    let back : n + (at - n) ≡ at = omega (arith, h) in
    ap (λ k. drop k (zeroed n xs)) place
    ∙ (drop-append-add (replicate n 0) (drop n xs) (at - n) ∙ (drop-drop (at - n) n xs ∙ ap (λ k. drop k xs) back))

either : {A : Type 0} (c d : Bool) (x y u v : A) → c ≡ d → x ≡ u → y ≡ v → (if c then x else y) ≡ (if d then u else v)
either c d x y u v e p q = λ i. if e i then p i else q i

without_if : (b r : ℕ) (c : Bool) (x y : Entry) → (if c then without b r x else without b r y) ≡ without b r (if c then x else y)
without_if b r true x y = refl
without_if b r false x y = refl

bytes_commute : (b r : ℕ) (part : Part) (e : Entry) → b ≤ length e.bytes → with_bytes part (without b r e) ≡ without b r (with_bytes part e)
bytes_commute b r part e h =
    let n : pages b ≤ length e.bytes = low b (length e.bytes) h in
    let size : length (zeroed (pages b) e.bytes) ≡ length e.bytes = same_length (pages b) e.bytes n in
    let grown : Entry = record e { bytes = e.bytes ++ drop (length e.bytes - part.offset) part.bytes } in
    let plain : Entry = without b r e in
    either (e.fin || nat_lt (length (zeroed (pages b) e.bytes)) part.offset) (e.fin || nat_lt (length e.bytes) part.offset) (without b r e)
    (record (without b r e) { bytes = zeroed (pages b) e.bytes ++ drop (length (zeroed (pages b) e.bytes) - part.offset) part.bytes }) (without b r e) (without b r grown)
    (ap (λ k. e.fin || nat_lt k part.offset) size) refl
    (ap (λ l. let x : Entry = record plain { bytes = l } in x)
    (ap (λ k. zeroed (pages b) e.bytes ++ drop (k - part.offset) part.bytes) size ∙ more_behind (pages b) e.bytes (drop (length e.bytes - part.offset) part.bytes) n))
    ∙ without_if b r (e.fin || nat_lt (length e.bytes) part.offset) e grown

grown_length : (part : Part) (e : Entry) → length e.bytes ≤ length (with_bytes part e).bytes
grown_length part e = by (e.fin || nat_lt (length e.bytes) part.offset)
  where
    by : (c : Bool)
        → length e.bytes ≤ length (let x : Entry = (if c then e else record e { bytes = e.bytes ++ drop (length e.bytes - part.offset) part.bytes }) in x).bytes
    by true = omega arith
    by false = let more = length-append e.bytes (drop (length e.bytes - part.offset) part.bytes) in omega (arith, more)

fin_commute : (b r : ℕ) (part : Part) (e : Entry) → b ≤ length e.bytes → with_its_fin part (without b r e) ≡ without b r (with_its_fin part e)
fin_commute b r part e h =
    let size : length (zeroed (pages b) e.bytes) ≡ length e.bytes = same_length (pages b) e.bytes (low b (length e.bytes) h) in
    let ended : Entry = record e { fin = true } in
    ap (λ k. if part.fin && part.offset + length part.bytes == k then without b r ended else without b r e) size
    ∙ without_if b r (part.fin && part.offset + length part.bytes == length e.bytes) ended e

fin_length : (part : Part) (e : Entry) → length (with_its_fin part e).bytes ≡ length e.bytes
fin_length part e = by (part.fin && part.offset + length part.bytes == length e.bytes)
  where
    by : (c : Bool) → length (let x : Entry = (if c then record e { fin = true } else e) in x).bytes ≡ length e.bytes
    by true = refl
    by false = refl

part_commute : (b r : ℕ) (part : Part) (e : Entry) → b ≤ length e.bytes → with_part part (without b r e) ≡ without b r (with_part part e)
part_commute b r part e h =
    let grown = grown_length part e in
    let both : with_its_fin part (with_bytes part (without b r e)) ≡ without b r (with_its_fin part (with_bytes part e)) =
    ap (with_its_fin part) (bytes_commute b r part e h) ∙ fin_commute b r part (with_bytes part e) (omega (arith, grown, h)) in
    ap (λ x. let y : Entry = record x { acknowledged = max e.acknowledged part.acked } in y) both

bytes_lengths : (part : Part) (e : Entry) → (with_bytes part e).lengths ≡ e.lengths
bytes_lengths part e = by (e.fin || nat_lt (length e.bytes) part.offset)
  where
    by : (c : Bool) → (let x : Entry = (if c then e else record e { bytes = e.bytes ++ drop (length e.bytes - part.offset) part.bytes }) in x).lengths ≡ e.lengths
    by true = refl
    by false = refl

fin_lengths : (part : Part) (e : Entry) → (with_its_fin part e).lengths ≡ e.lengths
fin_lengths part e = by (part.fin && part.offset + length part.bytes == length e.bytes)
  where
    by : (c : Bool) → (let x : Entry = (if c then record e { fin = true } else e) in x).lengths ≡ e.lengths
    by true = refl
    by false = refl

pub part_left : (t : Trim) (left e : Entry) (part : Part) → IsLeft t left e → IsLeft t (with_part part left) (with_part part e)
part_left t left e part l =
    let grown = grown_length part e in
    let ended = fin_length part (with_bytes part e) in
    let low_enough = l.within in
    let lengths : (with_part part e).lengths ≡ e.lengths = fin_lengths part (with_bytes part e) ∙ bytes_lengths part e in
    record {
      logged = subst (λ ls. t.reads ≤ length ls) (sym lengths) l.logged;
      took = l.took ∙ ap (λ ls. sum (take t.reads ls)) (sym lengths);
      on = ap (λ ls. reads_on (take t.reads ls)) lengths ∙ l.on;
      within = omega (arith, grown, ended, low_enough);
      same = ap (with_part part) l.same ∙ part_commute t.bytes t.reads part e l.within;
    }

read_commute : (b r index n : ℕ) (e : Entry) → b ≤ length e.bytes → r ≤ length e.lengths → reads_on (take r e.lengths) ≡ true
    → with_read index n (without b r e) ≡ without b r (with_read index n e)
read_commute b r index n e h few on =
    let size : length (zeroed (pages b) e.bytes) ≡ length e.bytes = same_length (pages b) e.bytes (low b (length e.bytes) h) in
    let count : length (levelled r e.lengths) ≡ length e.lengths = levelled_count r e.lengths few in
    let total : sum (levelled r e.lengths) ≡ sum e.lengths = levelled_sum r e.lengths in
    let closing : list_any (λ j. j == 0) (levelled r e.lengths) ≡ list_any (λ j. j == 0) e.lengths = levelled_closing r e.lengths few on in
    let more : Entry = record e { lengths = e.lengths ++ n ∷ [] } in
    let test : is_next_read (without b r e) index n ≡ is_next_read e index n =
    (λ i. index == count i && (not (closing i) && nat_le (total i + n) (size i) && (nat_lt 0 n || (e.fin && total i == size i)))) in
    either (is_next_read (without b r e) index n) (is_next_read e index n) (record (without b r e) { lengths = levelled r e.lengths ++ n ∷ [] }) (without b r e)
    (without b r more) (without b r e) test (ap (λ ls. let x : Entry = record (without b r e) { lengths = ls } in x) (levelled_more r e.lengths (n ∷ []) few)) refl
    ∙ without_if b r (is_next_read e index n) more e

read_length : (index n : ℕ) (e : Entry) → length (with_read index n e).bytes ≡ length e.bytes
read_length index n e = by (is_next_read e index n)
  where
    by : (c : Bool) → length (let x : Entry = (if c then record e { lengths = e.lengths ++ n ∷ [] } else e) in x).bytes ≡ length e.bytes
    by true = refl
    by false = refl

-- reads are only added after the others
reads_logged : (index n k : ℕ) (e : Entry) → k ≤ length e.lengths → (k ≤ length (with_read index n e).lengths) × (take k (with_read index n e).lengths ≡ take k e.lengths)
reads_logged index n k e h = by (is_next_read e index n)
  where
    by : (c : Bool) → (k ≤ length (let x : Entry = (if c then record e { lengths = e.lengths ++ n ∷ [] } else e) in x).lengths)
        × (take k (let x : Entry = (if c then record e { lengths = e.lengths ++ n ∷ [] } else e) in x).lengths ≡ take k e.lengths)
    by true = let more = length-append e.lengths (n ∷ []) in (omega (arith, more, h), take-append-le k e.lengths (n ∷ []) h)
    by false = (h, refl)

pub read_left : (t : Trim) (left e : Entry) (index n : ℕ) → IsLeft t left e → IsLeft t (with_read index n left) (with_read index n e)
read_left t left e index n l =
    let same_size = read_length index n e in
    let low_enough = l.within in
    let reads = reads_logged index n t.reads e l.logged in
    record {
      logged = reads.0;
      took = l.took ∙ ap sum (sym reads.1);
      on = ap reads_on reads.1 ∙ l.on;
      within = omega (arith, same_size, low_enough);
      same = ap (with_read index n) l.same ∙ read_commute t.bytes t.reads index n e l.within l.logged l.on;
    }

pub end_left : (t : Trim) (left e : Entry) → IsLeft t left e → IsLeft t (record left { done = true }) (record e { done = true })
end_left t left e l =
    record { logged = l.logged; took = l.took; on = l.on; within = l.within; same = ap (λ x. let y : Entry = record x { done = true } in y) l.same }

pub acknowledged_left : (t : Trim) (left e : Entry) (units : ℕ) → IsLeft t left e → IsLeft t (acknowledging units left) (acknowledging units e)
acknowledged_left t left e units l =
    record { logged = l.logged; took = l.took; on = l.on; within = l.within; same = ap (acknowledging units) l.same }

-- what is given up may be more later
zeroed_twice : (n m : ℕ) (xs : List ℕ) → n ≤ m → zeroed m (zeroed n xs) ≡ zeroed m xs
zeroed_twice n m xs h = ap (λ l. replicate m 0 ++ l) (same_rest n m xs h)

sum_front : (k j : ℕ) (ns : List ℕ) → k ≤ j → sum (take k ns) ≤ sum (take j ns)
sum_front zero j ns h = omega arith
sum_front (suc k) zero ns h = absurd (omega (arith, h))
sum_front (suc k) (suc j) [] h = omega arith
sum_front (suc k) (suc j) (n ∷ ns) h =
    let rest = sum_front k j ns (omega (arith, h)) in
    let one = sum_more n (take k ns) in
    let two = sum_more n (take j ns) in omega (arith, rest, one, two)

pub further_left : (t u : Trim) (left e : Entry) → IsLeft t left e → t.reads ≤ u.reads → u.reads ≤ length e.lengths → u.bytes ≡ sum (take u.reads e.lengths)
    → reads_on (take u.reads e.lengths) ≡ true → u.bytes ≤ length e.bytes → IsLeft u (without u.bytes u.reads left) e
further_left t u left e l further logged took on within =
    let more : t.bytes ≤ u.bytes = let front = sum_front t.reads u.reads e.lengths further in let was = l.took in omega (arith, front, was, took) in
    record {
      logged = logged;
      took = took;
      on = on;
      within = within;
      same = ap (without u.bytes u.reads) l.same
          ∙ (λ i. let y : Entry = record e { bytes = zeroed_twice (pages t.bytes) (pages u.bytes) e.bytes (at_later t.bytes u.bytes more) i; lengths = levelled_twice t.reads u.reads e.lengths further logged i } in y);
    }
  where
    at_later : (b c : ℕ) → b ≤ c → pages b ≤ pages c
    at_later b c h = omega (arith, h)
