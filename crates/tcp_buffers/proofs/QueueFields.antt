-- What a push, a hold, a read and a look make of a queue's fields.
use Rattle.std.proofs.Common.{◌≡◌, ℕ, zero, suc, ◌+◌, ◌-◌, ◌<◌, ◌≤◌, true, false, refl, sym, ap, ap₂, subst, arith, ◌∙◌, List, [], ◌∷◌, ◌++◌, length, length-append, length-take, length-drop, append-nil, drop-drop, take, drop, Option, min, max, nat_le, nat_lt, ltb-true, ltb-false, if◌then◌else◌}
use Rattle.std.proofs.lemmas.List.{drop-take, take_min}
use Rattle.std.proofs.Math.Seq.{take-add, take-append-add, drop-append-add}
use Rattle.std.proofs.Math.Nat.{sub_self, min_comm, add-zero}
use Rattle.std.proofs.lemmas.List.{take-take, take_all}
use Rattle.std.proofs.Math.Seq.{drop-nil}
use Rattle.ft_io.proofs.Choices.{by_cases}
use Rattle.tcp_buffers.specs.declared.early_runs.Run.{Run}
use Rattle.tcp_rules.specs.Early.{laid, run_count, front_run, behind_front_run, holds_some, held_with}
use Rattle.tcp_buffers.specs.Queue.{Queue, fitting, left_over, added_by, pushed}
use Rattle.tcp_buffers.specs.Runs.{QueueInvariant, is_held, marked, AreApart, reach, covered, grown_to, runs_past, shifted, written}
use Rattle.tcp_buffers.proofs.Overwrites.{drop_written, length_written, long_written, no_items, take_written, written_end, written_front}
use Rattle.tcp_buffers.proofs.Marked.{drop_marked, holds_last, last_held, marked_length, reach_up, run_count_is, some_run}
use Rattle.tcp_buffers.proofs.Covered.{apart_covered, hold_count, hold_is, reach_covered}
use Rattle.tcp_buffers.proofs.Grown.{GoesTo, Stay, apart_shifted, goes_to, marked_shifted, reach_shifted, stays}

-- what a queue's fields show
abbrev pub shown : List ℕ → ℕ → List Run → Queue
shown items n runs = record { unread = take n items; early = marked 0 runs (drop n items) }

take_along : (xs ys : List ℕ) (g : ℕ) → length xs ≤ g → take g (xs ++ ys) ≡ xs ++ take (g - length xs) ys
take_along xs ys g h =
    let whole : g ≡ length xs + (g - length xs) = omega (arith, h) in
    ap (λ k. take k (xs ++ ys)) whole ∙ take-append-add xs ys (g - length xs)

drop_along : (xs ys : List ℕ) (g : ℕ) → length xs ≤ g → drop g (xs ++ ys) ≡ drop (g - length xs) ys
drop_along xs ys g h =
    let whole : g ≡ length xs + (g - length xs) = omega (arith, h) in
    ap (λ k. drop k (xs ++ ys)) whole ∙ drop-append-add xs ys (g - length xs)

pub push_is : (items bytes : List ℕ) (n : ℕ) (runs : List Run) → QueueInvariant items n runs
    → let fits : List ℕ = take (65535 - n) bytes in
    (shown (written n fits items) (n + grown_to (length fits) runs) (shifted (grown_to (length fits) runs) (runs_past (length fits) runs)) ≡ pushed bytes (shown items n runs))
    × (grown_to (length fits) runs ≡ length (added_by bytes (shown items n runs)))
unfolding pushed added_by
push_is items bytes n runs k =
    let long : length (take n items) ≡ n = length-take n items ∙ omega (arith, k.within) in
    let fits : List ℕ = take (65535 - n) bytes in
    let m : ℕ = length fits in
    let area : List ℕ = drop n items in
    let rest : List ℕ = drop m area in
    let g : ℕ = grown_to m runs in
    let past : List Run = runs_past m runs in
    let after : List ℕ = written n fits items in
    let same : fitting bytes (shown items n runs) ≡ fits = ap (λ l. take (65535 - l) bytes) long in
    let size : length area ≡ length items - n = length-drop n items in
    let left : length rest ≡ length area - m = length-drop m area in
    let over : left_over bytes (shown items n runs) ≡ marked m runs rest =
    ap (λ l. drop (length l) (marked 0 runs area)) same ∙ drop_marked m 0 runs area ∙ ap (λ j. marked j runs rest) (add-zero m) in
    let goes : GoesTo m g past rest (marked m runs rest) = goes_to 0 m runs rest k.apart (omega (arith, k.ends, k.within, size, left)) in
    let stay : Stay m (reach 0 runs) g past = stays 0 m runs k.apart (omega arith) in
    let front : drop n after ≡ fits ++ rest = ap (λ j. drop n (written j fits items)) (sym (add-zero n)) ∙ drop_written n 0 fits items k.within ∙ written_front fits area in
    let added : added_by bytes (shown items n runs) ≡ fits ++ take (g - m) rest = λ i. same i ++ (ap front_run over ∙ goes.taken) i in
    let unread : take (n + g) after ≡ take n items ++ added_by bytes (shown items n runs) =
    take-add n g after
    ∙ (λ i. (ap (λ j. take n (written j fits items)) (sym (add-zero n)) ∙ take_written n 0 fits items k.within) i
    ++ (ap (take g) front ∙ take_along fits rest g stay.more ∙ sym added) i) in
    let behind : drop (n + g) after ≡ drop (g - m) rest =
    sym (drop-drop g n after) ∙ ap (drop g) front ∙ drop_along fits rest g stay.more in
    let early : marked 0 (shifted g past) (drop (n + g) after) ≡ behind_front_run (left_over bytes (shown items n runs)) =
    ap (marked 0 (shifted g past)) behind ∙ marked_shifted g 0 past (drop (g - m) rest) ∙ ap (λ j. marked j past (drop (g - m) rest)) (add-zero g)
    ∙ sym goes.left ∙ ap behind_front_run (sym over) in (
      (λ i. record { unread = unread i; early = early i }),
      omega (arith, ap length added, length-append fits (take (g - m) rest), length-take (g - m) rest, stay.more, stay.ends, reach_up g past stay.apart, left, size, k.ends, k.within),
    )

ap₃ : {A B C D : Type 0} (f : A → B → C → D) {a a' : A} {b b' : B} {c c' : C} → a ≡ a' → b ≡ b' → c ≡ c' → f a b c ≡ f a' b' c'
ap₃ f p q r = λ i. f (p i) (q i) (r i)

-- a push, by what its steps made of the fields
pub record Pushed (items bytes : List ℕ) (n : ℕ) (runs : List Run) (after : List ℕ) (grown : ℕ) (left : List Run) : Type 0 where
  pub view : shown after (n + grown) left ≡ pushed bytes (shown items n runs)
  pub count : grown ≡ length (added_by bytes (shown items n runs))
  pub keeps : QueueInvariant after (n + grown) left

pub pushed_so : (items bytes fits after : List ℕ) (n grown : ℕ) (runs left : List Run) → QueueInvariant items n runs → fits ≡ take (65535 - n) bytes
    → after ≡ written n fits items → grown ≡ grown_to (length fits) runs → left ≡ shifted (grown_to (length fits) runs) (runs_past (length fits) runs)
    → Pushed items bytes n runs after grown left
pushed_so items bytes fits after n grown runs left k f a g l =
    let m : ℕ = length fits in
    let e : ℕ = grown_to m runs in
    let stay : Stay m (reach 0 runs) e (runs_past m runs) = stays 0 m runs k.apart (omega arith) in
    let whole = push_is items bytes n runs k in
    let short : m ≤ 65535 - n = omega (arith, ap length f ∙ length-take (65535 - n) bytes) in
    let long : length after ≡ max (length items) (n + m) = ap length a ∙ long_written n fits items k.within in
    record {
      view = ap₃ (λ x y z. shown x (n + y) z) (a ∙ ap (λ x. written n x items) f) (g ∙ ap (λ x. grown_to (length x) runs) f)
          (l ∙ ap (λ x. shifted (grown_to (length x) runs) (runs_past (length x) runs)) f) ∙ whole.0;
      count = g ∙ ap (λ x. grown_to (length x) runs) f ∙ whole.1;
      keeps = record {
        within = omega (arith, g, stay.more, stay.ends, reach_up e (runs_past m runs) stay.apart, long, k.ends, k.within);
        most = omega (arith, long, short, k.most, k.within);
        apart = subst (AreApart 0) (sym l) (subst (λ x. AreApart x (shifted e (runs_past m runs))) (sub_self e) (apart_shifted e e (runs_past m runs) (omega arith) stay.apart));
        ends = omega (
          arith,
          ap (reach 0) l ∙ ap (λ x. reach x (shifted e (runs_past m runs))) (sym (sub_self e)) ∙ reach_shifted e e (runs_past m runs) (omega arith) stay.apart,
          g,
          stay.ends,
          stay.more,
          reach_up e (runs_past m runs) stay.apart,
          long,
          k.ends,
          k.within,
        );
      };
    }

-- a hold
pub record Holds (items bytes : List ℕ) (at n : ℕ) (runs : List Run) (after : List ℕ) (more : List Run) : Type 0 where
  pub view : shown after n more ≡ record (shown items n runs) { early = laid at bytes (marked 0 runs (drop n items)) }
  pub keeps : QueueInvariant after n more

pub held_so : (items bytes after : List ℕ) (at n : ℕ) (runs more : List Run) → QueueInvariant items n runs → 0 < at → 0 < length bytes → n + at + length bytes ≤ 65535
    → after ≡ written (n + at) bytes items → more ≡ covered runs at (at + length bytes) → Holds items bytes at n runs after more
held_so items bytes after at n runs more k ahead some fit a m =
    let size : length (drop n items) ≡ length items - n = length-drop n items in
    let ends : reach 0 runs ≤ length (drop n items) = omega (arith, size, k.ends) in
    let long : length after ≡ max (length items) (n + at + length bytes) = ap length a ∙ length_written (n + at) bytes items some in
    let far : reach 0 more ≡ max (reach 0 runs) (at + length bytes) = ap (reach 0) m ∙ reach_covered 0 at (at + length bytes) runs k.apart ahead (omega (arith, some)) in
    record {
      view = ap₂ (λ x y. shown x n y) a m
          ∙ (λ i. record { unread = take_written n at bytes items k.within i; early = marked 0 (covered runs at (at + length bytes)) (drop_written n at bytes items k.within i) })
          ∙ (λ i. record { unread = take n items; early = hold_is at bytes (drop n items) runs some k.apart ends i });
      keeps = record {
        within = omega (arith, long, k.within);
        most = omega (arith, long, k.most, fit);
        apart = subst (AreApart 0) (sym m) (apart_covered 0 at (at + length bytes) runs k.apart ahead (omega (arith, some)));
        ends = omega (arith, far, long, k.ends);
      };
    }

-- an empty queue, and one in which nothing is held
pub empty_keeps : (items : List ℕ) (runs : List Run) → items ≡ [] → runs ≡ [] → QueueInvariant items 0 runs
unfolding reach
empty_keeps items runs e r = subst (λ l. QueueInvariant l 0 runs) (sym e) (subst (QueueInvariant [] 0) (sym r) (record { within = omega arith; most = omega arith; apart = tt; ends = omega arith }))

pub empty_shown : (items : List ℕ) (runs : List Run) → items ≡ [] → shown items 0 runs ≡ record { unread = []; early = [] }
unfolding marked
empty_shown items runs e = ap (λ l. shown l 0 runs) e

no_run : (place : ℕ) (runs : List Run) → AreApart place runs → reach place runs ≤ place → runs ≡ []
unfolding reach
no_run place [] a h = refl
no_run place (r ∷ runs) a h = absurd (omega (arith, reach_up r.end runs a.2, a.0, a.1, h))

pub nothing_held : (items : List ℕ) (n : ℕ) (runs : List Run) → QueueInvariant items n runs → length (marked 0 runs (drop n items)) ≡ 0 → (runs ≡ []) × (n ≡ length items)
nothing_held items n runs k none =
    let size : length (drop n items) ≡ length items - n = length-drop n items in
    let short : length (drop n items) ≡ 0 = sym (marked_length 0 runs (drop n items)) ∙ none in
    (no_run 0 runs k.apart (omega (arith, size, short, k.ends)), omega (arith, size, short, k.within))

pub held_none : (items : List ℕ) (n : ℕ) (runs : List Run) → QueueInvariant items n runs → length runs ≡ 0 → length (marked 0 runs (drop n items)) ≡ 0
unfolding reach
held_none items n [] k none = marked_length 0 [] (drop n items) ∙ length-drop n items ∙ omega (arith, k.ends)
held_none items n (r ∷ runs) k none = absurd (omega (arith, none))

-- appending, where nothing is held
pub appended_so : (items bytes after : List ℕ) (n count : ℕ) (runs : List Run) → QueueInvariant items n runs → length (marked 0 runs (drop n items)) ≡ 0
    → count ≡ min (length bytes) (65535 - length items) → after ≡ items ++ take count bytes → Pushed items bytes n runs after count runs
unfolding grown_to runs_past shifted
appended_so items bytes after n count runs k none c a =
    let all = nothing_held items n runs k none in
    let fits : List ℕ = take count bytes in
    let size : length fits ≡ count = length-take count bytes ∙ omega (arith, c) in
    let same : fits ≡ take (65535 - n) bytes = ap (λ m. take m bytes) (c ∙ ap (λ m. min (length bytes) (65535 - m)) (sym all.1)) ∙ ap (λ m. take m bytes) (min_comm (length bytes) (65535 - n)) ∙ take_min (65535 - n) bytes in
    let there : after ≡ written n fits items = a ∙ sym (written_end items fits) ∙ ap (λ m. written m fits items) (sym all.1) in
    pushed_so items bytes fits after n count runs runs k same there (sym size ∙ ap (grown_to (length fits)) (sym all.0))
    (all.0 ∙ ap (λ l. shifted (grown_to (length fits) l) (runs_past (length fits) l)) (sym all.0))

-- reading and looking
pub read_shown : (items : List ℕ) (n m : ℕ) (runs : List Run) → m ≤ n → n ≤ length items
    → shown (drop m items) (n - m) runs ≡ record (shown items n runs) { unread = drop m (take n items) }
read_shown items n m runs h w =
    let whole : m + (n - m) ≡ n = omega (arith, h) in
    λ i. record {
      unread = (sym (drop-take m (n - m) items) ∙ ap (λ k. drop m (take k items)) whole) i;
      early = marked 0 runs ((drop-drop (n - m) m items ∙ ap (λ k. drop k items) whole) i);
    }

pub run_count_shown : (items : List ℕ) (n : ℕ) (runs : List Run) → QueueInvariant items n runs → run_count (marked 0 runs (drop n items)) ≡ length runs
run_count_shown items n runs k = run_count_is runs (drop n items) k.apart (omega (arith, length-drop n items, k.ends, k.within))

pub none_laid : (at : ℕ) (held : List (Option ℕ)) → laid at [] held ≡ held
unfolding laid
none_laid at held = refl

pub held_by : (at : ℕ) (new : List ℕ) (held : List (Option ℕ)) → nat_le (run_count (laid at new held)) 16 ≡ true → held_with at new held ≡ laid at new held
unfolding held_with
held_by at new held t = ap (λ b. if b then laid at new held else held) t

pub not_held_by : (at : ℕ) (new : List ℕ) (held : List (Option ℕ)) → nat_le (run_count (laid at new held)) 16 ≡ false → held_with at new held ≡ held
unfolding held_with
not_held_by at new held t = ap (λ b. if b then laid at new held else held) t

pub hold_counts : (items bytes : List ℕ) (at n : ℕ) (runs : List Run) → QueueInvariant items n runs → 0 < at → 0 < length bytes
    → length (covered runs at (at + length bytes)) ≡ run_count (laid at bytes (marked 0 runs (drop n items)))
hold_counts items bytes at n runs k ahead some = hold_count at bytes (drop n items) runs ahead some k.apart (omega (arith, length-drop n items, k.ends))

pub gap_filled : (items bytes after : List ℕ) (n fitting grown : ℕ) (runs left : List Run) → QueueInvariant items n runs → fitting ≡ min (length bytes) (65535 - n)
    → after ≡ written n (take fitting bytes) items → grown ≡ grown_to fitting runs → left ≡ shifted (grown_to fitting runs) (runs_past fitting runs) → Pushed items bytes n runs after grown left
gap_filled items bytes after n fitting grown runs left k f a g l =
    let size : fitting ≡ length (take fitting bytes) = omega (arith, length-take fitting bytes, f) in
    let same : take fitting bytes ≡ take (65535 - n) bytes = ap (λ m. take m bytes) (f ∙ min_comm (length bytes) (65535 - n)) ∙ take_min (65535 - n) bytes in
    pushed_so items bytes (take fitting bytes) after n grown runs left k same a (g ∙ ap (λ m. grown_to m runs) size)
    (l ∙ ap (λ m. shifted (grown_to m runs) (runs_past m runs)) size)

taken_within : (n from count : ℕ) (items : List ℕ) → count ≤ n - from → take count (drop from (take n items)) ≡ take count (drop from items)
taken_within n from zero items h = refl
taken_within n from (suc count) items h =
    let whole : from + (n - from) ≡ n = omega (arith, h) in
    ap (λ k. take (suc count) (drop from (take k items))) (sym whole) ∙ ap (take (suc count)) (drop-take from (n - from) items) ∙ take-take (suc count) (n - from) (drop from items) h

-- what a look copies: a front of `out` was given to it, and what is after that stays
pub peek_is : (items out new : List ℕ) (n from most count : ℕ) → n ≤ length items → most ≡ min (n - from) (length out)
    → count ≡ min (length items - from) (length (take most out)) → new ≡ take count (drop from items) ++ drop count (take most out)
    → new ++ drop most out ≡ take count (drop from (take n items)) ++ drop count out
peek_is items out new n from most count w m c e =
    let size : length (take most out) ≡ min most (length out) = length-take most out in
    let same : count ≡ most = omega (arith, m, c, size, w) in
    let all : take count (drop from (take n items)) ≡ take count (drop from items) = taken_within n from count items (omega (arith, m, same)) in
    let gone : drop count (take most out) ≡ [] = no_items (drop count (take most out)) (length-drop count (take most out) ∙ omega (arith, size, same, m)) in
    ap (λ l. l ++ drop most out) (e ∙ ap (λ l. take count (drop from items) ++ l) gone ∙ append-nil (take count (drop from items)))
    ∙ (λ i. sym all i ++ drop (sym same i) out)

pub held_up_to : (items : List ℕ) (n : ℕ) (runs : List Run) (k : ℕ) → QueueInvariant items n runs → holds_some (drop k (marked 0 runs (drop n items))) ≡ nat_lt k (length items - n)
unfolding holds_some marked
held_up_to items n runs k keeps =
    let area : List ℕ = drop n items in
    let size : length area ≡ length items - n = length-drop n items in
    let rest : length (drop k area) ≡ length area - k = length-drop k area in
    ap holds_some (drop_marked k 0 runs area ∙ ap (λ j. marked j runs (drop k area)) (add-zero k))
    ∙ by_cases (nat_lt k (length items - n))
    (λ t. let within : k < length items - n = ltb-true _ _ t in
    holds_last (drop k area) k runs (omega (arith, rest, size, within))
    (ap (λ j. is_held j runs) (place k (length (drop k area)) (reach 0 runs) (omega (arith, rest, size, within, keeps.ends, keeps.within))) ∙ last_held 0 runs keeps.apart (some_run runs (omega (arith, within, keeps.ends, keeps.within)))) ∙ sym t)
    (λ t. let none : drop k area ≡ [] = no_items (drop k area) (rest ∙ omega (arith, size, ltb-false _ _ t)) in
    ap (λ l. holds_some (marked k runs l)) none ∙ sym t)
  where
    place : (k m e : ℕ) → k + m ≡ e → k + m - 1 ≡ e - 1
    place k m e h = omega (arith, h)

-- bytes that fit, pushed where nothing is held: they are appended, and that is all
pub pushed_alone : (bytes : List ℕ) (q : Queue) → length q.unread + length bytes ≤ 65535 → q.early ≡ [] → pushed bytes q ≡ record q { unread = q.unread ++ bytes }
unfolding pushed added_by front_run behind_front_run
pushed_alone bytes q fits none =
    let all : fitting bytes q ≡ bytes = take_all (65535 - length q.unread) bytes (omega (arith, fits)) in
    let left : left_over bytes q ≡ [] = ap (λ l. drop (length (fitting bytes q)) l) none ∙ drop-nil (length (fitting bytes q)) in
    λ i. record {
      unread = q.unread ++ ((λ j. all j ++ front_run (left j)) ∙ append-nil bytes) i;
      early = (ap behind_front_run left ∙ sym none) i;
    }
