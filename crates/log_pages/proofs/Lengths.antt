-- Lengths of reads, in runs and in two bytes each.
use Rattle.std.proofs.Common.{◌≡◌, ◌∙◌, ℕ, zero, suc, ◌+◌, ◌*◌, ◌-◌, ◌/◌, ◌%◌, ◌<◌, ◌≤◌, ◌^◌, ◌==◌, refl, sym, ap, subst, arith, List, [], ◌∷◌, ◌++◌, length, take, drop, slice_get, get_or, min, append-nil, append_assoc, eqb-true, true, false, replicate, inl, inr}
use Rattle.std.specs.Prelude.{Some}
use Rattle.std.specs.List.{flat_map}
use Rattle.std.specs.Option.{option_map_or}
use Rattle.std.specs.Int.{to_be_bytes, w16}
use Rattle.std.proofs.lemmas.List.{length-append, length-take, take_all, drop_all, length-replicate, replicate_more, drop-replicate, take-replicate, flat_map_more, take_more}
use Rattle.std.proofs.lemmas.Bool.{cases_lt}
use Rattle.std.proofs.Math.Seq.{take-append-add}
use Rattle.ft_io.proofs.Lists.{drop_append}
use Rattle.seq_arith.specs.MessageGrammar.{lens_in}
use Rattle.log_pages.specs.declared.runs.Run.{Run}
use Rattle.log_pages.specs.Pages.{lengths_in, ends_with}

-- two bytes for each length
pub count_of_lens : (bytes : List ℕ) → length bytes % 2 ≡ 0 → length bytes ≡ 2 * length (lens_in bytes)
count_of_lens [] even = refl
count_of_lens (high ∷ []) even = absurd (omega (arith, even))
count_of_lens (high ∷ low ∷ bytes) even = omega (arith, count_of_lens bytes (omega (arith, even)))

behind_even : (bytes more : List ℕ) → length bytes % 2 ≡ 0 → lens_in (bytes ++ more) ≡ lens_in bytes ++ lens_in more
behind_even [] more even = refl
behind_even (high ∷ []) more even = absurd (omega (arith, even))
behind_even (high ∷ low ∷ bytes) more even = ap (λ ls. (256 * high + low) ∷ ls) (behind_even bytes more (omega (arith, even)))

one_length : (n : ℕ) → n < 2 ^ 16 → lens_in (to_be_bytes w16 n) ≡ n ∷ []
one_length n small = ap (λ k. k ∷ []) (again n small)
  where
    again : (n : ℕ) → n < 2 ^ 16 → 256 * (n / 256 % 256) + n % 256 ≡ n
    again n small = omega (arith, small)

pub one_length_more : (bytes : List ℕ) (n : ℕ) → length bytes % 2 ≡ 0 → n < 2 ^ 16 → lens_in (bytes ++ to_be_bytes w16 n) ≡ lens_in bytes ++ n ∷ []
one_length_more bytes n even small = behind_even bytes (to_be_bytes w16 n) even ∙ ap (λ ls. lens_in bytes ++ ls) (one_length n small)

pub front_of_equals : (m n y : ℕ) → take m (replicate n y) ≡ replicate (min m n) y
front_of_equals m n y = elim (cases_lt m n) [
  | inl less ↦ take-replicate m n y (omega (arith, less)) ∙ ap (λ k. replicate k y) (omega (arith, less))
  | inr more ↦ take_all m (replicate n y) (subst (λ k. k ≤ m) (sym (length-replicate n y)) more) ∙ ap (λ k. replicate k y) (omega (arith, more))
]

-- what is left of a run after its first lengths, as much as there is room for
pub run_behind : (old : List ℕ) (count len skip k : ℕ) → length old ≤ 512 → k ≡ min (512 - length old) (count - skip)
    → old ++ replicate k len ≡ take 512 (old ++ drop skip (replicate count len))
run_behind old count len skip k within is =
    let whole : length old + (512 - length old) ≡ 512 = omega (arith, within) in
    ap (λ n. old ++ replicate n len) is
    ∙ (ap (λ ys. old ++ ys) (sym (front_of_equals (512 - length old) (count - skip) len))
    ∙ (ap (λ ys. old ++ take (512 - length old) ys) (sym (drop-replicate skip count len))
    ∙ (sym (take-append-add old (drop skip (replicate count len)) (512 - length old)) ∙ ap (λ n. take n (old ++ drop skip (replicate count len))) whole)))

-- the front of two lists, of which the first was cut
cut_first : (n : ℕ) (xs ys : List ℕ) → take n (take n xs ++ ys) ≡ take n (xs ++ ys)
cut_first zero xs ys = refl
cut_first (suc n) [] ys = refl
cut_first (suc n) (x ∷ xs) ys = ap (λ zs. x ∷ zs) (cut_first n xs ys)

-- one run more
pub lengths_more : (first skip : ℕ) (old done now run : List ℕ) → now ≡ take 512 (old ++ drop first done) → skip ≡ first - length done
    → take 512 (now ++ drop skip run) ≡ take 512 (old ++ drop first (done ++ run))
lengths_more first skip old done now run is left =
    ap (λ xs. take 512 (xs ++ drop skip run)) is
    ∙ (cut_first 512 (old ++ drop first done) (drop skip run)
    ∙ ap (take 512) (append_assoc old (drop first done) (drop skip run)
    ∙ ap (λ xs. old ++ xs) (ap (λ n. drop first done ++ drop n run) left ∙ sym (drop_append first done run))))

-- the last of some lengths is that of the last run
last_there : (ys : List ℕ) (y : ℕ) → slice_get (ys ++ y ∷ []) (length ys) ≡ Some y
last_there [] y = refl
last_there (z ∷ zs) y = last_there zs y

ends : (ys : List ℕ) (y len : ℕ) → ends_with len (ys ++ y ∷ []) ≡ (y == len)
ends ys y len =
    let long : length (ys ++ y ∷ []) - 1 ≡ length ys = ap (λ n. n - 1) (length-append ys (y ∷ [])) ∙ omega arith in
    ap (λ o. option_map_or (λ last. last == len) o false) (ap (slice_get (ys ++ y ∷ [])) long ∙ last_there ys y)

pub last_length : (xs : List ℕ) (n y len : ℕ) → 0 < n → ends_with len (xs ++ replicate n y) ≡ true → y ≡ len
last_length xs n y len some is =
    let more : replicate n y ≡ replicate (n - 1) y ++ y ∷ [] = ap (λ k. replicate k y) (back n some) ∙ sym (replicate_more (n - 1) y) in
    let cut : xs ++ replicate n y ≡ (xs ++ replicate (n - 1) y) ++ y ∷ [] = ap (λ zs. xs ++ zs) more ∙ sym (append_assoc xs (replicate (n - 1) y) (y ∷ [])) in
    eqb-true y len (sym (ends (xs ++ replicate (n - 1) y) y len) ∙ (ap (ends_with len) (sym cut) ∙ is))
  where
    back : (n : ℕ) → 0 < n → n ≡ n - 1 + 1
    back n h = omega (arith, h)

pub none_spelled : (first : ℕ) (lens : List ℕ) → length lens ≤ 512 → (lens ≡ take 512 (lens ++ drop first [])) × (first ≡ first - 0)
none_spelled first lens within =
    (sym (ap (λ xs. take 512 (lens ++ xs)) (drop_all first [] (omega arith)) ∙ (ap (take 512) (append-nil lens) ∙ take_all 512 lens within)), omega arith)

pub spelled_fits : (xs now : List ℕ) → now ≡ take 512 xs → length now ≤ 512
spelled_fits xs now is = let size = length-take 512 xs in omega (arith, size, ap length is)

-- two runs and what comes after them, one after the other
pub three_spelled : (low high : Run) (rest lens one two three : List ℕ) (first skip next : ℕ) → lens ≡ [] → one ≡ take 512 (lens ++ drop first (lengths_in low))
    → skip ≡ first - low.count → two ≡ take 512 (one ++ drop skip (lengths_in high)) → next ≡ skip - high.count → three ≡ take 512 (two ++ drop next rest)
    → three ≡ take 512 (drop first (lengths_in low ++ (lengths_in high ++ rest)))
three_spelled low high rest lens one two three first skip next empty one_is skip_is two_is next_is three_is =
    let both : List ℕ = lengths_in low ++ lengths_in high in
    let past_low : skip ≡ first - length (lengths_in low) = skip_is ∙ ap (λ n. first - n) (sym (length-replicate {A = ℕ} low.count low.length)) in
    let past_both : next ≡ first - length both =
    let parts = length-append (lengths_in low) (lengths_in high) in
    let l = length-replicate {A = ℕ} low.count low.length in
    let h = length-replicate {A = ℕ} high.count high.length in omega (arith, next_is, skip_is, parts, l, h) in
    let front : two ≡ take 512 (lens ++ drop first both) = two_is ∙ lengths_more first skip lens (lengths_in low) one (lengths_in high) one_is past_low in
    three_is ∙ (lengths_more first next lens both two rest front past_both
    ∙ (ap (λ xs. take 512 (xs ++ drop first (both ++ rest))) empty ∙ ap (λ xs. take 512 (drop first xs)) (append_assoc (lengths_in low) (lengths_in high) rest)))

-- the lengths of one run more
pub run_more : (runs : List Run) (i first skip left : ℕ) (d : Run) (old now next : List ℕ) → i < length runs
    → (now ≡ take 512 (old ++ drop first (flat_map lengths_in (take i runs)))) × (skip ≡ first - length (flat_map lengths_in (take i runs)))
    → next ≡ take 512 (now ++ drop skip (lengths_in (get_or runs i d))) → left ≡ skip - (get_or runs i d).count
    → (next ≡ take 512 (old ++ drop first (flat_map lengths_in (take (i + 1) runs)))) × (left ≡ first - length (flat_map lengths_in (take (i + 1) runs)))
run_more runs i first skip left d old now next there before added after =
    let run : Run = get_or runs i d in
    let done : List ℕ = flat_map lengths_in (take i runs) in
    let more : done ++ lengths_in run ≡ flat_map lengths_in (take (i + 1) runs) =
    flat_map_more lengths_in [] (take i runs) run ∙ ap (flat_map lengths_in) (sym (take_more runs i d there)) in
    let long : length (flat_map lengths_in (take (i + 1) runs)) ≡ length done + run.count =
    ap length (sym more) ∙ (length-append done (lengths_in run) ∙ ap (λ n. length done + n) (length-replicate run.count run.length)) in (
      added ∙ (lengths_more first skip old done now (lengths_in run) before.0 before.1 ∙ ap (λ xs. take 512 (old ++ drop first xs)) more),
      after ∙ (ap (λ n. n - run.count) before.1 ∙ (apart first (length done) run.count ∙ ap (λ n. first - n) (sym long))),
    )
  where
    apart : (a b c : ℕ) → a - b - c ≡ a - (b + c)
    apart a b c = omega arith
