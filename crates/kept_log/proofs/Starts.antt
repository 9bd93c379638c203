-- What a test of bytes says of a block.
use Rattle.std.proofs.Common.{◌≡◌, ◌∙◌, ◌⊎◌, ℕ, zero, suc, ◌+◌, ◌*◌, ◌^◌, ◌-◌, ◌<◌, ◌≤◌, true, false, nat_eq, List, [], ◌∷◌, ◌++◌, length, take, drop, refl, sym, ap, subst, arith, append_assoc, length-append, length-drop}
use Rattle.std.specs.List.{starts_with}
use Rattle.std.proofs.lemmas.Bool.{both_ways}
use Rattle.std.proofs.lemmas.List.{take_at, drop_at, length-take-le, take-append-drop}
use Rattle.std.proofs.lemmas.Slice.Eq.{bytes_eq-Decides}
use Rattle.seq_arith.specs.MessageGrammar.{number_from, number_in}
use Rattle.kept_log.specs.Format.{seal, head, block}
use Rattle.kept_log.specs.Startup.{IsMark, IsFollowed, IsTorn}
use Rattle.kept_log.specs.ReadSteps.{StartsWith}
use Rattle.kept_log.specs.declared.tip.Tip.{Tip}
use Rattle.kept_log.specs.declared.block.Start.TheVariants as starts
use Rattle.kept_log.proofs.Blocks.{head_long, parts_of, head_first}

pub begins_so : (xs p : List ℕ) → starts_with nat_eq xs p ≡ true → xs ≡ p ++ drop (length p) xs
begins_so xs p is =
    let same : p ≡ take (length p) xs = (bytes_eq-Decides p (take (length p) xs)).0 is in
    sym (ap (λ (l : List ℕ). l ++ drop (length p) xs) same ∙ take-append-drop (length p) xs)

pub so_begins : (xs p rest : List ℕ) → xs ≡ p ++ rest → starts_with nat_eq xs p ≡ true
so_begins xs p rest is = (bytes_eq-Decides p (take (length p) xs)).1 (sym (ap (take (length p)) is ∙ take_at p rest (length p) refl))

pub too_long : (tip : Tip) (bytes : List ℕ) (n : ℕ) → length tip.salt ≡ 16 → 44 ≤ length bytes → n ≡ number_in 4 (drop 40 bytes) → 381696 < n
    → StartsWith tip bytes starts.Other
too_long tip bytes n salt long is longer = λ more body rest small begins.
    let h = head_first tip bytes more body rest salt small long begins in
    omega (arith, longer, small, is, h.counted)

pub too_short : (tip : Tip) (bytes : List ℕ) (n : ℕ) → length tip.salt ≡ 16 → n ≡ number_in 4 (drop 40 bytes) → length bytes < 44 + n → StartsWith tip bytes starts.Short
too_short tip bytes n salt is few = λ body rest small begins.
    let p = parts_of tip bytes body rest salt small begins in
    omega (arith, few, is, p.long, p.counted)

-- the body that a block of these bytes would have
module _ (tip : Tip) (bytes first : List ℕ) (n : ℕ) (salt : length tip.salt ≡ 16) (is : n ≡ number_in 4 (drop 40 bytes)) (all : 44 + n ≤ length bytes) (first_is : first ≡ head tip (take n (drop 44 bytes))) where
  abbrev body : List ℕ
  body = take n (drop 44 bytes)

  body_long : length body ≡ n
  body_long = length-take-le n (drop 44 bytes) (omega (arith, all, length-drop 44 bytes))

  pub is_block : (digest : List ℕ) → digest ≡ seal tip body → n ≤ 381696 → starts_with nat_eq bytes first ≡ true → StartsWith tip bytes (starts.Block n digest)
  is_block digest sealed few begins =
      let long : length first ≡ 44 = ap length first_is ∙ head_long tip body salt in
      let parts : bytes ≡ head tip body ++ (body ++ drop n (drop 44 bytes)) =
      begins_so bytes first begins ∙ (ap (λ k. first ++ drop k bytes) long ∙ (ap (λ (l : List ℕ). l ++ drop 44 bytes) first_is
      ∙ ap (λ (l : List ℕ). head tip body ++ l) (sym (take-append-drop n (drop 44 bytes))))) in
      (body, drop n (drop 44 bytes), parts ∙ sym (append_assoc (head tip body) body (drop n (drop 44 bytes))), body_long, few, sealed)

  pub is_other : starts_with nat_eq bytes first ≡ false → StartsWith tip bytes starts.Other
  is_other unlike = λ more found rest small begins.
      let h = head_first tip bytes more found rest salt small (omega (arith, all)) begins in
      let long : length found ≡ n = sym h.counted ∙ sym is in
      let same : body ≡ found = ap (λ k. take k (drop 44 bytes)) (sym long) ∙ h.body_is (omega (arith, all, long)) in
      both_ways (starts_with nat_eq bytes first) unlike
      (so_begins bytes first (drop 44 bytes) (h.is ∙ ap (λ (l : List ℕ). l ++ drop 44 bytes) (ap (head tip) (sym same) ∙ sym first_is)))

-- a mark
pub is_mark : (tip : Tip) (at : ℕ) (bytes : List ℕ) (number : ℕ) → length tip.salt ≡ 16 → 24 ≤ length bytes → starts_with nat_eq bytes tip.salt ≡ true → number ≡ number_in 8 (drop 16 bytes)
    → (tip.number < number) ⊎ ((tip.number ≡ number) × (0 < at)) → IsMark tip at bytes
is_mark tip at bytes number salt long begins is later = record {
  behind = drop 16 bytes;
  is = begins_so bytes tip.salt begins ∙ ap (λ k. tip.salt ++ drop k bytes) salt;
  long = omega (arith, long, length-drop 16 bytes);
  later = subst (λ n. (tip.number < n) ⊎ ((tip.number ≡ n) × (0 < at))) is later;
}

mark_behind : (tip : Tip) (at : ℕ) (bytes : List ℕ) → length tip.salt ≡ 16 → (m : IsMark tip at bytes) → drop 16 bytes ≡ m.behind
mark_behind tip at bytes salt m = ap (drop 16) m.is ∙ drop_at tip.salt m.behind 16 salt

pub mark_long : (tip : Tip) (at : ℕ) (bytes : List ℕ) → length tip.salt ≡ 16 → IsMark tip at bytes → 24 ≤ length bytes
mark_long tip at bytes salt m = omega (arith, m.long, salt, ap length m.is, length-append tip.salt m.behind)

pub mark_begins : (tip : Tip) (at : ℕ) (bytes : List ℕ) → IsMark tip at bytes → starts_with nat_eq bytes tip.salt ≡ true
mark_begins tip at bytes m = so_begins bytes tip.salt m.behind m.is

pub mark_later : (tip : Tip) (at : ℕ) (bytes : List ℕ) (number : ℕ) → length tip.salt ≡ 16 → number ≡ number_in 8 (drop 16 bytes) → IsMark tip at bytes
    → (tip.number < number) ⊎ ((tip.number ≡ number) × (0 < at))
mark_later tip at bytes number salt is m =
    subst (λ n. (tip.number < n) ⊎ ((tip.number ≡ n) × (0 < at))) (sym (is ∙ ap (number_in 8) (mark_behind tip at bytes salt m))) m.later

-- no mark up to a place, and none behind it
pub followed_at : (tip : Tip) (bytes : List ℕ) (at : ℕ) → at ≤ length bytes → IsMark tip at (drop at bytes) → IsFollowed tip bytes
followed_at tip bytes at few mark =
    let long : length (take at bytes) ≡ at = length-take-le at bytes few in
    (take at bytes, drop at bytes, sym (take-append-drop at bytes), subst (λ n. IsMark tip n (drop at bytes)) (sym long) mark)

pub none_followed : (tip : Tip) (bytes : List ℕ) → length tip.salt ≡ 16 → ((at : ℕ) → at < length bytes → IsMark tip at (drop at bytes) → ⊥) → IsFollowed tip bytes → ⊥
none_followed tip bytes salt none (before, rest, is, mark) =
    let there : drop (length before) bytes ≡ rest = ap (drop (length before)) is ∙ drop_at before rest (length before) refl in
    none (length before) (omega (arith, mark_long tip (length before) rest salt mark, ap length is, length-append before rest)) (subst (IsMark tip (length before)) (sym there) mark)

-- a number is read from the first bytes
number_first : (width : ℕ) (xs ys : List ℕ) → width ≤ length xs → number_from width (xs ++ ys) ≡ number_from width xs
number_first zero xs ys few = refl
number_first (suc width) [] ys few = absurd (omega (arith, few))
number_first (suc width) (x ∷ xs) ys few = ap (λ n. x * 256 ^ width + n) (number_first width xs ys (omega (arith, few)))

number_more : (xs ys : List ℕ) → 8 ≤ length xs → number_in 8 (xs ++ ys) ≡ number_in 8 xs
unfolding number_in
number_more xs ys few = number_first 8 xs ys few

-- what follows in a part follows in all of it
pub followed_more : (tip : Tip) (bytes more : List ℕ) → IsFollowed tip bytes → IsFollowed tip (bytes ++ more)
followed_more tip bytes more (before, rest, is, mark) = (
  before,
  rest ++ more,
  ap (λ (l : List ℕ). l ++ more) is ∙ append_assoc before rest more,
  record {
    behind = mark.behind ++ more;
    is = ap (λ (l : List ℕ). l ++ more) mark.is ∙ append_assoc tip.salt mark.behind more;
    long = omega (arith, mark.long, length-append mark.behind more);
    later = subst (λ n. (tip.number < n) ⊎ ((tip.number ≡ n) × (0 < length before))) (sym (number_more mark.behind more mark.long)) mark.later;
  },
)

-- what isn't torn, whatever follows
pub too_much : (tip : Tip) (tail more : List ℕ) → 381740 < length tail → IsTorn tip (tail ++ more) → ⊥
too_much tip tail more longer torn = omega (arith, longer, torn.few, length-append tail more)

pub not_torn : (tip : Tip) (tail more : List ℕ) → IsFollowed tip tail → IsTorn tip (tail ++ more) → ⊥
not_torn tip tail more follows torn = torn.last (followed_more tip tail more follows)
