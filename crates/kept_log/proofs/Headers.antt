-- What the first bytes of a file say of it.
use Rattle.std.proofs.Common.{◌≡◌, ◌∙◌, inl, inr, ℕ, ◌+◌, ◌<◌, ◌≤◌, true, false, nat_eq, List, ◌++◌, length, take, drop, codes, refl, sym, ap, subst, arith, append_assoc, append-nil, length-append, length-drop}
use Rattle.std.specs.List.{starts_with}
use Rattle.std.proofs.lemmas.Bool.{both_ways}
use Rattle.std.proofs.lemmas.List.{take_at, drop_at, length-take-le, take-append-drop, drop-drop, take-append-le, drop-append-le}
use Rattle.kept_log.specs.Format.{magic, salt_of, header}
use Rattle.kept_log.specs.Startup.{IsOlder, IsUnfinished, HasNoHeader}
use Rattle.kept_log.specs.ReadSteps.{HasBegin}
use Rattle.kept_log.specs.declared.header.Begin.TheVariants as begins
use Rattle.kept_log.proofs.Blocks.{salt_long, header_long}
use Rattle.kept_log.proofs.Starts.{begins_so, so_begins}

abbrev pub older : List ℕ
older = codes "ftlog 1\n"

pub is_older : (bytes : List ℕ) → starts_with nat_eq bytes older ≡ true → IsOlder bytes
is_older bytes is = (drop 8 bytes, begins_so bytes older is)

pub not_older : (bytes : List ℕ) → starts_with nat_eq bytes older ≡ false → IsOlder bytes → ⊥
not_older bytes unlike (rest, is) = both_ways (starts_with nat_eq bytes older) unlike (so_begins bytes older rest is)

-- fewer bytes than a header has
pub is_front : (bytes : List ℕ) → starts_with nat_eq magic bytes ≡ true → (rest : List ℕ) × (bytes ++ rest ≡ magic)
is_front bytes is = (drop (length bytes) magic, sym (begins_so magic bytes is))

pub unfinished_front : (bytes : List ℕ) → length bytes < 32 → starts_with nat_eq magic bytes ≡ true → IsUnfinished bytes
unfinished_front bytes few is = let f = is_front bytes is in (few, (f.0, inl f.1))

pub unfinished_behind : (bytes : List ℕ) → length bytes < 32 → starts_with nat_eq bytes magic ≡ true → IsUnfinished bytes
unfinished_behind bytes few is = (few, (drop 8 bytes, inr (begins_so bytes magic is)))

not_unfinished : (bytes : List ℕ) → starts_with nat_eq magic bytes ≡ false → starts_with nat_eq bytes magic ≡ false → IsUnfinished bytes → ⊥
not_unfinished bytes unlike none (few, (rest, inl is)) = both_ways (starts_with nat_eq magic bytes) unlike (so_begins magic bytes rest (sym is))
not_unfinished bytes unlike none (few, (rest, inr is)) = both_ways (starts_with nat_eq bytes magic) none (so_begins bytes magic rest is)

few_for_header : (bytes made rest : List ℕ) → length bytes < 32 → length made ≡ 8 → bytes ≡ header made ++ rest → ⊥
few_for_header bytes made rest few time is = omega (arith, few, header_long made time, ap length is, length-append (header made) rest)

pub missing_few : (bytes : List ℕ) → length bytes < 32 → starts_with nat_eq bytes older ≡ false → starts_with nat_eq magic bytes ≡ false → starts_with nat_eq bytes magic ≡ false
    → HasBegin bytes begins.Missing
missing_few bytes few old unlike none = λ more end. elim end as (λ _. HasNoHeader (bytes ++ more)) [
  | inl long ↦ absurd (omega (arith, few, long))
  | inr nothing ↦ subst HasNoHeader (sym (ap (λ (l : List ℕ). bytes ++ l) nothing ∙ append-nil bytes)) (record {
    not_older = not_older bytes old;
    not_unfinished = not_unfinished bytes unlike none;
    no_header = λ made rest time is. few_for_header bytes made rest few time is;
  })
]

-- at least as many
module _ (bytes made salt : List ℕ) (long : 32 ≤ length bytes) (made_is : made ≡ take 8 (drop 8 bytes)) (salt_is : salt ≡ salt_of made) where
  abbrev behind : List ℕ
  behind = drop 16 bytes

  split : drop 8 bytes ≡ made ++ behind
  split = sym (take-append-drop 8 (drop 8 bytes)) ∙ (ap (λ (l : List ℕ). l ++ drop 8 (drop 8 bytes)) (sym made_is) ∙ ap (λ (l : List ℕ). made ++ l) (drop-drop 8 8 bytes))

  pub has_header : length made ≡ 8 → starts_with nat_eq bytes magic ≡ true → starts_with nat_eq behind salt ≡ true → HasBegin bytes (begins.Whole made)
  has_header time first second =
      let rest : List ℕ = drop (length salt) behind in
      let last : behind ≡ salt_of made ++ rest = begins_so behind salt second ∙ ap (λ (l : List ℕ). l ++ rest) salt_is in (
        time,
        (
          rest,
          begins_so bytes magic first
              ∙ (ap (λ (l : List ℕ). magic ++ l) (split ∙ (ap (λ (l : List ℕ). made ++ l) last ∙ sym (append_assoc made (salt_of made) rest)))
              ∙ sym (append_assoc magic (made ++ salt_of made) rest)),
        ),
      )

  -- what a header would say
  would : (more time rest : List ℕ) → length time ≡ 8 → bytes ++ more ≡ header time ++ rest → (starts_with nat_eq bytes magic ≡ true) × (starts_with nat_eq behind salt ≡ true)
  would more time rest eight is =
      let parts : bytes ++ more ≡ magic ++ ((time ++ salt_of time) ++ rest) = is ∙ append_assoc magic (time ++ salt_of time) rest in
      let first : take 8 bytes ≡ magic =
      sym (take-append-le 8 bytes more (omega (arith, long))) ∙ (ap (take 8) parts ∙ take_at magic ((time ++ salt_of time) ++ rest) 8 refl) in
      let second : drop 8 bytes ++ more ≡ time ++ (salt_of time ++ rest) =
      sym (drop-append-le 8 bytes more (omega (arith, long)))
      ∙ (ap (drop 8) parts ∙ (drop_at magic ((time ++ salt_of time) ++ rest) 8 refl ∙ append_assoc time (salt_of time) rest)) in
      let spread : made ++ (behind ++ more) ≡ time ++ (salt_of time ++ rest) =
      sym (append_assoc made behind more) ∙ (ap (λ (l : List ℕ). l ++ more) (sym split) ∙ second) in
      let eight_here : length made ≡ 8 = made_long in
      let same : made ≡ time = sym (take_at made (behind ++ more) 8 eight_here) ∙ (ap (take 8) spread ∙ take_at time (salt_of time ++ rest) 8 eight) in
      let last : behind ++ more ≡ salt ++ rest =
      sym (drop_at made (behind ++ more) 8 eight_here)
      ∙ (ap (drop 8) spread ∙ (drop_at time (salt_of time ++ rest) 8 eight ∙ ap (λ (l : List ℕ). l ++ rest) (ap salt_of (sym same) ∙ sym salt_is))) in
      let salt_16 : length salt ≡ 16 = ap length salt_is ∙ salt_long made in
      let front : take 16 behind ≡ salt =
      sym (take-append-le 16 behind more (omega (arith, long, behind_long))) ∙ (ap (take 16) last ∙ take_at salt rest 16 salt_16) in (
        so_begins bytes magic (drop 8 bytes) (sym (take-append-drop 8 bytes) ∙ ap (λ (l : List ℕ). l ++ drop 8 bytes) first),
        so_begins behind salt (drop 16 behind) (sym (take-append-drop 16 behind) ∙ ap (λ (l : List ℕ). l ++ drop 16 behind) front),
      )
    where
      behind_long : 16 + length behind ≡ length bytes
      behind_long = omega (arith, long, length-drop 16 bytes)

      made_long : length made ≡ 8
      made_long = ap length made_is ∙ length-take-le 8 (drop 8 bytes) (omega (arith, long, length-drop 8 bytes))

  pub missing_long : (IsOlder bytes → ⊥) → ((starts_with nat_eq bytes magic ≡ true) → (starts_with nat_eq behind salt ≡ true) → ⊥) → HasBegin bytes begins.Missing
  missing_long old unlike = λ more end. record {
    not_older = λ o. old (
      drop 8 bytes,
      sym (take-append-drop 8 bytes) ∙ ap (λ (l : List ℕ). l ++ drop 8 bytes)
          (sym (take-append-le 8 bytes more (omega (arith, long))) ∙ (ap (take 8) o.1 ∙ take_at older o.0 8 refl)),
    );
    not_unfinished = λ short. omega (arith, long, short.0, length-append bytes more);
    no_header = λ time rest eight is. let w = would more time rest eight is in unlike w.0 w.1;
  }
