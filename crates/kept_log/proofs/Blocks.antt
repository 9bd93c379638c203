-- The parts of a block, and what they say of bytes that begin with one.
use Rattle.std.proofs.Common.{◌≡◌, ◌∙◌, ◌⊎◌, inl, inr, ℕ, ◌+◌, ◌<◌, ◌≤◌, List, [], ◌∷◌, ◌++◌, length, take, drop, refl, sym, ap, arith, append_assoc, append-nil, length-append, length-drop}
use Rattle.std.specs.Str.{bytes_eq}
use Rattle.std.proofs.lemmas.Bool.{both_ways, cases_lt}
use Rattle.std.proofs.lemmas.List.{take_at, drop_at, length-take-le, take-append-drop, take-append-le, drop-append-le}
use Rattle.std.proofs.lemmas.Slice.Eq.{bytes_eq-Decides}
use Rattle.sha2.specs.Sha256.{sha256}
use Rattle.sha2.proofs.Facts256.{length-sha256}
use Rattle.ft_io.proofs.Choices.{by_cases}
use Rattle.seq_arith.specs.MessageGrammar.{number_bytes, number_in}
use Rattle.seq_arith.proofs.MessageSpelling.{number_length, number_back}
use Rattle.kept_log.specs.Format.{magic, digest, salt_of, header, seal, head, block, first_tip, next_tip, tip_behind, chain, front, tip_of, IsRound, BeginsNone}
use Rattle.kept_log.specs.declared.tip.Tip.{Tip}

pub same_front : (xs ys us vs : List ℕ) → length xs ≡ length ys → xs ++ us ≡ ys ++ vs → (xs ≡ ys) × (us ≡ vs)
same_front xs ys us vs long is = (
  sym (take_at xs us (length xs) refl) ∙ ap (λ (l : List ℕ). take (length xs) l) is ∙ take_at ys vs (length xs) (sym long),
  sym (drop_at xs us (length xs) refl) ∙ ap (λ (l : List ℕ). drop (length xs) l) is ∙ drop_at ys vs (length xs) (sym long),
)

pub digest_long : (bytes : List ℕ) → length (digest bytes) ≡ 16
unfolding digest
digest_long bytes = length-take-le 16 (sha256 bytes) (omega (arith, length-sha256 bytes))

pub salt_long : (made : List ℕ) → length (salt_of made) ≡ 16
unfolding salt_of
salt_long made = digest_long (magic ++ made)

pub seal_long : (tip : Tip) (body : List ℕ) → length (seal tip body) ≡ 16
unfolding seal
seal_long tip body = digest_long (((tip.previous ++ number_bytes 8 tip.number) ++ number_bytes 4 (length body)) ++ body)

pub header_long : (made : List ℕ) → length made ≡ 8 → length (header made) ≡ 32
header_long made time =
    let eight : length magic ≡ 8 = refl in
    omega (arith, eight, time, salt_long made, length-append magic (made ++ salt_of made), length-append made (salt_of made))

-- all of a head but the length of the body
abbrev pub prefix : Tip → List ℕ → List ℕ
prefix tip body = tip.salt ++ (number_bytes 8 tip.number ++ seal tip body)

prefix_long : (tip : Tip) (body : List ℕ) → length tip.salt ≡ 16 → length (prefix tip body) ≡ 40
prefix_long tip body salt =
    omega (
      arith,
      salt,
      number_length 8 tip.number,
      seal_long tip body,
      length-append tip.salt (number_bytes 8 tip.number ++ seal tip body),
      length-append (number_bytes 8 tip.number) (seal tip body),
    )

head_is : (tip : Tip) (body : List ℕ) → head tip body ≡ prefix tip body ++ number_bytes 4 (length body)
unfolding head
head_is tip body =
    ap (λ (l : List ℕ). tip.salt ++ l) (sym (append_assoc (number_bytes 8 tip.number) (seal tip body) (number_bytes 4 (length body))))
    ∙ sym (append_assoc tip.salt (number_bytes 8 tip.number ++ seal tip body) (number_bytes 4 (length body)))

pub head_long : (tip : Tip) (body : List ℕ) → length tip.salt ≡ 16 → length (head tip body) ≡ 44
head_long tip body salt =
    omega (arith, ap length (head_is tip body), length-append (prefix tip body) (number_bytes 4 (length body)), prefix_long tip body salt, number_length 4 (length body))

-- the length of the body is at byte 40
counted_there : (tip : Tip) (body behind : List ℕ) → length tip.salt ≡ 16 → IsRound body → number_in 4 (drop 40 (head tip body ++ behind)) ≡ length body
counted_there tip body behind salt small =
    let parts : head tip body ++ behind ≡ prefix tip body ++ (number_bytes 4 (length body) ++ behind) =
    ap (λ (l : List ℕ). l ++ behind) (head_is tip body) ∙ append_assoc (prefix tip body) (number_bytes 4 (length body)) behind in
    ap (λ (l : List ℕ). number_in 4 (drop 40 l)) parts
    ∙ (ap (number_in 4) (drop_at (prefix tip body) (number_bytes 4 (length body) ++ behind) 40 (prefix_long tip body salt))
    ∙ number_back 4 (length body) behind (omega (arith, small)))

-- what bytes say that begin with a block's head, as far as they go
pub record HasHead (tip : Tip) (bytes body : List ℕ) : Type 0 where
  pub is : bytes ≡ head tip body ++ drop 44 bytes
  pub counted : number_in 4 (drop 40 bytes) ≡ length body
  pub body_is : 44 + length body ≤ length bytes → take (length body) (drop 44 bytes) ≡ body

pub head_first : (tip : Tip) (bytes more body rest : List ℕ) → length tip.salt ≡ 16 → IsRound body → 44 ≤ length bytes → bytes ++ more ≡ block tip body ++ rest → HasHead tip bytes body
head_first tip bytes more body rest salt small long is =
    let parts : bytes ++ more ≡ head tip body ++ (body ++ rest) = is ∙ append_assoc (head tip body) body rest in
    let first : take 44 bytes ≡ head tip body =
    sym (take-append-le 44 bytes more long) ∙ (ap (take 44) parts ∙ take_at (head tip body) (body ++ rest) 44 (head_long tip body salt)) in
    let begins : bytes ≡ head tip body ++ drop 44 bytes = sym (take-append-drop 44 bytes) ∙ ap (λ (l : List ℕ). l ++ drop 44 bytes) first in
    let behind : drop 44 bytes ++ more ≡ body ++ rest =
    sym (drop-append-le 44 bytes more long) ∙ (ap (drop 44) parts ∙ drop_at (head tip body) (body ++ rest) 44 (head_long tip body salt)) in
    record {
      is = begins;
      counted = ap (λ (l : List ℕ). number_in 4 (drop 40 l)) begins ∙ counted_there tip body (drop 44 bytes) salt small;
      body_is = λ all.
          sym (take-append-le (length body) (drop 44 bytes) more (omega (arith, all, length-drop 44 bytes))) ∙ (ap (take (length body)) behind ∙ take_at body rest (length body) refl);
    }

-- what bytes say that begin with a block
pub record HasParts (tip : Tip) (bytes body rest : List ℕ) : Type 0 where
  pub long : length bytes ≡ 44 + length body + length rest
  pub counted : number_in 4 (drop 40 bytes) ≡ length body
  pub body_is : take (length body) (drop 44 bytes) ≡ body
  pub rest_is : drop (length body) (drop 44 bytes) ≡ rest
  pub is : bytes ≡ head tip body ++ drop 44 bytes

pub parts_of : (tip : Tip) (bytes body rest : List ℕ) → length tip.salt ≡ 16 → IsRound body → bytes ≡ block tip body ++ rest → HasParts tip bytes body rest
parts_of tip bytes body rest salt small is =
    let parts : bytes ≡ head tip body ++ (body ++ rest) = is ∙ append_assoc (head tip body) body rest in
    let behind : drop 44 bytes ≡ body ++ rest = ap (drop 44) parts ∙ drop_at (head tip body) (body ++ rest) 44 (head_long tip body salt) in
    record {
      long = omega (arith, ap length parts, length-append (head tip body) (body ++ rest), length-append body rest, head_long tip body salt);
      counted = ap (λ (l : List ℕ). number_in 4 (drop 40 l)) parts ∙ counted_there tip body (body ++ rest) salt small;
      body_is = ap (take (length body)) behind ∙ take_at body rest (length body) refl;
      rest_is = ap (drop (length body)) behind ∙ drop_at body rest (length body) refl;
      is = parts ∙ ap (λ (l : List ℕ). head tip body ++ l) (sym behind);
    }

-- bytes begin with one block only
pub block_once : (tip : Tip) (body other rest more : List ℕ) → length tip.salt ≡ 16 → IsRound body → IsRound other → block tip body ++ rest ≡ block tip other ++ more
    → (body ≡ other) × (rest ≡ more)
block_once tip body other rest more salt small also is =
    let a = parts_of tip (block tip body ++ rest) body rest salt small refl in
    let b = parts_of tip (block tip body ++ rest) other more salt also is in
    let long : length body ≡ length other = sym a.counted ∙ b.counted in (
      sym a.body_is ∙ (ap (λ n. take n (drop 44 (block tip body ++ rest))) long ∙ b.body_is),
      sym a.rest_is ∙ (ap (λ n. drop n (drop 44 (block tip body ++ rest))) long ∙ b.rest_is),
    )

pub none_in_few : (tip : Tip) (bytes : List ℕ) → length tip.salt ≡ 16 → length bytes < 44 → BeginsNone tip bytes
none_in_few tip bytes salt few = λ body rest small is. omega (arith, few, (parts_of tip bytes body rest salt small is).long)

-- bytes begin with a block, or with none
abbrev pub Begins : Tip → List ℕ → Type 0
Begins tip bytes = (body : List ℕ) × (rest : List ℕ) × IsRound body × (bytes ≡ block tip body ++ rest)

module _ (tip : Tip) (bytes : List ℕ) (salt : length tip.salt ≡ 16) where
  abbrev counted_here : ℕ
  counted_here = number_in 4 (drop 40 bytes)

  abbrev body_here : List ℕ
  body_here = take counted_here (drop 44 bytes)

  abbrev rest_here : List ℕ
  rest_here = drop counted_here (drop 44 bytes)

  only_here : (body behind : List ℕ) → IsRound body → bytes ≡ block tip body ++ behind → (body_here ≡ body) × (bytes ≡ block tip body_here ++ rest_here)
  only_here body behind small is =
      let p = parts_of tip bytes body behind salt small is in
      let own : body_here ≡ body = ap (λ k. take k (drop 44 bytes)) p.counted ∙ p.body_is in
      let left : rest_here ≡ behind = ap (λ k. drop k (drop 44 bytes)) p.counted ∙ p.rest_is in
      (own, is ∙ (ap (λ (l : List ℕ). block tip l ++ behind) (sym own) ∙ ap (λ (l : List ℕ). block tip body_here ++ l) (sym left)))

  pub begins_or_not : Begins tip bytes ⊎ BeginsNone tip bytes
  begins_or_not =
      by_cases (bytes_eq bytes (block tip body_here ++ rest_here))
      (λ t. elim (cases_lt 381696 (length body_here)) as (λ _. Begins tip bytes ⊎ BeginsNone tip bytes) [
        | inl longer ↦ inr (λ body behind small is. omega (arith, longer, small, ap length (only_here body behind small is).0))
        | inr few ↦ inl (body_here, rest_here, few, (bytes_eq-Decides bytes (block tip body_here ++ rest_here)).0 t)
      ])
      (λ t. inr (λ body behind small is.
      both_ways (bytes_eq bytes (block tip body_here ++ rest_here)) t ((bytes_eq-Decides bytes (block tip body_here ++ rest_here)).1 (only_here body behind small is).1)))

-- blocks after one another
chain_append : (tip : Tip) (bodies others : List (List ℕ)) → chain tip (bodies ++ others) ≡ chain tip bodies ++ chain (tip_behind tip bodies) others
chain_append tip [] others = refl
chain_append tip (body ∷ bodies) others =
    ap (λ (l : List ℕ). block tip body ++ l) (chain_append (next_tip tip body) bodies others)
    ∙ sym (append_assoc (block tip body) (chain (next_tip tip body) bodies) (chain (tip_behind (next_tip tip body) bodies) others))

tip_append : (tip : Tip) (bodies others : List (List ℕ)) → tip_behind tip (bodies ++ others) ≡ tip_behind (tip_behind tip bodies) others
tip_append tip [] others = refl
tip_append tip (body ∷ bodies) others = tip_append (next_tip tip body) bodies others

pub tip_push : (made : List ℕ) (bodies : List (List ℕ)) (body : List ℕ) → tip_of made (bodies ++ body ∷ []) ≡ next_tip (tip_of made bodies) body
tip_push made bodies body = tip_append (first_tip made) bodies (body ∷ [])

pub chain_push : (made : List ℕ) (bodies : List (List ℕ)) (body : List ℕ)
    → chain (first_tip made) (bodies ++ body ∷ []) ≡ chain (first_tip made) bodies ++ block (tip_of made bodies) body
chain_push made bodies body =
    chain_append (first_tip made) bodies (body ∷ []) ∙ ap (λ (l : List ℕ). chain (first_tip made) bodies ++ l) (append-nil (block (tip_of made bodies) body))

pub front_push : (made : List ℕ) (bodies : List (List ℕ)) (body : List ℕ) → front made (bodies ++ body ∷ []) ≡ front made bodies ++ block (tip_of made bodies) body
front_push made bodies body =
    ap (λ (l : List ℕ). header made ++ l) (chain_push made bodies body)
    ∙ sym (append_assoc (header made) (chain (first_tip made) bodies) (block (tip_of made bodies) body))

salt_stays : (tip : Tip) (bodies : List (List ℕ)) → (tip_behind tip bodies).salt ≡ tip.salt
salt_stays tip [] = refl
salt_stays tip (body ∷ bodies) = salt_stays (next_tip tip body) bodies

pub salt_there : (made : List ℕ) (bodies : List (List ℕ)) → length (tip_of made bodies).salt ≡ 16
salt_there made bodies = ap length (salt_stays (first_tip made) bodies) ∙ salt_long made

end_behind : (tip : Tip) (bodies : List (List ℕ)) → length tip.salt ≡ 16 → (tip_behind tip bodies).end ≡ tip.end + length (chain tip bodies)
end_behind tip [] salt = omega arith
end_behind tip (body ∷ bodies) salt =
    omega (arith, end_behind (next_tip tip body) bodies salt, length-append (block tip body) (chain (next_tip tip body) bodies), length-append (head tip body) body, head_long tip body salt)

-- a journal's length is where its next block begins
pub end_is : (made : List ℕ) (bodies : List (List ℕ)) → length made ≡ 8 → (tip_of made bodies).end ≡ length (front made bodies)
end_is made bodies time =
    omega (arith, end_behind (first_tip made) bodies (salt_long made), header_long made time, length-append (header made) (chain (first_tip made) bodies))

-- a block after those of a front
pub one_behind : (made : List ℕ) (bodies : List (List ℕ)) (body rest left behind : List ℕ) → left ≡ front made bodies ++ behind → behind ≡ block (tip_of made bodies) body ++ rest
    → left ≡ front made (bodies ++ body ∷ []) ++ rest
one_behind made bodies body rest left behind is begins =
    is ∙ (ap (λ (l : List ℕ). front made bodies ++ l) begins
    ∙ (sym (append_assoc (front made bodies) (block (tip_of made bodies) body) rest) ∙ ap (λ (l : List ℕ). l ++ rest) (sym (front_push made bodies body))))
