-- Runs of a service: more reads only add to the output, and bytes that aren't read change nothing.
use Rattle.std.proofs.Common.{◌≡◌, ℕ, zero, suc, ◌+◌, ◌-◌, ◌≤◌, ◌^◌, Bool, true, false, le_refl, refl, sym, ap, ap₂, ◌∙◌, subst, true≢false, sum, List, [], ◌∷◌, ◌++◌, length, take, drop, arith, length-append, length-drop, length-take}
use Rattle.std.proofs.lemmas.List.{take-append-le}
use Rattle.std.proofs.lemmas.List.Sums.{sum_by-cons}
use Rattle.server_trait.specs.Service.{Machine, Run, begun, with_served, fed, fold_from, fold, cut, reference}
use Rattle.ft_model.specs.Offset.{one_if}
use Rattle.ft_model.specs.Growth.{IsPrefix}
use Rattle.ft_model.proofs.Lists.{prefix_refl, prefix_more, prefix_trans}
use Rattle.ft_io.proofs.Choices.{holds_if}

-- a run goes on: its output is a front of the later one's, and once closed it stays as it is
pub record RunExtends {State : Type 0} (before after : Run State) : Type 0 where
  pub output : IsPrefix before.output after.output
  pub closed : before.closed ≡ true → (after.output ≡ before.output) × (after.closed ≡ true)

pub goes_refl : {State : Type 0} (run : Run State) → RunExtends run run
goes_refl run = record { output = prefix_refl run.output; closed = λ c. (refl, c) }

pub goes_trans : {State : Type 0} (a b c : Run State) → RunExtends a b → RunExtends b c → RunExtends a c
goes_trans a b c p q = record {
  output = prefix_trans a.output b.output c.output p.output q.output;
  closed = λ x. let one = p.closed x in let two = q.closed one.1 in (two.0 ∙ one.0, two.1);
}

fed_goes : {State : Type 0} (service : Machine State) (run : Run State) (chunk : List ℕ) → RunExtends run (fed service run chunk)
fed_goes service run chunk =
    holds_if (RunExtends run) run.closed run (with_served run (service.after run.state chunk)) (λ t. goes_refl run)
    (λ t. record { output = prefix_more run.output (service.after run.state chunk).output; closed = λ c. absurd (true≢false (sym c ∙ t)) })

fold_goes : {State : Type 0} (service : Machine State) (run : Run State) (chunks : List (List ℕ)) → RunExtends run (fold_from service run chunks)
fold_goes service run [] = goes_refl run
fold_goes service run (chunk ∷ chunks) =
    goes_trans run (fed service run chunk) (fold_from service (fed service run chunk) chunks) (fed_goes service run chunk) (fold_goes service (fed service run chunk) chunks)

-- what is left when so much is read
abbrev pub rest_of : List ℕ → List ℕ → List ℕ
rest_of bytes [] = bytes
rest_of bytes (n ∷ lengths) = rest_of (drop n bytes) lengths

cut_append : (bytes xs ys : List ℕ) → cut bytes (xs ++ ys) ≡ cut bytes xs ++ cut (rest_of bytes xs) ys
cut_append bytes [] ys = refl
cut_append bytes (x ∷ xs) ys = ap (λ l. take x bytes ∷ l) (cut_append (drop x bytes) xs ys)

fold_append : {State : Type 0} (service : Machine State) (run : Run State) (xs ys : List (List ℕ)) → fold_from service run (xs ++ ys) ≡ fold_from service (fold_from service run xs) ys
fold_append service run [] ys = refl
fold_append service run (x ∷ xs) ys = fold_append service (fed service run x) xs ys

-- a run over more reads begins with the run over these
pub more_reads : {State : Type 0} (service : Machine State) (bytes xs ys : List ℕ)
    → reference service bytes (xs ++ ys) ≡ fold_from service (reference service bytes xs) (cut (rest_of bytes xs) ys)
unfolding reference
more_reads service bytes xs ys = ap (fold_from service (begun service)) (cut_append bytes xs ys) ∙ fold_append service (begun service) (cut bytes xs) (cut (rest_of bytes xs) ys)

pub reads_proceed : {State : Type 0} (service : Machine State) (bytes xs zs : List ℕ) → IsPrefix xs zs → RunExtends (reference service bytes xs) (reference service bytes zs)
reads_proceed service bytes xs zs p =
    subst (λ l. RunExtends (reference service bytes xs) (reference service bytes l)) p.1
    (subst (RunExtends (reference service bytes xs)) (sym (more_reads service bytes xs p.0)) (fold_goes service (reference service bytes xs) (cut (rest_of bytes xs) p.0)))

pub drop_within : (n : ℕ) (xs ys : List ℕ) → n ≤ length xs → drop n (xs ++ ys) ≡ drop n xs ++ ys
drop_within zero xs ys h = refl
drop_within (suc n) [] ys h = absurd (omega (arith, h))
drop_within (suc n) (x ∷ xs) ys h = drop_within n xs ys (omega (arith, h))

pub sum_more : (n : ℕ) (lengths : List ℕ) → sum (n ∷ lengths) ≡ n + sum lengths
sum_more n lengths = sum_by-cons (λ x. x) n lengths

pub cut_within : (bytes more lengths : List ℕ) → sum lengths ≤ length bytes → cut (bytes ++ more) lengths ≡ cut bytes lengths
cut_within bytes more [] h = refl
cut_within bytes more (n ∷ lengths) h =
    let whole : sum (n ∷ lengths) ≡ n + sum lengths = sum_more n lengths in
    let low : n ≤ length bytes = omega (arith, h, whole) in
    let left : length (drop n bytes) ≡ length bytes - n = length-drop n bytes in
    let within : sum lengths ≤ length (drop n bytes) = omega (arith, h, whole, left) in
    ap₂ ◌∷◌ (take-append-le n bytes more low) (ap (λ l. cut l lengths) (drop_within n bytes more low) ∙ cut_within (drop n bytes) more lengths within)

-- bytes that aren't read change nothing
pub more_bytes : {State : Type 0} (service : Machine State) (bytes whole lengths : List ℕ) → IsPrefix bytes whole → sum lengths ≤ length bytes
    → reference service whole lengths ≡ reference service bytes lengths
unfolding reference
more_bytes service bytes whole lengths p h =
    subst (λ l. fold service (cut l lengths) ≡ fold service (cut bytes lengths)) p.1 (ap (fold service) (cut_within bytes p.0 lengths h))

pub prefix_length : (xs ys : List ℕ) → IsPrefix xs ys → length xs ≤ length ys
prefix_length xs ys p =
    let more = length-append xs p.0 in
    let whole : length (xs ++ p.0) ≡ length ys = ap length p.1 in
    omega (arith, more, whole)

by_closed : {State : Type 0} (a b : Run State) (c : Bool) → a.closed ≡ c → RunExtends a b → length a.output + one_if c ≤ length b.output + one_if b.closed
by_closed a b true e g =
    let same = g.closed e in
    let size : length b.output ≡ length a.output = ap length same.0 in
    let one : one_if b.closed ≡ 1 = ap one_if same.1 in
    omega (arith, size, one)
by_closed a b false e g = let low = prefix_length a.output b.output g.output in omega (arith, low)

pub units_proceed : {State : Type 0} (a b : Run State) → RunExtends a b → length a.output + one_if a.closed ≤ length b.output + one_if b.closed
units_proceed a b g = by_closed a b a.closed refl g

fed_small : {State : Type 0} (service : Machine State) (run : Run State) (chunk : List ℕ)
    → ((s : State) (chunk : List ℕ) → length chunk ≤ 2048 → length (service.after s chunk).output ≤ 2 ^ 20) → length chunk ≤ 2048
    → length (fed service run chunk).output ≤ length run.output + 2 ^ 20
fed_small service run chunk small h =
    holds_if (λ r. length r.output ≤ length run.output + 2 ^ 20) run.closed run (with_served run (service.after run.state chunk)) (λ t. omega arith)
    (λ t. let more = length-append run.output (service.after run.state chunk).output in
    let low = small run.state chunk h in omega (arith, more, low))

-- one more read adds at most a mebibyte
pub one_more_read : {State : Type 0} (service : Machine State) (bytes lengths : List ℕ) (n : ℕ)
    → ((s : State) (chunk : List ℕ) → length chunk ≤ 2048 → length (service.after s chunk).output ≤ 2 ^ 20) → n ≤ 2048
    → length (reference service bytes (lengths ++ n ∷ [])).output ≤ length (reference service bytes lengths).output + 2 ^ 20
one_more_read service bytes lengths n small h =
    subst (λ r. length r.output ≤ length (reference service bytes lengths).output + 2 ^ 20) (sym (more_reads service bytes lengths (n ∷ [])))
    (fed_small service (reference service bytes lengths) (take n (rest_of bytes lengths)) small
    (let size = length-take n (rest_of bytes lengths) in omega (arith, size, h)))

pub sum_append : (xs : List ℕ) (n : ℕ) → sum (xs ++ n ∷ []) ≡ sum xs + n
sum_append [] n = refl
sum_append (x ∷ xs) n =
    let one = sum_more x (xs ++ n ∷ []) in
    let two = sum_more x xs in
    let three = sum_append xs n in
    omega (arith, one, two, three)

pub sum_take : (k : ℕ) (xs : List ℕ) → sum (take k xs) ≤ sum xs
sum_take zero xs = omega arith
sum_take (suc k) [] = le_refl 0
sum_take (suc k) (x ∷ xs) =
    let one = sum_more x (take k xs) in
    let two = sum_more x xs in
    let three = sum_take k xs in
    omega (arith, one, two, three)
