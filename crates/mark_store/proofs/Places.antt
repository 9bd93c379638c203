-- The place of a key among keys, and what stands at that place of lists beside them.
use Rattle.std.proofs.Common.{◌≡◌, ◌∙◌, ℕ, zero, suc, ◌+◌, ◌≤◌, ◌==◌, not, nat_lt, Bool, true, false, cond, refl, sym, ap, subst, arith, Option, Some, None, option_map, is_some, List, [], ◌∷◌, ◌++◌, length, map, find, slice_get, true≢false, if◌then◌else◌}
use Rattle.std.specs.Prelude.{slice_index_or}
use Rattle.std.specs.List.{position, prefix_len}
use Rattle.std.specs.Option.{option_map_or}
use Rattle.std.proofs.lemmas.Bool.{eqb-true}
use Rattle.ft_io.specs.declared.Key.{Key}
use Rattle.ft_io.specs.Key.{key_eq}
use Rattle.ft_io.proofs.Choices.{same_some}
use Rattle.ft_io.proofs.Numbers.{equal_itself}
use Rattle.ft_model.proofs.Lists.{same_key}
use Rattle.ft_model.proofs.PlayableLemmas.{same_either_way}
use Rattle.ft_model.specs.Log.{Entry}
use Rattle.logger_store.specs.Trim.{no_trim, trim_at, IsLeft, AreLeft}
use Rattle.logger_store.specs.declared.trimming.Trim.{Trim}
use Rattle.logger_store.proofs.LeftLogs.{one_less, one_more, some_more, same_key_left}

pub first_place : {A : Type 0} (p : A → Bool) (x : A) (xs : List A) → p x ≡ true → position p (x ∷ xs) ≡ Some 0
first_place p x xs is =
    ap (λ c. cond (nat_lt (cond (not c) (1 + prefix_len (λ k. not (p k)) xs) 0) (suc (length xs))) (Some (cond (not c) (1 + prefix_len (λ k. not (p k)) xs) 0)) None) is
    ∙ ap (λ b. cond b (Some 0) None) (some_more (length xs))

pub later_place : {A : Type 0} (p : A → Bool) (x : A) (xs : List A) → p x ≡ false → position p (x ∷ xs) ≡ option_map suc (position p xs)
later_place p x xs is =
    ap (λ c. cond (nat_lt (cond (not c) (1 + prefix_len (λ k. not (p k)) xs) 0) (suc (length xs))) (Some (cond (not c) (1 + prefix_len (λ k. not (p k)) xs) 0)) None) is
    ∙ (ap (λ n. cond (nat_lt n (suc (length xs))) (Some n) None) (one_more (prefix_len (λ k. not (p k)) xs))
    ∙ (ap (λ b. cond b (Some (suc (prefix_len (λ k. not (p k)) xs))) None) (one_less (prefix_len (λ k. not (p k)) xs) (length xs))
    ∙ by (nat_lt (prefix_len (λ k. not (p k)) xs) (length xs)) (prefix_len (λ k. not (p k)) xs)))
  where
    by : (b : Bool) (n : ℕ) → cond b (Some (suc n)) None ≡ option_map suc (cond b (Some n) None)
    by true n = refl
    by false n = refl

pub nowhere : {X : Type 0} (d : X) (o : Option ℕ) → option_map_or (λ i. slice_index_or [] i d) o d ≡ d
nowhere d None = refl
nowhere d (Some zero) = refl
nowhere d (Some (suc i)) = refl

next_at : {X : Type 0} (d y : X) (ys : List X) (o : Option ℕ)
    → option_map_or (λ i. slice_index_or (y ∷ ys) i d) (option_map suc o) d ≡ option_map_or (λ i. slice_index_or ys i d) o d
next_at d y ys None = refl
next_at d y ys (Some i) = refl

-- keys that come after the others change nothing at the places of these
pub at_more : {X : Type 0} (d : X) (xs : List X) (p : Key → Bool) (keys more : List Key) → length xs ≤ length keys
    → option_map_or (λ i. slice_index_or xs i d) (position p (keys ++ more)) d ≡ option_map_or (λ i. slice_index_or xs i d) (position p keys) d
at_more d [] p keys more within = nowhere d (position p (keys ++ more)) ∙ sym (nowhere d (position p keys))
at_more d (x ∷ xs) p [] more within = absurd (omega (arith, within))
at_more d (x ∷ xs) p (k ∷ keys) more within = by (p k) refl (at_more d xs p keys more (omega (arith, within)))
  where
    by : (c : Bool) → p k ≡ c → option_map_or (λ i. slice_index_or xs i d) (position p (keys ++ more)) d ≡ option_map_or (λ i. slice_index_or xs i d) (position p keys) d
        → option_map_or (λ i. slice_index_or (x ∷ xs) i d) (position p (k ∷ keys ++ more)) d ≡ option_map_or (λ i. slice_index_or (x ∷ xs) i d) (position p (k ∷ keys)) d
    by true is rest = ap (λ o. option_map_or (λ i. slice_index_or (x ∷ xs) i d) o d) (first_place p k (keys ++ more) is ∙ sym (first_place p k keys is))
    by false is rest =
        ap (λ o. option_map_or (λ i. slice_index_or (x ∷ xs) i d) o d) (later_place p k (keys ++ more) is)
        ∙ (next_at d x xs (position p (keys ++ more)) ∙ (rest ∙ (sym (next_at d x xs (position p keys))
        ∙ ap (λ o. option_map_or (λ i. slice_index_or (x ∷ xs) i d) o d) (sym (later_place p k keys is)))))

one_back : (o : Option ℕ) (i : ℕ) → option_map suc o ≡ Some i → (j : ℕ) × (o ≡ Some j) × (i ≡ suc j)
one_back None i is = absurd (true≢false (sym (ap is_some is)))
one_back (Some j) i is = (j, refl, sym (same_some is))

never_first : (o : Option ℕ) → option_map suc o ≡ Some 0 → ⊥
never_first None is = true≢false (sym (ap is_some is))
never_first (Some j) is = absurd (omega (arith, same_some is))

-- where two keys stand at one place they are the same
pub same_place : (a b : Key) (keys : List Key) (i : ℕ) → position (key_eq a) keys ≡ Some i → position (key_eq b) keys ≡ Some i → key_eq a b ≡ true
same_place a b [] i at_a at_b = absurd (true≢false (sym (ap is_some at_a)))
same_place a b (k ∷ keys) i at_a at_b = by i (key_eq a k) (key_eq b k) refl refl at_a at_b (λ j p q. same_place a b keys j p q)
  where
    by : (i : ℕ) (c d : Bool) → key_eq a k ≡ c → key_eq b k ≡ d → position (key_eq a) (k ∷ keys) ≡ Some i → position (key_eq b) (k ∷ keys) ≡ Some i
        → ((j : ℕ) → position (key_eq a) keys ≡ Some j → position (key_eq b) keys ≡ Some j → key_eq a b ≡ true) → key_eq a b ≡ true
    by i true true p q at_a at_b rest = ap (key_eq a) (same_key b k q) ∙ p
    by i true false p q at_a at_b rest =
        let first : 0 ≡ i = same_some (sym (first_place (key_eq a) k keys p) ∙ at_a) in
        absurd (never_first (position (key_eq b) keys) (sym (later_place (key_eq b) k keys q) ∙ (at_b ∙ ap Some (sym first))))
    by i false true p q at_a at_b rest =
        let first : 0 ≡ i = same_some (sym (first_place (key_eq b) k keys q) ∙ at_b) in
        absurd (never_first (position (key_eq a) keys) (sym (later_place (key_eq a) k keys p) ∙ (at_a ∙ ap Some (sym first))))
    by i false false p q at_a at_b rest =
        let one = one_back (position (key_eq a) keys) i (sym (later_place (key_eq a) k keys p) ∙ at_a) in
        let two = one_back (position (key_eq b) keys) i (sym (later_place (key_eq b) k keys q) ∙ at_b) in
        let same : two.0 ≡ one.0 = omega (arith, one.2, two.2) in
        rest one.0 one.1 (two.1 ∙ ap Some same)

-- what is put at the place of one key is found there, and what stands at those of the others stays
pub put_at_key : {X : Type 0} (d x : X) (before after : List X) (keys : List Key) (key k : Key) (i : ℕ) → position (key_eq key) keys ≡ Some i
    → ((j : ℕ) → slice_index_or after j d ≡ (if j == i then x else slice_index_or before j d))
    → option_map_or (λ j. slice_index_or after j d) (position (key_eq k) keys) d
    ≡ (if key_eq k key then x else option_map_or (λ j. slice_index_or before j d) (position (key_eq k) keys) d)
put_at_key d x before after keys key k i at is = by (key_eq k key) refl (position (key_eq k) keys) refl
  where
    by : (c : Bool) → key_eq k key ≡ c → (o : Option ℕ) → position (key_eq k) keys ≡ o
        → option_map_or (λ j. slice_index_or after j d) o d ≡ (if c then x else option_map_or (λ j. slice_index_or before j d) o d)
    by true same o found =
        let there : o ≡ Some i = sym found ∙ (ap (λ a. position (key_eq a) keys) (same_key k key same) ∙ at) in
        ap (λ p. option_map_or (λ j. slice_index_or after j d) p d) there ∙ (is i ∙ ap (λ c. if c then x else slice_index_or before i d) (equal_itself i))
    by false other None found = refl
    by false other (Some j) found = is j ∙ ap (λ c. if c then x else slice_index_or before j d) (elsewhere (j == i) refl)
      where
        elsewhere : (c : Bool) → (j == i) ≡ c → (j == i) ≡ false
        elsewhere false p = p
        elsewhere true p = absurd (true≢false (sym (same_place k key keys i (found ∙ ap Some (eqb-true j i p)) at) ∙ other))

-- the entry of a key, in what is left of entries and in these
pub record IsSameEntry (trims : List Trim) (left es : List Entry) (key : Key) (i : ℕ) : Type 0 where
  pub l : Entry
  pub e : Entry
  pub is_left : slice_get left i ≡ Some l
  pub found : find (λ x. key_eq x.key key) es ≡ Some e
  pub same : IsLeft (trim_at trims i) l e

abbrev IsFound : List Trim → (left es : List Entry) → Key → Option ℕ → Type 0
IsFound trims left es key None = find (λ x. key_eq x.key key) es ≡ None
IsFound trims left es key (Some i) = IsSameEntry trims left es key i

pub found_left : (key : Key) (trims : List Trim) (left es : List Entry) → AreLeft trims left es → length left ≤ length trims → (o : Option ℕ)
    → position (key_eq key) (map (λ e. e.key) left) ≡ o → IsFound trims left es key o
found_left key [] [] es a within o at = subst (IsFound [] [] es key) at (ap (find (λ x. key_eq x.key key)) (sym a))
found_left key [] (l ∷ left) es a within o at = absurd (omega (arith, within))
found_left key (t ∷ trims) [] [] a within o at = subst (IsFound (t ∷ trims) [] [] key) at refl
found_left key (t ∷ trims) [] (e ∷ es) a within o at = absurd a
found_left key (t ∷ trims) (l ∷ left) [] a within o at = absurd a
found_left key (t ∷ trims) (l ∷ left) (e ∷ es) a within o at =
    subst (IsFound (t ∷ trims) (l ∷ left) (e ∷ es) key) at
    (by (key_eq key l.key) (key_eq e.key key) refl (sym (same_key_left t l e key a.0) ∙ same_either_way l.key key) (position (key_eq key) (map (λ x. x.key) left)) refl
    (found_left key trims left es a.1 (omega (arith, within)) (position (key_eq key) (map (λ x. x.key) left)) refl))
  where
    shifted : (o : Option ℕ) → key_eq e.key key ≡ false → IsFound trims left es key o → IsFound (t ∷ trims) (l ∷ left) (e ∷ es) key (option_map suc o)
    shifted None other f = ap (λ c. cond c (Some e) (find (λ x. key_eq x.key key) es)) other ∙ f
    shifted (Some i) other f = record {
      l = f.l;
      e = f.e;
      is_left = f.is_left;
      found = ap (λ c. cond c (Some e) (find (λ x. key_eq x.key key) es)) other ∙ f.found;
      same = f.same;
    }

    by : (c d : Bool) → key_eq key l.key ≡ c → key_eq e.key key ≡ key_eq key l.key → (o : Option ℕ) → position (key_eq key) (map (λ x. x.key) left) ≡ o
        → IsFound trims left es key o → IsFound (t ∷ trims) (l ∷ left) (e ∷ es) key (position (key_eq key) (l.key ∷ map (λ x. x.key) left))
    by true d is same o at rest =
        subst (IsFound (t ∷ trims) (l ∷ left) (e ∷ es) key) (sym (first_place (key_eq key) l.key (map (λ x. x.key) left) is))
        (record { l = l; e = e; is_left = refl; found = ap (λ c. cond c (Some e) (find (λ x. key_eq x.key key) es)) (same ∙ is); same = a.0 })
    by false d is same o at rest =
        subst (IsFound (t ∷ trims) (l ∷ left) (e ∷ es) key) (sym (later_place (key_eq key) l.key (map (λ x. x.key) left) is ∙ ap (option_map suc) at))
        (shifted o (same ∙ is) rest)

-- .. and the one at a place
abbrev pub IsLeftAt : (trims : List Trim) → (es : List Entry) → ℕ → Option Entry → Type 0
IsLeftAt trims es i None = slice_get es i ≡ None
IsLeftAt trims es i (Some l) = (e : Entry) × (slice_get es i ≡ Some e) × IsLeft (trim_at trims i) l e

untrimmed_at : (i : ℕ) → trim_at [] i ≡ no_trim
untrimmed_at zero = refl
untrimmed_at (suc i) = refl

whole : (i : ℕ) (e : Entry) → IsLeft (trim_at [] i) e e
whole i e = subst (λ t. IsLeft t e e) (sym (untrimmed_at i)) (record { logged = omega arith; took = refl; on = refl; within = omega arith; same = refl })

whole_at : (es : List Entry) (i : ℕ) → IsLeftAt [] es i (slice_get es i)
whole_at es i = by (slice_get es i) refl
  where
    by : (o : Option Entry) → slice_get es i ≡ o → IsLeftAt [] es i o
    by None is = is
    by (Some e) is = (e, is, whole i e)

pub left_at : (trims : List Trim) (left es : List Entry) → AreLeft trims left es → (i : ℕ) → IsLeftAt trims es i (slice_get left i)
left_at [] left es a i = subst (λ xs. IsLeftAt [] xs i (slice_get left i)) a (whole_at left i)
left_at (t ∷ trims) [] [] a zero = refl
left_at (t ∷ trims) [] [] a (suc i) = refl
left_at (t ∷ trims) [] (e ∷ es) a i = absurd a
left_at (t ∷ trims) (l ∷ left) [] a i = absurd a
left_at (t ∷ trims) (l ∷ left) (e ∷ es) a zero = (e, refl, a.0)
left_at (t ∷ trims) (l ∷ left) (e ∷ es) a (suc i) = left_at trims left es a.1 i
