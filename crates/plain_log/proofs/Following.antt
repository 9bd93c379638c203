-- The log's rule for reads, by the sum of the reads before.
use Rattle.std.proofs.Common.{◌≡◌, ◌∙◌, ℕ, ◌+◌, ◌≤◌, ◌==◌, ◌||◌, Bool, true, false, refl, sym, ap, ap₂, subst, sum, arith, List, [], ◌∷◌, ◌++◌, length, length-append, append_assoc, append-nil}
use Rattle.std.specs.Prelude.{◌&&◌, not, nat_lt, nat_le}
use Rattle.std.specs.List.{list_any, list_all}
use Rattle.std.proofs.lemmas.Bool.{leb-true, and_parts}
use Rattle.ft_model.specs.Log.{may_follow}
use Rattle.ft_model.specs.Restart.{Fetched, all_follow}
use Rattle.ft_model.proofs.Services.{sum_append}
use Rattle.ft_io.proofs.Booleans.{or_false, not_true}
use Rattle.plain_log.specs.Following.{follow_on}

or_both : (a b c : Bool) → (a || (b || c)) ≡ ((a || b) || c)
or_both true b c = refl
or_both false b c = refl

pub closes_more : (lengths : List ℕ) (n : ℕ) → list_any (λ k. k == 0) (lengths ++ n ∷ []) ≡ (list_any (λ k. k == 0) lengths || (n == 0))
closes_more [] n = sym (or_false (n == 0))
closes_more (x ∷ lengths) n = ap (λ b. (x == 0) || b) (closes_more lengths n) ∙ or_both (x == 0) (list_any (λ k. k == 0) lengths) (n == 0)

-- lengths of at most 2,048 bytes
abbrev pub are_short : List ℕ → Bool
are_short lengths = list_all (λ k. nat_le k 2048) lengths

pub short_more : (lengths : List ℕ) (n : ℕ) → are_short lengths ≡ true → n ≤ 2048 → are_short (lengths ++ n ∷ []) ≡ true
short_more [] n e h = grind (arith, h)
short_more (x ∷ lengths) n e h =
    let both = and_parts (nat_le x 2048) (are_short lengths) e in
    ap₂ (λ a b. a && b) both.0 (short_more lengths n both.1 h)

pub all_follow_is : (len : ℕ) (fin : Bool) (lengths more : List ℕ) → all_follow len fin lengths more ≡ follow_on len fin (sum lengths) (list_any (λ k. k == 0) lengths) more
all_follow_is len fin lengths [] = refl
all_follow_is len fin lengths (n ∷ more) =
    ap (λ b. may_follow len fin lengths n && b)
    (all_follow_is len fin (lengths ++ n ∷ []) more
    ∙ ap₂ (λ read closed. follow_on len fin read closed more) (sum_append lengths n) (closes_more lengths n))

-- a read that may follow comes before the closing one, and ends within the bytes
pub was_open : (len : ℕ) (fin : Bool) (lengths : List ℕ) (n : ℕ) → may_follow len fin lengths n ≡ true → list_any (λ k. k == 0) lengths ≡ false
was_open len fin lengths n e =
    let both = and_parts (not (list_any (λ k. k == 0) lengths) && nat_le (sum lengths + n) len) (nat_lt 0 n || (fin && sum lengths == len)) e in
    not_true _ (and_parts (not (list_any (λ k. k == 0) lengths)) (nat_le (sum lengths + n) len) both.0).0

pub ends_within : (len : ℕ) (fin : Bool) (lengths : List ℕ) (n : ℕ) → may_follow len fin lengths n ≡ true → sum lengths + n ≤ len
ends_within len fin lengths n e =
    let both = and_parts (not (list_any (λ k. k == 0) lengths) && nat_le (sum lengths + n) len) (nat_lt 0 n || (fin && sum lengths == len)) e in
    leb-true (sum lengths + n) len (and_parts (not (list_any (λ k. k == 0) lengths)) (nat_le (sum lengths + n) len) both.0).1

-- lengths that may follow, one after another
pub next_follows : (len : ℕ) (fin : Bool) (lengths lens more : List ℕ) (n : ℕ) → lens ≡ n ∷ more → all_follow len fin lengths lens ≡ true → may_follow len fin lengths n ≡ true
next_follows len fin lengths lens more n cut e =
    (and_parts (may_follow len fin lengths n) (all_follow len fin (lengths ++ n ∷ []) more) (ap (all_follow len fin lengths) (sym cut) ∙ e)).0

rest_follows : (len : ℕ) (fin : Bool) (lengths lens more : List ℕ) (n : ℕ) → lens ≡ n ∷ more → all_follow len fin lengths lens ≡ true
    → all_follow len fin (lengths ++ n ∷ []) more ≡ true
rest_follows len fin lengths lens more n cut e =
    (and_parts (may_follow len fin lengths n) (all_follow len fin (lengths ++ n ∷ []) more) (ap (all_follow len fin lengths) (sym cut) ∙ e)).1

more_added : (lengths lens more whole : List ℕ) (n : ℕ) → lens ≡ n ∷ more → lengths ++ lens ≡ whole → (lengths ++ n ∷ []) ++ more ≡ whole
more_added lengths lens more whole n cut e = append_assoc lengths (n ∷ []) more ∙ (ap (λ l. lengths ++ l) (sym cut) ∙ e)

-- some of these lengths are added, and the rest may follow
abbrev pub HasAdded : (before now : Fetched) → (lens rest : List ℕ) → Type 0
HasAdded before now lens rest =
    (now.head ≡ before.head) × (now.bytes ≡ before.bytes) × (now.lengths ++ rest ≡ before.lengths ++ lens)
    × (length now.lengths + length rest ≤ now.head.reads) × (all_follow now.head.length now.head.fin now.lengths rest ≡ true) × (are_short rest ≡ true)

pub one_added : (before now later : Fetched) (lens rest more : List ℕ) (n : ℕ) → HasAdded before now lens rest → rest ≡ n ∷ more
    → later ≡ record now { lengths = now.lengths ++ n ∷ [] } → HasAdded before later lens more
one_added before now later lens rest more n h cut is =
    let longer : length (now.lengths ++ n ∷ []) ≡ length now.lengths + 1 = length-append now.lengths (n ∷ []) in
    let size : length rest ≡ length (n ∷ more) = ap length cut in
    let few : length now.lengths + length rest ≤ now.head.reads = h.3 in
    subst (λ f. HasAdded before f lens more) (sym is) (
      h.0,
      h.1,
      more_added now.lengths rest more (before.lengths ++ lens) n cut h.2,
      omega (arith, longer, size, few),
      rest_follows now.head.length now.head.fin now.lengths rest more n cut h.4,
      (and_parts (nat_le n 2048) (are_short more) (ap are_short (sym cut) ∙ h.5)).1,
    )

pub all_added : (lengths lens whole : List ℕ) → lens ≡ [] → lengths ++ lens ≡ whole → lengths ≡ whole
all_added lengths lens whole none e = sym (append-nil lengths) ∙ (ap (λ l. lengths ++ l) (sym none) ∙ e)
