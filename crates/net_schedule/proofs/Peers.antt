-- Clients whose keys differ: what is done to the one of a key is done to the one of its number, and the keys stay.
use Rattle.std.proofs.Common.{◌≡◌, ◌∙◌, sym, ap, subst, refl, ℕ, zero, suc, ◌+◌, ◌≤◌, ◌<◌, not, nat_lt, cond, true, false, Some, None, List, [], ◌∷◌, length, map, slice_get, arith}
use Rattle.std.specs.List.{prefix_len}
use Rattle.std.specs.Option.{option_map_or}
use Rattle.std.proofs.lemmas.List.{length-map}
use Rattle.std.proofs.lemmas.Bool.Decides.{nat_tests}
use Rattle.ft_io.specs.declared.Key.{Key}
use Rattle.ft_io.specs.Key.{key_eq}
use Rattle.ft_model.specs.Client.{Client}
use Rattle.ft_model.specs.World.{with_client}
use Rattle.ft_model.specs.Report.{number_of_client}
use Rattle.ft_model.specs.Keys.{AreDistinct, has_key}
use Rattle.ft_model.proofs.Lists.{some_is, none_is_some, key_is, same_key, index_within}
use Rattle.ft_model.proofs.Keys.{key_eq_turns, not_there}
use Rattle.ft_model.proofs.ClientKeys.{keys_in, no_one}
use Rattle.schedule_network.specs.StoredPackets.{number_in}
use Rattle.net_schedule.specs.Delivery.{changed_at}
use Rattle.ft_io.proofs.Choices.{by_cases}
use Rattle.logger_store.proofs.LeftLogs.{one_more}

-- the first with the key, if there is one, is the only one
abbrev pub first_of : Key → List Key → ℕ
first_of key keys = prefix_len (λ k. not (key_eq k key)) keys

pub at_first : (key : Key) (change : Client → Client) (cs : List Client) → AreDistinct (keys_in cs) → with_client key change cs ≡ changed_at (first_of key (keys_in cs)) change cs
at_first key change [] d = refl
at_first key change (c ∷ cs) d =
    by_cases (key_eq c.key key)
    (λ e.
    let none : has_key key (keys_in cs) ≡ false = subst (λ k. has_key k (keys_in cs) ≡ false) (same_key c.key key e) d.0 in
    ap (λ b. cond b (change c) c ∷ with_client key change cs) e ∙ ap (λ xs. change c ∷ xs) (no_one key change cs none)
    ∙ sym (ap (λ b. changed_at (cond (not b) (1 + first_of key (keys_in cs)) 0) change (c ∷ cs)) e))
    (λ e.
    ap (λ b. cond b (change c) c ∷ with_client key change cs) e ∙ ap (λ xs. c ∷ xs) (at_first key change cs d.1)
    ∙ sym (ap (λ n. changed_at n change (c ∷ cs)) (one_more (first_of key (keys_in cs))))
    ∙ sym (ap (λ b. changed_at (cond (not b) (1 + first_of key (keys_in cs)) 0) change (c ∷ cs)) e))

-- nothing is changed past the end
pub changed_past : {X : Type 0} (n : ℕ) (change : X → X) (xs : List X) → length xs ≤ n → changed_at n change xs ≡ xs
changed_past n change [] h = refl
changed_past zero change (x ∷ xs) h = absurd (omega arith)
changed_past (suc n) change (x ∷ xs) h = ap (λ ys. x ∷ ys) (changed_past n change xs (omega arith))

-- each client is the first with its key
pub first_is : (cs : List Client) (i : ℕ) (c : Client) → AreDistinct (keys_in cs) → slice_get cs i ≡ Some c → first_of c.key (keys_in cs) ≡ i
first_is [] i c d e = none_is_some c e
first_is (x ∷ cs) zero c d e =
    let same : key_eq x.key c.key ≡ true = subst (λ y. key_eq x.key y.key ≡ true) (some_is x c e) (key_is x.key) in
    ap (λ b. cond (not b) (1 + first_of c.key (keys_in cs)) 0) same
first_is (x ∷ cs) (suc i) c d e =
    let other : key_eq x.key c.key ≡ false = key_eq_turns c.key x.key (not_there (λ y. y.key) x.key cs i c d.0 e) in
    ap (λ b. cond (not b) (1 + first_of c.key (keys_in cs)) 0) other ∙ ap (λ n. 1 + n) (first_is cs i c d.1 e) ∙ one_more i

number_at : (n l : ℕ) → n < l → option_map_or (λ i. i + 1) (cond (nat_lt n l) (Some n) None) 0 ≡ n + 1
number_at n l h = let t : nat_lt n l ≡ true = grind (arith, nat_tests) in ap (λ b. option_map_or (λ i. i + 1) (cond b (Some n) None) 0) t

pub number_is : (cs : List Client) (i : ℕ) (c : Client) → AreDistinct (keys_in cs) → slice_get cs i ≡ Some c → number_in (keys_in cs) c.key ≡ i + 1
number_is cs i c d e =
    let first : first_of c.key (keys_in cs) ≡ i = first_is cs i c d e in
    let inside : first_of c.key (keys_in cs) < length (keys_in cs) = omega (arith, first, index_within cs i c e, length-map cs (λ x. x.key)) in
    number_at (first_of c.key (keys_in cs)) (length (keys_in cs)) inside ∙ ap (λ n. n + 1) first

-- what a number means: the first with its key, or nobody
pub by_number : (P : ℕ → Type 0) (keys : List Key) (key : Key) → (first_of key keys < length keys → P (suc (first_of key keys))) → (length keys ≤ first_of key keys → P 0) → P (number_in keys key)
by_number P keys key there none =
    let n : ℕ = first_of key keys in
    by_cases (nat_lt n (length keys))
    (λ e.
    let inside : n < length keys = grind (arith, nat_tests) in
    let next : n + 1 ≡ suc n = omega arith in
    subst P (sym (ap (λ b. option_map_or (λ i. i + 1) (cond b (Some n) None) 0) e ∙ next)) (there inside))
    (λ e.
    let past : length keys ≤ n = grind (arith, nat_tests) in
    subst P (sym (ap (λ b. option_map_or (λ i. i + 1) (cond b (Some n) None) 0) e)) (none past))

-- numbers by keys and by clients are the same
first_among : (key : Key) (cs : List Client) → first_of key (keys_in cs) ≡ prefix_len (λ c. not (key_eq c.key key)) cs
first_among key [] = refl
first_among key (c ∷ cs) = ap (λ n. cond (not (key_eq c.key key)) (1 + n) 0) (first_among key cs)

pub number_among : (cs : List Client) (key : Key) → number_in (keys_in cs) key ≡ number_of_client cs key
number_among cs key =
    ap (λ n. option_map_or (λ i. i + 1) (cond (nat_lt n (length (keys_in cs))) (Some n) None) 0) (first_among key cs)
    ∙ ap (λ l. option_map_or (λ i. i + 1) (cond (nat_lt (prefix_len (λ c. not (key_eq c.key key)) cs) l) (Some (prefix_len (λ c. not (key_eq c.key key)) cs)) None) 0) (length-map cs (λ c. c.key))
