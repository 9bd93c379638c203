-- The number of a client, and whether there is one of a key.
use Rattle.std.proofs.Common.{◌≡◌, ◌⊎◌, inl, inr, ⊎_elim, ℕ, ◌+◌, ◌<◌, true, false, true≢false, not, nat_lt, refl, sym, ap, ◌∙◌, find, is_some, Option, Some, None, List, [], ◌∷◌, length, arith}
use Rattle.std.specs.List.{position_or_len}
use Rattle.std.specs.Option.{option_map_or}
use Rattle.std.proofs.lemmas.Bool.{or_right, or_from}
use Rattle.ft_io.specs.declared.Key.{Key}
use Rattle.ft_io.specs.Key.{key_eq}
use Rattle.ft_io.proofs.Choices.{by_cases, holds_if}
use Rattle.ft_model.specs.Client.{Client}
use Rattle.ft_model.specs.Keys.{has_key}
use Rattle.ft_model.specs.Report.{number_of_client}
use Rattle.ft_model.proofs.ClientKeys.{keys_in}
use Rattle.ft_model.proofs.Keys.{found_has_key, absent_key}
use Rattle.ft_model.proofs.Lists.{or_left}
use Rattle.std.proofs.Common.{ltb-true, ltb-false}

abbrev Placed : List Client → Key → Type 0
Placed cs k =
    ((position_or_len (λ c. key_eq c.key k) cs < length cs) × (has_key k (keys_in cs) ≡ true))
    ⊎ ((position_or_len (λ c. key_eq c.key k) cs ≡ length cs) × (has_key k (keys_in cs) ≡ false))

placed : (cs : List Client) (k : Key) → Placed cs k
placed [] k = inr (refl, refl)
placed (c ∷ cs) k = on (placed cs k)
  where
    on : Placed cs k → Placed (c ∷ cs) k
    on rest =
        by_cases (key_eq c.key k)
        (λ e. inl (
          holds_if (λ n. n < length (c ∷ cs)) (not (key_eq c.key k)) (1 + position_or_len (λ x. key_eq x.key k) cs) 0 (λ t. absurd (true≢false (sym t ∙ ap not e))) (λ t. omega arith),
          or_left (key_eq c.key k) (has_key k (keys_in cs)) e,
        ))
        (λ e. ⊎_elim
        (λ r. inl (
          holds_if (λ n. n < length (c ∷ cs)) (not (key_eq c.key k)) (1 + position_or_len (λ x. key_eq x.key k) cs) 0 (λ t. let less = r.0 in omega (arith, less)) (λ t. omega arith),
          or_right (key_eq c.key k) (has_key k (keys_in cs)) r.1,
        ))
        (λ r. inr (
          holds_if (λ n. n ≡ length (c ∷ cs)) (not (key_eq c.key k)) (1 + position_or_len (λ x. key_eq x.key k) cs) 0 (λ t. let same = r.0 in omega (arith, same)) (λ t. absurd (true≢false (sym (ap not e) ∙ t))),
          or_from (key_eq c.key k) (has_key k (keys_in cs)) e r.1,
        )) rest)

-- whoever has a number is there
pub numbered_is_there : (cs : List Client) (k : Key) → 0 < number_of_client cs k → has_key k (keys_in cs) ≡ true
numbered_is_there cs k positive =
    ⊎_elim (λ r. r.1)
    (λ r. let same : position_or_len (λ c. key_eq c.key k) cs ≡ length cs = r.0 in
    holds_if (λ (o : Option ℕ). 0 < option_map_or (λ i. i + 1) o 0 → has_key k (keys_in cs) ≡ true) (nat_lt (position_or_len (λ c. key_eq c.key k) cs) (length cs))
    (Some (position_or_len (λ c. key_eq c.key k) cs)) None
    (λ t p. absurd (let less = ltb-true _ _ t in omega (arith, less, same))) (λ t p. absurd (omega (arith, p))) positive)
    (placed cs k)

-- .. and whoever is there has one
pub there_is_numbered : (cs : List Client) (k : Key) → has_key k (keys_in cs) ≡ true → 0 < number_of_client cs k
there_is_numbered cs k there =
    ⊎_elim
    (λ r. let less : position_or_len (λ c. key_eq c.key k) cs < length cs = r.0 in
    holds_if (λ (o : Option ℕ). 0 < option_map_or (λ i. i + 1) o 0) (nat_lt (position_or_len (λ c. key_eq c.key k) cs) (length cs))
    (Some (position_or_len (λ c. key_eq c.key k) cs)) None (λ t. omega arith) (λ t. absurd (let far = ltb-false _ _ t in omega (arith, far, less))))
    (λ r. absurd (true≢false (sym there ∙ r.1))) (placed cs k)

-- who is found in one list is there in another that finds the same
pub there_as_found : (cs ds : List Client) (k : Key) → find (λ c. key_eq c.key k) ds ≡ find (λ c. key_eq c.key k) cs → has_key k (keys_in cs) ≡ true → has_key k (keys_in ds) ≡ true
there_as_found cs ds k same there = on (find (λ c. key_eq c.key k) cs) refl
  where
    on : (o : Option Client) → find (λ c. key_eq c.key k) cs ≡ o → has_key k (keys_in ds) ≡ true
    on (Some c) e = found_has_key (λ c. c.key) k ds c (same ∙ e)
    on None e = absurd (true≢false (sym there ∙ absent_key (λ c. c.key) k cs (ap is_some e)))
