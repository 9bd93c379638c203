-- A Forget changes nothing, or it recycles an entry that is done.
use Rattle.std.proofs.Common.{◌≡◌, ◌⊎◌, inl, inr, ⊎_elim, Bool, true, false, ◌==◌, ◌&&◌, cond, refl, sym, ap, ◌∙◌, subst, true≢false, eqb-true, find, Some, List, [], ◌∷◌, map, if◌then◌else◌}
use Rattle.std.proofs.lemmas.Bool.{and_parts, or_parts}
use Rattle.ft_io.specs.declared.Key.{Key}
use Rattle.ft_io.specs.Key.{key_eq}
use Rattle.ft_model.specs.Keys.{has_key, AreDistinct}
use Rattle.ft_model.specs.Log.{Entry}
use Rattle.ft_model.proofs.Lists.{same_key}
use Rattle.long_laws.specs.Forgetting.{Named, is_entry_of, is_recycled}
use Rattle.long_laws.specs.LongTrace.{others}

others_true : {A : Type 0} (q : A → Bool) (x : A) (xs : List A) → q x ≡ true → others q (x ∷ xs) ≡ others q xs
others_true q x xs e = ap (λ b. if b then others q xs else x ∷ others q xs) e

others_false : {A : Type 0} (q : A → Bool) (x : A) (xs : List A) → q x ≡ false → others q (x ∷ xs) ≡ x ∷ others q xs
others_false q x xs e = ap (λ b. if b then others q xs else x ∷ others q xs) e

-- none has the key: nothing is taken out
none_out : (q : Entry → Bool) (key : Key) (xs : List Entry) → ((e : Entry) → q e ≡ true → key_eq e.key key ≡ true) → has_key key (map (λ e. e.key) xs) ≡ false → others q xs ≡ xs
none_out q key [] f h = refl
none_out q key (x ∷ xs) f h =
    let parts = or_parts (key_eq x.key key) (has_key key (map (λ e. e.key) xs)) h in
    others_false q x xs (not_it (q x) refl parts.0) ∙ ap (λ l. x ∷ l) (none_out q key xs f parts.1)
  where
    not_it : (b : Bool) → q x ≡ b → key_eq x.key key ≡ false → q x ≡ false
    not_it false e k = e
    not_it true e k = absurd (true≢false (sym (f x e) ∙ k))

-- what one Forget does to entries with keys of their own
pub record RecyclesOne (n : Named) (xs : List Entry) : Type 0 where
  pub entry : Entry
  pub found : find (λ e. key_eq e.key n.key) xs ≡ Some entry
  pub cisn : entry.cisn ≡ n.cisn
  pub sisn : entry.sisn ≡ n.sisn
  pub done : entry.done ≡ true
  pub rest : others (is_recycled n) xs ≡ others (λ e. key_eq e.key n.key) xs

its_key : (n : Named) (e : Entry) → is_recycled n e ≡ true → key_eq e.key n.key ≡ true
its_key n e g = (and_parts (key_eq e.key n.key) (e.cisn == n.cisn && e.sisn == n.sisn) (and_parts (is_entry_of n e) e.done g).0).0

its_numbers : (n : Named) (e : Entry) → is_recycled n e ≡ true → ((e.cisn == n.cisn) ≡ true) × ((e.sisn == n.sisn) ≡ true)
its_numbers n e g =
    and_parts (e.cisn == n.cisn) (e.sisn == n.sisn) (and_parts (key_eq e.key n.key) (e.cisn == n.cisn && e.sisn == n.sisn) (and_parts (is_entry_of n e) e.done g).0).1

pub no_key : (n : Named) (x : Entry) (xs : List Entry) → AreDistinct (map (λ e. e.key) (x ∷ xs)) → key_eq x.key n.key ≡ true → has_key n.key (map (λ e. e.key) xs) ≡ false
no_key n x xs d k = subst (λ z. has_key z (map (λ e. e.key) xs) ≡ false) (same_key x.key n.key k) d.0

pub either : (n : Named) (xs : List Entry) → AreDistinct (map (λ e. e.key) xs) → (others (is_recycled n) xs ≡ xs) ⊎ RecyclesOne n xs
either n [] d = inl refl
either n (x ∷ xs) d = on (is_recycled n x) (key_eq x.key n.key) refl refl (either n xs d.1)
  where
    on : (g k : Bool) → is_recycled n x ≡ g → key_eq x.key n.key ≡ k → (others (is_recycled n) xs ≡ xs) ⊎ RecyclesOne n xs → (others (is_recycled n) (x ∷ xs) ≡ x ∷ xs) ⊎ RecyclesOne n (x ∷ xs)
    on true k g e r =
        let here : key_eq x.key n.key ≡ true = its_key n x g in
        let none = no_key n x xs d here in
        inr (record {
          entry = x;
          found = ap (λ b. cond b (Some x) (find (λ e. key_eq e.key n.key) xs)) here;
          cisn = eqb-true _ _ (its_numbers n x g).0;
          sisn = eqb-true _ _ (its_numbers n x g).1;
          done = (and_parts (is_entry_of n x) x.done g).1;
          rest = (others_true (is_recycled n) x xs g ∙ none_out (is_recycled n) n.key xs (its_key n) none)
              ∙ sym (others_true (λ e. key_eq e.key n.key) x xs here ∙ none_out (λ e. key_eq e.key n.key) n.key xs (λ e t. t) none);
        })
    on false true g e r =
        inl (others_false (is_recycled n) x xs g ∙ ap (λ l. x ∷ l) (none_out (is_recycled n) n.key xs (its_key n) (no_key n x xs d e)))
    on false false g e r =
        ⊎_elim (λ same. inl (others_false (is_recycled n) x xs g ∙ ap (λ l. x ∷ l) same))
        (λ h. inr (record {
          entry = h.entry;
          found = ap (λ b. cond b (Some x) (find (λ e. key_eq e.key n.key) xs)) e ∙ h.found;
          cisn = h.cisn;
          sisn = h.sisn;
          done = h.done;
          rest = others_false (is_recycled n) x xs g ∙ (ap (λ l. x ∷ l) h.rest ∙ sym (others_false (λ e. key_eq e.key n.key) x xs e));
        })) r
