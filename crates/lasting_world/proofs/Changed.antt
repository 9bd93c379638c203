-- The one client that is at an address changes; and the clients of a schedule before anything is sent.
use Rattle.std.proofs.Common.{◌≡◌, ◌∙◌, ℕ, zero, suc, Bool, true, false, sym, ap, refl, Option, None, Some, option_map, List, [], ◌∷◌, map, position, get_or, if◌then◌else◌}
use Rattle.std.proofs.Math.ListN.{set}
use Rattle.std.specs.List.{AllByRecursion}
use Rattle.ft_io.specs.declared.Addr.{Addr}
use Rattle.ft_model.proofs.Lists.{none_is_some, some_is}
use Rattle.mark_store.proofs.Places.{first_place, later_place}
use Rattle.ft_model.specs.Schedule.{client_of, clients_of}
use Rattle.ft_model.specs.declared.schedule.ClientLine.{ClientLine}
use Rattle.lasting_laws.specs.LastingWorld as law
use Rattle.lasting_world.specs.Around.{IsWaiting, TakeTurns}
use Rattle.lasting_world.specs.Guests.{GuestsStand, new_guest}

module _ {A : Type 0} (test : A → Bool) (change : A → A) where
  abbrev pub changed : A → A
  changed x = if test x then change x else x

  -- at most one passes the test
  abbrev pub IsOnly : List A → Type 0
  IsOnly [] = Unit {0}
  IsOnly (x ∷ xs) = (test x ≡ true → AllByRecursion (λ y. test y ≡ false) xs) × IsOnly xs

  pub unchanged : (xs : List A) → AllByRecursion (λ y. test y ≡ false) xs → map changed xs ≡ xs
  unchanged [] a = refl
  unchanged (x ∷ xs) a = ap (λ b. (if b then change x else x) ∷ map changed xs) a.0 ∙ ap (λ l. x ∷ l) (unchanged xs a.1)

  further : (xs : List A) (o : Option ℕ) (i : ℕ) → option_map suc o ≡ Some (suc i) → o ≡ Some i
  further xs None i e = none_is_some (suc i) e
  further xs (Some j) i e = ap Some (cc (some_is (suc j) (suc i) e))

  -- the one at this place changes, and no other
  pub changed_at : (xs : List A) (i : ℕ) (d y : A) → position test xs ≡ Some i → IsOnly xs → y ≡ change (get_or xs i d) → set xs i y ≡ map changed xs
  changed_at [] i d y p o e = none_is_some i p
  changed_at (x ∷ xs) i d y p o e = by_test (changed_at xs) (test x) refl i p e
    where
      by_test : ((j : ℕ) (d y : A) → position test xs ≡ Some j → IsOnly xs → y ≡ change (get_or xs j d) → set xs j y ≡ map changed xs) → (b : Bool) → test x ≡ b → (j : ℕ) → position test (x ∷ xs) ≡ Some j → y ≡ change (get_or (x ∷ xs) j d) → set (x ∷ xs) j y ≡ map changed (x ∷ xs)
      by_test again true t zero p e =
          ap (λ z. z ∷ xs) e ∙ (ap (λ l. change x ∷ l) (sym (unchanged xs (o.0 t))) ∙ ap (λ b. (if b then change x else x) ∷ map changed xs) (sym t))
      by_test again true t (suc j) p e = absurd (cc (some_is 0 (suc j) (sym (first_place test x xs t) ∙ p)))
      by_test again false t zero p e = absurd (not_first (position test xs) (sym (later_place test x xs t) ∙ p))
        where
          not_first : (o : Option ℕ) → option_map suc o ≡ Some 0 → ⊥
          not_first None e = none_is_some 0 e
          not_first (Some k) e = absurd (cc e)
      by_test again false t (suc j) p e =
          let later : position test xs ≡ Some j = further xs (position test xs) j (sym (later_place test x xs t) ∙ p) in
          ap (λ l. x ∷ l) (again j d y later o.1 e) ∙ ap (λ b. (if b then change x else x) ∷ map changed xs) (sym t)

  -- nobody passes it
  pub none_passes : (xs : List A) → position test xs ≡ None → AllByRecursion (λ y. test y ≡ false) xs
  none_passes [] p = tt
  none_passes (y ∷ xs) p = by_test (none_passes xs) (test y) refl
    where
      later : (o : Option ℕ) → option_map suc o ≡ None → o ≡ None
      later None e = refl
      later (Some j) e = absurd (cc e)

      by_test : (position test xs ≡ None → AllByRecursion (λ z. test z ≡ false) xs) → (b : Bool) → test y ≡ b → (test y ≡ false) × AllByRecursion (λ z. test z ≡ false) xs
      by_test again true e = none_is_some 0 (sym (sym (first_place test y xs e) ∙ p))
      by_test again false e =
          (e, again (later (position test xs) (sym (later_place test y xs e) ∙ p)))

-- before anything is sent
pub new_stand : (server : Addr) (lines : List ClientLine) → GuestsStand (map (new_guest server) lines) (map (λ client. record { client = client; gone = None }) (clients_of server lines))
new_stand server [] = tt
new_stand server (line ∷ lines) = (record { key = refl; client = refl; gone = refl }, new_stand server lines)

all_new : (g : law.Guest) (server : Addr) (lines : List ClientLine) → AllByRecursion (IsWaiting g) (map (λ client. record { client = client; gone = None }) (clients_of server lines))
all_new g server [] = tt
all_new g server (line ∷ lines) = ((λ e. refl), all_new g server lines)

pub new_turns : (server : Addr) (lines : List ClientLine) → TakeTurns (map (λ client. record { client = client; gone = None }) (clients_of server lines))
new_turns server [] = tt
new_turns server (line ∷ lines) = ((λ e. all_new (record { client = client_of server line; gone = None }) server lines), new_turns server lines)
