-- The entry of a key is recycled: the client that is there is gone.
use Rattle.std.proofs.Common.{◌≡◌, ℕ, Bool, true, false, true≢false, ◌&&◌, ◌||◌, refl, sym, ap, ap₂, ◌∙◌, subst, Some, List, [], ◌∷◌, ◌++◌, map, filter}
use Rattle.std.specs.Prelude.{is_none}
use Rattle.std.specs.List.{list_any}
use Rattle.std.proofs.lemmas.Bool.{and_parts}
use Rattle.ft_io.specs.declared.Addr.{Addr}
use Rattle.ft_io.specs.declared.Key.{Key}
use Rattle.ft_io.specs.Key.{key_eq}
use Rattle.ft_io.proofs.Choices.{by_cases, holds_if}
use Rattle.ft_model.specs.Client.{Client}
use Rattle.ft_model.specs.Keys.{has_key}
use Rattle.ft_model.proofs.ClientKeys.{keys_in}
use Rattle.ft_model.proofs.Keys.{key_eq_turns}
use Rattle.ft_model.proofs.Lists.{all_weaker, all_map, all_both, same_key}
use Rattle.long_laws.specs.LongTrace.{Gone, others, gone_with}
use Rattle.long_laws.proofs.Others.{all_others}
use Rattle.lasting_laws.specs.LastingWorld.{Guest, has_come, is_present, is_there, gone_from}
use Rattle.lasting_laws.specs.LastingUnseen.{gone_of}
use Rattle.lasting_unseen.proofs.Guests.{Guested, IsHere, IsYetToCome, IsPast, IsGuest, IsScripted, KeepsTurn, in_turn_map, among_map, among_others, among_filter}
use Rattle.lasting_unseen.proofs.Parcels.{IsAmong, among_behind, among_before}

module _ (server : Addr) (key : Key) (lengths : List ℕ) where
  parts_there : (g : Guest) → is_there key g ≡ true → (key_eq g.client.key key ≡ true) × (is_present g ≡ true)
  parts_there g t = let parts = and_parts (key_eq g.client.key key) (is_present g) t in (parts.0, parts.1)

  present_elsewhere : (g : Guest) → is_there key g ≡ false → is_present g ≡ true → key_eq g.client.key key ≡ false
  present_elsewhere g t p = first_false (key_eq g.client.key key) (is_present g) t p
    where
      first_false : (a b : Bool) → (a && b) ≡ false → b ≡ true → a ≡ false
      first_false false b t p = refl
      first_false true b t p = absurd (true≢false (sym p ∙ t))

  keeps_turn : (g : Guest) → KeepsTurn g (gone_from key lengths g)
  keeps_turn g =
      holds_if (KeepsTurn g) (is_there key g) (record g { gone = Some lengths }) g
      (λ t. record { key = refl; come = refl; left = λ e. absurd (true≢false (sym e)) }) (λ t. record { key = refl; come = refl; left = λ e. e })

  -- at the key nobody is there any more, and elsewhere nothing changes
  none_at : (k : Key) (g : Guest) → key_eq k key ≡ true → is_there k (gone_from key lengths g) ≡ false
  none_at k g e =
      holds_if (λ h. is_there k h ≡ false) (is_there key g) (record g { gone = Some lengths }) g (λ t. never (key_eq g.client.key k) (has_come g))
      (λ t. ap (λ z. is_there z g) (same_key k key e) ∙ t)
    where
      never : (a b : Bool) → (a && (b && false)) ≡ false
      never true true = refl
      never true false = refl
      never false b = refl

  same_at : (k : Key) (g : Guest) → key_eq k key ≡ false → is_there k (gone_from key lengths g) ≡ is_there k g
  same_at k g e =
      holds_if (λ h. is_there k h ≡ is_there k g) (is_there key g) (record g { gone = Some lengths }) g
      (λ t. let other : key_eq g.client.key k ≡ false = subst (λ z. key_eq z k ≡ false) (sym (same_key g.client.key key (parts_there g t).0)) (key_eq_turns k key e) in
      ap (λ b. b && is_present (record g { gone = Some lengths })) other ∙ sym (ap (λ b. b && is_present g) other))
      (λ t. refl)

  nobody_at : (k : Key) (guests : List Guest) → key_eq k key ≡ true → list_any (is_there k) (map (gone_from key lengths) guests) ≡ false
  nobody_at k [] e = refl
  nobody_at k (g ∷ guests) e = ap₂ (λ a b. a || b) (none_at k g e) (nobody_at k guests e)

  all_same_at : (k : Key) (guests : List Guest) → key_eq k key ≡ false → list_any (is_there k) (map (gone_from key lengths) guests) ≡ list_any (is_there k) guests
  all_same_at k [] e = refl
  all_same_at k (g ∷ guests) e = ap₂ (λ a b. a || b) (same_at k g e) (all_same_at k guests e)

  no_client_at : (k : Key) (cs : List Client) → key_eq k key ≡ true → has_key k (keys_in (others (λ c. key_eq c.key key) cs)) ≡ false
  no_client_at k [] e = refl
  no_client_at k (c ∷ cs) e =
      holds_if (λ l. has_key k (keys_in l) ≡ false) (key_eq c.key key) (others (λ x. key_eq x.key key) cs) (c ∷ others (λ x. key_eq x.key key) cs) (λ t. no_client_at k cs e)
      (λ t. ap₂ (λ a b. a || b) (ap (λ z. key_eq c.key z) (same_key k key e) ∙ t) (no_client_at k cs e))

  same_clients_at : (k : Key) (cs : List Client) → key_eq k key ≡ false → has_key k (keys_in (others (λ c. key_eq c.key key) cs)) ≡ has_key k (keys_in cs)
  same_clients_at k [] e = refl
  same_clients_at k (c ∷ cs) e =
      holds_if (λ l. has_key k (keys_in l) ≡ has_key k (keys_in (c ∷ cs))) (key_eq c.key key) (others (λ x. key_eq x.key key) cs) (c ∷ others (λ x. key_eq x.key key) cs)
      (λ t. same_clients_at k cs e ∙ sym (ap (λ b. b || has_key k (keys_in cs)) (subst (λ z. key_eq z k ≡ false) (sym (same_key c.key key t)) (key_eq_turns k key e))))
      (λ t. ap (λ b. key_eq c.key k || b) (same_clients_at k cs e))

  module _ (clients : List Client) (past : List Gone) where
    abbrev rest : List Client
    rest = others (λ c. key_eq c.key key) clients

    abbrev more : List Gone
    more = past ++ gone_with lengths (filter (λ c. key_eq c.key key) clients)

    here_still : (g : Guest) → IsHere clients g → IsHere rest (gone_from key lengths g)
    here_still g h =
        holds_if (IsHere rest) (is_there key g) (record g { gone = Some lengths }) g
        (λ t p. absurd (true≢false (sym (and_parts (has_come g) false p).1)))
        (λ t p. let there = h p in among_others (λ c. key_eq c.key key) g.client clients there.0 there.1 (present_elsewhere g t p))

    past_still : (g : Guest) → IsHere clients g → IsPast past g → IsPast more (gone_from key lengths g)
    past_still g h p =
        holds_if (IsPast more) (is_there key g) (record g { gone = Some lengths }) g
        (λ t. let parts = parts_there g t in let there = h parts.1 in
        let found = among_filter (λ c. key_eq c.key key) g.client clients there.0 there.1 parts.0 in (
          among_behind (record { client = g.client; lengths = lengths }) past (gone_with lengths (filter (λ c. key_eq c.key key) clients))
              (found.0, among_map (λ c. record { client = c; lengths = lengths }) g.client (filter (λ c. key_eq c.key key) clients) found.0 found.1),
          tt,
        ))
        (λ t. all_weaker (λ x. IsAmong x past) (λ x. IsAmong x more) (gone_of g.client g.gone)
        (λ x a. (a.0, among_before x past (gone_with lengths (filter (λ c. key_eq c.key key) clients)) a.0 a.1)) p)

    new_still : (g : Guest) → IsYetToCome server g → IsYetToCome server (gone_from key lengths g)
    new_still g n =
        holds_if (IsYetToCome server) (is_there key g) (record g { gone = Some lengths }) g
        (λ t e. absurd (true≢false (sym (and_parts (has_come g) (is_none g.gone) (parts_there g t).1).0 ∙ e))) (λ t. n)

    guest_still : (g : Guest) → IsGuest server g → IsGuest server (gone_from key lengths g)
    guest_still g k = holds_if (IsGuest server) (is_there key g) (record g { gone = Some lengths }) g (λ t. k) (λ t. k)

    pub guested_gone : (guests : List Guest) → Guested server guests clients past → Guested server (map (gone_from key lengths) guests) rest more
    guested_gone guests o = record {
      here = all_map (IsHere rest) (gone_from key lengths) guests (all_weaker (IsHere clients) (λ g. IsHere rest (gone_from key lengths g)) guests here_still o.here);
      taken = λ k. by_cases (key_eq k key) (λ e. nobody_at k guests e ∙ sym (no_client_at k clients e)) (λ e. all_same_at k guests e ∙ (o.taken k ∙ sym (same_clients_at k clients e)));
      in_turn = in_turn_map (gone_from key lengths) keeps_turn guests o.in_turn;
      new = all_map (IsYetToCome server) (gone_from key lengths) guests (all_weaker (IsYetToCome server) (λ g. IsYetToCome server (gone_from key lengths g)) guests new_still o.new);
      gone = all_map (IsPast more) (gone_from key lengths) guests (all_both (IsHere clients) (IsPast past) (λ g. IsPast more (gone_from key lengths g)) guests past_still o.here o.gone);
      kinds = all_map (IsGuest server) (gone_from key lengths) guests (all_weaker (IsGuest server) (λ g. IsGuest server (gone_from key lengths g)) guests guest_still o.kinds);
      scripted = all_others IsScripted IsScripted (λ c. key_eq c.key key) clients (λ c t s. s) o.scripted;
    }
