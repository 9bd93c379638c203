-- The keys of clients: those of clients that are apart are distinct, and what is done to the client of a key leaves the keys.
use Rattle.std.proofs.Common.{◌≡◌, ◌∙◌, sym, ap, refl, true, false, cond, not, ◌&&◌, ◌==◌, List, [], ◌∷◌, map}
use Rattle.std.specs.List.{list_any}
use Rattle.std.proofs.lemmas.Bool.{and_parts, or_parts}
use Rattle.ft_io.specs.declared.Addr.{Addr}
use Rattle.ft_io.specs.declared.Key.{Key}
use Rattle.ft_io.specs.Key.{key_eq}
use Rattle.ft_io.proofs.Booleans.{not_true}
use Rattle.ft_io.proofs.Choices.{by_cases}
use Rattle.ft_model.specs.Client.{Client}
use Rattle.ft_model.specs.Keys.{has_key, AreDistinct}
use Rattle.ft_model.specs.World.{with_client, is_apart, are_apart}
use Rattle.ft_model.proofs.Keys.{has_key_map}

abbrev pub keys_in : List Client → List Key
keys_in clients = map (λ c. c.key) clients

-- clients that are apart have distinct keys
pub apart_distinct : (server : Addr) (clients : List Client) → are_apart server clients ≡ true → AreDistinct (keys_in clients)
apart_distinct server [] e = tt
apart_distinct server (c ∷ clients) e =
    let parts = and_parts (is_apart server c.key clients) (are_apart server clients) e in
    let none = not_true (list_any (λ x. key_eq x.key c.key) clients) (and_parts (not (c.key.ip == server.ip && c.key.port == server.port)) (not (list_any (λ x. key_eq x.key c.key) clients)) parts.0).1 in
    (sym (has_key_map (λ x. x.key) c.key clients) ∙ none, apart_distinct server clients parts.1)

-- nobody has the key
pub no_one : (key : Key) (change : Client → Client) (cs : List Client) → has_key key (keys_in cs) ≡ false → with_client key change cs ≡ cs
no_one key change [] h = refl
no_one key change (c ∷ cs) h =
    let parts = or_parts (key_eq c.key key) (has_key key (keys_in cs)) h in
    ap (λ b. cond b (change c) c ∷ with_client key change cs) parts.0 ∙ ap (λ xs. c ∷ xs) (no_one key change cs parts.1)

-- the keys stay, where the one of the key keeps its own
head_key : (key : Key) (change : Client → Client) (c : Client) → (key_eq c.key key ≡ true → (change c).key ≡ c.key) → (cond (key_eq c.key key) (change c) c).key ≡ c.key
head_key key change c keeps =
    by_cases (key_eq c.key key)
    (λ e. ap (λ b. (cond b (change c) c).key) e ∙ keeps e)
    (λ e. ap (λ b. (cond b (change c) c).key) e)

pub keys_stay : (key : Key) (change : Client → Client) (cs : List Client) → ((c : Client) → key_eq c.key key ≡ true → (change c).key ≡ c.key) → keys_in (with_client key change cs) ≡ keys_in cs
keys_stay key change [] keeps = refl
keys_stay key change (c ∷ cs) keeps =
    ap (λ k. k ∷ keys_in (with_client key change cs)) (head_key key change c (keeps c)) ∙ ap (λ ks. c.key ∷ ks) (keys_stay key change cs keeps)
