-- Clients whose keys differ: what is done to the one of a key is done to one alone, and the keys stay over a trace.
use Rattle.std.proofs.Common.{◌≡◌, ◌∙◌, sym, ap, subst, refl, zero, suc, ℕ, true, false, cond, Some, List, [], ◌∷◌, slice_get}
use Rattle.std.proofs.Math.ListN.{set}
use Rattle.ft_io.specs.Key.{key_eq}
use Rattle.server_trait.specs.Service.{Machine}
use Rattle.ft_model.specs.Client.{Client, received}
use Rattle.ft_model.specs.Network.{Packet, destination_of}
use Rattle.ft_model.specs.World.{World, Moment, Joint, with_client, world_after}
use Rattle.ft_model.specs.Keys.{AreDistinct, has_key}
use Rattle.ft_model.proofs.Acknowledged.{start_is}
use Rattle.ft_model.proofs.FaithfulKept.{received_same}
use Rattle.ft_model.proofs.Happened.{Happened, holds_after}
use Rattle.ft_model.proofs.Happened.Happened.{log_received, client_received, client_moved, server_turned, server_booted, server_down}
use Rattle.ft_model.proofs.Keys.{key_eq_turns, not_there}
use Rattle.ft_model.proofs.Lists.{none_is_some, some_is, key_is, same_key}
use Rattle.ft_model.proofs.ClientKeys.{keys_in, apart_distinct, no_one, keys_stay}

-- the client of a key is replaced alone
pub alone : (cs : List Client) (i : ℕ) (c later : Client) → AreDistinct (keys_in cs) → slice_get cs i ≡ Some c → with_client c.key (λ _. later) cs ≡ set cs i later
alone [] i c later d e = none_is_some c e
alone (x ∷ cs) zero c later d e =
    let same : x ≡ c = some_is x c e in
    let here : key_eq x.key c.key ≡ true = subst (λ y. key_eq x.key y.key ≡ true) same (key_is x.key) in
    let none : has_key c.key (keys_in cs) ≡ false = subst (λ y. has_key y.key (keys_in cs) ≡ false) same d.0 in
    ap (λ b. cond b later x ∷ with_client c.key (λ _. later) cs) here ∙ ap (λ xs. later ∷ xs) (no_one c.key (λ _. later) cs none)
alone (x ∷ cs) (suc i) c later d e =
    let other : key_eq x.key c.key ≡ false = key_eq_turns c.key x.key (not_there (λ y. y.key) x.key cs i c d.0 e) in
    ap (λ b. cond b later x ∷ with_client c.key (λ _. later) cs) other ∙ ap (λ xs. x ∷ xs) (alone cs i c later d.1 e)

step_keeps : {State : Type 0} (service : Machine State) (start before : World) (sent : List Packet) (after : World) → keys_in before.clients ≡ keys_in start.clients → Happened service before sent after
    → keys_in after.clients ≡ keys_in start.clients
step_keeps service start before sent after k (log_received message under t e) = ap (λ w. keys_in w.clients) e ∙ k
step_keeps service start before sent after k (client_received segment under t e) =
    ap (λ w. keys_in w.clients) e ∙ keys_stay (destination_of segment) (λ c. received c segment) before.clients (λ c h. (received_same c segment).key) ∙ k
step_keeps service start before sent after k (client_moved number m) =
    let name : m.later.key ≡ m.client.key = ap (λ c. c.key) m.move.after_is in
    ap (λ w. keys_in w.clients) m.after_is ∙ keys_stay m.client.key (λ _. m.later) before.clients (λ c h. name ∙ sym (same_key c.key m.client.key h)) ∙ k
step_keeps service start before sent after k (server_turned input node later brought is turn e) = ap (λ w. keys_in w.clients) e ∙ k
step_keeps service start before sent after k (server_booted boot isn is_down larger t e) = ap (λ w. keys_in w.clients) e ∙ k
step_keeps service start before sent after k (server_down t e) = ap (λ w. keys_in w.clients) e ∙ k

keys_after : {State : Type 0} (service : Machine State) (start : World) (trace : List Moment) → Joint service start trace → keys_in (world_after start trace).clients ≡ keys_in start.clients
keys_after service start trace j = holds_after service (λ w. keys_in w.clients ≡ keys_in start.clients) start (λ s. refl) (step_keeps service start) trace j

-- no two clients of a joint trace have the same key
pub distinct_after : {State : Type 0} (service : Machine State) (start : World) (trace : List Moment) → Joint service start trace → AreDistinct (keys_in (world_after start trace).clients)
distinct_after service start trace j =
    subst AreDistinct (sym (keys_after service start trace j)) (apart_distinct start.server start.clients (start_is service start trace j).apart)
