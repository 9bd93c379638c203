-- What a run's world gives to the code after any number of events.
use Rattle.std.proofs.Common.{◌≡◌, ◌∙◌, refl, sym, ap, subst, ℕ, zero, suc, ◌+◌, ◌*◌, ◌≤◌, Bool, Some, List, [], ◌∷◌, ◌++◌, map, length, slice_get, arith}
use Rattle.std.proofs.lemmas.List.{length-map}
use Rattle.ft_io.specs.declared.Key.{Key}
use Rattle.sample_servers.specs.declared.any_service.AnyService.{AnyService}
use Rattle.ft_model.specs.Client.{Client}
use Rattle.ft_model.specs.Schedule.{client_of, clients_of}
use Rattle.ft_model.specs.World.{World, Moment, client_at}
use Rattle.ft_model.specs.declared.event.Event.{Event}
use Rattle.ft_model.specs.declared.schedule.ClientLine.{ClientLine}
use Rattle.ft_model.proofs.ClientKeys.{keys_in}
use Rattle.ft_model.proofs.Lists.{none_is_some, some_is}
use Rattle.net_schedule.specs.Refinement.{Kept}
use Rattle.replay_seed.specs.Generated.{server_address, client_line, client_lines, after_draws}
use Rattle.replay_seed.specs.SummaryText.{count_events, is_boot, is_crash}
use Rattle.replay_seed.specs.SeedSummaries.{start_of_run, StandsBehind}
use Rattle.replay_seed.specs.declared.asked.Asked.{Asked}
use Rattle.replay_seed.specs.declared.seed_progress.Progress.{Progress}
use Rattle.replay_seed.proofs.Clients.{ClientInvariant, AllKeep}
use Rattle.replay_seed.proofs.FirstSchedule.{count_lines}
use Rattle.replay_seed.proofs.Stepping.{world_of, clients_keep}
use Rattle.seq_arith.proofs.Units.{one_at_most}
use Rattle.ft_model.proofs.FaithfulOver.{client_there}

-- addresses in a row, from this one after the network's on
abbrev AreInRow : ℕ → List Key → Type 0
AreInRow i [] = Unit {0}
AreInRow i (key ∷ keys) = (key.ip ≡ 3221225984 + i) × AreInRow (i + 1) keys

row_more : (i : ℕ) (keys : List Key) (key : Key) → AreInRow i keys → key.ip ≡ 3221225984 + (i + length keys) → AreInRow i (keys ++ key ∷ [])
row_more i [] key a e = (omega (arith, e), tt)
row_more i (k ∷ keys) key a e = (a.0, row_more (i + 1) keys key a.1 (omega (arith, e)))

row_at : (i : ℕ) (keys : List Key) (n : ℕ) (key : Key) → AreInRow i keys → slice_get keys n ≡ Some key → key.ip ≡ 3221225984 + (i + n)
row_at i [] n key a e = none_is_some key e
row_at i (k ∷ keys) zero key a e = let is : k ≡ key = some_is k key e in omega (arith, a.0, ap (λ x. x.ip) is)
row_at i (k ∷ keys) (suc n) key a e = let h = row_at (i + 1) keys n key a.1 e in omega (arith, h)

keys_append : (xs ys : List Client) → keys_in (xs ++ ys) ≡ keys_in xs ++ keys_in ys
keys_append [] ys = refl
keys_append (x ∷ xs) ys = ap (λ ks. x.key ∷ ks) (keys_append xs ys)

clients_append : (xs ys : List ClientLine) → clients_of server_address (xs ++ ys) ≡ clients_of server_address xs ++ clients_of server_address ys
clients_append [] ys = refl
clients_append (x ∷ xs) ys = ap (λ cs. client_of server_address x ∷ cs) (clients_append xs ys)

pub count_clients : (state n : ℕ) → length (clients_of server_address (client_lines state n)) ≡ n
count_clients state n = length-map (client_lines state n) (client_of server_address) ∙ count_lines state n

lines_in_row : (state n : ℕ) → AreInRow 1 (keys_in (clients_of server_address (client_lines state n)))
lines_in_row state zero = tt
lines_in_row state (suc n) =
    let lines : List ClientLine = client_lines state n in
    let count : length (keys_in (clients_of server_address (client_lines state n))) ≡ n = length-map (clients_of server_address (client_lines state n)) (λ (c : Client). c.key) ∙ count_clients state n in
    subst (AreInRow 1) (sym (ap keys_in (clients_append (client_lines state n) (client_line (after_draws state n) (n + 1) ∷ []))
    ∙ keys_append (clients_of server_address (client_lines state n)) (clients_of server_address (client_line (after_draws state n) (n + 1) ∷ []))))
    (row_more 1 (keys_in (clients_of server_address (client_lines state n))) (client_line (after_draws state n) (n + 1)).key (lines_in_row state n) (omega (arith, count)))

key_of_place : (cs : List Client) (n : ℕ) (c : Client) → slice_get cs n ≡ Some c → slice_get (keys_in cs) n ≡ Some c.key
key_of_place [] n c e = none_is_some c e
key_of_place (d ∷ cs) zero c e = ap (λ x. Some x.key) (some_is d c e)
key_of_place (d ∷ cs) (suc n) c e = key_of_place cs n c e

-- client n has 1000 * n bytes to send
total_at : (cs : List Client) (n : ℕ) (c : Client) → AreInRow 1 (keys_in cs) → client_at cs n ≡ Some c → ClientInvariant c → length c.script ≡ 1000 * n
total_at cs zero c row e k = none_is_some c e
total_at cs (suc n) c row e k =
    let at : c.key.ip ≡ 3221225984 + (1 + n) = row_at 1 (keys_in cs) n c.key row (key_of_place cs n c e) in
    omega (arith, at, k.total)

pub totals : (asked : Asked) (n : ℕ) (w : Kept AnyService) (p : Progress) → StandsBehind asked n w p → (number : ℕ) (c : Client) → client_at w.clients number ≡ Some c
    → length c.script ≡ 1000 * number
totals asked n w p s number c e =
    let v : World = world_of asked s.trace in
    let keeps : AllKeep (start_of_run asked) (world_of asked s.trace) = clients_keep asked n w p s in
    let there : client_at v.clients number ≡ Some c = ap (λ cs. client_at cs number) (sym s.stands.stands.clients) ∙ e in
    total_at v.clients number c (subst (AreInRow 1) (sym keeps.keys) (lines_in_row asked.seed asked.clients)) there (client_there ClientInvariant v.clients number c keeps.keeps there)

pub client_count : (asked : Asked) (n : ℕ) (w : Kept AnyService) (p : Progress) → StandsBehind asked n w p → asked.clients ≡ length w.clients
client_count asked n w p s =
    let v : World = world_of asked s.trace in
    let keeps : AllKeep (start_of_run asked) (world_of asked s.trace) = clients_keep asked n w p s in
    sym (ap length s.stands.stands.clients ∙ (sym (length-map v.clients (λ (c : Client). c.key)) ∙ (ap length keeps.keys
    ∙ (length-map (start_of_run asked).clients (λ (c : Client). c.key) ∙ count_clients asked.seed asked.clients))))

count_within : (is : Event → Bool) (trace : List Moment) → count_events is trace ≤ length trace
count_within is [] = omega arith
count_within is (moment ∷ earlier) = let h = count_within is earlier in let one = one_at_most (is moment.event) in omega (arith, h, one)

pub few_boots : (asked : Asked) (n : ℕ) (w : Kept AnyService) (p : Progress) → StandsBehind asked n w p → (p.boots ≤ n) × (p.crashes ≤ n)
few_boots asked n w p s =
    let b = count_within is_boot s.trace in let c = count_within is_crash s.trace in (omega (arith, b, s.boots, s.events), omega (arith, c, s.crashes, s.events))
