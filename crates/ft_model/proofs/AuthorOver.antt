-- In every joint trace the logged reads are one author's, and what is under way to a client is a part of the output over them.
use Rattle.std.proofs.Common.{append-nil, le_trans, sum, ◌≡◌, ℕ, ◌≤◌, ◌^◌, true, ◌||◌, refl, sym, ap, ◌∙◌, subst, true≢false, inl, inr, ◌⊎◌, Option, Some, None, List, [], ◌∷◌, map, length, arith}
use Rattle.std.specs.List.{AllByRecursion}
use Rattle.ft_io.specs.declared.Key.{Key}
use Rattle.ft_io.specs.Key.{key_eq}
use Rattle.tcp_rules.specs.Profile.{Profile}
use Rattle.server_trait.specs.Service.{Machine}
use Rattle.ft_model.specs.Log.{Log, Entry, entry_of, opened}
use Rattle.ft_model.specs.Network.{Packet}
use Rattle.ft_model.specs.Network.Packet.{To_logger}
use Rattle.ft_model.specs.News.News.{Begins}
use Rattle.ft_model.specs.Restart.{Fetched, wanted, point_of}
use Rattle.ft_model.specs.Node.{Node, Place, Stage}
use Rattle.ft_model.specs.Node.Place.{Opens, Lives, Ended}
use Rattle.ft_model.specs.Node.Stage.{Serving}
use Rattle.ft_model.specs.ServingTurn.{AllGo}
use Rattle.ft_model.specs.Lawful.{Revives, all_restored}
use Rattle.ft_model.specs.Growth.{IsPrefix}
use Rattle.ft_model.specs.World.{World}
use Rattle.ft_model.proofs.Lists.{all_of, all_slice_get}
use Rattle.ft_model.proofs.Keys.{finds_itself, all_from_get}
use Rattle.ft_model.specs.FetchedFronts.{IsWhole, AreFetched}
use Rattle.ft_model.proofs.Asked.{entry_keys}
use Rattle.ft_model.proofs.Resumed.{nothing_missing}
use Rattle.ft_model.proofs.Scripts.{EntryFits}
use Rattle.ft_model.proofs.Faithful.{PlaceFits, EntriesFit}
use Rattle.server_trait.specs.Service.{reference}
use Rattle.ft_model.specs.Node.{key_of}
use Rattle.ft_model.specs.Growth.{logged_lengths, lengths_in}
use Rattle.ft_model.specs.Keys.{AreDistinct, has_key}
use Rattle.ft_model.proofs.StageTurns.{either_turn}
use Rattle.ft_model.proofs.Running.{HasSmallOutputs}
use Rattle.ft_model.proofs.Authored.{ReadFits, Speaks, Follows, PlaceRuns, IsAuthor, entry_runs}
use Rattle.ft_model.proofs.FaithfulOver.{points_fit, restored_all, revives_fit}
use Rattle.ft_model.proofs.Keys.{found_has_key}
use Rattle.ft_model.proofs.Resumed.{restored_keys, restored_length, length_map}
use Rattle.ft_model.proofs.Fetching.{full_front}
use Rattle.ft_model.proofs.Services.{reads_proceed, prefix_length}
use Rattle.ft_model.proofs.AuthorTurns.{settles, is_settled, settled_proceeds, one_settled, Before, After, all_go_then, connection_after, OnlySettled, TurnRuns, runs_after, new_author}

-- the points of the log's entries, by what is logged
points_run : {State : Type 0} (service : Machine State) (profile : Profile) (script author : Key → List ℕ) (isn : Key → ℕ) (log : Log) → ((k : Key) → length (script k) ≤ 2 ^ 24) → AreDistinct (entry_keys log)
    → EntriesFit script isn log.entries → AllByRecursion (λ e. IsPrefix e.lengths (author e.key) × (sum e.lengths ≤ length e.bytes)) log.entries
    → ((key : Key) → length (reference service (script key) (author key)).output ≤ 2 ^ 24)
    → AllByRecursion (λ e. Before service script isn (λ key. logged_lengths key log) log (Lives (point_of service profile e))) log.entries
points_run service profile script author isn log scripts d fits fronts short =
    all_from_get (λ e. Before service script isn (λ key. logged_lengths key log) log (Lives (point_of service profile e))) log.entries
    (λ i e at. let f = all_slice_get (λ x. EntryFits (script x.key) (isn x.key) x) log.entries i e fits at in
    let g = all_slice_get (λ x. IsPrefix x.lengths (author x.key) × (sum x.lengths ≤ length x.bytes)) log.entries i e fronts at in
    let place = all_slice_get (λ x. PlaceFits script isn log (Lives (point_of service profile x))) log.entries i e (points_fit service profile script isn log scripts d fits) at in
    let found : entry_of e.key log ≡ Some e = finds_itself (λ x. x.key) log.entries i e d at in
    let small : length (reference service (script e.key) e.lengths).output ≤ 2 ^ 24 =
    le_trans (prefix_length _ _ (reads_proceed service (script e.key) e.lengths (author e.key) g.0).output) (short e.key) in
    (place, entry_runs service profile script (λ key. logged_lengths key log) e f.front g.1 small (ap lengths_in found)))

revive_runs : {State : Type 0} (service : Machine State) (script old author : Key → List ℕ) (isn : Key → ℕ) (log : Log) (node : Node) → HasSmallOutputs service
    → ((k : Key) → length (script k) ≤ 2 ^ 24) → EntriesFit script isn log.entries → ((key : Key) → IsPrefix (logged_lengths key log) (old key))
    → (place : Place) (now : List Place) (sent : List Packet) → Before service script isn old log place → Revives service node place now sent
    → AllByRecursion (After service script isn old log) now × (AllByRecursion (IsAuthor author) now → AllByRecursion (Follows service script author log) sent)
revive_runs service script old author isn log node small short entries front (Lives p) now sent b t =
    connection_after service script old author isn log node Begins p t.0 now sent small front tt (revives_fit service script isn log node short entries (Lives p) now sent b.0 t).0 b.1 t.1 t.2
revive_runs service script old author isn log node small short entries front (Opens n timestamping) now sent b t =
    (subst (AllByRecursion (After service script isn old log)) (sym t.0) ((b.0, b.1), tt), λ is. subst (AllByRecursion (Follows service script author log)) (sym t.1) tt)
revive_runs service script old author isn log node small short entries front (Ended k) now sent b t =
    (subst (AllByRecursion (After service script isn old log)) (sym t.0) ((tt, tt), tt), λ is. subst (AllByRecursion (Follows service script author log)) (sym t.1) tt)

revive_settled : {State : Type 0} (service : Machine State) (node : Node) (key : Key) (place : Place) (now : List Place) (sent : List Packet)
    → Revives service node place now sent → settles key place ≡ true → is_settled key now ≡ true
revive_settled service node key (Lives p) now sent t e =
    let same : t.0.key ≡ p.key = either_turn service node.server node.boot Begins p t.0 sent (λ r. ap (λ x. x.key) r.point) (λ l. l.same.key) t.2 in
    ap (is_settled key) t.1 ∙ one_settled key (Lives t.0) (ap (λ k. key_eq k key) same ∙ e)
revive_settled service node key (Opens n timestamping) now sent t e = absurd (true≢false (sym e))
revive_settled service node key (Ended k) now sent t e = ap (is_settled key) t.0 ∙ one_settled key (Ended k) e

abbrev IsNoOpening : Place → Type 0
IsNoOpening (Opens n timestamping) = ⊥
IsNoOpening _ = Unit {0}

settled_keys : (key : Key) (places : List Place) → AllByRecursion IsNoOpening places → is_settled key places ≡ has_key key (map key_of places)
settled_keys key [] a = refl
settled_keys key (Lives p ∷ places) a = ap (λ b. key_eq p.key key || b) (settled_keys key places a.1)
settled_keys key (Ended k ∷ places) a = ap (λ b. key_eq k key || b) (settled_keys key places a.1)
settled_keys key (Opens n timestamping ∷ places) a = absurd a.0

logged_settled : {State : Type 0} (service : Machine State) (profile : Profile) (log : Log) (fetched : List Fetched) (key : Key) (o : Option Entry) → entry_of key log ≡ o
    → AreFetched log.entries fetched → AllByRecursion IsWhole fetched → length log.entries ≤ length fetched
    → (lengths_in o ≡ []) ⊎ (is_settled key (all_restored service profile fetched) ≡ true)
logged_settled service profile log fetched key None found a w all = inl refl
logged_settled service profile log fetched key (Some e) found a w all =
    let keys : IsPrefix (map key_of (all_restored service profile fetched)) (entry_keys log) = restored_keys service profile log.entries fetched a in
    let one = length_map key_of (all_restored service profile fetched) in
    let two = restored_length service profile fetched in
    let three = length_map (λ x. x.key) log.entries in
    let same : map key_of (all_restored service profile fetched) ≡ entry_keys log = full_front (map key_of (all_restored service profile fetched)) (entry_keys log) keys (omega (arith, one, two, three, all)) in
    inr (settled_keys key (all_restored service profile fetched) (restored_all IsNoOpening service profile log.entries fetched (all_of (λ e. IsNoOpening (Lives (point_of service profile e))) log.entries (λ x. tt)) (λ k. tt) a w)
    ∙ (ap (has_key key) same ∙ found_has_key (λ x. x.key) key log.entries e found))

-- the turn that ends a restart
pub resuming_runs : {State : Type 0} (service : Machine State) (script author : Key → List ℕ) (isn : Key → ℕ) (log : Log) (node : Node) (count : ℕ) (fetched : List Fetched) (places : List Place) (sent : List Packet)
    → HasSmallOutputs service → ((k : Key) → length (script k) ≤ 2 ^ 24) → AreDistinct (entry_keys log) → EntriesFit script isn log.entries
    → AllByRecursion (λ e. IsPrefix e.lengths (author e.key) × (sum e.lengths ≤ length e.bytes)) log.entries
    → ((key : Key) → length (reference service (script key) (author key)).output ≤ 2 ^ 24)
    → count ≡ length log.entries → AreFetched log.entries fetched → wanted count fetched ≡ None → AreDistinct (map key_of places)
    → AllGo (Revives service node) (all_restored service node.profile fetched) places sent → TurnRuns service script (λ key. logged_lengths key log) log places sent
resuming_runs service script author isn log node count fetched places sent small short d fits fronts bound c a none apart t =
    let old : Key → List ℕ = λ key. logged_lengths key log in
    let whole = nothing_missing log.entries count fetched a none in
    let before : AllByRecursion (Before service script isn old log) (all_restored service node.profile fetched) =
    restored_all (Before service script isn old log) service node.profile log.entries fetched (points_run service node.profile script author isn log short d fits fronts bound) (λ k. (tt, tt)) a whole.0 in
    let all = all_go_then (Revives service node) (Before service script isn old log) (After service script isn old log) (IsAuthor (new_author places old)) (Follows service script (new_author places old) log)
    (revive_runs service script old (new_author places old) isn log node small short fits (λ key. ([], append-nil (logged_lengths key log)))) (all_restored service node.profile fetched) places sent before t in
    runs_after service script isn old log (all_restored service node.profile fetched) places sent apart all.0 all.1
    (λ key. logged_settled service node.profile log fetched key (entry_of key log) refl a whole.0 (omega (arith, whole.1, c)))
    (λ key s. settled_proceeds (Revives service node) key (revive_settled service node key) (all_restored service node.profile fetched) places sent t s)

-- a Read of the log's own boot
abbrev pub ReadOf : (Key → List ℕ) → ℕ → Packet → Type 0
ReadOf author boot (To_logger message) = message.boot ≡ boot → ReadFits author message.body
ReadOf author boot _ = Unit {0}

abbrev pub EntryOf : (Key → List ℕ) → Entry → Type 0
EntryOf author e = IsPrefix e.lengths (author e.key) × (sum e.lengths ≤ length e.bytes)

abbrev pub StageRuns : {State : Type 0} → Machine State → (Key → List ℕ) → Stage → Type 0
StageRuns service author (Serving opened places) = AllByRecursion (PlaceRuns service author) places × OnlySettled author places
StageRuns service author _ = Unit {0}

pub record HasAuthor {State : Type 0} (service : Machine State) (script : Key → List ℕ) (w : World) : Type 0 where
  pub author : Key → List ℕ
  pub entries : AllByRecursion (EntryOf author) w.log.entries
  pub short : (key : Key) → length (reference service (script key) (author key)).output ≤ 2 ^ 24
  pub reads : AllByRecursion (ReadOf author w.log.boot) w.packets
  pub spoken : AllByRecursion (Speaks service script w.log) w.packets
  pub stage : (node : Node) → w.node ≡ Some node → StageRuns service author node.stage
