-- .. so it holds after every trace.
use Rattle.std.proofs.Common.{le_trans, ◌≡◌, ℕ, ◌≤◌, ◌^◌, true, refl, sym, ap, ◌∙◌, subst, true≢false, ⊎_elim, Option, Some, None, List, [], ◌++◌, map, length, arith}
use Rattle.std.specs.List.{AllByRecursion}
use Rattle.ft_io.specs.declared.Key.{Key}
use Rattle.ft_io.specs.Key.{key_eq}
use Rattle.server_trait.specs.Service.{Machine}
use Rattle.ft_model.specs.Client.{received}
use Rattle.ft_model.specs.Log.{Log, Entry, entry_of, opened, log_after}
use Rattle.ft_model.specs.Network.{Packet, destination_of}
use Rattle.ft_model.specs.Restart.{wanted}
use Rattle.ft_model.specs.Node.{Node, Stage, Input, booted}
use Rattle.ft_model.specs.Node.Stage.{Asking, Fetching, Serving, Fenced}
use Rattle.ft_model.specs.Growth.{IsPrefix}
use Rattle.ft_model.specs.Masked.{is_restarting}
use Rattle.ft_model.specs.World.{World, IsStart, with_client}
use Rattle.ft_model.proofs.Lists.{all_both, all_weaker, all_append, prefix_trans, all_find, found_passes, all_slice_get, same_key, none_is_some, some_is}
use Rattle.ft_model.proofs.Keys.{finds_itself, all_from_get}
use Rattle.ft_model.proofs.Happened.{Happened, IsBrought}
use Rattle.ft_model.proofs.Happened.Happened.{log_received, client_received, client_moved, server_turned, server_booted, server_down}
use Rattle.ft_model.proofs.StageTurns.{StageWent, stage_went}
use Rattle.ft_model.proofs.StageTurns.StageWent.{was_fenced, waited, held_off, asked_on, resumed, served}
use Rattle.ft_model.proofs.Fenced.{IsFenced}
use Rattle.ft_model.specs.FetchedFronts.{AreFetched}
use Rattle.ft_model.proofs.Asked.{IsAsked, StageAgrees, progress_agrees}
use Rattle.ft_model.proofs.Faithful.{PlaceFits, StageFits}
use Rattle.server_trait.specs.Service.{reference}
use Rattle.ft_model.specs.Node.{key_of}
use Rattle.ft_model.specs.Growth.{logged_lengths, lengths_in}
use Rattle.ft_model.specs.Keys.{AreDistinct}
use Rattle.ft_model.proofs.Running.{HasSmallOutputs}
use Rattle.ft_model.proofs.Authored.{Speaks, Follows, PlaceRuns}
use Rattle.ft_model.proofs.FaithfulKept.{IsFaithful, InputFits, input_fits}
use Rattle.ft_model.proofs.Distinct.{IsDistinct, StageDistinct, turn_distinct}
use Rattle.ft_model.proofs.Fenced.{IsOurs, IsNoChange, turn_ours, turn_quiet, progress_logged}
use Rattle.ft_model.proofs.Services.{reads_proceed, prefix_length}
use Rattle.ft_model.proofs.FaithfulOver.{heads_of}
use Rattle.ft_model.proofs.AuthorTurns.{Before, TurnRuns, serving_runs}
use Rattle.ft_model.proofs.AuthorOver.{ReadOf, EntryOf, StageRuns, HasAuthor, resuming_runs}
use Rattle.ft_model.proofs.Fenced.{was_restarting}
use Rattle.ft_model.proofs.Asked.{StageAgrees}
use Rattle.ft_model.proofs.AuthorKept.{packet_read_later, quiet_reads, restart_reads, received_author, author_still, asked_speaks, held_speaks, follows_read, follows_speaks}

no_runs : {State : Type 0} (service : Machine State) (author : Key → List ℕ) (stage : Stage) → is_restarting stage ≡ true → StageRuns service author stage
no_runs service author Asking r = tt
no_runs service author (Fetching count fetched) r = tt
no_runs service author (Serving opened places) r = absurd (true≢false (sym r))
no_runs service author (Fenced newer) r = tt

pub front_of : (author : Key → List ℕ) (log : Log) (key : Key) (o : Option Entry) → AllByRecursion (EntryOf author) log.entries → entry_of key log ≡ o → IsPrefix (lengths_in o) (author key)
front_of author log key (Some e) a found =
    let same : e.key ≡ key = same_key e.key key (found_passes (λ x. key_eq x.key key) log.entries e found) in
    subst (λ k. IsPrefix e.lengths (author k)) same (all_find (EntryOf author) (λ x. key_eq x.key key) log.entries e a found).0
front_of author log key None a found = (author key, refl)

still_node : {State : Type 0} (service : Machine State) (author : Key → List ℕ) (later : Node) → StageRuns service author later.stage → (n : Node) → Some later ≡ Some n → StageRuns service author n.stage
still_node service author later s n e = subst (λ x. StageRuns service author x.stage) (some_is later n e) s

-- a turn that doesn't serve
resting : {State : Type 0} (service : Machine State) (script : Key → List ℕ) (w : World) (node later : Node) (input : Input) (sent : List Packet) → HasAuthor service script w
    → is_restarting later.stage ≡ true → AllByRecursion (Speaks service script w.log) sent → StageWent service node input sent later.stage
    → HasAuthor service script (record w { node = Some later; packets = w.packets ++ sent })
resting service script w node later input sent a r s went =
    author_still service script w w.clients w.boot (Some later) sent a
    (all_both (IsOurs node.boot) (IsNoChange node.boot) (ReadOf a.author w.log.boot) sent (quiet_reads a.author node.boot w.log.boot) (turn_ours service node input sent later.stage went)
    (turn_quiet service node input sent later.stage r went).1) s
    (still_node service a.author later (no_runs service a.author later.stage r))

turned_author : {State : Type 0} (service : Machine State) (script : Key → List ℕ) (isn : Key → ℕ) (w : World) (node later : Node) (input : Input) (sent : List Packet)
    → HasSmallOutputs service → ((k : Key) → length (script k) ≤ 2 ^ 24) → IsFenced w → IsAsked w → IsFaithful script isn w → IsDistinct w → HasAuthor service script w
    → w.node ≡ Some node → IsBrought w input → (stage : Stage) → later.stage ≡ stage → StageWent service node input sent stage
    → HasAuthor service script (record w { node = Some later; packets = w.packets ++ sent })
turned_author service script isn w node later input sent small short f k fit d a e brought stage is (was_fenced newer g s) =
    author_still service script w w.clients w.boot (Some later) sent a (subst (AllByRecursion (ReadOf a.author w.log.boot)) (sym s) tt) (subst (AllByRecursion (Speaks service script w.log)) (sym s) tt)
    (still_node service a.author later (subst (StageRuns service a.author) (sym (is ∙ g)) tt))
turned_author service script isn w node later input sent small short f k fit d a e brought stage is (waited r g s) =
    resting service script w node later input sent a (ap is_restarting (is ∙ g) ∙ r)
    (⊎_elim (λ x. subst (AllByRecursion (Speaks service script w.log)) (sym x) (tt, tt)) (λ x. subst (AllByRecursion (Speaks service script w.log)) (sym x.1) (asked_speaks service script w.log node x.0)) s)
    (waited r (is ∙ g) s)
turned_author service script isn w node later input sent small short f k fit d a e brought stage is (held_off count fetched segment b g s) =
    let n = k.node node e (ap is_restarting b) in
    let agrees : (count ≡ length w.log.entries) × AreFetched w.log.entries fetched = subst (StageAgrees w.log.entries) b n.fetched in
    resting service script w node later input sent a (ap is_restarting (is ∙ g))
    (subst (AllByRecursion (Speaks service script w.log)) (sym s) (held_speaks service script w.log node fetched segment (heads_of w.log fetched k.distinct agrees.1)))
    (held_off count fetched segment b (is ∙ g) s)
turned_author service script isn w node later input sent small short f k fit d a e brought stage is (asked_on count fetched p g s) =
    resting service script w node later input sent a (ap is_restarting (is ∙ g)) (subst (AllByRecursion (Speaks service script w.log)) (sym s) (asked_speaks service script w.log node (wanted count fetched)))
    (asked_on count fetched p (is ∙ g) s)
turned_author service script isn w node later input sent small short f k fit d a e brought stage is (resumed count fetched places p none g t) =
    let agrees = progress_agrees w node input count fetched k e brought p in
    let own : w.log.boot ≡ node.boot = progress_logged w node input count fetched f e brought p in
    let apart : AreDistinct (map key_of places) = subst StageDistinct g (turn_distinct service w node input sent stage k d e brought (resumed count fetched places p none g t)) in
    let runs : TurnRuns service script (λ key. logged_lengths key w.log) w.log places sent =
    resuming_runs service script a.author isn w.log node count fetched places sent small short k.distinct fit.entries a.entries a.short agrees.0 agrees.1 none apart t in
    record {
      author = runs.author;
      entries = all_from_get (EntryOf runs.author) w.log.entries
          (λ i x at. (
            subst (λ o. IsPrefix (lengths_in o) (runs.author x.key)) (finds_itself (λ y. y.key) w.log.entries i x k.distinct at) (runs.later x.key),
            (all_slice_get (EntryOf a.author) w.log.entries i x a.entries at).1,
          ));
      short = runs.short (λ key. le_trans (prefix_length _ _ (reads_proceed service (script key) (logged_lengths key w.log) (a.author key) (front_of a.author w.log key (entry_of key w.log) a.entries refl)).output) (a.short key));
      reads = all_append (ReadOf runs.author w.log.boot) w.packets sent
          (all_weaker (IsNoChange node.boot) _ w.packets (restart_reads runs.author node.boot w.log.boot own) ((f.node node e).quiet (was_restarting node input count fetched p)))
          (all_weaker (Follows service script runs.author w.log) _ sent (follows_read service script runs.author w.log w.log.boot) runs.follows);
      spoken = all_append (Speaks service script w.log) w.packets sent a.spoken (all_weaker (Follows service script runs.author w.log) _ sent (follows_speaks service script runs.author w.log) runs.follows);
      stage = still_node service runs.author later (subst (StageRuns service runs.author) (sym (is ∙ g)) (runs.runs, runs.only));
    }
turned_author service script isn w node later input sent small short f k fit d a e brought stage is (served opened places next b g t) =
    let i : InputFits script isn w.log input = input_fits script isn w input fit.packets brought in
    let apart : AreDistinct (map key_of next) = subst StageDistinct g (turn_distinct service w node input sent stage k d e brought (served opened places next b g t)) in
    let was : StageRuns service a.author (Serving opened places) = subst (StageRuns service a.author) b (a.stage node e) in
    let fits : AllByRecursion (PlaceFits script isn w.log) places = subst (StageFits script isn w.log) b (fit.stage node e) in
    let before : AllByRecursion (Before service script isn a.author w.log) places =
    all_both (PlaceFits script isn w.log) (PlaceRuns service a.author) (Before service script isn a.author w.log) places (λ x y z. (y, z)) fits was.0 in
    let runs : TurnRuns service script a.author w.log next sent =
    serving_runs service script a.author isn w.log node input opened places next sent small short fit.entries i (λ key. front_of a.author w.log key (entry_of key w.log) a.entries refl) was.1 before apart t in
    record {
      author = runs.author;
      entries = all_weaker (EntryOf a.author) (EntryOf runs.author) w.log.entries (λ x y. (prefix_trans x.lengths (a.author x.key) (runs.author x.key) y.0 (runs.later x.key), y.1)) a.entries;
      short = runs.short a.short;
      reads = all_append (ReadOf runs.author w.log.boot) w.packets sent (all_weaker (ReadOf a.author w.log.boot) _ w.packets (packet_read_later a.author runs.author w.log.boot runs.later) a.reads)
          (all_weaker (Follows service script runs.author w.log) _ sent (follows_read service script runs.author w.log w.log.boot) runs.follows);
      spoken = all_append (Speaks service script w.log) w.packets sent a.spoken (all_weaker (Follows service script runs.author w.log) _ sent (follows_speaks service script runs.author w.log) runs.follows);
      stage = still_node service runs.author later (subst (StageRuns service runs.author) (sym (is ∙ g)) (runs.runs, runs.only));
    }

pub author_proceeds : {State : Type 0} (service : Machine State) (script : Key → List ℕ) (isn : Key → ℕ) (before : World) (sent : List Packet) (after : World)
    → HasSmallOutputs service → ((k : Key) → length (script k) ≤ 2 ^ 24) → IsFenced before → IsAsked before → IsFaithful script isn before → IsDistinct before → HasAuthor service script before
    → Happened service before sent after → HasAuthor service script after
author_proceeds service script isn before sent after small short f k fit d a (log_received message under s e) =
    subst (HasAuthor service script) (sym (e ∙ ap (λ x. record before { log = log_after before.log message; packets = before.packets ++ x }) s)) (received_author service script before message f a under)
author_proceeds service script isn before sent after small short f k fit d a (client_received segment under s e) =
    subst (HasAuthor service script) (sym e)
    (author_still service script before (with_client (destination_of segment) (λ c. received c segment) before.clients) before.boot before.node sent a
    (subst (AllByRecursion (ReadOf a.author before.log.boot)) (sym s) tt) (subst (AllByRecursion (Speaks service script before.log)) (sym s) tt) a.stage)
author_proceeds service script isn before sent after small short f k fit d a (client_moved number m) =
    subst (HasAuthor service script) (sym m.after_is)
    (author_still service script before (with_client m.client.key (λ x. m.later) before.clients) before.boot before.node sent a
    (subst (AllByRecursion (ReadOf a.author before.log.boot)) (sym m.sent_is) (tt, tt)) (subst (AllByRecursion (Speaks service script before.log)) (sym m.sent_is) (tt, tt)) a.stage)
author_proceeds service script isn before sent after small short f k fit d a (server_turned input node later brought is turn e) =
    subst (HasAuthor service script) (sym e)
    (turned_author service script isn before node later input sent small short f k fit d a is brought later.stage refl (stage_went service node later input sent turn))
author_proceeds service script isn before sent after small short f k fit d a (server_booted boot isn0 down larger s e) =
    subst (HasAuthor service script) (sym e)
    (author_still service script before before.clients boot (Some (booted before.server before.profile boot isn0)) sent a
    (subst (AllByRecursion (ReadOf a.author before.log.boot)) (sym s) ((λ x. tt), tt)) (subst (AllByRecursion (Speaks service script before.log)) (sym s) (tt, tt))
    (still_node service a.author (booted before.server before.profile boot isn0) tt))
author_proceeds service script isn before sent after small short f k fit d a (server_down s e) =
    subst (HasAuthor service script) (sym e)
    (author_still service script before before.clients before.boot None sent a
    (subst (AllByRecursion (ReadOf a.author before.log.boot)) (sym s) tt) (subst (AllByRecursion (Speaks service script before.log)) (sym s) tt) (λ n g. none_is_some n g))

pub start_author : {State : Type 0} (service : Machine State) (script : Key → List ℕ) (w : World) → length service.greeting ≤ 65535 → IsStart w → HasAuthor service script w
unfolding reference
start_author service script w few s = record {
  author = λ key. [];
  entries = subst (λ l. AllByRecursion (EntryOf (λ key. [])) l.entries) (sym s.log) tt;
  short = λ key. omega (arith, few);
  reads = subst (AllByRecursion (ReadOf (λ key. []) w.log.boot)) (sym s.packets) tt;
  spoken = subst (AllByRecursion (Speaks service script w.log)) (sym s.packets) tt;
  stage = λ n e. none_is_some n (sym s.node ∙ e);
}
