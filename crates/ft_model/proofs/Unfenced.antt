-- No fence: a Stale under way names at most the newest boot, which is that of the server that is up. So no server hears of a newer one.
use Rattle.std.proofs.Common.{◌≡◌, ℕ, ◌<◌, ◌≤◌, ◌==◌, nat_lt, false, le_trans, refl, sym, ap, ◌∙◌, subst, ⊎_elim, ltb-true, Option, Some, None, IfSome, List, [], ◌++◌, slice_get, arith, length, take, drop}
use Rattle.std.specs.List.{AllByRecursion}
use Rattle.ft_io.specs.declared.Key.{Key}
use Rattle.seq_arith.specs.Message.{Body, Message}
use Rattle.seq_arith.specs.Message.Body.{HelloMsg, ListMsg, EntryMsg, BytesMsg, PartMsg, CutsMsg, LensMsg, OpenMsg, DataMsg, StableMsg, ReadMsg, ReadsMsg, DoneMsg, EndedMsg, StaleMsg}
use Rattle.server_trait.specs.Service.{Machine}
use Rattle.ft_model.specs.Log.{Log, Entry, entry_of, head_of, part_of, lens_of, opened_answer, kept_of, answer_from, log_after}
use Rattle.ft_model.specs.Network.{Packet}
use Rattle.ft_model.specs.Network.Packet.{From_logger}
use Rattle.ft_model.specs.Restart.{Fetched, Wanted, wanted}
use Rattle.ft_model.specs.Node.{Node, Stage, Input, booted}
use Rattle.ft_model.specs.Node.Stage.{Asking, Fetching, Serving, Fenced}
use Rattle.ft_model.specs.Node.Input.{Packet_comes, Message_comes, Noise_comes, Tick_comes}
use Rattle.ft_model.specs.Lawful.{Continues, StageTurn, NodeTurn, LawfulTurn, fence, newer_than, count_reported, fetched_then, is_fenced}
use Rattle.ft_model.specs.World.{World, Moment, MayCome, Joint, IsStart, world_after}
use Rattle.ft_model.proofs.Lists.{all_weaker, all_append, none_is_some, some_is}
use Rattle.ft_model.proofs.LogAnswers.{all_answers}
use Rattle.ft_model.proofs.Fetching.{on_some, chosen_some, reported_last}
use Rattle.ft_model.proofs.Happened.{Happened, IsBrought, all_sent, answers, holds_after}
use Rattle.ft_model.proofs.Happened.Happened.{log_received, client_received, client_moved, server_turned, server_booted, server_down}
use Rattle.ft_model.proofs.StageTurns.{Asks, Gets, stage_went}
use Rattle.ft_model.proofs.Fenced.{IsFenced, IsOurs, turn_ours, start_fenced, fenced_proceeds}
use Rattle.ft_io.proofs.Choices.{holds_if}

-- a Stale names at most this boot
abbrev pub NamesAtMost : ℕ → Body → Type 0
NamesAtMost boot (StaleMsg newer) = newer ≤ boot
NamesAtMost boot _ = Unit {0}

abbrev pub StaleWithin : ℕ → Packet → Type 0
StaleWithin boot (From_logger message) = NamesAtMost boot message.body
StaleWithin boot _ = Unit {0}

pub record Unfenced (w : World) : Type 0 where
  pub packets : AllByRecursion (StaleWithin w.boot) w.packets
  pub node : (node : Node) → w.node ≡ Some node → is_fenced node.stage ≡ false

opened_names : (boot : ℕ) (key : Key) (o : Option Entry) (answer : Body) → opened_answer key o ≡ Some answer → NamesAtMost boot answer
opened_names boot key (Some e) answer t = subst (NamesAtMost boot) (some_is _ _ t) tt
opened_names boot key None answer t = subst (NamesAtMost boot) (some_is _ _ t) tt

-- what the log tells of itself is no Stale
reported_names : (boot : ℕ) (body : Body) (log : Log) (answer : Body) → answer_from body log ≡ Some answer → NamesAtMost boot answer
reported_names boot HelloMsg log answer t = subst (NamesAtMost boot) (some_is _ _ t) tt
reported_names boot (ListMsg index) log answer t =
    let o = on_some (slice_get log.entries index) (λ e. Some (EntryMsg index (head_of e))) answer t in subst (NamesAtMost boot) (some_is _ _ o.2) tt
reported_names boot (BytesMsg key offset) log answer t =
    let o = on_some (entry_of key log) (λ e. part_of e offset) answer t in
    subst (NamesAtMost boot) (chosen_some (nat_lt offset (length o.0.bytes)) (PartMsg o.0.key offset (take 1024 (drop offset o.0.bytes))) answer o.2) tt
reported_names boot (CutsMsg key first) log answer t =
    let o = on_some (entry_of key log) (λ e. lens_of e first) answer t in
    subst (NamesAtMost boot) (chosen_some (nat_lt first (length o.0.lengths)) (LensMsg o.0.key first (take 512 (drop first o.0.lengths))) answer o.2) tt
reported_names boot (OpenMsg n) log answer t = opened_names boot n.key (entry_of n.key log) answer t
reported_names boot (DataMsg part) log answer t =
    let o = on_some (entry_of part.key log) (λ e. Some (StableMsg (kept_of e))) answer (reported_last part.more _ answer t) in subst (NamesAtMost boot) (some_is _ _ o.2) tt
reported_names boot (ReadMsg key index n) log answer t =
    let o = on_some (entry_of key log) (λ e. Some (ReadsMsg (kept_of e))) answer t in subst (NamesAtMost boot) (some_is _ _ o.2) tt
reported_names boot (DoneMsg key) log answer t =
    let o = on_some (entry_of key log) (λ e. Some (EndedMsg key)) answer t in subst (NamesAtMost boot) (some_is _ _ o.2) tt
reported_names boot _ log answer t = none_is_some answer t

answers_names : (boot : ℕ) (log : Log) (message : Message) → log.boot ≤ boot → AllByRecursion (StaleWithin boot) (answers log message)
answers_names boot log message low =
    all_answers (StaleWithin boot) log message
    (λ body a. ⊎_elim (λ s. subst (NamesAtMost boot) (sym s) low) (λ o. reported_names boot message.body (log_after log message) body o.1) a)

names_later : (low high : ℕ) → low ≤ high → (body : Body) → NamesAtMost low body → NamesAtMost high body
names_later low high l (StaleMsg newer) n = le_trans n l
names_later low high l _ n = tt

stale_later : (low high : ℕ) → low ≤ high → (packet : Packet) → StaleWithin low packet → StaleWithin high packet
stale_later low high l (From_logger message) s = names_later low high l message.body s
stale_later low high l _ s = tt

ours_stale : (own boot : ℕ) (packet : Packet) → IsOurs own packet → StaleWithin boot packet
ours_stale own boot (From_logger message) o = absurd o
ours_stale own boot _ o = tt

-- no message that names no larger boot fences
pub not_newer : (boot : ℕ) (body : Body) → NamesAtMost boot body → newer_than boot body ≡ None
not_newer boot (StaleMsg newer) n =
    holds_if (λ o. o ≡ None) (nat_lt boot newer) (Some newer) None (λ t. let less : boot < newer = ltb-true _ _ t in absurd (omega (arith, n, less))) (λ t. refl)
not_newer boot _ n = refl

never : (w : World) (node : Node) (input : Input) → IsFenced w → Unfenced w → w.node ≡ Some node → MayCome w input → fence node input ≡ None
never w node (Message_comes message) f u e brought =
    let own : node.boot ≡ w.boot = (f.node node e).boot in
    let names : NamesAtMost w.boot message.body = all_sent (StaleWithin w.boot) w (From_logger message) u.packets brought in
    holds_if (λ o. o ≡ None) (message.boot == node.boot) (newer_than node.boot message.body) None
    (λ t. not_newer node.boot message.body (subst (λ n. NamesAtMost n message.body) (sym own) names)) (λ t. refl)
never w node (Packet_comes segment) f u e brought = refl
never w node Noise_comes f u e brought = refl
never w node Tick_comes f u e brought = refl

continues_live : {State : Type 0} (service : Machine State) (node : Node) (count : ℕ) (fetched : List Fetched) (w : Option Wanted) (after : Stage) (sent : List Packet)
    → Continues service node count fetched w after sent → is_fenced after ≡ false
continues_live service node count fetched (Some w) after sent t = ap is_fenced t.0
continues_live service node count fetched None after sent t = ap is_fenced t.1

asks_live : {State : Type 0} (service : Machine State) (node : Node) (o : Option ℕ) (after : Stage) (sent : List Packet) → Asks service node o after sent → is_fenced after ≡ false
asks_live service node (Some count) after sent t = continues_live service node count [] (wanted count []) after sent t
asks_live service node None after sent t = ap is_fenced t.0

fetches_live : {State : Type 0} (service : Machine State) (node : Node) (count : ℕ) (fetched : List Fetched) (o : Option (List Fetched)) (after : Stage) (sent : List Packet)
    → Gets service node count fetched o after sent → is_fenced after ≡ false
fetches_live service node count fetched (Some more) after sent t = continues_live service node count more (wanted count more) after sent t
fetches_live service node count fetched None after sent t = ap is_fenced t.0

-- without a fence a stage leads to no fence
stage_live : {State : Type 0} (service : Machine State) (node : Node) (stage : Stage) (input : Input) (after : Stage) (sent : List Packet)
    → StageTurn service node stage input after sent → is_fenced after ≡ false
stage_live service node Asking Tick_comes after sent t = ap is_fenced t.0
stage_live service node Asking (Message_comes message) after sent t =
    asks_live service node (count_reported node message) after sent t
stage_live service node Asking input after sent t = ap is_fenced t.0
stage_live service node (Fetching count fetched) Tick_comes after sent t = ap is_fenced t.0
stage_live service node (Fetching count fetched) (Message_comes message) after sent t =
    fetches_live service node count fetched (fetched_then node message count fetched) after sent t
stage_live service node (Fetching count fetched) (Packet_comes segment) after sent t = ap is_fenced t.0
stage_live service node (Fetching count fetched) Noise_comes after sent t = ap is_fenced t.0
stage_live service node (Serving opened places) input after sent t = ap is_fenced t.1
stage_live service node (Fenced newer) input after sent t = absurd t

may_come : (w : World) (input : Input) → IsBrought w input → MayCome w input
may_come w (Packet_comes segment) brought = brought
may_come w (Message_comes message) brought = brought
may_come w Noise_comes brought = tt
may_come w Tick_comes brought = tt

turned_live : {State : Type 0} (service : Machine State) (w : World) (node later : Node) (input : Input) (sent : List Packet) → IsFenced w → Unfenced w → w.node ≡ Some node
    → IsBrought w input → LawfulTurn service node input sent later → is_fenced later.stage ≡ false
turned_live service w node later input sent f u e brought t =
    stage_live service node node.stage input later.stage sent
    (subst (λ o. NodeTurn service node input o later.stage sent) (never w node input f u e (may_come w input brought)) t.stage)

pub unfenced_proceeds : {State : Type 0} (service : Machine State) (before : World) (sent : List Packet) (after : World)
    → IsFenced before → Unfenced before → Happened service before sent after → Unfenced after
unfenced_proceeds service before sent after f u (log_received message under s e) =
    subst Unfenced (sym (e ∙ ap (λ x. record before { log = log_after before.log message; packets = before.packets ++ x }) s))
    (record { packets = all_append (StaleWithin before.boot) before.packets _ u.packets (answers_names before.boot before.log message f.log); node = u.node })
unfenced_proceeds service before sent after f u (client_received segment under s e) =
    subst Unfenced (sym e)
    (record { packets = all_append (StaleWithin before.boot) before.packets sent u.packets (subst (AllByRecursion (StaleWithin before.boot)) (sym s) tt); node = u.node })
unfenced_proceeds service before sent after f u (client_moved number m) =
    subst Unfenced (sym m.after_is)
    (record { packets = all_append (StaleWithin before.boot) before.packets sent u.packets (subst (AllByRecursion (StaleWithin before.boot)) (sym m.sent_is) (tt, tt)); node = u.node })
unfenced_proceeds service before sent after f u (server_turned input node later brought is turn e) =
    subst Unfenced (sym e)
    (record {
      packets = all_append (StaleWithin before.boot) before.packets sent u.packets
          (all_weaker (IsOurs node.boot) _ sent (ours_stale node.boot before.boot) (turn_ours service node input sent later.stage (stage_went service node later input sent turn)));
      node = λ x g. subst (λ n. is_fenced n.stage ≡ false) (some_is later x g) (turned_live service before node later input sent f u is brought turn);
    })
unfenced_proceeds service before sent after f u (server_booted boot isn down larger s e) =
    subst Unfenced (sym e)
    (record {
      packets = all_append (StaleWithin boot) before.packets sent (all_weaker (StaleWithin before.boot) _ before.packets (stale_later before.boot boot (omega (arith, larger))) u.packets)
          (subst (AllByRecursion (StaleWithin boot)) (sym s) (tt, tt));
      node = λ x g. subst (λ n. is_fenced n.stage ≡ false) (some_is (booted before.server before.profile boot isn) x g) refl;
    })
unfenced_proceeds service before sent after f u (server_down s e) =
    subst Unfenced (sym e)
    (record {
      packets = all_append (StaleWithin before.boot) before.packets sent u.packets (subst (AllByRecursion (StaleWithin before.boot)) (sym s) tt);
      node = λ x g. none_is_some x g;
    })

pub start_unfenced : (w : World) → IsStart w → Unfenced w
start_unfenced w s = record { packets = subst (AllByRecursion (StaleWithin w.boot)) (sym s.packets) tt; node = λ x e. none_is_some x (sym s.node ∙ e) }

both_after : {State : Type 0} (service : Machine State) (start : World) (trace : List Moment) → Joint service start trace → IsFenced (world_after start trace) × Unfenced (world_after start trace)
both_after service start trace j =
    holds_after service (λ w. IsFenced w × Unfenced w) start (λ s. (start_fenced start s, start_unfenced start s))
    (λ before sent after h x. (fenced_proceeds service before sent after h.0 x, unfenced_proceeds service before sent after h.0 h.1 x)) trace j

pub if_some : {A : Type 0} (P : A → Type 0) (o : Option A) → ((x : A) → o ≡ Some x → P x) → IfSome o P
if_some P (Some x) f = f x refl
if_some P None f = tt

pub never_fenced : {State : Type 0} (service : Machine State) (start : World) (trace : List Moment) → Joint service start trace
    → IfSome (world_after start trace).node (λ node. is_fenced node.stage ≡ false)
never_fenced service start trace j = if_some (λ node. is_fenced node.stage ≡ false) (world_after start trace).node (both_after service start trace j).1.node

-- .. and no input that may come fences
pub no_fence : {State : Type 0} (service : Machine State) (start : World) (trace : List Moment) (node : Node) (input : Input) → Joint service start trace
    → (world_after start trace).node ≡ Some node → MayCome (world_after start trace) input → fence node input ≡ None
no_fence service start trace node input j up comes =
    let b = both_after service start trace j in never (world_after start trace) node input b.0 b.1 up comes

pub live_stage : {State : Type 0} (service : Machine State) (start : World) (trace : List Moment) (node : Node) → Joint service start trace → (world_after start trace).node ≡ Some node
    → is_fenced node.stage ≡ false
live_stage service start trace node j up = (both_after service start trace j).1.node node up
