-- What is sent without marks in a trace with marks is well formed.
use Rattle.std.proofs.Common.{◌≡◌, ⊎_elim, ℕ, ◌+◌, ◌<◌, ◌≤◌, ◌^◌, ◌==◌, ◌&&◌, refl, sym, ◌∙◌, subst, Option, Some, None, option_map, option_to_list, List, [], ◌∷◌, ◌++◌, map, length, if◌then◌else◌}
use Rattle.std.specs.Prelude.{nat_lt}
use Rattle.std.specs.List.{AllByRecursion}
use Rattle.std.proofs.lemmas.Bool.{ltb-true}
use Rattle.std.proofs.lemmas.List.{length-map}
use Rattle.ft_io.specs.declared.Key.{Key}
use Rattle.ft_io.specs.Key.{key_eq}
use Rattle.ft_io.proofs.Choices.{holds_if, holds_either_way}
use Rattle.seq_arith.specs.Mark.{Mark, MarkBody, MarkMessage}
use Rattle.seq_arith.specs.Mark.MarkBody.{MarkMsg, MarkedMsg, AskMsg, HeldMsg}
use Rattle.seq_arith.specs.Message.{Message}
use Rattle.seq_arith.specs.Message.Body.{StaleMsg}
use Rattle.server_trait.specs.Service.{Machine, WritesBytes}
use Rattle.ft_model.specs.Lawful.{Continues as PlainContinues, Revives, all_restored, asked}
use Rattle.ft_model.specs.Log.{Log, Entry, answer_to}
use Rattle.ft_model.specs.Network.{Packet}
use Rattle.ft_model.specs.Network.Packet.{From_logger}
use Rattle.ft_model.specs.Node.{Node, Stage}
use Rattle.ft_model.specs.Node.Place.{Lives}
use Rattle.ft_model.specs.Restart.{Fetched, Wanted, wanted, point_of}
use Rattle.ft_model.specs.Restart.Wanted.{An_entry, Its_bytes, Its_lengths}
use Rattle.ft_model.specs.World.{World, Happens}
use Rattle.ft_model.specs.declared.event.Event.{Event}
use Rattle.ft_model.proofs.Faithful.{EntriesFit, PlaceFits}
use Rattle.ft_model.proofs.FaithfulOver.{script_of, isn_of, points_fit, restored_all}
use Rattle.ft_model.specs.FetchedFronts.{AreFetched}
use Rattle.ft_model.proofs.Formed.{HasClient, IsBoot, PacketFormed, StartFormed, EntryFormed, PlaceFormed, StageFormed, NodeFormed, WorldFormed}
use Rattle.ft_model.proofs.FormedLog.{EntryReports, AckedWithin, entries_report}
use Rattle.ft_model.proofs.FormedOver.{Knows, turn_formed, no_places, point_formed, revived_formed, wanted_formed}
use Rattle.ft_model.proofs.FormedTurns.{PlaceSound}
use Rattle.ft_model.proofs.FormedWorld.{moment_formed}
use Rattle.ft_model.proofs.Happened.{answers, happened}
use Rattle.ft_model.proofs.Lists.{all_append, all_both, all_weaker}
use Rattle.ft_model.proofs.PlaceTurns.{all_proceed}
use Rattle.ft_model.proofs.Resumed.{nothing_missing}
use Rattle.ft_model.proofs.StageTurns.{stage_went}
use Rattle.mark_laws.specs.MarkedLog.{MarkedLog, AnyMessage, acknowledging, after_mark, answer_above, answer_to_mark, about_mark, is_below, is_mark_answer, keeps, reported_of_mark, with_mark, with_mark_body}
use Rattle.mark_laws.specs.MarkedLog.AnyMessage.{Of_log}
use Rattle.mark_laws.specs.MarkedNode.{MarkedNode}
use Rattle.mark_laws.specs.MarkedWorld.{Parcel, MarkedWorld, answered_as, seen, usual}
use Rattle.mark_laws.specs.MarkedWorld.Parcel.{Usual}
use Rattle.mark_laws.proofs.Strip.{usual_append, usual_of}
use Rattle.mark_laws.proofs.LogSteps.{mapped_node}
use Rattle.mark_laws.proofs.SeenTurns.{SeenTurn}
use Rattle.mark_laws.proofs.SeenTurns.SeenTurn.{as_without, unseen, asks_mark, from_mark}

-- A restart that continues from what is below a mark

-- what it asks for
abbrev WantedFormed : World → Wanted → Type 0
WantedFormed start (An_entry index) = index ≤ 63
WantedFormed start (Its_bytes key offset) = HasClient start key × (offset ≤ 2 ^ 24)
WantedFormed start (Its_lengths key first) = HasClient start key × (first ≤ 2 ^ 24 + 1)

asked_formed : (start : World) (node : Node) (w : Wanted) → IsBoot node.boot → WantedFormed start w → AllByRecursion (PacketFormed start) (asked node (Some w))
asked_formed start node (An_entry index) b h = ((b, h), tt)
asked_formed start node (Its_bytes key offset) b h = ((b, h), tt)
asked_formed start node (Its_lengths key first) b h = ((b, h), tt)

-- A turn
abbrev TurnFormed : World → Node → List Packet → Type 0
TurnFormed start later sent = NodeFormed start later × AllByRecursion (PacketFormed start) sent

with_stage_formed : (start : World) (node later : Node) (stage : Stage) → NodeFormed start node → StageFormed start stage → later ≡ record node { stage = stage } → NodeFormed start later
with_stage_formed start node later stage n s e = subst (NodeFormed start) (sym e) (record { server = n.server; profile = n.profile; boot = n.boot; stage = s })

module _ {State : Type 0} (service : Machine State) (start u : World) (node : Node) (writes : WritesBytes service) (s : StartFormed start) (k : Knows start u) (up : u.node ≡ Some node) where
  reports : AllByRecursion (EntryReports start) u.log.entries
  reports = entries_report start s u.log.entries k.formed.entries k.truth.1.entries k.acked

  continued : (count : ℕ) (now : List Fetched) (stage : Stage) (sent : List Packet) (later : Node) (w : Option Wanted) → count ≡ length u.log.entries → AreFetched u.log.entries now → wanted count now ≡ w
      → PlainContinues service node count now w stage sent → later ≡ record node { stage = stage } → TurnFormed start later sent
  continued count now stage sent later (Some w) whole are e t same =
      let n : NodeFormed start node = k.formed.node node up in
      let formed : WantedFormed start w = wanted_formed start u.log.entries count now w (subst (λ m. m ≤ 64) (sym whole) k.formed.few) reports are e in (
        with_stage_formed start node later stage n (subst (StageFormed start) (sym t.0) tt) same,
        subst (AllByRecursion (PacketFormed start)) (sym t.1) (asked_formed start node w n.boot formed),
      )
  continued count now stage sent later None whole are e t same =
      let n : NodeFormed start node = k.formed.node node up in
      let all = nothing_missing u.log.entries count now are e in
      let points : AllByRecursion (λ x. PlaceSound start u.log (Lives (point_of service node.profile x))) u.log.entries =
      all_both (λ x. PlaceFits (script_of start) (isn_of start) u.log (Lives (point_of service node.profile x))) (EntryFormed start) _ u.log.entries (λ x f h. (f, point_formed service node.profile start x n.profile h))
      (points_fit service node.profile (script_of start) (isn_of start) u.log s.short k.truth.0.1.distinct k.truth.1.entries) k.formed.entries in
      let went = all_proceed (Revives service node) (PlaceSound start u.log) (PlaceSound start u.log) (PacketFormed start)
      (revived_formed service start u.log node writes s k.truth.1.entries n.server n.boot) (all_restored service node.profile now) t.0 sent
      (restored_all (PlaceSound start u.log) service node.profile u.log.entries now points (λ key. (tt, tt)) are all.0) t.2 in (
        with_stage_formed start node later stage n (subst (StageFormed start) (sym t.1) (all_weaker (PlaceSound start u.log) (PlaceFormed start) t.0 (λ p h. h.1) went.0)) same,
        went.1,
      )

  pub turned_formed : (sent : List Packet) (later : Node) → SeenTurn service u node sent later → TurnFormed start later sent
  turned_formed sent later (as_without input brought t) =
      let n : NodeFormed start node = k.formed.node node up in
      let went = turn_formed service start u node input sent later.stage writes s k up brought (stage_went service node later input sent t) in
      (record { server = t.server ∙ n.server; profile = t.profile ∙ n.profile; boot = subst IsBoot (sym t.boot) n.boot; stage = went.0 }, went.1)
  turned_formed sent later (unseen none same) = (subst (NodeFormed start) (sym same) (k.formed.node node up), subst (AllByRecursion (PacketFormed start)) (sym none) tt)
  turned_formed sent later (asks_mark stage restarts none same) =
      (with_stage_formed start node later stage (k.formed.node node up) (no_places start stage restarts) same, subst (AllByRecursion (PacketFormed start)) (sym none) tt)
  turned_formed sent later (from_mark count now stage whole are t same) = continued count now stage sent later (wanted count now) whole are refl t same

-- What happens to clients, and a message that isn't about marks at the log: as without marks
pub happens_formed : {State : Type 0} (service : Machine State) (start u : World) (event : Event) (sent : List Packet) (later : World) → WritesBytes service → StartFormed start → Knows start u
    → EntriesFit (script_of start) (isn_of start) later.log.entries → AllByRecursion AckedWithin later.log.entries → Happens service u event sent later → WorldFormed start later
happens_formed service start u event sent later writes s k fits acked h =
    ⊎_elim (λ x. (moment_formed service start u sent later writes s k fits acked x).1) (λ q. subst (WorldFormed start) (sym q.1) k.formed) (happened service u event sent later h)

-- The log
pub record LogFormed (start : World) (log : Log) : Type 0 where
  pub boot : log.boot < 2 ^ 64
  pub few : length log.entries ≤ 64
  pub entries : AllByRecursion (EntryFormed start) log.entries

pub log_of : (start u : World) → WorldFormed start u → LogFormed start u.log
log_of start u f = record { boot = f.boot; few = f.few; entries = f.entries }

acknowledging_formed : (start : World) (units : ℕ) (e : Entry) → EntryFormed start e → EntryFormed start (acknowledging units e)
acknowledging_formed start units e h = record { key = h.key; sisn = h.sisn; mss = h.mss; enough = h.enough; count = h.count; lengths = h.lengths }

entries_formed : (start : World) (key : Key) (units : ℕ) (es : List Entry) → AllByRecursion (EntryFormed start) es
    → AllByRecursion (EntryFormed start) (map (λ e. if key_eq e.key key then acknowledging units e else e) es)
entries_formed start key units [] a = tt
entries_formed start key units (e ∷ es) a =
    (holds_either_way (EntryFormed start) (key_eq e.key key) (acknowledging units e) e (acknowledging_formed start units e a.0) a.0, entries_formed start key units es a.1)

kept_formed : (start : World) (key : Key) (m : Mark) (l : MarkedLog) → LogFormed start l.log → LogFormed start (with_mark key m l).log
kept_formed start key m l f = record {
  boot = f.boot;
  few = subst (λ n. n ≤ 64) (sym (length-map l.log.entries (λ e. if key_eq e.key key then acknowledging m.made e else e))) f.few;
  entries = entries_formed start key m.made l.log.entries f.entries;
}

body_formed : (start : World) (body : MarkBody) (l : MarkedLog) → LogFormed start l.log → LogFormed start (with_mark_body body l).log
body_formed start (MarkMsg key m) l f = holds_either_way (λ (x : MarkedLog). LogFormed start x.log) (keeps key m l) (with_mark key m l) l (kept_formed start key m l f) f
body_formed start (MarkedMsg key reads) l f = f
body_formed start (AskMsg key) l f = f
body_formed start (HeldMsg key m) l f = f

pub marked_formed : (start : World) (l : MarkedLog) (message : MarkMessage) → LogFormed start l.log → LogFormed start (after_mark l message).log
unfolding after_mark
marked_formed start l message f =
    holds_either_way (λ (x : MarkedLog). LogFormed start x.log) (message.boot == l.log.boot) (with_mark_body message.body l) l (body_formed start message.body l f) f

-- its answers
abbrev AnswersFormed : World → List Parcel → Type 0
AnswersFormed start new = AllByRecursion (PacketFormed start) (usual new)

pub above_formed : (start : World) (l : MarkedLog) (message : Message) → AllByRecursion (PacketFormed start) (answers l.log message)
    → AnswersFormed start (map Usual (option_to_list (option_map From_logger (answer_above l message))))
unfolding answer_above
above_formed start l message a =
    holds_either_way (λ o. AnswersFormed start (map Usual (option_to_list (option_map From_logger o)))) (message.boot == l.log.boot && is_below l message.body) None (answer_to l.log message) tt
    (subst (AllByRecursion (PacketFormed start)) (sym (usual_of (answers l.log message))) a)

none_usual : (start : World) (boot : ℕ) (o : Option MarkBody) → AnswersFormed start (map answered_as (option_to_list (option_map (about_mark boot) o)))
none_usual start boot (Some body) = tt
none_usual start boot None = tt

pub reported_formed : (start : World) (l : MarkedLog) (message : MarkMessage) → IsBoot message.boot → l.log.boot < 2 ^ 64 → AnswersFormed start (map answered_as (option_to_list (answer_to_mark l message)))
unfolding answer_to_mark
reported_formed start l message boot below =
    let Are : Option AnyMessage → Type 0 = λ o. AnswersFormed start (map answered_as (option_to_list o)) in
    holds_if Are (is_mark_answer message.body) None _ (λ t. tt)
    (λ t. holds_if Are (nat_lt message.boot l.log.boot) (Some (Of_log (record { boot = message.boot; body = StaleMsg l.log.boot }))) _
    (λ older. (((boot, (ltb-true message.boot l.log.boot older, below)), tt), tt))
    (λ newer. holds_either_way Are (message.boot == l.log.boot) (option_map (about_mark message.boot) (reported_of_mark message.body (after_mark l message))) None
    (none_usual start message.boot (reported_of_mark message.body (after_mark l message))) tt))

pub next_formed_world : (start : World) (w : MarkedWorld) (log : MarkedLog) (boot : ℕ) (node : Option MarkedNode) (new : List Parcel) → WorldFormed start (seen w) → LogFormed start log.log
    → AnswersFormed start new → ((n : MarkedNode) → node ≡ Some n → NodeFormed start n.plain) → WorldFormed start (seen (record w { log = log; boot = boot; node = node; parcels = w.parcels ++ new }))
next_formed_world start w log boot node new f l a n = record {
  server = f.server;
  profile = f.profile;
  boot = l.boot;
  few = l.few;
  clients = f.clients;
  packets = subst (AllByRecursion (PacketFormed start)) (sym (usual_append w.parcels new)) (all_append (PacketFormed start) (usual w.parcels) (usual new) f.packets a);
  entries = l.entries;
  node = λ x e. let y = mapped_node node x e in subst (NodeFormed start) y.2 (n y.0 y.1);
}
