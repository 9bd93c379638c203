-- The premises of the turn of a server that marks hold in every trace with marks.
use Rattle.std.proofs.Common.{◌≡◌, inl, inr, ⊎_elim, ℕ, ◌==◌, ◌&&◌, Bool, refl, sym, ap, ◌∙◌, subst, subst₂, eqb-true, Option, Some, None, List, [], ◌∷◌, find, length}
use Rattle.std.specs.List.{AllByRecursion}
use Rattle.std.specs.Option.{option_map_or}
use Rattle.std.proofs.lemmas.Bool.{and_parts}
use Rattle.ft_io.specs.declared.Addr.{Addr}
use Rattle.ft_io.specs.declared.Key.{Key}
use Rattle.ft_io.specs.Key.{key_eq}
use Rattle.ft_io.proofs.Choices.{holds_if, some_if}
use Rattle.seq_arith.specs.Mark.{Mark, MarkBody, MarkMessage}
use Rattle.seq_arith.specs.Mark.MarkBody.{MarkMsg, MarkedMsg, AskMsg, HeldMsg}
use Rattle.seq_arith.specs.Message.{EntryHead, Message}
use Rattle.server_trait.specs.Service.{Machine, AreBytes}
use Rattle.ft_model.specs.Client.{Client}
use Rattle.ft_model.specs.Growth.{IsPrefix}
use Rattle.ft_model.specs.Lawful.{IsNearInput, IsSoundInput, AreSound, fence, newer_than, fetched_then}
use Rattle.ft_model.specs.Log.{Log, Entry, entry_of}
use Rattle.ft_model.specs.Masked.{is_restarting}
use Rattle.ft_model.specs.Network.Packet.{To_server, From_logger}
use Rattle.ft_model.specs.Node.{Node, Stage, Input}
use Rattle.ft_model.specs.Node.Stage.{Asking, Fetching, Serving, Fenced}
use Rattle.ft_model.specs.Node.Input.{Packet_comes, Message_comes, Noise_comes, Tick_comes}
use Rattle.ft_model.specs.Restart.{Fetched, IsSoundEntry, wanted, fetched_after}
use Rattle.ft_model.specs.Schedule.{clients_of, client_of}
use Rattle.ft_model.specs.World.{World, IsStart, IsNewClient, MayCome}
use Rattle.ft_model.specs.declared.schedule.ClientLine.{ClientLine}
use Rattle.ft_model.proofs.Formed.{bytes_take, bytes_left}
use Rattle.ft_model.proofs.Asked.{StageAgrees, progress_agrees}
use Rattle.ft_model.proofs.Faithful.{units_within}
use Rattle.ft_model.proofs.FaithfulOver.{script_of, isn_of, script_in}
use Rattle.ft_model.specs.FetchedFronts.{AreFetched}
use Rattle.ft_model.proofs.Happened.{all_sent}
use Rattle.ft_model.proofs.Keys.{finds_itself}
use Rattle.ft_model.proofs.Lists.{all_map, all_of, all_find, none_is_some, some_is, same_key, take_first}
use Rattle.ft_model.proofs.StageTurns.{Progress}
use Rattle.ft_model.proofs.Unfenced.{StaleWithin, NamesAtMost, if_some, not_newer}
use Rattle.trace_laws.specs.Premises.{IsSoundFront, HasSoundFronts}
use Rattle.trace_laws.proofs.Legal.{OwnNear}
use Rattle.trace_laws.proofs.Near.{all_near}
use Rattle.trace_laws.proofs.Sound.{entries_sound, fronts_sound, wholes_sound}
use Rattle.mark_laws.specs.Front.{IsBelow, bytes_below, lengths_below}
use Rattle.mark_laws.specs.Restart.{IsFront, with_front, mark_reported, mark_of_newest, mark_fits}
use Rattle.mark_laws.specs.Runs.{IsRunOf}
use Rattle.mark_laws.specs.MarkedNode.{Marker, MarkedNode, so_far}
use Rattle.mark_laws.specs.MarkedWorld.{MarkedWorld, seen, bytes_held, lengths_held}
use Rattle.mark_laws.specs.Premises.{LeadsToSound, IsSoundMark}
use Rattle.mark_laws.specs.TrueMarks.{ReportsTrueMark}
use Rattle.mark_laws.proofs.MarkSteps.{Kept, up_plain, nothing_below}
use Rattle.mark_laws.proofs.Own.{IsScriptedClient}
use Rattle.mark_laws.proofs.Packets.{Sound}

-- near

pub scripted_start : (server : Addr) (lines : List ClientLine) → AllByRecursion IsScriptedClient (clients_of server lines)
scripted_start server lines = all_map IsScriptedClient (client_of server) lines (all_of (λ line. IsScriptedClient (client_of server line)) lines (λ line. refl))

pub input_near : {State : Type 0} (service : Machine State) (start w : World) (node : Node) (input : Input) → Sound service start w → AllByRecursion IsScriptedClient start.clients → w.node ≡ Some node → MayCome w input
    → IsNearInput node.server input node.stage
input_near service start w node (Packet_comes segment) s scripted up comes =
    all_near service start w node segment (s.joint, s.near) up comes (all_sent (OwnNear (isn_of start)) w (To_server segment) (s.owns scripted).packets comes)
input_near service start w node (Message_comes message) s scripted up comes = tt
input_near service start w node Noise_comes s scripted up comes = tt
input_near service start w node Tick_comes s scripted up comes = tt

-- no fence

pub no_fence : {State : Type 0} (service : Machine State) (start w : World) (node : Node) (input : Input) → Sound service start w → w.node ≡ Some node → MayCome w input → fence node input ≡ None
no_fence service start w node (Message_comes message) s up comes =
    let own : node.boot ≡ w.boot = (s.joint.fenced.node node up).boot in
    let names : NamesAtMost w.boot message.body = all_sent (StaleWithin w.boot) w (From_logger message) s.unfenced.packets comes in
    holds_if (λ (o : Option ℕ). o ≡ None) (message.boot == node.boot) (newer_than node.boot message.body) None (λ t. not_newer node.boot message.body (subst (λ n. NamesAtMost n message.body) (sym own) names)) (λ t. refl)
no_fence service start w node (Packet_comes segment) s up comes = refl
no_fence service start w node Noise_comes s up comes = refl
no_fence service start w node Tick_comes s up comes = refl

-- sound

answer_agrees : {State : Type 0} (service : Machine State) (start w : World) (node : Node) (message : Message) (count : ℕ) (fetched more : List Fetched) → Sound service start w → w.node ≡ Some node
    → node.stage ≡ Fetching count fetched → MayCome w (Message_comes message) → fetched_then node message count fetched ≡ Some more → AreFetched w.log.entries more
answer_agrees service start w node message count fetched more s up is sent got =
    let parts = some_if (message.boot == node.boot) (fetched_after (wanted count fetched) message.body fetched) more got in
    let p : Progress node (Message_comes message) count more = record { message = message; comes = refl; boot = eqb-true _ _ parts.0; how = inr (fetched, is, parts.1) } in
    (progress_agrees w node (Message_comes message) count more s.joint.asked up sent p).1

input_sound : {State : Type 0} (service : Machine State) (start w : World) (node : Node) (input : Input) (stage : Stage) → Sound service start w → w.node ≡ Some node → node.stage ≡ stage → MayCome w input
    → IsSoundInput service node input stage × HasSoundFronts service node input stage
input_sound service start w node (Message_comes message) (Fetching count fetched) s up is sent =
    let entries : AllByRecursion (IsSoundEntry service) w.log.entries = entries_sound service start w (s.joint, s.below) in (
      if_some (AreSound service) (fetched_then node message count fetched)
          (λ now got. wholes_sound service w.log.entries now entries (answer_agrees service start w node message count fetched now s up is sent got)),
      if_some (AllByRecursion (IsSoundFront service)) (fetched_then node message count fetched)
          (λ now got. fronts_sound service w.log.entries now entries (answer_agrees service start w node message count fetched now s up is sent got)),
    )
input_sound service start w node input stage s up is sent = (tt, tt)

pub inputs_sound : {State : Type 0} (service : Machine State) (start w : World) (node : Node) (input : Input) → Sound service start w → w.node ≡ Some node → MayCome w input
    → IsSoundInput service node input node.stage × HasSoundFronts service node input node.stage
inputs_sound service start w node input s up sent = input_sound service start w node input node.stage s up refl sent

-- a mark

-- a true mark has below it what the log's entry begins with, where states are read back
pub record BelowLaw {State : Type 0} (by : Marker State) : Type 0 where
  pub back : (e : Entry) (m : Mark) → AreBytes e.bytes → IsRunOf by.service by.writing e m → IsBelow by.service by.writing m (bytes_below m e) (lengths_below m e)

found_bytes : (server : Addr) (clients : List Client) (key : Key) (o : Option Client) → AllByRecursion (IsNewClient server) clients → find (λ c. key_eq c.key key) clients ≡ o → AreBytes (script_in o)
found_bytes server clients key (Some c) a e = (all_find (IsNewClient server) (λ c. key_eq c.key key) clients c a e).bytes
found_bytes server clients key None a e = tt

entry_bytes : {State : Type 0} (service : Machine State) (start w : World) (key : Key) (e : Entry) → IsStart start → Sound service start w → entry_of key w.log ≡ Some e → AreBytes e.bytes
entry_bytes service start w key e starts s found =
    let front : IsPrefix e.bytes (script_of start key) = (units_within (script_of start) (isn_of start) w.log key e s.joint.faithful.entries found).0.front in
    bytes_left e.bytes front.0 (subst AreBytes (sym front.1) (found_bytes start.server start.clients key (find (λ c. key_eq c.key key) start.clients) starts.clients refl))

-- what is then fetched is the log's
held_leads : {State : Type 0} (by : Marker State) (start : World) (w : MarkedWorld) (f : Fetched) (earlier : List Fetched) (key : Key) (m : Mark) → BelowLaw by → IsStart start → Sound by.service start (seen w)
    → AreFetched w.log.log.entries (f ∷ earlier) → key ≡ f.head.key → ReportsTrueMark by w.log.log (HeldMsg key m)
    → IsFront by.service by.writing m (bytes_held w.log.log (HeldMsg key m)) (lengths_held w.log.log (HeldMsg key m))
    × AreFetched w.log.log.entries (with_front (bytes_held w.log.log (HeldMsg key m)) (lengths_held w.log.log (HeldMsg key m)) (f ∷ earlier))
    × AreBytes (bytes_held w.log.log (HeldMsg key m))
held_leads by start w f earlier key m below starts s a same reported =
    let log : Log = w.log.log in
    let e : Entry = a.0 in
    let Leads : List ℕ → List ℕ → Type 0 = λ bytes lengths. IsFront by.service by.writing m bytes lengths × AreFetched log.entries (with_front bytes lengths (f ∷ earlier)) × AreBytes bytes in
    let key_is : e.key ≡ key = ap (λ (h : EntryHead). h.key) (sym a.2.head) ∙ sym same in
    let found : entry_of key log ≡ Some e = subst (λ k. entry_of k log ≡ Some e) key_is (finds_itself (λ x. x.key) log.entries (length earlier) e s.joint.asked.distinct a.1) in
    ⊎_elim
    (λ none. let n = nothing_below key m log (entry_of key log) none in
    subst₂ Leads (sym n.0) (sym n.1) (
      inl (ap (λ (x : Mark). x.reads) none, refl, refl),
      (e, a.1, record { head = a.2.head; bytes = (e.bytes, refl); lengths = (e.lengths, refl) }, a.3, a.4),
      tt,
    ))
    (λ t. let one : t.0 ≡ e = some_is t.0 e (sym t.1 ∙ found) in
    let run : IsRunOf by.service by.writing e m = subst (λ x. IsRunOf by.service by.writing x m) one t.2 in
    let written : AreBytes e.bytes = entry_bytes by.service start (seen w) key e starts s found in
    subst₂ Leads (sym (ap (λ (o : Option Entry). option_map_or (bytes_below m) o []) found)) (sym (ap (λ (o : Option Entry). option_map_or (lengths_below m) o []) found)) (
      inr (below.back e m written run),
      (e, a.1, record { head = a.2.head; bytes = take_first m.length e.bytes; lengths = take_first m.reads e.lengths }, a.3, a.4),
      bytes_take m.length e.bytes written,
    )) reported

leads_sound : {State : Type 0} (by : Marker State) (start : World) (w : MarkedWorld) (fetched : List Fetched) (awaits : Bool) (body : MarkBody) (m : Mark) → BelowLaw by → IsStart start → Sound by.service start (seen w)
    → AreFetched w.log.log.entries fetched → ReportsTrueMark by w.log.log body → mark_of_newest by.writing body fetched ≡ Some m
    → LeadsToSound by w.log.log body (record { entries = fetched; awaits_mark = awaits }) m
leads_sound by start w (f ∷ earlier) awaits (HeldMsg key held) m below starts s a reported got =
    let parts = some_if (key_eq key f.head.key && mark_fits by.writing f.head held) (Some held) m got in
    let same : key ≡ f.head.key = same_key key f.head.key (and_parts (key_eq key f.head.key) (mark_fits by.writing f.head held) parts.0).0 in
    let x = held_leads by start w f earlier key held below starts s a same reported in
    let entries : AllByRecursion (IsSoundEntry by.service) w.log.log.entries = entries_sound by.service start (seen w) (s.joint, s.below) in
    subst (λ y. LeadsToSound by w.log.log (HeldMsg key held) (record { entries = f ∷ earlier; awaits_mark = awaits }) y) (some_is held m parts.1)
    (record {
      front = x.0;
      bytes = x.2;
      whole = wholes_sound by.service w.log.log.entries (with_front (bytes_held w.log.log (HeldMsg key held)) (lengths_held w.log.log (HeldMsg key held)) (f ∷ earlier)) entries x.1;
      fronts = fronts_sound by.service w.log.log.entries (with_front (bytes_held w.log.log (HeldMsg key held)) (lengths_held w.log.log (HeldMsg key held)) (f ∷ earlier)) entries x.1;
    })
leads_sound by start w [] awaits (HeldMsg key held) m below starts s a reported got = none_is_some m got
leads_sound by start w fetched awaits (MarkMsg key held) m below starts s a reported got = none_is_some m got
leads_sound by start w fetched awaits (MarkedMsg key reads) m below starts s a reported got = none_is_some m got
leads_sound by start w fetched awaits (AskMsg key) m below starts s a reported got = none_is_some m got

mark_by : {State : Type 0} (by : Marker State) (start : World) (w : MarkedWorld) (node : MarkedNode) (message : MarkMessage) (stage : Stage) → BelowLaw by → IsStart start → Kept by start w → w.node ≡ Some node
    → node.plain.stage ≡ stage → ReportsTrueMark by w.log.log message.body → IsSoundMark by w.log.log node message stage
mark_by by start w node message (Fetching count fetched) below starts k up is reported =
    let asked_is = (k.sound.joint.asked.node node.plain (up_plain w node up) (ap is_restarting is)).fetched in
    let agrees : (count ≡ length w.log.log.entries) × AreFetched w.log.log.entries fetched = subst (StageAgrees w.log.log.entries) is asked_is in
    if_some (LeadsToSound by w.log.log message.body (so_far node fetched)) (mark_reported by.writing node.plain.boot message (so_far node fetched))
    (λ m e. let parts = some_if (message.boot == node.plain.boot && node.awaits_mark) (mark_of_newest by.writing message.body fetched) m e in
    leads_sound by start w fetched node.awaits_mark message.body m below starts k.sound agrees.1 reported parts.1)
mark_by by start w node message Asking below starts k up is reported = tt
mark_by by start w node message (Serving opened places) below starts k up is reported = tt
mark_by by start w node message (Fenced newer) below starts k up is reported = tt

pub marks_sound : {State : Type 0} (by : Marker State) (start : World) (w : MarkedWorld) (node : MarkedNode) (message : MarkMessage) → BelowLaw by → IsStart start → Kept by start w → w.node ≡ Some node
    → ReportsTrueMark by w.log.log message.body → IsSoundMark by w.log.log node message node.plain.stage
marks_sound by start w node message below starts k up reported = mark_by by start w node message node.plain.stage below starts k up refl reported
