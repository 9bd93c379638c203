-- All that was sent in a trace with marks is read as what was sent: what is sent without marks is well formed, and so is what is sent about marks.
use Rattle.std.proofs.Common.{◌≡◌, ◌⊎◌, inl, inr, ⊎_elim, ℕ, ◌+◌, ◌<◌, ◌≤◌, ◌^◌, ◌==◌, refl, sym, ap, ◌∙◌, subst, arith, Option, Some, None, option_map, option_to_list, List, [], ◌∷◌, ◌++◌, map, length, take, append-nil}
use Rattle.std.specs.Prelude.{nat_lt, nat_le}
use Rattle.std.specs.List.{AllByRecursion}
use Rattle.std.proofs.lemmas.Bool.{and_from}
use Rattle.ft_io.specs.declared.Key.{Key}
use Rattle.ft_io.specs.Key.{key_eq}
use Rattle.ft_io.proofs.Choices.{holds_if, holds_either_way}
use Rattle.seq_arith.specs.Damage.{flipped}
use Rattle.seq_arith.specs.Mark.{Mark, MarkBody, MarkMessage}
use Rattle.seq_arith.specs.Mark.MarkBody.{MarkMsg, MarkedMsg, AskMsg, HeldMsg}
use Rattle.seq_arith.specs.MarkGrammar as marks
use Rattle.seq_arith.specs.MessageGrammar as messages
use Rattle.seq_arith.specs.PacketGrammar as segments
use Rattle.seq_arith.specs.Message.{Message}
use Rattle.seq_arith.specs.Message.Body.{StaleMsg}
use Rattle.seq_arith.proofs.MarkSpelling.{mark_is_read}
use Rattle.seq_arith.proofs.MessageSpelling.{message_is_read}
use Rattle.seq_arith.proofs.Refused.{flipped_packet_is_refused}
use Rattle.seq_arith.proofs.Spelling.{spelling_is_read}
use Rattle.server_trait.specs.Saved.{Writing, ReadsBack}
use Rattle.server_trait.specs.Service.{Machine, AreBytes, WritesBytes, cut, reference}
use Rattle.ft_model.specs.Growth.{IsPrefix}
use Rattle.ft_model.specs.Lawful.{hello}
use Rattle.ft_model.specs.Log.{Entry, entry_of, log_after}
use Rattle.ft_model.specs.Masked.{is_restarting}
use Rattle.ft_model.specs.Network.{Packet, destination_of}
use Rattle.ft_model.specs.Network.Packet.{To_server, To_client, To_logger, From_logger}
use Rattle.ft_model.specs.Node.{Stage, booted}
use Rattle.ft_model.specs.Node.Stage.{Asking, Fetching, Serving, Fenced}
use Rattle.ft_model.specs.Node.Input.{Packet_comes, Message_comes, Noise_comes, Tick_comes}
use Rattle.ft_model.specs.Readable.{FitsKey}
use Rattle.tcp_rules.specs.Profile.{grammar_of}
use Rattle.ft_model.specs.Wire.{HasWireBy}
use Rattle.ft_model.specs.World.{World, ClientReceives, ClientReads, Happens}
use Rattle.ft_model.specs.declared.event.Event.{Event}
use Rattle.ft_model.specs.declared.event.Event.TheVariants.{Boot, Crash, Tick, Deliver, Flip}
use Rattle.ft_model.proofs.Asked.{StageAgrees}
use Rattle.ft_model.proofs.AuthorOver.{HasAuthor, EntryOf}
use Rattle.ft_model.proofs.Backed.{PacketBacked}
use Rattle.ft_model.proofs.Faithful.{units_within}
use Rattle.ft_model.proofs.FaithfulOver.{script_of, isn_of}
use Rattle.ft_model.specs.FetchedFronts.{AreFetched}
use Rattle.ft_model.proofs.Formed.{IsBoot, PacketFormed, StartFormed, NodeFormed, WorldFormed, bytes_cut}
use Rattle.ft_model.proofs.FormedLog.{EntryReports, entries_report}
use Rattle.ft_model.proofs.FormedOver.{Knows, newest_formed}
use Rattle.ft_model.proofs.FormedWorld.{entries_acked, moment_formed, packet_acked, start_formed, world_start, all_behind}
use Rattle.ft_model.proofs.Happened.{IsUnderWay, answers, segment_is_noise}
use Rattle.ft_model.proofs.Happened.Happened.{log_received}
use Rattle.ft_model.proofs.Lists.{all_append, all_both, all_find, all_map, all_of, found_passes, none_is_some, prefix_trans, same_key, some_is, take_first}
use Rattle.ft_model.proofs.Services.{more_bytes, prefix_length, reads_proceed}
use Rattle.ft_model.proofs.Wires.{has_size, is_low, packet_wire}
use Rattle.mark_laws.specs.MarkedLog.{MarkedLog, AnyMessage, about_mark, after_mark, after_message, answer_above, answer_to_mark, is_mark_answer, keeps, no_mark, reported_of_mark, with_mark, with_mark_body}
use Rattle.mark_laws.specs.MarkedLog.AnyMessage.{About_mark, Of_log}
use Rattle.mark_laws.specs.Marking.{Outgoing, without_marks}
use Rattle.mark_laws.specs.Marking.Outgoing.{Plain, Mark_to_logger}
use Rattle.mark_laws.specs.Runs.{IsRunOf}
use Rattle.mark_laws.specs.MarkedNode.{Marker, MarkedNode, MarkedInput, LawfulMarkedTurn, booted_to_mark}
use Rattle.mark_laws.specs.MarkedNode.MarkedInput.{Plain_comes, Mark_comes}
use Rattle.mark_laws.specs.MarkedWorld.{Parcel, MarkedWorld, MarkedMoment, CanBeRead, Elsewhere, FlippedTo, IsMarkedStart, LogReceives, LogReads, MarkedHappens, MarkedJoint, ParcelComes, ServerMoves, ServerTurn, answered_as, bytes_reported, input_of, lengths_reported, marked_after, parcel_at, parcel_of, seen, usual}
use Rattle.mark_laws.specs.MarkedWorld.Parcel.{Usual, Mark_sent, Mark_answered}
use Rattle.mark_laws.specs.TrueMarks.{HasTrueMark, IsTrueMark, IsTrueOrNone, ReportsTrueMark}
use Rattle.mark_laws.proofs.MarkSteps.{Kept, Grounds, of_parcel, under_way, up_plain}
use Rattle.mark_laws.proofs.Noise.{mark_noise, message_noise}
use Rattle.mark_laws.proofs.Strip.{usual_out}
use Rattle.mark_laws.proofs.Traces.{kept_after}
use Rattle.mark_laws.proofs.Counted.{AllCount, BodyCounts, Counts, IsNewest, OutCounts, TurnCounts, turn_counts}
use Rattle.mark_laws.proofs.Formed.{above_formed, happens_formed, log_of, marked_formed, next_formed_world, reported_formed, turned_formed}
use Rattle.mark_laws.proofs.SeenTurns.{BringsPlain, Stands, turn_seen}

-- A message about marks is well formed: its boot number and its key fit, and its mark is there for a reason
abbrev BodyFormed : (every : ℕ) → MarkBody → Type 0
BodyFormed every (MarkMsg key m) = FitsKey key × Counts every m
BodyFormed every (MarkedMsg key reads) = FitsKey key × (reads ≤ 2 ^ 24 + 1)
BodyFormed every (AskMsg key) = FitsKey key
BodyFormed every (HeldMsg key m) = FitsKey key × ((m ≡ no_mark) ⊎ (0 < every))

abbrev MessageFormed : (every : ℕ) → MarkMessage → Type 0
MessageFormed every message = IsBoot message.boot × BodyFormed every message.body

abbrev ParcelFormed : (every : ℕ) → Parcel → Type 0
ParcelFormed every (Usual packet) = Unit {0}
ParcelFormed every (Mark_sent message) = MessageFormed every message
ParcelFormed every (Mark_answered message) = MessageFormed every message

abbrev AreMarks : (every : ℕ) → MarkedLog → Type 0
AreMarks every l = (key : Key) → (l.marks key ≡ no_mark) ⊎ (0 < every)

pub record Wired {State : Type 0} (by : Marker State) (start : World) (w : MarkedWorld) : Type 0 where
  pub formed : WorldFormed start (seen w)
  pub about : AllByRecursion (ParcelFormed by.every) w.parcels
  pub kept : AreMarks by.every w.log
  pub outstanding : (node : MarkedNode) → w.node ≡ Some node → (key : Key) → AllCount by.every (node.marking key)

usual_formed : (every : ℕ) (packets : List Packet) → AllByRecursion (ParcelFormed every) (map Usual packets)
usual_formed every packets = all_map (ParcelFormed every) Usual packets (all_of (λ p. Unit {0}) packets (λ p. tt))

-- the answers of the log
answer_formed : (every boot : ℕ) (l : MarkedLog) (body : MarkBody) → IsBoot boot → BodyFormed every body → AreMarks every l → ((key : Key) → (l.marks key).reads ≤ 2 ^ 24 + 1)
    → AllByRecursion (ParcelFormed every) (map answered_as (option_to_list (option_map (about_mark boot) (reported_of_mark body l))))
answer_formed every boot l (MarkMsg key m) b f kept few = by_entry (entry_of key l.log)
  where
    by_entry : (o : Option Entry) → AllByRecursion (ParcelFormed every) (map answered_as (option_to_list (option_map (about_mark boot) (option_map (λ e. MarkedMsg key (l.marks key).reads) o))))
    by_entry (Some e) = ((b, (f.0, few key)), tt)
    by_entry None = tt
answer_formed every boot l (AskMsg key) b f kept few = by_entry (entry_of key l.log)
  where
    by_entry : (o : Option Entry) → AllByRecursion (ParcelFormed every) (map answered_as (option_to_list (option_map (about_mark boot) (option_map (λ e. HeldMsg key (l.marks key)) o))))
    by_entry (Some e) = ((b, (f, kept key)), tt)
    by_entry None = tt
answer_formed every boot l (MarkedMsg key reads) b f kept few = tt
answer_formed every boot l (HeldMsg key m) b f kept few = tt

answers_formed : (every : ℕ) (l : MarkedLog) (message : MarkMessage) → MessageFormed every message → AreMarks every (after_mark l message) → ((key : Key) → ((after_mark l message).marks key).reads ≤ 2 ^ 24 + 1)
    → AllByRecursion (ParcelFormed every) (map answered_as (option_to_list (answer_to_mark l message)))
unfolding answer_to_mark
answers_formed every l message f kept few =
    let Are : Option AnyMessage → Type 0 = λ o. AllByRecursion (ParcelFormed every) (map answered_as (option_to_list o)) in
    holds_either_way Are (is_mark_answer message.body) None _ tt
    (holds_either_way Are (nat_lt message.boot l.log.boot) (Some (Of_log (record { boot = message.boot; body = StaleMsg l.log.boot }))) _ (tt, tt)
    (holds_either_way Are (message.boot == l.log.boot) (option_map (about_mark message.boot) (reported_of_mark message.body (after_mark l message))) None
    (answer_formed every message.boot (after_mark l message) message.body f.0 f.1 kept few) tt))

-- the marks that it has
body_kept : (every : ℕ) (body : MarkBody) (l : MarkedLog) → BodyFormed every body → AreMarks every l → AreMarks every (with_mark_body body l)
body_kept every (MarkMsg key m) l f kept =
    holds_either_way (AreMarks every) (keeps key m l) (with_mark key m l) l
    (λ k. holds_if (λ (x : Mark). (x ≡ no_mark) ⊎ (0 < every)) (key_eq k key) m (l.marks k) (λ e. inr f.1.1) (λ e. kept k)) kept
body_kept every (MarkedMsg key reads) l f kept = kept
body_kept every (AskMsg key) l f kept = kept
body_kept every (HeldMsg key m) l f kept = kept

marks_kept : (every : ℕ) (l : MarkedLog) (message : MarkMessage) → MessageFormed every message → AreMarks every l → AreMarks every (after_mark l message)
unfolding after_mark
marks_kept every l message f kept = holds_either_way (AreMarks every) (message.boot == l.log.boot) (with_mark_body message.body l) l (body_kept every message.body l f.1 kept) kept

short_state : {State : Type 0} (service : Machine State) (writing : Writing State) (e : Entry) (m : Mark) → ReadsBack service writing → AreBytes e.bytes → IsRunOf service writing e m → length m.state ≤ 1100
unfolding reference
short_state service writing e m reads_back bytes run =
    let back = reads_back (cut e.bytes (take m.reads e.lengths)) (bytes_cut e.bytes (take m.reads e.lengths) bytes) run.running in
    subst (λ (s : List ℕ). length s ≤ 1100) (sym run.state) back.short

record Bounded (m : Mark) : Type 0 where
  reads : m.reads ≤ 2 ^ 24 + 1
  length_of : m.length ≤ 2 ^ 24
  made : m.made ≤ 2 ^ 24

none_bounded : (m : Mark) → m ≡ no_mark → Bounded m × (length m.state ≤ 1100)
none_bounded m none = subst (λ x. Bounded x × (length x.state ≤ 1100)) (sym none) (record { reads = omega arith; length_of = omega arith; made = omega arith }, omega arith)

module _ {State : Type 0} (by : Marker State) (start : World) (w : MarkedWorld) (s : StartFormed start) (k : Kept by start w) (f : WorldFormed start (seen w)) where
  reports : AllByRecursion (EntryReports start) w.log.log.entries
  reports = entries_report start s w.log.log.entries f.entries k.sound.joint.faithful.entries (entries_acked by.service start (seen w) k.sound.joint)

  reported_of : (key : Key) (e : Entry) → entry_of key w.log.log ≡ Some e → EntryReports start e
  reported_of key e found = all_find (EntryReports start) (λ x. key_eq x.key key) w.log.log.entries e reports found

  made_within : (key : Key) (e : Entry) (m : Mark) → entry_of key w.log.log ≡ Some e → IsRunOf by.service by.writing e m → m.made ≤ 2 ^ 24
  made_within key e m found run =
      let script : List ℕ = script_of start key in
      let lengths : List ℕ = take m.reads e.lengths in
      let author : HasAuthor by.service (script_of start) (seen w) = k.sound.joint.author in
      let front = (units_within (script_of start) (isn_of start) w.log.log key e k.sound.joint.faithful.entries found).0.front in
      let same : reference by.service script lengths ≡ reference by.service e.bytes lengths = more_bytes by.service e.bytes script lengths front run.enough in
      let of_author : EntryOf author.author e = all_find (EntryOf author.author) (λ x. key_eq x.key key) w.log.log.entries e author.entries found in
      let key_is : e.key ≡ key = same_key e.key key (found_passes (λ x. key_eq x.key key) w.log.log.entries e found) in
      let first : IsPrefix lengths (author.author key) =
      prefix_trans lengths e.lengths (author.author key) (take_first m.reads e.lengths) (subst (λ j. IsPrefix e.lengths (author.author j)) key_is of_author.0) in
      let size = prefix_length _ _ (reads_proceed by.service script lengths (author.author key) first).output in
      let small = author.short key in
      let made : m.made ≡ length (reference by.service script lengths).output = run.made ∙ ap (λ r. length r.output) (sym same) in
      omega (arith, size, small, made)

  bounded : (key : Key) (m : Mark) → IsTrueMark by w.log.log key m → Bounded m
  bounded key m t =
      let e : Entry = t.0 in
      let reported : EntryReports start e = reported_of key e t.1 in
      let run : IsRunOf by.service by.writing e m = t.2 in
      record {
        reads = omega (arith, run.count, reported.formed.count, reported.formed.enough, reported.short);
        length_of = omega (arith, run.bytes, run.enough, reported.short);
        made = made_within key e m t.1 run;
      }

  few_reads : (key : Key) (m : Mark) → IsTrueOrNone by w.log.log key m → m.reads ≤ 2 ^ 24 + 1
  few_reads key m t = ⊎_elim (λ none. (none_bounded m none).0.reads) (λ x. (bounded key m x).reads) t

  key_fits : (key : Key) (m : Mark) → IsTrueMark by w.log.log key m → FitsKey key
  key_fits key m t =
      let reported : EntryReports start t.0 = reported_of key t.0 t.1 in
      subst FitsKey (same_key t.0.key key (found_passes (λ x. key_eq x.key key) w.log.log.entries t.0 t.1)) reported.formed.key.0

  -- the entry that a server has fetched last is the log's
  newest_fits : (node : MarkedNode) (stage : Stage) (key : Key) → w.node ≡ Some node → node.plain.stage ≡ stage → IsNewest key stage → FitsKey key
  newest_fits node (Fetching count (f ∷ earlier)) key up is newest =
      let agrees : (count ≡ length w.log.log.entries) × AreFetched w.log.log.entries (f ∷ earlier) =
      subst (StageAgrees w.log.log.entries) is (k.sound.joint.asked.node node.plain (up_plain w node up) (ap is_restarting is)).fetched in
      subst FitsKey (sym newest) (newest_formed start w.log.log.entries f earlier reports agrees.1).0.0
  newest_fits node (Fetching count []) key up is newest = absurd newest
  newest_fits node Asking key up is newest = absurd newest
  newest_fits node (Serving opened places) key up is newest = absurd newest
  newest_fits node (Fenced newer) key up is newest = absurd newest

  -- what a server sends
  body_formed : (node : MarkedNode) (body : MarkBody) → w.node ≡ Some node → BodyCounts by.every node.plain.stage body → ReportsTrueMark by w.log.log body → BodyFormed by.every body
  body_formed node (MarkMsg key m) up counts reported = (key_fits key m reported, counts)
  body_formed node (AskMsg key) up counts reported = newest_fits node node.plain.stage key up refl counts
  body_formed node (MarkedMsg key reads) up counts reported = absurd counts
  body_formed node (HeldMsg key m) up counts reported = absurd counts

  out_formed : (node : MarkedNode) (boot : ℕ) (out : List Outgoing) → w.node ≡ Some node → IsBoot boot → AllByRecursion (OutCounts boot by.every node.plain.stage) out
      → AllByRecursion (HasTrueMark by w.log.log) (map parcel_of out) → AllByRecursion (ParcelFormed by.every) (map parcel_of out)
  out_formed node boot [] up b counts reported = tt
  out_formed node boot (Plain packet ∷ out) up b counts reported = (tt, out_formed node boot out up b counts.1 reported.1)
  out_formed node boot (Mark_to_logger message ∷ out) up b counts reported =
      ((subst IsBoot (sym counts.0.0) b, body_formed node message.body up counts.0.1 reported.0), out_formed node boot out up b counts.1 reported.1)

-- One moment

knows : {State : Type 0} (by : Marker State) (start : World) (w : MarkedWorld) → Kept by start w → WorldFormed start (seen w) → Knows start (seen w)
knows by start w k f = record {
  formed = f;
  acked = entries_acked by.service start (seen w) k.sound.joint;
  truth = ((k.sound.joint.fenced, k.sound.joint.asked), k.sound.joint.faithful);
}

nothing_wired : {State : Type 0} (by : Marker State) (start : World) (w : MarkedWorld) (sent : List Parcel) (after : MarkedWorld) → Wired by start w → sent ≡ [] → after ≡ record w { parcels = w.parcels ++ sent } → Wired by start after
nothing_wired by start w sent after x none is =
    let same : after ≡ w = is ∙ ap (λ (ps : List Parcel). record w { parcels = ps }) (ap (λ ps. w.parcels ++ ps) none ∙ append-nil w.parcels) in
    subst (Wired by start) (sym same) x

module _ {State : Type 0} (by : Marker State) (start : World) (writes : WritesBytes by.service) (s : StartFormed start) (before : MarkedWorld) (k : Kept by start before) (x : Wired by start before) where
  elsewhere_wired : (Goes : World → List Packet → World → Type 0) (sent : List Parcel) (after : MarkedWorld)
      → ((packets : List Packet) → Goes (seen before) packets (seen after) → WorldFormed start (seen after)) → Elsewhere Goes before sent after → Wired by start after
  elsewhere_wired Goes sent after formed t = record {
    formed = formed t.0 t.2;
    about = subst (λ (w : MarkedWorld). AllByRecursion (ParcelFormed by.every) w.parcels) (sym t.3)
        (all_append (ParcelFormed by.every) before.parcels sent x.about (subst (AllByRecursion (ParcelFormed by.every)) (sym t.1) (usual_formed by.every t.0)));
    kept = subst (λ (w : MarkedWorld). AreMarks by.every w.log) (sym t.3) x.kept;
    outstanding = λ n e. x.outstanding n (sym (ap (λ (w : MarkedWorld). w.node) t.3) ∙ e);
  }

  event_wired : (event : Event) (sent : List Parcel) (after : MarkedWorld) → Kept by start after → (packets : List Packet) → Happens by.service (seen before) event packets (seen after) → WorldFormed start (seen after)
  event_wired event sent after k' packets h =
      happens_formed by.service start (seen before) event packets (seen after) writes s (knows by start before k x.formed) k'.sound.joint.faithful.entries (entries_acked by.service start (seen after) k'.sound.joint) h

  turn_wired : (node later : MarkedNode) (input : MarkedInput) (out : List Outgoing) → before.node ≡ Some node → BringsPlain (seen before) input
      → LawfulMarkedTurn by (bytes_reported before.log.log input) (lengths_reported before.log.log input) node input out later
      → Kept by start (record before { node = Some later; parcels = before.parcels ++ map parcel_of out }) → Wired by start (record before { node = Some later; parcels = before.parcels ++ map parcel_of out })
  turn_wired node later input out up brought t k' =
      let stands : Stands by (seen before) node = record { up = up_plain before node up; asked = k.sound.joint.asked; live = t.live } in
      let went = turned_formed by.service start (seen before) node.plain writes s (knows by start before k x.formed) (up_plain before node up) (without_marks out) later.plain
      (turn_seen by (seen before) node input out later stands brought t.turn) in
      let counts : TurnCounts by node.plain.boot out later = turn_counts by node (bytes_reported before.log.log input) (lengths_reported before.log.log input) input out later (x.outstanding node up) t.turn in
      let formed : WorldFormed start (seen (record before { node = Some later; parcels = before.parcels ++ map parcel_of out })) =
      next_formed_world start before before.log before.boot (Some later) (map parcel_of out) x.formed (log_of start (seen before) x.formed)
      (subst (AllByRecursion (PacketFormed start)) (sym (usual_out out)) went.1) (λ n e. subst (λ (y : MarkedNode). NodeFormed start y.plain) (some_is later n e) went.0) in
      record {
        formed = formed;
        about = all_append (ParcelFormed by.every) before.parcels (map parcel_of out) x.about
            (out_formed by start (record before { node = Some later; parcels = before.parcels ++ map parcel_of out }) s k' formed later node.plain.boot out refl (x.formed.node node.plain (up_plain before node up)).boot counts.sent
            (all_behind (HasTrueMark by before.log.log) before.parcels (map parcel_of out) k'.marks.under_way));
        kept = x.kept;
        outstanding = λ n e. subst (λ (y : MarkedNode). (key : Key) → AllCount by.every (y.marking key)) (some_is later n e) counts.outstanding;
      }

  server_by : (o : Option MarkedNode) (input : MarkedInput) (sent : List Parcel) (after : MarkedWorld) → before.node ≡ o → BringsPlain (seen before) input → Kept by start after → ServerTurn by input o before sent after → Wired by start after
  server_by None input sent after up brought k' t = nothing_wired by start before sent after x t.0 t.1
  server_by (Some node) input sent after up brought k' t =
      let is : after ≡ record before { node = Some t.0; parcels = before.parcels ++ map parcel_of t.1 } = t.4 ∙ ap (λ (ps : List Parcel). record before { node = Some t.0; parcels = before.parcels ++ ps }) t.3 in
      subst (Wired by start) (sym is) (turn_wired node t.0 input t.1 up brought t.2 (subst (Kept by start) is k'))

  server_wired : (input : MarkedInput) (sent : List Parcel) (after : MarkedWorld) → BringsPlain (seen before) input → Kept by start after → ServerMoves by input before sent after → Wired by start after
  server_wired input sent after brought k' t = server_by before.node input sent after refl brought k' t

  message_wired : (message : Message) (sent : List Parcel) (after : MarkedWorld) → IsUnderWay (seen before) (To_logger message) → Kept by start after → LogReceives (Of_log message) before sent after → Wired by start after
  message_wired message sent after under k' t =
      let new : List Parcel = map Usual (option_to_list (option_map From_logger (answer_above before.log message))) in
      let next : MarkedWorld = record before { log = after_message before.log message; parcels = before.parcels ++ new } in
      let is : after ≡ next = t.1 ∙ ap (λ (ps : List Parcel). record before { log = after_message before.log message; parcels = before.parcels ++ ps }) t.0 in
      let later : Kept by start next = subst (Kept by start) is k' in
      let receipt : World = record (seen before) { log = log_after before.log.log message; packets = usual before.parcels ++ answers before.log.log message } in
      let went = moment_formed by.service start (seen before) (answers before.log.log message) receipt writes s (knows by start before k x.formed) later.sound.joint.faithful.entries
      (entries_acked by.service start (seen next) later.sound.joint) (log_received message under refl refl) in
      subst (Wired by start) (sym is)
      (record {
        formed = next_formed_world start before (after_message before.log message) before.boot before.node new x.formed (log_of start receipt went.1) (above_formed start before.log message went.0)
            (λ n e. x.formed.node n.plain (up_plain before n e));
        about = all_append (ParcelFormed by.every) before.parcels new x.about (usual_formed by.every (option_to_list (option_map From_logger (answer_above before.log message))));
        kept = x.kept;
        outstanding = x.outstanding;
      })

  mark_wired : (message : MarkMessage) (sent : List Parcel) (after : MarkedWorld) → MessageFormed by.every message → Kept by start after → LogReceives (About_mark message) before sent after → Wired by start after
  mark_wired message sent after came k' t =
      let new : List Parcel = map answered_as (option_to_list (answer_to_mark before.log message)) in
      let next : MarkedWorld = record before { log = after_mark before.log message; parcels = before.parcels ++ new } in
      let is : after ≡ next = t.1 ∙ ap (λ (ps : List Parcel). record before { log = after_mark before.log message; parcels = before.parcels ++ ps }) t.0 in
      let later : Kept by start next = subst (Kept by start) is k' in
      let formed : WorldFormed start (seen next) =
      next_formed_world start before (after_mark before.log message) before.boot before.node new x.formed (marked_formed start before.log message (log_of start (seen before) x.formed))
      (reported_formed start before.log message came.0 x.formed.boot) (λ n e. x.formed.node n.plain (up_plain before n e)) in
      let kept : AreMarks by.every (after_mark before.log message) = marks_kept by.every before.log message came x.kept in
      subst (Wired by start) (sym is)
      (record {
        formed = formed;
        about = all_append (ParcelFormed by.every) before.parcels new x.about
            (answers_formed by.every before.log message came kept (λ key. few_reads by start next s later formed key ((after_mark before.log message).marks key) (later.marks.kept key)));
        kept = kept;
        outstanding = x.outstanding;
      })

  -- one parcel
  about_at : (number : ℕ) (parcel : Parcel) → parcel_at before.parcels number ≡ Some parcel → ParcelFormed by.every parcel
  about_at number parcel at = of_parcel (ParcelFormed by.every) before number parcel x.about at

  comes_wired : (number : ℕ) (parcel : Parcel) (sent : List Parcel) (after : MarkedWorld) → parcel_at before.parcels number ≡ Some parcel → Kept by start after → ParcelComes by parcel before sent after → Wired by start after
  comes_wired number (Usual (To_server segment)) sent after at k' t = server_wired (Plain_comes (Packet_comes segment)) sent after (under_way before number (To_server segment) at) k' t
  comes_wired number (Usual (To_client segment)) sent after at k' t =
      let u = under_way before number (To_client segment) at in
      elsewhere_wired (ClientReceives (destination_of segment) segment) sent after (λ packets h. event_wired (Deliver u.0) sent after k' packets (To_client segment, u.1, h)) t
  comes_wired number (Usual (To_logger message)) sent after at k' t = message_wired message sent after (under_way before number (To_logger message) at) k' t
  comes_wired number (Usual (From_logger message)) sent after at k' t = server_wired (Plain_comes (Message_comes message)) sent after (under_way before number (From_logger message) at) k' t
  comes_wired number (Mark_sent message) sent after at k' t = mark_wired message sent after (about_at number (Mark_sent message) at) k' t
  comes_wired number (Mark_answered message) sent after at k' t = server_wired (Mark_comes message) sent after tt k' t

  -- one with a changed bit
  noise_wired : (input : MarkedInput) (sent : List Parcel) (after : MarkedWorld) → input ≡ Plain_comes Noise_comes → Kept by start after → ServerMoves by input before sent after → Wired by start after
  noise_wired input sent after noise k' t = server_wired (Plain_comes Noise_comes) sent after tt k' (subst (λ i. ServerMoves by i before sent after) noise t)

  unread_wired : (o : Option AnyMessage) (sent : List Parcel) (after : MarkedWorld) → o ≡ None → LogReads o before sent after → Wired by start after
  unread_wired o sent after none t = let n = subst (λ y. LogReads y before sent after) none t in nothing_wired by start before sent after x n.0 n.1

  flip_wired : (number bit : ℕ) (parcel : Parcel) (sent : List Parcel) (after : MarkedWorld) → parcel_at before.parcels number ≡ Some parcel → Kept by start after → FlippedTo by parcel bit before sent after → Wired by start after
  flip_wired number bit (Usual (To_server segment)) sent after at k' t =
      noise_wired _ sent after (ap Plain_comes (segment_is_noise _ (flipped_packet_is_refused bit (segments.spelling segment) segment (spelling_is_read segment t.read.0) t.within))) k' t.comes
  flip_wired number bit (Usual (To_client segment)) sent after at k' t =
      let u = under_way before number (To_client segment) at in
      elsewhere_wired (ClientReads (destination_of segment) (segments.reading (flipped bit (segments.spelling segment)))) sent after
      (λ packets h. event_wired (Flip u.0 bit) sent after k' packets (To_client segment, u.1, record { wire = t.read; within = t.within; comes = h })) t.comes
  flip_wired number bit (Usual (To_logger message)) sent after at k' t =
      unread_wired _ sent after (message_noise (grammar_of before.profile) bit (messages.spelling_by (grammar_of before.profile) message) message (message_is_read message t.read.0) t.within) t.comes
  flip_wired number bit (Usual (From_logger message)) sent after at k' t =
      noise_wired _ sent after (ap input_of (message_noise (grammar_of before.profile) bit (messages.spelling_by (grammar_of before.profile) message) message (message_is_read message t.read.0) t.within)) k' t.comes
  flip_wired number bit (Mark_sent message) sent after at k' t = unread_wired _ sent after (mark_noise (grammar_of before.profile) bit (marks.spelling message) message t.read t.within) t.comes
  flip_wired number bit (Mark_answered message) sent after at k' t = noise_wired _ sent after (ap input_of (mark_noise (grammar_of before.profile) bit (marks.spelling message) message t.read t.within)) k' t.comes

  boot_wired : (boot isn : ℕ) (sent : List Parcel) (after : MarkedWorld) → MarkedHappens by before (Boot boot isn) sent after → Wired by start after
  boot_wired boot isn sent after t =
      let node : MarkedNode = booted_to_mark before.server before.profile boot isn in
      let packets : List Packet = hello (booted before.server before.profile boot isn) in
      let up : IsBoot boot = (omega (arith, t.1.0), t.1.1) in
      let is : after ≡ record before { boot = boot; node = Some node; parcels = before.parcels ++ map Usual packets } =
      t.3 ∙ ap (λ (ps : List Parcel). record before { boot = boot; node = Some node; parcels = before.parcels ++ ps }) t.2 in
      subst (Wired by start) (sym is)
      (record {
        formed = next_formed_world start before before.log boot (Some node) (map Usual packets) x.formed (log_of start (seen before) x.formed) ((up, tt), tt)
            (λ n e. subst (λ (y : MarkedNode). NodeFormed start y.plain) (some_is node n e) (record { server = x.formed.server; profile = x.formed.profile; boot = up; stage = tt }));
        about = all_append (ParcelFormed by.every) before.parcels (map Usual packets) x.about (usual_formed by.every packets);
        kept = x.kept;
        outstanding = λ n e. subst (λ (y : MarkedNode). (key : Key) → AllCount by.every (y.marking key)) (some_is node n e) (λ key. tt);
      })

  crash_wired : (sent : List Parcel) (after : MarkedWorld) → MarkedHappens by before Crash sent after → Wired by start after
  crash_wired sent after t =
      let is : after ≡ record before { node = None; parcels = before.parcels ++ [] } = t.2 ∙ ap (λ (ps : List Parcel). record before { node = None; parcels = before.parcels ++ ps }) t.1 in
      subst (Wired by start) (sym is)
      (record {
        formed = next_formed_world start before before.log before.boot None [] x.formed (log_of start (seen before) x.formed) tt (λ n e. none_is_some n e);
        about = all_append (ParcelFormed by.every) before.parcels [] x.about tt;
        kept = x.kept;
        outstanding = λ n e. none_is_some n e;
      })

  moment_wired : (event : Event) (sent : List Parcel) (after : MarkedWorld) → Kept by start after → MarkedHappens by before event sent after → Wired by start after
  moment_wired (Boot boot isn) sent after k' h = boot_wired boot isn sent after h
  moment_wired Crash sent after k' h = crash_wired sent after h
  moment_wired Tick sent after k' h = server_wired (Plain_comes Tick_comes) sent after tt k' h.1
  moment_wired (Deliver number) sent after k' h = comes_wired number h.0 sent after h.1 k' h.2
  moment_wired (Flip number bit) sent after k' h = flip_wired number bit h.0 sent after h.1 k' h.2
  moment_wired event sent after k' h = elsewhere_wired (λ w. Happens by.service w event) sent after (λ packets y. event_wired event sent after k' packets y) h

-- A whole trace
start_wired : {State : Type 0} (by : Marker State) (first : MarkedWorld) → IsMarkedStart first → Wired by (seen first) first
start_wired by first s = record {
  formed = world_start (seen first) s.start;
  about = subst (AllByRecursion (ParcelFormed by.every)) (sym s.parcels) tt;
  kept = λ key. subst (λ (l : MarkedLog). (l.marks key ≡ no_mark) ⊎ (0 < by.every)) (sym s.log) (inl refl);
  outstanding = λ n e. none_is_some n (sym s.node ∙ e);
}

pub wired_after : {State : Type 0} (by : Marker State) (first : MarkedWorld) (trace : List MarkedMoment) → WritesBytes by.service → Grounds by (seen first) → MarkedJoint by first trace
    → Wired by (seen first) (marked_after first trace)
wired_after by first [] writes g j = start_wired by first j
wired_after by first (moment ∷ earlier) writes g j =
    moment_wired by (seen first) writes (start_formed (seen first) g.starts) (marked_after first earlier) (kept_after by first earlier g j.0) (wired_after by first earlier writes g j.0)
    moment.event moment.sent moment.world (kept_after by first (moment ∷ earlier) g j) j.1

-- What is well formed is read

mark_spellable : (boot : ℕ) (key : Key) (m : Mark) → IsBoot boot → FitsKey key → 0 < m.reads → Bounded m → length m.state ≤ 1100 → marks.IsSpellable (record { boot = boot; body = MarkMsg key m })
unfolding marks.is_sound marks.has_length
mark_spellable boot key m b fits some bounds short = record {
  boot = b.1;
  numbers = (fits.0, (fits.1, (omega (arith, bounds.reads), (omega (arith, bounds.length_of), (omega (arith, bounds.made), tt)))));
  sound = and_from _ (nat_le 1 m.reads)
      (and_from (nat_le 1 boot) _ (is_low 1 boot b.0)
      (and_from _ _ (is_low m.reads (2 ^ 24 + 1) bounds.reads) (and_from _ _ (is_low m.length (2 ^ 24) bounds.length_of) (and_from _ _ (is_low m.made (2 ^ 24) bounds.made) refl)))) (is_low 1 m.reads some);
  size = has_size 34 0 1100 (length m.state) (omega arith) short;
}

held_spellable : (boot : ℕ) (key : Key) (m : Mark) → IsBoot boot → FitsKey key → Bounded m → length m.state ≤ 1100 → marks.IsSpellable (record { boot = boot; body = HeldMsg key m })
unfolding marks.is_sound marks.has_length
held_spellable boot key m b fits bounds short = record {
  boot = b.1;
  numbers = (fits.0, (fits.1, (omega (arith, bounds.reads), (omega (arith, bounds.length_of), (omega (arith, bounds.made), tt)))));
  sound = and_from _ (nat_le 0 m.reads)
      (and_from (nat_le 1 boot) _ (is_low 1 boot b.0)
      (and_from _ _ (is_low m.reads (2 ^ 24 + 1) bounds.reads) (and_from _ _ (is_low m.length (2 ^ 24) bounds.length_of) (and_from _ _ (is_low m.made (2 ^ 24) bounds.made) refl)))) (is_low 0 m.reads (omega arith));
  size = has_size 34 0 1100 (length m.state) (omega arith) short;
}

marked_spellable : (boot : ℕ) (key : Key) (reads : ℕ) → IsBoot boot → FitsKey key → reads ≤ 2 ^ 24 + 1 → marks.IsSpellable (record { boot = boot; body = MarkedMsg key reads })
unfolding marks.is_sound marks.has_length
marked_spellable boot key reads b fits few = record {
  boot = b.1;
  numbers = (fits.0, (fits.1, (omega (arith, few), tt)));
  sound = and_from _ (nat_le 0 reads) (and_from (nat_le 1 boot) _ (is_low 1 boot b.0) (and_from _ _ (is_low reads (2 ^ 24 + 1) few) refl)) (is_low 0 reads (omega arith));
  size = refl;
}

ask_spellable : (boot : ℕ) (key : Key) → IsBoot boot → FitsKey key → marks.IsSpellable (record { boot = boot; body = AskMsg key })
unfolding marks.is_sound marks.has_length
ask_spellable boot key b fits = record {
  boot = b.1;
  numbers = (fits.0, (fits.1, tt));
  sound = and_from _ _ (and_from (nat_le 1 boot) _ (is_low 1 boot b.0) refl) refl;
  size = refl;
}

module _ {State : Type 0} (by : Marker State) (start : World) (w : MarkedWorld) (s : StartFormed start) (k : Kept by start w) (x : Wired by start w) (back : 0 < by.every → ReadsBack by.service by.writing) where
  short : (key : Key) (m : Mark) → 0 < by.every → IsTrueMark by w.log.log key m → length m.state ≤ 1100
  short key m some t = short_state by.service by.writing t.0 m (back some) (reported_of by start w s k x.formed key t.0 t.1).bytes t.2

  held_bounded : (key : Key) (m : Mark) → (m ≡ no_mark) ⊎ (0 < by.every) → IsTrueOrNone by w.log.log key m → Bounded m × (length m.state ≤ 1100)
  held_bounded key m marks_ t =
      ⊎_elim (λ none. none_bounded m none)
      (λ some. ⊎_elim (λ none. none_bounded m none) (λ y. (bounded by start w s k x.formed key m y, short key m some y)) t) marks_

  spellable : (boot : ℕ) (body : MarkBody) → IsBoot boot → BodyFormed by.every body → ReportsTrueMark by w.log.log body → marks.IsSpellable (record { boot = boot; body = body })
  spellable boot (MarkMsg key m) b f reported = mark_spellable boot key m b f.0 f.1.0 (bounded by start w s k x.formed key m reported) (short key m f.1.1 reported)
  spellable boot (MarkedMsg key reads) b f reported = marked_spellable boot key reads b f.0 f.1
  spellable boot (AskMsg key) b f reported = ask_spellable boot key b f
  spellable boot (HeldMsg key m) b f reported = let h = held_bounded key m f.1 reported in held_spellable boot key m b f.0 h.0 h.1

  all_read : (parcels : List Parcel) → AllByRecursion (HasWireBy (grammar_of start.profile)) (usual parcels) → AllByRecursion (ParcelFormed by.every) parcels → AllByRecursion (HasTrueMark by w.log.log) parcels → AllByRecursion (CanBeRead (grammar_of start.profile)) parcels
  all_read [] wires formed reported = tt
  all_read (Usual packet ∷ parcels) wires formed reported = (wires.0, all_read parcels wires.1 formed.1 reported.1)
  all_read (Mark_sent message ∷ parcels) wires formed reported =
      (mark_is_read message (spellable message.boot message.body formed.0.0 formed.0.1 reported.0), all_read parcels wires formed.1 reported.1)
  all_read (Mark_answered message ∷ parcels) wires formed reported =
      (mark_is_read message (spellable message.boot message.body formed.0.0 formed.0.1 reported.0), all_read parcels wires formed.1 reported.1)

  parcels_read : AllByRecursion (CanBeRead (grammar_of start.profile)) w.parcels
  parcels_read =
      all_read w.parcels
      (all_both (PacketFormed start) (PacketBacked by.service (script_of start) w.log.log) (HasWireBy (grammar_of start.profile)) (usual w.parcels)
      (λ packet h b. packet_wire start s.server packet h (packet_acked by.service (script_of start) (seen w) k.sound.joint.author packet b)) x.formed.packets k.sound.joint.backed.packets)
      x.about k.marks.under_way

pub all_written : {State : Type 0} (by : Marker State) (first : MarkedWorld) (trace : List MarkedMoment) → WritesBytes by.service → (0 < by.every → ReadsBack by.service by.writing) → Grounds by (seen first)
    → MarkedJoint by first trace → AllByRecursion (CanBeRead (grammar_of first.profile)) (marked_after first trace).parcels
all_written by first trace writes back g j =
    parcels_read by (seen first) (marked_after first trace) (start_formed (seen first) g.starts) (kept_after by first trace g j) (wired_after by first trace writes g j) back
