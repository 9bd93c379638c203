-- What the log with marks hears.
use Rattle.std.proofs.Common.{◌≡◌, ◌⊎◌, inl, inr, ⊎_elim, ℕ, ◌≤◌, ◌<◌, ◌==◌, ◌&&◌, arith, le_refl, true, false, refl, sym, ap, ap₂, ◌∙◌, subst, true≢false, ltb-true, eqb-true, Option, Some, None, option_map, option_to_list, List, [], ◌∷◌, ◌++◌, map, length, take, append-nil, if◌then◌else◌}
use Rattle.std.specs.List.{AllByRecursion}
use Rattle.std.specs.Prelude.{nat_lt}
use Rattle.ft_io.specs.declared.Key.{Key}
use Rattle.ft_io.specs.Key.{key_eq}
use Rattle.ft_io.proofs.Choices.{holds_if, holds_either_way, by_cases, if_false, if_true}
use Rattle.ft_io.proofs.Booleans.{right_true}
use Rattle.seq_arith.specs.Mark.{Mark, MarkBody, MarkMessage}
use Rattle.seq_arith.specs.Mark.MarkBody.{MarkMsg, MarkedMsg, AskMsg, HeldMsg}
use Rattle.seq_arith.specs.Message.{Body, Message}
use Rattle.seq_arith.specs.Message.Body.{BytesMsg, CutsMsg, StaleMsg}
use Rattle.server_trait.specs.Service.{reference}
use Rattle.ft_model.specs.Growth.{EntryGrows, EntriesGrow, LogGrows, logged_lengths, lengths_in}
use Rattle.ft_model.specs.Log.{Log, Entry, entry_of, with_entry, log_after, answer_to}
use Rattle.ft_model.specs.Masked.{is_restarting}
use Rattle.ft_model.specs.Network.{Packet}
use Rattle.ft_model.specs.Network.Packet.{To_logger, From_logger}
use Rattle.ft_model.specs.Node.{Node}
use Rattle.ft_model.specs.World.{World}
use Rattle.ft_model.proofs.Authored.{logged_run}
use Rattle.ft_model.proofs.Backed.{logged_output}
use Rattle.ft_model.proofs.Faithful.{units_within}
use Rattle.ft_model.proofs.FaithfulOver.{script_of, isn_of}
use Rattle.ft_model.proofs.Grows.{log_grows, log_refl, entry_refl}
use Rattle.ft_model.proofs.Happened.{IsUnderWay, answers}
use Rattle.ft_model.proofs.Happened.Happened.{log_received}
use Rattle.ft_model.proofs.Lists.{prefix_refl, take_first, none_is_some, some_is, same_key}
use Rattle.ft_model.proofs.Services.{reads_proceed, more_bytes, prefix_length}
use Rattle.mark_laws.specs.MarkedLog.{MarkedLog, AnyMessage, keeps, acknowledging, with_mark, with_mark_body, after_mark, after_message, is_below, answer_above, is_mark_answer, reported_of_mark, about_mark, answer_to_mark}
use Rattle.mark_laws.specs.MarkedLog.AnyMessage.{About_mark, Of_log}
use Rattle.mark_laws.specs.Runs.{IsRunOf}
use Rattle.mark_laws.specs.MarkedNode.{Marker, MarkedNode}
use Rattle.mark_laws.specs.MarkedWorld.{Parcel, MarkedWorld, usual, seen, answered_as, LogReceives}
use Rattle.mark_laws.specs.MarkedWorld.Parcel.{Usual}
use Rattle.mark_laws.specs.TrueMarks.{IsTrueMark, IsTrueOrNone, ReportsTrueMark, HasTrueMark}
use Rattle.mark_laws.proofs.MarkSteps.{Kept, MarkStep, Grounds, IsNotSent, grown_kept, usual_true, usual_not_sent, or_none_later}
use Rattle.mark_laws.proofs.Packets.{Sound, with_packets}
use Rattle.mark_laws.proofs.Steps.{Stepped, RestartsAbove, went, nothing_went, raised, stale_reported}
use Rattle.mark_laws.proofs.Strip.{usual_append, usual_of}
use Rattle.mark_laws.proofs.Truth.{is_mark, true_later}

-- A message that isn't about marks

answer_is : (l : MarkedLog) (message : Message) → answer_above l message ≡ (if message.boot == l.log.boot && is_below l message.body then None else answer_to l.log message)
unfolding answer_above
answer_is l message = refl

-- a question below the mark changes nothing
below_stays : (l : MarkedLog) (boot : ℕ) (body : Body) → is_below l body ≡ true → log_after l.log (record { boot = boot; body = body }) ≡ l.log
unfolding log_after
below_stays l boot (BytesMsg key offset) e =
    holds_either_way (λ (x : Log). x ≡ l.log) (nat_lt boot l.log.boot) l.log (if boot == l.log.boot then l.log else l.log) refl (holds_either_way (λ (x : Log). x ≡ l.log) (boot == l.log.boot) l.log l.log refl refl)
below_stays l boot (CutsMsg key first) e =
    holds_either_way (λ (x : Log). x ≡ l.log) (nat_lt boot l.log.boot) l.log (if boot == l.log.boot then l.log else l.log) refl (holds_either_way (λ (x : Log). x ≡ l.log) (boot == l.log.boot) l.log l.log refl refl)
below_stays l boot body e = absurd (true≢false (sym e))

-- in the world that is seen
received_plain : {State : Type 0} (by : Marker State) (start : World) (before : MarkedWorld) (message : Message) (packets : List Packet) (after : World) → Grounds by start → Kept by start before
    → IsUnderWay (seen before) (To_logger message) → packets ≡ option_to_list (option_map From_logger (answer_above before.log message))
    → after ≡ record (seen before) { log = log_after before.log.log message; packets = usual before.parcels ++ packets } → Stepped by.service start (seen before) packets after
received_plain by start before message packets after g k under sent is =
    let l : MarkedLog = before.log in
    by_cases (message.boot == l.log.boot && is_below l message.body)
    (λ below. let stays : log_after l.log message ≡ l.log = below_stays l message.boot message.body (right_true (message.boot == l.log.boot) (is_below l message.body) below) in
    let none : packets ≡ [] =
    sent ∙ ap (λ (o : Option Message). option_to_list (option_map From_logger o)) (answer_is l message ∙ if_true (message.boot == l.log.boot && is_below l message.body) None (answer_to l.log message) below) in
    nothing_went by.service start (seen before) packets after none
    (is ∙ (ap₂ (λ (x : Log) (ps : List Packet). record (seen before) { log = x; packets = usual before.parcels ++ ps }) stays none
    ∙ ap (λ (ps : List Packet). record (seen before) { packets = ps }) (append-nil (usual before.parcels)))) k.sound)
    (λ above. let same : packets ≡ answers l.log message =
    sent ∙ ap (λ (o : Option Message). option_to_list (option_map From_logger o)) (answer_is l message ∙ if_false (message.boot == l.log.boot && is_below l message.body) None (answer_to l.log message) above) in
    went by.service g.small start (seen before) packets after g.starts k.sound (log_received message under same is))

pub plain_steps : {State : Type 0} (by : Marker State) (start : World) (before : MarkedWorld) (message : Message) (sent : List Parcel) (after : MarkedWorld) → Grounds by start → Kept by start before
    → IsUnderWay (seen before) (To_logger message) → LogReceives (Of_log message) before sent after → MarkStep by start before sent after
plain_steps by start before message sent after g k under t =
    let packets : List Packet = option_to_list (option_map From_logger (answer_above before.log message)) in
    let l : MarkedLog = after_message before.log message in
    let later : MarkedWorld = record before { log = l; parcels = before.parcels ++ map Usual packets } in
    let seen_is : seen later ≡ record (seen before) { log = l.log; packets = usual before.parcels ++ packets } =
    ap (λ (ps : List Packet). record (seen before) { log = l.log; packets = ps }) (usual_append before.parcels (map Usual packets) ∙ ap (λ ps. usual before.parcels ++ ps) (usual_of packets)) in
    let step : Stepped by.service start (seen before) packets (seen later) = received_plain by start before message packets (seen later) g k under refl seen_is in
    let grows : LogGrows before.log.log l.log = log_grows before.log.log message in
    let kept : Kept by start later =
    grown_kept by start before before.clients l (map Usual packets) g k grows (λ key. or_none_later by before.log.log l.log key (before.log.marks key) g.laws grows (k.marks.kept key)) (usual_true by l.log packets)
    (usual_not_sent packets) step.sound in
    let is : after ≡ later = t.1 ∙ ap (λ (ps : List Parcel). record before { log = l; parcels = before.parcels ++ ps }) t.0 in
    subst (λ a. MarkStep by start before sent a) (sym is)
    (record { stepped = subst (λ ps. Stepped by.service start (seen before) ps (seen later)) (sym (ap usual t.0 ∙ usual_of packets)) step; kept = kept })

-- A message about marks

-- it changes nothing, or a mark of the log's own boot is kept
abbrev LogMarked : MarkedLog → MarkMessage → MarkedLog → Type 0
LogMarked l message later = (later ≡ l) ⊎ ((key : Key) × (m : Mark) × (message.body ≡ MarkMsg key m) × (message.boot ≡ l.log.boot) × (later ≡ with_mark key m l))

body_marked : (l : MarkedLog) (boot : ℕ) (body : MarkBody) → boot ≡ l.log.boot → LogMarked l (record { boot = boot; body = body }) (with_mark_body body l)
body_marked l boot (MarkMsg key m) own =
    holds_if (λ (x : MarkedLog). LogMarked l (record { boot = boot; body = MarkMsg key m }) x) (keeps key m l) (with_mark key m l) l (λ t. inr (key, m, refl, own, refl)) (λ t. inl refl)
body_marked l boot (MarkedMsg key reads) own = inl refl
body_marked l boot (AskMsg key) own = inl refl
body_marked l boot (HeldMsg key m) own = inl refl

marked_so : (l : MarkedLog) (message : MarkMessage) → LogMarked l message (after_mark l message)
unfolding after_mark
marked_so l message =
    holds_if (λ (x : MarkedLog). LogMarked l message x) (message.boot == l.log.boot) (with_mark_body message.body l) l (λ own. body_marked l message.boot message.body (eqb-true message.boot l.log.boot own)) (λ t. inl refl)

acknowledging_grows : (units : ℕ) (e : Entry) → EntryGrows e (acknowledging units e)
acknowledging_grows units e = record {
  key = refl;
  cisn = refl;
  sisn = refl;
  mss = refl;
  bytes = prefix_refl e.bytes;
  fin = λ f. f;
  ended = λ f. refl;
  lengths = prefix_refl e.lengths;
  acknowledged = omega arith;
  done = λ d. d;
}

entries_grow : (key : Key) (change : Entry → Entry) → ((e : Entry) → EntryGrows e (change e)) → (es : List Entry) → EntriesGrow es (map (λ e. if key_eq e.key key then change e else e) es)
entries_grow key change g [] = tt
entries_grow key change g (e ∷ es) = (holds_if (EntryGrows e) (key_eq e.key key) (change e) e (λ t. g e) (λ t. entry_refl e), entries_grow key change g es)

mark_grows : (key : Key) (units : ℕ) (log : Log) → LogGrows log (with_entry key (acknowledging units) log)
mark_grows key units log = record { boot = le_refl log.boot; entries = entries_grow key (acknowledging units) (acknowledging_grows units) log.entries }

-- a true mark counts no more output than the logged reads make
mark_backed : {State : Type 0} (by : Marker State) (start w : World) (key : Key) (m : Mark) → Sound by.service start w → IsTrueMark by w.log key m → m.made ≤ logged_output by.service (script_of start) w.log key
mark_backed by start w key m s t =
    let e : Entry = t.0 in
    let script : List ℕ = script_of start key in
    let run : IsRunOf by.service by.writing e m = t.2 in
    let front = (units_within (script_of start) (isn_of start) w.log key e s.joint.faithful.entries t.1).0.front in
    let same : reference by.service script (take m.reads e.lengths) ≡ reference by.service e.bytes (take m.reads e.lengths) = more_bytes by.service e.bytes script (take m.reads e.lengths) front run.enough in
    let goes = reads_proceed by.service script (take m.reads e.lengths) e.lengths (take_first m.reads e.lengths) in
    let low : length (reference by.service script (take m.reads e.lengths)).output ≤ length (reference by.service script e.lengths).output = prefix_length _ _ goes.output in
    let lengths : e.lengths ≡ logged_lengths key w.log = sym (ap lengths_in t.1) in
    let all : length (reference by.service script (take m.reads e.lengths)).output ≤ length (logged_run by.service (script_of start) w.log key).output =
    subst (λ l. length (reference by.service script (take m.reads e.lengths)).output ≤ length (reference by.service script l).output) lengths low in
    let made : m.made ≡ length (reference by.service script (take m.reads e.lengths)).output = run.made ∙ ap (λ r. length r.output) (sym same) in
    omega (arith, all, made)

pub mapped_node : (o : Option MarkedNode) (n : Node) → option_map (λ (x : MarkedNode). x.plain) o ≡ Some n → (node : MarkedNode) × (o ≡ Some node) × (node.plain ≡ n)
mapped_node (Some node) n e = (node, refl, some_is node.plain n e)
mapped_node None n e = none_is_some n e

restarts_above : {State : Type 0} (by : Marker State) (start : World) (before : MarkedWorld) (message : MarkMessage) (key : Key) (m : Mark)
    → ((node : MarkedNode) → before.node ≡ Some node → is_restarting node.plain.stage ≡ true → message.boot ≡ node.plain.boot → is_mark message.body ≡ false)
    → message.body ≡ MarkMsg key m → message.boot ≡ before.log.log.boot → RestartsAbove (seen before)
restarts_above by start before message key m quiet body own = λ n e r same.
    let x = mapped_node before.node n e in
    let none : is_mark message.body ≡ false =
    quiet x.0 x.1 (ap (λ (y : Node). is_restarting y.stage) x.2 ∙ r) (own ∙ (same ∙ sym (ap (λ (y : Node). y.boot) x.2))) in
    true≢false (sym (ap is_mark body) ∙ none)

-- what is kept, and answered about marks
marked_steps : {State : Type 0} (by : Marker State) (start : World) (before : MarkedWorld) (message : MarkMessage) (l : MarkedLog) (new : List Parcel) → Grounds by start → Kept by start before
    → ReportsTrueMark by before.log.log message.body
    → ((node : MarkedNode) → before.node ≡ Some node → is_restarting node.plain.stage ≡ true → message.boot ≡ node.plain.boot → is_mark message.body ≡ false)
    → LogMarked before.log message l → usual new ≡ [] → AllByRecursion IsNotSent new
    → (((key : Key) → IsTrueOrNone by l.log key (l.marks key)) → AllByRecursion (HasTrueMark by l.log) new)
    → MarkStep by start before new (record before { log = l; parcels = before.parcels ++ new })
marked_steps by start before message l new g k reported quiet (inl same) none not_sent reports =
    let later : MarkedWorld = record before { log = before.log; parcels = before.parcels ++ new } in
    let packets : usual (before.parcels ++ new) ≡ usual before.parcels = usual_append before.parcels new ∙ (ap (λ ps. usual before.parcels ++ ps) none ∙ append-nil (usual before.parcels)) in
    let step : Stepped by.service start (seen before) (usual new) (seen later) =
    nothing_went by.service start (seen before) (usual new) (seen later) none (ap (λ (ps : List Packet). record (seen before) { packets = ps }) packets) k.sound in
    let reports_here : AllByRecursion (HasTrueMark by before.log.log) new =
    subst (λ (x : MarkedLog). ((key : Key) → IsTrueOrNone by x.log key (x.marks key)) → AllByRecursion (HasTrueMark by x.log) new) same reports k.marks.kept in
    subst (λ (x : MarkedLog). MarkStep by start before new (record before { log = x; parcels = before.parcels ++ new })) (sym same)
    (record { stepped = step; kept = grown_kept by start before before.clients before.log new g k (log_refl before.log.log) k.marks.kept reports_here not_sent step.sound })
marked_steps by start before message l new g k reported quiet (inr x) none not_sent reports =
    let key : Key = x.0 in
    let m : Mark = x.1 in
    let next : MarkedLog = with_mark key m before.log in
    let later : MarkedWorld = record before { log = next; parcels = before.parcels ++ new } in
    let truth : IsTrueMark by before.log.log key m = subst (ReportsTrueMark by before.log.log) x.2 reported in
    let packets : usual before.parcels ≡ usual (before.parcels ++ new) = sym (usual_append before.parcels new ∙ (ap (λ ps. usual before.parcels ++ ps) none ∙ append-nil (usual before.parcels))) in
    let rise : Stepped by.service start (seen before) [] (record (seen before) { log = next.log }) =
    raised by.service g.small start (seen before) key m.made g.starts k.sound (restarts_above by start before message key m quiet x.2 x.3) (mark_backed by start (seen before) key m k.sound truth) in
    let step : Stepped by.service start (seen before) (usual new) (seen later) =
    subst (λ ps. Stepped by.service start (seen before) ps (seen later)) (sym none)
    (subst (λ ps. Stepped by.service start (seen before) [] (record (seen before) { log = next.log; packets = ps })) packets rise) in
    let grows : LogGrows before.log.log next.log = mark_grows key m.made before.log.log in
    let kept : (k : Key) → IsTrueOrNone by next.log k (next.marks k) =
    λ j. holds_if (IsTrueOrNone by next.log j) (key_eq j key) m (before.log.marks j)
    (λ e. inr (subst (λ y. IsTrueMark by next.log y m) (sym (same_key j key e)) (true_later by before.log.log next.log key m g.laws grows truth)))
    (λ e. or_none_later by before.log.log next.log j (before.log.marks j) g.laws grows (k.marks.kept j)) in
    let reports_here : AllByRecursion (HasTrueMark by next.log) new =
    subst (λ (y : MarkedLog). ((k : Key) → IsTrueOrNone by y.log k (y.marks k)) → AllByRecursion (HasTrueMark by y.log) new) x.4 reports kept in
    subst (λ (y : MarkedLog). MarkStep by start before new (record before { log = y; parcels = before.parcels ++ new })) (sym x.4)
    (record { stepped = step; kept = grown_kept by start before before.clients next new g k grows kept reports_here not_sent step.sound })

-- the answers about marks
abbrev IsMarkAnswer : {State : Type 0} → Marker State → MarkedLog → List Parcel → Type 0
IsMarkAnswer by l new = (usual new ≡ []) × AllByRecursion IsNotSent new × (((key : Key) → IsTrueOrNone by l.log key (l.marks key)) → AllByRecursion (HasTrueMark by l.log) new)

one_reported : {State : Type 0} (by : Marker State) (l : MarkedLog) (boot : ℕ) (o : Option Entry) (shown : Entry → MarkBody) → (((key : Key) → IsTrueOrNone by l.log key (l.marks key)) → (e : Entry) → ReportsTrueMark by l.log (shown e))
    → IsMarkAnswer by l (map answered_as (option_to_list (option_map (about_mark boot) (option_map shown o))))
one_reported by l boot (Some e) shown is = (refl, (tt, tt), λ kept. (is kept e, tt))
one_reported by l boot None shown is = (refl, tt, λ kept. tt)

mark_reported : {State : Type 0} (by : Marker State) (l : MarkedLog) (boot : ℕ) (body : MarkBody) → IsMarkAnswer by l (map answered_as (option_to_list (option_map (about_mark boot) (reported_of_mark body l))))
mark_reported by l boot (MarkMsg key m) = one_reported by l boot (entry_of key l.log) (λ e. MarkedMsg key (l.marks key).reads) (λ kept e. tt)
mark_reported by l boot (AskMsg key) = one_reported by l boot (entry_of key l.log) (λ e. HeldMsg key (l.marks key)) (λ kept e. kept key)
mark_reported by l boot (MarkedMsg key reads) = (refl, tt, λ kept. tt)
mark_reported by l boot (HeldMsg key m) = (refl, tt, λ kept. tt)

-- a message of an older boot is stale, and changes nothing
older_stays : (l : MarkedLog) (message : MarkMessage) → message.boot < l.log.boot → after_mark l message ≡ l
older_stays l message older = ⊎_elim (λ same. same) (λ x. let own = x.3 in absurd (omega (arith, older, own))) (marked_so l message)

stale_steps : {State : Type 0} (by : Marker State) (start : World) (before : MarkedWorld) (message : MarkMessage) → Grounds by start → Kept by start before → message.boot < before.log.log.boot
    → let new : List Parcel = Usual (From_logger (record { boot = message.boot; body = StaleMsg before.log.log.boot })) ∷ [] in
    MarkStep by start before new (record before { log = after_mark before.log message; parcels = before.parcels ++ new })
stale_steps by start before message g k older =
    let packet : Packet = From_logger (record { boot = message.boot; body = StaleMsg before.log.log.boot }) in
    let new : List Parcel = Usual packet ∷ [] in
    let later : MarkedWorld = record before { log = before.log; parcels = before.parcels ++ new } in
    let step : Stepped by.service start (seen before) (packet ∷ []) (seen later) =
    subst (λ ps. Stepped by.service start (seen before) (packet ∷ []) (with_packets (seen before) ps)) (sym (usual_append before.parcels new)) (stale_reported by.service start (seen before) message.boot k.sound older) in
    subst (λ (x : MarkedLog). MarkStep by start before new (record before { log = x; parcels = before.parcels ++ new })) (sym (older_stays before.log message older))
    (record { stepped = step; kept = grown_kept by start before before.clients before.log new g k (log_refl before.log.log) k.marks.kept (tt, tt) (tt, tt) step.sound })

abbrev StepsBy : {State : Type 0} → Marker State → World → MarkedWorld → MarkMessage → Option AnyMessage → Type 0
StepsBy by start before message o =
    let new : List Parcel = map answered_as (option_to_list o) in MarkStep by start before new (record before { log = after_mark before.log message; parcels = before.parcels ++ new })

answered_steps : {State : Type 0} (by : Marker State) (start : World) (before : MarkedWorld) (message : MarkMessage) → Grounds by start → Kept by start before → ReportsTrueMark by before.log.log message.body
    → ((node : MarkedNode) → before.node ≡ Some node → is_restarting node.plain.stage ≡ true → message.boot ≡ node.plain.boot → is_mark message.body ≡ false)
    → StepsBy by start before message (answer_to_mark before.log message)
unfolding answer_to_mark
answered_steps by start before message g k reported quiet =
    let l : MarkedLog = after_mark before.log message in
    let nothing : StepsBy by start before message None = marked_steps by start before message l [] g k reported quiet (marked_so before.log message) refl tt (λ kept. tt) in
    let a = mark_reported by l message.boot message.body in
    holds_if (StepsBy by start before message) (is_mark_answer message.body) None _ (λ t. nothing)
    (λ t. holds_if (StepsBy by start before message) (nat_lt message.boot before.log.log.boot) (Some (Of_log (record { boot = message.boot; body = StaleMsg before.log.log.boot }))) _
    (λ older. stale_steps by start before message g k (ltb-true message.boot before.log.log.boot older))
    (λ s. holds_if (StepsBy by start before message) (message.boot == before.log.log.boot) (option_map (about_mark message.boot) (reported_of_mark message.body l)) None
    (λ own. marked_steps by start before message l (map answered_as (option_to_list (option_map (about_mark message.boot) (reported_of_mark message.body l)))) g k reported quiet (marked_so before.log message) a.0 a.1 a.2)
    (λ r. nothing)))

pub about_steps : {State : Type 0} (by : Marker State) (start : World) (before : MarkedWorld) (message : MarkMessage) (sent : List Parcel) (after : MarkedWorld) → Grounds by start → Kept by start before
    → ReportsTrueMark by before.log.log message.body
    → ((node : MarkedNode) → before.node ≡ Some node → is_restarting node.plain.stage ≡ true → message.boot ≡ node.plain.boot → is_mark message.body ≡ false)
    → LogReceives (About_mark message) before sent after → MarkStep by start before sent after
about_steps by start before message sent after g k reported quiet t =
    subst (λ a. MarkStep by start before sent a) (sym t.1)
    (subst (λ ps. MarkStep by start before ps (record before { log = after_mark before.log message; parcels = before.parcels ++ ps })) (sym t.0) (answered_steps by start before message g k reported quiet))
