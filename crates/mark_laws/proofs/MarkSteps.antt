-- One moment of a trace with marks: in the world that is seen it is a step, and its marks stay true.
use Rattle.std.proofs.Common.{◌≡◌, inl, inr, ⊎_elim, ℕ, zero, suc, ◌≤◌, ◌==◌, le_of_eq, Bool, true, false, refl, sym, ap, ◌∙◌, subst, true≢false, Option, Some, None, MatchOption, option_map, List, [], ◌∷◌, ◌++◌, map, slice_get, append-nil}
use Rattle.std.specs.Bool.{MatchBool}
use Rattle.std.specs.List.{AllByRecursion}
use Rattle.std.specs.Option.{option_map_or}
use Rattle.ft_io.specs.declared.Key.{Key}
use Rattle.seq_arith.specs.Mark.{Mark, MarkBody, MarkMessage}
use Rattle.seq_arith.specs.Mark.MarkBody.{MarkMsg, MarkedMsg, AskMsg, HeldMsg}
use Rattle.ft_model.specs.Client.{Client}
use Rattle.ft_model.specs.Growth.{LogGrows}
use Rattle.ft_model.specs.Lawful.{fence}
use Rattle.ft_model.specs.Log.{Log, Entry, entry_of}
use Rattle.ft_model.specs.Masked.{is_restarting}
use Rattle.ft_model.specs.Network.{Packet}
use Rattle.ft_model.specs.Node.{Node, Place, Stage, Input, place_at}
use Rattle.ft_model.specs.Node.Place.{Lives, Opens, Ended}
use Rattle.ft_model.specs.Node.Stage.{Asking, Fetching, Serving, Fenced}
use Rattle.ft_model.specs.World.{World, IsStart, Happens}
use Rattle.ft_model.specs.declared.event.Event.{Event}
use Rattle.ft_model.proofs.Grows.{log_refl}
use Rattle.ft_model.proofs.Happened.{IsBrought, IsUnderWay, happened}
use Rattle.ft_model.proofs.Lists.{all_append, all_map, all_of, all_weaker, all_slice_get, none_is_some, some_is}
use Rattle.ft_model.proofs.Running.{HasSmallOutputs}
use Rattle.mark_laws.specs.Front.{bytes_below, lengths_below}
use Rattle.mark_laws.specs.MarkedLog.{MarkedLog, no_mark}
use Rattle.mark_laws.specs.Marking.{Marking, Outgoing, new_marks, marking_answered, without_marks, MarkedTurn}
use Rattle.mark_laws.specs.Marking.Outgoing.{Plain, Mark_to_logger}
use Rattle.mark_laws.proofs.MarksSent.{without_out}
use Rattle.mark_laws.specs.MarkedNode.{Marker, MarkedNode, MarkedInput, RestsMarked, PlainTurn, UnlessFenced, MarkTurn, ReceivesOfMark, InputTurn, LawfulMarkedTurn, live_at, with_marking}
use Rattle.mark_laws.specs.MarkedNode.MarkedInput.{Plain_comes, Mark_comes}
use Rattle.mark_laws.specs.MarkedWorld.{Parcel, MarkedWorld, usual, seen, parcel_at, parcel_of, Elsewhere, bytes_held, lengths_held, bytes_reported, lengths_reported, ServerMoves, ServerTurn}
use Rattle.mark_laws.specs.MarkedWorld.Parcel.{Usual, Mark_sent, Mark_answered}
use Rattle.mark_laws.specs.TrueMarks.{IsTrueMark, IsTrueOrNone, ReportsTrueMark, HasTrueMark, MarksAreTrue}
use Rattle.mark_laws.proofs.Fronts.{IsReportedFront, mark_fetched}
use Rattle.mark_laws.proofs.Packets.{Sound}
use Rattle.mark_laws.proofs.Steps.{Stepped, went, nothing_went}
use Rattle.mark_laws.proofs.Strip.{usual_append, usual_of, usual_out}
use Rattle.mark_laws.proofs.Truth.{MarkLaws, OutIsTrue, IsNoMark, OutGoesTrue, OutstandingTrue, is_mark, true_later, turn_true}
use Rattle.mark_laws.proofs.Turns.{At, TurnSteps, IsAwaiting, AwaitsNewest, turned, rested, rests, input_steps}

-- no message about marks has a boot beyond the newest incarnation's, and while that restarts it has sent no mark
abbrev pub MarkBoot : ℕ → Parcel → Type 0
MarkBoot boot (Mark_sent message) = message.boot ≤ boot
MarkBoot boot _ = Unit {0}

abbrev pub IsNoMarkOf : ℕ → Parcel → Type 0
IsNoMarkOf boot (Mark_sent message) = message.boot ≡ boot → is_mark message.body ≡ false
IsNoMarkOf boot _ = Unit {0}

-- all that is kept true in a trace with marks
pub record Kept {State : Type 0} (by : Marker State) (start : World) (w : MarkedWorld) : Type 0 where
  pub sound : Sound by.service start (seen w)
  pub marks : MarksAreTrue by w
  pub boots : AllByRecursion (MarkBoot w.boot) w.parcels
  pub quiet : (node : MarkedNode) → w.node ≡ Some node → is_restarting node.plain.stage ≡ true → AllByRecursion (IsNoMarkOf node.plain.boot) w.parcels
  pub awaiting : (node : MarkedNode) → w.node ≡ Some node → IsAwaiting node

pub record MarkStep {State : Type 0} (by : Marker State) (start : World) (before : MarkedWorld) (sent : List Parcel) (after : MarkedWorld) : Type 0 where
  pub stepped : Stepped by.service start (seen before) (usual sent) (seen after)
  pub kept : Kept by start after

-- what is assumed of the service and of the start
pub record Grounds {State : Type 0} (by : Marker State) (start : World) : Type 0 where
  pub small : HasSmallOutputs by.service
  pub laws : MarkLaws by
  pub starts : IsStart start

-- what comes without marks

pub happens_steps : {State : Type 0} (by : Marker State) (start u : World) (event : Event) (sent : List Packet) (later : World) → Grounds by start → Sound by.service start u → Happens by.service u event sent later
    → Stepped by.service start u sent later
happens_steps by start u event sent later g s h =
    ⊎_elim (λ x. went by.service g.small start u sent later g.starts s x) (λ q. nothing_went by.service start u sent later q.0 q.1 s) (happened by.service u event sent later h)

-- a packet of the seen world
usual_at : (parcels : List Parcel) (i : ℕ) (packet : Packet) → slice_get parcels i ≡ Some (Usual packet) → (j : ℕ) × (slice_get (usual parcels) j ≡ Some packet)
usual_at [] i packet e = none_is_some (Usual packet) e
usual_at (Usual p ∷ parcels) zero packet e = (zero, ap (option_map packet_in) e)
  where
    packet_in : Parcel → Packet
    packet_in (Usual x) = x
    packet_in (Mark_sent m) = p
    packet_in (Mark_answered m) = p
usual_at (Usual p ∷ parcels) (suc i) packet e = let rest = usual_at parcels i packet e in (suc rest.0, rest.1)
usual_at (Mark_sent m ∷ parcels) zero packet e = none_is_some packet (ap (λ o. option_map_or chosen o None) e)
  where
    chosen : Parcel → Option Packet
    chosen (Usual x) = Some x
    chosen (Mark_sent y) = None
    chosen (Mark_answered y) = None
usual_at (Mark_sent m ∷ parcels) (suc i) packet e = usual_at parcels i packet e
usual_at (Mark_answered m ∷ parcels) zero packet e = none_is_some packet (ap (λ o. option_map_or chosen o None) e)
  where
    chosen : Parcel → Option Packet
    chosen (Usual x) = Some x
    chosen (Mark_sent y) = None
    chosen (Mark_answered y) = None
usual_at (Mark_answered m ∷ parcels) (suc i) packet e = usual_at parcels i packet e

pub under_way : (w : MarkedWorld) (number : ℕ) (packet : Packet) → parcel_at w.parcels number ≡ Some (Usual packet) → IsUnderWay (seen w) packet
under_way w zero packet e = none_is_some (Usual packet) e
under_way w (suc n) packet e = let x = usual_at w.parcels n packet e in (suc x.0, x.1)

pub of_parcel : (P : Parcel → Type 0) (w : MarkedWorld) (number : ℕ) (parcel : Parcel) → AllByRecursion P w.parcels → parcel_at w.parcels number ≡ Some parcel → P parcel
of_parcel P w zero parcel a e = none_is_some parcel e
of_parcel P w (suc n) parcel a e = all_slice_get P w.parcels n parcel a e

-- changes of clients and log

abbrev pub IsNotSent : Parcel → Type 0
IsNotSent (Mark_sent message) = ⊥
IsNotSent _ = Unit {0}

not_sent_boot : (boot : ℕ) (parcel : Parcel) → IsNotSent parcel → MarkBoot boot parcel
not_sent_boot boot (Usual packet) n = tt
not_sent_boot boot (Mark_sent message) n = absurd n
not_sent_boot boot (Mark_answered message) n = tt

not_sent_quiet : (boot : ℕ) (parcel : Parcel) → IsNotSent parcel → IsNoMarkOf boot parcel
not_sent_quiet boot (Usual packet) n = tt
not_sent_quiet boot (Mark_sent message) n = absurd n
not_sent_quiet boot (Mark_answered message) n = tt

pub or_none_later : {State : Type 0} (by : Marker State) (before after : Log) (key : Key) (m : Mark) → MarkLaws by → LogGrows before after → IsTrueOrNone by before key m → IsTrueOrNone by after key m
or_none_later by before after key m laws g t = ⊎_elim (λ n. inl n) (λ x. inr (true_later by before after key m laws g x)) t

reports_later : {State : Type 0} (by : Marker State) (before after : Log) (body : MarkBody) → MarkLaws by → LogGrows before after → ReportsTrueMark by before body → ReportsTrueMark by after body
reports_later by before after (MarkMsg key m) laws g t = true_later by before after key m laws g t
reports_later by before after (HeldMsg key m) laws g t = or_none_later by before after key m laws g t
reports_later by before after (MarkedMsg key reads) laws g t = tt
reports_later by before after (AskMsg key) laws g t = tt

parcel_later : {State : Type 0} (by : Marker State) (before after : Log) → MarkLaws by → LogGrows before after → (parcel : Parcel) → HasTrueMark by before parcel → HasTrueMark by after parcel
parcel_later by before after laws g (Usual packet) t = tt
parcel_later by before after laws g (Mark_sent message) t = reports_later by before after message.body laws g t
parcel_later by before after laws g (Mark_answered message) t = reports_later by before after message.body laws g t

-- a log that has grown, other clients, and parcels that no server sent
pub grown_kept : {State : Type 0} (by : Marker State) (start : World) (before : MarkedWorld) (clients : List Client) (log : MarkedLog) (new : List Parcel) → Grounds by start → Kept by start before
    → LogGrows before.log.log log.log → ((key : Key) → IsTrueOrNone by log.log key (log.marks key)) → AllByRecursion (HasTrueMark by log.log) new → AllByRecursion IsNotSent new
    → Sound by.service start (seen (record before { clients = clients; log = log; parcels = before.parcels ++ new }))
    → Kept by start (record before { clients = clients; log = log; parcels = before.parcels ++ new })
grown_kept by start before clients log new g k grows kept reports not_sent sound = record {
  sound = sound;
  marks = record {
    under_way = all_append (HasTrueMark by log.log) before.parcels new (all_weaker (HasTrueMark by before.log.log) (HasTrueMark by log.log) before.parcels (parcel_later by before.log.log log.log g.laws grows) k.marks.under_way) reports;
    kept = kept;
    outstanding = λ n e key. all_weaker (IsTrueMark by before.log.log key) (IsTrueMark by log.log key) _ (λ m t. true_later by before.log.log log.log key m g.laws grows t) (k.marks.outstanding n e key);
  };
  boots = all_append (MarkBoot before.boot) before.parcels new k.boots (all_weaker IsNotSent (MarkBoot before.boot) new (not_sent_boot before.boot) not_sent);
  quiet = λ n e r. all_append (IsNoMarkOf n.plain.boot) before.parcels new (k.quiet n e r) (all_weaker IsNotSent (IsNoMarkOf n.plain.boot) new (not_sent_quiet n.plain.boot) not_sent);
  awaiting = k.awaiting;
}

pub usual_true : {State : Type 0} (by : Marker State) (log : Log) (packets : List Packet) → AllByRecursion (HasTrueMark by log) (map Usual packets)
usual_true by log packets = all_map (HasTrueMark by log) Usual packets (all_of (λ p. Unit {0}) packets (λ p. tt))

pub usual_not_sent : (packets : List Packet) → AllByRecursion IsNotSent (map Usual packets)
usual_not_sent packets = all_map IsNotSent Usual packets (all_of (λ p. Unit {0}) packets (λ p. tt))

-- what only clients do
pub elsewhere_steps : {State : Type 0} (by : Marker State) (start : World) (Goes : World → List Packet → World → Type 0) (before : MarkedWorld) (sent : List Parcel) (after : MarkedWorld) → Grounds by start → Kept by start before
    → ((packets : List Packet) (later : World) → Goes (seen before) packets later → Stepped by.service start (seen before) packets later)
    → Elsewhere Goes before sent after → MarkStep by start before sent after
elsewhere_steps by start Goes before sent after g k steps t =
    let packets : List Packet = t.0 in
    let step : Stepped by.service start (seen before) packets (seen after) = steps packets (seen after) t.2 in
    let is : after ≡ record before { clients = after.clients; parcels = before.parcels ++ map Usual packets } =
    t.3 ∙ ap (λ (ps : List Parcel). record before { clients = after.clients; parcels = before.parcels ++ ps }) t.1 in
    record {
      stepped = subst (λ ps. Stepped by.service start (seen before) ps (seen after)) (sym (ap usual t.1 ∙ usual_of packets)) step;
      kept = subst (Kept by start) (sym is)
          (grown_kept by start before after.clients before.log (map Usual packets) g k (log_refl before.log.log) k.marks.kept (usual_true by before.log.log packets) (usual_not_sent packets)
          (subst (λ x. Sound by.service start (seen x)) is step.sound));
    }

-- a turn of the server

seen_turned : (w : MarkedWorld) (later : MarkedNode) (out : List Outgoing) → seen (record w { node = Some later; parcels = w.parcels ++ map parcel_of out }) ≡ turned (seen w) later.plain (without_marks out)
seen_turned w later out =
    ap (λ (ps : List Packet). record (seen w) { node = Some later.plain; packets = ps }) (usual_append w.parcels (map parcel_of out) ∙ ap (λ l. usual w.parcels ++ l) (usual_out out))

-- what comes to the server was sent
abbrev pub Brings : {State : Type 0} → Marker State → MarkedWorld → MarkedInput → Type 0
Brings by w (Plain_comes input) = IsBrought (seen w) input
Brings by w (Mark_comes message) = ReportsTrueMark by w.log.log message.body

pub nothing_below : (key : Key) (m : Mark) (log : Log) (o : Option Entry) → m ≡ no_mark → (option_map_or (bytes_below m) o [] ≡ []) × (option_map_or (lengths_below m) o [] ≡ [])
nothing_below key m log None e = (refl, refl)
nothing_below key m log (Some x) e = (ap (λ (y : Mark). bytes_below y x) e, ap (λ (y : Mark). lengths_below y x) e)

held_front : {State : Type 0} (by : Marker State) (log : Log) (body : MarkBody) → ReportsTrueMark by log body → (key : Key) (m : Mark) → body ≡ HeldMsg key m
    → IsReportedFront by.service by.writing log key m (bytes_held log body) (lengths_held log body)
held_front by log body reported key m is =
    subst (λ b. IsReportedFront by.service by.writing log key m (bytes_held log b) (lengths_held log b)) (sym is)
    (⊎_elim (λ none. inl (nothing_below key m log (entry_of key log) none))
    (λ t. inr (t.0, t.1, ap (λ (o : Option Entry). option_map_or (bytes_below m) o []) t.1, ap (λ (o : Option Entry). option_map_or (lengths_below m) o []) t.1, t.2))
    (subst (ReportsTrueMark by log) is reported))

same_plain : {State : Type 0} (by : Marker State) (start u : World) (node : MarkedNode) (out : List Outgoing) (later : MarkedNode) → At by start u node → without_marks out ≡ [] → later.plain ≡ node.plain
    → later.awaits_mark ≡ node.awaits_mark → TurnSteps by start u out later
same_plain by start u node out later at none plain awaits = record {
  stepped = rested by start u node out later at none plain;
  awaiting = λ e. subst (λ (n : Node). AwaitsNewest n.stage) (sym plain) (at.awaiting (sym awaits ∙ e));
}

answer_steps : {State : Type 0} (by : Marker State) (start u : World) (node : MarkedNode) (reads : ℕ) (o : Option Place) (out : List Outgoing) (later : MarkedNode) → At by start u node
    → MatchOption (live_at o) (RestsMarked node out later)
    (λ p. (m : Marking) × MarkedTurn by.service by.writing by.every node.plain.boot reads p (node.marking p.key) m out × (later ≡ record node { marking = with_marking p.key m node.marking }))
    → TurnSteps by start u out later
answer_steps by start u node reads (Some (Lives p)) out later at t =
    same_plain by start u node out later at (ap without_marks t.1.sent_are ∙ without_out node.plain.boot p (new_marks by.service by.writing by.every (marking_answered reads (node.marking p.key)) p)) (ap (λ (n : MarkedNode). n.plain) t.2) (ap (λ (n : MarkedNode). n.awaits_mark) t.2)
answer_steps by start u node reads (Some (Opens n timestamping)) out later at t = rests by start u node out later at t
answer_steps by start u node reads (Some (Ended k)) out later at t = rests by start u node out later at t
answer_steps by start u node reads None out later at t = rests by start u node out later at t

receives_steps : {State : Type 0} (by : Marker State) (start u : World) (node : MarkedNode) (places : List Place) (body : MarkBody) (b : Bool) (out : List Outgoing) (later : MarkedNode) → At by start u node
    → MatchBool b (ReceivesOfMark by node places body out later) (RestsMarked node out later) → TurnSteps by start u out later
receives_steps by start u node places (MarkedMsg key reads) true out later at t = answer_steps by start u node reads (place_at key places) out later at t
receives_steps by start u node places (MarkMsg key m) true out later at t = rests by start u node out later at t
receives_steps by start u node places (AskMsg key) true out later at t = rests by start u node out later at t
receives_steps by start u node places (HeldMsg key m) true out later at t = rests by start u node out later at t
receives_steps by start u node places body false out later at t = rests by start u node out later at t

mark_steps : {State : Type 0} (by : Marker State) (start u : World) (node : MarkedNode) (stage : Stage) (message : MarkMessage) (out : List Outgoing) (later : MarkedNode) → At by start u node → node.plain.stage ≡ stage
    → ReportsTrueMark by u.log message.body → MarkTurn by (bytes_held u.log message.body) (lengths_held u.log message.body) node stage message out later → TurnSteps by start u out later
mark_steps by start u node (Fetching count fetched) message out later at is reported t =
    mark_fetched by start u node count fetched message (bytes_held u.log message.body) (lengths_held u.log message.body) out later at is (held_front by u.log message.body reported) t
mark_steps by start u node (Serving opened places) message out later at is reported t = receives_steps by start u node places message.body (message.boot == node.plain.boot) out later at t
mark_steps by start u node Asking message out later at is reported t = rests by start u node out later at t
mark_steps by start u node (Fenced newer) message out later at is reported t = rests by start u node out later at t

turn_steps : {State : Type 0} (by : Marker State) (start : World) (w : MarkedWorld) (node : MarkedNode) (input : MarkedInput) (out : List Outgoing) (later : MarkedNode) → At by start (seen w) node → Brings by w input
    → InputTurn by (bytes_reported w.log.log input) (lengths_reported w.log.log input) node input out later → TurnSteps by start (seen w) out later
turn_steps by start w node (Plain_comes input) out later at brought t = input_steps by start (seen w) node input out later at brought t
turn_steps by start w node (Mark_comes message) out later at brought t = mark_steps by start (seen w) node node.plain.stage message out later at refl brought t

-- only a server that restarts restarts still
was_restarting : {State : Type 0} (by : Marker State) (node : MarkedNode) (stage : Stage) (input : Input) (out : List Outgoing) (later : MarkedNode) → PlainTurn by node stage input out later
    → is_restarting later.plain.stage ≡ true → is_restarting stage ≡ true
was_restarting by node Asking input out later t r = refl
was_restarting by node (Fetching count fetched) input out later t r = refl
was_restarting by node (Serving opened places) input out later t r = absurd (true≢false (sym r ∙ ap (λ (n : MarkedNode). is_restarting n.plain.stage) t.3))
was_restarting by node (Fenced newer) input out later t r = absurd t.2

rests_where : (node later : MarkedNode) (out : List Outgoing) → RestsMarked node out later → is_restarting later.plain.stage ≡ true → is_restarting node.plain.stage ≡ true
rests_where node later out t r = sym (ap (λ (n : MarkedNode). is_restarting n.plain.stage) t.1) ∙ r

fenced_where : {State : Type 0} (by : Marker State) (node later : MarkedNode) (input : Input) (o : Option ℕ) (out : List Outgoing) → UnlessFenced by node input o out later → is_restarting later.plain.stage ≡ true
    → is_restarting node.plain.stage ≡ true
fenced_where by node later input (Some newer) out t r = absurd (true≢false (sym r ∙ ap (λ (n : MarkedNode). is_restarting n.plain.stage) t.1))
fenced_where by node later input None out t r = was_restarting by node node.plain.stage input out later t r

live_where : {State : Type 0} (by : Marker State) (node later : MarkedNode) (reads : ℕ) (o : Option Place) (out : List Outgoing)
    → MatchOption (live_at o) (RestsMarked node out later)
    (λ p. (m : Marking) × MarkedTurn by.service by.writing by.every node.plain.boot reads p (node.marking p.key) m out × (later ≡ record node { marking = with_marking p.key m node.marking }))
    → later.plain ≡ node.plain
live_where by node later reads (Some (Lives p)) out t = ap (λ (n : MarkedNode). n.plain) t.2
live_where by node later reads (Some (Opens n timestamping)) out t = ap (λ (n : MarkedNode). n.plain) t.1
live_where by node later reads (Some (Ended k)) out t = ap (λ (n : MarkedNode). n.plain) t.1
live_where by node later reads None out t = ap (λ (n : MarkedNode). n.plain) t.1

receives_where : {State : Type 0} (by : Marker State) (node later : MarkedNode) (places : List Place) (body : MarkBody) (b : Bool) (out : List Outgoing)
    → MatchBool b (ReceivesOfMark by node places body out later) (RestsMarked node out later) → later.plain ≡ node.plain
receives_where by node later places (MarkedMsg key reads) true out t = live_where by node later reads (place_at key places) out t
receives_where by node later places (MarkMsg key m) true out t = ap (λ (n : MarkedNode). n.plain) t.1
receives_where by node later places (AskMsg key) true out t = ap (λ (n : MarkedNode). n.plain) t.1
receives_where by node later places (HeldMsg key m) true out t = ap (λ (n : MarkedNode). n.plain) t.1
receives_where by node later places body false out t = ap (λ (n : MarkedNode). n.plain) t.1

mark_where : {State : Type 0} (by : Marker State) (node later : MarkedNode) (bytes lengths : List ℕ) (stage : Stage) (message : MarkMessage) (out : List Outgoing) → node.plain.stage ≡ stage
    → MarkTurn by bytes lengths node stage message out later → is_restarting later.plain.stage ≡ true → is_restarting node.plain.stage ≡ true
mark_where by node later bytes lengths Asking message out is t r = ap is_restarting is
mark_where by node later bytes lengths (Fetching count fetched) message out is t r = ap is_restarting is
mark_where by node later bytes lengths (Serving opened places) message out is t r =
    sym (ap (λ (n : Node). is_restarting n.stage) (receives_where by node later places message.body (message.boot == node.plain.boot) out t)) ∙ r
mark_where by node later bytes lengths (Fenced newer) message out is t r = rests_where node later out t r

turn_where : {State : Type 0} (by : Marker State) (node later : MarkedNode) (bytes lengths : List ℕ) (input : MarkedInput) (out : List Outgoing) → InputTurn by bytes lengths node input out later
    → is_restarting later.plain.stage ≡ true → is_restarting node.plain.stage ≡ true
turn_where by node later bytes lengths (Plain_comes input) out t r = fenced_where by node later input (fence node.plain input) out t r
turn_where by node later bytes lengths (Mark_comes message) out t r = mark_where by node later bytes lengths node.plain.stage message out refl t r

out_true : {State : Type 0} (by : Marker State) (boot : ℕ) (log : Log) (out : List Outgoing) → AllByRecursion (OutIsTrue by boot log) out → AllByRecursion (HasTrueMark by log) (map parcel_of out)
out_true by boot log [] a = tt
out_true by boot log (Plain packet ∷ out) a = (tt, out_true by boot log out a.1)
out_true by boot log (Mark_to_logger message ∷ out) a = (a.0.1, out_true by boot log out a.1)

out_boot : {State : Type 0} (by : Marker State) (boot top : ℕ) (log : Log) (out : List Outgoing) → boot ≤ top → AllByRecursion (OutIsTrue by boot log) out → AllByRecursion (MarkBoot top) (map parcel_of out)
out_boot by boot top log [] low a = tt
out_boot by boot top log (Plain packet ∷ out) low a = (tt, out_boot by boot top log out low a.1)
out_boot by boot top log (Mark_to_logger message ∷ out) low a = (subst (λ b. b ≤ top) (sym a.0.0) low, out_boot by boot top log out low a.1)

out_quiet : (boot : ℕ) (out : List Outgoing) → AllByRecursion IsNoMark out → AllByRecursion (IsNoMarkOf boot) (map parcel_of out)
out_quiet boot [] a = tt
out_quiet boot (Plain packet ∷ out) a = (tt, out_quiet boot out a.1)
out_quiet boot (Mark_to_logger message ∷ out) a = (λ e. a.0, out_quiet boot out a.1)

pub up_plain : (w : MarkedWorld) (node : MarkedNode) → w.node ≡ Some node → (seen w).node ≡ Some node.plain
up_plain w node e = ap (option_map (λ (n : MarkedNode). n.plain)) e

lawful_steps : {State : Type 0} (by : Marker State) (start : World) (w : MarkedWorld) (node : MarkedNode) (input : MarkedInput) (out : List Outgoing) (later : MarkedNode) → Grounds by start → Kept by start w → w.node ≡ Some node
    → Brings by w input → LawfulMarkedTurn by (bytes_reported w.log.log input) (lengths_reported w.log.log input) node input out later
    → MarkStep by start w (map parcel_of out) (record w { node = Some later; parcels = w.parcels ++ map parcel_of out })
lawful_steps by start w node input out later g k up brought t =
    let after : MarkedWorld = record w { node = Some later; parcels = w.parcels ++ map parcel_of out } in
    let at : At by start (seen w) node = record { small = g.small; starts = g.starts; sound = k.sound; up = up_plain w node up; awaiting = k.awaiting node up; live = t.live } in
    let ts : TurnSteps by start (seen w) out later = turn_steps by start w node input out later at brought t.turn in
    let step : Stepped by.service start (seen w) (without_marks out) (seen after) = subst (λ x. Stepped by.service start (seen w) (without_marks out) x) (sym (seen_turned w later out)) ts.stepped in
    let was : node.plain.boot ≡ w.boot = (k.sound.joint.fenced.node node.plain (up_plain w node up)).boot in
    let now : later.plain.boot ≡ w.boot = (step.sound.joint.fenced.node later.plain refl).boot in
    let truth : OutGoesTrue by node w.log.log out later =
    turn_true by start (seen after) node later (bytes_reported w.log.log input) (lengths_reported w.log.log input) input out g.laws step.sound refl (k.marks.outstanding node up) t.turn in
    record {
      stepped = subst (λ ps. Stepped by.service start (seen w) ps (seen after)) (sym (usual_out out)) step;
      kept = record {
        sound = step.sound;
        marks = record {
          under_way = all_append (HasTrueMark by w.log.log) w.parcels (map parcel_of out) k.marks.under_way (out_true by node.plain.boot w.log.log out truth.sent);
          kept = k.marks.kept;
          outstanding = λ n e. subst (λ x. OutstandingTrue by w.log.log x.marking) (some_is later n e) truth.outstanding;
        };
        boots = all_append (MarkBoot w.boot) w.parcels (map parcel_of out) k.boots (out_boot by node.plain.boot w.boot w.log.log out (le_of_eq was) truth.sent);
        quiet = λ n e. subst (λ x. is_restarting x.plain.stage ≡ true → AllByRecursion (IsNoMarkOf x.plain.boot) (w.parcels ++ map parcel_of out)) (some_is later n e)
            (λ r. subst (λ b. AllByRecursion (IsNoMarkOf b) (w.parcels ++ map parcel_of out)) (was ∙ sym now)
            (all_append (IsNoMarkOf node.plain.boot) w.parcels (map parcel_of out)
            (k.quiet node up (turn_where by node later (bytes_reported w.log.log input) (lengths_reported w.log.log input) input out t.turn r)) (out_quiet node.plain.boot out (truth.quiet r))));
        awaiting = λ n e. subst IsAwaiting (some_is later n e) ts.awaiting;
      };
    }

-- nothing but that nothing is sent
pub still_steps : {State : Type 0} (by : Marker State) (start : World) (w : MarkedWorld) (sent : List Parcel) (after : MarkedWorld) → Kept by start w → sent ≡ [] → after ≡ record w { parcels = w.parcels ++ sent }
    → MarkStep by start w sent after
still_steps by start w sent after k none is =
    let same : after ≡ w = is ∙ ap (λ (ps : List Parcel). record w { parcels = ps }) (ap (λ ps. w.parcels ++ ps) none ∙ append-nil w.parcels) in
    record {
      stepped = nothing_went by.service start (seen w) (usual sent) (seen after) (ap usual none) (ap seen same) k.sound;
      kept = subst (Kept by start) (sym same) k;
    }

server_by : {State : Type 0} (by : Marker State) (start : World) (w : MarkedWorld) (o : Option MarkedNode) (input : MarkedInput) (sent : List Parcel) (after : MarkedWorld) → Grounds by start → Kept by start w → w.node ≡ o
    → Brings by w input → ServerTurn by input o w sent after → MarkStep by start w sent after
server_by by start w None input sent after g k up brought t = still_steps by start w sent after k t.0 t.1
server_by by start w (Some node) input sent after g k up brought t =
    let x = lawful_steps by start w node input t.1 t.0 g k up brought t.2 in
    subst (λ a. MarkStep by start w sent a) (sym t.4)
    (subst (λ ps. MarkStep by start w ps (record w { node = Some t.0; parcels = w.parcels ++ ps })) (sym t.3) x)

pub server_steps : {State : Type 0} (by : Marker State) (start : World) (w : MarkedWorld) (input : MarkedInput) (sent : List Parcel) (after : MarkedWorld) → Grounds by start → Kept by start w
    → Brings by w input → ServerMoves by input w sent after → MarkStep by start w sent after
server_steps by start w input sent after g k brought t = server_by by start w w.node input sent after g k refl brought t
