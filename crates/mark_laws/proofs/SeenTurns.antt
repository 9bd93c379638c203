-- What a turn of a server that marks is without its marks: a turn as without them, none, one that asks for a mark, or one in which a restart continues from what
-- is below a mark.
use Rattle.std.proofs.Common.{◌≡◌, ◌⊎◌, inl, inr, ⊎_elim, ℕ, ◌+◌, ◌==◌, ◌&&◌, Bool, true, false, refl, sym, ap, ◌∙◌, subst, Option, Some, None, MatchOption, option_map, option_to_list, List, [], ◌∷◌, map, length, if◌then◌else◌}
use Rattle.std.specs.Bool.{MatchBool}
use Rattle.std.specs.Option.{option_map_or}
use Rattle.std.specs.Prelude.{nat_lt}
use Rattle.std.proofs.lemmas.Bool.{and_parts}
use Rattle.ft_io.specs.declared.Key.{Key}
use Rattle.ft_io.specs.Key.{key_eq}
use Rattle.ft_io.proofs.Choices.{some_if}
use Rattle.seq_arith.specs.Mark.{Mark, MarkBody, MarkMessage}
use Rattle.seq_arith.specs.Mark.MarkBody.{MarkMsg, MarkedMsg, AskMsg, HeldMsg}
use Rattle.seq_arith.specs.Message.{EntryHead, Message}
use Rattle.server_trait.specs.Service.{Machine}
use Rattle.ft_model.specs.Growth.{IsPrefix}
use Rattle.ft_model.specs.Lawful.{LawfulTurn, NodeTurn, StageTurn, Fetches, Continues as PlainContinues, Revives, asked, all_restored, restored_count, fence, fetched_then, is_fenced}
use Rattle.ft_model.specs.Log.{Entry, entry_of}
use Rattle.ft_model.specs.Masked.{is_restarting}
use Rattle.ft_model.specs.Network.{Packet}
use Rattle.ft_model.specs.Node.{Node, Place, Stage, Input, place_at}
use Rattle.ft_model.specs.Node.Place.{Lives, Opens, Ended}
use Rattle.ft_model.specs.Node.Stage.{Asking, Fetching, Serving, Fenced}
use Rattle.ft_model.specs.Node.Input.{Message_comes, Tick_comes}
use Rattle.ft_model.specs.Restart.{Fetched, Wanted, wanted, question}
use Rattle.ft_model.specs.ServingTurn.{newcomers}
use Rattle.ft_model.specs.World.{World}
use Rattle.ft_model.proofs.Asked.{IsAsked, StageAgrees}
use Rattle.ft_model.specs.FetchedFronts.{AreFetched}
use Rattle.ft_model.proofs.Happened.{IsBrought}
use Rattle.ft_model.proofs.Keys.{finds_itself}
use Rattle.ft_model.proofs.Lists.{none_is_some, same_key, take_first}
use Rattle.mark_laws.specs.Front.{bytes_below, lengths_below}
use Rattle.mark_laws.specs.MarkedLog.AnyMessage.{Of_log}
use Rattle.mark_laws.specs.Marking.{Marking, Outgoing, MarkedTurn, marking_answered, new_marks, without_marks}
use Rattle.mark_laws.specs.Restart.{awaits_after, fetched_on, mark_question, log_question, or_else, mark_fits, mark_reported, mark_of_newest, begun_on}
use Rattle.mark_laws.proofs.MarksSent.{without_out, without_plain}
use Rattle.mark_laws.specs.MarkedNode.{Marker, MarkedNode, MarkedInput, Continues, FetchesMarked, ReceivesOfMark, InputTurn, MarkTurn, PlainTurn, RestsMarked, UnlessFenced, live_at, marking_fetched, marks_at, outgoing, so_far, with_marking}
use Rattle.mark_laws.specs.MarkedNode.MarkedInput.{Plain_comes, Mark_comes}
use Rattle.mark_laws.specs.MarkedWorld.{bytes_held, lengths_held, bytes_reported, lengths_reported}
use Rattle.mark_laws.proofs.Strip.{only_marks, serves_plainly, stripped}
use Rattle.mark_laws.proofs.Turns.{fits_stage, lawful_at}

pub data SeenTurn {State : Type 0} (service : Machine State) (u : World) (node : Node) (sent : List Packet) (later : Node) : Type 0 where
  as_without : (input : Input) → IsBrought u input → LawfulTurn service node input sent later → SeenTurn service u node sent later
  unseen : sent ≡ [] → later ≡ node → SeenTurn service u node sent later
  asks_mark : (stage : Stage) → is_restarting stage ≡ true → sent ≡ [] → later ≡ record node { stage = stage } → SeenTurn service u node sent later
  from_mark : (count : ℕ) (now : List Fetched) (stage : Stage) → count ≡ length u.log.entries → AreFetched u.log.entries now → Fetches service node count now stage sent
      → later ≡ record node { stage = stage } → SeenTurn service u node sent later

rests_unseen : {State : Type 0} (service : Machine State) (u : World) (node : MarkedNode) (out : List Outgoing) (later : MarkedNode) → RestsMarked node out later
    → SeenTurn service u node.plain (without_marks out) later.plain
rests_unseen service u node out later t = unseen (ap without_marks t.0) (ap (λ (n : MarkedNode). n.plain) t.1)

-- Where a restart continues

-- .. by a question of a server without marks, or because nothing is missing
abbrev Proceeds : {State : Type 0} → Marker State → MarkedNode → ℕ → List Fetched → List Outgoing → MarkedNode → Type 0
Proceeds by node count entries out later =
    (stage : Stage) × (later.plain ≡ record node.plain { stage = stage }) × Fetches by.service node.plain count entries stage (without_marks out)

log_goes : {State : Type 0} (by : Marker State) (node : MarkedNode) (count : ℕ) (entries : List Fetched) (awaits : Bool) (marking : Key → Marking) (out : List Outgoing) (later : MarkedNode) (w : Option Wanted) → wanted count entries ≡ w
    → Continues by node count (record { entries = entries; awaits_mark = awaits }) marking (option_map (λ x. Of_log (record { boot = node.plain.boot; body = question x })) w) out later
    → Proceeds by node count entries out later
log_goes by node count entries awaits marking out later (Some w) e t = (
  Fetching count entries,
  ap (λ (n : MarkedNode). n.plain) t.1,
  subst (λ o. PlainContinues by.service node.plain count entries o (Fetching count entries) (without_marks out)) (sym e) (refl, ap without_marks t.0),
)
log_goes by node count entries awaits marking out later None e t = (
  Serving (restored_count entries) t.0,
  ap (λ (n : MarkedNode). n.plain) t.2,
  subst (λ o. PlainContinues by.service node.plain count entries o (Serving (restored_count entries) t.0) (without_marks out)) (sym e)
      (t.0, refl, stripped (Revives by.service node.plain) (marks_at by node.plain.boot false marking) (only_marks by node.plain.boot false marking) (all_restored by.service node.plain.profile entries) t.0 out t.1),
)

-- .. or by the question for a mark
abbrev AsksMark : MarkedNode → ℕ → List Fetched → List Outgoing → MarkedNode → Type 0
AsksMark node count entries out later = (without_marks out ≡ []) × (later.plain ≡ record node.plain { stage = Fetching count entries })

goes : {State : Type 0} (by : Marker State) (node : MarkedNode) (count : ℕ) (entries : List Fetched) (awaits : Bool) (marking : Key → Marking) (out : List Outgoing) (later : MarkedNode)
    → FetchesMarked by node count (record { entries = entries; awaits_mark = awaits }) marking out later → AsksMark node count entries out later ⊎ Proceeds by node count entries out later
goes by node count (f ∷ earlier) true marking out later t = inl (ap without_marks t.0, ap (λ (n : MarkedNode). n.plain) t.1)
goes by node count [] true marking out later t = inr (log_goes by node count [] true marking out later (wanted count []) refl t)
goes by node count entries false marking out later t = inr (log_goes by node count entries false marking out later (wanted count entries) refl t)

-- Turns

-- where a server takes a turn
pub record Stands {State : Type 0} (by : Marker State) (u : World) (node : MarkedNode) : Type 0 where
  pub up : u.node ≡ Some node.plain
  pub asked : IsAsked u
  pub live : is_fenced node.plain.stage ≡ false

plain_seen : {State : Type 0} (by : Marker State) (u : World) (node : MarkedNode) (input : Input) (stage next : Stage) (out : List Outgoing) (later : MarkedNode) → Stands by u node → IsBrought u input
    → fence node.plain input ≡ None → node.plain.stage ≡ stage → StageTurn by.service node.plain stage input next (without_marks out) → later.plain ≡ record node.plain { stage = next }
    → SeenTurn by.service u node.plain (without_marks out) later.plain
plain_seen by u node input stage next out later s brought no_fence is t same =
    as_without input brought
    (subst (λ n. LawfulTurn by.service node.plain input (without_marks out) n) (sym same) (lawful_at by.service node.plain input (without_marks out) stage next s.live no_fence is t))

-- a tick while it fetches
questions_out : (node : Node) (w : Option Wanted) → without_marks (map outgoing (option_to_list (option_map (λ x. Of_log (record { boot = node.boot; body = question x })) w))) ≡ asked node w
questions_out node (Some w) = refl
questions_out node None = refl

asks_again : {State : Type 0} (by : Marker State) (u : World) (node : MarkedNode) (count : ℕ) (fetched : List Fetched) (out : List Outgoing) (later : MarkedNode) → Stands by u node → node.plain.stage ≡ Fetching count fetched
    → out ≡ map outgoing (option_to_list (log_question node.plain.boot count fetched)) → later ≡ node → SeenTurn by.service u node.plain (without_marks out) later.plain
asks_again by u node count fetched out later s is sent same =
    plain_seen by u node Tick_comes (Fetching count fetched) (Fetching count fetched) out later s tt refl is (refl, ap without_marks sent ∙ questions_out node.plain (wanted count fetched))
    (ap (λ (n : MarkedNode). n.plain) same ∙ ap (λ (x : Stage). record node.plain { stage = x }) is)

tick_seen : {State : Type 0} (by : Marker State) (u : World) (node : MarkedNode) (count : ℕ) (fetched : List Fetched) (b : Bool) (out : List Outgoing) (later : MarkedNode) → Stands by u node → node.plain.stage ≡ Fetching count fetched
    → out ≡ map outgoing (option_to_list (or_else (if b then mark_question node.plain.boot fetched else None) (log_question node.plain.boot count fetched))) → later ≡ node
    → SeenTurn by.service u node.plain (without_marks out) later.plain
tick_seen by u node count (f ∷ earlier) true out later s is sent same = unseen (ap without_marks sent) (ap (λ (n : MarkedNode). n.plain) same)
tick_seen by u node count [] true out later s is sent same = asks_again by u node count [] out later s is sent same
tick_seen by u node count fetched false out later s is sent same = asks_again by u node count fetched out later s is sent same

-- a message that isn't about marks, while it fetches
got_seen : {State : Type 0} (by : Marker State) (u : World) (node : MarkedNode) (count : ℕ) (fetched : List Fetched) (message : Message) (o : Option (List Fetched)) (out : List Outgoing) (later : MarkedNode)
    → Stands by u node → IsBrought u (Message_comes message) → fence node.plain (Message_comes message) ≡ None → node.plain.stage ≡ Fetching count fetched → fetched_then node.plain message count fetched ≡ o
    → MatchOption (option_map (λ more. record { entries = more; awaits_mark = awaits_after (nat_lt 0 by.every) message.body }) o) (RestsMarked node out later)
    (λ now. FetchesMarked by node count now node.marking out later)
    → SeenTurn by.service u node.plain (without_marks out) later.plain
got_seen by u node count fetched message None out later s brought no_fence is got t = rests_unseen by.service u node out later t
got_seen by u node count fetched message (Some now) out later s brought no_fence is got t =
    ⊎_elim (λ a. asks_mark (Fetching count now) refl a.0 a.1)
    (λ g. plain_seen by u node (Message_comes message) (Fetching count fetched) g.0 out later s brought no_fence is
    (fits_stage by.service node.plain count fetched now message g.0 (without_marks out) got g.2) g.1)
    (goes by node count now (awaits_after (nat_lt 0 by.every) message.body) node.marking out later t)

message_seen : {State : Type 0} (by : Marker State) (u : World) (node : MarkedNode) (count : ℕ) (fetched : List Fetched) (message : Message) (b : Bool) (out : List Outgoing) (later : MarkedNode)
    → Stands by u node → IsBrought u (Message_comes message) → fence node.plain (Message_comes message) ≡ None → node.plain.stage ≡ Fetching count fetched
    → MatchOption (fetched_on (nat_lt 0 by.every) node.plain.boot count message (record { entries = fetched; awaits_mark = b })) (RestsMarked node out later) (λ now. FetchesMarked by node count now node.marking out later)
    → SeenTurn by.service u node.plain (without_marks out) later.plain
message_seen by u node count fetched message true out later s brought no_fence is t = rests_unseen by.service u node out later t
message_seen by u node count fetched message false out later s brought no_fence is t =
    got_seen by u node count fetched message (fetched_then node.plain message count fetched) out later s brought no_fence is refl t

stage_seen : {State : Type 0} (by : Marker State) (u : World) (node : MarkedNode) (stage : Stage) (input : Input) (out : List Outgoing) (later : MarkedNode) → Stands by u node → IsBrought u input
    → fence node.plain input ≡ None → node.plain.stage ≡ stage → PlainTurn by node stage input out later → SeenTurn by.service u node.plain (without_marks out) later.plain
stage_seen by u node (Fetching count fetched) Tick_comes out later s brought no_fence is t = tick_seen by u node count fetched node.awaits_mark out later s is t.0 t.1
stage_seen by u node (Fetching count fetched) (Message_comes message) out later s brought no_fence is t = message_seen by u node count fetched message node.awaits_mark out later s brought no_fence is t
stage_seen by u node (Serving opened places) input out later s brought no_fence is t =
    plain_seen by u node input (Serving opened places) (Serving (opened + length (newcomers node.plain input opened places)) t.0) out later s brought no_fence is
    (t.0, refl, serves_plainly by node input opened places t.0 t.1 out t.2) (ap (λ (n : MarkedNode). n.plain) t.3)
stage_seen by u node stage input out later s brought no_fence is t =
    plain_seen by u node input stage t.0 out later s brought no_fence is
    (subst (StageTurn by.service node.plain stage input t.0) (sym (ap without_marks t.3 ∙ without_plain t.1)) t.2) (ap (λ (n : MarkedNode). n.plain) t.4)

fence_seen : {State : Type 0} (by : Marker State) (u : World) (node : MarkedNode) (input : Input) (o : Option ℕ) (out : List Outgoing) (later : MarkedNode) → Stands by u node → IsBrought u input → fence node.plain input ≡ o
    → UnlessFenced by node input o out later → SeenTurn by.service u node.plain (without_marks out) later.plain
fence_seen by u node input (Some newer) out later s brought is t =
    as_without input brought
    (subst (λ ps. LawfulTurn by.service node.plain input ps later.plain) (sym (ap without_marks t.0))
    (subst (λ n. LawfulTurn by.service node.plain input [] n) (sym (ap (λ (n : MarkedNode). n.plain) t.1))
    (record { server = refl; profile = refl; boot = refl; isn = refl; live = s.live; stage = subst (λ o. NodeTurn by.service node.plain input o (Fenced newer) []) (sym is) (refl, refl) })))
fence_seen by u node input None out later s brought is t = stage_seen by u node node.plain.stage input out later s brought is refl t

-- a mark that comes while it is awaited
newest_seen : {State : Type 0} (by : Marker State) (u : World) (node : MarkedNode) (count : ℕ) (fetched : List Fetched) (body : MarkBody) (m : Mark) (marking : Key → Marking) (out : List Outgoing) (later : MarkedNode)
    → Stands by u node → node.plain.stage ≡ Fetching count fetched → mark_of_newest by.writing body fetched ≡ Some m
    → FetchesMarked by node count (begun_on (bytes_held u.log body) (lengths_held u.log body) (so_far node fetched)) marking out later → SeenTurn by.service u node.plain (without_marks out) later.plain
newest_seen by u node count (f ∷ earlier) (HeldMsg key held) m marking out later s is got t =
    let parts = some_if (key_eq key f.head.key && mark_fits by.writing f.head held) (Some held) m got in
    let same : key ≡ f.head.key = same_key key f.head.key (and_parts (key_eq key f.head.key) (mark_fits by.writing f.head held) parts.0).0 in
    let agrees : (count ≡ length u.log.entries) × AreFetched u.log.entries (f ∷ earlier) = subst (StageAgrees u.log.entries) is (s.asked.node node.plain s.up (ap is_restarting is)).fetched in
    let e : Entry = agrees.1.0 in
    let key_of_e : e.key ≡ key = ap (λ (h : EntryHead). h.key) (sym agrees.1.2.head) ∙ sym same in
    let found : entry_of key u.log ≡ Some e =
    subst (λ k. entry_of k u.log ≡ Some e) key_of_e (finds_itself (λ x. x.key) u.log.entries (length earlier) e s.asked.distinct agrees.1.1) in
    let bytes : List ℕ = bytes_held u.log (HeldMsg key held) in
    let lengths : List ℕ = lengths_held u.log (HeldMsg key held) in
    let now : List Fetched = record f { bytes = bytes; lengths = lengths } ∷ earlier in
    let of_bytes : IsPrefix bytes e.bytes = subst (λ (o : Option Entry). IsPrefix (option_map_or (bytes_below held) o []) e.bytes) (sym found) (take_first held.length e.bytes) in
    let of_lengths : IsPrefix lengths e.lengths = subst (λ (o : Option Entry). IsPrefix (option_map_or (lengths_below held) o []) e.lengths) (sym found) (take_first held.reads e.lengths) in
    let g : Proceeds by node count now out later = log_goes by node count now false marking out later (wanted count now) refl t in
    from_mark count now g.0 agrees.0 (e, agrees.1.1, record { head = agrees.1.2.head; bytes = of_bytes; lengths = of_lengths }, agrees.1.3, agrees.1.4) g.2 g.1
newest_seen by u node count [] (HeldMsg key held) m marking out later s is got t = none_is_some m got
newest_seen by u node count fetched (MarkMsg key held) m marking out later s is got t = none_is_some m got
newest_seen by u node count fetched (MarkedMsg key reads) m marking out later s is got t = none_is_some m got
newest_seen by u node count fetched (AskMsg key) m marking out later s is got t = none_is_some m got

reported_seen : {State : Type 0} (by : Marker State) (u : World) (node : MarkedNode) (count : ℕ) (fetched : List Fetched) (message : MarkMessage) (o : Option Mark) (out : List Outgoing) (later : MarkedNode)
    → Stands by u node → node.plain.stage ≡ Fetching count fetched → mark_reported by.writing node.plain.boot message (so_far node fetched) ≡ o
    → MatchOption o (RestsMarked node out later)
    (λ m. FetchesMarked by node count (begun_on (bytes_held u.log message.body) (lengths_held u.log message.body) (so_far node fetched)) (marking_fetched message.body node.marking) out later)
    → SeenTurn by.service u node.plain (without_marks out) later.plain
reported_seen by u node count fetched message None out later s is e t = rests_unseen by.service u node out later t
reported_seen by u node count fetched message (Some m) out later s is e t =
    newest_seen by u node count fetched message.body m (marking_fetched message.body node.marking) out later s is
    (some_if (message.boot == node.plain.boot && node.awaits_mark) (mark_of_newest by.writing message.body fetched) m e).1 t

-- .. and one while it serves
answered_seen : {State : Type 0} (by : Marker State) (u : World) (node : MarkedNode) (reads : ℕ) (o : Option Place) (out : List Outgoing) (later : MarkedNode)
    → MatchOption (live_at o) (RestsMarked node out later)
    (λ p. (m : Marking) × MarkedTurn by.service by.writing by.every node.plain.boot reads p (node.marking p.key) m out × (later ≡ record node { marking = with_marking p.key m node.marking }))
    → SeenTurn by.service u node.plain (without_marks out) later.plain
answered_seen by u node reads (Some (Lives p)) out later t =
    unseen (ap without_marks t.1.sent_are ∙ without_out node.plain.boot p (new_marks by.service by.writing by.every (marking_answered reads (node.marking p.key)) p)) (ap (λ (n : MarkedNode). n.plain) t.2)
answered_seen by u node reads (Some (Opens n timestamping)) out later t = rests_unseen by.service u node out later t
answered_seen by u node reads (Some (Ended k)) out later t = rests_unseen by.service u node out later t
answered_seen by u node reads None out later t = rests_unseen by.service u node out later t

receives_seen : {State : Type 0} (by : Marker State) (u : World) (node : MarkedNode) (places : List Place) (body : MarkBody) (b : Bool) (out : List Outgoing) (later : MarkedNode)
    → MatchBool b (ReceivesOfMark by node places body out later) (RestsMarked node out later) → SeenTurn by.service u node.plain (without_marks out) later.plain
receives_seen by u node places (MarkedMsg key reads) true out later t = answered_seen by u node reads (place_at key places) out later t
receives_seen by u node places (MarkMsg key m) true out later t = rests_unseen by.service u node out later t
receives_seen by u node places (AskMsg key) true out later t = rests_unseen by.service u node out later t
receives_seen by u node places (HeldMsg key m) true out later t = rests_unseen by.service u node out later t
receives_seen by u node places body false out later t = rests_unseen by.service u node out later t

mark_seen : {State : Type 0} (by : Marker State) (u : World) (node : MarkedNode) (stage : Stage) (message : MarkMessage) (out : List Outgoing) (later : MarkedNode) → Stands by u node → node.plain.stage ≡ stage
    → MarkTurn by (bytes_held u.log message.body) (lengths_held u.log message.body) node stage message out later → SeenTurn by.service u node.plain (without_marks out) later.plain
mark_seen by u node (Fetching count fetched) message out later s is t =
    reported_seen by u node count fetched message (mark_reported by.writing node.plain.boot message (so_far node fetched)) out later s is refl t
mark_seen by u node (Serving opened places) message out later s is t = receives_seen by u node places message.body (message.boot == node.plain.boot) out later t
mark_seen by u node Asking message out later s is t = rests_unseen by.service u node out later t
mark_seen by u node (Fenced newer) message out later s is t = rests_unseen by.service u node out later t

-- what comes to the server, if it isn't about marks, was sent
abbrev pub BringsPlain : World → MarkedInput → Type 0
BringsPlain u (Plain_comes input) = IsBrought u input
BringsPlain u (Mark_comes message) = Unit {0}

pub turn_seen : {State : Type 0} (by : Marker State) (u : World) (node : MarkedNode) (input : MarkedInput) (out : List Outgoing) (later : MarkedNode) → Stands by u node → BringsPlain u input
    → InputTurn by (bytes_reported u.log input) (lengths_reported u.log input) node input out later → SeenTurn by.service u node.plain (without_marks out) later.plain
turn_seen by u node (Plain_comes input) out later s brought t = fence_seen by u node input (fence node.plain input) out later s brought refl t
turn_seen by u node (Mark_comes message) out later s brought t = mark_seen by u node node.plain.stage message out later s refl t
