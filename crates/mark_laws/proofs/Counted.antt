-- What a server that marks sends about marks: marks of at least one read, and questions for the mark of the entry that it has fetched last.
use Rattle.std.proofs.Common.{◌≡◌, ℕ, ◌+◌, ◌<◌, ◌≤◌, ◌==◌, ◌&&◌, Bool, true, false, refl, sym, ap, ◌∙◌, subst, arith, leb-true, Option, Some, None, MatchOption, option_map, option_to_list, List, [], ◌∷◌, ◌++◌, map, length, if◌then◌else◌}
use Rattle.std.specs.Bool.{MatchBool}
use Rattle.std.specs.List.{AllByRecursion, flat_map}
use Rattle.std.specs.Option.{option_map_or}
use Rattle.std.specs.Prelude.{nat_lt, nat_le, is_none}
use Rattle.std.proofs.lemmas.Bool.{ltb-true}
use Rattle.ft_io.specs.declared.Key.{Key}
use Rattle.ft_io.specs.Key.{key_eq}
use Rattle.ft_io.proofs.Choices.{holds_if}
use Rattle.seq_arith.specs.Mark.{Mark, MarkBody, MarkMessage}
use Rattle.seq_arith.specs.Mark.MarkBody.{MarkMsg, MarkedMsg, AskMsg, HeldMsg}
use Rattle.server_trait.specs.Service.{Machine}
use Rattle.server_trait.specs.Saved.{Writing}
use Rattle.ft_model.specs.Lawful.{Revives, all_restored, restored_count, fence}
use Rattle.ft_model.specs.Network.{Packet}
use Rattle.ft_model.specs.Node.{Place, Stage, Input, key_of, place_at}
use Rattle.ft_model.specs.Node.Place.{Lives, Opens, Ended}
use Rattle.ft_model.specs.Node.Stage.{Asking, Fetching, Serving, Fenced}
use Rattle.ft_model.specs.Node.Input.{Message_comes, Tick_comes}
use Rattle.ft_model.specs.Point.{Point}
use Rattle.ft_model.specs.Restart.{Fetched, Wanted, wanted, question}
use Rattle.ft_model.specs.ServingTurn.{PlaceTurn, concerns, newcomers, refusals, opens_at}
use Rattle.ft_model.proofs.Lists.{all_append, all_of}
use Rattle.mark_laws.specs.MarkedLog.{AnyMessage}
use Rattle.mark_laws.specs.MarkedLog.AnyMessage.{Of_log}
use Rattle.mark_laws.specs.Marking.{Marking, MarkedTurn, Outgoing, is_due, marking_answered, marks_out, new_marks, outstanding_in, with_new}
use Rattle.mark_laws.specs.Marking.Outgoing.{Plain, Mark_to_logger}
use Rattle.mark_laws.specs.Quiet.{is_quiet, mark_of}
use Rattle.mark_laws.specs.Restart.{FetchedSoFar, begun_on, fetched_on, log_question, mark_question, mark_reported, next_question, or_else}
use Rattle.mark_laws.specs.MarkedNode.{Marker, MarkedNode, MarkedInput, Continues, FetchesMarked, ReceivesOfMark, InputTurn, MarkTurn, PlainTurn, RestsMarked, ServesMarked, UnlessFenced, is_tick_input, live_at, marking_fetched, marking_then, marks_at, marks_in, outgoing, so_far, with_marking, with_stage}
use Rattle.mark_laws.specs.MarkedNode.MarkedInput.{Plain_comes, Mark_comes}
use Rattle.mark_laws.proofs.Truth.{gone_all, plain_all}

-- a mark of at least one read, by a server that marks
abbrev pub Counts : (every : ℕ) → Mark → Type 0
Counts every m = (0 < m.reads) × (0 < every)

abbrev pub AllCount : (every : ℕ) → Marking → Type 0
AllCount every m = AllByRecursion (Counts every) (outstanding_in m)

-- the entry of this key is the one that is fetched last
abbrev pub IsNewest : Key → Stage → Type 0
IsNewest key (Fetching count (f ∷ earlier)) = key ≡ f.head.key
IsNewest key _ = ⊥

abbrev pub BodyCounts : (every : ℕ) → Stage → MarkBody → Type 0
BodyCounts every stage (MarkMsg key m) = Counts every m
BodyCounts every stage (AskMsg key) = IsNewest key stage
BodyCounts every stage _ = ⊥

-- what is sent about marks, in a turn that leads to this stage
abbrev pub OutCounts : (boot every : ℕ) → Stage → Outgoing → Type 0
OutCounts boot every stage (Plain packet) = Unit {0}
OutCounts boot every stage (Mark_to_logger message) = (message.boot ≡ boot) × BodyCounts every stage message.body

-- the marks of a point
first_last : (a b c d : Bool) → (a && b && c && d) ≡ true → (a ≡ true) × (d ≡ true)
first_last a b c d h = (grind (arith, h), grind (arith, h))

due_counts : {State : Type 0} (service : Machine State) (writing : Writing State) (every : ℕ) (m : Marking) (p : Point) → is_due service every m p ≡ true → Counts every (mark_of service writing p)
due_counts service writing every m p due =
    let parts = first_last (nat_lt 0 every) (is_none m.outstanding) (is_quiet service p) (nat_le (m.last + every) (length p.lengths)) due in
    let some : 0 < every = ltb-true 0 every parts.0 in
    let many : m.last + every ≤ length p.lengths = leb-true (m.last + every) (length p.lengths) parts.1 in
    (omega (arith, some, many), some)

new_count : {State : Type 0} (service : Machine State) (writing : Writing State) (every : ℕ) (m : Marking) (p : Point) → AllByRecursion (Counts every) (new_marks service writing every m p)
new_count service writing every m p =
    holds_if (AllByRecursion (Counts every)) (is_due service every m p) (mark_of service writing p ∷ []) [] (λ due. (due_counts service writing every m p due, tt)) (λ rest. tt)

with_counts : {State : Type 0} (service : Machine State) (writing : Writing State) (every : ℕ) (p : Point) (m : Marking) → AllCount every m → AllCount every (with_new service writing every p m)
with_counts service writing every p m a =
    holds_if (AllCount every) (is_due service every m p) (record { last = length p.lengths; outstanding = Some (mark_of service writing p) }) m
    (λ due. (due_counts service writing every m p due, tt)) (λ rest. a)

answered_counts : (every reads : ℕ) (m : Marking) → AllCount every m → AllCount every (marking_answered reads m)
answered_counts every reads m a =
    holds_if (λ (o : Option Mark). AllByRecursion (Counts every) (option_map_or (λ mark. mark ∷ []) o [])) (option_map_or (λ mark. nat_le mark.reads reads) m.outstanding false) None m.outstanding
    (λ t. tt) (λ t. a)

out_counts : (boot every : ℕ) (stage : Stage) (p : Point) (marks : List Mark) → AllByRecursion (Counts every) marks → AllByRecursion (OutCounts boot every stage) (marks_out boot p marks)
out_counts boot every stage p [] a = tt
out_counts boot every stage p (m ∷ marks) a = ((refl, a.0), out_counts boot every stage p marks a.1)

in_counts : {State : Type 0} (by : Marker State) (tick : Bool) (m : Marking) (p : Point) → AllCount by.every m → AllByRecursion (Counts by.every) (marks_in by tick m p)
in_counts by tick m p a =
    all_append (Counts by.every) (if tick then outstanding_in m else []) (new_marks by.service by.writing by.every m p)
    (holds_if (AllByRecursion (Counts by.every)) tick (outstanding_in m) [] (λ t. a) (λ t. tt)) (new_count by.service by.writing by.every m p)

at_counts : {State : Type 0} (by : Marker State) (boot : ℕ) (stage : Stage) (tick : Bool) (marking : Key → Marking) → ((key : Key) → AllCount by.every (marking key)) → (place : Place)
    → AllByRecursion (OutCounts boot by.every stage) (marks_at by boot tick marking place)
at_counts by boot stage tick marking a (Lives p) = out_counts boot by.every stage p (marks_in by tick (marking p.key) p) (in_counts by tick (marking p.key) p (a p.key))
at_counts by boot stage tick marking a (Opens n timestamping) = tt
at_counts by boot stage tick marking a (Ended key) = tt

then_counts : {State : Type 0} (by : Marker State) (o : Option Place) (m : Marking) → AllCount by.every m → AllCount by.every (marking_then by o m)
then_counts by (Some (Lives p)) m a = with_counts by.service by.writing by.every p m a
then_counts by (Some (Opens n timestamping)) m a = a
then_counts by (Some (Ended key)) m a = a
then_counts by None m a = a

-- The turn
pub record TurnCounts {State : Type 0} (by : Marker State) (boot : ℕ) (out : List Outgoing) (later : MarkedNode) : Type 0 where
  pub sent : AllByRecursion (OutCounts boot by.every later.plain.stage) out
  pub outstanding : (key : Key) → AllCount by.every (later.marking key)

plainly : {State : Type 0} (by : Marker State) (boot : ℕ) (node : MarkedNode) (packets : List Packet) (out : List Outgoing) (later : MarkedNode) → ((key : Key) → AllCount by.every (node.marking key))
    → out ≡ map Plain packets → later.marking ≡ node.marking → TurnCounts by boot out later
plainly by boot node packets out later a sent same = record {
  sent = subst (AllByRecursion (OutCounts boot by.every later.plain.stage)) (sym sent) (plain_all (OutCounts boot by.every later.plain.stage) (λ p. tt) packets);
  outstanding = λ key. subst (λ (marking : Key → Marking). AllCount by.every (marking key)) (sym same) (a key);
}

rests : {State : Type 0} (by : Marker State) (boot : ℕ) (node : MarkedNode) (out : List Outgoing) (later : MarkedNode) → ((key : Key) → AllCount by.every (node.marking key)) → RestsMarked node out later → TurnCounts by boot out later
rests by boot node out later a t = plainly by boot node [] out later a t.0 (ap (λ (n : MarkedNode). n.marking) t.1)

-- a question
log_asks : (boot every count : ℕ) (fetched : List Fetched) (o : Option Wanted)
    → AllByRecursion (OutCounts boot every (Fetching count fetched)) (map outgoing (option_to_list (option_map (λ w. Of_log (record { boot = boot; body = question w })) o)))
log_asks boot every count fetched (Some w) = (tt, tt)
log_asks boot every count fetched None = tt

asks : (boot every count : ℕ) (fetched : List Fetched) (b : Bool)
    → AllByRecursion (OutCounts boot every (Fetching count fetched)) (map outgoing (option_to_list (or_else (if b then mark_question boot fetched else None) (log_question boot count fetched))))
asks boot every count (f ∷ earlier) true = ((refl, refl), tt)
asks boot every count [] true = log_asks boot every count [] (wanted count [])
asks boot every count fetched false = log_asks boot every count fetched (wanted count fetched)

-- where a restart continues
continues : {State : Type 0} (by : Marker State) (node : MarkedNode) (count : ℕ) (now : FetchedSoFar) (marking : Key → Marking) (q : Option AnyMessage) (out : List Outgoing) (later : MarkedNode)
    → ((key : Key) → AllCount by.every (marking key)) → next_question node.plain.boot count now ≡ q → Continues by node count now marking q out later → TurnCounts by node.plain.boot out later
continues by node count now marking (Some question) out later a e t =
    let same : map outgoing (option_to_list (next_question node.plain.boot count now)) ≡ out = ap (λ (o : Option AnyMessage). map outgoing (option_to_list o)) e ∙ sym t.0 in
    record {
      sent = subst (λ (n : MarkedNode). AllByRecursion (OutCounts node.plain.boot by.every n.plain.stage) out) (sym t.1)
          (subst (AllByRecursion (OutCounts node.plain.boot by.every (Fetching count now.entries))) same (asks node.plain.boot by.every count now.entries now.awaits_mark));
      outstanding = λ key. subst (λ (n : MarkedNode). AllCount by.every (n.marking key)) (sym t.1) (a key);
    }
continues by node count now marking None out later a e t = record {
  sent = subst (λ (n : MarkedNode). AllByRecursion (OutCounts node.plain.boot by.every n.plain.stage) out) (sym t.2)
      (gone_all (OutCounts node.plain.boot by.every (Serving (restored_count now.entries) t.0)) (λ p. tt) (Revives by.service node.plain) (marks_at by node.plain.boot false marking)
      (all_restored by.service node.plain.profile now.entries) t.0 out t.1 (all_of _ t.0 (at_counts by node.plain.boot (Serving (restored_count now.entries) t.0) false marking a)));
  outstanding = λ key. subst (λ (n : MarkedNode). AllCount by.every (n.marking key)) (sym t.2) (then_counts by (place_at key t.0) (marking key) (a key));
}

-- a server that serves
serves : {State : Type 0} (by : Marker State) (node : MarkedNode) (input : Input) (opened : ℕ) (places later_places : List Place) (marking : Key → Marking) (out : List Outgoing) (later : MarkedNode)
    → ((key : Key) → AllCount by.every (node.marking key)) → ServesMarked by node input opened places later_places marking out
    → later ≡ record (with_stage (Serving (opened + length (newcomers node.plain input opened places)) later_places) node) { marking = marking } → TurnCounts by node.plain.boot out later
serves by node input opened places later_places marking out later a t after =
    let stage : Stage = Serving (opened + length (newcomers node.plain input opened places)) later_places in
    let P : Outgoing → Type 0 = OutCounts node.plain.boot by.every stage in
    let marks : Place → List Outgoing = λ place. if concerns node.plain input (key_of place) then marks_at by node.plain.boot (is_tick_input input) node.marking place else [] in
    record {
      sent = subst (λ (n : MarkedNode). AllByRecursion (OutCounts node.plain.boot by.every n.plain.stage) out) (sym after)
          (subst (AllByRecursion P) (sym t.packets)
          (all_append P t.by_places _
          (gone_all P (λ p. tt) (PlaceTurn by.service node.plain input) marks places t.went t.by_places t.all_go
          (all_of (λ x. AllByRecursion P (marks x)) t.went
          (λ x. holds_if (AllByRecursion P) (concerns node.plain input (key_of x)) (marks_at by node.plain.boot (is_tick_input input) node.marking x) []
          (λ c. at_counts by node.plain.boot stage (is_tick_input input) node.marking a x) (λ c. tt))))
          (plain_all P (λ p. tt) (refusals node.plain input places ++ flat_map (opens_at node.plain input) later_places))));
      outstanding = λ key. subst (λ (n : MarkedNode). AllCount by.every (n.marking key)) (sym after)
          (subst (λ (x : Key → Marking). AllCount by.every (x key)) (sym t.marking_is)
          (holds_if (AllCount by.every) (concerns node.plain input key) (marking_then by (place_at key t.went) (node.marking key)) (node.marking key)
          (λ c. then_counts by (place_at key t.went) (node.marking key) (a key)) (λ c. a key)));
    }

message_turn : {State : Type 0} (by : Marker State) (node : MarkedNode) (count : ℕ) (o : Option FetchedSoFar) (out : List Outgoing) (later : MarkedNode) → ((key : Key) → AllCount by.every (node.marking key))
    → MatchOption o (RestsMarked node out later) (λ now. FetchesMarked by node count now node.marking out later) → TurnCounts by node.plain.boot out later
message_turn by node count None out later a t = rests by node.plain.boot node out later a t
message_turn by node count (Some now) out later a t = continues by node count now node.marking (next_question node.plain.boot count now) out later a refl t

stage_turn : {State : Type 0} (by : Marker State) (node : MarkedNode) (stage : Stage) (input : Input) (out : List Outgoing) (later : MarkedNode) → ((key : Key) → AllCount by.every (node.marking key))
    → node.plain.stage ≡ stage → PlainTurn by node stage input out later → TurnCounts by node.plain.boot out later
stage_turn by node (Fetching count fetched) Tick_comes out later a is t = record {
  sent = subst (λ (n : MarkedNode). AllByRecursion (OutCounts node.plain.boot by.every n.plain.stage) out) (sym t.1)
      (subst (λ (s : Stage). AllByRecursion (OutCounts node.plain.boot by.every s) out) (sym is)
      (subst (AllByRecursion (OutCounts node.plain.boot by.every (Fetching count fetched))) (sym t.0) (asks node.plain.boot by.every count fetched node.awaits_mark)));
  outstanding = λ key. subst (λ (n : MarkedNode). AllCount by.every (n.marking key)) (sym t.1) (a key);
}
stage_turn by node (Fetching count fetched) (Message_comes message) out later a is t =
    message_turn by node count (fetched_on (nat_lt 0 by.every) node.plain.boot count message (so_far node fetched)) out later a t
stage_turn by node (Serving opened places) input out later a is t = serves by node input opened places t.0 t.1 out later a t.2 t.3
stage_turn by node stage input out later a is t = plainly by node.plain.boot node t.1 out later a t.3 (ap (λ (n : MarkedNode). n.marking) t.4)

fence_turn : {State : Type 0} (by : Marker State) (node : MarkedNode) (input : Input) (o : Option ℕ) (out : List Outgoing) (later : MarkedNode) → ((key : Key) → AllCount by.every (node.marking key))
    → UnlessFenced by node input o out later → TurnCounts by node.plain.boot out later
fence_turn by node input (Some newer) out later a t = plainly by node.plain.boot node [] out later a t.0 (ap (λ (n : MarkedNode). n.marking) t.1)
fence_turn by node input None out later a t = stage_turn by node node.plain.stage input out later a refl t

-- a message about marks
fetched_counts : (every : ℕ) (body : MarkBody) (marking : Key → Marking) → ((key : Key) → AllCount every (marking key)) → (key : Key) → AllCount every (marking_fetched body marking key)
fetched_counts every (HeldMsg key m) marking a k = holds_if (AllCount every) (key_eq k key) (record { last = m.reads; outstanding = None }) (marking k) (λ e. tt) (λ e. a k)
fetched_counts every (MarkMsg key m) marking a k = a k
fetched_counts every (MarkedMsg key reads) marking a k = a k
fetched_counts every (AskMsg key) marking a k = a k

reported_turn : {State : Type 0} (by : Marker State) (node : MarkedNode) (count : ℕ) (fetched : List Fetched) (body : MarkBody) (bytes lengths : List ℕ) (o : Option Mark) (out : List Outgoing) (later : MarkedNode)
    → ((key : Key) → AllCount by.every (node.marking key))
    → MatchOption o (RestsMarked node out later) (λ m. FetchesMarked by node count (begun_on bytes lengths (so_far node fetched)) (marking_fetched body node.marking) out later) → TurnCounts by node.plain.boot out later
reported_turn by node count fetched body bytes lengths None out later a t = rests by node.plain.boot node out later a t
reported_turn by node count fetched body bytes lengths (Some m) out later a t =
    let now : FetchedSoFar = begun_on bytes lengths (so_far node fetched) in
    continues by node count now (marking_fetched body node.marking) (next_question node.plain.boot count now) out later (fetched_counts by.every body node.marking a) refl t

answered_turn : {State : Type 0} (by : Marker State) (node : MarkedNode) (reads : ℕ) (o : Option Place) (out : List Outgoing) (later : MarkedNode) → ((key : Key) → AllCount by.every (node.marking key))
    → MatchOption (live_at o) (RestsMarked node out later)
    (λ p. (m : Marking) × MarkedTurn by.service by.writing by.every node.plain.boot reads p (node.marking p.key) m out × (later ≡ record node { marking = with_marking p.key m node.marking }))
    → TurnCounts by node.plain.boot out later
answered_turn by node reads (Some (Lives p)) out later a t =
    let before : Marking = marking_answered reads (node.marking p.key) in
    let counts : AllCount by.every t.0 =
    subst (AllCount by.every) (sym t.1.marking) (with_counts by.service by.writing by.every p before (answered_counts by.every reads (node.marking p.key) (a p.key))) in
    record {
      sent = subst (AllByRecursion (OutCounts node.plain.boot by.every later.plain.stage)) (sym t.1.sent_are)
          (out_counts node.plain.boot by.every later.plain.stage p (new_marks by.service by.writing by.every before p) (new_count by.service by.writing by.every before p));
      outstanding = λ key. subst (λ (n : MarkedNode). AllCount by.every (n.marking key)) (sym t.2)
          (holds_if (AllCount by.every) (key_eq key p.key) t.0 (node.marking key) (λ e. counts) (λ e. a key));
    }
answered_turn by node reads (Some (Opens n timestamping)) out later a t = rests by node.plain.boot node out later a t
answered_turn by node reads (Some (Ended key)) out later a t = rests by node.plain.boot node out later a t
answered_turn by node reads None out later a t = rests by node.plain.boot node out later a t

receives_turn : {State : Type 0} (by : Marker State) (node : MarkedNode) (places : List Place) (body : MarkBody) (b : Bool) (out : List Outgoing) (later : MarkedNode) → ((key : Key) → AllCount by.every (node.marking key))
    → MatchBool b (ReceivesOfMark by node places body out later) (RestsMarked node out later) → TurnCounts by node.plain.boot out later
receives_turn by node places (MarkedMsg key reads) true out later a t = answered_turn by node reads (place_at key places) out later a t
receives_turn by node places (MarkMsg key m) true out later a t = rests by node.plain.boot node out later a t
receives_turn by node places (AskMsg key) true out later a t = rests by node.plain.boot node out later a t
receives_turn by node places (HeldMsg key m) true out later a t = rests by node.plain.boot node out later a t
receives_turn by node places body false out later a t = rests by node.plain.boot node out later a t

mark_turn : {State : Type 0} (by : Marker State) (node : MarkedNode) (bytes lengths : List ℕ) (stage : Stage) (message : MarkMessage) (out : List Outgoing) (later : MarkedNode) → ((key : Key) → AllCount by.every (node.marking key))
    → MarkTurn by bytes lengths node stage message out later → TurnCounts by node.plain.boot out later
mark_turn by node bytes lengths (Fetching count fetched) message out later a t =
    reported_turn by node count fetched message.body bytes lengths (mark_reported by.writing node.plain.boot message (so_far node fetched)) out later a t
mark_turn by node bytes lengths (Serving opened places) message out later a t = receives_turn by node places message.body (message.boot == node.plain.boot) out later a t
mark_turn by node bytes lengths Asking message out later a t = rests by node.plain.boot node out later a t
mark_turn by node bytes lengths (Fenced newer) message out later a t = rests by node.plain.boot node out later a t

pub turn_counts : {State : Type 0} (by : Marker State) (node : MarkedNode) (bytes lengths : List ℕ) (input : MarkedInput) (out : List Outgoing) (later : MarkedNode) → ((key : Key) → AllCount by.every (node.marking key))
    → InputTurn by bytes lengths node input out later → TurnCounts by node.plain.boot out later
turn_counts by node bytes lengths (Plain_comes input) out later a t = fence_turn by node input (fence node.plain input) out later a t
turn_counts by node bytes lengths (Mark_comes message) out later a t = mark_turn by node bytes lengths node.plain.stage message out later a t
