-- A turn of a server that marks is determined by where it stands and by what comes.
use Rattle.std.proofs.Common.{◌≡◌, ℕ, ◌+◌, ◌==◌, ◌++◌, Bool, true, false, refl, sym, ap, ap₂, ◌∙◌, MatchBool, Option, Some, None, MatchOption, List, [], ◌∷◌, map, length, filter, flat_map, if◌then◌else◌}
use Rattle.std.specs.Prelude.{nat_lt}
use Rattle.ft_io.specs.declared.Key.{Key}
use Rattle.seq_arith.specs.Mark.{Mark, MarkBody, MarkMessage}
use Rattle.seq_arith.specs.Mark.MarkBody.{MarkMsg, MarkedMsg, AskMsg, HeldMsg}
use Rattle.ft_model.specs.Network.{Packet}
use Rattle.ft_model.specs.Point.{Point}
use Rattle.ft_model.specs.Node.{Node, Place, Stage, Input, place_at}
use Rattle.ft_model.specs.Node.Stage.{Asking, Fetching, Serving, Fenced}
use Rattle.ft_model.specs.Node.Input.{Packet_comes, Message_comes, Noise_comes, Tick_comes}
use Rattle.ft_model.specs.ServingTurn.{PlaceTurn, concerns, newcomers, refusals, opens_at}
use Rattle.ft_model.specs.Lawful.{Revives, StageTurn, all_restored, restored_count, fence, is_fenced}
use Rattle.ft_model.proofs.TurnOnce.{turn_once, place_once, revives_once}
use Rattle.mark_laws.specs.MarkedLog.{AnyMessage}
use Rattle.mark_laws.specs.Marking.{Marking, Outgoing, with_marks, MarkedTurn}
use Rattle.mark_laws.specs.Marking.Outgoing.{Plain}
use Rattle.mark_laws.specs.Restart.{FetchedSoFar, next_question, fetched_on, mark_reported, begun_on}
use Rattle.mark_laws.specs.MarkedNode.{Marker, MarkedNode, MarkedInput, GoesMarked, AllGoMarked, ServesMarked, RestsMarked, Continues, FetchesMarked, PlainTurn, UnlessFenced, MarkTurn, ReceivesOfMark, InputTurn, LawfulMarkedTurn, with_stage, with_marking, marks_at, marking_then, is_done, so_far, live_at, marking_fetched}
use Rattle.mark_laws.specs.MarkedNode.MarkedInput.{Plain_comes, Mark_comes}
use Rattle.mark_laws.proofs.Turns.{lawful_at}

-- one place in one turn

-- .. with its marks, and all places
abbrev Once : (Place → List Place → List Packet → Type 0) → Type 0
Once Goes = (place : Place) (now later : List Place) (sent other : List Packet) → Goes place now sent → Goes place later other → (now ≡ later) × (sent ≡ other)

marked_once : (Goes : Place → List Place → List Packet → Type 0) (marks : Place → List Outgoing) → Once Goes → (place : Place) (now later : List Place) (sent other : List Outgoing)
    → GoesMarked Goes marks place now sent → GoesMarked Goes marks place later other → (now ≡ later) × (sent ≡ other)
marked_once Goes marks once place now later sent other s t =
    let o = once place now later s.packets t.packets s.goes t.goes in (
      o.0,
      s.sent_are ∙ (ap₂ (λ (ns : List Place) (ps : List Packet). with_marks (length (filter is_done ps)) (flat_map marks ns) ps) o.0 o.1 ∙ sym t.sent_are),
    )

all_once : (Goes : Place → List Place → List Packet → Type 0) (marks : Place → List Outgoing) → Once Goes → (places after also : List Place) (sent other : List Outgoing)
    → AllGoMarked (GoesMarked Goes marks) places after sent → AllGoMarked (GoesMarked Goes marks) places also other → (after ≡ also) × (sent ≡ other)
all_once Goes marks once [] after also sent other s t = (s.0 ∙ sym t.0, s.1 ∙ sym t.1)
all_once Goes marks once (place ∷ places) after also sent other s t =
    let here : (s.0 ≡ t.0) × (s.2 ≡ t.2) = marked_once Goes marks once place s.0 t.0 s.2 t.2 s.6 t.6 in
    let there : (s.1 ≡ t.1) × (s.3 ≡ t.3) = all_once Goes marks once places s.1 t.1 s.3 t.3 s.7 t.7 in
    (s.4 ∙ (ap₂ ◌++◌ here.0 there.0 ∙ sym t.4), s.5 ∙ (ap₂ ◌++◌ here.1 there.1 ∙ sym t.5))

-- a turn

abbrev SameTurn : (out also : List Outgoing) → (later other : MarkedNode) → Type 0
SameTurn out also later other = (out ≡ also) × (later ≡ other)

rests_once : (node later other : MarkedNode) (out also : List Outgoing) → RestsMarked node out later → RestsMarked node also other → SameTurn out also later other
rests_once node later other out also s t = (s.0 ∙ sym t.0, s.1 ∙ sym t.1)

continues_once : {State : Type 0} (by : Marker State) (node later other : MarkedNode) (count : ℕ) (now : FetchedSoFar) (marking : Key → Marking) (o : Option AnyMessage) (out also : List Outgoing)
    → Continues by node count now marking o out later → Continues by node count now marking o also other → SameTurn out also later other
continues_once by node later other count now marking (Some question) out also s t = (s.0 ∙ sym t.0, s.1 ∙ sym t.1)
continues_once by node later other count now marking None out also s t =
    let once : (s.0 ≡ t.0) × (out ≡ also) =
    all_once (Revives by.service node.plain) (marks_at by node.plain.boot false marking) (revives_once by.service node.plain) (all_restored by.service node.plain.profile now.entries) s.0 t.0 out also s.1 t.1 in (
      once.1,
      s.2
          ∙ (ap (λ (places : List Place). record node {
            plain = record node.plain { stage = Serving (restored_count now.entries) places };
            awaits_mark = false;
            marking = λ key. marking_then by (place_at key places) (marking key);
          }) once.0 ∙ sym t.2),
    )

serves_once : {State : Type 0} (by : Marker State) (node : MarkedNode) (input : Input) (opened : ℕ) (before after also : List Place) (marking others : Key → Marking) (out sent : List Outgoing)
    → ServesMarked by node input opened before after marking out → ServesMarked by node input opened before also others sent → (after ≡ also) × (marking ≡ others) × (out ≡ sent)
serves_once by node input opened before after also marking others out sent s t =
    let once : (s.went ≡ t.went) × (s.by_places ≡ t.by_places) =
    all_once (PlaceTurn by.service node.plain input) _ (place_once by.service node.plain input) before s.went t.went s.by_places t.by_places s.all_go t.all_go in
    let places : after ≡ also = s.places ∙ (ap (λ xs. xs ++ newcomers node.plain input opened before) once.0 ∙ sym t.places) in
    let marked : List Place → Key → Marking =
    λ went key. if concerns node.plain input key then marking_then by (place_at key went) (node.marking key) else node.marking key in (
      places,
      s.marking_is ∙ (ap marked once.0 ∙ sym t.marking_is),
      s.packets
          ∙ (ap₂ (λ (xs : List Outgoing) (ys : List Place). xs ++ map Plain (refusals node.plain input before ++ flat_map (opens_at node.plain input) ys)) once.1 places ∙ sym t.packets),
    )

message_once : {State : Type 0} (by : Marker State) (node later other : MarkedNode) (count : ℕ) (o : Option FetchedSoFar) (out also : List Outgoing)
    → MatchOption o (RestsMarked node out later) (λ now. FetchesMarked by node count now node.marking out later)
    → MatchOption o (RestsMarked node also other) (λ now. FetchesMarked by node count now node.marking also other) → SameTurn out also later other
message_once by node later other count None out also s t = rests_once node later other out also s t
message_once by node later other count (Some now) out also s t = continues_once by node later other count now node.marking (next_question node.plain.boot count now) out also s t

without_once : {State : Type 0} (by : Marker State) (node later other : MarkedNode) (stage next last : Stage) (input : Input) (packets others : List Packet) (out also : List Outgoing) → is_fenced node.plain.stage ≡ false
    → fence node.plain input ≡ None → node.plain.stage ≡ stage → StageTurn by.service node.plain stage input next packets → StageTurn by.service node.plain stage input last others
    → out ≡ map Plain packets → also ≡ map Plain others → later ≡ with_stage next node → other ≡ with_stage last node → SameTurn out also later other
without_once by node later other stage next last input packets others out also live no_fence is s t sent sends after ends =
    let once = turn_once by.service node.plain (record node.plain { stage = next }) (record node.plain { stage = last }) input packets others
    (lawful_at by.service node.plain input packets stage next live no_fence is s) (lawful_at by.service node.plain input others stage last live no_fence is t) in
    (sent ∙ (ap (map Plain) once.1 ∙ sym sends), after ∙ (ap (λ (n : Node). record node { plain = n }) once.0 ∙ sym ends))

stage_once : {State : Type 0} (by : Marker State) (node later other : MarkedNode) (stage : Stage) (input : Input) (out also : List Outgoing) → is_fenced node.plain.stage ≡ false → fence node.plain input ≡ None
    → node.plain.stage ≡ stage → PlainTurn by node stage input out later → PlainTurn by node stage input also other → SameTurn out also later other
stage_once by node later other (Fetching count fetched) Tick_comes out also live no_fence is s t = (s.0 ∙ sym t.0, s.1 ∙ sym t.1)
stage_once by node later other (Fetching count fetched) (Message_comes message) out also live no_fence is s t =
    message_once by node later other count (fetched_on (nat_lt 0 by.every) node.plain.boot count message (so_far node fetched)) out also s t
stage_once by node later other (Serving opened places) input out also live no_fence is s t =
    let once = serves_once by node input opened places s.0 t.0 s.1 t.1 out also s.2 t.2 in (
      once.2,
      s.3
          ∙ (ap₂ (λ (ps : List Place) (m : Key → Marking). record (with_stage (Serving (opened + length (newcomers node.plain input opened places)) ps) node) { marking = m }) once.0 once.1
          ∙ sym t.3),
    )
stage_once by node later other (Fetching count fetched) (Packet_comes segment) out also live no_fence is s t =
    without_once by node later other (Fetching count fetched) s.0 t.0 (Packet_comes segment) s.1 t.1 out also live no_fence is s.2 t.2 s.3 t.3 s.4 t.4
stage_once by node later other (Fetching count fetched) Noise_comes out also live no_fence is s t =
    without_once by node later other (Fetching count fetched) s.0 t.0 Noise_comes s.1 t.1 out also live no_fence is s.2 t.2 s.3 t.3 s.4 t.4
stage_once by node later other Asking input out also live no_fence is s t = without_once by node later other Asking s.0 t.0 input s.1 t.1 out also live no_fence is s.2 t.2 s.3 t.3 s.4 t.4
stage_once by node later other (Fenced newer) input out also live no_fence is s t = absurd s.2

fence_once : {State : Type 0} (by : Marker State) (node later other : MarkedNode) (input : Input) (o : Option ℕ) (out also : List Outgoing) → is_fenced node.plain.stage ≡ false → fence node.plain input ≡ o
    → UnlessFenced by node input o out later → UnlessFenced by node input o also other → SameTurn out also later other
fence_once by node later other input (Some newer) out also live is s t = (s.0 ∙ sym t.0, s.1 ∙ sym t.1)
fence_once by node later other input None out also live is s t = stage_once by node later other node.plain.stage input out also live is refl s t

-- a turn on a message about marks
live_mark_once : {State : Type 0} (by : Marker State) (node later other : MarkedNode) (reads : ℕ) (o : Option Point) (out also : List Outgoing)
    → MatchOption o (RestsMarked node out later)
    (λ p. (m : Marking) × MarkedTurn by.service by.writing by.every node.plain.boot reads p (node.marking p.key) m out × (later ≡ record node { marking = with_marking p.key m node.marking }))
    → MatchOption o (RestsMarked node also other)
    (λ p. (m : Marking) × MarkedTurn by.service by.writing by.every node.plain.boot reads p (node.marking p.key) m also × (other ≡ record node { marking = with_marking p.key m node.marking }))
    → SameTurn out also later other
live_mark_once by node later other reads None out also s t = rests_once node later other out also s t
live_mark_once by node later other reads (Some p) out also s t = (
  s.1.sent_are ∙ sym t.1.sent_are,
  s.2 ∙ (ap (λ (m : Marking). record node { marking = with_marking p.key m node.marking }) (s.1.marking ∙ sym t.1.marking) ∙ sym t.2),
)

receives_mark_once : {State : Type 0} (by : Marker State) (node later other : MarkedNode) (places : List Place) (body : MarkBody) (b : Bool) (out also : List Outgoing)
    → MatchBool b (ReceivesOfMark by node places body out later) (RestsMarked node out later) → MatchBool b (ReceivesOfMark by node places body also other) (RestsMarked node also other) → SameTurn out also later other
receives_mark_once by node later other places (MarkedMsg key reads) true out also s t = live_mark_once by node later other reads (live_at (place_at key places)) out also s t
receives_mark_once by node later other places (MarkMsg key m) true out also s t = rests_once node later other out also s t
receives_mark_once by node later other places (AskMsg key) true out also s t = rests_once node later other out also s t
receives_mark_once by node later other places (HeldMsg key m) true out also s t = rests_once node later other out also s t
receives_mark_once by node later other places body false out also s t = rests_once node later other out also s t

reported_once : {State : Type 0} (by : Marker State) (node later other : MarkedNode) (count : ℕ) (now : FetchedSoFar) (marking : Key → Marking) (o : Option Mark) (out also : List Outgoing)
    → MatchOption o (RestsMarked node out later) (λ m. FetchesMarked by node count now marking out later) → MatchOption o (RestsMarked node also other) (λ m. FetchesMarked by node count now marking also other)
    → SameTurn out also later other
reported_once by node later other count now marking None out also s t = rests_once node later other out also s t
reported_once by node later other count now marking (Some m) out also s t = continues_once by node later other count now marking (next_question node.plain.boot count now) out also s t

mark_once : {State : Type 0} (by : Marker State) (bytes lengths : List ℕ) (node later other : MarkedNode) (stage : Stage) (message : MarkMessage) (out also : List Outgoing)
    → MarkTurn by bytes lengths node stage message out later → MarkTurn by bytes lengths node stage message also other → SameTurn out also later other
mark_once by bytes lengths node later other (Fetching count fetched) message out also s t =
    reported_once by node later other count (begun_on bytes lengths (so_far node fetched)) (marking_fetched message.body node.marking) (mark_reported by.writing node.plain.boot message (so_far node fetched)) out also s t
mark_once by bytes lengths node later other (Serving opened places) message out also s t = receives_mark_once by node later other places message.body (message.boot == node.plain.boot) out also s t
mark_once by bytes lengths node later other Asking message out also s t = rests_once node later other out also s t
mark_once by bytes lengths node later other (Fenced newer) message out also s t = rests_once node later other out also s t

input_once : {State : Type 0} (by : Marker State) (bytes lengths : List ℕ) (node later other : MarkedNode) (input : MarkedInput) (out also : List Outgoing) → is_fenced node.plain.stage ≡ false
    → InputTurn by bytes lengths node input out later → InputTurn by bytes lengths node input also other → SameTurn out also later other
input_once by bytes lengths node later other (Plain_comes input) out also live s t = fence_once by node later other input (fence node.plain input) out also live refl s t
input_once by bytes lengths node later other (Mark_comes message) out also live s t = mark_once by bytes lengths node later other node.plain.stage message out also s t

pub marked_turn_once : {State : Type 0} (by : Marker State) (bytes lengths : List ℕ) (node later other : MarkedNode) (input : MarkedInput) (out also : List Outgoing)
    → LawfulMarkedTurn by bytes lengths node input out later → LawfulMarkedTurn by bytes lengths node input also other → SameTurn out also later other
marked_turn_once by bytes lengths node later other input out also s t = input_once by bytes lengths node later other input out also s.live s.turn t.turn
