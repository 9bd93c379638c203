-- The turn of a node that marks, as that of its stage and of the whole node.
use Rattle.std.proofs.Common.{◌≡◌, ◌∙◌, ◌<◌, ◌^◌, ℕ, Bool, true, false, true≢false, ◌==◌, ◌&&◌, refl, sym, ap, subst, nat_lt, Result, Ok, Err, Option, None, MatchOption, option_map, List, [], if◌then◌else◌}
use Rattle.ft_io.specs.declared.Key.{Key}
use Rattle.seq_arith.specs.declared.kinds.Grammar.{Grammar}
use Rattle.seq_arith.specs.Mark.{MarkMessage}
use Rattle.seq_arith.specs.MarkGrammar as marks
use Rattle.seq_arith.specs.Message.{Message}
use Rattle.seq_arith.specs.MessageGrammar as messages
use Rattle.seq_arith.specs.declared.kinds.BadMsg.{BadMsg}
use Rattle.seq_arith.specs.declared.mark.BadMark.{BadMark}
use Rattle.server_trait.specs.declared.Service.{Ghosts}
use Rattle.tcp_rules.specs.Profile.{grammar_of}
use Rattle.ft_model.specs.Lawful.{Rests, Fetches, is_fenced, fence, newer_than, summary_count}
use Rattle.ft_model.specs.Node.{Place, Stage as law_stage}
use Rattle.ft_model.specs.Node.Input.{Message_comes, Noise_comes}
use Rattle.ft_model.specs.Node.Stage.{Asking, Fetching, Serving, Fenced}
use Rattle.ft_model.specs.Restart.{wanted, fetched_after}
use Rattle.ft_model.specs.ServingTurn.{names}
use Rattle.ft_model.specs.Wire.{Wire}
use Rattle.ft_model.specs.World.{message_or_noise}
use Rattle.mark_laws.specs.Marking.{Marking}
use Rattle.mark_laws.specs.Restart.{FetchedSoFar, fetched_on, awaits_after}
use Rattle.mark_laws.specs.MarkedNode.{Marker, MarkedNode, MarkedInput, RestsMarked, InputTurn, UnlessFenced, FetchesMarked, so_far}
use Rattle.mark_laws.specs.MarkedNode.MarkedInput.{Plain_comes}
use Rattle.mark_laws.specs.MarkedWorld.{either_said, input_of as marked_of}
use Rattle.conn_marks.specs.KeyMarks.{KeyMarks}
use Rattle.conn_marks.specs.MarkSends.{AreOut}
use Rattle.node_serving.specs.declared.identity.Identity.{Identity}
use Rattle.server_node.specs.declared.input.Input.{Input}
use Rattle.server_node.specs.declared.input.Input.TheVariants as input
use Rattle.server_node.specs.declared.marked.Marked.{Marked}
use Rattle.server_node.specs.declared.marked.MarkedStage.{MarkedStage}
use Rattle.server_node.specs.declared.marked.MarkedStage.TheVariants as marked
use Rattle.server_node.specs.declared.node.Node.{Node}
use Rattle.server_node.specs.declared.stage.Stage.{Stage}
use Rattle.server_node.specs.declared.stage.Stage.TheVariants as stage
use Rattle.node_serving.specs.Identity.{node_of, service_of, grammar_in}
use Rattle.server_node.specs.Inputs.{input_of}
use Rattle.server_node.specs.Marked.{AreApart}
use Rattle.server_node.specs.MarkedApart.{StageTurnsApart}
use Rattle.server_node.specs.MarkedNumbers.{AllNumberedAt, AllNumberedMarked, entries_of, fetched_by_marked}
use Rattle.server_node.specs.MarkedTurns.{MarkedStands, MarkedTurns, TurnsOn, IsFairTo, IsUnfencedMarked, IsTurnMarked, HasSlotsApart, NodeStandsAt, MarkedNodeGoes, MarkedNodeTurns, marked_input_of, received_of}
use Rattle.node_serving.specs.Markers.{Saving, marker_of, node_at}
use Rattle.server_node.specs.Stages.{is_marked, IsSoundStage}
use Rattle.server_node.specs.StageTurns.{IsUnfenced}
use Rattle.server_node.proofs.MarkedFetch.{goes_by, rests_on}
use Rattle.node_serving.proofs.MarkedServed.{served_unmarked}
use Rattle.server_node.proofs.MarkedInputs.{fenced_never, noise_rests_marked, serving_on_marked}
use Rattle.node_serving.proofs.OneKey.{none_concerned}
use Rattle.server_node.proofs.MarkedApart.{marked_still}
use Rattle.server_node.proofs.StagedApart.{other_boot}
use Rattle.node_serving.proofs.Served.{message_goes}

-- a message of another boot changes nothing
no_fence : (who : Identity) (standing : law_stage) (message : Message) → (message.boot == who.boot) ≡ false → fence (node_of who standing) (Message_comes message) ≡ None
no_fence who standing message other = ap (λ b. if b then newer_than who.boot message.body else None) other

no_answer : (m : Bool) (boot count : ℕ) (message : Message) (now : FetchedSoFar) → (message.boot == boot) ≡ false → fetched_on m boot count message now ≡ None
no_answer m boot count message now other = go now.awaits_mark (message.boot == boot) other
  where
    go : (a b : Bool) → b ≡ false
        → ◌≡◌ {A = Option FetchedSoFar} (if a then None else option_map (λ more. record { entries = more; awaits_mark = awaits_after m message.body }) (if b then fetched_after (wanted count now.entries) message.body now.entries else None)) None
    go true b e = refl
    go false true e = absurd (true≢false e)
    go false false e = refl

other_serves : {S : Type 0} (by : Marker S) (who : Identity) (message : Message) (opened : ℕ) (places : List Place) (awaits : Bool) (marking : Key → Marking) (at : MarkedStage S) (m : KeyMarks) (bytes lengths : List ℕ) (lent : List Wire)
    → (message.boot == who.boot) ≡ false → lent ≡ [] → AreApart at → MarkedStands by (node_at who (Serving opened places) awaits marking) (record { stage = at; marks = m })
    → TurnsOn by who bytes lengths (node_at who (Serving opened places) awaits marking) (Plain_comes (Message_comes message)) (record { stage = at; marks = m }) lent
other_serves by who message opened places awaits marking marked.Asking m bytes lengths lent other none apart st = absurd st.stage
other_serves by who message opened places awaits marking (marked.Fetching f) m bytes lengths lent other none apart st = absurd st.stage
other_serves by who message opened places awaits marking (marked.Serving s) m bytes lengths lent other none apart st =
    let node = node_of who (Serving opened places) in
    let goes = message_goes by.service node message opened places s [] [] st.stage.0.number
    (none_concerned by.service node (Message_comes message) s.slots.entries places [] (λ k. ap (λ b. b && names message.body k) other) st.stage.0.slots) in
    subst (λ l. TurnsOn by who bytes lengths (node_at who (Serving opened places) awaits marking) (Plain_comes (Message_comes message)) (record { stage = marked.Serving s; marks = m }) l) (sym none)
    (serving_on_marked by who awaits marking (Message_comes message) opened places s m bytes lengths [] (no_fence who (Serving opened places) message other)
    (served_unmarked by who (Serving opened places) awaits marking (Message_comes message) (record { ip = 0; port = 0 }) opened places s.slots.entries s m [] (λ k. ap (λ b. b && names message.body k) other)
    refl refl tt st.stage.0.slots apart st.keeps st.stage.1 goes))

other_message : {S : Type 0} (by : Marker S) (who : Identity) (message : Message) (standing : law_stage) (awaits : Bool) (marking : Key → Marking) (now : Marked S) (bytes lengths : List ℕ) (lent : List Wire)
    → (message.boot == who.boot) ≡ false → lent ≡ [] → AreApart now.stage → MarkedStands by (node_at who standing awaits marking) now
    → TurnsOn by who bytes lengths (node_at who standing awaits marking) (Plain_comes (Message_comes message)) now lent
other_message by who message Asking awaits marking now bytes lengths lent other none apart st =
    let here : MarkedNode = node_at who Asking awaits marking in
    goes_by by who [] [] (RestsMarked here) (InputTurn by bytes lengths here (Plain_comes (Message_comes message))) now lent refl
    (λ out after r. subst (λ o. UnlessFenced by here (Message_comes message) o out after) (sym (no_fence who Asking message other)) (
      Asking,
      [],
      subst (λ o. MatchOption o (Rests Asking Asking []) (λ count. Fetches by.service (node_of who Asking) count [] Asking [])) (sym (ap (λ b. if b then summary_count message.body else None) other)) (refl, refl),
      r.0,
      r.1,
    )) (rests_on by who Asking awaits marking now lent st none)
other_message by who message (Fetching count fetched) awaits marking now bytes lengths lent other none apart st =
    let here : MarkedNode = node_at who (Fetching count fetched) awaits marking in
    goes_by by who [] (entries_of (fetched_on (nat_lt 0 by.every) who.boot count message (so_far here fetched))) (RestsMarked here) (InputTurn by bytes lengths here (Plain_comes (Message_comes message))) now lent
    (sym (ap entries_of (no_answer (nat_lt 0 by.every) who.boot count message (so_far here fetched) other)))
    (λ out after r. subst (λ o. UnlessFenced by here (Message_comes message) o out after) (sym (no_fence who (Fetching count fetched) message other))
    (subst (λ x. MatchOption x (RestsMarked here out after) (λ more. FetchesMarked by here count more marking out after))
    (sym (no_answer (nat_lt 0 by.every) who.boot count message (so_far here fetched) other)) r))
    (rests_on by who (Fetching count fetched) awaits marking now lent st none)
other_message by who message (Fenced newer) awaits marking now bytes lengths lent other none apart st = fenced_never by who newer awaits marking now st
other_message by who message (Serving opened places) awaits marking now bytes lengths lent other none apart st =
    other_serves by who message opened places awaits marking now.stage now.marks bytes lengths lent other none apart st

-- of stages
module _ {S : Type 0} (s : Ghosts S) (v : Saving S) (who : Identity) where
  pub unmarked_turn : (i : MarkedInput) (was now : Stage S) (sent : List Wire) → is_marked was ≡ false → IsTurnMarked s v who i was now sent
  unmarked_turn i stage.Asking now sent h = tt
  unmarked_turn i (stage.Fetching f) now sent h = tt
  unmarked_turn i (stage.Serving f) now sent h = tt
  unmarked_turn i stage.Lost now sent h = tt
  unmarked_turn i (stage.Marked m) now sent h = absurd (true≢false h)

  pub noise_turn : (was : Stage S) (sent : List Wire) → sent ≡ [] → HasSlotsApart was → who.isn < 2 ^ 32 → IsSoundStage who was → IsTurnMarked s v who (Plain_comes Noise_comes) was was sent
  noise_turn stage.Asking sent none apart low sound = tt
  noise_turn (stage.Fetching f) sent none apart low sound = tt
  noise_turn (stage.Serving f) sent none apart low sound = tt
  noise_turn stage.Lost sent none apart low sound = tt
  noise_turn (stage.Marked m) sent none apart low sound = (
    λ every standing awaits marking bytes lengths unfenced fair st.
        noise_rests_marked (marker_of s v who every) who standing awaits marking m bytes lengths sent none apart st,
    λ standing. marked_still (service_of s who) who standing (Plain_comes Noise_comes) m sent none low sound (λ key. refl),
  )

  pub other_turn : (message : Message) (was : Stage S) (sent : List Wire) → (message.boot == who.boot) ≡ false → sent ≡ [] → HasSlotsApart was → who.isn < 2 ^ 32 → IsSoundStage who was
      → IsTurnMarked s v who (Plain_comes (Message_comes message)) was was sent
  other_turn message stage.Asking sent other none apart low sound = tt
  other_turn message (stage.Fetching f) sent other none apart low sound = tt
  other_turn message (stage.Serving f) sent other none apart low sound = tt
  other_turn message stage.Lost sent other none apart low sound = tt
  other_turn message (stage.Marked m) sent other none apart low sound = (
    λ every standing awaits marking bytes lengths unfenced fair st.
        other_message (marker_of s v who every) who message standing awaits marking m bytes lengths sent other none apart st,
    λ standing. marked_still (service_of s who) who standing (Plain_comes (Message_comes message)) m sent none low sound (other_boot (node_of who standing) message other),
  )

-- bytes that are no message of the log are what the code of marks reads, or noise
pub not_of_log : (grammar : Grammar) (bytes : List ℕ) (why : BadMsg) → messages.reading_by grammar bytes ≡ Err why → marked_of (either_said (messages.reading_by grammar bytes) (marks.reading bytes)) ≡ received_of (marks.reading bytes)
not_of_log grammar bytes why is = ap (λ r. marked_of (either_said r (marks.reading bytes))) is ∙ receipt (marks.reading bytes)
  where
    receipt : (r : Result MarkMessage BadMark) → marked_of (either_said (Err why) r) ≡ received_of r
    receipt (Ok message) = refl
    receipt (Err bad) = refl

pub of_the_log : (grammar : Grammar) (bytes : List ℕ) (message : Message) → messages.reading_by grammar bytes ≡ Ok message → marked_of (either_said (messages.reading_by grammar bytes) (marks.reading bytes)) ≡ Plain_comes (Message_comes message)
of_the_log grammar bytes message is = ap (λ r. marked_of (either_said r (marks.reading bytes))) is

-- what doesn't end a node without marks doesn't end one that marks
pub calm : (who : Identity) (standing : law_stage) (awaits : Bool) (marking : Key → Marking) (i : Input) → IsUnfenced who (input_of (grammar_in who) i) → IsUnfencedMarked (node_at who standing awaits marking) (marked_input_of (grammar_in who) i)
calm who standing awaits marking (input.Packet bytes) h = h standing
calm who standing awaits marking input.Tick h = h standing
calm who standing awaits marking (input.Message bytes) h = go (messages.reading_by (grammar_in who) bytes.now) (marks.reading bytes.now) (h standing)
  where
    go : (a : Result Message BadMsg) (b : Result MarkMessage BadMark) → fence (node_of who standing) (message_or_noise a) ≡ None → IsUnfencedMarked (node_at who standing awaits marking) (marked_of (either_said a b))
    go (Ok message) b f = f
    go (Err why) (Ok message) f = tt
    go (Err why) (Err bad) f = refl

alive : {S : Type 0} (by : Marker S) (who : Identity) (standing : law_stage) (awaits : Bool) (marking : Key → Marking) (now : Marked S) → MarkedStands by (node_at who standing awaits marking) now → is_fenced standing ≡ false
alive by who Asking awaits marking now st = refl
alive by who (Fetching count fetched) awaits marking now st = refl
alive by who (Serving opened places) awaits marking now st = refl
alive by who (Fenced newer) awaits marking now st = fenced_never by who newer awaits marking now st

-- of the whole node
module _ {S : Type 0} {s : Ghosts S} (v : Saving S) (i : MarkedInput) (was now : Node S s) (lent : List Wire) (every : ℕ) (node : MarkedNode) (bytes lengths : List ℕ) where
  abbrev by : Marker S
  by = marker_of s v was.who every

  abbrev at : MarkedNode
  at = node_at was.who node.plain.stage node.awaits_mark node.marking

  led : node ≡ at → now.who ≡ was.who → IsUnfencedMarked at i → IsFairTo by bytes lengths node i → (m n : Marked S) → now.stage ≡ stage.Marked n → MarkedTurns s v was.who i m n lent → MarkedStands by node m
      → MarkedNodeGoes by bytes lengths node i now lent
  led is same unfenced fair m n e turn stands =
      let here = subst (λ x. MarkedStands by x m) is stands in
      let g = turn every node.plain.stage node.awaits_mark node.marking bytes lengths unfenced (subst (λ x. IsFairTo by bytes lengths x i) is fair) here in
      let after : MarkedNode = node_at was.who g.standing g.awaits g.marking in
      let out = subst (λ x. AreOut (grammar_of x.plain.profile) g.sent [] lent) (sym is) g.out in record {
        after = after;
        sent = g.sent;
        stands = record { who = ap (λ w. node_of w g.standing) (sym same); stage = subst (NodeStandsAt by after) (sym e) g.stands };
        turn = record { live = alive by was.who node.plain.stage node.awaits_mark node.marking m here; turn = subst (λ x. InputTurn by bytes lengths x i g.sent after) (sym is) g.goes };
        numbers = subst (AllNumberedMarked by.service node.plain.isn (fetched_by_marked by bytes lengths node node.plain.stage i)) (sym e)
            (subst (λ x. AllNumberedAt by.service x.plain.isn (fetched_by_marked by bytes lengths x x.plain.stage i) n.stage) (sym is) g.numbers);
        wires = out.wires;
        spelled = out.spelled;
      }

  by_stage : node ≡ at → now.who ≡ was.who → IsUnfencedMarked at i → IsFairTo by bytes lengths node i → (a b : Stage S) → now.stage ≡ b → IsTurnMarked s v was.who i a b lent → NodeStandsAt by node a
      → MarkedNodeGoes by bytes lengths node i now lent
  by_stage is same unfenced fair (stage.Marked m) (stage.Marked n) e turn stands = led is same unfenced fair m n e turn.0 stands
  by_stage is same unfenced fair (stage.Marked m) stage.Asking e turn stands = absurd turn
  by_stage is same unfenced fair (stage.Marked m) (stage.Fetching f) e turn stands = absurd turn
  by_stage is same unfenced fair (stage.Marked m) (stage.Serving f) e turn stands = absurd turn
  by_stage is same unfenced fair (stage.Marked m) stage.Lost e turn stands = absurd turn
  by_stage is same unfenced fair stage.Asking b e turn stands = absurd stands
  by_stage is same unfenced fair (stage.Fetching f) b e turn stands = absurd stands
  by_stage is same unfenced fair (stage.Serving f) b e turn stands = absurd stands
  by_stage is same unfenced fair stage.Lost b e turn stands = absurd stands

pub node_goes : {S : Type 0} {s : Ghosts S} (v : Saving S) (i : MarkedInput) (was now : Node S s) (lent : List Wire) → now.who ≡ was.who
    → ((standing : law_stage) (awaits : Bool) (marking : Key → Marking) → IsUnfencedMarked (node_at was.who standing awaits marking) i)
    → IsTurnMarked s v was.who i was.stage now.stage lent → MarkedNodeTurns v i was now lent
node_goes v i was now lent same unfenced turns every node bytes lengths fair st =
    by_stage v i was now lent every node bytes lengths (λ j. record { plain = st.who j; awaits_mark = node.awaits_mark; marking = node.marking }) same (unfenced node.plain.stage node.awaits_mark node.marking) fair
    was.stage now.stage refl turns st.stage

pub turn_apart : {S : Type 0} (s : Ghosts S) (v : Saving S) (who : Identity) (i : MarkedInput) (was now : Stage S) (sent : List Wire) → IsTurnMarked s v who i was now sent → StageTurnsApart s who i was now sent
turn_apart s v who i (stage.Marked m) (stage.Marked n) sent turn = turn.1
turn_apart s v who i (stage.Marked m) stage.Asking sent turn = absurd turn
turn_apart s v who i (stage.Marked m) (stage.Fetching f) sent turn = absurd turn
turn_apart s v who i (stage.Marked m) (stage.Serving f) sent turn = absurd turn
turn_apart s v who i (stage.Marked m) stage.Lost sent turn = absurd turn
turn_apart s v who i stage.Asking now sent turn = tt
turn_apart s v who i (stage.Fetching f) now sent turn = tt
turn_apart s v who i (stage.Serving f) now sent turn = tt
turn_apart s v who i stage.Lost now sent turn = tt
