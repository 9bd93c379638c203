-- What an input does to the whole node that marks: while it serves, and where it changes nothing.
use Rattle.std.proofs.Common.{◌≡◌, ℕ, ◌+◌, Bool, false, ◌==◌, ◌&&◌, refl, sym, ap, subst, eq-eqb, None, MatchOption, option_map, List, [], ◌∷◌, length, if◌then◌else◌}
use Rattle.std.specs.Bool.{MatchBool}
use Rattle.ft_io.specs.declared.Key.{Key}
use Rattle.seq_arith.specs.Mark.{MarkMessage}
use Rattle.ft_model.specs.Lawful.{fence}
use Rattle.ft_model.specs.Node.{Node, Place, Stage as law_stage, Input}
use Rattle.ft_model.specs.Node.Input.{Noise_comes}
use Rattle.ft_model.specs.Node.Stage.{Asking, Fetching, Serving, Fenced}
use Rattle.ft_model.specs.ServingTurn.{newcomers}
use Rattle.ft_model.specs.Wire.{Wire}
use Rattle.mark_laws.specs.Marking.{Marking}
use Rattle.mark_laws.specs.MarkedNode.{Marker, MarkedNode, RestsMarked, InputTurn, UnlessFenced, ReceivesOfMark, FetchesMarked, so_far, marking_fetched}
use Rattle.mark_laws.specs.MarkedNode.MarkedInput.{Plain_comes, Mark_comes}
use Rattle.mark_laws.specs.Restart.{begun_on, mark_of_newest}
use Rattle.conn_marks.specs.KeyMarks.{KeyMarks}
use Rattle.conn_marks.specs.Settled.{Keeps, AllSettled}
use Rattle.node_serving.specs.declared.identity.Identity.{Identity}
use Rattle.server_node.specs.declared.marked.Marked.{Marked}
use Rattle.server_node.specs.declared.marked.MarkedStage.{MarkedStage}
use Rattle.server_node.specs.declared.marked.MarkedStage.TheVariants as marked
use Rattle.node_serving.specs.declared.serving.Serving.{Serving as CodeServing}
use Rattle.node_serving.specs.declared.slot.Slot.{Slot}
use Rattle.node_serving.specs.Identity.{node_of, grammar_in}
use Rattle.server_node.specs.Marked.{AreApart}
use Rattle.node_serving.specs.MarkedServing.{ServingGoesMarked, ReceivedOfMark}
use Rattle.server_node.specs.MarkedNumbers.{entries_of, fetched_by_marked}
use Rattle.server_node.specs.MarkedTurns.{MarkedStands, StageStandsMarked, TurnsOn}
use Rattle.node_serving.specs.Openings.{ArePut, all_opens}
use Rattle.node_serving.specs.declared.slot.Slot.TheVariants as slot
use Rattle.node_serving.specs.Markers.{node_at}
use Rattle.node_serving.specs.ServingStage.{ServingStands, ServingGoes}
use Rattle.server_node.proofs.MarkedFetch.{goes_by, rests_on}
use Rattle.node_serving.proofs.MarkedServed.{served_unmarked}
use Rattle.node_serving.proofs.OneKey.{none_concerned}
use Rattle.node_serving.proofs.Opens.{put_none}
use Rattle.node_serving.proofs.Served.{known_goes}
use Rattle.server_node.proofs.Staged.{stand_again}

-- as a whole turn
pub serving_on_marked : {S : Type 0} (by : Marker S) (who : Identity) (awaits : Bool) (marking : Key → Marking) (input : Input) (opened : ℕ) (places : List Place) (now : CodeServing S) (later : KeyMarks)
    (bytes lengths : List ℕ) (lent : List Wire) → fence (node_of who (Serving opened places)) input ≡ None
    → ServingGoesMarked by (node_at who (Serving opened places) awaits marking) input opened places now later [] lent
    → TurnsOn by who bytes lengths (node_at who (Serving opened places) awaits marking) (Plain_comes input) (record { stage = marked.Serving now; marks = later }) lent
serving_on_marked by who awaits marking input opened places now later bytes lengths lent unfenced g =
    let before : MarkedNode = node_at who (Serving opened places) awaits marking in
    let after : law_stage = Serving (opened + length (newcomers before.plain input opened places)) g.later in record {
      standing = after;
      awaits = awaits;
      marking = g.marking;
      sent = g.sent;
      stands = record {
        keeps = g.keeps;
        stage = (record { number = g.stands.number; slots = stand_again by.service who (Serving opened places) after now.slots.entries g.later g.stands.slots }, g.settled);
      };
      goes = subst (λ o. UnlessFenced by before input o g.sent (node_at who after awaits g.marking)) (sym unfenced) (g.later, g.marking, g.turn, refl);
      numbers = tt;
      out = g.out;
    }

-- at the stage where a node serves
pub served_at : {S : Type 0} (by : Marker S) (who : Identity) (input : Input) (standing : law_stage) (awaits : Bool) (marking : Key → Marking) (was now : CodeServing S) (m later : KeyMarks) (bytes lengths : List ℕ) (lent : List Wire)
    → fence (node_of who standing) input ≡ None
    → ((opened : ℕ) (places : List Place) → standing ≡ Serving opened places → Keeps by marking m → AllSettled by marking places → ServingStands by.service (node_of who standing) opened places was
    → ServingGoesMarked by (node_at who standing awaits marking) input opened places now later [] lent)
    → MarkedStands by (node_at who standing awaits marking) (record { stage = marked.Serving was; marks = m })
    → TurnsOn by who bytes lengths (node_at who standing awaits marking) (Plain_comes input) (record { stage = marked.Serving now; marks = later }) lent
served_at by who input (Serving opened places) awaits marking was now m later bytes lengths lent unfenced goes st =
    serving_on_marked by who awaits marking input opened places now later bytes lengths lent unfenced (goes opened places refl st.keeps st.stage.1 st.stage.0)
served_at by who input Asking awaits marking was now m later bytes lengths lent unfenced goes st = absurd st.stage
served_at by who input (Fetching count fetched) awaits marking was now m later bytes lengths lent unfenced goes st = absurd st.stage
served_at by who input (Fenced newer) awaits marking was now m later bytes lengths lent unfenced goes st = absurd st.stage

-- a message about marks there
pub received_serving : {S : Type 0} (by : Marker S) (who : Identity) (message : MarkMessage) (standing : law_stage) (awaits : Bool) (marking : Key → Marking) (serving : CodeServing S) (m later : KeyMarks) (bytes lengths : List ℕ) (lent : List Wire)
    → message.boot ≡ who.boot
    → ((opened : ℕ) (places : List Place) → Keeps by marking m → AllSettled by marking places → ServingStands by.service (node_of who standing) opened places serving
    → ReceivedOfMark by (node_at who standing awaits marking) places message later [] lent)
    → MarkedStands by (node_at who standing awaits marking) (record { stage = marked.Serving serving; marks = m })
    → TurnsOn by who bytes lengths (node_at who standing awaits marking) (Mark_comes message) (record { stage = marked.Serving serving; marks = later }) lent
received_serving by who message (Serving opened places) awaits marking serving m later bytes lengths lent boot receipt st =
    let h = receipt opened places st.keeps st.stage.1 st.stage.0 in
    let before : MarkedNode = node_at who (Serving opened places) awaits marking in record {
      standing = Serving opened places;
      awaits = awaits;
      marking = h.marking;
      sent = h.sent;
      stands = record { keeps = h.keeps; stage = (st.stage.0, h.settled) };
      goes = subst (λ b. MatchBool b (ReceivesOfMark by before places message.body h.sent (node_at who (Serving opened places) awaits h.marking)) (RestsMarked before h.sent (node_at who (Serving opened places) awaits h.marking)))
          (sym (eq-eqb message.boot who.boot boot)) h.on_receipt;
      numbers = tt;
      out = h.out;
    }
received_serving by who message Asking awaits marking serving m later bytes lengths lent boot receipt st = absurd st.stage
received_serving by who message (Fetching count fetched) awaits marking serving m later bytes lengths lent boot receipt st = absurd st.stage
received_serving by who message (Fenced newer) awaits marking serving m later bytes lengths lent boot receipt st = absurd st.stage

-- a message about marks while nothing is fetched yet, and one of another boot
pub mark_rests : {S : Type 0} (by : Marker S) (who : Identity) (message : MarkMessage) (standing : law_stage) (awaits : Bool) (marking : Key → Marking) (m : KeyMarks) (bytes lengths : List ℕ) (lent : List Wire) → lent ≡ []
    → MarkedStands {S = S} by (node_at who standing awaits marking) (record { stage = marked.Asking; marks = m })
    → TurnsOn by who bytes lengths (node_at who standing awaits marking) (Mark_comes message) (record { stage = marked.Asking; marks = m }) lent
mark_rests by who message Asking awaits marking m bytes lengths lent none st = rests_on by who Asking awaits marking (record { stage = marked.Asking; marks = m }) lent st none
mark_rests by who message (Serving opened places) awaits marking m bytes lengths lent none st = absurd st.stage
mark_rests by who message (Fetching count fetched) awaits marking m bytes lengths lent none st = absurd st.stage
mark_rests by who message (Fenced newer) awaits marking m bytes lengths lent none st = absurd st.stage

pub other_rests : {S : Type 0} (by : Marker S) (who : Identity) (message : MarkMessage) (standing : law_stage) (awaits : Bool) (marking : Key → Marking) (now : Marked S) (bytes lengths : List ℕ) (lent : List Wire)
    → (message.boot == who.boot) ≡ false → lent ≡ [] → MarkedStands by (node_at who standing awaits marking) now
    → TurnsOn by who bytes lengths (node_at who standing awaits marking) (Mark_comes message) now lent
other_rests by who message Asking awaits marking now bytes lengths lent other none st = rests_on by who Asking awaits marking now lent st none
other_rests by who message (Fenced newer) awaits marking now bytes lengths lent other none st = rests_on by who (Fenced newer) awaits marking now lent st none
other_rests by who message (Serving opened places) awaits marking now bytes lengths lent other none st =
    goes_by by who [] [] (RestsMarked (node_at who (Serving opened places) awaits marking)) (InputTurn by bytes lengths (node_at who (Serving opened places) awaits marking) (Mark_comes message)) now lent refl
    (λ out after r. subst (λ b. MatchBool b (ReceivesOfMark by (node_at who (Serving opened places) awaits marking) places message.body out after) (RestsMarked (node_at who (Serving opened places) awaits marking) out after)) (sym other) r)
    (rests_on by who (Serving opened places) awaits marking now lent st none)
other_rests by who message (Fetching count fetched) awaits marking now bytes lengths lent other none st =
    goes_by by who [] (fetched_by_marked by bytes lengths (node_at who (Fetching count fetched) awaits marking) (Fetching count fetched) (Mark_comes message))
    (RestsMarked (node_at who (Fetching count fetched) awaits marking)) (InputTurn by bytes lengths (node_at who (Fetching count fetched) awaits marking) (Mark_comes message)) now lent
    (sym (ap (λ b. entries_of (option_map (λ x. begun_on bytes lengths (so_far (node_at who (Fetching count fetched) awaits marking) fetched)) (if b && awaits then mark_of_newest by.writing message.body fetched else None))) other))
    (λ out after r. subst
    (λ o. MatchOption o (RestsMarked (node_at who (Fetching count fetched) awaits marking) out after)
    (λ x. FetchesMarked by (node_at who (Fetching count fetched) awaits marking) count (begun_on bytes lengths (so_far (node_at who (Fetching count fetched) awaits marking) fetched)) (marking_fetched message.body marking) out after))
    (sym (ap (λ b. if b && awaits then mark_of_newest by.writing message.body fetched else None) other)) r)
    (rests_on by who (Fetching count fetched) awaits marking now lent st none)

pub fenced_never : {S : Type 0} {X : Type 0} (by : Marker S) (who : Identity) (newer : ℕ) (awaits : Bool) (marking : Key → Marking) (now : Marked S) → MarkedStands by (node_at who (Fenced newer) awaits marking) now → X
fenced_never by who newer awaits marking now st = never by (node_at who (Fenced newer) awaits marking) newer now.stage st.stage
  where
    never : {S : Type 0} {X : Type 0} (by : Marker S) (node : MarkedNode) (newer : ℕ) (at : MarkedStage S) → StageStandsMarked by node (Fenced newer) at → X
    never by node newer marked.Asking st = absurd st
    never by node newer (marked.Fetching f) st = absurd st
    never by node newer (marked.Serving s) st = absurd st

noise_serves : {S : Type 0} (by : Marker S) (who : Identity) (opened : ℕ) (places : List Place) (awaits : Bool) (marking : Key → Marking) (at : MarkedStage S) (m : KeyMarks) (bytes lengths : List ℕ) (lent : List Wire) → lent ≡ []
    → AreApart at
    → MarkedStands by (node_at who (Serving opened places) awaits marking) (record { stage = at; marks = m })
    → TurnsOn by who bytes lengths (node_at who (Serving opened places) awaits marking) (Plain_comes Noise_comes) (record { stage = at; marks = m }) lent
noise_serves {S = S} by who opened places awaits marking marked.Asking m bytes lengths lent none distinct st = absurd st.stage
noise_serves {S = S} by who opened places awaits marking (marked.Fetching f) m bytes lengths lent none distinct st = absurd st.stage
noise_serves {S = S} by who opened places awaits marking (marked.Serving s) m bytes lengths lent none distinct st =
    let node : Node = node_of who (Serving opened places) in
    let goes : ServingGoes by.service node Noise_comes opened places s [] [] =
    known_goes by.service node Noise_comes opened places s [] [] [] refl refl st.stage.0.number (none_concerned by.service node Noise_comes s.slots.entries places [] (λ k. refl) st.stage.0.slots)
    (subst (λ ps. ArePut (grammar_in who) ps [] []) (sym (opens_none s.slots.entries)) (put_none (grammar_in who) [])) in
    subst (λ l. TurnsOn by who bytes lengths (node_at who (Serving opened places) awaits marking) (Plain_comes Noise_comes) (record { stage = marked.Serving s; marks = m }) l) (sym none)
    (serving_on_marked by who awaits marking Noise_comes opened places s m bytes lengths [] refl
    (served_unmarked by who (Serving opened places) awaits marking Noise_comes (record { ip = 0; port = 0 }) opened places s.slots.entries s m [] (λ k. refl) refl refl tt st.stage.0.slots distinct st.keeps st.stage.1 goes))
  where
    opens_none : (es : List (Key × Slot S)) → all_opens (node_of who (Serving opened places)) Noise_comes es ≡ []
    opens_none [] = refl
    opens_none ((k, slot.Pending o) ∷ es) = opens_none es
    opens_none ((k, slot.Live c) ∷ es) = opens_none es
    opens_none ((k, slot.Done) ∷ es) = opens_none es

-- noise changes nothing
pub noise_rests_marked : {S : Type 0} (by : Marker S) (who : Identity) (standing : law_stage) (awaits : Bool) (marking : Key → Marking) (now : Marked S) (bytes lengths : List ℕ) (lent : List Wire) → lent ≡ []
    → AreApart now.stage
    → MarkedStands by (node_at who standing awaits marking) now → TurnsOn by who bytes lengths (node_at who standing awaits marking) (Plain_comes Noise_comes) now lent
noise_rests_marked by who Asking awaits marking now bytes lengths lent none distinct st =
    goes_by by who [] [] (RestsMarked (node_at who Asking awaits marking)) (InputTurn by bytes lengths (node_at who Asking awaits marking) (Plain_comes Noise_comes)) now lent refl
    (λ out after r. (Asking, [], (refl, refl), r.0, r.1)) (rests_on by who Asking awaits marking now lent st none)
noise_rests_marked by who (Fetching count fetched) awaits marking now bytes lengths lent none distinct st =
    goes_by by who [] [] (RestsMarked (node_at who (Fetching count fetched) awaits marking)) (InputTurn by bytes lengths (node_at who (Fetching count fetched) awaits marking) (Plain_comes Noise_comes)) now lent refl
    (λ out after r. (Fetching count fetched, [], (refl, refl), r.0, r.1)) (rests_on by who (Fetching count fetched) awaits marking now lent st none)
noise_rests_marked by who (Fenced newer) awaits marking now bytes lengths lent none distinct st = fenced_never by who newer awaits marking now st
noise_rests_marked by who (Serving opened places) awaits marking now bytes lengths lent none distinct st = noise_serves by who opened places awaits marking now.stage now.marks bytes lengths lent none distinct st
