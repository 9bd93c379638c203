-- A turn of a server by its stage: it waits, it asks on, its restart ends, it serves, or a newer incarnation has fenced it.
use Rattle.std.proofs.Common.{◌≡◌, ℕ, ◌+◌, Bool, true, false, ◌==◌, refl, sym, ap, ◌∙◌, eqb-true, inl, inr, ◌⊎◌, MatchBool, MatchOption, Option, Some, None, List, [], length}
use Rattle.ft_io.specs.declared.Addr.{Addr}
use Rattle.seq_arith.specs.Packet.{Segment}
use Rattle.seq_arith.specs.Message.{Body, Message}
use Rattle.seq_arith.specs.Message.Body.{SummaryMsg}
use Rattle.server_trait.specs.Service.{Machine}
use Rattle.ft_model.specs.Network.{Packet}
use Rattle.ft_model.specs.Point.{Point}
use Rattle.ft_model.specs.News.{News}
use Rattle.ft_model.specs.ResetAndEnd.{reset_after}
use Rattle.ft_model.specs.Connection.{ResetTurn, LiveTurn, ConnectionTurn}
use Rattle.ft_model.specs.Restart.{Fetched, Wanted, wanted, fetched_after}
use Rattle.ft_model.specs.Node.{Node, Place, Stage, Input}
use Rattle.ft_model.specs.Node.Stage.{Asking, Fetching, Serving, Fenced}
use Rattle.ft_model.specs.Node.Input.{Packet_comes, Message_comes, Noise_comes, Tick_comes}
use Rattle.ft_model.specs.ServingTurn.{AllGo, newcomers, ServingTurn}
use Rattle.ft_model.specs.Lawful.{Rests, Revives, Continues, Fetches, StageTurn, NodeTurn, LawfulTurn, all_restored, restored_count, hello, asked, held, fence, count_reported, summary_count, fetched_then}
use Rattle.ft_model.specs.Masked.{is_restarting}
use Rattle.ft_model.proofs.Lists.{none_is_some, some_is}
use Rattle.ft_io.proofs.Choices.{some_if}

-- an answer to the present question has come: so much is fetched now
pub record Progress (node : Node) (input : Input) (count : ℕ) (fetched : List Fetched) : Type 0 where
  pub message : Message
  pub comes : input ≡ Message_comes message
  pub boot : message.boot ≡ node.boot
  pub how : ((node.stage ≡ Asking) × (message.body ≡ SummaryMsg count) × (fetched ≡ []))
      ⊎ ((old : List Fetched) × (node.stage ≡ Fetching count old) × (fetched_after (wanted count old) message.body old ≡ Some fetched))

-- the question is asked again while its answer is missing
abbrev pub IsMissing : Node → Option Wanted → Type 0
IsMissing node (Some w) = (count : ℕ) × (fetched : List Fetched) × (node.stage ≡ Fetching count fetched) × (wanted count fetched ≡ Some w)
IsMissing node None = Unit {0}

-- a server that waits for the Summary, by the count that is told
abbrev pub Asks : {State : Type 0} → Machine State → Node → Option ℕ → Stage → List Packet → Type 0
Asks service node count after sent = MatchOption count (Rests Asking after sent) (λ n. Fetches service node n [] after sent)

-- .. and one that waits for an answer, by what is fetched then
abbrev pub Gets : {State : Type 0} → Machine State → Node → (count : ℕ) → List Fetched → Option (List Fetched) → Stage → List Packet → Type 0
Gets service node count fetched more after sent = MatchOption more (Rests (Fetching count fetched) after sent) (λ now. Fetches service node count now after sent)

pub data StageWent {State : Type 0} (service : Machine State) (node : Node) (input : Input) (sent : List Packet) (after : Stage) : Type 0 where
  was_fenced : (newer : ℕ) → after ≡ Fenced newer → sent ≡ [] → StageWent service node input sent after
  waited : is_restarting node.stage ≡ true → after ≡ node.stage → (sent ≡ hello node) ⊎ ((w : Option Wanted) × (sent ≡ asked node w) × IsMissing node w) → StageWent service node input sent after
  held_off : (count : ℕ) (fetched : List Fetched) (segment : Segment) → node.stage ≡ Fetching count fetched → after ≡ Fetching count fetched
      → sent ≡ held node fetched segment → StageWent service node input sent after
  asked_on : (count : ℕ) (fetched : List Fetched) → Progress node input count fetched → after ≡ Fetching count fetched
      → sent ≡ asked node (wanted count fetched) → StageWent service node input sent after
  resumed : (count : ℕ) (fetched : List Fetched) (places : List Place) → Progress node input count fetched → wanted count fetched ≡ None
      → after ≡ Serving (restored_count fetched) places → AllGo (Revives service node) (all_restored service node.profile fetched) places sent → StageWent service node input sent after
  served : (opened : ℕ) (places later : List Place) → node.stage ≡ Serving opened places → after ≡ Serving (opened + length (newcomers node input opened places)) later
      → ServingTurn service node input opened places later sent → StageWent service node input sent after

continues : {State : Type 0} (service : Machine State) (node : Node) (input : Input) (count : ℕ) (fetched : List Fetched) (after : Stage) (sent : List Packet) (w : Option Wanted)
    → wanted count fetched ≡ w → Progress node input count fetched → Continues service node count fetched w after sent → StageWent service node input sent after
continues service node input count fetched after sent (Some w) e p t = asked_on count fetched p t.0 (t.1 ∙ ap (asked node) (sym e))
continues service node input count fetched after sent None e p t = resumed count fetched t.0 p e t.1 t.2

summary : (body : Body) (count : ℕ) → summary_count body ≡ Some count → body ≡ SummaryMsg count
summary (SummaryMsg n) count e = ap SummaryMsg (some_is n count e)
summary _ count e = none_is_some count e

asks_so : {State : Type 0} (service : Machine State) (node : Node) (message : Message) (after : Stage) (sent : List Packet) (o : Option ℕ)
    → node.stage ≡ Asking → (count_reported node message) ≡ o → Asks service node o after sent
    → StageWent service node (Message_comes message) sent after
asks_so service node message after sent (Some count) s e t =
    let parts = some_if (message.boot == node.boot) (summary_count message.body) count e in
    continues service node (Message_comes message) count [] after sent (wanted count []) refl
    (record { message = message; comes = refl; boot = eqb-true _ _ parts.0; how = inl (s, summary message.body count parts.1, refl) }) t
asks_so service node message after sent None s e t = waited (ap is_restarting s) (t.0 ∙ sym s) (inr (None, t.1, tt))

fetches : {State : Type 0} (service : Machine State) (node : Node) (message : Message) (count : ℕ) (fetched : List Fetched) (after : Stage) (sent : List Packet)
    (o : Option (List Fetched)) → node.stage ≡ Fetching count fetched → fetched_then node message count fetched ≡ o
    → Gets service node count fetched o after sent → StageWent service node (Message_comes message) sent after
fetches service node message count fetched after sent (Some more) s e t =
    let parts = some_if (message.boot == node.boot) (fetched_after (wanted count fetched) message.body fetched) more e in
    continues service node (Message_comes message) count more after sent (wanted count more) refl
    (record { message = message; comes = refl; boot = eqb-true _ _ parts.0; how = inr (fetched, s, parts.1) }) t
fetches service node message count fetched after sent None s e t = waited (ap is_restarting s) (t.0 ∙ sym s) (inr (None, t.1, tt))

missing : (node : Node) (count : ℕ) (fetched : List Fetched) (w : Option Wanted) → node.stage ≡ Fetching count fetched → wanted count fetched ≡ w → IsMissing node w
missing node count fetched (Some w) s e = (count, fetched, s, e)
missing node count fetched None s e = tt

by_stage : {State : Type 0} (service : Machine State) (node : Node) (input : Input) (sent : List Packet) (after stage : Stage) → node.stage ≡ stage
    → StageTurn service node stage input after sent → StageWent service node input sent after
by_stage service node Tick_comes sent after Asking s t = waited (ap is_restarting s) (t.0 ∙ sym s) (inl t.1)
by_stage service node (Message_comes message) sent after Asking s t =
    asks_so service node message after sent (count_reported node message) s refl t
by_stage service node input sent after Asking s t = waited (ap is_restarting s) (t.0 ∙ sym s) (inr (None, t.1, tt))
by_stage service node Tick_comes sent after (Fetching count fetched) s t = waited (ap is_restarting s) (t.0 ∙ sym s) (inr (wanted count fetched, t.1, missing node count fetched (wanted count fetched) s refl))
by_stage service node (Message_comes message) sent after (Fetching count fetched) s t =
    fetches service node message count fetched after sent (fetched_then node message count fetched) s refl t
by_stage service node (Packet_comes segment) sent after (Fetching count fetched) s t = held_off count fetched segment s t.0 t.1
by_stage service node Noise_comes sent after (Fetching count fetched) s t = waited (ap is_restarting s) (t.0 ∙ sym s) (inr (None, t.1, tt))
by_stage service node input sent after (Serving opened places) s t = served opened places t.0 s t.1 t.2
by_stage service node input sent after (Fenced newer) s t = absurd t

by_fence : {State : Type 0} (service : Machine State) (node : Node) (input : Input) (sent : List Packet) (after : Stage) (o : Option ℕ)
    → NodeTurn service node input o after sent → StageWent service node input sent after
by_fence service node input sent after (Some newer) t = was_fenced newer t.0 t.1
by_fence service node input sent after None t = by_stage service node input sent after node.stage refl t

pub stage_went : {State : Type 0} (service : Machine State) (node later : Node) (input : Input) (sent : List Packet)
    → LawfulTurn service node input sent later → StageWent service node input sent later.stage
stage_went service node later input sent t = by_fence service node input sent later.stage (fence node input) t.stage

by_reset : {State : Type 0} {X : Type 0} (service : Machine State) (server : Addr) (boot : ℕ) (news : News) (p q : Point) (sent : List Packet) (b : Bool)
    → (ResetTurn boot news p q sent → X) → (LiveTurn service server boot news p q sent → X)
    → MatchBool b (ResetTurn boot news p q sent) (LiveTurn service server boot news p q sent) → X
by_reset service server boot news p q sent true f g t = f t
by_reset service server boot news p q sent false f g t = g t

-- what both kinds of turns of a connection have, every turn has
pub either_turn : {State : Type 0} {X : Type 0} (service : Machine State) (server : Addr) (boot : ℕ) (news : News) (p q : Point) (sent : List Packet)
    → (ResetTurn boot news p q sent → X) → (LiveTurn service server boot news p q sent → X) → ConnectionTurn service server boot news p q sent → X
either_turn service server boot news p q sent f g t = by_reset service server boot news p q sent (reset_after news p) f g t
