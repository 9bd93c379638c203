-- A turn of a server is determined by where it stands and by what comes: place by place, and in each stage.
use Rattle.tcp_rules.specs.declared.timestamping.Timestamping.{Timestamping}
use Rattle.std.proofs.Common.{◌≡◌, ℕ, Bool, true, false, sym, ap, ap₂, ◌∙◌, MatchBool, Option, Some, None, List, [], ◌∷◌, ◌++◌, map, length, flat_map, ◌==◌, ◌+◌}
use Rattle.ft_io.specs.declared.Addr.{Addr}
use Rattle.seq_arith.specs.Message.{Numbers, Body}
use Rattle.seq_arith.specs.Message.Body.{OpenedMsg, StableMsg, ReadsMsg, EndedMsg, FullMsg}
use Rattle.server_trait.specs.Service.{Machine}
use Rattle.ft_model.specs.Network.{Packet}
use Rattle.ft_model.specs.News.{News}
use Rattle.ft_model.specs.News.News.{Comes, Logged, Ticks, Begins}
use Rattle.ft_model.specs.Point.{Point}
use Rattle.ft_model.specs.ResetAndEnd.{reset_after, dones}
use Rattle.ft_model.specs.Opening.{point_opened}
use Rattle.ft_model.specs.Connection.{ResetTurn, LiveTurn, reported_by}
use Rattle.ft_model.specs.Restart.{Fetched, Wanted, wanted}
use Rattle.ft_model.specs.Node.{Node, Place, Stage, Input, key_of}
use Rattle.ft_model.specs.Node.Place.{Opens, Lives}
use Rattle.ft_model.specs.Node.Stage.{Asking, Fetching, Serving, Fenced}
use Rattle.ft_model.specs.Node.Input.{Packet_comes, Message_comes, Tick_comes}
use Rattle.ft_model.specs.ServingTurn.{Stays, LivesOn, OnReceipt, Meets, PlaceTurn, concerns, AllGo, newcomers, refusals, opens_at, ServingTurn}
use Rattle.ft_model.specs.Lawful.{Revives, Continues, StageTurn, NodeTurn, LawfulTurn, all_restored, restored_count, fence, count_reported, fetched_then}
use Rattle.ft_model.proofs.StageTurns.{Asks, Gets}
use Rattle.ft_model.proofs.LiveOnce.{live_once}

-- two pairs that meet the same two equations
both : {A B : Type 0} (a c x : A) (b d y : B) → (a ≡ x) × (b ≡ y) → (c ≡ x) × (d ≡ y) → (a ≡ c) × (b ≡ d)
both a c x b d y s t = (s.0 ∙ sym t.0, s.1 ∙ sym t.1)

reset_once : (boot : ℕ) (news : News) (p q r : Point) (sent other : List Packet) → ResetTurn boot news p q sent → ResetTurn boot news p r other → (q ≡ r) × (sent ≡ other)
reset_once boot news p q r sent other t u =
    let same : q ≡ r = t.point ∙ sym u.point in
    (same, t.packets ∙ (ap (λ x. map (reported_by boot) (dones news p x)) same ∙ sym u.packets))

by_reset : {State : Type 0} (service : Machine State) (server : Addr) (boot : ℕ) (news : News) (b : Bool) (p q r : Point) (sent other : List Packet)
    → MatchBool b (ResetTurn boot news p q sent) (LiveTurn service server boot news p q sent)
    → MatchBool b (ResetTurn boot news p r other) (LiveTurn service server boot news p r other) → (q ≡ r) × (sent ≡ other)
by_reset service server boot news true p q r sent other t u = reset_once boot news p q r sent other t u
by_reset service server boot news false p q r sent other t u = live_once service server boot news p q r sent other t u

-- one place in one turn has one outcome
lives_once : {State : Type 0} (service : Machine State) (node : Node) (news : News) (p : Point) (now later : List Place) (sent other : List Packet)
    → LivesOn service node news p now sent → LivesOn service node news p later other → (now ≡ later) × (sent ≡ other)
lives_once service node news p now later sent other s t =
    let once : (s.0 ≡ t.0) × (sent ≡ other) =
    by_reset service node.server node.boot news (reset_after news p) p s.0 t.0 sent other s.2 t.2 in
    (s.1 ∙ (ap (λ q. Lives q ∷ []) once.0 ∙ sym t.1), once.1)

opened_once : {State : Type 0} (service : Machine State) (node : Node) (b : Bool) (timestamping : Timestamping) (kept : Numbers) (now later : List Place) (sent other : List Packet)
    → MatchBool b (LivesOn service node Begins (point_opened node.profile timestamping kept) now sent) ((now ≡ []) × (sent ≡ []))
    → MatchBool b (LivesOn service node Begins (point_opened node.profile timestamping kept) later other) ((later ≡ []) × (other ≡ [])) → (now ≡ later) × (sent ≡ other)
opened_once service node true timestamping kept now later sent other s t = lives_once service node Begins (point_opened node.profile timestamping kept) now later sent other s t
opened_once service node false timestamping kept now later sent other s t = both now later [] sent other [] s t

receives_once : {State : Type 0} (service : Machine State) (node : Node) (body : Body) (place : Place) (now later : List Place) (sent other : List Packet)
    → OnReceipt service node body place now sent → OnReceipt service node body place later other → (now ≡ later) × (sent ≡ other)
receives_once service node (StableMsg kept) (Lives p) now later sent other s t = lives_once service node (Logged kept) p now later sent other s t
receives_once service node (ReadsMsg kept) (Lives p) now later sent other s t = lives_once service node (Logged kept) p now later sent other s t
receives_once service node (OpenedMsg kept) (Opens asked timestamping) now later sent other s t =
    opened_once service node (kept.cisn == asked.cisn) timestamping kept now later sent other s t
receives_once service node (EndedMsg key) (Lives p) now later sent other s t = (s.0 ∙ sym t.0, s.1 ∙ sym t.1)
receives_once service node (FullMsg key) (Opens asked timestamping) now later sent other s t = (s.0 ∙ sym t.0, s.1 ∙ sym t.1)
receives_once service node _ place now later sent other s t = (s.0 ∙ sym t.0, s.1 ∙ sym t.1)

meets_once : {State : Type 0} (service : Machine State) (node : Node) (input : Input) (place : Place) (now later : List Place) (sent other : List Packet)
    → Meets service node input place now sent → Meets service node input place later other → (now ≡ later) × (sent ≡ other)
meets_once service node (Packet_comes segment) (Lives p) now later sent other s t = lives_once service node (Comes segment) p now later sent other s t
meets_once service node (Message_comes message) place now later sent other s t = receives_once service node message.body place now later sent other s t
meets_once service node Tick_comes (Lives p) now later sent other s t = lives_once service node Ticks p now later sent other s t
meets_once service node _ place now later sent other s t = (s.0 ∙ sym t.0, s.1 ∙ sym t.1)

by_concern : {State : Type 0} (service : Machine State) (node : Node) (input : Input) (b : Bool) (place : Place) (now later : List Place) (sent other : List Packet)
    → MatchBool b (Meets service node input place now sent) (Stays place now sent)
    → MatchBool b (Meets service node input place later other) (Stays place later other) → (now ≡ later) × (sent ≡ other)
by_concern service node input true place now later sent other s t = meets_once service node input place now later sent other s t
by_concern service node input false place now later sent other s t = (s.0 ∙ sym t.0, s.1 ∙ sym t.1)

pub place_once : {State : Type 0} (service : Machine State) (node : Node) (input : Input) (place : Place) (now later : List Place) (sent other : List Packet)
    → PlaceTurn service node input place now sent → PlaceTurn service node input place later other → (now ≡ later) × (sent ≡ other)
place_once service node input place now later sent other s t =
    by_concern service node input (concerns node input (key_of place)) place now later sent other s t

pub revives_once : {State : Type 0} (service : Machine State) (node : Node) (place : Place) (now later : List Place) (sent other : List Packet)
    → Revives service node place now sent → Revives service node place later other → (now ≡ later) × (sent ≡ other)
revives_once service node (Lives p) now later sent other s t = lives_once service node Begins p now later sent other s t
revives_once service node _ now later sent other s t = (s.0 ∙ sym t.0, s.1 ∙ sym t.1)

-- and so have all places
all_once : (Goes : Place → List Place → List Packet → Type 0)
    → ((place : Place) (now later : List Place) (sent other : List Packet) → Goes place now sent → Goes place later other → (now ≡ later) × (sent ≡ other))
    → (places after also : List Place) (sent other : List Packet) → AllGo Goes places after sent → AllGo Goes places also other → (after ≡ also) × (sent ≡ other)
all_once Goes once [] after also sent other s t = (s.0 ∙ sym t.0, s.1 ∙ sym t.1)
all_once Goes once (place ∷ places) after also sent other s t =
    let here : (s.0 ≡ t.0) × (s.2 ≡ t.2) = once place s.0 t.0 s.2 t.2 s.6 t.6 in
    let there : (s.1 ≡ t.1) × (s.3 ≡ t.3) = all_once Goes once places s.1 t.1 s.3 t.3 s.7 t.7 in
    (s.4 ∙ (ap₂ ◌++◌ here.0 there.0 ∙ sym t.4), s.5 ∙ (ap₂ ◌++◌ here.1 there.1 ∙ sym t.5))

serving_once : {State : Type 0} (service : Machine State) (node : Node) (input : Input) (opened : ℕ) (before after also : List Place) (sent other : List Packet)
    → ServingTurn service node input opened before after sent → ServingTurn service node input opened before also other → (after ≡ also) × (sent ≡ other)
serving_once service node input opened before after also sent other s t =
    let once : (s.went ≡ t.went) × (s.by_places ≡ t.by_places) =
    all_once (PlaceTurn service node input) (place_once service node input) before s.went t.went s.by_places t.by_places s.all_go t.all_go in
    let places : after ≡ also = s.places ∙ (ap (λ xs. xs ++ newcomers node input opened before) once.0 ∙ sym t.places) in
    let packets : s.by_places ++ (refusals node input before ++ flat_map (opens_at node input) after) ≡ t.by_places ++ (refusals node input before ++ flat_map (opens_at node input) also) =
    ap₂ (λ xs ys. xs ++ (refusals node input before ++ flat_map (opens_at node input) ys)) once.1 places in
    (places, s.packets ∙ (packets ∙ sym t.packets))

-- the stages
continues_once : {State : Type 0} (service : Machine State) (node : Node) (count : ℕ) (fetched : List Fetched) (w : Option Wanted) (after also : Stage) (sent other : List Packet)
    → Continues service node count fetched w after sent → Continues service node count fetched w also other → (after ≡ also) × (sent ≡ other)
continues_once service node count fetched (Some w) after also sent other s t = (s.0 ∙ sym t.0, s.1 ∙ sym t.1)
continues_once service node count fetched None after also sent other s t =
    let once : (s.0 ≡ t.0) × (sent ≡ other) =
    all_once (Revives service node) (revives_once service node) (all_restored service node.profile fetched) s.0 t.0 sent other s.2 t.2 in
    (s.1 ∙ (ap (Serving (restored_count fetched)) once.0 ∙ sym t.1), once.1)

asking_once : {State : Type 0} (service : Machine State) (node : Node) (count : Option ℕ) (after also : Stage) (sent other : List Packet)
    → Asks service node count after sent → Asks service node count also other → (after ≡ also) × (sent ≡ other)
asking_once service node (Some count) after also sent other s t = continues_once service node count [] (wanted count []) after also sent other s t
asking_once service node None after also sent other s t = (s.0 ∙ sym t.0, s.1 ∙ sym t.1)

fetching_once : {State : Type 0} (service : Machine State) (node : Node) (count : ℕ) (fetched : List Fetched) (more : Option (List Fetched)) (after also : Stage) (sent other : List Packet)
    → Gets service node count fetched more after sent → Gets service node count fetched more also other → (after ≡ also) × (sent ≡ other)
fetching_once service node count fetched (Some more) after also sent other s t =
    continues_once service node count more (wanted count more) after also sent other s t
fetching_once service node count fetched None after also sent other s t = (s.0 ∙ sym t.0, s.1 ∙ sym t.1)

stage_once : {State : Type 0} (service : Machine State) (node : Node) (before : Stage) (input : Input) (after also : Stage) (sent other : List Packet)
    → StageTurn service node before input after sent → StageTurn service node before input also other → (after ≡ also) × (sent ≡ other)
stage_once service node Asking (Message_comes message) after also sent other s t =
    asking_once service node (count_reported node message) after also sent other s t
stage_once service node Asking _ after also sent other s t = (s.0 ∙ sym t.0, s.1 ∙ sym t.1)
stage_once service node (Fetching count fetched) (Message_comes message) after also sent other s t =
    fetching_once service node count fetched (fetched_then node message count fetched) after also sent other s t
stage_once service node (Fetching count fetched) _ after also sent other s t = (s.0 ∙ sym t.0, s.1 ∙ sym t.1)
stage_once service node (Serving opened places) input after also sent other s t =
    let once : (s.0 ≡ t.0) × (sent ≡ other) = serving_once service node input opened places s.0 t.0 sent other s.2 t.2 in
    (s.1 ∙ (ap (Serving (opened + length (newcomers node input opened places))) once.0 ∙ sym t.1), once.1)
stage_once service node (Fenced newer) input after also sent other s t = absurd s

by_fence : {State : Type 0} (service : Machine State) (node : Node) (input : Input) (newer : Option ℕ) (after also : Stage) (sent other : List Packet)
    → NodeTurn service node input newer after sent → NodeTurn service node input newer also other → (after ≡ also) × (sent ≡ other)
by_fence service node input (Some newer) after also sent other s t = (s.0 ∙ sym t.0, s.1 ∙ sym t.1)
by_fence service node input None after also sent other s t = stage_once service node node.stage input after also sent other s t

same_node : (after other : Node) → after.server ≡ other.server → after.profile ≡ other.profile → after.boot ≡ other.boot → after.isn ≡ other.isn → after.stage ≡ other.stage → after ≡ other
same_node after other server profile boot isn stage =
    let same : record { server = after.server; profile = after.profile; boot = after.boot; isn = after.isn; stage = after.stage } ≡ record { server = other.server; profile = other.profile; boot = other.boot; isn = other.isn; stage = other.stage } =
    cc (server, profile, boot, isn, stage) in
    same

pub turn_once : {State : Type 0} (service : Machine State) (before after other : Node) (input : Input) (sent also : List Packet)
    → LawfulTurn service before input sent after → LawfulTurn service before input also other → (after ≡ other) × (sent ≡ also)
turn_once service before after other input sent also s t =
    let once : (after.stage ≡ other.stage) × (sent ≡ also) =
    by_fence service before input (fence before input) after.stage other.stage sent also s.stage t.stage in
    (same_node after other (s.server ∙ sym t.server) (s.profile ∙ sym t.profile) (s.boot ∙ sym t.boot) (s.isn ∙ sym t.isn) once.0, once.1)
