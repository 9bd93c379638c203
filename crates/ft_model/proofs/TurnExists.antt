-- Each turn can be made: from each stand, each input has a lawful turn, and the counts stay in order.
use Rattle.tcp_rules.specs.declared.timestamping.Timestamping.{Timestamping}
use Rattle.std.proofs.Common.{◌≡◌, ℕ, ◌≤◌, ◌+◌, Bool, true, false, ◌==◌, ◌&&◌, nat_lt, refl, MatchBool, Option, Some, None, List, [], ◌∷◌, ◌++◌, map, length, length-append, le_refl, true≢false, flat_map, arith, if◌then◌else◌}
use Rattle.std.specs.List.{AllByRecursion}
use Rattle.tcp_rules.specs.Profile.{Profile}
use Rattle.seq_arith.specs.Message.{Numbers, Body}
use Rattle.seq_arith.specs.Message.Body.{OpenedMsg, StableMsg, ReadsMsg, EndedMsg, FullMsg}
use Rattle.server_trait.specs.Service.{Machine}
use Rattle.ft_model.specs.Network.{Packet}
use Rattle.ft_model.specs.Network.Packet.{To_client}
use Rattle.ft_model.specs.News.{News}
use Rattle.ft_model.specs.News.News.{Comes, Logged, Ticks, Begins}
use Rattle.ft_model.specs.Point.{Point}
use Rattle.ft_model.specs.Answered.{answered_after, reads_answered_after}
use Rattle.ft_model.specs.ResetAndEnd.{reset_after, dones}
use Rattle.ft_model.specs.Opening.{is_syn, numbers_for, point_opened, timestamping_for}
use Rattle.ft_model.specs.Refusal.{as_closed, full_rst}
use Rattle.ft_model.specs.Connection.{ResetTurn, LiveTurn, reported_by, sent_by}
use Rattle.ft_model.specs.Restart.{Fetched, Wanted, wanted, entry_in, point_of}
use Rattle.ft_model.specs.Node.{Node, Place, Stage, Input, key_of, pending_count, CountsReads, AllCount}
use Rattle.ft_model.specs.Node.Place.{Opens, Lives, Ended}
use Rattle.ft_model.specs.Node.Stage.{Asking, Fetching, Serving, Fenced}
use Rattle.ft_model.specs.Node.Input.{Packet_comes, Message_comes, Noise_comes, Tick_comes}
use Rattle.ft_model.specs.ServingTurn.{Stays, LivesOn, OnReceipt, Meets, PlaceTurn, concerns, AllGo, is_strange, newcomers, refusals, opens_at}
use Rattle.ft_model.specs.Lawful.{hello, asked, held, restored, all_restored, restored_count, Revives, Continues, fetched_then, count_reported, StageTurn, NodeTurn, LawfulTurn, fence, is_fenced}
use Rattle.ft_model.proofs.StageTurns.{Asks, Gets}
use Rattle.ft_model.proofs.LiveTurns.{turned, live_turn, counts_within, reads_from}
use Rattle.ft_model.proofs.Settled.{noted}
use Rattle.ft_model.proofs.Lists.{all_append}

-- what a law has for a place: an outcome that keeps the counts
abbrev Outcome : (Place → List Place → List Packet → Type 0) → Place → Type 0
Outcome Goes place = (now : List Place) × (sent : List Packet) × Goes place now sent × AllByRecursion CountsReads now

stays : (place : Place) → CountsReads place → Outcome Stays place
stays place counts = (place ∷ [], [], (refl, refl), (counts, tt))

counts_after : {State : Type 0} (service : Machine State) (news : News) (p : Point) → p.reads_answered ≤ length p.lengths
    → (turned service news p).reads_answered ≤ length (turned service news p).lengths
unfolding turned
counts_after service news p counts =
    let ns : List ℕ = reads_from service 32 (noted news p p.lengths 0 p.timing 0 0 0) in
    let within : reads_answered_after news p ≤ length p.lengths = counts_within news p counts in
    let longer : length (p.lengths ++ ns) ≡ length p.lengths + length ns = length-append p.lengths ns in
    omega (arith, within, longer)

-- a turn of a connection, reset or not
abbrev ReachesBy : {State : Type 0} → Machine State → Node → News → Point → Bool → Type 0
ReachesBy service node news p b = (q : Point) × (sent : List Packet)
    × MatchBool b (ResetTurn node.boot news p q sent) (LiveTurn service node.server node.boot news p q sent) × (q.reads_answered ≤ length q.lengths)

reaches : {State : Type 0} (service : Machine State) (node : Node) (news : News) (p : Point) → p.reads_answered ≤ length p.lengths
    → (b : Bool) → ReachesBy service node news p b
reaches service node news p counts true =
    let q : Point = record p { answered = answered_after news p; reads_answered = reads_answered_after news p; reset = true } in
    (q, map (reported_by node.boot) (dones news p q), record { point = refl; packets = refl }, counts_within news p counts)
reaches service node news p counts false =
    (turned service news p, sent_by service node.server node.boot news p (turned service news p), live_turn service node.server node.boot news p counts, counts_after service news p counts)

lives : {State : Type 0} (service : Machine State) (node : Node) (news : News) (p : Point) → p.reads_answered ≤ length p.lengths
    → (now : List Place) × (sent : List Packet) × LivesOn service node news p now sent × AllByRecursion CountsReads now
lives service node news p counts =
    let r : ReachesBy service node news p (reset_after news p) = reaches service node news p counts (reset_after news p) in
    (Lives r.0 ∷ [], r.1, (r.0, refl, r.2), (r.3, tt))

opens : {State : Type 0} (service : Machine State) (node : Node) (timestamping : Timestamping) (kept : Numbers) (b : Bool)
    → (now : List Place) × (sent : List Packet) × MatchBool b (LivesOn service node Begins (point_opened node.profile timestamping kept) now sent) ((now ≡ []) × (sent ≡ [])) × AllByRecursion CountsReads now
opens service node timestamping kept true = lives service node Begins (point_opened node.profile timestamping kept) (le_refl 0)
opens service node timestamping kept false = ([], [], (refl, refl), tt)

on_receipt : {State : Type 0} (service : Machine State) (node : Node) (body : Body) (place : Place) → CountsReads place → Outcome (OnReceipt service node body) place
on_receipt service node (StableMsg kept) (Lives p) counts = lives service node (Logged kept) p counts
on_receipt service node (ReadsMsg kept) (Lives p) counts = lives service node (Logged kept) p counts
on_receipt service node (EndedMsg key) (Lives p) counts = (Ended p.key ∷ [], [], (refl, refl), (tt, tt))
on_receipt service node (OpenedMsg kept) (Opens asked timestamping) counts = opens service node timestamping kept (kept.cisn == asked.cisn)
on_receipt service node (FullMsg key) (Opens asked timestamping) counts = ([], To_client (full_rst node.server asked) ∷ [], (refl, refl), tt)
on_receipt service node _ place counts = (place ∷ [], [], (refl, refl), (counts, tt))

meets : {State : Type 0} (service : Machine State) (node : Node) (input : Input) (place : Place) → CountsReads place → Outcome (Meets service node input) place
meets service node (Packet_comes segment) (Lives p) counts = lives service node (Comes segment) p counts
meets service node (Packet_comes segment) (Ended key) counts = (Ended key ∷ [], map To_client (as_closed node.server segment), (refl, refl), (tt, tt))
meets service node (Message_comes message) place counts = on_receipt service node message.body place counts
meets service node Tick_comes (Lives p) counts = lives service node Ticks p counts
meets service node _ place counts = (place ∷ [], [], (refl, refl), (counts, tt))

by_concern : {State : Type 0} (service : Machine State) (node : Node) (input : Input) (place : Place) → CountsReads place → (b : Bool)
    → (now : List Place) × (sent : List Packet) × MatchBool b (Meets service node input place now sent) (Stays place now sent) × AllByRecursion CountsReads now
by_concern service node input place counts true = meets service node input place counts
by_concern service node input place counts false = stays place counts

revives : {State : Type 0} (service : Machine State) (node : Node) (place : Place) → CountsReads place → Outcome (Revives service node) place
revives service node (Lives p) counts = lives service node Begins p counts
revives service node _ counts = (_, [], (refl, refl), (counts, tt))

-- all places, one after another
all_go : (Goes : Place → List Place → List Packet → Type 0) → ((place : Place) → CountsReads place → Outcome Goes place)
    → (places : List Place) → AllByRecursion CountsReads places
    → (after : List Place) × (sent : List Packet) × AllGo Goes places after sent × AllByRecursion CountsReads after
all_go Goes outcome [] counts = ([], [], (refl, refl), tt)
all_go Goes outcome (place ∷ places) counts =
    let here : Outcome Goes place = outcome place counts.0 in
    let there : (after : List Place) × (sent : List Packet) × AllGo Goes places after sent × AllByRecursion CountsReads after = all_go Goes outcome places counts.1 in
    (here.0 ++ there.0, here.1 ++ there.1, (here.0, there.0, here.1, there.1, refl, refl, here.2, there.2), all_append CountsReads here.0 there.0 here.3 there.3)

one_place : (b : Bool) (numbers : Numbers) (timestamping : Timestamping) → AllByRecursion CountsReads (if b then Opens numbers timestamping ∷ [] else [])
one_place true numbers timestamping = (tt, tt)
one_place false numbers timestamping = tt

new_count : (node : Node) (input : Input) (opened : ℕ) (places : List Place) → AllByRecursion CountsReads (newcomers node input opened places)
new_count node (Packet_comes segment) opened places =
    one_place (is_strange node segment places && is_syn segment && nat_lt (pending_count places) 64) (numbers_for node.profile node.isn opened segment) (timestamping_for node.profile segment)
new_count node _ opened places = tt

by_done : {State : Type 0} (service : Machine State) (profile : Profile) (f : Fetched) (b : Bool) → CountsReads (if b then Ended f.head.key else Lives (point_of service profile (entry_in f)))
by_done service profile f true = tt
by_done service profile f false = le_refl (length f.lengths)

restored_count_reads : {State : Type 0} (service : Machine State) (profile : Profile) (fetched : List Fetched) → AllByRecursion CountsReads (all_restored service profile fetched)
restored_count_reads service profile [] = tt
restored_count_reads service profile (f ∷ earlier) =
    all_append CountsReads (all_restored service profile earlier) (restored service profile f ∷ []) (restored_count_reads service profile earlier) (by_done service profile f f.head.done, tt)

-- what a stage's law has
abbrev Reached : (Stage → List Packet → Type 0) → Type 0
Reached Goes = (after : Stage) × (sent : List Packet) × Goes after sent × AllCount after

continues : {State : Type 0} (service : Machine State) (node : Node) (count : ℕ) (fetched : List Fetched) (w : Option Wanted)
    → Reached (Continues service node count fetched w)
continues service node count fetched (Some w) = (Fetching count fetched, asked node (Some w), (refl, refl), tt)
continues service node count fetched None =
    let r = all_go (Revives service node) (revives service node) (all_restored service node.profile fetched) (restored_count_reads service node.profile fetched) in
    (Serving (restored_count fetched) r.0, r.1, (r.0, refl, r.2), r.3)

asks_on : {State : Type 0} (service : Machine State) (node : Node) (count : Option ℕ) → Reached (Asks service node count)
asks_on service node (Some count) = continues service node count [] (wanted count [])
asks_on service node None = (Asking, [], (refl, refl), tt)

fetches_on : {State : Type 0} (service : Machine State) (node : Node) (count : ℕ) (fetched : List Fetched) (more : Option (List Fetched))
    → Reached (Gets service node count fetched more)
fetches_on service node count fetched (Some more) = continues service node count more (wanted count more)
fetches_on service node count fetched None = (Fetching count fetched, [], (refl, refl), tt)

stage_turn : {State : Type 0} (service : Machine State) (node : Node) (before : Stage) (input : Input) → is_fenced before ≡ false → AllCount before
    → Reached (StageTurn service node before input)
stage_turn service node Asking Tick_comes live counts = (Asking, hello node, (refl, refl), tt)
stage_turn service node Asking (Message_comes message) live counts = asks_on service node (count_reported node message)
stage_turn service node Asking _ live counts = (Asking, [], (refl, refl), tt)
stage_turn service node (Fetching count fetched) Tick_comes live counts = (Fetching count fetched, asked node (wanted count fetched), (refl, refl), tt)
stage_turn service node (Fetching count fetched) (Message_comes message) live counts = fetches_on service node count fetched (fetched_then node message count fetched)
stage_turn service node (Fetching count fetched) (Packet_comes segment) live counts = (Fetching count fetched, held node fetched segment, (refl, refl), tt)
stage_turn service node (Fetching count fetched) Noise_comes live counts = (Fetching count fetched, [], (refl, refl), tt)
stage_turn service node (Serving opened places) input live counts =
    let r = all_go (PlaceTurn service node input) (λ place c. by_concern service node input place c (concerns node input (key_of place))) places counts in
    let later : List Place = r.0 ++ newcomers node input opened places in (
      Serving (opened + length (newcomers node input opened places)) later,
      r.1 ++ (refusals node input places ++ flat_map (opens_at node input) later),
      (later, refl, record { went = r.0; by_places = r.1; all_go = r.2; places = refl; packets = refl }),
      all_append CountsReads r.0 (newcomers node input opened places) r.3 (new_count node input opened places),
    )
stage_turn service node (Fenced newer) input live counts = absurd (true≢false live)

by_fence : {State : Type 0} (service : Machine State) (node : Node) (input : Input) → is_fenced node.stage ≡ false → AllCount node.stage → (newer : Option ℕ)
    → Reached (NodeTurn service node input newer)
by_fence service node input live counts (Some newer) = (Fenced newer, [], (refl, refl), tt)
by_fence service node input live counts None = stage_turn service node node.stage input live counts

pub turn_exists : {State : Type 0} (service : Machine State) (before : Node) (input : Input) → is_fenced before.stage ≡ false → AllCount before.stage
    → (after : Node) × (sent : List Packet) × LawfulTurn service before input sent after × AllCount after.stage
turn_exists service before input live counts =
    let r : Reached (NodeTurn service before input (fence before input)) = by_fence service before input live counts (fence before input) in
    (record before { stage = r.0 }, r.1, record { server = refl; profile = refl; boot = refl; isn = refl; live = live; stage = r.2 }, r.3)
