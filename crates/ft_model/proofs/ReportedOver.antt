-- .. in every joint trace.
use Rattle.std.proofs.Common.{◌≡◌, ℕ, nat_lt, true, ◌&&◌, not, refl, sym, ap, ◌∙◌, subst, subst₂, true≢false, inr, option_map, option_to_list, Option, Some, None, List, [], ◌∷◌, ◌++◌, map, flat_map}
use Rattle.std.specs.List.{AllByRecursion}
use Rattle.ft_io.specs.declared.Key.{Key}
use Rattle.seq_arith.specs.Packet.{has_rst, has_ack}
use Rattle.seq_arith.specs.Message.{Message}
use Rattle.seq_arith.specs.Message.Body.{OpenMsg}
use Rattle.server_trait.specs.Service.{Machine}
use Rattle.ft_model.specs.Network.{Packet}
use Rattle.ft_model.specs.Network.Packet.{To_client, From_logger}
use Rattle.ft_model.specs.Connection.{reported_by}
use Rattle.ft_model.specs.Opening.{is_syn, numbers_for, timestamping_for}
use Rattle.ft_model.specs.Refusal.{as_listen, rst_at_ack}
use Rattle.ft_model.specs.Node.{Node, Place, Stage, Input, key_of, points_in, points_at, booted, pending_count}
use Rattle.ft_model.specs.Node.Place.{Opens, Lives, Ended}
use Rattle.ft_model.specs.Node.Stage.{Asking, Fetching, Serving, Fenced}
use Rattle.ft_model.specs.Node.Input.{Packet_comes, Message_comes, Noise_comes, Tick_comes}
use Rattle.ft_model.specs.ServingTurn.{PlaceTurn, newcomers, refusals, is_strange, is_asked, opens_at}
use Rattle.ft_model.specs.Lawful.{Revives, all_restored}
use Rattle.ft_model.specs.Masked.{or_before, last_reported, IsReportedLast, AllAreReported, is_restarting}
use Rattle.ft_model.specs.World.{World, Moment, Joint, world_after}
use Rattle.ft_model.proofs.Lists.{all_weaker, all_append, none_is_some, some_is}
use Rattle.ft_model.proofs.Happened.{Happened, holds_after, IsBrought}
use Rattle.ft_model.proofs.Happened.Happened.{log_received, client_received, client_moved, server_turned, server_booted, server_down}
use Rattle.ft_model.proofs.PlaceTurns.{place_went}
use Rattle.ft_model.proofs.StageTurns.{StageWent, stage_went}
use Rattle.ft_model.proofs.StageTurns.StageWent.{was_fenced, waited, held_off, asked_on, resumed, served}
use Rattle.ft_model.proofs.TurnReports.{reported}
use Rattle.ft_model.proofs.Distinct.{KeepsKey, keeps_key, IsDistinct, StageDistinct}
use Rattle.ft_model.proofs.Resumed.{revived}
use Rattle.ft_model.proofs.Exact.{IsOrderly}
use Rattle.ft_model.proofs.Fenced.{start_fenced, fenced_proceeds}
use Rattle.ft_model.proofs.Asked.{IsAsked, start_asked, asked_proceeds, progress_agrees, entry_keys}
use Rattle.ft_model.proofs.Distinct.{distinct_after}
use Rattle.ft_model.proofs.Keys.{distinct_front}
use Rattle.ft_model.specs.Growth.{IsPrefix}
use Rattle.ft_model.specs.Log.{answer_to}
use Rattle.ft_model.specs.Keys.{AreDistinct}
use Rattle.ft_model.proofs.Resumed.{restored_keys}
use Rattle.ft_model.proofs.ReportedLast.{last_append, IsSilentTo, ReportsOnly, ReportsNow, WasReported, silent_append, rst_silent, nothing_said, beginning_reports, place_reports, reports_here, all_report}
use Rattle.ft_io.proofs.Choices.{holds_if}

listen_silent : (key : Key) (node : Node) (input : Input) (places : List Place) → IsSilentTo key (refusals node input places)
listen_silent key node (Packet_comes segment) places =
    holds_if (IsSilentTo key) (is_strange node segment places) (map To_client (as_listen node.server segment)) []
    (λ t. holds_if (λ x. IsSilentTo key (map To_client x)) (has_ack segment && not (has_rst segment)) (rst_at_ack node.server segment ∷ []) []
    (λ t. ap (λ o. or_before None o) (rst_silent key (rst_at_ack node.server segment) refl)) (λ t. refl)) (λ t. refl)
listen_silent key node (Message_comes message) places = refl
listen_silent key node Noise_comes places = refl
listen_silent key node Tick_comes places = refl

opens_silent : (key : Key) (node : Node) (input : Input) (places : List Place) → IsSilentTo key (flat_map (opens_at node input) places)
opens_silent key node input [] = refl
opens_silent key node input (Opens n timestamping ∷ places) =
    silent_append key (opens_at node input (Opens n timestamping)) (flat_map (opens_at node input) places)
    (holds_if (IsSilentTo key) (is_asked node input n) (reported_by node.boot (OpenMsg n) ∷ []) [] (λ t. refl) (λ t. refl)) (opens_silent key node input places)
opens_silent key node input (Lives p ∷ places) = opens_silent key node input places
opens_silent key node input (Ended k ∷ places) = opens_silent key node input places

new_reported : (packets sent : List Packet) (node : Node) (input : Input) (opened : ℕ) (places : List Place) → AllByRecursion (ReportsNow packets sent) (newcomers node input opened places)
new_reported packets sent node (Packet_comes segment) opened places =
    holds_if (AllByRecursion (ReportsNow packets sent)) (is_strange node segment places && is_syn segment && nat_lt (pending_count places) 64) (Opens (numbers_for node.profile node.isn opened segment) (timestamping_for node.profile segment) ∷ []) [] (λ t. (tt, tt)) (λ t. tt)
new_reported packets sent node (Message_comes message) opened places = tt
new_reported packets sent node Noise_comes opened places = tt
new_reported packets sent node Tick_comes opened places = tt

abbrev pub StageReported : List Packet → Stage → Type 0
StageReported packets (Serving opened places) = AllByRecursion (WasReported packets) places
StageReported packets _ = Unit {0}

abbrev pub IsReporting : World → Type 0
IsReporting w = (node : Node) → w.node ≡ Some node → StageReported w.packets node.stage

restart_reported : (packets : List Packet) (stage : Stage) → is_restarting stage ≡ true → StageReported packets stage
restart_reported packets Asking r = tt
restart_reported packets (Fetching count fetched) r = tt
restart_reported packets (Serving opened places) r = absurd (true≢false (sym r))
restart_reported packets (Fenced newer) r = tt

reported_then : (packets sent : List Packet) (place : Place) → ReportsNow packets sent place → WasReported (packets ++ sent) place
reported_then packets sent (Lives q) t = λ r. last_append q.key packets sent ∙ t r
reported_then packets sent (Opens n timestamping) t = tt
reported_then packets sent (Ended k) t = tt

revive_reports : {State : Type 0} (service : Machine State) (node : Node) (packets : List Packet) (place : Place) (now : List Place) (sent : List Packet)
    → Unit {0} → Revives service node place now sent → AllByRecursion (ReportsNow packets sent) now × ReportsOnly (key_of place) sent × KeepsKey place now
revive_reports service node packets (Lives p) now sent h t =
    let c = beginning_reports service node.server node.boot p t.0 sent packets t.2 in
    (subst (AllByRecursion (ReportsNow packets sent)) (sym t.1) (c.0, tt), c.1, inr (revived service node (Lives p) now sent t))
revive_reports service node packets (Opens n timestamping) now sent h t =
    (subst (AllByRecursion (ReportsNow packets sent)) (sym t.0) (tt, tt), λ other e. nothing_said other sent t.1, inr (Opens n timestamping, t.0, refl))
revive_reports service node packets (Ended k) now sent h t =
    (subst (AllByRecursion (ReportsNow packets sent)) (sym t.0) (tt, tt), λ other e. nothing_said other sent t.1, inr (Ended k, t.0, refl))

pub all_unit : (places : List Place) → AllByRecursion (λ place. Unit {0}) places
all_unit [] = tt
all_unit (place ∷ places) = (tt, all_unit places)

turn_reports : {State : Type 0} (service : Machine State) (w : World) (node : Node) (input : Input) (sent : List Packet) (after : Stage)
    → IsAsked w → IsDistinct w → IsReporting w → w.node ≡ Some node → IsBrought w input → StageWent service node input sent after → StageReported (w.packets ++ sent) after
turn_reports service w node input sent after a d reported e brought (was_fenced newer g s) = subst (StageReported (w.packets ++ sent)) (sym g) tt
turn_reports service w node input sent after a d reported e brought (waited r g s) = restart_reported (w.packets ++ sent) after (ap is_restarting g ∙ r)
turn_reports service w node input sent after a d reported e brought (held_off count fetched segment b g s) = subst (StageReported (w.packets ++ sent)) (sym g) tt
turn_reports service w node input sent after a d reported e brought (asked_on count fetched p g s) = subst (StageReported (w.packets ++ sent)) (sym g) tt
turn_reports service w node input sent after a d reported e brought (resumed count fetched places p none g t) =
    let agrees = progress_agrees w node input count fetched a e brought p in
    let keys : IsPrefix (map key_of (all_restored service node.profile fetched)) (entry_keys w.log) = restored_keys service node.profile w.log.entries fetched agrees.1 in
    let apart : AreDistinct (map key_of (all_restored service node.profile fetched)) =
    distinct_front (map key_of (all_restored service node.profile fetched)) keys.0 (subst AreDistinct (sym keys.1) a.distinct) in
    let all = all_report (Revives service node) (λ place. Unit {0}) w.packets (revive_reports service node w.packets) (all_restored service node.profile fetched) places sent apart (all_unit (all_restored service node.profile fetched)) t in
    subst (StageReported (w.packets ++ sent)) (sym g) (all_weaker (ReportsNow w.packets sent) (WasReported (w.packets ++ sent)) places (reported_then w.packets sent) all.0)
turn_reports service w node input sent after a d reported e brought (served opened places later b g t) =
    let was : AreDistinct (map key_of places) = subst StageDistinct b (d node e) in
    let before : AllByRecursion (WasReported w.packets) places = subst (StageReported w.packets) b (reported node e) in
    let all = all_report (PlaceTurn service node input) (WasReported w.packets) w.packets
    (λ place now some h x. let went = place_went service node input place now some x in
    let two = place_reports service node input w.packets place now some h went in
    (two.0, two.1, keeps_key service node input place now some went)) places t.went t.by_places was before t.all_go in
    let tail : List Packet = refusals node input places ++ flat_map (opens_at node input) later in
    let silent : (key : Key) → IsSilentTo key tail =
    λ key. silent_append key (refusals node input places) (flat_map (opens_at node input) later) (listen_silent key node input places) (opens_silent key node input later) in
    let went : AllByRecursion (ReportsNow w.packets (t.by_places ++ tail)) t.went =
    all_weaker (ReportsNow w.packets t.by_places) (ReportsNow w.packets (t.by_places ++ tail)) t.went (λ x n. reports_here w.packets t.by_places tail x (silent (key_of x)) n) all.0 in
    let now : AllByRecursion (ReportsNow w.packets sent) later =
    subst₂ (λ s l. AllByRecursion (ReportsNow w.packets s) l) (sym t.packets) (sym t.places)
    (all_append (ReportsNow w.packets (t.by_places ++ tail)) t.went (newcomers node input opened places) went (new_reported w.packets (t.by_places ++ tail) node input opened places)) in
    subst (StageReported (w.packets ++ sent)) (sym g) (all_weaker (ReportsNow w.packets sent) (WasReported (w.packets ++ sent)) later (reported_then w.packets sent) now)

place_still : (packets sent : List Packet) → ((key : Key) → IsSilentTo key sent) → (place : Place) → WasReported packets place → WasReported (packets ++ sent) place
place_still packets sent s (Lives p) w = λ r. last_append p.key packets sent ∙ (ap (λ o. or_before o (last_reported p.key packets)) (s p.key) ∙ w r)
place_still packets sent s (Opens n timestamping) w = tt
place_still packets sent s (Ended k) w = tt

reported_still : (packets sent : List Packet) (stage : Stage) → ((key : Key) → IsSilentTo key sent) → StageReported packets stage → StageReported (packets ++ sent) stage
reported_still packets sent (Serving opened places) s t = all_weaker (WasReported packets) (WasReported (packets ++ sent)) places (place_still packets sent s) t
reported_still packets sent Asking s t = tt
reported_still packets sent (Fetching count fetched) s t = tt
reported_still packets sent (Fenced newer) s t = tt

pub answers_silent : (key : Key) (o : Option Message) → IsSilentTo key (option_to_list (option_map From_logger o))
answers_silent key (Some m) = refl
answers_silent key None = refl

pub reporting_proceeds : {State : Type 0} (service : Machine State) (before : World) (sent : List Packet) (after : World)
    → IsAsked before → IsDistinct before → IsReporting before → Happened service before sent after → IsReporting after
reporting_proceeds service before sent after a d t (log_received message under s e) =
    subst IsReporting (sym e) (λ n g. reported_still before.packets sent n.stage (λ key. ap (last_reported key) s ∙ answers_silent key (answer_to before.log message)) (t n g))
reporting_proceeds service before sent after a d t (client_received segment under s e) =
    subst IsReporting (sym e) (λ n g. reported_still before.packets sent n.stage (λ key. ap (last_reported key) s) (t n g))
reporting_proceeds service before sent after a d t (client_moved number m) =
    subst IsReporting (sym m.after_is) (λ n g. reported_still before.packets sent n.stage (λ key. ap (last_reported key) m.sent_is) (t n g))
reporting_proceeds service before sent after a d t (server_turned input node later brought is turn e) =
    subst IsReporting (sym e)
    (λ n g. subst (λ x. StageReported (before.packets ++ sent) x.stage) (some_is later n g)
    (turn_reports service before node input sent later.stage a d t is brought (stage_went service node later input sent turn)))
reporting_proceeds service before sent after a d t (server_booted boot isn down larger s e) =
    subst IsReporting (sym e) (λ n g. subst (λ x. StageReported (before.packets ++ sent) x.stage) (some_is (booted before.server before.profile boot isn) n g) tt)
reporting_proceeds service before sent after a d t (server_down s e) = subst IsReporting (sym e) (λ n g. none_is_some n g)

-- what holds of the places holds of the points
points_reported : (packets : List Packet) (places : List Place) → AllByRecursion (WasReported packets) places → AllByRecursion (IsReportedLast packets) (points_in places)
points_reported packets [] a = tt
points_reported packets (Lives p ∷ places) a = (a.0, points_reported packets places a.1)
points_reported packets (Opens n timestamping ∷ places) a = points_reported packets places a.1
points_reported packets (Ended k ∷ places) a = points_reported packets places a.1

stage_reported : (packets : List Packet) (stage : Stage) → StageReported packets stage → AllByRecursion (IsReportedLast packets) (points_at stage)
stage_reported packets (Serving opened places) t = points_reported packets places t
stage_reported packets Asking t = tt
stage_reported packets (Fetching count fetched) t = tt
stage_reported packets (Fenced newer) t = tt

pub node_reported : (packets : List Packet) (node : Option Node) → ((n : Node) → node ≡ Some n → StageReported packets n.stage) → AllAreReported packets node
node_reported packets (Some n) t = stage_reported packets n.stage (t n refl)
node_reported packets None t = tt

abbrev pub IsAllReported : World → Type 0
IsAllReported w = IsOrderly w × IsDistinct w × IsReporting w

pub all_reported : {State : Type 0} (service : Machine State) (start : World) (trace : List Moment) → Joint service start trace → IsAllReported (world_after start trace)
all_reported service start trace j =
    holds_after service IsAllReported start
    (λ x. ((start_fenced start x, start_asked start x), (λ n e. none_is_some n (sym x.node ∙ e)), (λ n e. none_is_some n (sym x.node ∙ e))))
    (λ before sent after o h. (
      (fenced_proceeds service before sent after o.0.0 h, asked_proceeds service before sent after o.0.0 o.0.1 h),
      distinct_after service before sent after o.0.1 o.1 h,
      reporting_proceeds service before sent after o.0.1 o.1 o.2 h,
    )) trace j

pub reported_after : {State : Type 0} (service : Machine State) (start : World) (trace : List Moment) → Joint service start trace
    → AllAreReported (world_after start trace).packets (world_after start trace).node
reported_after service start trace j = node_reported (world_after start trace).packets (world_after start trace).node (all_reported service start trace j).2
