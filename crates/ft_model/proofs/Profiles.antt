-- Every connection has its server's profile. Where nothing is measured its timing never changes, and no loss is noted.
use Rattle.tcp_rules.specs.Timestamping.{fitting, asked_by, resumed_with}
use Rattle.tcp_rules.specs.declared.timestamping.Timestamping.TheVariants.{Off}
use Rattle.tcp_rules.specs.declared.timestamping.Timestamping.{Timestamping}
use Rattle.std.proofs.Common.{◌≡◌, ℕ, ◌+◌, ◌-◌, ◌*◌, Bool, true, false, ◌==◌, ◌&&◌, not, nat_lt, min, refl, sym, ap, ◌∙◌, subst, arith, Some, List, [], ◌∷◌}
use Rattle.std.specs.Prelude.{nat_le}
use Rattle.std.specs.List.{AllByRecursion}
use Rattle.ft_io.specs.declared.Addr.{Addr}
use Rattle.ft_io.proofs.Choices.{holds_either_way, if_false}
use Rattle.tcp_rules.specs.Congestion.{Congestion, is_partial, with_new_data, with_duplicate, with_expiry}
use Rattle.seq_arith.specs.Message.{Numbers}
use Rattle.seq_arith.specs.Packet.{Segment}
use Rattle.tcp_rules.specs.Profile.{Profile, plain}
use Rattle.tcp_rules.proofs.Unmeasured.{duplicate_recovers, duplicate_notes_none}
use Rattle.tcp_rules.specs.Timing.{Timing, initial_timing, with_sample, with_acknowledged, with_tick, without_trip, with_backoff, with_sent}
use Rattle.server_trait.specs.Service.{Machine}
use Rattle.ft_model.specs.Log.{Entry}
use Rattle.ft_model.specs.Network.{Packet}
use Rattle.ft_model.specs.News.{News}
use Rattle.ft_model.specs.News.News.{Comes, Logged, Ticks, Begins}
use Rattle.ft_model.specs.Point.{Point}
use Rattle.ft_model.specs.Profiled.{HasProfile}
use Rattle.ft_model.specs.Opening.{is_syn, numbers_for, point_opened, timestamping_for}
use Rattle.ft_model.specs.Restart.{Fetched, entry_in, point_of}
use Rattle.ft_model.specs.Sending.{acknowledged_by, acknowledges_new, is_duplicate, is_lost, is_first_expiry, flight, congestion_after, sent_at_once, timing_after, resends}
use Rattle.ft_model.specs.Timer.{timing_noted}
use Rattle.ft_model.specs.Connection.{LiveTurn, ConnectionTurn}
use Rattle.ft_model.specs.Node.{Node, Place, Stage, Input, points_in, points_at, pending_count, booted}
use Rattle.ft_model.specs.Node.Place.{Opens, Lives, Ended}
use Rattle.ft_model.specs.Node.Stage.{Asking, Fetching, Serving, Fenced}
use Rattle.ft_model.specs.Node.Input.{Packet_comes, Message_comes, Noise_comes, Tick_comes}
use Rattle.ft_model.specs.ServingTurn.{newcomers, refusals, is_strange}
use Rattle.ft_model.specs.Lawful.{restored, all_restored, Revives, LawfulTurn}
use Rattle.ft_model.specs.World.{World, Moment, Joint, world_after}
use Rattle.ft_model.proofs.Stamped.{stays_off}
use Rattle.ft_model.proofs.Lists.{none_is_some, some_is, all_of, all_weaker, all_append}
use Rattle.ft_model.proofs.StageTurns.{StageWent, stage_went, either_turn}
use Rattle.ft_model.proofs.StageTurns.StageWent.{was_fenced, waited, held_off, asked_on, resumed, served}
use Rattle.ft_model.proofs.PlaceTurns.{PlaceWent, all_proceed, serving_proceeds}
use Rattle.ft_model.proofs.PlaceTurns.PlaceWent.{stayed, went_on, began, dropped, ended, refused}
use Rattle.ft_model.proofs.Happened.{Happened, holds_after}
use Rattle.ft_model.proofs.Happened.Happened.{log_received, client_received, client_moved, server_turned, server_booted, server_down}

-- one turn: whether the timing measures, ..
acknowledged_measures : (units : ℕ) (t : Timing) → (with_acknowledged units t).measures ≡ t.measures
unfolding with_acknowledged with_sample
acknowledged_measures units t =
    let Keeps : Timing → Type 0 = λ x. x.measures ≡ t.measures in
    holds_either_way Keeps t.timed _ t (holds_either_way Keeps (nat_le t.ahead units) (with_sample t) (record t { ahead = t.ahead - units }) refl refl) refl

noted_measures : (news : News) (again : Bool) (p : Point) (una : ℕ) → (timing_noted news again p una).measures ≡ p.timing.measures
unfolding timing_noted without_trip with_backoff with_tick
noted_measures (Comes segment) again p una =
    let t : Timing = with_acknowledged (una - p.una) p.timing in
    holds_either_way (λ x. x.measures ≡ p.timing.measures) again (without_trip t) t (acknowledged_measures (una - p.una) p.timing) (acknowledged_measures (una - p.una) p.timing)
noted_measures Ticks again p una =
    let Keeps : Timing → Type 0 = λ x. x.measures ≡ p.timing.measures in
    let t : Timing = p.timing in
    holds_either_way Keeps (p.rest == 1) (with_backoff (min 64 (2 * p.interval)) t) (with_tick t)
    (holds_either_way Keeps t.measures (record t { base = min 64 (2 * p.interval); timed = false; backed_off = true }) t refl refl)
    (holds_either_way Keeps t.timed (record t { ticks = min 255 (t.ticks + 1) }) t refl refl)
noted_measures (Logged kept) again p una = refl
noted_measures Begins again p una = refl

sent_measures : (ahead : ℕ) (t : Timing) → (with_sent ahead t).measures ≡ t.measures
unfolding with_sent
sent_measures ahead t = holds_either_way (λ x. x.measures ≡ t.measures) (t.measures && not t.timed) (record t { timed = true; ahead = ahead; ticks = 0 }) t refl refl

turn_measures : {State : Type 0} (service : Machine State) (news : News) (p q : Point) → (timing_after service news p q).measures ≡ p.timing.measures
unfolding timing_after
turn_measures service news p q =
    let t : Timing = timing_noted news (resends news p) p q.una in
    let noted : t.measures ≡ p.timing.measures = noted_measures news (resends news p) p q.una in
    let ahead : ℕ = p.sent + 1 - q.una in
    holds_either_way (λ x. x.measures ≡ p.timing.measures) (nat_lt p.sent (sent_at_once service p q)) (with_sent ahead t) t (sent_measures ahead t ∙ noted) noted

-- .. and what it is if it doesn't
noted_stays : (news : News) (again : Bool) (p : Point) (una : ℕ) → p.timing ≡ initial_timing false → timing_noted news again p una ≡ initial_timing false
unfolding timing_noted with_acknowledged without_trip with_backoff with_tick
noted_stays (Comes segment) again p una h =
    holds_either_way (λ x. x ≡ initial_timing false) again (without_trip (with_acknowledged (una - p.una) p.timing)) (with_acknowledged (una - p.una) p.timing)
    (ap (λ t. without_trip (with_acknowledged (una - p.una) t)) h) (ap (with_acknowledged (una - p.una)) h)
noted_stays Ticks again p una h =
    holds_either_way (λ x. x ≡ initial_timing false) (p.rest == 1) (with_backoff (min 64 (2 * p.interval)) p.timing) (with_tick p.timing)
    (ap (with_backoff (min 64 (2 * p.interval))) h) (ap with_tick h)
noted_stays (Logged kept) again p una h = h
noted_stays Begins again p una h = h

pub turn_stays : {State : Type 0} (service : Machine State) (news : News) (p q : Point) → p.timing ≡ initial_timing false → timing_after service news p q ≡ initial_timing false
unfolding timing_after with_sent
turn_stays service news p q h =
    let noted : timing_noted news (resends news p) p q.una ≡ initial_timing false = noted_stays news (resends news p) p q.una h in
    holds_either_way (λ x. x ≡ initial_timing false) (nat_lt p.sent (sent_at_once service p q)) (with_sent (p.sent + 1 - q.una) (timing_noted news (resends news p) p q.una))
    (timing_noted news (resends news p) p q.una) (ap (with_sent (p.sent + 1 - q.una)) noted) noted

-- whether the congestion window recovers, ..
pub turn_recovers : (news : News) (p : Point) → (congestion_after news p).recovers ≡ p.congestion.recovers
unfolding congestion_after with_new_data with_expiry
turn_recovers (Comes segment) p =
    let c : Congestion = p.congestion in
    let Keeps : Congestion → Type 0 = λ x. x.recovers ≡ c.recovers in
    holds_either_way Keeps (acknowledges_new p segment) (with_new_data p.mss (acknowledged_by p segment - p.una) c) _ refl
    (holds_either_way Keeps (is_duplicate p segment) (with_duplicate p.mss (flight p) c) c (duplicate_recovers p.mss (flight p) c) refl)
turn_recovers (Logged kept) p = refl
turn_recovers Ticks p =
    holds_either_way (λ x. x.recovers ≡ p.congestion.recovers) (is_lost p) (with_expiry p.mss (flight p) (is_first_expiry p) p.congestion) p.congestion refl refl
turn_recovers Begins p = refl

-- .. and that no loss is noted if it doesn't
pub turn_notes_none : (news : News) (p : Point) → p.congestion.recovers ≡ false → p.congestion.lost ≡ 0 → (congestion_after news p).lost ≡ 0
unfolding congestion_after with_new_data with_expiry
turn_notes_none (Comes segment) p r h =
    let c : Congestion = p.congestion in
    let units : ℕ = acknowledged_by p segment - p.una in
    let None_lost : Congestion → Type 0 = λ x. x.lost ≡ 0 in
    holds_either_way None_lost (acknowledges_new p segment) (with_new_data p.mss units c) _
    (holds_either_way (λ n. n ≡ 0) (is_partial units c) (c.lost - units) 0 (omega (arith, h)) refl)
    (holds_either_way None_lost (is_duplicate p segment) (with_duplicate p.mss (flight p) c) c (duplicate_notes_none p.mss (flight p) c r h) h)
turn_notes_none (Logged kept) p r h = h
turn_notes_none Ticks p r h =
    holds_either_way (λ x. x.lost ≡ 0) (is_lost p) (with_expiry p.mss (flight p) (is_first_expiry p) p.congestion) p.congestion (if_false p.congestion.recovers (flight p) 0 r) h
turn_notes_none Begins p r h = h

pub live_keeps : {State : Type 0} (service : Machine State) (profile : Profile) (server : Addr) (boot : ℕ) (news : News) (p q : Point) (sent : List Packet)
    → HasProfile profile p → LiveTurn service server boot news p q sent → HasProfile profile q
live_keeps service profile server boot news p q sent h t = record {
  measures = ap (λ x. x.measures) t.timing ∙ (turn_measures service news p q ∙ h.measures);
  recovers = ap (λ x. x.recovers) t.congestion ∙ (turn_recovers news p ∙ h.recovers);
  delays = t.same.delays ∙ h.delays;
  batches = t.same.batches ∙ h.batches;
  timing = λ off. t.timing ∙ turn_stays service news p q (h.timing off);
  lost = λ off. ap (λ x. x.lost) t.congestion ∙ turn_notes_none news p (h.recovers ∙ off) (h.lost off);
  timestamping = λ off. t.timestamping ∙ stays_off news p (h.timestamping off);
}

pub turn_keeps : {State : Type 0} (service : Machine State) (profile : Profile) (server : Addr) (boot : ℕ) (news : News) (p q : Point) (sent : List Packet)
    → ConnectionTurn service server boot news p q sent → HasProfile profile p → HasProfile profile q
turn_keeps service profile server boot news p q sent t h =
    either_turn service server boot news p q sent
    (λ r. subst (HasProfile profile) (sym r.point) (record { measures = h.measures; recovers = h.recovers; delays = h.delays; batches = h.batches; timing = h.timing; lost = h.lost; timestamping = h.timestamping }))
    (λ l. live_keeps service profile server boot news p q sent h l) t

unmeasured : (measures : Bool) → measures ≡ false → initial_timing measures ≡ initial_timing false
unmeasured measures off = ap initial_timing off

opened_with : (profile : Profile) (timestamping : Timestamping) (numbers : Numbers) → (profile.timestamps ≡ false → timestamping ≡ Off)
    → HasProfile profile (point_opened profile timestamping numbers)
opened_with profile timestamping numbers none = record {
  measures = refl;
  recovers = refl;
  delays = refl;
  batches = refl;
  timing = unmeasured profile.measures;
  lost = λ off. refl;
  timestamping = λ off. ap (λ t. fitting t numbers.mss) (none off);
}

asked_off : (profile : Profile) (syn : Segment) → profile.timestamps ≡ false → timestamping_for profile syn ≡ Off
asked_off profile syn off = ap (λ uses. asked_by uses syn.head.timestamps) off

pub opened_has : (profile : Profile) (syn : Segment) (numbers : Numbers) → HasProfile profile (point_opened profile (timestamping_for profile syn) numbers)
opened_has profile syn numbers = opened_with profile (timestamping_for profile syn) numbers (asked_off profile syn)

pub entry_has : {State : Type 0} (service : Machine State) (profile : Profile) (e : Entry) → HasProfile profile (point_of service profile e)
entry_has service profile e = record {
  measures = refl;
  recovers = refl;
  delays = refl;
  batches = refl;
  timing = unmeasured profile.measures;
  lost = λ off. refl;
  timestamping = λ off. ap (λ uses. resumed_with uses e.mss) off;
}

-- all places
abbrev PlaceHas : Profile → Place → Type 0
PlaceHas profile (Lives p) = HasProfile profile p
PlaceHas profile (Opens numbers timestamping) = profile.timestamps ≡ false → timestamping ≡ Off
PlaceHas profile (Ended key) = Unit {0}

abbrev Anything : Packet → Type 0
Anything packet = Unit {0}

any_packets : (sent : List Packet) → AllByRecursion Anything sent
any_packets sent = all_of Anything sent (λ packet. tt)

one_place : (profile : Profile) (place : Place) (now : List Place) → PlaceHas profile place → now ≡ place ∷ [] → AllByRecursion (PlaceHas profile) now
one_place profile place now h e = subst (AllByRecursion (PlaceHas profile)) (sym e) (h, tt)

place_keeps : {State : Type 0} (service : Machine State) (node : Node) (input : Input) (place : Place) (now : List Place) (sent : List Packet) → PlaceHas node.profile place
    → PlaceWent service node input place now sent → AllByRecursion (PlaceHas node.profile) now × AllByRecursion Anything sent
place_keeps service node input place now sent h (stayed e s) = (one_place node.profile place now h e, any_packets sent)
place_keeps service node input place now sent h (went_on news p after is n e t) =
    (one_place node.profile (Lives after) now (turn_keeps service node.profile node.server node.boot news p after sent t (subst (PlaceHas node.profile) is h)) e, any_packets sent)
place_keeps service node input place now sent h (began asked kept timestamping after is o e t) =
    (one_place node.profile (Lives after) now (turn_keeps service node.profile node.server node.boot Begins (point_opened node.profile timestamping kept) after sent t (opened_with node.profile timestamping kept (subst (PlaceHas node.profile) is h))) e, any_packets sent)
place_keeps service node input place now sent h (dropped asked timestamping is d e s) = (subst (AllByRecursion (PlaceHas node.profile)) (sym e) tt, any_packets sent)
place_keeps service node input place now sent h (ended p is d e s) = (one_place node.profile (Ended p.key) now tt e, any_packets sent)
place_keeps service node input place now sent h (refused key segment is i k e s) = (one_place node.profile (Ended key) now tt e, any_packets sent)

revived_keeps : {State : Type 0} (service : Machine State) (node : Node) (place : Place) (now : List Place) (sent : List Packet) → PlaceHas node.profile place
    → Revives service node place now sent → AllByRecursion (PlaceHas node.profile) now × AllByRecursion Anything sent
revived_keeps service node (Lives p) now sent h t =
    (one_place node.profile (Lives t.0) now (turn_keeps service node.profile node.server node.boot Begins p t.0 sent t.2 h) t.1, any_packets sent)
revived_keeps service node (Opens n timestamping) now sent h t = (one_place node.profile (Opens n timestamping) now h t.0, any_packets sent)
revived_keeps service node (Ended k) now sent h t = (one_place node.profile (Ended k) now tt t.0, any_packets sent)

restored_have : {State : Type 0} (service : Machine State) (profile : Profile) (fetched : List Fetched) → AllByRecursion (PlaceHas profile) (all_restored service profile fetched)
restored_have service profile [] = tt
restored_have service profile (f ∷ earlier) =
    all_append (PlaceHas profile) (all_restored service profile earlier) (restored service profile f ∷ []) (restored_have service profile earlier)
    (holds_either_way (PlaceHas profile) f.head.done (Ended f.head.key) (Lives (point_of service profile (entry_in f))) tt (entry_has service profile (entry_in f)), tt)

new_have : (node : Node) (input : Input) (opened : ℕ) (places : List Place) → AllByRecursion (PlaceHas node.profile) (newcomers node input opened places)
new_have node (Packet_comes segment) opened places =
    holds_either_way (AllByRecursion (PlaceHas node.profile)) (is_strange node segment places && is_syn segment && nat_lt (pending_count places) 64)
    (Opens (numbers_for node.profile node.isn opened segment) (timestamping_for node.profile segment) ∷ []) [] (asked_off node.profile segment, tt) tt
new_have node (Message_comes message) opened places = tt
new_have node Noise_comes opened places = tt
new_have node Tick_comes opened places = tt

abbrev StageHas : Profile → Stage → Type 0
StageHas profile (Serving opened places) = AllByRecursion (PlaceHas profile) places
StageHas profile Asking = Unit {0}
StageHas profile (Fetching count fetched) = Unit {0}
StageHas profile (Fenced newer) = Unit {0}

stage_keeps : {State : Type 0} (service : Machine State) (node : Node) (input : Input) (sent : List Packet) (after : Stage) → StageHas node.profile node.stage
    → StageWent service node input sent after → StageHas node.profile after
stage_keeps service node input sent after h (was_fenced newer e s) = subst (StageHas node.profile) (sym e) tt
stage_keeps service node input sent after h (waited r e s) = subst (StageHas node.profile) (sym e) h
stage_keeps service node input sent after h (held_off count fetched segment b e s) = subst (StageHas node.profile) (sym e) tt
stage_keeps service node input sent after h (asked_on count fetched p e s) = subst (StageHas node.profile) (sym e) tt
stage_keeps service node input sent after h (resumed count fetched places p none e t) =
    subst (StageHas node.profile) (sym e)
    (all_proceed (Revives service node) (PlaceHas node.profile) (PlaceHas node.profile) Anything (revived_keeps service node) (all_restored service node.profile fetched) places sent
    (restored_have service node.profile fetched) t).0
stage_keeps service node input sent after h (served opened places later b e t) =
    subst (StageHas node.profile) (sym e)
    (serving_proceeds service node input opened (PlaceHas node.profile) (PlaceHas node.profile) Anything places later sent (place_keeps service node input)
    (new_have node input opened places) (any_packets (refusals node input places)) (λ numbers s r. tt) (subst (StageHas node.profile) b h) t).0

-- whole traces
pub record KeepsProfile (profile : Profile) (w : World) : Type 0 where
  pub world : w.profile ≡ profile
  pub node : (n : Node) → w.node ≡ Some n → (n.profile ≡ profile) × StageHas profile n.stage

turned_keeps : {State : Type 0} (service : Machine State) (profile : Profile) (node later : Node) (input : Input) (sent : List Packet) → (node.profile ≡ profile) × StageHas profile node.stage
    → LawfulTurn service node input sent later → (later.profile ≡ profile) × StageHas profile later.stage
turned_keeps service profile node later input sent h t =
    let stage : StageHas node.profile later.stage =
    stage_keeps service node input sent later.stage (subst (λ x. StageHas x node.stage) (sym h.0) h.1) (stage_went service node later input sent t) in
    (t.profile ∙ h.0, subst (λ x. StageHas x later.stage) h.0 stage)

profile_proceeds : {State : Type 0} (service : Machine State) (profile : Profile) (before : World) (sent : List Packet) (after : World)
    → KeepsProfile profile before → Happened service before sent after → KeepsProfile profile after
profile_proceeds service profile before sent after k (log_received message under s e) = subst (KeepsProfile profile) (sym e) (record { world = k.world; node = k.node })
profile_proceeds service profile before sent after k (client_received segment under s e) = subst (KeepsProfile profile) (sym e) (record { world = k.world; node = k.node })
profile_proceeds service profile before sent after k (client_moved number m) = subst (KeepsProfile profile) (sym m.after_is) (record { world = k.world; node = k.node })
profile_proceeds service profile before sent after k (server_turned input node later brought up turn e) =
    subst (KeepsProfile profile) (sym e)
    (record {
      world = k.world;
      node = λ n g. subst (λ x. (x.profile ≡ profile) × StageHas profile x.stage) (some_is later n g) (turned_keeps service profile node later input sent (k.node node up) turn);
    })
profile_proceeds service profile before sent after k (server_booted boot isn down larger s e) =
    subst (KeepsProfile profile) (sym e)
    (record {
      world = k.world;
      node = λ n g. subst (λ x. (x.profile ≡ profile) × StageHas profile x.stage) (some_is (booted before.server before.profile boot isn) n g) (k.world, tt);
    })
profile_proceeds service profile before sent after k (server_down s e) =
    subst (KeepsProfile profile) (sym e) (record { world = k.world; node = λ n g. none_is_some n g })

points_have : (profile : Profile) (places : List Place) → AllByRecursion (PlaceHas profile) places → AllByRecursion (HasProfile profile) (points_in places)
points_have profile [] h = tt
points_have profile (Lives p ∷ places) h = (h.0, points_have profile places h.1)
points_have profile (Opens n timestamping ∷ places) h = points_have profile places h.1
points_have profile (Ended k ∷ places) h = points_have profile places h.1

stage_points : (profile : Profile) (stage : Stage) → StageHas profile stage → AllByRecursion (HasProfile profile) (points_at stage)
stage_points profile (Serving opened places) h = points_have profile places h
stage_points profile Asking h = tt
stage_points profile (Fetching count fetched) h = tt
stage_points profile (Fenced newer) h = tt

pub profile_after : {State : Type 0} (service : Machine State) (start : World) (trace : List Moment) (node : Node) → Joint service start trace
    → (world_after start trace).node ≡ Some node → (node.profile ≡ start.profile) × AllByRecursion (HasProfile start.profile) (points_at node.stage)
profile_after service start trace node j up =
    let k = holds_after service (KeepsProfile start.profile) start
    (λ s. record { world = refl; node = λ n e. none_is_some n (sym s.node ∙ e) })
    (λ before sent after h x. profile_proceeds service start.profile before sent after h x) trace j in
    let n = k.node node up in (n.0, stage_points start.profile node.stage n.1)

-- a world's profile is the start's
pub profile_stays : {State : Type 0} (service : Machine State) (start : World) (trace : List Moment) → Joint service start trace → (world_after start trace).profile ≡ start.profile
profile_stays service start trace j =
    (holds_after service (KeepsProfile start.profile) start (λ s. record { world = refl; node = λ n e. none_is_some n (sym s.node ∙ e) })
    (λ before sent after h x. profile_proceeds service start.profile before sent after h x) trace j).world

-- the timing of a plain server's connections
pub plain_after : {State : Type 0} (service : Machine State) (start : World) (trace : List Moment) (node : Node) → Joint service start trace
    → (world_after start trace).node ≡ Some node → start.profile ≡ plain → AllByRecursion (λ p. p.timing ≡ initial_timing false) (points_at node.stage)
plain_after service start trace node j up is_plain =
    all_weaker (HasProfile start.profile) (λ p. p.timing ≡ initial_timing false) (points_at node.stage) (λ p h. h.timing (ap (λ x. x.measures) is_plain))
    (profile_after service start trace node j up).1

-- .. and its segments carry no timestamps
pub plain_unstamped : {State : Type 0} (service : Machine State) (start : World) (trace : List Moment) (node : Node) → Joint service start trace
    → (world_after start trace).node ≡ Some node → start.profile ≡ plain → AllByRecursion (λ p. p.timestamping ≡ Off) (points_at node.stage)
plain_unstamped service start trace node j up is_plain =
    all_weaker (HasProfile start.profile) (λ p. p.timestamping ≡ Off) (points_at node.stage) (λ p h. h.timestamping (ap (λ x. x.timestamps) is_plain))
    (profile_after service start trace node j up).1
