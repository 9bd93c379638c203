-- No RST goes to a client whose entry is in the log and not done: over a whole trace the server knows what the log has.
use Rattle.std.proofs.Common.{◌≡◌, ℕ, true, false, ◌&&◌, not, refl, sym, ap, ◌∙◌, subst, true≢false, ⊎_elim, IfSome, Option, Some, None, List, [], ◌∷◌, ◌++◌, map, length, arith}
use Rattle.std.specs.List.{AllByRecursion}
use Rattle.std.proofs.lemmas.Bool.{and_parts}
use Rattle.ft_io.specs.declared.Key.{Key}
use Rattle.tcp_rules.specs.Profile.{Profile}
use Rattle.seq_arith.specs.Packet.{Segment, has_rst}
use Rattle.seq_arith.specs.Message.{Body, Message}
use Rattle.seq_arith.specs.Message.Body.{OpenMsg}
use Rattle.server_trait.specs.Service.{Machine}
use Rattle.ft_model.specs.Client.{Client, Move, may_move, suits_phase, suits_range, segment_of, is_open}
use Rattle.ft_model.specs.Client.Move.{Syn, Text, Fin, Acknowledge, Rst, Refuse}
use Rattle.ft_model.specs.Growth.{LogGrows}
use Rattle.ft_model.specs.Log.{Log, Entry, entry_of, log_after}
use Rattle.ft_model.specs.Network.{Packet, source_of, destination_of}
use Rattle.ft_model.specs.Network.Packet.{To_server, To_client, To_logger, From_logger}
use Rattle.ft_model.specs.News.News.{Begins}
use Rattle.ft_model.specs.Restart.{Fetched, Wanted, wanted, live_entry, entry_in, point_of}
use Rattle.ft_model.specs.Node.{Node, Place, Stage, Input, key_of, is_for, booted}
use Rattle.ft_model.specs.Node.Place.{Opens, Lives, Ended}
use Rattle.ft_model.specs.Node.Stage.{Asking, Fetching, Serving, Fenced}
use Rattle.ft_model.specs.ServingTurn.{AllGo}
use Rattle.ft_model.specs.Lawful.{Revives, LawfulTurn, restored, all_restored, asked, held}
use Rattle.ft_model.specs.Masked.{is_restarting}
use Rattle.ft_model.specs.Resets.{ResetsNoLogged}
use Rattle.ft_model.specs.World.{World, Moment, Moves, Joint, IsStart, client_at, world_after}
use Rattle.ft_model.specs.Keys.{has_key}
use Rattle.ft_model.proofs.Lists.{all_weaker, all_append, none_is_some, some_is}
use Rattle.ft_model.proofs.Grows.{log_grows}
use Rattle.ft_model.proofs.Keys.{found_has_key}
use Rattle.ft_model.proofs.LogAnswers.{log_went, all_answers}
use Rattle.ft_model.proofs.Happened.{Happened, IsBrought, IsUnderWay, holds_after, answers}
use Rattle.ft_model.proofs.Happened.Happened.{log_received, client_received, client_moved, server_turned, server_booted, server_down}
use Rattle.ft_model.proofs.PlaceTurns.{all_proceed}
use Rattle.ft_model.proofs.StageTurns.{StageWent, stage_went}
use Rattle.ft_model.proofs.StageTurns.StageWent.{was_fenced, waited, held_off, asked_on, resumed, served}
use Rattle.ft_model.proofs.Fenced.{IsFenced, IsOurs, IsSegment, IsNoChange, is_change, turn_ours, was_restarting, all_opt}
use Rattle.ft_model.specs.FetchedFronts.{AreFetched}
use Rattle.ft_model.proofs.Fetching.{full_front}
use Rattle.ft_model.proofs.Asked.{IsAsked, entry_keys, progress_agrees}
use Rattle.ft_model.proofs.Resumed.{nothing_missing, restored_keys, restored_length, length_map, revived_keys}
use Rattle.ft_model.proofs.Faithful.{StageFits}
use Rattle.ft_model.proofs.FaithfulKept.{IsFaithful, input_fits}
use Rattle.ft_model.proofs.FaithfulOver.{IsHeadOf, heads_of, script_of, isn_of, client_there}
use Rattle.ft_model.proofs.Seen.{IsSeen}
use Rattle.ft_model.proofs.Acknowledged.{start_is}
use Rattle.ft_model.proofs.Running.{HasSmallOutputs}
use Rattle.ft_model.proofs.JointMasked.{JointInvariant, start_sound, sound_proceeds}
use Rattle.ft_model.proofs.Refused.{ResetsEnded, HasCaller, resets_later, caller_later, Says, KeysGo, keys_go, says_later, answers_say}
use Rattle.ft_model.proofs.KnownKeys.{AsksFor, Asks, PlaceEnds, StageKnows, KnowsLog, stage_receives, IsPlain, connection_plain, input_says, input_calls, IsFair, plain_fair, Goes, knows_after, serving_knows}
use Rattle.ft_io.proofs.Choices.{holds_if}

-- the turn that ends a restart
restored_ends : {State : Type 0} (service : Machine State) (profile : Profile) (log : Log) (fetched : List Fetched) → AllByRecursion (IsHeadOf log) fetched → AllByRecursion (PlaceEnds log) (all_restored service profile fetched)
restored_ends service profile log [] a = tt
restored_ends service profile log (f ∷ earlier) a =
    all_append (PlaceEnds log) (all_restored service profile earlier) (restored service profile f ∷ []) (restored_ends service profile log earlier a.1) (
      holds_if (PlaceEnds log) f.head.done (Ended f.head.key) (Lives (point_of service profile (entry_in f)))
          (λ t. let h : IsHeadOf log f = a.0 in
          (h.0, subst (λ k. entry_of k log ≡ Some h.0) (sym (ap (λ x. x.key) h.2)) h.1, sym (ap (λ x. x.done) h.2) ∙ t)) (λ t. tt),
      tt,
    )

revives_plain : {State : Type 0} (service : Machine State) (log : Log) (node : Node) (place : Place) (now : List Place) (sent : List Packet) → PlaceEnds log place
    → Revives service node place now sent → AllByRecursion (PlaceEnds log) now × AllByRecursion (IsPlain log) sent
revives_plain service log node (Lives p) now sent e t =
    (subst (AllByRecursion (PlaceEnds log)) (sym t.1) (tt, tt), connection_plain service log node.server node.boot Begins p t.0 sent t.2)
revives_plain service log node (Opens n timestamping) now sent e t = (subst (AllByRecursion (PlaceEnds log)) (sym t.0) (tt, tt), subst (AllByRecursion (IsPlain log)) (sym t.1) tt)
revives_plain service log node (Ended key) now sent e t = (subst (AllByRecursion (PlaceEnds log)) (sym t.0) (e, tt), subst (AllByRecursion (IsPlain log)) (sym t.1) tt)

quiet_opening : (keys : List Key) (places : List Place) (body : Body) → is_change body ≡ false → AsksFor keys places body
quiet_opening keys places (OpenMsg n) e = absurd (true≢false e)
quiet_opening keys places _ e = tt

quiet_asks : (boot : ℕ) (keys : List Key) (places : List Place) (packet : Packet) → IsNoChange boot packet → Asks boot keys places packet
quiet_asks boot keys places (To_logger message) q = λ e. quiet_opening keys places message.body (q e)
quiet_asks boot keys places (To_server segment) q = tt
quiet_asks boot keys places (To_client segment) q = tt
quiet_asks boot keys places (From_logger message) q = tt

resuming_knows : {State : Type 0} (service : Machine State) (log : Log) (packets : List Packet) (node : Node) (count : ℕ) (fetched : List Fetched) (places : List Place) (sent : List Packet)
    → AllByRecursion (IsHeadOf log) fetched → count ≡ length log.entries → AreFetched log.entries fetched → wanted count fetched ≡ None → AllByRecursion (IsNoChange node.boot) packets
    → AllGo (Revives service node) (all_restored service node.profile fetched) places sent → Goes log packets node.boot places sent
resuming_knows service log packets node count fetched places sent heads c a none quiet t =
    let whole = nothing_missing log.entries count fetched a none in
    let one = length_map key_of (all_restored service node.profile fetched) in
    let two = restored_length service node.profile fetched in
    let three = length_map (λ x. x.key) log.entries in
    let all : map key_of (all_restored service node.profile fetched) ≡ entry_keys log =
    full_front (map key_of (all_restored service node.profile fetched)) (entry_keys log) (restored_keys service node.profile log.entries fetched a) (omega (arith, one, two, three, whole.1, c)) in
    let same : map key_of places ≡ entry_keys log = revived_keys service node (all_restored service node.profile fetched) places sent t ∙ all in
    let went = all_proceed (Revives service node) (PlaceEnds log) (PlaceEnds log) (IsPlain log) (revives_plain service log node) (all_restored service node.profile fetched) places sent
    (restored_ends service node.profile log fetched heads) t in
    knows_after log packets node.boot places sent (all_weaker (IsNoChange node.boot) _ packets (quiet_asks node.boot (entry_keys log) places) quiet)
    (λ key h. ap (has_key key) same ∙ h) went.0 (all_weaker (IsPlain log) (IsFair log node.boot places) sent (plain_fair log node.boot places) went.1)

asked_spares : (log : Log) (node : Node) (w : Option Wanted) → AllByRecursion (ResetsEnded log) (asked node w)
asked_spares log node (Some w) = (tt, tt)
asked_spares log node None = tt

held_spares : (log : Log) (node : Node) (fetched : List Fetched) (segment : Segment) → AllByRecursion (ResetsEnded log) (held node fetched segment)
held_spares log node fetched segment =
    holds_if (AllByRecursion (ResetsEnded log)) (is_for node.server segment && not (has_rst segment)) _ []
    (λ t. all_opt (ResetsEnded log) _ (live_entry (source_of segment) fetched) (λ f r. absurd (true≢false (sym r)))) (λ t. tt)

restart_knows : (log : Log) (packets : List Packet) (boot : ℕ) (stage : Stage) → is_restarting stage ≡ true → StageKnows log packets boot stage
restart_knows log packets boot Asking r = tt
restart_knows log packets boot (Fetching count fetched) r = tt
restart_knows log packets boot (Serving opened places) r = absurd (true≢false (sym r))
restart_knows log packets boot (Fenced newer) r = tt

-- a turn of the server
turn_knows : {State : Type 0} (service : Machine State) (script : Key → List ℕ) (isn : Key → ℕ) (w : World) (node : Node) (input : Input) (sent : List Packet) (after : Stage)
    → IsFenced w → IsAsked w → IsFaithful script isn w → KnowsLog w → w.node ≡ Some node → IsBrought w input → StageWent service node input sent after
    → StageKnows w.log (w.packets ++ sent) node.boot after × AllByRecursion (ResetsEnded w.log) sent
turn_knows service script isn w node input sent after f a fa k e brought (was_fenced newer g s) =
    (subst (StageKnows w.log (w.packets ++ sent) node.boot) (sym g) tt, subst (AllByRecursion (ResetsEnded w.log)) (sym s) tt)
turn_knows service script isn w node input sent after f a fa k e brought (waited r g s) = (
  restart_knows w.log (w.packets ++ sent) node.boot after (ap is_restarting g ∙ r),
  ⊎_elim (λ x. subst (AllByRecursion (ResetsEnded w.log)) (sym x) (tt, tt)) (λ x. subst (AllByRecursion (ResetsEnded w.log)) (sym x.1) (asked_spares w.log node x.0)) s,
)
turn_knows service script isn w node input sent after f a fa k e brought (held_off count fetched segment b g s) =
    (subst (StageKnows w.log (w.packets ++ sent) node.boot) (sym g) tt, subst (AllByRecursion (ResetsEnded w.log)) (sym s) (held_spares w.log node fetched segment))
turn_knows service script isn w node input sent after f a fa k e brought (asked_on count fetched p g s) =
    (subst (StageKnows w.log (w.packets ++ sent) node.boot) (sym g) tt, subst (AllByRecursion (ResetsEnded w.log)) (sym s) (asked_spares w.log node (wanted count fetched)))
turn_knows service script isn w node input sent after f a fa k e brought (resumed count fetched places p none g t) =
    let agrees = progress_agrees w node input count fetched a e brought p in
    let went = resuming_knows service w.log w.packets node count fetched places sent (heads_of w.log fetched a.distinct agrees.1) agrees.0 agrees.1 none
    ((f.node node e).quiet (was_restarting node input count fetched p)) t in
    (subst (StageKnows w.log (w.packets ++ sent) node.boot) (sym g) went.0, went.1)
turn_knows service script isn w node input sent after f a fa k e brought (served opened places later b g t) =
    let went = serving_knows service script isn w.log w.packets node input opened places later sent fa.entries (input_fits script isn w input fa.packets brought) (input_says w input k.says brought) (input_calls w (entry_keys w.log) input k.calls brought)
    (subst (StageFits script isn w.log) b (fa.stage node e)) (subst (StageKnows w.log w.packets node.boot) b (k.stage node e)) t in
    (subst (StageKnows w.log (w.packets ++ sent) node.boot) (sym g) went.0, went.1)

ours_say : (log : Log) (boot : ℕ) (packet : Packet) → IsOurs boot packet → Says log packet
ours_say log boot (To_client segment) o = tt
ours_say log boot (To_logger message) o = tt
ours_say log boot (To_server segment) o = tt
ours_say log boot (From_logger message) o = absurd o

segment_says : (log : Log) (packet : Packet) → IsSegment packet → Says log packet
segment_says log (To_server segment) s = tt
segment_says log (To_client segment) s = tt
segment_says log (To_logger message) s = tt
segment_says log (From_logger message) s = absurd s

segment_asks : (boot : ℕ) (keys : List Key) (places : List Place) (packet : Packet) → IsSegment packet → Asks boot keys places packet
segment_asks boot keys places (To_server segment) s = tt
segment_asks boot keys places (To_client segment) s = tt
segment_asks boot keys places (To_logger message) s = absurd s
segment_asks boot keys places (From_logger message) s = tt

ours_call : (keys : List Key) (boot : ℕ) (packet : Packet) → IsOurs boot packet → HasCaller keys packet
ours_call keys boot (To_client segment) o = tt
ours_call keys boot (To_logger message) o = tt
ours_call keys boot (To_server segment) o = absurd o
ours_call keys boot (From_logger message) o = absurd o

-- what a client sends with ACK it sends when it is open
move_calls : (c : Client) (move : Move) (window : ℕ) (keys : List Key) → may_move c move ≡ true → (is_open c.phase ≡ true → has_key c.key keys ≡ true)
    → HasCaller keys (To_server (segment_of c move window))
move_calls c (Text from len) window keys may open_ =
    λ a. open_ (and_parts (is_open c.phase) _ (and_parts (suits_phase c (Text from len)) (suits_range c (Text from len)) may).0).0
move_calls c Fin window keys may open_ = λ a. open_ (and_parts (is_open c.phase) _ (and_parts (suits_phase c Fin) (suits_range c Fin) may).0).0
move_calls c Acknowledge window keys may open_ = λ a. open_ (and_parts (is_open c.phase) _ may).0
move_calls c (Syn mss) window keys may open_ = λ a. absurd (true≢false (sym a))
move_calls c Rst window keys may open_ = λ a. absurd (true≢false (sym a))
move_calls c (Refuse number) window keys may open_ = λ a. absurd (true≢false (sym a))

stage_still : (log : Log) (packets sent : List Packet) (boot : ℕ) (stage : Stage) → AllByRecursion IsSegment sent → StageKnows log packets boot stage → StageKnows log (packets ++ sent) boot stage
stage_still log packets sent boot (Serving opened places) s k = record {
  asks = all_append (Asks boot (entry_keys log) places) packets sent k.asks (all_weaker IsSegment _ sent (segment_asks boot (entry_keys log) places) s);
  keys = k.keys;
  ends = k.ends;
}
stage_still log packets sent boot Asking s k = tt
stage_still log packets sent boot (Fetching count fetched) s k = tt
stage_still log packets sent boot (Fenced newer) s k = tt

-- segments alone leave what the server knows as it is
knowing_still : (w : World) (clients : List Client) (sent : List Packet) → KnowsLog w → AllByRecursion IsSegment sent → AllByRecursion (HasCaller (entry_keys w.log)) sent
    → AllByRecursion (ResetsEnded w.log) sent → KnowsLog (record w { clients = clients; packets = w.packets ++ sent })
knowing_still w clients sent k s calls resets = record {
  says = all_append (Says w.log) w.packets sent k.says (all_weaker IsSegment _ sent (segment_says w.log) s);
  calls = all_append (HasCaller (entry_keys w.log)) w.packets sent k.calls calls;
  resets = all_append (ResetsEnded w.log) w.packets sent k.resets resets;
  stage = λ node e. stage_still w.log w.packets sent node.boot node.stage s (k.stage node e);
}

received_knowing : (w : World) (message : Message) → IsFenced w → KnowsLog w → IsUnderWay w (To_logger message)
    → KnowsLog (record w { log = log_after w.log message; packets = w.packets ++ answers w.log message })
received_knowing w message f k under =
    let after : Log = log_after w.log message in
    let g : LogGrows w.log after = log_grows w.log message in
    let go : KeysGo w.log message after = keys_go w.log message after (log_went w.log message) in
    record {
      says = all_append (Says after) w.packets (answers w.log message) (all_weaker (Says w.log) _ w.packets (says_later w.log message after g go) k.says) (answers_say w.log message);
      calls = all_append (HasCaller (entry_keys after)) w.packets (answers w.log message)
          (all_weaker (HasCaller (entry_keys w.log)) _ w.packets (caller_later w.log message after go) k.calls)
          (all_answers (HasCaller (entry_keys after)) w.log message (λ body a. tt));
      resets = all_append (ResetsEnded after) w.packets (answers w.log message)
          (all_weaker (ResetsEnded w.log) _ w.packets (resets_later w.log message after g go) k.resets) (all_answers (ResetsEnded after) w.log message (λ body a. tt));
      stage = λ node e. stage_receives w message node node.stage under (f.node node e).logged (k.stage node e);
    }

turned_knowing : {State : Type 0} (service : Machine State) (script : Key → List ℕ) (isn : Key → ℕ) (w : World) (node later : Node) (input : Input) (sent : List Packet)
    → IsFenced w → IsAsked w → IsFaithful script isn w → KnowsLog w → w.node ≡ Some node → IsBrought w input → LawfulTurn service node input sent later
    → KnowsLog (record w { node = Some later; packets = w.packets ++ sent })
turned_knowing service script isn w node later input sent f a fa k e brought t =
    let went : StageWent service node input sent later.stage = stage_went service node later input sent t in
    let ours : AllByRecursion (IsOurs node.boot) sent = turn_ours service node input sent later.stage went in
    let knows = turn_knows service script isn w node input sent later.stage f a fa k e brought went in
    record {
      says = all_append (Says w.log) w.packets sent k.says (all_weaker (IsOurs node.boot) _ sent (ours_say w.log node.boot) ours);
      calls = all_append (HasCaller (entry_keys w.log)) w.packets sent k.calls (all_weaker (IsOurs node.boot) _ sent (ours_call (entry_keys w.log) node.boot) ours);
      resets = all_append (ResetsEnded w.log) w.packets sent k.resets knows.1;
      stage = λ n g. subst (λ x. StageKnows w.log (w.packets ++ sent) x.boot x.stage) (some_is later n g)
          (subst (λ b. StageKnows w.log (w.packets ++ sent) b later.stage) (sym t.boot) knows.0);
    }

-- an open client has an entry
open_logged : {State : Type 0} (service : Machine State) (start w : World) (number : ℕ) (c : Client) → JointInvariant service start w → client_at w.clients number ≡ Some c
    → is_open c.phase ≡ true → has_key c.key (entry_keys w.log) ≡ true
open_logged service start w number c o at open_ =
    let e = (client_there (IsSeen service (script_of start) w.log) w.clients number c o.sees at).sisn open_ in
    found_has_key (λ x. x.key) c.key w.log.entries e.0 e.1

moved_knowing : {State : Type 0} (service : Machine State) (start w : World) (number : ℕ) (sent : List Packet) (after : World) → JointInvariant service start w → KnowsLog w → Moves w number sent after → KnowsLog after
moved_knowing service start w number sent after o k m =
    let calls : HasCaller (entry_keys w.log) (To_server m.segment) =
    subst (λ x. HasCaller (entry_keys w.log) (To_server x)) (sym m.move.segment_is)
    (move_calls m.client m.move.move m.move.window (entry_keys w.log) m.move.may (open_logged service start w number m.client o m.is_there)) in
    subst KnowsLog (sym m.after_is)
    (knowing_still w _ sent k (subst (AllByRecursion IsSegment) (sym m.sent_is) (tt, tt)) (subst (AllByRecursion (HasCaller (entry_keys w.log))) (sym m.sent_is) (calls, tt))
    (subst (AllByRecursion (ResetsEnded w.log)) (sym m.sent_is) (tt, tt)))

pub knowing_proceeds : {State : Type 0} (service : Machine State) (start before : World) (sent : List Packet) (after : World)
    → JointInvariant service start before → KnowsLog before → Happened service before sent after → KnowsLog after
knowing_proceeds service start before sent after o k (log_received message under s e) =
    subst KnowsLog (sym (e ∙ ap (λ x. record before { log = log_after before.log message; packets = before.packets ++ x }) s)) (received_knowing before message o.fenced k under)
knowing_proceeds service start before sent after o k (client_received segment under s e) =
    subst KnowsLog (sym e)
    (knowing_still before _ sent k (subst (AllByRecursion IsSegment) (sym s) tt) (subst (AllByRecursion (HasCaller (entry_keys before.log))) (sym s) tt)
    (subst (AllByRecursion (ResetsEnded before.log)) (sym s) tt))
knowing_proceeds service start before sent after o k (client_moved number m) = moved_knowing service start before number sent after o k m
knowing_proceeds service start before sent after o k (server_turned input node later brought is turn e) =
    subst KnowsLog (sym e) (turned_knowing service (script_of start) (isn_of start) before node later input sent o.fenced o.asked o.faithful k is brought turn)
knowing_proceeds service start before sent after o k (server_booted boot isn down larger s e) =
    subst KnowsLog (sym e) (record {
      says = all_append (Says before.log) before.packets sent k.says (subst (AllByRecursion (Says before.log)) (sym s) (tt, tt));
      calls = all_append (HasCaller (entry_keys before.log)) before.packets sent k.calls (subst (AllByRecursion (HasCaller (entry_keys before.log))) (sym s) (tt, tt));
      resets = all_append (ResetsEnded before.log) before.packets sent k.resets (subst (AllByRecursion (ResetsEnded before.log)) (sym s) (tt, tt));
      stage = λ n g. subst (λ x. StageKnows before.log (before.packets ++ sent) x.boot x.stage) (some_is (booted before.server before.profile boot isn) n g) tt;
    })
knowing_proceeds service start before sent after o k (server_down s e) =
    subst KnowsLog (sym e) (record {
      says = all_append (Says before.log) before.packets sent k.says (subst (AllByRecursion (Says before.log)) (sym s) tt);
      calls = all_append (HasCaller (entry_keys before.log)) before.packets sent k.calls (subst (AllByRecursion (HasCaller (entry_keys before.log))) (sym s) tt);
      resets = all_append (ResetsEnded before.log) before.packets sent k.resets (subst (AllByRecursion (ResetsEnded before.log)) (sym s) tt);
      stage = λ n g. none_is_some n g;
    })

pub start_knowing : (w : World) → IsStart w → KnowsLog w
start_knowing w s = record {
  says = subst (AllByRecursion (Says w.log)) (sym s.packets) tt;
  calls = subst (AllByRecursion (HasCaller (entry_keys w.log))) (sym s.packets) tt;
  resets = subst (AllByRecursion (ResetsEnded w.log)) (sym s.packets) tt;
  stage = λ n e. none_is_some n (sym s.node ∙ e);
}

knowing_after : {State : Type 0} (service : Machine State) → HasSmallOutputs service → (start : World) (trace : List Moment) → Joint service start trace
    → JointInvariant service start (world_after start trace) × KnowsLog (world_after start trace)
knowing_after service small start trace j =
    let s : IsStart start = start_is service start trace j in
    holds_after service (λ w. JointInvariant service start w × KnowsLog w) start (λ x. (start_sound service small start x, start_knowing start x))
    (λ before sent after o h. (sound_proceeds service small start before sent after s o.0 h, knowing_proceeds service start before sent after o.0 o.1 h)) trace j

none_logged : (log : Log) (key : Key) (o : Option Entry) → entry_of key log ≡ o → has_key key (entry_keys log) ≡ false → IfSome o (λ e. e.done ≡ true)
none_logged log key (Some e) f h = absurd (true≢false (sym (found_has_key (λ x. x.key) key log.entries e f) ∙ h))
none_logged log key None f h = tt

pub ended_spares : (log : Log) (packet : Packet) → ResetsEnded log packet → ResetsNoLogged log packet
ended_spares log (To_client segment) e = λ r.
    ⊎_elim (λ d. subst (λ o. IfSome o (λ x. x.done ≡ true)) (sym d.1) d.2)
    (λ s. none_logged log (destination_of segment) (entry_of (destination_of segment) log) refl s.0) (e r)
ended_spares log (To_server segment) e = tt
ended_spares log (To_logger message) e = tt
ended_spares log (From_logger message) e = tt

pub spared_after : {State : Type 0} (service : Machine State) → HasSmallOutputs service → (start : World) (trace : List Moment) → Joint service start trace
    → AllByRecursion (ResetsNoLogged (world_after start trace).log) (world_after start trace).packets
spared_after service small start trace j =
    all_weaker (ResetsEnded (world_after start trace).log) _ (world_after start trace).packets (ended_spares (world_after start trace).log) (knowing_after service small start trace j).1.resets
