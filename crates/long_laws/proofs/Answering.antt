-- A server that serves goes on having a connection for each client that it has answered, through every event of a world.
use Rattle.std.proofs.Common.{◌≡◌, ℕ, Bool, true, false, ◌==◌, ◌&&◌, not, is_some, refl, sym, ap, ◌∙◌, subst, true≢false, inl, inr, ⊎_elim, Option, Some, None, List, [], ◌∷◌, ◌++◌, map, length, arith, if◌then◌else◌}
use Rattle.std.specs.List.{AllByRecursion}
use Rattle.std.proofs.lemmas.Bool.{and_parts, or_right, or_from}
use Rattle.std.proofs.lemmas.List.Folds.{list_any-append}
use Rattle.ft_io.specs.declared.Key.{Key}
use Rattle.ft_io.specs.Key.{key_eq}
use Rattle.tcp_rules.specs.Profile.{Profile}
use Rattle.seq_arith.specs.Number.{number_at}
use Rattle.seq_arith.specs.Packet.{Segment, has_syn, has_rst, has_ack}
use Rattle.seq_arith.specs.Message.{Body, Message}
use Rattle.seq_arith.specs.Message.Body.{EndedMsg}
use Rattle.server_trait.specs.Service.{Machine}
use Rattle.ft_model.specs.Client.{Client, Move, may_move, suits_phase, suits_range, segment_of, is_open, is_opening, received, opened_by, arrived, moved}
use Rattle.ft_model.specs.Client.Move.{Syn, Text, Fin, Acknowledge, Rst, Refuse}
use Rattle.ft_model.specs.declared.phase.Phase.TheVariants as phases
use Rattle.ft_model.specs.Growth.{LogGrows}
use Rattle.ft_model.specs.Keys.{has_key}
use Rattle.ft_model.specs.Lawful.{Revives, restored, all_restored, asked, held}
use Rattle.ft_model.specs.Log.{Log, Entry, entry_of, log_after}
use Rattle.ft_model.specs.Masked.{is_restarting}
use Rattle.ft_model.specs.Network.{Packet, source_of, destination_of}
use Rattle.ft_model.specs.Network.Packet.{To_server, To_client, To_logger, From_logger}
use Rattle.ft_model.specs.News.News.{Begins}
use Rattle.ft_model.specs.Node.{Node, Place, Stage, Input, key_of, is_for, booted}
use Rattle.ft_model.specs.Node.Place.{Opens, Lives, Ended}
use Rattle.ft_model.specs.Node.Stage.{Asking, Fetching, Serving, Fenced}
use Rattle.ft_model.specs.Node.Input.{Packet_comes, Message_comes, Noise_comes, Tick_comes}
use Rattle.ft_model.specs.Resets.{ResetsNoLogged}
use Rattle.ft_model.specs.Restart.{Fetched, Wanted, wanted, live_entry, entry_in, point_of}
use Rattle.ft_model.specs.ServingTurn.{AllGo}
use Rattle.ft_model.specs.World.{World, Moves}
use Rattle.ft_model.proofs.Asked.{entry_keys, progress_agrees}
use Rattle.ft_model.proofs.Authored.{Speaks}
use Rattle.ft_model.proofs.AuthorTurns.{all_go_then, is_settled, one_of}
use Rattle.ft_model.proofs.Backed.{PacketBacked}
use Rattle.ft_model.proofs.Distinct.{StageDistinct, turn_distinct}
use Rattle.ft_model.proofs.Faithful.{StageFits}
use Rattle.ft_model.proofs.FaithfulKept.{input_fits, received_same, clients_fit}
use Rattle.ft_model.proofs.FaithfulOver.{IsHeadOf, heads_of, client_there}
use Rattle.ft_model.proofs.Fenced.{IsOurs, turn_ours, all_opt}
use Rattle.ft_model.specs.FetchedFronts.{AreFetched}
use Rattle.ft_model.proofs.Fetching.{full_front}
use Rattle.ft_model.proofs.Grows.{log_grows}
use Rattle.ft_model.proofs.Happened.{Happened, IsBrought, IsUnderWay, all_sent, answers}
use Rattle.ft_model.proofs.Happened.Happened.{log_received, client_received, client_moved, server_turned, server_booted, server_down}
use Rattle.ft_model.proofs.Keys.{absent_key, found_has_key}
use Rattle.ft_model.proofs.Lists.{all_both, all_weaker, all_append, or_cases, or_left, none_is_some, some_is}
use Rattle.ft_model.proofs.LogAnswers.{log_went, all_answers}
use Rattle.ft_model.proofs.Refused.{IsDone, Says, KeysGo, keys_go, done_later, answers_say}
use Rattle.ft_model.proofs.Resumed.{nothing_missing, restored_keys, restored_length, length_map, revived_keys}
use Rattle.ft_model.proofs.Seen.{IsSeen}
use Rattle.ft_model.proofs.StageTurns.{StageWent, stage_went}
use Rattle.ft_model.proofs.StageTurns.StageWent.{was_fenced, waited, held_off, asked_on, resumed, served}
use Rattle.ft_io.proofs.Choices.{holds_if}
use Rattle.long_laws.proofs.Answered.{IsReceived, IsCaller, asks_for, opens_key, PlaceOver, AnswersAll, BodyEnds, SaysEnded, InputEnds, InputReceived, is_full_input, IsThere, each_there, Fair, connection_fair, Goes, serving_answers}
use Rattle.long_laws.proofs.Stands.{Stands}

abbrev pub StageAnswers : Log → List Client → List Packet → Stage → Type 0
StageAnswers log clients packets (Serving opened places) = AnswersAll log clients packets places
StageAnswers log clients packets _ = Unit {0}

pub record IsAnswering (w : World) : Type 0 where
  pub says : AllByRecursion (SaysEnded w.log) w.packets
  pub stage : (node : Node) → w.node ≡ Some node → StageAnswers w.log w.clients w.packets node.stage

-- what comes to the server was sent
input_ends : (w : World) (input : Input) → AllByRecursion (SaysEnded w.log) w.packets → IsBrought w input → InputEnds w.log input
input_ends w (Message_comes message) a b = all_sent (SaysEnded w.log) w (From_logger message) a b
input_ends w (Packet_comes segment) a b = tt
input_ends w Noise_comes a b = tt
input_ends w Tick_comes a b = tt

input_received : (w : World) (places : List Place) (input : Input) → AllByRecursion (IsReceived places) w.packets → IsBrought w input → InputReceived places input
input_received w places (Packet_comes segment) a b = all_sent (IsReceived places) w (To_server segment) a b
input_received w places (Message_comes message) a b = tt
input_received w places Noise_comes a b = tt
input_received w places Tick_comes a b = tt

-- the turn that ends a restart: each place is live, or done as its entry is
abbrev IsBack : Log → Place → Type 0
IsBack log (Lives p) = Unit {0}
IsBack log (Ended key) = IsDone log key
IsBack log (Opens n timestamping) = ⊥

restored_back : {State : Type 0} (service : Machine State) (profile : Profile) (log : Log) (fetched : List Fetched) → AllByRecursion (IsHeadOf log) fetched → AllByRecursion (IsBack log) (all_restored service profile fetched)
restored_back service profile log [] a = tt
restored_back service profile log (f ∷ earlier) a =
    all_append (IsBack log) (all_restored service profile earlier) (restored service profile f ∷ []) (restored_back service profile log earlier a.1) (
      holds_if (IsBack log) f.head.done (Ended f.head.key) (Lives (point_of service profile (entry_in f)))
          (λ t. let h : IsHeadOf log f = a.0 in
          (h.0, subst (λ k. entry_of k log ≡ Some h.0) (sym (ap (λ x. x.key) h.2)) h.1, sym (ap (λ x. x.done) h.2) ∙ t)) (λ t. tt),
      tt,
    )

revives_back : {State : Type 0} (service : Machine State) (log : Log) (node : Node) (later : List Place) (place : Place) (now : List Place) (sent : List Packet) → IsBack log place
    → Revives service node place now sent → AllByRecursion (IsBack log) now × (AllByRecursion (IsThere later) now → AllByRecursion (Fair false log later) sent)
revives_back service log node later (Lives p) now sent b t = (
  subst (AllByRecursion (IsBack log)) (sym t.1) (tt, tt),
  λ m. connection_fair service false log node.server node.boot Begins p t.0 sent later (one_of (IsThere later) (Lives t.0) now t.1 m) t.2,
)
revives_back service log node later (Ended key) now sent b t = (subst (AllByRecursion (IsBack log)) (sym t.0) (b, tt), λ m. subst (AllByRecursion (Fair false log later)) (sym t.1) tt)
revives_back service log node later (Opens n timestamping) now sent b t = absurd b

settled_all : (log : Log) (places : List Place) (key : Key) → AllByRecursion (IsBack log) places → has_key key (map key_of places) ≡ true → is_settled key places ≡ true
settled_all log [] key a e = e
settled_all log (Lives p ∷ places) key a e =
    ⊎_elim (λ h. or_left (key_eq p.key key) (is_settled key places) h) (λ h. or_right (key_eq p.key key) (is_settled key places) (settled_all log places key a.1 h))
    (or_cases (key_eq p.key key) (has_key key (map key_of places)) e)
settled_all log (Ended k ∷ places) key a e =
    ⊎_elim (λ h. or_left (key_eq k key) (is_settled key places) h) (λ h. or_right (key_eq k key) (is_settled key places) (settled_all log places key a.1 h))
    (or_cases (key_eq k key) (has_key key (map key_of places)) e)
settled_all log (Opens n timestamping ∷ places) key a e = absurd a.0

back_over : (log : Log) (packets : List Packet) (place : Place) → IsBack log place → PlaceOver log packets place
back_over log packets (Ended key) b = inl b
back_over log packets (Lives p) b = tt
back_over log packets (Opens n timestamping) b = tt

-- who acknowledges, and who is answered, has an entry
received_logged : {State : Type 0} (service : Machine State) (script : Key → List ℕ) (log : Log) (places : List Place)
    → ((key : Key) → has_key key (entry_keys log) ≡ true → is_settled key places ≡ true) → (p : Packet) → PacketBacked service script log p → Speaks service script log p → IsReceived places p
received_logged service script log places keyed (To_server segment) b s = λ a. let x = b a in keyed (source_of segment) (found_has_key (λ e. e.key) (source_of segment) log.entries x.0 x.1)
received_logged service script log places keyed (To_client segment) b s = λ r. let x = s r in keyed (destination_of segment) (found_has_key (λ e. e.key) (destination_of segment) log.entries x.entry x.found)
received_logged service script log places keyed (To_logger message) b s = tt
received_logged service script log places keyed (From_logger message) b s = tt

resuming_answers : {State : Type 0} (service : Machine State) (w : World) (full : Bool) (node : Node) (count : ℕ) (fetched : List Fetched) (places : List Place) (sent : List Packet)
    → Stands service w → AllByRecursion (IsHeadOf w.log) fetched → count ≡ length w.log.entries → AreFetched w.log.entries fetched → wanted count fetched ≡ None
    → AllGo (Revives service node) (all_restored service node.profile fetched) places sent → Goes full w.log w.clients w.packets places sent
resuming_answers service w full node count fetched places sent o heads c a none t =
    let log : Log = w.log in
    let whole = nothing_missing log.entries count fetched a none in
    let one = length_map key_of (all_restored service node.profile fetched) in
    let two = restored_length service node.profile fetched in
    let three = length_map (λ x. x.key) log.entries in
    let all : map key_of (all_restored service node.profile fetched) ≡ entry_keys log =
    full_front (map key_of (all_restored service node.profile fetched)) (entry_keys log) (restored_keys service node.profile log.entries fetched a) (omega (arith, one, two, three, whole.1, c)) in
    let same : map key_of places ≡ entry_keys log = revived_keys service node (all_restored service node.profile fetched) places sent t ∙ all in
    let went = all_go_then (Revives service node) (IsBack log) (IsBack log) (IsThere places) (Fair false log places) (revives_back service log node places) (all_restored service node.profile fetched) places sent
    (restored_back service node.profile log fetched heads) t in
    let fair : AllByRecursion (Fair false log places) sent = went.1 (each_there places) in
    let keyed : (key : Key) → has_key key (entry_keys log) ≡ true → is_settled key places ≡ true = λ key h. settled_all log places key went.0 (ap (has_key key) same ∙ h) in (
      record {
        receipt = all_append (IsReceived places) w.packets sent
            (all_both (PacketBacked service o.script log) (Speaks service o.script log) (IsReceived places) w.packets (received_logged service o.script log places keyed) o.backed.packets o.author.spoken)
            (all_weaker (Fair false log places) (IsReceived places) sent (λ p f. f.0.0) fair);
        callers = all_weaker (IsSeen service o.script log) (IsCaller places) w.clients
            (λ c s open_. let x = s.sisn open_ in keyed c.key (found_has_key (λ e. e.key) c.key log.entries x.0 x.1)) o.sees;
        over = all_weaker (IsBack log) (PlaceOver log (w.packets ++ sent)) places (back_over log (w.packets ++ sent)) went.0;
      },
      all_weaker (Fair false log places) (λ p. full ≡ false → ResetsNoLogged log p) sent (λ p f x. f.0.1 refl) fair,
    )

-- while it restarts it resets nobody
abbrev pub Spares : Bool → Log → Packet → Type 0
Spares full log p = full ≡ false → ResetsNoLogged log p

asked_spares : (full : Bool) (log : Log) (node : Node) (w : Option Wanted) → AllByRecursion (Spares full log) (asked node w)
asked_spares full log node (Some w) = (λ f. tt, tt)
asked_spares full log node None = tt

held_spares : (full : Bool) (log : Log) (node : Node) (fetched : List Fetched) (segment : Segment) → AllByRecursion (Spares full log) (held node fetched segment)
held_spares full log node fetched segment =
    holds_if (AllByRecursion (Spares full log)) (is_for node.server segment && not (has_rst segment)) _ []
    (λ t. all_opt (Spares full log) _ (live_entry (source_of segment) fetched) (λ f x r. absurd (true≢false (sym r)))) (λ t. tt)

restart_answers : (log : Log) (clients : List Client) (packets : List Packet) (stage : Stage) → is_restarting stage ≡ true → StageAnswers log clients packets stage
restart_answers log clients packets Asking r = tt
restart_answers log clients packets (Fetching count fetched) r = tt
restart_answers log clients packets (Serving opened places) r = absurd (true≢false (sym r))
restart_answers log clients packets (Fenced newer) r = tt

-- a turn of the server
pub turn_answers : {State : Type 0} (service : Machine State) (w : World) (node : Node) (input : Input) (sent : List Packet) (after : Stage) → Stands service w → IsAnswering w → w.node ≡ Some node
    → IsBrought w input → StageWent service node input sent after → StageAnswers w.log w.clients (w.packets ++ sent) after × AllByRecursion (Spares (is_full_input input) w.log) sent
turn_answers service w node input sent after o k e brought (was_fenced newer g s) =
    (subst (StageAnswers w.log w.clients (w.packets ++ sent)) (sym g) tt, subst (AllByRecursion (Spares (is_full_input input) w.log)) (sym s) tt)
turn_answers service w node input sent after o k e brought (waited r g s) = (
  restart_answers w.log w.clients (w.packets ++ sent) after (ap is_restarting g ∙ r),
  ⊎_elim (λ x. subst (AllByRecursion (Spares (is_full_input input) w.log)) (sym x) (λ f. tt, tt))
      (λ x. subst (AllByRecursion (Spares (is_full_input input) w.log)) (sym x.1) (asked_spares (is_full_input input) w.log node x.0)) s,
)
turn_answers service w node input sent after o k e brought (held_off count fetched segment b g s) =
    (subst (StageAnswers w.log w.clients (w.packets ++ sent)) (sym g) tt, subst (AllByRecursion (Spares (is_full_input input) w.log)) (sym s) (held_spares (is_full_input input) w.log node fetched segment))
turn_answers service w node input sent after o k e brought (asked_on count fetched p g s) =
    (subst (StageAnswers w.log w.clients (w.packets ++ sent)) (sym g) tt, subst (AllByRecursion (Spares (is_full_input input) w.log)) (sym s) (asked_spares (is_full_input input) w.log node (wanted count fetched)))
turn_answers service w node input sent after o k e brought (resumed count fetched places p none g t) =
    let agrees = progress_agrees w node input count fetched o.asked e brought p in
    let went = resuming_answers service w (is_full_input input) node count fetched places sent o (heads_of w.log fetched o.asked.distinct agrees.1) agrees.0 agrees.1 none t in
    (subst (StageAnswers w.log w.clients (w.packets ++ sent)) (sym g) went.0, went.1)
turn_answers service w node input sent after o k e brought (served opened places later b g t) =
    let was : AnswersAll w.log w.clients w.packets places = subst (StageAnswers w.log w.clients w.packets) b (k.stage node e) in
    let apart : StageDistinct after = turn_distinct service w node input sent after o.asked o.distinct e brought (served opened places later b g t) in
    let went = serving_answers service o.script o.isn w.log w.clients w.packets node input opened places later sent o.faithful.entries (input_fits o.script o.isn w input o.faithful.packets brought)
    (input_ends w input k.says brought) (input_received w places input was.receipt brought) (subst (StageFits o.script o.isn w.log) b (o.faithful.stage node e)) (subst StageDistinct g apart) was t in
    (subst (StageAnswers w.log w.clients (w.packets ++ sent)) (sym g) went.0, went.1)

-- what is sent asks to open nothing
pub over_still : (log : Log) (packets sent : List Packet) → ((key : Key) → AllByRecursion (λ p. opens_key key p ≡ false) sent) → (place : Place) → PlaceOver log packets place → PlaceOver log (packets ++ sent) place
over_still log packets sent none (Ended key) o = ⊎_elim (λ d. inl d) (λ n. inr (n.0, all_append (λ p. opens_key key p ≡ false) packets sent n.1 (none key))) o
over_still log packets sent none (Lives p) o = tt
over_still log packets sent none (Opens n timestamping) o = tt

-- other packets, and other clients
pub stage_still : (log : Log) (clients now : List Client) (packets sent : List Packet) (stage : Stage) → ((key : Key) → AllByRecursion (λ p. opens_key key p ≡ false) sent)
    → ((places : List Place) → AnswersAll log clients packets places → AllByRecursion (IsReceived places) sent × AllByRecursion (IsCaller places) now)
    → StageAnswers log clients packets stage → StageAnswers log now (packets ++ sent) stage
stage_still log clients now packets sent (Serving opened places) none more k =
    let m = more places k in
    record { receipt = all_append (IsReceived places) packets sent k.receipt m.0; callers = m.1; over = all_weaker (PlaceOver log packets) _ places (over_still log packets sent none) k.over }
stage_still log clients now packets sent Asking none more k = tt
stage_still log clients now packets sent (Fetching count fetched) none more k = tt
stage_still log clients now packets sent (Fenced newer) none more k = tt

-- a message comes to the log
says_ended : (log : Log) (body : Body) → Says log (From_logger (record { boot = 0; body = body })) → BodyEnds log body
says_ended log (EndedMsg key) s = s
says_ended log _ s = tt

packet_says : (log : Log) (p : Packet) → Says log p → SaysEnded log p
packet_says log (From_logger message) s = says_ended log message.body s
packet_says log (To_server segment) s = tt
packet_says log (To_client segment) s = tt
packet_says log (To_logger message) s = tt

body_later : (before after : Log) → LogGrows before after → (body : Body) → BodyEnds before body → BodyEnds after body
body_later before after g (EndedMsg key) s = done_later before after key g s
body_later before after g _ s = tt

ended_later : (before after : Log) → LogGrows before after → (p : Packet) → SaysEnded before p → SaysEnded after p
ended_later before after g (From_logger message) s = body_later before after g message.body s
ended_later before after g (To_server segment) s = tt
ended_later before after g (To_client segment) s = tt
ended_later before after g (To_logger message) s = tt

none_found : (log : Log) (key : Key) (o : Option Entry) → entry_of key log ≡ o → has_key key (entry_keys log) ≡ false → o ≡ None
none_found log key None f h = refl
none_found log key (Some e) f h = absurd (true≢false (sym (found_has_key (λ x. x.key) key log.entries e f) ∙ h))

absent_later : (log : Log) (message : Message) (after : Log) (key : Key) → KeysGo log message after → asks_for key message.body ≡ false → has_key key (entry_keys log) ≡ false → has_key key (entry_keys after) ≡ false
absent_later log message after key (inl same) a h = ap (has_key key) same ∙ h
absent_later log message after key (inr r) a h =
    let other : key_eq r.0.key key ≡ false = sym (ap (asks_for key) r.2) ∙ a in
    ap (has_key key) r.4 ∙ (list_any-append (λ k. key_eq k key) (entry_keys log) (r.0.key ∷ [])
    ∙ or_from (has_key key (entry_keys log)) (has_key key (r.0.key ∷ [])) h (or_from (key_eq r.0.key key) false other refl))

over_received : (w : World) (message : Message) → IsUnderWay w (To_logger message) → (place : Place) → PlaceOver w.log w.packets place
    → PlaceOver (log_after w.log message) (w.packets ++ answers w.log message) place
over_received w message under (Ended key) o =
    let after : Log = log_after w.log message in
    ⊎_elim (λ d. inl (done_later w.log after key (log_grows w.log message) d))
    (λ n. let h : has_key key (entry_keys after) ≡ false =
    absent_later w.log message after key (keys_go w.log message after (log_went w.log message)) (all_sent (λ p. opens_key key p ≡ false) w (To_logger message) n.1 under)
    (absent_key (λ e. e.key) key w.log.entries (ap is_some n.0)) in
    inr (none_found after key (entry_of key after) refl h, all_append (λ p. opens_key key p ≡ false) w.packets (answers w.log message) n.1 (all_answers (λ p. opens_key key p ≡ false) w.log message (λ body a. refl)))) o
over_received w message under (Lives p) o = tt
over_received w message under (Opens n timestamping) o = tt

stage_received : (w : World) (message : Message) (stage : Stage) → IsUnderWay w (To_logger message) → StageAnswers w.log w.clients w.packets stage
    → StageAnswers (log_after w.log message) w.clients (w.packets ++ answers w.log message) stage
stage_received w message (Serving opened places) under k = record {
  receipt = all_append (IsReceived places) w.packets (answers w.log message) k.receipt (all_answers (IsReceived places) w.log message (λ body a. tt));
  callers = k.callers;
  over = all_weaker (PlaceOver w.log w.packets) _ places (over_received w message under) k.over;
}
stage_received w message Asking under k = tt
stage_received w message (Fetching count fetched) under k = tt
stage_received w message (Fenced newer) under k = tt

log_answering : (w : World) (message : Message) → IsAnswering w → IsUnderWay w (To_logger message)
    → IsAnswering (record w { log = log_after w.log message; packets = w.packets ++ answers w.log message })
log_answering w message k under =
    let after : Log = log_after w.log message in
    record {
      says = all_append (SaysEnded after) w.packets (answers w.log message) (all_weaker (SaysEnded w.log) _ w.packets (ended_later w.log after (log_grows w.log message)) k.says)
          (all_weaker (Says after) _ (answers w.log message) (packet_says after) (answers_say w.log message));
      stage = λ n e. stage_received w message n.stage under (k.stage n e);
    }

-- a RST opens nothing
reopened_by : (c : Client) (segment : Segment) → has_rst segment ≡ true → is_open (opened_by c segment).phase ≡ true → is_open c.phase ≡ true
reopened_by c segment rst =
    let P : Client → Type 0 = λ x. is_open x.phase ≡ true → is_open c.phase ≡ true in
    let gone : Client = record c { phase = phases.Reset } in
    let stands : Client = record c { phase = phases.Established; sisn = segment.head.seq } in
    holds_if P (has_ack segment && segment.head.ack == number_at c.isn 0) (if has_rst segment then gone else (if has_syn segment then stands else c)) c
    (λ a. holds_if P (has_rst segment) gone (if has_syn segment then stands else c) (λ r y. absurd (true≢false (sym y))) (λ r. absurd (true≢false (sym rst ∙ r)))) (λ a y. y)

reopened : (c : Client) (segment : Segment) → has_rst segment ≡ true → is_open (received c segment).phase ≡ true → is_open c.phase ≡ true
reopened c segment rst =
    let P : Client → Type 0 = λ x. is_open x.phase ≡ true → is_open c.phase ≡ true in
    holds_if P (is_opening c.phase) (opened_by c segment) (if is_open c.phase then arrived c segment else c) (λ x. reopened_by c segment rst)
    (λ x. holds_if P (is_open c.phase) (arrived c segment) c (λ y z. y) (λ y z. z))

received_caller : (places : List Place) (c : Client) (segment : Segment) (b : Bool) → has_rst segment ≡ b → c.key ≡ destination_of segment → IsReceived places (To_client segment) → IsCaller places c
    → IsCaller places (received c segment)
received_caller places c segment true rst k h f = λ x. subst (λ z. is_settled z places ≡ true) (sym (received_same c segment).key) (f (reopened c segment rst x))
received_caller places c segment false rst k h f = λ x. subst (λ z. is_settled z places ≡ true) (sym ((received_same c segment).key ∙ k)) (h rst)

-- what a client sends with ACK it sends when it is open
move_received : (places : List Place) (c : Client) (move : Move) (window : ℕ) → may_move c move ≡ true → IsCaller places c → IsReceived places (To_server (segment_of c move window))
move_received places c (Text from len) window may f =
    λ a. f (and_parts (is_open c.phase) _ (and_parts (suits_phase c (Text from len)) (suits_range c (Text from len)) may).0).0
move_received places c Fin window may f = λ a. f (and_parts (is_open c.phase) _ (and_parts (suits_phase c Fin) (suits_range c Fin) may).0).0
move_received places c Acknowledge window may f = λ a. f (and_parts (is_open c.phase) _ may).0
move_received places c (Syn mss) window may f = λ a. absurd (true≢false (sym a))
move_received places c Rst window may f = λ a. absurd (true≢false (sym a))
move_received places c (Refuse number) window may f = λ a. absurd (true≢false (sym a))

moved_caller : (places : List Place) (c : Client) (move : Move) (window : ℕ) → IsCaller places c → IsCaller places (moved c move window)
moved_caller places c (Syn mss) window f = λ x. absurd (true≢false (sym x))
moved_caller places c Rst window f = λ x. absurd (true≢false (sym x))
moved_caller places c (Text from len) window f = f
moved_caller places c Fin window f = f
moved_caller places c Acknowledge window f = f
moved_caller places c (Refuse number) window f = f

-- what the server sends says nothing for the log
ours_say : (log : Log) (boot : ℕ) (p : Packet) → IsOurs boot p → SaysEnded log p
ours_say log boot (To_client segment) o = tt
ours_say log boot (To_logger message) o = tt
ours_say log boot (To_server segment) o = tt
ours_say log boot (From_logger message) o = absurd o

move_answering : (w : World) (number : ℕ) (sent : List Packet) (after : World) → IsAnswering w → Moves w number sent after → IsAnswering after
move_answering w number sent after k m =
    subst IsAnswering (sym m.after_is)
    (record {
      says = all_append (SaysEnded w.log) w.packets sent k.says (subst (AllByRecursion (SaysEnded w.log)) (sym m.sent_is) (tt, tt));
      stage = λ n e. stage_still w.log w.clients _ w.packets sent n.stage (λ key. subst (AllByRecursion (λ p. opens_key key p ≡ false)) (sym m.sent_is) (refl, tt))
          (λ places a. let was : IsCaller places m.client = client_there (IsCaller places) w.clients number m.client a.callers m.is_there in (
            subst (AllByRecursion (IsReceived places)) (sym m.sent_is)
                (subst (λ s. IsReceived places (To_server s)) (sym m.move.segment_is) (move_received places m.client m.move.move m.move.window m.move.may was), tt),
            clients_fit (IsCaller places) m.client.key (λ x. m.later) w.clients
                (λ x y f. subst (IsCaller places) (sym m.move.after_is) (moved_caller places m.client m.move.move m.move.window was)) a.callers,
          )) (k.stage n e);
    })

pub answering_proceeds : {State : Type 0} (service : Machine State) (before : World) (sent : List Packet) (after : World) → Stands service before → IsAnswering before → Happened service before sent after
    → IsAnswering after
answering_proceeds service before sent after o k (log_received message under s e) =
    subst IsAnswering (sym (e ∙ ap (λ x. record before { log = log_after before.log message; packets = before.packets ++ x }) s)) (log_answering before message k under)
answering_proceeds service before sent after o k (client_received segment under s e) =
    subst IsAnswering (sym e)
    (record {
      says = all_append (SaysEnded before.log) before.packets sent k.says (subst (AllByRecursion (SaysEnded before.log)) (sym s) tt);
      stage = λ n g. stage_still before.log before.clients _ before.packets sent n.stage (λ key. subst (AllByRecursion (λ p. opens_key key p ≡ false)) (sym s) tt)
          (λ places a. (
            subst (AllByRecursion (IsReceived places)) (sym s) tt,
            clients_fit (IsCaller places) (destination_of segment) (λ c. received c segment) before.clients
                (λ c x f. received_caller places c segment (has_rst segment) refl x (all_sent (IsReceived places) before (To_client segment) a.receipt under) f) a.callers,
          )) (k.stage n g);
    })
answering_proceeds service before sent after o k (client_moved number m) = move_answering before number sent after k m
answering_proceeds service before sent after o k (server_turned input node later brought is turn e) =
    let went : StageWent service node input sent later.stage = stage_went service node later input sent turn in
    let t = turn_answers service before node input sent later.stage o k is brought went in
    subst IsAnswering (sym e)
    (record {
      says = all_append (SaysEnded before.log) before.packets sent k.says
          (all_weaker (IsOurs node.boot) _ sent (ours_say before.log node.boot) (turn_ours service node input sent later.stage went));
      stage = λ n g. subst (λ x. StageAnswers before.log before.clients (before.packets ++ sent) x.stage) (some_is later n g) t.0;
    })
answering_proceeds service before sent after o k (server_booted boot isn down larger s e) =
    subst IsAnswering (sym e)
    (record {
      says = all_append (SaysEnded before.log) before.packets sent k.says (subst (AllByRecursion (SaysEnded before.log)) (sym s) (tt, tt));
      stage = λ n g. subst (λ x. StageAnswers before.log before.clients (before.packets ++ sent) x.stage) (some_is (booted before.server before.profile boot isn) n g) tt;
    })
answering_proceeds service before sent after o k (server_down s e) =
    subst IsAnswering (sym e)
    (record {
      says = all_append (SaysEnded before.log) before.packets sent k.says (subst (AllByRecursion (SaysEnded before.log)) (sym s) tt);
      stage = λ n g. none_is_some n g;
    })
