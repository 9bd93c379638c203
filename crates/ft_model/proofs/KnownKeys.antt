-- A server that serves knows each key that the log has, and each for which an Open of its own is under way, unless the log is full. So what it
-- sends in a turn resets no client that the log keeps.
use Rattle.std.proofs.Common.{◌≡◌, ℕ, ◌+◌, Bool, true, false, ◌&&◌, ◌||◌, not, nat_lt, refl, sym, ap, ◌∙◌, subst, true≢false, inl, inr, ◌⊎◌, ⊎_elim, eq-eqb, Some, List, [], ◌∷◌, ◌++◌, map, drop, arith, if◌then◌else◌}
use Rattle.std.specs.List.{AllByRecursion}
use Rattle.std.proofs.lemmas.List.Folds.{list_any-append}
use Rattle.std.proofs.lemmas.Bool.{and_parts, or_right}
use Rattle.ft_io.specs.declared.Addr.{Addr}
use Rattle.ft_io.specs.declared.Key.{Key}
use Rattle.ft_io.specs.Key.{key_eq}
use Rattle.seq_arith.specs.Packet.{Segment, has_rst, has_ack}
use Rattle.seq_arith.specs.Message.{Numbers, Body, Message}
use Rattle.seq_arith.specs.Message.Body.{OpenMsg, DoneMsg}
use Rattle.server_trait.specs.Service.{Machine}
use Rattle.ft_model.specs.Log.{Log, log_after}
use Rattle.ft_model.specs.Network.{Packet, source_of, destination_of}
use Rattle.ft_model.specs.Network.Packet.{To_server, To_client, To_logger, From_logger}
use Rattle.ft_model.specs.Point.{Point}
use Rattle.ft_model.specs.News.{News}
use Rattle.ft_model.specs.Copy.{copies}
use Rattle.ft_model.specs.Reads.{reads_reported, read_messages, first_reported}
use Rattle.ft_model.specs.ResetAndEnd.{dones, reports_done}
use Rattle.ft_model.specs.Segments.{segments_of}
use Rattle.ft_model.specs.Connection.{ConnectionTurn, reported_by}
use Rattle.ft_model.specs.Opening.{is_syn, numbers_for, timestamping_for}
use Rattle.ft_model.specs.Refusal.{as_listen, as_closed, rst_at_ack, rst_behind}
use Rattle.ft_model.specs.Node.{Node, Place, Stage, Input, key_of, is_for, is_known, pending_count}
use Rattle.ft_model.specs.Node.Place.{Opens, Lives, Ended}
use Rattle.ft_model.specs.Node.Stage.{Asking, Fetching, Serving, Fenced}
use Rattle.ft_model.specs.Node.Input.{Packet_comes, Message_comes, Noise_comes, Tick_comes}
use Rattle.ft_model.specs.ServingTurn.{PlaceTurn, AllGo, newcomers, refusals, is_strange, opens_at, ServingTurn}
use Rattle.ft_model.specs.Lawful.{asked}
use Rattle.ft_model.specs.World.{World}
use Rattle.ft_model.specs.Keys.{has_key}
use Rattle.ft_model.proofs.Lists.{or_left, all_both, all_weaker, all_map, all_append, same_key, key_is, or_cases}
use Rattle.ft_model.proofs.Grows.{log_grows}
use Rattle.ft_model.proofs.Keys.{absent_key}
use Rattle.ft_model.proofs.LogAnswers.{log_went, all_answers}
use Rattle.ft_model.proofs.Happened.{IsBrought, IsUnderWay, all_sent, answers}
use Rattle.ft_model.proofs.PlaceTurns.{PlaceWent, IsDropped, place_went, all_proceed, all_flat, asks_so}
use Rattle.ft_model.proofs.PlaceTurns.PlaceWent.{stayed, went_on, began, dropped, ended, refused}
use Rattle.ft_model.proofs.StageTurns.{either_turn}
use Rattle.ft_model.proofs.Fenced.{IsLogged}
use Rattle.ft_model.proofs.Asked.{entry_keys}
use Rattle.ft_model.proofs.Resumed.{map_append}
use Rattle.ft_model.proofs.Spoken.{Spoken, segments_spoken, headed}
use Rattle.ft_model.proofs.Faithful.{AnswerFits, HasEntry, PlaceFits, EntriesFit, units_within}
use Rattle.ft_model.proofs.FaithfulKept.{InputFits}
use Rattle.ft_model.proofs.Distinct.{stays_or_drops}
use Rattle.ft_model.proofs.Refused.{ResetsEnded, HasCaller, IsDone, IsShut, BodySays, Says, KeysGo, keys_go, done_later, shut_later}
use Rattle.ft_io.proofs.Booleans.{not_true}
use Rattle.ft_model.proofs.Copied.{all_copies}
use Rattle.ft_io.proofs.Choices.{holds_if}

-- the key has a place
abbrev pub Knows : List Place → Key → Type 0
Knows places key = has_key key (map key_of places) ≡ true

-- a key that is asked for is known, or the log never takes it
abbrev pub IsKnownOrShut : List Key → List Place → Key → Type 0
IsKnownOrShut keys places key = Knows places key ⊎ IsShut keys key

abbrev pub AsksFor : List Key → List Place → Body → Type 0
AsksFor keys places (OpenMsg n) = IsKnownOrShut keys places n.key
AsksFor keys places _ = Unit {0}

abbrev pub Asks : ℕ → List Key → List Place → Packet → Type 0
Asks boot keys places (To_logger message) = message.boot ≡ boot → AsksFor keys places message.body
Asks boot keys places _ = Unit {0}

-- a place that is done has an entry that is done
abbrev pub PlaceEnds : Log → Place → Type 0
PlaceEnds log (Ended key) = IsDone log key
PlaceEnds log _ = Unit {0}

-- what a server that serves knows: each key of the log, and each that it asks for
pub record KnowsAll (log : Log) (packets : List Packet) (boot : ℕ) (places : List Place) : Type 0 where
  pub asks : AllByRecursion (Asks boot (entry_keys log) places) packets
  pub keys : (key : Key) → has_key key (entry_keys log) ≡ true → Knows places key
  pub ends : AllByRecursion (PlaceEnds log) places

abbrev pub StageKnows : Log → List Packet → ℕ → Stage → Type 0
StageKnows log packets boot (Serving opened places) = KnowsAll log packets boot places
StageKnows log packets boot _ = Unit {0}

-- what was said to the server is so, each client that acknowledges has an entry, and each RST goes to a key that is done or never taken
pub record KnowsLog (w : World) : Type 0 where
  pub says : AllByRecursion (Says w.log) w.packets
  pub calls : AllByRecursion (HasCaller (entry_keys w.log)) w.packets
  pub resets : AllByRecursion (ResetsEnded w.log) w.packets
  pub stage : (node : Node) → w.node ≡ Some node → StageKnows w.log w.packets node.boot node.stage

has_key_either : (key : Key) (xs : List Key) (y : Key) → has_key key (xs ++ y ∷ []) ≡ true → (has_key key xs ≡ true) ⊎ (y ≡ key)
has_key_either key xs y e =
    ⊎_elim (λ h. inl h) (λ h. ⊎_elim (λ k. inr (same_key y key k)) (λ k. absurd (true≢false (sym k))) (or_cases (key_eq y key) false h))
    (or_cases (has_key key xs) (has_key key (y ∷ [])) (sym (list_any-append (λ k. key_eq k key) xs (y ∷ [])) ∙ e))

pub knows_append : (xs ys : List Place) (key : Key) → has_key key (map key_of (xs ++ ys)) ≡ (has_key key (map key_of xs) || has_key key (map key_of ys))
knows_append xs ys key = ap (has_key key) (map_append key_of xs ys) ∙ list_any-append (λ k. key_eq k key) (map key_of xs) (map key_of ys)

pub knows_front : (xs ys : List Place) (key : Key) → Knows xs key → Knows (xs ++ ys) key
knows_front xs ys key k = knows_append xs ys key ∙ or_left (has_key key (map key_of xs)) (has_key key (map key_of ys)) k

pub knows_behind : (xs ys : List Place) (key : Key) → Knows ys key → Knows (xs ++ ys) key
knows_behind xs ys key k = knows_append xs ys key ∙ or_right (has_key key (map key_of xs)) (has_key key (map key_of ys)) k

each_known : (places : List Place) → AllByRecursion (λ place. Knows places (key_of place)) places
each_known [] = tt
each_known (p ∷ places) = (
  or_left (key_eq (key_of p) (key_of p)) (has_key (key_of p) (map key_of places)) (key_is (key_of p)),
  all_weaker (λ place. Knows places (key_of place)) _ places
      (λ x k. or_right (key_eq (key_of p) (key_of x)) (has_key (key_of x) (map key_of places)) k) (each_known places),
)

-- where known keys stay known, or the log is full, so it is for what is asked for
body_stays : (keys later : List Key) (places now : List Place) → ((key : Key) → IsKnownOrShut keys places key → IsKnownOrShut later now key) → (body : Body) → AsksFor keys places body → AsksFor later now body
body_stays keys later places now on (OpenMsg n) a = on n.key a
body_stays keys later places now on _ a = tt

asks_on : (boot : ℕ) (keys later : List Key) (places now : List Place) → ((key : Key) → IsKnownOrShut keys places key → IsKnownOrShut later now key) → (packet : Packet)
    → Asks boot keys places packet → Asks boot later now packet
asks_on boot keys later places now on (To_logger message) a = λ e. body_stays keys later places now on message.body (a e)
asks_on boot keys later places now on (To_server segment) a = tt
asks_on boot keys later places now on (To_client segment) a = tt
asks_on boot keys later places now on (From_logger message) a = tt

place_ends : (log : Log) (message : Message) (place : Place) → PlaceEnds log place → PlaceEnds (log_after log message) place
place_ends log message (Ended key) e = done_later log (log_after log message) key (log_grows log message) e
place_ends log message (Lives p) e = tt
place_ends log message (Opens n timestamping) e = tt

-- a message comes to the log
pub stage_receives : (w : World) (message : Message) (node : Node) (stage : Stage) → IsUnderWay w (To_logger message) → IsLogged w.log.boot node stage
    → StageKnows w.log w.packets node.boot stage → StageKnows (log_after w.log message) (w.packets ++ answers w.log message) node.boot stage
stage_receives w message node (Serving opened places) under own k =
    let keys : List Key = entry_keys w.log in
    let later : List Key = entry_keys (log_after w.log message) in
    let g = log_grows w.log message in
    let go : KeysGo w.log message (log_after w.log message) = keys_go w.log message (log_after w.log message) (log_went w.log message) in
    record {
      asks = all_append (Asks node.boot later places) w.packets (answers w.log message)
          (all_weaker (Asks node.boot keys places) _ w.packets
          (asks_on node.boot keys later places places (λ key m. ⊎_elim (λ x. inl x) (λ s. inr (shut_later w.log message (log_after w.log message) key go s)) m)) k.asks)
          (all_answers (Asks node.boot later places) w.log message (λ body a. tt));
      keys = λ key h. ⊎_elim (λ same. k.keys key (sym (ap (has_key key) same) ∙ h))
          (λ r. let asked : AsksFor keys places (OpenMsg r.0) =
          subst (AsksFor keys places) r.2 (all_sent (Asks node.boot keys places) w (To_logger message) k.asks under (r.1 ∙ own)) in
          ⊎_elim (λ old. k.keys key old)
          (λ new. subst (Knows places) new (⊎_elim (λ x. x) (λ s. let room = r.3 in absurd (omega (arith, room, s.1))) asked))
          (has_key_either key keys r.0.key (sym (ap (has_key key) r.4) ∙ h))) go;
      ends = all_weaker (PlaceEnds w.log) (PlaceEnds (log_after w.log message)) places (place_ends w.log message) k.ends;
    }
stage_receives w message node Asking under own k = tt
stage_receives w message node (Fetching count fetched) under own k = tt
stage_receives w message node (Fenced newer) under own k = tt

-- a live connection sends no RST and no Open
abbrev pub asks_to_open : Body → Bool
asks_to_open (OpenMsg n) = true
asks_to_open _ = false

abbrev pub OpensNothing : Packet → Type 0
OpensNothing (To_logger message) = asks_to_open message.body ≡ false
OpensNothing _ = Unit {0}

abbrev pub IsPlain : Log → Packet → Type 0
IsPlain log packet = ResetsEnded log packet × OpensNothing packet

no_opening : (keys : List Key) (places : List Place) (body : Body) → asks_to_open body ≡ false → AsksFor keys places body
no_opening keys places (OpenMsg n) e = absurd (true≢false e)
no_opening keys places _ e = tt

plain_asks : (boot : ℕ) (keys : List Key) (places : List Place) (packet : Packet) → OpensNothing packet → Asks boot keys places packet
plain_asks boot keys places (To_logger message) e = λ b. no_opening keys places message.body e
plain_asks boot keys places (To_server segment) e = tt
plain_asks boot keys places (To_client segment) e = tt
plain_asks boot keys places (From_logger message) e = tt

abbrev NoOpen : Body → Type 0
NoOpen body = asks_to_open body ≡ false

bodies_plain : (log : Log) (boot : ℕ) (bodies : List Body) → AllByRecursion NoOpen bodies → AllByRecursion (IsPlain log) (map (reported_by boot) bodies)
bodies_plain log boot [] a = tt
bodies_plain log boot (body ∷ bodies) a = ((tt, a.0), bodies_plain log boot bodies a.1)

copies_plain : (news : News) (p q : Point) → AllByRecursion NoOpen (copies news p q)
copies_plain news p q = all_copies NoOpen news p q (λ part c. refl)

messages_plain : (key : Key) (index : ℕ) (lengths : List ℕ) → AllByRecursion NoOpen (read_messages key index lengths)
messages_plain key index [] = tt
messages_plain key index (n ∷ lengths) = (refl, messages_plain key (index + 1) lengths)

reads_plain : (news : News) (p q : Point) → AllByRecursion NoOpen (reads_reported news p q)
unfolding reads_reported
reads_plain news p q = messages_plain q.key (first_reported news p q) (drop (first_reported news p q) q.lengths)

dones_plain : (news : News) (p q : Point) → AllByRecursion NoOpen (dones news p q)
unfolding dones
dones_plain news p q = holds_if (AllByRecursion NoOpen) (reports_done news p q) (DoneMsg q.key ∷ []) [] (λ t. (refl, tt)) (λ t. tt)

pub connection_plain : {State : Type 0} (service : Machine State) (log : Log) (server : Addr) (boot : ℕ) (news : News) (p q : Point) (sent : List Packet)
    → ConnectionTurn service server boot news p q sent → AllByRecursion (IsPlain log) sent
connection_plain service log server boot news p q sent =
    either_turn service server boot news p q sent
    (λ t. subst (AllByRecursion (IsPlain log)) (sym t.packets) (bodies_plain log boot (dones news p q) (dones_plain news p q)))
    (λ t. let segments : AllByRecursion (λ s. IsPlain log (To_client s)) (segments_of service server news p q) =
    all_weaker (Spoken service server news p q) (λ s. IsPlain log (To_client s)) (segments_of service server news p q)
    (λ s spoken. (λ r. absurd (true≢false (sym r ∙ (headed service server news p q s spoken).no_rst)), tt)) (segments_spoken service server news p q) in
    subst (AllByRecursion (IsPlain log)) (sym t.packets)
    (all_append (IsPlain log) (map To_client (segments_of service server news p q)) _ (all_map (IsPlain log) To_client (segments_of service server news p q) segments)
    (bodies_plain log boot (copies news p q ++ (reads_reported news p q ++ dones news p q))
    (all_append NoOpen (copies news p q) _ (copies_plain news p q) (all_append NoOpen (reads_reported news p q) (dones news p q) (reads_plain news p q) (dones_plain news p q))))))

done_reset : (log : Log) (segment : Segment) → IsDone log (destination_of segment) → IsPlain log (To_client segment)
done_reset log segment d = (λ r. inl d, tt)

closed_plain : (log : Log) (server : Addr) (segment : Segment) → IsDone log (source_of segment) → AllByRecursion (IsPlain log) (map To_client (as_closed server segment))
closed_plain log server segment d =
    holds_if (λ x. AllByRecursion (IsPlain log) (map To_client x)) (has_rst segment) [] (if has_ack segment then rst_at_ack server segment ∷ [] else rst_behind server segment ∷ []) (λ t. tt)
    (λ t. holds_if (λ x. AllByRecursion (IsPlain log) (map To_client x)) (has_ack segment) (rst_at_ack server segment ∷ []) (rst_behind server segment ∷ [])
    (λ u. (done_reset log (rst_at_ack server segment) d, tt)) (λ u. (done_reset log (rst_behind server segment) d, tt)))

-- what the answers that come say
abbrev pub InputSays : Log → Input → Type 0
InputSays log (Message_comes message) = BodySays log message.body
InputSays log _ = Unit {0}

pub input_says : (w : World) (input : Input) → AllByRecursion (Says w.log) w.packets → IsBrought w input → InputSays w.log input
input_says w (Message_comes message) a b = all_sent (Says w.log) w (From_logger message) a b
input_says w (Packet_comes segment) a b = tt
input_says w Noise_comes a b = tt
input_says w Tick_comes a b = tt

-- an opening is dropped only where the log is full: the number that the log keeps is the client's own
dropped_shut : (script : Key → List ℕ) (isn : Key → ℕ) (log : Log) (node : Node) (input : Input) (asked : Numbers) → EntriesFit script isn log.entries → InputFits script isn log input
    → InputSays log input → asked.cisn ≡ isn asked.key → IsDropped node input asked → IsShut (entry_keys log) asked.key
dropped_shut script isn log node input asked entries i says own (inl (kept, h, other)) =
    let reported : AnswerFits log h.message.body = subst (InputFits script isn log) h.comes i in
    let has : HasEntry log kept = subst (AnswerFits log) h.body reported in
    let within = units_within script isn log kept.key has.0 entries has.1 in
    let same : kept.cisn ≡ asked.cisn = (sym has.2 ∙ within.0.cisn) ∙ (ap isn h.key ∙ sym own) in
    absurd (true≢false (sym (eq-eqb kept.cisn asked.cisn same) ∙ other))
dropped_shut script isn log node input asked entries i says own (inr (message, c, b)) =
    let reported : BodySays log message.body = subst (InputSays log) c says in subst (BodySays log) b reported

-- a place in a turn
place_knows : {State : Type 0} (service : Machine State) (script : Key → List ℕ) (isn : Key → ℕ) (log : Log) (node : Node) (input : Input)
    → EntriesFit script isn log.entries → InputFits script isn log input → InputSays log input
    → (place : Place) (now : List Place) (sent : List Packet) → PlaceFits script isn log place × PlaceEnds log place → PlaceWent service node input place now sent
    → AllByRecursion (PlaceEnds log) now × AllByRecursion (IsPlain log) sent
place_knows service script isn log node input entries i says place now sent q (stayed n s) =
    (subst (AllByRecursion (PlaceEnds log)) (sym n) (q.1, tt), subst (AllByRecursion (IsPlain log)) (sym s) tt)
place_knows service script isn log node input entries i says place now sent q (went_on news p after e w n t) =
    (subst (AllByRecursion (PlaceEnds log)) (sym n) (tt, tt), connection_plain service log node.server node.boot news p after sent t)
place_knows service script isn log node input entries i says place now sent q (began asked kept timestamping after e h n t) =
    (subst (AllByRecursion (PlaceEnds log)) (sym n) (tt, tt), connection_plain service log node.server node.boot _ _ after sent t)
place_knows service script isn log node input entries i says place now sent q (dropped asked timestamping e d n s) =
    let shut : IsShut (entry_keys log) asked.key = dropped_shut script isn log node input asked entries i says (subst (PlaceFits script isn log) e q.0) d in (
      subst (AllByRecursion (PlaceEnds log)) (sym n) tt,
      ⊎_elim (λ x. subst (AllByRecursion (IsPlain log)) (sym x) tt) (λ x. subst (AllByRecursion (IsPlain log)) (sym x) ((λ r. inr shut, tt), tt)) s,
    )
place_knows service script isn log node input entries i says place now sent q (ended p e h n s) =
    let reported : BodySays log h.0.body = subst (InputSays log) h.1 says in
    let done : IsDone log p.key = subst (BodySays log) h.2 reported in
    (subst (AllByRecursion (PlaceEnds log)) (sym n) (done, tt), subst (AllByRecursion (IsPlain log)) (sym s) tt)
place_knows service script isn log node input entries i says place now sent q (refused key segment e c k n s) =
    let done : IsDone log key = subst (PlaceEnds log) e q.1 in
    (subst (AllByRecursion (PlaceEnds log)) (sym n) (done, tt), subst (AllByRecursion (IsPlain log)) (sym s) (closed_plain log node.server segment (subst (IsDone log) (sym k) done)))

-- a known key stays known, or the log never takes it
abbrev StaysOrShuts : List Key → Place → List Place → Type 0
StaysOrShuts keys place now = ((after : Place) × (now ≡ after ∷ []) × (key_of after ≡ key_of place)) ⊎ IsShut keys (key_of place)

place_stays : {State : Type 0} (service : Machine State) (script : Key → List ℕ) (isn : Key → ℕ) (log : Log) (node : Node) (input : Input)
    → EntriesFit script isn log.entries → InputFits script isn log input → InputSays log input
    → (place : Place) (now : List Place) (sent : List Packet) → PlaceFits script isn log place → PlaceWent service node input place now sent → StaysOrShuts (entry_keys log) place now
place_stays service script isn log node input entries i says place now sent f t =
    ⊎_elim (λ d. inr (subst (IsShut (entry_keys log)) (sym (ap key_of d.2)) (dropped_shut script isn log node input d.0 entries i says (subst (PlaceFits script isn log) d.2 f) d.3)))
    (λ k. inl k) (stays_or_drops service node input place now sent t)

knows_on : (Goes : Place → List Place → List Packet → Type 0) (Q : Place → Type 0) (keys : List Key) (key : Key)
    → ((place : Place) (now : List Place) (sent : List Packet) → Q place → Goes place now sent → StaysOrShuts keys place now)
    → (before after : List Place) (sent : List Packet) → AllByRecursion Q before → AllGo Goes before after sent → Knows before key → IsKnownOrShut keys after key
knows_on Goes Q keys key step [] after sent q t k = absurd (true≢false (sym k))
knows_on Goes Q keys key step (place ∷ places) after sent q (now, later, first, others, places_are, sent_is, goes, rest) k =
    let whole : IsKnownOrShut keys (now ++ later) key =
    ⊎_elim
    (λ h. ⊎_elim (λ n. inl (knows_front now later key (ap (λ l. has_key key (map key_of l)) n.1 ∙ or_left (key_eq (key_of n.0) key) false (ap (λ x. key_eq x key) n.2 ∙ h))))
    (λ s. inr (subst (IsShut keys) (same_key (key_of place) key h) s)) (step place now first q.0 goes))
    (λ h. ⊎_elim (λ x. inl (knows_behind now later key x)) (λ s. inr s) (knows_on Goes Q keys key step places later others q.1 rest h))
    (or_cases (key_eq (key_of place) key) (has_key key (map key_of places)) k) in
    subst (λ l. IsKnownOrShut keys l key) (sym places_are) whole

-- a key that isn't known has no entry, so no segment with ACK comes from it
abbrev pub InputCalls : List Key → Input → Type 0
InputCalls keys (Packet_comes segment) = has_ack segment ≡ true → has_key (source_of segment) keys ≡ true
InputCalls keys _ = Unit {0}

pub input_calls : (w : World) (keys : List Key) (input : Input) → AllByRecursion (HasCaller keys) w.packets → IsBrought w input → InputCalls keys input
input_calls w keys (Packet_comes segment) a b = all_sent (HasCaller keys) w (To_server segment) a b
input_calls w keys (Message_comes message) a b = tt
input_calls w keys Noise_comes a b = tt
input_calls w keys Tick_comes a b = tt

refusals_plain : (log : Log) (node : Node) (input : Input) (places : List Place) → ((key : Key) → has_key key (entry_keys log) ≡ true → Knows places key)
    → InputCalls (entry_keys log) input → AllByRecursion (IsPlain log) (refusals node input places)
refusals_plain log node (Packet_comes segment) places g calls =
    holds_if (AllByRecursion (IsPlain log)) (is_strange node segment places) (map To_client (as_listen node.server segment)) []
    (λ t. let unknown = absent_key key_of (source_of segment) places (not_true _ (and_parts (is_for node.server segment) (not (is_known (source_of segment) places)) t).1) in
    holds_if (λ x. AllByRecursion (IsPlain log) (map To_client x)) (has_ack segment && not (has_rst segment)) (rst_at_ack node.server segment ∷ []) []
    (λ u. absurd (true≢false (sym (g (source_of segment) (calls (and_parts (has_ack segment) (not (has_rst segment)) u).0)) ∙ unknown))) (λ u. tt)) (λ t. tt)
refusals_plain log node (Message_comes message) places g calls = tt
refusals_plain log node Noise_comes places g calls = tt
refusals_plain log node Tick_comes places g calls = tt

new_ends : (log : Log) (node : Node) (input : Input) (opened : ℕ) (places : List Place) → AllByRecursion (PlaceEnds log) (newcomers node input opened places)
new_ends log node (Packet_comes segment) opened places =
    holds_if (AllByRecursion (PlaceEnds log)) (is_strange node segment places && is_syn segment && nat_lt (pending_count places) 64) (Opens (numbers_for node.profile node.isn opened segment) (timestamping_for node.profile segment) ∷ []) []
    (λ t. (tt, tt)) (λ t. tt)
new_ends log node (Message_comes message) opened places = tt
new_ends log node Noise_comes opened places = tt
new_ends log node Tick_comes opened places = tt

-- what a turn sends, and what the server knows after it
abbrev pub IsFair : Log → ℕ → List Place → Packet → Type 0
IsFair log boot places packet = ResetsEnded log packet × Asks boot (entry_keys log) places packet

pub plain_fair : (log : Log) (boot : ℕ) (places : List Place) (packet : Packet) → IsPlain log packet → IsFair log boot places packet
plain_fair log boot places packet p = (p.0, plain_asks boot (entry_keys log) places packet p.1)

abbrev pub Goes : Log → List Packet → ℕ → List Place → List Packet → Type 0
Goes log packets boot places sent = KnowsAll log (packets ++ sent) boot places × AllByRecursion (ResetsEnded log) sent

pub knows_after : (log : Log) (packets : List Packet) (boot : ℕ) (places : List Place) (sent : List Packet) → AllByRecursion (Asks boot (entry_keys log) places) packets
    → ((key : Key) → has_key key (entry_keys log) ≡ true → Knows places key) → AllByRecursion (PlaceEnds log) places → AllByRecursion (IsFair log boot places) sent
    → Goes log packets boot places sent
knows_after log packets boot places sent asks keys ends fair = (
  record {
    asks = all_append (Asks boot (entry_keys log) places) packets sent asks (all_weaker (IsFair log boot places) _ sent (λ p f. f.1) fair);
    keys = keys;
    ends = ends;
  },
  all_weaker (IsFair log boot places) _ sent (λ p f. f.0) fair,
)

pub serving_knows : {State : Type 0} (service : Machine State) (script : Key → List ℕ) (isn : Key → ℕ) (log : Log) (packets : List Packet) (node : Node) (input : Input) (opened : ℕ)
    (places later : List Place) (sent : List Packet) → EntriesFit script isn log.entries → InputFits script isn log input → InputSays log input
    → InputCalls (entry_keys log) input → AllByRecursion (PlaceFits script isn log) places → KnowsAll log packets node.boot places → ServingTurn service node input opened places later sent
    → Goes log packets node.boot later sent
serving_knows service script isn log packets node input opened places later sent entries i says calls fits k t =
    let fair : Packet → Type 0 = IsFair log node.boot later in
    let new : List Place = newcomers node input opened places in
    let went = all_proceed (PlaceTurn service node input) (λ x. PlaceFits script isn log x × PlaceEnds log x) (PlaceEnds log) (IsPlain log)
    (λ place now some q x. place_knows service script isn log node input entries i says place now some q (place_went service node input place now some x))
    places t.went t.by_places (all_both (PlaceFits script isn log) (PlaceEnds log) _ places (λ p a b. (a, b)) fits k.ends) t.all_go in
    let on : (key : Key) → Knows places key → IsKnownOrShut (entry_keys log) later key =
    λ key h. ⊎_elim (λ x. inl (subst (λ l. Knows l key) (sym t.places) (knows_front t.went new key x))) (λ s. inr s)
    (knows_on (PlaceTurn service node input) (PlaceFits script isn log) (entry_keys log) key
    (λ place now some f x. place_stays service script isn log node input entries i says place now some f (place_went service node input place now some x))
    places t.went t.by_places fits t.all_go h) in
    knows_after log packets node.boot later sent
    (all_weaker (Asks node.boot (entry_keys log) places) _ packets (asks_on node.boot (entry_keys log) (entry_keys log) places later (λ key m. ⊎_elim (on key) (λ s. inr s) m)) k.asks)
    (λ key h. ⊎_elim (λ x. x) (λ s. absurd (true≢false (sym h ∙ s.0))) (on key (k.keys key h)))
    (subst (AllByRecursion (PlaceEnds log)) (sym t.places) (all_append (PlaceEnds log) t.went new went.0 (new_ends log node input opened places)))
    (subst (AllByRecursion fair) (sym t.packets)
    (all_append fair t.by_places _ (all_weaker (IsPlain log) fair t.by_places (plain_fair log node.boot later) went.1)
    (all_append fair (refusals node input places) _
    (all_weaker (IsPlain log) fair (refusals node input places) (plain_fair log node.boot later) (refusals_plain log node input places k.keys calls))
    (all_flat (λ place. Knows later (key_of place)) fair (opens_at node input) later
    (asks_so node input (λ place. Knows later (key_of place)) fair (λ numbers s r. (tt, λ e. inl r))) (each_known later)))))
