-- No RST goes to a client whose entry is in the log and not done, in any moment of a long trace in which the server doesn't hear that the log is full.
use Rattle.std.proofs.Common.{◌≡◌, ℕ, suc, Bool, true, false, refl, sym, ap, ◌∙◌, subst, true≢false, inl, inr, ⊎_elim, Result, Ok, Err, Option, Some, None, option_to_list, List, [], ◌∷◌, ◌++◌, length}
use Rattle.std.specs.List.{AllByRecursion, list_any}
use Rattle.std.proofs.lemmas.Bool.{or_parts}
use Rattle.ft_io.specs.declared.Addr.{Addr}
use Rattle.ft_io.specs.declared.Key.{Key}
use Rattle.ft_io.specs.Key.{key_eq}
use Rattle.seq_arith.specs.Packet.{Segment}
use Rattle.seq_arith.specs.Message.{Body}
use Rattle.seq_arith.specs.Message.Body.{OpenMsg, EndedMsg}
use Rattle.seq_arith.specs.declared.BadPacket.{BadPacket}
use Rattle.server_trait.specs.Service.{Machine}
use Rattle.ft_model.specs.Client.{Client}
use Rattle.ft_model.specs.Log.{Log, Entry, entry_of}
use Rattle.ft_model.specs.Network.{Packet, packet_at, source_of, destination_of}
use Rattle.ft_model.specs.Network.Packet.{To_server, To_client, To_logger, From_logger}
use Rattle.ft_model.specs.Node.{Node, Place, Stage, Input, key_of, place_at}
use Rattle.ft_model.specs.Node.Place.{Opens, Lives, Ended}
use Rattle.ft_model.specs.Node.Stage.{Asking, Fetching, Serving, Fenced}
use Rattle.ft_model.specs.Node.Input.{Packet_comes, Message_comes, Noise_comes, Tick_comes}
use Rattle.ft_model.specs.Point.{Point}
use Rattle.ft_model.specs.Resets.{ResetsNoLogged}
use Rattle.ft_model.specs.World.{World, Happens, IsStart, ServerTurn, ServerMoves, Delivered, Flipped, ClientReads, Moves}
use Rattle.ft_model.specs.declared.event.Event.{Event}
use Rattle.ft_model.specs.declared.event.Event.TheVariants.{Boot, Crash, Tick, Deliver, Flip, Begin, Send, Fin, Ack, Reset, Stop}
use Rattle.ft_model.proofs.Authored.{Speaks}
use Rattle.ft_model.proofs.AuthorTurns.{is_settled}
use Rattle.ft_model.proofs.Backed.{PacketBacked}
use Rattle.ft_model.proofs.Happened.{Happened, IsBrought, IsUnderWay, happened, flip_is_quiet, bit_changed, message_bit_changed, segment_is_noise, message_is_noise}
use Rattle.ft_model.proofs.Happened.Happened.{server_turned}
use Rattle.ft_model.proofs.Lists.{all_both, all_weaker, all_append, all_find, none_is_some, some_is, same_key}
use Rattle.ft_model.proofs.LogAnswers.{all_answers}
use Rattle.ft_model.proofs.Refused.{IsDone}
use Rattle.ft_model.proofs.Running.{HasSmallOutputs}
use Rattle.ft_model.proofs.Seen.{IsSeen}
use Rattle.ft_model.proofs.StageTurns.{stage_went}
use Rattle.long_laws.specs.LongTrace.{LongWorld, LongStep, LongMoment, LongJoint, MayPass, long_after, others, is_about, concerns, places_at, stage_without, without_entry, recycled, forgotten, with_new, MayForget, MayArrive, LetsGo, SendsKeepAlive, last_rst, keep_alive}
use Rattle.long_laws.specs.LongTrace.LongStep.{Joint_event, Recycles, Forgets, Arrives, Lets_go, Keeps_alive}
use Rattle.long_laws.specs.LongResets.{is_full, brings_full, receives_full}
use Rattle.long_laws.proofs.Again.{none_there, all_others_fail}
use Rattle.long_laws.proofs.Answered.{IsReceived, IsCaller, asks_for, opens_key, IsOver, PlaceOver, BodyEnds, SaysEnded, is_full_input, IsThere, each_there}
use Rattle.long_laws.proofs.Answering.{StageAnswers, IsAnswering, Spares, turn_answers, over_still, stage_still, answering_proceeds}
use Rattle.long_laws.proofs.Forgotten.{was}
use Rattle.long_laws.proofs.LetGo.{with_packets, with_rst}
use Rattle.long_laws.proofs.Long.{all_stand}
use Rattle.long_laws.proofs.Others.{all_others, find_others, settled_others, last_there, all_but_one}
use Rattle.long_laws.proofs.Stands.{Stands}
use Rattle.tcp_rules.specs.Profile.{grammar_of}

-- An entry is recycled
module _ (key : Key) (log : Log) (clients : List Client) (packets : List Packet) where
  abbrev now : Log
  now = without_entry key log

  entry_here : (k : Key) → key_eq k key ≡ false → entry_of k log ≡ entry_of k now
  entry_here k a = sym (find_others (λ e. e.key) key k log.entries a)

  done_here : (k : Key) → key_eq k key ≡ false → IsDone log k → IsDone now k
  done_here k a d = (d.0, sym (entry_here k a) ∙ d.1, d.2)

  ended_here : (body : Body) → is_about key body ≡ false → BodyEnds log body → BodyEnds now body
  ended_here (EndedMsg k) a s = done_here k a s
  ended_here _ a s = tt

  pub says_here : (p : Packet) → concerns key p ≡ false → SaysEnded log p → SaysEnded now p
  says_here (From_logger message) a s = ended_here message.body a s
  says_here (To_server segment) a s = tt
  says_here (To_client segment) a s = tt
  says_here (To_logger message) a s = tt

  asks_here : (body : Body) → is_about key body ≡ false → asks_for key body ≡ false
  asks_here (OpenMsg n) a = a
  asks_here _ a = refl

  opens_here : (p : Packet) → concerns key p ≡ false → opens_key key p ≡ false
  opens_here (To_logger message) a = asks_here message.body a
  opens_here (To_server segment) a = refl
  opens_here (To_client segment) a = refl
  opens_here (From_logger message) a = refl

  gone_here : IsOver now (others (concerns key) packets) key
  gone_here = inr (
    none_there (λ e. key_eq e.key key) log.entries,
    all_weaker (λ p. concerns key p ≡ false) (λ p. opens_key key p ≡ false) (others (concerns key) packets) opens_here (all_others_fail (concerns key) packets),
  )

  over_by : (k : Key) (b : Bool) → key_eq k key ≡ b → IsOver log packets k → IsOver now (others (concerns key) packets) k
  over_by k true e o = subst (IsOver now (others (concerns key) packets)) (sym (same_key k key e)) gone_here
  over_by k false e (inl d) = inl (done_here k e d)
  over_by k false e (inr n) = inr (sym (entry_here k e) ∙ n.0, all_others (λ p. opens_key k p ≡ false) (λ p. opens_key k p ≡ false) (concerns key) packets (λ p a x. x) n.1)

  over_here : (place : Place) → PlaceOver log packets place → PlaceOver now (others (concerns key) packets) place
  over_here (Ended k) o = over_by k (key_eq k key) refl o
  over_here (Lives p) o = tt
  over_here (Opens n timestamping) o = tt

  pub stage_here : (stage : Stage) → StageAnswers log clients packets stage → StageAnswers now (others (λ c. key_eq c.key key) clients) (others (concerns key) packets) stage
  stage_here (Serving opened places) k = record {
    receipt = all_others (IsReceived places) (IsReceived places) (concerns key) packets (λ p a h. h) k.receipt;
    callers = all_others (IsCaller places) (IsCaller places) (λ c. key_eq c.key key) clients (λ c a f. f) k.callers;
    over = all_weaker (PlaceOver log packets) (PlaceOver now (others (concerns key) packets)) places over_here k.over;
  }
  stage_here Asking k = tt
  stage_here (Fetching count fetched) k = tt
  stage_here (Fenced newer) k = tt

answering_without : (key : Key) (w : World) → IsAnswering w → IsAnswering (recycled key w)
answering_without key w k = record {
  says = all_others (SaysEnded w.log) (SaysEnded (without_entry key w.log)) (concerns key) w.packets (says_here key w.log w.clients w.packets) k.says;
  stage = λ n e. stage_here key w.log w.clients w.packets n.stage (k.stage n e);
}

-- The server forgets a key: it has no entry, so nobody who has one loses a connection
module _ {State : Type 0} (service : Machine State) (key : Key) (w : World) (o : Stands service w) (may : MayForget key w) where
  abbrev left : List Place → List Place
  left places = others (λ p. key_eq (key_of p) key) places

  settled_left : (places : List Place) (k : Key) (e : Entry) (b : Bool) → key_eq k key ≡ b → entry_of k w.log ≡ Some e → is_settled k places ≡ true → is_settled k (left places) ≡ true
  settled_left places k e true t f s = none_is_some e (sym may.absent ∙ (sym (ap (λ x. entry_of x w.log) (same_key k key t)) ∙ f))
  settled_left places k e false t f s = settled_others key k places t s

  received_left : (places : List Place) (p : Packet) → PacketBacked service o.script w.log p × Speaks service o.script w.log p → IsReceived places p → IsReceived (left places) p
  received_left places (To_server segment) x h = λ a. let y = x.0 a in settled_left places (source_of segment) y.0 (key_eq (source_of segment) key) refl y.1 (h a)
  received_left places (To_client segment) x h = λ r. let y = x.1 r in settled_left places (destination_of segment) y.entry (key_eq (destination_of segment) key) refl y.found (h r)
  received_left places (To_logger message) x h = tt
  received_left places (From_logger message) x h = tt

  caller_left : (places : List Place) (c : Client) → IsSeen service o.script w.log c → IsCaller places c → IsCaller (left places) c
  caller_left places c s f = λ x. let y = s.sisn x in settled_left places c.key y.0 (key_eq c.key key) refl y.1 (f x)

  stage_left : (stage : Stage) → StageAnswers w.log w.clients w.packets stage → StageAnswers w.log w.clients w.packets (stage_without key stage)
  stage_left (Serving opened places) k = record {
    receipt = all_both (λ p. PacketBacked service o.script w.log p × Speaks service o.script w.log p) (IsReceived places) (IsReceived (left places)) w.packets (received_left places)
        (all_both (PacketBacked service o.script w.log) (Speaks service o.script w.log) _ w.packets (λ p a b. (a, b)) o.backed.packets o.author.spoken) k.receipt;
    callers = all_both (IsSeen service o.script w.log) (IsCaller places) (IsCaller (left places)) w.clients (caller_left places) o.sees k.callers;
    over = all_others (PlaceOver w.log w.packets) (PlaceOver w.log w.packets) (λ p. key_eq (key_of p) key) places (λ x t p. p) k.over;
  }
  stage_left Asking k = tt
  stage_left (Fetching count fetched) k = tt
  stage_left (Fenced newer) k = tt

  pub answering_forgotten : IsAnswering w → IsAnswering (forgotten key w)
  answering_forgotten k = record {
    says = k.says;
    stage = λ n e. let b = was key w.node n e in subst (λ m. StageAnswers w.log w.clients w.packets m.stage) (sym b.is) (stage_left b.node.stage (k.stage b.node b.up));
  }

-- A new client has no open connection
with_caller : (log : Log) (clients : List Client) (packets : List Packet) (c : Client) (stage : Stage) → ((places : List Place) → IsCaller places c) → StageAnswers log clients packets stage
    → StageAnswers log (clients ++ c ∷ []) packets stage
with_caller log clients packets c (Serving opened places) f k =
    record { receipt = k.receipt; callers = all_append (IsCaller places) clients (c ∷ []) k.callers (f places, tt); over = k.over }
with_caller log clients packets c Asking f k = tt
with_caller log clients packets c (Fetching count fetched) f k = tt
with_caller log clients packets c (Fenced newer) f k = tt

answering_arrived : (c : Client) (w : World) → MayArrive c w → IsAnswering w → IsAnswering (with_new c w)
answering_arrived c w may k = record {
  says = k.says;
  stage = λ n e. with_caller w.log w.clients w.packets c n.stage (λ places. subst (IsCaller places) (sym may.new.new) (λ x. absurd (true≢false (sym x)))) (k.stage n e);
}

-- The server lets go of a client: a turn on a RST that nobody sent
with_one : (w : World) (server : Addr) (p : Point) → IsAnswering w → IsAnswering (with_packets w (w.packets ++ To_server (last_rst server p) ∷ []))
with_one w server p k = record {
  says = all_append (SaysEnded w.log) w.packets (To_server (last_rst server p) ∷ []) k.says (tt, tt);
  stage = λ n e. stage_still w.log w.clients w.clients w.packets (To_server (last_rst server p) ∷ []) n.stage (λ key. (refl, tt))
      (λ places a. (((λ x. absurd (true≢false (sym x))), tt), a.callers)) (k.stage n e);
}

over_less : (log : Log) (xs ys : List Packet) (rst : Segment) (place : Place) → PlaceOver log ((xs ++ To_server rst ∷ []) ++ ys) place → PlaceOver log (xs ++ ys) place
over_less log xs ys rst (Ended key) o = ⊎_elim (λ d. inl d) (λ n. inr (n.0, all_but_one (λ p. opens_key key p ≡ false) xs ys (To_server rst) n.1)) o
over_less log xs ys rst (Lives p) o = tt
over_less log xs ys rst (Opens n timestamping) o = tt

stage_less : (log : Log) (clients : List Client) (xs ys : List Packet) (rst : Segment) (stage : Stage) → StageAnswers log clients ((xs ++ To_server rst ∷ []) ++ ys) stage
    → StageAnswers log clients (xs ++ ys) stage
stage_less log clients xs ys rst (Serving opened places) k = record {
  receipt = all_but_one (IsReceived places) xs ys (To_server rst) k.receipt;
  callers = k.callers;
  over = all_weaker (PlaceOver log ((xs ++ To_server rst ∷ []) ++ ys)) (PlaceOver log (xs ++ ys)) places (over_less log xs ys rst) k.over;
}
stage_less log clients xs ys rst Asking k = tt
stage_less log clients xs ys rst (Fetching count fetched) k = tt
stage_less log clients xs ys rst (Fenced newer) k = tt

without_one : (w : World) (xs ys : List Packet) (rst : Segment) → IsAnswering (with_packets w ((xs ++ To_server rst ∷ []) ++ ys)) → IsAnswering (with_packets w (xs ++ ys))
without_one w xs ys rst k = record {
  says = all_but_one (SaysEnded w.log) xs ys (To_server rst) k.says;
  stage = λ n e. stage_less w.log w.clients xs ys rst n.stage (k.stage n e);
}

abbrev Fine : World → List Packet → Type 0
Fine after sent = IsAnswering after × AllByRecursion (ResetsNoLogged after.log) sent

let_go_answering : {State : Type 0} (service : Machine State) (key : Key) (w : World) (sent : List Packet) (after : World) → Stands service w → IsAnswering w → LetsGo service key w sent after → Fine after sent
let_go_answering service key w sent after o k l =
    let rst : Segment = last_rst l.node.server l.point in
    let there : World = with_packets w (w.packets ++ To_server rst ∷ []) in
    let then_ : World = record w { node = Some l.later; packets = (w.packets ++ To_server rst ∷ []) ++ sent } in
    let brought : IsBrought there (Packet_comes rst) = (suc (length w.packets), last_there w.packets (To_server rst)) in
    let turn : Happened service there sent then_ = server_turned (Packet_comes rst) l.node l.later brought l.up l.turn refl in
    let stands : Stands service there = with_rst service w l.node.server l.point o in
    let answers : IsAnswering there = with_one w l.node.server l.point k in
    let t = turn_answers service there l.node (Packet_comes rst) sent l.later.stage stands answers l.up brought (stage_went service l.node l.later (Packet_comes rst) sent l.turn) in
    subst (λ x. Fine x sent) (sym l.after_is) (
      without_one (record w { node = Some l.later }) w.packets sent rst (answering_proceeds service there sent then_ stands answers turn),
      all_weaker (Spares false w.log) (ResetsNoLogged w.log) sent (λ p f. f refl) t.1,
    )

-- The server asks a client of a live connection for a sign of life
stage_kept : (log : Log) (clients : List Client) (packets : List Packet) (server : Addr) (p : Point) (key : Key) (stage : Stage) → place_at key (places_at stage) ≡ Some (Lives p)
    → StageAnswers log clients packets stage → StageAnswers log clients (packets ++ To_client (keep_alive server p) ∷ []) stage
stage_kept log clients packets server p key (Serving opened places) at k =
    let there : is_settled p.key places ≡ true = all_find (IsThere places) (λ place. key_eq (key_of place) key) places (Lives p) (each_there places) at in
    record {
      receipt = all_append (IsReceived places) packets (To_client (keep_alive server p) ∷ []) k.receipt ((λ r. there), tt);
      callers = k.callers;
      over = all_weaker (PlaceOver log packets) _ places (over_still log packets (To_client (keep_alive server p) ∷ []) (λ key. (refl, tt))) k.over;
    }
stage_kept log clients packets server p key Asking at k = tt
stage_kept log clients packets server p key (Fetching count fetched) at k = tt
stage_kept log clients packets server p key (Fenced newer) at k = tt

kept_answering : {State : Type 0} (service : Machine State) (key : Key) (w : World) (sent : List Packet) (after : World) → IsAnswering w → SendsKeepAlive key w sent after → Fine after sent
kept_answering service key w sent after k l =
    let one : Packet = To_client (keep_alive l.node.server l.point) in
    subst (λ x. Fine x sent) (sym l.after_is) (
      record {
        says = all_append (SaysEnded w.log) w.packets (one ∷ []) k.says (tt, tt);
        stage = λ n e. stage_kept w.log w.clients w.packets l.node.server l.point key n.stage
            (subst (λ m. place_at key (places_at m.stage) ≡ Some (Lives l.point)) (some_is l.node n (sym l.up ∙ e)) l.lives) (k.stage n e);
      },
      subst (AllByRecursion (ResetsNoLogged w.log)) (sym l.sent_is) ((λ r. absurd (true≢false (sym r))), tt),
    )

-- What an event sends

turn_spares : {State : Type 0} (service : Machine State) (w : World) (input : Input) (sent : List Packet) (o : Option Node) (later : Option Node) → Stands service w → IsAnswering w → w.node ≡ o
    → IsBrought w input → is_full_input input ≡ false → ServerTurn service input o sent later → AllByRecursion (ResetsNoLogged w.log) sent
turn_spares service w input sent None later o k e brought full t = subst (AllByRecursion (ResetsNoLogged w.log)) (sym t.0) tt
turn_spares service w input sent (Some node) later o k e brought full t =
    all_weaker (Spares (is_full_input input) w.log) (ResetsNoLogged w.log) sent (λ p f. f full)
    (turn_answers service w node input sent t.0.stage o k e brought (stage_went service node t.0 input sent t.2)).1

module _ {State : Type 0} (service : Machine State) (before : World) (o : Stands service before) (k : IsAnswering before) (sent : List Packet) (after : World) where
  abbrev All : Type 0
  All = AllByRecursion (ResetsNoLogged after.log) sent

  nothing : sent ≡ [] → All
  nothing e = subst (AllByRecursion (ResetsNoLogged after.log)) (sym e) tt

  server_spares : (input : Input) → IsBrought before input → is_full_input input ≡ false → ServerMoves service input before sent after → All
  server_spares input brought full m =
      subst (λ l. AllByRecursion (ResetsNoLogged l) sent) (sym (ap (λ x. x.log) m.1))
      (turn_spares service before input sent before.node after.node o k refl brought full m.0)

  moved_spares : (number : ℕ) → Moves before number sent after → All
  moved_spares number m = subst (AllByRecursion (ResetsNoLogged after.log)) (sym m.sent_is) (tt, tt)

  delivered_spares : (packet : Packet) → IsUnderWay before packet → is_full packet ≡ false → Delivered service before packet sent after → All
  delivered_spares (To_server segment) under full d = server_spares (Packet_comes segment) under refl d
  delivered_spares (To_client segment) under full d = nothing d.0
  delivered_spares (To_logger message) under full d =
      subst (AllByRecursion (ResetsNoLogged after.log)) (sym d.0) (all_answers (ResetsNoLogged after.log) before.log message (λ body a. tt))
  delivered_spares (From_logger message) under full d = server_spares (Message_comes message) under full d

  -- a packet with a changed bit is noise
  noise_spares : (input : Input) → input ≡ Noise_comes → ServerMoves service input before sent after → All
  noise_spares input e m = server_spares Noise_comes tt refl (subst (λ i. ServerMoves service i before sent after) e m)

  client_silent : (key : Key) (r : Result Segment BadPacket) → ClientReads key r before sent after → sent ≡ []
  client_silent key (Ok segment) n = n.0
  client_silent key (Err why) n = n.0

  flipped_spares : (packet : Packet) (bit : ℕ) → Flipped service before packet bit sent after → All
  flipped_spares (To_server segment) bit f = noise_spares _ (segment_is_noise _ (bit_changed bit segment f.wire f.within)) f.comes
  flipped_spares (To_client segment) bit f = nothing (client_silent (destination_of segment) _ f.comes)
  flipped_spares (To_logger message) bit f = nothing (flip_is_quiet service before message bit sent after f).0
  flipped_spares (From_logger message) bit f = noise_spares _ (message_is_noise _ (message_bit_changed (grammar_of before.profile) bit message f.wire f.within)) f.comes

  not_full : (number : ℕ) (packet : Packet) → packet_at before.packets number ≡ Some packet → brings_full before (Deliver number) ≡ false → is_full packet ≡ false
  not_full number packet at full = (or_parts (is_full packet) false (sym (ap (λ x. list_any is_full (option_to_list x)) at) ∙ full)).0

  pub event_spares : (event : Event) → brings_full before event ≡ false → Happens service before event sent after → All
  event_spares (Boot boot isn) full h = subst (AllByRecursion (ResetsNoLogged after.log)) (sym h.2) (tt, tt)
  event_spares Crash full h = nothing h.1
  event_spares Tick full h = server_spares Tick_comes tt refl h.1
  event_spares (Deliver number) full h = delivered_spares h.0 (number, h.1) (not_full number h.0 h.1 full) h.2
  event_spares (Flip number bit) full h = flipped_spares h.0 bit h.2
  event_spares (Begin client window) full h = moved_spares client h
  event_spares (Send client from len) full h = moved_spares client h
  event_spares (Fin client) full h = moved_spares client h
  event_spares (Ack client window) full h = moved_spares client h
  event_spares (Reset client) full h = moved_spares client h
  event_spares (Stop part) full h = absurd h

-- Each step of a long trace
module _ {State : Type 0} (service : Machine State) (before after : LongWorld) (sent : List Packet) (o : Stands service before.now) (k : IsAnswering before.now) where
  pub step_answers : (step : LongStep) → MayPass service before step sent after → IsAnswering after.now
  step_answers (Joint_event event) h =
      ⊎_elim (λ x. answering_proceeds service before.now sent after.now o k x) (λ q. subst IsAnswering (sym q.1) k) (happened service before.now event sent after.now h.0)
  step_answers (Recycles key) h = subst IsAnswering (sym h.2) (answering_without key before.now k)
  step_answers (Forgets key) h = subst IsAnswering (sym h.2) (answering_forgotten service key before.now o h.0 k)
  step_answers (Arrives c) h = subst IsAnswering (sym h.2) (answering_arrived c before.now h.0 k)
  step_answers (Lets_go key) h = (let_go_answering service key before.now sent after.now o k h.0).0
  step_answers (Keeps_alive key) h = (kept_answering service key before.now sent after.now k h.0).0

  pub step_spares : (step : LongStep) → receives_full before.now step ≡ false → MayPass service before step sent after → AllByRecursion (ResetsNoLogged after.now.log) sent
  step_spares (Joint_event event) full h = event_spares service before.now o k sent after.now event full h.0
  step_spares (Recycles key) full h = subst (AllByRecursion (ResetsNoLogged after.now.log)) (sym h.1) tt
  step_spares (Forgets key) full h = subst (AllByRecursion (ResetsNoLogged after.now.log)) (sym h.1) tt
  step_spares (Arrives c) full h = subst (AllByRecursion (ResetsNoLogged after.now.log)) (sym h.1) tt
  step_spares (Lets_go key) full h = (let_go_answering service key before.now sent after.now o k h.0).1
  step_spares (Keeps_alive key) full h = (kept_answering service key before.now sent after.now k h.0).1

start_answering : (w : World) → IsStart w → IsAnswering w
start_answering w s = record { says = subst (AllByRecursion (SaysEnded w.log)) (sym s.packets) tt; stage = λ n e. none_is_some n (sym s.node ∙ e) }

pub all_answering : {State : Type 0} (service : Machine State) → HasSmallOutputs service → (start : World) (trace : List LongMoment) → LongJoint service start trace → IsAnswering (long_after start trace).now
all_answering service small start [] j = start_answering start j
all_answering service small start (moment ∷ earlier) j =
    step_answers service (long_after start earlier) moment.world moment.sent (all_stand service small start earlier j.0).0 (all_answering service small start earlier j.0) moment.step j.1

-- .. and each moment
pub moment_spares : {State : Type 0} (service : Machine State) → HasSmallOutputs service → (start : World) (moment : LongMoment) (earlier : List LongMoment) → LongJoint service start (moment ∷ earlier)
    → receives_full (long_after start earlier).now moment.step ≡ false → AllByRecursion (ResetsNoLogged moment.world.now.log) moment.sent
moment_spares service small start moment earlier j full =
    step_spares service (long_after start earlier) moment.world moment.sent (all_stand service small start earlier j.0).0 (all_answering service small start earlier j.0) moment.step full j.1
