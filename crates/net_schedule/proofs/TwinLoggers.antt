-- What the code's loggers do with bytes that arrive is what the definitions' loggers do.
use Rattle.std.proofs.Common.{◌≡◌, ◌∙◌, sym, ap, ap₂, subst, refl, ℕ, ◌+◌, ◌≤◌, Bool, true, false, true≢false, List, [], ◌∷◌, ◌++◌, drop, length, if◌then◌else◌, nat_lt, nat_le, ◌==◌, ◌&&◌, not, Result, Ok, Err, le_refl, length-append, arith}
use Rattle.std.specs.List.{AllByRecursion}
use Rattle.ft_io.proofs.Choices.{holds_either_way}
use Rattle.ft_io.specs.declared.Key.{Key}
use Rattle.seq_arith.specs.Message.{Message, is_answer}
use Rattle.seq_arith.specs.MessageGrammar.{reading_by}
use Rattle.seq_arith.specs.declared.kinds.BadMsg.{BadMsg}
use Rattle.seq_arith.specs.declared.kinds.Grammar.{Grammar}
use Rattle.server_trait.specs.Service.{Machine}
use Rattle.tcp_rules.specs.Profile.{grammar_of}
use Rattle.ft_model.specs.Log.{Log, answer_to}
use Rattle.logger_store.specs.StoreState.{answer_bytes_by}
use Rattle.ft_model.specs.Network.Packet.{To_server, To_client, To_logger, From_logger}
use Rattle.ft_model.specs.declared.way.Way.{Way}
use Rattle.ft_model.specs.declared.way.Way.TheVariants.{ClientToServer, ServerToClient, ServerToLogger, LoggerToServer, HeadToTail, TailToHead}
use Rattle.mark_store.specs.Refinement.{TrimmedAtMarks}
use Rattle.twin_laws.specs.declared.part.Part.{Part}
use Rattle.twin_laws.specs.declared.part.Part.TheVariants as parts
use Rattle.twin_laws.specs.declared.part.Side.{Side}
use Rattle.twin_laws.specs.declared.part.Side.TheVariants as sides
use Rattle.twin_laws.specs.Twin.{Request, Comes, Head, Tail, Does, nothing, has_room, with_taken, head_takes, is_wide, waits, waiting, numbered, sends_waiting, head_paired, head_alone, confirmed_to, head_does, tail_alone, applies_next, confirms_again, tail_applies, tail_does}
use Rattle.twin_laws.specs.Twin.Between.{Forward, Got}
use Rattle.twin_laws.specs.Twin.Comes.{Asks, Reports, Is_noise}
use Rattle.twin_laws.specs.StoredState.{kept_head, kept_tail, kept_does, comes_from, in_bytes}
use Rattle.twin_laws.specs.Pair.{Pair, IsPaired, head_has, tail_has}
use Rattle.twin_laws.specs.TwinWorld.{Parcel, TwinWorld, HeadHas, TailHas, LoggerHas, serving, sent_by}
use Rattle.twin_laws.specs.TwinWorld.Parcel.{Outside, Inside}
use Rattle.twin_laws.proofs.StoredParts.{head_does_so, tail_does_so}
use Rattle.schedule_network.specs.StoredPackets.{Carried, with_answer}
use Rattle.net_schedule.specs.Delivery.{with_logs}
use Rattle.schedule_network.specs.Loggers.{Loggers, serving_log, with_datagrams, head_receives, tail_receives, front_receives, pair_receives}
use Rattle.schedule_network.specs.Logs.{ReceivesIn, keepers_in, log_reads, log_receives}
use Rattle.schedule_network.specs.Logs.Keepers.{Single, Paired, With_marks}
use Rattle.net_schedule.specs.Refinement.{Kept}
use Rattle.net_schedule.specs.TwinRefinement.{stored_way, carried_parcels, LoggersStand, TwinWorldStands, TwinProceeds, ParcelComesAs}
use Rattle.schedule_network.specs.declared.logs.Logs.{Logs}
use Rattle.schedule_network.specs.declared.logs.Logs.TheVariants.{One, Two, Marked}
use Rattle.net_schedule.proofs.Parcels.{GoesFrom, datagrams_after, datagrams_grow, none_after}

-- a head only forwards, and a tail only confirms
numbered_forward : (n : ℕ) (rs : List Request) → AllByRecursion (GoesFrom parts.Head) (numbered n rs)
numbered_forward n [] = tt
numbered_forward n (r ∷ rs) = (tt, numbered_forward (n + 1) rs)

abbrev Sends : {State : Type 0} → Part → Does State → Type 0
Sends part d = AllByRecursion (GoesFrom part) d.to_other

head_forwards : (c : Comes) (h : Head) → Sends parts.Head (head_does c h)
head_forwards (Asks r) h =
    holds_either_way (Sends parts.Head) h.alone (head_alone r h) (head_paired r h) tt
    (holds_either_way (Sends parts.Head) (is_answer r.message.body) (nothing h) (if has_room h then head_takes r h else sends_waiting h) tt
    (holds_either_way (Sends parts.Head) (has_room h) (head_takes r h) (sends_waiting h)
    (holds_either_way (AllByRecursion (GoesFrom parts.Head)) (is_wide r.bytes && not (waits r h)) (Forward (length h.taken + 1) r ∷ []) (waiting (with_taken r h)) (tt, tt)
    (numbered_forward h.confirmed (drop h.confirmed (h.taken ++ r ∷ []))))
    (numbered_forward h.confirmed (drop h.confirmed h.taken))))
head_forwards (Reports (Got number)) h = holds_either_way (Sends parts.Head) h.alone (nothing h) (nothing (confirmed_to number h)) tt tt
head_forwards (Reports (Forward number r)) h = tt
head_forwards Is_noise h = tt

tail_confirms : (c : Comes) (t : Tail) → Sends parts.Tail (tail_does c t)
tail_confirms (Asks r) t = holds_either_way (Sends parts.Tail) t.alone (tail_alone r t) (nothing t) tt tt
tail_confirms (Reports (Forward number r)) t =
    holds_either_way (Sends parts.Tail) t.alone (nothing t) (tail_applies number r t) tt
    (holds_either_way (Sends parts.Tail) (number == t.applied + 1) (applies_next r t) _ (tt, tt)
    (holds_either_way (Sends parts.Tail) (nat_le number t.applied) (confirms_again t) (nothing t) (tt, tt) tt))
tail_confirms (Reports (Got number)) t = tt
tail_confirms Is_noise t = tt

-- the loggers and the packets stand at a pair, and at the parcels
abbrev ReceivedAt : Grammar → List Key → List Parcel → Loggers × Carried → Pair → List Parcel → Type 0
ReceivedAt grammar keys before h pair sent = LoggersStand grammar h.0 pair × (h.1 ≡ carried_parcels grammar keys (before ++ sent))

-- two choices by what is the same
alike_if : {X Y Z : Type 0} (P : X → Y → Z → Type 0) (b c : Bool) (x x' : X) (y y' : Y) (z z' : Z) → c ≡ b → P x y z → P x' y' z'
    → P (if c then x else x') (if b then y else y') (if b then z else z')
alike_if P true true x x' y y' z z' e p q = p
alike_if P false false x x' y y' z z' e p q = q
alike_if P true false x x' y y' z z' e p q = absurd (true≢false (sym e))
alike_if P false true x x' y y' z z' e p q = absurd (true≢false e)

module _ (grammar : Grammar) (keys : List Key) (before : TwinWorld) (l : Loggers) (kept : Carried) (stand : LoggersStand grammar l before.pair) (paired : IsPaired before.pair)
    (stored : kept ≡ carried_parcels grammar keys before.parcels) where
  head_received : (from : Side) (bytes : List ℕ)
      → ReceivedAt grammar keys before.parcels (head_receives from bytes (l, kept)) (head_has (comes_from grammar from bytes) before.pair)
      (if before.pair.head_stopped then [] else sent_by (head_does (comes_from grammar from bytes) before.pair.head))
  head_received from bytes =
      let p : Pair = before.pair in
      let d : Does Head = head_does (comes_from grammar from bytes) before.pair.head in
      let does : kept_does from bytes l.head ≡ in_bytes (kept_head grammar) (head_does (comes_from grammar from bytes) before.pair.head) =
      ap (kept_does from bytes) stand.head ∙ head_does_so grammar from bytes before.pair.head paired.confirmed in
      alike_if (ReceivedAt grammar keys before.parcels) p.head_stopped l.tail.alone (l, kept) _ p _ [] (sent_by d) (ap (λ k. k.alone) stand.tail ∙ paired.tail_alone)
      (stand, none_after grammar keys kept before.parcels stored) (
        record { head = ap (λ k. k.next) does; tail = stand.tail },
        ap (λ k. with_datagrams parts.Head kept k.sent) does ∙ datagrams_after grammar keys parts.Head kept before.parcels d (head_forwards (comes_from grammar from bytes) p.head) stored,
      )

  tail_received : (from : Side) (bytes : List ℕ)
      → ReceivedAt grammar keys before.parcels (tail_receives from bytes (l, kept)) (tail_has (comes_from grammar from bytes) before.pair)
      (if before.pair.tail_stopped then [] else sent_by (tail_does (comes_from grammar from bytes) before.pair.tail))
  tail_received from bytes =
      let p : Pair = before.pair in
      let d : Does Tail = tail_does (comes_from grammar from bytes) before.pair.tail in
      let does : kept_does from bytes l.tail ≡ in_bytes (kept_tail grammar) (tail_does (comes_from grammar from bytes) before.pair.tail) =
      ap (kept_does from bytes) stand.tail ∙ tail_does_so grammar from bytes before.pair.tail in
      alike_if (ReceivedAt grammar keys before.parcels) p.tail_stopped l.head.alone (l, kept) _ p _ [] (sent_by d) (ap (λ k. k.alone) stand.head ∙ paired.head_alone)
      (stand, none_after grammar keys kept before.parcels stored) (
        record { head = stand.head; tail = ap (λ k. k.next) does },
        ap (λ k. with_datagrams parts.Tail kept k.sent) does ∙ datagrams_after grammar keys parts.Tail kept before.parcels d (tail_confirms (comes_from grammar from bytes) p.tail) stored,
      )

-- the log that serves is the serving one
pub serving_is : (grammar : Grammar) (l : Loggers) (p : Pair) → LoggersStand grammar l p → p.head.alone ≡ p.tail_stopped → serving_log l ≡ serving p
serving_is grammar l p stand alone =
    ap₂ (λ h t. if h.alone then h.log else t.log) stand.head stand.tail ∙ ap (λ b. if b then p.head.log else p.tail.log) alone

-- what arrives changes nothing of who serves alone
head_stays : (c : Comes) (h : Head) → (head_does c h).next.alone ≡ h.alone
head_stays (Asks r) h =
    holds_either_way (λ d. d.next.alone ≡ h.alone) h.alone (head_alone r h) (head_paired r h) refl
    (holds_either_way (λ d. d.next.alone ≡ h.alone) (is_answer r.message.body) (nothing h) (if has_room h then head_takes r h else sends_waiting h) refl
    (holds_either_way (λ d. d.next.alone ≡ h.alone) (has_room h) (head_takes r h) (sends_waiting h) refl refl))
head_stays (Reports (Got number)) h =
    holds_either_way (λ d. d.next.alone ≡ h.alone) h.alone (nothing h) (nothing (confirmed_to number h)) refl
    (holds_either_way (λ x. x.alone ≡ h.alone) (nat_lt h.confirmed number && nat_le number (length h.taken)) (record h { confirmed = number }) h refl refl)
head_stays (Reports (Forward number r)) h = refl
head_stays Is_noise h = refl

abbrev KnowsAlone : Pair → Type 0
KnowsAlone p = p.head.alone ≡ p.tail_stopped

head_knows : (c : Comes) (p : Pair) → KnowsAlone p → KnowsAlone (head_has c p)
head_knows c p k = holds_either_way KnowsAlone p.head_stopped p _ k (head_stays c p.head ∙ k)

tail_knows : (c : Comes) (p : Pair) → KnowsAlone p → KnowsAlone (tail_has c p)
tail_knows c p k = holds_either_way KnowsAlone p.tail_stopped p _ k k

-- the loggers and the packets are changed
abbrev received_in : {State : Type 0} → Kept State → Loggers × Carried → Kept State
received_in w h = record w { log = serving_log h.0; keepers = Paired h.0; packets = h.1 }

-- a way that leads to a logger
abbrev leads_to_logger : Way → Bool
leads_to_logger ServerToLogger = true
leads_to_logger HeadToTail = true
leads_to_logger TailToHead = true
leads_to_logger _ = false

module _ {State : Type 0} (service : Machine State) (w w' : Kept State) (v : TwinWorld) (st : TwinWorldStands service w v) (paired : IsPaired v.pair) where
  received_goes : (Goes : List Parcel → TwinWorld → Type 0) (h : Loggers × Carried) (pair : Pair) (sent : List Parcel) → ReceivedAt (grammar_of v.profile) w.keys v.parcels h pair sent → KnowsAlone pair
      → Goes sent (record v { pair = pair; parcels = v.parcels ++ sent }) → w' ≡ received_in w h → TwinProceeds service Goes v w'
  received_goes Goes h pair sent at alone goes e =
      subst (TwinProceeds service Goes v) (sym e)
      (record {
        sent = sent;
        world = record v { pair = pair; parcels = v.parcels ++ sent };
        goes = goes;
        stands = record {
          actors = record { server = st.actors.server; profile = st.actors.profile; keys = st.actors.keys; clients = st.actors.clients; boot = st.actors.boot; unmarked = st.actors.unmarked; node = st.actors.node; runs = st.actors.runs };
          loggers = h.0;
          double = refl;
          log = serving_is (grammar_of v.profile) h.0 pair at.0 alone;
          pair = at.0;
          packets = at.1;
        };
        grew = refl;
      })

  head_goes : (from : Side) (bytes : List ℕ) → w' ≡ received_in w (head_receives from bytes (st.loggers, w.packets)) → TwinProceeds service (HeadHas (comes_from (grammar_of v.profile) from bytes) v) v w'
  head_goes from bytes e =
      received_goes (HeadHas (comes_from (grammar_of v.profile) from bytes) v) (head_receives from bytes (st.loggers, w.packets)) (head_has (comes_from (grammar_of v.profile) from bytes) v.pair)
      (if v.pair.head_stopped then [] else sent_by (head_does (comes_from (grammar_of v.profile) from bytes) v.pair.head))
      (head_received (grammar_of v.profile) w.keys v st.loggers w.packets st.pair paired st.packets from bytes) (head_knows (comes_from (grammar_of v.profile) from bytes) v.pair paired.head_alone) (refl, refl) e

  tail_goes : (from : Side) (bytes : List ℕ) → w' ≡ received_in w (tail_receives from bytes (st.loggers, w.packets)) → TwinProceeds service (TailHas (comes_from (grammar_of v.profile) from bytes) v) v w'
  tail_goes from bytes e =
      received_goes (TailHas (comes_from (grammar_of v.profile) from bytes) v) (tail_receives from bytes (st.loggers, w.packets)) (tail_has (comes_from (grammar_of v.profile) from bytes) v.pair)
      (if v.pair.tail_stopped then [] else sent_by (tail_does (comes_from (grammar_of v.profile) from bytes) v.pair.tail))
      (tail_received (grammar_of v.profile) w.keys v st.loggers w.packets st.pair paired st.packets from bytes) (tail_knows (comes_from (grammar_of v.profile) from bytes) v.pair paired.head_alone) (refl, refl) e

  front_goes : (bytes : List ℕ) (head_stopped : Bool) → st.loggers.tail.alone ≡ head_stopped → w' ≡ received_in w (front_receives bytes (st.loggers, w.packets))
      → TwinProceeds service (LoggerHas head_stopped (comes_from (grammar_of v.profile) sides.Server bytes) v) v w'
  front_goes bytes true is e =
      tail_goes sides.Server bytes
      (e ∙ ap (λ b. received_in w (if b then tail_receives sides.Server bytes (st.loggers, w.packets) else head_receives sides.Server bytes (st.loggers, w.packets))) is)
  front_goes bytes false is e =
      head_goes sides.Server bytes
      (e ∙ ap (λ b. received_in w (if b then tail_receives sides.Server bytes (st.loggers, w.packets) else head_receives sides.Server bytes (st.loggers, w.packets))) is)

  -- bytes arrive at the logger to which a parcel goes
  goes_by_parcel : (parcel : Parcel) (way : Way) (bytes : List ℕ) → leads_to_logger way ≡ true → way ≡ stored_way w.keys parcel
      → w' ≡ received_in w (pair_receives way bytes (st.loggers, w.packets)) → TwinProceeds service (ParcelComesAs service parcel bytes v) v w'
  goes_by_parcel (Outside (To_logger message)) way bytes leads is e =
      front_goes bytes v.pair.head_stopped (ap (λ k. k.alone) st.pair.tail ∙ paired.tail_alone) (e ∙ ap (λ x. received_in w (pair_receives x bytes (st.loggers, w.packets))) is)
  goes_by_parcel (Outside (To_server segment)) way bytes leads is e = absurd (true≢false (sym leads ∙ ap leads_to_logger is))
  goes_by_parcel (Outside (To_client segment)) way bytes leads is e = absurd (true≢false (sym leads ∙ ap leads_to_logger is))
  goes_by_parcel (Outside (From_logger message)) way bytes leads is e = absurd (true≢false (sym leads ∙ ap leads_to_logger is))
  goes_by_parcel (Inside (Forward number r)) way bytes leads is e = tail_goes sides.Other bytes (e ∙ ap (λ x. received_in w (pair_receives x bytes (st.loggers, w.packets))) is)
  goes_by_parcel (Inside (Got number)) way bytes leads is e = head_goes sides.Other bytes (e ∙ ap (λ x. received_in w (pair_receives x bytes (st.loggers, w.packets))) is)

  -- two loggers are not one, nor one with marks
  not_one : {P : Type 0} (l : Loggers) → Single ≡ Paired l → P
  not_one l e = absurd (cc)

  not_marked : {P : Type 0} (store : TrimmedAtMarks) (l : Loggers) → With_marks store ≡ Paired l → P
  not_marked store l e = absurd (cc)

  pub brings_loggers : (grammar : Grammar) (logs now : Logs) (sent : Carried) (parcel : Parcel) (way : Way) (bytes : List ℕ) → w.keepers ≡ keepers_in logs → leads_to_logger way ≡ true → way ≡ stored_way w.keys parcel
      → ReceivesIn grammar logs way bytes w.packets now sent → w' ≡ with_logs w (now, sent) → TwinProceeds service (ParcelComesAs service parcel bytes v) v w'
  brings_loggers grammar (One log) now sent parcel way bytes are leads is receipt e = not_one st.loggers (sym are ∙ st.double)
  brings_loggers grammar (Marked both) now sent parcel way bytes are leads is receipt e = not_marked both.store st.loggers (sym are ∙ st.double)
  brings_loggers grammar (Two l) now sent parcel way bytes are leads is receipt e =
      goes_by_parcel parcel way bytes leads is
      (e ∙ (ap (with_logs w) receipt ∙ ap (λ x. received_in w (pair_receives way bytes (x, w.packets))) (same_pair l st.loggers (sym are ∙ st.double))))
    where
      same_pair : (a b : Loggers) → Paired a ≡ Paired b → a ≡ b
      same_pair a b e = cc

-- what a logger sends is put after what was kept
answer_grows : (kept : Carried) (bytes : List ℕ) → length kept.bytes ≤ length (with_answer kept bytes).bytes
answer_grows kept [] = le_refl (length kept.bytes)
answer_grows kept (b ∷ bytes) = omega (arith, length-append kept.bytes ((b ∷ bytes) ∷ []))

abbrev Grows : {A : Type 0} → Carried → A × Carried → Type 0
Grows packets h = length packets.bytes ≤ length h.1.bytes

head_grows : (from : Side) (bytes : List ℕ) (l : Loggers) (packets : Carried) → Grows packets (head_receives from bytes (l, packets))
head_grows from bytes l packets =
    holds_either_way (Grows packets) l.tail.alone (l, packets) _ (le_refl (length packets.bytes)) (datagrams_grow parts.Head packets (kept_does from bytes l.head).sent)

tail_grows : (from : Side) (bytes : List ℕ) (l : Loggers) (packets : Carried) → Grows packets (tail_receives from bytes (l, packets))
tail_grows from bytes l packets =
    holds_either_way (Grows packets) l.head.alone (l, packets) _ (le_refl (length packets.bytes)) (datagrams_grow parts.Tail packets (kept_does from bytes l.tail).sent)

log_grows : (grammar : Grammar) (r : Result Message BadMsg) (log : Log) (packets : Carried) → Grows packets (log_reads grammar r (log, packets))
log_grows grammar (Ok message) log packets = answer_grows packets (answer_bytes_by grammar (answer_to log message))
log_grows grammar (Err bad) log packets = le_refl (length packets.bytes)

one_grows : (grammar : Grammar) (log : Log) (way : Way) (bytes : List ℕ) (packets : Carried) → Grows packets (log_receives grammar way bytes (log, packets))
one_grows grammar log ServerToLogger bytes packets = log_grows grammar (reading_by grammar bytes) log packets
one_grows grammar log (ClientToServer n) bytes packets = le_refl (length packets.bytes)
one_grows grammar log (ServerToClient n) bytes packets = le_refl (length packets.bytes)
one_grows grammar log LoggerToServer bytes packets = le_refl (length packets.bytes)
one_grows grammar log HeadToTail bytes packets = le_refl (length packets.bytes)
one_grows grammar log TailToHead bytes packets = le_refl (length packets.bytes)

pair_grows : (l : Loggers) (way : Way) (bytes : List ℕ) (packets : Carried) → Grows packets (pair_receives way bytes (l, packets))
pair_grows l ServerToLogger bytes packets =
    holds_either_way (Grows packets) l.tail.alone _ _ (tail_grows sides.Server bytes l packets) (head_grows sides.Server bytes l packets)
pair_grows l (ClientToServer n) bytes packets = le_refl (length packets.bytes)
pair_grows l (ServerToClient n) bytes packets = le_refl (length packets.bytes)
pair_grows l LoggerToServer bytes packets = le_refl (length packets.bytes)
pair_grows l HeadToTail bytes packets = tail_grows sides.Other bytes l packets
pair_grows l TailToHead bytes packets = head_grows sides.Other bytes l packets

pub logs_grow : (grammar : Grammar) (logs now : Logs) (way : Way) (bytes : List ℕ) (packets sent : Carried) → ReceivesIn grammar logs way bytes packets now sent → length packets.bytes ≤ length sent.bytes
logs_grow grammar (One log) now way bytes packets sent h = subst (λ (x : Logs × Carried). length packets.bytes ≤ length x.1.bytes) (sym h) (one_grows grammar log way bytes packets)
logs_grow grammar (Two l) now way bytes packets sent h = subst (λ (x : Logs × Carried). length packets.bytes ≤ length x.1.bytes) (sym h) (pair_grows l way bytes packets)
logs_grow grammar (Marked both) now way bytes packets sent h = h.2.grew
