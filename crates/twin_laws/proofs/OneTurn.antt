-- A turn of the world with two loggers is determined by the event and by the world before it, and what was sent stays.
use Rattle.std.proofs.Common.{◌≡◌, ◌∙◌, ℕ, refl, sym, ap, ap₂, subst, Bool, true, false, List, [], ◌∷◌, ◌++◌, map}
use Rattle.seq_arith.specs.Damage.{flipped}
use Rattle.seq_arith.specs.TwinGrammar as twins
use Rattle.server_trait.specs.Service.{Machine}
use Rattle.std.proofs.lemmas.List.{append_cancel_left}
use Rattle.tcp_rules.specs.Profile.{grammar_of}
use Rattle.ft_model.specs.Legal.{IsScripted}
use Rattle.ft_model.specs.Network.{Packet}
use Rattle.ft_model.specs.Network.Packet.{To_server, To_client, To_logger, From_logger}
use Rattle.ft_model.specs.World.{World, Happens, Delivered, Flipped}
use Rattle.ft_model.specs.declared.event.Event.{Event}
use Rattle.ft_model.specs.declared.event.Event.TheVariants.{Boot, Crash, Tick, Deliver, Flip, Begin, Send, Fin, Ack, Reset}
use Rattle.ft_model.specs.declared.event.Event.TheVariants as events
use Rattle.ft_model.proofs.AskedMoves.{quiet_event}
use Rattle.ft_model.proofs.Lists.{some_is}
use Rattle.ft_model.proofs.OneTrace.{happens_once}
use Rattle.twin_laws.specs.declared.part.Part.{Part}
use Rattle.twin_laws.specs.declared.part.Part.TheVariants as parts
use Rattle.twin_laws.specs.Twin.{Comes, from_other_logger, bytes_of}
use Rattle.twin_laws.specs.Twin.Comes.{Asks, Reports}
use Rattle.twin_laws.specs.Twin.Between.{Forward, Got}
use Rattle.twin_laws.specs.Flat.{outside}
use Rattle.twin_laws.specs.Pair.{stopped_by, head_has, tail_has}
use Rattle.twin_laws.specs.TwinLegal.{event_of, part_number}
use Rattle.twin_laws.specs.TwinWorld.{Parcel, TwinWorld, TwinEvent, TwinHappens, Elsewhere, HeadHas, TailHas, LoggerHas, ParcelComes, ParcelFlipped, seen, request_of}
use Rattle.twin_laws.specs.TwinWorld.Parcel.{Outside, Inside}
use Rattle.twin_laws.specs.TwinWorld.TwinEvent.{Usual, Stop}
use Rattle.twin_laws.proofs.Elsewhere.{server_elsewhere, client_elsewhere, flip_elsewhere_server, flip_elsewhere_client, flip_elsewhere_message}
use Rattle.twin_laws.proofs.Numbering.{outside_of}

-- a logger's turn
head_once : (comes : Comes) (before w x : TwinWorld) (s t : List Parcel) → HeadHas comes before s w → HeadHas comes before t x → w ≡ x
head_once comes before w x s t p q = p.1 ∙ (ap (λ sent. record before { pair = head_has comes before.pair; parcels = before.parcels ++ sent }) (p.0 ∙ sym q.0) ∙ sym q.1)

tail_once : (comes : Comes) (before w x : TwinWorld) (s t : List Parcel) → TailHas comes before s w → TailHas comes before t x → w ≡ x
tail_once comes before w x s t p q = p.1 ∙ (ap (λ sent. record before { pair = tail_has comes before.pair; parcels = before.parcels ++ sent }) (p.0 ∙ sym q.0) ∙ sym q.1)

logger_once : (head_stopped : Bool) (comes : Comes) (before w x : TwinWorld) (s t : List Parcel) → LoggerHas head_stopped comes before s w → LoggerHas head_stopped comes before t x → w ≡ x
logger_once true comes before w x s t p q = tail_once comes before w x s t p q
logger_once false comes before w x s t p q = head_once comes before w x s t p q

-- the world with one log and the loggers are all of the world with two
alike : (w x : TwinWorld) (ps qs : List Packet) → seen w ps ≡ seen x qs → w.pair ≡ x.pair → w.parcels ≡ x.parcels → w ≡ x
alike w x ps qs e p q =
    ap (λ v. record w { server = v.server; profile = v.profile; clients = v.clients; boot = v.boot; node = v.node }) e
    ∙ ap₂ (λ pair parcels. record x { pair = pair; parcels = parcels }) p q

elsewhere_once : (Goes : World → List Packet → World → Type 0) (front : List Packet) (before w x : TwinWorld) (s t : List Parcel)
    → ((ps qs : List Packet) → s ≡ map Outside ps → t ≡ map Outside qs → Goes (seen before []) ps (seen w ps) → Goes (seen before []) qs (seen x qs)
    → seen w (front ++ ps) ≡ seen x (front ++ qs))
    → Elsewhere Goes before s w → Elsewhere Goes before t x → w ≡ x
elsewhere_once Goes front before w x s t once p q =
    let same : seen w (front ++ p.0) ≡ seen x (front ++ q.0) = once p.0 q.0 p.1 q.1 p.2 q.2 in
    let packets : p.0 ≡ q.0 = append_cancel_left front p.0 q.0 (ap (λ v. v.packets) same) in
    alike w x (front ++ p.0) (front ++ q.0) same (p.3 ∙ sym q.3) (p.4 ∙ (ap (λ ps. before.parcels ++ ps) (p.1 ∙ ap (map Outside) packets ∙ sym q.1) ∙ sym q.4))

module _ {State : Type 0} (service : Machine State) where
  -- what reaches server or client is determined as with one log in which this packet alone was sent
  brought_once : (packet : Packet) (before w x : World) (ps qs : List Packet) → Delivered service (record before { packets = packet ∷ [] }) packet ps (record w { packets = packet ∷ ps })
      → Delivered service (record before { packets = packet ∷ [] }) packet qs (record x { packets = packet ∷ qs }) → record w { packets = packet ∷ ps } ≡ record x { packets = packet ∷ qs }
  brought_once packet before w x ps qs c d =
      happens_once service (Deliver 1) (record before { packets = packet ∷ [] }) (record w { packets = packet ∷ ps }) (record x { packets = packet ∷ qs }) ps qs
      (packet, refl, c) (packet, refl, d) (quiet_event (record before { packets = packet ∷ [] }) (Deliver 1) ps (record w { packets = packet ∷ ps }) refl)
      (quiet_event (record before { packets = packet ∷ [] }) (Deliver 1) qs (record x { packets = packet ∷ qs }) refl)

  changed_once : (packet : Packet) (bit : ℕ) (before w x : World) (ps qs : List Packet) → Flipped service (record before { packets = packet ∷ [] }) packet bit ps (record w { packets = packet ∷ ps })
      → Flipped service (record before { packets = packet ∷ [] }) packet bit qs (record x { packets = packet ∷ qs }) → record w { packets = packet ∷ ps } ≡ record x { packets = packet ∷ qs }
  changed_once packet bit before w x ps qs c d =
      happens_once service (Flip 1 bit) (record before { packets = packet ∷ [] }) (record w { packets = packet ∷ ps }) (record x { packets = packet ∷ qs }) ps qs
      (packet, refl, c) (packet, refl, d) (quiet_event (record before { packets = packet ∷ [] }) (Flip 1 bit) ps (record w { packets = packet ∷ ps }) refl)
      (quiet_event (record before { packets = packet ∷ [] }) (Flip 1 bit) qs (record x { packets = packet ∷ qs }) refl)

  parcel_once : (parcel : Parcel) (before w x : TwinWorld) (s t : List Parcel) → ParcelComes service parcel before s w → ParcelComes service parcel before t x → w ≡ x
  parcel_once (Outside (To_logger message)) before w x s t p q = logger_once before.pair.head_stopped (Asks (request_of (grammar_of before.profile) message)) before w x s t p q
  parcel_once (Outside (To_server segment)) before w x s t p q =
      let alone : List Packet = To_server segment ∷ [] in
      elsewhere_once (λ v. Delivered service v (To_server segment)) alone before w x s t
      (λ ps qs a b c d. brought_once (To_server segment) (seen before []) (seen w ps) (seen x qs) ps qs
      (server_elsewhere service _ (seen before []) alone ps (seen w ps) c) (server_elsewhere service _ (seen before []) alone qs (seen x qs) d)) p q
  parcel_once (Outside (To_client segment)) before w x s t p q =
      let alone : List Packet = To_client segment ∷ [] in
      elsewhere_once (λ v. Delivered service v (To_client segment)) alone before w x s t
      (λ ps qs a b c d. brought_once (To_client segment) (seen before []) (seen w ps) (seen x qs) ps qs
      (client_elsewhere _ segment (seen before []) alone ps (seen w ps) c) (client_elsewhere _ segment (seen before []) alone qs (seen x qs) d)) p q
  parcel_once (Outside (From_logger message)) before w x s t p q =
      let alone : List Packet = From_logger message ∷ [] in
      elsewhere_once (λ v. Delivered service v (From_logger message)) alone before w x s t
      (λ ps qs a b c d. brought_once (From_logger message) (seen before []) (seen w ps) (seen x qs) ps qs
      (server_elsewhere service _ (seen before []) alone ps (seen w ps) c) (server_elsewhere service _ (seen before []) alone qs (seen x qs) d)) p q
  parcel_once (Inside (Forward number request)) before w x s t p q = tail_once (Reports (Forward number request)) before w x s t p q
  parcel_once (Inside (Got number)) before w x s t p q = head_once (Reports (Got number)) before w x s t p q

  flip_once : (parcel : Parcel) (bit : ℕ) (before w x : TwinWorld) (s t : List Parcel) → ParcelFlipped service parcel bit before s w → ParcelFlipped service parcel bit before t x → w ≡ x
  flip_once (Outside (To_logger message)) bit before w x s t p q = logger_once before.pair.head_stopped _ before w x s t p.2 q.2
  flip_once (Outside (To_server segment)) bit before w x s t p q =
      let alone : List Packet = To_server segment ∷ [] in
      elsewhere_once (λ v. Flipped service v (To_server segment) bit) alone before w x s t
      (λ ps qs a b c d. changed_once (To_server segment) bit (seen before []) (seen w ps) (seen x qs) ps qs
      (flip_elsewhere_server service segment bit (seen before []) alone ps (seen w ps) c) (flip_elsewhere_server service segment bit (seen before []) alone qs (seen x qs) d)) p q
  flip_once (Outside (To_client segment)) bit before w x s t p q =
      let alone : List Packet = To_client segment ∷ [] in
      elsewhere_once (λ v. Flipped service v (To_client segment) bit) alone before w x s t
      (λ ps qs a b c d. changed_once (To_client segment) bit (seen before []) (seen w ps) (seen x qs) ps qs
      (flip_elsewhere_client service segment bit (seen before []) alone ps (seen w ps) c) (flip_elsewhere_client service segment bit (seen before []) alone qs (seen x qs) d)) p q
  flip_once (Outside (From_logger message)) bit before w x s t p q =
      let alone : List Packet = From_logger message ∷ [] in
      elsewhere_once (λ v. Flipped service v (From_logger message) bit) alone before w x s t
      (λ ps qs a b c d. changed_once (From_logger message) bit (seen before []) (seen w ps) (seen x qs) ps qs
      (flip_elsewhere_message service message bit (seen before []) alone ps (seen w ps) c) (flip_elsewhere_message service message bit (seen before []) alone qs (seen x qs) d)) p q
  flip_once (Inside (Forward number request)) bit before w x s t p q = tail_once (from_other_logger (grammar_of before.profile) (twins.reading_by (grammar_of before.profile) (flipped bit (bytes_of (Forward number request))))) before w x s t p.2 q.2
  flip_once (Inside (Got number)) bit before w x s t p q = head_once (from_other_logger (grammar_of before.profile) (twins.reading_by (grammar_of before.profile) (flipped bit (bytes_of (Got number))))) before w x s t p.2 q.2

  -- a script says what is sent outside
  scripted_as : (event : Event) (before w : TwinWorld) (s : List Parcel) (ps : List Packet) → s ≡ map Outside ps → IsScripted (seen before []) event (outside s) (seen w [])
      → IsScripted (seen before []) event ps (seen w ps)
  scripted_as event before w s ps e a number move client asks there =
      let one = a number move client asks there in
      (sym (ap outside e ∙ outside_of ps) ∙ one.0, one.1)

  usual_once : (event : Event) (before w x : TwinWorld) (s t : List Parcel) → Elsewhere (λ v. Happens service v event) before s w → Elsewhere (λ v. Happens service v event) before t x
      → IsScripted (seen before []) event (outside s) (seen w []) → IsScripted (seen before []) event (outside t) (seen x []) → w ≡ x
  usual_once event before w x s t p q a b =
      elsewhere_once (λ v. Happens service v event) [] before w x s t
      (λ ps qs e f c d. happens_once service event (seen before []) (seen w ps) (seen x qs) ps qs c d (scripted_as event before w s ps e a) (scripted_as event before x t qs f b)) p q

  pub twin_once : (event : TwinEvent) (before w x : TwinWorld) (s t : List Parcel) → TwinHappens service before event s w → TwinHappens service before event t x
      → IsScripted (seen before []) (event_of event) (outside s) (seen w []) → IsScripted (seen before []) (event_of event) (outside t) (seen x []) → w ≡ x
  twin_once (Usual (Deliver number)) before w x s t p q a b =
      let same : p.0 ≡ q.0 = some_is p.0 q.0 (sym p.1 ∙ q.1) in
      parcel_once q.0 before w x s t (subst (λ parcel. ParcelComes service parcel before s w) same p.2) q.2
  twin_once (Usual (Flip number bit)) before w x s t p q a b =
      let same : p.0 ≡ q.0 = some_is p.0 q.0 (sym p.1 ∙ q.1) in
      flip_once q.0 bit before w x s t (subst (λ parcel. ParcelFlipped service parcel bit before s w) same p.2) q.2
  twin_once (Usual (Boot boot isn)) before w x s t p q a b = usual_once (Boot boot isn) before w x s t p q a b
  twin_once (Usual Crash) before w x s t p q a b = usual_once Crash before w x s t p q a b
  twin_once (Usual Tick) before w x s t p q a b = usual_once Tick before w x s t p q a b
  twin_once (Usual (Begin client window)) before w x s t p q a b = usual_once (Begin client window) before w x s t p q a b
  twin_once (Usual (Send client from len)) before w x s t p q a b = usual_once (Send client from len) before w x s t p q a b
  twin_once (Usual (Fin client)) before w x s t p q a b = usual_once (Fin client) before w x s t p q a b
  twin_once (Usual (Ack client window)) before w x s t p q a b = usual_once (Ack client window) before w x s t p q a b
  twin_once (Usual (Reset client)) before w x s t p q a b = usual_once (Reset client) before w x s t p q a b
  twin_once (Usual (events.Stop part)) before w x s t p q a b = absurd p.2
  twin_once (Stop part) before w x s t p q a b =
      p.3 ∙ (ap (λ sent. record before { pair = stopped_by part before.pair; parcels = before.parcels ++ sent }) (p.2 ∙ sym q.2) ∙ sym q.3)

  -- a schedule names each event of a trace in one way
  numbered_once : (p q : Part) → part_number p ≡ part_number q → p ≡ q
  numbered_once parts.Head parts.Head e = refl
  numbered_once parts.Head parts.Tail e = cc
  numbered_once parts.Tail parts.Head e = cc
  numbered_once parts.Tail parts.Tail e = refl

  never_usual : (part : ℕ) (event : Event) (before w : TwinWorld) (s : List Parcel) → event ≡ events.Stop part → TwinHappens service before (Usual event) s w → ⊥
  never_usual part event before w s e p = (subst (λ x. TwinHappens service before (Usual x) s w) e p).2

  pub named_once : (a b : TwinEvent) (before w x : TwinWorld) (s t : List Parcel) → TwinHappens service before a s w → TwinHappens service before b t x → event_of a ≡ event_of b → a ≡ b
  named_once (Usual a) (Usual b) before w x s t p q e = ap Usual e
  named_once (Usual a) (Stop b) before w x s t p q e = absurd (never_usual (part_number b) a before w s e p)
  named_once (Stop a) (Usual b) before w x s t p q e = absurd (never_usual (part_number a) b before x t (sym e) q)
  named_once (Stop a) (Stop b) before w x s t p q e = ap Stop (numbered_once a b (cc))

  -- what was sent stays
  logger_on : (head_stopped : Bool) (comes : Comes) (before w : TwinWorld) (s : List Parcel) → LoggerHas head_stopped comes before s w → w.parcels ≡ before.parcels ++ s
  logger_on true comes before w s p = ap (λ v. v.parcels) p.1
  logger_on false comes before w s p = ap (λ v. v.parcels) p.1

  parcel_on : (parcel : Parcel) (before w : TwinWorld) (s : List Parcel) → ParcelComes service parcel before s w → w.parcels ≡ before.parcels ++ s
  parcel_on (Outside (To_logger message)) before w s p = logger_on before.pair.head_stopped (Asks (request_of (grammar_of before.profile) message)) before w s p
  parcel_on (Outside (To_server segment)) before w s p = p.4
  parcel_on (Outside (To_client segment)) before w s p = p.4
  parcel_on (Outside (From_logger message)) before w s p = p.4
  parcel_on (Inside (Forward number request)) before w s p = ap (λ v. v.parcels) p.1
  parcel_on (Inside (Got number)) before w s p = ap (λ v. v.parcels) p.1

  flip_on : (parcel : Parcel) (bit : ℕ) (before w : TwinWorld) (s : List Parcel) → ParcelFlipped service parcel bit before s w → w.parcels ≡ before.parcels ++ s
  flip_on (Outside (To_logger message)) bit before w s p = logger_on before.pair.head_stopped _ before w s p.2
  flip_on (Outside (To_server segment)) bit before w s p = p.4
  flip_on (Outside (To_client segment)) bit before w s p = p.4
  flip_on (Outside (From_logger message)) bit before w s p = p.4
  flip_on (Inside (Forward number request)) bit before w s p = ap (λ v. v.parcels) p.2.1
  flip_on (Inside (Got number)) bit before w s p = ap (λ v. v.parcels) p.2.1

  pub twin_proceeds : (event : TwinEvent) (before w : TwinWorld) (s : List Parcel) → TwinHappens service before event s w → w.parcels ≡ before.parcels ++ s
  twin_proceeds (Usual (Deliver number)) before w s p = parcel_on p.0 before w s p.2
  twin_proceeds (Usual (Flip number bit)) before w s p = flip_on p.0 bit before w s p.2
  twin_proceeds (Usual (Boot boot isn)) before w s p = p.4
  twin_proceeds (Usual Crash) before w s p = p.4
  twin_proceeds (Usual Tick) before w s p = p.4
  twin_proceeds (Usual (Begin client window)) before w s p = p.4
  twin_proceeds (Usual (Send client from len)) before w s p = p.4
  twin_proceeds (Usual (Fin client)) before w s p = p.4
  twin_proceeds (Usual (Ack client window)) before w s p = p.4
  twin_proceeds (Usual (Reset client)) before w s p = p.4
  twin_proceeds (Usual (events.Stop part)) before w s p = p.4
  twin_proceeds (Stop part) before w s p = ap (λ v. v.parcels) p.3
