-- Bytes that come to the addressee of a packet.
use Rattle.std.proofs.Common.{◌≡◌, ◌∙◌, sym, ap, ap₂, subst, refl, ℕ, ◌<◌, ◌*◌, true, false, true≢false, Bool, List, [], ◌∷◌, length, cond, Result, Ok, Err, IsErr, arith}
use Rattle.std.proofs.lemmas.List.{length-map}
use Rattle.ft_io.specs.declared.Key.{Key}
use Rattle.ft_io.specs.Key.{key_eq}
use Rattle.seq_arith.specs.Packet.{Segment}
use Rattle.seq_arith.specs.Message.{Message}
use Rattle.seq_arith.specs.PacketGrammar as segments
use Rattle.seq_arith.specs.MessageGrammar as messages
use Rattle.seq_arith.specs.Damage.{flipped}
use Rattle.seq_arith.specs.declared.BadPacket.{BadPacket}
use Rattle.seq_arith.specs.declared.kinds.BadMsg.{BadMsg}
use Rattle.seq_arith.proofs.Spelling.{spelling_is_read}
use Rattle.seq_arith.proofs.MessageSpelling.{message_is_read}
use Rattle.seq_arith.proofs.Refused.{flipped_packet_is_refused, flipped_is_refused_by}
use Rattle.server_trait.specs.Service.{Machine}
use Rattle.tcp_rules.specs.Profile.{grammar_of}
use Rattle.tcp_rules.specs.Profiles.{profile_of}
use Rattle.ft_model.specs.Client.{Client}
use Rattle.ft_model.specs.Network.{Packet, source_of, destination_of}
use Rattle.ft_model.specs.Network.Packet.{To_server, To_client, To_logger, From_logger}
use Rattle.ft_model.specs.Wire.{wire_by, wire_of, HasWireBy}
use Rattle.ft_model.specs.World.{World as Seen, WasSent, MayCome, ServerMoves, ClientReads, LogReads, NothingHappens, Delivered, DeliveredAs, segment_or_noise, message_or_noise, with_client}
use Rattle.ft_model.specs.declared.way.Way.TheVariants.{ClientToServer, ServerToClient, ServerToLogger, LoggerToServer, HeadToTail, TailToHead}
use Rattle.ft_model.specs.declared.way.Way.{Way}
use Rattle.ft_model.specs.Keys.{AreDistinct}
use Rattle.peer_client.specs.Scripted.{delivered, arrivals}
use Rattle.schedule_network.specs.StoredPackets.{Carried, number_in, way_along}
use Rattle.net_schedule.specs.Actors.{ActorsStand, ActorsProceed}
use Rattle.net_schedule.specs.Delivery.{changed_at, delivered_to, with_logs}
use Rattle.mark_store.specs.Refinement.{TrimmedAtMarks}
use Rattle.schedule_network.specs.Loggers.{Loggers}
use Rattle.schedule_network.specs.Logs.{ReceivesIn, both, log_in, keepers_in, log_reads, log_receives}
use Rattle.schedule_network.specs.Logs.Keepers.{Single, Paired, With_marks}
use Rattle.schedule_network.specs.declared.logs.Logs.{Logs}
use Rattle.schedule_network.specs.declared.logs.Logs.TheVariants.{One, Two, Marked}
use Rattle.net_schedule.specs.Premises.{Premises, ComesAs}
use Rattle.net_schedule.specs.Refinement.{Kept, WorldStands, ReachesNext}
use Rattle.net_schedule.proofs.Goings.{client_receives, logger_receives, nothing_happens, actors_of, one_goes}
use Rattle.net_schedule.proofs.Peers.{first_of, at_first, by_number, changed_past}
use Rattle.ft_model.proofs.ClientKeys.{keys_in, apart_distinct}

-- a direction from one of two loggers to the other
abbrev is_between : Way → Bool
is_between HeadToTail = true
is_between TailToHead = true
is_between _ = false

-- keys of a legal trace are distinct
pub distinct_keys : {State : Type 0} (service : Machine State) (v : Seen) → Premises service v → AreDistinct (keys_in v.clients)
distinct_keys service v p = let k = p.keys in subst AreDistinct (sym k.2) (apart_distinct k.0.server k.0.clients k.1.apart)

-- bytes to the client of a key's number are bytes to the client of the key
reported_by_key : (cs : List Client) (key : Key) (bytes : List ℕ) → AreDistinct (keys_in cs) → delivered_to (number_in (keys_in cs) key) bytes cs ≡ with_client key (λ c. delivered c bytes) cs
reported_by_key cs key bytes d =
    let first : with_client key (λ c. delivered c bytes) cs ≡ changed_at (first_of key (keys_in cs)) (λ c. delivered c bytes) cs = at_first key (λ c. delivered c bytes) cs d in
    by_number (λ n. delivered_to n bytes cs ≡ with_client key (λ c. delivered c bytes) cs) (keys_in cs) key
    (λ there. sym first)
    (λ past. sym (first ∙ changed_past (first_of key (keys_in cs)) (λ c. delivered c bytes) cs (omega (arith, length-map cs (λ c. c.key)))))

-- who changes nothing leaves all as they are
unchanged : (key : Key) (cs : List Client) → with_client key (λ c. c) cs ≡ cs
unchanged key [] = refl
unchanged key (c ∷ cs) = ap (λ x. x ∷ with_client key (λ d. d) cs) (alike (key_eq c.key key)) ∙ ap (λ xs. c ∷ xs) (unchanged key cs)
  where
    alike : (b : Bool) → cond b c c ≡ c
    alike true = refl
    alike false = refl

module _ {State : Type 0} (service : Machine State) where
  -- what a client makes of them
  reads_client : (w w' : Kept State) (v : Seen) (key : Key) (bytes : List ℕ) (r : Result Segment BadPacket) → segments.reading bytes ≡ r → ActorsStand service w v
      → w' ≡ record w { clients = with_client key (λ c. delivered c bytes) w.clients } → ActorsProceed service (ClientReads key r v) v w w'
  reads_client w w' v key bytes (Ok segment) e st e' =
      client_receives service w w' v key segment st (e' ∙ ap (λ r. record w { clients = with_client key (λ c. arrivals c r) w.clients }) e)
  reads_client w w' v key bytes (Err bad) e st e' =
      nothing_happens service w w' v st (e' ∙ ap (λ r. record w { clients = with_client key (λ c. arrivals c r) w.clients }) e ∙ ap (λ cs. record w { clients = cs }) (unchanged key w.clients))

  pub brings_client : (w w' : Kept State) (v : Seen) (packet : Packet) (bytes : List ℕ) (number : ℕ) → ActorsStand service w v → Premises service v
      → ServerToClient number ≡ way_along w.keys (wire_of packet) → w' ≡ record w { clients = delivered_to number bytes w.clients } → ActorsProceed service (DeliveredAs service v packet bytes) v w w'
  brings_client w w' v (To_client segment) bytes number st p way e' =
      let key : Key = destination_of segment in
      let n : number ≡ number_in (keys_in w.clients) (destination_of segment) =
      number_of_way number (number_in w.keys (destination_of segment)) way ∙ ap (λ ks. number_in ks (destination_of segment)) (st.keys ∙ ap keys_in (sym st.clients)) in
      let d : AreDistinct (keys_in w.clients) = subst (λ cs. AreDistinct (keys_in cs)) (sym st.clients) (distinct_keys service v p) in
      reads_client w w' v (destination_of segment) bytes (segments.reading bytes) refl st
      (e' ∙ ap (λ cs. record w { clients = cs }) (ap (λ k. delivered_to k bytes w.clients) n ∙ reported_by_key w.clients (destination_of segment) bytes d))
    where
      number_of_way : (a b : ℕ) → ServerToClient a ≡ ServerToClient b → a ≡ b
      number_of_way a b e = cc
  brings_client w w' v (To_server segment) bytes number st p way e' = absurd (cc)
  brings_client w w' v (To_logger message) bytes number st p way e' = absurd (cc)
  brings_client w w' v (From_logger message) bytes number st p way e' = absurd (cc)

  -- what the only logger makes of them
  reads_log : (w w' : Kept State) (v : Seen) (r : Result Message BadMsg) → WorldStands service w v
      → w' ≡ record w { log = (log_reads (grammar_of v.profile) r (w.log, w.packets)).0; packets = (log_reads (grammar_of v.profile) r (w.log, w.packets)).1 } → ReachesNext service (LogReads r v) v w'
  reads_log w w' v (Ok message) st e' = logger_receives service w w' v message st e'
  reads_log w w' v (Err bad) st e' = one_goes service (NothingHappens v) w w' v st (nothing_happens service w w' v (actors_of service w v st) e')

  -- one logger without marks is neither two nor one with marks
  not_two : {P : Type 0} (loggers : Loggers) → Single ≡ Paired loggers → P
  not_two loggers e = absurd (cc)

  not_marked : {P : Type 0} (store : TrimmedAtMarks) → Single ≡ With_marks store → P
  not_marked store e = absurd (cc)

  brings_to_log : (w w' : Kept State) (v : Seen) (packet : Packet) (bytes : List ℕ) (way : Way) (logs now : Logs) (sent : Carried) → WorldStands service w v → way ≡ ServerToLogger
      → way ≡ way_along w.keys (wire_of packet) → w.log ≡ log_in logs → w.keepers ≡ keepers_in logs → ReceivesIn (grammar_of v.profile) logs way bytes w.packets now sent → w' ≡ with_logs w (now, sent)
      → ReachesNext service (DeliveredAs service v packet bytes) v w'
  brings_to_log w w' v packet bytes way (Two loggers) now sent st is along log two receipt e' = not_two loggers (sym st.single ∙ two)
  brings_to_log w w' v packet bytes way (Marked kept) now sent st is along log two receipt e' = not_marked kept.store (sym st.single ∙ two)
  brings_to_log w w' v (To_logger message) bytes way (One log) now sent st is along same two receipt e' =
      reads_log w w' v (messages.reading_by (grammar_of v.profile) bytes) st
      (e' ∙ (ap (with_logs w) (receipt ∙ ap (λ x. let h = log_receives (grammar_of v.profile) x bytes (log, w.packets) in both (One h.0) h.1) is)
      ∙ ap₂ (λ l o. record w { log = (log_reads (grammar_of v.profile) (messages.reading_by (grammar_of v.profile) bytes) (l, w.packets)).0; keepers = o; packets = (log_reads (grammar_of v.profile) (messages.reading_by (grammar_of v.profile) bytes) (l, w.packets)).1 }) (sym same) (sym two)))
  brings_to_log w w' v (To_server segment) bytes way (One log) now sent st is along same two receipt e' = absurd (other (sym is ∙ along))
    where
      other : ServerToLogger ≡ ClientToServer (number_in w.keys (source_of segment)) → ⊥
      other e = absurd (cc)
  brings_to_log w w' v (To_client segment) bytes way (One log) now sent st is along same two receipt e' = absurd (other (sym is ∙ along))
    where
      other : ServerToLogger ≡ ServerToClient (number_in w.keys (destination_of segment)) → ⊥
      other e = absurd (cc)
  brings_to_log w w' v (From_logger message) bytes way (One log) now sent st is along same two receipt e' = absurd (other (sym is ∙ along))
    where
      other : ServerToLogger ≡ LoggerToServer → ⊥
      other e = absurd (cc)

  pub brings_logger : (w w' : Kept State) (v : Seen) (packet : Packet) (bytes : List ℕ) (logs now : Logs) (sent : Carried) → WorldStands service w v
      → ServerToLogger ≡ way_along w.keys (wire_of packet) → w.log ≡ log_in logs → w.keepers ≡ keepers_in logs → ReceivesIn (grammar_of (profile_of w.profile)) logs ServerToLogger bytes w.packets now sent
      → w' ≡ with_logs w (now, sent) → ReachesNext service (DeliveredAs service v packet bytes) v w'
  brings_logger w w' v packet bytes logs now sent st way log two receipt e' =
      brings_to_log w w' v packet bytes ServerToLogger logs now sent st refl way log two
      (subst (λ p. ReceivesIn (grammar_of p) logs ServerToLogger bytes w.packets now sent) st.profile receipt) e'

  -- no packet of a world with one logger goes between two
  pub none_between : {P : Type 0} (keys : List Key) (packet : Packet) (way : Way) → is_between way ≡ true → way ≡ way_along keys (wire_of packet) → P
  none_between keys packet way between e = absurd (true≢false (sym between ∙ ap is_between e ∙ outside keys packet))
    where
      outside : (keys : List Key) (packet : Packet) → is_between (way_along keys (wire_of packet)) ≡ false
      outside keys (To_server segment) = refl
      outside keys (To_client segment) = refl
      outside keys (To_logger message) = refl
      outside keys (From_logger message) = refl

  -- what the server makes of them is its turn
  pub packet_comes : (keys : List Key) (v : Seen) (packet : Packet) (bytes : List ℕ) (number : ℕ) → ClientToServer number ≡ way_along keys (wire_of packet) → ComesAs v packet bytes
      → MayCome v (segment_or_noise (segments.reading bytes))
  packet_comes keys v (To_server segment) bytes number way comes = comes
  packet_comes keys v (To_client segment) bytes number way comes = absurd (cc)
  packet_comes keys v (To_logger message) bytes number way comes = absurd (cc)
  packet_comes keys v (From_logger message) bytes number way comes = absurd (cc)

  pub packet_brought : (keys : List Key) (v : Seen) (packet : Packet) (bytes : List ℕ) (number : ℕ) (w w' : Kept State) → ClientToServer number ≡ way_along keys (wire_of packet)
      → ActorsProceed service (ServerMoves service (segment_or_noise (segments.reading bytes)) v) v w w' → ActorsProceed service (DeliveredAs service v packet bytes) v w w'
  packet_brought keys v (To_server segment) bytes number w w' way g = g
  packet_brought keys v (To_client segment) bytes number w w' way g = absurd (cc)
  packet_brought keys v (To_logger message) bytes number w w' way g = absurd (cc)
  packet_brought keys v (From_logger message) bytes number w w' way g = absurd (cc)

  pub message_comes : (keys : List Key) (v : Seen) (packet : Packet) (bytes : List ℕ) → LoggerToServer ≡ way_along keys (wire_of packet) → ComesAs v packet bytes
      → MayCome v (message_or_noise (messages.reading_by (grammar_of v.profile) bytes))
  message_comes keys v (From_logger message) bytes way comes = comes
  message_comes keys v (To_server segment) bytes way comes = absurd (cc)
  message_comes keys v (To_client segment) bytes way comes = absurd (cc)
  message_comes keys v (To_logger message) bytes way comes = absurd (cc)

  pub message_brought : (keys : List Key) (v : Seen) (packet : Packet) (bytes : List ℕ) (w w' : Kept State) → LoggerToServer ≡ way_along keys (wire_of packet)
      → ActorsProceed service (ServerMoves service (message_or_noise (messages.reading_by (grammar_of v.profile) bytes)) v) v w w' → ActorsProceed service (DeliveredAs service v packet bytes) v w w'
  message_brought keys v (From_logger message) bytes w w' way g = g
  message_brought keys v (To_server segment) bytes w w' way g = absurd (cc)
  message_brought keys v (To_client segment) bytes w w' way g = absurd (cc)
  message_brought keys v (To_logger message) bytes w w' way g = absurd (cc)

  -- a packet's own bytes are the packet
  pub comes_whole : (v : Seen) (packet : Packet) → HasWireBy (grammar_of v.profile) packet → WasSent v packet → ComesAs v packet (wire_by (grammar_of v.profile) packet).bytes
  comes_whole v (To_server segment) wire sent = subst (λ r. MayCome v (segment_or_noise r)) (sym (spelling_is_read segment wire.0)) sent
  comes_whole v (To_client segment) wire sent = tt
  comes_whole v (To_logger message) wire sent = tt
  comes_whole v (From_logger message) wire sent = subst (λ r. MayCome v (message_or_noise r)) (sym (message_is_read message wire.0)) sent

  pub as_whole : (v : Seen) (packet : Packet) (sent : List Packet) (after : Seen) → HasWireBy (grammar_of v.profile) packet → DeliveredAs service v packet (wire_by (grammar_of v.profile) packet).bytes sent after → Delivered service v packet sent after
  as_whole v (To_server segment) sent after wire h = subst (λ r. ServerMoves service (segment_or_noise r) v sent after) (spelling_is_read segment wire.0) h
  as_whole v (To_client segment) sent after wire h = subst (λ r. ClientReads (destination_of segment) r v sent after) (spelling_is_read segment wire.0) h
  as_whole v (To_logger message) sent after wire h = subst (λ r. LogReads r v sent after) (message_is_read message wire.0) h
  as_whole v (From_logger message) sent after wire h = subst (λ r. ServerMoves service (message_or_noise r) v sent after) (message_is_read message wire.0) h

  pub goes_whole : (v : Seen) (packet : Packet) (w' : Kept State) → HasWireBy (grammar_of v.profile) packet → ReachesNext service (DeliveredAs service v packet (wire_by (grammar_of v.profile) packet).bytes) v w' → ReachesNext service (Delivered service v packet) v w'
  goes_whole v packet w' wire g = record { sent = g.sent; world = g.world; goes = as_whole v packet g.sent g.world wire g.goes; stands = g.stands; grew = g.grew }

  -- with a changed bit they are noise
  segment_noise : (v : Seen) (r : Result Segment BadPacket) → IsErr r → MayCome v (segment_or_noise r)
  segment_noise v (Err bad) h = tt
  segment_noise v (Ok segment) h = absurd (true≢false (sym h))

  message_noise : (v : Seen) (r : Result Message BadMsg) → IsErr r → MayCome v (message_or_noise r)
  message_noise v (Err bad) h = tt
  message_noise v (Ok message) h = absurd (true≢false (sym h))

  pub comes_changed : (v : Seen) (packet : Packet) (bit : ℕ) → HasWireBy (grammar_of v.profile) packet → bit < 8 * length (wire_by (grammar_of v.profile) packet).bytes → ComesAs v packet (flipped bit (wire_by (grammar_of v.profile) packet).bytes)
  comes_changed v (To_server segment) bit wire within =
      segment_noise v (segments.reading (flipped bit (segments.spelling segment))) (flipped_packet_is_refused bit (segments.spelling segment) segment (spelling_is_read segment wire.0) within)
  comes_changed v (To_client segment) bit wire within = tt
  comes_changed v (To_logger message) bit wire within = tt
  comes_changed v (From_logger message) bit wire within =
      message_noise v (messages.reading_by (grammar_of v.profile) (flipped bit (messages.spelling_by (grammar_of v.profile) message))) (flipped_is_refused_by (grammar_of v.profile) bit (messages.spelling_by (grammar_of v.profile) message) message (message_is_read message wire.0) within)
