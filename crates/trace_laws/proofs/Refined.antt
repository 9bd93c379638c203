-- Each step of a world with a mortal logger is a step of one whose logger keeps running, and a death is the delivery of what its file has.
use Rattle.std.proofs.Common.{◌≡◌, inl, inr, ℕ, zero, suc, refl, sym, ap, subst, Option, Some, None, option_map, Result, Ok, Err, List, [], ◌∷◌, ◌++◌}
use Rattle.std.specs.List.{AllByRecursion}
use Rattle.std.specs.Option.{option_to_list}
use Rattle.ft_io.specs.declared.Key.{Key}
use Rattle.server_trait.specs.Service.{Machine}
use Rattle.seq_arith.specs.Message.{Message}
use Rattle.seq_arith.specs.Packet.{Segment}
use Rattle.seq_arith.specs.PacketGrammar as segments
use Rattle.seq_arith.specs.MessageGrammar as messages
use Rattle.seq_arith.specs.Damage.{flipped}
use Rattle.seq_arith.specs.declared.BadPacket.{BadPacket}
use Rattle.seq_arith.specs.declared.kinds.BadMsg.{BadMsg}
use Rattle.ft_model.specs.Log.{Log, log_after, answer_to}
use Rattle.ft_model.specs.Network.{Packet, packet_at, destination_of}
use Rattle.ft_model.specs.Network.Packet.{To_server, To_client, To_logger, From_logger}
use Rattle.tcp_rules.specs.Profile.{grammar_of}
use Rattle.ft_model.specs.Wire.{wire_by}
use Rattle.ft_model.specs.World.{World, Happens, Delivered, DeliveredAs, Flipped, ClientReads, LogReads, Moves}
use Rattle.ft_model.specs.declared.event.Event.{Event}
use Rattle.ft_model.specs.declared.event.Event.TheVariants as events
use Rattle.ft_model.proofs.Lists.{none_is_some}
use Rattle.ft_model.proofs.OneTrace.{proceeds}
use Rattle.trace_laws.specs.Deaths.{Step, ComesBack, MayHappen, MortalMoment, mortal_after, MortalJoint, IsAnswer, IsWithin, IsShown}
use Rattle.trace_laws.specs.Deaths.Step.{Calm, Dies}

pub within_same : (packets : List Packet) → IsWithin packets packets
within_same [] = refl
within_same (one ∷ packets) = inl (packets, refl, within_same packets)

-- more is sent in both
pub within_more : (xs ys sent : List Packet) → IsWithin xs ys → IsWithin (xs ++ sent) (ys ++ sent)
within_more xs [] sent w = subst (λ l. IsWithin (l ++ sent) sent) (sym w) (within_same sent)
within_more xs (one ∷ ys) sent (inl (rest, is, w)) = inl (rest ++ sent, ap (λ (l : List Packet). l ++ sent) is, within_more rest ys sent w)
within_more xs (one ∷ ys) sent (inr (answer, w)) = inr (answer, within_more xs ys sent w)

-- answers that nobody got
only_answers : (sent : List Packet) → AllByRecursion IsAnswer sent → IsWithin [] sent
only_answers [] all = refl
only_answers (one ∷ sent) all = inr (all.0, only_answers sent all.1)

pub within_lost : (xs ys sent : List Packet) → AllByRecursion IsAnswer sent → IsWithin xs ys → IsWithin xs (ys ++ sent)
within_lost xs [] sent all w = subst (λ l. IsWithin l sent) (sym w) (only_answers sent all)
within_lost xs (one ∷ ys) sent all (inl (rest, is, w)) = inl (rest, is, within_lost rest ys sent all w)
within_lost xs (one ∷ ys) sent all (inr (answer, w)) = inr (answer, within_lost xs ys sent all w)

abbrev pub IsAt : List Packet → Packet → Type 0
IsAt packets packet = (number : ℕ) × (packet_at packets number ≡ Some packet)

further : (one packet : Packet) (packets : List Packet) → IsAt packets packet → IsAt (one ∷ packets) packet
further one packet packets (zero, is) = none_is_some packet is
further one packet packets (suc n, is) = (suc (suc n), is)

-- what was sent was sent in the other world too, under a number of its own
pub within_at : (xs ys : List Packet) (number : ℕ) (packet : Packet) → IsWithin xs ys → packet_at xs number ≡ Some packet → IsAt ys packet
within_at xs ys zero packet w is = none_is_some packet is
within_at xs [] (suc n) packet w is = none_is_some packet (subst (λ l. packet_at l (suc n) ≡ Some packet) w is)
within_at xs (one ∷ ys) (suc n) packet (inr (answer, w)) is = further one packet ys (within_at xs ys (suc n) packet w is)
within_at xs (one ∷ ys) (suc zero) packet (inl (rest, same, w)) is = (suc zero, subst (λ l. packet_at l (suc zero) ≡ Some packet) same is)
within_at xs (one ∷ ys) (suc (suc n)) packet (inl (rest, same, w)) is =
    further one packet ys (within_at rest ys (suc n) packet w (subst (λ l. packet_at l (suc (suc n)) ≡ Some packet) same is))

-- the other world
abbrev pub beside : World → List Packet → World
beside w packets = record w { packets = packets }

delivers : {State : Type 0} (service : Machine State) (before after : World) (packet : Packet) (sent others : List Packet) → Delivered service before packet sent after
    → Delivered service (beside before others) packet sent (beside after (others ++ sent))
delivers service before after (To_server segment) sent others d = (d.0, ap (λ w. beside w (others ++ sent)) d.1)
delivers service before after (To_client segment) sent others d = (d.0, ap (λ w. beside w (others ++ sent)) d.1)
delivers service before after (To_logger message) sent others d = (d.0, ap (λ w. beside w (others ++ sent)) d.1)
delivers service before after (From_logger message) sent others d = (d.0, ap (λ w. beside w (others ++ sent)) d.1)

-- changed bytes, by what they are read as
reads_client : (key : Key) (r : Result Segment BadPacket) (before after : World) (sent others : List Packet) → ClientReads key r before sent after
    → ClientReads key r (beside before others) sent (beside after (others ++ sent))
reads_client key (Ok segment) before after sent others d = (d.0, ap (λ w. beside w (others ++ sent)) d.1)
reads_client key (Err why) before after sent others d = (d.0, ap (λ w. beside w (others ++ sent)) d.1)

reads_log : (r : Result Message BadMsg) (before after : World) (sent others : List Packet) → LogReads r before sent after
    → LogReads r (beside before others) sent (beside after (others ++ sent))
reads_log (Ok message) before after sent others d = (d.0, ap (λ w. beside w (others ++ sent)) d.1)
reads_log (Err why) before after sent others d = (d.0, ap (λ w. beside w (others ++ sent)) d.1)

delivers_as : {State : Type 0} (service : Machine State) (before after : World) (packet : Packet) (bytes : List ℕ) (sent others : List Packet)
    → DeliveredAs service before packet bytes sent after → DeliveredAs service (beside before others) packet bytes sent (beside after (others ++ sent))
delivers_as service before after (To_server segment) bytes sent others d = (d.0, ap (λ w. beside w (others ++ sent)) d.1)
delivers_as service before after (To_client segment) bytes sent others d = reads_client (destination_of segment) (segments.reading bytes) before after sent others d
delivers_as service before after (To_logger message) bytes sent others d = reads_log (messages.reading_by (grammar_of before.profile) bytes) before after sent others d
delivers_as service before after (From_logger message) bytes sent others d = (d.0, ap (λ w. beside w (others ++ sent)) d.1)

flips : {State : Type 0} (service : Machine State) (before after : World) (packet : Packet) (bit : ℕ) (sent others : List Packet) → Flipped service before packet bit sent after
    → Flipped service (beside before others) packet bit sent (beside after (others ++ sent))
flips service before after packet bit sent others f =
    record { wire = f.wire; within = f.within; comes = delivers_as service before after packet (flipped bit (wire_by (grammar_of before.profile) packet).bytes) sent others f.comes }

moves : (before after : World) (number : ℕ) (sent others : List Packet) → Moves before number sent after → Moves (beside before others) number sent (beside after (others ++ sent))
moves before after number sent others m =
    record { client = m.client; segment = m.segment; later = m.later; is_there = m.is_there; move = m.move; sent_is = m.sent_is; after_is = ap (λ w. beside w (others ++ sent)) m.after_is }

-- the event in the other world: a packet has another number there
pub happens_beside : {State : Type 0} (service : Machine State) (before after : World) (event : Event) (sent others : List Packet) → IsWithin before.packets others
    → Happens service before event sent after → (same : Event) × Happens service (beside before others) same sent (beside after (others ++ sent))
happens_beside service before after (events.Boot boot isn) sent others w h =
    (events.Boot boot isn, (h.0, h.1, h.2, ap (λ w. beside w (others ++ sent)) h.3))
happens_beside service before after events.Crash sent others w h = (events.Crash, (h.0, h.1, ap (λ w. beside w (others ++ sent)) h.2))
happens_beside service before after events.Tick sent others w h = (events.Tick, (h.0, (h.1.0, ap (λ w. beside w (others ++ sent)) h.1.1)))
happens_beside service before after (events.Deliver number) sent others w h =
    let there : IsAt others h.0 = within_at before.packets others number h.0 w h.1 in
    (events.Deliver there.0, (h.0, there.1, delivers service before after h.0 sent others h.2))
happens_beside service before after (events.Flip number bit) sent others w h =
    let there : IsAt others h.0 = within_at before.packets others number h.0 w h.1 in
    (events.Flip there.0 bit, (h.0, there.1, flips service before after h.0 bit sent others h.2))
happens_beside service before after (events.Begin client window) sent others w h = (events.Begin client window, moves before after client sent others h)
happens_beside service before after (events.Send client from len) sent others w h = (events.Send client from len, moves before after client sent others h)
happens_beside service before after (events.Fin client) sent others w h = (events.Fin client, moves before after client sent others h)
happens_beside service before after (events.Ack client window) sent others w h = (events.Ack client window, moves before after client sent others h)
happens_beside service before after (events.Reset client) sent others w h = (events.Reset client, moves before after client sent others h)
happens_beside service before after (events.Stop part) sent others w h = absurd h

-- one more moment after a joint trace
pub shown_calm : {State : Type 0} (service : Machine State) (start before after : World) (event : Event) (sent : List Packet) → IsShown service start before
    → Happens service before event sent after → after.packets ≡ before.packets ++ sent → IsShown service start after
shown_calm service start before after event sent shown h grown =
    let also : (same : Event) × Happens service (beside before shown.packets) same sent (beside after (shown.packets ++ sent)) =
    happens_beside service before after event sent shown.packets shown.within h in
    record {
      trace = record { event = also.0; sent = sent; world = beside after (shown.packets ++ sent) } ∷ shown.trace;
      joint = (shown.joint, subst (λ w. Happens service w also.0 sent (beside after (shown.packets ++ sent))) (sym shown.same) also.1);
      packets = shown.packets ++ sent;
      same = refl;
      within = subst (λ l. IsWithin l (shown.packets ++ sent)) (sym grown) (within_more before.packets shown.packets sent shown.within);
    }

abbrev answers_to : Log → Message → List Packet
answers_to log message = option_to_list (option_map From_logger (answer_to log message))

answered : (o : Option Message) → AllByRecursion IsAnswer (option_to_list (option_map From_logger o))
answered None = tt
answered (Some message) = (tt, tt)

-- a message that the file has and nobody was answered for: it was delivered, and its answer lost
shown_kept : {State : Type 0} (service : Machine State) (start before : World) (number : ℕ) (message : Message) → IsShown service start before
    → packet_at before.packets number ≡ Some (To_logger message) → IsShown service start (record before { log = log_after before.log message })
shown_kept service start before number message shown is =
    let there : IsAt shown.packets (To_logger message) = within_at before.packets shown.packets number (To_logger message) shown.within is in
    let lost : List Packet = answers_to before.log message in
    let after : World = record before { log = log_after before.log message; packets = shown.packets ++ lost } in
    let receipt : Happens service (beside before shown.packets) (events.Deliver there.0) lost after = (To_logger message, there.1, (refl, refl)) in
    record {
      trace = record { event = events.Deliver there.0; sent = lost; world = after } ∷ shown.trace;
      joint = (shown.joint, subst (λ w. Happens service w (events.Deliver there.0) lost after) (sym shown.same) receipt);
      packets = shown.packets ++ lost;
      same = refl;
      within = within_lost before.packets shown.packets lost (answered (answer_to before.log message)) shown.within;
    }

shown_back : {State : Type 0} (service : Machine State) (start before : World) (numbers : List ℕ) (log : Log) → IsShown service start before
    → ComesBack before.packets numbers before.log log → IsShown service start (record before { log = log })
shown_back service start before [] log shown back = subst (λ l. IsShown service start (record before { log = l })) (sym back) shown
shown_back service start before (number ∷ numbers) log shown back =
    shown_back service start (record before { log = log_after before.log back.0 }) numbers log (shown_kept service start before number back.0 shown back.1) back.2

pub shown_step : {State : Type 0} (service : Machine State) (start before after : World) (step : Step) (sent : List Packet) → IsShown service start before
    → MayHappen service before step sent after → IsShown service start after
shown_step service start before after (Calm event) sent shown h = shown_calm service start before after event sent shown h (proceeds service event before after sent h)
shown_step service start before after (Dies numbers) sent shown h = subst (IsShown service start) (sym h.3) (shown_back service start before numbers h.0 shown h.1)

pub all_shown : {State : Type 0} (service : Machine State) (start : World) (trace : List MortalMoment) → MortalJoint service start trace → IsShown service start (mortal_after start trace)
all_shown service start [] j = record { trace = []; joint = j; packets = start.packets; same = refl; within = within_same start.packets }
all_shown service start (moment ∷ earlier) j = shown_step service start (mortal_after start earlier) moment.world moment.step moment.sent (all_shown service start earlier j.0) j.1
