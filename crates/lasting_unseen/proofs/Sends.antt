-- What an event sends comes after all that was sent before, which keeps its parcels, lost or not.
use Rattle.std.proofs.Common.{◌≡◌, ℕ, Bool, true, false, refl, sym, ap, ◌∙◌, append-nil, Option, Some, None, List, [], ◌∷◌, ◌++◌, map}
use Rattle.std.specs.Prelude.{Result, Ok, Err}
use Rattle.ft_io.specs.declared.Key.{Key}
use Rattle.server_trait.specs.Service.{Machine}
use Rattle.seq_arith.specs.Damage.{flipped}
use Rattle.seq_arith.specs.Message.{Message}
use Rattle.seq_arith.specs.Packet.{Segment}
use Rattle.seq_arith.specs.PacketGrammar as segments
use Rattle.seq_arith.specs.declared.BadPacket.{BadPacket}
use Rattle.ft_model.specs.Network.{destination_of}
use Rattle.ft_model.specs.Network.Packet.{To_server, To_client, To_logger, From_logger}
use Rattle.ft_model.specs.Node.Input.{Packet_comes, Message_comes, Tick_comes}
use Rattle.ft_model.specs.World.{segment_or_noise}
use Rattle.ft_model.specs.declared.event.Event.{Event}
use Rattle.ft_model.specs.declared.event.Event.TheVariants.{Boot, Crash, Tick, Deliver, Flip, Begin, Send, Fin, Ack, Reset, Stop}
use Rattle.long_laws.specs.Forgetting.{ForgetMessage}
use Rattle.long_laws.specs.QuarantineWorld.{recycled_by}
use Rattle.lasting_laws.specs.LastingTurn.{LastingNode, LastingInput}
use Rattle.lasting_laws.specs.LastingTurn.LastingInput.{Usual_comes, Forget_comes}
use Rattle.lasting_laws.specs.LastingWorld.{Parcel, Sent, Said, LastingWorld, LastingHappens, ParcelComes, ComesAs, ClientReceives, ClientReads, LogReceives, LogForgets, LogReads, GuestMoves, NothingHappens, ServerTurn, Unless, under_way, with_recycled, lost_with, grammar_in, bytes_of, said_by, said_to_server}
use Rattle.lasting_laws.specs.LastingWorld.Parcel.{Usual, Forget_sent, Forgotten_sent}
use Rattle.lasting_laws.specs.LastingWorld.Said.{Says, Says_of_forgetting, Says_nothing}

abbrev pub parcels_in : List Sent → List Parcel
parcels_in sent = map (λ s. s.parcel) sent

pub record Sends (before : LastingWorld) (parcels : List Parcel) (after : LastingWorld) : Type 0 where
  pub earlier : List Sent
  pub is : after.sent ≡ earlier ++ under_way parcels
  pub same : parcels_in earlier ≡ parcels_in before.sent
  pub profile : after.profile ≡ before.profile

-- nothing is sent
silent : (before : LastingWorld) (parcels : List Parcel) (after : LastingWorld) → parcels ≡ [] → after.sent ≡ before.sent → after.profile ≡ before.profile → Sends before parcels after
silent before parcels after none e profile = record {
  earlier = before.sent;
  is = e ∙ (sym (append-nil before.sent) ∙ ap (λ l. before.sent ++ under_way l) (sym none));
  same = refl;
  profile = profile;
}

nothing_sends : (before : LastingWorld) (parcels : List Parcel) (after : LastingWorld) → NothingHappens before parcels after → Sends before parcels after
nothing_sends before parcels after h = silent before parcels after h.0 (ap (λ (w : LastingWorld). w.sent) h.1) (ap (λ (w : LastingWorld). w.profile) h.1)

-- what is lost keeps its parcel
still_parcels : (key : Key) (sent : List Sent) → parcels_in (map (lost_with key) sent) ≡ parcels_in sent
still_parcels key [] = refl
still_parcels key (s ∷ sent) = ap (λ l. s.parcel ∷ l) (still_parcels key sent)

recycled_parcels : (o : Option Key) (w : LastingWorld) → parcels_in (with_recycled o w).sent ≡ parcels_in w.sent
recycled_parcels (Some key) w = still_parcels key w.sent
recycled_parcels None w = refl

recycled_profile : (o : Option Key) (w : LastingWorld) → (with_recycled o w).profile ≡ w.profile
recycled_profile (Some key) w = refl
recycled_profile None w = refl

module _ {State : Type 0} (service : Machine State) where
  server_sends : (input : LastingInput) (o : Option LastingNode) (before : LastingWorld) (parcels : List Parcel) (after : LastingWorld) → ServerTurn service input o before parcels after → Sends before parcels after
  server_sends input None before parcels after h = nothing_sends before parcels after h
  server_sends input (Some node) before parcels after (later, out, turn, sent_is, after_is) =
      record { earlier = before.sent; is = ap (λ (w : LastingWorld). w.sent) after_is; same = refl; profile = ap (λ (w : LastingWorld). w.profile) after_is }

  receives_sends : (key : Key) (segment : Segment) (before : LastingWorld) (parcels : List Parcel) (after : LastingWorld) → ClientReceives key segment before parcels after → Sends before parcels after
  receives_sends key segment before parcels after h = silent before parcels after h.0 (ap (λ (w : LastingWorld). w.sent) h.1) (ap (λ (w : LastingWorld). w.profile) h.1)

  reads_sends : (key : Key) (r : Result Segment BadPacket) (before : LastingWorld) (parcels : List Parcel) (after : LastingWorld) → ClientReads key r before parcels after → Sends before parcels after
  reads_sends key (Ok segment) before parcels after h = receives_sends key segment before parcels after h
  reads_sends key (Err why) before parcels after h = nothing_sends before parcels after h

  log_sends : (message : Message) (before : LastingWorld) (parcels : List Parcel) (after : LastingWorld) → LogReceives message before parcels after → Sends before parcels after
  log_sends message before parcels after h =
      record { earlier = before.sent; is = ap (λ (w : LastingWorld). w.sent) h.1; same = refl; profile = ap (λ (w : LastingWorld). w.profile) h.1 }

  forgets_sends : (message : ForgetMessage) (before : LastingWorld) (parcels : List Parcel) (after : LastingWorld) → LogForgets message before parcels after → Sends before parcels after
  forgets_sends message before parcels after h = record {
    earlier = (with_recycled (recycled_by message before.log) before).sent;
    is = ap (λ (w : LastingWorld). w.sent) h.1;
    same = recycled_parcels (recycled_by message before.log) before;
    profile = ap (λ (w : LastingWorld). w.profile) h.1 ∙ recycled_profile (recycled_by message before.log) before;
  }

  said_sends : (said : Said) (before : LastingWorld) (parcels : List Parcel) (after : LastingWorld) → LogReads said before parcels after → Sends before parcels after
  said_sends (Says message) before parcels after h = log_sends message before parcels after h
  said_sends (Says_of_forgetting message) before parcels after h = forgets_sends message before parcels after h
  said_sends Says_nothing before parcels after h = nothing_sends before parcels after h

  comes_sends : (parcel : Parcel) (before : LastingWorld) (parcels : List Parcel) (after : LastingWorld) → ParcelComes service parcel before parcels after → Sends before parcels after
  comes_sends (Usual (To_server segment)) before parcels after h = server_sends (Usual_comes (Packet_comes segment)) before.node before parcels after h
  comes_sends (Usual (To_client segment)) before parcels after h = receives_sends (destination_of segment) segment before parcels after h
  comes_sends (Usual (To_logger message)) before parcels after h = log_sends message before parcels after h
  comes_sends (Usual (From_logger message)) before parcels after h = server_sends (Usual_comes (Message_comes message)) before.node before parcels after h
  comes_sends (Forget_sent message) before parcels after h = forgets_sends message before parcels after h
  comes_sends (Forgotten_sent message) before parcels after h = server_sends (Forget_comes message) before.node before parcels after h

  changed_sends : (parcel : Parcel) (bytes : List ℕ) (before : LastingWorld) (parcels : List Parcel) (after : LastingWorld) → ComesAs service parcel bytes before parcels after → Sends before parcels after
  changed_sends (Usual (To_server segment)) bytes before parcels after h = server_sends (Usual_comes (segment_or_noise (segments.reading bytes))) before.node before parcels after h
  changed_sends (Usual (To_client segment)) bytes before parcels after h = reads_sends (destination_of segment) (segments.reading bytes) before parcels after h
  changed_sends (Usual (To_logger message)) bytes before parcels after h = said_sends (said_by (grammar_in before) bytes) before parcels after h
  changed_sends (Usual (From_logger message)) bytes before parcels after h = server_sends (said_to_server (said_by (grammar_in before) bytes)) before.node before parcels after h
  changed_sends (Forget_sent message) bytes before parcels after h = said_sends (said_by (grammar_in before) bytes) before parcels after h
  changed_sends (Forgotten_sent message) bytes before parcels after h = server_sends (said_to_server (said_by (grammar_in before) bytes)) before.node before parcels after h

  unless_sends : (lost : Bool) (Goes : LastingWorld → List Parcel → LastingWorld → Type 0) → ((before : LastingWorld) (parcels : List Parcel) (after : LastingWorld) → Goes before parcels after → Sends before parcels after)
      → (before : LastingWorld) (parcels : List Parcel) (after : LastingWorld) → Unless lost Goes before parcels after → Sends before parcels after
  unless_sends true Goes sends before parcels after h = nothing_sends before parcels after h
  unless_sends false Goes sends before parcels after h = sends before parcels after h

  move_sends : (event : Event) (before : LastingWorld) (parcels : List Parcel) (after : LastingWorld) → GuestMoves before event parcels after → Sends before parcels after
  move_sends event before parcels after h =
      record { earlier = before.sent; is = ap (λ (w : LastingWorld). w.sent) h.after_is; same = refl; profile = ap (λ (w : LastingWorld). w.profile) h.after_is }

  pub event_sends : (event : Event) (before : LastingWorld) (parcels : List Parcel) (after : LastingWorld) → LastingHappens service before event parcels after → Sends before parcels after
  event_sends (Boot boot isn) before parcels after h =
      record { earlier = before.sent; is = ap (λ (w : LastingWorld). w.sent) h.1; same = refl; profile = ap (λ (w : LastingWorld). w.profile) h.1 }
  event_sends Crash before parcels after h = silent before parcels after h.0 (ap (λ (w : LastingWorld). w.sent) h.1) (ap (λ (w : LastingWorld). w.profile) h.1)
  event_sends Tick before parcels after h = server_sends (Usual_comes Tick_comes) before.node before parcels after h
  event_sends (Deliver number) before parcels after (s, at, h) = unless_sends s.lost (ParcelComes service s.parcel) (comes_sends s.parcel) before parcels after h
  event_sends (Flip number bit) before parcels after (s, at, h) =
      unless_sends s.lost (ComesAs service s.parcel (flipped bit (bytes_of (grammar_in before) s.parcel)))
      (changed_sends s.parcel (flipped bit (bytes_of (grammar_in before) s.parcel))) before parcels after h
  event_sends (Begin client window) before parcels after h = move_sends (Begin client window) before parcels after h
  event_sends (Send client from len) before parcels after h = move_sends (Send client from len) before parcels after h
  event_sends (Fin client) before parcels after h = move_sends (Fin client) before parcels after h
  event_sends (Ack client window) before parcels after h = move_sends (Ack client window) before parcels after h
  event_sends (Reset client) before parcels after h = move_sends (Reset client) before parcels after h
  event_sends (Stop part) before parcels after h = absurd h
