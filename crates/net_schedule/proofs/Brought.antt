-- Bytes that a method of the world hands to a client, to the server or to a logger reach the addressee of the packet or parcel that has this direction, in each of the three worlds.
use Rattle.std.proofs.Common.{◌≡◌, ◌∙◌, sym, ap, subst, refl, ℕ, ◌≤◌, le_refl, List, length}
use Rattle.seq_arith.specs.PacketGrammar as segments
use Rattle.seq_arith.specs.MessageGrammar as messages
use Rattle.server_trait.specs.declared.Service.{Ghosts}
use Rattle.tcp_rules.specs.Profile.{grammar_of}
use Rattle.tcp_rules.specs.Profiles.{profile_of}
use Rattle.ft_model.specs.World.{World as Seen, DeliveredAs, MayCome, ServerMoves, segment_or_noise, message_or_noise}
use Rattle.ft_model.specs.declared.way.Way.{Way}
use Rattle.ft_model.specs.declared.way.Way.TheVariants.{ClientToServer, ServerToClient, ServerToLogger, LoggerToServer, HeadToTail, TailToHead}
use Rattle.twin_laws.specs.TwinWorld.{seen}
use Rattle.mark_laws.specs.MarkedNode.MarkedInput.{Plain_comes}
use Rattle.mark_laws.specs.MarkedWorld.{ServerMoves as MarkedMoves, said_by}
use Rattle.mark_laws.specs.MarkedWorld.{input_of as received_from}
use Rattle.node_serving.specs.Markers.{Saving}
use Rattle.net_schedule.specs.Actors.{ActorsStand, ActorsProceed}
use Rattle.net_schedule.specs.Delivery.{delivered_to}
use Rattle.net_schedule.specs.MarkedRefinement.{MarkedProceeds, MayComeMarked}
use Rattle.net_schedule.specs.Premises.{Premises}
use Rattle.net_schedule.specs.WorldView.{kept, service_of}
use Rattle.net_schedule.specs.MarkedTurns.{marker_in}
use Rattle.net_schedule.specs.TwinRefinement.{TwinProceeds, ParcelComesAs}
use Rattle.net_schedule.specs.Turns.{Continues, Serves, ReportsLogger, Brings}
use Rattle.net_schedule.specs.declared.world.World.{World}
use Rattle.net_schedule.proofs.Bringing.{brings_client, brings_logger, none_between, packet_comes, packet_brought, message_comes, message_brought}
use Rattle.net_schedule.proofs.Goings.{actors_of, one_goes}
use Rattle.net_schedule.proofs.MarkedActors.{client_brought}
use Rattle.net_schedule.proofs.MarkedLogger.{brings_marked, no_marked_between}
use Rattle.net_schedule.proofs.MarkedServer.{segment_brought, answer_brought}
use Rattle.net_schedule.proofs.TwinActors.{twin_actors_of, two_brings}
use Rattle.net_schedule.proofs.TwinEvents.{by_outside}
use Rattle.net_schedule.proofs.TwinLoggers.{brings_loggers, logs_grow}

module _ {State : Type 0} {ghosts : Ghosts State} (saved : Saving State) (w w' : World State ghosts) (way : Way) (bytes : List ℕ) where
  pub to_client : (number : ℕ) → way ≡ ServerToClient number → kept w' ≡ record (kept w) { clients = delivered_to number bytes w.clients.items } → Brings saved way bytes w w'
  to_client number is so = record {
    continues = record { same_kind = ap (λ k. k.kind) so; same_profile = ap (λ k. k.profile) so; grew = subst (λ k. length w.packets.bytes ≤ length k.packets.bytes) (sym so) (le_refl (length w.packets.bytes)) };
    one = λ v packet st p along comes.
        one_goes (service_of w) (DeliveredAs (service_of w) v packet bytes) (kept w) (kept w') v st
        (brings_client (service_of w) (kept w) (kept w') v packet bytes number (actors_of (service_of w) (kept w) v st) p (sym is ∙ along) so);
    two = λ v parcel st p along comes.
        by_outside (λ x. TwinProceeds (service_of w) (ParcelComesAs (service_of w) x bytes v) v (kept w')) (kept w).keys (seen v p.packets) parcel (ServerToClient number) bytes refl (sym is ∙ along) comes
        (λ packet other goes came. two_brings (service_of w) (kept w) (kept w') v p.packets packet bytes other st
        (brings_client (service_of w) (kept w) (kept w') (seen v p.packets) packet bytes number (twin_actors_of (service_of w) (kept w) v p.packets st) p.premises goes so));
    marked = λ savable every v parcel st p along comes. client_brought (marker_in saved every w) (kept w) (kept w') v parcel bytes number st p (sym is ∙ along) so;
  }

  pub to_server : (number : ℕ) → way ≡ ClientToServer number → Serves saved (segment_or_noise (segments.reading bytes)) (Plain_comes (segment_or_noise (segments.reading bytes))) w w' → Brings saved way bytes w w'
  to_server number is so = record {
    continues = so.continues;
    one = λ v packet st p along comes.
        one_goes (service_of w) (DeliveredAs (service_of w) v packet bytes) (kept w) (kept w') v st
        (packet_brought (service_of w) (kept w).keys v packet bytes number (kept w) (kept w') (sym is ∙ along)
        (so.moves v (actors_of (service_of w) (kept w) v st) p (packet_comes (service_of w) (kept w).keys v packet bytes number (sym is ∙ along) comes)));
    two = λ v parcel st p along comes.
        by_outside (λ x. TwinProceeds (service_of w) (ParcelComesAs (service_of w) x bytes v) v (kept w')) (kept w).keys (seen v p.packets) parcel (ClientToServer number) bytes refl (sym is ∙ along) comes
        (λ packet other goes came. two_brings (service_of w) (kept w) (kept w') v p.packets packet bytes other st
        (packet_brought (service_of w) (kept w).keys (seen v p.packets) packet bytes number (kept w) (kept w') goes
        (so.moves (seen v p.packets) (twin_actors_of (service_of w) (kept w) v p.packets st) p.premises
        (packet_comes (service_of w) (kept w).keys (seen v p.packets) packet bytes number goes came))));
    marked = λ savable every v parcel st p along comes.
        segment_brought (marker_in saved every w) (kept w).keys (kept w') v parcel bytes number (sym is ∙ along) comes (λ may. so.marked savable every v st p may);
  }

  -- the server reads messages by its profile, which is that of the definitions' world
  moved : Serves saved (message_or_noise (messages.reading_by (grammar_of (profile_of w.profile)) bytes)) (received_from (said_by (grammar_of (profile_of w.profile)) bytes)) w w'
      → (v : Seen) → ActorsStand (service_of w) (kept w) v → Premises (service_of w) v → MayCome v (message_or_noise (messages.reading_by (grammar_of v.profile) bytes))
      → ActorsProceed (service_of w) (ServerMoves (service_of w) (message_or_noise (messages.reading_by (grammar_of v.profile) bytes)) v) v (kept w) (kept w')
  moved so v st p comes =
      subst (λ q. ActorsProceed (service_of w) (ServerMoves (service_of w) (message_or_noise (messages.reading_by (grammar_of q) bytes)) v) v (kept w) (kept w')) st.profile
      (so.moves v st p (subst (λ q. MayCome v (message_or_noise (messages.reading_by (grammar_of q) bytes))) (sym st.profile) comes))

  pub answer_to_server : way ≡ LoggerToServer
      → Serves saved (message_or_noise (messages.reading_by (grammar_of (profile_of w.profile)) bytes)) (received_from (said_by (grammar_of (profile_of w.profile)) bytes)) w w'
      → Brings saved way bytes w w'
  answer_to_server is so = record {
    continues = so.continues;
    one = λ v packet st p along comes.
        one_goes (service_of w) (DeliveredAs (service_of w) v packet bytes) (kept w) (kept w') v st
        (message_brought (service_of w) (kept w).keys v packet bytes (kept w) (kept w') (sym is ∙ along)
        (moved so v (actors_of (service_of w) (kept w) v st) p (message_comes (service_of w) (kept w).keys v packet bytes (sym is ∙ along) comes)));
    two = λ v parcel st p along comes.
        by_outside (λ x. TwinProceeds (service_of w) (ParcelComesAs (service_of w) x bytes v) v (kept w')) (kept w).keys (seen v p.packets) parcel LoggerToServer bytes refl (sym is ∙ along) comes
        (λ packet other goes came. two_brings (service_of w) (kept w) (kept w') v p.packets packet bytes other st
        (message_brought (service_of w) (kept w).keys (seen v p.packets) packet bytes (kept w) (kept w') goes
        (moved so (seen v p.packets) (twin_actors_of (service_of w) (kept w) v p.packets st) p.premises
        (message_comes (service_of w) (kept w).keys (seen v p.packets) packet bytes goes came))));
    marked = λ savable every v parcel st p along comes.
        answer_brought (marker_in saved every w) (kept w).keys (kept w') v parcel bytes (sym is ∙ along) comes
        (λ may. subst (λ q. MarkedProceeds (marker_in saved every w) (MarkedMoves (marker_in saved every w) (received_from (said_by (grammar_of q) bytes)) v) v (kept w')) st.actors.profile
        (so.marked savable every v st p (subst (λ q. MayComeMarked v (received_from (said_by (grammar_of q) bytes))) (sym st.actors.profile) may)));
  }

  -- what a logger sends is stored after what was
  more_logged : (to : Way) → ReportsLogger to bytes w w' → Continues w w'
  more_logged to so = record { same_kind = ap (λ k. k.kind) so.is; same_profile = ap (λ k. k.profile) so.is; grew = logs_grow (grammar_of (profile_of w.profile)) w.logs w'.logs to bytes w.packets w'.packets so.receipt }

  pub to_logger : way ≡ ServerToLogger → ReportsLogger ServerToLogger bytes w w' → Brings saved way bytes w w'
  to_logger is so = record {
    continues = more_logged ServerToLogger so;
    one = λ v packet st p along comes. brings_logger (service_of w) (kept w) (kept w') v packet bytes w.logs w'.logs w'.packets st (sym is ∙ along) refl refl so.receipt so.is;
    two = λ v parcel st p along comes. brings_loggers (service_of w) (kept w) (kept w') v st p.paired (grammar_of (profile_of w.profile)) w.logs w'.logs w'.packets parcel ServerToLogger bytes refl refl (sym is ∙ along) so.receipt so.is;
    marked = λ savable every v parcel st p along comes.
        brings_marked (marker_in saved every w) (kept w) (kept w') v st w.logs w'.logs w'.packets parcel bytes p.distinct refl refl (sym is ∙ along) so.receipt so.is;
  }

  pub to_tail : way ≡ HeadToTail → ReportsLogger HeadToTail bytes w w' → Brings saved way bytes w w'
  to_tail is so = record {
    continues = more_logged HeadToTail so;
    one = λ v packet st p along comes. none_between (service_of w) (kept w).keys packet HeadToTail refl (sym is ∙ along);
    two = λ v parcel st p along comes. brings_loggers (service_of w) (kept w) (kept w') v st p.paired (grammar_of (profile_of w.profile)) w.logs w'.logs w'.packets parcel HeadToTail bytes refl refl (sym is ∙ along) so.receipt so.is;
    marked = λ savable every v parcel st p along comes. no_marked_between (kept w).keys parcel HeadToTail refl (sym is ∙ along);
  }

  pub to_head : way ≡ TailToHead → ReportsLogger TailToHead bytes w w' → Brings saved way bytes w w'
  to_head is so = record {
    continues = more_logged TailToHead so;
    one = λ v packet st p along comes. none_between (service_of w) (kept w).keys packet TailToHead refl (sym is ∙ along);
    two = λ v parcel st p along comes. brings_loggers (service_of w) (kept w) (kept w') v st p.paired (grammar_of (profile_of w.profile)) w.logs w'.logs w'.packets parcel TailToHead bytes refl refl (sym is ∙ along) so.receipt so.is;
    marked = λ savable every v parcel st p along comes. no_marked_between (kept w).keys parcel TailToHead refl (sym is ∙ along);
  }
