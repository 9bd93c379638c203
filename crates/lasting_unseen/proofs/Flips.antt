-- A parcel with a changed bit says nothing to whoever gets it: nothing is seen of it.
use Rattle.std.proofs.Common.{◌≡◌, inr, ℕ, ◌*◌, ◌<◌, Bool, true, false, true≢false, nat_le, leb-false, refl, sym, ap, ◌∙◌, subst, append-nil, length, Option, Some, None, List, [], ◌∷◌, ◌++◌, if◌then◌else◌}
use Rattle.std.specs.Prelude.{Result, Ok, Err, IsErr}
use Rattle.std.specs.List.{AllByRecursion}
use Rattle.ft_io.specs.declared.Key.{Key}
use Rattle.server_trait.specs.Service.{Machine}
use Rattle.seq_arith.specs.Damage.{flipped}
use Rattle.seq_arith.specs.Packet.{Segment}
use Rattle.seq_arith.specs.PacketGrammar as segments
use Rattle.seq_arith.specs.declared.BadPacket.{BadPacket}
use Rattle.ft_model.specs.Client.{Client}
use Rattle.ft_model.specs.Masked.{RestartIsExact}
use Rattle.ft_model.specs.Network.{Packet, destination_of}
use Rattle.ft_model.specs.Network.Packet.{To_server, To_client, To_logger, From_logger}
use Rattle.ft_model.specs.Node.Input.{Noise_comes}
use Rattle.ft_model.specs.Wire.{HasWireBy}
use Rattle.ft_model.specs.declared.event.Event.TheVariants.{Flip}
use Rattle.ft_model.specs.declared.event.EventWhy.TheVariants as why
use Rattle.ft_model.proofs.Exact.{same_exact}
use Rattle.ft_model.proofs.Happened.{bit_changed, segment_is_noise}
use Rattle.ft_model.proofs.Lists.{all_slice_get, none_is_some}
use Rattle.long_laws.specs.ForgetGrammar.{IsSpellable}
use Rattle.long_laws.specs.Forgetting.{ForgetMessage}
use Rattle.long_laws.specs.LongTrace.{Gone}
use Rattle.long_laws.specs.Quarantine.{quarantine_after}
use Rattle.long_laws.specs.QuarantineWorld.{QuarantineWorld}
use Rattle.lasting_laws.specs.AsMoments.{world_then}
use Rattle.lasting_laws.specs.LastingLegal.{lasting_refusal, refusal_of_flip}
use Rattle.lasting_laws.specs.LastingTurn.{LastingNode, LastingInput, LastingSent, LastingTurn, GoesUsually, nothing_sent}
use Rattle.lasting_laws.specs.LastingTurn.LastingInput.{Usual_comes}
use Rattle.lasting_laws.specs.LastingWorld.{Parcel, Said, LastingWorld, LastingHappens, ComesAs, ClientReads, LogReads, NothingHappens, ServerTurn, ServerMoves, Unless, parcels_of, with_sent, sent_at, grammar_in, bytes_of, said_to_server}
use Rattle.lasting_laws.specs.LastingWorld.{Parcel as parcels}
use Rattle.lasting_laws.specs.LastingWorld.Said.{Says_nothing}
use Rattle.lasting_unseen.specs.Mirror.{note_of, notes_under_way, mirrored}
use Rattle.lasting_unseen.proofs.Guests.{Guested}
use Rattle.lasting_unseen.proofs.Noise.{node_stays, message_noise, forget_noise}
use Rattle.lasting_unseen.proofs.Parcels.{packet_there, note_there, usual_sent}
use Rattle.lasting_unseen.proofs.Peopled.{Peopled, have_wires}
use Rattle.lasting_unseen.proofs.Shows.{Shows, nothing_shows}
use Rattle.lasting_unseen.proofs.Turns.{own, turned, turned_is}

-- noise leaves the quarantine as it is
abbrev pub NoiseKeeps : Option LastingNode → Type 0
NoiseKeeps o = (n : LastingNode) → o ≡ Some n → quarantine_after n.node Noise_comes n.node.stage n.quarantine ≡ n.quarantine

none_happens : {State : Type 0} (service : Machine State) (w : LastingWorld) (clients : List Client) (past : List Gone) → Guested w.server w.guests clients past
    → (sent : List Parcel) (after : LastingWorld) → NothingHappens w sent after → Shows service w clients past sent after
none_happens service w clients past o sent after n =
    subst (λ l. Shows service w clients past l after) (sym n.0) (subst (Shows service w clients past []) (sym n.1) (nothing_shows service w clients past o))

module _ {State : Type 0} (service : Machine State) (w : LastingWorld) (clients : List Client) (past : List Gone) (o : Guested w.server w.guests clients past) where
  -- the server takes its turn, if it is up
  pub server_shows : (input : LastingInput) (sent : List Parcel) (after : LastingWorld)
      → ((n : LastingNode) (up : w.node ≡ Some n) (later : LastingNode) (out : LastingSent) → LastingTurn service w.patience n input out later
      → Shows service w clients past (parcels_of out) (turned service w clients past n up later out))
      → ServerMoves service input w sent after → Shows service w clients past sent after
  server_shows input sent after turns moves = by w.node refl moves
    where
      by : (node : Option LastingNode) → w.node ≡ node → ServerTurn service input node w sent after → Shows service w clients past sent after
      by None up t = none_happens service w clients past o sent after t
      by (Some n) up (later, out, turn, sent_is, after_is) =
          subst (λ l. Shows service w clients past l after) (sym sent_is)
          (subst (Shows service w clients past (parcels_of out)) (sym (after_is ∙ ap (λ l. with_sent l (record w { node = Some later })) sent_is)) (turns n up later out turn))

module _ {State : Type 0} (service : Machine State) (w : LastingWorld) (clients : List Client) (past : List Gone) (o : Guested w.server w.guests clients past)
    (keeps : NoiseKeeps w.node) where
  abbrev here : QuarantineWorld
  here = mirrored w clients past

  -- a turn on noise changes nothing that is seen
  module _ (n : LastingNode) (up : w.node ≡ Some n) (later : LastingNode) (out : LastingSent) (turn : GoesUsually service n Noise_comes out later) where
    stays : (turn.later ≡ n.node) × (turn.packets ≡ [])
    stays = node_stays service n.node turn.later turn.packets turn.turn

    node_is : later.node ≡ n.node
    node_is = ap (λ x. x.node) turn.after_is ∙ stays.0

    quarantine_is : later.quarantine ≡ n.quarantine
    quarantine_is = ap (λ x. x.quarantine) turn.after_is ∙ (ap (λ m. quarantine_after n.node Noise_comes m.stage n.quarantine) stays.0 ∙ keeps n up)

    out_is : out ≡ nothing_sent
    out_is = turn.sent_is ∙ ap (λ l. record { packets = l; forgets = [] }) stays.1

    world_stays : world_then later out here ≡ here
    world_stays = first ∙ second
      where
        first : world_then later out here ≡ world_then n nothing_sent here
        first = λ i. record here {
          now = record here.now { node = Some (node_is i); packets = here.now.packets ++ (out_is i).packets };
          notes = here.notes ++ (out_is i).forgets;
          quarantine = quarantine_is i;
        }

        second : world_then n nothing_sent here ≡ here
        second =
            let own_here = own service w clients past n up in
            λ i. record here {
              now = record here.now { node = sym own_here.up i; packets = append-nil here.now.packets i };
              notes = append-nil here.notes i;
              quarantine = sym own_here.quarantine i;
            }

    same_world : mirrored (turned service w clients past n up later out) clients past ≡ here
    same_world = turned_is service w clients past n up later out ∙ world_stays

    noise_turn : Shows service w clients past (parcels_of out) (turned service w clients past n up later out)
    noise_turn = record {
      later = clients;
      gone = past;
      passes = record {
        moments = [];
        leads = same_world;
        sent_is = sym (usual_sent out.packets out.forgets ∙ ap (λ x. x.packets) out_is);
        in_view = tt;
        exact = inr (subst (λ q. RestartIsExact service w.log here.now.node q.now.node) (sym same_world) (same_exact service w.log here.now.node));
      };
      guested = o;
      patience = refl;
      identified = λ i. i;
      identities = refl;
    }

  noise_shows : (input : LastingInput) → input ≡ Usual_comes Noise_comes → (sent : List Parcel) (after : LastingWorld) → ServerMoves service input w sent after → Shows service w clients past sent after
  noise_shows input is sent after moves =
      server_shows service w clients past o (Usual_comes Noise_comes) sent after (λ n up later out turn. noise_turn n up later out turn)
      (subst (λ x. ServerMoves service x w sent after) is moves)

  -- a client or the log gets nothing
  client_shows_none : (key : Key) (r : Result Segment BadPacket) → IsErr r → (sent : List Parcel) (after : LastingWorld) → ClientReads key r w sent after → Shows service w clients past sent after
  client_shows_none key (Err why) e sent after c = none_happens service w clients past o sent after c
  client_shows_none key (Ok segment) e sent after c = absurd (true≢false (sym e))

  log_shows_none : (said : Said) → said ≡ Says_nothing → (sent : List Parcel) (after : LastingWorld) → LogReads said w sent after → Shows service w clients past sent after
  log_shows_none said is sent after c = none_happens service w clients past o sent after (subst (λ s. LogReads s w sent after) is c)

  module _ (peopled : Peopled service here.now) (spelled : AllByRecursion IsSpellable (notes_under_way w.sent)) (number bit : ℕ) (sent : List Parcel) (after : LastingWorld) where
    wire : (packet : Packet) → sent_at w.sent number ≡ Some (record { parcel = parcels.Usual packet; lost = false }) → HasWireBy (grammar_in w) packet
    wire packet at =
        let there = packet_there w.sent number packet at in
        all_slice_get (HasWireBy (grammar_in w)) here.now.packets there.0 packet (have_wires service here.now peopled) there.1

    note_spelled : (parcel : Parcel) (message : ForgetMessage) → sent_at w.sent number ≡ Some (record { parcel = parcel; lost = false }) → note_of parcel ≡ message ∷ [] → IsSpellable message
    note_spelled parcel message at is =
        let there = note_there w.sent number parcel message at is in
        all_slice_get IsSpellable (notes_under_way w.sent) there.0 message spelled there.1

    comes_as : (parcel : Parcel) → sent_at w.sent number ≡ Some (record { parcel = parcel; lost = false }) → bit < 8 * length (bytes_of (grammar_in w) parcel)
        → ComesAs service parcel (flipped bit (bytes_of (grammar_in w) parcel)) w sent after → Shows service w clients past sent after
    comes_as (parcels.Usual (To_server segment)) at within c =
        noise_shows (Usual_comes _) (ap Usual_comes (segment_is_noise _ (bit_changed bit segment (wire (To_server segment) at) within))) sent after c
    comes_as (parcels.Usual (To_client segment)) at within c =
        client_shows_none (destination_of segment) (segments.reading (flipped bit (segments.spelling segment))) (bit_changed bit segment (wire (To_client segment) at) within) sent after c
    comes_as (parcels.Usual (To_logger message)) at within c = log_shows_none _ (message_noise (grammar_in w) bit message (wire (To_logger message) at) within) sent after c
    comes_as (parcels.Usual (From_logger message)) at within c =
        noise_shows _ (ap said_to_server (message_noise (grammar_in w) bit message (wire (From_logger message) at) within)) sent after c
    comes_as (parcels.Forget_sent message) at within c = log_shows_none _ (forget_noise (grammar_in w) bit message (note_spelled (parcels.Forget_sent message) message at refl) within) sent after c
    comes_as (parcels.Forgotten_sent message) at within c =
        noise_shows _ (ap said_to_server (forget_noise (grammar_in w) bit message (note_spelled (parcels.Forgotten_sent message) message at refl) within)) sent after c

    unless_comes : (parcel : Parcel) (lost : Bool) → sent_at w.sent number ≡ Some (record { parcel = parcel; lost = lost }) → bit < 8 * length (bytes_of (grammar_in w) parcel)
        → Unless lost (ComesAs service parcel (flipped bit (bytes_of (grammar_in w) parcel))) w sent after → Shows service w clients past sent after
    unless_comes parcel true at within c = none_happens service w clients past o sent after c
    unless_comes parcel false at within c = comes_as parcel at within c

    bit_within : (most : ℕ) → (if nat_le most bit then Some why.Bit else None) ≡ None → bit < most
    bit_within most e = on (nat_le most bit) refl e
      where
        on : (b : Bool) → nat_le most bit ≡ b → (if b then Some why.Bit else None) ≡ None → bit < most
        on true t x = none_is_some why.Bit (sym x)
        on false t x = leb-false most bit t

    pub flip_shows : lasting_refusal w (Flip number bit) ≡ None → LastingHappens service w (Flip number bit) sent after → Shows service w clients past sent after
    flip_shows free (s, at, c) =
        unless_comes s.parcel s.lost at
        (bit_within (8 * length (bytes_of (grammar_in w) s.parcel)) (subst (λ x. refusal_of_flip (grammar_in w) x bit ≡ None) at free)) c
