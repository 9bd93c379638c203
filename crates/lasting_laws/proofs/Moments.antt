-- A turn of a server that lasts is a moment of the world with its quarantine.
use Rattle.std.proofs.Common.{◌≡◌, ◌∙◌, ℕ, ◌&&◌, Bool, true, false, refl, sym, ap, subst, MatchBool, MatchOption, append-nil, Option, Some, None, List, [], ◌∷◌, ◌++◌}
use Rattle.ft_io.specs.declared.Key.{Key}
use Rattle.ft_io.specs.Key.{key_eq}
use Rattle.ft_io.proofs.Choices.{some_if}
use Rattle.server_trait.specs.Service.{Machine}
use Rattle.seq_arith.specs.Packet.{Segment}
use Rattle.seq_arith.specs.Message.{Message}
use Rattle.ft_model.specs.Lawful.{LawfulTurn}
use Rattle.ft_model.specs.Network.{Packet, packet_at, source_of}
use Rattle.ft_model.specs.Network.Packet.{To_server, To_client, To_logger, From_logger}
use Rattle.ft_model.specs.Node.{Node, Input, is_for}
use Rattle.ft_model.specs.Node.Input.{Packet_comes, Message_comes}
use Rattle.ft_model.specs.World.{World, Happens, ServerTurn, Delivered}
use Rattle.ft_model.specs.declared.event.Event.TheVariants.{Deliver}
use Rattle.ft_model.proofs.Lists.{found_passes, same_key, none_is_some, some_is}
use Rattle.long_laws.specs.LongResets.{says_full}
use Rattle.long_laws.specs.LongTrace.LongStep.{Joint_event}
use Rattle.long_laws.specs.Quarantine.{Quarantined, quarantined_at, is_dropped, ended_early}
use Rattle.long_laws.specs.QuarantineWorld.{QuarantineWorld, Usually, DropsSilently, event_input, arriving, quarantine_then, forgets_then, drops, is_full_input, AllAreFresh}
use Rattle.long_laws.specs.QuarantineWorld.QuarantineStep.{Usual, Ends_early}
use Rattle.lasting_laws.specs.AsMoments.{IsServerOf, world_then, OpensFresh, IsOneMoment}
use Rattle.lasting_laws.specs.Closing.{ended_by, is_newer}
use Rattle.lasting_laws.specs.LastingTurn.{LastingNode, LastingSent, LastingTurn, Patience, nothing_sent, RestsLasting, GoesUsually, DropsOpening, EndsQuarantine, after_turn}
use Rattle.lasting_laws.specs.LastingTurn.LastingInput.{Usual_comes}

module _ {State : Type 0} (service : Machine State) (wait : ℕ) (n : LastingNode) (w : QuarantineWorld) (own : IsServerOf n w) where
  -- the world after a turn of its node
  abbrev world_of : Input → Node → LastingSent → QuarantineWorld
  world_of input later sent = world_then (after_turn n input later) sent w

  abbrev server_moved : Node → List Packet → World
  server_moved later sent = record w.now { node = Some later; packets = w.now.packets ++ sent }

  -- nothing has happened
  same : world_then n nothing_sent w ≡ w
  same = λ i. record w {
    now = record w.now { node = sym own.up i; packets = append-nil w.now.packets i };
    notes = append-nil w.notes i;
    quarantine = sym own.quarantine i;
  }

  -- a connection's quarantine ends early
  ends : (q : Quarantined) (key : Key) → quarantined_at key n.quarantine ≡ Some q → (sent : LastingSent) (after : LastingNode) → EndsQuarantine wait n q sent after
      → IsOneMoment service wait w sent.packets (world_then after sent w)
  ends q key found sent after t =
      let its : q.named.key ≡ key = same_key q.named.key key (found_passes (λ x. key_eq x.named.key key) n.quarantine q found) in
      let there : quarantined_at q.named.key w.quarantine ≡ Some q = ap (quarantined_at q.named.key) own.quarantine ∙ (ap (λ k. quarantined_at k n.quarantine) its ∙ found) in
      let is : world_then after sent w ≡ record w { notes = w.notes ++ Rattle.long_laws.specs.Forgetting.forget n.node.boot q.named ∷ []; quarantine = ended_early wait q.named.key w.quarantine } =
      (λ i. world_then (t.1 i) (t.0 i) w)
      ∙ (λ i. record w {
        now = record w.now { node = sym own.up i; packets = append-nil w.now.packets i };
        notes = w.notes ++ Rattle.long_laws.specs.Forgetting.forget n.node.boot q.named ∷ [];
        quarantine = ended_early wait q.named.key (sym own.quarantine i);
      }) in
      (Ends_early q.named.key, (ap (λ s. s.packets) t.0, record { node = n.node; up = own.up; quarantined = q; found = there; after_is = is }))

  -- what comes by a delivery
  module _ (number : ℕ) (packet : Packet) (input : Input) (at : packet_at w.now.packets number ≡ Some packet) (arrives : arriving (Some packet) ≡ Some input)
      (fresh : OpensFresh n input w) where
    comes : event_input w.now (Deliver number) ≡ Some input
    comes = ap arriving at ∙ arrives

    dropped_is : drops wait w.now.node (event_input w.now (Deliver number)) w.quarantine ≡ is_dropped wait n.node.server input n.quarantine
    dropped_is = λ i. drops wait (own.up i) (comes i) (own.quarantine i)

    full_is : is_full_input (event_input w.now (Deliver number)) ≡ is_full_input (Some input)
    full_is = ap is_full_input comes

    rests : (sent : LastingSent) (after : LastingNode) → is_dropped wait n.node.server input n.quarantine ≡ true → RestsLasting n sent after
        → IsOneMoment service wait w sent.packets (world_then after sent w)
    rests sent after d t = (
      Usual (Joint_event (Deliver number)),
      (
        refl,
        subst (λ b. MatchBool b ((sent.packets ≡ []) × (world_then after sent w ≡ w)) (MatchBool (is_full_input (event_input w.now (Deliver number)))
            (DropsSilently service w (Joint_event (Deliver number)) sent.packets (world_then after sent w))
            (Usually service wait w (Joint_event (Deliver number)) sent.packets (world_then after sent w)))) (sym (dropped_is ∙ d))
            (ap (λ s. s.packets) t.0, (λ i. world_then (t.1 i) (t.0 i) w) ∙ same),
      ),
    )

    -- a turn of its node happens
    happened : (later : Node) (all : List Packet) → LawfulTurn service n.node input all later
        → Happens service w.now (Deliver number) all (server_moved later all)
    happened later all t = (packet, at, delivered packet arrives)
      where
        turn : (i : Input) → i ≡ input → ServerTurn service i w.now.node all (Some later)
        turn i e = subst (λ o. ServerTurn service i o all (Some later)) (sym own.up) (later, refl, subst (λ x. LawfulTurn service n.node x all later) (sym e) t)

        delivered : (p : Packet) → arriving (Some p) ≡ Some input → Delivered service w.now p all (server_moved later all)
        delivered (To_server segment) e = (turn (Packet_comes segment) (some_is (Packet_comes segment) input e), refl)
        delivered (From_logger message) e = (turn (Message_comes message) (some_is (Message_comes message) input e), refl)
        delivered (To_client segment) e = none_is_some input e
        delivered (To_logger message) e = none_is_some input e

    goes : (sent : LastingSent) (after : LastingNode) → is_dropped wait n.node.server input n.quarantine ≡ false → is_full_input (Some input) ≡ false
        → forgets_then wait (Some n.node) (Some input) after.quarantine ≡ [] → GoesUsually service n input sent after
        → IsOneMoment service wait w sent.packets (world_then after sent w)
    goes sent after d f none t = (Usual (Joint_event (Deliver number)), (refl, both))
      where
        one : Usually service wait w (Joint_event (Deliver number)) t.packets (world_of input t.later (record { packets = t.packets; forgets = [] }))
        one = record {
          passes = (happened t.later t.packets t.turn, refl);
          quarantine = λ i. quarantine_then (sym own.up i) (sym comes i) (Some t.later) (sym own.quarantine i);
          notes = ap (λ l. w.notes ++ l)
              (sym (ap (λ x. forgets_then wait (Some n.node) (Some input) x.quarantine) (sym t.after_is) ∙ none)
              ∙ (λ i. forgets_then wait (sym own.up i) (sym comes i) (after_turn n input t.later).quarantine));
          fresh = subst (λ o. AllAreFresh o (event_input w.now (Deliver number)) w.notes) (sym own.up) (subst (λ x. AllAreFresh (Some n.node) x w.notes) (sym comes) fresh);
        }

        here : Usually service wait w (Joint_event (Deliver number)) sent.packets (world_then after sent w)
        here = subst (λ s. Usually service wait w (Joint_event (Deliver number)) s.packets (world_then after s w)) (sym t.sent_is)
            (subst (λ a. Usually service wait w (Joint_event (Deliver number)) t.packets (world_then a (record { packets = t.packets; forgets = [] }) w)) (sym t.after_is) one)

        both : MatchBool (drops wait w.now.node (event_input w.now (Deliver number)) w.quarantine) ((sent.packets ≡ []) × (world_then after sent w ≡ w))
            (MatchBool (is_full_input (event_input w.now (Deliver number)))
            (DropsSilently service w (Joint_event (Deliver number)) sent.packets (world_then after sent w))
            (Usually service wait w (Joint_event (Deliver number)) sent.packets (world_then after sent w)))
        both = rw (dropped_is ∙ d) (rw (full_is ∙ f) here)

    drops_opening : (sent : LastingSent) (after : LastingNode) → is_dropped wait n.node.server input n.quarantine ≡ false → is_full_input (Some input) ≡ true
        → DropsOpening service n input sent after → IsOneMoment service wait w sent.packets (world_then after sent w)
    drops_opening sent after d f t = (Usual (Joint_event (Deliver number)), (refl, both))
      where
        one : DropsSilently service w (Joint_event (Deliver number)) [] (world_of input t.later nothing_sent)
        one = record {
          all = t.all;
          there = server_moved t.later t.all;
          passes = (happened t.later t.all t.turn, refl);
          quarantine = λ i. quarantine_then (sym own.up i) (sym comes i) (Some t.later) (sym own.quarantine i);
          notes = append-nil w.notes;
          sent_is = refl;
          now_is = ap (λ l. record w.now { node = Some t.later; packets = l }) (append-nil w.now.packets);
        }

        here : DropsSilently service w (Joint_event (Deliver number)) sent.packets (world_then after sent w)
        here = subst (λ s. DropsSilently service w (Joint_event (Deliver number)) s.packets (world_then after s w)) (sym t.sent_is)
            (subst (λ a. DropsSilently service w (Joint_event (Deliver number)) [] (world_then a nothing_sent w)) (sym t.after_is) one)

        both : MatchBool (drops wait w.now.node (event_input w.now (Deliver number)) w.quarantine) ((sent.packets ≡ []) × (world_then after sent w ≡ w))
            (MatchBool (is_full_input (event_input w.now (Deliver number)))
            (DropsSilently service w (Joint_event (Deliver number)) sent.packets (world_then after sent w))
            (Usually service wait w (Joint_event (Deliver number)) sent.packets (world_then after sent w)))
        both = rw (dropped_is ∙ d) (rw (full_is ∙ f) here)

-- A turn on what comes by a delivery is one moment
module _ {State : Type 0} (service : Machine State) (patience : Patience) (n : LastingNode) (w : QuarantineWorld) (own : IsServerOf n w) (number : ℕ) where
  on_packet : (segment : Segment) → packet_at w.now.packets number ≡ Some (To_server segment) → OpensFresh n (Packet_comes segment) w → (sent : LastingSent) (after : LastingNode)
      → (d : Bool) (o : Option Quarantined) → is_dropped patience.wait n.node.server (Packet_comes segment) n.quarantine ≡ d
      → ended_by n.node.server n.ends (Packet_comes segment) n.quarantine ≡ o
      → MatchBool d (RestsLasting n sent after) (MatchOption o (GoesUsually service n (Packet_comes segment) sent after) (λ q. EndsQuarantine patience.wait n q sent after))
      → IsOneMoment service patience.wait w sent.packets (world_then after sent w)
  on_packet segment at fresh sent after true o dropped ended t = rests service patience.wait n w own number (To_server segment) (Packet_comes segment) at refl fresh sent after dropped t
  on_packet segment at fresh sent after false None dropped ended t =
      goes service patience.wait n w own number (To_server segment) (Packet_comes segment) at refl fresh sent after dropped refl refl t
  on_packet segment at fresh sent after false (Some q) dropped ended t =
      ends service patience.wait n w own q (source_of segment)
      (some_if (is_for n.node.server segment && is_newer (n.ends (source_of segment)) segment) (quarantined_at (source_of segment) n.quarantine) q ended).1 sent after t

  on_message : (message : Message) → packet_at w.now.packets number ≡ Some (From_logger message) → OpensFresh n (Message_comes message) w → (sent : LastingSent) (after : LastingNode)
      → (b : Bool) → says_full message.body ≡ b
      → MatchBool b (DropsOpening service n (Message_comes message) sent after) (GoesUsually service n (Message_comes message) sent after)
      → IsOneMoment service patience.wait w sent.packets (world_then after sent w)
  on_message message at fresh sent after true full t =
      drops_opening service patience.wait n w own number (From_logger message) (Message_comes message) at refl fresh sent after refl full t
  on_message message at fresh sent after false full t =
      goes service patience.wait n w own number (From_logger message) (Message_comes message) at refl fresh sent after refl full refl t

  pub one_moment : (input : Input) → event_input w.now (Deliver number) ≡ Some input → OpensFresh n input w → (sent : LastingSent) (after : LastingNode)
      → LastingTurn service patience n (Usual_comes input) sent after → IsOneMoment service patience.wait w sent.packets (world_then after sent w)
  one_moment input comes fresh sent after turn = by (packet_at w.now.packets number) refl comes
    where
      by : (o : Option Packet) → packet_at w.now.packets number ≡ o → arriving o ≡ Some input → IsOneMoment service patience.wait w sent.packets (world_then after sent w)
      by None at e = none_is_some input e
      by (Some (To_client segment)) at e = none_is_some input e
      by (Some (To_logger message)) at e = none_is_some input e
      by (Some (To_server segment)) at e =
          let is : input ≡ Packet_comes segment = sym (some_is (Packet_comes segment) input e) in
          on_packet segment at (subst (λ i. OpensFresh n i w) is fresh) sent after (is_dropped patience.wait n.node.server (Packet_comes segment) n.quarantine)
          (ended_by n.node.server n.ends (Packet_comes segment) n.quarantine) refl refl
          (subst (λ i. LastingTurn service patience n (Usual_comes i) sent after) is turn)
      by (Some (From_logger message)) at e =
          let is : input ≡ Message_comes message = sym (some_is (Message_comes message) input e) in
          on_message message at (subst (λ i. OpensFresh n i w) is fresh) sent after (says_full message.body) refl
          (subst (λ i. LastingTurn service patience n (Usual_comes i) sent after) is turn)
