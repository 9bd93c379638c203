-- A message of the log: what is known is true after it, and Full drops an opening silently.
use Rattle.std.proofs.Common.{◌≡◌, ◌∙◌, inl, inr, Bool, true, false, ◌==◌, not, MatchBool, refl, sym, ap, subst, [], map, Option, None, if◌then◌else◌}
use Rattle.std.specs.Map.{lookup}
use Rattle.ft_io.specs.declared.Key.{Key}
use Rattle.ft_io.specs.Key.{key_eq}
use Rattle.server_trait.specs.Service.{Machine}
use Rattle.server_trait.specs.declared.Service.{Ghosts}
use Rattle.seq_arith.specs.Message.{Message}
use Rattle.ft_model.specs.Keys.{AreDistinct}
use Rattle.ft_model.specs.Lawful.{fence}
use Rattle.ft_model.specs.Node.{key_of}
use Rattle.ft_model.specs.Node.Input.{Message_comes}
use Rattle.ft_model.specs.Wire.{wire_by}
use Rattle.tcp_rules.specs.Profile.{grammar_of}
use Rattle.long_laws.specs.LongResets.{says_full}
use Rattle.long_laws.specs.LongTrace.{places_at}
use Rattle.lasting_laws.specs.LastingTurn as law
use Rattle.lasting_laws.specs.LastingTurn.{GoesUsually, DropsOpening, nothing_sent, after_turn}
use Rattle.lasting_laws.specs.LastingTurn.LastingInput.{Usual_comes}
use Rattle.lasting_laws.proofs.ByKey.{quarantines_differ}
use Rattle.lasting_lives.specs.declared.life.Life.{Life}
use Rattle.lasting_lives.specs.declared.life.Resting.{Resting}
use Rattle.lasting_lives.specs.Known.{LivesStand, EndsBy}
use Rattle.lasting_lives.proofs.Noted.{noted_serving, noted_asking, noted_fetching, other_boot_serving, other_boot_asking, other_boot_fetching}
use Rattle.node_serving.specs.Identity.{node_of, service_of}
use Rattle.server_node.specs.Places.{is_serving}
use Rattle.server_node.specs.Stages.{StageStands}
use Rattle.lasting_node.specs.declared.node.LastingNode.{LastingNode}
use Rattle.lasting_node.specs.Notes.{IsAtStage, NotesMessage, Notes, OnReceipt}
use Rattle.lasting_node.specs.Tending.{SendsOnly, NotesOnly}
use Rattle.lasting_node.specs.Turns.{LastingStands, LastingTurns, NodeWent, NodeProceeds, GoesAlone, known_of, sent_by}
use Rattle.lasting_node.proofs.Going.{goes, usually, lives_same, IsServing, serving_of, IsRestarting, restarting_of}
use Rattle.lasting_node.proofs.Passing.{own_node}
use Rattle.lasting_node.proofs.Leaving.{same_stands}

-- where only what is known changes after the node's turn
abbrev pub went_still : {S : Type 0} {s : Ghosts S} (service : Machine S) (n : law.LastingNode) (message : Message) (mid now : LastingNode S s) → now.node ≡ mid.node
    → NodeWent service n (Message_comes message) mid → NodeWent service n (Message_comes message) now
went_still service n message mid now same w = record {
  later = w.later;
  packets = w.packets;
  turn = w.turn;
  who = w.who ∙ ap (λ x. node_of x.who w.later.stage) (sym same);
  stands = subst (λ x. StageStands service w.later x.stage) (sym same) w.stands;
  before = w.before;
  apart = w.apart;
  wires = subst (λ x. x.turn.sent.items ≡ map (wire_by (grammar_of n.node.profile)) w.packets) (sym same) w.wires;
  spelled = w.spelled;
}

module _ {S : Type 0} {s : Ghosts S} (was : LastingNode S s) (message : Message) where
  abbrev service : Machine S
  service = service_of s was.node.who

  -- the connection that the message ends, as it is known before
  abbrev EndsAs : Option Resting → Type 0
  EndsAs ends = (n : law.LastingNode) → LastingStands service n was → EndsBy n.node.stage message.body ends

  module _ (n : law.LastingNode) (st : LastingStands service n was) (unfenced : fence n.node (Message_comes message) ≡ None) (now : LastingNode S s)
      (w : NodeWent service n (Message_comes message) now) where
    before_at : (x : IsServing service n.node was.node.stage) → AreDistinct (map key_of x.places)
    before_at x = subst (λ at. AreDistinct (map key_of (places_at at))) x.is w.before

    other_known : (ends : Option Resting) → EndsAs ends → (message.boot == was.node.who.boot) ≡ false → (b : Bool) → is_serving was.node.stage ≡ b
        → LivesStand (after_turn n (Message_comes message) w.later) w.later.stage (known_of was)
    other_known ends ends_as other true e =
        let x = serving_of service n.node was.node.stage st.stage e in
        other_boot_serving service n message w.later x.opened x.places w.packets x.is (before_at x) w.apart unfenced w.turn ends (known_of was) (ap (λ y. message.boot == y.boot) st.who ∙ other)
        (ends_as n st) st.lives
    other_known ends ends_as other false e = by_restart (restarting_of service n.node was.node.stage st.stage e)
      where
        not_its : (message.boot == n.node.boot) ≡ false
        not_its = ap (λ y. message.boot == y.boot) st.who ∙ other

        by_restart : IsRestarting n.node.stage → LivesStand (after_turn n (Message_comes message) w.later) w.later.stage (known_of was)
        by_restart (inl at) = other_boot_asking service n message w.later w.packets unfenced w.turn (known_of was) not_its at (subst (λ x. LivesStand n x (known_of was)) at st.lives).1
        by_restart (inr (count, fetched, at)) =
            other_boot_fetching service n message w.later w.packets unfenced w.turn (known_of was) count fetched not_its at (subst (λ x. LivesStand n x (known_of was)) at st.lives).1

    own_known : (ends : Option Resting) (new : Key → Option Life) → EndsAs ends → (message.boot == was.node.who.boot) ≡ true → (b : Bool) → is_serving was.node.stage ≡ b
        → NotesMessage message.body ends (not b) w.later.stage (known_of was) new → LivesStand (after_turn n (Message_comes message) w.later) w.later.stage new
    own_known ends new ends_as own true e notes =
        let x = serving_of service n.node was.node.stage st.stage e in
        noted_serving service n message w.later x.opened x.places w.packets x.is (before_at x) w.apart unfenced w.turn (ap (λ y. message.boot == y.boot) st.who ∙ own) (known_of was) new ends
        (ends_as n st) notes st.lives
    own_known ends new ends_as own false e notes = by_restart (restarting_of service n.node was.node.stage st.stage e)
      where
        by_restart : IsRestarting n.node.stage → LivesStand (after_turn n (Message_comes message) w.later) w.later.stage new
        by_restart (inl at) = noted_asking service n message w.later w.packets unfenced w.turn at (known_of was) new notes (subst (λ x. LivesStand n x (known_of was)) at st.lives).1
        by_restart (inr (count, fetched, at)) =
            let before = subst (λ x. LivesStand n x (known_of was)) at st.lives in
            noted_fetching service n message w.later w.packets unfenced w.turn count fetched at before.0 w.apart (known_of was) new notes before.1

  -- a message of another boot
  pub received_other : (now : LastingNode S s) (ends : Option Resting) → EndsAs ends → (message.boot == was.node.who.boot) ≡ false → NodeProceeds (Message_comes message) was now → GoesAlone was now
      → OnReceipt message was now
  received_other now ends ends_as other proceeds alone = λ n sound unfenced st.
      let w = proceeds n tt sound (own_node service n was st) in
      record {
        went = w;
        lives = lives_same (after_turn n (Message_comes message) w.later) w.later.stage (known_of was) (known_of now) (λ key. ap (λ lives. lookup (key_eq key) lives) (sym alone.lives))
            (other_known n st unfenced now w ends ends_as other (is_serving was.node.stage) refl);
      }

  -- .. and one of its own, of which something is noted
  pub received_own : (mid now : LastingNode S s) (ends : Option Resting) (restarts : Bool) → EndsAs ends → restarts ≡ not (is_serving was.node.stage) → (message.boot == was.node.who.boot) ≡ true
      → NodeProceeds (Message_comes message) was mid → GoesAlone was mid → Notes message.body ends restarts mid now → NotesOnly mid now → OnReceipt message was now
  received_own mid now ends restarts ends_as restarts_is own proceeds alone notes only = λ n sound unfenced st.
      let w = proceeds n tt sound (own_node service n was st) in
      let at : IsAtStage w.later.stage mid =
      subst (λ x. StageStands (service_of s x) (node_of mid.node.who w.later.stage) mid.node.stage) (sym alone.who) (subst (λ y. StageStands service y mid.node.stage) w.who w.stands) in
      let noted : NotesMessage message.body ends (not (is_serving was.node.stage)) w.later.stage (known_of was) (known_of now) =
      subst (λ b. NotesMessage message.body ends b w.later.stage (known_of was) (known_of now)) restarts_is
      (subst (λ f. NotesMessage message.body ends restarts w.later.stage f (known_of now)) (ap (λ lives key. lookup (key_eq key) lives) alone.lives) (notes w.later.stage at)) in
      record {
        went = went_still service n message mid now only.node w;
        lives = own_known n st unfenced mid w ends (known_of now) ends_as own (is_serving was.node.stage) refl noted;
      }

  -- the turn on it
  pub received : (now : LastingNode S s) → OnReceipt message was now → says_full message.body ≡ false → now.is_own ≡ false → LastingTurns (Usual_comes (Message_comes message)) was now (sent_by now)
  received now on_receipt other own = λ n fair st.
      let h = on_receipt n fair.sound fair.unfenced st in
      let sent : law.LastingSent = record { packets = h.went.packets; forgets = [] } in
      let after : law.LastingNode = after_turn n (Message_comes message) h.went.later in
      goes service n (Message_comes message) was now h.went h.lives
      (subst (λ b. MatchBool b (DropsOpening service n (Message_comes message) sent after) (GoesUsually service n (Message_comes message) sent after)) (sym other)
      (usually service n (Message_comes message) now h.went)) own

  -- .. where it is Full
  pub received_full : (mid now : LastingNode S s) → OnReceipt message was mid → says_full message.body ≡ true → SendsOnly mid now → now.own.sent.items ≡ [] → now.is_own ≡ true
      → LastingTurns (Usual_comes (Message_comes message)) was now (sent_by now)
  received_full mid now on_receipt full only empty own = λ n fair st.
      let h = on_receipt n fair.sound fair.unfenced st in
      let after : law.LastingNode = after_turn n (Message_comes message) h.went.later in
      record {
        after = after;
        packets = nothing_sent;
        stands = same_stands service after mid now only (record {
          who = h.went.who;
          stage = h.went.stands;
          lives = h.lives;
          apart = quarantines_differ n.node (Message_comes message) n.quarantine (places_at h.went.later.stage) h.went.apart;
        });
        turn = subst (λ b. MatchBool b (DropsOpening service n (Message_comes message) nothing_sent after) (GoesUsually service n (Message_comes message) nothing_sent after)) (sym full)
            (record { later = h.went.later; all = h.went.packets; turn = h.went.turn; sent_is = refl; after_is = refl });
        wires = ap (λ (b : Bool). if b then now.own.sent.items else now.node.turn.sent.items) own ∙ empty;
        spelled = tt;
      }
