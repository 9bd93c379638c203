-- A turn of a server that lasts is determined by its state and by what comes.
use Rattle.std.proofs.Common.{◌≡◌, ◌∙◌, ℕ, Bool, true, false, refl, sym, ap, ap₂, subst, MatchBool, MatchOption, Option, None, Some, List, [], ◌∷◌, ◌++◌}
use Rattle.ft_io.specs.declared.Key.{Key}
use Rattle.server_trait.specs.Service.{Machine}
use Rattle.ft_model.specs.Lawful.{LawfulTurn}
use Rattle.ft_model.specs.Network.{Packet}
use Rattle.ft_model.specs.Node.{Node, Place, Input}
use Rattle.ft_model.specs.Node.Input.{Packet_comes, Message_comes, Noise_comes, Tick_comes}
use Rattle.ft_model.specs.Node.Place.{Opens, Lives, Ended}
use Rattle.ft_model.proofs.TurnOnce.{turn_once}
use Rattle.long_laws.specs.LongResets.{says_full}
use Rattle.long_laws.specs.LongTrace.{places_at, last_rst}
use Rattle.long_laws.specs.Quarantine.{Quarantined, forgets, is_dropped}
use Rattle.lasting_laws.specs.Closing.{ended_by}
use Rattle.lasting_laws.specs.LastingTurn.{Patience, LastingNode, LastingInput, LastingSent, LastingTurn, UsualTurn, PacketTurn, GoesUsually, DropsOpening, TicksLasting, EndsQuarantine, RestsLasting, Tends, TendsAll, Stays, after_turn}
use Rattle.lasting_laws.specs.LastingTurn.LastingInput.{Usual_comes, Forget_comes}
use Rattle.lasting_laws.specs.Watching.{Watch, is_let_go}

-- two of a kind, by cases
both_bool : {A B C D R : Type 0} (b : Bool) → MatchBool b A B → MatchBool b C D → (A → C → R) → (B → D → R) → R
both_bool true p q f g = f p q
both_bool false p q f g = g p q

both_option : {A B D R : Type 0} (F G : A → Type 0) (o : Option A) → MatchOption o B F → MatchOption o D G → (B → D → R) → ((x : A) → F x → G x → R) → R
both_option F G None p q f g = f p q
both_option F G (Some x) p q f g = g x p q

module _ {State : Type 0} (service : Machine State) where
  abbrev Same : (s t : LastingSent) (a b : LastingNode) → Type 0
  Same s t a b = (s ≡ t) × (a ≡ b)

  usually_once : (n : LastingNode) (input : Input) (s t : LastingSent) (a b : LastingNode) → GoesUsually service n input s a → GoesUsually service n input t b → Same s t a b
  usually_once n input s t a b p q =
      let once = turn_once service n.node p.later q.later input p.packets q.packets p.turn q.turn in (
        p.sent_is ∙ (ap (λ (ps : List Packet). record { packets = ps; forgets = [] }) once.1 ∙ sym q.sent_is),
        p.after_is ∙ (ap (after_turn n input) once.0 ∙ sym q.after_is),
      )

  drops_once : (n : LastingNode) (input : Input) (s t : LastingSent) (a b : LastingNode) → DropsOpening service n input s a → DropsOpening service n input t b → Same s t a b
  drops_once n input s t a b p q =
      let once = turn_once service n.node p.later q.later input p.all q.all p.turn q.turn in
      (p.sent_is ∙ sym q.sent_is, p.after_is ∙ (ap (after_turn n input) once.0 ∙ sym q.after_is))

  packet_once : (patience : Patience) (n : LastingNode) (input : Input) (s t : LastingSent) (a b : LastingNode) → PacketTurn service patience n input s a → PacketTurn service patience n input t b
      → Same s t a b
  packet_once patience n input s t a b p q =
      both_bool (is_dropped patience.wait n.node.server input n.quarantine) p q (λ x y. (x.0 ∙ sym y.0, x.1 ∙ sym y.1))
      (λ x y. both_option (λ r. EndsQuarantine patience.wait n r s a) (λ r. EndsQuarantine patience.wait n r t b) (ended_by n.node.server n.ends input n.quarantine) x y (usually_once n input s t a b)
      (λ r f g. (f.0 ∙ sym g.0, f.1 ∙ sym g.1)))

  -- what is let go of and asked at a tick
  tends_once : (silence : ℕ) (watches : Key → Watch) (node : Node) (place : Place) (s t : List Packet) (a b : Node) → Tends service silence watches node place s a → Tends service silence watches node place t b
      → (s ≡ t) × (a ≡ b)
  tends_once silence watches node (Lives p) s t a b x y =
      both_bool (is_let_go silence (watches p.key) p) x y
      (λ f g. let once = turn_once service node a b (Packet_comes (last_rst node.server p)) s t f g in (once.1, once.0))
      (λ f g. (f.0 ∙ sym g.0, f.1 ∙ sym g.1))
  tends_once silence watches node (Opens numbers timestamping) s t a b x y = (x.0 ∙ sym y.0, x.1 ∙ sym y.1)
  tends_once silence watches node (Ended key) s t a b x y = (x.0 ∙ sym y.0, x.1 ∙ sym y.1)

  tends_all_once : (silence : ℕ) (watches : Key → Watch) (node : Node) (places : List Place) (s t : List Packet) (a b : Node) → TendsAll service silence watches node places s a
      → TendsAll service silence watches node places t b → (s ≡ t) × (a ≡ b)
  tends_all_once silence watches node [] s t a b x y = (x.0 ∙ sym y.0, x.1 ∙ sym y.1)
  tends_all_once silence watches node (place ∷ places) s t a b x y =
      let one : (x.0 ≡ y.0) × (x.2 ≡ y.2) = tends_once silence watches node place x.0 y.0 x.2 y.2 x.4 y.4 in
      let more : (x.1 ≡ y.1) × (a ≡ b) = tends_all_once silence watches y.2 places x.1 y.1 a b (subst (λ m. TendsAll service silence watches m places x.1 a) one.1 x.5) y.5 in
      (x.3 ∙ (ap₂ (λ f g. f ++ g) one.0 more.0 ∙ sym y.3), more.1)

  ticks_once : (patience : Patience) (n : LastingNode) (s t : LastingSent) (a b : LastingNode) → TicksLasting service patience n s a → TicksLasting service patience n t b → Same s t a b
  ticks_once patience n s t a b p q =
      let once : (p.later ≡ q.later) × (p.first ≡ q.first) = turn_once service n.node p.later q.later Tick_comes p.first q.first p.turn q.turn in
      let all : (p.rest ≡ q.rest) × (p.last ≡ q.last) =
      tends_all_once patience.silence (after_turn n Tick_comes q.later).watches q.later (places_at q.later.stage) p.rest q.rest p.last q.last
      (subst (λ (m : Node). TendsAll service patience.silence (after_turn n Tick_comes m).watches m (places_at m.stage) p.rest p.last) once.0 p.tends) q.tends in
      let sent : record { packets = p.first ++ p.rest; forgets = forgets patience.wait n.node.boot Tick_comes (after_turn n Tick_comes p.later).quarantine }
      ≡ record { packets = q.first ++ q.rest; forgets = forgets patience.wait n.node.boot Tick_comes (after_turn n Tick_comes q.later).quarantine } =
      λ i. record { packets = once.1 i ++ all.0 i; forgets = forgets patience.wait n.node.boot Tick_comes (after_turn n Tick_comes (once.0 i)).quarantine } in
      let later : record (after_turn n Tick_comes p.later) { node = p.last } ≡ record (after_turn n Tick_comes q.later) { node = q.last } =
      λ i. record (after_turn n Tick_comes (once.0 i)) { node = all.1 i } in
      (p.sent_is ∙ (sent ∙ sym q.sent_is), p.after_is ∙ (later ∙ sym q.after_is))

  usual_once : (patience : Patience) (n : LastingNode) (input : Input) (s t : LastingSent) (a b : LastingNode) → UsualTurn service patience n input s a → UsualTurn service patience n input t b
      → Same s t a b
  usual_once patience n (Packet_comes segment) s t a b p q = packet_once patience n (Packet_comes segment) s t a b p q
  usual_once patience n (Message_comes message) s t a b p q =
      both_bool (says_full message.body) p q (drops_once n (Message_comes message) s t a b) (usually_once n (Message_comes message) s t a b)
  usual_once patience n Noise_comes s t a b p q = usually_once n Noise_comes s t a b p q
  usual_once patience n Tick_comes s t a b p q = ticks_once patience n s t a b p q

  pub lasting_turn_once : (patience : Patience) (n : LastingNode) (input : LastingInput) (s t : LastingSent) (a b : LastingNode) → LastingTurn service patience n input s a
      → LastingTurn service patience n input t b → Same s t a b
  lasting_turn_once patience n (Usual_comes input) s t a b p q = usual_once patience n input s t a b p q
  lasting_turn_once patience n (Forget_comes message) s t a b p q = (p.0 ∙ sym q.0, p.1 ∙ sym q.1)
