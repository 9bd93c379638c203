-- What is let go of and asked at a tick, place by place.
use Rattle.std.proofs.Common.{◌≡◌, ◌∙◌, ℕ, zero, suc, Bool, true, false, MatchBool, refl, sym, ap, ap₂, subst, map, slice_get, take, drop, Option, Some, None, List, [], ◌∷◌, ◌++◌, append_assoc, append-nil, if◌then◌else◌}
use Rattle.std.specs.List.{AllByRecursion}
use Rattle.std.specs.Map.{lookup, keys_of}
use Rattle.std.proofs.lemmas.List.{map-append}
use Rattle.ft_io.specs.declared.Key.{Key}
use Rattle.ft_io.specs.Key.{key_eq}
use Rattle.server_trait.specs.Service.{Machine}
use Rattle.server_trait.specs.declared.Service.{Ghosts}
use Rattle.tcp_rules.specs.Profile.{grammar_of}
use Rattle.ft_model.specs.Keys.{AreDistinct}
use Rattle.ft_model.specs.Lawful.{LawfulTurn}
use Rattle.ft_model.specs.Network.{Packet}
use Rattle.ft_model.specs.Network.Packet.{To_client}
use Rattle.ft_model.specs.Node.{Node, Place, Stage, key_of, place_at}
use Rattle.ft_model.specs.Node.Input.{Packet_comes}
use Rattle.ft_model.specs.Node.Place.{Opens, Lives, Ended}
use Rattle.ft_model.specs.Node.Stage.{Asking, Fetching, Serving, Fenced}
use Rattle.ft_model.specs.Point.{Point}
use Rattle.ft_model.specs.Wire.{Wire, wire_by, HasWireBy}
use Rattle.ft_model.specs.Wire.Party.{The_server}
use Rattle.ft_model.proofs.Lists.{none_is_some, some_is, all_append}
use Rattle.long_laws.specs.LongTrace.{places_at, last_rst, keep_alive}
use Rattle.lasting_laws.specs.LastingTurn as law
use Rattle.lasting_laws.specs.LastingTurn.{Tends, TendsAll, Stays}
use Rattle.lasting_laws.specs.Watching.{Watch, is_let_go, is_asked}
use Rattle.lasting_laws.proofs.ByKey.{serves_on}
use Rattle.lasting_laws.proofs.Ticks.{Tending, tended, no_new}
use Rattle.lasting_lives.specs.declared.life.Life.{Life}
use Rattle.lasting_lives.specs.declared.life.Life.TheVariants as life
use Rattle.lasting_lives.specs.declared.watch.Due.TheVariants as due
use Rattle.lasting_lives.specs.Known.{LivesStand, LifeStands}
use Rattle.lasting_lives.specs.Lives.{watch_in}
use Rattle.lasting_lives.proofs.Released.{lives_released, keys_stay}
use Rattle.node_serving.specs.Identity.{node_of, service_of, grammar_in}
use Rattle.node_serving.specs.SentBytes.{sent_to, party_of}
use Rattle.node_serving.specs.Slots.{AllStand}
use Rattle.node_serving.specs.declared.out_packet.To.{To}
use Rattle.node_serving.specs.declared.slot.Slot.{Slot}
use Rattle.node_serving.proofs.OneKey.{place_key}
use Rattle.server_node.specs.Places.{slots_at}
use Rattle.server_node.specs.Stages.{StageStands}
use Rattle.server_node.specs.declared.stage.Stage.{Stage as CodeStage}
use Rattle.server_node.specs.declared.stage.Stage.TheVariants as stage
use Rattle.lasting_node.specs.declared.node.LastingNode.{LastingNode}
use Rattle.lasting_node.specs.Tending.{with_node, Tended, TendsOne}
use Rattle.lasting_node.specs.Turns.{LastingStands, NodeWent, known_of}
use Rattle.lasting_node.proofs.Going.{lives_same}

-- what is known of the key of a place
pub life_at : (n : law.LastingNode) (at : Stage) (lives : Key → Option Life) (key : Key) (place : Place) → LivesStand n at lives → place_at key (places_at at) ≡ Some place
    → LifeStands n key (Some place) (lives key)
life_at n (Serving opened places) lives key place st e = subst (λ o. LifeStands n key o (lives key)) e (st key)
life_at n Asking lives key place st e = none_is_some place e
life_at n (Fetching count fetched) lives key place st e = none_is_some place e
life_at n (Fenced newer) lives key place st e = none_is_some place e

-- A place of which nothing is due
module _ {State : Type 0} (service : Machine State) (silence : ℕ) (watches : Key → Watch) (node : Node) where
  pub unwatched : (n : law.LastingNode) (key : Key) (place : Place) (l : Option Life) → LifeStands n key (Some place) l → watch_in l ≡ None → Tends service silence watches node place [] node
  unwatched n key (Lives p) (Some (life.Watched w)) st e = none_is_some w (sym e)
  unwatched n key (Lives p) (Some (life.Resting r)) st e = absurd st
  unwatched n key (Lives p) None st e = absurd st
  unwatched n key (Opens m t) l st e = (refl, refl)
  unwatched n key (Ended k) l st e = (refl, refl)

  pub let_go_of : (p : Point) (sent : List Packet) (next : Node) → is_let_go silence (watches p.key) p ≡ true → LawfulTurn service node (Packet_comes (last_rst node.server p)) sent next
      → Tends service silence watches node (Lives p) sent next
  let_go_of p sent next gone turn =
      subst (λ b. MatchBool b (LawfulTurn service node (Packet_comes (last_rst node.server p)) sent next) (Stays silence (watches p.key) node (Lives p) sent next)) (sym gone) turn

  pub stays_live : (p : Point) (sent : List Packet) → is_let_go silence (watches p.key) p ≡ false → sent ≡ (if is_asked silence (watches p.key) p then To_client (keep_alive node.server p) ∷ [] else [])
      → Tends service silence watches node (Lives p) sent node
  stays_live p sent here is =
      subst (λ b. MatchBool b (LawfulTurn service node (Packet_comes (last_rst node.server p)) sent node) (Stays silence (watches p.key) node (Lives p) sent node)) (sym here) (is, refl)

-- what is due by the law, by the two tests
pub due_nothing : (a b : Bool) → (if a then due.LetGo else (if b then due.KeepAlive else due.Nothing)) ≡ due.Nothing → (a ≡ false) × (b ≡ false)
due_nothing true b e = absurd (cc)
due_nothing false true e = absurd (cc)
due_nothing false false e = (refl, refl)

pub due_keep_alive : (a b : Bool) → (if a then due.LetGo else (if b then due.KeepAlive else due.Nothing)) ≡ due.KeepAlive → (a ≡ false) × (b ≡ true)
due_keep_alive true b e = absurd (cc)
due_keep_alive false true e = (refl, refl)
due_keep_alive false false e = absurd (cc)

pub due_let_go : (a b : Bool) → (if a then due.LetGo else (if b then due.KeepAlive else due.Nothing)) ≡ due.LetGo → a ≡ true
due_let_go true b e = refl
due_let_go false true e = absurd (cc)
due_let_go false false e = absurd (cc)

-- nothing is sent, and nothing changes
pub idle : {S : Type 0} {s : Ghosts S} (n : law.LastingNode) (place : Place) (now : LastingNode S s) → LastingStands (service_of s now.node.who) n now
    → Tends (service_of s now.node.who) now.patience.silence n.watches n.node place [] n.node → TendsOne n place now now
idle n place now st t = record { next = n.node; packets = []; tends = t; tended = record { stands = st; wires = sym (append-nil now.own.sent.items); spelled = tt } }

-- Several places, one after another
module _ {State : Type 0} (service : Machine State) (silence : ℕ) (watches : Key → Watch) where
  pub tends_more : (xs : List Place) (y : Place) (m mid next : Node) (sent first : List Packet) → TendsAll service silence watches m xs sent mid
      → Tends service silence watches mid y first next → TendsAll service silence watches m (xs ++ y ∷ []) (sent ++ first) next
  tends_more [] y m mid next sent first t one = (
    first,
    [],
    next,
    ap (λ l. l ++ first) t.0 ∙ sym (append-nil first),
    subst (λ x. Tends service silence watches x y first next) t.1 one,
    (refl, refl),
  )
  tends_more (x ∷ xs) y m mid next sent first (here, rest, behind, sent_is, tend, more) one = (
    here,
    rest ++ first,
    behind,
    ap (λ l. l ++ first) sent_is ∙ append_assoc here rest first,
    tend,
    tends_more xs y behind mid next rest first more one,
  )

  -- what is still to be tended, and the keys, after one more
  passed : (m : Node) (place : Place) (left : List Place) → Tending m (place ∷ left) → Tending m left
  passed m place left t = record { opened = t.opened; places = t.places; at = t.at; apart = t.apart; left_apart = t.left_apart.1; there = t.there.1 }

  by_let_go : (p : Point) (left : List Place) (m next : Node) (sent : List Packet) (b : Bool) → is_let_go silence (watches p.key) p ≡ b → Tending m (Lives p ∷ left)
      → MatchBool b (LawfulTurn service m (Packet_comes (last_rst m.server p)) sent next) (Stays silence (watches p.key) m (Lives p) sent next)
      → Tending next left × (map key_of (places_at next.stage) ≡ map key_of (places_at m.stage))
  by_let_go p left m next sent true gone t turn =
      let served = serves_on service m next (Packet_comes (last_rst m.server p)) t.opened t.places sent t.at refl turn in
      let went : served.0 ≡ served.2.went = served.2.places ∙ (ap (λ l. served.2.went ++ l) (no_new m p t.opened t.places) ∙ append-nil served.2.went) in (
        tended service m next p left sent t turn,
        ap (λ x. map key_of (places_at x)) served.1
            ∙ (ap (map key_of) went
            ∙ (keys_stay service m (last_rst m.server p) t.places served.2.went served.2.by_places served.2.all_go ∙ sym (ap (λ x. map key_of (places_at x)) t.at))),
      )
  by_let_go p left m next sent false here t turn =
      (subst (λ x. Tending x left) (sym turn.1) (passed m (Lives p) left t), ap (λ x. map key_of (places_at x.stage)) turn.1)

  pub one_tended : (place : Place) (left : List Place) (m next : Node) (sent : List Packet) → Tending m (place ∷ left) → Tends service silence watches m place sent next
      → Tending next left × (map key_of (places_at next.stage) ≡ map key_of (places_at m.stage))
  one_tended (Lives p) left m next sent t one = by_let_go p left m next sent (is_let_go silence (watches p.key) p) refl t one
  one_tended (Opens n stamping) left m next sent t one = (subst (λ x. Tending x left) (sym one.1) (passed m (Opens n stamping) left t), ap (λ x. map key_of (places_at x.stage)) one.1)
  one_tended (Ended k) left m next sent t one = (subst (λ x. Tending x left) (sym one.1) (passed m (Ended k) left t), ap (λ x. map key_of (places_at x.stage)) one.1)

  pub all_tended : (left : List Place) (m last : Node) (sent : List Packet) → Tending m left → TendsAll service silence watches m left sent last
      → Tending last [] × (map key_of (places_at last.stage) ≡ map key_of (places_at m.stage))
  all_tended [] m last sent t all = (subst (λ x. Tending x []) (sym all.1) t, ap (λ x. map key_of (places_at x.stage)) all.1)
  all_tended (p ∷ left) m last sent t (first, rest, behind, sent_is, one, more) =
      let after = one_tended p left m behind first t one in
      let end = all_tended left behind last rest after.0 more in
      (end.0, end.1 ∙ after.1)

-- the keys of slots are those of the places
all_keys : {S : Type 0} (service : Machine S) (node : Node) (es : List (Key × Slot S)) (places : List Place) → AllStand service node es places → map key_of places ≡ keys_of es
all_keys service node [] [] st = refl
all_keys service node [] (q ∷ qs) st = absurd st
all_keys service node (e ∷ es) [] st = absurd st
all_keys service node (e ∷ es) (q ∷ qs) st = ap₂ (λ a b. a ∷ b) (place_key service node e.0 e.1 q st.0) (all_keys service node es qs st.1)

pub slot_keys : {S : Type 0} (service : Machine S) (node : Node) (at : CodeStage S) → StageStands service node at → map key_of (places_at node.stage) ≡ keys_of (slots_at at)
slot_keys service node stage.Asking st = ap (λ x. map key_of (places_at x)) st
slot_keys service node (stage.Fetching f) st = ap (λ x. map key_of (places_at x)) st.2
slot_keys service node (stage.Serving c) st = ap (λ x. map key_of (places_at x)) st.2 ∙ all_keys service node c.slots.entries st.1 st.3.slots
slot_keys service node (stage.Marked m) st = absurd st
slot_keys service node stage.Lost st = absurd st

-- the first `i` of these places are tended
pub record TendsTo {S : Type 0} {s : Ghosts S} (n : law.LastingNode) (places : List Place) (i : ℕ) (was now : LastingNode S s) : Type 0 where
  pub mid : Node
  pub packets : List Packet
  pub tends : TendsAll (service_of s was.node.who) was.patience.silence n.watches n.node (take i places) packets mid
  pub tended : Tended (with_node mid n) packets was now
  pub tending : Tending mid (drop i places)
  pub keys : map key_of (places_at mid.stage) ≡ map key_of places

one_dropped : {A : Type 0} (xs : List A) (i : ℕ) (x : A) → slice_get xs i ≡ Some x → drop i xs ≡ x ∷ drop (suc i) xs
one_dropped [] i x e = none_is_some x e
one_dropped (y ∷ ys) zero x e = ap (λ z. z ∷ ys) (some_is y x e)
one_dropped (y ∷ ys) (suc i) x e = one_dropped ys i x e

one_taken : {A : Type 0} (xs : List A) (i : ℕ) (x : A) → slice_get xs i ≡ Some x → take (suc i) xs ≡ take i xs ++ x ∷ []
one_taken [] i x e = none_is_some x e
one_taken (y ∷ ys) zero x e = ap (λ z. z ∷ []) (some_is y x e)
one_taken (y ∷ ys) (suc i) x e = ap (λ l. y ∷ l) (one_taken ys i x e)

module _ {S : Type 0} {s : Ghosts S} (n : law.LastingNode) (places : List Place) (was : LastingNode S s) where
  pub none_yet : (t : Tending n.node places) → places ≡ places_at n.node.stage → LastingStands (service_of s was.node.who) n was → TendsTo n places 0 was was
  none_yet t is st = record {
    mid = n.node;
    packets = [];
    tends = (refl, refl);
    tended = record { stands = st; wires = sym (append-nil was.own.sent.items); spelled = tt };
    tending = t;
    keys = ap (map key_of) (sym is);
  }

  -- the place that is next is there
  pub next_there : (i : ℕ) (now : LastingNode S s) (place : Place) (t : TendsTo n places i was now) → slice_get places i ≡ Some place → place_at (key_of place) (places_at t.mid.stage) ≡ Some place
  next_there i now place t e =
      let here : Tending t.mid (place ∷ drop (suc i) places) = subst (λ l. Tending t.mid l) (one_dropped places i place e) t.tending in
      ap (λ x. place_at (key_of place) (places_at x)) here.at ∙ here.there.0

  pub one_more : (i : ℕ) (place : Place) (now later : LastingNode S s) → slice_get places i ≡ Some place → now.node.who ≡ was.node.who → now.patience ≡ was.patience → (t : TendsTo n places i was now)
      → TendsOne (with_node t.mid n) place now later → TendsTo n places (suc i) was later
  one_more i place now later e who patience t o =
      let tends : Tends (service_of s was.node.who) was.patience.silence n.watches t.mid place o.packets o.next =
      subst (λ x. Tends (service_of s x) was.patience.silence n.watches t.mid place o.packets o.next) who
      (subst (λ p. Tends (service_of s now.node.who) p.silence n.watches t.mid place o.packets o.next) patience o.tends) in
      let here : Tending t.mid (place ∷ drop (suc i) places) = subst (λ l. Tending t.mid l) (one_dropped places i place e) t.tending in
      let after = one_tended (service_of s was.node.who) was.patience.silence n.watches place (drop (suc i) places) t.mid o.next o.packets here tends in
      record {
        mid = o.next;
        packets = t.packets ++ o.packets;
        tends = subst (λ l. TendsAll (service_of s was.node.who) was.patience.silence n.watches n.node l (t.packets ++ o.packets) o.next) (sym (one_taken places i place e))
            (tends_more (service_of s was.node.who) was.patience.silence n.watches (take i places) place n.node t.mid o.next t.packets o.packets t.tends tends);
        tended = record {
          stands = subst (λ x. LastingStands (service_of s x) (with_node o.next n) later) who o.tended.stands;
          wires = subst (λ x. later.own.sent.items ≡ now.own.sent.items ++ map (wire_by (grammar_in x)) o.packets) who o.tended.wires
              ∙ (ap (λ l. l ++ map (wire_by (grammar_in was.node.who)) o.packets) t.tended.wires
              ∙ (append_assoc was.own.sent.items (map (wire_by (grammar_in was.node.who)) t.packets) (map (wire_by (grammar_in was.node.who)) o.packets)
              ∙ ap (λ l. was.own.sent.items ++ l) (sym (map-append (wire_by (grammar_in was.node.who)) t.packets o.packets))));
          spelled = all_append (HasWireBy (grammar_in was.node.who)) t.packets o.packets t.tended.spelled
              (subst (λ x. AllByRecursion (HasWireBy (grammar_in x)) o.packets) who o.tended.spelled);
        };
        tending = after.0;
        keys = after.1 ∙ t.keys;
      }

-- the turn by which a client is let go of
pub let_go_tends : {S : Type 0} {s : Ghosts S} (n : law.LastingNode) (p : Point) (was mid now : LastingNode S s) → LastingStands (service_of s was.node.who) n was
    → place_at p.key (places_at n.node.stage) ≡ Some (Lives p) → is_let_go was.patience.silence (n.watches p.key) p ≡ true
    → NodeWent (service_of s was.node.who) n (Packet_comes (last_rst n.node.server p)) mid → mid.lives ≡ was.lives → now.node ≡ mid.node → now.lives ≡ mid.lives
    → now.own.sent.items ≡ was.own.sent.items ++ mid.node.turn.sent.items → TendsOne n (Lives p) was now
let_go_tends {S} {s} n p was mid now st there gone w same node lives sent =
    let service : Machine S = service_of s was.node.who in
    let grammar : grammar_of n.node.profile ≡ grammar_in was.node.who = ap (λ x. grammar_of x.profile) st.who in
    record {
      next = w.later;
      packets = w.packets;
      tends = let_go_of service was.patience.silence n.watches n.node p w.packets w.later gone w.turn;
      tended = record {
        stands = record {
          who = w.who ∙ ap (λ x. node_of x.who w.later.stage) (sym node);
          stage = subst (λ x. StageStands service w.later x.stage) (sym node) w.stands;
          lives = lives_same (with_node w.later n) w.later.stage (known_of was) (known_of now) (λ key. ap (λ l. lookup (key_eq key) l) (sym (lives ∙ same)))
              (by_stage n.node.stage refl there w.before);
          apart = st.apart;
        };
        wires = sent ∙ (ap (λ l. was.own.sent.items ++ l) w.wires ∙ ap (λ g. was.own.sent.items ++ map (wire_by g) w.packets) grammar);
        spelled = subst (λ g. AllByRecursion (HasWireBy g) w.packets) grammar w.spelled;
      };
    }
  where
    by_stage : (at : Stage) → n.node.stage ≡ at → place_at p.key (places_at at) ≡ Some (Lives p) → AreDistinct (map key_of (places_at n.node.stage)) → LivesStand (with_node w.later n) w.later.stage (known_of was)
    by_stage (Serving opened places) at e d =
        lives_released (service_of s was.node.who) n (Packet_comes (last_rst n.node.server p)) w.later opened places w.packets (known_of was) at refl
        (subst (λ x. AreDistinct (map key_of (places_at x))) at d) w.turn st.lives
    by_stage Asking at e d = none_is_some (Lives p) e
    by_stage (Fetching count fetched) at e d = none_is_some (Lives p) e
    by_stage (Fenced newer) at e d = none_is_some (Lives p) e

-- a packet by its parts
pub same_wire : (w : Wire) (to : To) (bytes : List ℕ) → w.from ≡ The_server → party_of to ≡ w.to → bytes ≡ w.bytes → sent_to to bytes ≡ w
same_wire w to bytes from is text = λ i. record { from = sym from i; to = is i; bytes = text i }
