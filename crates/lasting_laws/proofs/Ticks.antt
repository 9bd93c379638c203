-- A tick of a server that lasts, as moments of the world with its quarantine: the tick, and then one for each client that is let go of or asked.
use Rattle.std.proofs.Common.{◌≡◌, ◌∙◌, ℕ, ◌+◌, Bool, true, false, ◌&&◌, not, nat_lt, refl, sym, ap, subst, true≢false, MatchBool, append-nil, append_assoc, Some, None, List, [], ◌∷◌, ◌++◌, map, if◌then◌else◌}
use Rattle.std.specs.Prelude.{length, is_some}
use Rattle.std.specs.List.{AllByRecursion}
use Rattle.std.proofs.lemmas.Bool.{or_parts}
use Rattle.ft_io.specs.declared.Key.{Key}
use Rattle.ft_io.specs.Key.{key_eq}
use Rattle.ft_io.proofs.Choices.{if_true, if_false}
use Rattle.server_trait.specs.Service.{Machine}
use Rattle.ft_model.specs.Keys.{has_key, AreDistinct}
use Rattle.ft_model.specs.Lawful.{LawfulTurn, StageTurn}
use Rattle.ft_model.specs.Network.{Packet}
use Rattle.ft_model.specs.Network.Packet.{To_client}
use Rattle.ft_model.specs.Node.{Node, Place, Stage, key_of, place_at, pending_count}
use Rattle.ft_model.specs.Node.Input.{Packet_comes, Tick_comes}
use Rattle.ft_model.specs.Node.Place.{Opens, Lives, Ended}
use Rattle.ft_model.specs.Node.Stage.{Asking, Fetching, Serving, Fenced}
use Rattle.ft_model.specs.Opening.{is_syn, numbers_for, timestamping_for}
use Rattle.ft_model.specs.Point.{Point}
use Rattle.ft_model.specs.ServingTurn.{PlaceTurn, AllGo, Stays, Meets, newcomers, is_strange, concerns}
use Rattle.ft_model.specs.World.{ServerTurn}
use Rattle.ft_model.specs.declared.event.Event.TheVariants.{Tick}
use Rattle.ft_model.proofs.Distinct.{keeps_key, distinct_proceeds}
use Rattle.ft_model.proofs.Keys.{key_eq_turns, all_from_get, finds_itself}
use Rattle.ft_model.proofs.Lists.{all_both, all_of, key_is}
use Rattle.ft_model.proofs.PlaceTurns.{place_went}
use Rattle.long_laws.specs.Forgetting.{ForgetMessage}
use Rattle.long_laws.specs.LongTrace.{places_at, last_rst, keep_alive}
use Rattle.long_laws.specs.LongTrace.LongStep.{Joint_event, Lets_go, Keeps_alive}
use Rattle.long_laws.specs.Quarantine.{forgets}
use Rattle.long_laws.specs.QuarantineWorld.{QuarantineWorld, QuarantineStep, MayQuarantine, Usually, quarantine_then, forgets_then, drops, new_places, IsFresh, AllAreFresh}
use Rattle.long_laws.specs.QuarantineWorld.QuarantineStep.{Usual}
use Rattle.lasting_laws.specs.AsMoments.{IsServerOf, world_then, GoesBy, AreMoments}
use Rattle.lasting_laws.specs.ByKey.{KeyWent}
use Rattle.lasting_laws.specs.LastingTurn.{LastingNode, LastingSent, Patience, TicksLasting, TendsAll, after_turn}
use Rattle.lasting_laws.specs.Watching.{Watch, is_let_go, is_asked}
use Rattle.lasting_laws.proofs.ByKey.{key_went, serves_on}
use Rattle.tcp_rules.proofs.ComingKeeps.{and_false}

-- A RST that nobody sent opens nothing
pub no_new : (node : Node) (p : Point) (opened : ℕ) (places : List Place) → newcomers node (Packet_comes (last_rst node.server p)) opened places ≡ []
no_new node p opened places =
    if_false (is_strange node (last_rst node.server p) places && is_syn (last_rst node.server p) && nat_lt (pending_count places) 64)
    (Opens (numbers_for node.profile node.isn opened (last_rst node.server p)) (timestamping_for node.profile (last_rst node.server p)) ∷ []) []
    (ap (λ b. b && nat_lt (pending_count places) 64) (and_false (is_strange node (last_rst node.server p) places) (is_syn (last_rst node.server p)) refl))

-- the places that are still to be tended are those of the node
pub record Tending (m : Node) (left : List Place) : Type 0 where
  pub opened : ℕ
  pub places : List Place
  pub at : m.stage ≡ Serving opened places
  pub apart : AreDistinct (map key_of places)
  pub left_apart : AreDistinct (map key_of left)
  pub there : AllByRecursion (λ place. place_at (key_of place) places ≡ Some place) left

all_other : (key : Key) (places : List Place) → has_key key (map key_of places) ≡ false → AllByRecursion (λ place. key_eq (key_of place) key ≡ false) places
all_other key [] none = tt
all_other key (p ∷ places) none = let parts = or_parts (key_eq (key_of p) key) (has_key key (map key_of places)) none in (parts.0, all_other key places parts.1)

module _ {State : Type 0} (service : Machine State) where
  still : (m : Node) (p : Point) (places went : List Place) (by_places : List Packet) → AreDistinct (map key_of places)
      → AllGo (PlaceTurn service m (Packet_comes (last_rst m.server p))) places went by_places → (q : Place) → place_at (key_of q) places ≡ Some q → key_eq (key_of q) p.key ≡ false
      → place_at (key_of q) went ≡ Some q
  still m p places went by_places d t q there other =
      let w : KeyWent service m (Packet_comes (last_rst m.server p)) (key_of q) (Some q) went =
      subst (λ o. KeyWent service m (Packet_comes (last_rst m.server p)) (key_of q) o went) there (key_went service m (Packet_comes (last_rst m.server p)) (key_of q) places went by_places d t) in
      let out : concerns m (Packet_comes (last_rst m.server p)) (key_of q) ≡ false = and_false _ (key_eq p.key (key_of q)) (key_eq_turns (key_of q) p.key other) in
      let stayed : Stays q w.0 w.1 =
      subst (λ b. MatchBool b (Meets service m (Packet_comes (last_rst m.server p)) q w.0 w.1) (Stays q w.0 w.1)) out w.2 in
      w.3 ∙ (ap (place_at (key_of q)) stayed.0 ∙ if_true (key_eq (key_of q) (key_of q)) (Some q) None (key_is (key_of q)))

  pub tended : (m next : Node) (p : Point) (left : List Place) (sent : List Packet) → Tending m (Lives p ∷ left) → LawfulTurn service m (Packet_comes (last_rst m.server p)) sent next → Tending next left
  tended m next p left sent s t =
      let served = serves_on service m next (Packet_comes (last_rst m.server p)) s.opened s.places sent s.at refl t in
      let none = no_new m p s.opened s.places in
      let turn = served.2 in
      let went : served.0 ≡ turn.went = turn.places ∙ (ap (λ l. turn.went ++ l) none ∙ append-nil turn.went) in
      record {
        opened = s.opened + length (newcomers m (Packet_comes (last_rst m.server p)) s.opened s.places);
        places = served.0;
        at = served.1;
        apart = subst (λ l. AreDistinct (map key_of l)) (sym went)
            (distinct_proceeds (PlaceTurn service m (Packet_comes (last_rst m.server p)))
            (λ place now some g. keeps_key service m (Packet_comes (last_rst m.server p)) place now some (place_went service m (Packet_comes (last_rst m.server p)) place now some g))
            s.places turn.went turn.by_places turn.all_go s.apart);
        left_apart = s.left_apart.1;
        there = all_both (λ q. place_at (key_of q) s.places ≡ Some q) (λ q. key_eq (key_of q) p.key ≡ false) (λ q. place_at (key_of q) served.0 ≡ Some q) left
            (λ q e f. ap (place_at (key_of q)) went ∙ still m p s.places turn.went turn.by_places s.apart turn.all_go q e f) s.there.1 (all_other p.key left s.left_apart.0);
      }

  module _ (wait silence : ℕ) (watches : Key → Watch) (first_world : QuarantineWorld) where
    -- the world with this server, and these packets
    abbrev with_server : Node → List Packet → QuarantineWorld
    with_server m packets = record first_world { now = record first_world.now { node = Some m; packets = packets } }

    skipped : (m last : Node) (packets first rest sent : List Packet) → first ≡ [] → sent ≡ first ++ rest → AreMoments service wait (with_server m packets) rest (with_server last (packets ++ rest))
        → AreMoments service wait (with_server m packets) sent (with_server last (packets ++ sent))
    skipped m last packets first rest sent e sent_is x =
        subst (λ s. AreMoments service wait (with_server m packets) s (with_server last (packets ++ s))) (sym (sent_is ∙ ap (λ f. f ++ rest) e)) x

    one_more : (m next last : Node) (packets first rest sent : List Packet) (step : QuarantineStep) → MayQuarantine service wait (with_server m packets) step first (with_server next (packets ++ first))
        → sent ≡ first ++ rest → AreMoments service wait (with_server next (packets ++ first)) rest (with_server last ((packets ++ first) ++ rest))
        → AreMoments service wait (with_server m packets) sent (with_server last (packets ++ sent))
    one_more m next last packets first rest sent step may sent_is (moments, goes, are) =
        subst (λ s. AreMoments service wait (with_server m packets) s (with_server last (packets ++ s))) (sym sent_is) (
          record { step = step; sent = first; world = with_server next (packets ++ first) } ∷ moments,
          (may, refl, refl, subst (GoesBy service wait (with_server next (packets ++ first)) moments) (ap (with_server last) (append_assoc packets first rest)) goes),
          ap (λ l. first ++ l) are,
        )

    lets_go : (m next : Node) (p : Point) (left : List Place) (packets sent : List Packet) → Tending m (Lives p ∷ left) → LawfulTurn service m (Packet_comes (last_rst m.server p)) sent next
        → MayQuarantine service wait (with_server m packets) (Usual (Lets_go p.key)) sent (with_server next (packets ++ sent))
    lets_go m next p left packets sent s t = (
      refl,
      record {
        passes = (
          record {
            node = m;
            up = refl;
            point = p;
            lives = ap (λ stage. place_at p.key (places_at stage)) s.at ∙ s.there.0;
            later = next;
            turn = t;
            after_is = refl;
          },
          refl,
        );
        quarantine = refl;
        notes = sym (append-nil first_world.notes);
        fresh = tt;
      },
    )

    asks : (m : Node) (p : Point) (left : List Place) (packets : List Packet) → Tending m (Lives p ∷ left) → p.reset ≡ false
        → MayQuarantine service wait (with_server m packets) (Usual (Keeps_alive p.key)) (To_client (keep_alive m.server p) ∷ []) (with_server m (packets ++ To_client (keep_alive m.server p) ∷ []))
    asks m p left packets s on = (
      refl,
      record {
        passes = (
          record {
            node = m;
            up = refl;
            point = p;
            lives = ap (λ stage. place_at p.key (places_at stage)) s.at ∙ s.there.0;
            unreset = on;
            sent_is = refl;
            after_is = refl;
          },
          refl,
        );
        quarantine = refl;
        notes = sym (append-nil first_world.notes);
        fresh = tt;
      },
    )

    passed : (m : Node) (place : Place) (left : List Place) → Tending m (place ∷ left) → Tending m left
    passed m place left s = record { opened = s.opened; places = s.places; at = s.at; apart = s.apart; left_apart = s.left_apart.1; there = s.there.1 }

    not_reset : (b : Bool) (rest : Bool) → (not b && rest) ≡ true → b ≡ false
    not_reset false rest e = refl
    not_reset true rest e = absurd (true≢false (sym e))

    -- a live connection, and then the places behind it
    tend_one : (p : Point) (left : List Place) (m next last : Node) (packets first rest sent : List Packet) → Tending m (Lives p ∷ left) → sent ≡ first ++ rest
        → ((k : Node) (l : List Packet) → Tending k left → TendsAll service silence watches k left rest last → AreMoments service wait (with_server k l) rest (with_server last (l ++ rest)))
        → TendsAll service silence watches next left rest last → (b a : Bool) → is_let_go silence (watches p.key) p ≡ b → is_asked silence (watches p.key) p ≡ a
        → MatchBool b (LawfulTurn service m (Packet_comes (last_rst m.server p)) first next) ((first ≡ (if a then To_client (keep_alive m.server p) ∷ [] else [])) × (next ≡ m))
        → AreMoments service wait (with_server m packets) sent (with_server last (packets ++ sent))
    tend_one p left m next last packets first rest sent s sent_is behind more true a gone asked t =
        one_more m next last packets first rest sent (Usual (Lets_go p.key)) (lets_go m next p left packets first s t) sent_is
        (behind next (packets ++ first) (tended m next p left first s t) more)
    tend_one p left m next last packets first rest sent s sent_is behind more false true gone asked t =
        let on : p.reset ≡ false = not_reset p.reset (not (is_let_go silence (watches p.key) p) && _) asked in
        one_more m m last packets first rest sent (Usual (Keeps_alive p.key))
        (subst (λ f. MayQuarantine service wait (with_server m packets) (Usual (Keeps_alive p.key)) f (with_server m (packets ++ f))) (sym t.0) (asks m p left packets s on)) sent_is
        (behind m (packets ++ first) (passed m (Lives p) left s) (subst (λ x. TendsAll service silence watches x left rest last) t.1 more))
    tend_one p left m next last packets first rest sent s sent_is behind more false false gone asked t =
        skipped m last packets first rest sent t.0 sent_is (behind m packets (passed m (Lives p) left s) (subst (λ x. TendsAll service silence watches x left rest last) t.1 more))

    tends : (left : List Place) (m last : Node) (packets sent : List Packet) → Tending m left → TendsAll service silence watches m left sent last
        → AreMoments service wait (with_server m packets) sent (with_server last (packets ++ sent))
    tends [] m last packets sent s t =
        ([], (λ i. with_server (t.1 i) (packets ++ t.0 i)) ∙ ap (with_server m) (append-nil packets), sym t.0)
    tends (Opens n timestamping ∷ left) m last packets sent s (first, rest, next, sent_is, tend, more) =
        skipped m last packets first rest sent tend.0 sent_is
        (tends left m last packets rest (passed m (Opens n timestamping) left s) (subst (λ x. TendsAll service silence watches x left rest last) tend.1 more))
    tends (Ended k ∷ left) m last packets sent s (first, rest, next, sent_is, tend, more) =
        skipped m last packets first rest sent tend.0 sent_is
        (tends left m last packets rest (passed m (Ended k) left s) (subst (λ x. TendsAll service silence watches x left rest last) tend.1 more))
    tends (Lives p ∷ left) m last packets sent s (first, rest, next, sent_is, tend, more) =
        tend_one p left m next last packets first rest sent s sent_is (λ k l s' t'. tends left k last l rest s' t') more (is_let_go silence (watches p.key) p)
        (is_asked silence (watches p.key) p) refl refl tend

-- The tick itself
module _ {State : Type 0} (service : Machine State) (patience : Patience) (n : LastingNode) (w : QuarantineWorld) (own : IsServerOf n w) where
  abbrev ticked : Node → List Packet → LastingSent
  ticked later packets = record { packets = packets; forgets = forgets patience.wait n.node.boot Tick_comes (after_turn n Tick_comes later).quarantine }

  abbrev ticked_world : Node → List Packet → QuarantineWorld
  ticked_world later first = world_then (after_turn n Tick_comes later) (ticked later first) w

  no_opening : (stage : Stage) → AllByRecursion (IsFresh n.node.boot (new_places n.node Tick_comes stage)) w.notes
  no_opening Asking = all_of (IsFresh n.node.boot []) w.notes (λ x own. tt)
  no_opening (Fetching count fetched) = all_of (IsFresh n.node.boot []) w.notes (λ x own. tt)
  no_opening (Serving opened places) = all_of (IsFresh n.node.boot []) w.notes (λ x own. tt)
  no_opening (Fenced newer) = all_of (IsFresh n.node.boot []) w.notes (λ x own. tt)

  usually : (later : Node) (first : List Packet) → LawfulTurn service n.node Tick_comes first later → Usually service patience.wait w (Joint_event Tick) first (ticked_world later first)
  usually later first t = record {
    passes = (
      (ap is_some own.up, (subst (λ o. ServerTurn service Tick_comes o first (Some later)) (sym own.up) (later, refl, t), refl)),
      refl,
    );
    quarantine = λ i. quarantine_then (sym own.up i) (Some Tick_comes) (Some later) (sym own.quarantine i);
    notes = λ i. w.notes ++ forgets_then patience.wait (sym own.up i) (Some Tick_comes) (after_turn n Tick_comes later).quarantine;
    fresh = subst (λ o. AllAreFresh o (Some Tick_comes) w.notes) (sym own.up) (no_opening n.node.stage);
  }

  ticks : (later : Node) (first : List Packet) → LawfulTurn service n.node Tick_comes first later
      → MayQuarantine service patience.wait w (Usual (Joint_event Tick)) first (ticked_world later first)
  ticks later first t = (
    refl,
    subst (λ o. MatchBool (drops patience.wait o (Some Tick_comes) w.quarantine) ((first ≡ []) × (ticked_world later first ≡ w))
        (Usually service patience.wait w (Joint_event Tick) first (ticked_world later first))) (sym own.up) (usually later first t),
  )

  tending : (later : Node) (first : List Packet) (opened : ℕ) (places : List Place) → n.node.stage ≡ Serving opened places → AreDistinct (map key_of places)
      → LawfulTurn service n.node Tick_comes first later → Tending later (places_at later.stage)
  tending later first opened places at d t =
      let served = serves_on service n.node later Tick_comes opened places first at refl t in
      let turn = served.2 in
      let went : served.0 ≡ turn.went = turn.places ∙ append-nil turn.went in
      let apart : AreDistinct (map key_of served.0) =
      subst (λ l. AreDistinct (map key_of l)) (sym went)
      (distinct_proceeds (PlaceTurn service n.node Tick_comes) (λ place now some g. keeps_key service n.node Tick_comes place now some (place_went service n.node Tick_comes place now some g))
      places turn.went turn.by_places turn.all_go d) in
      record {
        opened = opened + length (newcomers n.node Tick_comes opened places);
        places = served.0;
        at = served.1;
        apart = apart;
        left_apart = subst (λ stage. AreDistinct (map key_of (places_at stage))) (sym served.1) apart;
        there = subst (λ stage. AllByRecursion (λ place. place_at (key_of place) served.0 ≡ Some place) (places_at stage)) (sym served.1) (themselves served.0 apart);
      }
    where
      themselves : (l : List Place) → AreDistinct (map key_of l) → AllByRecursion (λ place. place_at (key_of place) l ≡ Some place) l
      themselves l d = all_from_get (λ place. place_at (key_of place) l ≡ Some place) l (λ i x e. finds_itself key_of l i x d e)

  -- .. and the world at its end
  abbrev last_world : Node → List Packet → Node → List Packet → QuarantineWorld
  last_world later first last packets = record (ticked_world later first) { now = record w.now { node = Some last; packets = packets } }

  abbrev Tended : Node → List Packet → Node → List Packet → Type 0
  Tended later first last rest = AreMoments service patience.wait (ticked_world later first) rest (last_world later first last ((w.now.packets ++ first) ++ rest))

  -- a server that restarts has no places
  restarts : (later last : Node) (first rest : List Packet) → places_at later.stage ≡ []
      → TendsAll service patience.silence (after_turn n Tick_comes later).watches later (places_at later.stage) rest last → Tended later first last rest
  restarts later last first rest none tends_all =
      let e : (rest ≡ []) × (last ≡ later) = subst (λ l. TendsAll service patience.silence (after_turn n Tick_comes later).watches later l rest last) none tends_all in (
        [],
        (λ i. last_world later first (e.1 i) ((w.now.packets ++ first) ++ e.0 i)) ∙ ap (last_world later first later) (append-nil (w.now.packets ++ first)),
        sym e.0,
      )

  by_stage : (later last : Node) (first rest : List Packet) → LawfulTurn service n.node Tick_comes first later
      → TendsAll service patience.silence (after_turn n Tick_comes later).watches later (places_at later.stage) rest last → AreDistinct (map key_of (places_at n.node.stage))
      → (stage : Stage) → n.node.stage ≡ stage → Tended later first last rest
  by_stage later last first rest turn tends_all d (Serving opened places) at =
      tends service patience.wait patience.silence (after_turn n Tick_comes later).watches (ticked_world later first) (places_at later.stage) later last (w.now.packets ++ first) rest
      (tending later first opened places at (subst (λ stage. AreDistinct (map key_of (places_at stage))) at d) turn) tends_all
  by_stage later last first rest turn tends_all d Asking at =
      restarts later last first rest (ap places_at (subst (λ stage. StageTurn service n.node stage Tick_comes later.stage first) at turn.stage).0) tends_all
  by_stage later last first rest turn tends_all d (Fetching count fetched) at =
      restarts later last first rest (ap places_at (subst (λ stage. StageTurn service n.node stage Tick_comes later.stage first) at turn.stage).0) tends_all
  by_stage later last first rest turn tends_all d (Fenced newer) at = absurd (subst (λ stage. StageTurn service n.node stage Tick_comes later.stage first) at turn.stage)

  whole : (later last : Node) (first rest : List Packet) → LawfulTurn service n.node Tick_comes first later → Tended later first last rest
      → AreMoments service patience.wait w (first ++ rest) (last_world later first last (w.now.packets ++ (first ++ rest)))
  whole later last first rest turn (moments, goes, are) = (
    record { step = Usual (Joint_event Tick); sent = first; world = ticked_world later first } ∷ moments,
    (ticks later first turn, refl, refl, subst (GoesBy service patience.wait (ticked_world later first) moments) (ap (last_world later first last) (append_assoc w.now.packets first rest)) goes),
    ap (λ l. first ++ l) are,
  )

  pub tick_moments : (sent : LastingSent) (after : LastingNode) → AreDistinct (map key_of (places_at n.node.stage)) → TicksLasting service patience n sent after
      → AreMoments service patience.wait w sent.packets (world_then after sent w)
  tick_moments sent after d t =
      subst (λ s. AreMoments service patience.wait w s.packets (world_then after s w)) (sym t.sent_is)
      (subst (λ a. AreMoments service patience.wait w (t.first ++ t.rest) (world_then a (ticked t.later (t.first ++ t.rest)) w)) (sym t.after_is)
      (whole t.later t.last t.first t.rest t.turn (by_stage t.later t.last t.first t.rest t.turn t.tends d n.node.stage refl)))
