-- One place is tended.
use Rattle.limits.specs.Limits.{most_units}
use Rattle.std.proofs.Common.{◌≡◌, ◌∙◌, ℕ, ◌≤◌, true, refl, sym, ap, subst, map, Option, Some, None, List, [], ◌∷◌}
use Rattle.ft_io.specs.declared.Addr.{Addr}
use Rattle.ft_io.specs.declared.Key.{Key}
use Rattle.ft_io.specs.Key.{key_eq}
use Rattle.ft_io.proofs.Choices.{if_true, if_false}
use Rattle.server_trait.specs.Service.{Machine}
use Rattle.server_trait.specs.declared.Service.{Ghosts}
use Rattle.ft_model.specs.Keys.{AreDistinct}
use Rattle.ft_model.specs.Lawful.{IsNearInput}
use Rattle.ft_model.specs.Network.{Packet}
use Rattle.ft_model.specs.Network.Packet.{To_client}
use Rattle.ft_model.specs.Node.{Node, Place, Stage, key_of, place_at}
use Rattle.ft_model.specs.Node.Input.{Packet_comes}
use Rattle.ft_model.specs.Node.Place.{Opens, Lives, Ended}
use Rattle.ft_model.specs.Node.Stage.{Asking, Fetching, Serving, Fenced}
use Rattle.ft_model.specs.Point.{Point, taken_units}
use Rattle.ft_model.proofs.Lists.{found_passes, same_key, none_is_some, some_is}
use Rattle.long_laws.specs.LongTrace.{places_at, last_rst, keep_alive}
use Rattle.lasting_laws.specs.LastingTurn as law
use Rattle.lasting_laws.specs.LastingTurn.{Tends}
use Rattle.lasting_laws.specs.Watching as watching
use Rattle.lasting_laws.specs.Watching.{is_let_go, is_asked}
use Rattle.lasting_lives.specs.declared.life.Life.{Life}
use Rattle.lasting_lives.specs.declared.life.Life.TheVariants as life
use Rattle.lasting_lives.specs.declared.outside.Outside.{Outside}
use Rattle.lasting_lives.specs.declared.watch.Due.TheVariants as due
use Rattle.lasting_lives.specs.declared.watch.Watch.{Watch}
use Rattle.lasting_lives.specs.Known.{LifeStands}
use Rattle.lasting_lives.specs.Lives.{watch_in}
use Rattle.lasting_lives.specs.Watches.{WatchStands, ShowsPoint, due_by}
use Rattle.node_serving.specs.Conn.{IsOursAt}
use Rattle.node_serving.specs.Identity.{service_of, grammar_in}
use Rattle.node_serving.specs.Loan.{IsConnAt, place_in}
use Rattle.node_serving.specs.RefusalPackets.{AreSent}
use Rattle.wrapped_conn.specs.ConnState.{ConnState}
use Rattle.lasting_node.specs.declared.node.LastingNode.{LastingNode}
use Rattle.lasting_node.specs.Tending.{SendsOnly, TendsOne}
use Rattle.lasting_node.specs.Turns.{LastingStands}
use Rattle.lasting_node.proofs.LetGo.{rst_near}
use Rattle.lasting_node.proofs.Leaving.{same_stands}
use Rattle.lasting_node.proofs.Noted.{placed}
use Rattle.lasting_node.proofs.Tended.{stays_live, due_nothing, due_keep_alive, due_let_go, idle}

-- a place without a connection to look at isn't live
pub nothing_to_look_at : {S : Type 0} (service : Machine S) (silence : ℕ) (watches : Key → watching.Watch) (node : Node) (key : Key) (place : Place) → place_at key (places_at node.stage) ≡ Some place
    → IsConnAt service node None (place_in key node.stage) → Tends service silence watches node place [] node
nothing_to_look_at service silence watches node key place there none = by place (subst (λ o. IsConnAt service node None o) (placed key node.stage ∙ there) none)
  where
    by : (q : Place) → IsConnAt service node None (Some q) → Tends service silence watches node q [] node
    by (Lives p) x = absurd x
    by (Opens m t) x = (refl, refl)
    by (Ended k) x = (refl, refl)

-- a live place, with what is read of its connection
pub record IsShown (n : law.LastingNode) (key : Key) (place : Place) (o : Outside) (w : Watch) : Type 0 where
  pub point : Point
  pub is : place ≡ Lives point
  pub its : point.key ≡ key
  pub shows : ShowsPoint o point
  pub watched : WatchStands w (n.watches point.key)

pub shown_there : {S : Type 0} (service : Machine S) (n : law.LastingNode) (key : Key) (place : Place) (c : ConnState S) (o : Outside) (w : Watch) (l : Option Life)
    → place_at key (places_at n.node.stage) ≡ Some place → IsConnAt service n.node (Some c) (place_in key n.node.stage)
    → ((p : Point) → p.key ≡ key → IsOursAt service n.node.server n.node.boot c p → ShowsPoint o p) → LifeStands n key (Some place) l → watch_in l ≡ Some w → IsShown n key place o w
shown_there service n key place c o w l there lent shows known watched =
    by place (same_key (key_of place) key (found_passes (λ x. key_eq (key_of x) key) (places_at n.node.stage) place there))
    (subst (λ x. IsConnAt service n.node (Some c) x) (placed key n.node.stage ∙ there) lent) l known watched
  where
    by : (q : Place) → key_of q ≡ key → IsConnAt service n.node (Some c) (Some q) → (k : Option Life) → LifeStands n key (Some q) k → watch_in k ≡ Some w → IsShown n key q o w
    by (Lives p) its x (Some (life.Watched y)) st e = record {
      point = p;
      is = refl;
      its = its;
      shows = shows p its x;
      watched = subst (λ k. WatchStands w (n.watches k)) (sym its) (subst (λ z. WatchStands z (n.watches key)) (some_is y w e) st.1);
    }
    by (Lives p) its x (Some (life.Resting r)) st e = absurd st
    by (Lives p) its x None st e = absurd st
    by (Opens m t) its x k st e = absurd x
    by (Ended j) its x k st e = absurd x

module _ {S : Type 0} {s : Ghosts S} (n : law.LastingNode) (key : Key) (place : Place) (o : Outside) (w : Watch) (was : LastingNode S s) (x : IsShown n key place o w)
    (st : LastingStands (service_of s was.node.who) n was) where
  abbrev service : Machine S
  service = service_of s was.node.who

  abbrev silence : ℕ
  silence = was.patience.silence

  -- nothing is due
  pub nothing_due : due_by silence (n.watches x.point.key) x.point ≡ due.Nothing → TendsOne n place was was
  nothing_due e =
      let off = due_nothing (is_let_go silence (n.watches x.point.key) x.point) (is_asked silence (n.watches x.point.key) x.point) e in
      subst (λ q. TendsOne n q was was) (sym x.is)
      (idle n (Lives x.point) was st
      (stays_live service silence n.watches n.node x.point [] off.0 (sym (if_false (is_asked silence (n.watches x.point.key) x.point) (To_client (keep_alive n.node.server x.point) ∷ []) [] off.1))))

  -- a keep-alive is
  pub keep_alive_due : (now : LastingNode S s) → due_by silence (n.watches x.point.key) x.point ≡ due.KeepAlive → SendsOnly was now
      → AreSent (keep_alive was.node.who.local x.point ∷ []) was.own.sent.items now.own.sent.items → TendsOne n place was now
  keep_alive_due now e only sent =
      let on = due_keep_alive (is_let_go silence (n.watches x.point.key) x.point) (is_asked silence (n.watches x.point.key) x.point) e in
      let packets : List Packet = To_client (keep_alive n.node.server x.point) ∷ [] in
      let put = subst (λ (y : Node). AreSent (keep_alive y.server x.point ∷ []) was.own.sent.items now.own.sent.items) (sym st.who) sent in
      subst (λ q. TendsOne n q was now) (sym x.is)
      (record {
        next = n.node;
        packets = packets;
        tends = stays_live service silence n.watches n.node x.point packets on.0 (sym (if_true (is_asked silence (n.watches x.point.key) x.point) packets [] on.1));
        tended = record {
          stands = same_stands service n was now only st;
          wires = (put.each (grammar_in was.node.who)).wires;
          spelled = (put.each (grammar_in was.node.who)).spelled;
        };
      })

  -- its client is let go of
  pub let_go_due : (now : LastingNode S s) → due_by silence (n.watches x.point.key) x.point ≡ due.LetGo → place_at key (places_at n.node.stage) ≡ Some place → o.taken ≤ most_units
      → ((p : Point) → place_at p.key (places_at n.node.stage) ≡ Some (Lives p) → taken_units p ≤ most_units → is_let_go silence (n.watches p.key) p ≡ true → ShowsPoint o p → TendsOne n (Lives p) was now)
      → TendsOne n place was now
  let_go_due now e there small goes =
      subst (λ q. TendsOne n q was now) (sym x.is)
      (goes x.point (subst (λ k. place_at k (places_at n.node.stage) ≡ Some (Lives x.point)) (sym x.its) (there ∙ ap Some x.is)) (subst (λ t. t ≤ most_units) x.shows.taken small)
      (due_let_go (is_let_go silence (n.watches x.point.key) x.point) (is_asked silence (n.watches x.point.key) x.point) e) x.shows)

-- the RST is near at every stage
pub rst_near_at : (server : Addr) (p : Point) (at : Stage) → AreDistinct (map key_of (places_at at)) → place_at p.key (places_at at) ≡ Some (Lives p) → taken_units p ≤ most_units
    → IsNearInput server (Packet_comes (last_rst server p)) at
rst_near_at server p (Serving opened places) d there small = rst_near server p opened places d there small
rst_near_at server p Asking d there small = none_is_some (Lives p) there
rst_near_at server p (Fetching count fetched) d there small = none_is_some (Lives p) there
rst_near_at server p (Fenced newer) d there small = none_is_some (Lives p) there
