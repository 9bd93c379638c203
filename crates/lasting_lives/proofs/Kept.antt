-- What is known of each key stays true in a turn of a node that serves.
use Rattle.std.proofs.Common.{◌≡◌, ◌∙◌, ⊎_elim, ◌⊎◌, inl, inr, ℕ, Bool, true, false, ◌&&◌, nat_lt, refl, sym, ap, subst, true≢false, option_map, MatchOption, Option, Some, None, List, [], ◌∷◌, ◌++◌, map, if◌then◌else◌}
use Rattle.std.specs.Prelude.{unwrap_or}
use Rattle.std.specs.Option.{option_or}
use Rattle.std.proofs.lemmas.List.Folds.{find-append}
use Rattle.ft_io.specs.declared.Key.{Key}
use Rattle.ft_io.specs.Key.{key_eq}
use Rattle.ft_io.proofs.Choices.{by_cases, holds_if, if_true, if_false}
use Rattle.server_trait.specs.Service.{Machine}
use Rattle.seq_arith.specs.Message.{Message, Numbers}
use Rattle.tcp_rules.specs.declared.timestamping.Timestamping.{Timestamping}
use Rattle.ft_model.specs.Keys.{AreDistinct}
use Rattle.ft_model.specs.Lawful.{LawfulTurn, fence}
use Rattle.ft_model.specs.Network.{Packet}
use Rattle.ft_model.specs.Node.{Node, Place, Input, key_of, place_at, pending_count}
use Rattle.ft_model.specs.Node.Input.{Packet_comes, Message_comes, Noise_comes, Tick_comes}
use Rattle.ft_model.specs.Node.Place.{Opens, Lives, Ended}
use Rattle.ft_model.specs.Node.Stage.{Serving}
use Rattle.ft_model.specs.Opening.{is_syn, numbers_for, timestamping_for}
use Rattle.ft_model.specs.Point.{Point}
use Rattle.ft_model.specs.ServingTurn.{newcomers, is_strange, concerns, ServingTurn}
use Rattle.ft_model.proofs.Lists.{found_passes}
use Rattle.ft_model.proofs.PlaceTurns.{PlaceWent, place_went}
use Rattle.ft_model.proofs.PlaceTurns.PlaceWent.{stayed, went_on, began, dropped, ended, refused}
use Rattle.ft_model.proofs.StageTurns.{either_turn}
use Rattle.long_laws.specs.LongTrace.{places_at}
use Rattle.long_laws.specs.Quarantine.{Quarantined, aged, quarantined_at, named_in}
use Rattle.lasting_laws.specs.ByKey.{next_quarantine, quarantine_at, KeyWent}
use Rattle.lasting_laws.specs.Closing.{end_in, end_of_place}
use Rattle.lasting_laws.specs.LastingTurn as law
use Rattle.lasting_laws.specs.LastingTurn.{after_turn}
use Rattle.lasting_laws.specs.Watching.{watched, watch_of, is_live, begun_watch, new_origin}
use Rattle.lasting_laws.proofs.ByKey.{quarantine_by_key, key_went, serves_on}
use Rattle.lasting_lives.specs.declared.life.Life.{Life}
use Rattle.lasting_lives.specs.declared.life.Life.TheVariants as life
use Rattle.lasting_lives.specs.declared.life.Resting.{Resting}
use Rattle.lasting_lives.specs.declared.watch.Watch.{Watch}
use Rattle.lasting_lives.specs.Known.{LifeStands, LivesStand, RestsAt, life_after}
use Rattle.lasting_lives.specs.Lives.{receipt, received_watch, older_watch, older_resting}
use Rattle.lasting_lives.specs.Watches.{WatchStands, QuarantineStands}
use Rattle.lasting_lives.proofs.Counts.{received_stands, older_stands, older_rests}

abbrev pub is_message : Input → Bool
is_message (Message_comes message) = true
is_message _ = false

-- Places by key
found_front : (key : Key) (xs ys : List Place) (q : Place) → place_at key xs ≡ Some q → place_at key (xs ++ ys) ≡ Some q
found_front key xs ys q e = find-append (λ p. key_eq (key_of p) key) xs ys ∙ ap (λ o. option_or o (place_at key ys)) e

none_front : (key : Key) (xs ys : List Place) → place_at key xs ≡ None → place_at key (xs ++ ys) ≡ place_at key ys
none_front key xs ys e = find-append (λ p. key_eq (key_of p) key) xs ys ∙ ap (λ o. option_or o (place_at key ys)) e

pub alone : (key : Key) (place : Place) → key_eq (key_of place) key ≡ true → place_at key (place ∷ []) ≡ Some place
alone key place its = if_true (key_eq (key_of place) key) (Some place) None its

-- what a key has after a turn on anything but a message
abbrev pub CalmKey : Option Place → Option Place → Type 0
CalmKey (Some (Lives p)) o = (q : Point) × (o ≡ Some (Lives q))
CalmKey (Some (Opens n t)) o = (m : Numbers) × (t : Timestamping) × (o ≡ Some (Opens m t))
CalmKey (Some (Ended k)) o = o ≡ Some (Ended k)
CalmKey None o = (o ≡ None) ⊎ ((m : Numbers) × (t : Timestamping) × (o ≡ Some (Opens m t)))

pub no_message : {P : Type 0} (input : Input) (message : Message) → is_message input ≡ false → input ≡ Message_comes message → P
no_message input message calm e = absurd (true≢false (sym (ap is_message e) ∙ calm))

module _ {State : Type 0} (service : Machine State) (node : Node) (input : Input) (calm : is_message input ≡ false) where
  stays_so : (key : Key) (place : Place) → key_eq (key_of place) key ≡ true → CalmKey (Some place) (place_at key (place ∷ []))
  stays_so key (Lives p) its = (p, alone key (Lives p) its)
  stays_so key (Opens n t) its = (n, t, alone key (Opens n t) its)
  stays_so key (Ended k) its = alone key (Ended k) its

  calm_place : (key : Key) (place : Place) (now : List Place) (sent : List Packet) → key_eq (key_of place) key ≡ true → PlaceWent service node input place now sent
      → CalmKey (Some place) (place_at key now)
  calm_place key place now sent its (stayed n s) = subst (λ l. CalmKey (Some place) (place_at key l)) (sym n) (stays_so key place its)
  calm_place key place now sent its (went_on news p q e w n t) =
      let same : q.key ≡ p.key = either_turn service node.server node.boot news p q sent (λ r. ap (λ x. x.key) r.point) (λ l. l.same.key) t in
      subst (λ x. CalmKey (Some x) (place_at key now)) (sym e)
      (q, ap (place_at key) n ∙ alone key (Lives q) (ap (λ k. key_eq k key) (same ∙ sym (ap key_of e)) ∙ its))
  calm_place key place now sent its (began asked kept timestamping q e h n t) = no_message input h.message calm h.comes
  calm_place key place now sent its (dropped asked timestamping e d n s) =
      ⊎_elim (λ x. no_message input x.1.message calm x.1.comes) (λ x. no_message input x.0 calm x.1) d
  calm_place key place now sent its (ended p e h n s) = no_message input h.0 calm h.1
  calm_place key place now sent its (refused k segment e i same n s) =
      subst (λ x. CalmKey (Some x) (place_at key now)) (sym e) (ap (place_at key) n ∙ alone key (Ended k) (ap (λ x. key_eq x key) (sym (ap key_of e)) ∙ its))

  calm_front : (key : Key) (o : Option Place) (went new : List Place) → (place_at key new ≡ None) ⊎ ((m : Numbers) × (t : Timestamping) × (place_at key new ≡ Some (Opens m t)))
      → CalmKey o (place_at key went) → CalmKey o (place_at key (went ++ new))
  calm_front key (Some (Lives p)) went new fresh c = (c.0, found_front key went new (Lives c.0) c.1)
  calm_front key (Some (Opens n t)) went new fresh c = (c.0, c.1, found_front key went new (Opens c.0 c.1) c.2)
  calm_front key (Some (Ended k)) went new fresh c = found_front key went new (Ended k) c
  calm_front key None went new fresh (inl none) = ⊎_elim (λ e. inl (none_front key went new none ∙ e)) (λ x. inr (x.0, x.1, none_front key went new none ∙ x.2)) fresh
  calm_front key None went new fresh (inr x) = inr (x.0, x.1, found_front key went new (Opens x.0 x.1) x.2)

  one_new : (key : Key) (n : Numbers) (t : Timestamping) → (place_at key (Opens n t ∷ []) ≡ None) ⊎ ((m : Numbers) × (u : Timestamping) × (place_at key (Opens n t ∷ []) ≡ Some (Opens m u)))
  one_new key n t = by_cases (key_eq n.key key) (λ e. inr (n, t, if_true (key_eq n.key key) (Some (Opens n t)) None e)) (λ f. inl (if_false (key_eq n.key key) (Some (Opens n t)) None f))

  all_new : (i : Input) (key : Key) (opened : ℕ) (places : List Place)
      → (place_at key (newcomers node i opened places) ≡ None) ⊎ ((m : Numbers) × (t : Timestamping) × (place_at key (newcomers node i opened places) ≡ Some (Opens m t)))
  all_new (Packet_comes segment) key opened places =
      holds_if (λ l. (place_at key l ≡ None) ⊎ ((m : Numbers) × (t : Timestamping) × (place_at key l ≡ Some (Opens m t)))) (is_strange node segment places && is_syn segment && nat_lt (pending_count places) 64)
      (Opens (numbers_for node.profile node.isn opened segment) (timestamping_for node.profile segment) ∷ []) [] (λ t. one_new key (numbers_for node.profile node.isn opened segment) (timestamping_for node.profile segment)) (λ t. inl refl)
  all_new (Message_comes message) key opened places = inl refl
  all_new Noise_comes key opened places = inl refl
  all_new Tick_comes key opened places = inl refl

  by_place : (key : Key) (o : Option Place) (went : List Place) → ((place : Place) → o ≡ Some place → key_eq (key_of place) key ≡ true) → KeyWent service node input key o went
      → CalmKey o (place_at key went)
  by_place key (Some place) went its w =
      subst (CalmKey (Some place)) (sym w.3) (calm_place key place w.0 w.1 (its place refl) (place_went service node input place w.0 w.1 w.2))
  by_place key None went its w = inl w

  pub calm_key : (key : Key) (opened : ℕ) (places later : List Place) (sent : List Packet) → AreDistinct (map key_of places) → ServingTurn service node input opened places later sent
      → CalmKey (place_at key places) (place_at key later)
  calm_key key opened places later sent d t =
      subst (λ l. CalmKey (place_at key places) (place_at key l)) (sym t.places)
      (calm_front key (place_at key places) t.went (newcomers node input opened places) (all_new input key opened places)
      (by_place key (place_at key places) t.went (λ place e. found_passes (λ x. key_eq (key_of x) key) places place e) (key_went service node input key places t.went t.by_places d t.all_go)))

pub never_fenced : (node : Node) (input : Input) → is_message input ≡ false → fence node input ≡ None
never_fenced node (Message_comes message) calm = absurd (true≢false calm)
never_fenced node (Packet_comes segment) calm = refl
never_fenced node Noise_comes calm = refl
never_fenced node Tick_comes calm = refl

-- What is known of a key, after a turn on anything but a message
module _ (n : law.LastingNode) (input : Input) (later : Node) (opened : ℕ) (places : List Place) (at : n.node.stage ≡ Serving opened places) (key : Key) where
  abbrev pub next : law.LastingNode
  next = after_turn n input later

  pub ended_then : (k : Key) → AreDistinct (map key_of (places_at later.stage)) → place_at key (places_at later.stage) ≡ Some (Ended k)
      → quarantined_at key next.quarantine ≡ next_quarantine input (quarantined_at key n.quarantine) (named_in n.node input n.node.stage key)
  ended_then k d e = quarantine_by_key n.node input n.quarantine later.stage key d ∙ ap (quarantine_at n.node input key (quarantined_at key n.quarantine)) e

  pub quiet_then : (o : Option Place) → quarantine_at n.node input key (quarantined_at key n.quarantine) o ≡ None → AreDistinct (map key_of (places_at later.stage))
      → place_at key (places_at later.stage) ≡ o → quarantined_at key next.quarantine ≡ None
  quiet_then o none d e = quarantine_by_key n.node input n.quarantine later.stage key d ∙ (ap (quarantine_at n.node input key (quarantined_at key n.quarantine)) e ∙ none)

  -- a watch goes on
  pub watch_then : (p q : Point) → place_at key places ≡ Some (Lives p) → place_at key (places_at later.stage) ≡ Some (Lives q) → next.watches key ≡ watched n.node input key (n.watches key)
  watch_then p q before after =
      ap (watch_of n.node input key (n.watches key)) after
      ∙ if_true (is_live (place_at key (places_at n.node.stage))) (watched n.node input key (n.watches key)) (begun_watch (new_origin n.node.stage q))
      (ap (λ stage. is_live (place_at key (places_at stage))) at ∙ ap is_live before)

  pub end_then : (k : Key) → place_at key places ≡ Some (Ended k) → next.ends key ≡ n.ends key
  end_then k before = ap (λ stage. unwrap_or (end_in n.node input stage key) (n.ends key)) at ∙ ap (λ o. unwrap_or (end_of_place o) (n.ends key)) before

watched_life : (node : Node) (input : Input) (key : Key) (w : Watch) → is_message input ≡ false → (v : Rattle.lasting_laws.specs.Watching.Watch) → WatchStands w v
    → (x : Watch) × (life_after node input key (Some (life.Watched w)) ≡ Some (life.Watched x)) × WatchStands x (watched node input key v)
watched_life node (Packet_comes segment) key w calm v st =
    by_cases (concerns node (Packet_comes segment) key)
    (λ t. (
      received_watch w,
      if_true (concerns node (Packet_comes segment) key) (option_map receipt (Some (life.Watched w))) (Some (life.Watched w)) t,
      subst (WatchStands (received_watch w)) (sym (if_true (concerns node (Packet_comes segment) key) (Rattle.lasting_laws.specs.Watching.received_from v) v t)) (received_stands w v st),
    ))
    (λ f. (
      w,
      if_false (concerns node (Packet_comes segment) key) (option_map receipt (Some (life.Watched w))) (Some (life.Watched w)) f,
      subst (WatchStands w) (sym (if_false (concerns node (Packet_comes segment) key) (Rattle.lasting_laws.specs.Watching.received_from v) v f)) st,
    ))
watched_life node Tick_comes key w calm v st = (older_watch w, refl, older_stands w v st)
watched_life node Noise_comes key w calm v st = (w, refl, st)
watched_life node (Message_comes message) key w calm v st = absurd (true≢false calm)

resting_life : (node : Node) (input : Input) (key : Key) (r : Resting) → is_message input ≡ false → (q : Quarantined) → QuarantineStands r q
    → (x : Resting) × (life_after node input key (Some (life.Resting r)) ≡ Some (life.Resting x)) × QuarantineStands x (aged input q) × (x.end.0 ≡ r.end.0)
resting_life node (Packet_comes segment) key r calm q st =
    (r, same (concerns node (Packet_comes segment) key), st, refl)
  where
    same : (b : Bool) → (if b then option_map receipt (Some (life.Resting r)) else Some (life.Resting r)) ≡ Some (life.Resting r)
    same true = refl
    same false = refl
resting_life node Tick_comes key r calm q st = (older_resting r, refl, older_rests r q st, refl)
resting_life node Noise_comes key r calm q st = (r, refl, st, refl)
resting_life node (Message_comes message) key r calm q st = absurd (true≢false calm)

no_life : (node : Node) (input : Input) (key : Key) → is_message input ≡ false → life_after node input key None ≡ None
no_life node (Packet_comes segment) key calm = same (concerns node (Packet_comes segment) key)
  where
    same : (b : Bool) → (if b then option_map receipt None else None) ≡ None
    same true = refl
    same false = refl
no_life node Tick_comes key calm = refl
no_life node Noise_comes key calm = refl
no_life node (Message_comes message) key calm = absurd (true≢false calm)

module _ (n : law.LastingNode) (input : Input) (later : Node) (opened : ℕ) (places : List Place) (at : n.node.stage ≡ Serving opened places) (key : Key)
    (calm : is_message input ≡ false) (d : AreDistinct (map key_of (places_at later.stage))) where
  rests_on : (k : Key) (o : Option Quarantined) (r : Resting) → place_at key places ≡ Some (Ended k) → place_at key (places_at later.stage) ≡ Some (Ended k) → quarantined_at key n.quarantine ≡ o
      → MatchOption o ⊥ (λ q. QuarantineStands r q × (r.end.0 ≡ n.ends key)) → RestsAt (after_turn n input later) key (life_after n.node input key (Some (life.Resting r)))
  rests_on k None r before after found st = absurd st
  rests_on k (Some q) r before after found st =
      let x = resting_life n.node input key r calm q st.0 in
      let there : quarantined_at key (after_turn n input later).quarantine ≡ Some (aged input q) =
      ended_then n input later opened places at key k d after ∙ ap (λ o. next_quarantine input o (named_in n.node input n.node.stage key)) found in
      subst (RestsAt (after_turn n input later) key) (sym x.1)
      (subst (λ o. MatchOption o ⊥ (λ q. QuarantineStands x.0 q × (x.0.end.0 ≡ (after_turn n input later).ends key))) (sym there)
      (x.2, x.3 ∙ (st.1 ∙ sym (end_then n input later opened places at key k before))))

  pub life_stays : (o : Option Place) (l : Option Life) → place_at key places ≡ o → CalmKey o (place_at key (places_at later.stage)) → LifeStands n key o l
      → LifeStands (after_turn n input later) key (place_at key (places_at later.stage)) (life_after n.node input key l)
  life_stays (Some (Lives p)) (Some (life.Watched w)) before c st =
      let x = watched_life n.node input key w calm (n.watches key) st.1 in
      subst (λ o. LifeStands (after_turn n input later) key o (life_after n.node input key (Some (life.Watched w)))) (sym c.1)
      (subst (LifeStands (after_turn n input later) key (Some (Lives c.0))) (sym x.1) (
        quiet_then n input later opened places at key (Some (Lives c.0)) refl d c.1,
        subst (WatchStands x.0) (sym (watch_then n input later opened places at key p c.0 before c.1)) x.2,
      ))
  life_stays (Some (Lives p)) (Some (life.Resting r)) before c st = absurd st
  life_stays (Some (Lives p)) None before c st = absurd st
  life_stays (Some (Ended k)) (Some (life.Resting r)) before c st =
      subst (λ o. LifeStands (after_turn n input later) key o (life_after n.node input key (Some (life.Resting r)))) (sym c)
      (rests_on k (quarantined_at key n.quarantine) r before c refl st)
  life_stays (Some (Ended k)) (Some (life.Watched w)) before c st = absurd st
  life_stays (Some (Ended k)) None before c st = absurd st
  life_stays (Some (Opens m t)) None before c st =
      subst (λ o. LifeStands (after_turn n input later) key o (life_after n.node input key None)) (sym c.2)
      (subst (LifeStands (after_turn n input later) key (Some (Opens c.0 c.1))) (sym (no_life n.node input key calm))
      (quiet_then n input later opened places at key (Some (Opens c.0 c.1)) refl d c.2))
  life_stays (Some (Opens m t)) (Some (life.Watched w)) before c st = absurd st
  life_stays (Some (Opens m t)) (Some (life.Resting r)) before c st = absurd st
  life_stays None None before (inl e) st =
      subst (λ o. LifeStands (after_turn n input later) key o (life_after n.node input key None)) (sym e)
      (subst (LifeStands (after_turn n input later) key None) (sym (no_life n.node input key calm)) (quiet_then n input later opened places at key None refl d e))
  life_stays None None before (inr x) st =
      subst (λ o. LifeStands (after_turn n input later) key o (life_after n.node input key None)) (sym x.2)
      (subst (LifeStands (after_turn n input later) key (Some (Opens x.0 x.1))) (sym (no_life n.node input key calm)) (quiet_then n input later opened places at key (Some (Opens x.0 x.1)) refl d x.2))
  life_stays None (Some (life.Watched w)) before c st = absurd st
  life_stays None (Some (life.Resting r)) before c st = absurd st

-- all keys, after a turn on anything but a message
pub calm_lives : {State : Type 0} (service : Machine State) (n : law.LastingNode) (input : Input) (later : Node) (opened : ℕ) (places : List Place) (sent : List Packet)
    (lives : Key → Option Life) → n.node.stage ≡ Serving opened places → is_message input ≡ false → AreDistinct (map key_of places)
    → AreDistinct (map key_of (places_at later.stage)) → LawfulTurn service n.node input sent later → LivesStand n n.node.stage lives
    → LivesStand (after_turn n input later) later.stage (λ key. life_after n.node input key (lives key))
calm_lives service n input later opened places sent lives at calm was now turn st =
    let served = serves_on service n.node later input opened places sent at (never_fenced n.node input calm) turn in
    let before : (key : Key) → LifeStands n key (place_at key places) (lives key) = subst (λ stage. LivesStand n stage lives) at st in
    subst (λ stage. LivesStand (after_turn n input later) stage (λ key. life_after n.node input key (lives key))) (sym served.1)
    (λ key. let is : place_at key (places_at later.stage) ≡ place_at key served.0 = ap (λ stage. place_at key (places_at stage)) served.1 in
    subst (λ o. LifeStands (after_turn n input later) key o (life_after n.node input key (lives key))) is
    (life_stays n input later opened places at key calm now (place_at key places) (lives key) refl
    (subst (CalmKey (place_at key places)) (sym is) (calm_key service n.node input calm key opened places served.0 sent was served.2)) (before key)))
