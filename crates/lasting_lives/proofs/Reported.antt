-- What is known of each key stays true in a turn on a message, of a node that serves.
use Rattle.std.proofs.Common.{◌≡◌, ◌∙◌, ◌⊎◌, inl, inr, true, refl, sym, ap, subst, MatchOption, Option, Some, None, List, [], ◌∷◌, append-nil, map}
use Rattle.std.specs.Prelude.{ℕ, unwrap_or}
use Rattle.ft_io.specs.declared.Key.{Key}
use Rattle.ft_io.specs.Key.{key_eq}
use Rattle.ft_io.proofs.Choices.{if_false}
use Rattle.server_trait.specs.Service.{Machine}
use Rattle.seq_arith.specs.Message.{Message, Numbers}
use Rattle.seq_arith.specs.Message.Body.{OpenedMsg, EndedMsg}
use Rattle.tcp_rules.specs.declared.timestamping.Timestamping.{Timestamping}
use Rattle.ft_model.specs.Keys.{AreDistinct}
use Rattle.ft_model.specs.Lawful.{LawfulTurn, fence}
use Rattle.ft_model.specs.Network.{Packet}
use Rattle.ft_model.specs.News.News.{Begins}
use Rattle.ft_model.specs.Node.{Node, Place, key_of, place_at}
use Rattle.ft_model.specs.Node.Input.{Message_comes}
use Rattle.ft_model.specs.Node.Place.{Opens, Lives, Ended}
use Rattle.ft_model.specs.Node.Stage.{Serving}
use Rattle.ft_model.specs.Opening.{point_opened}
use Rattle.ft_model.specs.Point.{Point}
use Rattle.ft_model.specs.ServingTurn.{ServingTurn}
use Rattle.ft_model.proofs.Lists.{found_passes, same_key}
use Rattle.ft_model.proofs.PlaceTurns.{PlaceWent, place_went}
use Rattle.ft_model.proofs.PlaceTurns.PlaceWent.{stayed, went_on, began, dropped, ended, refused}
use Rattle.ft_model.proofs.StageTurns.{either_turn}
use Rattle.long_laws.specs.LongTrace.{places_at}
use Rattle.long_laws.specs.Quarantine.{Quarantined, quarantined_at, named_in, named_place, named_point, begun}
use Rattle.lasting_laws.specs.ByKey.{next_quarantine, KeyWent}
use Rattle.lasting_laws.specs.Closing.{end_in, end_of_place}
use Rattle.lasting_laws.specs.LastingTurn as law
use Rattle.lasting_laws.specs.LastingTurn.{after_turn}
use Rattle.lasting_laws.specs.Watching.{watched, watch_of, is_live, begun_watch, new_origin}
use Rattle.lasting_laws.proofs.ByKey.{key_went, serves_on}
use Rattle.lasting_lives.specs.declared.life.Life.{Life}
use Rattle.lasting_lives.specs.declared.life.Life.TheVariants as life
use Rattle.lasting_lives.specs.declared.life.Resting.{Resting}
use Rattle.lasting_lives.specs.Known.{LifeStands, LivesStand, RestsAt, new_watch, Settles, EndsPlace}
use Rattle.lasting_lives.specs.Watches.{WatchStands, QuarantineStands, end_there}
use Rattle.lasting_lives.proofs.Kept.{ended_then, quiet_then, watch_then, end_then, alone}

-- what a key has after a turn on a message
abbrev pub ReportedKey : Message → Key → Option Place → Option Place → Type 0
ReportedKey message key (Some (Lives p)) o = ((q : Point) × (o ≡ Some (Lives q))) ⊎ ((k : Key) × (o ≡ Some (Ended k)) × (message.body ≡ EndedMsg key))
ReportedKey message key (Some (Opens n t)) o =
    ((m : Numbers) × (t : Timestamping) × (o ≡ Some (Opens m t))) ⊎ (((q : Point) × (kept : Numbers) × (o ≡ Some (Lives q)) × (message.body ≡ OpenedMsg kept) × (kept.key ≡ key)) ⊎ (o ≡ None))
ReportedKey message key (Some (Ended k)) o = o ≡ Some (Ended k)
ReportedKey message key None o = o ≡ None

same_body : (input : Rattle.ft_model.specs.Node.Input) (message m : Message) → input ≡ Message_comes message → input ≡ Message_comes m → m ≡ message
same_body input message m e f = cc

module _ {State : Type 0} (service : Machine State) (node : Node) (message : Message) where
  reported_place : (key : Key) (place : Place) (now : List Place) (sent : List Packet) → key_eq (key_of place) key ≡ true → PlaceWent service node (Message_comes message) place now sent
      → ReportedKey message key (Some place) (place_at key now)
  reported_place key place now sent its (stayed n s) = subst (λ l. ReportedKey message key (Some place) (place_at key l)) (sym n) (one place its)
    where
      one : (x : Place) → key_eq (key_of x) key ≡ true → ReportedKey message key (Some x) (place_at key (x ∷ []))
      one (Lives p) t = inl (p, alone key (Lives p) t)
      one (Opens m stamping) t = inl (m, stamping, alone key (Opens m stamping) t)
      one (Ended k) t = alone key (Ended k) t
  reported_place key place now sent its (went_on news p q e w n t) =
      let same : q.key ≡ p.key = either_turn service node.server node.boot news p q sent (λ r. ap (λ x. x.key) r.point) (λ l. l.same.key) t in
      subst (λ x. ReportedKey message key (Some x) (place_at key now)) (sym e)
      (inl (q, ap (place_at key) n ∙ alone key (Lives q) (ap (λ k. key_eq k key) (same ∙ sym (ap key_of e)) ∙ its)))
  reported_place key place now sent its (began asked kept timestamping q e h n t) =
      let same : q.key ≡ kept.key = either_turn service node.server node.boot Begins (point_opened node.profile timestamping kept) q sent (λ r. ap (λ x. x.key) r.point) (λ l. l.same.key) t in
      let own : asked.key ≡ key = same_key asked.key key (ap (λ k. key_eq k key) (sym (ap key_of e)) ∙ its) in
      subst (λ x. ReportedKey message key (Some x) (place_at key now)) (sym e)
      (inr (inl (
        q,
        kept,
        ap (place_at key) n ∙ alone key (Lives q) (ap (λ k. key_eq k key) (same ∙ (h.key ∙ sym (ap key_of e))) ∙ its),
        sym (ap (λ m. m.body) (same_body (Message_comes message) message h.message refl h.comes)) ∙ h.body,
        h.key ∙ own,
      )))
  reported_place key place now sent its (dropped asked timestamping e d n s) = subst (λ x. ReportedKey message key (Some x) (place_at key now)) (sym e) (inr (inr (ap (place_at key) n)))
  reported_place key place now sent its (ended p e h n s) =
      let own : p.key ≡ key = same_key p.key key (ap (λ k. key_eq k key) (sym (ap key_of e)) ∙ its) in
      subst (λ x. ReportedKey message key (Some x) (place_at key now)) (sym e)
      (inr (
        p.key,
        ap (place_at key) n ∙ alone key (Ended p.key) (ap (λ k. key_eq k key) (sym (ap key_of e)) ∙ its),
        sym (ap (λ m. m.body) (same_body (Message_comes message) message h.0 refl h.1)) ∙ (h.2 ∙ ap EndedMsg own),
      ))
  reported_place key place now sent its (refused k segment e i same n s) =
      subst (λ x. ReportedKey message key (Some x) (place_at key now)) (sym e) (ap (place_at key) n ∙ alone key (Ended k) (ap (λ x. key_eq x key) (sym (ap key_of e)) ∙ its))

  reported_went : (key : Key) (o : Option Place) (went : List Place) → ((place : Place) → o ≡ Some place → key_eq (key_of place) key ≡ true)
      → KeyWent service node (Message_comes message) key o went → ReportedKey message key o (place_at key went)
  reported_went key (Some place) went its w =
      subst (ReportedKey message key (Some place)) (sym w.3) (reported_place key place w.0 w.1 (its place refl) (place_went service node (Message_comes message) place w.0 w.1 w.2))
  reported_went key None went its w = w

  pub reported_key : (key : Key) (opened : ℕ) (places later : List Place) (sent : List Packet) → AreDistinct (map key_of places)
      → ServingTurn service node (Message_comes message) opened places later sent → ReportedKey message key (place_at key places) (place_at key later)
  reported_key key opened places later sent d t =
      subst (λ l. ReportedKey message key (place_at key places) (place_at key l)) (sym (t.places ∙ append-nil t.went))
      (reported_went key (place_at key places) t.went (λ place e. found_passes (λ x. key_eq (key_of x) key) places place e) (key_went service node (Message_comes message) key places t.went t.by_places d t.all_go))

-- What is known of a key after it
module _ (n : law.LastingNode) (message : Message) (later : Node) (opened : ℕ) (places : List Place) (at : n.node.stage ≡ Serving opened places) (key : Key)
    (d : AreDistinct (map key_of (places_at later.stage))) where
  abbrev pub next : law.LastingNode
  next = after_turn n (Message_comes message) later

  rests_still : (k : Key) (o : Option Quarantined) (r : Resting) → place_at key places ≡ Some (Ended k) → place_at key (places_at later.stage) ≡ Some (Ended k) → quarantined_at key n.quarantine ≡ o
      → MatchOption o ⊥ (λ q. QuarantineStands r q × (r.end.0 ≡ n.ends key)) → RestsAt next key (Some (life.Resting r))
  rests_still k None r before after found st = absurd st
  rests_still k (Some q) r before after found st =
      let there : quarantined_at key next.quarantine ≡ Some q =
      ended_then n (Message_comes message) later opened places at key k d after ∙ ap (λ o. next_quarantine (Message_comes message) o (named_in n.node (Message_comes message) n.node.stage key)) found in
      subst (λ o. MatchOption o ⊥ (λ x. QuarantineStands r x × (r.end.0 ≡ next.ends key))) (sym there)
      (st.0, st.1 ∙ sym (end_then n (Message_comes message) later opened places at key k before))

  rests_now : (p : Point) (k : Key) (r : Resting) → place_at key places ≡ Some (Lives p) → place_at key (places_at later.stage) ≡ Some (Ended k) → quarantined_at key n.quarantine ≡ None
      → QuarantineStands r (begun (named_point p)) × (r.end.0 ≡ end_there p) → RestsAt next key (Some (life.Resting r))
  rests_now p k r before after none st =
      let named : named_in n.node (Message_comes message) n.node.stage key ≡ Some (named_point p) =
      ap (λ stage. named_in n.node (Message_comes message) stage key) at ∙ ap named_place before in
      let there : quarantined_at key next.quarantine ≡ Some (begun (named_point p)) =
      ended_then n (Message_comes message) later opened places at key k d after
      ∙ (ap (λ o. next_quarantine (Message_comes message) o (named_in n.node (Message_comes message) n.node.stage key)) none ∙ ap (next_quarantine (Message_comes message) None) named) in
      let end : next.ends key ≡ end_there p =
      ap (λ stage. unwrap_or (end_in n.node (Message_comes message) stage key) (n.ends key)) at ∙ ap (λ o. unwrap_or (end_of_place o) (n.ends key)) before in
      subst (λ o. MatchOption o ⊥ (λ x. QuarantineStands r x × (r.end.0 ≡ next.ends key))) (sym there) (st.0, st.1 ∙ sym end)

  begins_now : (m : Numbers) (t : Timestamping) (q : Point) → place_at key places ≡ Some (Opens m t) → place_at key (places_at later.stage) ≡ Some (Lives q) → WatchStands new_watch (next.watches key)
  begins_now m t q before after =
      let is : next.watches key ≡ begun_watch (new_origin (Serving opened places) q) =
      ap (watch_of n.node (Message_comes message) key (n.watches key)) after
      ∙ (if_false (is_live (place_at key (places_at n.node.stage))) (watched n.node (Message_comes message) key (n.watches key)) (begun_watch (new_origin n.node.stage q))
      (ap (λ stage. is_live (place_at key (places_at stage))) at ∙ ap is_live before)
      ∙ ap (λ stage. begun_watch (new_origin stage q)) at) in
      subst (WatchStands new_watch) (sym is) (record { origin = refl; age = refl; silent = refl })

  pub life_settles : (o : Option Place) (l l' : Option Life) (ends : Option Resting) → place_at key places ≡ o → ReportedKey message key o (place_at key (places_at later.stage))
      → (message.body ≡ EndedMsg key → EndsPlace o ends) → Settles o (place_at key (places_at later.stage)) ends l l' → LifeStands n key o l
      → LifeStands next key (place_at key (places_at later.stage)) l'
  life_settles (Some (Lives p)) (Some (life.Watched w)) l' ends before (inl c) e s st =
      let same : l' ≡ Some (life.Watched w) = subst (λ o. Settles (Some (Lives p)) o ends (Some (life.Watched w)) l') c.1 s in
      subst (λ o. LifeStands next key o l') (sym c.1)
      (subst (LifeStands next key (Some (Lives c.0))) (sym same) (
        quiet_then n (Message_comes message) later opened places at key (Some (Lives c.0)) refl d c.1,
        subst (WatchStands w) (sym (watch_then n (Message_comes message) later opened places at key p c.0 before c.1)) st.1,
      ))
  life_settles (Some (Lives p)) (Some (life.Watched w)) l' (Some r) before (inr c) e s st =
      let is : l' ≡ Some (life.Resting r) = subst (λ o. Settles (Some (Lives p)) o (Some r) (Some (life.Watched w)) l') c.1 s in
      subst (λ o. LifeStands next key o l') (sym c.1)
      (subst (LifeStands next key (Some (Ended c.0))) (sym is) (rests_now p c.0 r before c.1 st.0 (e c.2)))
  life_settles (Some (Lives p)) (Some (life.Watched w)) l' None before (inr c) e s st = absurd (e c.2)
  life_settles (Some (Lives p)) (Some (life.Resting r)) l' ends before c e s st = absurd st
  life_settles (Some (Lives p)) None l' ends before c e s st = absurd st
  life_settles (Some (Opens m t)) None l' ends before (inl c) e s st =
      let same : l' ≡ None = subst (λ o. Settles (Some (Opens m t)) o ends None l') c.2 s in
      subst (λ o. LifeStands next key o l') (sym c.2)
      (subst (LifeStands next key (Some (Opens c.0 c.1))) (sym same) (quiet_then n (Message_comes message) later opened places at key (Some (Opens c.0 c.1)) refl d c.2))
  life_settles (Some (Opens m t)) None l' ends before (inr (inl c)) e s st =
      let is : l' ≡ Some (life.Watched new_watch) = subst (λ o. Settles (Some (Opens m t)) o ends None l') c.2 s in
      subst (λ o. LifeStands next key o l') (sym c.2)
      (subst (LifeStands next key (Some (Lives c.0))) (sym is)
      (quiet_then n (Message_comes message) later opened places at key (Some (Lives c.0)) refl d c.2, begins_now m t c.0 before c.2))
  life_settles (Some (Opens m t)) None l' ends before (inr (inr c)) e s st =
      let same : l' ≡ None = subst (λ o. Settles (Some (Opens m t)) o ends None l') c s in
      subst (λ o. LifeStands next key o l') (sym c)
      (subst (LifeStands next key None) (sym same) (quiet_then n (Message_comes message) later opened places at key None refl d c))
  life_settles (Some (Opens m t)) (Some x) l' ends before c e s st = absurd st
  life_settles (Some (Ended k)) (Some (life.Resting r)) l' ends before c e s st =
      let same : l' ≡ Some (life.Resting r) = subst (λ o. Settles (Some (Ended k)) o ends (Some (life.Resting r)) l') c s in
      subst (λ o. LifeStands next key o l') (sym c)
      (subst (LifeStands next key (Some (Ended k))) (sym same) (rests_still k (quarantined_at key n.quarantine) r before c refl st))
  life_settles (Some (Ended k)) (Some (life.Watched w)) l' ends before c e s st = absurd st
  life_settles (Some (Ended k)) None l' ends before c e s st = absurd st
  life_settles None None l' ends before c e s st =
      let same : l' ≡ None = subst (λ o. Settles None o ends None l') c s in
      subst (λ o. LifeStands next key o l') (sym c) (subst (LifeStands next key None) (sym same) (quiet_then n (Message_comes message) later opened places at key None refl d c))
  life_settles None (Some x) l' ends before c e s st = absurd st

-- all keys
pub reported_lives : {State : Type 0} (service : Machine State) (n : law.LastingNode) (message : Message) (later : Node) (opened : ℕ) (places : List Place) (sent : List Packet)
    (lives lives' : Key → Option Life) (ends : Option Resting) → n.node.stage ≡ Serving opened places → AreDistinct (map key_of places) → AreDistinct (map key_of (places_at later.stage))
    → fence n.node (Message_comes message) ≡ None → LawfulTurn service n.node (Message_comes message) sent later
    → ((key : Key) → message.body ≡ EndedMsg key → EndsPlace (place_at key places) ends)
    → ((key : Key) → Settles (place_at key places) (place_at key (places_at later.stage)) ends (lives key) (lives' key))
    → LivesStand n n.node.stage lives → LivesStand (after_turn n (Message_comes message) later) later.stage lives'
reported_lives service n message later opened places sent lives lives' ends at was now unfenced turn ended_is settles st =
    let served = serves_on service n.node later (Message_comes message) opened places sent at unfenced turn in
    let before : (key : Key) → LifeStands n key (place_at key places) (lives key) = subst (λ stage. LivesStand n stage lives) at st in
    subst (λ stage. LivesStand (after_turn n (Message_comes message) later) stage lives') (sym served.1)
    (λ key. let is : place_at key (places_at later.stage) ≡ place_at key served.0 = ap (λ stage. place_at key (places_at stage)) served.1 in
    subst (λ o. LifeStands (after_turn n (Message_comes message) later) key o (lives' key)) is
    (life_settles n message later opened places at key now (place_at key places) (lives key) (lives' key) ends refl
    (subst (ReportedKey message key (place_at key places)) (sym is) (reported_key service n.node message key opened places served.0 sent was served.2))
    (ended_is key) (settles key) (before key)))
