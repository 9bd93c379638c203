-- The end of a restart: what was noted of the fetched entries, and the watches that begin then, are those of the law.
use Rattle.std.proofs.Common.{◌≡◌, ◌∙◌, ℕ, Bool, true, false, refl, sym, ap, ap₂, subst, true≢false, option_map, MatchOption, Option, Some, None, List, [], ◌∷◌, ◌++◌, append_assoc, append-nil, map, if◌then◌else◌}
use Rattle.std.specs.Prelude.{find, unwrap_or}
use Rattle.std.specs.Bool.{MatchBool}
use Rattle.std.specs.Option.{option_or}
use Rattle.std.proofs.lemmas.Bool.{or_from}
use Rattle.std.proofs.lemmas.List.Folds.{find-append}
use Rattle.ft_io.specs.declared.Key.{Key}
use Rattle.ft_io.specs.Key.{key_eq}
use Rattle.ft_io.proofs.Booleans.{left_false, right_false}
use Rattle.ft_io.proofs.Choices.{by_cases, if_true, if_false}
use Rattle.server_trait.specs.Service.{Machine}
use Rattle.seq_arith.specs.Message.{Message}
use Rattle.ft_model.specs.Keys.{AreDistinct, has_key}
use Rattle.ft_model.specs.Lawful.{LawfulTurn, StageTurn, NodeTurn, Continues, Fetches, Rests, Revives, restored, all_restored, restored_count, fetched_then, fence}
use Rattle.ft_model.specs.Network.{Packet}
use Rattle.ft_model.specs.Node.{Node, Place, key_of, place_at}
use Rattle.ft_model.specs.Node.Input.{Message_comes}
use Rattle.ft_model.specs.Node.Place.{Lives, Ended}
use Rattle.ft_model.specs.Node.Stage.{Fetching, Serving}
use Rattle.ft_model.specs.Point.{Point}
use Rattle.ft_model.specs.News.News.{Begins}
use Rattle.ft_model.specs.Restart.{Fetched, Wanted, wanted, entry_in, point_of}
use Rattle.ft_model.specs.ServingTurn.{AllGo}
use Rattle.ft_model.proofs.Lists.{same_key}
use Rattle.ft_model.proofs.PlayableLemmas.{same_either_way}
use Rattle.ft_model.proofs.StageTurns.{either_turn}
use Rattle.long_laws.specs.LongTrace.{places_at}
use Rattle.long_laws.specs.Quarantine.{quarantined_at, named_in, named_head, begun, fetched_now, or_nothing}
use Rattle.lasting_laws.specs.ByKey.{next_quarantine, quarantine_at}
use Rattle.lasting_laws.specs.Closing.{end_in, end_of_head}
use Rattle.lasting_laws.specs.LastingTurn as law
use Rattle.lasting_laws.specs.LastingTurn.{after_turn}
use Rattle.lasting_laws.specs.Watching.{watch_of, watched, is_live, is_empty, begun_watch, new_origin}
use Rattle.lasting_laws.specs.Watching.{Origin as origins}
use Rattle.lasting_laws.proofs.ByKey.{quarantine_by_key}
use Rattle.lasting_lives.specs.declared.life.Life.{Life}
use Rattle.lasting_lives.specs.declared.life.Life.TheVariants as life
use Rattle.lasting_lives.specs.declared.life.Resting.{Resting}
use Rattle.lasting_lives.specs.declared.watch.Origin.TheVariants as origin
use Rattle.lasting_lives.specs.Known.{LifeStands, LivesStand, FetchedStands, restored_life}
use Rattle.lasting_lives.specs.Watches.{WatchStands, QuarantineStands, origin_said}

-- the last of several places
module _ (Goes : Place → List Place → List Packet → Type 0) where
  record LastGoes (xs : List Place) (y : Place) (after : List Place) : Type 0 where
    front : List Place
    own : List Place
    sent : List Packet
    mine : List Packet
    whole : after ≡ front ++ own
    before : AllGo Goes xs front sent
    goes : Goes y own mine

  last_goes : (xs : List Place) (y : Place) (after : List Place) (sent : List Packet) → AllGo Goes (xs ++ y ∷ []) after sent → LastGoes xs y after
  last_goes [] y after sent (now, later, first, others, after_is, sent_is, goes, more) = record {
    front = [];
    own = now;
    sent = [];
    mine = first;
    whole = after_is ∙ (ap (λ l. now ++ l) more.0 ∙ append-nil now);
    before = (refl, refl);
    goes = goes;
  }
  last_goes (x ∷ xs) y after sent (now, later, first, others, after_is, sent_is, goes, more) =
      let r = last_goes xs y later others more in
      record {
        front = now ++ r.front;
        own = r.own;
        sent = first ++ r.sent;
        mine = r.mine;
        whole = after_is ∙ (ap (λ l. now ++ l) r.whole ∙ sym (append_assoc now r.front r.own));
        before = (now, r.front, first, r.sent, refl, refl, goes, r.before);
        goes = r.goes;
      }

-- distinct keys
absent_front : (k : Key) (xs ys : List Place) → has_key k (map key_of (xs ++ ys)) ≡ false → has_key k (map key_of xs) ≡ false
absent_front k [] ys e = refl
absent_front k (x ∷ xs) ys e =
    or_from (key_eq (key_of x) k) (has_key k (map key_of xs)) (left_false (key_eq (key_of x) k) (has_key k (map key_of (xs ++ ys))) e)
    (absent_front k xs ys (right_false (key_eq (key_of x) k) (has_key k (map key_of (xs ++ ys))) e))

apart_front : (xs ys : List Place) → AreDistinct (map key_of (xs ++ ys)) → AreDistinct (map key_of xs)
apart_front [] ys d = tt
apart_front (x ∷ xs) ys d = (absent_front (key_of x) xs ys d.0, apart_front xs ys d.1)

absent_last : (k : Key) (xs : List Place) (y : Place) → has_key k (map key_of (xs ++ y ∷ [])) ≡ false → key_eq (key_of y) k ≡ false
absent_last k [] y e = left_false (key_eq (key_of y) k) false e
absent_last k (x ∷ xs) y e = absent_last k xs y (right_false (key_eq (key_of x) k) (has_key k (map key_of (xs ++ y ∷ []))) e)

none_before : (xs : List Place) (y : Place) → AreDistinct (map key_of (xs ++ y ∷ [])) → place_at (key_of y) xs ≡ None
none_before [] y d = refl
none_before (x ∷ xs) y d =
    if_false (key_eq (key_of x) (key_of y)) (Some x) (place_at (key_of y) xs) (same_either_way (key_of x) (key_of y) ∙ absent_last (key_of x) xs y d.0) ∙ none_before xs y d.1

-- what became of a key's entry
abbrev pub BecameOf : Option Fetched → Option Place → Type 0
BecameOf (Some f) o = MatchBool f.head.done (o ≡ Some (Ended f.head.key)) ((q : Point) × (o ≡ Some (Lives q)))
BecameOf None o = o ≡ None

or_none : {A : Type 0} (o : Option A) → option_or o None ≡ o
or_none (Some x) = refl
or_none None = refl

module _ {State : Type 0} (service : Machine State) (node : Node) where
  record OneRevived (f : Fetched) (own : List Place) : Type 0 where
    place : Place
    own_is : own ≡ place ∷ []
    its : key_of place ≡ f.head.key
    became : BecameOf (Some f) (Some place)

  by_done : (f : Fetched) (own : List Place) (sent : List Packet) (b : Bool) → f.head.done ≡ b
      → Revives service node (if b then Ended f.head.key else Lives (point_of service node.profile (entry_in f))) own sent → OneRevived f own
  by_done f own sent true e r = record {
    place = Ended f.head.key;
    own_is = r.0;
    its = refl;
    became = subst (λ b. MatchBool b (Some (Ended f.head.key) ≡ Some (Ended f.head.key)) ((q : Point) × (Some (Ended f.head.key) ≡ Some (Lives q)))) (sym e) refl;
  }
  by_done f own sent false e (q, own_is, turn) =
      let same : q.key ≡ f.head.key = either_turn service node.server node.boot Begins (point_of service node.profile (entry_in f)) q sent (λ r. ap (λ x. x.key) r.point) (λ l. l.same.key) turn in
      record {
        place = Lives q;
        own_is = own_is;
        its = same;
        became = subst (λ b. MatchBool b (Some (Lives q) ≡ Some (Ended f.head.key)) ((r : Point) × (Some (Lives q) ≡ Some (Lives r)))) (sym e) (q, refl);
      }

  one_revived : (f : Fetched) (own : List Place) (sent : List Packet) → Revives service node (restored service node.profile f) own sent → OneRevived f own
  one_revived f own sent r = by_done f own sent f.head.done refl r

  pub revived : (fetched : List Fetched) (places : List Place) (sent : List Packet) (key : Key) → AllGo (Revives service node) (all_restored service node.profile fetched) places sent
      → AreDistinct (map key_of places) → BecameOf (find (λ f. key_eq f.head.key key) fetched) (place_at key places)
  revived [] places sent key go d = ap (place_at key) go.0
  revived (f ∷ earlier) places sent key go d =
      let r = last_goes (Revives service node) (all_restored service node.profile earlier) (restored service node.profile f) places sent go in
      let one = one_revived f r.own r.mine r.goes in
      let whole : places ≡ r.front ++ one.place ∷ [] = r.whole ∙ ap (λ l. r.front ++ l) one.own_is in
      let apart : AreDistinct (map key_of (r.front ++ one.place ∷ [])) = subst (λ l. AreDistinct (map key_of l)) whole d in
      let there : place_at key places ≡ option_or (place_at key r.front) (place_at key (one.place ∷ [])) =
      ap (place_at key) whole ∙ find-append (λ p. key_eq (key_of p) key) r.front (one.place ∷ []) in
      by_cases (key_eq f.head.key key)
      (λ t. let same : f.head.key ≡ key = same_key f.head.key key t in
      let none : place_at key r.front ≡ None = ap (λ k. place_at k r.front) (sym (one.its ∙ same)) ∙ none_before r.front one.place apart in
      let own : place_at key (one.place ∷ []) ≡ Some one.place =
      if_true (key_eq (key_of one.place) key) (Some one.place) None (ap (λ k. key_eq k key) one.its ∙ t) in
      let is : place_at key places ≡ Some one.place = there ∙ (ap (λ o. option_or o (place_at key (one.place ∷ []))) none ∙ own) in
      subst (λ o. BecameOf o (place_at key places)) (sym (if_true (key_eq f.head.key key) (Some f) (find (λ x. key_eq x.head.key key) earlier) t))
      (subst (BecameOf (Some f)) (sym is) one.became))
      (λ e. let own : place_at key (one.place ∷ []) ≡ None =
      if_false (key_eq (key_of one.place) key) (Some one.place) None (ap (λ k. key_eq k key) one.its ∙ e) in
      let is : place_at key places ≡ place_at key r.front = there ∙ (ap (option_or (place_at key r.front)) own ∙ or_none (place_at key r.front)) in
      subst (λ o. BecameOf o (place_at key places)) (sym (if_false (key_eq f.head.key key) (Some f) (find (λ x. key_eq x.head.key key) earlier) e))
      (subst (BecameOf (find (λ x. key_eq x.head.key key) earlier)) (sym is) (revived earlier r.front r.sent key r.before (apart_front r.front (one.place ∷ []) apart))))

-- What is known of a key at the end of a restart
module _ (n : law.LastingNode) (message : Message) (later : Node) (count : ℕ) (fetched : List Fetched) (at : n.node.stage ≡ Fetching count fetched) (empty : n.quarantine ≡ [])
    (d : AreDistinct (map key_of (places_at later.stage))) (key : Key) where
  abbrev next : law.LastingNode
  next = after_turn n (Message_comes message) later

  abbrev now_fetched : Option Fetched
  now_fetched = find (λ f. key_eq f.head.key key) (fetched_now n.node (Message_comes message) count fetched)

  quarantine_is : (o : Option Place) → place_at key (places_at later.stage) ≡ o → quarantined_at key next.quarantine ≡ quarantine_at n.node (Message_comes message) key None o
  quarantine_is o e =
      quarantine_by_key n.node (Message_comes message) n.quarantine later.stage key d
      ∙ ap₂ (λ q p. quarantine_at n.node (Message_comes message) key q p) (ap (quarantined_at key) empty) e

  origin_is : (b : Bool) → origin_said (if b then origin.RestoredEmpty else origin.Restored) ≡ (if b then origins.Restored_empty else origins.Restored)
  origin_is true = refl
  origin_is false = refl

  watch_is : (q : Point) → place_at key (places_at later.stage) ≡ Some (Lives q) → next.watches key ≡ begun_watch (if is_empty q then origins.Restored_empty else origins.Restored)
  watch_is q e =
      ap (watch_of n.node (Message_comes message) key (n.watches key)) e
      ∙ ap (λ x. if is_live (place_at key (places_at x)) then watched n.node (Message_comes message) key (n.watches key) else begun_watch (new_origin x q)) at

  pub life_restored : (o : Option Fetched) (p : Option Place) (l l' : Option Life) → now_fetched ≡ o → place_at key (places_at later.stage) ≡ p → BecameOf o p → FetchedStands o l → l' ≡ restored_life p l
      → LifeStands next key p l'
  life_restored None p None l' f e b st is =
      subst (λ x. LifeStands next key x l') (sym b) (subst (LifeStands next key None) (sym (is ∙ ap (λ x. restored_life x None) b)) (quarantine_is None (e ∙ b)))
  life_restored None p (Some x) l' f e b st is = absurd st
  life_restored (Some f) p l l' g e b st is = by_done_life f.head.done refl b l is st
    where
      by_done_life : (done : Bool) → f.head.done ≡ done → MatchBool done (p ≡ Some (Ended f.head.key)) ((q : Point) × (p ≡ Some (Lives q))) → (l : Option Life) → l' ≡ restored_life p l → FetchedStands (Some f) l
          → LifeStands next key p l'
      by_done_life true done b (Some (life.Resting r)) is st =
          let named : named_in n.node (Message_comes message) n.node.stage key ≡ Some (named_head f.head) =
          ap (λ x. named_in n.node (Message_comes message) x key) at ∙ ap (option_map (λ x. named_head x.head)) g in
          let there : quarantined_at key next.quarantine ≡ Some (begun (named_head f.head)) =
          quarantine_is (Some (Ended f.head.key)) (e ∙ b) ∙ ap (next_quarantine (Message_comes message) None) named in
          let end : next.ends key ≡ end_of_head f.head =
          ap (λ x. unwrap_or (end_in n.node (Message_comes message) x key) (n.ends key)) at ∙ ap (λ o. unwrap_or (option_map (λ x. end_of_head x.head) o) (n.ends key)) g in
          subst (λ x. LifeStands next key x l') (sym b)
          (subst (LifeStands next key (Some (Ended f.head.key))) (sym (is ∙ ap (λ x. restored_life x (Some (life.Resting r))) b))
          (subst (λ o. MatchOption o ⊥ (λ q. QuarantineStands r q × (r.end.0 ≡ next.ends key))) (sym there)
          (record { named = st.1.0; age = st.1.2 }, st.1.1 ∙ sym end)))
      by_done_life true done b (Some (life.Watched w)) is st = absurd st
      by_done_life true done b None is st = absurd (true≢false (sym done ∙ st))
      by_done_life false done (q, b) None is st =
          subst (λ x. LifeStands next key x l') (sym b)
          (subst (LifeStands next key (Some (Lives q))) (sym (is ∙ ap (λ x. restored_life x None) b)) (
            quarantine_is (Some (Lives q)) (e ∙ b),
            subst (WatchStands (record { origin = if is_empty q then origin.RestoredEmpty else origin.Restored; age = 0; silent = 0 })) (sym (watch_is q (e ∙ b)))
                (record { origin = origin_is (is_empty q); age = refl; silent = refl }),
          ))
      by_done_life false done b (Some (life.Resting r)) is st = absurd (true≢false (sym st.0 ∙ done))
      by_done_life false done b (Some (life.Watched w)) is st = absurd st

-- the turn that ends a restart
pub restart_ends : {State : Type 0} (service : Machine State) (n : law.LastingNode) (message : Message) (later : Node) (count opened : ℕ) (fetched : List Fetched) (places : List Place) (sent : List Packet)
    (mid next : Key → Option Life) → n.node.stage ≡ Fetching count fetched → fence n.node (Message_comes message) ≡ None → later.stage ≡ Serving opened places → AreDistinct (map key_of places)
    → LawfulTurn service n.node (Message_comes message) sent later → n.quarantine ≡ []
    → ((key : Key) → FetchedStands (find (λ f. key_eq f.head.key key) (fetched_now n.node (Message_comes message) count fetched)) (mid key))
    → ((key : Key) → next key ≡ restored_life (place_at key places) (mid key)) → LivesStand (after_turn n (Message_comes message) later) later.stage next
restart_ends {State} service n message later count opened fetched places sent mid next at unfenced serves d turn empty noted restored_so =
    let stage : StageTurn service n.node (Fetching count fetched) (Message_comes message) later.stage sent =
    subst (λ x. StageTurn service n.node x (Message_comes message) later.stage sent) at (subst (λ o. NodeTurn service n.node (Message_comes message) o later.stage sent) unfenced turn.stage) in
    let became : (key : Key) → BecameOf (find (λ f. key_eq f.head.key key) (fetched_now n.node (Message_comes message) count fetched)) (place_at key places) =
    λ key. by_fetched key (fetched_then n.node message count fetched) refl stage in
    let apart : AreDistinct (map key_of (places_at later.stage)) = subst (λ x. AreDistinct (map key_of (places_at x))) (sym serves) d in
    subst (λ x. LivesStand (after_turn n (Message_comes message) later) x next) (sym serves)
    (λ key. life_restored n message later count fetched at empty apart key (find (λ f. key_eq f.head.key key) (fetched_now n.node (Message_comes message) count fetched)) (place_at key places)
    (mid key) (next key) refl (ap (λ x. place_at key (places_at x)) serves) (became key) (noted key) (restored_so key))
  where
    no_serving : {P : Type 0} (c : ℕ) (fs : List Fetched) → later.stage ≡ Fetching c fs → P
    no_serving c fs e = let f : Fetching c fs ≡ Serving opened places = sym e ∙ serves in absurd (cc)

    by_wanted : (key : Key) (more : List Fetched) (w : Option Wanted) → Continues service n.node count more w later.stage sent
        → BecameOf (find (λ f. key_eq f.head.key key) more) (place_at key places)
    by_wanted key more (Some w) c = no_serving count more c.0
    by_wanted key more None (ps, is, go) =
        let same : ps ≡ places = (let e : Serving (restored_count more) ps ≡ Serving opened places = sym is ∙ serves in cc) in
        subst (λ l. BecameOf (find (λ f. key_eq f.head.key key) more) (place_at key l)) same (revived service n.node more ps sent key go (subst (λ l. AreDistinct (map key_of l)) (sym same) d))

    by_fetched : (key : Key) (o : Option (List Fetched)) → fetched_then n.node message count fetched ≡ o
        → MatchOption o (Rests (Fetching count fetched) later.stage sent) (λ more. Fetches service n.node count more later.stage sent)
        → BecameOf (find (λ f. key_eq f.head.key key) (fetched_now n.node (Message_comes message) count fetched)) (place_at key places)
    by_fetched key None e rests = no_serving count fetched rests.0
    by_fetched key (Some more) e f =
        subst (λ o. BecameOf (find (λ x. key_eq x.head.key key) (or_nothing o)) (place_at key places)) (sym e) (by_wanted key more (wanted count more) f)
