-- What is noted of a message is what must be known after it.
use Rattle.std.proofs.Common.{◌≡◌, ◌∙◌, inl, inr, ℕ, ◌+◌, Bool, true, false, ◌&&◌, not, ◌==◌, refl, sym, ap, subst, true≢false, option_map, MatchBool, MatchOption, Option, Some, None, List, [], ◌∷◌, ◌++◌, append-nil, map, if◌then◌else◌}
use Rattle.std.specs.Prelude.{find, length}
use Rattle.std.specs.List.{flat_map}
use Rattle.ft_io.specs.declared.Key.{Key}
use Rattle.ft_io.specs.Key.{key_eq}
use Rattle.ft_io.proofs.Booleans.{left_false, right_false, right_true, not_true}
use Rattle.ft_io.proofs.Choices.{by_cases, if_true, if_false, some_if, same_some}
use Rattle.server_trait.specs.Service.{Machine}
use Rattle.seq_arith.specs.Message.{Message, Numbers, EntryHead, Body}
use Rattle.seq_arith.specs.Message.Body.{SummaryMsg, EntryMsg, PartMsg, LensMsg, OpenedMsg, EndedMsg}
use Rattle.ft_model.specs.Keys.{AreDistinct}
use Rattle.ft_model.specs.Lawful.{LawfulTurn, StageTurn, NodeTurn, Continues, Fetches, Rests, restored_count, summary_count, count_reported, fetched_then, fence}
use Rattle.ft_model.specs.Network.{Packet}
use Rattle.ft_model.specs.Node.{Node, Place, Stage, key_of, place_at}
use Rattle.ft_model.specs.Node.Input.{Message_comes}
use Rattle.ft_model.specs.Node.Place.{Opens, Lives, Ended}
use Rattle.ft_model.specs.Node.Stage.{Asking, Fetching, Serving}
use Rattle.ft_model.specs.Point.{Point}
use Rattle.ft_model.specs.Restart.{Fetched, Wanted, wanted, fetched_by, fetched_after, is_fetched}
use Rattle.ft_model.specs.Restart.Wanted.{An_entry, Its_bytes, Its_lengths}
use Rattle.ft_model.specs.ServingTurn.{PlaceTurn, Stays, Meets, OnReceipt, concerns, names, newcomers, ServingTurn}
use Rattle.ft_model.proofs.Lists.{found_passes, same_key, key_is, none_is_some, some_is}
use Rattle.long_laws.specs.LongTrace.{places_at}
use Rattle.long_laws.specs.Quarantine.{named_head, or_nothing, quarantine_of, quarantined_at}
use Rattle.lasting_laws.specs.ByKey.{KeyWent}
use Rattle.lasting_laws.specs.Closing.{end_of_head}
use Rattle.lasting_laws.specs.LastingTurn as law
use Rattle.lasting_laws.specs.LastingTurn.{after_turn}
use Rattle.lasting_laws.specs.Watching.{is_live}
use Rattle.lasting_laws.proofs.ByKey.{key_went, serves_on}
use Rattle.lasting_lives.specs.declared.life.Life.{Life}
use Rattle.lasting_lives.specs.declared.life.Life.TheVariants as life
use Rattle.lasting_lives.specs.declared.life.Resting.{Resting}
use Rattle.lasting_lives.specs.declared.watch.Origin.TheVariants as origin
use Rattle.lasting_lives.specs.Known.{LifeStands, LivesStand, FetchedStands, Settles, EndsPlace, EndsBy}
use Rattle.lasting_lives.specs.Lives.{resting_in}
use Rattle.lasting_lives.specs.Noted.{ChangesAt, StaysKnown, opened_in, watched_from, NotesServing, if_done, if_ended, done_head, RestsFrom, NotesFetched, NotesEntry, NotesRestored, NotesRestart}
use Rattle.lasting_lives.proofs.Kept.{alone}
use Rattle.lasting_lives.proofs.Reported.{ReportedKey, reported_key, reported_lives}
use Rattle.lasting_lives.proofs.Restarted.{BecameOf, revived, restart_ends}

-- the key that Ended names
abbrev ended_in : Body → Option Key
ended_in (EndedMsg key) = Some key
ended_in _ = None

-- a key of which nothing is noted: the message neither ends nor opens its connection
quiet : (message : Message) (ends : Option Resting) (k : Key) (o o' : Option Place) (old new : Option Life) → ReportedKey message k o o' → ((p : Point) → o ≡ Some (Lives p) → message.body ≡ EndedMsg k → ⊥)
    → ((kept : Numbers) → message.body ≡ OpenedMsg kept → kept.key ≡ k → ⊥) → new ≡ old → Settles o o' ends old new
quiet message ends k (Some (Lives p)) o' old new (inl c) e x same = subst (λ y. Settles (Some (Lives p)) y ends old new) (sym c.1) same
quiet message ends k (Some (Lives p)) o' old new (inr c) e x same = absurd (e p refl c.2)
quiet message ends k (Some (Opens m t)) o' old new (inl c) e x same = subst (λ y. Settles (Some (Opens m t)) y ends old new) (sym c.2) same
quiet message ends k (Some (Opens m t)) o' old new (inr (inl c)) e x same = absurd (x c.1 c.3 c.4)
quiet message ends k (Some (Opens m t)) o' old new (inr (inr c)) e x same = subst (λ y. Settles (Some (Opens m t)) y ends old new) (sym c) same
quiet message ends k (Some (Ended q)) o' old new c e x same = subst (λ y. Settles (Some (Ended q)) y ends old new) (sym c) same
quiet message ends k None o' old new c e x same = subst (λ y. Settles None y ends old new) (sym c) same

-- the key whose connection the message says is open
watches : (n : law.LastingNode) (message : Message) (key : Key) (o o' : Option Place) (old new : Option Life) → ReportedKey message key o o' → (message.body ≡ EndedMsg key → ⊥)
    → new ≡ watched_from origin.Opened (is_live o') old → LifeStands n key o old → Settles o o' None old new
watches n message key (Some (Lives p)) o' (Some (life.Watched w)) new (inl c) e is st =
    subst (λ y. Settles (Some (Lives p)) y None (Some (life.Watched w)) new) (sym c.1) (is ∙ ap (λ y. watched_from origin.Opened (is_live y) (Some (life.Watched w))) c.1)
watches n message key (Some (Lives p)) o' (Some (life.Watched w)) new (inr c) e is st = absurd (e c.2)
watches n message key (Some (Lives p)) o' (Some (life.Resting r)) new c e is st = absurd st
watches n message key (Some (Lives p)) o' None new c e is st = absurd st
watches n message key (Some (Opens m t)) o' None new (inl c) e is st =
    subst (λ y. Settles (Some (Opens m t)) y None None new) (sym c.2) (is ∙ ap (λ y. watched_from origin.Opened (is_live y) None) c.2)
watches n message key (Some (Opens m t)) o' None new (inr (inl c)) e is st =
    subst (λ y. Settles (Some (Opens m t)) y None None new) (sym c.2) (is ∙ ap (λ y. watched_from origin.Opened (is_live y) None) c.2)
watches n message key (Some (Opens m t)) o' None new (inr (inr c)) e is st =
    subst (λ y. Settles (Some (Opens m t)) y None None new) (sym c) (is ∙ ap (λ y. watched_from origin.Opened (is_live y) None) c)
watches n message key (Some (Opens m t)) o' (Some x) new c e is st = absurd st
watches n message key (Some (Ended k)) o' (Some (life.Resting r)) new c e is st =
    subst (λ y. Settles (Some (Ended k)) y None (Some (life.Resting r)) new) (sym c) (is ∙ ap (λ y. watched_from origin.Opened (is_live y) (Some (life.Resting r))) c)
watches n message key (Some (Ended k)) o' (Some (life.Watched w)) new c e is st = absurd st
watches n message key (Some (Ended k)) o' None new c e is st = absurd st
watches n message key None o' None new c e is st = subst (λ y. Settles None y None None new) (sym c) (is ∙ ap (λ y. watched_from origin.Opened (is_live y) None) c)
watches n message key None o' (Some x) new c e is st = absurd st

-- a place that stays as it is
settles_same : (o : Option Place) (ends : Option Resting) (l : Option Life) → Settles o o ends l l
settles_same (Some (Lives p)) ends l = refl
settles_same (Some (Opens m t)) ends l = refl
settles_same (Some (Ended k)) ends l = refl
settles_same None ends l = refl

-- While the node serves
module _ {State : Type 0} (service : Machine State) (n : law.LastingNode) (message : Message) (later : Node) (opened : ℕ) (places : List Place) (sent : List Packet)
    (at : n.node.stage ≡ Serving opened places) (was : AreDistinct (map key_of places)) (now : AreDistinct (map key_of (places_at later.stage)))
    (unfenced : fence n.node (Message_comes message) ≡ None) (turn : LawfulTurn service n.node (Message_comes message) sent later) where
  served : (after : List Place) × (later.stage ≡ Serving (opened + length (newcomers n.node (Message_comes message) opened places)) after)
      × ServingTurn service n.node (Message_comes message) opened places after sent
  served = serves_on service n.node later (Message_comes message) opened places sent at unfenced turn

  there_after : (key : Key) → place_at key (places_at later.stage) ≡ place_at key served.0
  there_after key = ap (λ stage. place_at key (places_at stage)) served.1

  reported : (key : Key) → ReportedKey message key (place_at key places) (place_at key (places_at later.stage))
  reported key = subst (ReportedKey message key (place_at key places)) (sym (there_after key)) (reported_key service n.node message key opened places served.0 sent was served.2)

  went_at : (key : Key) → KeyWent service n.node (Message_comes message) key (place_at key places) served.2.went
  went_at key = key_went service n.node (Message_comes message) key places served.2.went served.2.by_places was served.2.all_go

  after_went : (key : Key) → place_at key (places_at later.stage) ≡ place_at key served.2.went
  after_went key = there_after key ∙ ap (place_at key) (served.2.places ∙ append-nil served.2.went)

  -- Ended at a live place
  ended_there : (message.boot == n.node.boot) ≡ true → (key : Key) (p : Point) → message.body ≡ EndedMsg key → place_at key places ≡ Some (Lives p)
      → place_at key (places_at later.stage) ≡ Some (Ended p.key)
  ended_there own key p body there =
      let w : KeyWent service n.node (Message_comes message) key (Some (Lives p)) served.2.went = subst (λ o. KeyWent service n.node (Message_comes message) key o served.2.went) there (went_at key) in
      after_went key ∙ (w.3 ∙ (ap (place_at key) (ends_one w.0 w.1 w.2) ∙ alone key (Ended p.key) its))
    where
      its : key_eq p.key key ≡ true
      its = found_passes (λ x. key_eq (key_of x) key) places (Lives p) there

      concerned : concerns n.node (Message_comes message) p.key ≡ true
      concerned =
          ap (λ b. b && names message.body p.key) own ∙ (ap (λ x. names x p.key) body ∙ subst (λ k. key_eq key k ≡ true) (sym (same_key p.key key its)) (key_is key))

      ends_one : (went : List Place) (some : List Packet) → PlaceTurn service n.node (Message_comes message) (Lives p) went some → went ≡ Ended p.key ∷ []
      ends_one went some t =
          let met : Meets service n.node (Message_comes message) (Lives p) went some =
          subst (λ b. MatchBool b (Meets service n.node (Message_comes message) (Lives p) went some) (Stays (Lives p) went some)) concerned t in
          (subst (λ x. OnReceipt service n.node x (Lives p) went some) body met).0

  -- a message of another boot
  unmoved : (message.boot == n.node.boot) ≡ false → (key : Key) → place_at key (places_at later.stage) ≡ place_at key places
  unmoved other key = after_went key ∙ by_place (place_at key places) (λ place e. found_passes (λ x. key_eq (key_of x) key) places place e) (went_at key)
    where
      by_place : (o : Option Place) → ((place : Place) → o ≡ Some place → key_eq (key_of place) key ≡ true) → KeyWent service n.node (Message_comes message) key o served.2.went
          → place_at key served.2.went ≡ o
      by_place None its w = w
      by_place (Some place) its w =
          let stays : Stays place w.0 w.1 =
          subst (λ b. MatchBool b (Meets service n.node (Message_comes message) place w.0 w.1) (Stays place w.0 w.1)) (ap (λ b. b && names message.body (key_of place)) other) w.2 in
          w.3 ∙ (ap (place_at key) stays.0 ∙ alone key place (its place refl))

  ends_places : (ends : Option Resting) → EndsBy n.node.stage message.body ends → (key : Key) → message.body ≡ EndedMsg key → EndsPlace (place_at key places) ends
  ends_places ends e key body = subst (λ b. EndsBy (Serving opened places) b ends) body (subst (λ x. EndsBy x message.body ends) at e)

  pub other_boot_serving : (ends : Option Resting) (lives : Key → Option Life) → (message.boot == n.node.boot) ≡ false → EndsBy n.node.stage message.body ends → LivesStand n n.node.stage lives
      → LivesStand (after_turn n (Message_comes message) later) later.stage lives
  other_boot_serving ends lives other e st =
      reported_lives service n message later opened places sent lives lives ends at was now unfenced turn (ends_places ends e)
      (λ key. subst (λ o. Settles (place_at key places) o ends (lives key) (lives key)) (sym (unmoved other key)) (settles_same (place_at key places) ends (lives key))) st

  -- the connection that the message ends
  record Ends (r : Resting) : Type 0 where
    key : Key
    point : Point
    body : message.body ≡ EndedMsg key
    there : place_at key places ≡ Some (Lives point)
    named : r.named.key ≡ key

  ends_there : (key : Key) (r : Resting) (o : Option Place) → message.body ≡ EndedMsg key → place_at key places ≡ o → EndsPlace o (Some r) → Ends r
  ends_there key r (Some (Lives p)) body there e = record {
    key = key;
    point = p;
    body = body;
    there = there;
    named = ap (λ x. x.key) e.0.named ∙ same_key p.key key (found_passes (λ x. key_eq (key_of x) key) places (Lives p) there);
  }
  ends_there key r (Some (Opens m t)) body there e = none_is_some r (sym e)
  ends_there key r (Some (Ended k)) body there e = none_is_some r (sym e)
  ends_there key r None body there e = none_is_some r (sym e)

  ends_it : (b : Body) (r : Resting) → message.body ≡ b → EndsBy (Serving opened places) b (Some r) → Ends r
  ends_it (EndedMsg key) r body e = ends_there key r (place_at key places) body refl e
  ends_it b r body e = none_is_some r (sym e)

  module _ (own : (message.boot == n.node.boot) ≡ true) (old new : Key → Option Life) where
    settles_ended : (r : Resting) → Ends r → ChangesAt r.named.key (λ l. Some (life.Resting r)) old new → (k : Key)
        → Settles (place_at k places) (place_at k (places_at later.stage)) (Some r) (old k) (new k)
    settles_ended r x change k =
        by_cases (key_eq r.named.key k)
        (λ t. subst (λ y. Settles (place_at y places) (place_at y (places_at later.stage)) (Some r) (old k) (new k)) (sym x.named ∙ same_key r.named.key k t)
        (subst (λ o. Settles o (place_at x.key (places_at later.stage)) (Some r) (old k) (new k)) (sym x.there)
        (subst (λ o. Settles (Some (Lives x.point)) o (Some r) (old k) (new k)) (sym (ended_there own x.key x.point x.body x.there))
        (change k ∙ if_true (key_eq r.named.key k) (Some (life.Resting r)) (old k) t))))
        (λ f. quiet message (Some r) k (place_at k places) (place_at k (places_at later.stage)) (old k) (new k) (reported k) (λ p there body. not_ended f body)
        (λ kept body its. none_is_some x.key (sym (ap ended_in body) ∙ ap ended_in x.body)) (change k ∙ if_false (key_eq r.named.key k) (Some (life.Resting r)) (old k) f))
      where
        not_ended : key_eq r.named.key k ≡ false → message.body ≡ EndedMsg k → ⊥
        not_ended f body =
            let same : x.key ≡ k = some_is x.key k (sym (ap ended_in x.body) ∙ ap ended_in body) in
            true≢false (sym (subst (λ y. key_eq r.named.key y ≡ true) (x.named ∙ same) (key_is r.named.key)) ∙ f)

    settles_opened : (key : Key) → opened_in message.body ≡ Some key → ChangesAt key (watched_from origin.Opened (is_live (place_at key (places_at later.stage)))) old new
        → ((k : Key) → LifeStands n k (place_at k places) (old k)) → (k : Key) → Settles (place_at k places) (place_at k (places_at later.stage)) None (old k) (new k)
    settles_opened key opens change st k =
        by_cases (key_eq key k)
        (λ t. subst (λ y. Settles (place_at y places) (place_at y (places_at later.stage)) None (old y) (new y)) (same_key key k t)
        (watches n message key (place_at key places) (place_at key (places_at later.stage)) (old key) (new key) (reported key) (never_ended key)
        (change key ∙ if_true (key_eq key key) (watched_from origin.Opened (is_live (place_at key (places_at later.stage))) (old key)) (old key) (key_is key)) (st key)))
        (λ f. quiet message None k (place_at k places) (place_at k (places_at later.stage)) (old k) (new k) (reported k) (λ p there body. never_ended k body)
        (λ kept body its. true≢false (sym (subst (λ y. key_eq key y ≡ true) (some_is key kept.key (sym opens ∙ ap opened_in body) ∙ its) (key_is key)) ∙ f))
        (change k ∙ if_false (key_eq key k) (watched_from origin.Opened (is_live (place_at key (places_at later.stage))) (old k)) (old k) f))
      where
        never_ended : (y : Key) → message.body ≡ EndedMsg y → ⊥
        never_ended y body = none_is_some key (sym (ap opened_in body) ∙ opens)

    settles_otherwise : EndsBy n.node.stage message.body None → opened_in message.body ≡ None → StaysKnown old new → (k : Key)
        → Settles (place_at k places) (place_at k (places_at later.stage)) None (old k) (new k)
    settles_otherwise e none same k =
        quiet message None k (place_at k places) (place_at k (places_at later.stage)) (old k) (new k) (reported k)
        (λ p there body. subst (λ o. EndsPlace o None) there (ends_places None e k body)) (λ kept body its. none_is_some kept.key (sym none ∙ ap opened_in body)) (same k)

    settles : (ends : Option Resting) → EndsBy n.node.stage message.body ends → NotesServing message.body ends later.stage old new → ((k : Key) → LifeStands n k (place_at k places) (old k)) → (k : Key)
        → Settles (place_at k places) (place_at k (places_at later.stage)) ends (old k) (new k)
    settles (Some r) e notes st = settles_ended r (ends_it message.body r refl (subst (λ x. EndsBy x message.body (Some r)) at e)) notes
    settles None e notes st = by_opened (opened_in message.body) refl notes
      where
        by_opened : (o : Option Key) → opened_in message.body ≡ o
            → MatchOption o (StaysKnown old new) (λ key. ChangesAt key (watched_from origin.Opened (is_live (place_at key (places_at later.stage)))) old new) → (k : Key)
            → Settles (place_at k places) (place_at k (places_at later.stage)) None (old k) (new k)
        by_opened None none same = settles_otherwise e none same
        by_opened (Some key) opens change = settles_opened key opens change st

    pub noted_serving : (ends : Option Resting) → EndsBy n.node.stage message.body ends → NotesServing message.body ends later.stage old new → LivesStand n n.node.stage old
        → LivesStand (after_turn n (Message_comes message) later) later.stage new
    noted_serving ends e notes st =
        reported_lives service n message later opened places sent old new ends at was now unfenced turn (ends_places ends e)
        (settles ends e notes (subst (λ stage. LivesStand n stage old) at st)) st

-- While the node restarts: what is fetched after a message
abbrev find_in : Key → List Fetched → Option Fetched
find_in key fetched = find (λ f. key_eq f.head.key key) fetched

abbrev new_entry : EntryHead → Fetched
new_entry head = record { head = head; bytes = []; lengths = [] }

abbrev SameHeads : List Fetched → List Fetched → Type 0
SameHeads (f ∷ fs) (g ∷ gs) = (g.head ≡ f.head) × (gs ≡ fs)
SameHeads _ _ = ⊥

abbrev IsMore : Body → List Fetched → List Fetched → Type 0
IsMore (EntryMsg i head) fs more = (more ≡ new_entry head ∷ fs) × (is_fetched head.key fs ≡ false)
IsMore _ fs more = SameHeads fs more

is_more : (w : Wanted) (b : Body) (fs more : List Fetched) → fetched_by w b fs ≡ Some more → IsMore b fs more
is_more (An_entry index) (EntryMsg i head) fs more e =
    let x = some_if (i == index && not (is_fetched head.key fs)) (Some (new_entry head ∷ fs)) more e in
    (sym (same_some x.1), not_true (is_fetched head.key fs) (right_true (i == index) (not (is_fetched head.key fs)) x.0))
is_more (Its_bytes key offset) (PartMsg k o bytes) (f ∷ earlier) more e =
    let x = some_if _ (Some (record f { bytes = f.bytes ++ bytes } ∷ earlier)) more e in
    subst (SameHeads (f ∷ earlier)) (same_some x.1) (refl, refl)
is_more (Its_lengths key first) (LensMsg k o lens) (f ∷ earlier) more e =
    let x = some_if _ (Some (record f { lengths = f.lengths ++ lens } ∷ earlier)) more e in
    subst (SameHeads (f ∷ earlier)) (same_some x.1) (refl, refl)
is_more w b fs more e = none_is_some more e

none_fetched : (key : Key) (fs : List Fetched) → is_fetched key fs ≡ false → find_in key fs ≡ None
none_fetched key [] e = refl
none_fetched key (f ∷ fs) e =
    if_false (key_eq f.head.key key) (Some f) (find_in key fs) (left_false (key_eq f.head.key key) (is_fetched key fs) e)
    ∙ none_fetched key fs (right_false (key_eq f.head.key key) (is_fetched key fs) e)

nothing_known : (l : Option Life) → FetchedStands None l → l ≡ None
nothing_known None st = refl
nothing_known (Some x) st = absurd st

head_only : (f g : Fetched) (l : Option Life) → g.head ≡ f.head → FetchedStands (Some f) l → FetchedStands (Some g) l
head_only f g (Some (life.Resting r)) e st = (ap (λ h. h.done) e ∙ st.0, (st.1.0 ∙ ap named_head (sym e), st.1.1 ∙ ap end_of_head (sym e), st.1.2))
head_only f g (Some (life.Watched w)) e st = absurd st
head_only f g None e st = ap (λ h. h.done) e ∙ st

heads_stand : (fs more : List Fetched) (k : Key) (l : Option Life) → SameHeads fs more → FetchedStands (find_in k fs) l → FetchedStands (find_in k more) l
heads_stand [] more k l h st = absurd h
heads_stand (f ∷ fs) [] k l h st = absurd h
heads_stand (f ∷ fs) (g ∷ gs) k l h st =
    by_cases (key_eq f.head.key k)
    (λ t. subst (λ o. FetchedStands o l) (sym (if_true (key_eq g.head.key k) (Some g) (find_in k gs) (ap (λ x. key_eq x.key k) h.0 ∙ t)))
    (head_only f g l h.0 (subst (λ o. FetchedStands o l) (if_true (key_eq f.head.key k) (Some f) (find_in k fs) t) st)))
    (λ e. subst (λ o. FetchedStands o l) (sym (if_false (key_eq g.head.key k) (Some g) (find_in k gs) (ap (λ x. key_eq x.key k) h.0 ∙ e) ∙ ap (find_in k) h.1))
    (subst (λ o. FetchedStands o l) (if_false (key_eq f.head.key k) (Some f) (find_in k fs) e) st))

module _ (fs more : List Fetched) (old mid : Key → Option Life) (stage : Stage) (st : (k : Key) → FetchedStands (find_in k fs) (old k)) where
  own_entry : (head : EntryHead) → more ≡ new_entry head ∷ fs → find_in head.key more ≡ Some (new_entry head)
  own_entry head m = ap (find_in head.key) m ∙ if_true (key_eq head.key head.key) (Some (new_entry head)) (find_in head.key fs) (key_is head.key)

  by_done : (head : EntryHead) (b : Bool) → head.done ≡ b → RestsFrom (if b then Some head else None) None (mid head.key) → FetchedStands (Some (new_entry head)) (mid head.key)
  by_done head true d x = subst (FetchedStands (Some (new_entry head))) (sym x.1) (d, (x.2, x.3, x.4))
  by_done head false d x = subst (FetchedStands (Some (new_entry head))) (sym x) d

  noted_at_head : (head : EntryHead) → more ≡ new_entry head ∷ fs → is_fetched head.key fs ≡ false → done_head head stage ≡ if_done (Some head) → NotesFetched head stage old mid
      → FetchedStands (find_in head.key more) (mid head.key)
  noted_at_head head m none done notes =
      let unknown : old head.key ≡ None = nothing_known (old head.key) (subst (λ o. FetchedStands o (old head.key)) (none_fetched head.key fs none) (st head.key)) in
      let rests : RestsFrom (done_head head stage) None (mid head.key) =
      subst (λ l. MatchOption (resting_in l) (RestsFrom (done_head head stage) l (mid head.key)) (λ r. mid head.key ≡ l)) unknown notes.its in
      subst (λ o. FetchedStands o (mid head.key)) (sym (own_entry head m)) (by_done head head.done refl (subst (λ o. RestsFrom o None (mid head.key)) done rests))

  pub noted_all : (b : Body) → IsMore b fs more → ((head : EntryHead) → more ≡ new_entry head ∷ fs → done_head head stage ≡ if_done (Some head)) → NotesEntry b stage old mid → (k : Key)
      → FetchedStands (find_in k more) (mid k)
  noted_all (EntryMsg i head) m done notes k =
      by_cases (key_eq head.key k)
      (λ t. subst (λ x. FetchedStands (find_in x more) (mid x)) (same_key head.key k t) (noted_at_head head m.0 m.1 (done head m.0) notes))
      (λ e. subst (FetchedStands (find_in k more)) (sym (notes.others k e))
      (subst (λ xs. FetchedStands (find_in k xs) (old k)) (sym m.0)
      (subst (λ o. FetchedStands o (old k)) (sym (if_false (key_eq head.key k) (Some (new_entry head)) (find_in k fs) e)) (st k))))
  noted_all b m done notes k = subst (FetchedStands (find_in k more)) (sym (notes k)) (heads_stand fs more k (old k) m (st k))

-- where nothing was fetched, nothing is noted
either_way : {P : Type 0} (o : Option Resting) → MatchOption o P (λ r. P) → P
either_way None p = p
either_way (Some r) p = p

entry_at : (head : EntryHead) (old mid : Key → Option Life) → ((k : Key) → key_eq head.key k ≡ false → mid k ≡ old k) → mid head.key ≡ old head.key → StaysKnown old mid
entry_at head old mid others its k = by_cases (key_eq head.key k) (λ t. subst (λ y. mid y ≡ old y) (same_key head.key k t) its) (λ e. others k e)

unasked_entry : (b : Body) (old mid : Key → Option Life) → NotesEntry b Asking old mid → StaysKnown old mid
unasked_entry (EntryMsg i head) old mid notes = entry_at head old mid notes.others (either_way (resting_in (old head.key)) notes.its)
unasked_entry b old mid notes = notes

no_entry : (b : Body) (count : ℕ) (stage : Stage) (old mid : Key → Option Life) → summary_count b ≡ Some count → NotesEntry b stage old mid → StaysKnown old mid
no_entry (SummaryMsg c) count stage old mid e notes = notes
no_entry (EntryMsg i head) count stage old mid e notes = none_is_some count e
no_entry b count stage old mid e notes = notes

refused_entry : (b : Body) (count : ℕ) (fs : List Fetched) (old mid : Key → Option Life) → ((k : Key) → FetchedStands (find_in k fs) (old k)) → NotesEntry b (Fetching count fs) old mid
    → StaysKnown old mid
refused_entry (EntryMsg i head) count fs old mid st notes = entry_at head old mid notes.others (by (find_in head.key fs) (old head.key) (st head.key) notes.its)
  where
    none_done : (f : Fetched) (m l : Option Life) (b : Bool) → b ≡ false → RestsFrom (if b then Some f.head else None) l m → m ≡ l
    none_done f m l true d x = absurd (true≢false d)
    none_done f m l false d x = x

    by : (o : Option Fetched) (l : Option Life) → FetchedStands o l → MatchOption (resting_in l) (RestsFrom (if_done (option_map (λ f. f.head) o)) l (mid head.key)) (λ r. mid head.key ≡ l)
        → mid head.key ≡ l
    by None None s x = x
    by None (Some y) s x = absurd s
    by (Some f) None s x = none_done f (mid head.key) None f.head.done s x
    by (Some f) (Some (life.Resting r)) s x = x
    by (Some f) (Some (life.Watched w)) s x = absurd s
refused_entry b count fs old mid st notes = notes

-- the place of the last entry, if that was done
ended_head : (head : EntryHead) (b : Bool) (o : Option Place) → MatchBool b (o ≡ Some (Ended head.key)) ((q : Point) × (o ≡ Some (Lives q))) → if_ended head o ≡ (if b then Some head else None)
ended_head head true o e = ap (if_ended head) e
ended_head head false o e = ap (if_ended head) e.1

module _ {State : Type 0} (service : Machine State) (n : law.LastingNode) (message : Message) (later : Node) (sent : List Packet) (unfenced : fence n.node (Message_comes message) ≡ None)
    (turn : LawfulTurn service n.node (Message_comes message) sent later) where
  abbrev next : law.LastingNode
  next = after_turn n (Message_comes message) later

  stage_turn : (x : Stage) → n.node.stage ≡ x → StageTurn service n.node x (Message_comes message) later.stage sent
  stage_turn x at = subst (λ y. StageTurn service n.node y (Message_comes message) later.stage sent) at (subst (λ o. NodeTurn service n.node (Message_comes message) o later.stage sent) unfenced turn.stage)

  none_after : places_at later.stage ≡ [] → next.quarantine ≡ []
  none_after none = ap (flat_map (quarantine_of n.node (Message_comes message) n.quarantine)) none

  -- no place, and nothing known
  nobody : (lives : Key → Option Life) (opened : ℕ) → later.stage ≡ Serving opened [] → ((k : Key) → lives k ≡ None) → LivesStand next later.stage lives
  nobody lives opened is none =
      subst (λ x. LivesStand next x lives) (sym is)
      (λ key. subst (LifeStands next key None) (sym (none key)) (ap (quarantined_at key) (none_after (ap places_at is))))

  still_asking : (lives : Key → Option Life) → later.stage ≡ Asking → ((k : Key) → lives k ≡ None) → LivesStand next later.stage lives
  still_asking lives is none = subst (λ x. LivesStand next x lives) (sym is) (none_after (ap places_at is), none)

  still_fetching : (lives : Key → Option Life) (count : ℕ) (fs : List Fetched) → later.stage ≡ Fetching count fs → ((k : Key) → FetchedStands (find_in k fs) (lives k)) → LivesStand next later.stage lives
  still_fetching lives count fs is st = subst (λ x. LivesStand next x lives) (sym is) (none_after (ap places_at is), st)

  -- before anything is fetched
  module _ (at : n.node.stage ≡ Asking) (old new : Key → Option Life) (notes : NotesRestart message.body later.stage old new) (none : (k : Key) → old k ≡ None) where
    begins : (count : ℕ) → summary_count message.body ≡ Some count → (w : Option Wanted) → Continues service n.node count [] w later.stage sent → LivesStand next later.stage new
    begins count e (Some w) c =
        still_fetching new count [] c.0
        (λ k. subst (FetchedStands None) (sym ((subst (λ x. NotesRestored x notes.mid new) c.0 notes.restored) k ∙ (no_entry message.body count later.stage old notes.mid e notes.entry k ∙ none k))) tt)
    begins count e None (places, is, go) =
        let empty : later.stage ≡ Serving (restored_count []) [] = is ∙ ap (Serving (restored_count [])) go.0 in
        nobody new (restored_count []) empty (λ k. (subst (λ x. NotesRestored x notes.mid new) empty notes.restored) k ∙ (no_entry message.body count later.stage old notes.mid e notes.entry k ∙ none k))

    by_count : (o : Option ℕ) → count_reported n.node message ≡ o → MatchOption o (Rests Asking later.stage sent) (λ count. Fetches service n.node count [] later.stage sent) → LivesStand next later.stage new
    by_count None e rests =
        still_asking new rests.0
        (λ k. (subst (λ x. NotesRestored x notes.mid new) rests.0 notes.restored) k ∙ (unasked_entry message.body old notes.mid (subst (λ x. NotesEntry message.body x old notes.mid) rests.0 notes.entry) k ∙ none k))
    by_count (Some count) e f = begins count (some_if (message.boot == n.node.boot) (summary_count message.body) count e).1 (wanted count []) f

    pub noted_asking : LivesStand next later.stage new
    noted_asking = by_count (count_reported n.node message) refl (stage_turn Asking at)

  -- while entries are fetched
  module _ (count : ℕ) (fetched : List Fetched) (at : n.node.stage ≡ Fetching count fetched) (empty : n.quarantine ≡ []) (apart : AreDistinct (map key_of (places_at later.stage)))
      (old new : Key → Option Life) (notes : NotesRestart message.body later.stage old new) (st : (k : Key) → FetchedStands (find_in k fetched) (old k)) where
    more_is : (o : Option Wanted) (more : List Fetched) → fetched_then n.node message count fetched ≡ Some more → wanted count fetched ≡ o → IsMore message.body fetched more
    more_is None more e w =
        none_is_some more (ap (λ o. fetched_after o message.body fetched) (sym w) ∙ (some_if (message.boot == n.node.boot) _ more e).1)
    more_is (Some x) more e w =
        is_more x message.body fetched more (ap (λ o. fetched_after o message.body fetched) (sym w) ∙ (some_if (message.boot == n.node.boot) _ more e).1)

    proceeds : (more : List Fetched) → IsMore message.body fetched more → later.stage ≡ Fetching count more → LivesStand next later.stage new
    proceeds more m is =
        still_fetching new count more is
        (λ k. subst (FetchedStands (find_in k more)) (sym ((subst (λ x. NotesRestored x notes.mid new) is notes.restored) k))
        (noted_all fetched more old notes.mid (Fetching count more) st message.body m
        (λ head e. ap (λ o. if_done (option_map (λ f. f.head) o)) (own_entry fetched more old notes.mid (Fetching count more) st head e)) (subst (λ x. NotesEntry message.body x old notes.mid) is notes.entry) k))

    ends : (more : List Fetched) (opened : ℕ) (places : List Place) → fetched_then n.node message count fetched ≡ Some more → IsMore message.body fetched more → later.stage ≡ Serving opened places
        → ((k : Key) → BecameOf (find_in k more) (place_at k places)) → LivesStand next later.stage new
    ends more opened places e m is became =
        restart_ends service n message later count opened fetched places sent notes.mid new at unfenced is (subst (λ x. AreDistinct (map key_of (places_at x))) is apart) turn empty
        (λ k. subst (λ o. FetchedStands (find_in k (or_nothing o)) (notes.mid k)) (sym e)
        (noted_all fetched more old notes.mid (Serving opened places) st message.body m
        (λ head x. ended_head head head.done (place_at head.key places) (subst (λ o. BecameOf o (place_at head.key places)) (own_entry fetched more old notes.mid (Serving opened places) st head x) (became head.key)))
        (subst (λ x. NotesEntry message.body x old notes.mid) is notes.entry) k))
        (subst (λ x. NotesRestored x notes.mid new) is notes.restored)

    by_wanted : (more : List Fetched) → fetched_then n.node message count fetched ≡ Some more → (w : Option Wanted) → Continues service n.node count more w later.stage sent
        → LivesStand next later.stage new
    by_wanted more e (Some w) c = proceeds more (more_is (wanted count fetched) more e refl) c.0
    by_wanted more e None (places, is, go) =
        ends more _ places e (more_is (wanted count fetched) more e refl) is
        (λ k. revived service n.node more places sent k go (subst (λ x. AreDistinct (map key_of (places_at x))) is apart))

    by_fetched : (o : Option (List Fetched)) → fetched_then n.node message count fetched ≡ o
        → MatchOption o (Rests (Fetching count fetched) later.stage sent) (λ more. Fetches service n.node count more later.stage sent) → LivesStand next later.stage new
    by_fetched None e rests =
        still_fetching new count fetched rests.0
        (λ k. subst (FetchedStands (find_in k fetched))
        (sym ((subst (λ x. NotesRestored x notes.mid new) rests.0 notes.restored) k
        ∙ refused_entry message.body count fetched old notes.mid st (subst (λ x. NotesEntry message.body x old notes.mid) rests.0 notes.entry) k)) (st k))
    by_fetched (Some more) e f = by_wanted more e (wanted count more) f

    pub noted_fetching : LivesStand next later.stage new
    noted_fetching = by_fetched (fetched_then n.node message count fetched) refl (stage_turn (Fetching count fetched) at)

  -- a message of another boot
  pub other_boot_asking : (lives : Key → Option Life) → (message.boot == n.node.boot) ≡ false → n.node.stage ≡ Asking → ((k : Key) → lives k ≡ None) → LivesStand next later.stage lives
  other_boot_asking lives other at none =
      still_asking lives (subst (λ o. MatchOption o (Rests Asking later.stage sent) (λ count. Fetches service n.node count [] later.stage sent))
      (if_false (message.boot == n.node.boot) (summary_count message.body) None other) (stage_turn Asking at)).0 none

  pub other_boot_fetching : (lives : Key → Option Life) (count : ℕ) (fetched : List Fetched) → (message.boot == n.node.boot) ≡ false → n.node.stage ≡ Fetching count fetched
      → ((k : Key) → FetchedStands (find_in k fetched) (lives k)) → LivesStand next later.stage lives
  other_boot_fetching lives count fetched other at st =
      still_fetching lives count fetched (subst (λ o. MatchOption o (Rests (Fetching count fetched) later.stage sent) (λ more. Fetches service n.node count more later.stage sent))
      (if_false (message.boot == n.node.boot) _ None other) (stage_turn (Fetching count fetched) at)).0 st
