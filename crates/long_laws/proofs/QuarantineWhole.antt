-- What is done is in quarantine, in every trace.
use Rattle.tcp_rules.specs.declared.timestamping.Timestamping.{Timestamping}
use Rattle.std.proofs.Common.{◌≡◌, ◌⊎◌, inl, inr, ⊎_elim, ℕ, Bool, true, false, ◌==◌, ◌&&◌, ◌||◌, nat_lt, max, MatchBool, refl, sym, ap, ◌∙◌, subst, true≢false, eq-eqb, find, is_some, option_map, flat_map, Option, Some, None, List, [], ◌∷◌, ◌++◌, map, slice_get}
use Rattle.std.proofs.lemmas.List.Folds.{list_any-append}
use Rattle.std.proofs.lemmas.Bool.{or_right}
use Rattle.std.specs.List.{AllByRecursion}
use Rattle.ft_io.specs.declared.Key.{Key}
use Rattle.ft_io.specs.Key.{key_eq}
use Rattle.server_trait.specs.Service.{Machine}
use Rattle.seq_arith.specs.Packet.{Segment}
use Rattle.seq_arith.specs.Message.{Numbers, Message}
use Rattle.ft_model.specs.Keys.{has_key, AreDistinct}
use Rattle.ft_model.specs.Lawful.{Revives, LawfulTurn, all_restored, restored}
use Rattle.ft_model.specs.Masked.{is_restarting}
use Rattle.ft_model.specs.Network.{Packet}
use Rattle.ft_model.specs.Node.{Node, Place, Stage, Input, key_of, place_at, pending_count, booted}
use Rattle.ft_model.specs.Node.Input.{Packet_comes, Message_comes, Noise_comes, Tick_comes}
use Rattle.ft_model.specs.Node.Place.{Opens, Lives, Ended}
use Rattle.ft_model.specs.Node.Stage.{Asking, Fetching, Serving, Fenced}
use Rattle.ft_model.specs.Opening.{is_syn, numbers_for, timestamping_for}
use Rattle.ft_model.specs.Restart.{Fetched, wanted, fetched_after, point_of, entry_in}
use Rattle.ft_model.specs.ServingTurn.{PlaceTurn, newcomers, is_strange}
use Rattle.ft_model.specs.World.{World}
use Rattle.ft_model.specs.declared.event.Event.{Event}
use Rattle.ft_model.proofs.Distinct.{StageDistinct}
use Rattle.ft_model.proofs.Keys.{absent_key, finds_itself, all_from_get}
use Rattle.ft_model.proofs.Lists.{all_weaker, all_append, all_of, all_slice_get, found_passes, same_key, key_is, or_left, or_cases, none_is_some, some_is}
use Rattle.ft_model.proofs.PlaceTurns.{PlaceWent, place_went, all_proceed}
use Rattle.ft_model.proofs.PlaceTurns.PlaceWent.{stayed, went_on, began, dropped, ended, refused}
use Rattle.ft_model.proofs.Resumed.{map_append}
use Rattle.ft_model.proofs.Running.{HasSmallOutputs}
use Rattle.ft_model.proofs.StageTurns.{StageWent, Progress, stage_went}
use Rattle.ft_model.proofs.StageTurns.StageWent.{was_fenced, waited, held_off, asked_on, resumed, served}
use Rattle.ft_io.proofs.Choices.{holds_if, if_true}
use Rattle.long_laws.specs.Forgetting.{Named, ForgetAnswer, answer_to_forget}
use Rattle.long_laws.specs.Forgetting.ForgetAnswer.{About_forgetting, Of_log}
use Rattle.long_laws.specs.LongTrace.{LongStep, others, places_at, stage_without}
use Rattle.long_laws.specs.LongTrace.LongStep.{Joint_event, Recycles, Forgets, Arrives, Lets_go, Keeps_alive}
use Rattle.long_laws.specs.Quarantine.{Quarantined, aged, named_point, named_head, named_place, or_nothing, fetched_now, named_in, quarantined_at, proceeds_or_begins, quarantine_of, quarantine_after, ended_early, taken_away}
use Rattle.long_laws.specs.QuarantineWorld.{QuarantineWorld, QuarantineStep, QuarantineMoment, MayQuarantine, QuarantineJoint, Usually, DropsSilently, event_input, step_input, quarantine_then, drops, is_full_input, is_by_message, recycled_by, recycled_world, with_answer, without_place, after_moments, IsHeld, AllAreHeld}
use Rattle.long_laws.specs.QuarantineWorld.QuarantineStep.{Usual, To_log, To_node, Is_lost, Ends_early}
use Rattle.long_laws.proofs.Forgotten.{Was, was}
use Rattle.long_laws.proofs.Others.{all_others}
use Rattle.long_laws.proofs.QuarantineEvents.{Went, went}
use Rattle.long_laws.proofs.QuarantineEvents.Went.{took_turn, was_elsewhere, has_booted, is_down}
use Rattle.long_laws.proofs.QuarantineKept.{named_key}
use Rattle.long_laws.proofs.QuarantineTraces.{follows}
use Rattle.long_laws.proofs.Stands.{Stands}

abbrev its_key : Quarantined → Key
its_key q = q.named.key

abbrev Has : List Quarantined → Key → Type 0
Has qs key = has_key key (map its_key qs) ≡ true

abbrev HasIts : List Quarantined → Place → Type 0
HasIts qs (Ended key) = Has qs key
HasIts qs (Lives p) = Unit {0}
HasIts qs (Opens n timestamping) = Unit {0}

-- a key that stands among the keys finds something
finds : {A : Type 0} (of : A → Key) (key : Key) (xs : List A) → has_key key (map of xs) ≡ true → (x : A) × (find (λ y. key_eq (of y) key) xs ≡ Some x)
finds {A = A} of key xs h = on (find (λ y. key_eq (of y) key) xs) refl
  where
    on : (o : Option A) → find (λ y. key_eq (of y) key) xs ≡ o → (x : A) × (find (λ y. key_eq (of y) key) xs ≡ Some x)
    on (Some x) e = (x, e)
    on None e = absurd (true≢false (sym h ∙ absent_key of key xs (ap is_some e)))

has_append : (xs ys : List Quarantined) (key : Key) → has_key key (map its_key (xs ++ ys)) ≡ (has_key key (map its_key xs) || has_key key (map its_key ys))
has_append xs ys key = ap (has_key key) (map_append its_key xs ys) ∙ list_any-append (λ k. key_eq k key) (map its_key xs) (map its_key ys)

has_front : (xs ys : List Quarantined) (place : Place) → HasIts xs place → HasIts (xs ++ ys) place
has_front xs ys (Ended key) h = has_append xs ys key ∙ or_left (has_key key (map its_key xs)) (has_key key (map its_key ys)) h
has_front xs ys (Lives p) h = tt
has_front xs ys (Opens n timestamping) h = tt

has_behind : (xs ys : List Quarantined) (place : Place) → HasIts ys place → HasIts (xs ++ ys) place
has_behind xs ys (Ended key) h = has_append xs ys key ∙ or_right (has_key key (map its_key xs)) (has_key key (map its_key ys)) h
has_behind xs ys (Lives p) h = tt
has_behind xs ys (Opens n timestamping) h = tt

flat_has : (f : Place → List Quarantined) (places : List Place) → AllByRecursion (λ place. HasIts (f place) place) places → AllByRecursion (HasIts (flat_map f places)) places
flat_has f [] a = tt
flat_has f (p ∷ places) a =
    (has_front (f p) (flat_map f places) p a.0, all_weaker (HasIts (flat_map f places)) (HasIts (f p ++ flat_map f places)) places (has_behind (f p) (flat_map f places)) (flat_has f places a.1))

-- where the quarantine of a place comes from
abbrev Source : Node → Input → List Quarantined → Place → Type 0
Source node input qs (Ended key) = Has qs key ⊎ ((n : Named) × (named_in node input node.stage key ≡ Some n))
Source node input qs (Lives p) = Unit {0}
Source node input qs (Opens n timestamping) = Unit {0}

pub aged_key : (input : Input) (q : Quarantined) → (aged input q).named.key ≡ q.named.key
aged_key Tick_comes q = refl
aged_key (Packet_comes segment) q = refl
aged_key (Message_comes message) q = refl
aged_key Noise_comes q = refl

from_source : (node : Node) (input : Input) (qs : List Quarantined) (key : Key) (q : Option Quarantined) (n : Option Named) → quarantined_at key qs ≡ q → named_in node input node.stage key ≡ n
    → Source node input qs (Ended key) → Has (proceeds_or_begins input q n) key
from_source node input qs key (Some q) n e f s =
    or_left (key_eq (aged input q).named.key key) false (ap (λ k. key_eq k key) (aged_key input q) ∙ found_passes (λ x. key_eq x.named.key key) qs q e)
from_source node input qs key None (Some n) e f s = or_left (key_eq n.key key) false (ap (λ k. key_eq k key) (named_key node input node.stage key n f) ∙ key_is key)
from_source node input qs key None None e f (inl h) = let x = finds its_key key qs h in none_is_some x.0 (sym e ∙ x.1)
from_source node input qs key None None e f (inr m) = none_is_some m.0 (sym f ∙ m.1)

place_has : (node : Node) (input : Input) (qs : List Quarantined) (place : Place) → Source node input qs place → HasIts (quarantine_of node input qs place) place
place_has node input qs (Ended key) s = from_source node input qs key (quarantined_at key qs) (named_in node input node.stage key) refl refl s
place_has node input qs (Lives p) s = tt
place_has node input qs (Opens n timestamping) s = tt

after_has : (node : Node) (input : Input) (later : Stage) (qs : List Quarantined) → AllByRecursion (Source node input qs) (places_at later)
    → AllByRecursion (HasIts (quarantine_after node input later qs)) (places_at later)
after_has node input later qs a =
    flat_has (quarantine_of node input qs) (places_at later)
    (all_weaker (Source node input qs) (λ place. HasIts (quarantine_of node input qs place) place) (places_at later) (place_has node input qs) a)

-- A server that serves

no_places : (P : Place → Type 0) (stage : Stage) → is_restarting stage ≡ true → AllByRecursion P (places_at stage)
no_places P Asking r = tt
no_places P (Fetching count fetched) r = tt
no_places P (Serving opened places) r = absurd (true≢false (sym r))
no_places P (Fenced newer) r = tt

new_source : (R : Place → Type 0) → ((n : Numbers) (timestamping : Timestamping) → R (Opens n timestamping)) → (node : Node) (input : Input) (opened : ℕ) (places : List Place) → AllByRecursion R (newcomers node input opened places)
new_source R f node (Packet_comes segment) opened places =
    holds_if (AllByRecursion R) (is_strange node segment places && is_syn segment && nat_lt (pending_count places) 64) (Opens (numbers_for node.profile node.isn opened segment) (timestamping_for node.profile segment) ∷ []) []
    (λ t. (f (numbers_for node.profile node.isn opened segment) (timestamping_for node.profile segment), tt)) (λ t. tt)
new_source R f node (Message_comes message) opened places = tt
new_source R f node Noise_comes opened places = tt
new_source R f node Tick_comes opened places = tt

-- each place before the turn
abbrev Before : List Place → List Quarantined → Place → Type 0
Before places qs (Ended key) = Has qs key
Before places qs (Lives p) = place_at p.key places ≡ Some (Lives p)
Before places qs (Opens n timestamping) = Unit {0}

all_before : (places : List Place) (qs : List Quarantined) → AreDistinct (map key_of places) → AllByRecursion (HasIts qs) places → AllByRecursion (Before places qs) places
all_before places qs d a = all_from_get (Before places qs) places on
  where
    on : (i : ℕ) (x : Place) → slice_get places i ≡ Some x → Before places qs x
    on i (Ended key) e = all_slice_get (HasIts qs) places i (Ended key) a e
    on i (Lives p) e = finds_itself key_of places i (Lives p) d e
    on i (Opens n timestamping) e = tt

Nothing : Packet → Type 0
Nothing packet = Unit {0}

nothing_of : (sent : List Packet) → AllByRecursion Nothing sent
unfolding Nothing
nothing_of sent = all_of (λ p. Unit {0}) sent (λ p. tt)

module _ {State : Type 0} (service : Machine State) (node : Node) (input : Input) (qs : List Quarantined) where
  stays_so : (places : List Place) (place : Place) → Before places qs place → Source node input qs place
  stays_so places (Ended key) b = inl b
  stays_so places (Lives p) b = tt
  stays_so places (Opens n timestamping) b = tt

  one_goes : (opened : ℕ) (places : List Place) → node.stage ≡ Serving opened places → (place : Place) (now : List Place) (sent : List Packet) → Before places qs place
      → PlaceWent service node input place now sent → AllByRecursion (Source node input qs) now
  one_goes opened places at place now sent b (stayed n s) = subst (AllByRecursion (Source node input qs)) (sym n) (stays_so places place b, tt)
  one_goes opened places at place now sent b (went_on news p q e i n t) = subst (AllByRecursion (Source node input qs)) (sym n) (tt, tt)
  one_goes opened places at place now sent b (began asked kept timestamping q e h n t) = subst (AllByRecursion (Source node input qs)) (sym n) (tt, tt)
  one_goes opened places at place now sent b (dropped asked timestamping e d n s) = subst (AllByRecursion (Source node input qs)) (sym n) tt
  one_goes opened places at place now sent b (ended p e h n s) =
      let found : place_at p.key places ≡ Some (Lives p) = subst (Before places qs) e b in
      let named : named_in node input node.stage p.key ≡ Some (named_point p) =
      ap (λ stage. named_in node input stage p.key) at ∙ ap named_place found in
      subst (AllByRecursion (Source node input qs)) (sym n) (inr (named_point p, named), tt)
  one_goes opened places at place now sent b (refused key segment e c k n s) = subst (AllByRecursion (Source node input qs)) (sym n) (inl (subst (Before places qs) e b), tt)

  -- a restart
  restored_source : (whole part : List Fetched) → ((f : Fetched) → has_key f.head.key (map (λ g. g.head.key) whole) ≡ true → Source node input qs (restored service node.profile f))
      → AllByRecursion (λ f. has_key f.head.key (map (λ g. g.head.key) whole) ≡ true) part → AllByRecursion (Source node input qs) (all_restored service node.profile part)
  restored_source whole [] f a = tt
  restored_source whole (x ∷ part) f a = all_append (Source node input qs) (all_restored service node.profile part) (restored service node.profile x ∷ []) (restored_source whole part f a.1) (f x a.0, tt)

  revive_source : (place : Place) (now : List Place) (sent : List Packet) → Source node input qs place → Revives service node place now sent → AllByRecursion (Source node input qs) now
  revive_source (Lives p) now sent s t = subst (AllByRecursion (Source node input qs)) (sym t.1) (tt, tt)
  revive_source (Opens n timestamping) now sent s t = subst (AllByRecursion (Source node input qs)) (sym t.0) (tt, tt)
  revive_source (Ended key) now sent s t = subst (AllByRecursion (Source node input qs)) (sym t.0) (s, tt)

  all_its_keys : (fetched : List Fetched) → AllByRecursion (λ f. has_key f.head.key (map (λ g. g.head.key) fetched) ≡ true) fetched
  all_its_keys [] = tt
  all_its_keys (f ∷ earlier) = (
    or_left (key_eq f.head.key f.head.key) (has_key f.head.key (map (λ g. g.head.key) earlier)) (key_is f.head.key),
    all_weaker (λ x. has_key x.head.key (map (λ g. g.head.key) earlier) ≡ true) (λ x. has_key x.head.key (map (λ g. g.head.key) (f ∷ earlier)) ≡ true) earlier
        (λ x h. or_right (key_eq f.head.key x.head.key) (has_key x.head.key (map (λ g. g.head.key) earlier)) h) (all_its_keys earlier),
  )

  fetched_source : (count : ℕ) (old fetched : List Fetched) → node.stage ≡ Fetching count old → fetched_now node input count old ≡ fetched → (f : Fetched)
      → has_key f.head.key (map (λ g. g.head.key) fetched) ≡ true → Source node input qs (restored service node.profile f)
  fetched_source count old fetched at is f h =
      holds_if (Source node input qs) f.head.done (Ended f.head.key) (Lives (point_of service node.profile (entry_in f)))
      (λ t. let x = finds (λ (g : Fetched). g.head.key) f.head.key fetched h in
      inr (
        named_head x.0.head,
        ap (λ stage. named_in node input stage f.head.key) at ∙ (ap (λ l. option_map (λ g. named_head g.head) (find (λ g. key_eq g.head.key f.head.key) l)) is ∙ ap (option_map (λ g. named_head g.head)) x.1),
      )) (λ t. tt)

  now_is : (count : ℕ) (old fetched : List Fetched) (message : Message) → input ≡ Message_comes message → message.boot ≡ node.boot → fetched_after (wanted count old) message.body old ≡ Some fetched
      → fetched_now node input count old ≡ fetched
  now_is count old fetched message comes own e =
      ap (λ i. fetched_now node i count old) comes
      ∙ ap or_nothing (if_true (message.boot == node.boot) (fetched_after (wanted count old) message.body old) None (eq-eqb message.boot node.boot own) ∙ e)

  progress_source : (count : ℕ) (fetched : List Fetched) → Progress node input count fetched → AllByRecursion (Source node input qs) (all_restored service node.profile fetched)
  progress_source count fetched p =
      ⊎_elim (λ h. subst (λ l. AllByRecursion (Source node input qs) (all_restored service node.profile l)) (sym h.2) tt)
      (λ h. restored_source fetched fetched (fetched_source count h.0 fetched h.1 (now_is count h.0 fetched p.message p.comes p.boot h.2)) (all_its_keys fetched)) p.how

  stage_sources : (sent : List Packet) (after : Stage) → StageDistinct node.stage → AllByRecursion (HasIts qs) (places_at node.stage) → StageWent service node input sent after
      → AllByRecursion (Source node input qs) (places_at after)
  stage_sources sent after d a (was_fenced newer f s) = subst (λ stage. AllByRecursion (Source node input qs) (places_at stage)) (sym f) tt
  stage_sources sent after d a (waited r f s) = no_places (Source node input qs) after (ap is_restarting f ∙ r)
  stage_sources sent after d a (held_off count fetched segment b f s) = no_places (Source node input qs) after (ap is_restarting f)
  stage_sources sent after d a (asked_on count fetched p f s) = no_places (Source node input qs) after (ap is_restarting f)
  stage_sources sent after d a (resumed count fetched places p none f t) =
      subst (λ stage. AllByRecursion (Source node input qs) (places_at stage)) (sym f)
      (all_proceed (Revives service node) (Source node input qs) (Source node input qs) Nothing (λ place now some s goes. (revive_source place now some s goes, nothing_of some))
      (all_restored service node.profile fetched) places sent (progress_source count fetched p) t).0
  stage_sources sent after d a (served opened places later b f t) =
      let before : AllByRecursion (Before places qs) places =
      all_before places qs (subst StageDistinct b d) (subst (λ stage. AllByRecursion (HasIts qs) (places_at stage)) b a) in
      let here : AllByRecursion (Source node input qs) t.went =
      (all_proceed (PlaceTurn service node input) (Before places qs) (Source node input qs) Nothing
      (λ place now some x turn. (one_goes opened places b place now some x (place_went service node input place now some turn), nothing_of some)) places t.went t.by_places before t.all_go).0 in
      subst (λ stage. AllByRecursion (Source node input qs) (places_at stage)) (sym f)
      (subst (AllByRecursion (Source node input qs)) (sym t.places) (all_append (Source node input qs) t.went (newcomers node input opened places) here (new_source (Source node input qs) (λ n s. tt) node input opened places)))

  pub turn_has : (later : Node) (sent : List Packet) → StageDistinct node.stage → AllByRecursion (HasIts qs) (places_at node.stage) → LawfulTurn service node input sent later
      → AllByRecursion (HasIts (quarantine_after node input later.stage qs)) (places_at later.stage)
  turn_has later sent d a t = after_has node input later.stage qs (stage_sources sent later.stage d a (stage_went service node later input sent t))

-- A server that lets go of a client has the same in quarantine

is_packet : Input → Bool
is_packet (Packet_comes segment) = true
is_packet (Message_comes message) = false
is_packet Noise_comes = false
is_packet Tick_comes = false

module _ {State : Type 0} (service : Machine State) (node : Node) (segment : Segment) (qs : List Quarantined) where
  packet_keeps : (place : Place) (now : List Place) (sent : List Packet) → HasIts qs place → PlaceWent service node (Packet_comes segment) place now sent → AllByRecursion (HasIts qs) now
  unfolding is_packet
  packet_keeps place now sent b (stayed n s) = subst (AllByRecursion (HasIts qs)) (sym n) (b, tt)
  packet_keeps place now sent b (went_on news p q e i n t) = subst (AllByRecursion (HasIts qs)) (sym n) (tt, tt)
  packet_keeps place now sent b (began asked kept timestamping q e h n t) = subst (AllByRecursion (HasIts qs)) (sym n) (tt, tt)
  packet_keeps place now sent b (dropped asked timestamping e d n s) = subst (AllByRecursion (HasIts qs)) (sym n) tt
  packet_keeps place now sent b (ended p e h n s) = absurd (true≢false (ap is_packet h.1))
  packet_keeps place now sent b (refused key segment e c k n s) = subst (AllByRecursion (HasIts qs)) (sym n) (subst (HasIts qs) e b, tt)

  -- whatever its stage, if it serves or is fenced then
  packet_stage : (sent : List Packet) (after : Stage) → AllByRecursion (HasIts qs) (places_at node.stage) → StageWent service node (Packet_comes segment) sent after
      → AllByRecursion (HasIts qs) (places_at after)
  unfolding is_packet
  packet_stage sent after a (was_fenced newer f s) = subst (λ stage. AllByRecursion (HasIts qs) (places_at stage)) (sym f) tt
  packet_stage sent after a (waited r f s) = no_places (HasIts qs) after (ap is_restarting f ∙ r)
  packet_stage sent after a (held_off count fetched x b f s) = no_places (HasIts qs) after (ap is_restarting f)
  packet_stage sent after a (asked_on count fetched p f s) = no_places (HasIts qs) after (ap is_restarting f)
  packet_stage sent after a (resumed count fetched places p none f t) = absurd (true≢false (ap is_packet p.comes))
  packet_stage sent after a (served opened places later b f t) =
      let here : AllByRecursion (HasIts qs) t.went =
      (all_proceed (PlaceTurn service node (Packet_comes segment)) (HasIts qs) (HasIts qs) Nothing
      (λ place now some x turn. (packet_keeps place now some x (place_went service node (Packet_comes segment) place now some turn), nothing_of some)) places t.went t.by_places
      (subst (λ stage. AllByRecursion (HasIts qs) (places_at stage)) b a) t.all_go).0 in
      subst (λ stage. AllByRecursion (HasIts qs) (places_at stage)) (sym f)
      (subst (AllByRecursion (HasIts qs)) (sym t.places)
      (all_append (HasIts qs) t.went (newcomers node (Packet_comes segment) opened places) here (new_source (HasIts qs) (λ n s. tt) node (Packet_comes segment) opened places)))

-- A trace

abbrev AllHave : World → List Quarantined → Type 0
AllHave w qs = (node : Node) → w.node ≡ Some node → AllByRecursion (HasIts qs) (places_at node.stage)

module _ {State : Type 0} (service : Machine State) (before : QuarantineWorld) (o : Stands service before.now) (h : AllHave before.now before.quarantine) where
  -- the server is the same, and nothing comes to it
  still_has : (there : World) (qs : List Quarantined) (up : Option Node) → before.now.node ≡ up → there.node ≡ before.now.node → qs ≡ quarantine_then before.now.node None there.node before.quarantine → AllHave there qs
  still_has there qs None up same is node e = none_is_some node (sym up ∙ (sym same ∙ e))
  still_has there qs (Some old) up same is node e =
      let kept : qs ≡ before.quarantine =
      is ∙ (ap (λ n. quarantine_then n None there.node before.quarantine) up ∙ ap (λ n. quarantine_then (Some old) None n before.quarantine) (same ∙ up)) in
      subst (λ l. AllByRecursion (HasIts l) (places_at node.stage)) (sym kept) (h node (sym same ∙ e))

  event_has : (event : Event) (sent : List Packet) (there : World) (qs : List Quarantined) → qs ≡ quarantine_then before.now.node (event_input before.now event) there.node before.quarantine
      → Went service before.now event sent there → AllHave there qs
  event_has event sent there qs is (took_turn input node later i brought up turn then_) x e =
      let now : there.node ≡ Some later = ap (λ w. w.node) then_ in
      let kept : qs ≡ quarantine_after node input later.stage before.quarantine =
      is ∙ (ap (λ n. quarantine_then n (event_input before.now event) there.node before.quarantine) up
      ∙ (ap (λ y. quarantine_then (Some node) y there.node before.quarantine) i ∙ ap (λ n. quarantine_then (Some node) (Some input) n before.quarantine) now)) in
      subst (λ n. AllByRecursion (HasIts qs) (places_at n.stage)) (some_is later x (sym now ∙ e))
      (subst (λ l. AllByRecursion (HasIts l) (places_at later.stage)) (sym kept)
      (turn_has service node input before.quarantine later sent (o.distinct node up) (h node up) turn))
  event_has event sent there qs is (was_elsewhere i elsewhere) x e =
      still_has there qs before.now.node refl elsewhere.node (is ∙ ap (λ y. quarantine_then before.now.node y there.node before.quarantine) i) x e
  event_has event sent there qs is (has_booted boot isn i down larger s then_) x e =
      subst (λ n. AllByRecursion (HasIts qs) (places_at n.stage)) (some_is (booted before.now.server before.now.profile boot isn) x (sym (ap (λ w. w.node) then_) ∙ e)) tt
  event_has event sent there qs is (is_down why s then_) x e = none_is_some x (sym (ap (λ w. w.node) then_) ∙ e)

  usual_has : (wait : ℕ) (step : LongStep) (sent : List Packet) (after : QuarantineWorld) → is_by_message step ≡ false → Usually service wait before step sent after → AllHave after.now after.quarantine
  usual_has wait (Joint_event event) sent after b u = event_has event sent after.now after.quarantine u.quarantine (went service before.now event sent after.now u.passes.0)
  usual_has wait (Recycles key) sent after b u = absurd (true≢false b)
  usual_has wait (Forgets key) sent after b u = absurd (true≢false b)
  usual_has wait (Arrives c) sent after b u = still_has after.now after.quarantine before.now.node refl (ap (λ w. w.node) u.passes.2) u.quarantine
  usual_has wait (Keeps_alive key) sent after b u = still_has after.now after.quarantine before.now.node refl (ap (λ w. w.node) u.passes.0.after_is) u.quarantine
  usual_has wait (Lets_go key) sent after b u = λ x e.
      let l = u.passes.0 in
      let now : after.now.node ≡ Some l.later = ap (λ w. w.node) l.after_is in
      let kept : after.quarantine ≡ before.quarantine =
      u.quarantine ∙ (ap (λ n. quarantine_then n None after.now.node before.quarantine) l.up ∙ ap (λ n. quarantine_then (Some l.node) None n before.quarantine) now) in
      subst (λ n. AllByRecursion (HasIts after.quarantine) (places_at n.stage)) (some_is l.later x (sym now ∙ e))
      (subst (λ q. AllByRecursion (HasIts q) (places_at l.later.stage)) (sym kept)
      (packet_stage service l.node _ before.quarantine sent l.later.stage (h l.node l.up) (stage_went service l.node l.later _ sent l.turn)))

  silent_has : (step : LongStep) (sent : List Packet) (after : QuarantineWorld) → is_full_input (step_input before.now step) ≡ true → DropsSilently service before step sent after
      → AllHave after.now after.quarantine
  silent_has (Joint_event event) sent after f d = λ x e.
      event_has event d.all d.there after.quarantine d.quarantine (went service before.now event d.all d.there d.passes.0) x (sym (ap (λ w. w.node) d.now_is) ∙ e)
  silent_has (Recycles key) sent after f d = absurd (true≢false (sym f))
  silent_has (Forgets key) sent after f d = absurd (true≢false (sym f))
  silent_has (Arrives c) sent after f d = absurd (true≢false (sym f))
  silent_has (Lets_go key) sent after f d = absurd (true≢false (sym f))
  silent_has (Keeps_alive key) sent after f d = absurd (true≢false (sym f))

  event_step : (wait : ℕ) (step : LongStep) (sent : List Packet) (after : QuarantineWorld) (dropped full : Bool) → is_by_message step ≡ false
      → is_full_input (step_input before.now step) ≡ full
      → MatchBool dropped ((sent ≡ []) × (after ≡ before)) (MatchBool full (DropsSilently service before step sent after) (Usually service wait before step sent after)) → AllHave after.now after.quarantine
  event_step wait step sent after true full b f d = subst (λ w. AllHave w.now w.quarantine) (sym d.1) h
  event_step wait step sent after false true b f d = silent_has step sent after f d
  event_step wait step sent after false false b f u = usual_has wait step sent after b u

-- the messages
out_has : (r : Option Key) (w : QuarantineWorld) → AllHave w.now w.quarantine → AllHave (recycled_world r w).now (recycled_world r w).quarantine
out_has (Some key) w h = h
out_has None w h = h

answered_has : (a : Option ForgetAnswer) (w : QuarantineWorld) → AllHave w.now w.quarantine → AllHave (with_answer a w).now (with_answer a w).quarantine
answered_has (Some (About_forgetting m)) w h = h
answered_has (Some (Of_log m)) w h = h
answered_has None w h = h

others_have : (key k : Key) (qs : List Quarantined) → key_eq k key ≡ false → Has qs k → Has (others (λ q. key_eq q.named.key key) qs) k
others_have key k [] apart h = h
others_have key k (q ∷ qs) apart h =
    holds_if (λ l. Has l k) (key_eq q.named.key key) (others (λ x. key_eq x.named.key key) qs) (q ∷ others (λ x. key_eq x.named.key key) qs)
    (λ t. ⊎_elim (λ s. absurd (true≢false (sym t ∙ subst (λ z. key_eq z key ≡ false) (sym (same_key q.named.key k s)) apart))) (λ r. others_have key k qs apart r)
    (or_cases (key_eq q.named.key k) (has_key k (map its_key qs)) h))
    (λ t. ⊎_elim (λ s. or_left (key_eq q.named.key k) (has_key k (map its_key (others (λ x. key_eq x.named.key key) qs))) s)
    (λ r. or_right (key_eq q.named.key k) (has_key k (map its_key (others (λ x. key_eq x.named.key key) qs))) (others_have key k qs apart r))
    (or_cases (key_eq q.named.key k) (has_key k (map its_key qs)) h))

left_has : (key : Key) (qs : List Quarantined) (place : Place) → key_eq (key_of place) key ≡ false → HasIts qs place → HasIts (others (λ q. key_eq q.named.key key) qs) place
left_has key qs (Ended k) apart h = others_have key k qs apart h
left_has key qs (Lives p) apart h = tt
left_has key qs (Opens n timestamping) apart h = tt

stage_left : (key : Key) (qs : List Quarantined) (stage : Stage) → AllByRecursion (HasIts qs) (places_at stage)
    → AllByRecursion (HasIts (others (λ q. key_eq q.named.key key) qs)) (places_at (stage_without key stage))
stage_left key qs (Serving opened places) a =
    all_others (HasIts qs) (HasIts (others (λ q. key_eq q.named.key key) qs)) (λ p. key_eq (key_of p) key) places (λ p apart x. left_has key qs p apart x) a
stage_left key qs Asking a = tt
stage_left key qs (Fetching count fetched) a = tt
stage_left key qs (Fenced newer) a = tt

away_has : (r : Option Key) (w : QuarantineWorld) → AllHave w.now w.quarantine → AllHave (without_place r w).now (without_place r w).quarantine
away_has None w h = h
away_has (Some key) w h = λ node e.
    let b : Was key w.now.node node = was key w.now.node node e in
    subst (λ n. AllByRecursion (HasIts (others (λ q. key_eq q.named.key key) w.quarantine)) (places_at n.stage)) (sym b.is) (stage_left key w.quarantine b.node.stage (h b.node b.up))

-- a quarantine that ends early is still there
early_keys : (wait : ℕ) (key : Key) (qs : List Quarantined) → map its_key (ended_early wait key qs) ≡ map its_key qs
early_keys wait key [] = refl
early_keys wait key (q ∷ qs) =
    holds_if (λ x. map its_key (x ∷ ended_early wait key qs) ≡ map its_key (q ∷ qs)) (key_eq q.named.key key) (record q { age = max wait q.age }) q
    (λ t. ap (λ ks. q.named.key ∷ ks) (early_keys wait key qs)) (λ t. ap (λ ks. q.named.key ∷ ks) (early_keys wait key qs))

early_its : (wait : ℕ) (key : Key) (qs : List Quarantined) (place : Place) → HasIts qs place → HasIts (ended_early wait key qs) place
early_its wait key qs (Ended k) h = subst (λ ks. has_key k ks ≡ true) (sym (early_keys wait key qs)) h
early_its wait key qs (Lives p) h = tt
early_its wait key qs (Opens n timestamping) h = tt

module _ {State : Type 0} (service : Machine State) (small : HasSmallOutputs service) (wait : ℕ) where
  step_has : (before after : QuarantineWorld) (step : QuarantineStep) (sent : List Packet) → Stands service before.now → AllHave before.now before.quarantine
      → MayQuarantine service wait before step sent after → AllHave after.now after.quarantine
  step_has before after (Usual step) sent o h (b, d) =
      event_step service before o h wait step sent after (drops wait before.now.node (step_input before.now step) before.quarantine)
      (is_full_input (step_input before.now step)) b refl d
  step_has before after (To_log number) sent o h (message, there, s, is) =
      subst (λ w. AllHave w.now w.quarantine) (sym is)
      (answered_has (answer_to_forget before.now.log message) (recycled_world (recycled_by message before.now.log) before) (out_has (recycled_by message before.now.log) before h))
  step_has before after (To_node number) sent o h (message, there, s, is) =
      subst (λ w. AllHave w.now w.quarantine) (sym is) (away_has (taken_away before.now.node message before.quarantine) before h)
  step_has before after (Is_lost number) sent o h (s, is) = subst (λ w. AllHave w.now w.quarantine) (sym is) h
  step_has before after (Ends_early key) sent o h (s, e) =
      subst (λ w. AllHave w.now w.quarantine) (sym e.after_is)
      (λ node up. all_weaker (HasIts before.quarantine) (HasIts (ended_early wait key before.quarantine)) (places_at node.stage) (early_its wait key before.quarantine) (h node up))

  all_have : (start : World) (trace : List QuarantineMoment) → QuarantineJoint service wait start trace → AllHave (after_moments start trace).now (after_moments start trace).quarantine
  all_have start [] j = λ node e. none_is_some node (sym j.node ∙ e)
  all_have start (moment ∷ earlier) j =
      step_has (after_moments start earlier) moment.world moment.step moment.sent (follows service small wait start earlier j.0).stands (all_have start earlier j.0) j.1

  is_held : (qs : List Quarantined) (place : Place) → HasIts qs place → IsHeld qs place
  is_held qs (Ended key) h = finds its_key key qs h
  is_held qs (Lives p) h = tt
  is_held qs (Opens n timestamping) h = tt

  pub all_held : (start : World) (trace : List QuarantineMoment) → QuarantineJoint service wait start trace → AllAreHeld (after_moments start trace)
  all_held start trace j = λ node e.
      all_weaker (HasIts (after_moments start trace).quarantine) (IsHeld (after_moments start trace).quarantine) (places_at node.stage) (is_held (after_moments start trace).quarantine) (all_have start trace j node e)
