-- What a server has of a connection when its place becomes done: the log has an entry with its numbers.
use Rattle.std.proofs.Common.{◌≡◌, inr, ⊎_elim, ℕ, Bool, true, false, ◌==◌, ◌||◌, refl, sym, ap, ◌∙◌, subst, true≢false, eqb-true, find, is_some, option_map, Option, Some, None, List, [], ◌∷◌, map, length, slice_get}
use Rattle.std.proofs.lemmas.List.Folds.{list_any-append}
use Rattle.std.proofs.lemmas.Bool.{or_from}
use Rattle.std.specs.List.{AllByRecursion}
use Rattle.ft_io.specs.declared.Key.{Key}
use Rattle.ft_io.specs.Key.{key_eq}
use Rattle.seq_arith.specs.Message.{Message}
use Rattle.server_trait.specs.Service.{Machine}
use Rattle.ft_model.specs.Keys.{has_key, AreDistinct}
use Rattle.ft_model.specs.Lawful.{fetched_then}
use Rattle.ft_model.specs.Log.{Log, Entry, entry_of, log_after, head_of}
use Rattle.ft_model.specs.Node.{Node, Place, Stage, Input, key_of, place_at}
use Rattle.ft_model.specs.Node.Input.{Packet_comes, Message_comes, Noise_comes, Tick_comes}
use Rattle.ft_model.specs.Node.Place.{Opens, Lives, Ended}
use Rattle.ft_model.specs.Node.Stage.{Asking, Fetching, Serving, Fenced}
use Rattle.ft_model.specs.Point.{Point}
use Rattle.ft_model.specs.Restart.{Fetched, wanted, fetched_after}
use Rattle.ft_model.specs.World.{World}
use Rattle.ft_model.proofs.Asked.{entry_keys, progress_agrees}
use Rattle.ft_model.proofs.Faithful.{PlaceFits, StageFits}
use Rattle.ft_model.specs.FetchedFronts.{AreFetched}
use Rattle.ft_model.proofs.Happened.{IsBrought}
use Rattle.ft_model.proofs.Keys.{found_has_key, absent_key, finds_itself}
use Rattle.ft_model.proofs.Lists.{all_weaker, all_find, found_passes, same_key, key_is, or_left, none_is_some, some_is}
use Rattle.ft_model.proofs.LogAnswers.{log_went}
use Rattle.ft_model.proofs.Refused.{KeysGo, keys_go}
use Rattle.ft_model.proofs.Scripts.{EntryFits}
use Rattle.ft_model.proofs.StageTurns.{Progress}
use Rattle.ft_io.proofs.Choices.{holds_if, some_if}
use Rattle.long_laws.specs.Forgetting.{Named}
use Rattle.long_laws.specs.LongTrace.{is_about, IsEnded}
use Rattle.long_laws.specs.Quarantine.{named_point, named_head, named_place, or_nothing, fetched_now, named_in}
use Rattle.long_laws.proofs.Stands.{Stands}
use Rattle.long_laws.proofs.QuarantineTurns.{IsDoneThere}

-- the log has the entry of these numbers
abbrev pub HasIt : Named → Log → Type 0
HasIt n log = (e : Entry) × (entry_of n.key log ≡ Some e) × (e.cisn ≡ n.cisn) × (e.sisn ≡ n.sisn)

-- where no key is, nothing is found, and nothing comes but by an Open
pub not_found : {A : Type 0} (of : A → Key) (key : Key) (xs : List A) → has_key key (map of xs) ≡ false → find (λ y. key_eq (of y) key) xs ≡ None
not_found {A = A} of key xs h = on (find (λ y. key_eq (of y) key) xs) refl
  where
    on : (o : Option A) → find (λ y. key_eq (of y) key) xs ≡ o → find (λ y. key_eq (of y) key) xs ≡ None
    on None e = e
    on (Some x) e = absurd (true≢false (sym (found_has_key of key xs x e) ∙ h))

pub stays_absent : (log : Log) (message : Message) (key : Key) → is_about key message.body ≡ false → entry_of key log ≡ None → entry_of key (log_after log message) ≡ None
stays_absent log message key other none =
    let was : has_key key (entry_keys log) ≡ false = absent_key (λ e. e.key) key log.entries (ap is_some none) in
    let go : KeysGo log message (log_after log message) = keys_go log message (log_after log message) (log_went log message) in
    not_found (λ e. e.key) key (log_after log message).entries
    (⊎_elim (λ same. ap (has_key key) same ∙ was)
    (λ r. let apart : key_eq r.0.key key ≡ false = subst (λ body. is_about key body ≡ false) r.2 other in
    ap (has_key key) r.4 ∙ (list_any-append (λ k. key_eq k key) (entry_keys log) (r.0.key ∷ [])
    ∙ or_from (has_key key (entry_keys log)) (has_key key (r.0.key ∷ [])) was (or_from (key_eq r.0.key key) false apart refl))) go)

-- a place that is done is the only one of its key
abbrev pub DoneAmong : List Place → Place → Type 0
DoneAmong places (Ended key) = IsDoneThere key places
DoneAmong places (Lives p) = Unit {0}
DoneAmong places (Opens n timestamping) = Unit {0}

clear_elsewhere : (key : Key) (places : List Place) → has_key key (map key_of places) ≡ false → AllByRecursion (λ place. key_eq (key_of place) key ≡ true → IsEnded place) places
clear_elsewhere key [] h = tt
clear_elsewhere key (p ∷ places) h = on (key_eq (key_of p) key) refl h (clear_elsewhere key places)
  where
    on : (b : Bool) → key_eq (key_of p) key ≡ b → (b || has_key key (map key_of places)) ≡ false
        → (has_key key (map key_of places) ≡ false → AllByRecursion (λ place. key_eq (key_of place) key ≡ true → IsEnded place) places)
        → AllByRecursion (λ place. key_eq (key_of place) key ≡ true → IsEnded place) (p ∷ places)
    on true e h rest = absurd (true≢false h)
    on false e h rest = (λ t. absurd (true≢false (sym t ∙ e)), rest h)

among_more : (p : Place) (places : List Place) → has_key (key_of p) (map key_of places) ≡ false → (x : Place) → DoneAmong places x → DoneAmong (p ∷ places) x
among_more p places none (Ended key) d = (
  (λ t. absurd (true≢false (sym d.1 ∙ subst (λ k. has_key k (map key_of places) ≡ false) (same_key (key_of p) key t) none)), d.0),
  on (key_eq (key_of p) key) d.1,
)
  where
    on : (b : Bool) → has_key key (map key_of places) ≡ true → (b || has_key key (map key_of places)) ≡ true
    on true e = refl
    on false e = e
among_more p places none (Lives q) d = tt
among_more p places none (Opens n timestamping) d = tt

first_among : (p : Place) (places : List Place) → has_key (key_of p) (map key_of places) ≡ false → DoneAmong (p ∷ places) p
first_among (Ended key) places none = ((λ t. tt, clear_elsewhere key places none), or_left (key_eq key key) (has_key key (map key_of places)) (key_is key))
first_among (Lives p) places none = tt
first_among (Opens n timestamping) places none = tt

pub done_among : (places : List Place) → AreDistinct (map key_of places) → AllByRecursion (DoneAmong places) places
done_among [] d = tt
done_among (p ∷ places) d =
    (first_among p places d.0, all_weaker (DoneAmong places) (DoneAmong (p ∷ places)) places (among_more p places d.0) (done_among places d.1))

-- The numbers of a live connection are those of its entry
module _ {State : Type 0} (service : Machine State) (w : World) (o : Stands service w) where
  entry_cisn : (e : Entry) (key : Key) → entry_of key w.log ≡ Some e → e.cisn ≡ o.isn key
  entry_cisn e key found =
      let fits : EntryFits (o.script e.key) (o.isn e.key) e = all_find (λ x. EntryFits (o.script x.key) (o.isn x.key) x) (λ x. key_eq x.key key) w.log.entries e o.faithful.entries found in
      fits.cisn ∙ ap o.isn (same_key e.key key (found_passes (λ x. key_eq x.key key) w.log.entries e found))

  live_has : (p : Point) → PlaceFits o.script o.isn w.log (Lives p) → HasIt (named_point p) w.log
  live_has p f = (f.1.entry, f.1.found, entry_cisn f.1.entry p.key f.1.found ∙ sym f.0.cisn, f.1.sisn)

  place_has : (place : Option Place) (n : Named) → ((p : Point) → place ≡ Some (Lives p) → HasIt (named_point p) w.log) → named_place place ≡ Some n → HasIt n w.log
  place_has (Some (Lives p)) n f e = subst (λ m. HasIt m w.log) (some_is (named_point p) n e) (f p refl)
  place_has (Some (Opens numbers timestamping)) n f e = none_is_some n e
  place_has (Some (Ended key)) n f e = none_is_some n e
  place_has None n f e = none_is_some n e

  -- .. and those of a fetched entry too
  fetched_has : (key : Key) (fetched : List Fetched) (n : Named) → AreFetched w.log.entries fetched
      → option_map (λ f. named_head f.head) (find (λ f. key_eq f.head.key key) fetched) ≡ Some n → HasIt n w.log
  fetched_has key [] n a e = none_is_some n e
  fetched_has key (f ∷ earlier) n a e =
      holds_if (λ x. option_map (λ g. named_head g.head) x ≡ Some n → HasIt n w.log) (key_eq f.head.key key) (Some f) (find (λ g. key_eq g.head.key key) earlier)
      (λ t h. subst (λ m. HasIt m w.log) (some_is (named_head f.head) n h) (one f a.0 a.1 a.2.head)) (λ t h. fetched_has key earlier n a.4 h) e
    where
      one : (f : Fetched) (e : Entry) → slice_get w.log.entries (length earlier) ≡ Some e → f.head ≡ head_of e → HasIt (named_head f.head) w.log
      one f e at head = (
        e,
        subst (λ k. entry_of k w.log ≡ Some e) (sym (ap (λ h. h.key) head)) (finds_itself (λ x. x.key) w.log.entries (length earlier) e o.asked.distinct at),
        sym (ap (λ h. h.cisn) head),
        sym (ap (λ h. h.sisn) head),
      )

  now_fetched : (node : Node) (input : Input) (count : ℕ) (fetched : List Fetched) → w.node ≡ Some node → IsBrought w input → node.stage ≡ Fetching count fetched
      → AreFetched w.log.entries (fetched_now node input count fetched)
  now_fetched node (Message_comes message) count fetched up brought at = on (fetched_then node message count fetched) refl
    where
      on : (more : Option (List Fetched)) → fetched_then node message count fetched ≡ more → AreFetched w.log.entries (or_nothing more)
      on None e = tt
      on (Some more) e =
          let parts = some_if (message.boot == node.boot) (fetched_after (wanted count fetched) message.body fetched) more e in
          let p : Progress node (Message_comes message) count more =
          record { message = message; comes = refl; boot = eqb-true _ _ parts.0; how = inr (fetched, at, parts.1) } in
          (progress_agrees w node (Message_comes message) count more o.asked up brought p).1
  now_fetched node (Packet_comes segment) count fetched up brought at = tt
  now_fetched node Noise_comes count fetched up brought at = tt
  now_fetched node Tick_comes count fetched up brought at = tt

  pub begun_has : (node : Node) (input : Input) (stage : Stage) (key : Key) (n : Named) → w.node ≡ Some node → IsBrought w input → node.stage ≡ stage
      → named_in node input stage key ≡ Some n → HasIt n w.log
  begun_has node input (Serving opened places) key n up brought at e =
      place_has (place_at key places) n
      (λ p found. live_has p (all_find (PlaceFits o.script o.isn w.log) (λ x. key_eq (key_of x) key) places (Lives p) (subst (StageFits o.script o.isn w.log) at (o.faithful.stage node up)) found)) e
  begun_has node input (Fetching count fetched) key n up brought at e = fetched_has key (fetched_now node input count fetched) n (now_fetched node input count fetched up brought at) e
  begun_has node input Asking key n up brought at e = none_is_some n e
  begun_has node input (Fenced newer) key n up brought at e = none_is_some n e
