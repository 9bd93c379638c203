-- What is noted of a message.
use Rattle.std.proofs.Common.{◌≡◌, ◌∙◌, ℕ, List, [], Bool, true, false, not, refl, sym, ap, subst, true≢false, Option, Some, None, is_some, option_map, MatchOption, if◌then◌else◌}
use Rattle.std.specs.Prelude.{find}
use Rattle.std.specs.Borrow.{Bor}
use Rattle.std.specs.Map.{lookup}
use Rattle.std.specs.Option.{option_copied}
use Rattle.ft_io.specs.declared.Key.{Key}
use Rattle.ft_io.specs.Key.{key_eq}
use Rattle.ft_io.proofs.Choices.{by_cases, if_true, if_false}
use Rattle.seq_arith.specs.Message.{EntryHead}
use Rattle.logger_wire.specs.Value.{body_of}
use Rattle.logger_wire.specs.declared.Body.{Body as CodeBody}
use Rattle.logger_wire.specs.declared.Body.TheVariants as body
use Rattle.logger_wire.specs.declared.records.EntryHead.{EntryHead as CodeHead}
use Rattle.logger_wire.specs.declared.records.Numbers.{Numbers as CodeNumbers}
use Rattle.server_trait.specs.Service.{Machine}
use Rattle.server_trait.specs.declared.Service.{Ghosts}
use Rattle.ft_model.specs.Node.{Node, Place, Stage, key_of, place_at}
use Rattle.ft_model.specs.Node.Place.{Opens, Lives, Ended}
use Rattle.ft_model.specs.Node.Stage.{Asking, Fetching, Serving, Fenced}
use Rattle.ft_model.specs.Point.{Point}
use Rattle.ft_model.specs.Restart.{Fetched}
use Rattle.ft_model.proofs.Lists.{found_passes, same_key, none_is_some, some_is}
use Rattle.long_laws.specs.LongTrace.{places_at}
use Rattle.long_laws.specs.LongResets.{says_full}
use Rattle.lasting_laws.specs.Watching.{is_live, is_empty}
use Rattle.lasting_lives.specs.declared.life.Life.{Life}
use Rattle.lasting_lives.specs.declared.life.Resting.{Resting}
use Rattle.lasting_lives.specs.declared.watch.Origin.{Origin}
use Rattle.lasting_lives.specs.declared.watch.Origin.TheVariants as origin
use Rattle.lasting_lives.specs.Known.{begun_life, restored_life}
use Rattle.lasting_lives.specs.Lives.{resting_in, watch_in}
use Rattle.lasting_lives.specs.Noted.{ChangesAt, opened_in, watched_from, if_done, if_ended, done_head, RestsFrom, NotesFetched, NotesEntry, RestsAtHead}
use Rattle.node_serving.specs.Alone.{StandsFor}
use Rattle.node_serving.specs.Conn.{IsOursAt}
use Rattle.node_serving.specs.Identity.{node_of, service_of}
use Rattle.node_serving.specs.Loan.{IsConnAt, place_in}
use Rattle.node_serving.specs.declared.identity.Identity.{Identity}
use Rattle.node_serving.specs.declared.slot.Slot.{Slot}
use Rattle.node_serving.specs.declared.slot.Slot.TheVariants as slot
use Rattle.wrapped_conn.specs.ConnState.{ConnState}
use Rattle.server_node.specs.Places.{slots_at, is_done, HasFetched}
use Rattle.server_node.specs.Stages.{StageStands, IsSoundStage}
use Rattle.server_node.specs.declared.stage.Stage.{Stage as CodeStage}
use Rattle.server_node.specs.declared.stage.Stage.TheVariants as stage
use Rattle.server_node.proofs.Runs.{stands_in}
use Rattle.lasting_node.specs.declared.node.LastingNode.{LastingNode}
use Rattle.lasting_node.specs.Notes.{IsAtStage}
use Rattle.lasting_node.specs.Tending.{NotesOnly}

-- bodies of other kinds
pub never_full : (b : CodeBody) → ((key : Key) → b ≡ body.Full key → ⊥) → says_full (body_of b) ≡ false
never_full (body.Full key) not_it = absurd (not_it key refl)
never_full b not_it = refl

pub none_opened : (b : CodeBody) → ((numbers : CodeNumbers) → b ≡ body.Opened numbers → ⊥) → opened_in (body_of b) ≡ None
none_opened (body.Opened numbers) not_it = absurd (not_it numbers refl)
none_opened b not_it = refl

pub no_entry : (b : CodeBody) → ((index : ℕ) (head : CodeHead) → b ≡ body.Entry index head → ⊥) → (at : Stage) (old : Key → Option Life) → NotesEntry (body_of b) at old old
no_entry (body.Entry index head) not_it at old = absurd (not_it index head refl)
no_entry b not_it at old = λ k. refl

-- a key's place, at any stage
pub placed : (key : Key) (at : Stage) → place_in key at ≡ place_at key (places_at at)
placed key (Serving opened places) = refl
placed key (Fetching count fetched) = refl
placed key Asking = refl
placed key (Fenced newer) = refl

-- a connection that is lent, or none
pub none_lent : {A : Type 0} (o : Option (Bor A)) → is_some o ≡ false → option_copied o ≡ None
none_lent None e = refl
none_lent (Some x) e = absurd (true≢false e)

pub one_lent : {A : Type 0} (o : Option (Bor A)) → is_some o ≡ true → (x : A) × (option_copied o ≡ Some x)
one_lent None e = absurd (true≢false (sym e))
one_lent (Some x) e = (x.now, refl)

pub not_live : {S : Type 0} (service : Machine S) (node : Node) (o : Option Place) → IsConnAt service node None o → is_live o ≡ false
not_live service node (Some (Lives p)) c = absurd c
not_live service node (Some (Opens m t)) c = refl
not_live service node (Some (Ended k)) c = refl
not_live service node None c = refl

pub lives_there : {S : Type 0} (service : Machine S) (node : Node) (o : Option Place) (x : ConnState S) → IsConnAt service node (Some x) o → is_live o ≡ true
lives_there service node (Some (Lives p)) x c = refl
lives_there service node (Some (Opens m t)) x c = absurd c
lives_there service node (Some (Ended k)) x c = absurd c
lives_there service node None x c = absurd c

-- What is known of one key changes, or stays
pub stays_at : (key : Key) (change : Option Life → Option Life) (old : Key → Option Life) → change (old key) ≡ old key → ChangesAt key change old old
stays_at key change old same k =
    by_cases (key_eq key k)
    (λ t. sym (if_true (key_eq key k) (change (old k)) (old k) t ∙ subst (λ y. change (old y) ≡ old y) (same_key key k t) same))
    (λ e. sym (if_false (key_eq key k) (change (old k)) (old k) e))

pub becomes_at : (key : Key) (change : Option Life → Option Life) (life : Life) (old new : Key → Option Life) → change (old key) ≡ Some life
    → ((k : Key) → new k ≡ (if key_eq key k then Some life else old k)) → ChangesAt key change old new
becomes_at key change life old new its set k =
    set k
    ∙ by_cases (key_eq key k)
    (λ t. if_true (key_eq key k) (Some life) (old k) t
    ∙ (sym (subst (λ y. change (old y) ≡ Some life) (same_key key k t) its) ∙ sym (if_true (key_eq key k) (change (old k)) (old k) t)))
    (λ e. if_false (key_eq key k) (Some life) (old k) e ∙ sym (if_false (key_eq key k) (change (old k)) (old k) e))

pub watched_already : (o : Origin) (live : Bool) (l : Option Life) → is_some (watch_in l) ≡ true → watched_from o live l ≡ l
watched_already o true l e = ap (λ b. if not b then Some (begun_life o) else l) e
watched_already o false l e = refl

pub unwatched_dead : (o : Origin) (live : Bool) (l : Option Life) → live ≡ false → watched_from o live l ≡ l
unwatched_dead o live l e = ap (λ b. watched_from o b l) e

pub watched_first : (o : Origin) (live : Bool) (l : Option Life) → live ≡ true → is_some (watch_in l) ≡ false → watched_from o live l ≡ Some (begun_life o)
watched_first o live l e f = ap (λ b. watched_from o b l) e ∙ ap (λ b. if not b then Some (begun_life o) else l) f

-- where a restart ends
pub dead_restored : {S : Type 0} (service : Machine S) (node : Node) (o : Option Place) (l : Option Life) → IsConnAt service node None o → restored_life o l ≡ l
dead_restored service node (Some (Lives p)) l c = absurd c
dead_restored service node (Some (Opens m t)) l c = refl
dead_restored service node (Some (Ended k)) l c = refl
dead_restored service node None l c = refl

pub live_restored : {S : Type 0} (service : Machine S) (node : Node) (key : Key) (at : Stage) (x : ConnState S) (o : Origin) (l : Option Life) → IsConnAt service node (Some x) (place_in key at)
    → ((p : Point) → p.key ≡ key → IsOursAt service node.server node.boot x p → o ≡ (if is_empty p then origin.RestoredEmpty else origin.Restored)) → restored_life (place_in key at) l ≡ Some (begun_life o)
live_restored service node key Asking x o l c shown = absurd c
live_restored service node key (Fetching count fetched) x o l c shown = absurd c
live_restored service node key (Fenced newer) x o l c shown = absurd c
live_restored service node key (Serving opened places) x o l c shown = by (place_at key places) refl c
  where
    by : (q : Option Place) → place_at key places ≡ q → IsConnAt service node (Some x) q → restored_life q l ≡ Some (begun_life o)
    by (Some (Lives p)) e y = ap (λ z. Some (begun_life z)) (sym (shown p (same_key p.key key (found_passes (λ z. key_eq (key_of z) key) places (Lives p) e)) y))
    by (Some (Opens m t)) e y = absurd y
    by (Some (Ended k)) e y = absurd y
    by None e y = absurd y

-- An entry that has come. Its key is in quarantine already
pub kept_resting : (P Q : Type 0) (o : Option Resting) → is_some o ≡ true → Q → MatchOption o P (λ r. Q)
kept_resting P Q None e q = absurd (true≢false (sym e))
kept_resting P Q (Some r) e q = q

either_resting : (P Q : Type 0) (o : Option Resting) → is_some o ≡ false → P → MatchOption o P (λ r. Q)
either_resting P Q None e p = p
either_resting P Q (Some r) e p = absurd (true≢false e)

-- .. or its quarantine begins by this head
pub rests_by : (head kept : EntryHead) (at : Stage) (old new : Key → Option Life) → is_some (resting_in (old head.key)) ≡ false → kept.key ≡ head.key → done_head head at ≡ Some kept
    → RestsAtHead kept old new → NotesFetched head at old new
rests_by head kept at old new none key done rests = record {
  others = λ k e. rests.others k (subst (λ y. key_eq y k ≡ false) (sym key) e);
  its = either_resting _ _ (resting_in (old head.key)) none
      (subst (λ o. RestsFrom o (old head.key) (new head.key)) (sym done) (subst (λ y. RestsFrom (Some kept) (old y) (new y)) key rests.its));
}

-- .. or it isn't done
pub unrested : (head : EntryHead) (at : Stage) (old : Key → Option Life) → is_some (resting_in (old head.key)) ≡ false → done_head head at ≡ None → NotesFetched head at old old
unrested head at old none done = record {
  others = λ k e. refl;
  its = either_resting _ _ (resting_in (old head.key)) none (subst (λ o. RestsFrom o (old head.key) (old head.key)) (sym done) refl);
}

pub rested_before : (head : EntryHead) (at : Stage) (old : Key → Option Life) → is_some (resting_in (old head.key)) ≡ true → NotesFetched head at old old
rested_before head at old some = record { others = λ k e. refl; its = kept_resting _ _ (resting_in (old head.key)) some refl }

-- The place of a key, by its slot
module _ {S : Type 0} (service : Machine S) (node : Node) (head : EntryHead) where
  ended_slot : (x : Option (Slot S)) (o : Option Place) → StandsFor service node head.key x o → is_done x ≡ true → if_ended head o ≡ Some head
  ended_slot (Some slot.Done) (Some (Ended k)) st e = refl
  ended_slot (Some slot.Done) (Some (Lives p)) st e = absurd st
  ended_slot (Some slot.Done) (Some (Opens m t)) st e = absurd st
  ended_slot (Some slot.Done) None st e = absurd st
  ended_slot (Some (slot.Live x)) o st e = absurd (true≢false (sym e))
  ended_slot (Some (slot.Pending x)) o st e = absurd (true≢false (sym e))
  ended_slot None o st e = absurd (true≢false (sym e))

  other_slot : (x : Option (Slot S)) (o : Option Place) → StandsFor service node head.key x o → is_done x ≡ false → if_ended head o ≡ None
  other_slot (Some slot.Done) o st e = absurd (true≢false e)
  other_slot (Some (slot.Live x)) (Some (Lives p)) st e = refl
  other_slot (Some (slot.Live x)) (Some (Opens m t)) st e = absurd st
  other_slot (Some (slot.Live x)) (Some (Ended k)) st e = absurd st
  other_slot (Some (slot.Live x)) None st e = absurd st
  other_slot (Some (slot.Pending x)) (Some (Opens m t)) st e = refl
  other_slot (Some (slot.Pending x)) (Some (Lives p)) st e = absurd st
  other_slot (Some (slot.Pending x)) (Some (Ended k)) st e = absurd st
  other_slot (Some (slot.Pending x)) None st e = absurd st
  other_slot None None st e = refl
  other_slot None (Some p) st e = absurd st

-- done, where its slot is
pub done_there : {S : Type 0} (service : Machine S) (node : Node) (head : EntryHead) (now : CodeStage S) → StageStands service node now → is_done (lookup (key_eq head.key) (slots_at now)) ≡ true
    → done_head head node.stage ≡ Some head
done_there service node head (stage.Serving s) st e =
    let there = subst (λ o. StandsFor service node head.key (lookup (key_eq head.key) s.slots.entries) o) (ap (place_in head.key) st.2) (stands_in service node head.key (stage.Serving s) st) in
    ap (done_head head) st.2 ∙ ended_slot service node head (lookup (key_eq head.key) s.slots.entries) (place_at head.key st.1) there e
done_there service node head stage.Asking st e = absurd (true≢false (sym e))
done_there service node head (stage.Fetching f) st e = absurd (true≢false (sym e))
done_there service node head (stage.Marked m) st e = absurd st
done_there service node head stage.Lost st e = absurd st

-- .. or where what is fetched of it says so
pub done_fetched : {S : Type 0} (s : Ghosts S) (who : Identity) (head : EntryHead) (at : Stage) (now : CodeStage S) (kept : Option EntryHead) → StageStands (service_of s who) (node_of who at) now
    → IsSoundStage who now → is_done (lookup (key_eq head.key) (slots_at now)) ≡ false → ((kind : ℕ) (fetched : List Fetched) → HasFetched s kind fetched now head.key kept) → done_head head at ≡ if_done kept
done_fetched s who head at (stage.Serving x) kept st sound e has =
    let there = subst (λ o. StandsFor (service_of s who) (node_of who at) head.key (lookup (key_eq head.key) x.slots.entries) o) (ap (place_in head.key) st.2)
    (stands_in (service_of s who) (node_of who at) head.key (stage.Serving x) st) in
    ap (done_head head) st.2 ∙ (other_slot (service_of s who) (node_of who at) head (lookup (key_eq head.key) x.slots.entries) (place_at head.key st.1) there e ∙ sym (ap if_done (has 0 [])))
done_fetched s who head at stage.Asking kept st sound e has = ap (done_head head) st ∙ sym (ap if_done (has 0 []))
done_fetched s who head at (stage.Fetching f) kept st sound e has =
    ap (done_head head) st.2 ∙ sym (ap if_done (has who.kind st.1 sound.kind st.0 st.3))
done_fetched s who head at (stage.Marked m) kept st sound e has = absurd st
done_fetched s who head at stage.Lost kept st sound e has = absurd st

-- what is fetched has this key
pub fetched_key : {S : Type 0} (s : Ghosts S) (who : Identity) (key : Key) (at : Stage) (now : CodeStage S) (kept : EntryHead) → StageStands (service_of s who) (node_of who at) now
    → IsSoundStage who now → ((kind : ℕ) (fetched : List Fetched) → HasFetched s kind fetched now key (Some kept)) → kept.key ≡ key
fetched_key s who key at (stage.Fetching f) kept st sound has = by (find (λ x. key_eq x.head.key key) st.1) refl (has who.kind st.1 sound.kind st.0 st.3)
  where
    by : (o : Option Fetched) → find (λ x. key_eq x.head.key key) st.1 ≡ o → Some kept ≡ option_map (λ x. x.head) o → kept.key ≡ key
    by None e h = none_is_some kept (sym h)
    by (Some x) e h = ap (λ y. y.key) (some_is kept x.head h) ∙ same_key x.head.key key (found_passes (λ y. key_eq y.head.key key) st.1 x e)
fetched_key s who key at (stage.Serving x) kept st sound has = none_is_some kept (sym (has 0 []))
fetched_key s who key at stage.Asking kept st sound has = none_is_some kept (sym (has 0 []))
fetched_key s who key at (stage.Marked m) kept st sound has = absurd st
fetched_key s who key at stage.Lost kept st sound has = absurd st

-- where only what is known changes
pub notes_none : {S : Type 0} {s : Ghosts S} (was : LastingNode S s) → NotesOnly was was
notes_none was = record { node = refl; patience = refl; own = refl; is_own = refl }

pub notes_more : {S : Type 0} {s : Ghosts S} (was mid now : LastingNode S s) → NotesOnly was mid → NotesOnly mid now → NotesOnly was now
notes_more was mid now a b = record { node = b.node ∙ a.node; patience = b.patience ∙ a.patience; own = b.own ∙ a.own; is_own = b.is_own ∙ a.is_own }

pub same_stage : {S : Type 0} {s : Ghosts S} (at : Stage) (was mid : LastingNode S s) → mid.node ≡ was.node → IsAtStage at was → IsAtStage at mid
same_stage {S} {s} at was mid e st = subst (λ x. StageStands (service_of s x.who) (node_of x.who at) x.stage) (sym e) st
