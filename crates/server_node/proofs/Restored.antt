-- The slots of the entries that are restored, one more after another.
use Rattle.std.proofs.Common.{◌≡◌, ◌∙◌, ℕ, suc, ◌+◌, ◌%◌, ◌^◌, Bool, true, false, not, refl, sym, ap, subst, arith, List, [], ◌∷◌, ◌++◌, filter, length, reverse, append_assoc, append-nil, Some, None, cond, if◌then◌else◌}
use Rattle.std.specs.Map.{lookup}
use Rattle.std.proofs.lemmas.List.{reverse-append, reverse-reverse}
use Rattle.ft_io.specs.declared.Key.{Key}
use Rattle.ft_io.specs.Key.{key_eq}
use Rattle.server_trait.specs.Service.{Machine}
use Rattle.std.proofs.lemmas.Bool.{false≢true, or_parts}
use Rattle.tcp_rules.specs.Profile.{grammar_of}
use Rattle.ft_model.specs.Log.{Entry}
use Rattle.ft_model.proofs.Lists.{none_is_some}
use Rattle.ft_model.specs.Node.{Node}
use Rattle.ft_model.specs.Node.Place.{Lives, Ended}
use Rattle.ft_model.specs.Node.Input.{Tick_comes}
use Rattle.ft_model.specs.Opening.{initial_number}
use Rattle.ft_model.specs.Restart.{Fetched, is_fetched, is_whole, entry_in, point_of, IsSoundEntry}
use Rattle.ft_model.specs.Lawful.{Revives, restored, all_restored, restored_count, AreSound}
use Rattle.ft_model.specs.Wire.{Wire}
use Rattle.reincarnate.specs.declared.entries.Restored.{Restored}
use Rattle.reincarnate.specs.Progress.{EntryState}
use Rattle.reincarnate.specs.Refinement.{StandsWhole, RestoredIs, FirstIs}
use Rattle.node_serving.specs.declared.serving.Serving.{Serving}
use Rattle.node_serving.specs.declared.slot.Slot.{Slot}
use Rattle.node_serving.specs.declared.slot.Slot.TheVariants as slot
use Rattle.server_node.specs.FetchStage.{AreDistinct}
use Rattle.server_node.specs.RestartEnd.{SlotRevives, AreRestored}
use Rattle.server_node.specs.RestartNumbers.{IsNumbered, AreNumbered}
use Rattle.node_serving.specs.Loan.{conn_in}
use Rattle.node_serving.proofs.Admitted.{one_stands_more, next_number}
use Rattle.node_serving.proofs.AllSlots.{proceed}
use Rattle.node_serving.proofs.Found.{found_last}
use Rattle.node_serving.proofs.Opens.{put_on}
use Rattle.ft_model.proofs.Keys.{key_eq_turns}

-- a key that isn't that of the last entry is found among the others
pub behind_others : {X : Type 0} (key last : Key) (es : List (Key × X)) (x : X) → key_eq key last ≡ false → lookup (key_eq key) es ≡ None → lookup (key_eq key) (es ++ (last, x) ∷ []) ≡ None
behind_others key last [] x other none = ap (λ b. cond b (Some x) None) other
behind_others key last (e ∷ es) x other none = go (key_eq key e.0) refl (behind_others key last es x other)
  where
    go : (b : Bool) → key_eq key e.0 ≡ b → (lookup (key_eq key) es ≡ None → lookup (key_eq key) (es ++ (last, x) ∷ []) ≡ None) → lookup (key_eq key) ((e ∷ es) ++ (last, x) ∷ []) ≡ None
    go true t rest = none_is_some e.1 (sym none ∙ ap (λ b. cond b (Some e.1) (lookup (key_eq key) es)) t)
    go false t rest =
        ap (λ b. cond b (Some e.1) (lookup (key_eq key) (es ++ (last, x) ∷ []))) t
        ∙ rest (sym (ap (λ b. cond b (Some e.1) (lookup (key_eq key) es)) t) ∙ none)

-- a connection that is found stays so where a slot is added after
numbered_on : {S : Type 0} (service : Machine S) (entry : Entry) (i : ℕ) (key last : Key) (es : List (Key × Slot S)) (now : Slot S)
    → IsNumbered service entry i (conn_in (lookup (key_eq key) es)) → IsNumbered service entry i (conn_in (lookup (key_eq key) (es ++ (last, now) ∷ [])))
numbered_on service entry i key last [] now n = absurd n
numbered_on service entry i key last (e ∷ es) now n = go (key_eq key e.0) (numbered_on service entry i key last es now) n
  where
    go : (b : Bool) → (IsNumbered service entry i (conn_in (lookup (key_eq key) es)) → IsNumbered service entry i (conn_in (lookup (key_eq key) (es ++ (last, now) ∷ []))))
        → IsNumbered service entry i (conn_in (cond b (Some e.1) (lookup (key_eq key) es)))
        → IsNumbered service entry i (conn_in (cond b (Some e.1) (lookup (key_eq key) (es ++ (last, now) ∷ []))))
    go true rest h = h
    go false rest h = rest h

all_numbered_on : {S : Type 0} (service : Machine S) (isn : ℕ) (fetched : List Fetched) (last : Key) (es : List (Key × Slot S)) (now : Slot S)
    → AreNumbered service isn fetched es → AreNumbered service isn fetched (es ++ (last, now) ∷ [])
all_numbered_on service isn [] last es now n = tt
all_numbered_on service isn (f ∷ earlier) last es now n =
    (λ live. numbered_on service (entry_in f) (initial_number isn (restored_count earlier)) f.head.key last es now (n.0 live), all_numbered_on service isn earlier last es now n.1)

-- .. and that of the added slot has its number
pub all_numbered_more : {S : Type 0} (service : Machine S) (isn : ℕ) (f : Fetched) (fetched : List Fetched) (es : List (Key × Slot S)) (now : Slot S)
    → lookup (key_eq f.head.key) es ≡ None → AreNumbered service isn fetched es
    → (f.head.done ≡ false → IsNumbered service (entry_in f) (initial_number isn (restored_count fetched)) (conn_in (Some now)))
    → AreNumbered service isn (f ∷ fetched) (es ++ (f.head.key, now) ∷ [])
all_numbered_more service isn f fetched es now none numbers numbered = (
  λ live. subst (λ o. IsNumbered service (entry_in f) (initial_number isn (restored_count fetched)) (conn_in o)) (sym (found_last f.head.key es now none)) (numbered live),
  all_numbered_on service isn fetched f.head.key es now numbers,
)

module _ {S : Type 0} (service : Machine S) (node : Node) where
  -- before any
  pub restored_none : (now : Serving S) (reported : List Wire) → now.next.0 ≡ initial_number node.isn 0 → now.slots.entries ≡ [] → AreRestored service node [] now reported reported
  restored_none now reported number none = record {
    places = [];
    packets = [];
    stands = record { number = number; slots = subst (λ es. Rattle.node_serving.specs.Slots.AllStand service node es []) (sym none) tt };
    go = (refl, refl);
    numbers = tt;
    others = λ key e. ap (lookup (key_eq key)) none;
    wires = sym (append-nil reported);
    spelled = tt;
  }

  -- an entry more, the newest
  pub restored_more : (f : Fetched) (fetched : List Fetched) (before after : Serving S) (now : Slot S) (old mid new : List Wire) → is_fetched f.head.key fetched ≡ false
      → AreRestored service node fetched before old mid → SlotRevives service node f.head.key (restored service node.profile f) now mid new
      → after.next.0 ≡ initial_number node.isn (restored_count (f ∷ fetched))
      → (lookup (key_eq f.head.key) before.slots.entries ≡ None → after.slots.entries ≡ before.slots.entries ++ (f.head.key, now) ∷ [])
      → (f.head.done ≡ false → IsNumbered service (entry_in f) (initial_number node.isn (restored_count fetched)) (conn_in (Some now)))
      → AreRestored service node (f ∷ fetched) after old new
  restored_more f fetched before after now old mid new fresh r s number added numbered =
      let none : lookup (key_eq f.head.key) before.slots.entries ≡ None = r.others f.head.key fresh in
      let is : after.slots.entries ≡ before.slots.entries ++ (f.head.key, now) ∷ [] = added none in
      let all = put_on (grammar_of node.profile) r.packets s.packets old mid new (record { wires = r.wires; spelled = r.spelled }) (record { wires = s.wires; spelled = s.spelled }) in record {
        places = r.places ++ s.after ∷ [];
        packets = r.packets ++ s.packets;
        stands = record {
          number = number;
          slots = subst (λ es. Rattle.node_serving.specs.Slots.AllStand service node es (r.places ++ s.after ∷ [])) (sym is)
              (one_stands_more service node before.slots.entries r.places f.head.key now s.after r.stands.slots s.stands);
        };
        go = proceed service node Tick_comes (Revives service node) (all_restored service node.profile fetched) r.places r.packets s.packets (restored service node.profile f) s.after r.go s.turn;
        numbers = subst (AreNumbered service node.isn (f ∷ fetched)) (sym is) (all_numbered_more service node.isn f fetched before.slots.entries now none r.numbers numbered);
        others = λ key e.
            let parts = or_parts (key_eq f.head.key key) (is_fetched key fetched) e in
            ap (lookup (key_eq key)) is ∙ behind_others key f.head.key before.slots.entries now (key_eq_turns f.head.key key parts.0) (r.others key parts.1);
        wires = all.wires;
        spelled = all.spelled;
      }

  pub counted : (f : Fetched) (fetched : List Fetched) (b : Bool) → f.head.done ≡ b → restored_count (f ∷ fetched) ≡ length (if not b then f ∷ filter (λ x. not x.head.done) fetched else filter (λ x. not x.head.done) fetched)
  counted f fetched b e = ap (λ d. length (if not d then f ∷ filter (λ x. not x.head.done) fetched else filter (λ x. not x.head.done) fetched)) e

  pub plus_one : (n : ℕ) → n + 1 ≡ suc n
  plus_one n = omega arith

  -- one that is done has its slot as ended
  pub ended_more : (f : Fetched) (fetched : List Fetched) (key : Key) (before after : Serving S) (old mid : List Wire) → f.head.done ≡ true → key ≡ f.head.key → is_fetched f.head.key fetched ≡ false
      → AreRestored service node fetched before old mid → after.next.0 ≡ before.next.0
      → (lookup (key_eq key) before.slots.entries ≡ None → after.slots.entries ≡ before.slots.entries ++ (key, slot.Done) ∷ [])
      → AreRestored service node (f ∷ fetched) after old mid
  ended_more f fetched key before after old mid done is fresh r same added =
      let place : restored service node.profile f ≡ Ended f.head.key = ap (λ b. if b then Ended f.head.key else Lives (point_of service node.profile (entry_in f))) done in
      restored_more f fetched before after slot.Done old mid mid fresh r
      (subst (λ p. SlotRevives service node f.head.key p slot.Done mid mid) (sym place)
      (record { after = Ended f.head.key; packets = []; stands = refl; turn = (refl, refl); wires = sym (append-nil mid); spelled = tt }))
      (same ∙ (r.stands.number ∙ ap (initial_number node.isn) (sym (counted f fetched true done))))
      (subst (λ k. lookup (key_eq k) before.slots.entries ≡ None → after.slots.entries ≡ before.slots.entries ++ (k, slot.Done) ∷ []) is added)
      (λ live. absurd (false≢true (sym live ∙ done)))

  -- one that isn't is live, and has used up an initial number
  pub live_more : (f : Fetched) (fetched : List Fetched) (key : Key) (before after : Serving S) (now : Slot S) (old mid new : List Wire) → f.head.done ≡ false → key ≡ f.head.key
      → is_fetched f.head.key fetched ≡ false → AreRestored service node fetched before old mid
      → SlotRevives service node f.head.key (Lives (point_of service node.profile (entry_in f))) now mid new → after.next.0 ≡ (before.next.0 + 65536) % 2 ^ 32
      → (lookup (key_eq key) before.slots.entries ≡ None → after.slots.entries ≡ before.slots.entries ++ (key, now) ∷ [])
      → IsNumbered service (entry_in f) before.next.0 (conn_in (Some now)) → AreRestored service node (f ∷ fetched) after old new
  live_more f fetched key before after now old mid new live is fresh r s next added numbered =
      let place : restored service node.profile f ≡ Lives (point_of service node.profile (entry_in f)) = ap (λ b. if b then Ended f.head.key else Lives (point_of service node.profile (entry_in f))) live in
      restored_more f fetched before after now old mid new fresh r
      (subst (λ p. SlotRevives service node f.head.key p now mid new) (sym place) s)
      (next ∙ (ap (λ n. (n + 65536) % 2 ^ 32) r.stands.number ∙ (next_number node.isn (restored_count fetched) ∙ ap (initial_number node.isn) (plus_one (restored_count fetched) ∙ sym (counted f fetched false live)))))
      (subst (λ k. lookup (key_eq k) before.slots.entries ≡ None → after.slots.entries ≡ before.slots.entries ++ (k, now) ∷ []) is added)
      (λ also. subst (λ i. IsNumbered service (entry_in f) i (conn_in (Some now))) r.stands.number numbered)

-- what is true of all is true of one
pub distinct_at : (front : List Fetched) (f : Fetched) (fetched : List Fetched) → AreDistinct (front ++ f ∷ fetched) → is_fetched f.head.key fetched ≡ false
distinct_at [] f fetched d = d.0
distinct_at (x ∷ front) f fetched d = distinct_at front f fetched d.1

pub sound_at : {S : Type 0} (service : Machine S) (front : List Fetched) (f : Fetched) (fetched : List Fetched) → AreSound service (front ++ f ∷ fetched)
    → f.head.done ≡ false → is_whole f ≡ true → IsSoundEntry service (entry_in f)
sound_at service [] f fetched sound = sound.0
sound_at service (x ∷ front) f fetched sound = sound_at service front f fetched sound.1

-- how far the log is restored: these are left, in the log's order, and those are done, the newest first
pub record RestoresOn {S X : Type 0} (service : Machine S) (So_far : List Fetched → X → (old new : List Wire) → Type 0) (fetched : List Fetched) (entries : List (EntryState S)) (now : X) (old new : List Wire) : Type 0 where
  pub left : List Fetched
  pub done : List Fetched
  pub split : fetched ≡ reverse left ++ done
  pub waits : StandsWhole service left entries
  pub so_far : So_far done now old new

module _ {S X : Type 0} (service : Machine S) (So_far : List Fetched → X → (old new : List Wire) → Type 0) where
  pub restores_none : (fetched : List Fetched) (entries : List (EntryState S)) (now : X) (reported : List Wire) → StandsWhole service (reverse fetched) entries
      → So_far [] now reported reported → RestoresOn service So_far fetched entries now reported reported
  restores_none fetched entries now reported st none = record {
    left = reverse fetched;
    done = [];
    split = sym (append-nil (reverse (reverse fetched)) ∙ reverse-reverse fetched);
    waits = st;
    so_far = none;
  }

  pub restores_more : (fetched : List Fetched) (was rest : List (EntryState S)) (entry : Restored S) (before after : X) (old mid new : List Wire)
      → RestoresOn service So_far fetched was before old mid → ((left : List Fetched) → StandsWhole service left was → FirstIs service left (Some entry) rest)
      → ((front : List Fetched) (f : Fetched) (done : List Fetched) → fetched ≡ front ++ f ∷ done → is_whole f ≡ true → RestoredIs service f entry
      → So_far done before old mid → So_far (f ∷ done) after old new)
      → RestoresOn service So_far fetched rest after old new
  restores_more fetched was rest entry before after old mid new r first more = go r.left r.split r.waits
    where
      go : (left : List Fetched) → fetched ≡ reverse left ++ r.done → StandsWhole service left was → RestoresOn service So_far fetched rest after old new
      go [] split st = none_is_some entry (sym (first [] st).0)
      go (f ∷ left) split st =
          let is = first (f ∷ left) st in
          let there : fetched ≡ reverse left ++ f ∷ r.done =
          split ∙ (ap (λ l. l ++ r.done) (reverse-append (f ∷ []) left) ∙ append_assoc (reverse left) (f ∷ []) r.done) in record {
            left = left;
            done = f ∷ r.done;
            split = there;
            waits = is.1;
            so_far = more (reverse left) f r.done there st.whole.0 is.0 r.so_far;
          }

  pub restores_all : (fetched : List Fetched) (was rest : List (EntryState S)) (now : X) (old new : List Wire) → RestoresOn service So_far fetched was now old new
      → ((left : List Fetched) → StandsWhole service left was → FirstIs service left None rest) → So_far fetched now old new
  restores_all fetched was rest now old new r first = go r.left r.split r.waits
    where
      go : (left : List Fetched) → fetched ≡ reverse left ++ r.done → StandsWhole service left was → So_far fetched now old new
      go [] split st = subst (λ l. So_far l now old new) (sym split) r.so_far
      go (f ∷ left) split st = absurd (first (f ∷ left) st).0
