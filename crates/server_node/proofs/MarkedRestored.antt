-- The slots of the entries that a node that marks restores, one more after another, with the marks that go out.
use Rattle.std.proofs.Common.{◌≡◌, ◌∙◌, ℕ, suc, ◌+◌, ◌%◌, ◌^◌, Bool, true, false, not, refl, sym, ap, subst, arith, Option, Some, None, List, [], ◌∷◌, ◌++◌, map, filter, length, append-nil, cond, if◌then◌else◌}
use Rattle.std.specs.Map.{lookup}
use Rattle.std.proofs.lemmas.Bool.{false≢true, or_parts, or_from}
use Rattle.ft_io.specs.declared.Key.{Key}
use Rattle.ft_io.specs.Key.{key_eq}
use Rattle.ft_io.proofs.Choices.{by_cases}
use Rattle.server_trait.specs.Service.{AreBytes}
use Rattle.tcp_rules.specs.Profile.{grammar_of}
use Rattle.ft_model.specs.Connection.{ConnectionTurn}
use Rattle.ft_model.specs.Lawful.{Revives, restored, all_restored, restored_count}
use Rattle.ft_model.specs.Log.{Entry}
use Rattle.ft_model.specs.News.News.{Begins}
use Rattle.ft_model.specs.Node.{Node, Place, key_of, place_at}
use Rattle.ft_model.specs.Node.Place.{Opens, Lives, Ended}
use Rattle.ft_model.specs.Opening.{initial_number}
use Rattle.ft_model.specs.Point.{Point}
use Rattle.ft_model.specs.Restart.{Fetched, is_fetched, entry_in, point_of}
use Rattle.ft_model.specs.ServingTurn.{LivesOn}
use Rattle.ft_model.specs.Wire.{Wire}
use Rattle.ft_model.specs.Keys.{has_key}
use Rattle.ft_model.proofs.Keys.{key_eq_turns}
use Rattle.ft_model.proofs.Lists.{all_append, key_is, same_key, none_is_some}
use Rattle.mark_laws.specs.Marking.{Marking, Outgoing, with_new, new_marks, with_marks, marks_out}
use Rattle.mark_laws.specs.MarkedNode.{Marker, GoesMarked, marks_at, marking_then, is_done}
use Rattle.conn_marks.specs.KeyMarks.{KeyMarks, marking_in, Changes}
use Rattle.conn_marks.specs.MarkSends.{AreOut}
use Rattle.conn_marks.specs.Settled.{Keeps, IsSettledPoint, IsSettledPlace, AllSettled, MarksPlace}
use Rattle.conn_marks.proofs.KeyMarks.{changes_none}
use Rattle.conn_marks.proofs.MarkWires.{put_out, out_on, out_none}
use Rattle.conn_marks.proofs.OneMarked.{found_here, found_there, found_in, found_behind}
use Rattle.conn_marks.proofs.Serving.{turn_settled}
use Rattle.node_serving.specs.declared.serving.Serving.{Serving}
use Rattle.node_serving.specs.declared.slot.Slot.{Slot}
use Rattle.node_serving.specs.declared.slot.Slot.TheVariants as slot
use Rattle.server_node.specs.MarkedRestart.{AllBytes, SlotRevivesWith, AreRestoredMarked, markings_then}
use Rattle.server_node.specs.RestartEnd.{SlotRevives}
use Rattle.server_node.specs.RestartNumbers.{IsNumbered, AreNumbered}
use Rattle.node_serving.specs.Loan.{conn_in}
use Rattle.node_serving.specs.Slots.{SlotStands, AllStand}
use Rattle.node_serving.proofs.Admitted.{one_stands_more, next_number}
use Rattle.node_serving.proofs.MarkedTicks.{proceed_marked}
use Rattle.node_serving.proofs.OneKey.{place_key}
use Rattle.server_node.proofs.Restored.{behind_others, all_numbered_more}

-- a slot's first turn, with its mark
pub revives_with : {S : Type 0} (by : Marker S) (node : Node) (e : Entry) (now : Slot S) (was marks : KeyMarks) (old mid new : List Wire) → AreBytes e.bytes
    → SlotRevives by.service node e.key (Lives (point_of by.service node.profile e)) now old mid
    → ((place : Place) → SlotStands by.service node e.key now place → MarksPlace by (grammar_of node.profile) node.boot e.key (length old) (Some place) was marks mid new)
    → SlotRevivesWith by node e now was marks old new
revives_with {S} by node e now was marks old mid new bytes g marked = go g.after g.turn g.stands
  where
    first : Place → List Place → Place
    first other [] = other
    first other (x ∷ xs) = x

    at : (q : Point) → SlotStands by.service node e.key now (Lives q) → q.key ≡ e.key
    at q st = place_key by.service node e.key now (Lives q) st

    lives : (q : Point) → ConnectionTurn by.service node.server node.boot Begins (point_of by.service node.profile e) q g.packets → SlotStands by.service node e.key now (Lives q)
        → SlotRevivesWith by node e now was marks old new
    lives q t st =
        let settled : IsSettledPoint by (with_new by.service by.writing by.every q (marking_in was e.key)) q =
        turn_settled by node Begins (point_of by.service node.profile e) q (marking_in was e.key) g.packets tt (record { taken = bytes; held = tt }) t in
        let m = marked (Lives q) st settled.taken in record {
          after = q;
          packets = g.packets;
          stands = st;
          turn = (q, refl, t);
          changes = m.changes;
          settled = settled;
          out = put_out (grammar_of node.profile) node.boot e.key q (new_marks by.service by.writing by.every (marking_in was e.key) q) g.packets old mid new (at q st) g.wires g.spelled m.sends;
        }

    go : (after : Place) → LivesOn by.service node Begins (point_of by.service node.profile e) (after ∷ []) g.packets → SlotStands by.service node e.key now after → SlotRevivesWith by node e now was marks old new
    go after (q, is, t) st = lives q t (subst (SlotStands by.service node e.key now) (ap (first after) is) st)

-- no place of a key that has no slot
absent : {S : Type 0} (by : Marker S) (node : Node) (key : Key) (es : List (Key × Slot S)) (places : List Place) → AllStand by.service node es places → lookup (key_eq key) es ≡ None
    → has_key key (map key_of places) ≡ false
absent by node key [] [] st none = refl
absent by node key [] (q ∷ qs) st none = absurd st
absent by node key (e ∷ es) [] st none = absurd st
absent by node key (e ∷ es) (q ∷ qs) st none = go (key_eq key e.0) refl (λ n. absent by node key es qs st.1 n)
  where
    go : (b : Bool) → key_eq key e.0 ≡ b → (lookup (key_eq key) es ≡ None → has_key key (map key_of qs) ≡ false) → has_key key (map key_of (q ∷ qs)) ≡ false
    go true on rest = none_is_some e.1 (sym none ∙ ap (λ b. cond b (Some e.1) (lookup (key_eq key) es)) on)
    go false off rest =
        or_from (key_eq (key_of q) key) (has_key key (map key_of qs)) (ap (λ k. key_eq k key) (place_key by.service node e.0 e.1 q st.0) ∙ key_eq_turns key e.0 off)
        (rest (sym (ap (λ b. cond b (Some e.1) (lookup (key_eq key) es)) off) ∙ none))

none_at : (key : Key) (places : List Place) → has_key key (map key_of places) ≡ false → place_at key places ≡ None
none_at key [] h = refl
none_at key (q ∷ qs) h =
    let parts = or_parts (key_eq (key_of q) key) (has_key key (map key_of qs)) h in
    found_there key q qs parts.0 ∙ none_at key qs parts.1

-- one place more
own_last : (key : Key) (xs : List Place) (after : Place) → key_of after ≡ key → place_at key xs ≡ None → place_at key (xs ++ after ∷ []) ≡ Some after
own_last key xs after is none =
    found_behind key xs (after ∷ []) none ∙ found_here key after [] (ap (λ k. key_eq k key) is ∙ key_is key)

other_last : (key : Key) (xs : List Place) (after : Place) → key_eq (key_of after) key ≡ false → place_at key (xs ++ after ∷ []) ≡ place_at key xs
other_last key xs after other = go (place_at key xs) refl
  where
    go : (o : Option Place) → place_at key xs ≡ o → place_at key (xs ++ after ∷ []) ≡ place_at key xs
    go (Some place) e = found_in key xs (after ∷ []) place e ∙ sym e
    go None e = found_behind key xs (after ∷ []) e ∙ (found_there key after [] other ∙ sym e)

module _ {S : Type 0} (by : Marker S) (node : Node) (marking : Key → Marking) where
  settled_like : (key : Key) (m n : Key → Marking) → ((k : Key) → key_eq k key ≡ false → n k ≡ m k) → (places : List Place) → has_key key (map key_of places) ≡ false → AllSettled by m places → AllSettled by n places
  settled_like key m n same [] h s = tt
  settled_like key m n same (q ∷ qs) h s =
      let parts = or_parts (key_eq (key_of q) key) (has_key key (map key_of qs)) h in
      (one q parts.0 s.0, settled_like key m n same qs parts.1 s.1)
    where
      one : (place : Place) → key_eq (key_of place) key ≡ false → IsSettledPlace by m place → IsSettledPlace by n place
      one (Lives p) other st = subst (λ x. IsSettledPoint by x p) (sym (same p.key other)) st
      one (Opens o timestamping) other st = tt
      one (Ended k) other st = tt

  own_settled : (m n : Key → Marking) (place : Place) → n (key_of place) ≡ m (key_of place) → IsSettledPlace by m place → IsSettledPlace by n place
  own_settled m n (Lives p) same st = subst (λ x. IsSettledPoint by x p) (sym same) st
  own_settled m n (Opens o timestamping) same st = tt
  own_settled m n (Ended k) same st = tt

  pub more_marked : (f : Fetched) (fetched : List Fetched) (before after : Serving S) (now : Slot S) (place : Place) (more : List Outgoing) (was marks : KeyMarks) (old mid new : List Wire)
      → is_fetched f.head.key fetched ≡ false → AreRestoredMarked by node marking fetched before was old mid → SlotStands by.service node f.head.key now place
      → GoesMarked (Revives by.service node) (marks_at by node.boot false marking) (restored by.service node.profile f) (place ∷ []) more
      → IsSettledPlace by (λ k. marking_then by (Some place) (marking k)) place
      → Changes f.head.key (marking_then by (Some place) (marking_in was f.head.key)) was marks
      → after.next.0 ≡ initial_number node.isn (restored_count (f ∷ fetched))
      → (lookup (key_eq f.head.key) before.slots.entries ≡ None → after.slots.entries ≡ before.slots.entries ++ (f.head.key, now) ∷ [])
      → (f.head.done ≡ false → IsNumbered by.service (entry_in f) (initial_number node.isn (restored_count fetched)) (conn_in (Some now)))
      → AreOut (grammar_of node.profile) more mid new → AreRestoredMarked by node marking (f ∷ fetched) after marks old new
  more_marked f fetched before after now place more was marks old mid new fresh r st g settled changes number added numbered out =
      let key : Key = f.head.key in
      let none : lookup (key_eq key) before.slots.entries ≡ None = r.others key fresh in
      let is : after.slots.entries ≡ before.slots.entries ++ (key, now) ∷ [] = added none in
      let its : key_of place ≡ key = place_key by.service node key now place st in
      let away : has_key key (map key_of r.places) ≡ false = absent by node key before.slots.entries r.places r.stands.slots none in
      let nothing : place_at key r.places ≡ None = none_at key r.places away in
      let found : place_at key (r.places ++ place ∷ []) ≡ Some place = own_last key r.places place its nothing in
      let others : (k : Key) → key_eq k key ≡ false → markings_then by (r.places ++ place ∷ []) marking k ≡ markings_then by r.places marking k =
      λ k other. ap (λ o. marking_then by o (marking k)) (other_last k r.places place (ap (λ x. key_eq x k) its ∙ key_eq_turns k key other)) in
      let own : markings_then by (r.places ++ place ∷ []) marking key ≡ marking_then by (Some place) (marking key) = ap (λ o. marking_then by o (marking key)) found in
      let held : marking_in was key ≡ marking key = r.keeps.each key ∙ ap (λ o. marking_then by o (marking key)) nothing in
      record {
        places = r.places ++ place ∷ [];
        sent = r.sent ++ more;
        stands = record {
          number = number;
          slots = subst (λ es. AllStand by.service node es (r.places ++ place ∷ [])) (sym is) (one_stands_more by.service node before.slots.entries r.places key now place r.stands.slots st);
        };
        go = proceed_marked (GoesMarked (Revives by.service node) (marks_at by node.boot false marking)) (all_restored by.service node.profile fetched) r.places r.sent more (restored by.service node.profile f) place r.go g;
        numbers = subst (AreNumbered by.service node.isn (f ∷ fetched)) (sym is) (all_numbered_more by.service node.isn f fetched before.slots.entries now none r.numbers numbered);
        others = λ k e.
            let parts = or_parts (key_eq key k) (is_fetched k fetched) e in
            ap (lookup (key_eq k)) is ∙ behind_others k key before.slots.entries now (key_eq_turns key k parts.0) (r.others k parts.1);
        keeps = record {
          every = changes.every ∙ r.keeps.every;
          each = λ k. changes.marking k
              ∙ by_cases (key_eq k key)
              (λ on. ap (λ b. if b then marking_then by (Some place) (marking_in was key) else marking_in was k) on
              ∙ (ap (marking_then by (Some place)) held ∙ (sym own ∙ ap (markings_then by (r.places ++ place ∷ []) marking) (sym (same_key k key on)))))
              (λ off. ap (λ b. if b then marking_then by (Some place) (marking_in was key) else marking_in was k) off ∙ (r.keeps.each k ∙ sym (others k off)));
        };
        settled = all_append (IsSettledPlace by (markings_then by (r.places ++ place ∷ []) marking)) r.places (place ∷ [])
            (settled_like key (markings_then by r.places marking) (markings_then by (r.places ++ place ∷ []) marking) others r.places away r.settled) (
              own_settled (λ k. marking_then by (Some place) (marking k)) (markings_then by (r.places ++ place ∷ []) marking) place
                  (ap (markings_then by (r.places ++ place ∷ []) marking) its ∙ (own ∙ ap (λ k. marking_then by (Some place) (marking k)) (sym its))) settled,
              tt,
            );
        out = out_on (grammar_of node.profile) r.sent more old mid new r.out out;
      }

  pub none_marked_yet : (now : Serving S) (marks : KeyMarks) (reported : List Wire) → now.next.0 ≡ initial_number node.isn 0 → now.slots.entries ≡ [] → Keeps by marking marks
      → AreRestoredMarked by node marking [] now marks reported reported
  none_marked_yet now marks reported number none keeps = record {
    places = [];
    sent = [];
    stands = record { number = number; slots = subst (λ es. AllStand by.service node es []) (sym none) tt };
    go = (refl, refl);
    numbers = tt;
    others = λ key e. ap (lookup (key_eq key)) none;
    keeps = record { every = keeps.every; each = keeps.each };
    settled = tt;
    out = out_none (grammar_of node.profile) reported;
  }

  counted : (f : Fetched) (fetched : List Fetched) (b : Bool) → f.head.done ≡ b → restored_count (f ∷ fetched) ≡ length (if not b then f ∷ filter (λ x. not x.head.done) fetched else filter (λ x. not x.head.done) fetched)
  counted f fetched b e = ap (λ d. length (if not d then f ∷ filter (λ x. not x.head.done) fetched else filter (λ x. not x.head.done) fetched)) e

  plus_one : (n : ℕ) → n + 1 ≡ suc n
  plus_one n = omega arith

  pub ended_marked : (f : Fetched) (fetched : List Fetched) (key : Key) (before after : Serving S) (was : KeyMarks) (old mid : List Wire) → f.head.done ≡ true → key ≡ f.head.key
      → is_fetched f.head.key fetched ≡ false → AreRestoredMarked by node marking fetched before was old mid → after.next.0 ≡ before.next.0
      → (lookup (key_eq key) before.slots.entries ≡ None → after.slots.entries ≡ before.slots.entries ++ (key, slot.Done) ∷ []) → AreRestoredMarked by node marking (f ∷ fetched) after was old mid
  ended_marked f fetched key before after was old mid done is fresh r same added =
      let place : restored by.service node.profile f ≡ Ended f.head.key = ap (λ b. if b then Ended f.head.key else Lives (point_of by.service node.profile (entry_in f))) done in
      more_marked f fetched before after slot.Done (Ended f.head.key) [] was was old mid mid fresh r refl
      (subst (λ p. GoesMarked (Revives by.service node) (marks_at by node.boot false marking) p (Ended f.head.key ∷ []) []) (sym place) (record { packets = []; goes = (refl, refl); sent_are = refl }))
      tt (changes_none was f.head.key (marking_in was f.head.key) refl)
      (same ∙ (r.stands.number ∙ ap (initial_number node.isn) (sym (counted f fetched true done))))
      (subst (λ k. lookup (key_eq k) before.slots.entries ≡ None → after.slots.entries ≡ before.slots.entries ++ (k, slot.Done) ∷ []) is added)
      (λ live. absurd (false≢true (sym live ∙ done))) (out_none (grammar_of node.profile) mid)

  pub live_marked : (f : Fetched) (fetched : List Fetched) (key : Key) (before after : Serving S) (now : Slot S) (was marks : KeyMarks) (old mid new : List Wire) → f.head.done ≡ false → key ≡ f.head.key
      → is_fetched f.head.key fetched ≡ false → AreRestoredMarked by node marking fetched before was old mid → SlotRevivesWith by node (entry_in f) now was marks mid new
      → after.next.0 ≡ (before.next.0 + 65536) % 2 ^ 32
      → (lookup (key_eq key) before.slots.entries ≡ None → after.slots.entries ≡ before.slots.entries ++ (key, now) ∷ [])
      → IsNumbered by.service (entry_in f) before.next.0 (conn_in (Some now)) → AreRestoredMarked by node marking (f ∷ fetched) after marks old new
  live_marked f fetched key before after now was marks old mid new live is fresh r s next added numbered =
      let place : restored by.service node.profile f ≡ Lives (point_of by.service node.profile (entry_in f)) = ap (λ b. if b then Ended f.head.key else Lives (point_of by.service node.profile (entry_in f))) live in
      let q : Point = s.after in
      let none = r.others f.head.key fresh in
      let nothing : place_at f.head.key r.places ≡ None = none_at f.head.key r.places (absent by node f.head.key before.slots.entries r.places r.stands.slots none) in
      let held : marking_in was f.head.key ≡ marking f.head.key = r.keeps.each f.head.key ∙ ap (λ o. marking_then by o (marking f.head.key)) nothing in
      let its : q.key ≡ f.head.key = place_key by.service node f.head.key now (Lives q) s.stands in
      let m_is : marking_in was f.head.key ≡ marking q.key = held ∙ ap marking (sym its) in
      let ms : List Outgoing = marks_out node.boot q (new_marks by.service by.writing by.every (marking_in was f.head.key) q) in
      let ms_are : ms ≡ marks_at by node.boot false marking (Lives q) ++ [] =
      ap (λ m. marks_out node.boot q (new_marks by.service by.writing by.every m q)) m_is ∙ sym (append-nil (marks_at by node.boot false marking (Lives q))) in
      more_marked f fetched before after now (Lives q) (with_marks (length (filter is_done s.packets)) ms s.packets) was marks old mid new fresh r s.stands
      (subst (λ p. GoesMarked (Revives by.service node) (marks_at by node.boot false marking) p (Lives q ∷ []) (with_marks (length (filter is_done s.packets)) ms s.packets)) (sym place)
      (record { packets = s.packets; goes = s.turn; sent_are = ap (λ l. with_marks (length (filter is_done s.packets)) l s.packets) ms_are }))
      (subst (λ m. IsSettledPoint by (with_new by.service by.writing by.every q m) q) m_is s.settled)
      s.changes
      (next ∙ (ap (λ n. (n + 65536) % 2 ^ 32) r.stands.number ∙ (next_number node.isn (restored_count fetched) ∙ ap (initial_number node.isn) (plus_one (restored_count fetched) ∙ sym (counted f fetched false live)))))
      (subst (λ k. lookup (key_eq k) before.slots.entries ≡ None → after.slots.entries ≡ before.slots.entries ++ (k, now) ∷ []) is added)
      (λ also. subst (λ i. IsNumbered by.service (entry_in f) i (conn_in (Some now))) r.stands.number numbered) s.out

-- what is true of all is true of one
pub bytes_at : (front : List Fetched) (f : Fetched) (fetched : List Fetched) → AllBytes (front ++ f ∷ fetched) → AreBytes f.bytes
bytes_at [] f fetched h = h.0
bytes_at (x ∷ front) f fetched h = bytes_at front f fetched h.1
