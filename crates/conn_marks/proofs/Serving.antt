-- The turn of a node that serves, other than a tick's, with the mark of the one key that it concerns.
use Rattle.std.proofs.Common.{◌≡◌, ◌∙◌, ℕ, Bool, true, false, true≢false, ◌&&◌, not, refl, sym, ap, ap₂, subst, Option, Some, None, List, [], ◌∷◌, ◌++◌, map, filter, flat_map, length, append-nil, if◌then◌else◌}
use Rattle.std.specs.Prelude.{nat_lt}
use Rattle.std.specs.List.{AllByRecursion}
use Rattle.std.specs.Option.{option_map_or}
use Rattle.std.proofs.lemmas.List.{map-append, take-append-drop}
use Rattle.std.proofs.lemmas.Bool.{and_parts}
use Rattle.ft_io.proofs.Booleans.{and_false}
use Rattle.ft_io.specs.declared.Key.{Key}
use Rattle.seq_arith.specs.declared.kinds.Grammar.{Grammar}
use Rattle.tcp_rules.specs.Profile.{grammar_of}
use Rattle.ft_io.specs.Key.{key_eq}
use Rattle.ft_io.proofs.Choices.{by_cases, holds_if, if_false}
use Rattle.seq_arith.specs.Mark.{Mark}
use Rattle.seq_arith.specs.Message.{Message}
use Rattle.server_trait.specs.Service.{AreBytes}
use Rattle.ft_model.specs.Connection.{ConnectionTurn}
use Rattle.ft_model.specs.Network.{Packet, source_of}
use Rattle.ft_model.specs.Network.Packet.{To_client}
use Rattle.ft_model.specs.News.{News}
use Rattle.ft_model.specs.News.News.{Comes, Logged, Ticks, Begins}
use Rattle.ft_model.specs.Node.{Node, Place, Input, key_of, place_at, is_for, is_known, pending_count}
use Rattle.ft_model.specs.Node.Place.{Opens, Lives, Ended}
use Rattle.ft_model.specs.Node.Input.{Packet_comes, Message_comes, Noise_comes, Tick_comes}
use Rattle.ft_model.specs.Opening.{is_syn, point_opened, numbers_for, timestamping_for}
use Rattle.ft_model.specs.Point.{Point}
use Rattle.ft_model.specs.Refusal.{as_listen}
use Rattle.ft_model.specs.ServingTurn.{PlaceTurn, ServingTurn, concerns, newcomers, refusals, opens_at, is_strange}
use Rattle.ft_model.specs.Wire.{Wire, wire_by, HasWireBy}
use Rattle.ft_model.specs.Keys.{AreDistinct, has_key}
use Rattle.ft_model.proofs.Distinct.{KeepsKey, keeps_key, no_key_after, distinct_proceeds}
use Rattle.ft_model.proofs.Keys.{key_eq_turns, finds_itself, all_from_get, found_has_key, absent_key}
use Rattle.ft_model.proofs.Lists.{same_key, all_slice_get, all_append, all_find, found_passes}
use Rattle.ft_model.proofs.PlaceTurns.{PlaceWent, IsNews, place_went, all_proceed}
use Rattle.ft_model.proofs.PlaceTurns.PlaceWent.{stayed, went_on, began, dropped, ended, refused}
use Rattle.ft_model.proofs.StageTurns.{either_turn}
use Rattle.mark_laws.specs.Marking.{Marking, Outgoing, is_due, with_new, new_marks, with_marks, marks_out}
use Rattle.mark_laws.specs.Marking.Outgoing.{Plain}
use Rattle.mark_laws.specs.Quiet.{mark_of}
use Rattle.mark_laws.proofs.MarksSent.{plain_map}
use Rattle.mark_laws.specs.MarkedNode.{Marker, MarkedNode, GoesMarked, AllGoMarked, ServesMarked, marks_at, marking_then, is_done, is_tick_input}
use Rattle.conn_marks.specs.KeyMarks.{KeyMarks, marking_in}
use Rattle.conn_marks.specs.MarkSends.{AreOut, SendsMarks}
use Rattle.conn_marks.specs.Settled.{Keeps, IsSettledPoint, IsSettledPlace, AllSettled, MarksNew, MarksPlace}
use Rattle.conn_marks.proofs.HeldBytes.{HasBytes, NewsBytes, turn_bytes}
use Rattle.conn_marks.proofs.MarkWires.{put_out, plain_out}
use Rattle.conn_marks.proofs.Settling.{new_same, settles}
use Rattle.conn_marks.proofs.OneMarked.{stays_of, found_in, found_behind, one_marked, marks_are, marks_if, live_asks}

-- the payload of a segment that comes is bytes
abbrev pub InputBytes : Input → Type 0
InputBytes (Packet_comes segment) = AreBytes segment.payload
InputBytes _ = Unit {0}

-- where no mark is due none is made
pub new_none : {State : Type 0} (by : Marker State) (m : Marking) (p : Point) → is_due by.service by.every m p ≡ false → new_marks by.service by.writing by.every m p ≡ []
new_none by m p off = if_false (is_due by.service by.every m p) (mark_of by.service by.writing p ∷ []) [] off

pub settled_new : {State : Type 0} (by : Marker State) (m : Marking) (p : Point) → IsSettledPoint by m p → IsSettledPoint by (with_new by.service by.writing by.every p m) p
settled_new by m p s = subst (λ x. IsSettledPoint by x p) (sym (new_same by m p s.settled.marked)) s

-- a connection's turn other than a tick's settles it
pub turn_settled : {State : Type 0} (by : Marker State) (node : Node) (news : News) (p q : Point) (m : Marking) (sent : List Packet) → NewsBytes news → HasBytes p
    → ConnectionTurn by.service node.server node.boot news p q sent → IsSettledPoint by (with_new by.service by.writing by.every q m) q
turn_settled by node news p q m sent bytes h t =
    let b : HasBytes q = turn_bytes by.service node.server node.boot news p q sent bytes h t in record {
      taken = b.taken;
      held = b.held;
      settled = settles by node.server node.boot news p q m sent t;
    }

pub turn_key : {State : Type 0} (by : Marker State) (node : Node) (news : News) (p q : Point) (sent : List Packet) → ConnectionTurn by.service node.server node.boot news p q sent → q.key ≡ p.key
turn_key by node news p q sent t = either_turn by.service node.server node.boot news p q sent (λ r. ap (λ x. x.key) r.point) (λ l. l.same.key) t

news_bytes : (node : Node) (input : Input) (news : News) (p : Point) → IsNews node input news p → InputBytes input → NewsBytes news
news_bytes node input (Comes segment) p n bytes = subst InputBytes n.0 bytes
news_bytes node input (Logged kept) p n bytes = tt
news_bytes node input Ticks p n bytes = tt
news_bytes node input Begins p n bytes = absurd n

-- what else is sent, where the input's key is live

pub quiet_message : (node : Node) (message : Message) (places : List Place) → flat_map (opens_at node (Message_comes message)) places ≡ []
quiet_message node message [] = refl
quiet_message node message (Opens n timestamping ∷ places) = quiet_message node message places
quiet_message node message (Lives p ∷ places) = quiet_message node message places
quiet_message node message (Ended k ∷ places) = quiet_message node message places

quiet_noise : (node : Node) (places : List Place) → flat_map (opens_at node Noise_comes) places ≡ []
quiet_noise node [] = refl
quiet_noise node (Opens n timestamping ∷ places) = quiet_noise node places
quiet_noise node (Lives p ∷ places) = quiet_noise node places
quiet_noise node (Ended k ∷ places) = quiet_noise node places

-- newcomers aren't live
new_rests : {State : Type 0} (by : Marker State) (grammar : Grammar) (node : Node) (input : Input) (boot : ℕ) (key : Key) (opened : ℕ) (places : List Place) (was now : KeyMarks) (old new : List Wire)
    → MarksPlace by grammar boot key 0 (place_at key (newcomers node input opened places)) was now old new → (now ≡ was) × (new ≡ old)
new_rests by grammar node (Message_comes message) boot key opened places was now old new m = m
new_rests by grammar node Noise_comes boot key opened places was now old new m = m
new_rests by grammar node Tick_comes boot key opened places was now old new m = m
new_rests by grammar node (Packet_comes segment) boot key opened places was now old new m =
    go (is_strange node segment places && is_syn segment && nat_lt (pending_count places) 64) m
  where
    one : (b : Bool) → MarksPlace by grammar boot key 0 (if b then Some (Opens (numbers_for node.profile node.isn opened segment) (timestamping_for node.profile segment)) else None) was now old new → (now ≡ was) × (new ≡ old)
    one true m = m
    one false m = m

    go : (b : Bool) → MarksPlace by grammar boot key 0 (place_at key (if b then Opens (numbers_for node.profile node.isn opened segment) (timestamping_for node.profile segment) ∷ [] else [])) was now old new → (now ≡ was) × (new ≡ old)
    go true m = one (key_eq (key_of (Opens (numbers_for node.profile node.isn opened segment) (timestamping_for node.profile segment))) key) m
    go false m = m

-- so nothing but the packets of the places is sent
rest_none : (node : Node) (input : Input) (key : Key) (opened : ℕ) (before went later : List Place) (q : Point) → is_tick_input input ≡ false → concerns node input key ≡ true → AreDistinct (map key_of went)
    → later ≡ went ++ newcomers node input opened before → (has_key key (map key_of before) ≡ false → has_key key (map key_of went) ≡ false) → place_at key went ≡ Some (Lives q)
    → refusals node input before ++ flat_map (opens_at node input) later ≡ []
rest_none node (Message_comes message) key opened before went later q still on d is keeps f = quiet_message node message later
rest_none node Noise_comes key opened before went later q still on d is keeps f = quiet_noise node later
rest_none node Tick_comes key opened before went later q still on d is keeps f = absurd (true≢false still)
rest_none node (Packet_comes segment) key opened before went later q still on d is keeps f =
    let same : source_of segment ≡ key = same_key (source_of segment) key (and_parts (is_for node.server segment) (key_eq (source_of segment) key) on).1 in
    let known : is_known key before ≡ true =
    by_cases (is_known key before) (λ yes. yes)
    (λ no. absurd (true≢false (sym (found_has_key key_of key went (Lives q) f) ∙ keeps (absent_key key_of key before no)))) in
    let strange : is_strange node segment before ≡ false =
    ap (λ k. is_for node.server segment && not (is_known k before)) same ∙ (ap (λ b. is_for node.server segment && not b) known ∙ and_false (is_for node.server segment)) in
    let none_new : newcomers node (Packet_comes segment) opened before ≡ [] =
    ap (λ b. if b && is_syn segment && nat_lt (pending_count before) 64 then Opens (numbers_for node.profile node.isn opened segment) (timestamping_for node.profile segment) ∷ [] else []) strange in
    let none_refused : refusals node (Packet_comes segment) before ≡ [] = if_false (is_strange node segment before) (map To_client (as_listen node.server segment)) [] strange in
    let later_is : later ≡ went = is ∙ (ap (λ l. went ++ l) none_new ∙ append-nil went) in
    ap₂ ◌++◌ none_refused (ap (flat_map (opens_at node (Packet_comes segment))) later_is
    ∙ live_asks node segment went q d (ap (λ k. place_at k went) same ∙ f))

either_none : {A : Type 0} (b : Bool) → ◌≡◌ {A = List A} (if b then [] else []) []
either_none true = refl
either_none false = refl

-- the turn, with what is then stored and sent
pub record ServedMarked {State : Type 0} (by : Marker State) (node : MarkedNode) (input : Input) (opened : ℕ) (before later : List Place) (now : KeyMarks) (new : List Wire) : Type 0 where
  pub marking : Key → Marking
  pub sent : List Outgoing
  pub turn : ServesMarked by node input opened before later marking sent
  pub keeps : Keeps by marking now
  pub settled : AllSettled by marking later
  pub out : AreOut (grammar_of node.plain.profile) sent [] new

module _ {State : Type 0} (by : Marker State) (node : MarkedNode) (input : Input) (key : Key) (only : (k : Key) → key_eq key k ≡ false → concerns node.plain input k ≡ false)
    (still : is_tick_input input ≡ false) (bytes : InputBytes input) where
  -- what holds of a place after its turn
  abbrev After : Place → Type 0
  After (Lives q) = IsSettledPoint by (if concerns node.plain input q.key then with_new by.service by.writing by.every q (node.marking q.key) else node.marking q.key) q
  After _ = Unit {0}

  kept_after : (place : Place) → IsSettledPlace by node.marking place → After place
  kept_after (Lives p) s =
      holds_if (λ m. IsSettledPoint by m p) (concerns node.plain input p.key) (with_new by.service by.writing by.every p (node.marking p.key)) (node.marking p.key)
      (λ on. settled_new by (node.marking p.key) p s) (λ off. s)
  kept_after (Opens n timestamping) s = tt
  kept_after (Ended k) s = tt

  turned_after : (news : News) (p q : Point) (sent : List Packet) → concerns node.plain input q.key ≡ true → NewsBytes news → HasBytes p
      → ConnectionTurn by.service node.plain.server node.plain.boot news p q sent → After (Lives q)
  turned_after news p q sent on b h t =
      subst (λ c. IsSettledPoint by (if c then with_new by.service by.writing by.every q (node.marking q.key) else node.marking q.key) q) (sym on)
      (turn_settled by node.plain news p q (node.marking q.key) sent b h t)

  went_after : (place : Place) (now : List Place) (sent : List Packet) → concerns node.plain input (key_of place) ≡ true → IsSettledPlace by node.marking place
      → PlaceWent by.service node.plain input place now sent → AllByRecursion After now
  went_after place now sent on s (stayed n _) = subst (AllByRecursion After) (sym n) (kept_after place s, tt)
  went_after place now sent on s (went_on news p q e i n t) =
      let at : IsSettledPoint by (node.marking p.key) p = subst (IsSettledPlace by node.marking) e s in
      let same : q.key ≡ key_of place = turn_key by node.plain news p q sent t ∙ sym (ap key_of e) in
      subst (AllByRecursion After) (sym n)
      (turned_after news p q sent (ap (concerns node.plain input) same ∙ on) (news_bytes node.plain input news p i bytes) (record { taken = at.taken; held = at.held }) t, tt)
  went_after place now sent on s (began asked kept timestamping q e h n t) =
      let same : q.key ≡ key_of place = turn_key by node.plain Begins (point_opened node.plain.profile timestamping kept) q sent t ∙ (h.key ∙ sym (ap key_of e)) in
      subst (AllByRecursion After) (sym n)
      (turned_after Begins (point_opened node.plain.profile timestamping kept) q sent (ap (concerns node.plain input) same ∙ on) tt (record { taken = tt; held = tt }) t, tt)
  went_after place now sent on s (dropped asked timestamping e d n _) = subst (AllByRecursion After) (sym n) tt
  went_after place now sent on s (ended p e h n _) = subst (AllByRecursion After) (sym n) (tt, tt)
  went_after place now sent on s (refused k segment e c same n _) = subst (AllByRecursion After) (sym n) (tt, tt)

  step_after : (place : Place) (now : List Place) (sent : List Packet) → IsSettledPlace by node.marking place → PlaceTurn by.service node.plain input place now sent
      → AllByRecursion After now × AllByRecursion (λ packet. Unit {0}) sent
  step_after place now sent s t = (
    by_cases (concerns node.plain input (key_of place)) (λ on. went_after place now sent on s (place_went by.service node.plain input place now sent t))
        (λ off. subst (AllByRecursion After) (sym (stays_of by node.plain input place now sent t off).0) (kept_after place s, tt)),
    units sent,
  )
    where
      units : (packets : List Packet) → AllByRecursion (λ packet. Unit {0}) packets
      units [] = tt
      units (packet ∷ packets) = (tt, units packets)

  -- the markings then
  abbrev then_in : List Place → Key → Marking
  then_in went k = if concerns node.plain input k then marking_then by (place_at k went) (node.marking k) else node.marking k

  settled_there : (went : List Place) (x : Place) → After x → place_at (key_of x) went ≡ Some x → IsSettledPlace by (then_in went) x
  settled_there went (Lives q) a f =
      subst (λ o. IsSettledPoint by (if concerns node.plain input q.key then marking_then by o (node.marking q.key) else node.marking q.key) q) (sym f) a
  settled_there went (Opens n timestamping) a f = tt
  settled_there went (Ended k) a f = tt

  all_settled : (went : List Place) → AreDistinct (map key_of went) → AllByRecursion After went → AllSettled by (then_in went) went
  all_settled went d all =
      all_from_get (IsSettledPlace by (then_in went)) went (λ i x e. settled_there went x (all_slice_get After went i x all e) (finds_itself key_of went i x d e))

  new_settled : (opened : ℕ) (before : List Place) (m : Key → Marking) → AllSettled by m (newcomers node.plain input opened before)
  new_settled opened before m = of_input input
    where
      of_input : (i : Input) → AllSettled by m (newcomers node.plain i opened before)
      of_input (Packet_comes segment) =
          holds_if (AllSettled by m) (is_strange node.plain segment before && is_syn segment && nat_lt (pending_count before) 64)
          (Opens (numbers_for node.plain.profile node.plain.isn opened segment) (timestamping_for node.plain.profile segment) ∷ []) [] (λ t. (tt, tt)) (λ t. tt)
      of_input (Message_comes message) = tt
      of_input Noise_comes = tt
      of_input Tick_comes = tt

  -- which places, marks and packets
  module _ (opened : ℕ) (before later : List Place) (packets : List Packet) (apart : AreDistinct (map key_of before)) (ok : AllSettled by node.marking before)
      (t : ServingTurn by.service node.plain input opened before later packets) where
    keeping : (place : Place) (now : List Place) (sent : List Packet) → PlaceTurn by.service node.plain input place now sent → KeepsKey place now
    keeping place now sent x = keeps_key by.service node.plain input place now sent (place_went by.service node.plain input place now sent x)

    went_apart : AreDistinct (map key_of t.went)
    went_apart = distinct_proceeds (PlaceTurn by.service node.plain input) keeping before t.went t.by_places t.all_go apart

    went_well : AllByRecursion After t.went
    went_well = (all_proceed (PlaceTurn by.service node.plain input) (IsSettledPlace by node.marking) After (λ packet. Unit {0}) step_after before t.went t.by_places ok t.all_go).0

    later_settled : AllSettled by (then_in t.went) later
    later_settled =
        subst (AllSettled by (then_in t.went)) (sym t.places)
        (all_append (IsSettledPlace by (then_in t.went)) t.went (newcomers node.plain input opened before) (all_settled t.went went_apart went_well) (new_settled opened before (then_in t.went)))

    -- the marks of the places
    abbrev marks_in : Place → List Outgoing
    marks_in place = marks_if by node.plain input (λ x. marks_at by node.plain.boot (is_tick_input input) node.marking x) place

    abbrev rest : List Packet
    rest = refusals node.plain input before ++ flat_map (opens_at node.plain input) later

    serves_with : (ms : List Outgoing) → flat_map marks_in t.went ≡ ms
        → ServesMarked by node input opened before later (then_in t.went) (with_marks (length (filter is_done t.by_places)) ms t.by_places ++ map Plain (refusals node.plain input before ++ flat_map (opens_at node.plain input) later))
    serves_with ms is = record {
      went = t.went;
      by_places = with_marks (length (filter is_done t.by_places)) ms t.by_places;
      all_go = subst (λ l. AllGoMarked (GoesMarked (PlaceTurn by.service node.plain input) marks_in) before t.went (with_marks (length (filter is_done t.by_places)) l t.by_places)) is
          (one_marked by node.plain input (λ x. marks_at by node.plain.boot (is_tick_input input) node.marking x) key only before t.went t.by_places apart t.all_go);
      places = t.places;
      marking_is = refl;
      packets = refl;
    }

    plain_all : (mid new : List Wire) → mid ≡ map (wire_by (grammar_of node.plain.profile)) packets → AllByRecursion (HasWireBy (grammar_of node.plain.profile)) packets → new ≡ mid
        → AreOut (grammar_of node.plain.profile) (with_marks (length (filter is_done t.by_places)) [] t.by_places ++ map Plain (refusals node.plain input before ++ flat_map (opens_at node.plain input) later)) [] new
    plain_all mid new sent_is spelled same =
        subst (λ l. AreOut (grammar_of node.plain.profile) l [] new)
        (ap (map Plain) t.packets ∙ (map-append Plain t.by_places rest ∙ ap (λ l. l ++ map Plain rest) (sym (plain_map (length (filter is_done t.by_places)) t.by_places))))
        (plain_out (grammar_of node.plain.profile) packets [] new (same ∙ sent_is) spelled)

    marks_of_key : flat_map marks_in t.went ≡ option_map_or marks_in (place_at key t.went) []
    marks_of_key = marks_are by node.plain input (λ x. marks_at by node.plain.boot (is_tick_input input) node.marking x) key only t.went went_apart

    -- where the key is live
    module _ (q : Point) (f : place_at key t.went ≡ Some (Lives q)) where
      key_is : q.key ≡ key
      key_is = same_key q.key key (found_passes (λ x. key_eq (key_of x) key) t.went (Lives q) f)

      well : After (Lives q)
      well = all_find After (λ x. key_eq (key_of x) key) t.went (Lives q) went_well f

      pub taken_bytes : AreBytes q.taken
      taken_bytes = well.taken

      not_due : concerns node.plain input q.key ≡ false → is_due by.service by.every (node.marking q.key) q ≡ false
      not_due off =
          (subst (λ c. IsSettledPoint by (if c then with_new by.service by.writing by.every q (node.marking q.key) else node.marking q.key) q) off well).settled.marked

      abbrev its_marks : List Mark
      its_marks = new_marks by.service by.writing by.every (node.marking q.key) q

      live_marks : flat_map marks_in t.went ≡ marks_out node.plain.boot q its_marks
      live_marks =
          marks_of_key ∙ (ap (λ o. option_map_or marks_in o []) f
          ∙ by_cases (concerns node.plain input q.key)
          (λ on. ap (λ c. if c then marks_at by node.plain.boot (is_tick_input input) node.marking (Lives q) else []) on ∙ ap (λ b. marks_at by node.plain.boot b node.marking (Lives q)) still)
          (λ off. ap (λ c. if c then marks_at by node.plain.boot (is_tick_input input) node.marking (Lives q) else []) off
          ∙ sym (ap (marks_out node.plain.boot q) (new_none by (node.marking q.key) q (not_due off)))))

      live_then : (k : Key) → then_in t.went k ≡ (if key_eq k key then with_new by.service by.writing by.every q (node.marking key) else node.marking k)
      live_then k =
          by_cases (key_eq k key)
          (λ same.
          ap (then_in t.went) (same_key k key same)
          ∙ (its_then ∙ sym (ap (λ b. if b then with_new by.service by.writing by.every q (node.marking key) else node.marking k) same)))
          (λ other.
          if_false (concerns node.plain input k) (marking_then by (place_at k t.went) (node.marking k)) (node.marking k) (only k (key_eq_turns k key other))
          ∙ sym (ap (λ b. if b then with_new by.service by.writing by.every q (node.marking key) else node.marking k) other))
        where
          its_then : then_in t.went key ≡ with_new by.service by.writing by.every q (node.marking key)
          its_then =
              ap (λ o. if concerns node.plain input key then marking_then by o (node.marking key) else node.marking key) f
              ∙ by_cases (concerns node.plain input key)
              (λ on. ap (λ b. if b then with_new by.service by.writing by.every q (node.marking key) else node.marking key) on)
              (λ off. ap (λ b. if b then with_new by.service by.writing by.every q (node.marking key) else node.marking key) off
              ∙ sym (new_same by (node.marking key) q
              (subst (λ x. is_due by.service by.every (node.marking x) q ≡ false) key_is (not_due (ap (concerns node.plain input) key_is ∙ off)))))

      live_out : (was now : KeyMarks) (mid new : List Wire) → mid ≡ map (wire_by (grammar_of node.plain.profile)) packets → AllByRecursion (HasWireBy (grammar_of node.plain.profile)) packets → Keeps by node.marking was → MarksNew by (grammar_of node.plain.profile) node.plain.boot key q was now 0 mid new
          → AreOut (grammar_of node.plain.profile) (with_marks (length (filter is_done t.by_places)) (marks_out node.plain.boot q its_marks) t.by_places ++ map Plain rest) [] new
      live_out was now mid new sent_is spelled keeps m =
          let marking_is : marking_in was key ≡ node.marking q.key = keeps.each key ∙ ap node.marking (sym key_is) in
          let sends : SendsMarks (grammar_of node.plain.profile) node.plain.boot key 0 its_marks mid new =
          subst (λ x. SendsMarks (grammar_of node.plain.profile) node.plain.boot key 0 (new_marks by.service by.writing by.every x q) mid new) marking_is m.sends in
          by_cases (concerns node.plain input key)
          (λ on.
          let none : rest ≡ [] =
          rest_none node.plain input key opened before t.went later q still on went_apart t.places
          (λ absent. no_key_after (PlaceTurn by.service node.plain input) keeping key before t.went t.by_places t.all_go absent) f in
          let all : packets ≡ t.by_places = t.packets ∙ (ap (λ l. t.by_places ++ l) none ∙ append-nil t.by_places) in
          subst (λ l. AreOut (grammar_of node.plain.profile) l [] new)
          (sym (ap (λ l. with_marks (length (filter is_done t.by_places)) (marks_out node.plain.boot q its_marks) t.by_places ++ map Plain l) none ∙ append-nil _))
          (put_out (grammar_of node.plain.profile) node.plain.boot key q its_marks t.by_places [] mid new key_is (sent_is ∙ ap (map (wire_by (grammar_of node.plain.profile))) all) (subst (AllByRecursion (HasWireBy (grammar_of node.plain.profile))) all spelled) sends))
          (λ off.
          let nothing : its_marks ≡ [] = new_none by (node.marking q.key) q (not_due (ap (concerns node.plain input) key_is ∙ off)) in
          subst (λ ms. AreOut (grammar_of node.plain.profile) (with_marks (length (filter is_done t.by_places)) (marks_out node.plain.boot q ms) t.by_places ++ map Plain rest) [] new) (sym nothing)
          (plainly mid new sent_is spelled (unmarked mid new (subst (λ ms. SendsMarks (grammar_of node.plain.profile) node.plain.boot key 0 ms mid new) nothing sends))))
        where
          unmarked : (mid new : List Wire) → SendsMarks (grammar_of node.plain.profile) node.plain.boot key 0 [] mid new → new ≡ mid
          unmarked mid new s = s.wires ∙ take-append-drop _ mid

          plainly : (mid new : List Wire) → mid ≡ map (wire_by (grammar_of node.plain.profile)) packets → AllByRecursion (HasWireBy (grammar_of node.plain.profile)) packets → new ≡ mid
              → AreOut (grammar_of node.plain.profile) (with_marks (length (filter is_done t.by_places)) [] t.by_places ++ map Plain rest) [] new
          plainly mid new sent_is spelled same = plain_all mid new sent_is spelled same

      serves_live : (was now : KeyMarks) (mid new : List Wire) → mid ≡ map (wire_by (grammar_of node.plain.profile)) packets → AllByRecursion (HasWireBy (grammar_of node.plain.profile)) packets → Keeps by node.marking was → MarksNew by (grammar_of node.plain.profile) node.plain.boot key q was now 0 mid new
          → ServedMarked by node input opened before later now new
      serves_live was now mid new sent_is spelled keeps m = record {
        marking = then_in t.went;
        sent = with_marks (length (filter is_done t.by_places)) (marks_out node.plain.boot q its_marks) t.by_places ++ map Plain rest;
        turn = serves_with (marks_out node.plain.boot q its_marks) live_marks;
        keeps = record {
          every = m.changes.every ∙ keeps.every;
          each = λ k. m.changes.marking k
              ∙ ((λ j. if key_eq k key then with_new by.service by.writing by.every q (keeps.each key j) else keeps.each k j) ∙ sym (live_then k));
        };
        settled = later_settled;
        out = live_out was now mid new sent_is spelled keeps m;
      }

    -- where it isn't
    serves_quiet : (was now : KeyMarks) (mid new : List Wire) → mid ≡ map (wire_by (grammar_of node.plain.profile)) packets → AllByRecursion (HasWireBy (grammar_of node.plain.profile)) packets → Keeps by node.marking was → flat_map marks_in t.went ≡ []
        → ((k : Key) → then_in t.went k ≡ node.marking k) → (now ≡ was) × (new ≡ mid) → ServedMarked by node input opened before later now new
    serves_quiet was now mid new sent_is spelled keeps dead same (unchanged, unsent) = record {
      marking = then_in t.went;
      sent = with_marks (length (filter is_done t.by_places)) [] t.by_places ++ map Plain rest;
      turn = serves_with [] dead;
      keeps = record {
        every = ap (λ (k : KeyMarks). k.every) unchanged ∙ keeps.every;
        each = λ k. ap (λ n. marking_in n k) unchanged ∙ (keeps.each k ∙ sym (same k));
      };
      settled = later_settled;
      out = plain_all mid new sent_is spelled unsent;
    }

    quiet_then : ((m : Marking) → marking_then by (place_at key t.went) m ≡ m) → (k : Key) → then_in t.went k ≡ node.marking k
    quiet_then rests k =
        by_cases (key_eq k key)
        (λ at. ap (then_in t.went) (same_key k key at)
        ∙ (holds_if (λ m. m ≡ node.marking key) (concerns node.plain input key) (marking_then by (place_at key t.went) (node.marking key)) (node.marking key) (λ on. rests (node.marking key)) (λ off. refl)
        ∙ ap node.marking (sym (same_key k key at))))
        (λ other. if_false (concerns node.plain input k) (marking_then by (place_at k t.went) (node.marking k)) (node.marking k) (only k (key_eq_turns k key other)))

    pub serves_one : (was now : KeyMarks) (mid new : List Wire) → mid ≡ map (wire_by (grammar_of node.plain.profile)) packets → AllByRecursion (HasWireBy (grammar_of node.plain.profile)) packets → Keeps by node.marking was
        → MarksPlace by (grammar_of node.plain.profile) node.plain.boot key 0 (place_at key later) was now mid new → ServedMarked by node input opened before later now new
    serves_one was now mid new sent_is spelled keeps m = go (place_at key t.went) refl
      where
        later_at : (o : Option Place) → place_at key t.went ≡ o → place_at key later ≡ place_at key (t.went ++ newcomers node.plain input opened before)
        later_at o e = ap (place_at key) t.places

        dead_place : (place : Place) → marks_at by node.plain.boot (is_tick_input input) node.marking place ≡ [] → place_at key t.went ≡ Some place → flat_map marks_in t.went ≡ []
        dead_place place none e =
            marks_of_key ∙ (ap (λ o. option_map_or marks_in o []) e ∙ holds_if (λ l. l ≡ []) (concerns node.plain input (key_of place)) (marks_at by node.plain.boot (is_tick_input input) node.marking place) [] (λ on. none) (λ off. refl))

        go : (o : Option Place) → place_at key t.went ≡ o → ServedMarked by node input opened before later now new
        go (Some (Lives q)) e =
            serves_live q e was now mid new sent_is spelled keeps
            (subst (λ o. MarksPlace by (grammar_of node.plain.profile) node.plain.boot key 0 o was now mid new) (later_at (Some (Lives q)) e ∙ found_in key t.went (newcomers node.plain input opened before) (Lives q) e) m (taken_bytes q e))
        go (Some (Opens n timestamping)) e =
            serves_quiet was now mid new sent_is spelled keeps (dead_place (Opens n timestamping) refl e) (quiet_then (λ x. ap (λ o. marking_then by o x) e))
            (subst (λ o. MarksPlace by (grammar_of node.plain.profile) node.plain.boot key 0 o was now mid new) (later_at (Some (Opens n timestamping)) e ∙ found_in key t.went (newcomers node.plain input opened before) (Opens n timestamping) e) m)
        go (Some (Ended k)) e =
            serves_quiet was now mid new sent_is spelled keeps (dead_place (Ended k) refl e) (quiet_then (λ x. ap (λ o. marking_then by o x) e))
            (subst (λ o. MarksPlace by (grammar_of node.plain.profile) node.plain.boot key 0 o was now mid new) (later_at (Some (Ended k)) e ∙ found_in key t.went (newcomers node.plain input opened before) (Ended k) e) m)
        go None e =
            serves_quiet was now mid new sent_is spelled keeps (marks_of_key ∙ ap (λ o. option_map_or marks_in o []) e) (quiet_then (λ x. ap (λ o. marking_then by o x) e))
            (new_rests by (grammar_of node.plain.profile) node.plain input node.plain.boot key opened before was now mid new
            (subst (λ o. MarksPlace by (grammar_of node.plain.profile) node.plain.boot key 0 o was now mid new) (later_at None e ∙ found_behind key t.went (newcomers node.plain input opened before) e) m))
