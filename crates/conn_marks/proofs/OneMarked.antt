-- A turn that concerns one key alone: the mark of its place stands among its packets, and all others stay.
use Rattle.std.proofs.Common.{◌≡◌, ◌∙◌, Bool, true, false, true≢false, ◌&&◌, ◌==◌, refl, sym, ap, ap₂, subst, Some, None, List, [], ◌∷◌, ◌++◌, map, filter, flat_map, length, append-nil, arith, if◌then◌else◌}
use Rattle.std.specs.Bool.{MatchBool}
use Rattle.std.specs.Option.{option_map_or, is_some}
use Rattle.std.proofs.lemmas.Bool.{or_parts}
use Rattle.std.proofs.lemmas.Grind.{flat_map-append}
use Rattle.ft_io.specs.declared.Key.{Key}
use Rattle.ft_io.specs.Key.{key_eq}
use Rattle.ft_io.proofs.Choices.{by_cases, if_false}
use Rattle.seq_arith.specs.Packet.{Segment}
use Rattle.ft_model.specs.Network.{Packet, source_of}
use Rattle.ft_model.specs.Node.{Node, Place, Input, key_of, place_at, is_for}
use Rattle.ft_model.specs.Node.Place.{Opens, Lives, Ended}
use Rattle.ft_model.specs.Node.Input.{Packet_comes}
use Rattle.ft_model.specs.Opening.{is_syn}
use Rattle.ft_model.specs.Point.{Point}
use Rattle.ft_model.specs.ServingTurn.{PlaceTurn, AllGo, Stays, Meets, concerns, opens_at, is_asked}
use Rattle.ft_model.specs.Keys.{AreDistinct, has_key}
use Rattle.ft_model.proofs.Keys.{key_eq_turns}
use Rattle.ft_model.proofs.Lists.{same_key, some_is}
use Rattle.mark_laws.specs.Marking.{Outgoing, with_marks}
use Rattle.mark_laws.specs.MarkedNode.{Marker, GoesMarked, AllGoMarked, is_done}

pub stays_of : {State : Type 0} (by : Marker State) (node : Node) (input : Input) (place : Place) (now : List Place) (sent : List Packet)
    → PlaceTurn by.service node input place now sent → concerns node input (key_of place) ≡ false → Stays place now sent
stays_of by node input place now sent t off = subst (λ b. MatchBool b (Meets by.service node input place now sent) (Stays place now sent)) off t

pub place_stays : {State : Type 0} (by : Marker State) (node : Node) (input : Input) (place : Place) → concerns node input (key_of place) ≡ false → PlaceTurn by.service node input place (place ∷ []) []
place_stays by node input place off =
    subst (λ b. MatchBool b (Meets by.service node input place (place ∷ []) []) (Stays place (place ∷ []) [])) (sym off) (refl, refl)

-- what is found of a key
pub found_here : (key : Key) (place : Place) (places : List Place) → key_eq (key_of place) key ≡ true → place_at key (place ∷ places) ≡ Some place
found_here key place places same = ap (λ b. if b then Some place else place_at key places) same

pub found_there : (key : Key) (place : Place) (places : List Place) → key_eq (key_of place) key ≡ false → place_at key (place ∷ places) ≡ place_at key places
found_there key place places other = ap (λ b. if b then Some place else place_at key places) other

pub found_in : (key : Key) (xs ys : List Place) (place : Place) → place_at key xs ≡ Some place → place_at key (xs ++ ys) ≡ Some place
found_in key [] ys place e = absurd (true≢false (sym (ap is_some e)))
found_in key (x ∷ xs) ys place e =
    by_cases (key_eq (key_of x) key)
    (λ on. found_here key x (xs ++ ys) on ∙ (sym (found_here key x xs on) ∙ e))
    (λ off. found_there key x (xs ++ ys) off ∙ found_in key xs ys place (sym (found_there key x xs off) ∙ e))

pub found_behind : (key : Key) (xs ys : List Place) → place_at key xs ≡ None → place_at key (xs ++ ys) ≡ place_at key ys
found_behind key [] ys e = refl
found_behind key (x ∷ xs) ys e =
    by_cases (key_eq (key_of x) key)
    (λ on. absurd (true≢false (ap is_some (sym (found_here key x xs on) ∙ e))))
    (λ off. found_there key x (xs ++ ys) off ∙ found_behind key xs ys (sym (found_there key x xs off) ∙ e))

module _ {State : Type 0} (by : Marker State) (node : Node) (input : Input) (Marks : Place → List Outgoing) where
  -- the marks of the places that the input concerns
  abbrev pub marks_if : Place → List Outgoing
  marks_if place = if concerns node input (key_of place) then Marks place else []

  if_off : (place : Place) → concerns node input (key_of place) ≡ false → marks_if place ≡ []
  if_off place off = if_false (concerns node input (key_of place)) (Marks place) [] off

  module _ (key : Key) (only : (k : Key) → key_eq key k ≡ false → concerns node input k ≡ false) where
    off_of : (place : Place) → key_eq (key_of place) key ≡ false → concerns node input (key_of place) ≡ false
    off_of place other = only (key_of place) (key_eq_turns (key_of place) key other)

    none_marked : (places : List Place) → has_key key (map key_of places) ≡ false → flat_map marks_if places ≡ []
    none_marked [] h = refl
    none_marked (place ∷ places) h =
        let parts = or_parts (key_eq (key_of place) key) (has_key key (map key_of places)) h in
        ap₂ ◌++◌ (if_off place (off_of place parts.0)) (none_marked places parts.1)

    stay_all : (places after : List Place) (sent : List Packet) → AllGo (PlaceTurn by.service node input) places after sent → has_key key (map key_of places) ≡ false → (after ≡ places) × (sent ≡ [])
    stay_all [] after sent t h = (t.0, t.1)
    stay_all (place ∷ places) after sent (now, later, first, others, places_are, sent_is, goes, rest) h =
        let parts = or_parts (key_eq (key_of place) key) (has_key key (map key_of places)) h in
        let s : Stays place now first = stays_of by node input place now first goes (off_of place parts.0) in
        let r = stay_all places later others rest parts.1 in
        (places_are ∙ ap₂ ◌++◌ s.0 r.0, sent_is ∙ ap₂ ◌++◌ s.1 r.1)

    stay_marked : (places : List Place) → has_key key (map key_of places) ≡ false → AllGoMarked (GoesMarked (PlaceTurn by.service node input) marks_if) places places []
    stay_marked [] h = (refl, refl)
    stay_marked (place ∷ places) h =
        let parts = or_parts (key_eq (key_of place) key) (has_key key (map key_of places)) h in
        let off = off_of place parts.0 in (
          place ∷ [],
          places,
          [],
          [],
          refl,
          refl,
          record { packets = []; goes = place_stays by node input place off; sent_are = sym (append-nil (marks_if place ++ []) ∙ (append-nil (marks_if place) ∙ if_off place off)) },
          stay_marked places parts.1,
        )

    -- all the marks of the turn stand in one place among its packets
    pub one_marked : (before after : List Place) (sent : List Packet) → AreDistinct (map key_of before) → AllGo (PlaceTurn by.service node input) before after sent
        → AllGoMarked (GoesMarked (PlaceTurn by.service node input) marks_if) before after (with_marks (length (filter is_done sent)) (flat_map marks_if after) sent)
    one_marked [] after sent d t = (t.0, λ j. with_marks (length (filter is_done (t.1 j))) (flat_map marks_if (t.0 j)) (t.1 j))
    one_marked (place ∷ places) after sent d (now, later, first, others, places_are, sent_is, goes, rest) =
        by_cases (key_eq (key_of place) key)
        (λ same.
        let is : key_of place ≡ key = same_key (key_of place) key same in
        let absent : has_key key (map key_of places) ≡ false = subst (λ k. has_key k (map key_of places) ≡ false) is d.0 in
        let r = stay_all places later others rest absent in
        let none : flat_map marks_if later ≡ [] = ap (flat_map marks_if) r.0 ∙ none_marked places absent in
        let sent_first : sent ≡ first = sent_is ∙ (ap (λ l. first ++ l) r.1 ∙ append-nil first) in
        let marks_first : flat_map marks_if after ≡ flat_map marks_if now =
        ap (flat_map marks_if) places_are ∙ (flat_map-append marks_if now later ∙ (ap (λ l. flat_map marks_if now ++ l) none ∙ append-nil (flat_map marks_if now))) in (
          now,
          later,
          with_marks (length (filter is_done first)) (flat_map marks_if now) first,
          [],
          places_are,
          (λ j. with_marks (length (filter is_done (sent_first j))) (marks_first j) (sent_first j)) ∙ sym (append-nil _),
          record { packets = first; goes = goes; sent_are = refl },
          subst (λ l. AllGoMarked (GoesMarked (PlaceTurn by.service node input) marks_if) places l []) (sym r.0) (stay_marked places absent),
        ))
        (λ other.
        let off = off_of place other in
        let s : Stays place now first = stays_of by node input place now first goes off in
        let sent_others : sent ≡ others = sent_is ∙ ap (λ l. l ++ others) s.1 in
        let marks_later : flat_map marks_if after ≡ flat_map marks_if later =
        ap (flat_map marks_if) (places_are ∙ ap (λ l. l ++ later) s.0) ∙ ap (λ l. l ++ flat_map marks_if later) (if_off place off) in (
          place ∷ [],
          later,
          [],
          with_marks (length (filter is_done others)) (flat_map marks_if later) others,
          places_are ∙ ap (λ l. l ++ later) s.0,
          λ j. with_marks (length (filter is_done (sent_others j))) (marks_later j) (sent_others j),
          record { packets = []; goes = place_stays by node input place off; sent_are = sym (append-nil (marks_if place ++ []) ∙ (append-nil (marks_if place) ∙ if_off place off)) },
          one_marked places later others d.1 rest,
        ))

    -- they are those of the key's place
    pub marks_are : (places : List Place) → AreDistinct (map key_of places) → flat_map marks_if places ≡ option_map_or marks_if (place_at key places) []
    marks_are [] d = refl
    marks_are (place ∷ places) d =
        by_cases (key_eq (key_of place) key)
        (λ same.
        let is : key_of place ≡ key = same_key (key_of place) key same in
        ap (λ l. marks_if place ++ l) (none_marked places (subst (λ k. has_key k (map key_of places) ≡ false) is d.0))
        ∙ (append-nil (marks_if place) ∙ sym (ap (λ o. option_map_or marks_if o []) (found_here key place places same))))
        (λ other. ap (λ l. l ++ flat_map marks_if places) (if_off place (off_of place other))
        ∙ (marks_are places d.1 ∙ sym (ap (λ o. option_map_or marks_if o []) (found_there key place places other))))

-- what else is sent where the input's key is live: nothing

four_off : (a b c d : Bool) → c ≡ false → (a && b && c && d) ≡ false
four_off a b c d h = grind (arith, h)

other_asks : (node : Node) (segment : Segment) (place : Place) → key_eq (key_of place) (source_of segment) ≡ false → opens_at node (Packet_comes segment) place ≡ []
other_asks node segment (Opens n timestamping) h =
    if_false (is_asked node (Packet_comes segment) n) _ []
    (four_off (is_for node.server segment) (is_syn segment) (key_eq (source_of segment) n.key) (segment.head.seq == n.cisn) (key_eq_turns n.key (source_of segment) h))
other_asks node segment (Lives p) h = refl
other_asks node segment (Ended k) h = refl

absent_asks : (node : Node) (segment : Segment) (places : List Place) → has_key (source_of segment) (map key_of places) ≡ false → flat_map (opens_at node (Packet_comes segment)) places ≡ []
absent_asks node segment [] h = refl
absent_asks node segment (place ∷ places) h =
    let parts = or_parts (key_eq (key_of place) (source_of segment)) (has_key (source_of segment) (map key_of places)) h in
    ap₂ ◌++◌ (other_asks node segment place parts.0) (absent_asks node segment places parts.1)

pub live_asks : (node : Node) (segment : Segment) (places : List Place) (p : Point) → AreDistinct (map key_of places) → place_at (source_of segment) places ≡ Some (Lives p)
    → flat_map (opens_at node (Packet_comes segment)) places ≡ []
live_asks node segment [] p d e = refl
live_asks node segment (place ∷ places) p d e =
    by_cases (key_eq (key_of place) (source_of segment))
    (λ same.
    let is : key_of place ≡ source_of segment = same_key (key_of place) (source_of segment) same in
    let it : place ≡ Lives p = some_is place (Lives p) (sym (found_here (source_of segment) place places same) ∙ e) in
    ap₂ ◌++◌ (ap (opens_at node (Packet_comes segment)) it) (absent_asks node segment places (subst (λ k. has_key k (map key_of places) ≡ false) is d.0)))
    (λ other.
    ap₂ ◌++◌ (other_asks node segment place other) (live_asks node segment places p d.1 (sym (found_there (source_of segment) place places other) ∙ e)))
