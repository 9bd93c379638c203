-- The turns of all places, from the turn of each.
use Rattle.std.proofs.Common.{◌≡◌, ◌∙◌, ℕ, suc, ◌+◌, ◌-◌, ◌<◌, ◌≤◌, Bool, true, false, refl, sym, ap, ap₂, subst, arith, List, [], ◌∷◌, ◌++◌, map, length, take, drop, get_or, Option, append_assoc, append-nil}
use Rattle.std.specs.List.{remove, flat_map}
use Rattle.std.specs.Option.{option_to_list}
use Rattle.std.proofs.Math.ListN.{set}
use Rattle.std.proofs.Math.Seq.{split_at, drop-append_seam, take-append_seam}
use Rattle.std.proofs.lemmas.List.{map-append, length-map, length-append, length-take-le, nil_from_length, set_at}
use Rattle.std.proofs.lemmas.List.Edits.{remove-append_right}
use Rattle.server_trait.specs.Service.{Machine}
use Rattle.ft_model.specs.Lawful.{StageTurn}
use Rattle.ft_model.specs.Network.{Packet}
use Rattle.ft_model.specs.Node.{Node, Place, Input}
use Rattle.ft_model.specs.Node.Stage.{Serving}
use Rattle.ft_model.specs.ServingTurn.{PlaceTurn, AllGo, ServingTurn, newcomers, refusals, opens_at}
use Rattle.ft_model.specs.Wire.{Wire}
use Rattle.plain_packets.specs.Sent.{Appends}
use Rattle.plain_packets.proofs.Sent.{appends_none, appends_both}
use Rattle.plain_world.specs.declared.place.PlainPlace.{PlainPlace}
use Rattle.plain_world.specs.NodeTurns.{SendsBy, OneGoes, FirstGo}
use Rattle.plain_world.specs.Values.{place_in, places_in, left_in}

-- a list, cut at one of its elements
cut_at : {A : Type 0} (xs : List A) (i : ℕ) (x : A) → i < length xs → x ≡ get_or xs i x → xs ≡ take i xs ++ x ∷ drop (suc i) xs
cut_at xs i x lt is = split_at xs i x lt ∙ ap (λ y. take i xs ++ y ∷ drop (suc i) xs) (sym is)

taken : {A : Type 0} (xs : List A) (i : ℕ) → i < length xs → length (take i xs) ≡ i
taken xs i lt = length-take-le i xs (omega (arith, lt))

set_there : {A : Type 0} (xs : List A) (i : ℕ) (x y : A) → i < length xs → x ≡ get_or xs i x → set xs i y ≡ take i xs ++ y ∷ drop (suc i) xs
set_there xs i x y lt is = ap (λ l. set l i y) (cut_at xs i x lt is) ∙ set_at (take i xs) x (drop (suc i) xs) y i (taken xs i lt)

remove_at : {A : Type 0} (front : List A) (y : A) (rest : List A) (i : ℕ) → length front ≡ i → remove (front ++ y ∷ rest) i ≡ front ++ rest
remove_at front y rest i n =
    let none : i - i ≡ 0 = omega arith in
    let few : i ≤ i = omega arith in
    remove-append_right front (y ∷ rest) i i n few ∙ ap (λ k. front ++ remove (y ∷ rest) k) none

-- two cuts of one list at the same place
same_front : {A : Type 0} (front other xs ys : List A) → length front ≡ length other → front ++ xs ≡ other ++ ys → front ≡ other
same_front front other xs ys n e = sym (take-append_seam front xs) ∙ (ap₂ take n e ∙ take-append_seam other ys)

same_rest : {A : Type 0} (front other xs ys : List A) → length front ≡ length other → front ++ xs ≡ other ++ ys → xs ≡ ys
same_rest front other xs ys n e = sym (drop-append_seam front xs) ∙ (ap₂ drop n e ∙ drop-append_seam other ys)

-- one place more
pub proceed : (Goes : Place → List Place → List Packet → Type 0) (done went now : List Place) (packets more : List Packet) (place : Place) → AllGo Goes done went packets
    → Goes place now more → AllGo Goes (done ++ place ∷ []) (went ++ now) (packets ++ more)
proceed Goes [] went now packets more place go g =
    (now, [], more, [], ap (λ xs. xs ++ now) go.0 ∙ sym (append-nil now), ap (λ xs. xs ++ more) go.1 ∙ sym (append-nil more), g, (refl, refl))
proceed Goes (d ∷ done) went now packets more place (first, later, sent, others, w, p, g, rest) h = (
  first,
  later ++ now,
  sent,
  others ++ more,
  ap (λ xs. xs ++ now) w ∙ append_assoc first later now,
  ap (λ xs. xs ++ more) p ∙ append_assoc sent others more,
  g,
  proceed Goes done later now others more place rest h,
)

pub sends_on : (Goes : Place → List Place → List Packet → Type 0) (done went now : List Place) (place : Place) (old mid new : List Wire)
    → SendsBy (AllGo Goes done went) old mid → SendsBy (Goes place now) mid new → SendsBy (AllGo Goes (done ++ place ∷ []) (went ++ now)) old new
sends_on Goes done went now place old mid new go g = record {
  sent = go.sent ++ g.sent;
  lawful = proceed Goes done went now go.sent g.sent place go.lawful g.lawful;
  packets = appends_both go.packets g.packets;
}

module _ {S : Type 0} (service : Machine S) (node : Node) (input : Input) where
  pub one_stays : (places : List (PlainPlace S)) (i : ℕ) (x y : PlainPlace S) (stays : Bool) (old new : List Wire) → i < length places → x ≡ get_or places i x → stays ≡ true
      → SendsBy (PlaceTurn service node input (place_in x) (left_in stays y)) old new → OneGoes service node input i (i + 1) places (set places i y) old new
  one_stays places i x y stays old new lt is stay h = record {
    place = x;
    earlier = take i places;
    now = y ∷ [];
    later = drop (suc i) places;
    counted = taken places i lt;
    was = cut_at places i x lt is;
    became = set_there places i x y lt is;
    next_is = refl;
    goes = subst (λ b. SendsBy (PlaceTurn service node input (place_in x) (left_in b y)) old new) stay h;
  }

  pub one_leaves : (places after : List (PlainPlace S)) (i : ℕ) (x y : PlainPlace S) (stays : Bool) (old new : List Wire) → i < length places → x ≡ get_or places i x → stays ≡ false
      → after ≡ remove (set places i y) i → SendsBy (PlaceTurn service node input (place_in x) (left_in stays y)) old new
      → OneGoes service node input i i places after old new
  one_leaves places after i x y stays old new lt is stay left h =
      record {
        place = x;
        earlier = take i places;
        now = [];
        later = drop (suc i) places;
        counted = taken places i lt;
        was = cut_at places i x lt is;
        became = left ∙ (ap (λ l. remove l i) (set_there places i x y lt is) ∙ remove_at (take i places) y (drop (suc i) places) i (taken places i lt));
        next_is = omega arith;
        goes = subst (λ b. SendsBy (PlaceTurn service node input (place_in x) (left_in b y)) old new) stay h;
      }

  pub none_went : (places : List (PlainPlace S)) (wires : List Wire) → FirstGo service node input 0 places places wires wires
  none_went places wires = record {
    done = [];
    went = [];
    left = places;
    counted = refl;
    was = refl;
    became = refl;
    go = record { sent = []; lawful = (refl, refl); packets = appends_none wires };
  }

  pub first_more : (before now after : List (PlainPlace S)) (at next : ℕ) (old mid new : List Wire) → FirstGo service node input at before now old mid
      → OneGoes service node input at next now after mid new → FirstGo service node input next before after old new
  first_more before now after at next old mid new f o =
      let cut : f.went ++ f.left ≡ o.earlier ++ o.place ∷ o.later = sym f.became ∙ o.was in
      let same : f.went ≡ o.earlier = same_front f.went o.earlier f.left (o.place ∷ o.later) (f.counted ∙ sym o.counted) cut in
      let left : f.left ≡ o.place ∷ o.later = same_rest f.went o.earlier f.left (o.place ∷ o.later) (f.counted ∙ sym o.counted) cut in record {
        done = f.done ++ o.place ∷ [];
        went = f.went ++ o.now;
        left = o.later;
        counted = length-append f.went o.now ∙ (ap (λ n. n + length o.now) f.counted ∙ sym o.next_is);
        was = f.was ∙ (ap (λ l. f.done ++ l) left ∙ sym (append_assoc f.done (o.place ∷ []) o.later));
        became = o.became ∙ (ap (λ l. l ++ (o.now ++ o.later)) (sym same) ∙ sym (append_assoc f.went o.now o.later));
        go = subst (λ (p : List Place × List Place). SendsBy (AllGo (PlaceTurn service node input) p.0 p.1) old new)
            (λ i. (sym (map-append place_in f.done (o.place ∷ [])) i, sym (map-append place_in f.went o.now) i))
            (sends_on (PlaceTurn service node input) (places_in f.done) (places_in f.went) (places_in o.now) (place_in o.place) old mid new f.go o.goes);
      }

  -- fewer places are left
  pub fewer_left : (now after : List (PlainPlace S)) (at next : ℕ) (mid new : List Wire) → OneGoes service node input at next now after mid new
      → length after - next < length now - at
  fewer_left now after at next mid new o =
      let long : length now ≡ length o.earlier + length (o.place ∷ o.later) = ap length o.was ∙ length-append o.earlier (o.place ∷ o.later) in
      let longer : length after ≡ length o.earlier + length (o.now ++ o.later) = ap length o.became ∙ length-append o.earlier (o.now ++ o.later) in
      let both : length (o.now ++ o.later) ≡ length o.now + length o.later = length-append o.now o.later in
      omega (arith, long, longer, both, o.counted, o.next_is)

  pub all_went : (before after : List (PlainPlace S)) (at : ℕ) (old new : List Wire) → length after ≤ at → FirstGo service node input at before after old new
      → SendsBy (AllGo (PlaceTurn service node input) (places_in before) (places_in after)) old new
  all_went before after at old new past f =
      let long : length after ≡ length f.went + length f.left = ap length f.became ∙ length-append f.went f.left in
      let none : f.left ≡ [] = nil_from_length f.left (omega (arith, long, past, f.counted)) in
      let was : f.done ≡ before = sym (append-nil f.done) ∙ (ap (λ l. f.done ++ l) (sym none) ∙ sym f.was) in
      let became : f.went ≡ after = sym (append-nil f.went) ∙ (ap (λ l. f.went ++ l) (sym none) ∙ sym f.became) in
      subst (λ (p : List (PlainPlace S) × List (PlainPlace S)). SendsBy (AllGo (PlaceTurn service node input) (places_in p.0) (places_in p.1)) old new) (λ i. (was i, became i)) f.go

  -- the turn of a server that serves, from its parts: the places' turns, the newcomer, the refusal, and the Opens
  pub serving_turn : (opened : ℕ) (before went after : List (PlainPlace S)) (more : List Place) (refused : List Packet) (old mid late new : List Wire)
      → SendsBy (AllGo (PlaceTurn service node input) (places_in before) (places_in went)) old mid
      → places_in after ≡ places_in went ++ more → more ≡ newcomers node input opened (places_in before)
      → Appends mid late refused → refused ≡ refusals node input (places_in before)
      → Appends late new (flat_map (opens_at node input) (places_in after))
      → SendsBy (ServingTurn service node input opened (places_in before) (places_in after)) old new
  serving_turn opened before went after more refused old mid late new go places newcomer refuses refusal asks = record {
    sent = go.sent ++ (refusals node input (places_in before) ++ flat_map (opens_at node input) (places_in after));
    lawful = record {
      went = places_in went;
      by_places = go.sent;
      all_go = go.lawful;
      places = places ∙ ap (λ ps. places_in went ++ ps) newcomer;
      packets = refl;
    };
    packets = appends_both go.packets (appends_both (subst (Appends mid late) refusal refuses) asks);
  }

-- a newcomer uses up an initial number
pub opened_more : {A B : Type 0} (f : A → B) (o : Option A) (more : List B) (n m : ℕ) → m ≡ n + length (option_to_list o) → map f (option_to_list o) ≡ more → m ≡ n + length more
opened_more f o more n m e is = e ∙ ap (λ k. n + k) (sym (length-map (option_to_list o) f) ∙ ap length is)

pub serving_stage : {S : Type 0} (service : Machine S) (node : Node) (input : Input) (opened now : ℕ) (places later : List Place) (old new : List Wire)
    → now ≡ opened + length (newcomers node input opened places) → SendsBy (ServingTurn service node input opened places later) old new
    → SendsBy (StageTurn service node (Serving opened places) input (Serving now later)) old new
serving_stage service node input opened now places later old new e h =
    record { sent = h.sent; lawful = (later, ap (λ n. Serving n later) e, h.lawful); packets = h.packets }
