-- The author of the logged reads through a turn of the server.
use Rattle.std.proofs.Common.{append-nil, flat_map, ◌≡◌, ℕ, ◌≤◌, ◌^◌, Bool, true, false, ◌&&◌, not, nat_lt, le_of_eq, refl, sym, ap, ◌∙◌, subst, true≢false, inl, inr, ◌⊎◌, ⊎_elim, is_some, Option, Some, None, List, [], ◌∷◌, ◌++◌, map, length, if◌then◌else◌}
use Rattle.std.specs.List.{AllByRecursion, list_any}
use Rattle.std.proofs.lemmas.Bool.{and_parts, or_right, or_from}
use Rattle.ft_io.specs.declared.Addr.{Addr}
use Rattle.ft_io.specs.declared.Key.{Key}
use Rattle.ft_io.specs.Key.{key_eq}
use Rattle.seq_arith.specs.Packet.{Segment, has_rst, has_ack}
use Rattle.seq_arith.specs.Message.Body.{OpenMsg}
use Rattle.server_trait.specs.Service.{Machine}
use Rattle.ft_model.specs.Log.{Log, opened}
use Rattle.ft_model.specs.Network.{Packet, source_of}
use Rattle.ft_model.specs.Network.Packet.{To_client}
use Rattle.ft_model.specs.Point.{Point}
use Rattle.ft_model.specs.News.{News}
use Rattle.ft_model.specs.News.News.{Begins}
use Rattle.ft_model.specs.Opening.{is_syn, numbers_for, point_opened, timestamping_for}
use Rattle.ft_model.specs.Refusal.{as_listen, as_closed, rst_at_ack, rst_behind, full_rst}
use Rattle.ft_model.specs.Node.{Node, Place, Input, is_for, pending_count}
use Rattle.ft_model.specs.Node.Place.{Opens, Lives, Ended}
use Rattle.ft_model.specs.Node.Input.{Packet_comes, Message_comes, Noise_comes, Tick_comes}
use Rattle.ft_model.specs.ServingTurn.{AllGo, newcomers, refusals, is_strange, ServingTurn}
use Rattle.ft_model.specs.Lawful.{asked}
use Rattle.ft_model.specs.Growth.{IsPrefix}
use Rattle.ft_model.proofs.Lists.{or_left, all_append, all_find, found_passes, all_slice_get, same_key, none_is_some, some_is, or_cases}
use Rattle.ft_model.proofs.Keys.{finds_itself, all_from_get}
use Rattle.ft_model.proofs.PlaceTurns.{PlaceWent}
use Rattle.ft_model.proofs.PlaceTurns.PlaceWent.{stayed, went_on, began, dropped, ended, refused}
use Rattle.ft_model.proofs.Scripts.{NewsFits}
use Rattle.ft_model.proofs.Faithful.{PlaceFits, EntriesFit}
use Rattle.server_trait.specs.Service.{reference}
use Rattle.ft_model.specs.Connection.{ConnectionTurn, reported_by}
use Rattle.ft_model.specs.Copy.{copies}
use Rattle.ft_model.specs.Node.{key_of, place_at, is_known}
use Rattle.ft_model.specs.ServingTurn.{PlaceTurn, is_asked, opens_at}
use Rattle.ft_model.specs.Growth.{logged_lengths}
use Rattle.ft_model.specs.Keys.{AreDistinct}
use Rattle.ft_model.proofs.PlaceTurns.{place_went}
use Rattle.ft_model.proofs.StageTurns.{either_turn}
use Rattle.ft_model.proofs.Copied.{Grows}
use Rattle.ft_model.proofs.Scripts.{DataFits, copies_fit}
use Rattle.ft_model.proofs.Services.{more_bytes}
use Rattle.ft_model.proofs.Running.{HasSmallOutputs, taken_more}
use Rattle.ft_model.proofs.Authored.{Follows, PlaceRuns, PlaceRan, IsAuthor, connection_runs, opened_runs}
use Rattle.ft_model.proofs.FaithfulKept.{InputFits, place_fits, news_fit, new_fits}
use Rattle.ft_io.proofs.Booleans.{not_true}
use Rattle.ft_io.proofs.Choices.{holds_if}

pub all_split : {A : Type 0} (P : A → Type 0) (xs ys : List A) → AllByRecursion P (xs ++ ys) → AllByRecursion P xs × AllByRecursion P ys
all_split P [] ys a = (tt, a)
all_split P (x ∷ xs) ys a = let s = all_split P xs ys a.1 in ((a.0, s.0), s.1)

-- what a list of places gives, where what is sent hangs on what stands after it
pub all_go_then : (Goes : Place → List Place → List Packet → Type 0) (Q R M : Place → Type 0) (P : Packet → Type 0)
    → ((place : Place) (now : List Place) (sent : List Packet) → Q place → Goes place now sent → AllByRecursion R now × (AllByRecursion M now → AllByRecursion P sent))
    → (before after : List Place) (sent : List Packet) → AllByRecursion Q before → AllGo Goes before after sent
    → AllByRecursion R after × (AllByRecursion M after → AllByRecursion P sent)
all_go_then Goes Q R M P step [] after sent q t = (subst (AllByRecursion R) (sym t.0) tt, λ m. subst (AllByRecursion P) (sym t.1) tt)
all_go_then Goes Q R M P step (place ∷ places) after sent q (now, later, first, others, places_are, sent_is, goes, rest) =
    let here = step place now first q.0 goes in
    let there = all_go_then Goes Q R M P step places later others q.1 rest in (
      subst (AllByRecursion R) (sym places_are) (all_append R now later here.0 there.0),
      λ m. let s = all_split M now later (subst (AllByRecursion M) places_are m) in
          subst (AllByRecursion P) (sym sent_is) (all_append P first others (here.1 s.0) (there.1 s.1)),
    )

-- a place that is live or done
abbrev pub settles : Key → Place → Bool
settles key (Lives p) = key_eq p.key key
settles key (Ended k) = key_eq k key
settles key (Opens n timestamping) = false

abbrev pub is_settled : Key → List Place → Bool
is_settled key places = list_any (settles key) places

pub settled_append : (key : Key) (xs ys : List Place) → (is_settled key xs ≡ true) ⊎ (is_settled key ys ≡ true) → is_settled key (xs ++ ys) ≡ true
settled_append key [] ys (inl e) = absurd (true≢false (sym e))
settled_append key [] ys (inr e) = e
settled_append key (x ∷ xs) ys (inl e) =
    ⊎_elim (λ h. or_left (settles key x) (is_settled key (xs ++ ys)) h) (λ h. or_right (settles key x) (is_settled key (xs ++ ys)) (settled_append key xs ys (inl h)))
    (or_cases (settles key x) (is_settled key xs) e)
settled_append key (x ∷ xs) ys (inr e) = or_right (settles key x) (is_settled key (xs ++ ys)) (settled_append key xs ys (inr e))

pub settled_proceeds : (Goes : Place → List Place → List Packet → Type 0) (key : Key)
    → ((place : Place) (now : List Place) (sent : List Packet) → Goes place now sent → settles key place ≡ true → is_settled key now ≡ true)
    → (before after : List Place) (sent : List Packet) → AllGo Goes before after sent → is_settled key before ≡ true → is_settled key after ≡ true
settled_proceeds Goes key step [] after sent t e = absurd (true≢false (sym e))
settled_proceeds Goes key step (place ∷ places) after sent (now, later, first, others, places_are, sent_is, goes, rest) e =
    ap (is_settled key) places_are ∙ settled_append key now later
    (⊎_elim (λ h. inl (step place now first goes h)) (λ h. inr (settled_proceeds Goes key step places later others rest h)) (or_cases (settles key place) (is_settled key places) e))

pub one_settled : (key : Key) (place : Place) → settles key place ≡ true → is_settled key (place ∷ []) ≡ true
one_settled key place e = or_left (settles key place) false e

pub place_settled : {State : Type 0} (service : Machine State) (node : Node) (input : Input) (key : Key) (place : Place) (now : List Place) (sent : List Packet)
    → PlaceWent service node input place now sent → settles key place ≡ true → is_settled key now ≡ true
place_settled service node input key place now sent (stayed n s) e = ap (is_settled key) n ∙ one_settled key place e
place_settled service node input key place now sent (went_on news p after i w n t) e =
    let same : after.key ≡ p.key = either_turn service node.server node.boot news p after sent (λ r. ap (λ x. x.key) r.point) (λ l. l.same.key) t in
    ap (is_settled key) n ∙ one_settled key (Lives after) (ap (λ k. key_eq k key) same ∙ (sym (ap (settles key) i) ∙ e))
place_settled service node input key place now sent (began asked kept timestamping after i h n t) e = absurd (true≢false (sym e ∙ ap (settles key) i))
place_settled service node input key place now sent (dropped asked timestamping i d n s) e = absurd (true≢false (sym e ∙ ap (settles key) i))
place_settled service node input key place now sent (ended p i h n s) e = ap (is_settled key) n ∙ one_settled key (Ended p.key) (sym (ap (settles key) i) ∙ e)
place_settled service node input key place now sent (refused k segment i c m n s) e = ap (is_settled key) n ∙ one_settled key (Ended k) (sym (ap (settles key) i) ∙ e)

-- the author after a turn: of each live connection its own reads
abbrev author_at : Option Place → List ℕ → List ℕ
author_at (Some (Lives p)) old = p.lengths
author_at _ old = old

abbrev pub new_author : List Place → (Key → List ℕ) → Key → List ℕ
new_author places old key = author_at (place_at key places) (old key)

-- what is known before the turn, and after it
abbrev pub Before : {State : Type 0} → Machine State → (Key → List ℕ) → (Key → ℕ) → (Key → List ℕ) → Log → Place → Type 0
Before service script isn old log place = PlaceFits script isn log place × PlaceRuns service old place

abbrev pub After : {State : Type 0} → Machine State → (Key → List ℕ) → (Key → ℕ) → (Key → List ℕ) → Log → Place → Type 0
After service script isn old log place = PlaceFits script isn log place × PlaceRan service old place

at_place : (places : List Place) (old : Key → List ℕ) (place : Place) → place_at (key_of place) places ≡ Some place → IsAuthor (new_author places old) place
at_place places old (Lives p) e = ap (λ o. author_at o (old p.key)) e
at_place places old (Opens n timestamping) e = tt
at_place places old (Ended k) e = tt

pub authors : (places : List Place) (old : Key → List ℕ) → AreDistinct (map key_of places) → AllByRecursion (IsAuthor (new_author places old)) places
authors places old d = all_from_get (IsAuthor (new_author places old)) places (λ i x e. at_place places old x (finds_itself key_of places i x d e))

found_place : (key : Key) (places : List Place) (place : Place) → place_at key places ≡ Some place → key_of place ≡ key
found_place key places place e = same_key (key_of place) key (found_passes (λ x. key_eq (key_of x) key) places place e)

front_by : {State : Type 0} (service : Machine State) (script : Key → List ℕ) (isn : Key → ℕ) (log : Log) (key : Key) (old : Key → List ℕ) (o : Option Place)
    → ((place : Place) → o ≡ Some place → (key_of place ≡ key) × After service script isn old log place) → IsPrefix (old key) (author_at o (old key))
front_by service script isn log key old (Some (Lives p)) f = let x = f (Lives p) refl in subst (λ k. IsPrefix (old k) p.lengths) x.0 x.1.1.0
front_by service script isn log key old (Some (Opens n timestamping)) f = ([], append-nil (old key))
front_by service script isn log key old (Some (Ended k)) f = ([], append-nil (old key))
front_by service script isn log key old None f = ([], append-nil (old key))

short_by : {State : Type 0} (service : Machine State) (script : Key → List ℕ) (isn : Key → ℕ) (log : Log) (key : Key) (old : Key → List ℕ) (o : Option Place)
    → ((place : Place) → o ≡ Some place → (key_of place ≡ key) × After service script isn old log place) → length (reference service (script key) (old key)).output ≤ 2 ^ 24
    → length (reference service (script key) (author_at o (old key))).output ≤ 2 ^ 24
short_by service script isn log key old (Some (Lives p)) f s =
    let x = f (Lives p) refl in
    let same : reference service (script p.key) p.lengths ≡ reference service p.taken p.lengths = more_bytes service p.taken (script p.key) p.lengths x.1.0.0.fronts.front x.1.1.1.enough in
    subst (λ k. length (reference service (script k) p.lengths).output ≤ 2 ^ 24) x.0 (subst (λ r. length r.output ≤ 2 ^ 24) (sym same) x.1.1.1.short)
short_by service script isn log key old (Some (Opens n timestamping)) f s = s
short_by service script isn log key old (Some (Ended k)) f s = s
short_by service script isn log key old None f s = s

-- who is found
pub finds_after : {State : Type 0} (service : Machine State) (script : Key → List ℕ) (isn : Key → ℕ) (old : Key → List ℕ) (log : Log) (places : List Place) (key : Key)
    → AllByRecursion (After service script isn old log) places → (place : Place) → place_at key places ≡ Some place → (key_of place ≡ key) × After service script isn old log place
finds_after service script isn old log places key a place e =
    (found_place key places place e, all_find (After service script isn old log) (λ x. key_eq (key_of x) key) places place a e)

run_place : {State : Type 0} (service : Machine State) (places : List Place) (old : Key → List ℕ) (place : Place) → place_at (key_of place) places ≡ Some place → PlaceRan service old place
    → PlaceRuns service (new_author places old) place
run_place service places old (Lives p) e r = (ap (λ o. author_at o (old p.key)) e, r.1)
run_place service places old (Opens n timestamping) e r = ap (λ o. author_at o (old n.key)) e ∙ r
run_place service places old (Ended k) e r = tt

settled_by : (key : Key) (places : List Place) (place : Place) → place_at key places ≡ Some place → settles key place ≡ true → is_settled key places ≡ true
settled_by key [] place e s = none_is_some place e
settled_by key (x ∷ xs) place e s =
    holds_if (λ o. o ≡ Some place → is_settled key (x ∷ xs) ≡ true) (key_eq (key_of x) key) (Some x) (place_at key xs)
    (λ t f. or_left (settles key x) (is_settled key xs) (subst (λ y. settles key y ≡ true) (sym (some_is x place f)) s))
    (λ t f. or_right (settles key x) (is_settled key xs) (settled_by key xs place f s)) e

ran_of : {State : Type 0} (service : Machine State) (old : Key → List ℕ) (place : Place) → PlaceRuns service old place → PlaceRan service old place
ran_of service old (Lives p) r = (([], append-nil (old p.key) ∙ r.0), r.1)
ran_of service old (Opens n timestamping) r = r
ran_of service old (Ended k) r = tt

rst_follows : {State : Type 0} (service : Machine State) (script author : Key → List ℕ) (log : Log) (segment : Segment) → has_rst segment ≡ true → Follows service script author log (To_client segment)
rst_follows service script author log segment r = λ n. absurd (true≢false (sym r ∙ n))

closed_follows : {State : Type 0} (service : Machine State) (script author : Key → List ℕ) (log : Log) (server : Addr) (segment : Segment)
    → AllByRecursion (Follows service script author log) (map To_client (as_closed server segment))
closed_follows service script author log server segment =
    holds_if (λ x. AllByRecursion (Follows service script author log) (map To_client x)) (has_rst segment) [] (if has_ack segment then rst_at_ack server segment ∷ [] else rst_behind server segment ∷ []) (λ t. tt)
    (λ t. holds_if (λ x. AllByRecursion (Follows service script author log) (map To_client x)) (has_ack segment) (rst_at_ack server segment ∷ []) (rst_behind server segment ∷ [])
    (λ s. (rst_follows service script author log (rst_at_ack server segment) refl, tt)) (λ s. (rst_follows service script author log (rst_behind server segment) refl, tt)))

listen_follows : {State : Type 0} (service : Machine State) (script author : Key → List ℕ) (log : Log) (node : Node) (input : Input) (places : List Place)
    → AllByRecursion (Follows service script author log) (refusals node input places)
listen_follows service script author log node (Packet_comes segment) places =
    holds_if (AllByRecursion (Follows service script author log)) (is_strange node segment places) (map To_client (as_listen node.server segment)) []
    (λ t. holds_if (λ x. AllByRecursion (Follows service script author log) (map To_client x)) (has_ack segment && not (has_rst segment)) (rst_at_ack node.server segment ∷ []) []
    (λ t. (rst_follows service script author log (rst_at_ack node.server segment) refl, tt)) (λ t. tt)) (λ t. tt)
listen_follows service script author log node (Message_comes message) places = tt
listen_follows service script author log node Noise_comes places = tt
listen_follows service script author log node Tick_comes places = tt

opens_follow : {State : Type 0} (service : Machine State) (script author : Key → List ℕ) (log : Log) (node : Node) (input : Input) (places : List Place)
    → AllByRecursion (Follows service script author log) (flat_map (opens_at node input) places)
opens_follow service script author log node input [] = tt
opens_follow service script author log node input (Opens n timestamping ∷ places) =
    all_append (Follows service script author log) (opens_at node input (Opens n timestamping)) _
    (holds_if (AllByRecursion (Follows service script author log)) (is_asked node input n) (reported_by node.boot (OpenMsg n) ∷ []) [] (λ t. (tt, tt)) (λ t. tt)) (opens_follow service script author log node input places)
opens_follow service script author log node input (Lives p ∷ places) = opens_follow service script author log node input places
opens_follow service script author log node input (Ended k ∷ places) = opens_follow service script author log node input places

pub one_of : {A : Type 0} (P : A → Type 0) (x : A) (xs : List A) → xs ≡ x ∷ [] → AllByRecursion P xs → P x
one_of P x xs e a = (subst (AllByRecursion P) e a).0

pub connection_after : {State : Type 0} (service : Machine State) (script old author : Key → List ℕ) (isn : Key → ℕ) (log : Log) (node : Node) (news : News) (p after : Point) (now : List Place) (sent : List Packet)
    → HasSmallOutputs service → ((key : Key) → IsPrefix (logged_lengths key log) (old key)) → NewsFits (script p.key) (isn p.key) news → AllByRecursion (PlaceFits script isn log) now
    → PlaceRuns service old (Lives p) → now ≡ Lives after ∷ [] → ConnectionTurn service node.server node.boot news p after sent
    → AllByRecursion (After service script isn old log) now × (AllByRecursion (IsAuthor author) now → AllByRecursion (Follows service script author log) sent)
connection_after service script old author isn log node news p after now sent small front nf fits r n t =
    let key : after.key ≡ p.key = either_turn service node.server node.boot news p after sent (λ r. ap (λ x. x.key) r.point) (λ l. l.same.key) t in
    let fit : PlaceFits script isn log (Lives after) = one_of (PlaceFits script isn log) (Lives after) now n fits in
    let more : Grows p after = either_turn service node.server node.boot news p after sent (λ r. le_of_eq (sym (ap (λ x. length x.taken) r.point))) (λ l. taken_more news p after l.taken) t in
    let datas : AllByRecursion (DataFits script) (copies news p after) = copies_fit script (isn after.key) news p after more (subst (λ k. NewsFits (script k) (isn k) news) (sym key) nf) fit.0 in
    let c = connection_runs service node.server script old author isn log node.boot news p after sent small front datas fit r t in
    (subst (AllByRecursion (After service script isn old log)) (sym n) ((fit, c.0), tt), λ is. c.1 (one_of (IsAuthor author) (Lives after) now n is))

place_runs : {State : Type 0} (service : Machine State) (script old author : Key → List ℕ) (isn : Key → ℕ) (log : Log) (node : Node) (input : Input)
    → HasSmallOutputs service → ((k : Key) → length (script k) ≤ 2 ^ 24) → EntriesFit script isn log.entries → InputFits script isn log input
    → ((key : Key) → IsPrefix (logged_lengths key log) (old key))
    → (place : Place) (now : List Place) (sent : List Packet) → Before service script isn old log place → PlaceWent service node input place now sent
    → AllByRecursion (After service script isn old log) now × (AllByRecursion (IsAuthor author) now → AllByRecursion (Follows service script author log) sent)
place_runs service script old author isn log node input small short entries i front place now sent b (stayed n s) =
    (subst (AllByRecursion (After service script isn old log)) (sym n) ((b.0, ran_of service old place b.1), tt), λ is. subst (AllByRecursion (Follows service script author log)) (sym s) tt)
place_runs service script old author isn log node input small short entries i front place now sent b (went_on news p after e w n t) =
    let nf = news_fit script isn log node input news p i w in
    let fits = (place_fits service script isn log node input short entries i place now sent b.0 (went_on news p after e w n t)).0 in
    connection_after service script old author isn log node news p after now sent small front nf.0 fits (subst (PlaceRuns service old) e b.1) n t
place_runs service script old author isn log node input small short entries i front place now sent b (began asked kept timestamping after e h n t) =
    let fits = (place_fits service script isn log node input short entries i place now sent b.0 (began asked kept timestamping after e h n t)).0 in
    let none : old kept.key ≡ [] = ap old h.key ∙ subst (PlaceRuns service old) e b.1 in
    connection_after service script old author isn log node Begins (point_opened node.profile timestamping kept) after now sent small front tt fits (opened_runs service node.profile timestamping old kept small.0 none) n t
place_runs service script old author isn log node input small short entries i front place now sent b (dropped asked timestamping e d n s) = (
  subst (AllByRecursion (After service script isn old log)) (sym n) tt,
  λ is. ⊎_elim (λ x. subst (AllByRecursion (Follows service script author log)) (sym x) tt)
      (λ x. subst (AllByRecursion (Follows service script author log)) (sym x) (rst_follows service script author log (full_rst node.server asked) refl, tt)) s,
)
place_runs service script old author isn log node input small short entries i front place now sent b (ended p e h n s) =
    (subst (AllByRecursion (After service script isn old log)) (sym n) ((tt, tt), tt), λ is. subst (AllByRecursion (Follows service script author log)) (sym s) tt)
place_runs service script old author isn log node input small short entries i front place now sent b (refused key segment e c k n s) = (
  subst (AllByRecursion (After service script isn old log)) (sym n) ((tt, tt), tt),
  λ is. subst (AllByRecursion (Follows service script author log)) (sym s) (closed_follows service script author log node.server segment),
)

not_settles : (key : Key) (place : Place) → key_eq (key_of place) key ≡ false → settles key place ≡ false
not_settles key (Lives p) e = e
not_settles key (Opens n timestamping) e = refl
not_settles key (Ended k) e = e

found_settles : (key : Key) (places : List Place) (p : Point) → place_at key places ≡ Some (Lives p) → settles key (Lives p) ≡ true
found_settles key places p e = found_passes (λ x. key_eq (key_of x) key) places (Lives p) e

not_settled : (key : Key) (places : List Place) → is_known key places ≡ false → is_settled key places ≡ false
not_settled key [] e = refl
not_settled key (place ∷ places) e =
    holds_if (λ o. is_some o ≡ false → is_settled key (place ∷ places) ≡ false) (key_eq (key_of place) key) (Some place) (place_at key places)
    (λ t f. absurd (true≢false f)) (λ t f. or_from (settles key place) (is_settled key places) (not_settles key place t) (not_settled key places f)) e

-- a key that is neither live nor done has no reads
abbrev pub OnlySettled : (Key → List ℕ) → List Place → Type 0
OnlySettled author places = (key : Key) → (author key ≡ []) ⊎ (is_settled key places ≡ true)

new_after : {State : Type 0} (service : Machine State) (script old : Key → List ℕ) (isn : Key → ℕ) (log : Log) (node : Node) (input : Input) (opened : ℕ) (places : List Place)
    → InputFits script isn log input → OnlySettled old places → AllByRecursion (After service script isn old log) (newcomers node input opened places)
new_after service script old isn log node (Packet_comes segment) opened places i only =
    holds_if (λ l. AllByRecursion (PlaceFits script isn log) l → AllByRecursion (After service script isn old log) l)
    (is_strange node segment places && is_syn segment && nat_lt (pending_count places) 64) (Opens (numbers_for node.profile node.isn opened segment) (timestamping_for node.profile segment) ∷ []) []
    (λ t f. let one = and_parts (is_strange node segment places && is_syn segment) (nat_lt (pending_count places) 64) t in
    let two = and_parts (is_strange node segment places) (is_syn segment) one.0 in
    let three = and_parts (is_for node.server segment) (not (is_known (source_of segment) places)) two.0 in
    let unknown : is_settled (source_of segment) places ≡ false = not_settled (source_of segment) places (not_true (is_known (source_of segment) places) three.1) in
    ((f.0, ⊎_elim (λ x. x) (λ x. absurd (true≢false (sym x ∙ unknown))) (only (source_of segment))), tt)) (λ t f. tt)
    (new_fits script isn log node (Packet_comes segment) opened places i)
new_after service script old isn log node (Message_comes message) opened places i only = tt
new_after service script old isn log node Noise_comes opened places i only = tt
new_after service script old isn log node Tick_comes opened places i only = tt

-- what a turn leaves: a new author, by which the places run, and which what is sent follows
pub record TurnRuns {State : Type 0} (service : Machine State) (script : Key → List ℕ) (old : Key → List ℕ) (log : Log) (places : List Place) (sent : List Packet) : Type 0 where
  pub author : Key → List ℕ
  pub later : (key : Key) → IsPrefix (old key) (author key)
  pub short : ((key : Key) → length (reference service (script key) (old key)).output ≤ 2 ^ 24) → (key : Key) → length (reference service (script key) (author key)).output ≤ 2 ^ 24
  pub runs : AllByRecursion (PlaceRuns service author) places
  pub only : OnlySettled author places
  pub follows : AllByRecursion (Follows service script author log) sent

settled_new : (old : Key → List ℕ) (before places : List Place) (key : Key) (o : Option Place) → place_at key places ≡ o → OnlySettled old before
    → (is_settled key before ≡ true → is_settled key places ≡ true) → (author_at o (old key) ≡ []) ⊎ (is_settled key places ≡ true)
settled_new old before places key (Some (Lives p)) e only more =
    inr (settled_by key places (Lives p) e (found_settles key places p e))
settled_new old before places key (Some (Opens n timestamping)) e only more = ⊎_elim inl (λ x. inr (more x)) (only key)
settled_new old before places key (Some (Ended k)) e only more = ⊎_elim inl (λ x. inr (more x)) (only key)
settled_new old before places key None e only more = ⊎_elim inl (λ x. inr (more x)) (only key)

pub runs_after : {State : Type 0} (service : Machine State) (script : Key → List ℕ) (isn : Key → ℕ) (old : Key → List ℕ) (log : Log) (before places : List Place) (sent : List Packet)
    → AreDistinct (map key_of places) → AllByRecursion (After service script isn old log) places
    → (AllByRecursion (IsAuthor (new_author places old)) places → AllByRecursion (Follows service script (new_author places old) log) sent)
    → OnlySettled old before → ((key : Key) → is_settled key before ≡ true → is_settled key places ≡ true) → TurnRuns service script old log places sent
runs_after service script isn old log before places sent d after follow only more =
    let finds : (key : Key) → (place : Place) → place_at key places ≡ Some place → (key_of place ≡ key) × After service script isn old log place = λ key. finds_after service script isn old log places key after in
    record {
      author = new_author places old;
      later = λ key. front_by service script isn log key old (place_at key places) (finds key);
      short = λ s key. short_by service script isn log key old (place_at key places) (finds key) (s key);
      runs = all_from_get (PlaceRuns service (new_author places old)) places
          (λ i x e. run_place service places old x (finds_itself key_of places i x d e) (all_slice_get (After service script isn old log) places i x after e).1);
      only = λ key. settled_new old before places key (place_at key places) refl only (more key);
      follows = follow (authors places old d);
    }

pub serving_runs : {State : Type 0} (service : Machine State) (script old : Key → List ℕ) (isn : Key → ℕ) (log : Log) (node : Node) (input : Input) (opened : ℕ) (places later : List Place) (sent : List Packet)
    → HasSmallOutputs service → ((k : Key) → length (script k) ≤ 2 ^ 24) → EntriesFit script isn log.entries → InputFits script isn log input
    → ((key : Key) → IsPrefix (logged_lengths key log) (old key)) → OnlySettled old places → AllByRecursion (Before service script isn old log) places
    → AreDistinct (map key_of later) → ServingTurn service node input opened places later sent → TurnRuns service script old log later sent
serving_runs service script old isn log node input opened places later sent small short entries i front only before d t =
    let author : Key → List ℕ = new_author later old in
    let all = all_go_then (PlaceTurn service node input) (Before service script isn old log) (After service script isn old log) (IsAuthor author) (Follows service script author log)
    (λ place now some b x. place_runs service script old author isn log node input small short entries i front place now some b (place_went service node input place now some x))
    places t.went t.by_places before t.all_go in
    let fresh = new_after service script old isn log node input opened places i only in
    let after : AllByRecursion (After service script isn old log) later =
    subst (AllByRecursion (After service script isn old log)) (sym t.places) (all_append (After service script isn old log) t.went (newcomers node input opened places) all.0 fresh) in
    runs_after service script isn old log places later sent d after
    (λ is. let s = all_split (IsAuthor author) t.went (newcomers node input opened places) (subst (AllByRecursion (IsAuthor author)) t.places is) in
    subst (AllByRecursion (Follows service script author log)) (sym t.packets)
    (all_append (Follows service script author log) t.by_places _ (all.1 s.0)
    (all_append (Follows service script author log) (refusals node input places) _ (listen_follows service script author log node input places) (opens_follow service script author log node input later))))
    only
    (λ key s. ap (is_settled key) t.places ∙ settled_append key t.went (newcomers node input opened places)
    (inl (settled_proceeds (PlaceTurn service node input) key (λ place now some x e. place_settled service node input key place now some (place_went service node input place now some x) e)
    places t.went t.by_places t.all_go s)))
