-- In a turn of a server a place that is done stays, and nothing is said to the log about its key.
use Rattle.std.proofs.Common.{◌≡◌, ⊎_elim, ℕ, ◌+◌, Bool, true, false, ◌&&◌, not, nat_lt, refl, sym, ap, ◌∙◌, subst, true≢false, List, [], ◌∷◌, ◌++◌, map, drop}
use Rattle.std.proofs.lemmas.Bool.{and_parts}
use Rattle.std.specs.List.{AllByRecursion}
use Rattle.ft_io.specs.declared.Addr.{Addr}
use Rattle.ft_io.specs.declared.Key.{Key}
use Rattle.ft_io.specs.Key.{key_eq}
use Rattle.server_trait.specs.Service.{Machine}
use Rattle.seq_arith.specs.Packet.{Segment}
use Rattle.seq_arith.specs.Message.{Body}
use Rattle.seq_arith.specs.Message.Body.{DoneMsg}
use Rattle.ft_model.specs.Keys.{has_key}
use Rattle.ft_model.specs.Connection.{ConnectionTurn, reported_by}
use Rattle.ft_model.specs.Copy.{copies}
use Rattle.ft_model.specs.Network.{Packet, source_of}
use Rattle.ft_model.specs.Network.Packet.{To_client}
use Rattle.ft_model.specs.News.{News}
use Rattle.ft_model.specs.News.News.{Begins}
use Rattle.ft_model.specs.Node.{Node, Place, Stage, Input, key_of, is_for, is_known, pending_count}
use Rattle.ft_model.specs.Node.Place.{Opens}
use Rattle.ft_model.specs.Node.Input.{Packet_comes, Message_comes, Noise_comes, Tick_comes}
use Rattle.ft_model.specs.Node.Stage.{Asking, Fetching, Serving, Fenced}
use Rattle.ft_model.specs.Opening.{is_syn, numbers_for, point_opened, timestamping_for}
use Rattle.ft_model.specs.Point.{Point}
use Rattle.ft_model.specs.Reads.{reads_reported, read_messages, first_reported}
use Rattle.ft_model.specs.Refusal.{as_listen}
use Rattle.ft_model.specs.ResetAndEnd.{dones, reports_done}
use Rattle.ft_model.specs.Segments.{segments_of}
use Rattle.ft_model.specs.ServingTurn.{PlaceTurn, AllGo, newcomers, refusals, is_strange, ServingTurn}
use Rattle.ft_model.proofs.Copied.{all_copies}
use Rattle.ft_model.proofs.Keys.{absent_key}
use Rattle.ft_model.proofs.Lists.{all_append, all_map, all_of, same_key, or_left, or_cases}
use Rattle.ft_model.proofs.PlaceTurns.{PlaceWent, place_went, serving_proceeds}
use Rattle.ft_model.proofs.PlaceTurns.PlaceWent.{stayed, went_on, began, dropped, ended, refused}
use Rattle.ft_model.proofs.StageTurns.{StageWent, either_turn}
use Rattle.ft_model.proofs.StageTurns.StageWent.{was_fenced, waited, held_off, asked_on, resumed, served}
use Rattle.ft_model.proofs.Fenced.{was_restarting}
use Rattle.ft_model.proofs.KnownKeys.{Knows, knows_front, knows_behind}
use Rattle.ft_model.specs.Masked.{is_restarting}
use Rattle.ft_io.proofs.Choices.{holds_if}
use Rattle.long_laws.specs.LongTrace.{is_about, asks_about, IsEnded}
use Rattle.long_laws.proofs.Recycled.{AreClear}

never_true : (b : Bool) → (b ≡ true → ⊥) → b ≡ false
never_true true f = absurd (f refl)
never_true false f = refl

-- nothing of this is said to the log about the key
abbrev pub Unasked : Key → Packet → Type 0
Unasked key packet = asks_about key packet ≡ false

abbrev NotAbout : Key → Body → Type 0
NotAbout key body = is_about key body ≡ false

bodies_unasked : (key : Key) (boot : ℕ) (bodies : List Body) → AllByRecursion (NotAbout key) bodies → AllByRecursion (Unasked key) (map (reported_by boot) bodies)
bodies_unasked key boot [] a = tt
bodies_unasked key boot (body ∷ bodies) a = (a.0, bodies_unasked key boot bodies a.1)

reads_unasked : (key own : Key) → key_eq own key ≡ false → (index : ℕ) (lengths : List ℕ) → AllByRecursion (NotAbout key) (read_messages own index lengths)
reads_unasked key own other index [] = tt
reads_unasked key own other index (n ∷ lengths) = (other, reads_unasked key own other (index + 1) lengths)

reported_unasked : (key : Key) (news : News) (p q : Point) → key_eq q.key key ≡ false → AllByRecursion (NotAbout key) (reads_reported news p q)
unfolding reads_reported
reported_unasked key news p q other = reads_unasked key q.key other (first_reported news p q) (drop (first_reported news p q) q.lengths)

dones_unasked : (key : Key) (news : News) (p q : Point) → key_eq q.key key ≡ false → AllByRecursion (NotAbout key) (dones news p q)
unfolding dones
dones_unasked key news p q other = holds_if (AllByRecursion (NotAbout key)) (reports_done news p q) (DoneMsg q.key ∷ []) [] (λ t. (other, tt)) (λ t. tt)

copies_unasked : (key : Key) (news : News) (p q : Point) → key_eq q.key key ≡ false → AllByRecursion (NotAbout key) (copies news p q)
copies_unasked key news p q other = all_copies (NotAbout key) news p q (λ part c. ap (λ k. key_eq k key) c.key ∙ other)

segments_unasked : (key : Key) (segments : List Segment) → AllByRecursion (Unasked key) (map To_client segments)
segments_unasked key segments = all_map (Unasked key) To_client segments (all_of (λ s. Unasked key (To_client s)) segments (λ s. refl))

connection_unasked : {State : Type 0} (service : Machine State) (key : Key) (server : Addr) (boot : ℕ) (news : News) (p q : Point) (sent : List Packet) → key_eq q.key key ≡ false
    → ConnectionTurn service server boot news p q sent → AllByRecursion (Unasked key) sent
connection_unasked service key server boot news p q sent other =
    either_turn service server boot news p q sent
    (λ t. subst (AllByRecursion (Unasked key)) (sym t.packets) (bodies_unasked key boot (dones news p q) (dones_unasked key news p q other)))
    (λ t. subst (AllByRecursion (Unasked key)) (sym t.packets)
    (all_append (Unasked key) (map To_client (segments_of service server news p q)) _ (segments_unasked key (segments_of service server news p q))
    (bodies_unasked key boot (copies news p q ++ (reads_reported news p q ++ dones news p q))
    (all_append (NotAbout key) (copies news p q) _ (copies_unasked key news p q other)
    (all_append (NotAbout key) (reads_reported news p q) (dones news p q) (reported_unasked key news p q other) (dones_unasked key news p q other))))))

-- a place of the key is one that is done
abbrev ClearAt : Key → Place → Type 0
ClearAt key place = key_eq (key_of place) key ≡ true → IsEnded place

same_key_after : {State : Type 0} (service : Machine State) (server : Addr) (boot : ℕ) (news : News) (p q : Point) (sent : List Packet) → ConnectionTurn service server boot news p q sent → q.key ≡ p.key
same_key_after service server boot news p q sent t = either_turn service server boot news p q sent (λ r. ap (λ x. x.key) r.point) (λ l. l.same.key) t

place_clear : {State : Type 0} (service : Machine State) (key : Key) (node : Node) (input : Input) (place : Place) (now : List Place) (sent : List Packet) → ClearAt key place
    → PlaceWent service node input place now sent → AllByRecursion (ClearAt key) now × AllByRecursion (Unasked key) sent
place_clear service key node input place now sent c (stayed n s) = (subst (AllByRecursion (ClearAt key)) (sym n) (c, tt), subst (AllByRecursion (Unasked key)) (sym s) tt)
place_clear service key node input place now sent c (went_on news p q e w n t) =
    let other : key_eq p.key key ≡ false = never_true (key_eq p.key key) (λ h. subst (ClearAt key) e c h) in
    let own : key_eq q.key key ≡ false = ap (λ k. key_eq k key) (same_key_after service node.server node.boot news p q sent t) ∙ other in
    (subst (AllByRecursion (ClearAt key)) (sym n) (λ h. absurd (true≢false (sym h ∙ own)), tt), connection_unasked service key node.server node.boot news p q sent own t)
place_clear service key node input place now sent c (began asked kept timestamping q e h n t) =
    let other : key_eq asked.key key ≡ false = never_true (key_eq asked.key key) (λ x. subst (ClearAt key) e c x) in
    let own : key_eq q.key key ≡ false = ap (λ k. key_eq k key) (same_key_after service node.server node.boot Begins (point_opened node.profile timestamping kept) q sent t ∙ h.key) ∙ other in
    (subst (AllByRecursion (ClearAt key)) (sym n) (λ x. absurd (true≢false (sym x ∙ own)), tt), connection_unasked service key node.server node.boot Begins (point_opened node.profile timestamping kept) q sent own t)
place_clear service key node input place now sent c (dropped asked timestamping e d n s) = (
  subst (AllByRecursion (ClearAt key)) (sym n) tt,
  ⊎_elim (λ x. subst (AllByRecursion (Unasked key)) (sym x) tt) (λ x. subst (AllByRecursion (Unasked key)) (sym x) (refl, tt)) s,
)
place_clear service key node input place now sent c (ended p e h n s) = (subst (AllByRecursion (ClearAt key)) (sym n) (λ x. tt, tt), subst (AllByRecursion (Unasked key)) (sym s) tt)
place_clear service key node input place now sent c (refused k segment e i same n s) =
    (subst (AllByRecursion (ClearAt key)) (sym n) (λ x. tt, tt), subst (AllByRecursion (Unasked key)) (sym s) (segments_unasked key _))

-- a key that is known isn't new
fresh_clear : (key : Key) (node : Node) (input : Input) (opened : ℕ) (places : List Place) → Knows places key → AllByRecursion (ClearAt key) (newcomers node input opened places)
fresh_clear key node (Packet_comes segment) opened places known =
    holds_if (AllByRecursion (ClearAt key)) (is_strange node segment places && is_syn segment && nat_lt (pending_count places) 64) (Opens (numbers_for node.profile node.isn opened segment) (timestamping_for node.profile segment) ∷ []) []
    (λ t. (
      λ same. let one = and_parts (is_strange node segment places && is_syn segment) (nat_lt (pending_count places) 64) t in
          let two = and_parts (is_strange node segment places) (is_syn segment) one.0 in
          let three = and_parts (is_for node.server segment) (not (is_known (source_of segment) places)) two.0 in
          let unknown : has_key (source_of segment) (map key_of places) ≡ false = absent_key key_of (source_of segment) places (no_more (is_known (source_of segment) places) three.1) in
          absurd (true≢false (sym known ∙ subst (λ k. has_key k (map key_of places) ≡ false) (same_key (source_of segment) key same) unknown)),
      tt,
    )) (λ t. tt)
  where
    no_more : (b : Bool) → not b ≡ true → b ≡ false
    no_more false e = refl
    no_more true e = absurd (true≢false (sym e))
fresh_clear key node (Message_comes message) opened places known = tt
fresh_clear key node Noise_comes opened places known = tt
fresh_clear key node Tick_comes opened places known = tt

refusals_unasked : (key : Key) (node : Node) (input : Input) (places : List Place) → AllByRecursion (Unasked key) (refusals node input places)
refusals_unasked key node (Packet_comes segment) places =
    holds_if (AllByRecursion (Unasked key)) (is_strange node segment places) (map To_client (as_listen node.server segment)) [] (λ t. segments_unasked key (as_listen node.server segment)) (λ t. tt)
refusals_unasked key node (Message_comes message) places = tt
refusals_unasked key node Noise_comes places = tt
refusals_unasked key node Tick_comes places = tt

-- a place that is done stays
done_stays : {State : Type 0} (service : Machine State) (key : Key) (node : Node) (input : Input) (place : Place) (now : List Place) (sent : List Packet) → ClearAt key place
    → key_eq (key_of place) key ≡ true → PlaceWent service node input place now sent → Knows now key
done_stays service key node input place now sent c k (stayed n s) = ap (λ l. has_key key (map key_of l)) n ∙ or_left (key_eq (key_of place) key) false k
done_stays service key node input place now sent c k (went_on news p q e w n t) = absurd (subst (ClearAt key) e c (ap (λ x. key_eq (key_of x) key) (sym e) ∙ k))
done_stays service key node input place now sent c k (began asked kept timestamping q e h n t) = absurd (subst (ClearAt key) e c (ap (λ x. key_eq (key_of x) key) (sym e) ∙ k))
done_stays service key node input place now sent c k (dropped asked timestamping e d n s) = absurd (subst (ClearAt key) e c (ap (λ x. key_eq (key_of x) key) (sym e) ∙ k))
done_stays service key node input place now sent c k (ended p e h n s) = absurd (subst (ClearAt key) e c (ap (λ x. key_eq (key_of x) key) (sym e) ∙ k))
done_stays service key node input place now sent c k (refused own segment e i same n s) =
    ap (λ l. has_key key (map key_of l)) n ∙ or_left (key_eq own key) false (ap (λ x. key_eq (key_of x) key) (sym e) ∙ k)

known_on : {State : Type 0} (service : Machine State) (key : Key) (node : Node) (input : Input) (before after : List Place) (sent : List Packet) → AreClear key before
    → AllGo (PlaceTurn service node input) before after sent → Knows before key → Knows after key
known_on service key node input [] after sent c t k = absurd (true≢false (sym k))
known_on service key node input (place ∷ places) after sent c (now, later, first, more, places_are, sent_is, goes, rest) k =
    let whole : Knows (now ++ later) key =
    ⊎_elim (λ h. knows_front now later key (done_stays service key node input place now first c.0 h (place_went service node input place now first goes)))
    (λ h. knows_behind now later key (known_on service key node input places later more c.1 rest h))
    (or_cases (key_eq (key_of place) key) (has_key key (map key_of places)) k) in
    subst (λ l. Knows l key) (sym places_are) whole

-- the place of the key is there, and done
abbrev pub IsDoneThere : Key → List Place → Type 0
IsDoneThere key places = AreClear key places × Knows places key

pub serving_stays : {State : Type 0} (service : Machine State) (key : Key) (node : Node) (input : Input) (opened : ℕ) (before after : List Place) (sent : List Packet)
    → IsDoneThere key before → ServingTurn service node input opened before after sent → IsDoneThere key after × AllByRecursion (Unasked key) sent
serving_stays service key node input opened before after sent d t =
    let both : AllByRecursion (ClearAt key) after × AllByRecursion (Unasked key) sent =
    serving_proceeds service node input opened (ClearAt key) (ClearAt key) (Unasked key) before after sent (place_clear service key node input)
    (fresh_clear key node input opened before d.1) (refusals_unasked key node input before) (λ numbers s c. never_true (key_eq numbers.key key) (λ h. c h)) d.0 t in
    let went : Knows t.went key = known_on service key node input before t.went t.by_places d.0 t.all_go d.1 in
    ((both.0, subst (λ l. Knows l key) (sym t.places) (knows_front t.went (newcomers node input opened before) key went)), both.1)

-- the key is done at a stage, or the server is fenced
abbrev pub IsDoneAt : Key → Stage → Type 0
IsDoneAt key (Serving opened places) = IsDoneThere key places
IsDoneAt key (Fenced newer) = Unit {0}
IsDoneAt key Asking = ⊥
IsDoneAt key (Fetching count fetched) = ⊥

restarts_with_nothing : (key : Key) (stage : Stage) → is_restarting stage ≡ true → IsDoneAt key stage → ⊥
restarts_with_nothing key Asking r d = d
restarts_with_nothing key (Fetching count fetched) r d = d
restarts_with_nothing key (Serving opened places) r d = true≢false (sym r)
restarts_with_nothing key (Fenced newer) r d = true≢false (sym r)

pub stage_stays : {State : Type 0} (service : Machine State) (key : Key) (node : Node) (input : Input) (sent : List Packet) (after : Stage)
    → StageWent service node input sent after → IsDoneAt key node.stage → IsDoneAt key after × AllByRecursion (Unasked key) sent
stage_stays service key node input sent after (was_fenced newer f s) d = (subst (IsDoneAt key) (sym f) tt, subst (AllByRecursion (Unasked key)) (sym s) tt)
stage_stays service key node input sent after (served o before later b f t) d =
    let x = serving_stays service key node input o before later sent (subst (IsDoneAt key) b d) t in
    (subst (IsDoneAt key) (sym f) x.0, x.1)
stage_stays service key node input sent after (waited r f s) d = absurd (restarts_with_nothing key node.stage r d)
stage_stays service key node input sent after (held_off count fetched segment b f s) d = absurd (restarts_with_nothing key node.stage (ap is_restarting b) d)
stage_stays service key node input sent after (asked_on count fetched p f s) d = absurd (restarts_with_nothing key node.stage (was_restarting node input count fetched p) d)
stage_stays service key node input sent after (resumed count fetched places p n f t) d = absurd (restarts_with_nothing key node.stage (was_restarting node input count fetched p) d)
