-- No two places of a server have the same key, and a connection that is live or done stays known.
use Rattle.tcp_rules.specs.declared.timestamping.Timestamping.{Timestamping}
use Rattle.std.proofs.Common.{◌≡◌, ℕ, true, false, ◌&&◌, nat_lt, not, refl, sym, ap, ◌∙◌, subst, true≢false, inl, inr, ◌⊎◌, ⊎_elim, Some, List, [], ◌∷◌, ◌++◌, map, append-nil}
use Rattle.std.proofs.lemmas.Bool.{and_parts, or_parts, or_from}
use Rattle.ft_io.specs.declared.Key.{Key}
use Rattle.ft_io.specs.Key.{key_eq}
use Rattle.seq_arith.specs.Message.{Numbers}
use Rattle.server_trait.specs.Service.{Machine}
use Rattle.ft_model.specs.Network.{Packet, source_of}
use Rattle.ft_model.specs.Opening.{is_syn, numbers_for, timestamping_for}
use Rattle.ft_model.specs.Node.{Node, Place, Stage, Input, key_of, is_known, is_for, pending_count, booted}
use Rattle.ft_model.specs.Node.Place.{Opens, Lives, Ended}
use Rattle.ft_model.specs.Node.Stage.{Asking, Fetching, Serving, Fenced}
use Rattle.ft_model.specs.Node.Input.{Packet_comes, Message_comes, Noise_comes, Tick_comes}
use Rattle.ft_model.specs.ServingTurn.{PlaceTurn, AllGo, newcomers, is_strange}
use Rattle.ft_model.specs.Growth.{IsPrefix}
use Rattle.ft_model.specs.Lawful.{all_restored}
use Rattle.ft_model.specs.Masked.{is_restarting}
use Rattle.ft_model.specs.World.{World}
use Rattle.ft_model.specs.Keys.{AreDistinct, has_key}
use Rattle.ft_model.proofs.Lists.{none_is_some, some_is}
use Rattle.ft_model.proofs.Keys.{absent_key, distinct_front, distinct_more}
use Rattle.ft_model.proofs.Happened.{Happened, IsBrought}
use Rattle.ft_model.proofs.Happened.Happened.{log_received, client_received, client_moved, server_turned, server_booted, server_down}
use Rattle.ft_model.proofs.PlaceTurns.{PlaceWent, IsDropped, place_went}
use Rattle.ft_model.proofs.PlaceTurns.PlaceWent.{stayed, went_on, began, dropped, ended, refused}
use Rattle.ft_model.proofs.StageTurns.{StageWent, stage_went, either_turn}
use Rattle.ft_model.proofs.StageTurns.StageWent.{was_fenced, waited, held_off, asked_on, resumed, served}
use Rattle.ft_model.proofs.Asked.{IsAsked, entry_keys, progress_agrees}
use Rattle.ft_model.proofs.Resumed.{restored_keys, revived_keys, map_append}
use Rattle.ft_io.proofs.Booleans.{not_true}
use Rattle.ft_io.proofs.Choices.{holds_if}

-- at most one place comes of one, with its key
abbrev pub KeepsKey : Place → List Place → Type 0
KeepsKey place now = (now ≡ []) ⊎ ((after : Place) × (now ≡ after ∷ []) × (key_of after ≡ key_of place))

-- a place that isn't dropped stays one place of its key
pub stays_or_drops : {State : Type 0} (service : Machine State) (node : Node) (input : Input) (place : Place) (now : List Place) (sent : List Packet)
    → PlaceWent service node input place now sent
    → ((asked : Numbers) × (timestamping : Timestamping) × (place ≡ Opens asked timestamping) × IsDropped node input asked × (now ≡ [])) ⊎ ((after : Place) × (now ≡ after ∷ []) × (key_of after ≡ key_of place))
stays_or_drops service node input place now sent (stayed n s) = inr (place, n, refl)
stays_or_drops service node input place now sent (went_on news p after e i n t) =
    inr (Lives after, n, either_turn service node.server node.boot news p after sent (λ r. ap (λ x. x.key) r.point) (λ l. l.same.key) t ∙ sym (ap key_of e))
stays_or_drops service node input place now sent (began asked kept timestamping after e h n t) =
    inr (Lives after, n, (either_turn service node.server node.boot _ _ after sent (λ r. ap (λ x. x.key) r.point) (λ l. l.same.key) t ∙ h.key) ∙ sym (ap key_of e))
stays_or_drops service node input place now sent (dropped asked timestamping e d n s) = inl (asked, timestamping, e, d, n)
stays_or_drops service node input place now sent (ended p e h n s) = inr (Ended p.key, n, sym (ap key_of e))
stays_or_drops service node input place now sent (refused key segment e c k n s) = inr (Ended key, n, sym (ap key_of e))

pub keeps_key : {State : Type 0} (service : Machine State) (node : Node) (input : Input) (place : Place) (now : List Place) (sent : List Packet)
    → PlaceWent service node input place now sent → KeepsKey place now
keeps_key service node input place now sent t = ⊎_elim (λ d. inl d.4) (λ k. inr k) (stays_or_drops service node input place now sent t)

-- the keys of a list of places, through a turn
pub no_key_after : (Goes : Place → List Place → List Packet → Type 0) → ((place : Place) (now : List Place) (sent : List Packet) → Goes place now sent → KeepsKey place now)
    → (key : Key) (before after : List Place) (sent : List Packet) → AllGo Goes before after sent → has_key key (map key_of before) ≡ false → has_key key (map key_of after) ≡ false
no_key_after Goes keeps key [] after sent t h = ap (λ l. has_key key (map key_of l)) t.0
no_key_after Goes keeps key (place ∷ places) after sent (now, later, first, others, places_are, sent_is, goes, rest) h =
    let parts = or_parts (key_eq (key_of place) key) (has_key key (map key_of places)) h in
    let there : has_key key (map key_of later) ≡ false = no_key_after Goes keeps key places later others rest parts.1 in
    ⊎_elim (λ n. ap (λ l. has_key key (map key_of l)) (places_are ∙ ap (λ l. l ++ later) n) ∙ there)
    (λ n. ap (λ l. has_key key (map key_of l)) (places_are ∙ ap (λ l. l ++ later) n.1)
    ∙ or_from (key_eq (key_of n.0) key) (has_key key (map key_of later)) (ap (λ k. key_eq k key) n.2 ∙ parts.0) there) (keeps place now first goes)

pub distinct_proceeds : (Goes : Place → List Place → List Packet → Type 0) → ((place : Place) (now : List Place) (sent : List Packet) → Goes place now sent → KeepsKey place now)
    → (before after : List Place) (sent : List Packet) → AllGo Goes before after sent → AreDistinct (map key_of before) → AreDistinct (map key_of after)
distinct_proceeds Goes keeps [] after sent t d = subst (λ l. AreDistinct (map key_of l)) (sym t.0) tt
distinct_proceeds Goes keeps (place ∷ places) after sent (now, later, first, others, places_are, sent_is, goes, rest) d =
    let there : AreDistinct (map key_of later) = distinct_proceeds Goes keeps places later others rest d.1 in
    ⊎_elim (λ n. subst (λ l. AreDistinct (map key_of l)) (sym (places_are ∙ ap (λ l. l ++ later) n)) there)
    (λ n. subst (λ l. AreDistinct (map key_of l)) (sym (places_are ∙ ap (λ l. l ++ later) n.1))
    (subst (λ k. has_key k (map key_of later) ≡ false) (sym n.2) (no_key_after Goes keeps (key_of place) places later others rest d.0), there)) (keeps place now first goes)

-- a new place has a new key
with_new : (node : Node) (input : Input) (opened : ℕ) (before went : List Place) → AreDistinct (map key_of went)
    → ((key : Key) → has_key key (map key_of before) ≡ false → has_key key (map key_of went) ≡ false) → AreDistinct (map key_of (went ++ newcomers node input opened before))
with_new node (Packet_comes segment) opened before went d none =
    holds_if (λ l. AreDistinct (map key_of (went ++ l))) (is_strange node segment before && is_syn segment && nat_lt (pending_count before) 64)
    (Opens (numbers_for node.profile node.isn opened segment) (timestamping_for node.profile segment) ∷ []) []
    (λ t. let one = and_parts (is_strange node segment before && is_syn segment) (nat_lt (pending_count before) 64) t in
    let two = and_parts (is_strange node segment before) (is_syn segment) one.0 in
    let three = and_parts (is_for node.server segment) (not (is_known (source_of segment) before)) two.0 in
    subst AreDistinct (sym (map_append key_of went (Opens (numbers_for node.profile node.isn opened segment) (timestamping_for node.profile segment) ∷ [])))
    (distinct_more (map key_of went) (source_of segment) d (none (source_of segment) (absent_key key_of (source_of segment) before (not_true _ three.1)))))
    (λ t. subst (λ l. AreDistinct (map key_of l)) (sym (append-nil went)) d)
with_new node (Message_comes message) opened before went d none = subst (λ l. AreDistinct (map key_of l)) (sym (append-nil went)) d
with_new node Noise_comes opened before went d none = subst (λ l. AreDistinct (map key_of l)) (sym (append-nil went)) d
with_new node Tick_comes opened before went d none = subst (λ l. AreDistinct (map key_of l)) (sym (append-nil went)) d

abbrev pub StageDistinct : Stage → Type 0
StageDistinct (Serving opened places) = AreDistinct (map key_of places)
StageDistinct _ = Unit {0}

abbrev pub IsDistinct : World → Type 0
IsDistinct w = (node : Node) → w.node ≡ Some node → StageDistinct node.stage

restart_distinct : (stage : Stage) → is_restarting stage ≡ true → StageDistinct stage
restart_distinct Asking r = tt
restart_distinct (Fetching count fetched) r = tt
restart_distinct (Serving opened places) r = absurd (true≢false (sym r))
restart_distinct (Fenced newer) r = tt

pub turn_distinct : {State : Type 0} (service : Machine State) (w : World) (node : Node) (input : Input) (sent : List Packet) (after : Stage)
    → IsAsked w → IsDistinct w → w.node ≡ Some node → IsBrought w input → StageWent service node input sent after → StageDistinct after
turn_distinct service w node input sent after a d e brought (was_fenced newer g s) = subst StageDistinct (sym g) tt
turn_distinct service w node input sent after a d e brought (waited r g s) = restart_distinct after (ap is_restarting g ∙ r)
turn_distinct service w node input sent after a d e brought (held_off count fetched segment b g s) = subst StageDistinct (sym g) tt
turn_distinct service w node input sent after a d e brought (asked_on count fetched p g s) = subst StageDistinct (sym g) tt
turn_distinct service w node input sent after a d e brought (resumed count fetched places p none g t) =
    let agrees = progress_agrees w node input count fetched a e brought p in
    let keys : IsPrefix (map key_of places) (entry_keys w.log) =
    subst (λ l. IsPrefix l (entry_keys w.log)) (sym (revived_keys service node (all_restored service node.profile fetched) places sent t)) (restored_keys service node.profile w.log.entries fetched agrees.1) in
    subst StageDistinct (sym g) (distinct_front (map key_of places) keys.0 (subst AreDistinct (sym keys.1) a.distinct))
turn_distinct service w node input sent after a d e brought (served opened places later b g t) =
    let was : AreDistinct (map key_of places) = subst StageDistinct b (d node e) in
    let keeps : (place : Place) (now : List Place) (some : List Packet) → PlaceTurn service node input place now some → KeepsKey place now =
    λ place now some x. keeps_key service node input place now some (place_went service node input place now some x) in
    let went : AreDistinct (map key_of t.went) = distinct_proceeds (PlaceTurn service node input) keeps places t.went t.by_places t.all_go was in
    subst StageDistinct (sym g)
    (subst (λ l. AreDistinct (map key_of l)) (sym t.places)
    (with_new node input opened places t.went went (λ key none. no_key_after (PlaceTurn service node input) keeps key places t.went t.by_places t.all_go none)))

pub distinct_after : {State : Type 0} (service : Machine State) (before : World) (sent : List Packet) (after : World)
    → IsAsked before → IsDistinct before → Happened service before sent after → IsDistinct after
distinct_after service before sent after a d (log_received message under s e) = subst IsDistinct (sym e) d
distinct_after service before sent after a d (client_received segment under s e) = subst IsDistinct (sym e) d
distinct_after service before sent after a d (client_moved number m) = subst IsDistinct (sym m.after_is) d
distinct_after service before sent after a d (server_turned input node later brought is turn e) =
    subst IsDistinct (sym e)
    (λ n g. subst (λ x. StageDistinct x.stage) (some_is later n g)
    (turn_distinct service before node input sent later.stage a d is brought (stage_went service node later input sent turn)))
distinct_after service before sent after a d (server_booted boot isn down larger s e) =
    subst IsDistinct (sym e) (λ n g. subst (λ x. StageDistinct x.stage) (some_is (booted before.server before.profile boot isn) n g) tt)
distinct_after service before sent after a d (server_down s e) = subst IsDistinct (sym e) (λ n g. none_is_some n g)
