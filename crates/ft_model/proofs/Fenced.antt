-- Fence: no message has a boot beyond the newest incarnation's, and no change or answer one beyond the log's. While an incarnation
-- restarts, it has sent nothing that changes the log.
use Rattle.std.proofs.Common.{◌≡◌, ℕ, ◌<◌, ◌≤◌, Bool, true, false, ◌&&◌, le_refl, le_trans, le_of_eq, not, ⊎_elim, refl, sym, ap, ◌∙◌, subst, true≢false, inl, inr, Option, Some, None, option_to_list, List, [], ◌∷◌, ◌++◌, map, arith}
use Rattle.std.specs.List.{AllByRecursion}
use Rattle.ft_io.specs.declared.Addr.{Addr}
use Rattle.seq_arith.specs.Packet.{Segment, has_rst, has_ack}
use Rattle.seq_arith.specs.Message.{Body, Message}
use Rattle.seq_arith.specs.Message.Body.{SummaryMsg, OpenMsg, DataMsg, ReadMsg, DoneMsg, StaleMsg}
use Rattle.server_trait.specs.Service.{Machine}
use Rattle.ft_model.specs.Client.{Client}
use Rattle.ft_model.specs.Log.{Log, log_after}
use Rattle.ft_model.specs.Network.{Packet, source_of}
use Rattle.ft_model.specs.Network.Packet.{To_server, To_client, To_logger, From_logger}
use Rattle.ft_model.specs.Point.{Point}
use Rattle.ft_model.specs.News.{News}
use Rattle.ft_model.specs.Connection.{ConnectionTurn, reported_by}
use Rattle.ft_model.specs.Segments.{segments_of}
use Rattle.ft_model.specs.Copy.{copies}
use Rattle.ft_model.specs.Reads.{reads_reported}
use Rattle.ft_model.specs.ResetAndEnd.{dones}
use Rattle.ft_model.specs.Restart.{Fetched, Wanted, wanted, live_entry, holding_segment}
use Rattle.ft_model.specs.Restart.Wanted.{An_entry, Its_bytes, Its_lengths}
use Rattle.ft_model.specs.Refusal.{as_listen, rst_at_ack}
use Rattle.ft_model.specs.Node.{Node, Place, Stage, Input, booted, is_for}
use Rattle.ft_model.specs.Node.Place.{Opens, Lives, Ended}
use Rattle.ft_model.specs.Node.Stage.{Asking, Fetching, Serving, Fenced}
use Rattle.ft_model.specs.Node.Input.{Packet_comes, Message_comes, Noise_comes, Tick_comes}
use Rattle.ft_model.specs.ServingTurn.{refusals, is_strange}
use Rattle.ft_model.specs.Lawful.{Revives, LawfulTurn, all_restored, hello, asked, held}
use Rattle.ft_model.specs.Masked.{is_restarting}
use Rattle.ft_model.specs.World.{World, IsStart}
use Rattle.ft_model.proofs.Lists.{all_of, all_both, all_weaker, all_append, none_is_some, some_is}
use Rattle.ft_model.proofs.Grows.{log_grows}
use Rattle.ft_model.proofs.LogAnswers.{log_went, boot_after, all_answers}
use Rattle.ft_model.proofs.Happened.{Happened, IsBrought, IsUnderWay, all_sent, answers}
use Rattle.ft_model.proofs.Happened.Happened.{log_received, client_received, client_moved, server_turned, server_booted, server_down}
use Rattle.ft_model.proofs.PlaceTurns.{PlaceWent, all_proceed, serving_proceeds}
use Rattle.ft_model.proofs.PlaceTurns.PlaceWent.{stayed, went_on, began, dropped, ended, refused}
use Rattle.ft_model.proofs.StageTurns.{Progress, StageWent, stage_went, either_turn}
use Rattle.ft_model.proofs.StageTurns.StageWent.{was_fenced, waited, held_off, asked_on, resumed, served}
use Rattle.ft_io.proofs.Choices.{holds_if}

-- what an incarnation sends: segments to clients, and messages of its own boot
abbrev pub IsOurs : ℕ → Packet → Type 0
IsOurs boot (To_client segment) = Unit {0}
IsOurs boot (To_logger message) = message.boot ≡ boot
IsOurs boot _ = ⊥

abbrev pub is_change : Body → Bool
is_change (OpenMsg n) = true
is_change (DataMsg part) = true
is_change (ReadMsg key index n) = true
is_change (DoneMsg key) = true
is_change _ = false

abbrev pub is_stale : Body → Bool
is_stale (StaleMsg newer) = true
is_stale _ = false

-- .. and while it restarts, nothing that changes the log
abbrev pub IsNoChange : ℕ → Packet → Type 0
IsNoChange boot (To_logger message) = message.boot ≡ boot → is_change message.body ≡ false
IsNoChange boot _ = Unit {0}

abbrev pub HasBoot : (boot logged : ℕ) → Packet → Type 0
HasBoot boot logged (To_logger message) = (message.boot ≤ boot) × (is_change message.body ≡ true → message.boot ≤ logged)
HasBoot boot logged (From_logger message) = (message.boot ≤ boot) × (is_stale message.body ≡ false → message.boot ≤ logged)
HasBoot boot logged _ = Unit {0}

-- an incarnation that has its Summary is the log's
abbrev pub IsLogged : ℕ → Node → Stage → Type 0
IsLogged logged node Asking = Unit {0}
IsLogged logged node (Fetching count fetched) = logged ≡ node.boot
IsLogged logged node (Serving opened places) = logged ≡ node.boot
IsLogged logged node (Fenced newer) = Unit {0}

pub record IsFencedNode (w : World) (node : Node) : Type 0 where
  pub boot : node.boot ≡ w.boot
  pub logged : IsLogged w.log.boot node node.stage
  pub quiet : is_restarting node.stage ≡ true → AllByRecursion (IsNoChange node.boot) w.packets

pub record IsFenced (w : World) : Type 0 where
  pub log : w.log.boot ≤ w.boot
  pub packets : AllByRecursion (HasBoot w.boot w.log.boot) w.packets
  pub node : (node : Node) → w.node ≡ Some node → IsFencedNode w node

pub messages_ours : (boot : ℕ) (bodies : List Body) → AllByRecursion (IsOurs boot) (map (reported_by boot) bodies)
messages_ours boot [] = tt
messages_ours boot (body ∷ bodies) = (refl, messages_ours boot bodies)

segments_ours : (boot : ℕ) (segments : List Segment) → AllByRecursion (IsOurs boot) (map To_client segments)
segments_ours boot [] = tt
segments_ours boot (segment ∷ segments) = (tt, segments_ours boot segments)

connection_ours : {State : Type 0} (service : Machine State) (server : Addr) (boot : ℕ) (news : News) (p q : Point) (sent : List Packet)
    → ConnectionTurn service server boot news p q sent → AllByRecursion (IsOurs boot) sent
connection_ours service server boot news p q sent =
    either_turn service server boot news p q sent
    (λ t. subst (AllByRecursion (IsOurs boot)) (sym t.packets) (messages_ours boot (dones news p q)))
    (λ t. subst (AllByRecursion (IsOurs boot)) (sym t.packets)
    (all_append (IsOurs boot) (map To_client (segments_of service server news p q)) _ (segments_ours boot (segments_of service server news p q))
    (messages_ours boot (copies news p q ++ (reads_reported news p q ++ dones news p q)))))

place_ours : {State : Type 0} (service : Machine State) (node : Node) (input : Input) (place : Place) (now : List Place) (sent : List Packet)
    → PlaceWent service node input place now sent → AllByRecursion (IsOurs node.boot) sent
place_ours service node input place now sent (stayed n s) = subst (AllByRecursion (IsOurs node.boot)) (sym s) tt
place_ours service node input place now sent (went_on news p after e i n t) = connection_ours service node.server node.boot news p after sent t
place_ours service node input place now sent (began asked kept timestamping after e i n t) = connection_ours service node.server node.boot _ _ after sent t
place_ours service node input place now sent (dropped asked timestamping e d n (inl s)) = subst (AllByRecursion (IsOurs node.boot)) (sym s) tt
place_ours service node input place now sent (dropped asked timestamping e d n (inr s)) = subst (AllByRecursion (IsOurs node.boot)) (sym s) (tt, tt)
place_ours service node input place now sent (ended p e h n s) = subst (AllByRecursion (IsOurs node.boot)) (sym s) tt
place_ours service node input place now sent (refused key segment e i f n s) = subst (AllByRecursion (IsOurs node.boot)) (sym s) (segments_ours node.boot _)

abbrev Anywhere : Place → Type 0
Anywhere place = Unit {0}

revived_ours : {State : Type 0} (service : Machine State) (node : Node) (place : Place) (now : List Place) (sent : List Packet)
    → Revives service node place now sent → AllByRecursion (IsOurs node.boot) sent
revived_ours service node (Lives p) now sent t = connection_ours service node.server node.boot _ p t.0 sent t.2
revived_ours service node (Opens n timestamping) now sent t = subst (AllByRecursion (IsOurs node.boot)) (sym t.1) tt
revived_ours service node (Ended k) now sent t = subst (AllByRecursion (IsOurs node.boot)) (sym t.1) tt

asked_ours : (node : Node) (w : Option Wanted) → AllByRecursion (IsOurs node.boot) (asked node w)
asked_ours node (Some w) = (refl, tt)
asked_ours node None = tt

pub all_opt : {A : Type 0} (P : Packet → Type 0) (f : A → Packet) (o : Option A) → ((x : A) → P (f x)) → AllByRecursion P (map f (option_to_list o))
all_opt P f (Some x) g = (g x, tt)
all_opt P f None g = tt

pub held_so : (P : Packet → Type 0) (node : Node) (fetched : List Fetched) (segment : Segment) → ((s : Segment) → P (To_client s)) → AllByRecursion P (held node fetched segment)
held_so P node fetched segment g =
    holds_if (AllByRecursion P) (is_for node.server segment && not (has_rst segment)) _ []
    (λ t. all_opt P _ (live_entry (source_of segment) fetched) (λ f. g (holding_segment node.server f.head))) (λ t. tt)

pub refusals_so : (P : Packet → Type 0) (node : Node) (input : Input) (places : List Place) → ((s : Segment) → P (To_client s)) → AllByRecursion P (refusals node input places)
refusals_so P node (Packet_comes segment) places g =
    holds_if (AllByRecursion P) (is_strange node segment places) (map To_client (as_listen node.server segment)) []
    (λ t. holds_if (λ x. AllByRecursion P (map To_client x)) (has_ack segment && not (has_rst segment)) (rst_at_ack node.server segment ∷ []) []
    (λ t. (g (rst_at_ack node.server segment), tt)) (λ t. tt)) (λ t. tt)
refusals_so P node (Message_comes message) places g = tt
refusals_so P node Noise_comes places g = tt
refusals_so P node Tick_comes places g = tt

-- everything that an incarnation sends is its own
pub turn_ours : {State : Type 0} (service : Machine State) (node : Node) (input : Input) (sent : List Packet) (after : Stage)
    → StageWent service node input sent after → AllByRecursion (IsOurs node.boot) sent
turn_ours service node input sent after (was_fenced newer a s) = subst (AllByRecursion (IsOurs node.boot)) (sym s) tt
turn_ours service node input sent after (waited r a (inl s)) = subst (AllByRecursion (IsOurs node.boot)) (sym s) (refl, tt)
turn_ours service node input sent after (waited r a (inr (w, s, m))) = subst (AllByRecursion (IsOurs node.boot)) (sym s) (asked_ours node w)
turn_ours service node input sent after (held_off count fetched segment b a s) =
    subst (AllByRecursion (IsOurs node.boot)) (sym s) (held_so (IsOurs node.boot) node fetched segment (λ x. tt))
turn_ours service node input sent after (asked_on count fetched p a s) = subst (AllByRecursion (IsOurs node.boot)) (sym s) (asked_ours node (wanted count fetched))
turn_ours service node input sent after (resumed count fetched places p w a t) =
    (all_proceed (Revives service node) Anywhere Anywhere (IsOurs node.boot) (λ place now some h r. (all_of Anywhere now (λ x. tt), revived_ours service node place now some r))
    (all_restored service node.profile fetched) places sent (all_of Anywhere (all_restored service node.profile fetched) (λ x. tt)) t).1
turn_ours service node input sent after (served opened places later b a t) =
    (serving_proceeds service node input opened Anywhere Anywhere (IsOurs node.boot) places later sent
    (λ place now some h r. (all_of Anywhere now (λ x. tt), place_ours service node input place now some r)) (all_of Anywhere _ (λ x. tt))
    (refusals_so (IsOurs node.boot) node input places (λ x. tt)) (λ numbers s h. refl) (all_of Anywhere places (λ x. tt)) t).1

pub asked_quiet : (node : Node) (w : Option Wanted) → AllByRecursion (IsNoChange node.boot) (asked node w)
asked_quiet node (Some (An_entry index)) = (λ e. refl, tt)
asked_quiet node (Some (Its_bytes key offset)) = (λ e. refl, tt)
asked_quiet node (Some (Its_lengths key first)) = (λ e. refl, tt)
asked_quiet node None = tt

pub was_restarting : (node : Node) (input : Input) (count : ℕ) (fetched : List Fetched) → Progress node input count fetched → is_restarting node.stage ≡ true
was_restarting node input count fetched p =
    ⊎_elim (λ h. ap is_restarting h.0) (λ h. ap is_restarting h.1) p.how

-- while it restarts, an incarnation sends nothing that changes the log
pub turn_quiet : {State : Type 0} (service : Machine State) (node : Node) (input : Input) (sent : List Packet) (after : Stage)
    → is_restarting after ≡ true → StageWent service node input sent after → (is_restarting node.stage ≡ true) × AllByRecursion (IsNoChange node.boot) sent
turn_quiet service node input sent after r (was_fenced newer a s) = absurd (true≢false (sym r ∙ ap is_restarting a))
turn_quiet service node input sent after r (waited b a (inl s)) = (b, subst (AllByRecursion (IsNoChange node.boot)) (sym s) (λ e. refl, tt))
turn_quiet service node input sent after r (waited b a (inr (w, s, m))) = (b, subst (AllByRecursion (IsNoChange node.boot)) (sym s) (asked_quiet node w))
turn_quiet service node input sent after r (held_off count fetched segment b a s) =
    (ap is_restarting b, subst (AllByRecursion (IsNoChange node.boot)) (sym s) (held_so (IsNoChange node.boot) node fetched segment (λ x. tt)))
turn_quiet service node input sent after r (asked_on count fetched p a s) =
    (was_restarting node input count fetched p, subst (AllByRecursion (IsNoChange node.boot)) (sym s) (asked_quiet node (wanted count fetched)))
turn_quiet service node input sent after r (resumed count fetched places p w a t) = absurd (true≢false (sym r ∙ ap is_restarting a))
turn_quiet service node input sent after r (served opened places later b a t) = absurd (true≢false (sym r ∙ ap is_restarting a))

ours_have_boot : (boot top logged : ℕ) → boot ≤ top → boot ≤ logged → (packet : Packet) → IsOurs boot packet → HasBoot top logged packet
ours_have_boot boot top logged t l (To_client segment) o = tt
ours_have_boot boot top logged t l (To_logger message) o = (omega (arith, t, o), λ c. omega (arith, l, o))
ours_have_boot boot top logged t l (To_server segment) o = absurd o
ours_have_boot boot top logged t l (From_logger message) o = absurd o

-- .. and messages that change nothing have a boot at most the newest, whatever the log's
quiet_have_boot : (boot top logged : ℕ) → boot ≤ top → (packet : Packet) → IsOurs boot packet → IsNoChange boot packet → HasBoot top logged packet
quiet_have_boot boot top logged t (To_client segment) o q = tt
quiet_have_boot boot top logged t (To_logger message) o q = (omega (arith, t, o), λ c. absurd (true≢false (sym c ∙ q o)))
quiet_have_boot boot top logged t (To_server segment) o q = absurd o
quiet_have_boot boot top logged t (From_logger message) o q = absurd o

have_boot_still : (top logged top' logged' : ℕ) → top ≤ top' → logged ≤ logged' → (packet : Packet) → HasBoot top logged packet → HasBoot top' logged' packet
have_boot_still top logged top' logged' t l (To_client segment) h = tt
have_boot_still top logged top' logged' t l (To_server segment) h = tt
have_boot_still top logged top' logged' t l (To_logger message) h = (omega (arith, t, h.0), λ c. le_trans (h.1 c) l)
have_boot_still top logged top' logged' t l (From_logger message) h = (omega (arith, t, h.0), λ c. le_trans (h.1 c) l)

logged_still : (a b : ℕ) (node : Node) (stage : Stage) → IsLogged a node stage → a ≤ b → b ≤ node.boot → IsLogged b node stage
logged_still a b node Asking l p q = tt
logged_still a b node (Fetching count fetched) l p q = omega (arith, l, p, q)
logged_still a b node (Serving opened places) l p q = omega (arith, l, p, q)
logged_still a b node (Fenced newer) l p q = tt

answers_have_boot : (log : Log) (message : Message) (top : ℕ) → message.boot ≤ top → AllByRecursion (HasBoot top (log_after log message).boot) (answers log message)
answers_have_boot log message top m =
    all_answers (HasBoot top (log_after log message).boot) log message
    (λ body a. (m, λ q. ⊎_elim (λ s. absurd (true≢false (ap is_stale (sym s) ∙ q))) (λ o. omega (arith, o.0)) a))

answers_quiet : (boot : ℕ) (log : Log) (message : Message) → AllByRecursion (IsNoChange boot) (answers log message)
answers_quiet boot log message = all_answers (IsNoChange boot) log message (λ body a. tt)

received_fenced : (w : World) (message : Message) → IsFenced w → IsUnderWay w (To_logger message)
    → IsFenced (record w { log = log_after w.log message; packets = w.packets ++ answers w.log message })
received_fenced w message f under =
    let came : HasBoot w.boot w.log.boot (To_logger message) = all_sent (HasBoot w.boot w.log.boot) w (To_logger message) f.packets under in
    let grows : w.log.boot ≤ (log_after w.log message).boot = (log_grows w.log message).boot in
    let top : (log_after w.log message).boot ≤ w.boot = boot_after w.log message _ w.boot (log_went w.log message) f.log came.0 in
    record {
      log = top;
      packets = all_append (HasBoot w.boot (log_after w.log message).boot) w.packets (answers w.log message)
          (all_weaker (HasBoot w.boot w.log.boot) _ w.packets (have_boot_still w.boot w.log.boot w.boot (log_after w.log message).boot (le_refl w.boot) grows) f.packets)
          (answers_have_boot w.log message w.boot came.0);
      node = λ node e. let n = f.node node e in
          record {
            boot = n.boot;
            logged = logged_still w.log.boot (log_after w.log message).boot node node.stage n.logged grows (omega (arith, top, n.boot));
            quiet = λ r. all_append (IsNoChange node.boot) w.packets (answers w.log message) (n.quiet r) (answers_quiet node.boot w.log message);
          };
    }

-- segments, of whichever way
abbrev pub IsSegment : Packet → Type 0
IsSegment (To_server segment) = Unit {0}
IsSegment (To_client segment) = Unit {0}
IsSegment _ = ⊥

segment_has_boot : (top logged : ℕ) (packet : Packet) → IsSegment packet → HasBoot top logged packet
segment_has_boot top logged (To_server segment) s = tt
segment_has_boot top logged (To_client segment) s = tt
segment_has_boot top logged (To_logger message) s = absurd s
segment_has_boot top logged (From_logger message) s = absurd s

segment_quiet : (boot : ℕ) (packet : Packet) → IsSegment packet → IsNoChange boot packet
segment_quiet boot (To_server segment) s = tt
segment_quiet boot (To_client segment) s = tt
segment_quiet boot (To_logger message) s = absurd s
segment_quiet boot (From_logger message) s = tt

-- packets that are no messages, and a change of clients, leave the fence as it is
fenced_still : (w : World) (clients : List Client) (sent : List Packet) → IsFenced w → AllByRecursion IsSegment sent → IsFenced (record w { clients = clients; packets = w.packets ++ sent })
fenced_still w clients sent f s = record {
  log = f.log;
  packets = all_append (HasBoot w.boot w.log.boot) w.packets sent f.packets (all_weaker IsSegment _ sent (segment_has_boot w.boot w.log.boot) s);
  node = λ node e. let n = f.node node e in
      record {
        boot = n.boot;
        logged = n.logged;
        quiet = λ r. all_append (IsNoChange node.boot) w.packets sent (n.quiet r) (all_weaker IsSegment _ sent (segment_quiet node.boot) s);
      };
}

-- the Summary of an incarnation makes it the log's
summary_logged : (w : World) (node : Node) (message : Message) (count : ℕ) → IsFenced w → w.node ≡ Some node → IsUnderWay w (From_logger message)
    → message.boot ≡ node.boot → message.body ≡ SummaryMsg count → w.log.boot ≡ node.boot
summary_logged w node message count f e under b s =
    let came : HasBoot w.boot w.log.boot (From_logger message) = all_sent (HasBoot w.boot w.log.boot) w (From_logger message) f.packets under in
    let own : node.boot ≡ w.boot = (f.node node e).boot in
    let low : message.boot ≤ w.log.boot = came.1 (ap is_stale s) in
    let top : w.log.boot ≤ w.boot = f.log in
    omega (arith, own, low, top, b)

-- an incarnation that has its Summary is the log's
pub progress_logged : (w : World) (node : Node) (input : Input) (count : ℕ) (fetched : List Fetched) → IsFenced w → w.node ≡ Some node → IsBrought w input
    → Progress node input count fetched → w.log.boot ≡ node.boot
progress_logged w node input count fetched f e brought p =
    let under : IsUnderWay w (From_logger p.message) = subst (IsBrought w) p.comes brought in
    ⊎_elim (λ h. summary_logged w node p.message count f e under p.boot h.1) (λ h. subst (IsLogged w.log.boot node) h.1 (f.node node e).logged) p.how

logged_as : (a : ℕ) (node later : Node) (stage : Stage) → node.boot ≡ later.boot → IsLogged a node stage → IsLogged a later stage
logged_as a node later Asking e l = tt
logged_as a node later (Fetching count fetched) e l = l ∙ e
logged_as a node later (Serving opened places) e l = l ∙ e
logged_as a node later (Fenced newer) e l = tt

older_quiet : (top logged boot : ℕ) → top < boot → (packet : Packet) → HasBoot top logged packet → IsNoChange boot packet
older_quiet top logged boot less (To_logger message) h = λ e. absurd (omega (arith, less, h.0, e))
older_quiet top logged boot less (To_server segment) h = tt
older_quiet top logged boot less (To_client segment) h = tt
older_quiet top logged boot less (From_logger message) h = tt

-- what a turn sends while the log isn't known to be the incarnation's changes nothing
abbrev Sent : World → Node → Stage → List Packet → Type 0
Sent w node after sent = (IsLogged w.log.boot node after) × AllByRecursion (HasBoot w.boot w.log.boot) sent

quietly : {State : Type 0} (service : Machine State) (w : World) (node : Node) (input : Input) (sent : List Packet) (after : Stage)
    → IsFenced w → w.node ≡ Some node → is_restarting after ≡ true → StageWent service node input sent after → AllByRecursion (HasBoot w.boot w.log.boot) sent
quietly service w node input sent after f e r t =
    all_both (IsOurs node.boot) (IsNoChange node.boot) (HasBoot w.boot w.log.boot) sent (quiet_have_boot node.boot w.boot w.log.boot (le_of_eq (f.node node e).boot))
    (turn_ours service node input sent after t) (turn_quiet service node input sent after r t).1

owned : {State : Type 0} (service : Machine State) (w : World) (node : Node) (input : Input) (sent : List Packet) (after : Stage)
    → IsFenced w → w.node ≡ Some node → w.log.boot ≡ node.boot → StageWent service node input sent after → AllByRecursion (HasBoot w.boot w.log.boot) sent
owned service w node input sent after f e own t =
    all_weaker (IsOurs node.boot) (HasBoot w.boot w.log.boot) sent (ours_have_boot node.boot w.boot w.log.boot (le_of_eq (f.node node e).boot) (le_of_eq (sym own)))
    (turn_ours service node input sent after t)

turn_fenced : {State : Type 0} (service : Machine State) (w : World) (node : Node) (input : Input) (sent : List Packet) (after : Stage)
    → IsFenced w → w.node ≡ Some node → IsBrought w input → StageWent service node input sent after → Sent w node after sent
turn_fenced service w node input sent after f e brought (was_fenced newer a s) =
    (subst (IsLogged w.log.boot node) (sym a) tt, subst (AllByRecursion (HasBoot w.boot w.log.boot)) (sym s) tt)
turn_fenced service w node input sent after f e brought (waited r a s) =
    (subst (IsLogged w.log.boot node) (sym a) (f.node node e).logged, quietly service w node input sent after f e (ap is_restarting a ∙ r) (waited r a s))
turn_fenced service w node input sent after f e brought (held_off count fetched segment b a s) = (
  subst (IsLogged w.log.boot node) (sym (a ∙ sym b)) (f.node node e).logged,
  quietly service w node input sent after f e (ap is_restarting a) (held_off count fetched segment b a s),
)
turn_fenced service w node input sent after f e brought (asked_on count fetched p a s) = (
  subst (IsLogged w.log.boot node) (sym a) (progress_logged w node input count fetched f e brought p),
  quietly service w node input sent after f e (ap is_restarting a) (asked_on count fetched p a s),
)
turn_fenced service w node input sent after f e brought (resumed count fetched places p n a t) =
    let own : w.log.boot ≡ node.boot = progress_logged w node input count fetched f e brought p in
    (subst (IsLogged w.log.boot node) (sym a) own, owned service w node input sent after f e own (resumed count fetched places p n a t))
turn_fenced service w node input sent after f e brought (served opened places later b a t) =
    let own : w.log.boot ≡ node.boot = subst (IsLogged w.log.boot node) b (f.node node e).logged in
    (subst (IsLogged w.log.boot node) (sym a) own, owned service w node input sent after f e own (served opened places later b a t))

turned_fenced : {State : Type 0} (service : Machine State) (w : World) (node later : Node) (input : Input) (sent : List Packet)
    → IsFenced w → w.node ≡ Some node → IsBrought w input → LawfulTurn service node input sent later
    → IsFenced (record w { node = Some later; packets = w.packets ++ sent })
turned_fenced service w node later input sent f e brought t =
    let went : StageWent service node input sent later.stage = stage_went service node later input sent t in
    let ours : AllByRecursion (IsOurs node.boot) sent = turn_ours service node input sent later.stage went in
    let n : IsFencedNode w node = f.node node e in
    let s : Sent w node later.stage sent = turn_fenced service w node input sent later.stage f e brought went in
    record {
      log = f.log;
      packets = all_append (HasBoot w.boot w.log.boot) w.packets sent f.packets s.1;
      node = λ x g. subst (IsFencedNode (record w { node = Some later; packets = w.packets ++ sent })) (some_is later x g)
          (record {
            boot = t.boot ∙ n.boot;
            logged = logged_as w.log.boot node later later.stage (sym t.boot) s.0;
            quiet = λ r. let q = turn_quiet service node input sent later.stage r went in
                subst (λ b. AllByRecursion (IsNoChange b) (w.packets ++ sent)) (sym t.boot) (all_append (IsNoChange node.boot) w.packets sent (n.quiet q.0) q.1);
          });
    }

booted_fenced : (w : World) (boot isn : ℕ) → IsFenced w → w.boot < boot
    → IsFenced (record w { boot = boot; node = Some (booted w.server w.profile boot isn); packets = w.packets ++ hello (booted w.server w.profile boot isn) })
booted_fenced w boot isn f larger = record {
  log = omega (arith, larger, f.log);
  packets = all_append (HasBoot boot w.log.boot) w.packets _
      (all_weaker (HasBoot w.boot w.log.boot) _ w.packets (have_boot_still w.boot w.log.boot boot w.log.boot (omega (arith, larger)) (le_refl w.log.boot)) f.packets)
      ((le_refl boot, λ c. absurd (true≢false (sym c))), tt);
  node = λ x g. subst (IsFencedNode _) (some_is (booted w.server w.profile boot isn) x g)
      (record {
        boot = refl;
        logged = tt;
        quiet = λ r. all_append (IsNoChange boot) w.packets _ (all_weaker (HasBoot w.boot w.log.boot) (IsNoChange boot) w.packets (older_quiet w.boot w.log.boot boot larger) f.packets)
            (λ c. refl, tt);
      });
}

pub fenced_proceeds : {State : Type 0} (service : Machine State) (before : World) (sent : List Packet) (after : World)
    → IsFenced before → Happened service before sent after → IsFenced after
fenced_proceeds service before sent after f (log_received message under s e) =
    subst IsFenced (sym (e ∙ ap (λ x. record before { log = log_after before.log message; packets = before.packets ++ x }) s)) (received_fenced before message f under)
fenced_proceeds service before sent after f (client_received segment under s e) =
    subst IsFenced (sym e) (fenced_still before _ sent f (subst (AllByRecursion IsSegment) (sym s) tt))
fenced_proceeds service before sent after f (client_moved number m) =
    subst IsFenced (sym m.after_is) (fenced_still before _ sent f (subst (AllByRecursion IsSegment) (sym m.sent_is) (tt, tt)))
fenced_proceeds service before sent after f (server_turned input node later brought is turn e) =
    subst IsFenced (sym e) (turned_fenced service before node later input sent f is brought turn)
fenced_proceeds service before sent after f (server_booted boot isn down larger s e) =
    subst IsFenced (sym (e ∙ ap (λ x. record before { boot = boot; node = Some (booted before.server before.profile boot isn); packets = before.packets ++ x }) s))
    (booted_fenced before boot isn f larger.0)
fenced_proceeds service before sent after f (server_down s e) =
    subst IsFenced (sym e) (record {
      log = f.log;
      packets = all_append (HasBoot before.boot before.log.boot) before.packets sent f.packets (subst (AllByRecursion (HasBoot before.boot before.log.boot)) (sym s) tt);
      node = λ x g. none_is_some x g;
    })

pub start_fenced : (w : World) → IsStart w → IsFenced w
start_fenced w s = record {
  log = subst (λ l. l.boot ≤ w.boot) (sym s.log) (omega arith);
  packets = subst (AllByRecursion (HasBoot w.boot w.log.boot)) (sym s.packets) tt;
  node = λ x e. none_is_some x (sym s.node ∙ e);
}
