-- .. so it is in every joint trace.
use Rattle.std.proofs.Common.{◌≡◌, ℕ, ◌+◌, ◌<◌, ◌≤◌, ◌^◌, pos, ◌≤ℤ◌, Bool, true, false, ◌&&◌, nat_lt, nat_le, le_trans, refl, sym, ap, ◌∙◌, subst, true≢false, ⊎_elim, Option, Some, None, List, [], ◌∷◌, ◌++◌, length, arith}
use Rattle.std.specs.List.{AllByRecursion}
use Rattle.std.proofs.lemmas.Int.{ints}
use Rattle.std.proofs.lemmas.Bool.{and_parts}
use Rattle.ft_io.specs.declared.Key.{Key}
use Rattle.tcp_rules.specs.Profile.{Profile}
use Rattle.seq_arith.specs.Number.{number_at, offset_of}
use Rattle.seq_arith.specs.Packet.{has_ack}
use Rattle.seq_arith.specs.Message.{Message}
use Rattle.seq_arith.proofs.Shifts.{offset_of_number}
use Rattle.server_trait.specs.Service.{Machine, Run}
use Rattle.ft_model.specs.Offset.{one_if}
use Rattle.ft_model.specs.Client.{Client, Move, received, accepted_units, is_open, is_ended, may_move, suits_phase, suits_range, segment_of}
use Rattle.ft_model.specs.Client.Move.{Syn, Text, Fin, Acknowledge, Rst, Refuse}
use Rattle.ft_model.specs.Log.{Log, Entry, entry_of, log_after}
use Rattle.ft_model.specs.Network.{Packet, destination_of}
use Rattle.ft_model.specs.Network.Packet.{To_server, To_logger}
use Rattle.ft_model.specs.Point.{Point}
use Rattle.ft_model.specs.News.{News}
use Rattle.ft_model.specs.News.News.{Comes, Logged, Ticks, Begins}
use Rattle.ft_model.specs.Connection.{ConnectionTurn}
use Rattle.ft_model.specs.Opening.{is_syn, numbers_for, point_opened, timestamping_for}
use Rattle.ft_model.specs.Refusal.{as_closed}
use Rattle.ft_model.specs.Restart.{Wanted, wanted, point_of}
use Rattle.ft_model.specs.Restart.Wanted.{An_entry, Its_bytes, Its_lengths}
use Rattle.ft_model.specs.Node.{Node, Place, Stage, Input, booted, pending_count}
use Rattle.ft_model.specs.Node.Place.{Opens, Lives, Ended}
use Rattle.ft_model.specs.Node.Stage.{Asking, Fetching, Serving, Fenced}
use Rattle.ft_model.specs.Node.Input.{Packet_comes, Message_comes, Noise_comes, Tick_comes}
use Rattle.ft_model.specs.ServingTurn.{newcomers, is_strange}
use Rattle.ft_model.specs.Lawful.{Revives, all_restored, asked}
use Rattle.ft_model.specs.Growth.{LogGrows, logged_lengths}
use Rattle.ft_model.specs.Masked.{is_restarting}
use Rattle.ft_model.specs.World.{World, IsStart, with_client}
use Rattle.ft_model.proofs.Lists.{all_weaker, all_append, none_is_some, some_is}
use Rattle.ft_model.proofs.Grows.{log_grows}
use Rattle.ft_model.proofs.LogAnswers.{log_went, all_answers}
use Rattle.ft_model.proofs.Happened.{Happened, IsBrought, IsUnderWay, all_sent, answers}
use Rattle.ft_model.proofs.Happened.Happened.{log_received, client_received, client_moved, server_turned, server_booted, server_down}
use Rattle.ft_model.proofs.PlaceTurns.{PlaceWent, IsNews, all_proceed, serving_proceeds}
use Rattle.ft_model.proofs.PlaceTurns.PlaceWent.{stayed, went_on, began, dropped, ended, refused}
use Rattle.ft_model.proofs.StageTurns.{StageWent, stage_went}
use Rattle.ft_model.proofs.StageTurns.StageWent.{was_fenced, waited, held_off, asked_on, resumed, served}
use Rattle.ft_model.proofs.Fenced.{held_so, refusals_so}
use Rattle.ft_model.proofs.Asked.{IsAsked, progress_agrees}
use Rattle.ft_model.proofs.Resumed.{nothing_missing}
use Rattle.ft_model.proofs.Services.{reads_proceed, prefix_length}
use Rattle.ft_model.proofs.Faithful.{PlaceFits, StageFits}
use Rattle.ft_model.proofs.FaithfulKept.{IsFaithful}
use Rattle.ft_model.proofs.FaithfulOver.{restored_all, client_there}
use Rattle.ft_model.proofs.Authored.{logged_run}
use Rattle.ft_model.proofs.AuthorOver.{HasAuthor}
use Rattle.ft_model.proofs.AuthorWorld.{front_of}
use Rattle.ft_model.proofs.Seen.{IsSeen}
use Rattle.ft_model.proofs.Backed.{run_units, logged_output, IsBackedBy, PacketBacked, EntryBacked, PlaceBacked, StageBacked, IsBacked, NewsBacked, news_backed, output_later, packet_later, place_later, entries_backed, segments_backed, connection_backed}
use Rattle.seq_arith.proofs.Units.{one_at_most}
use Rattle.ft_io.proofs.Choices.{holds_if}

-- places

-- what is known of a place before a turn
abbrev StandsBacked : {State : Type 0} → Machine State → (Key → List ℕ) → (Key → ℕ) → Log → Place → Type 0
StandsBacked service script isn log place = PlaceFits script isn log place × PlaceBacked service script log place

pub both_hold : {A : Type 0} (P Q : A → Type 0) (xs : List A) → AllByRecursion P xs → AllByRecursion Q xs → AllByRecursion (λ x. P x × Q x) xs
both_hold P Q [] p q = tt
both_hold P Q (x ∷ xs) p q = ((p.0, q.0), both_hold P Q xs p.1 q.1)

-- what comes to a server acknowledges no more than its client was sent
abbrev InputBacked : {State : Type 0} → Machine State → (Key → List ℕ) → Log → Input → Type 0
InputBacked service script log (Packet_comes segment) = PacketBacked service script log (To_server segment)
InputBacked service script log _ = Unit {0}

input_backed : {State : Type 0} (service : Machine State) (script : Key → List ℕ) (w : World) (input : Input) → AllByRecursion (PacketBacked service script w.log) w.packets → IsBrought w input → InputBacked service script w.log input
input_backed service script w (Packet_comes segment) a b = all_sent (PacketBacked service script w.log) w (To_server segment) a b
input_backed service script w (Message_comes message) a b = tt
input_backed service script w Noise_comes a b = tt
input_backed service script w Tick_comes a b = tt

news_of : {State : Type 0} (service : Machine State) (script : Key → List ℕ) (isn : Key → ℕ) (log : Log) (node : Node) (input : Input) (news : News) (p : Point) → InputBacked service script log input
    → IsNews node input news p → PlaceFits script isn log (Lives p) → NewsBacked service script log p news
news_of service script isn log node input (Comes segment) p i w f =
    let came : PacketBacked service script log (To_server segment) = subst (InputBacked service script log) w.0 i in
    news_backed service script log p segment f.1 (λ a. subst (λ k. IsBackedBy service script log k segment) w.1 (came a))
news_of service script isn log node input (Logged kept) p i w f = tt
news_of service script isn log node input Ticks p i w f = tt
news_of service script isn log node input Begins p i w f = absurd w

lives_backed : {State : Type 0} (service : Machine State) (script : Key → List ℕ) (log : Log) (node : Node) (news : News) (p after : Point) (now : List Place) (sent : List Packet)
    → NewsBacked service script log p news → PlaceBacked service script log (Lives p) → now ≡ Lives after ∷ [] → ConnectionTurn service node.server node.boot news p after sent
    → AllByRecursion (PlaceBacked service script log) now × AllByRecursion (PacketBacked service script log) sent
lives_backed service script log node news p after now sent w b n t =
    let c = connection_backed service node.server script log node.boot news p after sent w b t in
    (subst (AllByRecursion (PlaceBacked service script log)) (sym n) (c.0, tt), c.1)

place_backed : {State : Type 0} (service : Machine State) (script : Key → List ℕ) (isn : Key → ℕ) (log : Log) (node : Node) (input : Input) → InputBacked service script log input
    → (place : Place) (now : List Place) (sent : List Packet) → StandsBacked service script isn log place → PlaceWent service node input place now sent
    → AllByRecursion (PlaceBacked service script log) now × AllByRecursion (PacketBacked service script log) sent
place_backed service script isn log node input i place now sent b (stayed n s) =
    (subst (AllByRecursion (PlaceBacked service script log)) (sym n) (b.1, tt), subst (AllByRecursion (PacketBacked service script log)) (sym s) tt)
place_backed service script isn log node input i place now sent b (went_on news p after e w n t) =
    let stands : StandsBacked service script isn log (Lives p) = subst (StandsBacked service script isn log) e b in
    lives_backed service script log node news p after now sent (news_of service script isn log node input news p i w stands.0) stands.1 n t
place_backed service script isn log node input i place now sent b (began asked kept timestamping after e h n t) =
    lives_backed service script log node Begins (point_opened node.profile timestamping kept) after now sent tt (omega arith) n t
place_backed service script isn log node input i place now sent b (dropped asked timestamping e d n s) = (
  subst (AllByRecursion (PlaceBacked service script log)) (sym n) tt,
  ⊎_elim (λ x. subst (AllByRecursion (PacketBacked service script log)) (sym x) tt) (λ x. subst (AllByRecursion (PacketBacked service script log)) (sym x) (tt, tt)) s,
)
place_backed service script isn log node input i place now sent b (ended p e h n s) =
    (subst (AllByRecursion (PlaceBacked service script log)) (sym n) (tt, tt), subst (AllByRecursion (PacketBacked service script log)) (sym s) tt)
place_backed service script isn log node input i place now sent b (refused key segment e c k n s) =
    (subst (AllByRecursion (PlaceBacked service script log)) (sym n) (tt, tt), subst (AllByRecursion (PacketBacked service script log)) (sym s) (segments_backed service script log (as_closed node.server segment)))

revive_backed : {State : Type 0} (service : Machine State) (script : Key → List ℕ) (log : Log) (node : Node)
    → (place : Place) (now : List Place) (sent : List Packet) → PlaceBacked service script log place → Revives service node place now sent
    → AllByRecursion (PlaceBacked service script log) now × AllByRecursion (PacketBacked service script log) sent
revive_backed service script log node (Lives p) now sent b t = lives_backed service script log node Begins p t.0 now sent tt b t.1 t.2
revive_backed service script log node (Opens n timestamping) now sent b t =
    (subst (AllByRecursion (PlaceBacked service script log)) (sym t.0) (tt, tt), subst (AllByRecursion (PacketBacked service script log)) (sym t.1) tt)
revive_backed service script log node (Ended k) now sent b t =
    (subst (AllByRecursion (PlaceBacked service script log)) (sym t.0) (tt, tt), subst (AllByRecursion (PacketBacked service script log)) (sym t.1) tt)

new_backed : {State : Type 0} (service : Machine State) (script : Key → List ℕ) (log : Log) (node : Node) (input : Input) (opened : ℕ) (places : List Place)
    → AllByRecursion (PlaceBacked service script log) (newcomers node input opened places)
new_backed service script log node (Packet_comes segment) opened places =
    holds_if (AllByRecursion (PlaceBacked service script log)) (is_strange node segment places && is_syn segment && nat_lt (pending_count places) 64) (Opens (numbers_for node.profile node.isn opened segment) (timestamping_for node.profile segment) ∷ []) []
    (λ t. (tt, tt)) (λ t. tt)
new_backed service script log node (Message_comes message) opened places = tt
new_backed service script log node Noise_comes opened places = tt
new_backed service script log node Tick_comes opened places = tt

asked_backed : {State : Type 0} (service : Machine State) (script : Key → List ℕ) (log : Log) (node : Node) (w : Option Wanted) → AllByRecursion (PacketBacked service script log) (asked node w)
asked_backed service script log node (Some (An_entry index)) = (tt, tt)
asked_backed service script log node (Some (Its_bytes key offset)) = (tt, tt)
asked_backed service script log node (Some (Its_lengths key first)) = (tt, tt)
asked_backed service script log node None = tt

no_places : {State : Type 0} (service : Machine State) (script : Key → List ℕ) (log : Log) (stage : Stage) → is_restarting stage ≡ true → StageBacked service script log stage
no_places service script log Asking r = tt
no_places service script log (Fetching count fetched) r = tt
no_places service script log (Serving opened places) r = absurd (true≢false (sym r))
no_places service script log (Fenced newer) r = tt

-- the point of an entry goes on where the client acknowledged, at most
points_backed : {State : Type 0} (service : Machine State) (profile : Profile) (script : Key → List ℕ) (log : Log) (entries : List Entry) → AllByRecursion (EntryBacked service script log) entries
    → AllByRecursion (λ e. PlaceBacked service script log (Lives (point_of service profile e))) entries
points_backed service profile script log entries = all_weaker (EntryBacked service script log) _ entries (λ e h. omega (arith, h))

-- one turn of the server
turn_backed : {State : Type 0} (service : Machine State) (script : Key → List ℕ) (isn : Key → ℕ) (w : World) (node : Node) (input : Input) (sent : List Packet) (after : Stage)
    → IsAsked w → IsFaithful script isn w → IsBacked service script w → w.node ≡ Some node → IsBrought w input → StageWent service node input sent after
    → StageBacked service script w.log after × AllByRecursion (PacketBacked service script w.log) sent
turn_backed service script isn w node input sent after a f b e brought (was_fenced newer g s) =
    (subst (StageBacked service script w.log) (sym g) tt, subst (AllByRecursion (PacketBacked service script w.log)) (sym s) tt)
turn_backed service script isn w node input sent after a f b e brought (waited r g s) = (
  no_places service script w.log after (ap is_restarting g ∙ r),
  ⊎_elim (λ x. subst (AllByRecursion (PacketBacked service script w.log)) (sym x) (tt, tt)) (λ x. subst (AllByRecursion (PacketBacked service script w.log)) (sym x.1) (asked_backed service script w.log node x.0)) s,
)
turn_backed service script isn w node input sent after a f b e brought (held_off count fetched segment was g s) =
    (subst (StageBacked service script w.log) (sym g) tt, subst (AllByRecursion (PacketBacked service script w.log)) (sym s) (held_so (PacketBacked service script w.log) node fetched segment (λ x. tt)))
turn_backed service script isn w node input sent after a f b e brought (asked_on count fetched p g s) =
    (subst (StageBacked service script w.log) (sym g) tt, subst (AllByRecursion (PacketBacked service script w.log)) (sym s) (asked_backed service script w.log node (wanted count fetched)))
turn_backed service script isn w node input sent after a f b e brought (resumed count fetched places p none g t) =
    let P : Place → Type 0 = PlaceBacked service script w.log in
    let agrees = progress_agrees w node input count fetched a e brought p in
    let whole = nothing_missing w.log.entries count fetched agrees.1 none in
    let went = all_proceed (Revives service node) P P (PacketBacked service script w.log) (revive_backed service script w.log node) (all_restored service node.profile fetched) places sent
    (restored_all P service node.profile w.log.entries fetched (points_backed service node.profile script w.log w.log.entries b.entries) (λ k. tt) agrees.1 whole.0) t in
    (subst (StageBacked service script w.log) (sym g) went.0, went.1)
turn_backed service script isn w node input sent after a f b e brought (served opened places later was g t) =
    let fits : AllByRecursion (PlaceFits script isn w.log) places = subst (StageFits script isn w.log) was (f.stage node e) in
    let backed : AllByRecursion (PlaceBacked service script w.log) places = subst (StageBacked service script w.log) was (b.stage node e) in
    let went = serving_proceeds service node input opened (StandsBacked service script isn w.log) (PlaceBacked service script w.log) (PacketBacked service script w.log) places later sent
    (place_backed service script isn w.log node input (input_backed service script w input b.packets brought)) (new_backed service script w.log node input opened places)
    (refusals_so (PacketBacked service script w.log) node input places (λ x. tt)) (λ n s c. tt) (both_hold (PlaceFits script isn w.log) (PlaceBacked service script w.log) places fits backed) t in
    (subst (StageBacked service script w.log) (sym g) went.0, went.1)

-- a client's move

by_end : {State : Type 0} (b : Bool) (c : Client) (run : Run State) → length c.accepted ≤ length run.output → (b ≡ true → (run.closed ≡ true) × (c.accepted ≡ run.output))
    → length c.accepted + one_if b ≤ run_units run
by_end true c run h f =
    let x = f refl in
    let closed : one_if run.closed ≡ 1 = ap one_if x.0 in
    omega (arith, h, closed)
by_end false c run h f = omega (arith, h)

-- what a client has accepted is no more than the output
accepted_backed : {State : Type 0} (service : Machine State) (script : Key → List ℕ) (log : Log) (c : Client) → IsSeen service script log c → accepted_units c ≤ logged_output service script log c.key
accepted_backed service script log c s =
    by_end (is_ended c.phase) c (logged_run service script log c.key) (prefix_length c.accepted (logged_run service script log c.key).output s.front) s.ended

-- the run over logged reads is short
pub logged_short : {State : Type 0} (service : Machine State) (script : Key → List ℕ) (w : World) → HasAuthor service script w → (key : Key) → length (logged_run service script w.log key).output ≤ 2 ^ 24
logged_short service script w a key =
    le_trans (prefix_length _ _ (reads_proceed service (script key) (logged_lengths key w.log) (a.author key) (front_of a.author w.log key (entry_of key w.log) a.entries refl)).output) (a.short key)

-- an acknowledging move is one of an open client
pub open_move : (c : Client) (move : Move) → may_move c move ≡ true → (window : ℕ) → has_ack (segment_of c move window) ≡ true
    → (is_open c.phase ≡ true) × ((segment_of c move window).head.ack ≡ number_at c.sisn (accepted_units c))
open_move c (Syn mss) may window a = absurd (true≢false (sym a))
open_move c (Text from len) may window a = ((and_parts (is_open c.phase) (nat_le c.acknowledged (length c.script)) (and_parts (suits_phase c (Text from len)) (suits_range c (Text from len)) may).0).0, refl)
open_move c Fin may window a = ((and_parts (is_open c.phase) (nat_le c.acknowledged (length c.script)) (and_parts (suits_phase c Fin) (suits_range c Fin) may).0).0, refl)
open_move c Acknowledge may window a = ((and_parts (is_open c.phase) true may).0, refl)
open_move c Rst may window a = absurd (true≢false (sym a))
open_move c (Refuse number) may window a = absurd (true≢false (sym a))

move_backed : {State : Type 0} (service : Machine State) (script : Key → List ℕ) (w : World) (c : Client) (move : Move) (window : ℕ) → HasAuthor service script w → IsSeen service script w.log c
    → may_move c move ≡ true → PacketBacked service script w.log (To_server (segment_of c move window))
move_backed service script w c move window a s may = λ has.
    let o = open_move c move may window has in
    let x = s.sisn o.0 in
    let units : accepted_units c ≤ logged_output service script w.log c.key = accepted_backed service script w.log c s in
    let run : Run _ = logged_run service script w.log c.key in
    let short : length run.output ≤ 2 ^ 24 = logged_short service script w a c.key in
    let one : one_if run.closed ≤ 1 = one_at_most run.closed in
    let size : accepted_units c < 2 ^ 31 = omega (arith, units, short, one) in
    let at : offset_of x.0.sisn (segment_of c move window).head.ack ≡ pos (accepted_units c) =
    ap (λ n. offset_of x.0.sisn n) (o.1 ∙ ap (λ n. number_at n (accepted_units c)) (sym x.2)) ∙ offset_of_number x.0.sisn (accepted_units c) size in
    (x.0, x.1, subst (λ z. z ≤ℤ pos (logged_output service script w.log c.key)) (sym at) (omega (arith, ints, units)))

-- the world

stage_later : {State : Type 0} (service : Machine State) (script : Key → List ℕ) (before after : Log) (stage : Stage) → LogGrows before after → StageBacked service script before stage → StageBacked service script after stage
stage_later service script before after (Serving opened places) g f = all_weaker (PlaceBacked service script before) (PlaceBacked service script after) places (place_later service script before after g) f
stage_later service script before after Asking g f = tt
stage_later service script before after (Fetching count fetched) g f = tt
stage_later service script before after (Fenced newer) g f = tt

received_backed : {State : Type 0} (service : Machine State) (script : Key → List ℕ) (w : World) (message : Message) → IsBacked service script w → IsUnderWay w (To_logger message)
    → IsBacked service script (record w { log = log_after w.log message; packets = w.packets ++ answers w.log message })
received_backed service script w message b under =
    let later : Log = log_after w.log message in
    let g : LogGrows w.log later = log_grows w.log message in
    record {
      packets = all_append (PacketBacked service script later) w.packets (answers w.log message)
          (all_weaker (PacketBacked service script w.log) _ w.packets (packet_later service script w.log later g) b.packets)
          (all_answers (PacketBacked service script later) w.log message (λ body x. tt));
      entries = all_weaker (EntryBacked service script w.log) (EntryBacked service script later) later.entries (λ e x. le_trans x (output_later service script w.log later e.key g))
          (entries_backed service script w.log message later (log_went w.log message) (all_sent (PacketBacked service script w.log) w (To_logger message) b.packets under) b.entries);
      stage = λ node e. stage_later service script w.log later node.stage g (b.stage node e);
    }

-- packets are added, and a server is up or not
more_backed : {State : Type 0} (service : Machine State) (script : Key → List ℕ) (w : World) (clients : List Client) (boot : ℕ) (up : Option Node) (sent : List Packet) → IsBacked service script w
    → AllByRecursion (PacketBacked service script w.log) sent → ((n : Node) → up ≡ Some n → StageBacked service script w.log n.stage)
    → IsBacked service script (record w { clients = clients; boot = boot; node = up; packets = w.packets ++ sent })
more_backed service script w clients boot up sent b s stage = record {
  packets = all_append (PacketBacked service script w.log) w.packets sent b.packets s;
  entries = b.entries;
  stage = stage;
}

pub backed_proceeds : {State : Type 0} (service : Machine State) (script : Key → List ℕ) (isn : Key → ℕ) (before : World) (sent : List Packet) (after : World)
    → IsAsked before → IsFaithful script isn before → HasAuthor service script before → AllByRecursion (IsSeen service script before.log) before.clients → IsBacked service script before
    → Happened service before sent after → IsBacked service script after
backed_proceeds service script isn before sent after a f h s b (log_received message under t e) =
    subst (IsBacked service script) (sym (e ∙ ap (λ x. record before { log = log_after before.log message; packets = before.packets ++ x }) t)) (received_backed service script before message b under)
backed_proceeds service script isn before sent after a f h s b (client_received segment under t e) =
    subst (IsBacked service script) (sym e)
    (more_backed service script before (with_client (destination_of segment) (λ c. received c segment) before.clients) before.boot before.node sent b
    (subst (AllByRecursion (PacketBacked service script before.log)) (sym t) tt) b.stage)
backed_proceeds service script isn before sent after a f h s b (client_moved number m) =
    let seen : IsSeen service script before.log m.client = client_there (IsSeen service script before.log) before.clients number m.client s m.is_there in
    let moved : PacketBacked service script before.log (To_server m.segment) =
    subst (λ x. PacketBacked service script before.log (To_server x)) (sym m.move.segment_is) (move_backed service script before m.client m.move.move m.move.window h seen m.move.may) in
    subst (IsBacked service script) (sym m.after_is)
    (more_backed service script before (with_client m.client.key (λ x. m.later) before.clients) before.boot before.node sent b
    (subst (AllByRecursion (PacketBacked service script before.log)) (sym m.sent_is) (moved, tt)) b.stage)
backed_proceeds service script isn before sent after a f h s b (server_turned input node later brought is turn e) =
    let t = turn_backed service script isn before node input sent later.stage a f b is brought (stage_went service node later input sent turn) in
    subst (IsBacked service script) (sym e)
    (more_backed service script before before.clients before.boot (Some later) sent b t.1 (λ n g. subst (λ x. StageBacked service script before.log x.stage) (some_is later n g) t.0))
backed_proceeds service script isn before sent after a f h s b (server_booted boot isn0 down larger t e) =
    subst (IsBacked service script) (sym e)
    (more_backed service script before before.clients boot (Some (booted before.server before.profile boot isn0)) sent b (subst (AllByRecursion (PacketBacked service script before.log)) (sym t) (tt, tt))
    (λ n g. subst (λ x. StageBacked service script before.log x.stage) (some_is (booted before.server before.profile boot isn0) n g) tt))
backed_proceeds service script isn before sent after a f h s b (server_down t e) =
    subst (IsBacked service script) (sym e)
    (more_backed service script before before.clients before.boot None sent b (subst (AllByRecursion (PacketBacked service script before.log)) (sym t) tt) (λ n g. none_is_some n g))

pub start_backed : {State : Type 0} (service : Machine State) (script : Key → List ℕ) (w : World) → IsStart w → IsBacked service script w
start_backed service script w s = record {
  packets = subst (AllByRecursion (PacketBacked service script w.log)) (sym s.packets) tt;
  entries = subst (λ l. AllByRecursion (EntryBacked service script w.log) l.entries) (sym s.log) tt;
  stage = λ n e. none_is_some n (sym s.node ∙ e);
}
