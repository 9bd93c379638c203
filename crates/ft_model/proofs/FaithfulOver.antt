-- Over a whole trace: all that a client is told to be received is logged, and what is logged is the front of its script.
use Rattle.std.proofs.Common.{◌≡◌, ℕ, zero, suc, ◌+◌, ◌≤◌, ◌^◌, true, ◌&&◌, not, le_refl, refl, sym, ap, ◌∙◌, subst, subst₂, true≢false, ⊎_elim, find, Option, Some, None, option_to_list, List, [], ◌∷◌, ◌++◌, map, length, arith}
use Rattle.std.specs.List.{AllByRecursion}
use Rattle.ft_io.specs.declared.Addr.{Addr}
use Rattle.ft_io.specs.declared.Key.{Key}
use Rattle.ft_io.specs.Key.{key_eq}
use Rattle.tcp_rules.specs.Profile.{Profile}
use Rattle.seq_arith.specs.Number.{number_at}
use Rattle.seq_arith.specs.Packet.{Segment, has_rst}
use Rattle.seq_arith.specs.Message.{EntryHead}
use Rattle.server_trait.specs.Service.{Machine}
use Rattle.ft_model.specs.Offset.{one_if}
use Rattle.ft_model.specs.Client.{Client, received}
use Rattle.ft_model.specs.Log.{Log, Entry, entry_of, head_of, opened, log_after}
use Rattle.ft_model.specs.Network.{Packet, source_of, destination_of}
use Rattle.ft_model.specs.Network.Packet.{To_client}
use Rattle.ft_model.specs.News.News.{Begins}
use Rattle.ft_model.specs.Restart.{Fetched, wanted, holding_segment, live_entry, entry_in, point_of}
use Rattle.ft_model.specs.Node.{Node, Place, Stage, Input, booted, is_for}
use Rattle.ft_model.specs.Node.Place.{Opens, Lives, Ended}
use Rattle.ft_model.specs.Node.Stage.{Asking, Fetching, Serving, Fenced}
use Rattle.ft_model.specs.Lawful.{Revives, restored, all_restored, held}
use Rattle.ft_model.specs.Masked.{is_restarting}
use Rattle.ft_model.specs.World.{World, Moves, client_at}
use Rattle.ft_model.specs.Keys.{AreDistinct}
use Rattle.ft_model.proofs.Lists.{all_weaker, all_append, all_find, all_slice_get, none_is_some, some_is}
use Rattle.ft_model.proofs.Keys.{finds_itself, all_from_get}
use Rattle.ft_model.proofs.Happened.{Happened, IsBrought}
use Rattle.ft_model.proofs.Happened.Happened.{log_received, client_received, client_moved, server_turned, server_booted, server_down}
use Rattle.ft_model.proofs.PlaceTurns.{all_proceed, serving_proceeds}
use Rattle.ft_model.proofs.StageTurns.{StageWent, stage_went}
use Rattle.ft_model.proofs.StageTurns.StageWent.{was_fenced, waited, held_off, asked_on, resumed, served}
use Rattle.ft_model.specs.FetchedFronts.{IsFront, IsWhole, AreFetched}
use Rattle.ft_model.proofs.Fetching.{whole_is}
use Rattle.ft_model.proofs.Asked.{IsAsked, StageAgrees, entry_keys, progress_agrees}
use Rattle.ft_model.proofs.Resumed.{nothing_missing}
use Rattle.ft_model.proofs.Services.{prefix_length}
use Rattle.ft_model.proofs.Scripts.{FitsScript, EntryFits, nothing_held, move_fits}
use Rattle.ft_model.proofs.Faithful.{PacketFits, PlaceFits, StageFits, EntriesFit, IsFit, units_within, acknowledges_units, connection_fits}
use Rattle.ft_model.proofs.FaithfulKept.{ClientFits, IsFaithful, IsSameClient, received_same, client_fits, clients_fit, received_faithful, listen_fits, asked_fits, InputFits, input_fits, place_fits, new_fits}
use Rattle.ft_io.proofs.Choices.{holds_if}

-- a fetched entry is headed as one of the log
abbrev pub IsHeadOf : Log → Fetched → Type 0
IsHeadOf log f = (e : Entry) × (entry_of e.key log ≡ Some e) × (f.head ≡ head_of e)

pub heads_of : (log : Log) (fetched : List Fetched) → AreDistinct (entry_keys log) → AreFetched log.entries fetched → AllByRecursion (IsHeadOf log) fetched
heads_of log [] d a = tt
heads_of log (f ∷ earlier) d a = ((a.0, finds_itself (λ x. x.key) log.entries (length earlier) a.0 d a.1, a.2.head), heads_of log earlier d a.4)

holding_fits : (script : Key → List ℕ) (isn : Key → ℕ) (log : Log) (server : Addr) (head : EntryHead) (e : Entry) → ((k : Key) → length (script k) ≤ 2 ^ 24)
    → EntriesFit script isn log.entries → entry_of e.key log ≡ Some e → head ≡ head_of e → IsFit script isn log (To_client (holding_segment server head))
holding_fits script isn log server head e short entries found same =
    let f = units_within script isn log e.key e entries found in (
      tt,
      acknowledges_units script isn log (holding_segment server head) e.key e (length e.bytes + one_if e.fin) e.cisn short entries found (le_refl (length e.bytes + one_if e.fin)) f.0.cisn
          (ap (λ h. h.key) same) (ap (λ h. number_at h.cisn (h.length + one_if h.fin)) same),
    )

one_held : (script : Key → List ℕ) (isn : Key → ℕ) (log : Log) (node : Node) → ((k : Key) → length (script k) ≤ 2 ^ 24)
    → EntriesFit script isn log.entries → (o : Option Fetched) → ((f : Fetched) → o ≡ Some f → IsHeadOf log f)
    → AllByRecursion (IsFit script isn log) (map (λ f. To_client (holding_segment node.server f.head)) (option_to_list o))
one_held script isn log node short entries (Some f) g =
    let h : IsHeadOf log f = g f refl in
    (holding_fits script isn log node.server f.head h.0 short entries h.1 h.2, tt)
one_held script isn log node short entries None g = tt

held_fits : (script : Key → List ℕ) (isn : Key → ℕ) (log : Log) (node : Node) (fetched : List Fetched) (segment : Segment) → ((k : Key) → length (script k) ≤ 2 ^ 24)
    → EntriesFit script isn log.entries → AllByRecursion (IsHeadOf log) fetched → AllByRecursion (IsFit script isn log) (held node fetched segment)
held_fits script isn log node fetched segment short entries heads =
    holds_if (AllByRecursion (IsFit script isn log)) (is_for node.server segment && not (has_rst segment))
    (map (λ f. To_client (holding_segment node.server f.head)) (option_to_list (live_entry (source_of segment) fetched))) []
    (λ t. one_held script isn log node short entries (live_entry (source_of segment) fetched)
    (λ f e. all_find (IsHeadOf log) (λ x. key_eq x.head.key (source_of segment) && not x.head.done) fetched f heads e)) (λ t. tt)

restored_one : {State : Type 0} (Q : Place → Type 0) (service : Machine State) (profile : Profile) (f : Fetched) (e : Entry) → Q (Lives (point_of service profile e)) → ((k : Key) → Q (Ended k)) → IsFront f e → IsWhole f
    → Q (restored service profile f)
restored_one Q service profile f e q done front whole =
    holds_if Q f.head.done (Ended f.head.key) (Lives (point_of service profile (entry_in f))) (λ t. done f.head.key)
    (λ t. subst (λ x. Q (Lives (point_of service profile x))) (sym (whole_is f e front (sym (ap (λ h. h.done) front.head) ∙ t) whole)) q)

-- what holds of the points of the log's entries holds of all that is restored
pub restored_all : {State : Type 0} (Q : Place → Type 0) (service : Machine State) (profile : Profile) (entries : List Entry) (fetched : List Fetched)
    → AllByRecursion (λ e. Q (Lives (point_of service profile e))) entries → ((k : Key) → Q (Ended k)) → AreFetched entries fetched → AllByRecursion IsWhole fetched
    → AllByRecursion Q (all_restored service profile fetched)
restored_all Q service profile entries [] points done a w = tt
restored_all Q service profile entries (f ∷ earlier) points done a w =
    all_append Q (all_restored service profile earlier) (restored service profile f ∷ []) (restored_all Q service profile entries earlier points done a.4 w.1)
    (restored_one Q service profile f a.0 (all_slice_get (λ e. Q (Lives (point_of service profile e))) entries (length earlier) a.0 points a.1) done a.2 w.0, tt)

pub points_fit : {State : Type 0} (service : Machine State) (profile : Profile) (script : Key → List ℕ) (isn : Key → ℕ) (log : Log) → ((k : Key) → length (script k) ≤ 2 ^ 24) → AreDistinct (entry_keys log) → EntriesFit script isn log.entries
    → AllByRecursion (λ e. PlaceFits script isn log (Lives (point_of service profile e))) log.entries
points_fit service profile script isn log short d fits =
    all_from_get (λ e. PlaceFits script isn log (Lives (point_of service profile e))) log.entries
    (λ i e at. let f : EntryFits (script e.key) (isn e.key) e = all_slice_get (λ x. EntryFits (script x.key) (isn x.key) x) log.entries i e fits at in (
      let size = prefix_length e.bytes (script e.key) f.front in
          nothing_held (script e.key) (isn e.key) (point_of service profile e) f.front f.fin refl (omega (arith, size, short e.key)) f.cisn,
      record { entry = e; found = finds_itself (λ x. x.key) log.entries i e d at; sisn = refl; answered = le_refl (length e.bytes + one_if e.fin); reads = le_refl (length e.lengths) },
    ))

pub revives_fit : {State : Type 0} (service : Machine State) (script : Key → List ℕ) (isn : Key → ℕ) (log : Log) (node : Node) → ((k : Key) → length (script k) ≤ 2 ^ 24)
    → EntriesFit script isn log.entries → (place : Place) (now : List Place) (sent : List Packet) → PlaceFits script isn log place → Revives service node place now sent
    → AllByRecursion (PlaceFits script isn log) now × AllByRecursion (IsFit script isn log) sent
revives_fit service script isn log node short entries (Lives p) now sent f t =
    let c = connection_fits service node.server script isn log node.boot Begins p t.0 sent short entries tt tt f t.2 in
    (subst (AllByRecursion (PlaceFits script isn log)) (sym t.1) (c.0, tt), c.1)
revives_fit service script isn log node short entries (Opens n timestamping) now sent f t =
    (subst (AllByRecursion (PlaceFits script isn log)) (sym t.0) (f, tt), subst (AllByRecursion (IsFit script isn log)) (sym t.1) tt)
revives_fit service script isn log node short entries (Ended k) now sent f t =
    (subst (AllByRecursion (PlaceFits script isn log)) (sym t.0) (tt, tt), subst (AllByRecursion (IsFit script isn log)) (sym t.1) tt)

no_places : (script : Key → List ℕ) (isn : Key → ℕ) (log : Log) (stage : Stage) → is_restarting stage ≡ true → StageFits script isn log stage
no_places script isn log Asking r = tt
no_places script isn log (Fetching count fetched) r = tt
no_places script isn log (Serving opened places) r = absurd (true≢false (sym r))
no_places script isn log (Fenced newer) r = tt

pub turn_faithful : {State : Type 0} (service : Machine State) (script : Key → List ℕ) (isn : Key → ℕ) (w : World) (node : Node) (input : Input) (sent : List Packet) (after : Stage)
    → ((k : Key) → length (script k) ≤ 2 ^ 24) → IsAsked w → IsFaithful script isn w → w.node ≡ Some node → IsBrought w input → StageWent service node input sent after
    → StageFits script isn w.log after × AllByRecursion (IsFit script isn w.log) sent
turn_faithful service script isn w node input sent after short a f e brought (was_fenced newer g s) =
    (subst (StageFits script isn w.log) (sym g) tt, subst (AllByRecursion (IsFit script isn w.log)) (sym s) tt)
turn_faithful service script isn w node input sent after short a f e brought (waited r g s) = (
  no_places script isn w.log after (ap is_restarting g ∙ r),
  ⊎_elim (λ x. subst (AllByRecursion (IsFit script isn w.log)) (sym x) ((tt, tt), tt))
      (λ x. subst (AllByRecursion (IsFit script isn w.log)) (sym x.1) (asked_fits script isn w.log node x.0)) s,
)
turn_faithful service script isn w node input sent after short a f e brought (held_off count fetched segment b g s) =
    let n = a.node node e (ap is_restarting b) in
    let agrees : (count ≡ length w.log.entries) × AreFetched w.log.entries fetched = subst (StageAgrees w.log.entries) b n.fetched in (
      subst (StageFits script isn w.log) (sym g) tt,
      subst (AllByRecursion (IsFit script isn w.log)) (sym s) (held_fits script isn w.log node fetched segment short f.entries (heads_of w.log fetched a.distinct agrees.1)),
    )
turn_faithful service script isn w node input sent after short a f e brought (asked_on count fetched p g s) =
    (subst (StageFits script isn w.log) (sym g) tt, subst (AllByRecursion (IsFit script isn w.log)) (sym s) (asked_fits script isn w.log node (wanted count fetched)))
turn_faithful service script isn w node input sent after short a f e brought (resumed count fetched places p none g t) =
    let agrees = progress_agrees w node input count fetched a e brought p in
    let whole = nothing_missing w.log.entries count fetched agrees.1 none in
    let went = all_proceed (Revives service node) (PlaceFits script isn w.log) (PlaceFits script isn w.log) (IsFit script isn w.log) (revives_fit service script isn w.log node short f.entries)
    (all_restored service node.profile fetched) places sent
    (restored_all (PlaceFits script isn w.log) service node.profile w.log.entries fetched (points_fit service node.profile script isn w.log short a.distinct f.entries) (λ k. tt) agrees.1 whole.0) t in
    (subst (StageFits script isn w.log) (sym g) went.0, went.1)
turn_faithful service script isn w node input sent after short a f e brought (served opened places later b g t) =
    let i : InputFits script isn w.log input = input_fits script isn w input f.packets brought in
    let went = serving_proceeds service node input opened (PlaceFits script isn w.log) (PlaceFits script isn w.log) (IsFit script isn w.log) places later sent
    (place_fits service script isn w.log node input short f.entries i) (new_fits script isn w.log node input opened places i) (listen_fits script isn w.log node input places)
    (λ n s c. (c, tt)) (subst (StageFits script isn w.log) b (f.stage node e)) t in
    (subst (StageFits script isn w.log) (sym g) went.0, went.1)

turned_faithful : {State : Type 0} (service : Machine State) (script : Key → List ℕ) (isn : Key → ℕ) (w : World) (node later : Node) (input : Input) (sent : List Packet)
    → IsFaithful script isn w → StageFits script isn w.log later.stage → AllByRecursion (IsFit script isn w.log) sent
    → IsFaithful script isn (record w { node = Some later; packets = w.packets ++ sent })
turned_faithful service script isn w node later input sent f stage fit = record {
  clients = f.clients;
  packets = all_append (PacketFits script isn w.log) w.packets sent f.packets (all_weaker (IsFit script isn w.log) _ sent (λ p x. x.0) fit);
  entries = f.entries;
  stage = λ n e. subst (λ x. StageFits script isn w.log x.stage) (some_is later n e) stage;
}

-- what all clients have, the one of a number has
pub client_there : (P : Client → Type 0) (clients : List Client) (number : ℕ) (c : Client) → AllByRecursion P clients → client_at clients number ≡ Some c → P c
client_there P clients zero c a e = none_is_some c e
client_there P clients (suc n) c a e = all_slice_get P clients n c a e

moved_faithful : (script : Key → List ℕ) (isn : Key → ℕ) (w after : World) (number : ℕ) (sent : List Packet) → IsFaithful script isn w → Moves w number sent after → IsFaithful script isn after
moved_faithful script isn w after number sent f m =
    let c : Client = m.client in
    let fits : ClientFits script isn c = client_there (ClientFits script isn) w.clients number c f.clients m.is_there in
    let source : source_of m.segment ≡ c.key = ap source_of m.move.segment_is in
    let same : IsSameClient c m.later = subst (IsSameClient c) (sym m.move.after_is) (record { kind = refl; key = refl; isn = refl; script = refl }) in
    let segment : FitsScript (script (source_of m.segment)) (isn (source_of m.segment)) m.segment =
    subst (λ k. FitsScript (script k) (isn k) m.segment) (sym source)
    (subst₂ (λ s n. FitsScript s n m.segment) fits.0 fits.1 (move_fits c m.later m.segment fits.2 m.move)) in
    subst (IsFaithful script isn) (sym m.after_is)
    (record {
      clients = clients_fit (ClientFits script isn) c.key (λ x. m.later) w.clients (λ x k g. client_fits script isn c m.later same fits) f.clients;
      packets = all_append (PacketFits script isn w.log) w.packets sent f.packets (subst (AllByRecursion (PacketFits script isn w.log)) (sym m.sent_is) (segment, tt));
      entries = f.entries;
      stage = f.stage;
    })

pub faithful_proceeds : {State : Type 0} (service : Machine State) (script : Key → List ℕ) (isn : Key → ℕ) (before : World) (sent : List Packet) (after : World)
    → ((k : Key) → length (script k) ≤ 2 ^ 24) → IsAsked before → IsFaithful script isn before → Happened service before sent after
    → IsFaithful script isn after
faithful_proceeds service script isn before sent after short a f (log_received message under s e) =
    subst (IsFaithful script isn) (sym (e ∙ ap (λ x. record before { log = log_after before.log message; packets = before.packets ++ x }) s))
    (received_faithful script isn before message f under)
faithful_proceeds service script isn before sent after short a f (client_received segment under s e) =
    subst (IsFaithful script isn) (sym e)
    (record {
      clients = clients_fit (ClientFits script isn) (destination_of segment) (λ c. received c segment) before.clients
          (λ c k g. client_fits script isn c (received c segment) (received_same c segment) g) f.clients;
      packets = all_append (PacketFits script isn before.log) before.packets sent f.packets (subst (AllByRecursion (PacketFits script isn before.log)) (sym s) tt);
      entries = f.entries;
      stage = f.stage;
    })
faithful_proceeds service script isn before sent after short a f (client_moved number m) = moved_faithful script isn before after number sent f m
faithful_proceeds service script isn before sent after short a f (server_turned input node later brought is turn e) =
    let t = turn_faithful service script isn before node input sent later.stage short a f is brought (stage_went service node later input sent turn) in
    subst (IsFaithful script isn) (sym e) (turned_faithful service script isn before node later input sent f t.0 t.1)
faithful_proceeds service script isn before sent after short a f (server_booted boot isn0 down larger s e) =
    subst (IsFaithful script isn) (sym e)
    (record {
      clients = f.clients;
      packets = all_append (PacketFits script isn before.log) before.packets sent f.packets (subst (AllByRecursion (PacketFits script isn before.log)) (sym s) (tt, tt));
      entries = f.entries;
      stage = λ n g. subst (λ x. StageFits script isn before.log x.stage) (some_is (booted before.server before.profile boot isn0) n g) tt;
    })
faithful_proceeds service script isn before sent after short a f (server_down s e) =
    subst (IsFaithful script isn) (sym e)
    (record {
      clients = f.clients;
      packets = all_append (PacketFits script isn before.log) before.packets sent f.packets (subst (AllByRecursion (PacketFits script isn before.log)) (sym s) tt);
      entries = f.entries;
      stage = λ n g. none_is_some n g;
    })

-- what each client's script and number are
abbrev pub script_in : Option Client → List ℕ
script_in (Some c) = c.script
script_in None = []

abbrev pub isn_in : Option Client → ℕ
isn_in (Some c) = c.isn
isn_in None = 0

abbrev pub script_of : World → Key → List ℕ
script_of start key = script_in (find (λ c. key_eq c.key key) start.clients)

abbrev pub isn_of : World → Key → ℕ
isn_of start key = isn_in (find (λ c. key_eq c.key key) start.clients)
