-- A whole turn of a server that has heard what is well formed: while it fetches, when its restart ends, and while it serves.
use Rattle.std.proofs.Common.{◌≡◌, ℕ, ◌+◌, ◌<◌, ◌≤◌, ◌^◌, true, ◌&&◌, not, nat_lt, refl, sym, ap, ◌∙◌, subst, true≢false, ⊎_elim, Option, Some, None, option_to_list, List, [], ◌∷◌, map, length, arith, ltb-true}
use Rattle.std.specs.List.{AllByRecursion}
use Rattle.ft_io.specs.Key.{key_eq}
use Rattle.tcp_rules.specs.Profile.{Profile}
use Rattle.seq_arith.specs.Packet.{Segment, has_rst}
use Rattle.server_trait.specs.Service.{Machine, WritesBytes}
use Rattle.ft_model.specs.Log.{Log, Entry}
use Rattle.ft_model.specs.Network.{Packet, source_of}
use Rattle.ft_model.specs.Network.Packet.{To_server, To_client, From_logger}
use Rattle.ft_model.specs.News.News.{Begins}
use Rattle.ft_model.specs.Restart.{Fetched, Wanted, wanted, next_entry, lacks_read_bytes, lacks_bytes, lacks_lengths, holding_segment, live_entry, point_of}
use Rattle.ft_model.specs.Restart.Wanted.{An_entry, Its_bytes, Its_lengths}
use Rattle.ft_model.specs.Node.{Node, Place, Stage, Input, is_for}
use Rattle.ft_model.specs.Node.Place.{Opens, Lives, Ended}
use Rattle.ft_model.specs.Node.Stage.{Asking, Fetching, Serving, Fenced}
use Rattle.ft_model.specs.Node.Input.{Packet_comes, Message_comes, Noise_comes, Tick_comes}
use Rattle.ft_model.specs.Lawful.{Revives, all_restored, asked, held}
use Rattle.ft_model.specs.ServingTurn.{newcomers}
use Rattle.ft_model.specs.Masked.{is_restarting}
use Rattle.ft_model.specs.World.{World}
use Rattle.ft_model.proofs.Lists.{all_weaker, all_both, all_find, all_slice_get, none_is_some, some_is}
use Rattle.ft_model.proofs.Services.{prefix_length}
use Rattle.ft_model.proofs.Happened.{IsBrought, all_sent}
use Rattle.ft_model.specs.FetchedFronts.{AreFetched}
use Rattle.ft_model.proofs.Asked.{StageAgrees, progress_agrees}
use Rattle.ft_model.proofs.Resumed.{nothing_missing}
use Rattle.ft_model.proofs.PlaceTurns.{all_proceed, serving_proceeds}
use Rattle.ft_model.proofs.StageTurns.{StageWent, IsMissing}
use Rattle.ft_model.proofs.StageTurns.StageWent.{was_fenced, waited, held_off, asked_on, resumed, served}
use Rattle.ft_model.proofs.Faithful.{PlaceFits, StageFits, EntriesFit}
use Rattle.ft_model.proofs.FaithfulKept.{InputFits, input_fits, new_fits}
use Rattle.ft_model.proofs.FaithfulOver.{script_of, isn_of, points_fit, restored_all}
use Rattle.ft_model.proofs.Acknowledged.{IsTrue}
use Rattle.ft_model.proofs.Formed.{HasClient, IsBoot, PacketFormed, StartFormed, EntryFormed, PointFormed, PlaceFormed, StageFormed, WorldFormed}
use Rattle.ft_model.proofs.Stamped.{resumed_has_room}
use Rattle.ft_model.proofs.FormedLog.{EntryReports, AckedWithin, entries_report}
use Rattle.ft_model.proofs.FormedTurns.{InputFormed, PlaceSound, connection_formed, listen_formed, new_formed, place_formed}
use Rattle.ft_io.proofs.Choices.{holds_if}

-- what a restart asks
abbrev WantedFormed : World → Wanted → Type 0
WantedFormed start (An_entry index) = index ≤ 63
WantedFormed start (Its_bytes key offset) = HasClient start key × (offset ≤ 2 ^ 24)
WantedFormed start (Its_lengths key first) = HasClient start key × (first ≤ 2 ^ 24 + 1)

pub newest_formed : (start : World) (entries : List Entry) (f : Fetched) (earlier : List Fetched) → AllByRecursion (EntryReports start) entries → AreFetched entries (f ∷ earlier)
    → HasClient start f.head.key × (length f.bytes ≤ 2 ^ 24) × (length f.lengths ≤ 2 ^ 24 + 1)
newest_formed start entries f earlier e a =
    let reports : EntryReports start a.0 = all_slice_get (EntryReports start) entries (length earlier) a.0 e a.1 in
    let bytes = prefix_length f.bytes a.0.bytes a.2.bytes in
    let lengths = prefix_length f.lengths a.0.lengths a.2.lengths in (
      subst (λ h. HasClient start h.key) (sym a.2.head) reports.formed.key,
      omega (arith, bytes, reports.short),
      omega (arith, lengths, reports.formed.count, reports.formed.enough, reports.short),
    )

next_formed : (start : World) (count index : ℕ) (w : Wanted) → count ≤ 64 → next_entry count index ≡ Some w → WantedFormed start w
next_formed start count index w h =
    holds_if (λ o. o ≡ Some w → WantedFormed start w) (nat_lt index count) (Some (An_entry index)) None
    (λ t e. subst (WantedFormed start) (some_is _ _ e) (let less : index < count = ltb-true _ _ t in omega (arith, less, h))) (λ t e. none_is_some w e)

pub wanted_formed : (start : World) (entries : List Entry) (count : ℕ) (fetched : List Fetched) (w : Wanted) → count ≤ 64 → AllByRecursion (EntryReports start) entries
    → AreFetched entries fetched → wanted count fetched ≡ Some w → WantedFormed start w
wanted_formed start entries count [] w few e a g = next_formed start count 0 w few g
wanted_formed start entries count (f ∷ earlier) w few e a missing =
    let newest = newest_formed start entries f earlier e a in
    let Asks : Option Wanted → Type 0 = λ o. o ≡ Some w → WantedFormed start w in
    holds_if Asks (lacks_read_bytes f) (Some (Its_bytes f.head.key (length f.bytes))) _ (λ t g. subst (WantedFormed start) (some_is _ _ g) (newest.0, newest.1))
    (λ t. holds_if Asks (lacks_lengths f) (Some (Its_lengths f.head.key (length f.lengths))) _ (λ x g. subst (WantedFormed start) (some_is _ _ g) (newest.0, newest.2))
    (λ x. holds_if Asks (lacks_bytes f) (Some (Its_bytes f.head.key (length f.bytes))) _ (λ y g. subst (WantedFormed start) (some_is _ _ g) (newest.0, newest.1))
    (λ y g. next_formed start count (length (f ∷ earlier)) w few g))) missing

asked_formed : (start : World) (node : Node) (o : Option Wanted) → IsBoot node.boot → ((w : Wanted) → o ≡ Some w → WantedFormed start w)
    → AllByRecursion (PacketFormed start) (asked node o)
asked_formed start node (Some (An_entry index)) b h = ((b, h (An_entry index) refl), tt)
asked_formed start node (Some (Its_bytes key offset)) b h = ((b, h (Its_bytes key offset) refl), tt)
asked_formed start node (Some (Its_lengths key first)) b h = ((b, h (Its_lengths key first) refl), tt)
asked_formed start node None b h = tt

-- how a client is held off meanwhile
headed_by : (start : World) (entries : List Entry) (fetched : List Fetched) → AllByRecursion (EntryReports start) entries → AreFetched entries fetched
    → AllByRecursion (λ f. HasClient start f.head.key) fetched
headed_by start entries [] e a = tt
headed_by start entries (f ∷ earlier) e a = ((newest_formed start entries f earlier e a).0, headed_by start entries earlier e a.4)

one_held : (start : World) (node : Node) (o : Option Fetched) → node.server ≡ start.server → ((f : Fetched) → o ≡ Some f → HasClient start f.head.key)
    → AllByRecursion (PacketFormed start) (map (λ f. To_client (holding_segment node.server f.head)) (option_to_list o))
one_held start node (Some f) at h =
    ((h f refl, (ap (λ a. a.ip) at, ap (λ a. a.port) at), (omega arith, omega arith, omega arith, omega arith, tt, tt, omega arith, tt)), tt)
one_held start node None at h = tt

held_formed : (start : World) (node : Node) (fetched : List Fetched) (segment : Segment) → node.server ≡ start.server
    → AllByRecursion (λ f. HasClient start f.head.key) fetched → AllByRecursion (PacketFormed start) (held node fetched segment)
held_formed start node fetched segment at heads =
    holds_if (AllByRecursion (PacketFormed start)) (is_for node.server segment && not (has_rst segment))
    (map (λ f. To_client (holding_segment node.server f.head)) (option_to_list (live_entry (source_of segment) fetched))) []
    (λ t. one_held start node (live_entry (source_of segment) fetched) at
    (λ f e. all_find (λ x. HasClient start x.head.key) (λ x. key_eq x.head.key (source_of segment) && not x.head.done) fetched f heads e)) (λ t. tt)

-- the places of a restart
pub point_formed : {State : Type 0} (service : Machine State) (profile : Profile) (start : World) (e : Entry) → profile ≡ start.profile → EntryFormed start e → PointFormed start (point_of service profile e)
point_formed service profile start e same h =
    record { key = h.key; sisn = h.sisn; mss = h.mss; enough = h.enough; fetched = omega arith; count = h.count; lengths = h.lengths; batches = ap (λ x. x.batches) same; timestamping = resumed_has_room profile.timestamps e.mss }

pub revived_formed : {State : Type 0} (service : Machine State) (start : World) (log : Log) (node : Node) → WritesBytes service → StartFormed start
    → EntriesFit (script_of start) (isn_of start) log.entries → node.server ≡ start.server → IsBoot node.boot
    → (place : Place) (now : List Place) (sent : List Packet) → PlaceSound start log place → Revives service node place now sent
    → AllByRecursion (PlaceSound start log) now × AllByRecursion (PacketFormed start) sent
revived_formed service start log node writes s entries at b (Lives p) now sent h t =
    let c = connection_formed service start log node Begins p t.0 sent writes s entries at b tt tt tt h t.2 in
    (subst (AllByRecursion (PlaceSound start log)) (sym t.1) (c.0, tt), c.1)
revived_formed service start log node writes s entries at b (Opens n timestamping) now sent h t =
    (subst (AllByRecursion (PlaceSound start log)) (sym t.0) (h, tt), subst (AllByRecursion (PacketFormed start)) (sym t.1) tt)
revived_formed service start log node writes s entries at b (Ended k) now sent h t =
    (subst (AllByRecursion (PlaceSound start log)) (sym t.0) (h, tt), subst (AllByRecursion (PacketFormed start)) (sym t.1) tt)

-- what is known of a world, before a turn
pub record Knows (start w : World) : Type 0 where
  pub formed : WorldFormed start w
  pub acked : AllByRecursion AckedWithin w.log.entries
  pub truth : IsTrue start w

reports_of : (start w : World) → StartFormed start → Knows start w → AllByRecursion (EntryReports start) w.log.entries
reports_of start w s k = entries_report start s w.log.entries k.formed.entries k.truth.1.entries k.acked

input_formed : (start w : World) (input : Input) → AllByRecursion (PacketFormed start) w.packets → IsBrought w input → InputFormed start input
input_formed start w (Packet_comes segment) a b = all_sent (PacketFormed start) w (To_server segment) a b
input_formed start w (Message_comes message) a b = all_sent (PacketFormed start) w (From_logger message) a b
input_formed start w Noise_comes a b = tt
input_formed start w Tick_comes a b = tt

missing_formed : (start w : World) (node : Node) (o : Option Wanted) → StartFormed start → Knows start w → w.node ≡ Some node → IsMissing node o
    → (x : Wanted) → o ≡ Some x → WantedFormed start x
missing_formed start w node (Some y) s k e m x g =
    let n = k.truth.0.1.node node e (ap is_restarting m.2) in
    let agrees : (m.0 ≡ length w.log.entries) × AreFetched w.log.entries m.1 = subst (StageAgrees w.log.entries) m.2 n.fetched in
    wanted_formed start w.log.entries m.0 m.1 x (subst (λ n. n ≤ 64) (sym agrees.0) k.formed.few) (reports_of start w s k) agrees.1 (m.3 ∙ g)
missing_formed start w node None s k e m x g = none_is_some x g

pub no_places : (start : World) (stage : Stage) → is_restarting stage ≡ true → StageFormed start stage
no_places start Asking r = tt
no_places start (Fetching count fetched) r = tt
no_places start (Serving opened places) r = absurd (true≢false (sym r))
no_places start (Fenced newer) r = tt

sound_places : (start : World) (log : Log) (places : List Place) → AllByRecursion (PlaceSound start log) places → AllByRecursion (PlaceFormed start) places
sound_places start log places a = all_weaker (PlaceSound start log) (PlaceFormed start) places (λ p h. h.1) a

-- a turn of the server
pub turn_formed : {State : Type 0} (service : Machine State) (start w : World) (node : Node) (input : Input) (sent : List Packet) (after : Stage) → WritesBytes service
    → StartFormed start → Knows start w → w.node ≡ Some node → IsBrought w input → StageWent service node input sent after
    → StageFormed start after × AllByRecursion (PacketFormed start) sent
turn_formed service start w node input sent after writes s k e brought (was_fenced newer g x) =
    (subst (StageFormed start) (sym g) tt, subst (AllByRecursion (PacketFormed start)) (sym x) tt)
turn_formed service start w node input sent after writes s k e brought (waited r g x) =
    let n = k.formed.node node e in (
      no_places start after (ap is_restarting g ∙ r),
      ⊎_elim (λ y. subst (AllByRecursion (PacketFormed start)) (sym y) ((n.boot, tt), tt))
          (λ y. subst (AllByRecursion (PacketFormed start)) (sym y.1) (asked_formed start node y.0 n.boot (missing_formed start w node y.0 s k e y.2))) x,
    )
turn_formed service start w node input sent after writes s k e brought (held_off count fetched segment b g x) =
    let n = k.formed.node node e in
    let a = k.truth.0.1.node node e (ap is_restarting b) in
    let agrees : (count ≡ length w.log.entries) × AreFetched w.log.entries fetched = subst (StageAgrees w.log.entries) b a.fetched in (
      subst (StageFormed start) (sym g) tt,
      subst (AllByRecursion (PacketFormed start)) (sym x) (held_formed start node fetched segment n.server (headed_by start w.log.entries fetched (reports_of start w s k) agrees.1)),
    )
turn_formed service start w node input sent after writes s k e brought (asked_on count fetched p g x) =
    let n = k.formed.node node e in
    let agrees = progress_agrees w node input count fetched k.truth.0.1 e brought p in (
      subst (StageFormed start) (sym g) tt,
      subst (AllByRecursion (PacketFormed start)) (sym x)
          (asked_formed start node (wanted count fetched) n.boot (λ y h. wanted_formed start w.log.entries count fetched y (subst (λ n. n ≤ 64) (sym agrees.0) k.formed.few) (reports_of start w s k) agrees.1 h)),
    )
turn_formed service start w node input sent after writes s k e brought (resumed count fetched places p none g t) =
    let n = k.formed.node node e in
    let agrees = progress_agrees w node input count fetched k.truth.0.1 e brought p in
    let whole = nothing_missing w.log.entries count fetched agrees.1 none in
    let points : AllByRecursion (λ x. PlaceSound start w.log (Lives (point_of service node.profile x))) w.log.entries =
    all_both (λ x. PlaceFits (script_of start) (isn_of start) w.log (Lives (point_of service node.profile x))) (EntryFormed start) _ w.log.entries
    (λ x f h. (f, point_formed service node.profile start x n.profile h))
    (points_fit service node.profile (script_of start) (isn_of start) w.log s.short k.truth.0.1.distinct k.truth.1.entries) k.formed.entries in
    let went = all_proceed (Revives service node) (PlaceSound start w.log) (PlaceSound start w.log) (PacketFormed start)
    (revived_formed service start w.log node writes s k.truth.1.entries n.server n.boot) (all_restored service node.profile fetched) places sent
    (restored_all (PlaceSound start w.log) service node.profile w.log.entries fetched points (λ key. (tt, tt)) agrees.1 whole.0) t in
    (subst (StageFormed start) (sym g) (sound_places start w.log places went.0), went.1)
turn_formed service start w node input sent after writes s k e brought (served opened places later b g t) =
    let n = k.formed.node node e in
    let i : InputFits (script_of start) (isn_of start) w.log input = input_fits (script_of start) (isn_of start) w input k.truth.1.packets brought in
    let h : InputFormed start input = input_formed start w input k.formed.packets brought in
    let fits : AllByRecursion (PlaceFits (script_of start) (isn_of start) w.log) places = subst (StageFits (script_of start) (isn_of start) w.log) b (k.truth.1.stage node e) in
    let formed : AllByRecursion (PlaceFormed start) places = subst (StageFormed start) b n.stage in
    let went = serving_proceeds service node input opened (PlaceSound start w.log) (PlaceSound start w.log) (PacketFormed start) places later sent
    (place_formed service start w.log node input writes s k.truth.1.entries n.server n.profile n.boot i h)
    (all_both (PlaceFits (script_of start) (isn_of start) w.log) (PlaceFormed start) _ (newcomers node input opened places) (λ p x y. (x, y))
    (new_fits (script_of start) (isn_of start) w.log node input opened places i) (new_formed start node input opened places h))
    (listen_formed start node input places n.server h) (λ numbers s c. (n.boot, c.1.0))
    (all_both (PlaceFits (script_of start) (isn_of start) w.log) (PlaceFormed start) _ places (λ p x y. (x, y)) fits formed) t in
    (subst (StageFormed start) (sym g) (sound_places start w.log later went.0), went.1)
