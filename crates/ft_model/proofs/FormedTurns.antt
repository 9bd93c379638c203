-- A server that hears what is well formed sends nothing else.
use Rattle.std.proofs.Common.{◌≡◌, ℕ, ◌+◌, ◌-◌, ◌<◌, ◌≤◌, ◌^◌, ◌==◌, ◌&&◌, ◌||◌, not, nat_lt, min, sym, ap, ◌∙◌, subst, subst₂, inl, inr, ◌⊎◌, ⊎_elim, Option, Some, None, List, [], ◌∷◌, ◌++◌, map, length, take, drop, sum, arith, append-nil, append_assoc, length-append, length-drop, length-take, ltb-true}
use Rattle.std.specs.List.{AllByRecursion, list_any}
use Rattle.std.proofs.lemmas.Bool.{and_parts}
use Rattle.ft_io.specs.declared.Addr.{Addr}
use Rattle.ft_io.specs.declared.Key.{Key}
use Rattle.tcp_rules.specs.Profile.{Profile}
use Rattle.tcp_rules.specs.Timestamping.{timestamps_sent}
use Rattle.tcp_rules.specs.declared.timestamping.Timestamping.{Timestamping}
use Rattle.seq_arith.specs.Packet.{Segment, has_syn, has_rst, has_ack}
use Rattle.seq_arith.specs.PacketGrammar.{packet_length}
use Rattle.seq_arith.specs.Message.{Numbers, Body}
use Rattle.seq_arith.specs.Message.Body.{DoneMsg}
use Rattle.server_trait.specs.Service.{Machine, AreBytes, WritesBytes}
use Rattle.ft_model.specs.Offset.{text_of}
use Rattle.ft_model.specs.Log.{Log}
use Rattle.ft_model.specs.Network.{Packet}
use Rattle.ft_model.specs.Network.Packet.{To_server, To_client, From_logger}
use Rattle.ft_model.specs.Point.{Point, answered_run}
use Rattle.ft_model.specs.News.{News}
use Rattle.ft_model.specs.News.News.{Comes, Logged, Ticks, Begins}
use Rattle.ft_model.specs.Reads.{next_length, may_read, next_read, with_read, Makes, read_messages, first_reported, reads_reported}
use Rattle.ft_model.specs.Copy.{copies}
use Rattle.ft_model.specs.ResetAndEnd.{dones, reports_done}
use Rattle.ft_model.specs.Segments.{segments_of}
use Rattle.ft_model.specs.Opening.{is_syn, numbers_for, timestamping_for, point_opened}
use Rattle.ft_model.specs.Refusal.{rst_at_ack, rst_behind, as_listen, as_closed, full_rst}
use Rattle.ft_model.specs.Connection.{ResetTurn, LiveTurn, ConnectionTurn, reported_by}
use Rattle.ft_model.specs.Node.{Node, Place, Input, pending_count}
use Rattle.ft_model.specs.Node.Place.{Opens, Lives}
use Rattle.ft_model.specs.Node.Input.{Packet_comes, Message_comes, Noise_comes, Tick_comes}
use Rattle.ft_model.specs.ServingTurn.{newcomers, refusals, is_strange}
use Rattle.ft_model.specs.World.{World}
use Rattle.ft_model.proofs.Lists.{all_weaker, all_map, all_append, none_is_some, some_is}
use Rattle.ft_model.proofs.Services.{sum_append, prefix_length}
use Rattle.ft_model.proofs.Running.{next_within, taken_more}
use Rattle.ft_model.proofs.Spoken.{Spoken, segments_spoken}
use Rattle.ft_model.proofs.Spoken.Spoken.{spoken_syn, spoken_text, spoken_fin, spoken_bare}
use Rattle.ft_model.proofs.StageTurns.{either_turn}
use Rattle.ft_model.proofs.PlaceTurns.{PlaceWent, IsNews}
use Rattle.ft_model.proofs.PlaceTurns.PlaceWent.{stayed, went_on, began, dropped, ended, refused}
use Rattle.ft_model.proofs.Scripts.{NewsFits}
use Rattle.ft_model.proofs.Faithful.{AnswerFits, PlaceFits, EntriesFit, NewsKnown, connection_fits}
use Rattle.ft_model.proofs.FaithfulKept.{InputFits, news_fit, opened_point}
use Rattle.ft_model.proofs.FaithfulOver.{script_of, isn_of}
use Rattle.ft_model.proofs.Formed.{bytes_take, bytes_drop, bytes_front, bytes_output, HasClient, IsSize, AreLengths, IsBoot, NumbersFormed, BodyFormed, SegmentFormed, PacketFormed, StartFormed, PointFormed, PlaceFormed, IsShortEcho, HasRoom}
use Rattle.ft_model.proofs.FormedLog.{no_zero, lengths_drop}
use Rattle.ft_model.proofs.Stamped.{is_size, asked_short, fitting_has_room, NewsShort, turn_has_room, sent_short, sent_fits}
use Rattle.ft_io.proofs.Booleans.{not_true}
use Rattle.ft_model.proofs.Copied.{Grows, text_in, all_copies}
use Rattle.ft_io.proofs.Choices.{holds_if}

-- the reads of a turn: each has a byte, or is the only one of length 0
has_byte : {State : Type 0} (service : Machine State) (p : Point) (n : ℕ) → next_read service p ≡ Some n → (0 < n) ⊎ (length p.lengths ≤ sum p.lengths)
unfolding next_length
has_byte service p n =
    let P : Option ℕ → Type 0 = λ o. o ≡ Some n → (0 < n) ⊎ (length p.lengths ≤ sum p.lengths) in
    holds_if P (may_read service p) (next_length p) None
    (λ m. holds_if P (nat_lt (sum p.lengths) p.fetched) (Some (min 2048 (p.fetched - sum p.lengths))) _
    (λ t e. let same : min 2048 (p.fetched - sum p.lengths) ≡ n = some_is _ _ e in
    let less : sum p.lengths < p.fetched = ltb-true _ _ t in inl (omega (arith, same, less)))
    (λ t. holds_if P (nat_lt (sum p.lengths) (length p.taken)) (Some (min 2048 (length p.taken - sum p.lengths))) _
    (λ s e. let same : min 2048 (length p.taken - sum p.lengths) ≡ n = some_is _ _ e in
    let less : sum p.lengths < length p.taken = ltb-true _ _ s in inl (omega (arith, same, less)))
    (λ s. holds_if P (p.fin && not (list_any (λ n. n == 0) p.lengths)) (Some 0) None
    (λ x e. inr (no_zero p.lengths (not_true (list_any (λ n. n == 0) p.lengths) (and_parts p.fin (not (list_any (λ n. n == 0) p.lengths)) x).1)))
    (λ x e. none_is_some n e))))
    (λ m e. none_is_some n e)

-- the reads of a point: the bytes suffice, there are no more of them than bytes and a closing one, and none is long
abbrev ReadsFormed : ℕ → List ℕ → Type 0
ReadsFormed taken lengths = (sum lengths ≤ taken) × (length lengths ≤ sum lengths + 1) × AreLengths lengths

makes_syn_acked : {State : Type 0} (service : Machine State) (p : Point) (ns : List ℕ) → p.fetched ≤ length p.taken → ReadsFormed (length p.taken) p.lengths
    → Makes service p ns → ReadsFormed (length p.taken) (p.lengths ++ ns)
makes_syn_acked service p [] f r m = subst (ReadsFormed (length p.taken)) (sym (append-nil p.lengths)) r
makes_syn_acked service p (n ∷ ns) f r m =
    let next = next_within service p n f r.0 m.0 in
    let total = sum_append p.lengths n in
    let size = length-append p.lengths (n ∷ []) in
    let count : length (p.lengths ++ n ∷ []) ≤ sum (p.lengths ++ n ∷ []) + 1 =
    ⊎_elim (λ some. omega (arith, some, total, size, r.1)) (λ few. omega (arith, few, total, size)) (has_byte service p n m.0) in
    let one : ReadsFormed (length p.taken) (p.lengths ++ n ∷ []) =
    (omega (arith, next.0, total), count, all_append (λ k. k ≤ 2048) p.lengths (n ∷ []) r.2 (next.1, tt)) in
    subst (ReadsFormed (length p.taken)) (append_assoc p.lengths (n ∷ []) ns) (makes_syn_acked service (with_read n p) ns f one m.1)

-- what comes
abbrev pub NewsFormed : News → Type 0
NewsFormed (Comes segment) = SegmentFormed segment
NewsFormed _ = Unit {0}

abbrev pub InputFormed : World → Input → Type 0
InputFormed start (Packet_comes segment) = PacketFormed start (To_server segment)
InputFormed start (Message_comes message) = PacketFormed start (From_logger message)
InputFormed start _ = Unit {0}

-- where a connection stands, by the laws of what it has taken and heard
pub record TakesBytes (start : World) (q : Point) : Type 0 where
  pub bytes : AreBytes q.taken
  pub short : length q.taken ≤ 2 ^ 24

stands : (start : World) (log : Log) (q : Point) → StartFormed start → PlaceFits (script_of start) (isn_of start) log (Lives q) → TakesBytes start q
stands start log q s f =
    let size = prefix_length q.taken (script_of start q.key) f.0.fronts.front in
    let small = s.short q.key in
    record {
      bytes = bytes_front q.taken (script_of start q.key) f.0.fronts.front (s.bytes q.key);
      short = omega (arith, size, small);
    }

-- the segments of a turn
segment_formed : {State : Type 0} (service : Machine State) (start : World) (server : Addr) (news : News) (p q : Point) (segment : Segment) → WritesBytes service
    → server ≡ start.server → PointFormed start q → AreBytes q.taken → Spoken service server news p q segment → PacketFormed start (To_client segment)
segment_formed service start server news p q segment writes at h bytes (spoken_syn e) =
    subst (λ s. PacketFormed start (To_client s)) (sym e)
    (h.key, (ap (λ a. a.ip) at, ap (λ a. a.port) at), (h.sisn, omega arith, omega arith, omega arith, omega arith, tt, omega (arith, sent_fits q.mss q.timestamping h.mss.1 h.timestamping), sent_short q.mss q.timestamping h.timestamping))
segment_formed service start server news p q segment writes at h bytes (spoken_text offset n short e) =
    let run = bytes_output service writes q.taken (take q.reads_answered q.lengths) bytes in
    let size = length-take n (drop offset (answered_run service q).output) in
    subst (λ s. PacketFormed start (To_client s)) (sym e) (
      h.key,
      (ap (λ a. a.ip) at, ap (λ a. a.port) at),
      (
        omega arith,
        omega arith,
        omega arith,
        omega arith,
        tt,
        bytes_take n (drop offset (answered_run service q).output) (bytes_drop offset (answered_run service q).output run),
        omega (arith, size, short, sent_fits q.mss q.timestamping h.mss.1 h.timestamping),
        sent_short q.mss q.timestamping h.timestamping,
      ),
    )
segment_formed service start server news p q segment writes at h bytes (spoken_fin f e) =
    subst (λ s. PacketFormed start (To_client s)) (sym e)
    (h.key, (ap (λ a. a.ip) at, ap (λ a. a.port) at), (omega arith, omega arith, omega arith, omega arith, tt, tt, omega (arith, sent_fits q.mss q.timestamping h.mss.1 h.timestamping), sent_short q.mss q.timestamping h.timestamping))
segment_formed service start server news p q segment writes at h bytes (spoken_bare offset e) =
    subst (λ s. PacketFormed start (To_client s)) (sym e)
    (h.key, (ap (λ a. a.ip) at, ap (λ a. a.port) at), (omega arith, omega arith, omega arith, omega arith, tt, tt, omega (arith, sent_fits q.mss q.timestamping h.mss.1 h.timestamping), sent_short q.mss q.timestamping h.timestamping))

-- and its messages
pub text_bytes : (segment : Segment) → AreBytes segment.payload → AreBytes (text_of segment)
text_bytes segment h = holds_if AreBytes (has_syn segment || has_rst segment) [] segment.payload (λ t. tt) (λ t. h)

-- a segment's text is short, as the segment is
text_short : (segment : Segment) → packet_length segment ≤ 1500 → length (text_of segment) ≤ 1460
text_short segment h =
    holds_if (λ t. length t ≤ 1460) (has_syn segment || has_rst segment) [] segment.payload (λ t. omega arith) (λ t. omega (arith, h))

news_bytes : (news : News) → NewsFormed news → AreBytes (text_in news)
news_bytes (Comes segment) n = text_bytes segment n.5
news_bytes (Logged kept) n = tt
news_bytes Ticks n = tt
news_bytes Begins n = tt

news_short : (news : News) → NewsFormed news → length (text_in news) ≤ 1460
news_short (Comes segment) n = text_short segment n.6
news_short (Logged kept) n = omega arith
news_short Ticks n = omega arith
news_short Begins n = omega arith

copies_formed : (start : World) (boot : ℕ) (news : News) (p q : Point) → NewsFormed news → HasClient start q.key → TakesBytes start q → Grows p q
    → q.batches ≡ start.profile.batches → AllByRecursion (BodyFormed start boot) (copies news p q)
copies_formed start boot news p q n key s more same =
    all_copies (BodyFormed start boot) news p q
    (λ part c. (
      subst (HasClient start) (sym c.key) key,
      omega (arith, c.within more, s.short),
      ⊎_elim (λ t. subst AreBytes (sym t.2) (bytes_take t.1 (drop t.0 (text_in news)) (bytes_drop t.0 (text_in news) (news_bytes news n))))
          (λ t. bytes_front part.bytes (drop part.offset q.taken) t (bytes_drop part.offset q.taken s.bytes)) c.text,
      c.short (news_short news n),
      λ m. ((c.batch m).0, sym same ∙ (c.batch m).1),
    ))

messages_formed : (start : World) (boot : ℕ) (key : Key) (index : ℕ) (lengths : List ℕ) → HasClient start key → AreLengths lengths
    → (0 < length lengths → index + length lengths ≤ 2 ^ 24 + 1) → AllByRecursion (BodyFormed start boot) (read_messages key index lengths)
messages_formed start boot key index [] h a low = tt
messages_formed start boot key index (n ∷ lengths) h a low =
    let all = low (omega arith) in
    ((h, omega (arith, all), a.0), messages_formed start boot key (index + 1) lengths h a.1 (λ some. omega (arith, all)))

reads_formed : (start : World) (boot : ℕ) (news : News) (p q : Point) → PointFormed start q → TakesBytes start q → AllByRecursion (BodyFormed start boot) (reads_reported news p q)
unfolding reads_reported
reads_formed start boot news p q h s =
    let index : ℕ = first_reported news p q in
    let rest = length-drop index q.lengths in
    messages_formed start boot q.key index (drop index q.lengths) h.key (lengths_drop index q.lengths h.lengths)
    (λ some. omega (arith, some, rest, h.count, h.enough, s.short))

dones_formed : (start : World) (boot : ℕ) (news : News) (p q : Point) → HasClient start q.key → AllByRecursion (BodyFormed start boot) (dones news p q)
unfolding dones
dones_formed start boot news p q h = holds_if (AllByRecursion (BodyFormed start boot)) (reports_done news p q) (DoneMsg q.key ∷ []) [] (λ t. (h, tt)) (λ t. tt)

bodies_sent : (start : World) (boot : ℕ) (bodies : List Body) → IsBoot boot → AllByRecursion (BodyFormed start boot) bodies → AllByRecursion (PacketFormed start) (map (reported_by boot) bodies)
bodies_sent start boot [] b a = tt
bodies_sent start boot (body ∷ bodies) b a = ((b, a.0), bodies_sent start boot bodies b a.1)

-- a turn of a connection
reset_formed : (start : World) (boot : ℕ) (news : News) (p q : Point) (sent : List Packet) → IsBoot boot → PointFormed start p → ResetTurn boot news p q sent
    → PointFormed start q × AllByRecursion (PacketFormed start) sent
reset_formed start boot news p q sent b h t =
    let key : HasClient start q.key = subst (HasClient start) (sym (ap (λ x. x.key) t.point)) h.key in (
      subst (PointFormed start) (sym t.point)
          (record { key = h.key; sisn = h.sisn; mss = h.mss; enough = h.enough; fetched = h.fetched; count = h.count; lengths = h.lengths; batches = h.batches; timestamping = h.timestamping }),
      subst (AllByRecursion (PacketFormed start)) (sym t.packets) (bodies_sent start boot (dones news p q) b (dones_formed start boot news p q key)),
    )

news_short_stamps : (news : News) → NewsFormed news → NewsShort news
news_short_stamps (Comes segment) n = n.7
news_short_stamps (Logged kept) n = tt
news_short_stamps Ticks n = tt
news_short_stamps Begins n = tt

live_point : {State : Type 0} (service : Machine State) (start : World) (server : Addr) (boot : ℕ) (news : News) (p q : Point) (sent : List Packet)
    → NewsFormed news → PointFormed start p → LiveTurn service server boot news p q sent → PointFormed start q
live_point service start server boot news p q sent n h t =
    let more : length p.taken ≤ length q.taken = taken_more news p q t.taken in
    let before : Point = record q { lengths = p.lengths } in
    let fetched : q.fetched ≤ length q.taken = omega (arith, t.same.fetched, h.fetched, more) in
    let reads = makes_syn_acked service before t.reads.news fetched (omega (arith, h.enough, more), h.count, h.lengths) t.reads.makes in
    let now : ReadsFormed (length q.taken) q.lengths = subst (ReadsFormed (length q.taken)) (sym t.reads.lengths) reads in
    record {
      key = subst (HasClient start) (sym t.same.key) h.key;
      sisn = subst (λ n. n < 2 ^ 32) (sym t.same.sisn) h.sisn;
      mss = subst IsSize (sym t.same.mss) h.mss;
      enough = now.0;
      fetched = fetched;
      count = now.1;
      lengths = now.2;
      batches = t.same.batches ∙ h.batches;
      timestamping = subst₂ HasRoom (sym t.same.mss) (sym t.timestamping) (turn_has_room news p (news_short_stamps news n) h.timestamping);
    }

live_formed : {State : Type 0} (service : Machine State) (start : World) (server : Addr) (boot : ℕ) (news : News) (p q : Point) (sent : List Packet) → WritesBytes service
    → server ≡ start.server → IsBoot boot → NewsFormed news → PointFormed start p → TakesBytes start q → LiveTurn service server boot news p q sent
    → PointFormed start q × AllByRecursion (PacketFormed start) sent
live_formed service start server boot news p q sent writes at b n h s t =
    let point : PointFormed start q = live_point service start server boot news p q sent n h t in
    let segments : AllByRecursion (λ x. PacketFormed start (To_client x)) (segments_of service server news p q) =
    all_weaker (Spoken service server news p q) _ (segments_of service server news p q)
    (λ x spoken. segment_formed service start server news p q x writes at point s.bytes spoken) (segments_spoken service server news p q) in
    let bodies : AllByRecursion (BodyFormed start boot) (copies news p q ++ (reads_reported news p q ++ dones news p q)) =
    all_append (BodyFormed start boot) (copies news p q) _ (copies_formed start boot news p q n point.key s (taken_more news p q t.taken) point.batches)
    (all_append (BodyFormed start boot) (reads_reported news p q) (dones news p q) (reads_formed start boot news p q point s) (dones_formed start boot news p q point.key)) in (
      point,
      subst (AllByRecursion (PacketFormed start)) (sym t.packets)
          (all_append (PacketFormed start) (map To_client (segments_of service server news p q)) _ (all_map (PacketFormed start) To_client (segments_of service server news p q) segments)
          (bodies_sent start boot (copies news p q ++ (reads_reported news p q ++ dones news p q)) b bodies)),
    )

-- a place that fits the log and is well formed
abbrev pub PlaceSound : World → Log → Place → Type 0
PlaceSound start log place = PlaceFits (script_of start) (isn_of start) log place × PlaceFormed start place

pub connection_formed : {State : Type 0} (service : Machine State) (start : World) (log : Log) (node : Node) (news : News) (p q : Point) (sent : List Packet) → WritesBytes service
    → StartFormed start → EntriesFit (script_of start) (isn_of start) log.entries → node.server ≡ start.server → IsBoot node.boot → NewsFormed news
    → NewsFits (script_of start p.key) (isn_of start p.key) news → NewsKnown log p news
    → PlaceSound start log (Lives p) → ConnectionTurn service node.server node.boot news p q sent
    → PlaceSound start log (Lives q) × AllByRecursion (PacketFormed start) sent
connection_formed service start log node news p q sent writes s entries at b n nf nk h t =
    let fits = connection_fits service node.server (script_of start) (isn_of start) log node.boot news p q sent s.short entries nf nk h.0 t in
    let here : TakesBytes start q = stands start log q s fits.0 in
    let formed : PointFormed start q × AllByRecursion (PacketFormed start) sent =
    either_turn service node.server node.boot news p q sent (reset_formed start node.boot news p q sent b h.1)
    (live_formed service start node.server node.boot news p q sent writes at b n h.1 here) t in
    ((fits.0, formed.0), formed.1)

news_formed : (start : World) (node : Node) (input : Input) (news : News) (p : Point) → InputFormed start input → IsNews node input news p → NewsFormed news
news_formed start node input (Comes segment) p h n = let came : InputFormed start (Packet_comes segment) = subst (InputFormed start) n.0 h in came.2
news_formed start node input (Logged kept) p h n = tt
news_formed start node input Ticks p h n = tt
news_formed start node input Begins p h n = absurd n

-- RSTs
pub listen_formed : (start : World) (node : Node) (input : Input) (places : List Place) → node.server ≡ start.server → InputFormed start input
    → AllByRecursion (PacketFormed start) (refusals node input places)
listen_formed start node (Packet_comes segment) places at h =
    holds_if (AllByRecursion (PacketFormed start)) (is_strange node segment places) (map To_client (as_listen node.server segment)) []
    (λ t. holds_if (λ x. AllByRecursion (PacketFormed start) (map To_client x)) (has_ack segment && not (has_rst segment)) (rst_at_ack node.server segment ∷ []) []
    (λ s. ((h.0, (ap (λ a. a.ip) at, ap (λ a. a.port) at), (h.2.1, omega arith, omega arith, omega arith, tt, tt, omega arith, tt)), tt)) (λ s. tt)) (λ t. tt)
listen_formed start node (Message_comes message) places at h = tt
listen_formed start node Noise_comes places at h = tt
listen_formed start node Tick_comes places at h = tt

closed_formed : (start : World) (server : Addr) (segment : Segment) → server ≡ start.server → PacketFormed start (To_server segment)
    → AllByRecursion (PacketFormed start) (map To_client (as_closed server segment))
closed_formed start server segment at h =
    holds_if (λ x. AllByRecursion (PacketFormed start) (map To_client x)) (has_rst segment) [] _ (λ t. tt)
    (λ t. holds_if (λ x. AllByRecursion (PacketFormed start) (map To_client x)) (has_ack segment) (rst_at_ack server segment ∷ []) (rst_behind server segment ∷ [])
    (λ s. ((h.0, (ap (λ a. a.ip) at, ap (λ a. a.port) at), (h.2.1, omega arith, omega arith, omega arith, tt, tt, omega arith, tt)), tt))
    (λ s. ((h.0, (ap (λ a. a.ip) at, ap (λ a. a.port) at), (omega arith, omega arith, omega arith, omega arith, tt, tt, omega arith, tt)), tt)))

full_formed : (start : World) (server : Addr) (asked : Numbers) → server ≡ start.server → NumbersFormed start asked → PacketFormed start (To_client (full_rst server asked))
full_formed start server asked at h = (h.0, (ap (λ a. a.ip) at, ap (λ a. a.port) at), (omega arith, omega arith, omega arith, omega arith, tt, tt, omega arith, tt))

-- openings
pub new_formed : (start : World) (node : Node) (input : Input) (opened : ℕ) (places : List Place) → InputFormed start input
    → AllByRecursion (PlaceFormed start) (newcomers node input opened places)
new_formed start node (Packet_comes segment) opened places h =
    holds_if (AllByRecursion (PlaceFormed start)) (is_strange node segment places && is_syn segment && nat_lt (pending_count places) 64)
    (Opens (numbers_for node.profile node.isn opened segment) (timestamping_for node.profile segment) ∷ []) [] (λ t. (
      (
        (h.0, h.2.0, omega arith, is_size segment.head.mss (timestamps_sent (timestamping_for node.profile segment))),
        asked_short node.profile.timestamps segment.head.timestamps h.2.7,
      ),
      tt,
    )) (λ t. tt)
new_formed start node (Message_comes message) opened places h = tt
new_formed start node Noise_comes opened places h = tt
new_formed start node Tick_comes opened places h = tt

opened_point_formed : (profile : Profile) (timestamping : Timestamping) (start : World) (kept : Numbers) → IsShortEcho timestamping → profile ≡ start.profile → NumbersFormed start kept → PointFormed start (point_opened profile timestamping kept)
opened_point_formed profile timestamping start kept short same h =
    record { key = h.0; sisn = h.2; mss = h.3; enough = omega arith; fetched = omega arith; count = omega arith; lengths = tt; batches = ap (λ x. x.batches) same; timestamping = fitting_has_room timestamping kept.mss short }

-- one place in one turn
pub place_formed : {State : Type 0} (service : Machine State) (start : World) (log : Log) (node : Node) (input : Input) → WritesBytes service
    → StartFormed start → EntriesFit (script_of start) (isn_of start) log.entries → node.server ≡ start.server → node.profile ≡ start.profile → IsBoot node.boot
    → InputFits (script_of start) (isn_of start) log input → InputFormed start input
    → (place : Place) (now : List Place) (sent : List Packet) → PlaceSound start log place → PlaceWent service node input place now sent
    → AllByRecursion (PlaceSound start log) now × AllByRecursion (PacketFormed start) sent
place_formed service start log node input writes s entries at same b i h place now sent f (stayed n e) =
    (subst (AllByRecursion (PlaceSound start log)) (sym n) (f, tt), subst (AllByRecursion (PacketFormed start)) (sym e) tt)
place_formed service start log node input writes s entries at same b i h place now sent f (went_on news p after e w n t) =
    let nf = news_fit (script_of start) (isn_of start) log node input news p i w in
    let c = connection_formed service start log node news p after sent writes s entries at b (news_formed start node input news p h w) nf.0 nf.1
    (subst (PlaceSound start log) e f) t in
    (subst (AllByRecursion (PlaceSound start log)) (sym n) (c.0, tt), c.1)
place_formed service start log node input writes s entries at same b i h place now sent f (began asked kept timestamping after e has n t) =
    let reported : InputFits (script_of start) (isn_of start) log (Message_comes has.message) = subst (InputFits (script_of start) (isn_of start) log) has.comes i in
    let came : InputFormed start (Message_comes has.message) = subst (InputFormed start) has.comes h in
    let numbers : NumbersFormed start kept = subst (BodyFormed start has.message.boot) has.body came.0.1 in
    let pending : PlaceSound start log (Opens asked timestamping) = subst (PlaceSound start log) e f in
    let c = connection_formed service start log node Begins (point_opened node.profile timestamping kept) after sent writes s entries at b tt tt tt
    (opened_point node.profile timestamping (script_of start) (isn_of start) log kept entries (subst (AnswerFits log) has.body reported), opened_point_formed node.profile timestamping start kept pending.1.1 same numbers) t in
    (subst (AllByRecursion (PlaceSound start log)) (sym n) (c.0, tt), c.1)
place_formed service start log node input writes s entries at same b i h place now sent f (dropped asked timestamping e why n x) =
    let numbers : PlaceSound start log (Opens asked timestamping) = subst (PlaceSound start log) e f in (
      subst (AllByRecursion (PlaceSound start log)) (sym n) tt,
      ⊎_elim (λ y. subst (AllByRecursion (PacketFormed start)) (sym y) tt)
          (λ y. subst (AllByRecursion (PacketFormed start)) (sym y) (full_formed start node.server asked at numbers.1.0, tt)) x,
    )
place_formed service start log node input writes s entries at same b i h place now sent f (ended p e why n x) =
    (subst (AllByRecursion (PlaceSound start log)) (sym n) ((tt, tt), tt), subst (AllByRecursion (PacketFormed start)) (sym x) tt)
place_formed service start log node input writes s entries at same b i h place now sent f (refused key segment e c k n x) =
    let came : InputFormed start (Packet_comes segment) = subst (InputFormed start) c h in
    (subst (AllByRecursion (PlaceSound start log)) (sym n) ((tt, tt), tt), subst (AllByRecursion (PacketFormed start)) (sym x) (closed_formed start node.server segment at came))
