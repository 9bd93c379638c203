-- What a turn of a connection sends is for its client or for the logger, and each number in it fits its field.
use Rattle.std.proofs.Common.{◌≡◌, ◌∙◌, ℕ, Bool, false, true≢false, ◌+◌, ◌<◌, ◌≤◌, ◌^◌, true, ◌&&◌, ◌||◌, nat_le, refl, sym, subst, Option, Some, None, IfSome, List, [], ◌∷◌, ◌++◌, map, length, length-append, take, drop, max, arith, length-drop, length-take}
use Rattle.std.specs.List.{AllByRecursion}
use Rattle.std.proofs.lemmas.Bool.{and_from, le-leb}
use Rattle.ft_io.specs.declared.Addr.{Addr}
use Rattle.ft_io.specs.declared.Key.{Key}
use Rattle.seq_arith.specs.Packet.{Segment, has_syn, has_rst}
use Rattle.seq_arith.specs.PacketGrammar as packet
use Rattle.seq_arith.specs.Message.{Part, Body}
use Rattle.seq_arith.specs.Message.Body.{DataMsg, DoneMsg}
use Rattle.seq_arith.specs.MessageGrammar as message
use Rattle.seq_arith.specs.MessageGrammar.{ending, has_length, is_sound_by, most_ending}
use Rattle.seq_arith.specs.declared.kinds.Grammar.{Grammar}
use Rattle.seq_arith.proofs.Units.{timestamps_option_long}
use Rattle.tcp_rules.specs.Timestamping.{timestamps_sent}
use Rattle.tcp_rules.specs.declared.timestamping.Timestamping.{Timestamping}
use Rattle.tcp_rules.specs.declared.timestamping.Timestamping.TheVariants.{Off, Awaited, Echoes}
use Rattle.server_trait.specs.Service.{Machine}
use Rattle.ft_model.specs.Connection.{LiveTurn, ResetTurn, reported_by}
use Rattle.ft_model.specs.Copy.{copies}
use Rattle.ft_model.specs.ResetAndEnd.{dones, reports_done}
use Rattle.ft_model.specs.Network.{Packet, destination_of}
use Rattle.ft_model.specs.Network.Packet.{To_client, To_logger}
use Rattle.ft_model.specs.News.{News}
use Rattle.ft_model.specs.News.News.{Comes, Logged, Ticks, Begins}
use Rattle.ft_model.specs.Offset.{text_of}
use Rattle.ft_model.specs.Point.{Point, answered_run}
use Rattle.ft_model.specs.Readable.{FitsAddr}
use Rattle.ft_model.specs.Reads.{read_messages, first_reported, reads_reported}
use Rattle.ft_model.specs.Segments.{head_to, segments_of}
use Rattle.ft_model.proofs.Lists.{all_weaker, all_map, all_append}
use Rattle.ft_model.proofs.Spoken.{Spoken, segments_spoken}
use Rattle.ft_model.proofs.Spoken.Spoken.{spoken_syn, spoken_text, spoken_fin, spoken_bare}
use Rattle.wrapped_conn.specs.LoggerMessages.{grammar_by}
use Rattle.wrapped_conn.specs.Sound.{LeavesRoom, echoed}
use Rattle.wrapped_conn.proofs.SoundAgain.{AreShort}
use Rattle.wrapped_conn.proofs.Sendable.{FitsKey, done_sendable, ending_low, least_ending, read_sendable}
use Rattle.ft_io.proofs.Choices.{by_cases, holds_if}
use Rattle.ft_model.proofs.Copied.{Grows, text_in, all_copies}
use Rattle.ft_model.proofs.Running.{taken_more}

-- the numbers of a point are within their ranges
pub record IsInRange (q : Point) : Type 0 where
  pub key : FitsKey q.key
  pub sisn : q.sisn < 2 ^ 32
  pub size : q.mss ≤ 1460
  pub room : LeavesRoom q.mss q.timestamping
  pub echo : echoed q.timestamping < 2 ^ 32
  pub taken : length q.taken ≤ 2 ^ 24
  pub una : q.una ≤ 2 ^ 24 + 1
  pub count : length q.lengths ≤ 2 ^ 24 + 1

-- a packet is this connection's, and can be spelled in this grammar but for its bytes
abbrev pub IsWritten : Grammar → Key → Packet → Type 0
IsWritten grammar key (To_client segment) = (destination_of segment ≡ key) × packet.IsSpellable segment
IsWritten grammar key (To_logger reported) = message.IsSpellableBy grammar reported
IsWritten grammar key _ = ⊥

-- the timestamps of a segment, and how long they are
sent_short : (timestamping : Timestamping) → echoed timestamping < 2 ^ 32 → AreShort (timestamps_sent timestamping)
sent_short Off h = tt
sent_short Awaited h = tt
sent_short (Echoes recent) h = (omega arith, h)

sent_fits : (mss : ℕ) (timestamping : Timestamping) → mss ≤ 1460 → LeavesRoom mss timestamping
    → (length (packet.timestamps_option (timestamps_sent timestamping)) ≤ 12) × (mss + length (packet.timestamps_option (timestamps_sent timestamping)) ≤ 1460)
sent_fits mss Off small room = (omega arith, omega (arith, small))
sent_fits mss Awaited small room = (omega arith, omega (arith, small))
sent_fits mss (Echoes recent) small room =
    let long = timestamps_option_long (record { value = 1; echo = recent }) in (omega (arith, long), omega (arith, long, room refl))

-- segments
spells : (server : Addr) (q : Point) (seq flags : ℕ) (mss : Option ℕ) (payload : List ℕ) → FitsAddr server → IsInRange q → seq < 2 ^ 32 → flags < 2 ^ 8 → IfSome mss (λ m. m < 2 ^ 16)
    → length (packet.mss_option mss) + length payload ≤ max 4 q.mss → packet.IsSpellable (record { head = head_to server q seq flags mss; payload = payload })
spells server q seq flags mss payload a r low few fits short =
    let stamps = sent_fits q.mss q.timestamping r.size r.room in record {
      src = a.0;
      dst = r.key.ip;
      sport = a.1;
      dport = r.key.port;
      seq = low;
      ack = omega arith;
      flags = few;
      window = omega arith;
      mss = fits;
      timestamps = sent_short q.timestamping r.echo;
      size = omega (arith, short, r.size, stamps.0, stamps.1, length-append (packet.mss_option mss) (packet.timestamps_option (timestamps_sent q.timestamping)));
    }

segment_written : {State : Type 0} (grammar : Grammar) (service : Machine State) (server : Addr) (news : News) (p q : Point) (segment : Segment) → FitsAddr server → IsInRange q
    → Spoken service server news p q segment → IsWritten grammar q.key (To_client segment)
segment_written grammar service server news p q segment a r (spoken_syn e) =
    subst (λ s. IsWritten grammar q.key (To_client s)) (sym e) (refl, spells server q q.sisn _ (Some 1460) [] a r r.sisn (omega arith) (omega arith) (omega arith))
segment_written grammar service server news p q segment a r (spoken_text offset n short e) =
    let size = length-take n (drop offset (answered_run service q).output) in
    subst (λ s. IsWritten grammar q.key (To_client s)) (sym e) (refl, spells server q _ _ None (take n (drop offset (answered_run service q).output)) a r (omega arith) (omega arith) tt (omega (arith, size, short)))
segment_written grammar service server news p q segment a r (spoken_fin f e) =
    subst (λ s. IsWritten grammar q.key (To_client s)) (sym e) (refl, spells server q _ _ None [] a r (omega arith) (omega arith) tt (omega arith))
segment_written grammar service server news p q segment a r (spoken_bare offset e) =
    subst (λ s. IsWritten grammar q.key (To_client s)) (sym e) (refl, spells server q _ _ None [] a r (omega arith) (omega arith) tt (omega arith))

-- and messages
abbrev IsReported : Grammar → ℕ → Body → Type 0
IsReported grammar boot body = message.IsSpellableBy grammar (record { boot = boot; body = body })

pub record IsBoot (boot : ℕ) : Type 0 where
  pub least : 1 ≤ boot
  pub most : boot < 2 ^ 64

-- where another Data follows, the FIN doesn't
no_fin_before : (part : Part) → (part.more ≡ true → part.fin ≡ false) → part.fin ≡ true → part.more ≡ false
no_fin_before part others ends = by_cases part.more (λ more. absurd (true≢false (sym ends ∙ others more))) (λ last. last)

data_reported : (batches : Bool) (boot : ℕ) (part : Part) → IsBoot boot → FitsKey part.key → part.offset + length part.bytes ≤ 2 ^ 24 → part.acked ≤ 2 ^ 24 + 1 → length part.bytes ≤ 1460
    → (part.more ≡ true → (part.fin ≡ false) × (batches ≡ true)) → IsReported (grammar_by batches) boot (DataMsg part)
unfolding is_sound_by has_length
data_reported batches boot part b k within few short batch =
    let last : ending part ≤ most_ending (grammar_by batches) =
    ending_low batches part.fin part.more (no_fin_before part (λ more. (batch more).0)) (λ more. (batch more).1) in record {
      boot = omega (arith, b.most);
      numbers = (omega (arith, k.ip), (omega (arith, k.port), (omega (arith, within), (omega (arith, few), (omega (arith, last, least_ending batches), tt)))));
      sound = and_from (nat_le 1 boot && _) true (and_from (nat_le 1 boot) _ (le-leb 1 boot b.least)
          (and_from _ _ (le-leb (part.offset + length part.bytes) (2 ^ 24) within) (and_from _ _ (le-leb part.acked (2 ^ 24 + 1) few) (and_from _ _ (le-leb (ending part) (most_ending (grammar_by batches)) last) refl)))) refl;
      size = and_from _ true (and_from (nat_le (31 + 0) (31 + length part.bytes)) (nat_le (31 + length part.bytes) (31 + 1460)) (le-leb _ _ (omega arith)) (le-leb _ _ (omega (arith, short)))) refl;
    }

-- the text of what comes fits a packet, and its timestamps are numbers of 32 bits
abbrev pub IsShort : News → Type 0
IsShort (Comes segment) = (length segment.payload ≤ 1460) × AreShort segment.head.timestamps
IsShort _ = Unit {0}

text_short : (segment : Segment) → length segment.payload ≤ 1460 → length (text_of segment) ≤ 1460
text_short segment h = holds_if (λ t. length t ≤ 1460) (has_syn segment || has_rst segment) [] segment.payload (λ t. omega arith) (λ t. h)

news_short : (news : News) → IsShort news → length (text_in news) ≤ 1460
news_short (Comes segment) h = text_short segment h.0
news_short (Logged kept) h = omega arith
news_short Ticks h = omega arith
news_short Begins h = omega arith

copies_reported : (boot : ℕ) (news : News) (p q : Point) → IsBoot boot → IsShort news → IsInRange q → Grows p q → AllByRecursion (IsReported (grammar_by q.batches) boot) (copies news p q)
copies_reported boot news p q b short r grows =
    all_copies (IsReported (grammar_by q.batches) boot) news p q
    (λ part c. let within = c.within grows in
    data_reported q.batches boot part b (subst FitsKey (sym c.key) r.key) (omega (arith, within, r.taken)) (subst (λ n. n ≤ 2 ^ 24 + 1) (sym c.acked) r.una)
    (c.short (news_short news short)) c.batch)

abbrev pub AreLow : List ℕ → Type 0
AreLow lengths = AllByRecursion (λ n. n ≤ 2048) lengths

reads_in_order : (grammar : Grammar) (boot : ℕ) (key : Key) (index : ℕ) (lengths : List ℕ) → IsBoot boot → FitsKey key → AreLow lengths → (0 < length lengths → index + length lengths ≤ 2 ^ 24 + 1)
    → AllByRecursion (IsReported grammar boot) (read_messages key index lengths)
reads_in_order grammar boot key index [] b k low few = tt
reads_in_order grammar boot key index (n ∷ lengths) b k low few =
    let all = few (omega arith) in
    ((read_sendable grammar boot key index n b.least b.most k (omega (arith, all)) low.0).spellable, reads_in_order grammar boot key (index + 1) lengths b k low.1 (λ some. omega (arith, all)))

reads_are_reported : (grammar : Grammar) (boot : ℕ) (news : News) (p q : Point) → IsBoot boot → IsInRange q → AreLow (drop (first_reported news p q) q.lengths) → AllByRecursion (IsReported grammar boot) (reads_reported news p q)
unfolding reads_reported
reads_are_reported grammar boot news p q b r low =
    let rest = length-drop (first_reported news p q) q.lengths in
    reads_in_order grammar boot q.key (first_reported news p q) (drop (first_reported news p q) q.lengths) b r.key low (λ some. omega (arith, some, rest, r.count))

dones_reported : (grammar : Grammar) (boot : ℕ) (news : News) (p q : Point) → IsBoot boot → FitsKey q.key → AllByRecursion (IsReported grammar boot) (dones news p q)
unfolding dones
dones_reported grammar boot news p q b k =
    holds_if (AllByRecursion (IsReported grammar boot)) (reports_done news p q) (DoneMsg q.key ∷ []) [] (λ t. ((done_sendable grammar boot q.key b.least b.most k).spellable, tt)) (λ t. tt)

-- a turn's packets
pub live_written : {State : Type 0} (service : Machine State) (server : Addr) (boot : ℕ) (news : News) (p q : Point) (sent : List Packet) → FitsAddr server → IsBoot boot
    → IsShort news → IsInRange q → AreLow (drop (first_reported news p q) q.lengths) → LiveTurn service server boot news p q sent → AllByRecursion (IsWritten (grammar_by q.batches) q.key) sent
live_written service server boot news p q sent a b short r low t =
    let grammar : Grammar = grammar_by q.batches in
    let segments : AllByRecursion (λ s. IsWritten grammar q.key (To_client s)) (segments_of service server news p q) =
    all_weaker (Spoken service server news p q) (λ s. IsWritten grammar q.key (To_client s)) (segments_of service server news p q)
    (λ s spoken. segment_written grammar service server news p q s a r spoken) (segments_spoken service server news p q) in
    let bodies : AllByRecursion (IsReported grammar boot) (copies news p q ++ (reads_reported news p q ++ dones news p q)) =
    all_append (IsReported grammar boot) (copies news p q) _ (copies_reported boot news p q b short r (taken_more news p q t.taken))
    (all_append (IsReported grammar boot) (reads_reported news p q) (dones news p q) (reads_are_reported grammar boot news p q b r low) (dones_reported grammar boot news p q b r.key)) in
    subst (AllByRecursion (IsWritten grammar q.key)) (sym t.packets)
    (all_append (IsWritten grammar q.key) (map To_client (segments_of service server news p q)) _ (all_map (IsWritten grammar q.key) To_client (segments_of service server news p q) segments)
    (all_map (IsWritten grammar q.key) (reported_by boot) (copies news p q ++ (reads_reported news p q ++ dones news p q)) bodies))

pub reset_written : (grammar : Grammar) (boot : ℕ) (news : News) (p q : Point) (sent : List Packet) → IsBoot boot → FitsKey q.key → ResetTurn boot news p q sent → AllByRecursion (IsWritten grammar q.key) sent
reset_written grammar boot news p q sent b k t =
    subst (AllByRecursion (IsWritten grammar q.key)) (sym t.packets) (all_map (IsWritten grammar q.key) (reported_by boot) (dones news p q) (dones_reported grammar boot news p q b k))
