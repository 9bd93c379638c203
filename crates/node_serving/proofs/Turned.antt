-- From what the connection's crate says of a turn to what the node says of it.
use Rattle.std.proofs.Common.{◌≡◌, ◌∙◌, ℕ, ◌+◌, ◌-◌, ◌<◌, ◌≤◌, ◌^◌, Bool, true, false, refl, sym, ap, subst, subst₂, Result, Ok, Err, OnOk, List, [], ◌∷◌, ◌++◌, map, length, drop, arith, drop-drop}
use Rattle.std.specs.Prelude.{IsOk}
use Rattle.std.specs.Bool.{MatchBool}
use Rattle.std.specs.List.{AllByRecursion}
use Rattle.ft_io.specs.declared.Addr.{Addr}
use Rattle.ft_io.specs.declared.Key.{Key}
use Rattle.seq_arith.specs.declared.BadPacket.{BadPacket}
use Rattle.seq_arith.specs.declared.kinds.Grammar.{Grammar}
use Rattle.seq_arith.specs.Packet.{Segment}
use Rattle.seq_arith.specs.PacketGrammar as packet
use Rattle.seq_arith.specs.PacketGrammar.{payload_at, segment_in}
use Rattle.seq_arith.specs.Message.{Message}
use Rattle.seq_arith.specs.MessageGrammar as message
use Rattle.seq_arith.proofs.Spelling.{spelling_is_read}
use Rattle.segment_codec.proofs.Accepting.{is_read}
use Rattle.server_trait.specs.Service.{Machine, AreBytes}
use Rattle.ft_model.specs.Connection.{LiveTurn, ResetTurn}
use Rattle.ft_model.specs.ResetAndEnd.{reset_after}
use Rattle.ft_model.specs.Network.{Packet}
use Rattle.ft_model.specs.Network.Packet.{To_client, To_logger}
use Rattle.ft_model.specs.News.{News}
use Rattle.ft_model.specs.News.News.{Comes, Logged, Ticks, Begins}
use Rattle.ft_model.specs.Point.{Point}
use Rattle.ft_model.specs.Readable.{FitsAddr}
use Rattle.ft_model.specs.Reads.{first_reported}
use Rattle.ft_model.specs.Wire.{Wire, wire_by, HasWireBy}
use Rattle.ft_model.specs.Wire.Party.{A_client, The_server}
use Rattle.ft_model.proofs.Formed.{bytes_drop}
use Rattle.ft_model.proofs.FormedLog.{lengths_drop}
use Rattle.north_wrap.specs.declared.read_record.ReadRecord.{ReadRecord}
use Rattle.north_wrap.specs.NorthState.{lengths_of}
use Rattle.north_wrap.specs.Refinement.{NorthStands}
use Rattle.wrapped_conn.specs.ConnState.{ConnState}
use Rattle.wrapped_conn.specs.Sound as sound
use Rattle.wrapped_conn.specs.Sound.{LeavesRoom, echoed}
use Rattle.wrapped_conn.proofs.SoundAgain.{echo_leaves, echo_short}
use Rattle.ft_model.specs.Timestamps.{is_timely, timestamping_after}
use Rattle.wrapped_conn.specs.Refinement as conn
use Rattle.wrapped_conn.specs.Refinement.{StandsLive, StandsReset, Leads}
use Rattle.wrapped_conn.specs.LoggerMessages.{AreWritable, grammar_by}
use Rattle.wrapped_conn.proofs.Lending.{reports}
use Rattle.wrapped_conn.proofs.Sendable.{FitsKey}
use Rattle.wrapped_conn.proofs.Small.{taken_small}
use Rattle.node_serving.specs.Conn.{IsOursAt, Acts, ConnGoes}
use Rattle.node_serving.specs.SentBytes.{message_to_logger, wires_of}
use Rattle.node_serving.proofs.NumberRanges.{IsInRange, IsWritten, IsBoot, IsShort, AreLow, live_written, reset_written}
use Rattle.seq_arith.proofs.Units.{one_at_most}
use Rattle.ft_model.proofs.LiveTurns.{counts_within}

-- from three clauses at Ok
pub all_ok : {T E : Type 0} {P Q R X : Type 0} (r : Result T E) → OnOk r P → OnOk r Q → OnOk r R → (P → Q → R → X) → OnOk r X
all_ok (Ok x) p q r f = f p q r
all_ok (Err e) p q r f = tt

-- from what holds anyway
pub at_ok : {T E : Type 0} {P : Type 0} (r : Result T E) → P → OnOk r P
at_ok (Ok x) p = p
at_ok (Err e) p = tt

-- what is known of a connection's key, of its server, and of what left: numbers and bytes fit their types
pub record IsTyped (server : Addr) (boot : ℕ) (key : Key) (segments messages : List (List ℕ)) : Type 0 where
  pub at : FitsAddr server
  pub up : boot < 2 ^ 64
  pub client : FitsKey key
  pub sent : AllByRecursion AreBytes segments
  pub reported : AllByRecursion AreBytes messages

-- the bytes of a packet
abbrev packet_of : Segment → Result Segment BadPacket → Segment
packet_of other (Ok segment) = segment
packet_of other (Err bad) = other

pub packet_is : (bytes : List ℕ) (segment : Segment) → packet.reading bytes ≡ Ok segment → segment_in bytes ≡ segment
packet_is bytes segment reads =
    ap (packet_of segment) (sym (is_read bytes (subst (λ r. IsOk r) (sym reads) refl)) ∙ reads)

payload_bytes : (segment : Segment) → packet.IsSpellable segment → AreBytes (packet.spelling segment) → AreBytes segment.payload
unfolding segment_in
payload_bytes segment spells bytes =
    subst AreBytes (ap (λ (s : Segment). s.payload) (packet_is (packet.spelling segment) segment (spelling_is_read segment spells)))
    (bytes_drop (payload_at (packet.spelling segment)) (packet.spelling segment) bytes)

bytes_behind : (xs ys : List ℕ) → AreBytes (xs ++ ys) → AreBytes ys
bytes_behind [] ys a = a
bytes_behind (x ∷ xs) ys a = bytes_behind xs ys a.1

behind_bytes : (grammar : Grammar) (reported : Message) → AreBytes (message.spelling_by grammar reported) → AreBytes (message.behind_of reported.body)
unfolding message.spelling_by message.spelled
behind_bytes grammar reported bytes = bytes_behind (message.numbers_bytes (message.fields_of (message.kind_of reported.body)) (message.numbers_of reported.body)) (message.behind_of reported.body) (bytes_behind _ _ bytes)

-- a turn's packets as bytes
loggers_have : (grammar : Grammar) (key : Key) (to_logger : List Message) → AllByRecursion (IsWritten grammar key) (map To_logger to_logger) → AllByRecursion AreBytes (map (message.spelling_by grammar) to_logger)
    → AllByRecursion (HasWireBy grammar) (map To_logger to_logger)
loggers_have grammar key [] w b = tt
loggers_have grammar key (reported ∷ more) w b = ((w.0, behind_bytes grammar reported b.0), loggers_have grammar key more w.1 b.1)

have_wires : (grammar : Grammar) (key : Key) (to_client : List Segment) (to_logger : List Message) → AllByRecursion (IsWritten grammar key) (map To_client to_client ++ map To_logger to_logger)
    → AllByRecursion AreBytes (map packet.spelling to_client) → AllByRecursion AreBytes (map (message.spelling_by grammar) to_logger)
    → AllByRecursion (HasWireBy grammar) (map To_client to_client ++ map To_logger to_logger)
have_wires grammar key [] to_logger w s m = loggers_have grammar key to_logger w m
have_wires grammar key (segment ∷ more) to_logger w s m = ((w.0.1, payload_bytes segment w.0.1 s.0), have_wires grammar key more to_logger w.1 s.1 m)

logger_wires : (grammar : Grammar) (to_logger : List Message) → map message_to_logger (map (message.spelling_by grammar) to_logger) ≡ map (wire_by grammar) (map To_logger to_logger)
logger_wires grammar [] = refl
logger_wires grammar (reported ∷ more) = ap (λ ws. message_to_logger (message.spelling_by grammar reported) ∷ ws) (logger_wires grammar more)

all_wires : (grammar : Grammar) (key : Key) (to_client : List Segment) (to_logger : List Message) → AllByRecursion (IsWritten grammar key) (map To_client to_client ++ map To_logger to_logger)
    → wires_of key (map packet.spelling to_client) (map (message.spelling_by grammar) to_logger) ≡ map (wire_by grammar) (map To_client to_client ++ map To_logger to_logger)
all_wires grammar key [] to_logger w = logger_wires grammar to_logger
all_wires grammar key (segment ∷ more) to_logger w =
    (λ j. record { from = The_server; to = A_client (sym w.0.0 j); bytes = packet.spelling segment } ∷ wires_of key (map packet.spelling more) (map (message.spelling_by grammar) to_logger))
    ∙ ap (λ ws. wire_by grammar (To_client segment) ∷ ws) (all_wires grammar key more to_logger w.1)

-- where the connection stands, its point is within its ranges
in_range : {S : Type 0} (service : Machine S) (c : ConnState S) (q : Point) → FitsKey q.key → q.mss ≤ 1460 → LeavesRoom q.mss q.timestamping → echoed q.timestamping < 2 ^ 32
    → sound.IsSound c → conn.Stands service c q → IsInRange q
in_range service c q key size room echo s st =
    let t = reports service q c s st in
    let parts = s.parts in record {
      key = key;
      sisn = subst (λ n. n < 2 ^ 32) (ap (λ x. x.sisn) st.keeps.south) s.sisn;
      size = size;
      room = room;
      echo = echo;
      taken = omega (arith, ap (λ x. x.taken) st.keeps.south, s.taken, taken_small c s);
      una = omega (arith, t.tcp.una);
      count = omega (arith, t.reads, parts.count, one_at_most c.north.ended, parts.read, parts.limit, parts.tcp.bounds.taken);
    }

lengths_low : (reads : List ReadRecord) → AreWritable reads → AreLow (lengths_of reads)
lengths_low [] all = tt
lengths_low (read ∷ reads) all = (all.0.length, lengths_low reads all.1)

unanswered_by : {S : Type 0} (service : Machine S) (c : ConnState S) (q : Point) (given : ℕ) → NorthStands service q given c.north → sound.IsSound c → AreLow (drop q.reads_answered q.lengths)
unanswered_by service c q given north s = subst AreLow north.reported (lengths_low c.north.reads s.parts.writable)

unanswered_low : {S : Type 0} (service : Machine S) (c : ConnState S) (q : Point) (b : Bool) → MatchBool b (StandsReset service q c) (StandsLive service q c) → sound.IsSound c
    → AreLow (drop q.reads_answered q.lengths)
unanswered_low service c q true st s = unanswered_by service c q st.given st.north s
unanswered_low service c q false st s = unanswered_by service c q st.given st.parts.stand.north s

-- the reads of a turn are after those that were known to be logged before
behind_low : (m n : ℕ) (lengths : List ℕ) → m ≤ n → AreLow (drop m lengths) → AreLow (drop n lengths)
behind_low m n lengths low all =
    let at : m + (n - m) ≡ n = omega (arith, low) in
    subst (λ k. AreLow (drop k lengths)) at (subst AreLow (drop-drop (n - m) m lengths) (lengths_drop (n - m) (drop m lengths) all))

reported_low : (news : News) (p q : Point) → q.reads_answered ≤ length p.lengths → AreLow (drop q.reads_answered q.lengths) → AreLow (drop (first_reported news p q) q.lengths)
reported_low Ticks p q few all = all
reported_low (Comes segment) p q few all = behind_low q.reads_answered (length p.lengths) q.lengths few all
reported_low (Logged kept) p q few all = behind_low q.reads_answered (length p.lengths) q.lengths few all
reported_low Begins p q few all = behind_low q.reads_answered (length p.lengths) q.lengths few all

-- either kind of turn
Goes : {S : Type 0} → Machine S → Addr → (boot : ℕ) → News → Point → Point → List Packet → Bool → Type 0
Goes service server boot news p q sent b = MatchBool b (ResetTurn boot news p q sent) (LiveTurn service server boot news p q sent)

same_key : {S : Type 0} (service : Machine S) (server : Addr) (boot : ℕ) (news : News) (p q : Point) (sent : List Packet) (b : Bool) → Goes service server boot news p q sent b → q.key ≡ p.key
unfolding Goes
same_key service server boot news p q sent true t = ap (λ x. x.key) t.point
same_key service server boot news p q sent false t = t.same.key

same_size : {S : Type 0} (service : Machine S) (server : Addr) (boot : ℕ) (news : News) (p q : Point) (sent : List Packet) (b : Bool) → Goes service server boot news p q sent b → q.mss ≡ p.mss
unfolding Goes
same_size service server boot news p q sent true t = ap (λ x. x.mss) t.point
same_size service server boot news p q sent false t = t.same.mss

-- the timestamps after a turn need as much room as before it, and echo a number of 32 bits
room_after : {S : Type 0} (service : Machine S) (server : Addr) (boot : ℕ) (news : News) (p q : Point) (sent : List Packet) (b : Bool) → IsShort news → LeavesRoom p.mss p.timestamping
    → echoed p.timestamping < 2 ^ 32 → Goes service server boot news p q sent b → LeavesRoom q.mss q.timestamping × (echoed q.timestamping < 2 ^ 32)
unfolding Goes
room_after service server boot news p q sent true short room echo t =
    (subst (λ x. LeavesRoom x.mss x.timestamping) (sym t.point) room, subst (λ x. echoed x.timestamping < 2 ^ 32) (sym t.point) echo)
room_after service server boot news p q sent false short room echo t =
    let noted = news_room news p short room echo in
    (subst₂ LeavesRoom (sym t.same.mss) (sym t.timestamping) noted.0, subst (λ x. echoed x < 2 ^ 32) (sym t.timestamping) noted.1)
  where
    news_room : (news : News) (p : Point) → IsShort news → LeavesRoom p.mss p.timestamping → echoed p.timestamping < 2 ^ 32
        → LeavesRoom p.mss (timestamping_after news p) × (echoed (timestamping_after news p) < 2 ^ 32)
    news_room (Comes segment) p short room echo =
        (echo_leaves p.mss p.timestamping (is_timely p segment) segment.head.timestamps room, echo_short p.timestamping (is_timely p segment) segment.head.timestamps echo short.1)
    news_room (Logged kept) p short room echo = (room, echo)
    news_room Ticks p short room echo = (room, echo)
    news_room Begins p short room echo = (room, echo)

same_batches : {S : Type 0} (service : Machine S) (server : Addr) (boot : ℕ) (news : News) (p q : Point) (sent : List Packet) (b : Bool) → Goes service server boot news p q sent b → q.batches ≡ p.batches
unfolding Goes
same_batches service server boot news p q sent true t = ap (λ x. x.batches) t.point
same_batches service server boot news p q sent false t = t.same.batches

all_written : {S : Type 0} (service : Machine S) (server : Addr) (boot : ℕ) (news : News) (p q : Point) (sent : List Packet) (b : Bool) → FitsAddr server → IsBoot boot → IsShort news → IsInRange q
    → p.reads_answered ≤ length p.lengths → AreLow (drop q.reads_answered q.lengths) → Goes service server boot news p q sent b → AllByRecursion (IsWritten (grammar_by q.batches) q.key) sent
unfolding Goes
all_written service server boot news p q sent true a up short r few low t = reset_written (grammar_by q.batches) boot news p q sent up r.key t
all_written service server boot news p q sent false a up short r few low t =
    let below : q.reads_answered ≤ length p.lengths = subst (λ n. n ≤ length p.lengths) (sym t.reads_answered) (counts_within news p few) in
    live_written service server boot news p q sent a up short r (reported_low news p q below low) t

-- a connection's segments fit a packet, with its timestamps
abbrev pub Fits : Point → Type 0
Fits p = (p.mss ≤ 1460) × LeavesRoom p.mss p.timestamping × (echoed p.timestamping < 2 ^ 32)

-- a turn of the connection is one of the node's
pub acts : {S : Type 0} (service : Machine S) (server : Addr) (boot : ℕ) (news : News) (p : Point) (now : ConnState S) (segments messages : List (List ℕ))
    → IsTyped server boot p.key segments messages → IsShort news → Fits p → p.reads_answered ≤ length p.lengths → sound.IsSound now → now.local ≡ server → now.boot ≡ boot
    → Leads service server boot news p now segments messages → Acts (grammar_by p.batches) service server boot news p now segments messages
unfolding IsOursAt Goes
acts service server boot news p now segments messages typed short size few s local up l =
    let grammar : Grammar = grammar_by p.batches in
    let q : Point = l.after in
    let b : Bool = reset_after news p in
    let key : q.key ≡ p.key = same_key service server boot news p q l.sent b l.goes in
    let fits : q.mss ≤ 1460 = subst (λ n. n ≤ 1460) (sym (same_size service server boot news p q l.sent b l.goes)) size.0 in
    let room = room_after service server boot news p q l.sent b short size.1 size.2 l.goes in
    let r : IsInRange q = in_range service now q (subst FitsKey (sym key) typed.client) fits room.0 room.1 s l.stands in
    let low = unanswered_low service now q q.reset l.stands.parts s in
    let live : IsBoot boot = record { least = subst (λ n. 1 ≤ n) up s.boot; most = typed.up } in
    let here : AllByRecursion (IsWritten grammar p.key) l.sent =
    subst (λ k. AllByRecursion (IsWritten grammar k) l.sent) key
    (subst (λ w. AllByRecursion (IsWritten (grammar_by w) q.key) l.sent) (same_batches service server boot news p q l.sent b l.goes) (all_written service server boot news p q l.sent b typed.at live short r few low l.goes)) in
    let x = l.spelled in
    let written = subst (AllByRecursion (IsWritten grammar p.key)) x.order here in record {
      after = q;
      packets = l.sent;
      stands = (l.stands, record { local = local; incarnation = up; size = fits; room = room.0; echo = room.1 });
      key = key;
      turn = l.goes;
      wires = (λ j. wires_of p.key (x.segments_are j) (x.messages_are j)) ∙ all_wires grammar p.key x.to_client x.to_logger written ∙ ap (map (wire_by grammar)) (sym x.order);
      spelled = subst (AllByRecursion (HasWireBy grammar)) (sym x.order)
          (have_wires grammar p.key x.to_client x.to_logger written (subst (AllByRecursion AreBytes) x.segments_are typed.sent) (subst (AllByRecursion AreBytes) x.messages_are typed.reported));
    }

-- its packets after those of the others
pub goes : {S : Type 0} (grammar : Grammar) (service : Machine S) (server : Addr) (boot : ℕ) (news : News) (p : Point) (now : ConnState S) (key : Key) (segments messages : List (List ℕ)) (old new : List Wire)
    → p.key ≡ key → new ≡ old ++ wires_of key segments messages → Acts grammar service server boot news p now segments messages → ConnGoes grammar service server boot news p now old new
goes grammar service server boot news p now key segments messages old new is sent a = record {
  after = a.after;
  packets = a.packets;
  stands = a.stands;
  key = a.key;
  turn = a.turn;
  wires = sent ∙ (λ j. old ++ wires_of (sym is j) segments messages) ∙ ap (λ ws. old ++ ws) a.wires;
  spelled = a.spelled;
}
