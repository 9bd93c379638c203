-- From the parts after a turn to the connection: its numbers, and what leaves.
use Rattle.ft_model.specs.Timestamps.{timestamping_after}
use Rattle.tcp_rules.specs.Timestamping.{timestamps_sent}
use Rattle.std.proofs.Common.{◌≡◌, ℕ, ◌≤◌, ◌+◌, ◌%◌, ◌^◌, Bool, false, not, Option, None, Some, List, [], ◌∷◌, ◌++◌, append-nil, length, drop, sum, map, min, suc, refl, sym, ap, subst, arith, ◌∙◌}
use Rattle.std.specs.Prelude.{◌==◌, ◌&&◌, ◌||◌, if◌then◌else◌}
use Rattle.std.specs.Bool.{MatchBool}
use Rattle.std.proofs.lemmas.Bool.{false≢true}
use Rattle.std.proofs.Math.Seq.{drop-append_seam}
use Rattle.std.proofs.lemmas.List.{length-append}
use Rattle.ft_io.specs.declared.Addr.{Addr}
use Rattle.ft_io.specs.declared.Key.{Key}
use Rattle.seq_arith.specs.Number.{number_at, distance}
use Rattle.seq_arith.specs.Packet.{Segment}
use Rattle.seq_arith.specs.Message.{Body}
use Rattle.seq_arith.specs.Message.Body.{DoneMsg}
use Rattle.seq_arith.specs.MessageGrammar as message
use Rattle.server_trait.specs.Service.{Machine}
use Rattle.ft_model.specs.Answered.{answered_after}
use Rattle.ft_model.specs.Connection.{LiveTurn, ResetTurn, reported_by, sent_by}
use Rattle.ft_model.specs.Copy as model
use Rattle.ft_model.specs.ResetAndEnd.{reset_after, end_ticks_after, dones as dones_by_law}
use Rattle.ft_model.specs.Network.{Packet}
use Rattle.ft_model.specs.Network.Packet.{To_client, To_logger}
use Rattle.ft_model.specs.News.{News}
use Rattle.ft_model.specs.News.News.{Comes, Logged, Ticks, Begins}
use Rattle.ft_model.specs.PendingAck.{is_delayed as is_delayed_by_law}
use Rattle.ft_model.specs.Timer.{is_tick}
use Rattle.ft_model.specs.Point.{Point, taken_units, acknowledgement, is_over}
use Rattle.ft_model.specs.Reads.{reads_reported, read_messages}
use Rattle.ft_model.specs.Segments as segments
use Rattle.ft_model.specs.Segments.{segments_of, bare_segment}
use Rattle.ft_model.specs.Sending.{acknowledged_after}
use Rattle.ft_model.specs.Taken.{taken_after, fin_after}
use Rattle.north_wrap.specs.declared.read_record.ReadRecord.{ReadRecord}
use Rattle.north_wrap.specs.NorthState.{NorthState, lengths_of}
use Rattle.north_wrap.specs.Refinement.{messages_of, IsNumbered}
use Rattle.north_wrap.proofs.OneRead.{numbered_drop}
use Rattle.north_wrap.proofs.ReadSequence.{reported_reads}
use Rattle.south_wrap.specs.SouthState.{SouthState, acknowledged, window}
use Rattle.south_wrap.specs.SouthPoint.{south_at}
use Rattle.tcp_endpoint.specs.Output.{full_out, leaving, flushed, packets, or_bare}
use Rattle.tcp_endpoint.specs.Tcb.{Tcb}
use Rattle.connection_laws.specs.Traffic.{tcp_out as tcp_out_by_law}
use Rattle.connection_laws.specs.Parts.{PartsTurn, adds, repeats, leaves_with}
use Rattle.connection_laws.specs.PointNumbers.{PartsShow}
use Rattle.connection_laws.proofs.PointNumbers.{parts_show}
use Rattle.wrapped_conn.specs.declared.stage.Before.{Before}
use Rattle.wrapped_conn.specs.ConnState.{ConnState}
use Rattle.wrapped_conn.specs.Numbers.{sent_units, outer_sent}
use Rattle.wrapped_conn.specs.Output.{passed, syn_ack, bare, is_ack_pending, is_delayed, tcp_out, leaves, turn_ended, with_endpoint_flushed}
use Rattle.wrapped_conn.specs.LoggerMessages.{grammar_by, spelled, is_done}
use Rattle.wrapped_conn.specs.Turn.{served, tcp_used}
use Rattle.wrapped_conn.specs.Calls.{calls_of}
use Rattle.wrapped_conn.specs.Refinement.{StandsLive, StandsReset, IsSpelled, Leads}
use Rattle.wrapped_conn.proofs.Locals.{used_local, flushed_local}

-- the numbers of the south wrapper once the news have come
abbrev pub south_after : (delta : ℕ) → News → Point → SouthState
south_after delta news p = record (south_at delta p) {
  taken = length (taken_after news p);
  fin = fin_after news p;
  answered = answered_after news p;
  una = acknowledged_after news p;
  timestamping = timestamping_after news p;
}

-- the connection where the news have come, before the north wrapper's turn
pub record HasNews {S : Type 0} (news : News) (p : Point) (c : ConnState S) : Type 0 where
  pub key : c.key ≡ p.key
  pub south : c.south ≡ south_after c.south.delta news p
  pub fetched : c.fetched ≡ p.fetched
  pub end_ticks : c.end_ticks ≡ p.end_ticks
  pub four : c.end_ticks ≤ 4
  pub reset : c.reset ≡ false
  pub unanswered : is_done c.stage ≡ false
  pub local : c.endpoint.local ≡ c.local
  pub delays : c.delays ≡ p.delays
  pub batches : c.batches ≡ p.batches

pub units_of : (sisn other sent number : ℕ) → number ≡ number_at sisn sent → other ≡ sisn → sent ≤ 2 ^ 24 + 1 → distance number ((other + 1) % 2 ^ 32) ≡ sent
units_of sisn other sent number a b c = omega (arith, a, b, c)

pub few_units : (sent made : ℕ) → sent ≤ made + 1 → made ≤ 2 ^ 24 → sent ≤ 2 ^ 24 + 1
few_units sent made a b = omega (arith, a, b)

-- the south wrapper after the turn
pub south_ends : {S : Type 0} (service : Machine S) (server : Addr) (boot : ℕ) (news : News) (p q : Point) (sent : List Packet) (n : NorthState S) (reads : List ReadRecord) (c : ConnState S)
    → HasNews news p c → LiveTurn service server boot news p q sent → PartsShow service c.south.delta q n (flushed (tcp_used c reads)) → n.read ≡ sum q.lengths → n.run.made ≤ 2 ^ 24
    → (turn_ended (served n reads c)).south ≡ south_at c.south.delta q
south_ends service server boot news p q sent n reads c h l shown read few =
    let sisn : c.south.sisn ≡ q.sisn = ap (λ (s : SouthState). s.sisn) h.south ∙ sym l.same.sisn in
    let units : sent_units (with_endpoint_flushed (served n reads c)) ≡ q.sent =
    units_of q.sisn c.south.sisn q.sent (outer_sent (with_endpoint_flushed (served n reads c))) shown.sent_outside sisn (few_units q.sent n.run.made shown.few few) in
    let cisn : c.south.cisn ≡ q.cisn = ap (λ (s : SouthState). s.cisn) h.south ∙ sym l.same.cisn in
    let fetched : c.south.fetched ≡ q.fetched = ap (λ (s : SouthState). s.fetched) h.south ∙ sym l.same.fetched in
    let fetched_output : c.south.fetched_output ≡ q.fetched_output = ap (λ (s : SouthState). s.fetched_output) h.south ∙ sym l.same.fetched_output in
    let taken : c.south.taken ≡ length q.taken = ap (λ (s : SouthState). s.taken) h.south ∙ ap length (sym l.taken) in
    let fin : c.south.fin ≡ q.fin = ap (λ (s : SouthState). s.fin) h.south ∙ sym l.fin in
    let answered : c.south.answered ≡ q.answered = ap (λ (s : SouthState). s.answered) h.south ∙ sym l.answered in
    let una : c.south.una ≡ q.una = ap (λ (s : SouthState). s.una) h.south ∙ sym l.una in
    let timestamping : c.south.timestamping ≡ q.timestamping = ap (λ (s : SouthState). s.timestamping) h.south ∙ sym l.timestamping in
    λ j. record {
      cisn = cisn j;
      sisn = sisn j;
      delta = c.south.delta;
      fetched = fetched j;
      fetched_output = fetched_output j;
      taken = taken j;
      fin = fin j;
      answered = answered j;
      read = read j;
      una = una j;
      sent = units j;
      timestamping = timestamping j;
    }

-- a segment of the connection itself, as a function of what it is made of
abbrev own : (local : Addr) → Key → SouthState → (seq flags : ℕ) → Option ℕ → Segment
own local key s seq flags mss = record {
  head = record {
    src = local.ip;
    dst = key.ip;
    sport = local.port;
    dport = key.port;
    seq = seq;
    ack = number_at s.cisn (acknowledged s);
    flags = flags;
    window = window s;
    mss = mss;
    timestamps = timestamps_sent s.timestamping;
  };
  payload = [];
}

pub syn_ack_is : {S : Type 0} (server : Addr) (delta : ℕ) (q : Point) (c : ConnState S) → c.local ≡ server → c.key ≡ q.key → c.south ≡ south_at delta q → syn_ack c ≡ segments.syn_ack server q
unfolding syn_ack
syn_ack_is server delta q c local key south = λ j. own (local j) (key j) (south j) (south j).sisn 18 (Some 1460)

pub bare_is : {S : Type 0} (server : Addr) (delta : ℕ) (q : Point) (c : ConnState S) → c.local ≡ server → c.key ≡ q.key → c.south ≡ south_at delta q → outer_sent c ≡ number_at q.sisn q.sent
    → bare c ≡ bare_segment server q
unfolding bare
bare_is server delta q c local key south sent = λ j. own (local j) (key j) (south j) (sent j) 16 None

same_or : (ack_pending : Bool) (b : Segment) (xs : List Segment) → or_bare ack_pending b xs ≡ segments.or_bare ack_pending b xs
same_or ack_pending b [] = refl
same_or ack_pending b (x ∷ xs) = refl

-- all that leaves
pub leaves_is : {S : Type 0} (service : Machine S) (server : Addr) (delta : ℕ) (news : News) (p q : Point) (t : Tcb) (c : ConnState S) (before : Before) (again : Bool)
    → c.local ≡ server → c.key ≡ q.key → c.south ≡ south_at delta q → outer_sent c ≡ number_at q.sisn q.sent
    → is_ack_pending before c ≡ adds service news p q t → again ≡ repeats news p → (out : List Segment) → out ≡ tcp_out_by_law news p q t
    → leaves before again c out ≡ leaves_with service server delta news p q t
leaves_is service server delta news p q t c before again local key south sent ack_pending repeated out out_is =
    same_or (is_ack_pending before c) (bare c) (passed c.south out ++ (if again then syn_ack c ∷ [] else []))
    ∙ (λ j. segments.or_bare (ack_pending j) (bare_is server delta q c local key south sent j)
    (passed (south j) (out_is j) ++ (if repeated j then syn_ack_is server delta q c local key south j ∷ [] else [])))

-- messages of a boot
maps : (boot : ℕ) (bodies : List Body) → map (reported_by boot) bodies ≡ map To_logger (map (λ body. record { boot = boot; body = body }) bodies)
maps boot [] = refl
maps boot (body ∷ bodies) = ap (λ xs. reported_by boot body ∷ xs) (maps boot bodies)

spells : (wide : Bool) (boot : ℕ) (bodies : List Body) → spelled wide boot bodies ≡ map (message.spelling_by (grammar_by wide)) (map (λ body. record { boot = boot; body = body }) bodies)
spells wide boot [] = refl
spells wide boot (body ∷ bodies) = ap (λ xs. message.spelling_by (grammar_by wide) (record { boot = boot; body = body }) ∷ xs) (spells wide boot bodies)

pub spelled_by : (wide : Bool) (boot : ℕ) (to_client : List Segment) (bodies : List Body) (sent : List Packet) (out messages : List (List ℕ))
    → sent ≡ map To_client to_client ++ map (reported_by boot) bodies → out ≡ packets to_client → messages ≡ spelled wide boot bodies → IsSpelled wide sent out messages
unfolding packets
spelled_by wide boot to_client bodies sent out messages a b c = record {
  to_client = to_client;
  to_logger = map (λ body. record { boot = boot; body = body }) bodies;
  order = a ∙ ap (λ xs. map To_client to_client ++ xs) (maps boot bodies);
  segments_are = b;
  messages_are = c ∙ spells wide boot bodies;
}

-- the new reads are told by index
first_of_new : (answered old news all before made : ℕ) → answered + all ≡ made → all ≡ old + news → made ≡ before + news → answered + old ≡ before
first_of_new answered old news all before made a b c = omega (arith, a, b, c)

lengths_count : (reads : List ReadRecord) → length (lengths_of reads) ≡ length reads
lengths_count [] = refl
lengths_count (read ∷ reads) = ap (λ n. suc n) (lengths_count reads)

pub numbered_new : (answered : ℕ) (old reads new : List ReadRecord) (lengths all : List ℕ) → IsNumbered answered new → new ≡ old ++ reads → answered + length new ≡ length all
    → all ≡ lengths ++ lengths_of reads → IsNumbered (length lengths) reads
numbered_new answered old reads new lengths all numbered news count more =
    let made : length all ≡ length lengths + length reads = ap length more ∙ length-append lengths (lengths_of reads) ∙ ap (λ n. length lengths + n) (lengths_count reads) in
    let both : length new ≡ length old + length reads = ap length news ∙ length-append old reads in
    let first : answered + length old ≡ length lengths = first_of_new answered (length old) (length reads) (length new) (length lengths) (length all) count both made in
    let split : IsNumbered answered (old ++ reads) = subst (IsNumbered answered) news numbered in
    let rest : IsNumbered (answered + length old) (drop (length old) (old ++ reads)) = numbered_drop (length old) answered (old ++ reads) split in
    let those : IsNumbered (answered + length old) reads = subst (λ xs. IsNumbered (answered + length old) xs) (drop-append_seam old reads) rest in
    subst (λ k. IsNumbered k reads) first those

reads_are : (key other : Key) (first : ℕ) (reads : List ReadRecord) → key ≡ other → IsNumbered first reads → messages_of key reads ≡ read_messages other first (lengths_of reads)
reads_are key other first reads same numbered = ap (λ k. messages_of k reads) same ∙ reported_reads other first reads numbered

-- outside of a tick the new reads are told, ..
new_reported : (p q : Point) (key : Key) (reads : List ReadRecord) → key ≡ q.key → q.lengths ≡ p.lengths ++ lengths_of reads → IsNumbered (length p.lengths) reads
    → messages_of key reads ≡ read_messages q.key (length p.lengths) (drop (length p.lengths) q.lengths)
new_reported p q key reads same lengths numbered =
    reads_are key q.key (length p.lengths) reads same numbered
    ∙ ap (read_messages q.key (length p.lengths)) (sym (ap (drop (length p.lengths)) lengths ∙ drop-append_seam p.lengths (lengths_of reads)))

pub new_reads_reported : (news : News) (p q : Point) (key : Key) (reads : List ReadRecord) → is_tick news ≡ false → key ≡ q.key → q.lengths ≡ p.lengths ++ lengths_of reads
    → IsNumbered (length p.lengths) reads → messages_of key reads ≡ reads_reported news p q
unfolding reads_reported
new_reads_reported (Comes segment) p q key reads off same lengths numbered = new_reported p q key reads same lengths numbered
new_reads_reported (Logged kept) p q key reads off same lengths numbered = new_reported p q key reads same lengths numbered
new_reads_reported Begins p q key reads off same lengths numbered = new_reported p q key reads same lengths numbered
new_reads_reported Ticks p q key reads off same lengths numbered = absurd (false≢true (sym off))

-- .. and nothing is done
no_dones : (news : News) (p q : Point) → is_tick news ≡ false → q.reset ≡ false → dones_by_law news p q ≡ []
unfolding dones_by_law
no_dones news p q off unreset = λ j. if (unreset j && not p.reset) || (off j && (q.reset || q.end_ticks == 4)) then DoneMsg q.key ∷ [] else []

-- a turn without a tick, from where its news have come
pub carries_on : {S : Type 0} (service : Machine S) (u i : ℕ) (news : News) (p : Point) (c : ConnState S) (n : NorthState S) (reads : List ReadRecord) (before : Before) (again : Bool)
    (copied : List Body) (out messages : List (List ℕ))
    → HasNews news p c → is_tick news ≡ false → reset_after news p ≡ false → n.run.made ≤ 2 ^ 24
    → (k : PartsTurn service c.local c.boot u i c.south.delta news p (lengths_of reads) n (tcp_used c reads))
    → (older : List ReadRecord) → n.reads ≡ older ++ reads
    → (PartsShow service c.south.delta k.after n (flushed (tcp_used c reads)) → is_ack_pending before (turn_ended (served n reads c)) ≡ adds service news p k.after (tcp_used c reads))
    → (PartsShow service c.south.delta k.after n (flushed (tcp_used c reads)) → is_delayed before (served n reads c) ≡ is_delayed_by_law news p k.after)
    → again ≡ repeats news p
    → copied ≡ model.copies news p k.after
    → out ≡ packets (leaves before again (turn_ended (served n reads c)) (tcp_out before (served n reads c)))
    → messages ≡ spelled c.batches c.boot (copied ++ messages_of c.key reads)
    → Leads service c.local c.boot news p (turn_ended (served n reads c)) out messages
unfolding end_ticks_after
carries_on service u i news p c n reads before again copied out messages h off unreset few k older reported ack_pending waits repeated copy goes_out says =
    let q : Point = k.after in
    let l = k.goes in
    let t : Tcb = tcp_used c reads in
    let new : ConnState _ = turn_ended (served n reads c) in
    let shown : PartsShow service c.south.delta q n (flushed t) = parts_show service u i c.south.delta k.given q n (flushed t) k.rest.stand in
    let north = k.rest.stand.north in
    let south : new.south ≡ south_at c.south.delta q = south_ends service c.local c.boot news p q _ n reads c h l shown north.read few in
    let key : c.key ≡ q.key = h.key ∙ sym l.same.key in
    let out_is : tcp_out before (served n reads c) ≡ tcp_out_by_law news p q t = λ j. if waits shown j then full_out t else leaving t in
    let leave : leaves before again new (tcp_out before (served n reads c)) ≡ segments_of service c.local news p q =
    leaves_is service c.local c.south.delta news p q t new before again refl key south shown.sent_outside (ack_pending shown) repeated _ out_is ∙ k.segments in
    let numbered : IsNumbered (length p.lengths) reads = numbered_new q.reads_answered older reads n.reads p.lengths q.lengths north.numbered reported north.unanswered k.lengths in
    let read : messages_of c.key reads ≡ reads_reported news p q = new_reads_reported news p q c.key reads off key k.lengths numbered in
    let none : dones_by_law news p q ≡ [] = no_dones news p q off l.reset in
    let bodies : copied ++ messages_of c.key reads ≡ model.copies news p q ++ (reads_reported news p q ++ dones_by_law news p q) =
    (λ j. copy j ++ read j) ∙ ap (λ xs. model.copies news p q ++ xs) (sym (ap (λ xs. reads_reported news p q ++ xs) none ∙ append-nil (reads_reported news p q))) in
    let ticks : q.end_ticks ≡ p.end_ticks = l.end_ticks ∙ (λ j. if ((off j && is_over service q) && acknowledgement q == taken_units q) then min 4 (p.end_ticks + 1) else p.end_ticks) in
    record {
      after = q;
      sent = sent_by service c.local c.boot news p q;
      goes = subst (λ b. MatchBool b (ResetTurn c.boot news p q (sent_by service c.local c.boot news p q)) (LiveTurn service c.local c.boot news p q (sent_by service c.local c.boot news p q))) (sym unreset) l;
      stands = record {
        keeps = record {
          key = key;
          south = south;
          fetched = h.fetched ∙ sym l.same.fetched;
          end_ticks = h.end_ticks ∙ sym ticks;
          four = h.four;
          reset = h.reset ∙ sym l.reset;
          unanswered = h.unanswered;
          delays = h.delays ∙ sym l.same.delays;
          batches = h.batches ∙ sym l.same.batches;
        };
        parts = subst (λ b. MatchBool b (StandsReset service q new) (StandsLive service q new)) (sym l.reset)
            (record { u = u; i = i; given = k.given; parts = k.rest; local = flushed_local t ∙ used_local (calls_of c.north c.endpoint (lengths_of reads)) c.endpoint ∙ h.local });
      };
      spelled = spelled_by p.batches c.boot (segments_of service c.local news p q) (model.copies news p q ++ (reads_reported news p q ++ dones_by_law news p q)) _ out messages refl (goes_out ∙ ap packets leave)
          (says ∙ (λ j. spelled (h.batches j) c.boot (bodies j)));
    }
