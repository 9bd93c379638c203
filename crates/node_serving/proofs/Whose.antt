-- Whose the packets of a turn are: a connection tells the logger of its own key alone.
use Rattle.std.proofs.Common.{◌≡◌, ◌∙◌, ℕ, zero, suc, ◌+◌, ◌<◌, ◌^◌, Bool, true, false, ◌==◌, ◌||◌, nat_lt, refl, sym, ap, ap₂, subst, true≢false, List, [], ◌∷◌, ◌++◌, map, length, take, drop, slice_index, append_assoc, arith, Some, Result, Ok, Err, IfOk, not, if◌then◌else◌}
use Rattle.std.specs.Prelude.{IsOk}
use Rattle.std.specs.List.{AllByRecursion}
use Rattle.ft_io.specs.declared.Addr.{Addr}
use Rattle.ft_io.specs.declared.Key.{Key}
use Rattle.ft_io.specs.Key.{key_eq}
use Rattle.seq_arith.specs.Bytes.{two, word_at}
use Rattle.seq_arith.specs.Checksum.{checksum}
use Rattle.seq_arith.specs.declared.kinds.BadMsg.{BadMsg}
use Rattle.seq_arith.specs.declared.kinds.BadMsg.TheVariants as bad
use Rattle.seq_arith.specs.declared.kinds.Kind.{Kind}
use Rattle.seq_arith.specs.declared.kinds.Kind.TheVariants as kinds
use Rattle.seq_arith.specs.declared.BadPacket.{BadPacket}
use Rattle.seq_arith.specs.Packet.{Segment}
use Rattle.seq_arith.specs.PacketGrammar as packets
use Rattle.seq_arith.specs.Message.{Body, Message, Numbers}
use Rattle.seq_arith.specs.Message.{Body as body}
use Rattle.seq_arith.specs.declared.kinds.Grammar.{Grammar}
use Rattle.seq_arith.specs.MessageGrammar.{reading_of, reading_if, spelled, version, header, message_in, kind_numbered, kind_of, numbers_of, behind_of, fields_of, numbers_bytes, number_bytes, number_in, has_length, is_sound_in, reading_by, spelling_by}
use Rattle.seq_arith.proofs.MessageSpelling.{kind_back, number_back}
use Rattle.server_trait.specs.Service.{Served, Machine}
use Rattle.tcp_rules.specs.Profile.{Profile}
use Rattle.tcp_rules.specs.Profiles.{profile_of}
use Rattle.tcp_rules.specs.declared.timestamping.Timestamping.{Timestamping}
use Rattle.ft_model.specs.Copy.{datas, batch, with_more}
use Rattle.ft_model.specs.Wire.{Wire}
use Rattle.ft_model.proofs.Lists.{same_key, key_is, all_append}
use Rattle.logger_wire.specs.declared.Body.{Body as Said}
use Rattle.logger_wire.specs.declared.Body.TheVariants as said
use Rattle.north_wrap.specs.declared.read_record.ReadRecord.{ReadRecord}
use Rattle.north_wrap.specs.Refinement.{messages_of}
use Rattle.south_wrap.specs.Translation.{copied, is_some_copied}
use Rattle.wrapped_conn.specs.Arrival.{arrived, before_segment}
use Rattle.wrapped_conn.specs.NewConnection.{first_conn_in}
use Rattle.wrapped_conn.specs.ConnState.{ConnState}
use Rattle.wrapped_conn.specs.Numbers.{una_units, resets}
use Rattle.wrapped_conn.specs.LoggerMessages as reported
use Rattle.wrapped_conn.specs.Turn.{Starts, Receives, IsReported, Ticks as TicksOn, new_reads, with_logged, counted, ticked}
use Rattle.wrapped_conn.proofs.Sendable.{FitsKey}
use Rattle.node_serving.specs.declared.identity.Identity.{Identity}
use Rattle.node_serving.specs.Conn.{IsSound, Belongs}
use Rattle.node_serving.specs.SentBytes.{wires_of, segment_to, message_to_logger}
use Rattle.node_serving.specs.Ownership.{reports_of, IsFor, IsOnlyFor}
use Rattle.node_serving.proofs.Acting.{IsSame, either, arrived_same, starts_same}

-- what is read of bytes, if anything is, is what their kind has there
unless : (P : Message → Type 0) (b : Bool) (e : BadMsg) (r : Result Message BadMsg) → IfOk r P → IfOk (if b then Err e else r) P
unless P true e r h = tt
unless P false e r h = h

reads_so : (grammar : Grammar) (bytes : List ℕ) (kind : Kind) (P : Message → Type 0) → kind_numbered (slice_index bytes 3) ≡ Some kind → P (message_in kind bytes) → IfOk (reading_by grammar bytes) P
unfolding reading_by reading_of
reads_so grammar bytes kind P is h =
    let sound : Result Message BadMsg = if not (is_sound_in grammar kind bytes) then Err bad.Field else Ok (message_in kind bytes) in
    let summed : Result Message BadMsg = if not (checksum bytes == 0) then Err bad.Sum else sound in
    let long : Bool = not (word_at bytes 4 == length bytes) || not (has_length kind (length bytes)) in
    let inner : IfOk (reading_if grammar (Some kind) bytes) P =
    unless P long bad.Length summed (unless P (not (checksum bytes == 0)) bad.Sum sound (unless P (not (is_sound_in grammar kind bytes)) bad.Field (Ok (message_in kind bytes)) h)) in
    let kinded : Result Message BadMsg = reading_if grammar (kind_numbered (slice_index bytes 3)) bytes in
    let versioned : Result Message BadMsg = if not (slice_index bytes 2 == version grammar) then Err bad.Version else kinded in
    let magical : Result Message BadMsg = if not (word_at bytes 0 == 18004) then Err bad.Magic else versioned in
    unless P (nat_lt (length bytes) 16) bad.Short magical (unless P (not (word_at bytes 0 == 18004)) bad.Magic versioned
    (unless P (not (slice_index bytes 2 == version grammar)) bad.Version kinded (subst (λ o. IfOk (reading_if grammar o bytes) P) (sym is) inner)))

-- the kind of a spelling stands in its place, ..
kind_there : (grammar : Grammar) (message : Message) (check : ℕ) → kind_numbered (slice_index (spelled grammar message check) 3) ≡ Some (kind_of message.body)
unfolding spelled header two
kind_there grammar message check = kind_back (kind_of message.body)

-- .. and so does the key, after the header
ip_there : (grammar : Grammar) (message : Message) (check ip : ℕ) (more : List ℕ) → numbers_bytes (fields_of (kind_of message.body)) (numbers_of message.body) ≡ number_bytes 4 ip ++ more → ip < 2 ^ 32
    → number_in 4 (drop 16 (spelled grammar message check)) ≡ ip
unfolding spelled header two number_bytes
ip_there grammar message check ip more is low =
    ap (λ xs. number_in 4 (xs ++ behind_of message.body)) is ∙ (ap (number_in 4) (append_assoc (number_bytes 4 ip) more (behind_of message.body))
    ∙ number_back 4 ip (more ++ behind_of message.body) (omega (arith, low)))

port_there : (grammar : Grammar) (message : Message) (check ip port : ℕ) (more : List ℕ)
    → numbers_bytes (fields_of (kind_of message.body)) (numbers_of message.body) ≡ number_bytes 4 ip ++ (number_bytes 2 port ++ more) → port < 2 ^ 16
    → number_in 2 (drop 4 (drop 16 (spelled grammar message check))) ≡ port
unfolding spelled header two number_bytes
port_there grammar message check ip port more is low =
    ap (λ xs. number_in 2 (drop 4 (xs ++ behind_of message.body))) is ∙ (ap (number_in 2) (append_assoc (number_bytes 2 port) more (behind_of message.body))
    ∙ number_back 2 port (more ++ behind_of message.body) (omega (arith, low)))

key_there : (grammar : Grammar) (message : Message) (check : ℕ) (key : Key) (more : List ℕ)
    → numbers_bytes (fields_of (kind_of message.body)) (numbers_of message.body) ≡ number_bytes 4 key.ip ++ (number_bytes 2 key.port ++ more) → FitsKey key
    → (let there : Key = record { ip = number_in 4 (drop 16 (spelled grammar message check)); port = number_in 2 (drop 4 (drop 16 (spelled grammar message check))) } in key_eq there key) ≡ true
key_there grammar message check key more is fits =
    ap₂ (λ (x y : ℕ). let there : Key = record { ip = x; port = y } in key_eq there key) (ip_there grammar message check key.ip (number_bytes 2 key.port ++ more) is fits.ip)
    (port_there grammar message check key.ip key.port more is fits.port) ∙ key_is key

-- a message that tells of a key is read as one of it
reported_there : (grammar : Grammar) (message : Message) (own key : Key) (kind : Kind) (more : List ℕ) → kind_of message.body ≡ kind
    → numbers_bytes (fields_of (kind_of message.body)) (numbers_of message.body) ≡ number_bytes 4 own.ip ++ (number_bytes 2 own.port ++ more) → FitsKey key → key_eq own key ≡ true
    → ((bytes : List ℕ) → (let there : Key = record { ip = number_in 4 (drop 16 bytes); port = number_in 2 (drop 4 (drop 16 bytes)) } in key_eq there key) ≡ true
    → reports_of (message_in kind bytes).body key ≡ true)
    → IfOk (reading_by grammar (spelling_by grammar message)) (λ read. reports_of read.body key ≡ true)
unfolding spelling_by
reported_there grammar message own key kind more which is fits its says =
    let check : ℕ = checksum (spelled grammar message 0) in
    let same : own ≡ key = same_key own key its in
    reads_so grammar (spelled grammar message check) kind (λ read. reports_of read.body key ≡ true) (kind_there grammar message check ∙ ap Some which)
    (says (spelled grammar message check)
    (key_there grammar message check key more (is ∙ ap (λ (k : Key). number_bytes 4 k.ip ++ (number_bytes 2 k.port ++ more)) same) fits))

pub reads_of : (grammar : Grammar) (boot : ℕ) (said : Body) (key : Key) → FitsKey key → reports_of said key ≡ true
    → (let message : Message = record { boot = boot; body = said } in IfOk (reading_by grammar (spelling_by grammar message)) (λ read. reports_of read.body key ≡ true))
unfolding message_in
reads_of grammar boot (body.OpenMsg numbers) key fits its = reported_there grammar (record { boot = boot; body = body.OpenMsg numbers }) numbers.key key kinds.Open _ refl refl fits its (λ bytes there. there)
reads_of grammar boot (body.DataMsg part) key fits its = reported_there grammar (record { boot = boot; body = body.DataMsg part }) part.key key kinds.Data _ refl refl fits its (λ bytes there. there)
reads_of grammar boot (body.ReadMsg own index length) key fits its =
    reported_there grammar (record { boot = boot; body = body.ReadMsg own index length }) own key kinds.Read _ refl refl fits its (λ bytes there. there)
reads_of grammar boot (body.DoneMsg own) key fits its = reported_there grammar (record { boot = boot; body = body.DoneMsg own }) own key kinds.Done _ refl refl fits its (λ bytes there. there)
reads_of grammar boot body.HelloMsg key fits its = absurd (true≢false (sym its))
reads_of grammar boot (body.SummaryMsg n) key fits its = absurd (true≢false (sym its))
reads_of grammar boot (body.ListMsg n) key fits its = absurd (true≢false (sym its))
reads_of grammar boot (body.EntryMsg n h) key fits its = absurd (true≢false (sym its))
reads_of grammar boot (body.BytesMsg k n) key fits its = absurd (true≢false (sym its))
reads_of grammar boot (body.PartMsg k n b) key fits its = absurd (true≢false (sym its))
reads_of grammar boot (body.CutsMsg k n) key fits its = absurd (true≢false (sym its))
reads_of grammar boot (body.LensMsg k n l) key fits its = absurd (true≢false (sym its))
reads_of grammar boot (body.OpenedMsg n) key fits its = absurd (true≢false (sym its))
reads_of grammar boot (body.StableMsg k) key fits its = absurd (true≢false (sym its))
reads_of grammar boot (body.ReadsMsg k) key fits its = absurd (true≢false (sym its))
reads_of grammar boot (body.EndedMsg k) key fits its = absurd (true≢false (sym its))
reads_of grammar boot (body.StaleMsg n) key fits its = absurd (true≢false (sym its))
reads_of grammar boot (body.FullMsg k) key fits its = absurd (true≢false (sym its))

-- the segments and the messages that a connection gives out in a turn are its key's
pub wires_for : (wide : Bool) (boot : ℕ) (key : Key) (segments : List (List ℕ)) (bodies : List Body) → FitsKey key → AllByRecursion (λ said. reports_of said key ≡ true) bodies
    → AllByRecursion (IsFor (reported.grammar_by wide) key) (wires_of key segments (reported.spelled wide boot bodies))
wires_for wide boot key segments bodies fits all = all_append (IsFor (reported.grammar_by wide) key) (map (segment_to key) segments) (map message_to_logger (reported.spelled wide boot bodies)) (sent segments) (shown bodies all)
  where
    sent : (xs : List (List ℕ)) → AllByRecursion (IsFor (reported.grammar_by wide) key) (map (segment_to key) xs)
    sent [] = tt
    sent (x ∷ xs) = (key_is key, sent xs)

    shown : (more : List Body) → AllByRecursion (λ said. reports_of said key ≡ true) more → AllByRecursion (IsFor (reported.grammar_by wide) key) (map message_to_logger (reported.spelled wide boot more))
    shown [] a = tt
    shown (said ∷ more) a = (reads_of (reported.grammar_by wide) boot said key fits a.0, shown more a.1)

-- what each turn tells is of the connection's own key
datas_own : (key : Key) (k acked offset : ℕ) (bytes : List ℕ) (fin : Bool) → AllByRecursion (λ said. reports_of said key ≡ true) (datas k key acked offset bytes fin)
unfolding datas
datas_own key zero acked offset bytes fin = tt
datas_own key (suc k) acked offset bytes fin = go (nat_lt 1460 (length bytes)) (nat_lt 0 (length bytes) || fin) (datas_own key k acked (offset + 1460) (drop 1460 bytes) fin)
  where
    go : (long some : Bool) → AllByRecursion (λ said. reports_of said key ≡ true) (datas k key acked (offset + 1460) (drop 1460 bytes) fin)
        → AllByRecursion (λ said. reports_of said key ≡ true)
        (if long
        then body.DataMsg (record { key = key; offset = offset; acked = acked; fin = false; more = false; bytes = take 1460 bytes }) ∷ datas k key acked (offset + 1460) (drop 1460 bytes) fin
        else (if some then body.DataMsg (record { key = key; offset = offset; acked = acked; fin = fin; more = false; bytes = bytes }) ∷ [] else []))
    go true some rest = (key_is key, rest)
    go false true rest = (key_is key, tt)
    go false false rest = tt

-- a Data that another follows tells of the same key
more_reported : (said : Body) (key : Key) → reports_of (with_more said) key ≡ reports_of said key
more_reported (body.DataMsg part) key = refl
more_reported _ key = refl

batch_own : (key : Key) (bodies : List Body) → AllByRecursion (λ said. reports_of said key ≡ true) bodies → AllByRecursion (λ said. reports_of said key ≡ true) (batch bodies)
unfolding batch
batch_own key [] a = tt
batch_own key (last ∷ []) a = a
batch_own key (first ∷ next ∷ others) a = (more_reported first key ∙ a.0, batch_own key (next ∷ others) a.1)

copied_own : {S : Type 0} (segment : Segment) (old c : ConnState S) → AllByRecursion (λ said. reports_of said c.key ≡ true) (reported.copies (before_segment old segment) segment c)
unfolding reported.copies
copied_own segment old c = batched c.batches (reported.or_una (una_units old) c (reported.own_data segment c ++ reported.further_data (before_segment old segment) segment c))
    (una (reported.own_data segment c ++ reported.further_data (before_segment old segment) segment c)
    (all_append (λ said. reports_of said c.key ≡ true) (reported.own_data segment c) (reported.further_data (before_segment old segment) segment c)
    (own (is_some_copied (copied c.south segment))) (datas_own c.key _ _ _ _ _)))
  where
    batched : (b : Bool) (bodies : List Body) → AllByRecursion (λ said. reports_of said c.key ≡ true) bodies → AllByRecursion (λ said. reports_of said c.key ≡ true) (reported.in_batch b bodies)
    batched false bodies a = a
    batched true bodies a = batch_own c.key bodies a

    own : (b : Bool) → AllByRecursion (λ said. reports_of said c.key ≡ true) (if b then body.DataMsg (reported.part_of c (copied c.south segment)) ∷ [] else [])
    own true = (key_is c.key, tt)
    own false = tt

    una : (bodies : List Body) → AllByRecursion (λ said. reports_of said c.key ≡ true) bodies → AllByRecursion (λ said. reports_of said c.key ≡ true) (reported.or_una (una_units old) c bodies)
    una [] a = lone (nat_lt (una_units old) (una_units c))
      where
        lone : (b : Bool) → AllByRecursion (λ said. reports_of said c.key ≡ true) (if b then body.DataMsg (reported.acked_part c) ∷ [] else [])
        lone true = (key_is c.key, tt)
        lone false = tt
    una (said ∷ more) a = a

reads_own : (key : Key) (reads : List ReadRecord) → AllByRecursion (λ said. reports_of said key ≡ true) (messages_of key reads)
reads_own key [] = tt
reads_own key (read ∷ reads) = (key_is key, reads_own key reads)

done_own : {S : Type 0} (c : ConnState S) → AllByRecursion (λ said. reports_of said c.key ≡ true) (reported.dones c)
done_own c = go (reported.is_done c.stage)
  where
    go : (b : Bool) → AllByRecursion (λ said. reports_of said c.key ≡ true) (if b then [] else body.DoneMsg c.key ∷ [])
    go true = tt
    go false = (key_is c.key, tt)

-- all that leaves in a turn of a connection is of its key
pub record ReportsOwn {S : Type 0} (c : ConnState S) (messages : List (List ℕ)) : Type 0 where
  pub bodies : List Body
  pub are : messages ≡ reported.spelled c.batches c.boot bodies
  pub own : AllByRecursion (λ said. reports_of said c.key ≡ true) bodies

goes_own : {S : Type 0} (bodies : List Body) (reads : List ReadRecord) (c : ConnState S) (messages : List (List ℕ)) → AllByRecursion (λ said. reports_of said c.key ≡ true) bodies
    → messages ≡ reported.spelled c.batches c.boot (bodies ++ messages_of c.key reads) → ReportsOwn c messages
goes_own bodies reads c messages own reported_is = record {
  bodies = bodies ++ messages_of c.key reads;
  are = reported_is;
  own = all_append (λ said. reports_of said c.key ≡ true) bodies (messages_of c.key reads) own (reads_own c.key reads);
}

pub starts_own : {S : Type 0} (after : S → List ℕ → Served S) (c now : ConnState S) (segments messages : List (List ℕ)) → Starts after c now segments messages → ReportsOwn c messages
starts_own after c now segments messages r = goes_own [] (new_reads c now) c messages tt r.reported

pub receives_own : {S : Type 0} (service : Machine S) (segment : Segment) (c now : ConnState S) (segments messages : List (List ℕ)) → Receives service.after segment c now segments messages
    → ReportsOwn c messages
receives_own service segment c now segments messages r =
    either c.reset r (λ k. record { bodies = []; are = k.reported; own = tt })
    (λ m. either (resets c segment) m (λ k. record { bodies = reported.dones c; are = k.reported; own = done_own c })
    (λ k.
    let same = arrived_same segment c in
    let g = goes_own (reported.copies (before_segment c segment) segment (arrived segment c)) (new_reads (arrived segment c) now) (arrived segment c) messages (copied_own segment c (arrived segment c)) k.reported in record {
      bodies = g.bodies;
      are = g.are ∙ ap₂ (λ w b. reported.spelled w b g.bodies) same.batches same.boot;
      own = subst (λ o. AllByRecursion (λ said. reports_of said o ≡ true) g.bodies) same.key g.own;
    }))

pub reported_own : {S : Type 0} (after : S → List ℕ → Served S) (said : Said) (c now : ConnState S) (segments messages : List (List ℕ)) → IsReported after said c now segments messages → ReportsOwn c messages
reported_own after (said.Stable kept) c now segments messages r =
    either c.reset r (λ k. record { bodies = []; are = k.reported; own = tt }) (λ k. goes_own [] (new_reads (with_logged kept.length kept.fin kept.reads c) now) c messages tt k.reported)
reported_own after (said.Reads kept) c now segments messages r =
    either c.reset r (λ k. record { bodies = []; are = k.reported; own = tt }) (λ k. goes_own [] (new_reads (with_logged kept.length kept.fin kept.reads c) now) c messages tt k.reported)
reported_own after (said.Ended key) c now segments messages r = record { bodies = []; are = r.reported; own = tt }
reported_own after _ c now segments messages r = record { bodies = []; are = r.reported; own = tt }

pub ticks_own : {S : Type 0} (c now : ConnState S) (segments messages : List (List ℕ)) → TicksOn c now segments messages → ReportsOwn c messages
ticks_own c now segments messages r =
    either c.reset r (λ k. record { bodies = reported.dones c; are = k.reported; own = done_own c })
    (λ k. record {
      bodies = messages_of c.key c.north.reads ++ (if (counted (ticked c)).end_ticks == 4 then reported.dones c else []);
      are = k.reported;
      own = all_append (λ said. reports_of said c.key ≡ true) (messages_of c.key c.north.reads) (if (counted (ticked c)).end_ticks == 4 then reported.dones c else [])
          (reads_own c.key c.north.reads) (last ((counted (ticked c)).end_ticks == 4));
    })
  where
    last : (b : Bool) → AllByRecursion (λ said. reports_of said c.key ≡ true) (if b then reported.dones c else [])
    last true = done_own c
    last false = tt

-- a connection stays that of its client in its incarnation
pub belongs_on : {S : Type 0} (who : Identity) (key : Key) (c now : ConnState S) → Belongs who key c → IsSame c now → IsSound now → Belongs who key now
belongs_on who key c now b same s = record { sound = s; client = same.key ∙ b.client; incarnation = same.boot ∙ b.incarnation; batches = same.batches ∙ b.batches }

-- a connection of the key, and what leaves after what was sent
pub leaves_for : {S : Type 0} (grammar : Grammar) (key : Key) (c : ConnState S) (segments messages : List (List ℕ)) (old new : List Wire) → FitsKey key → c.key ≡ key → reported.grammar_by c.batches ≡ grammar
    → ReportsOwn c messages → new ≡ old ++ wires_of key segments messages → IsOnlyFor grammar key old new
leaves_for grammar key c segments messages old new fits own its t put = record {
  reported = wires_of key segments messages;
  put = put;
  alone = subst (λ ms. AllByRecursion (IsFor grammar key) (wires_of key segments ms)) (sym t.are)
      (subst (λ g. AllByRecursion (IsFor g key) (wires_of key segments (reported.spelled c.batches c.boot t.bodies))) its
      (wires_for c.batches c.boot key segments t.bodies fits (subst (λ k. AllByRecursion (λ said. reports_of said k ≡ true) t.bodies) own t.own)));
}

-- what holds of the packet that a codec accepts
pub came_ok : (bytes : List ℕ) (P : Segment → Type 0) → IsOk (packets.reading bytes) → IfOk (packets.reading bytes) P → (segment : Segment) × P segment
came_ok bytes P ok h = go (packets.reading bytes) ok h
  where
    go : (r : Result Segment BadPacket) → IsOk r → IfOk r P → (segment : Segment) × P segment
    go (Ok segment) k x = (segment, x)
    go (Err e) k x = absurd (true≢false (sym k))

-- a new connection
pub first_own : {S : Type 0} (after : S → List ℕ → Served S) (profile : Profile) (timestamping : Timestamping) (boot : ℕ) (server : Addr) (numbers : Numbers) (fresh : S) (greeting : List ℕ) (now : ConnState S) (segments messages : List (List ℕ)) (old new : List Wire)
    → FitsKey numbers.key → Starts after (first_conn_in profile timestamping boot numbers.key server numbers.cisn numbers.sisn numbers.mss fresh greeting) now segments messages
    → new ≡ old ++ wires_of numbers.key segments messages → IsOnlyFor (reported.grammar_by profile.batches) numbers.key old new
unfolding first_conn_in
first_own after profile timestamping boot server numbers fresh greeting now segments messages old new fits r put =
    let c = first_conn_in profile timestamping boot numbers.key server numbers.cisn numbers.sisn numbers.mss fresh greeting in
    leaves_for (reported.grammar_by profile.batches) numbers.key c segments messages old new fits refl refl (starts_own after c now segments messages r) put

pub first_belongs : {S : Type 0} (service : Machine S) (timestamping : Timestamping) (who : Identity) (server : Addr) (numbers : Numbers) (now : ConnState S) (segments messages : List (List ℕ))
    → Starts service.after (first_conn_in (profile_of who.profile) timestamping who.boot numbers.key server numbers.cisn numbers.sisn numbers.mss service.fresh service.greeting) now segments messages → IsSound now → Belongs who numbers.key now
unfolding first_conn_in
first_belongs service timestamping who server numbers now segments messages r s =
    let same = starts_same service (first_conn_in (profile_of who.profile) timestamping who.boot numbers.key server numbers.cisn numbers.sisn numbers.mss service.fresh service.greeting) now segments messages r in
    record { sound = s; client = same.key; incarnation = same.boot; batches = same.batches }
