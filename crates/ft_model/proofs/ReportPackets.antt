-- The words of a packet's line tell the packet.
use Rattle.std.proofs.Common.{◌≡◌, ℕ, ◌<◌, ◌+◌, ◌-◌, ◌*◌, ◌==◌, true, Option, None, Some, IfSome, length, List, [], ◌∷◌, codes, decimal, get_or, position, refl, sym, ◌∙◌, ap, subst, arith}
use Rattle.std.specs.Option.{option_map_or}
use Rattle.std.proofs.lemmas.Bool.{eqb-true}
use Rattle.std.proofs.lemmas.Fmt.{decimal_injective}
use Rattle.std.proofs.lemmas.List.{append_cancel_left}
use Rattle.std.proofs.lemmas.List.Quantifiers.{position-Some}
use Rattle.ft_io.specs.declared.Addr.{Addr}
use Rattle.ft_io.specs.declared.Key.{Key}
use Rattle.ft_io.specs.Key.{key_eq}
use Rattle.seq_arith.specs.declared.options.Timestamps.{Timestamps}
use Rattle.seq_arith.specs.Packet.{Segment}
use Rattle.seq_arith.specs.Message.{Numbers, Kept, EntryHead, Part, Body, Message}
use Rattle.seq_arith.specs.Message.Body.{HelloMsg, SummaryMsg, ListMsg, EntryMsg, BytesMsg, PartMsg, CutsMsg, LensMsg, OpenMsg, OpenedMsg, DataMsg, StableMsg, ReadMsg, ReadsMsg, DoneMsg, EndedMsg, StaleMsg, FullMsg}
use Rattle.ft_model.specs.Client.{Client, new_client}
use Rattle.ft_model.specs.Client.ClientKind.{Scripted}
use Rattle.ft_model.specs.Network.{Packet, source_of, destination_of}
use Rattle.ft_model.specs.Network.Packet.{To_server, To_client, To_logger, From_logger}
use Rattle.ft_model.specs.declared.way.Way.{Way}
use Rattle.ft_model.specs.declared.way.Way.TheVariants.{ClientToServer, ServerToClient}
use Rattle.ft_model.specs.Texts.{key_text, way_text}
use Rattle.ft_model.specs.Report.{timestamps_words, segment_words, name_of, numbers_words, kept_words, entry_words, part_words, field_words, message_words, content_words, packet_line, number_of_client, way_of}
use Rattle.ft_model.specs.Readable.{FitsU64, FitsWay, FitsKey, IsOf, IsReadable}
use Rattle.ft_model.proofs.ReportRanges.{FitsSegment, FitsNumbers, FitsKept, FitsEntry, FitsPart, FitsBody, segment_fits, message_fits}
use Rattle.ft_model.proofs.ReportWords.{rest_same, word_decimal}
use Rattle.ft_model.proofs.ReportParts.{hex_same, list_same, address_same, flags_same, mss_same, bit_same, ending_same, way_same}
use Rattle.ft_model.proofs.ReportContent.{words_content, word_way}
use Rattle.ft_io.proofs.Booleans.{left_true, right_true}

pub key_same : (k l : Key) → FitsKey k → FitsKey l → key_text k ≡ key_text l → k ≡ l
key_same k l p q e =
    let same : (k.ip ≡ l.ip) × (k.port ≡ l.port) = address_same k.ip l.ip k.port l.port p.0 q.0 p.1 q.1 e in
    λ i. record { ip = same.0 i; port = same.1 i }

numbers_same : (m n : Numbers) → FitsNumbers m → FitsNumbers n → numbers_words m ≡ numbers_words n → m ≡ n
numbers_same m n p q e =
    let a : m.key ≡ n.key = key_same m.key n.key p.0 q.0 (cc) in
    let b : m.cisn ≡ n.cisn = decimal_injective _ _ p.1 q.1 (cc) in
    let c : m.sisn ≡ n.sisn = decimal_injective _ _ p.2 q.2 (cc) in
    let d : m.mss ≡ n.mss = decimal_injective _ _ p.3 q.3 (cc) in
    λ i. record { key = a i; cisn = b i; sisn = c i; mss = d i }

kept_same : (m n : Kept) → FitsKept m → FitsKept n → kept_words m ≡ kept_words n → m ≡ n
kept_same m n p q e =
    let a : m.key ≡ n.key = key_same m.key n.key p.0 q.0 (cc) in
    let b : m.length ≡ n.length = decimal_injective _ _ p.1 q.1 (cc) in
    let c : m.fin ≡ n.fin = bit_same m.fin n.fin (cc) in
    let d : m.reads ≡ n.reads = decimal_injective _ _ p.2 q.2 (cc) in
    λ i. record { key = a i; length = b i; fin = c i; reads = d i }

entry_same : (m n : EntryHead) → FitsEntry m → FitsEntry n → entry_words m ≡ entry_words n → m ≡ n
entry_same m n p q e =
    let a : m.key ≡ n.key = key_same m.key n.key p.0 q.0 (cc) in
    let b : m.cisn ≡ n.cisn = decimal_injective _ _ p.1 q.1 (cc) in
    let c : m.sisn ≡ n.sisn = decimal_injective _ _ p.2 q.2 (cc) in
    let d : m.mss ≡ n.mss = decimal_injective _ _ p.3 q.3 (cc) in
    let f : m.length ≡ n.length = decimal_injective _ _ p.4 q.4 (cc) in
    let g : m.fin ≡ n.fin = bit_same m.fin n.fin (cc) in
    let h : m.done ≡ n.done = bit_same m.done n.done (cc) in
    let k : m.reads ≡ n.reads = decimal_injective _ _ p.5 q.5 (cc) in
    let l : m.acked ≡ n.acked = decimal_injective _ _ p.6 q.6 (cc) in
    λ i. record { key = a i; cisn = b i; sisn = c i; mss = d i; length = f i; fin = g i; done = h i; reads = k i; acked = l i }

part_same : (m n : Part) → FitsPart m → FitsPart n → part_words m ≡ part_words n → m ≡ n
part_same m n p q e =
    let a : m.key ≡ n.key = key_same m.key n.key p.0 q.0 (cc) in
    let b : m.offset ≡ n.offset = decimal_injective _ _ p.1 q.1 (cc) in
    let c : m.acked ≡ n.acked = decimal_injective _ _ p.2 q.2 (cc) in
    let d : (m.fin ≡ n.fin) × (m.more ≡ n.more) = ending_same m.fin m.more n.fin n.more (cc) in
    let f : m.bytes ≡ n.bytes = hex_same m.bytes n.bytes p.3 q.3 (cc) in
    λ i. record { key = a i; offset = b i; acked = c i; fin = d.0 i; more = d.1 i; bytes = f i }

-- a number that differs from name to name
abbrev digest : List ℕ → ℕ
digest [] = 0
digest (c ∷ name) = c + 2 * digest name

body_same : (b c : Body) → FitsBody b → FitsBody c → name_of b ≡ name_of c → field_words b ≡ field_words c → b ≡ c
body_same HelloMsg HelloMsg p q e f = refl
body_same (SummaryMsg m) (SummaryMsg n) p q e f = ap SummaryMsg (decimal_injective m n p q (cc))
body_same (ListMsg m) (ListMsg n) p q e f = ap ListMsg (decimal_injective m n p q (cc))
body_same (EntryMsg m g) (EntryMsg n h) p q e f =
    let a : m ≡ n = decimal_injective m n p.0 q.0 (cc) in
    let b : g ≡ h = entry_same g h p.1 q.1 (cc) in λ i. EntryMsg (a i) (b i)
body_same (BytesMsg k m) (BytesMsg l n) p q e f =
    let a : k ≡ l = key_same k l p.0 q.0 (cc) in
    let b : m ≡ n = decimal_injective m n p.1 q.1 (cc) in λ i. BytesMsg (a i) (b i)
body_same (PartMsg k m xs) (PartMsg l n ys) p q e f =
    let a : k ≡ l = key_same k l p.0 q.0 (cc) in
    let b : m ≡ n = decimal_injective m n p.1 q.1 (cc) in
    let c : xs ≡ ys = hex_same xs ys p.2 q.2 (cc) in λ i. PartMsg (a i) (b i) (c i)
body_same (CutsMsg k m) (CutsMsg l n) p q e f =
    let a : k ≡ l = key_same k l p.0 q.0 (cc) in
    let b : m ≡ n = decimal_injective m n p.1 q.1 (cc) in λ i. CutsMsg (a i) (b i)
body_same (LensMsg k m xs) (LensMsg l n ys) p q e f =
    let a : k ≡ l = key_same k l p.0 q.0 (cc) in
    let b : m ≡ n = decimal_injective m n p.1 q.1 (cc) in
    let c : xs ≡ ys = list_same xs ys p.2 q.2 (cc) in λ i. LensMsg (a i) (b i) (c i)
body_same (OpenMsg m) (OpenMsg n) p q e f = ap OpenMsg (numbers_same m n p q f)
body_same (OpenedMsg m) (OpenedMsg n) p q e f = ap OpenedMsg (numbers_same m n p q f)
body_same (DataMsg m) (DataMsg n) p q e f = ap DataMsg (part_same m n p q f)
body_same (StableMsg m) (StableMsg n) p q e f = ap StableMsg (kept_same m n p q f)
body_same (ReadMsg k m g) (ReadMsg l n h) p q e f =
    let a : k ≡ l = key_same k l p.0 q.0 (cc) in
    let b : m ≡ n = decimal_injective m n p.1 q.1 (cc) in
    let c : g ≡ h = decimal_injective g h p.2 q.2 (cc) in λ i. ReadMsg (a i) (b i) (c i)
body_same (ReadsMsg m) (ReadsMsg n) p q e f = ap ReadsMsg (kept_same m n p q f)
body_same (DoneMsg k) (DoneMsg l) p q e f = ap DoneMsg (key_same k l p q (cc))
body_same (EndedMsg k) (EndedMsg l) p q e f = ap EndedMsg (key_same k l p q (cc))
body_same (StaleMsg m) (StaleMsg n) p q e f = ap StaleMsg (decimal_injective m n p q (cc))
body_same (FullMsg k) (FullMsg l) p q e f = ap FullMsg (key_same k l p q (cc))
body_same b c p q e f = absurd (omega (arith, ap digest e))

message_same : (m n : Message) → FitsU64 m.boot → FitsU64 n.boot → FitsBody m.body → FitsBody n.body → message_words m ≡ message_words n → m ≡ n
unfolding message_words
message_same m n p q fits also e =
    let a : m.boot ≡ n.boot = decimal_injective m.boot n.boot p q (cc) in
    let b : m.body ≡ n.body = body_same m.body n.body fits also (cc) (cc) in
    λ i. record { boot = a i; body = b i }

timestamps_same : (s t : Option Timestamps) → IfSome s (λ x. FitsU64 x.value × FitsU64 x.echo) → IfSome t (λ x. FitsU64 x.value × FitsU64 x.echo)
    → timestamps_words s ≡ timestamps_words t → s ≡ t
timestamps_same None None p q e = refl
timestamps_same None (Some t) p q e = absurd (let length_differs : 0 ≡ 3 = ap length e in omega (arith, length_differs))
timestamps_same (Some s) None p q e = absurd (let length_differs : 3 ≡ 0 = ap length e in omega (arith, length_differs))
timestamps_same (Some s) (Some t) p q e =
    let value : s.value ≡ t.value = decimal_injective _ _ p.0 q.0 (cc) in
    let echo : s.echo ≡ t.echo = decimal_injective _ _ p.1 q.1 (cc) in λ i. Some (record { value = value i; echo = echo i })

segment_same : (s t : Segment) → FitsSegment s → FitsSegment t → source_of s ≡ source_of t → destination_of s ≡ destination_of t
    → segment_words s ≡ segment_words t → s ≡ t
segment_same s t p q from to e =
    let seq : s.head.seq ≡ t.head.seq = decimal_injective _ _ p.0 q.0 (cc) in
    let ack : s.head.ack ≡ t.head.ack = decimal_injective _ _ p.1 q.1 (cc) in
    let flags : s.head.flags ≡ t.head.flags = flags_same _ _ p.2 q.2 (cc) in
    let window : s.head.window ≡ t.head.window = decimal_injective _ _ p.3 q.3 (cc) in
    let mss : s.head.mss ≡ t.head.mss = mss_same _ _ p.4 q.4 (cc) in
    let payload : s.payload ≡ t.payload = hex_same _ _ p.5 q.5 (cc) in
    let timestamps : s.head.timestamps ≡ t.head.timestamps = timestamps_same _ _ p.6 q.6 (cc) in
    λ i. record {
      head = record { src = (from i).ip; dst = (to i).ip; sport = (from i).port; dport = (to i).port; seq = seq i; ack = ack i; flags = flags i; window = window i; mss = mss i; timestamps = timestamps i };
      payload = payload i;
    }

key_is : (k l : Key) → key_eq k l ≡ true → k ≡ l
key_is k l e =
    let a : k.ip ≡ l.ip = eqb-true k.ip l.ip (left_true _ _ e) in
    let b : k.port ≡ l.port = eqb-true k.port l.port (right_true (k.ip == l.ip) _ e) in
    λ i. record { ip = a i; port = b i }

-- the client at a place that `position` gives has the key
known_at : (o : Option ℕ) (clients : List Client) (key : Key) (d : Client) → position (λ c. key_eq c.key key) clients ≡ o
    → 0 < option_map_or (λ i. i + 1) o 0 → (get_or clients (option_map_or (λ i. i + 1) o 0 - 1) d).key ≡ key
known_at None clients key d e h = absurd (omega arith)
known_at (Some i) clients key d e h =
    let at = position-Some (λ (c : Client). key_eq c.key key) clients i d e in
    let place : i ≡ i + 1 - 1 = omega arith in
    subst (λ j. (get_or clients j d).key ≡ key) place (key_is _ key at.1)

-- a client's number tells its key
number_same : (clients : List Client) (k l : Key) → 0 < number_of_client clients k → number_of_client clients k ≡ number_of_client clients l → k ≡ l
number_same clients k l h e =
    let d : Client = new_client Scripted (record { ip = 0; port = 0 }) k 0 [] in
    let also : 0 < number_of_client clients l = omega (arith, e) in
    sym (known_at (position (λ c. key_eq c.key k) clients) clients k d refl h)
    ∙ ap (λ n. (get_or clients (n - 1) d).key) e
    ∙ known_at (position (λ c. key_eq c.key l) clients) clients l d refl also

of_server : (server : Addr) (k l : Key) → IsOf server k → IsOf server l → k ≡ l
of_server server k l p q =
    let a : k.ip ≡ l.ip = p.0 ∙ sym q.0 in
    let b : k.port ≡ l.port = p.1 ∙ sym q.1 in
    λ i. record { ip = a i; port = b i }

client_number : Way → ℕ
client_number (ClientToServer n) = n
client_number (ServerToClient n) = n
client_number _ = 0

pub content_same : (server : Addr) (clients : List Client) (p q : Packet) → IsReadable server clients p → IsReadable server clients q
    → way_of clients p ≡ way_of clients q → content_words p ≡ content_words q → p ≡ q
unfolding content_words client_number
content_same server clients (To_server s) (To_server t) p q w e =
    ap To_server (segment_same s t (segment_fits s p.2) (segment_fits t q.2) (number_same clients _ _ p.0.0.0 (ap client_number w)) (of_server server _ _ p.0.1 q.0.1) e)
content_same server clients (To_client s) (To_client t) p q w e =
    ap To_client (segment_same s t (segment_fits s p.2) (segment_fits t q.2) (of_server server _ _ p.0.1 q.0.1) (number_same clients _ _ p.0.0.0 (ap client_number w)) e)
content_same server clients (To_logger m) (To_logger n) p q w e = let f = message_fits p.1 m p.2 in let g = message_fits q.1 n q.2 in ap To_logger (message_same m n f.0 g.0 f.1 g.1 e)
content_same server clients (From_logger m) (From_logger n) p q w e = let f = message_fits p.1 m p.2 in let g = message_fits q.1 n q.2 in ap From_logger (message_same m n f.0 g.0 f.1 g.1 e)
content_same server clients p q hp hq w e = cc

pub way_fits : (server : Addr) (clients : List Client) (p : Packet) → IsReadable server clients p → FitsWay (way_of clients p)
way_fits server clients (To_server s) h = h.0.0.1
way_fits server clients (To_client s) h = h.0.0.1
way_fits server clients (To_logger m) h = tt
way_fits server clients (From_logger m) h = tt

pub packet_same : (server : Addr) (clients : List Client) (m n : ℕ) (p q : Packet) → FitsU64 m → FitsU64 n → IsReadable server clients p → IsReadable server clients q
    → packet_line m (way_of clients p) p ≡ packet_line n (way_of clients q) q → (m ≡ n) × (p ≡ q)
unfolding packet_line
packet_same server clients m n p q fm fn hp hq e =
    let wp = way_fits server clients p hp in
    let wq = way_fits server clients q hq in
    let same : decimal m ∷ way_text (way_of clients p) ∷ content_words p ≡ decimal n ∷ way_text (way_of clients q) ∷ content_words q =
    rest_same _ _ (word_decimal m fm, (word_way (way_of clients p) wp, words_content server clients p hp))
    (word_decimal n fn, (word_way (way_of clients q) wq, words_content server clients q hq))
    (append_cancel_left (codes "packet") _ _ e) in
    let ways : way_of clients p ≡ way_of clients q = way_same _ _ wp wq (cc) in
    (decimal_injective m n fm fn (cc), content_same server clients p q hp hq ways (cc))
