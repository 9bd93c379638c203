-- What is well formed has a wire: each number is in its field's range, and the whole has one of its kind's lengths.
use Rattle.std.proofs.Common.{◌≡◌, ℕ, ◌+◌, ◌*◌, ◌<◌, ◌≤◌, ◌^◌, ◌%◌, Bool, true, false, ◌&&◌, nat_le, ◌==◌, refl, sym, subst, true≢false, if◌then◌else◌, List, [], ◌∷◌, length, arith, eq-eqb}
use Rattle.std.specs.List.{list_all}
use Rattle.std.proofs.lemmas.Bool.{and_from, le-leb, lt-ltb}
use Rattle.seq_arith.specs.Bytes.{two}
use Rattle.seq_arith.specs.Message.{Body, Message}
use Rattle.seq_arith.specs.Message.Body.{HelloMsg, SummaryMsg, ListMsg, EntryMsg, BytesMsg, PartMsg, CutsMsg, LensMsg, OpenMsg, OpenedMsg, DataMsg, StableMsg, ReadMsg, ReadsMsg, DoneMsg, EndedMsg, StaleMsg, FullMsg}
use Rattle.seq_arith.specs.MessageGrammar as messages
use Rattle.seq_arith.specs.declared.kinds.Grammar.{Grammar}
use Rattle.seq_arith.specs.declared.kinds.Grammar.TheVariants as grammars
use Rattle.tcp_rules.specs.Profile.{grammar_of}
use Rattle.seq_arith.specs.MessageGrammar.{flag, ending, most_ending, is_sound_by, has_length, lens_bytes, kind_of, behind_of, numbers_of, lens_of, fields_of, message_length, AllFit}
use Rattle.server_trait.specs.Service.{AreBytes}
use Rattle.ft_model.specs.Network.{Packet}
use Rattle.ft_model.specs.Network.Packet.{To_server, To_client, To_logger, From_logger}
use Rattle.ft_model.specs.Wire.{CanBeWrittenBy, HasWireBy}
use Rattle.ft_model.specs.Readable.{FitsAddr}
use Rattle.ft_model.specs.World.{World}
use Rattle.ft_model.proofs.Formed.{AreLengths, AckWithin, BodyFormed, MessageFormed, PacketFormed}

-- a flag's byte
pub flag_low : (b : Bool) → flag b ≤ 1
flag_low true = omega arith
flag_low false = omega arith

-- an ending is in the range of the profile's grammar
ending_within : (batches fin more : Bool) → (more ≡ true → (fin ≡ false) × (batches ≡ true))
    → flag fin + (if more then 2 else 0) ≤ most_ending (if batches then grammars.Wide else grammars.Plain)
ending_within true false false h = omega arith
ending_within true true false h = omega arith
ending_within true false true h = omega arith
ending_within true true true h = absurd (true≢false (h refl).0)
ending_within false false false h = omega arith
ending_within false true false h = omega arith
ending_within false fin true h = absurd (true≢false (sym (h refl).1))

most_low : (grammar : Grammar) → most_ending grammar ≤ 2
most_low grammars.Plain = omega arith
most_low grammars.Wide = omega arith

pub bytes_of_lens : (lens : List ℕ) → AreBytes (lens_bytes lens)
unfolding two
bytes_of_lens [] = tt
bytes_of_lens (n ∷ lens) = (omega arith, (omega arith, bytes_of_lens lens))

pub length_of_lens : (lens : List ℕ) → length (lens_bytes lens) ≡ 2 * length lens
unfolding two
length_of_lens [] = refl
length_of_lens (n ∷ lens) = let rest = length_of_lens lens in omega (arith, rest)

pub lengths_low : (lens : List ℕ) → AreLengths lens → list_all (λ len. nat_le len 2048) lens ≡ true
lengths_low [] a = refl
lengths_low (n ∷ lens) a = and_from (nat_le n 2048) _ (le-leb n 2048 a.0) (lengths_low lens a.1)

-- the numbers of a body fit their bytes
numbers_fit : (start : World) (boot : ℕ) (body : Body) → BodyFormed start boot body → AckWithin body → AllFit (fields_of (kind_of body)) (numbers_of body)
numbers_fit start boot HelloMsg h k = tt
numbers_fit start boot (SummaryMsg count) h k = (omega (arith, h), tt)
numbers_fit start boot (ListMsg index) h k = (omega (arith, h), tt)
numbers_fit start boot (EntryMsg index e) h k =
    let fin = flag_low e.fin in let done = flag_low e.done in
    (omega (arith, h.0), (h.1.0.0.0, (h.1.0.0.1, (h.1.1, (h.1.2, (omega (arith, h.1.3), (omega (arith, h.1.4), (omega (arith, fin), (omega (arith, done), (omega (arith, h.1.5), (omega (arith, h.1.6), tt)))))))))))
numbers_fit start boot (BytesMsg key offset) h k = (h.0.0.0, (h.0.0.1, (omega (arith, h.1), tt)))
numbers_fit start boot (PartMsg key offset bytes) h k = (h.0.0.0, (h.0.0.1, (omega (arith, h.1), tt)))
numbers_fit start boot (CutsMsg key first) h k = (h.0.0.0, (h.0.0.1, (omega (arith, h.1), tt)))
numbers_fit start boot (LensMsg key first lens) h k = (h.0.0.0, (h.0.0.1, (omega (arith, h.1), tt)))
numbers_fit start boot (OpenMsg n) h k = (h.0.0.0, (h.0.0.1, (h.1, (h.2, (omega (arith, h.3), tt)))))
numbers_fit start boot (OpenedMsg n) h k = (h.0.0.0, (h.0.0.1, (h.1, (h.2, (omega (arith, h.3), tt)))))
numbers_fit start boot (DataMsg part) h k =
    let within = ending_within start.profile.batches part.fin part.more h.4 in
    let low = most_low (grammar_of start.profile) in (h.0.0.0, (h.0.0.1, (omega (arith, h.1), (omega (arith, k), (omega (arith, within, low), tt)))))
numbers_fit start boot (StableMsg n) h k = let fin = flag_low n.fin in (h.0.0.0, (h.0.0.1, (omega (arith, h.1), (omega (arith, fin), (omega (arith, h.2), tt)))))
numbers_fit start boot (ReadMsg key index n) h k = (h.0.0.0, (h.0.0.1, (omega (arith, h.1), (omega (arith, h.2), tt))))
numbers_fit start boot (ReadsMsg n) h k = let fin = flag_low n.fin in (h.0.0.0, (h.0.0.1, (omega (arith, h.1), (omega (arith, fin), (omega (arith, h.2), tt)))))
numbers_fit start boot (DoneMsg key) h k = (h.0.0, (h.0.1, tt))
numbers_fit start boot (EndedMsg key) h k = (h.0.0, (h.0.1, tt))
numbers_fit start boot (StaleMsg newer) h k = (h.1, tt)
numbers_fit start boot (FullMsg key) h k = (h.0.0, (h.0.1, tt))

pub is_low : (m n : ℕ) → m ≤ n → nat_le m n ≡ true
is_low m n h = le-leb m n h

-- .. and are in their ranges
ranges_hold : (start : World) (boot : ℕ) (body : Body) → BodyFormed start boot body → AckWithin body
    → messages.all_in_range_by (grammar_of start.profile) boot (length (behind_of body)) (fields_of (kind_of body)) (numbers_of body) ≡ true
ranges_hold start boot HelloMsg h k = refl
ranges_hold start boot (SummaryMsg count) h k = and_from _ _ (is_low count 64 h) refl
ranges_hold start boot (ListMsg index) h k = and_from _ _ (is_low index 63 h) refl
ranges_hold start boot (EntryMsg index e) h k =
    and_from _ _ (is_low index 63 h.0) (and_from _ _ (and_from _ _ (is_low 64 e.mss h.1.3.0) (is_low e.mss 1460 h.1.3.1))
    (and_from _ _ (is_low e.length (2 ^ 24) h.1.4) (and_from _ _ (is_low (flag e.fin) 1 (flag_low e.fin)) (and_from _ _ (is_low (flag e.done) 1 (flag_low e.done))
    (and_from _ _ (is_low e.reads (2 ^ 24 + 1) h.1.5) (and_from _ _ (is_low e.acked (2 ^ 24 + 1) h.1.6) refl))))))
ranges_hold start boot (BytesMsg key offset) h k = and_from _ _ (is_low (offset + 0) (2 ^ 24) (omega (arith, h.1))) refl
ranges_hold start boot (PartMsg key offset bytes) h k = and_from _ _ (is_low (offset + length bytes) (2 ^ 24) h.1) refl
ranges_hold start boot (CutsMsg key first) h k = and_from _ _ (is_low first (2 ^ 24 + 1) h.1) refl
ranges_hold start boot (LensMsg key first lens) h k = and_from _ _ (is_low first (2 ^ 24 + 1) h.1) refl
ranges_hold start boot (OpenMsg n) h k = and_from _ _ (and_from _ _ (is_low 64 n.mss h.3.0) (is_low n.mss 1460 h.3.1)) refl
ranges_hold start boot (OpenedMsg n) h k = and_from _ _ (and_from _ _ (is_low 64 n.mss h.3.0) (is_low n.mss 1460 h.3.1)) refl
ranges_hold start boot (DataMsg part) h k =
    and_from _ _ (is_low (part.offset + length part.bytes) (2 ^ 24) h.1) (and_from _ _ (is_low part.acked (2 ^ 24 + 1) k)
    (and_from _ _ (is_low (ending part) (most_ending (grammar_of start.profile)) (ending_within start.profile.batches part.fin part.more h.4)) refl))
ranges_hold start boot (StableMsg n) h k =
    and_from _ _ (is_low n.length (2 ^ 24) h.1) (and_from _ _ (is_low (flag n.fin) 1 (flag_low n.fin)) (and_from _ _ (is_low n.reads (2 ^ 24 + 1) h.2) refl))
ranges_hold start boot (ReadMsg key index n) h k = and_from _ _ (is_low index (2 ^ 24 + 1) h.1) (and_from _ _ (is_low n 2048 h.2) refl)
ranges_hold start boot (ReadsMsg n) h k =
    and_from _ _ (is_low n.length (2 ^ 24) h.1) (and_from _ _ (is_low (flag n.fin) 1 (flag_low n.fin)) (and_from _ _ (is_low n.reads (2 ^ 24 + 1) h.2) refl))
ranges_hold start boot (DoneMsg key) h k = refl
ranges_hold start boot (EndedMsg key) h k = refl
ranges_hold start boot (StaleMsg newer) h k = and_from _ _ (lt-ltb boot newer h.0) refl
ranges_hold start boot (FullMsg key) h k = refl

lens_low : (start : World) (boot : ℕ) (body : Body) → BodyFormed start boot body → list_all (λ len. nat_le len 2048) (lens_of body) ≡ true
lens_low start boot (LensMsg key first lens) h = lengths_low lens h.2
lens_low start boot _ h = refl

body_sound : (start : World) (boot : ℕ) (body : Body) → 0 < boot → BodyFormed start boot body → AckWithin body
    → is_sound_by (grammar_of start.profile) (kind_of body) boot (length (behind_of body)) (numbers_of body) (lens_of body) ≡ true
unfolding is_sound_by
body_sound start boot body up h k =
    and_from (nat_le 1 boot && messages.all_in_range_by (grammar_of start.profile) boot (length (behind_of body)) (fields_of (kind_of body)) (numbers_of body)) _
    (and_from (nat_le 1 boot) _ (le-leb 1 boot up) (ranges_hold start boot body h k)) (lens_low start boot body h)

-- and so many bytes come after the fields
pub has_size : (front fewest most n : ℕ) → fewest ≤ n → n ≤ most → (nat_le (front + fewest) (front + n) && nat_le (front + n) (front + most)) ≡ true
has_size front fewest most n low high =
    and_from (nat_le (front + fewest) (front + n)) (nat_le (front + n) (front + most)) (le-leb _ _ (omega (arith, low))) (le-leb _ _ (omega (arith, high)))

is_even : (n : ℕ) → ((26 + 2 * n) % 2 == 0) ≡ true
is_even n = eq-eqb ((26 + 2 * n) % 2) 0 (omega arith)

sizes_hold : (start : World) (boot : ℕ) (body : Body) → BodyFormed start boot body → has_length (kind_of body) (message_length body) ≡ true
unfolding has_length
sizes_hold start boot (PartMsg key offset bytes) h = and_from _ true (has_size 26 1 1024 (length bytes) h.3 h.4) refl
sizes_hold start boot (LensMsg key first lens) h =
    let size = length_of_lens lens in
    and_from _ ((26 + length (lens_bytes lens)) % 2 == 0) (has_size 26 2 1024 (length (lens_bytes lens)) (omega (arith, size, h.3)) (omega (arith, size, h.4)))
    (subst (λ n. ((26 + n) % 2 == 0) ≡ true) (sym size) (is_even (length lens)))
sizes_hold start boot (DataMsg part) h = and_from _ true (has_size 31 0 1460 (length part.bytes) (omega arith) h.3) refl
sizes_hold start boot HelloMsg h = refl
sizes_hold start boot (SummaryMsg count) h = refl
sizes_hold start boot (ListMsg index) h = refl
sizes_hold start boot (EntryMsg index e) h = refl
sizes_hold start boot (BytesMsg key offset) h = refl
sizes_hold start boot (CutsMsg key first) h = refl
sizes_hold start boot (OpenMsg n) h = refl
sizes_hold start boot (OpenedMsg n) h = refl
sizes_hold start boot (StableMsg k) h = refl
sizes_hold start boot (ReadMsg key index n) h = refl
sizes_hold start boot (ReadsMsg k) h = refl
sizes_hold start boot (DoneMsg key) h = refl
sizes_hold start boot (EndedMsg key) h = refl
sizes_hold start boot (StaleMsg newer) h = refl
sizes_hold start boot (FullMsg key) h = refl

bytes_behind : (start : World) (boot : ℕ) (body : Body) → BodyFormed start boot body → AreBytes (behind_of body)
bytes_behind start boot (PartMsg key offset bytes) h = h.2
bytes_behind start boot (LensMsg key first lens) h = bytes_of_lens lens
bytes_behind start boot (DataMsg part) h = h.2
bytes_behind start boot _ h = tt

message_wire : (start : World) (m : Message) → MessageFormed start m → AckWithin m.body → CanBeWrittenBy (grammar_of start.profile) m
message_wire start m h k = (
  record {
    boot = h.0.1;
    numbers = numbers_fit start m.boot m.body h.1 k;
    sound = body_sound start m.boot m.body h.0.0 h.1 k;
    size = sizes_hold start m.boot m.body h.1;
  },
  bytes_behind start m.boot m.body h.1,
)

-- what a Data of a server says is acknowledged
abbrev pub PacketAckWithin : Packet → Type 0
PacketAckWithin (To_logger m) = AckWithin m.body
PacketAckWithin _ = Unit {0}

pub packet_wire : (start : World) → FitsAddr start.server → (packet : Packet) → PacketFormed start packet → PacketAckWithin packet → HasWireBy (grammar_of start.profile) packet
packet_wire start a (To_server s) h k = (
  record {
    src = h.0.0.0;
    dst = omega (arith, h.1.0, a.0);
    sport = h.0.0.1;
    dport = omega (arith, h.1.1, a.1);
    seq = h.2.0;
    ack = h.2.1;
    flags = h.2.2;
    window = h.2.3;
    mss = h.2.4;
    timestamps = h.2.7;
    size = h.2.6;
  },
  h.2.5,
)
packet_wire start a (To_client s) h k = (
  record {
    src = omega (arith, h.1.0, a.0);
    dst = h.0.0.0;
    sport = omega (arith, h.1.1, a.1);
    dport = h.0.0.1;
    seq = h.2.0;
    ack = h.2.1;
    flags = h.2.2;
    window = h.2.3;
    mss = h.2.4;
    timestamps = h.2.7;
    size = h.2.6;
  },
  h.2.5,
)
packet_wire start a (To_logger m) h k = message_wire start m h k
packet_wire start a (From_logger m) h k = message_wire start m h.0 h.1
