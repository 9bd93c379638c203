-- What has a wire has numbers of at most 64 bits, addresses of their own size, and bytes: so its line can be read.
use Rattle.std.proofs.Common.{◌≡◌, ℕ, ◌<◌, ◌≤◌, ◌^◌, true, nat_le, Option, IfSome, Some, None, List, [], ◌∷◌, arith, leb-true}
use Rattle.std.specs.List.{AllByRecursion, list_all}
use Rattle.std.proofs.lemmas.Bool.{and_parts}
use Rattle.hex.specs.Hex.{IsBytes}
use Rattle.seq_arith.specs.declared.options.Timestamps.{Timestamps}
use Rattle.seq_arith.specs.Packet.{Segment}
use Rattle.seq_arith.specs.Message.{Numbers, Kept, EntryHead, Part, Body, Message}
use Rattle.seq_arith.specs.Message.Body.{HelloMsg, SummaryMsg, ListMsg, EntryMsg, BytesMsg, PartMsg, CutsMsg, LensMsg, OpenMsg, OpenedMsg, DataMsg, StableMsg, ReadMsg, ReadsMsg, DoneMsg, EndedMsg, StaleMsg, FullMsg}
use Rattle.seq_arith.specs.MessageGrammar.{fields_of, kind_of, numbers_of, behind_of, lens_of, is_sound_by, AllFit}
use Rattle.server_trait.specs.Service.{AreBytes}
use Rattle.seq_arith.specs.declared.kinds.Grammar.{Grammar}
use Rattle.ft_model.specs.Wire.{CanBeSent, CanBeWrittenBy}
use Rattle.ft_model.specs.Readable.{FitsU64, FitsOption, FitsKey}
use Rattle.ft_model.proofs.Formed.{bytes_of_all}

-- the sizes of a segment's fields
abbrev pub FitsSegment : Segment → Type 0
FitsSegment s = FitsU64 s.head.seq × FitsU64 s.head.ack × (s.head.flags < 256) × FitsU64 s.head.window × FitsOption s.head.mss × IsBytes s.payload
    × IfSome s.head.timestamps (λ t. FitsU64 t.value × FitsU64 t.echo)

abbrev pub FitsNumbers : Numbers → Type 0
FitsNumbers n = FitsKey n.key × FitsU64 n.cisn × FitsU64 n.sisn × FitsU64 n.mss

abbrev pub FitsKept : Kept → Type 0
FitsKept k = FitsKey k.key × FitsU64 k.length × FitsU64 k.reads

abbrev pub FitsEntry : EntryHead → Type 0
FitsEntry e = FitsKey e.key × FitsU64 e.cisn × FitsU64 e.sisn × FitsU64 e.mss × FitsU64 e.length × FitsU64 e.reads × FitsU64 e.acked

abbrev pub FitsPart : Part → Type 0
FitsPart p = FitsKey p.key × FitsU64 p.offset × FitsU64 p.acked × IsBytes p.bytes

-- every number of a body has at most 64 bits, every address its own size, and every byte is one
abbrev pub FitsBody : Body → Type 0
FitsBody HelloMsg = Unit {0}
FitsBody (SummaryMsg count) = FitsU64 count
FitsBody (ListMsg index) = FitsU64 index
FitsBody (EntryMsg index e) = FitsU64 index × FitsEntry e
FitsBody (BytesMsg key offset) = FitsKey key × FitsU64 offset
FitsBody (PartMsg key offset bytes) = FitsKey key × FitsU64 offset × IsBytes bytes
FitsBody (CutsMsg key first) = FitsKey key × FitsU64 first
FitsBody (LensMsg key first lens) = FitsKey key × FitsU64 first × AllByRecursion FitsU64 lens
FitsBody (OpenMsg n) = FitsNumbers n
FitsBody (OpenedMsg n) = FitsNumbers n
FitsBody (DataMsg part) = FitsPart part
FitsBody (StableMsg k) = FitsKept k
FitsBody (ReadMsg key index length) = FitsKey key × FitsU64 index × FitsU64 length
FitsBody (ReadsMsg k) = FitsKept k
FitsBody (DoneMsg key) = FitsKey key
FitsBody (EndedMsg key) = FitsKey key
FitsBody (StaleMsg newer) = FitsU64 newer
FitsBody (FullMsg key) = FitsKey key

option_fits : (o : Option ℕ) → IfSome o (λ n. n < 2 ^ 16) → FitsOption o
option_fits (Some n) h = omega (arith, h)
option_fits None h = tt

timestamps_fit : (timestamps : Option Timestamps) → IfSome timestamps (λ t. (t.value < 2 ^ 32) × (t.echo < 2 ^ 32)) → IfSome timestamps (λ t. FitsU64 t.value × FitsU64 t.echo)
timestamps_fit (Some t) h = (omega (arith, h.0), omega (arith, h.1))
timestamps_fit None h = tt

pub segment_fits : (s : Segment) → CanBeSent s → FitsSegment s
segment_fits s h = (
  omega (arith, h.0.seq),
  omega (arith, h.0.ack),
  h.0.flags,
  omega (arith, h.0.window),
  option_fits s.head.mss h.0.mss,
  bytes_of_all s.payload h.1,
  timestamps_fit s.head.timestamps h.0.timestamps,
)

lengths_fit : (lens : List ℕ) → list_all (λ len. nat_le len 2048) lens ≡ true → AllByRecursion FitsU64 lens
lengths_fit [] e = tt
lengths_fit (n ∷ lens) e =
    let parts = and_parts (nat_le n 2048) (list_all (λ len. nat_le len 2048) lens) e in
    let low : n ≤ 2048 = leb-true _ _ parts.0 in (omega (arith, low), lengths_fit lens parts.1)

body_fits : (body : Body) → AllFit (fields_of (kind_of body)) (numbers_of body) → AreBytes (behind_of body) → list_all (λ len. nat_le len 2048) (lens_of body) ≡ true → FitsBody body
body_fits HelloMsg h b l = tt
body_fits (SummaryMsg count) h b l = omega (arith, h.0)
body_fits (ListMsg index) h b l = omega (arith, h.0)
body_fits (EntryMsg index e) h b l =
    let k = h.1 in
    let n = k.1.1 in
    let m = n.1.1.1 in
    let o = m.1.1.1 in
    (omega (arith, h.0), ((k.0, k.1.0), omega (arith, n.0), omega (arith, n.1.0), omega (arith, n.1.1.0), omega (arith, m.0), omega (arith, o.0), omega (arith, o.1.0)))
body_fits (BytesMsg key offset) h b l = ((h.0, h.1.0), omega (arith, h.1.1.0))
body_fits (PartMsg key offset bytes) h b l = ((h.0, h.1.0), omega (arith, h.1.1.0), bytes_of_all bytes b)
body_fits (CutsMsg key first) h b l = ((h.0, h.1.0), omega (arith, h.1.1.0))
body_fits (LensMsg key first lens) h b l = ((h.0, h.1.0), omega (arith, h.1.1.0), lengths_fit lens l)
body_fits (OpenMsg n) h b l = let m = h.1.1 in ((h.0, h.1.0), omega (arith, m.0), omega (arith, m.1.0), omega (arith, m.1.1.0))
body_fits (OpenedMsg n) h b l = let m = h.1.1 in ((h.0, h.1.0), omega (arith, m.0), omega (arith, m.1.0), omega (arith, m.1.1.0))
body_fits (DataMsg part) h b l = let m = h.1.1 in ((h.0, h.1.0), omega (arith, m.0), omega (arith, m.1.0), bytes_of_all part.bytes b)
body_fits (StableMsg k) h b l = let m = h.1.1 in ((h.0, h.1.0), omega (arith, m.0), omega (arith, m.1.1.0))
body_fits (ReadMsg key index n) h b l = let m = h.1.1 in ((h.0, h.1.0), omega (arith, m.0), omega (arith, m.1.0))
body_fits (ReadsMsg k) h b l = let m = h.1.1 in ((h.0, h.1.0), omega (arith, m.0), omega (arith, m.1.1.0))
body_fits (DoneMsg key) h b l = (h.0, h.1.0)
body_fits (EndedMsg key) h b l = (h.0, h.1.0)
body_fits (StaleMsg newer) h b l = omega (arith, h.0)
body_fits (FullMsg key) h b l = (h.0, h.1.0)

lens_sound : (grammar : Grammar) (m : Message) → CanBeWrittenBy grammar m → list_all (λ len. nat_le len 2048) (lens_of m.body) ≡ true
unfolding is_sound_by
lens_sound grammar m h = (and_parts _ (list_all (λ len. nat_le len 2048) (lens_of m.body)) h.0.sound).1

pub message_fits : (grammar : Grammar) (m : Message) → CanBeWrittenBy grammar m → FitsU64 m.boot × FitsBody m.body
message_fits grammar m h = (omega (arith, h.0.boot), body_fits m.body h.0.numbers h.1 (lens_sound grammar m h))
