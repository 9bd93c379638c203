-- Well formed: what is under way between a client and the server has their addresses, every number fits, and every byte is one.
use Rattle.std.proofs.Common.{◌≡◌, ℕ, zero, suc, ◌+◌, ◌<◌, ◌≤◌, ◌^◌, true, false, sym, subst, Some, IfSome, List, [], ◌∷◌, ◌++◌, length, take, drop, sum, arith}
use Rattle.std.specs.List.{AllByRecursion}
use Rattle.hex.specs.Hex.{IsBytes}
use Rattle.ft_io.specs.declared.Key.{Key}
use Rattle.seq_arith.specs.Packet.{Segment}
use Rattle.seq_arith.specs.PacketGrammar.{packet_length}
use Rattle.tcp_rules.specs.declared.timestamping.Timestamping.{Timestamping}
use Rattle.tcp_rules.specs.declared.timestamping.Timestamping.TheVariants.{Off, Awaited, Echoes}
use Rattle.seq_arith.specs.Message.{Numbers, Kept, EntryHead, Part, Body, Message}
use Rattle.seq_arith.specs.Message.Body.{HelloMsg, SummaryMsg, ListMsg, EntryMsg, BytesMsg, PartMsg, CutsMsg, LensMsg, OpenMsg, OpenedMsg, DataMsg, StableMsg, ReadMsg, ReadsMsg, DoneMsg, EndedMsg, StaleMsg, FullMsg}
use Rattle.server_trait.specs.Service.{Machine, AreBytes, WritesBytes, cut, reference}
use Rattle.ft_model.specs.Client.{Client}
use Rattle.ft_model.specs.Log.{Entry}
use Rattle.ft_model.specs.Network.{Packet, source_of, destination_of}
use Rattle.ft_model.specs.Network.Packet.{To_server, To_client, To_logger, From_logger}
use Rattle.ft_model.specs.Point.{Point}
use Rattle.ft_model.specs.Node.{Node, Place, Stage}
use Rattle.ft_model.specs.Node.Place.{Opens, Lives, Ended}
use Rattle.ft_model.specs.Node.Stage.{Serving}
use Rattle.ft_model.specs.World.{World}
use Rattle.ft_model.specs.Growth.{IsPrefix}
use Rattle.ft_model.specs.Report.{number_of_client}
use Rattle.ft_model.specs.Readable.{FitsAddr, FitsKey, IsOf}
use Rattle.ft_model.proofs.FaithfulOver.{script_of, isn_of}

pub bytes_of_all : (xs : List ℕ) → AreBytes xs → IsBytes xs
bytes_of_all [] a i = omega arith
bytes_of_all (x ∷ xs) a zero = a.0
bytes_of_all (x ∷ xs) a (suc i) = bytes_of_all xs a.1 i

pub all_of_bytes : (xs : List ℕ) → IsBytes xs → AreBytes xs
all_of_bytes [] p = tt
all_of_bytes (x ∷ xs) p = (p 0, all_of_bytes xs (λ i. p (suc i)))

pub bytes_take : (n : ℕ) (xs : List ℕ) → AreBytes xs → AreBytes (take n xs)
bytes_take zero xs a = tt
bytes_take (suc n) [] a = tt
bytes_take (suc n) (x ∷ xs) a = (a.0, bytes_take n xs a.1)

pub bytes_drop : (n : ℕ) (xs : List ℕ) → AreBytes xs → AreBytes (drop n xs)
bytes_drop zero xs a = a
bytes_drop (suc n) [] a = tt
bytes_drop (suc n) (x ∷ xs) a = bytes_drop n xs a.1

pub bytes_left : (xs ys : List ℕ) → AreBytes (xs ++ ys) → AreBytes xs
bytes_left [] ys a = tt
bytes_left (x ∷ xs) ys a = (a.0, bytes_left xs ys a.1)

pub bytes_front : (xs ys : List ℕ) → IsPrefix xs ys → AreBytes ys → AreBytes xs
bytes_front xs ys p a = bytes_left xs p.0 (subst AreBytes (sym p.1) a)

pub bytes_cut : (bytes lengths : List ℕ) → AreBytes bytes → AllByRecursion AreBytes (cut bytes lengths)
bytes_cut bytes [] a = tt
bytes_cut bytes (n ∷ lengths) a = (bytes_take n bytes a, bytes_cut (drop n bytes) lengths (bytes_drop n bytes a))

-- the output of a service that writes bytes
pub bytes_output : {State : Type 0} (service : Machine State) → WritesBytes service → (bytes lengths : List ℕ) → AreBytes bytes
    → AreBytes (reference service bytes lengths).output
unfolding reference
bytes_output service writes bytes lengths a = writes (cut bytes lengths) (bytes_cut bytes lengths a)

-- the key is that of a client of the start
abbrev pub HasClient : World → Key → Type 0
HasClient start key = FitsKey key × (0 < number_of_client start.clients key)

abbrev pub IsSize : ℕ → Type 0
IsSize mss = (64 ≤ mss) × (mss ≤ 1460)

abbrev pub AreLengths : List ℕ → Type 0
AreLengths lengths = AllByRecursion (λ n. n ≤ 2048) lengths

abbrev pub NumbersFormed : World → Numbers → Type 0
NumbersFormed start n = HasClient start n.key × (n.cisn < 2 ^ 32) × (n.sisn < 2 ^ 32) × IsSize n.mss

abbrev pub KeptFormed : World → Kept → Type 0
KeptFormed start k = HasClient start k.key × (k.length ≤ 2 ^ 24) × (k.reads ≤ 2 ^ 24 + 1)

abbrev pub HeadFormed : World → EntryHead → Type 0
HeadFormed start e =
    HasClient start e.key × (e.cisn < 2 ^ 32) × (e.sisn < 2 ^ 32) × IsSize e.mss × (e.length ≤ 2 ^ 24) × (e.reads ≤ 2 ^ 24 + 1) × (e.acked ≤ 2 ^ 24 + 1)

-- only where the profile has batches does a Data say that a later one follows, and then it has no FIN
abbrev pub EndsFormed : World → Part → Type 0
EndsFormed start p = p.more ≡ true → (p.fin ≡ false) × (start.profile.batches ≡ true)

abbrev pub PartFormed : World → Part → Type 0
PartFormed start p = HasClient start p.key × (p.offset + length p.bytes ≤ 2 ^ 24) × AreBytes p.bytes × (length p.bytes ≤ 1460) × EndsFormed start p

-- the ranges of a body's numbers, in a message of this boot number. What a Data says is acknowledged is known of the log (`IsBacked`)
abbrev pub BodyFormed : World → (boot : ℕ) → Body → Type 0
BodyFormed start boot HelloMsg = Unit {0}
BodyFormed start boot (SummaryMsg count) = count ≤ 64
BodyFormed start boot (ListMsg index) = index ≤ 63
BodyFormed start boot (EntryMsg index e) = (index ≤ 63) × HeadFormed start e
BodyFormed start boot (BytesMsg key offset) = HasClient start key × (offset ≤ 2 ^ 24)
BodyFormed start boot (PartMsg key offset bytes) =
    HasClient start key × (offset + length bytes ≤ 2 ^ 24) × AreBytes bytes × (1 ≤ length bytes) × (length bytes ≤ 1024)
BodyFormed start boot (CutsMsg key first) = HasClient start key × (first ≤ 2 ^ 24 + 1)
BodyFormed start boot (LensMsg key first lens) = HasClient start key × (first ≤ 2 ^ 24 + 1) × AreLengths lens × (1 ≤ length lens) × (length lens ≤ 512)
BodyFormed start boot (OpenMsg n) = NumbersFormed start n
BodyFormed start boot (OpenedMsg n) = NumbersFormed start n
BodyFormed start boot (DataMsg part) = PartFormed start part
BodyFormed start boot (StableMsg k) = KeptFormed start k
BodyFormed start boot (ReadMsg key index length) = HasClient start key × (index ≤ 2 ^ 24 + 1) × (length ≤ 2048)
BodyFormed start boot (ReadsMsg k) = KeptFormed start k
BodyFormed start boot (DoneMsg key) = HasClient start key
BodyFormed start boot (EndedMsg key) = HasClient start key
BodyFormed start boot (StaleMsg newer) = (boot < newer) × (newer < 2 ^ 64)
BodyFormed start boot (FullMsg key) = HasClient start key

-- what a Data says is acknowledged
abbrev pub AckWithin : Body → Type 0
AckWithin (DataMsg part) = part.acked ≤ 2 ^ 24 + 1
AckWithin _ = Unit {0}

-- a number of a boot
abbrev pub IsBoot : ℕ → Type 0
IsBoot boot = (0 < boot) × (boot < 2 ^ 64)

abbrev pub MessageFormed : World → Message → Type 0
MessageFormed start m = IsBoot m.boot × BodyFormed start m.boot m.body

abbrev pub SegmentFormed : Segment → Type 0
SegmentFormed s =
    (s.head.seq < 2 ^ 32) × (s.head.ack < 2 ^ 32) × (s.head.flags < 2 ^ 8) × (s.head.window < 2 ^ 16) × IfSome s.head.mss (λ mss. mss < 2 ^ 16)
    × AreBytes s.payload × (packet_length s ≤ 1500) × IfSome s.head.timestamps (λ t. (t.value < 2 ^ 32) × (t.echo < 2 ^ 32))

abbrev pub PacketFormed : World → Packet → Type 0
PacketFormed start (To_server s) = HasClient start (source_of s) × IsOf start.server (destination_of s) × SegmentFormed s
PacketFormed start (To_client s) = HasClient start (destination_of s) × IsOf start.server (source_of s) × SegmentFormed s
PacketFormed start (To_logger m) = MessageFormed start m
PacketFormed start (From_logger m) = MessageFormed start m × AckWithin m.body

-- what the start gives: scripts of bytes that fit a stream, numbers modulo 2^32, and the server's address
pub record StartFormed (start : World) : Type 0 where
  pub server : FitsAddr start.server
  pub bytes : (key : Key) → AreBytes (script_of start key)
  pub short : (key : Key) → length (script_of start key) ≤ 2 ^ 24
  pub isn : (key : Key) → isn_of start key < 2 ^ 32

-- an entry of the log: no more is read than there are bytes, and at most one read has length 0
pub record EntryFormed (start : World) (e : Entry) : Type 0 where
  pub key : HasClient start e.key
  pub sisn : e.sisn < 2 ^ 32
  pub mss : IsSize e.mss
  pub enough : sum e.lengths ≤ length e.bytes
  pub count : length e.lengths ≤ sum e.lengths + 1
  pub lengths : AreLengths e.lengths

-- a value that is echoed has 32 bits, ..
abbrev pub IsShortEcho : Timestamping → Type 0
IsShortEcho Off = Unit {0}
IsShortEcho Awaited = Unit {0}
IsShortEcho (Echoes recent) = recent < 2 ^ 32

-- .. and segments leave room for timestamps where they may carry them
abbrev pub HasRoom : (mss : ℕ) → Timestamping → Type 0
HasRoom mss Off = Unit {0}
HasRoom mss Awaited = mss ≤ 1448
HasRoom mss (Echoes recent) = (mss ≤ 1448) × (recent < 2 ^ 32)

pub record PointFormed (start : World) (p : Point) : Type 0 where
  pub key : HasClient start p.key
  pub sisn : p.sisn < 2 ^ 32
  pub mss : IsSize p.mss
  pub enough : sum p.lengths ≤ length p.taken
  pub fetched : p.fetched ≤ length p.taken
  pub count : length p.lengths ≤ sum p.lengths + 1
  pub lengths : AreLengths p.lengths
  pub batches : p.batches ≡ start.profile.batches
  pub timestamping : HasRoom p.mss p.timestamping

abbrev pub PlaceFormed : World → Place → Type 0
PlaceFormed start (Opens n timestamping) = NumbersFormed start n × IsShortEcho timestamping
PlaceFormed start (Lives p) = PointFormed start p
PlaceFormed start (Ended key) = Unit {0}

abbrev pub StageFormed : World → Stage → Type 0
StageFormed start (Serving opened places) = AllByRecursion (PlaceFormed start) places
StageFormed start _ = Unit {0}

pub record NodeFormed (start : World) (node : Node) : Type 0 where
  pub server : node.server ≡ start.server
  pub profile : node.profile ≡ start.profile
  pub boot : IsBoot node.boot
  pub stage : StageFormed start node.stage

pub record ClientFormed (start : World) (c : Client) : Type 0 where
  pub key : HasClient start c.key
  pub server : c.server ≡ start.server

pub record WorldFormed (start w : World) : Type 0 where
  pub server : w.server ≡ start.server
  pub profile : w.profile ≡ start.profile
  pub boot : w.log.boot < 2 ^ 64
  pub few : length w.log.entries ≤ 64
  pub clients : AllByRecursion (ClientFormed start) w.clients
  pub packets : AllByRecursion (PacketFormed start) w.packets
  pub entries : AllByRecursion (EntryFormed start) w.log.entries
  pub node : (node : Node) → w.node ≡ Some node → NodeFormed start node
