-- The packets of an outbox, in order, and how one string of bytes holds them, one after another.
use Rattle.std.specs.Prelude.{ℕ, Ok, List, [], ◌∷◌, ◌++◌, ◌+◌, ◌-◌, ◌≡◌, ◌≤◌, length, take, drop}
use Rattle.std.specs.List.{refill, AllByRecursion}
use Rattle.seq_arith.specs.Packet.{Segment}
use Rattle.seq_arith.specs.PacketGrammar.{reading, spelling}

-- how many bytes these packets have in all
abbrev pub byte_count : List (List ℕ) → ℕ
byte_count [] = 0
byte_count (packet ∷ packets) = length packet + byte_count packets

-- the packets that end at these places. The first one begins at `start`
abbrev pub pieces : (start : ℕ) (ends bytes : List ℕ) → List (List ℕ)
pieces start [] bytes = []
pieces start (end ∷ ends) bytes = take (end - start) (drop start bytes) ∷ pieces end ends bytes

-- the places ascend from `start` to the end of the bytes
abbrev pub ClimbsTo : (start : ℕ) → List ℕ → (end : ℕ) → Type 0
ClimbsTo start [] end = start ≡ end
ClimbsTo start (place ∷ places) end = (start ≤ place) × ClimbsTo place places end

-- the invariant of an outbox's two vectors: their room is allocated at the start
pub record Stores (bytes ends : List ℕ) (byte_room packet_room : ℕ) : Type 0 where
  pub climbs : ClimbsTo 0 ends (length bytes)
  pub bytes_reserved : 124000 ≤ byte_room
  pub ends_reserved : 1100 ≤ packet_room
  pub bytes_held : length bytes ≤ 124000
  pub packets_held : length ends ≤ 1100

-- a string, cut into packets of the same lengths as these
abbrev pub recut : List (List ℕ) → List ℕ → List (List ℕ)
recut [] bytes = []
recut (packet ∷ packets) bytes = take (length packet) bytes ∷ recut packets (drop (length packet) bytes)

-- all packets as one string
abbrev pub joined : List (List ℕ) → List ℕ
joined [] = []
joined (packet ∷ packets) = packet ++ joined packets

-- the packets after bytes are written over packet i, from its beginning on: all lengths stay
unfoldable pub with_bytes_at : List (List ℕ) → ℕ → List ℕ → List (List ℕ)
with_bytes_at packets i bytes =
    let start : ℕ = byte_count (take i packets)
    in recut packets (refill (length (joined packets)) (joined packets) (take start (joined packets)
    ++ (bytes ++ drop (length bytes) (drop start (joined packets)))))

-- a segment's spelling is read back as that segment, so it is an accepted packet
abbrev pub IsReadable : Segment → Type 0
IsReadable segment = reading (spelling segment) ≡ Ok segment

abbrev pub AreReadable : List Segment → Type 0
AreReadable segments = AllByRecursion IsReadable segments
