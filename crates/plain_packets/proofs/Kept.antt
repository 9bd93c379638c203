-- A packet that has a wire in either grammar can be kept, and its wire is as long as the kept one.
use Rattle.std.proofs.Common.{◌≡◌, ℕ, ◌+◌, ◌≤◌, ◌<◌, true, List, [], ◌∷◌, length, refl, arith}
use Rattle.std.specs.Prelude.{nat_le}
use Rattle.std.specs.List.{AllByRecursion}
use Rattle.std.proofs.lemmas.Bool.{leb-true, le-leb, and_from, and_parts}
use Rattle.seq_arith.specs.Bytes.{two}
use Rattle.seq_arith.specs.declared.kinds.Grammar.{Grammar}
use Rattle.seq_arith.specs.declared.kinds.Grammar.TheVariants.{Plain, Wide}
use Rattle.seq_arith.specs.declared.kinds.Kind.TheVariants as kinds
use Rattle.seq_arith.specs.Message.{Body, Message}
use Rattle.seq_arith.specs.Message.Body.{HelloMsg, SummaryMsg, ListMsg, EntryMsg, BytesMsg, PartMsg, CutsMsg, LensMsg, OpenMsg, OpenedMsg, DataMsg, StableMsg, ReadMsg, ReadsMsg, DoneMsg, EndedMsg, StaleMsg, FullMsg}
use Rattle.seq_arith.specs.MessageGrammar.{kind_of, numbers_of, behind_of, lens_of, all_in_range_by, fields_of, ending, is_sound_by, header, number_bytes, spelled, spelling_by, IsSpellableBy}
use Rattle.ft_model.specs.Network.{Packet}
use Rattle.ft_model.specs.Network.Packet.{To_server, To_client, To_logger, From_logger}
use Rattle.ft_model.specs.Wire.{wire_by, HasWireBy}
use Rattle.plain_packets.specs.Sent.{kept_wire, CanBeKept}

data_sound : (boot behind ip port offset acked end : ℕ) → is_sound_by Plain kinds.Data boot behind (ip ∷ port ∷ offset ∷ acked ∷ end ∷ []) [] ≡ true
    → is_sound_by Wide kinds.Data boot behind (ip ∷ port ∷ offset ∷ acked ∷ end ∷ []) [] ≡ true
unfolding is_sound_by
data_sound boot behind ip port offset acked end s =
    let numbered : nat_le 1 boot ≡ true = (and_parts _ _ (and_parts _ _ s).0).0 in
    let fields : all_in_range_by Plain boot behind (fields_of kinds.Data) (ip ∷ port ∷ offset ∷ acked ∷ end ∷ []) ≡ true = (and_parts _ _ (and_parts _ _ s).0).1 in
    let low : nat_le end 1 ≡ true = (and_parts _ _ (and_parts _ _ (and_parts _ _ fields).1).1).0 in
    let wide : nat_le end 2 ≡ true = le-leb end 2 (omega (arith, leb-true end 1 low)) in
    let all : all_in_range_by Wide boot behind (fields_of kinds.Data) (ip ∷ port ∷ offset ∷ acked ∷ end ∷ []) ≡ true =
    and_from _ _ (and_parts _ _ fields).0 (and_from _ _ (and_parts _ _ (and_parts _ _ fields).1).0 (and_from _ _ wide refl)) in
    and_from _ _ (and_from _ _ numbered all) refl

sound_kept : (boot : ℕ) (b : Body) → is_sound_by Plain (kind_of b) boot (length (behind_of b)) (numbers_of b) (lens_of b) ≡ true
    → is_sound_by Wide (kind_of b) boot (length (behind_of b)) (numbers_of b) (lens_of b) ≡ true
unfolding is_sound_by
sound_kept boot HelloMsg s = s
sound_kept boot (SummaryMsg count) s = s
sound_kept boot (ListMsg index) s = s
sound_kept boot (EntryMsg index head) s = s
sound_kept boot (BytesMsg key offset) s = s
sound_kept boot (PartMsg key offset bytes) s = s
sound_kept boot (CutsMsg key first) s = s
sound_kept boot (LensMsg key first lens) s = s
sound_kept boot (OpenMsg n) s = s
sound_kept boot (OpenedMsg n) s = s
sound_kept boot (DataMsg part) s = data_sound boot (length part.bytes) part.key.ip part.key.port part.offset part.acked (ending part) s
sound_kept boot (StableMsg k) s = s
sound_kept boot (ReadMsg key index len) s = s
sound_kept boot (ReadsMsg k) s = s
sound_kept boot (DoneMsg key) s = s
sound_kept boot (EndedMsg key) s = s
sound_kept boot (StaleMsg newer) s = s
sound_kept boot (FullMsg key) s = s

message_kept : (grammar : Grammar) (message : Message) → IsSpellableBy grammar message → IsSpellableBy Wide message
message_kept Wide message s = s
message_kept Plain message s = record { boot = s.boot; numbers = s.numbers; sound = sound_kept message.boot message.body s.sound; size = s.size }

pub can_be_kept : (grammar : Grammar) (packet : Packet) → HasWireBy grammar packet → CanBeKept packet
can_be_kept grammar (To_server segment) wire = wire
can_be_kept grammar (To_client segment) wire = wire
can_be_kept grammar (To_logger message) wire = (message_kept grammar message wire.0, wire.1)
can_be_kept grammar (From_logger message) wire = (message_kept grammar message wire.0, wire.1)

pub all_kept : (grammar : Grammar) (packets : List Packet) → AllByRecursion (HasWireBy grammar) packets → AllByRecursion CanBeKept packets
all_kept grammar [] wires = tt
all_kept grammar (packet ∷ packets) wires = (can_be_kept grammar packet wires.0, all_kept grammar packets wires.1)

spelled_alike : (message : Message) (check other : ℕ) → length (spelled Plain message check) ≡ length (spelled Wide message other)
unfolding spelled header two number_bytes
spelled_alike message check other = refl

spelling_alike : (grammar : Grammar) (message : Message) → length (spelling_by grammar message) ≡ length (spelling_by Wide message)
unfolding spelling_by
spelling_alike Wide message = refl
spelling_alike Plain message = spelled_alike message _ _

-- so the bits of a packet that may be changed are those of the kept wire
pub kept_length : (grammar : Grammar) (packet : Packet) → length (wire_by grammar packet).bytes ≡ length (kept_wire packet).bytes
kept_length grammar (To_server segment) = refl
kept_length grammar (To_client segment) = refl
kept_length grammar (To_logger message) = spelling_alike grammar message
kept_length grammar (From_logger message) = spelling_alike grammar message
