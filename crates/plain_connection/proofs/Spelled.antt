-- A message whose numbers are past their ranges has no spelling, so nothing need be sent for it.
use Rattle.std.proofs.Common.{◌≡◌, ℕ, ◌+◌, ◌≤◌, ◌<◌, ◌^◌, Bool, true, List, [], ◌∷◌, length, arith}
use Rattle.std.specs.Prelude.{◌&&◌, nat_le}
use Rattle.std.proofs.lemmas.Bool.{leb-true, and_parts}
use Rattle.ft_io.specs.declared.Key.{Key}
use Rattle.seq_arith.specs.Message.{Part}
use Rattle.seq_arith.specs.Message.Body.{DataMsg, ReadMsg}
use Rattle.seq_arith.specs.MessageGrammar.{ending, is_sound_by}
use Rattle.ft_model.specs.Connection.{reported_by}
use Rattle.ft_model.specs.Network.{Packet}
use Rattle.ft_model.specs.Wire.{Wire}
use Rattle.plain_packets.specs.Sent.{Appends, CanBeKept}

unspelled : (wires : List Wire) (packet : Packet) → (CanBeKept packet → ⊥) → Appends wires wires (packet ∷ [])
unspelled wires packet never = record { follow = λ all. absurd (never all.0) }

data_in_range : (boot : ℕ) (part : Part) → CanBeKept (reported_by boot (DataMsg part)) → (part.offset ≤ 2 ^ 24) × (part.acked ≤ 2 ^ 24 + 1)
unfolding is_sound_by
data_in_range boot part can =
    let behind : ℕ = length part.bytes in
    let others : Bool = nat_le part.acked (2 ^ 24 + 1) && (nat_le (ending part) 2 && true) in
    let fields : Bool = nat_le (part.offset + behind) (2 ^ 24) && others in
    let sound : ((nat_le 1 boot && fields) && true) ≡ true = can.0.sound in
    let ranges = and_parts (nat_le 1 boot) fields (and_parts (nat_le 1 boot && fields) true sound).0 in
    let both = and_parts (nat_le (part.offset + behind) (2 ^ 24)) others ranges.1 in
    let end : part.offset + behind ≤ 2 ^ 24 = leb-true (part.offset + behind) (2 ^ 24) both.0 in
    let units : part.acked ≤ 2 ^ 24 + 1 = leb-true part.acked (2 ^ 24 + 1) (and_parts (nat_le part.acked (2 ^ 24 + 1)) (nat_le (ending part) 2 && true) both.1).0 in
    (omega (arith, end), units)

pub far_data : (boot : ℕ) (wires : List Wire) (part : Part) → 2 ^ 24 < part.offset → Appends wires wires (reported_by boot (DataMsg part) ∷ [])
far_data boot wires part far = unspelled wires (reported_by boot (DataMsg part)) (λ can. let low = (data_in_range boot part can).0 in omega (arith, far, low))

pub high_data : (boot : ℕ) (wires : List Wire) (part : Part) → 2 ^ 24 + 1 < part.acked → Appends wires wires (reported_by boot (DataMsg part) ∷ [])
high_data boot wires part high = unspelled wires (reported_by boot (DataMsg part)) (λ can. let low = (data_in_range boot part can).1 in omega (arith, high, low))

read_in_range : (boot : ℕ) (key : Key) (index len : ℕ) → CanBeKept (reported_by boot (ReadMsg key index len)) → index ≤ 2 ^ 24 + 1
unfolding is_sound_by
read_in_range boot key index len can =
    let others : Bool = nat_le len 2048 && true in
    let fields : Bool = nat_le index (2 ^ 24 + 1) && others in
    let sound : ((nat_le 1 boot && fields) && true) ≡ true = can.0.sound in
    let ranges = and_parts (nat_le 1 boot) fields (and_parts (nat_le 1 boot && fields) true sound).0 in
    leb-true index (2 ^ 24 + 1) (and_parts (nat_le index (2 ^ 24 + 1)) others ranges.1).0

pub far_read : (boot : ℕ) (wires : List Wire) (key : Key) (index len : ℕ) → 2 ^ 24 + 1 < index → Appends wires wires (reported_by boot (ReadMsg key index len) ∷ [])
far_read boot wires key index len far =
    unspelled wires (reported_by boot (ReadMsg key index len)) (λ can. let low = read_in_range boot key index len can in omega (arith, far, low))
