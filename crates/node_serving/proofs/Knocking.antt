-- A segment of a client that isn't known, whatever the other keys have.
use Rattle.std.proofs.Common.{◌≡◌, ℕ, ◌+◌, ◌-◌, ◌/◌, ◌%◌, ◌^◌, ◌<◌, true, false, ◌&&◌, nat_lt, refl, sym, subst, arith, List, [], ◌∷◌, ◌++◌}
use Rattle.std.specs.Bool.{MatchBool}
use Rattle.ft_io.specs.declared.Key.{Key}
use Rattle.seq_arith.specs.Packet.{Segment, text_size}
use Rattle.seq_arith.specs.Message.Body.{OpenMsg}
use Rattle.tcp_rules.specs.Profile.{grammar_of}
use Rattle.ft_model.specs.Connection.{reported_by}
use Rattle.ft_model.specs.Network.{source_of}
use Rattle.ft_model.specs.Node.{Node}
use Rattle.ft_model.specs.Opening.{is_syn, initial_number, timestamping_for}
use Rattle.tcp_rules.specs.Timestamping.{timestamps_sent}
use Rattle.ft_model.specs.Wire.{Wire}
use Rattle.node_serving.specs.declared.slot.Slot.{Slot}
use Rattle.node_serving.specs.declared.slot.Slot.TheVariants as slot
use Rattle.node_serving.specs.declared.slot.Opening.{Opening}
use Rattle.node_serving.specs.Openings.{ArePut, Opened, Waits, Knocks, IsCounted, pending_slots}
use Rattle.node_serving.specs.Slots.{numbers_of}

module _ {S : Type 0} (node : Node) (segment : Segment) (key : Key) (number : ℕ) where
  pub waits_outside : (es : List (Key × Slot S)) (reported : List Wire) → (is_syn segment && nat_lt (pending_slots es) 64) ≡ false → Knocks node segment key number number es es reported reported
  waits_outside es reported shut =
      let waits : Waits number number es es reported reported = record { number = refl; slots = refl; silent = refl } in
      subst (λ b. MatchBool b (Opened node segment key number number es es reported reported) (Waits number number es es reported reported)) (sym shut) waits

  pub comes_in : (next : ℕ) (was now : List (Key × Slot S)) (old new : List Wire) (o : Opening) → (is_syn segment && nat_lt (pending_slots was) 64) ≡ true
      → numbers_of key o ≡ record { key = source_of segment; cisn = segment.head.seq; sisn = number; mss = text_size segment.head.mss (timestamps_sent (timestamping_for node.profile segment)) }
      → o.timestamping ≡ timestamping_for node.profile segment → next ≡ (number + 65536) % 2 ^ 32 → now ≡ was ++ (key, slot.Pending o) ∷ [] → ArePut (grammar_of node.profile) (reported_by node.boot (OpenMsg (numbers_of key o)) ∷ []) old new
      → Knocks node segment key number next was now old new
  comes_in next was now old new o free numbers timestamping counted slots asked =
      let opened : Opened node segment key number next was now old new = record { opening = o; numbers = numbers; timestamping = timestamping; counted = counted; slots = slots; asked = asked } in
      subst (λ b. MatchBool b (Opened node segment key number next was now old new) (Waits number next was now old new)) (sym free) opened

-- the numbers that a SYN asks for
pub numbers_are : (node : Node) (segment : Segment) (key : Key) (number : ℕ) (o : Opening) → source_of segment ≡ key → segment.head.seq ≡ o.cisn.0 → number ≡ o.sisn.0
    → text_size segment.head.mss (timestamps_sent (timestamping_for node.profile segment)) ≡ o.mss
    → numbers_of key o ≡ record { key = source_of segment; cisn = segment.head.seq; sisn = number; mss = text_size segment.head.mss (timestamps_sent (timestamping_for node.profile segment)) }
numbers_are node segment key number o from seq sisn size = cc

-- each initial number is 65,536 after the one before it, ..
pub counted_on : (isn number next : ℕ) → IsCounted isn number → next ≡ (number + 65536) % 2 ^ 32 → IsCounted isn next
counted_on isn number next counted is = (omega (arith, counted.0, is), omega (arith, is))

-- .. and so is one of those of the incarnation
pub counted_by : (isn number : ℕ) → isn < 2 ^ 32 → IsCounted isn number → (n : ℕ) × (number ≡ initial_number isn n)
counted_by isn number low counted = ((number + 2 ^ 32 - isn) / 65536, omega (arith, low, counted.0, counted.1))
