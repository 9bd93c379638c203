-- Why a bit of a packet may not be changed, by the wire that is kept of it: in either grammar the packet has as many bytes.
use Rattle.std.proofs.Common.{◌≡◌, ◌∙◌, ℕ, ◌*◌, ◌/◌, ◌<◌, ◌≤◌, List, Option, Some, None, length, map, sym, ap, arith, if◌then◌else◌}
use Rattle.std.specs.Prelude.{nat_le, option_map}
use Rattle.std.proofs.lemmas.Bool.{le-leb, lt-leb}
use Rattle.seq_arith.specs.declared.kinds.Grammar.{Grammar}
use Rattle.ft_model.specs.Legal.{refusal_of_flip}
use Rattle.ft_model.specs.Network.{Packet, packet_at}
use Rattle.ft_model.specs.Wire.{Wire}
use Rattle.ft_model.specs.declared.event.EventWhy.{EventWhy}
use Rattle.ft_model.specs.declared.event.EventWhy.TheVariants as why
use Rattle.ft_model.proofs.Lists.{some_is, none_is_some}
use Rattle.plain_packets.specs.Sent.{kept_wire, wire_at}
use Rattle.plain_packets.proofs.Kept.{kept_length}
use Rattle.plain_packets.proofs.Sent.{wire_numbered}

by_wire : (grammar : Grammar) (found : Option Packet) (wire : Wire) (bit : ℕ) → Some wire ≡ option_map kept_wire found
    → refusal_of_flip grammar found bit ≡ (if nat_le (8 * length wire.bytes) bit then Some why.Bit else None)
by_wire grammar None wire bit is = absurd (none_is_some wire (sym is))
by_wire grammar (Some packet) wire bit is =
    ap (λ n. if nat_le (8 * n) bit then Some why.Bit else None) (kept_length grammar packet ∙ ap (λ (w : Wire). length w.bytes) (sym (some_is wire (kept_wire packet) is)))

kept_at : (wires : List Wire) (packets : List Packet) (number : ℕ) (wire : Wire) → Some wire ≡ wire_at wires number → wires ≡ map kept_wire packets
    → Some wire ≡ option_map kept_wire (packet_at packets number)
kept_at wires packets number wire at is = at ∙ (ap (λ ws. wire_at ws number) is ∙ wire_numbered packets number)

pub past_the_wire : (grammar : Grammar) (wires : List Wire) (packets : List Packet) (number bit : ℕ) (wire : Wire) → Some wire ≡ wire_at wires number
    → wires ≡ map kept_wire packets → length wire.bytes ≤ bit / 8 → Some why.Bit ≡ refusal_of_flip grammar (packet_at packets number) bit
past_the_wire grammar wires packets number bit wire at is past =
    sym (by_wire grammar (packet_at packets number) wire bit (kept_at wires packets number wire at is)
    ∙ ap (λ b. if b then Some why.Bit else None) (le-leb (8 * length wire.bytes) bit (omega (arith, past))))

pub within_the_wire : (grammar : Grammar) (wires : List Wire) (packets : List Packet) (number bit : ℕ) (wire : Wire) → Some wire ≡ wire_at wires number
    → wires ≡ map kept_wire packets → bit / 8 < length wire.bytes → None ≡ refusal_of_flip grammar (packet_at packets number) bit
within_the_wire grammar wires packets number bit wire at is within =
    sym (by_wire grammar (packet_at packets number) wire bit (kept_at wires packets number wire at is)
    ∙ ap (λ b. if b then Some why.Bit else None) (lt-leb (8 * length wire.bytes) bit (omega (arith, within))))
