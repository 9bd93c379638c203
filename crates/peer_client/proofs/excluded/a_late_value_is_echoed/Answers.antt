use Rattle.std.proofs.Common.{◌≡◌, false, ap, ◌∙◌, arith}
use Rattle.std.specs.Prelude.{ℤ, pos, ◌<ℤ◌, ◌&&◌, not, int_le}
use Rattle.std.proofs.lemmas.Int.{ints}
use Rattle.seq_arith.specs.Number.{gap}
use Rattle.seq_arith.specs.Offset.{length_of}
use Rattle.seq_arith.specs.Packet.{has_rst}
use Rattle.segment_codec.specs.Value.{segment_of}
use Rattle.tcp_rules.specs.Arrival.{is_acceptable_or_at_edge}
use Rattle.ft_io.proofs.Booleans.{and_false}
use Rattle.peer_client.proofs.excluded.a_late_value_is_echoed.Goals as goal

past : (place : ℤ) → pos 0 <ℤ place → int_le place (pos 0) ≡ false
past place h = grind (arith, ints, h)

pub returns : goal.returns
returns c =
    c.is_timely.ensures ∙ ap (λ b. is_acceptable_or_at_edge 0 c.args.stamping.now.window (gap c.args.p.now.head.seq.0 c.args.stamping.now.acknowledgement) (length_of (segment_of c.args.p.now)) && not (has_rst (segment_of c.args.p.now)) && b)
    (past (gap c.args.p.now.head.seq.0 c.args.stamping.now.acknowledgement) c.requires.late)
    ∙ and_false (is_acceptable_or_at_edge 0 c.args.stamping.now.window (gap c.args.p.now.head.seq.0 c.args.stamping.now.acknowledgement) (length_of (segment_of c.args.p.now)) && not (has_rst (segment_of c.args.p.now)))
