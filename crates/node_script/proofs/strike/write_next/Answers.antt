use Rattle.std.proofs.Common.{◌<◌, ◌≤◌, ◌+◌, ◌++◌, ℕ, Option, List, length, take, length-take, arith, subst, sym}
use Rattle.seq_arith.specs.declared.options.Timestamps.{Timestamps}
use Rattle.seq_arith.specs.PacketGrammar.{mss_option, timestamps_option}
use Rattle.seq_arith.proofs.Units.{options_short}
use Rattle.node_script.proofs.strike.write_next.Goals as goal

fits : (mss : Option ℕ) (timestamps : Option Timestamps) (size room : ℕ) (text : List ℕ) → size < room → room < 21
    → 40 + length (mss_option mss ++ timestamps_option timestamps) + length (take size text) ≤ 1500
fits mss timestamps size room text below short = omega (arith, options_short mss timestamps, length-take size text, below, short)

pub write_packet-requires-clause-fits : goal.write_packet-requires-clause-fits
write_packet-requires-clause-fits c =
    fits c.head-head.result.mss c.head-head.result.timestamps c.below-size.result c.draw_blow-blow.result.room _ c.below-size.ensures.bound c.draw_blow-blow.ensures.1

pub returns : goal.returns
returns c =
    subst (λ n. n ≤ 1500) (sym c.write_packet.ensures.length)
    (fits c.head-head.result.mss c.head-head.result.timestamps c.below-size.result c.draw_blow-blow.result.room _ c.below-size.ensures.bound c.draw_blow-blow.ensures.1)
