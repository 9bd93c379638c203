use Rattle.std.proofs.Common.{◌≡◌, ℕ, ◌+◌, Option, None, Some, List, ◌++◌, length, ap, ◌∙◌, append_assoc, append-nil}
use Rattle.std.specs.Prelude.{replicate}
use Rattle.seq_arith.specs.Bytes.{four}
use Rattle.seq_arith.specs.PacketGrammar.{mss_option, timestamps_option}
use Rattle.seq_arith.specs.declared.options.Timestamps.{Timestamps}
use Rattle.tcp_endpoint.proofs.outbox.append_blank.Goals as goal

-- room for one option after the other is room for both
blank : (bytes : List ℕ) (mss : Option ℕ) (timestamps : Option Timestamps)
    → (bytes ++ replicate (40 + length (mss_option mss)) 0) ++ replicate (length (timestamps_option timestamps)) 0
    ≡ bytes ++ replicate (40 + length (mss_option mss ++ timestamps_option timestamps)) 0
unfolding four
blank bytes None None = append-nil (bytes ++ replicate 40 0)
blank bytes (Some mss) None = append-nil (bytes ++ replicate 44 0)
blank bytes None (Some timestamps) = append_assoc bytes (replicate 40 0) (replicate 12 0)
blank bytes (Some mss) (Some timestamps) = append_assoc bytes (replicate 44 0) (replicate 12 0)

pub returns-clause-items : goal.returns-clause-items
returns-clause-items c =
    let head = c.args.head.now in
    c.append_blank_timestamps.ensures.items ∙ ap (λ xs. xs ++ replicate (length (timestamps_option head.timestamps)) 0) c.append_blank_to_size.ensures.items
    ∙ blank c.args.bytes.now.items head.mss head.timestamps
