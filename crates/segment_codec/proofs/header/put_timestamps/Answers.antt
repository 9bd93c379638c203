use Rattle.std.proofs.Common.{sym, arith, ap, ℕ, length, ◌+◌, ◌≡◌}
use Rattle.std.specs.Prelude.{Option}
use Rattle.seq_arith.specs.Bytes.{four}
use Rattle.seq_arith.specs.declared.options.Timestamps.{Timestamps}
use Rattle.seq_arith.specs.PacketGrammar.{timestamps_option}
use Rattle.segment_codec.proofs.Pieces.{timestamps_put, nothing_put}
use Rattle.segment_codec.proofs.header.put_timestamps.Goals as goal

pub returns-in-Some-clause-bytes : goal.returns-in-Some-clause-bytes
unfolding four
returns-in-Some-clause-bytes c =
    let size : c.args.at + length (timestamps_option c.args.timestamps) ≡ c.args.at + 12 = ap (λ (t : Option Timestamps). c.args.at + length (timestamps_option t)) c.in-Some.is
    in cc (timestamps_put c.args.at c.args.out.now c.in-Some.timestamps (omega (arith, size, c.requires)))

pub returns-in-None-clause-bytes : goal.returns-in-None-clause-bytes
returns-in-None-clause-bytes c = rw c.in-None.is (sym (nothing_put c.args.at c.args.out.now))
