use Rattle.std.proofs.Common.{sym, arith, ap, ℕ, length, ◌+◌, ◌≡◌}
use Rattle.seq_arith.specs.PacketGrammar.{mss_option}
use Rattle.std.specs.Prelude.{Option}
use Rattle.segment_codec.proofs.Pieces.{options_put, nothing_put}
use Rattle.segment_codec.proofs.header.put_mss.Goals as goal

pub returns-in-Some-clause-bytes : goal.returns-in-Some-clause-bytes
returns-in-Some-clause-bytes c =
    let size : 40 + length (mss_option c.args.mss) ≡ 44 = ap (λ (mss : Option ℕ). 40 + length (mss_option mss)) c.in-Some.is
    in cc (options_put c.args.out.now c.in-Some.mss (omega (arith, size, c.requires)))

pub returns-in-None-clause-bytes : goal.returns-in-None-clause-bytes
returns-in-None-clause-bytes c = rw c.in-None.is (sym (nothing_put 40 c.args.out.now))
