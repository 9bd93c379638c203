use Rattle.std.proofs.Common.{◌%◌, ◌++◌, ap, sym, arith, ◌∙◌}
use Rattle.seq_arith.specs.Bytes.{four}
use Rattle.seq_arith.specs.PacketGrammar.{reading}
use Rattle.segment_codec.specs.Change.{put, sealed, patched_at}
use Rattle.segment_codec.proofs.Canonical.{ack_spelled, spelling_is_sealed}
use Rattle.segment_codec.proofs.Setters.{ack_read, ack_summed}
use Rattle.segment_codec.proofs.setting.set_ack.Goals as goal

pub returns-clause-bytes : goal.returns-clause-bytes
returns-clause-bytes c = c.patch_word-2.ensures.bytes ∙ ap (patched_at 30 (c.args.ack.0 % 65536)) c.patch_word.ensures.bytes

pub returns-clause-read : goal.returns-clause-read
returns-clause-read c rest ok =
    ap (λ b. reading (b ++ rest)) (returns-clause-bytes c) ∙ ack_read c.args.head.now rest c.args.ack.0 (omega arith) c.requires c.patch_word.ensures.octets ok

pub returns-clause-summed : goal.returns-clause-summed
returns-clause-summed c rest is =
    ap (λ b. b ++ rest) (returns-clause-bytes c) ∙ ack_summed c.args.head.now rest c.args.ack.0 (omega arith) c.requires c.patch_word.ensures.octets is

pub returns-clause-canonical : goal.returns-clause-canonical
returns-clause-canonical c segment rest is =
    returns-clause-summed c rest (ap sealed is ∙ spelling_is_sealed segment ∙ sym is) ∙ ap (λ b. sealed (put 28 (four c.args.ack.0) b)) is ∙ ack_spelled segment c.args.ack.0
