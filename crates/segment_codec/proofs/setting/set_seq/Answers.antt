use Rattle.std.proofs.Common.{◌%◌, ◌++◌, ap, sym, arith, ◌∙◌}
use Rattle.seq_arith.specs.Bytes.{four}
use Rattle.seq_arith.specs.PacketGrammar.{reading}
use Rattle.segment_codec.specs.Change.{put, sealed, patched_at}
use Rattle.segment_codec.proofs.Canonical.{seq_spelled, spelling_is_sealed}
use Rattle.segment_codec.proofs.Setters.{seq_read, seq_summed}
use Rattle.segment_codec.proofs.setting.set_seq.Goals as goal

pub returns-clause-bytes : goal.returns-clause-bytes
returns-clause-bytes c = c.patch_word-2.ensures.bytes ∙ ap (patched_at 26 (c.args.seq.0 % 65536)) c.patch_word.ensures.bytes

pub returns-clause-read : goal.returns-clause-read
returns-clause-read c rest ok =
    ap (λ b. reading (b ++ rest)) (returns-clause-bytes c) ∙ seq_read c.args.head.now rest c.args.seq.0 (omega arith) c.requires c.patch_word.ensures.octets ok

pub returns-clause-summed : goal.returns-clause-summed
returns-clause-summed c rest is =
    ap (λ b. b ++ rest) (returns-clause-bytes c) ∙ seq_summed c.args.head.now rest c.args.seq.0 (omega arith) c.requires c.patch_word.ensures.octets is

pub returns-clause-canonical : goal.returns-clause-canonical
returns-clause-canonical c segment rest is =
    returns-clause-summed c rest (ap sealed is ∙ spelling_is_sealed segment ∙ sym is) ∙ ap (λ b. sealed (put 24 (four c.args.seq.0) b)) is ∙ seq_spelled segment c.args.seq.0
