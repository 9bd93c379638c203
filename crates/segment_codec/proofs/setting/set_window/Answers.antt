use Rattle.std.proofs.Common.{◌++◌, ap, sym, arith, ◌∙◌}
use Rattle.seq_arith.specs.Bytes.{two}
use Rattle.seq_arith.specs.PacketGrammar.{reading}
use Rattle.segment_codec.specs.Change.{put, sealed}
use Rattle.segment_codec.proofs.Canonical.{window_spelled, spelling_is_sealed}
use Rattle.segment_codec.proofs.Setters.{window_read, window_summed}
use Rattle.segment_codec.proofs.setting.set_window.Goals as goal

pub returns-clause-bytes : goal.returns-clause-bytes
returns-clause-bytes c = c.patch_word.ensures.bytes

pub returns-clause-read : goal.returns-clause-read
returns-clause-read c rest ok =
    ap (λ b. reading (b ++ rest)) (returns-clause-bytes c) ∙ window_read c.args.head.now rest c.args.window (omega arith) c.requires c.patch_word.ensures.octets ok

pub returns-clause-summed : goal.returns-clause-summed
returns-clause-summed c rest is =
    ap (λ b. b ++ rest) (returns-clause-bytes c) ∙ window_summed c.args.head.now rest c.args.window (omega arith) c.requires c.patch_word.ensures.octets is

pub returns-clause-canonical : goal.returns-clause-canonical
returns-clause-canonical c segment rest is =
    returns-clause-summed c rest (ap sealed is ∙ spelling_is_sealed segment ∙ sym is) ∙ ap (λ b. sealed (put 34 (two c.args.window) b)) is ∙ window_spelled segment c.args.window
