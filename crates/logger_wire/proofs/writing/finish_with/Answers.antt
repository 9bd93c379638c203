use Rattle.std.proofs.Common.{◌≡◌, ◌+◌, ℕ, List, length, take, ap, arith, ◌∙◌}
use Rattle.seq_arith.specs.Checksum.{checksum}
use Rattle.seq_arith.specs.MessageGrammar.{header}
use Rattle.logger_wire.specs.Spelling.{put, framed}
use Rattle.logger_wire.proofs.OneSpelling.{behind_summed, finished}
use Rattle.logger_wire.proofs.writing.finish_with.Goals as goal

pub returns-clause-bytes : goal.returns-clause-bytes
returns-clause-bytes c =
    let len : ℕ = c.args.at + length c.args.behind.now
    in let there : List ℕ = c.put_bytes.new.out
    in let blank : List ℕ = c.put_header.new.out
    in let blank_is : blank ≡ put 0 (header c.args.grammar c.args.kind len 0 c.args.boot) (put c.args.at c.args.behind.now c.args.out.now) =
    c.put_header.ensures ∙ ap (put 0 (header c.args.grammar c.args.kind len 0 c.args.boot)) c.put_bytes.ensures
    in let sum : c.checksum_of_both-check.result ≡ checksum (take len blank) =
    c.checksum_of_both-check.ensures
    ∙ ap checksum (behind_summed c.args.grammar c.args.kind c.args.boot len c.args.at c.args.behind.now c.args.out.now blank c.requires.long c.requires.room blank_is)
    in c.put_word.ensures
    ∙ finished c.args.grammar c.args.kind c.args.boot len c.checksum_of_both-check.result there blank (omega (arith, c.requires.long)) (omega arith) c.put_header.ensures sum
    ∙ ap (framed c.args.grammar c.args.kind c.args.boot len) c.put_bytes.ensures
