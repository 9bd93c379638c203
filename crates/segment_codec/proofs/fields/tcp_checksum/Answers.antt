use Rattle.std.proofs.Common.{ℕ, List, ◌-◌, ◌+◌, ◌≡◌, ◌%◌, false, take, drop, length, ap, ◌∙◌}
use Rattle.std.proofs.lemmas.List.{take_rest}
use Rattle.seq_arith.specs.Checksum.{word_sum, check_of}
use Rattle.segment_codec.proofs.Words.{same_checks, tcp_summed}
use Rattle.segment_codec.proofs.fields.tcp_checksum.Goals as goal

pub returns : goal.returns
returns c =
    let bytes : List ℕ = c.args.bytes.now
    in let text : c.words_of-2.result % 65535 ≡ word_sum false (drop 40 bytes) % 65535 =
    c.words_of-2.ensures.sum ∙ ap (λ xs. word_sum false xs % 65535) (take_rest bytes 40)
    in c.check_of.ensures
    ∙ same_checks c.words_of.result c.words_of-2.result (word_sum false (take 28 (drop 12 bytes))) (word_sum false (drop 40 bytes)) (length bytes - 20)
    c.words_of.ensures.sum text
    ∙ ap check_of (tcp_summed bytes c.requires.long c.requires.short)
