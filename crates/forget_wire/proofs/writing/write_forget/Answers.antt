use Rattle.std.proofs.Common.{◌∙◌, ap}
use Rattle.seq_arith.specs.MessageGrammar.{numbers_bytes}
use Rattle.long_laws.specs.ForgetGrammar.{naming, numbers_of, reading}
use Rattle.long_laws.proofs.ForgetRead.{forget_is_read}
use Rattle.forget_wire.specs.Spelling.{header_of}
use Rattle.forget_wire.specs.Value.{message_of}
use Rattle.forget_wire.proofs.ForgetWritten.{assembled}
use Rattle.forget_wire.proofs.writing.write_forget.Goals as goal

pub returns-clause-bytes : goal.returns-clause-bytes
returns-clause-bytes c =
    let boot = c.args.m.now.boot in
    c.joined.ensures
    ∙ assembled (message_of c.args.m.now) c.checksum_of_both-check.result c.header-blank.result c.header.result c.named_bytes-named.result
    (c.named_bytes-named.ensures ∙ ap (λ n. numbers_bytes naming (numbers_of n)) c.named.ensures) (c.header-blank.ensures ∙ ap (λ k. header_of k 0 boot) c.kind-kind.ensures)
    c.checksum_of_both-check.ensures (c.header.ensures ∙ ap (λ k. header_of k c.checksum_of_both-check.result boot) c.kind-kind.ensures)

pub returns-clause-read : goal.returns-clause-read
returns-clause-read c = ap reading (returns-clause-bytes c) ∙ forget_is_read (message_of c.args.m.now) c.requires
