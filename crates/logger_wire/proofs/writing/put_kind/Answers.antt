use Rattle.std.proofs.Common.{◌∙◌, ap, sym}
use Rattle.seq_arith.specs.MessageGrammar.{kind_of}
use Rattle.logger_wire.specs.Spelling.{put, body_bytes, sealed}
use Rattle.logger_wire.specs.Value.{body_of}
use Rattle.logger_wire.proofs.writing.put_kind.Goals as goal

pub returns-in-Entry-clause-bytes : goal.returns-in-Entry-clause-bytes
returns-in-Entry-clause-bytes c =
    c.put_entry.ensures.bytes
    ∙ sym (ap (λ b. put 0 (sealed c.args.grammar (kind_of (body_of b)) c.args.m.now.boot (body_bytes (body_of b))) c.args.out.now) c.in-Entry.is)
