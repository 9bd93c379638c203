use Rattle.std.proofs.Common.{◌∙◌, ap, sym}
use Rattle.logger_wire.specs.Places.{placed}
use Rattle.logger_wire.proofs.Alike.{an_entry, bytes_asked, a_part, lengths}
use Rattle.logger_wire.proofs.reading.read_kind.Goals as goal

pub returns-in-Entry-clause-value : goal.returns-in-Entry-clause-value
returns-in-Entry-clause-value c =
    c.read_entry.ensures.value ∙ (an_entry c.args.grammar c.args.bytes.now ∙ ap (λ kind. placed c.args.grammar kind c.args.bytes.now) (sym c.in-Entry.is))

pub returns-in-Bytes-clause-value : goal.returns-in-Bytes-clause-value
returns-in-Bytes-clause-value c =
    c.read_bytes.ensures.value ∙ (bytes_asked c.args.grammar c.args.bytes.now ∙ ap (λ kind. placed c.args.grammar kind c.args.bytes.now) (sym c.in-Bytes.is))

pub returns-in-Part-clause-value : goal.returns-in-Part-clause-value
returns-in-Part-clause-value c =
    c.read_part.ensures.value ∙ (a_part c.args.grammar c.args.bytes.now ∙ ap (λ kind. placed c.args.grammar kind c.args.bytes.now) (sym c.in-Part.is))

pub returns-in-Lens-clause-value : goal.returns-in-Lens-clause-value
returns-in-Lens-clause-value c =
    c.read_lens.ensures.value ∙ (lengths c.args.grammar c.args.bytes.now ∙ ap (λ kind. placed c.args.grammar kind c.args.bytes.now) (sym c.in-Lens.is))
