use Rattle.std.proofs.Common.{◌≡◌, ◌∙◌, arith}
use Rattle.std.proofs.lemmas.Grind.{common_steps}
use Rattle.seq_arith.specs.MessageGrammar.{reading_by, reading_of}
use Rattle.logger_wire.specs.Value.{seen}
use Rattle.logger_wire.proofs.Placed.{placed_is}
use Rattle.logger_wire.proofs.Sendable.{all_sendable}
use Rattle.logger_wire.proofs.reading.read_msg_by.Goals as goal

pub returns-in-Some-clause-value : goal.returns-in-Some-clause-value
unfolding reading_by
returns-in-Some-clause-value c =
    let is : seen c.read_kind.result ≡ reading_of c.args.grammar c.in-Some.kind c.args.bytes.now = c.read_kind.ensures.value ∙ placed_is c.args.grammar c.in-Some.kind c.args.bytes.now
    in grind (arith, common_steps)

pub returns-in-Some-clause-sendable : goal.returns-in-Some-clause-sendable
returns-in-Some-clause-sendable c =
    all_sendable c.args.grammar c.in-Some.kind c.args.bytes.now c.read_kind.result (λ i. omega (arith, c.type_inv.bytes i))
    (c.read_kind.ensures.value ∙ placed_is c.args.grammar c.in-Some.kind c.args.bytes.now) c.read_kind.ensures.whole
