use Rattle.std.proofs.Common.{◌≡◌, ◌∙◌, ◌≤◌, ap, false, length, arith}
use Rattle.std.specs.Prelude.{nat_lt}
use Rattle.seq_arith.specs.Bytes.{word_at}
use Rattle.seq_arith.specs.Checksum.{checksum}
use Rattle.long_laws.specs.ForgetGrammar.{body_in}
use Rattle.forget_wire.specs.Value.{kind_said, body_of}
use Rattle.forget_wire.proofs.ForgetRead.{is_read, is_sendable}
use Rattle.forget_wire.proofs.reading.read_kind.Goals as goal

pub returns-clause-value : goal.returns-clause-value
returns-clause-value c =
    let says : word_at c.args.bytes.now 4 ≡ length c.args.bytes.now = grind arith in
    let size : length c.args.bytes.now ≡ 30 = grind arith in
    let sum : checksum c.args.bytes.now ≡ 0 = grind arith in
    let begun : nat_lt c.huge-boot.result 1 ≡ false = grind arith in
    is_read (kind_said c.args.kind) c.args.bytes.now c.huge-boot.result (body_of c.of.result) says size sum c.huge-boot.ensures begun
    (c.of.ensures ∙ ap (body_in (kind_said c.args.kind)) c.read_named.ensures)

pub returns-clause-sendable : goal.returns-clause-sendable
returns-clause-sendable c =
    let begun : 1 ≤ c.huge-boot.result = omega arith in
    is_sendable (kind_said c.args.kind) c.args.bytes.now c.huge-boot.result (body_of c.of.result) (λ i. omega (arith, c.type_inv.bytes i)) (omega arith) begun
    (c.of.ensures ∙ ap (body_in (kind_said c.args.kind)) c.read_named.ensures)
