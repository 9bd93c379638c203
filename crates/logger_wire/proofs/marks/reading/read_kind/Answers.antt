use Rattle.std.proofs.Common.{◌≡◌, true, length, arith}
use Rattle.seq_arith.specs.Bytes.{word_at}
use Rattle.seq_arith.specs.Checksum.{checksum}
use Rattle.seq_arith.specs.MarkGrammar.{has_length}
use Rattle.logger_wire.specs.MarkValue.{body_of}
use Rattle.logger_wire.proofs.MarkRead.{is_refused, is_read, is_sendable}
use Rattle.logger_wire.proofs.marks.reading.read_kind.Goals as goal

pub returns-then-not-is_sound-clause-value : goal.returns-then-not-is_sound-clause-value
returns-then-not-is_sound-clause-value c =
    let datagram_of : word_at c.args.bytes.now 4 ≡ length c.args.bytes.now = grind arith
    in let size : has_length c.args.kind (length c.args.bytes.now) ≡ true = grind arith
    in let sum : checksum c.args.bytes.now ≡ 0 = grind arith
    in is_refused c.args.kind c.args.bytes.now c.huge.result (body_of c.read_body.result) datagram_of size sum c.huge.ensures c.read_body.ensures (grind arith)

pub returns-clause-value : goal.returns-clause-value
returns-clause-value c =
    let datagram_of : word_at c.args.bytes.now 4 ≡ length c.args.bytes.now = grind arith
    in let size : has_length c.args.kind (length c.args.bytes.now) ≡ true = grind arith
    in let sum : checksum c.args.bytes.now ≡ 0 = grind arith
    in is_read c.args.kind c.args.bytes.now c.huge.result (body_of c.read_body.result) datagram_of size sum c.huge.ensures c.read_body.ensures (grind arith)

pub returns-clause-sendable : goal.returns-clause-sendable
returns-clause-sendable c =
    let size : has_length c.args.kind (length c.args.bytes.now) ≡ true = grind arith
    in is_sendable c.args.kind c.args.bytes.now c.huge.result (body_of c.read_body.result) (λ i. omega (arith, c.type_inv.bytes i)) size (omega arith)
    c.read_body.ensures (grind arith)
