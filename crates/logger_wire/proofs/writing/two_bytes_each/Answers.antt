use Rattle.std.proofs.Common.{arith, sym}
use Rattle.logger_wire.proofs.Lens.{lens_whole}
use Rattle.logger_wire.proofs.writing.two_bytes_each.Goals as goal

pub returns : goal.returns
returns c = sym (lens_whole c.args.lens.now (λ i. omega (arith, c.type_inv.lens i)) c.requires)
