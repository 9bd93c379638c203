use Rattle.std.proofs.Common.{◌∙◌, ap, arith}
use Rattle.logger_wire.specs.Spelling.{put}
use Rattle.logger_wire.proofs.Placing.{byte_bytes}
use Rattle.logger_wire.proofs.places.put_byte.Goals as goal

pub returns : goal.returns
returns c = c.put_bytes.ensures ∙ ap (λ new. put c.args.at new c.args.out.now) (byte_bytes c.args.n (omega (arith, c.ranges.n.fits)))
