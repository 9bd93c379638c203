use Rattle.std.proofs.Common.{[], ◌∷◌, ◌∙◌, ap}
use Rattle.logger_wire.specs.Spelling.{put}
use Rattle.logger_wire.proofs.Placing.{flag_byte}
use Rattle.logger_wire.proofs.places.put_flag.Goals as goal

pub returns : goal.returns
returns c =
    c.put_bytes.ensures ∙ ap (λ new. put c.args.at new c.args.out.now) (ap (λ n. n ∷ []) c.from.ensures ∙ flag_byte c.args.is_set)
