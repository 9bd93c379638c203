use Rattle.std.proofs.Common.{◌++◌, ◌∷◌, [], ap, ◌∙◌, arith, length-take}
use Rattle.std.proofs.lemmas.Bool.{OnTrue_at}
use Rattle.wrapped_conn.proofs.leaving.append_stamped.Goals as goal

pub returns-clause-appended : goal.returns-clause-appended
returns-clause-appended c = λ segment is.
    let size = length-take c.in-Some.len c.outward_with_timestamps.new.out in
    OnTrue_at (c.push_longer.ensures.fits.1 (omega (arith, c.requires.count), omega (arith, c.requires.bytes, c.in-Some.ensures.most, size))) c.push_longer.ensures.pushed
    ∙ ap (λ packet. c.args.out.now ++ packet ∷ []) (c.in-Some.ensures.canonical segment is)
