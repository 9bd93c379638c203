use Rattle.std.proofs.lemmas.Result.{on_ok_weaker}
use Rattle.disk.proofs.excluded.a_cut_keeps_the_length.Goals as goal

pub returns : goal.returns
returns g c = on_ok_weaker c.cut.result (λ becomes. (becomes c.requires).0) c.cut.ensures.cut
