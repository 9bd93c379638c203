use Rattle.std.proofs.lemmas.Result.{on_ok_weaker}
use Rattle.disk.proofs.excluded.a_short_write_is_taken_for_all.Goals as goal

pub returns : goal.returns
returns g c = on_ok_weaker c.append.result (λ becomes. (becomes c.requires).0) c.append.ensures.appended
