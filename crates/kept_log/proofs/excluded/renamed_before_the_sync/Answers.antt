use Rattle.std.proofs.Common.{◌≡◌, List, ℕ}
use Rattle.std.proofs.lemmas.Result.{IfOk-weaker}
use Rattle.disk.specs.Aside.{HasAside}
use Rattle.kept_log.specs.Format.{front, tip_of}
use Rattle.kept_log.proofs.Drafts.{IsSynced}
use Rattle.kept_log.proofs.excluded.renamed_before_the_sync.Goals as goal

pub returns : goal.returns
returns g c =
    IfOk-weaker c.write_snapshot.result (IsSynced c.args.made.now c.args.store.now (g.K.Desk.aside_synced c.write_snapshot.new.desk))
    (λ tip. (bodies : List (List ℕ)) × (tip ≡ tip_of c.args.made.now bodies) × HasAside (g.K.Desk.aside_synced c.write_snapshot.new.desk) (front c.args.made.now bodies))
    (λ tip w. (w.0, w.4, w.5)) c.write_snapshot.ensures.written
