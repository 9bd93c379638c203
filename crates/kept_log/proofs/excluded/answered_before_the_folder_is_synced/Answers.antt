use Rattle.std.proofs.Common.{◌≡◌, List, ℕ, true, false, [], ◌∷◌}
use Rattle.std.proofs.lemmas.Result.{IfOk-weaker}
use Rattle.ft_io.specs.Reported.{Reports}
use Rattle.seq_arith.specs.MessageGrammar.{number_bytes}
use Rattle.disk.specs.declared.calls.DeskCall.TheVariants.{OnDisk}
use Rattle.disk.specs.declared.calls.DiskCall.TheVariants.{Synced, Replaced}
use Rattle.kept_log.specs.Compaction.{IsCompacted}
use Rattle.kept_log.specs.Format.{front}
use Rattle.kept_log.proofs.excluded.answered_before_the_folder_is_synced.Goals as goal

pub returns : goal.returns
returns g c =
    IfOk-weaker c.compact.result
    (λ done. done ≡ true → IsCompacted (number_bytes 8 c.args.made) c.args.kept.now.tip c.args.kept.now.log c.compact.new.self.tip (g.K.Disk.reported c.args.desk.now)
    (g.K.Disk.reported c.compact.new.desk))
    (λ done. done ≡ true → (bytes : List ℕ) × Reports (g.K.Disk.reported c.args.desk.now) (g.K.Disk.reported c.compact.new.desk) (OnDisk (Replaced bytes false) ∷ OnDisk (Synced false) ∷ []))
    (λ done k is. (front (number_bytes 8 c.args.made) (k is).bodies, (k is).reports)) c.compact.ensures.compacted
