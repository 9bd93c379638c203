-- A journal whose file is replaced by a new one with a snapshot of its log: with the messages that make the log again.
use Rattle.std.specs.Prelude.{◌≡◌, ℕ, false, Option, List, [], ◌∷◌}
use Rattle.ft_io.specs.Reported.{Reports}
use Rattle.ft_model.specs.Log.{Log}
use Rattle.disk.specs.Remains.{IsFrontOf}
use Rattle.disk.specs.declared.calls.DeskCall.{DeskCall}
use Rattle.disk.specs.declared.calls.DiskCall.{DiskCall}
use Rattle.disk.specs.declared.calls.DiskCall.TheVariants.{Synced, Replaced}
use Rattle.disk.specs.CallRecord.{on_disk}
use Rattle.kept_log.specs.Format.{front, tip_of}
use Rattle.kept_log.specs.JournaledLog.{HasLog}
use Rattle.kept_log.specs.declared.tip.Tip.{Tip}

-- if the blocks before this place have the log, so have those of a new file
abbrev pub HasSameLog : (tip : Tip) (log : Log) (made : List ℕ) (bodies : List (List ℕ)) → Type 0
HasSameLog tip log made bodies = (time : List ℕ) (old : List (List ℕ)) → HasLog time old tip log → HasLog made bodies (tip_of made bodies) log

-- the calls that put a new file, which is on the disk, in the old one's place: it takes the name, and the folder is synced
abbrev pub replacing : (made : List ℕ) (bodies : List (List ℕ)) → List DiskCall
replacing made bodies = Replaced (front made bodies) false ∷ Synced false ∷ []

-- a new file with the log of the old one is put in its place
pub record IsCompacted (made : List ℕ) (tip : Tip) (log : Log) (next : Tip) (old new : Option (List DeskCall)) : Type 0 where
  pub bodies : List (List ℕ)
  pub same_log : HasSameLog tip log made bodies
  pub next_is : next ≡ tip_of made bodies
  pub reports : Reports old new (on_disk (replacing made bodies))

-- .. or that failed: a prefix of these calls, whose last call may have failed
pub record IsCutCompaction (made : List ℕ) (tip : Tip) (log : Log) (old new : Option (List DeskCall)) : Type 0 where
  pub bodies : List (List ℕ)
  pub done : List DiskCall
  pub same_log : HasSameLog tip log made bodies
  pub front : IsFrontOf (replacing made bodies) done
  pub reports : Reports old new (on_disk done)
