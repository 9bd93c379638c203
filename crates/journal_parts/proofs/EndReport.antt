-- How an end is told.
use Rattle.std.proofs.Common.{◌≡◌, inl, inr, ℕ, Option, List, Result, Ok, Err, OnOk, OnErr}
use Rattle.std.specs.Io.KnownBytes.{Appends}
use Rattle.ft_io.specs.Faults.{Rose}
use Rattle.ft_io.specs.Sink.{AppendsFront}
use Rattle.ft_io.specs.declared.Failed.{Failed}
use Rattle.journal_parts.specs.declared.status.ProcessEnd.{ProcessEnd}
use Rattle.journal_parts.specs.Ends.{code_of, text_of, ReportsEnd}

-- the line was written, or failed to be
pub reported_end : (end : ProcessEnd) (written : Result (Unit {0}) Failed) (err_old err_new : Option (List ℕ)) (faults_old faults_new code : ℕ)
    → OnOk written (Appends err_old err_new (text_of end)) → OnErr written (AppendsFront err_old err_new (text_of end)) → OnErr written (Rose faults_old faults_new)
    → OnOk written (code ≡ code_of end) → OnErr written (code ≡ 5) → ReportsEnd end err_old err_new faults_old faults_new code
reported_end end (Ok _) err_old err_new faults_old faults_new code whole front rose ok err = inl (ok, whole)
reported_end end (Err _) err_old err_new faults_old faults_new code whole front rose ok err = inr (err, front, rose)
