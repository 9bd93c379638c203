use Rattle.std.proofs.Common.{◌≡◌, ◌≤◌, ℕ, Bool, true, subst, arith, List, [], ◌∷◌, Result, Ok, Err}
use Rattle.std.specs.Prelude.{IfOk, OnOk}
use Rattle.ft_io.specs.Reported.{Reports}
use Rattle.journal_parts.specs.Waits.{waits_in}
use Rattle.journal_parts.proofs.excluded.never_waits.Goals as goal

one : {E : Type 0} (P : List Bool → Type 0) (r : Result ℕ E) → IfOk r (λ n. (1 ≤ n) × (n ≤ 1)) → IfOk r (λ n. P (waits_in n)) → OnOk r (P (true ∷ []))
one P (Err e) few waited = tt
one P (Ok n) few waited =
    let is : n ≡ 1 = omega (arith, few.0, few.1) in
    subst (λ m. P (waits_in m)) is waited

pub returns : goal.returns
returns g c =
    one (Reports (g.K.Disk.beside c.args.desk.now).waits (g.K.Disk.beside c.take_round.new.desk).waits) c.take_round.result c.take_round.ensures.count c.take_round.ensures.waited
