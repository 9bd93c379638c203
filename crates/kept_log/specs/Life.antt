-- What a logger does to its file from one opening to its death: it cuts off what an earlier death has left, commits rounds, and dies at any moment.
use Rattle.std.specs.Prelude.{List, [], ◌∷◌, ◌++◌, ℕ}
use Rattle.disk.specs.declared.calls.DiskCall.{DiskCall}
use Rattle.kept_log.specs.JournaledLog.{committing, tip_after, with_round}
use Rattle.kept_log.specs.declared.tip.Tip.{Tip}

-- the blocks after rounds, the oldest first
abbrev pub with_rounds : List (List ℕ) → List (List ℕ) → List (List ℕ)
with_rounds bodies [] = bodies
with_rounds bodies (round ∷ rounds) = with_rounds (with_round bodies round) rounds

-- the calls that commit them
abbrev pub committed : Tip → List (List ℕ) → List DiskCall
committed tip [] = []
committed tip (round ∷ rounds) = committing tip round ++ committed (tip_after tip round) rounds
