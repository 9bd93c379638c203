-- When a logger replaces its journal's file by a new one: once it is longer than `least` bytes, and than twice its length after the last time.
use Rattle.std.specs.Prelude.{ℕ, ◌*◌, ◌<◌, List, [], ◌∷◌}
use Rattle.kept_log.specs.Format.{tip_of}
use Rattle.journal_parts.specs.Rounds.{Place, Step, AreSteps, place_after}
use Rattle.journal_parts.specs.Rounds.Step.{Turned, Compacted, Stayed}

abbrev pub IsDue : (least last length : ℕ) → Type 0
IsDue least last length = (least < length) × (2 * last < length)

-- the file's length after the last time that it was to be replaced, and 0 before the first
abbrev pub last_length : Place → List Step → ℕ
last_length start [] = 0
last_length start (Turned round ∷ earlier) = last_length start earlier
last_length start (Compacted made bodies ∷ earlier) = (tip_of made bodies).end
last_length start (Stayed ∷ earlier) = (place_after start earlier).tip.end

-- after steps the file is due
abbrev pub IsDueAfter : (least : ℕ) → Place → List Step → Type 0
IsDueAfter least start steps = IsDue least (last_length start steps) (place_after start steps).tip.end

-- the file is to be replaced exactly where it is due: no round begins then, and otherwise only rounds do
abbrev pub AreTimely : (least : ℕ) → Place → List Step → Type 0
AreTimely least start [] = Unit {0}
AreTimely least start (Turned round ∷ earlier) = (IsDueAfter least start earlier → ⊥) × AreTimely least start earlier
AreTimely least start (Compacted made bodies ∷ earlier) = IsDueAfter least start earlier × AreTimely least start earlier
AreTimely least start (Stayed ∷ earlier) = IsDueAfter least start earlier × AreTimely least start earlier

-- steps of a logger that replaces a file longer than this
abbrev pub AreStepsBy : (least : ℕ) → Place → List Step → Type 0
AreStepsBy least start steps = AreSteps start steps × AreTimely least start steps
