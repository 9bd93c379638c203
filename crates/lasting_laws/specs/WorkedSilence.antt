-- Clients that say nothing, at a few thresholds: at which ticks they are asked, and when the server lets go of them.
use Rattle.std.specs.Prelude.{ℕ, zero, suc, true, filter, find, Option, List, [], ◌∷◌, ◌++◌}
use Rattle.tcp_rules.specs.Profile.{plain}
use Rattle.ft_model.specs.Point.{Point, blank_point}
use Rattle.ft_model.specs.WorkedRuns.Common.{key}
use Rattle.lasting_laws.specs.Watching.{Origin, Watch, is_let_go, is_asked}

-- the ticks from the first to this one
abbrev pub ticks_to : ℕ → List ℕ
ticks_to zero = []
ticks_to (suc n) = ticks_to n ++ suc n ∷ []

-- a watch after so many ticks without a packet
abbrev pub silent_for : Origin → ℕ → Watch
silent_for origin ticks = record { origin = origin; age = ticks; silent = ticks }

-- a connection whose SYN is acknowledged, and one whose SYN isn't
abbrev pub open_point : Point
open_point = record (blank_point plain key 1000 5000 536) { syn_acked = true }

abbrev pub half_open_point : Point
half_open_point = blank_point plain key 1000 5000 536

-- the ticks at which the client is asked, and the first at which the server lets go
abbrev pub asked_at : (silence : ℕ) → Origin → Point → (last : ℕ) → List ℕ
asked_at silence origin p last = filter (λ tick. is_asked silence (silent_for origin tick) p) (ticks_to last)

abbrev pub let_go_at : (silence : ℕ) → Origin → Point → (last : ℕ) → Option ℕ
let_go_at silence origin p last = find (λ tick. is_let_go silence (silent_for origin tick) p) (ticks_to last)
