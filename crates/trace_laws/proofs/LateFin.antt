-- The trace with the late FIN: by the law no moment leads there.
use Rattle.std.proofs.Common.{◌≡◌, ℕ, ◌<◌, ◌^◌, refl, List, [], ◌∷◌, ◌++◌, length, arith}
use Rattle.std.specs.List.{AllByRecursion}
use native.Mathlib.Bridge.{IsLe}
use Rattle.ft_model.specs.Restart.{IsSoundEntry}
use Rattle.ft_model.specs.World.{Happens}
use Rattle.ft_model.specs.WeakerLaw.{IsWrongOnce}
use Rattle.ft_model.specs.WorkedRuns.Common.{echo}
use Rattle.ft_model.specs.WorkedRuns.FirstPath as path
use Rattle.ft_model.proofs.Turns.{laws}
use Rattle.ft_model.proofs.FirstPath.{opening_is_joint}
use Rattle.trace_laws.specs.LateFin as row
use Rattle.trace_laws.proofs.FarPacket.{small}
use Rattle.trace_laws.proofs.Sound.{logged_sound}

pub not_sound : (bytes : List ℕ) → length bytes ≡ 2 ^ 24 → AllByRecursion (IsSoundEntry echo) (row.wrong bytes).world.log.entries → ⊥
not_sound bytes whole s = let low : length bytes < 2 ^ 24 = s.0.fin refl in omega (arith, low, whole)

lawful : Happens echo path.moment_10.world (path.moment_6).event (path.packet_5 ∷ []) (record path.moment_10.world { packets = path.moment_10.world.packets ++ path.packet_5 ∷ [] })
unfolding laws IsLe
lawful = (path.packet_4, refl, (refl, refl))

pub wrong_once : (bytes : List ℕ) → length bytes ≡ 2 ^ 24 → IsWrongOnce echo path.start [] (row.wrong bytes) path.opening_trace
wrong_once bytes whole = record {
  before = opening_is_joint echo;
  refused = λ h. not_sound bytes whole (logged_sound echo small path.start (row.wrong bytes ∷ path.opening_trace) (opening_is_joint echo, h));
  otherwise = (path.packet_5 ∷ [], record path.moment_10.world { packets = path.moment_10.world.packets ++ path.packet_5 ∷ [] }, lawful);
  after = tt;
}
