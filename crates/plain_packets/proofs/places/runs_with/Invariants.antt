use Rattle.std.specs.Prelude.{◌≡◌, ◌≤◌, ◌+◌, false}
use Rattle.plain_packets.proofs.Runs.{follows, runs_at}
use Rattle.plain_packets.proofs.places.runs_with.Given as goal

abbrev pub invariant-loop-place : goal.invariant-loop-place
invariant-loop-place l = (l.met + runs_at false l.place l.places.items ≡ runs_at false l.at l.places.items) × (l.is_within ≡ follows false l.place l.places.items)
    × (l.met + l.at ≤ l.place)
