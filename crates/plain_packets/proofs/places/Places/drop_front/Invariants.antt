use Rattle.std.specs.Prelude.{◌≡◌, drop}
use Rattle.plain_packets.proofs.places.Places.drop_front.Given as goal

abbrev pub invariant-loop-place : goal.invariant-loop-place
invariant-loop-place l = l.self ≡ drop l._place l.initial.self
