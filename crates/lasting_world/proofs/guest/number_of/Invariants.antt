use Rattle.std.proofs.Common.{◌≡◌, ◌+◌, drop}
use Rattle.lasting_world.specs.Guests.{last_come}
use Rattle.lasting_world.proofs.guest.number_of.Given as goal

abbrev pub invariant-loop-i : goal.invariant-loop-i
invariant-loop-i l = last_come (l.i + 1) l.key l.found (drop l.i l.guests) ≡ last_come 1 l.key 0 l.guests
