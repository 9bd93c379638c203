use Rattle.std.proofs.Common.{◌≡◌, map, take}
use Rattle.lasting_world.specs.Guests.{new_guest}
use Rattle.lasting_world.proofs.guest.new_guests.Given as goal

abbrev pub invariant-loop-line : goal.invariant-loop-line
invariant-loop-line l = l.guests.items ≡ map (new_guest l.server) (take l.line-index l.lines)
