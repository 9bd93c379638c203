use Rattle.std.proofs.Common.{◌≡◌, length}
use Rattle.lasting_lives.proofs.Lived.{older_to}
use Rattle.lasting_lives.proofs.lives.tick_all.Given as goal

abbrev pub invariant-loop-i : goal.invariant-loop-i
invariant-loop-i l = (length l.lives.entries ≡ l.i-end) × (l.lives.entries ≡ older_to l.i l.initial.lives.entries)
