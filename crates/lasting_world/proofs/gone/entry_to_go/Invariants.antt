use Rattle.std.proofs.Common.{◌≡◌}
use Rattle.ft_model.specs.Log.{entry_of}
use Rattle.schedule_network.proofs.ByKey.{found_from}
use Rattle.lasting_world.proofs.gone.entry_to_go.Given as goal

-- no entry before this place has the key
abbrev pub invariant-loop-i : goal.invariant-loop-i
invariant-loop-i l = entry_of l.key l.log ≡ found_from l.key l.log.entries l.i
