use Rattle.std.proofs.Common.{take}
use Rattle.lasting_world.specs.Around.{kept_around}
use Rattle.lasting_world.specs.Sending.{StoresWires}
use Rattle.lasting_world.proofs.sending.store_sent.Given as goal

-- the first of them are stored
abbrev pub invariant-loop-packet : goal.invariant-loop-packet
invariant-loop-packet l = StoresWires (take l.packet-index l.sent) (kept_around l.initial.around) (kept_around l.around)
