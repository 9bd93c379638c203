use Rattle.std.proofs.Common.{◌≡◌, take}
use Rattle.schedule_network.specs.Loggers.{with_datagrams}
use Rattle.schedule_network.proofs.answers.keep_datagrams.Given as goal

abbrev pub invariant-loop-i : goal.invariant-loop-i
invariant-loop-i l = l.packets ≡ with_datagrams l.part l.initial.packets (take l.i l.sent)
