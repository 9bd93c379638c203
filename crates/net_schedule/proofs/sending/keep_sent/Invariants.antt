use Rattle.std.proofs.Common.{◌≡◌, take}
use Rattle.schedule_network.specs.StoredPackets.{with_wires}
use Rattle.net_schedule.proofs.sending.keep_sent.Given as goal

abbrev pub invariant-loop-packet : goal.invariant-loop-packet
invariant-loop-packet l = l.packets ≡ with_wires l.keys l.initial.packets (take l.packet-index l.sent)
