use Rattle.std.proofs.Common.{◌≡◌, ◌++◌, map, take}
use Rattle.std.specs.List.{AllByRecursion}
use Rattle.server_trait.specs.Service.{AreBytes}
use Rattle.node_serving.specs.SentBytes.{message_to_logger}
use Rattle.node_serving.proofs.sent.send_messages.Given as goal

abbrev pub invariant-loop-i : goal.invariant-loop-i
invariant-loop-i l = (l.sent.items ≡ l.initial.sent.items ++ map message_to_logger (take l.i l.out.messages)) × AllByRecursion AreBytes (take l.i l.out.messages)
