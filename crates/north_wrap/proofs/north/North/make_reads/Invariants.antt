use Rattle.std.proofs.Common.{◌+◌, ◌-◌, ◌^◌, ◌≤◌, length}
use Rattle.north_wrap.specs.NorthState.{HasRead}
use Rattle.north_wrap.specs.Sockets.{reader}
use Rattle.north_wrap.proofs.north.North.make_reads.Given as goal

abbrev pub invariant-loop-size : goal.invariant-loop-size
invariant-loop-size g l =
    HasRead g.S.Service.after (reader g.K.Socket.unread g.K.Socket.has_end g.K.Socket.after_read) l.una l.initial.self l.initial.sock l.news l.self l.sock
    × (l.self.read + length l.self.rest + length (g.K.Socket.unread l.sock) ≤ 2 ^ 24)

abbrev pub decreases-loop-size : goal.decreases-loop-size
decreases-loop-size g l = 32 - length l.self.reads
