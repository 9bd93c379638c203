use Rattle.std.proofs.Common.{◌≡◌, ◌≤◌, ◌+◌, ◌*◌, ◌-◌, ◌++◌, Bool, length, drop}
use Rattle.tcp_endpoint.specs.Packets.{byte_count}
use Rattle.wrapped_conn.proofs.Datas.{reported_of}
use Rattle.wrapped_conn.proofs.conn.Conn.send_full.Given as goal

abbrev pub invariant-loop-reported : goal.invariant-loop-reported
invariant-loop-reported g l = record {
  within : l.reported ≤ l.count;
  count : 1460 * length l.out ≡ 1460 * length l.initial.out + l.reported;
  short : byte_count l.out + 64 * length l.initial.out ≤ byte_count l.initial.out + 64 * length l.out + l.reported;
  reported : (fin : Bool) → l.out ++ reported_of l.self (l.start + l.reported) (drop (l.from + l.reported) l.self.endpoint.receiving.unread) fin
      ≡ l.initial.out ++ reported_of l.self l.start (drop l.from l.self.endpoint.receiving.unread) fin;
}

abbrev pub decreases-loop-reported : goal.decreases-loop-reported
decreases-loop-reported g l = l.count - l.reported
