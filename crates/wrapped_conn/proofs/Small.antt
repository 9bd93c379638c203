-- The counts of a sound connection are within a stream.
use Rattle.std.proofs.Common.{◌≤◌, ◌^◌, length, arith}
use Rattle.wrapped_conn.specs.ConnState.{ConnState}
use Rattle.wrapped_conn.specs.Numbers.{bytes_taken}
use Rattle.wrapped_conn.specs.Sound.{IsSound}

pub taken_small : {S : Type 0} (c : ConnState S) → IsSound c → bytes_taken c ≤ 2 ^ 24
taken_small c s = omega (arith, s.parts.read, s.parts.limit, s.parts.tcp.bounds.taken)

pub buffered : {S : Type 0} (c : ConnState S) → IsSound c → length c.endpoint.receiving.unread ≤ 65535
buffered c s = s.parts.tcp.buffered
