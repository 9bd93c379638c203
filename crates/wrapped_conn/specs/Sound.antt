-- The invariant of a connection from its beginning on, whatever arrives.
use Rattle.seq_arith.specs.Packet.{timestamps_length}
use Rattle.tcp_rules.specs.declared.timestamping.Timestamping.{Timestamping}
use Rattle.tcp_rules.specs.declared.timestamping.Timestamping.TheVariants.{Off, Awaited, Echoes}
use Rattle.limits.specs.Limits.{largest_segment, longest_stream, most_units}
use Rattle.std.specs.Prelude.{◌≡◌, ℕ, Bool, true, false, ◌+◌, ◌≤◌, ◌<◌, ◌%◌, ◌^◌, max, length}
use Rattle.seq_arith.specs.Number.{distance}
use Rattle.seq_arith.specs.Offset.{one_if}
use Rattle.north_wrap.specs.NorthState.{NorthState}
use Rattle.tcp_endpoint.specs.declared.states.StateName.{StateName}
use Rattle.tcp_endpoint.specs.declared.states.StateName.TheVariants.{Listen, SynSent}
use Rattle.tcp_endpoint.specs.Tcb.{Tcb}
use Rattle.endpoint_laws.specs.Laws.{IsBounded}
use Rattle.wrapped_conn.specs.ConnState.{ConnState}
use Rattle.wrapped_conn.specs.Numbers.{bytes_taken}
use Rattle.wrapped_conn.specs.LoggerMessages.{AreWritable}

-- the states of an endpoint that has received a SYN
abbrev pub has_peer : StateName → Bool
has_peer Listen = false
has_peer SynSent = false
has_peer name = true

-- TCP's part of it
pub record IsSoundTcp (e : Tcb) : Type 0 where
  pub bounds : IsBounded e
  pub buffered : length e.receiving.unread ≤ 65535
  pub begun : has_peer e.name ≡ true
  pub fin_last : e.sending.fin_sent ≡ true → e.sending.closed ≡ true

-- the part of the north wrapper and TCP, where `fetched` bytes were fetched: what is read is what TCP has given and what was fetched, and all output that isn't
-- given has room in the stream
pub record AreSound {S : Type 0} (fetched : ℕ) (n : NorthState S) (e : Tcb) : Type 0 where
  pub tcp : IsSoundTcp e
  pub limit : e.receiving.limit + fetched ≤ longest_stream
  pub read : max fetched n.read ≡ e.receiving.read + fetched
  pub rest : n.read + length n.rest ≡ e.receiving.read + fetched
  pub made : n.run.made ≤ longest_stream
  pub written : e.sending.closed ≡ false → e.sending.una + length e.sending.held + length n.run.pending ≤ n.run.made
  pub count : n.count ≤ n.read + one_if n.ended
  pub writable : AreWritable n.reads

-- whether segments may carry timestamps, and the value that they echo; 0 where none is
abbrev pub may_stamp : Timestamping → Bool
may_stamp Off = false
may_stamp Awaited = true
may_stamp (Echoes recent) = true

abbrev pub echoed : Timestamping → ℕ
echoed Off = 0
echoed Awaited = 0
echoed (Echoes recent) = recent

-- segments leave room for timestamps where they may carry them
abbrev pub LeavesRoom : (mss : ℕ) → Timestamping → Type 0
LeavesRoom mss timestamping = may_stamp timestamping ≡ true → mss + timestamps_length ≤ largest_segment

-- the units of output that earlier incarnations sent and the client acknowledged
abbrev pub swallowed : {S : Type 0} → ConnState S → ℕ
swallowed c = distance ((c.endpoint.sending.iss + c.south.delta) % 2 ^ 32) c.south.sisn

pub record IsSound {S : Type 0} (c : ConnState S) : Type 0 where
  pub parts : AreSound c.fetched c.north c.endpoint
  pub boot : 1 ≤ c.boot
  pub sisn : c.south.sisn < 2 ^ 32
  pub fetched : c.south.fetched ≡ c.fetched
  pub read : c.south.read ≡ c.north.read
  pub taken : c.south.taken ≤ bytes_taken c
  pub begins : swallowed c ≤ longest_stream
  pub sent : c.south.sent ≤ swallowed c + c.endpoint.sending.sent
  pub answered : c.south.answered ≤ most_units
  pub roomy : LeavesRoom c.endpoint.sending.mss c.south.timestamping
