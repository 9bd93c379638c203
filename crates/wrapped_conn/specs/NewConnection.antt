-- How a connection begins.
use Rattle.limits.specs.Limits.{longest_stream}
use Rattle.std.specs.Prelude.{ℕ, false, ◌+◌, ◌-◌, ◌%◌, ◌^◌, Some, List, [], None}
use Rattle.ft_io.specs.declared.Addr.{Addr}
use Rattle.ft_io.specs.declared.Key.{Key}
use Rattle.seq_arith.specs.Number.{number_at, distance}
use Rattle.seq_arith.specs.Offset.{one_if}
use Rattle.seq_arith.specs.Packet.{Segment}
use Rattle.tcp_rules.specs.Profile.{Profile, plain}
use Rattle.tcp_rules.specs.Timestamping.{fitting}
use Rattle.tcp_rules.specs.declared.timestamping.Timestamping.{Timestamping}
use Rattle.tcp_rules.specs.declared.timestamping.Timestamping.TheVariants.{Off}
use Rattle.south_wrap.specs.SouthState.{SouthState, first_south}
use Rattle.north_wrap.specs.NorthState.{NorthState, fresh_north}
use Rattle.tcp_endpoint.specs.Arrival.{received}
use Rattle.tcp_endpoint.specs.Tcb.{Tcb, listening_measuring}
use Rattle.wrapped_conn.specs.declared.stage.ConnStage.TheVariants.{Live}
use Rattle.wrapped_conn.specs.ConnState.{ConnState}
use Rattle.wrapped_conn.specs.Numbers.{has_fin}

-- a connection joined from three parts at one point. The units known to be logged there were fetched: bytes, and one more for a FIN
abbrev pub joined_conn_in : {S : Type 0} → Profile → (boot : ℕ) → Key → Addr → SouthState → Tcb → NorthState S → ConnState S
joined_conn_in profile boot key local south endpoint north = record {
  boot = boot;
  key = key;
  local = local;
  south = south;
  endpoint = endpoint;
  north = north;
  fetched = distance (number_at south.cisn south.answered) ((south.cisn + 1) % 2 ^ 32) - one_if (has_fin endpoint.name);
  end_ticks = 0;
  reset = false;
  stage = Live;
  delays = profile.delays;
  batches = profile.batches;
}

abbrev pub joined_conn : {S : Type 0} → (boot : ℕ) → Key → Addr → SouthState → Tcb → NorthState S → ConnState S
joined_conn = joined_conn_in plain

-- the client's SYN
abbrev pub syn : Key → Addr → (cisn mss : ℕ) → Segment
syn key local cisn mss = record {
  head = record {
    src = key.ip;
    dst = local.ip;
    sport = key.port;
    dport = local.port;
    seq = cisn;
    ack = 0;
    flags = 2;
    window = 0;
    mss = Some mss;
    timestamps = None;
  };
  payload = [];
}

-- the south wrapper of a new connection, whose SYN asked for these timestamps
abbrev pub south_opened : Timestamping → (cisn sisn mss : ℕ) → SouthState
south_opened timestamping cisn sisn mss = record (first_south cisn sisn) { timestamping = fitting timestamping mss }

-- a new connection: a fresh TCP has received its SYN, and its service, fresh too, has written its greeting
unfoldable pub first_conn_in : {S : Type 0} → Profile → Timestamping → (boot : ℕ) → Key → Addr → (cisn sisn mss : ℕ) → S → (greeting : List ℕ) → ConnState S
first_conn_in profile timestamping boot key local cisn sisn mss service greeting =
    joined_conn_in profile boot key local (south_opened timestamping cisn sisn mss)
    (received (listening_measuring profile.measures local sisn longest_stream) (syn key local cisn mss)) (fresh_north service greeting)

abbrev pub first_conn : {S : Type 0} → (boot : ℕ) → Key → Addr → (cisn sisn mss : ℕ) → S → (greeting : List ℕ) → ConnState S
first_conn = first_conn_in plain Off
