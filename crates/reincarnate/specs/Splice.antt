-- The parts of a connection at the end of a restart, which are at the point of its entry.
use Rattle.limits.specs.Limits.{longest_stream}
use Rattle.std.specs.Prelude.{◌≡◌, ℕ, ◌+◌, ◌<◌, ◌≤◌, ◌^◌, length, min}
use Rattle.ft_io.specs.declared.Addr.{Addr}
use Rattle.ft_io.specs.declared.Key.{Key}
use Rattle.tcp_rules.specs.Profile.{Profile, plain}
use Rattle.server_trait.specs.Service.{Machine}
use Rattle.ft_model.specs.Log.{Entry}
use Rattle.ft_model.specs.Offset.{one_if}
use Rattle.ft_model.specs.Restart.{point_of, resumed_at}
use Rattle.tcp_endpoint.specs.Tcb.{Tcb}
use Rattle.tcp_rules.specs.Timestamping.{resumed_with}
use Rattle.south_wrap.specs.SouthState.{SouthState, resumed_south}
use Rattle.south_wrap.specs.SouthPoint.{south_at}
use Rattle.north_wrap.specs.NorthState.{NorthState, resumed_north}
use Rattle.connection_laws.specs.Splice.{spliced_measuring, delta_from}
use Rattle.connection_laws.specs.Parts.{PartsStand}
use Rattle.wrapped_conn.specs.NewConnection.{joined_conn_in}
use Rattle.wrapped_conn.specs.ConnState.{ConnState}
use Rattle.reincarnate.specs.Progress.{ReplayedState}
use Rattle.log_replay.specs.LoggedHead.{IsSegmentSize, has_end}

pub record SplicedState (S : Type 0) : Type 0 where
  pub profile : Profile  -- the server's profile
  pub boot : ℕ  -- the server's boot number
  pub key : Key  -- the client's address and port
  pub local : Addr  -- the server's address
  pub south : SouthState  -- the wrapper between the client and TCP
  pub endpoint : Tcb  -- TCP, which has never seen the client
  pub north : NorthState S  -- the wrapper between TCP and the service

-- the connection that `hand_on` makes of the parts
abbrev pub conn_of : {S : Type 0} → SplicedState S → ConnState S
conn_of s = joined_conn_in s.profile s.boot s.key s.local s.south s.endpoint s.north

-- output continues after what the client has acknowledged of it. A FIN is retransmitted even if it was acknowledged
abbrev pub proceeds_at : {S : Type 0} → ReplayedState S → ℕ
proceeds_at r = min r.head.acked r.replay.made

-- the units of output that an earlier incarnation may have sent: what the service has made, and one more if it has closed
abbrev pub made_units : {S : Type 0} → ReplayedState S → ℕ
made_units r = r.replay.made + one_if r.replay.closed

abbrev pub south_from : {S : Type 0} → (i : ℕ) → ReplayedState S → SouthState
south_from i r = record (resumed_south r.head.cisn r.head.sisn r.head.length (made_units r) (has_end r.head) (proceeds_at r) i) { read = r.cuts.sum }

abbrev pub north_from : {S : Type 0} → ReplayedState S → NorthState S
north_from r = resumed_north r.replay.service r.replay.held r.replay.pending r.cuts.count r.cuts.sum r.replay.made r.cuts.ended r.replay.closed

-- TCP has the initial sequence number i, and measures round trips anew if the profile measures them. No value is echoed until a segment brings one
abbrev pub spliced_from_in : {S : Type 0} → Profile → (boot : ℕ) → Addr → (i : ℕ) → ReplayedState S → SplicedState S
spliced_from_in profile boot local i r = record {
  profile = profile;
  boot = boot;
  key = r.head.key;
  local = local;
  south = record (south_from i r) { timestamping = resumed_with profile.timestamps r.head.mss };
  endpoint = spliced_measuring profile.measures r.head.key local r.head.cisn r.head.length r.head.mss i (has_end r.head);
  north = north_from r;
}

abbrev pub spliced_from : {S : Type 0} → (boot : ℕ) → Addr → (i : ℕ) → ReplayedState S → SplicedState S
spliced_from = spliced_from_in plain

-- They are at the entry's point: the wrapper with delta = sisn + u - i modulo 2^32, where u is how much of the output the client has acknowledged; TCP where
-- its next numbers are cisn + 1 + T and i + 1, where T is the units taken; and the service with the output from u on. TCP has the server's address, and the
-- segment size is one that the log keeps
pub record IsSplicedIn {S : Type 0} (profile : Profile) (service : Machine S) (e : Entry) (i : ℕ) (s : SplicedState S) : Type 0 where
  pub profile_is : s.profile ≡ profile
  pub key : s.key ≡ e.key
  pub short : length e.bytes ≤ longest_stream
  pub segments : IsSegmentSize e.mss
  pub local : s.endpoint.local ≡ s.local
  pub south : s.south ≡ south_at (delta_from service e i) (point_of service profile e)
  pub parts : PartsStand service (resumed_at service e) i (delta_from service e i) (resumed_at service e) (point_of service profile e) s.north s.endpoint

abbrev pub IsSpliced : {S : Type 0} → Machine S → Entry → (i : ℕ) → SplicedState S → Type 0
IsSpliced = IsSplicedIn plain

-- the numbers of an entry and an initial sequence number are within their ranges
pub record EntryNumbersFit {S : Type 0} (r : ReplayedState S) (i : ℕ) : Type 0 where
  pub stream : r.head.length ≤ longest_stream
  pub segments : IsSegmentSize r.head.mss
  pub sisn : r.head.sisn < 2 ^ 32
  pub i_fits : i < 2 ^ 32
