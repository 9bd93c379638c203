-- The point of a live connection: all that one incarnation of the server knows of it, and what is computed from that (RFC 9293, 3.3.1; FT-TCP, INFOCOM 2001:
-- the stable number and the delayed output). Offsets and counts are whole numbers that don't wrap. Units count bytes, and one more where the FIN of that side
-- is counted.
use Rattle.limits.specs.Limits.{buffer_size, longest_stream}
use Rattle.std.specs.Prelude.{ℕ, ℤ, Bool, false, pos, ◌+◌, ◌-◌, ◌^◌, ◌&&◌, nat_lt, max, min, sum, List, [], length, take}
use Rattle.ft_io.specs.declared.Key.{Key}
use Rattle.tcp_rules.specs.Coming.{Early, nothing_early, StandsBehind}
use Rattle.tcp_rules.specs.Congestion.{Congestion, initial_congestion}
use Rattle.tcp_rules.specs.Timing.{Timing, first_base, initial_timing}
use Rattle.tcp_rules.specs.Profile.{Profile}
use Rattle.tcp_rules.specs.declared.timestamping.Timestamping.{Timestamping}
use Rattle.tcp_rules.specs.declared.timestamping.Timestamping.TheVariants.{Off}
use Rattle.server_trait.specs.Service.{Machine, Run, reference}
use Rattle.ft_model.specs.Offset.{one_if}

pub record Point : Type 0 where
  pub key : Key
  pub cisn : ℕ  -- the client's initial sequence number
  pub sisn : ℕ  -- the server's initial sequence number, as the client knows it
  pub mss : ℕ  -- the segment size
  pub fetched : ℕ  -- the client's bytes that a restart fetched from the log; else 0
  pub fetched_output : ℕ  -- the units of output that the reads make which a restart fetched; else 0. An earlier incarnation may have sent these
  pub taken : List ℕ  -- the client's bytes that are taken, the fetched ones first
  pub fin : Bool  -- whether the client's FIN is taken
  pub early : Early  -- the client's text after the bytes taken, and its FIN, that are held until the gap before them is filled
  pub answered : ℕ  -- the client's units that are known to be logged
  pub lengths : List ℕ  -- of all reads, the fetched ones first
  pub reads_answered : ℕ  -- how many of these, from the first on, are known to be logged
  pub una : ℕ  -- SND.UNA: the units of output that are acknowledged
  pub sent : ℕ  -- SND.NXT: the units of output that are sent
  pub edge : ℕ  -- the client's right edge: nothing new is sent past it but a probe. A segment sets it to SND.UNA + SND.WND; it stays where only SND.UNA moves
  pub wl1 : ℤ  -- SND.WL1: where the segment begins that last set the edge
  pub wl2 : ℕ  -- SND.WL2: what that segment acknowledged
  pub congestion : Congestion  -- the congestion window, the slow start threshold, and the duplicate acknowledgements
  pub syn_acked : Bool  -- whether the SYN is acknowledged: an acknowledgement has counted
  pub timing : Timing  -- the estimate of the round-trip time, and the interval with which the timer starts
  pub timestamping : Timestamping  -- whether its segments carry timestamps, and which value of the client they echo
  pub delays : Bool  -- whether the ACK of text that isn't logged yet waits for the log. It never changes
  pub batches : Bool  -- whether the log answers only the last of the Data that a turn sends. It never changes
  pub interval : ℕ  -- of the timer, in ticks
  pub rest : ℕ  -- the ticks until the timer expires; 0 while it doesn't run
  pub end_ticks : ℕ  -- the end ticks counted so far, up to four
  pub reset : Bool  -- whether the client reset the connection

-- The point of a connection in which nothing has happened yet. Every other point is given by its differences from this one. Nothing else asks what the profile
-- is: the point has its fields
abbrev pub blank_point : Profile → Key → (cisn sisn mss : ℕ) → Point
blank_point profile key cisn sisn mss = record {
  key = key;
  cisn = cisn;
  sisn = sisn;
  mss = mss;
  fetched = 0;
  fetched_output = 0;
  taken = [];
  fin = false;
  early = nothing_early;
  answered = 0;
  lengths = [];
  reads_answered = 0;
  una = 0;
  sent = 0;
  edge = 0;
  wl1 = pos 0;
  wl2 = 0;
  congestion = initial_congestion profile.measures mss;
  syn_acked = false;
  timing = initial_timing profile.measures;
  timestamping = Off;
  delays = profile.delays;
  batches = profile.batches;
  interval = first_base profile.measures;
  rest = 0;
  end_ticks = 0;
  reset = false;
}

-- RCV.NXT: the units taken
abbrev pub taken_units : Point → ℕ
taken_units p = length p.taken + one_if p.fin

-- what may be acknowledged: the units that are taken and known to be logged
abbrev pub acknowledgement : Point → ℕ
acknowledgement p = min (taken_units p) p.answered

-- the bytes read by the service, the fetched reads included
abbrev pub bytes_read : Point → ℕ
bytes_read p = sum p.lengths

-- the uncrashed server's run over all reads, ..
abbrev pub whole_run : {State : Type 0} → Machine State → Point → Run State
whole_run service p = reference service p.taken p.lengths

-- .. and over only those reads that are known to be logged
abbrev pub answered_run : {State : Type 0} → Machine State → Point → Run State
answered_run service p = reference service p.taken (take p.reads_answered p.lengths)

-- how many bytes of output all reads make
abbrev pub made : {State : Type 0} → Machine State → Point → ℕ
made service p = length (whole_run service p).output

-- how many bytes of output may be sent: those of answered reads
abbrev pub released : {State : Type 0} → Machine State → Point → ℕ
released service p = length (answered_run service p).output

-- the units that may be sent: a FIN follows the output once an answered read has closed the service
abbrev pub target : {State : Type 0} → Machine State → Point → ℕ
target service p = released service p + one_if (answered_run service p).closed

-- all that the client can have been sent: what this incarnation sent and, after a restart, what an earlier one may have sent
abbrev pub most : Point → ℕ
most p = max p.sent p.fetched_output

-- the right edge of the receive window: 65,535 bytes are buffered past what is read, the fetched bytes are there already, and a stream has at most 2^24 bytes
abbrev pub receive_edge : Point → ℕ
receive_edge p = min (max p.fetched (bytes_read p) + buffer_size) longest_stream

-- the data that is held is after a gap and below the right edge of the receive window. This holds in every joint trace
abbrev pub HoldsBehind : Point → Type 0
HoldsBehind p = StandsBehind (length p.taken) (receive_edge p) p.fin p.early

-- the right edge that TCP advertises: a FIN that is taken has used up one number
abbrev pub advertised_edge : Point → ℕ
advertised_edge p = receive_edge p + one_if p.fin

-- RCV.WND: TCP's room
abbrev pub room : Point → ℕ
room p = advertised_edge p - taken_units p

-- Window: from what is acknowledged up to the advertised right edge, but at most 65,535
abbrev pub window : Point → ℕ
window p = min 65535 (advertised_edge p - acknowledgement p)

-- the connection is over, that is, both FINs are done: the client's is taken, and the server's, the unit after all output, is acknowledged
abbrev pub is_over : {State : Type 0} → Machine State → Point → Bool
is_over service p = p.fin && nat_lt (released service p) p.una
