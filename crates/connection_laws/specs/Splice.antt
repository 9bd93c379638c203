-- How a fresh endpoint is brought to where a restart continues: by forged segments.
use Rattle.limits.specs.Limits.{largest_segment, least_segment, longest_stream}
use Rattle.std.specs.Prelude.{false, ◌≡◌, ◌≤◌, ◌<◌, true, length, sum, ℕ, Bool, ◌+◌, ◌-◌, ◌%◌, ◌^◌, Option, Some, None, [], if◌then◌else◌}
use Rattle.ft_io.specs.declared.Addr.{Addr}
use Rattle.ft_io.specs.declared.Key.{Key}
use Rattle.seq_arith.specs.declared.flags.TheConstants.{FIN, SYN, ACK}
use Rattle.seq_arith.specs.Number.{distance, number_at}
use Rattle.seq_arith.specs.Packet.{Segment}
use Rattle.tcp_rules.specs.Profile.{Profile}
use Rattle.ft_model.specs.News.News.{Comes}
use Rattle.server_trait.specs.Service.{Machine}
use Rattle.ft_model.specs.Log.{Entry}
use Rattle.ft_model.specs.Restart.{point_of, resumed_at}
use Rattle.connection_laws.specs.OutputFeed.{Feeds}
use Rattle.connection_laws.specs.Parts.{StandsOpen}
use Rattle.tcp_endpoint.specs.Tcb.{Tcb, listening_measuring}
use Rattle.endpoint_laws.specs.Turn.{turned}

-- a segment of the client with these numbers, no text and window 0
abbrev pub forged : Key → Addr → (seq ack flags : ℕ) → (mss : Option ℕ) → Segment
forged key local seq ack flags mss = record {
  head = record {
    src = key.ip;
    dst = local.ip;
    sport = key.port;
    dport = local.port;
    seq = seq;
    ack = ack;
    flags = flags;
    window = 0;
    mss = mss;
    timestamps = None;
  };
  payload = [];
}

-- its SYN has the sequence number before the bytes that are still to come, ..
abbrev pub forged_syn : Key → Addr → (cisn fetched mss : ℕ) → Segment
forged_syn key local cisn fetched mss = forged key local ((cisn + fetched) % 2 ^ 32) 0 SYN (Some mss)

-- .. then it acknowledges the SYN-ACK, ..
abbrev pub forged_ack : Key → Addr → (cisn fetched i : ℕ) → Segment
forged_ack key local cisn fetched i = forged key local (number_at cisn fetched) (number_at i 0) ACK None

-- .. and ends its stream where its FIN is logged
abbrev pub forged_fin : Key → Addr → (cisn fetched i : ℕ) → Segment
forged_fin key local cisn fetched i = forged key local (number_at cisn fetched) (number_at i 0) (FIN + ACK) None

-- what each turn sends is discarded
unfoldable pub connected_measuring : (measures : Bool) → Key → Addr → (cisn fetched mss i : ℕ) → Tcb
connected_measuring measures key local cisn fetched mss i =
    turned (Comes (forged_ack key local cisn fetched i)) []
    (turned (Comes (forged_syn key local cisn fetched mss)) [] (listening_measuring measures local i (longest_stream - fetched)))

abbrev pub spliced_measuring : (measures : Bool) → Key → Addr → (cisn fetched mss i : ℕ) → (fin : Bool) → Tcb
spliced_measuring measures key local cisn fetched mss i fin =
    if fin then turned (Comes (forged_fin key local cisn fetched i)) [] (connected_measuring measures key local cisn fetched mss i)
    else connected_measuring measures key local cisn fetched mss i

-- .. and where nothing is measured
abbrev pub connected : Key → Addr → (cisn fetched mss i : ℕ) → Tcb
connected = connected_measuring false

abbrev pub spliced : Key → Addr → (cisn fetched mss i : ℕ) → (fin : Bool) → Tcb
spliced = spliced_measuring false

-- the entry and the initial sequence number from which a restart continues
pub record ProceedsFrom {State : Type 0} (service : Machine State) (e : Entry) (i : ℕ) : Type 0 where
  pub least : least_segment ≤ e.mss
  pub most : e.mss ≤ largest_segment
  pub short : length e.bytes ≤ longest_stream
  pub fin : e.fin ≡ true → length e.bytes < longest_stream
  pub cut : sum e.lengths ≤ length e.bytes
  pub small : resumed_at service e ≤ longest_stream
  pub sisn : e.sisn < 2 ^ 32
  pub i_fits : i < 2 ^ 32

-- the client's sequence number of the unit at which output continues, less TCP's initial sequence number
abbrev pub delta_from : {State : Type 0} → Machine State → Entry → (i : ℕ) → ℕ
delta_from service e i = distance ((e.sisn + resumed_at service e) % 2 ^ 32) i

-- the endpoint is at the point inside that of the entry. Nothing is written to it yet, so it holds nothing of the output
pub record StandsAtEntry {State : Type 0} (service : Machine State) (profile : Profile) (e : Entry) (i : ℕ) (t : Tcb) : Type 0 where
  pub tcp : StandsOpen (resumed_at service e) i (delta_from service e i) (point_of service profile e) t
  pub feeds : Feeds service (resumed_at service e) (point_of service profile e) (resumed_at service e) t
  pub kept : t.reset ≡ false
  pub open_still : t.sending.closed ≡ false
