-- An endpoint at a point of `ft_model`, and what its turns are by the laws there. Those laws have only one limit, 2^24 bytes. If an endpoint's limit is
-- smaller, the peer's stream at its point begins as many bytes later, as if they had been fetched. So its limit takes the place of 2^24, and if it is 2^24,
-- nothing is fetched. The point has the bytes that the user has read; the endpoint doesn't store them any more.
use Rattle.ft_model.specs.Timestamps.{timestamping_after}
use Rattle.tcp_rules.specs.declared.timestamping.Timestamping.TheVariants.{Off}
use Rattle.limits.specs.Limits.{buffer_size, longest_stream}
use Rattle.std.specs.Prelude.{◌≡◌, ℕ, Bool, true, false, pos, ◌+◌, ◌≤◌, ◌%◌, ◌^◌, ◌+ℤ◌, ◌==◌, ◌&&◌, ◌||◌, not, max, List, [], ◌∷◌, ◌++◌, length, drop}
use Rattle.std.specs.Prelude.{sum, if◌then◌else◌, take, ◌⊎◌}
use Rattle.std.specs.Bool.{MatchBool}
use Rattle.ft_io.specs.declared.Addr.{Addr}
use Rattle.tcp_rules.specs.Coming.{early_from}
use Rattle.seq_arith.specs.Number.{offset_of}
use Rattle.seq_arith.specs.Packet.{Segment, has_syn, has_rst}
use Rattle.tcp_rules.specs.Timing.{first_base}
use Rattle.seq_arith.specs.Message.{Numbers}
use Rattle.server_trait.specs.Service.{Machine}
use Rattle.ft_model.specs.Point.{Point, taken_units, advertised_edge, answered_run, released}
use Rattle.ft_model.specs.News.{News}
use Rattle.ft_model.specs.News.News.{Comes}
use Rattle.ft_model.specs.Network.{source_of}
use Rattle.ft_model.specs.Opening.{segment_size, point_opened}
use Rattle.ft_model.specs.Connection.{IsSameConnection}
use Rattle.ft_model.specs.Taken.{accepts, taken_after, early_after, fin_after}
use Rattle.ft_model.specs.Sending.{syn_acked_after, acknowledged_after, edge_after, wl1_after, wl2_after, congestion_after, sent_after, timing_after}
use Rattle.ft_model.specs.Timer.{interval_after, rest_after}
use Rattle.ft_model.specs.PendingAck.{is_refused, needs_ack}
use Rattle.ft_model.specs.Refusal.{rst_at_ack}
use Rattle.ft_model.specs.Segments.{syn_ack, bare_segment, resent, new_texts, new_fin, or_bare}
use Rattle.tcp_endpoint.specs.declared.states.StateName.TheVariants.{Closed}
use Rattle.tcp_endpoint.specs.States.{has_begun}
use Rattle.tcp_endpoint.specs.ReceiveHalf.{taken}
use Rattle.tcp_endpoint.specs.SendHalf.{Sending, bytes_end}
use Rattle.tcp_endpoint.specs.Tcb.{Tcb}
use Rattle.tcp_endpoint.specs.Output.{full_out, leaving}
use Rattle.endpoint_laws.specs.ConnectionEnd.{resets, is_over}
use Rattle.endpoint_laws.specs.Turn.{Call, MayUse, IsUsualNews, IsBetweenTurns, arrived, before_flush, turned, sent_in}

-- the receiving half
pub record ReceivesAt (p : Point) (e : Tcb) : Type 0 where
  pub cisn : e.receiving.irs ≡ (p.cisn + p.fetched) % 2 ^ 32
  pub limit : e.receiving.limit + p.fetched ≡ longest_stream
  pub read : max p.fetched (sum p.lengths) ≡ e.receiving.read + p.fetched
  pub long : length p.taken ≡ taken e.receiving + p.fetched
  pub unread : drop (e.receiving.read + p.fetched) p.taken ≡ e.receiving.unread
  pub fin : p.fin ≡ e.receiving.fin
  pub early : p.early ≡ early_from p.fetched e.receiving.early

-- the sending half, except for what is sent and the timer
pub record SendsAt (p : Point) (e : Tcb) : Type 0 where
  pub sisn : p.sisn ≡ e.sending.iss
  pub mss : p.mss ≡ e.sending.mss
  pub syn_acked : p.syn_acked ≡ e.sending.syn_acked
  pub una : p.una ≡ e.sending.una
  pub edge : p.edge ≡ e.sending.edge
  pub wl1 : e.sending.syn_acked ≡ true → p.wl1 ≡ (offset_of e.receiving.irs e.sending.wl1 +ℤ pos p.fetched)
  pub wl2 : p.wl2 ≡ e.sending.wl2
  pub congestion : p.congestion ≡ e.sending.congestion

pub record StandsAt (p : Point) (e : Tcb) : Type 0 where
  pub ip : p.key.ip ≡ e.remote.ip
  pub port : p.key.port ≡ e.remote.port
  pub receives : ReceivesAt p e
  pub sends : SendsAt p e
  pub sent : p.sent ≡ e.sending.sent
  pub fetched_output : p.fetched_output ≡ 0  -- TCP knows of no earlier incarnation
  pub interval : p.interval ≡ e.sending.interval
  pub rest : p.rest ≡ e.sending.rest
  pub timing : p.timing ≡ e.sending.timing
  pub delays : p.delays ≡ false
  pub timestamping : p.timestamping ≡ Off  -- TCP sends no timestamps

-- all output of a service is written, and the user has closed exactly if the service has
pub record HasWrittenAll {State : Type 0} (service : Machine State) (p : Point) (s : Sending) : Type 0 where
  pub written : released service p ≡ bytes_end s
  pub closed : (answered_run service p).closed ≡ s.closed

-- .. or the send buffer is full, and the user hasn't closed yet
pub record HasFilled {State : Type 0} (service : Machine State) (p : Point) (s : Sending) : Type 0 where
  pub full : length s.held ≡ buffer_size
  pub open_still : s.closed ≡ false
  pub written : bytes_end s ≤ released service p

-- the user of an endpoint acts as the service at a point: it has read those bytes, and written the service's output, in order, as much as there was room for.
-- TCP knows of no log: all that is taken may be acknowledged
pub record IsUsedAt {State : Type 0} (service : Machine State) (p : Point) (e : Tcb) : Type 0 where
  pub read : max p.fetched (sum p.lengths) ≡ e.receiving.read + p.fetched
  pub output : take (length e.sending.held) (drop e.sending.una (answered_run service p).output) ≡ e.sending.held
  pub written : HasWrittenAll service p e.sending ⊎ HasFilled service p e.sending
  pub answered : taken_units p ≤ p.answered

-- the laws Taken and Sending, with the timer's, of a turn: what `LiveTurn` requires of the point after it, except for reads and log
pub record MeetsLaws {State : Type 0} (service : Machine State) (news : News) (before after : Point) : Type 0 where
  pub same : IsSameConnection before after
  pub taken : after.taken ≡ taken_after news before
  pub fin : after.fin ≡ fin_after news before
  pub early : after.early ≡ early_after news before
  pub syn_acked : after.syn_acked ≡ syn_acked_after news before
  pub una : after.una ≡ acknowledged_after news before
  pub edge : after.edge ≡ edge_after news before
  pub wl1 : after.wl1 ≡ wl1_after news before
  pub wl2 : after.wl2 ≡ wl2_after news before
  pub congestion : after.congestion ≡ congestion_after news before
  pub sent : after.sent ≡ sent_after service news before after
  pub timing : after.timing ≡ timing_after service news before after
  pub timestamping : after.timestamping ≡ timestamping_after news before
  pub interval : after.interval ≡ interval_after news before after
  pub rest : after.rest ≡ rest_after service news before after

-- an ACK is pending: the segment that arrived requires one, or the acknowledgement or the right edge changes in this turn
abbrev pub news_needs_ack : News → Point → Bool
news_needs_ack (Comes segment) before = needs_ack before segment
news_needs_ack _ before = false

abbrev pub is_ack_pending : News → (before after : Point) → Bool
is_ack_pending news before after =
    news_needs_ack news before || not (taken_units before == taken_units after) || not (advertised_edge before == advertised_edge after)

-- while the SYN is unacknowledged: the RST that answers an acceptable segment which acknowledges anything else
abbrev pub refuses : Point → Segment → Bool
refuses before segment = accepts before segment && not (has_rst segment) && not (has_syn segment) && is_refused before segment

abbrev pub refusals : Addr → News → Point → List Segment
refusals server (Comes segment) before = if refuses before segment then rst_at_ack server segment ∷ [] else []
refusals server _ before = []

-- all that is sent in a turn, except what is sent only because an ACK is pending: that RST; retransmissions and probes; text and FIN
abbrev pub full_by_laws : {State : Type 0} → Machine State → Addr → News → (before after : Point) → List Segment
full_by_laws service server news before after =
    refusals server news before ++ (resent service server news before after ++ (new_texts service server before after ++ new_fin service server before after))

-- what is sent in a turn: all that, or else a pure ACK if an ACK is pending. The model's wrapped connection sends the same, except that it drops TCP's RST,
-- answers a repeated SYN with the logged SYN-ACK, and also has an ACK pending where more is known to be logged, where it has become live, and where a segment
-- arrives after it is over
abbrev pub segments_by_laws : {State : Type 0} → Machine State → Addr → News → (before after : Point) → List Segment
segments_by_laws service server news before after =
    or_bare (is_ack_pending news before after) (bare_segment server after) (full_by_laws service server news before after)

-- the point of an endpoint that a SYN has opened, after these fetched bytes: the model's new connection of a server that measures round trips or doesn't, and
-- that delays no ACK and sends no timestamps. Its timer runs
abbrev pub point_begun : (measures : Bool) → (fetched : List ℕ) → Numbers → Point
point_begun measures fetched numbers =
    record (point_opened (record { measures = measures; delays = false; batches = false; timestamps = false }) Off numbers) {
      fetched = length fetched;
      taken = fetched;
      answered = length fetched;
      rest = first_base measures;
    }

-- the numbers of a connection whose peer has this initial sequence number, once its SYN has arrived
abbrev pub numbers_with : (cisn sisn : ℕ) → Segment → Numbers
numbers_with cisn sisn syn = record { key = source_of syn; cisn = cisn; sisn = sisn; mss = segment_size syn.head.mss }

-- the turn of a SYN leads to the endpoint's point, and sends only a SYN-ACK
pub record BeginsAt (p : Point) (listening : Tcb) (syn : Segment) (calls : List Call) : Type 0 where
  pub begun : has_begun (turned (Comes syn) calls listening).name ≡ true
  pub between : IsBetweenTurns (turned (Comes syn) calls listening)
  pub stands : StandsAt p (turned (Comes syn) calls listening)
  pub segments : sent_in (Comes syn) calls listening ≡ syn_ack listening.local p ∷ []

-- a turn leads from the point before it to the point after it, and sends what the laws say
pub record LeadsTo {State : Type 0} (service : Machine State) (news : News) (before after : Point) (e : Tcb) (calls : List Call) : Type 0 where
  pub between : IsBetweenTurns (turned news calls e)
  pub stands : StandsAt after (turned news calls e)
  pub segments : sent_in news calls e ≡ segments_by_laws service e.local news before after
  -- .. and what would be sent if the ACK were delayed
  pub full : full_out (before_flush news calls e) ≡ full_by_laws service e.local news before after

-- the end of a connection by FINs: the peer's is taken and ours is acknowledged, the endpoint is CLOSED, nothing is sent, and the halves are at the point
-- after the turn
pub record EndsAt (after : Point) (u : Tcb) : Type 0 where
  pub closed : u.name ≡ Closed
  pub over : is_over u ≡ true
  pub receives : ReceivesAt after u
  pub sends : SendsAt after u
  pub sent : after.sent ≡ u.sending.sent
  pub silent : leaving u ≡ []

-- a step of a run is a turn: what arrives, what the user does, a service that has read and written like the user up to then, and the point after it. Whatever
-- a user writes, some service has written the same, and nothing else is required of it. So two turns may have different services
pub record Step : Type 0 where
  pub news : News
  pub calls : List Call
  pub user : Machine ℕ
  pub after : Point

-- what is required of a step: its segment is a usual one, the user's calls are allowed, and the point after it follows by the laws from the point before it
pub record IsStep (before : Point) (e : Tcb) (step : Step) : Type 0 where
  pub usual : IsUsualNews step.news e
  pub may : MayUse step.calls (arrived step.news e)
  pub laws : MeetsLaws step.user step.news before step.after
  pub used : IsUsedAt step.user step.after (before_flush step.news step.calls e)

-- a turn that leaves the endpoint CLOSED: a RST arrived at exactly the next number, or the peer's FIN is taken and ours is acknowledged
abbrev pub Ends : News → List Call → Tcb → Type 0
Ends news calls e = (resets news e ≡ true) ⊎ (is_over (before_flush news calls e) ≡ true)

-- each turn of a run leads to the point after it, or ends the connection
abbrev pub RunsByLaws : Point → Tcb → List Step → Type 0
RunsByLaws before e [] = Unit {0}
RunsByLaws before e (step ∷ steps) =
    IsStep before e step
    → MatchBool (has_begun (before_flush step.news step.calls e).name)
    (LeadsTo step.user step.news before step.after e step.calls × RunsByLaws step.after (turned step.news step.calls e) steps)
    (Ends step.news step.calls e)
