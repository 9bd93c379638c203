-- A wrapped connection whose TCP is CLOSED, since it has taken the client's FIN and its own is acknowledged: TCP sends the client nothing more, and the
-- connection itself answers.
use Rattle.limits.specs.Limits.{longest_stream}
use Rattle.std.specs.Prelude.{◌≡◌, ◌^◌, ◌%◌, ◌<◌, ℕ, true, false, ◌+◌, ◌-◌, ◌≤◌, length, max, sum, List, [], None}
use Rattle.ft_io.specs.declared.Addr.{Addr}
use Rattle.server_trait.specs.Service.{Machine}
use Rattle.ft_model.specs.News.{News}
use Rattle.ft_model.specs.PendingAck.{is_ack_pending}
use Rattle.ft_model.specs.Point.{Point, taken_units, target, is_over}
use Rattle.ft_model.specs.Segments.{segments_of, bare_segment, or_bare}
use Rattle.tcp_endpoint.specs.declared.states.StateName.TheVariants.{Closed}
use Rattle.tcp_endpoint.specs.States.{has_begun}
use Rattle.tcp_endpoint.specs.Tcb.{Tcb}
use Rattle.endpoint_laws.specs.Laws.{IsBounded}
use Rattle.endpoint_laws.specs.Turn.{Call, MayUse, arrived, before_flush, turned, sent_in}
use Rattle.endpoint_laws.specs.Refinement.{ReceivesAt, IsUsedAt}
use Rattle.connection_laws.specs.Inside.{swallowing, inside}
use Rattle.connection_laws.specs.Traffic.{news_inside, passed}

-- TCP's output begins at unit u, with the initial sequence number i. TCP's sequence number of a unit is delta below the client's
pub record CountsFrom (u i delta : ℕ) (p : Point) (e : Tcb) : Type 0 where
  pub iss : e.sending.iss ≡ i
  pub syn_acked : e.sending.syn_acked ≡ true
  pub una : p.una - u ≡ e.sending.una
  pub sent : p.sent - u ≡ e.sending.sent
  pub above : u ≤ p.una
  pub small : u ≤ longest_stream
  pub sisn : p.sisn < 2 ^ 32
  pub shift : (i + delta) % 2 ^ 32 ≡ (p.sisn + u) % 2 ^ 32
  pub delta_fits : delta < 2 ^ 32

-- The point is over, and so is TCP: all output and the FIN after it are sent and acknowledged, so the timer doesn't run. What TCP took may still be read.
-- Nothing can be written
pub record StandsClosed {State : Type 0} (service : Machine State) (u i delta : ℕ) (p : Point) (e : Tcb) : Type 0 where
  pub name : e.name ≡ Closed
  pub kept : e.reset ≡ false
  pub reset_reply : e.reset_reply ≡ None
  pub ended : e.sending.closed ≡ true
  pub bounds : IsBounded e
  pub fin_last : e.sending.fin_sent ≡ true → (e.sending.closed ≡ true) × (1 ≤ e.sending.sent) × (length e.sending.held ≡ e.sending.sent - 1 - e.sending.una)
  pub receives : ReceivesAt p e
  pub counts : CountsFrom u i delta p e
  pub over : is_over service p ≡ true
  pub syn_acked : p.syn_acked ≡ true
  pub acknowledged : p.una ≡ p.sent
  pub all_sent : p.sent ≡ target service p
  pub still : p.rest ≡ 0

-- what is sent is a pure ACK, if an ACK is pending by the law, and nothing else
abbrev pub SendsAlone : {State : Type 0} → Machine State → Addr → News → (before after : Point) → Type 0
SendsAlone service server news before after =
    segments_of service server news before after ≡ or_bare (is_ack_pending service news before after) (bare_segment server after) []

-- a turn in which TCP becomes CLOSED: its user reads and writes as before
pub record LeavesInside {State : Type 0} (service : Machine State) (u i delta : ℕ) (news : News) (p q : Point) (calls : List Call) (e : Tcb) : Type 0 where
  pub may : MayUse calls (arrived (news_inside delta p news) e)
  pub ended : has_begun (before_flush (news_inside delta p news) calls e).name ≡ false
  pub used : IsUsedAt (swallowing u service) (inside u i q) (before_flush (news_inside delta p news) calls e)

-- TCP takes and sends nothing in that turn
pub record EndsInside {State : Type 0} (service : Machine State) (u i delta : ℕ) (news : News) (p q : Point) (calls : List Call) (e : Tcb) : Type 0 where
  pub stands : StandsClosed service u i delta q (turned (news_inside delta p news) calls e)
  pub silent : sent_in (news_inside delta p news) calls e ≡ []
  pub syn_acked : p.syn_acked ≡ true
  pub taken : taken_units q ≡ taken_units p
  pub segments : SendsAlone service e.local news p q

-- in later turns its user continues to read
pub record ReadsOn (delta : ℕ) (news : News) (p q : Point) (calls : List Call) (e : Tcb) : Type 0 where
  pub may : MayUse calls (arrived (news_inside delta p news) e)
  pub read : max q.fetched (sum q.lengths) ≡ (before_flush (news_inside delta p news) calls e).receiving.read + q.fetched

-- TCP then answers at most with a RST, which isn't passed on
pub record ProceedsClosed {State : Type 0} (service : Machine State) (server : Addr) (u i delta : ℕ) (news : News) (p q : Point) (calls : List Call)
    (e : Tcb) : Type 0 where
  pub stands : StandsClosed service u i delta q (turned (news_inside delta p news) calls e)
  pub silent : passed delta q (sent_in (news_inside delta p news) calls e) ≡ []
  pub syn_acked : p.syn_acked ≡ true
  pub taken : taken_units q ≡ taken_units p
  pub segments : SendsAlone service server news p q
