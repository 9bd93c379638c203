-- A turn of a wrapped connection and of the TCP inside it.
use Rattle.std.specs.Prelude.{◌≡◌, ℕ, true, ◌≤◌, ◌^◌, ◌<◌, pos, ◌-ℤ◌, ◌≤ℤ◌, List, length}
use Rattle.ft_io.specs.declared.Addr.{Addr}
use Rattle.seq_arith.specs.Packet.{Segment, has_ack}
use Rattle.server_trait.specs.Service.{Machine}
use Rattle.ft_model.specs.Offset.{ack_of}
use Rattle.ft_model.specs.Network.{Packet}
use Rattle.ft_model.specs.News.{News}
use Rattle.ft_model.specs.News.News.{Comes, Begins}
use Rattle.ft_model.specs.Point.{Point, released}
use Rattle.ft_model.specs.Connection.{LiveTurn}
use Rattle.ft_model.specs.Segments.{segments_of}
use Rattle.tcp_endpoint.specs.States.{has_begun}
use Rattle.tcp_endpoint.specs.Tcb.{Tcb}
use Rattle.endpoint_laws.specs.Turn.{Call, MayUse, IsBetweenTurns, arrived, before_flush, turned}
use Rattle.endpoint_laws.specs.Refinement.{StandsAt, IsUsedAt}
use Rattle.connection_laws.specs.Inside.{swallowing, inside, Proceeds}
use Rattle.connection_laws.specs.Traffic.{news_inside, passed, tcp_out, leaves}

-- a segment whose fields fit their bytes, and which acknowledges nothing far before the stream
pub record SegmentFits (p : Point) (segment : Segment) : Type 0 where
  pub ack : segment.head.ack < 2 ^ 32
  pub seq : segment.head.seq < 2 ^ 32
  pub window : segment.head.window ≤ 65535
  pub text : length segment.payload ≤ 65535
  pub near : has_ack segment ≡ true → (pos 0 -ℤ pos (2 ^ 30)) ≤ℤ ack_of p.sisn segment

abbrev pub NewsFit : Point → News → Type 0
NewsFit p (Comes segment) = SegmentFits p segment
NewsFit p _ = Unit {0}

-- a connection that becomes live in this turn does so at the end of a restart. A new one begins with its SYN
abbrev pub IsLater : News → Point → Type 0
IsLater Begins p = p.syn_acked ≡ true
IsLater _ p = Unit {0}

-- a turn outside: it is lawful, and after it at least u bytes of output may be sent
pub record Turns {State : Type 0} (service : Machine State) (server : Addr) (boot : ℕ) (news : News) (p q : Point) (sent : List Packet)
    (u i delta : ℕ) : Type 0 where
  pub fits : NewsFit p news
  pub later : IsLater news p
  pub given : u ≤ released service q
  pub few : p.fetched ≤ length p.taken
  pub goes : LiveTurn service server boot news p q sent

-- the inner TCP, between two turns, at the point inside
pub record StandsInside (u i delta : ℕ) (p : Point) (e : Tcb) : Type 0 where
  pub begun : has_begun e.name ≡ true
  pub between : IsBetweenTurns e
  pub stands : StandsAt (inside u i p) e
  pub proceeds : Proceeds u i delta p

-- what the connection does with TCP in a turn: TCP's user reads and writes as the service without the swallowed output, and the turn doesn't end TCP
pub record UsesInside {State : Type 0} (service : Machine State) (u i delta : ℕ) (news : News) (p q : Point) (calls : List Call) (e : Tcb) : Type 0 where
  pub may : MayUse calls (arrived (news_inside delta p news) e)
  pub begun : has_begun (before_flush (news_inside delta p news) calls e).name ≡ true
  pub used : IsUsedAt (swallowing u service) (inside u i q) (before_flush (news_inside delta p news) calls e)

-- TCP is then at the point inside, and what it sent, as the client receives it and with what the connection adds, is what the law says
pub record TurnsInside {State : Type 0} (service : Machine State) (u i delta : ℕ) (news : News) (p q : Point) (calls : List Call) (e : Tcb) : Type 0 where
  pub stands : StandsInside u i delta q (turned (news_inside delta p news) calls e)
  pub segments : leaves service e.local news p q (passed delta q (tcp_out news p q (before_flush (news_inside delta p news) calls e)))
      ≡ segments_of service e.local news p q
