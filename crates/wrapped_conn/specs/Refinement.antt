-- What it means that a connection is at a point: its parts, its numbers, and what a turn of it leads to.
use Rattle.std.specs.Prelude.{◌≡◌, ◌≤◌, ℕ, Bool, true, false, List, ◌++◌, length, map}
use Rattle.std.specs.Bool.{MatchBool}
use Rattle.ft_io.specs.declared.Addr.{Addr}
use Rattle.seq_arith.specs.Packet.{Segment}
use Rattle.seq_arith.specs.PacketGrammar as packet
use Rattle.seq_arith.specs.Message.{Message}
use Rattle.seq_arith.specs.MessageGrammar as message
use Rattle.server_trait.specs.Service.{Machine}
use Rattle.ft_model.specs.Connection.{ConnectionTurn}
use Rattle.ft_model.specs.Network.{Packet}
use Rattle.ft_model.specs.Network.Packet.{To_client, To_logger}
use Rattle.ft_model.specs.News.{News}
use Rattle.ft_model.specs.Point.{Point, taken_units, bytes_read}
use Rattle.north_wrap.specs.Refinement.{NorthStands}
use Rattle.south_wrap.specs.SouthPoint.{south_at}
use Rattle.connection_laws.specs.Parts.{PartsStand, PartsRest}
use Rattle.wrapped_conn.specs.ConnState.{ConnState}
use Rattle.wrapped_conn.specs.Numbers.{units_taken, una_units, sent_units, logged_units}
use Rattle.wrapped_conn.specs.LoggerMessages.{grammar_by, is_done}

-- what a connection stores besides TCP and the north wrapper. The logger hasn't answered that it has ended
pub record Keeps {S : Type 0} (p : Point) (c : ConnState S) : Type 0 where
  pub key : c.key ≡ p.key
  pub south : c.south ≡ south_at c.south.delta p
  pub fetched : c.fetched ≡ p.fetched
  pub end_ticks : c.end_ticks ≡ p.end_ticks
  pub four : c.end_ticks ≤ 4
  pub reset : c.reset ≡ p.reset
  pub unanswered : is_done c.stage ≡ false
  pub delays : c.delays ≡ p.delays
  pub batches : c.batches ≡ p.batches

-- TCP, north wrapper and send buffer between two turns
pub record StandsLive {S : Type 0} (service : Machine S) (p : Point) (c : ConnState S) : Type 0 where
  pub u : ℕ
  pub i : ℕ
  pub given : ℕ
  pub parts : PartsRest service u i c.south.delta given p c.north c.endpoint
  pub local : c.endpoint.local ≡ c.local

-- the numbers of the point that its TCP shows ..
pub record TcpShows {S : Type 0} (p : Point) (c : ConnState S) : Type 0 where
  pub taken : units_taken c ≡ taken_units p
  pub una : una_units c ≡ p.una
  pub sent : sent_units c ≡ p.sent

-- .. and all that can be read from outside
pub record Reports {S : Type 0} (p : Point) (c : ConnState S) : Type 0 where
  pub tcp : TcpShows p c
  pub answered : logged_units c ≡ p.answered
  pub read : c.north.read ≡ bytes_read p
  pub reads : c.north.count ≡ length p.lengths

-- once the client has reset the connection, its TCP stays as it is, and plays no part any more
pub record StandsReset {S : Type 0} (service : Machine S) (p : Point) (c : ConnState S) : Type 0 where
  pub given : ℕ
  pub north : NorthStands service p given c.north
  pub reported : TcpShows p c

-- between two turns
pub record Stands {S : Type 0} (service : Machine S) (c : ConnState S) (p : Point) : Type 0 where
  pub keeps : Keeps p c
  pub parts : MatchBool p.reset (StandsReset service p c) (StandsLive service p c)

-- before the turn in which a connection becomes live at the end of a restart
pub record StandsBefore {S : Type 0} (service : Machine S) (c : ConnState S) (p : Point) : Type 0 where
  pub keeps : Keeps p c
  pub u : ℕ
  pub i : ℕ
  pub given : ℕ
  pub parts : PartsStand service u i c.south.delta given p c.north c.endpoint
  pub local : c.endpoint.local ≡ c.local
  pub syn_acked : p.syn_acked ≡ true

-- a turn's packets are these segments to the client, as bytes, and then these messages to the logger, which are in the wide grammar or not
pub record IsSpelled (wide : Bool) (sent : List Packet) (segments messages : List (List ℕ)) : Type 0 where
  pub to_client : List Segment
  pub to_logger : List Message
  pub order : sent ≡ map To_client to_client ++ map To_logger to_logger
  pub segments_are : segments ≡ map packet.spelling to_client
  pub messages_are : messages ≡ map (message.spelling_by (grammar_by wide)) to_logger

-- a turn leads by the laws to a point after it, the connection is then at that point, and what is sent is what the laws say
pub record Leads {S : Type 0} (service : Machine S) (server : Addr) (boot : ℕ) (news : News) (before : Point) (new : ConnState S)
    (segments messages : List (List ℕ)) : Type 0 where
  pub after : Point
  pub sent : List Packet
  pub goes : ConnectionTurn service server boot news before after sent
  pub stands : Stands service new after
  pub spelled : IsSpelled before.batches sent segments messages
