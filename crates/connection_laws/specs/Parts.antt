-- The parts of a wrapped connection at a point: its TCP, its north wrapper, and how much output that has given to TCP.
use Rattle.limits.specs.Limits.{buffer_size}
use Rattle.std.specs.Prelude.{true, ◌≡◌, ◌⊎◌, ℕ, Bool, false, ◌≤◌, ◌&&◌, ◌||◌, ◌++◌, min, None, List, [], ◌∷◌, length, if◌then◌else◌}
use Rattle.ft_io.specs.declared.Addr.{Addr}
use Rattle.server_trait.specs.Service.{Machine}
use Rattle.ft_model.specs.Connection.{LiveTurn, sent_by}
use Rattle.ft_model.specs.News.{News}
use Rattle.ft_model.specs.News.News.{Comes, Logged}
use Rattle.ft_model.specs.PendingAck.{is_ack_pending}
use Rattle.ft_model.specs.Point.{Point, taken_units, released, target}
use Rattle.ft_model.specs.Reads.{next_read}
use Rattle.ft_model.specs.Sending.{send_edge}
use Rattle.ft_model.specs.Segments.{repeats_syn, syn_ack, bare_segment, or_bare, segments_of}
use Rattle.seq_arith.specs.Packet.{Segment}
use Rattle.tcp_endpoint.specs.Output.{flushed}
use Rattle.tcp_endpoint.specs.States.{is_closed}
use Rattle.tcp_endpoint.specs.Tcb.{Tcb}
use Rattle.endpoint_laws.specs.ConnectionEnd.{IsNamedRightly}
use Rattle.north_wrap.specs.NorthState.{NorthState, answered_on}
use Rattle.north_wrap.specs.Refinement.{NorthStands, is_all_given}
use Rattle.connection_laws.specs.Traffic.{passed, tcp_out, needs_ack_besides}
use Rattle.connection_laws.specs.Turn.{StandsInside}
use Rattle.connection_laws.specs.ClosedTcp.{StandsClosed}
use Rattle.connection_laws.specs.OutputFeed.{Feeds}

-- TCP at the point inside, in the state that its halves imply
pub record StandsOpen (u i delta : ℕ) (p : Point) (e : Tcb) : Type 0 where
  pub stands : StandsInside u i delta p e
  pub named : IsNamedRightly e

-- the parts of a connection that isn't reset, before the turn in which it becomes live or between two turns
pub record PartsStand {S : Type 0} (service : Machine S) (u i delta given : ℕ) (p : Point) (n : NorthState S) (e : Tcb) : Type 0 where
  pub tcp : StandsOpen u i delta p e ⊎ StandsClosed service u i delta p e
  pub north : NorthStands service p given n
  pub feeds : Feeds service u p given e
  pub unreset : p.reset ≡ false
  pub kept : e.reset ≡ false
  pub shut : e.sending.closed ≡ n.shut
  -- all that may be sent is sent
  pub all_sent : min (target service p) (send_edge p) ≤ p.sent

-- between two turns nothing is due: no read, and no byte that may be given
pub record PartsRest {S : Type 0} (service : Machine S) (u i delta given : ℕ) (p : Point) (n : NorthState S) (e : Tcb) : Type 0 where
  pub stand : PartsStand service u i delta given p n e
  pub no_read : next_read service p ≡ None
  pub exact : n.shut ≡ is_all_given service p given
  pub all_or_full : (given ≡ released service p) ⊎ (length e.sending.held ≡ buffer_size)

-- what the north wrapper learns before its turn
abbrev pub north_after_news : {S : Type 0} → News → NorthState S → NorthState S
north_after_news (Logged kept) n = answered_on kept.reads n
north_after_news _ n = n

-- the client repeated its SYN
abbrev pub repeats : News → Point → Bool
repeats (Comes segment) before = repeats_syn before segment
repeats _ before = false

-- the connection adds a pure ACK if an ACK is pending for a reason that TCP doesn't know, or if one is pending and TCP is CLOSED
abbrev pub adds : {S : Type 0} → Machine S → News → (before after : Point) → Tcb → Bool
adds service news before after t = needs_ack_besides service news before after || (is_closed t.name && is_ack_pending service news before after)

-- all that is sent, where TCP is t before its flush: what TCP sends, as the client receives it, and the SYN-ACK with the logged numbers; or else that ACK
abbrev pub leaves_with : {S : Type 0} → Machine S → Addr → (delta : ℕ) → News → (before after : Point) → Tcb → List Segment
leaves_with service server delta news before after t =
    or_bare (adds service news before after t) (bare_segment server after)
    (passed delta after (tcp_out news before after t) ++ (if repeats news before then syn_ack server after ∷ [] else []))

-- a turn with these reads: it leads to a point after it by the laws, at which the parts then are, and what is sent is what the laws say
pub record PartsTurn {S : Type 0} (service : Machine S) (server : Addr) (boot u i delta : ℕ) (news : News) (before : Point) (reads : List ℕ)
    (new : NorthState S) (t : Tcb) : Type 0 where
  pub after : Point
  pub given : ℕ
  pub lengths : after.lengths ≡ before.lengths ++ reads
  pub goes : LiveTurn service server boot news before after (sent_by service server boot news before after)
  pub rest : PartsRest service u i delta given after new (flushed t)
  pub segments : leaves_with service server delta news before after t ≡ segments_of service server news before after
  -- where TCP is CLOSED then, an acknowledgement had counted, and nothing is taken
  pub closed : is_closed t.name ≡ true → (before.syn_acked ≡ true) × (taken_units after ≡ taken_units before)
