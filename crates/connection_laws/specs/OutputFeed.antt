-- How the north wrapper's output gets to the inner TCP.
use Rattle.limits.specs.Limits.{buffer_size, longest_stream}
use Rattle.std.specs.Prelude.{◌⊎◌, ◌≡◌, ℕ, Bool, false, ◌+◌, ◌≤◌, ◌^◌, List, [], ◌∷◌, ◌++◌, map, length, if◌then◌else◌}
use Rattle.server_trait.specs.Service.{Machine}
use Rattle.ft_model.specs.Network.{Packet}
use Rattle.ft_model.specs.News.{News}
use Rattle.ft_model.specs.Point.{Point, answered_run, released}
use Rattle.ft_model.specs.Connection.{LiveTurn}
use Rattle.ft_model.specs.ResetAndEnd.{reset_after}
use Rattle.tcp_endpoint.specs.SendHalf.{bytes_end}
use Rattle.tcp_endpoint.specs.Tcb.{Tcb}
use Rattle.tcp_endpoint.specs.Output.{flushed}
use Rattle.tcp_endpoint.specs.UserCalls.{after_read, after_write, closing, write_room, is_ended}
use Rattle.endpoint_laws.specs.Turn.{Call, MayUse, arrived, used, before_flush}
use Rattle.endpoint_laws.specs.Turn.Call.{Reads, Writes, Closes}
use Rattle.endpoint_laws.specs.Refinement.{IsUsedAt}
use Rattle.north_wrap.specs.declared.read_record.ReadRecord.{ReadRecord}
use Rattle.north_wrap.specs.NorthState.{NorthState, lengths_of}
use Rattle.north_wrap.specs.Sockets.{Reader, Writer, reader, writer}
use Rattle.north_wrap.specs.Refinement.{NorthStands, NorthTurn, HoldsUpTo, given_more, is_all_given}
use Rattle.connection_laws.specs.Inside.{swallowing, inside}
use Rattle.connection_laws.specs.Traffic.{news_inside}
use Rattle.connection_laws.specs.Turn.{NewsFit}

-- TCP as the north wrapper's socket
abbrev pub tcp_reader : Reader Tcb
tcp_reader = reader (λ e. e.receiving.unread) (λ e. e.receiving.fin) after_read

abbrev pub tcp_writer : Writer Tcb
tcp_writer = writer write_room is_ended after_write closing

-- `given` bytes of the output that may be sent are given to TCP, counting those that are swallowed: TCP holds those that aren't acknowledged
pub record Feeds {State : Type 0} (service : Machine State) (u : ℕ) (p : Point) (given : ℕ) (e : Tcb) : Type 0 where
  pub holds : HoldsUpTo (answered_run service p).output (e.sending.una + u) given e.sending.held
  pub until : bytes_end e.sending + u ≡ given
  pub low : given ≤ released service p
  pub queued : length e.sending.held ≤ buffer_size

-- the calls that a turn of the north wrapper makes: it writes, may close, and reads
abbrev pub north_calls : (text : List ℕ) → (closes : Bool) → (reads : List ℕ) → List Call
north_calls text closes reads = Writes text ∷ ((if closes then Closes ∷ [] else []) ++ map Reads reads)

-- the point of a turn before its reads
abbrev pub before_reads : (before after : Point) → Point
before_reads before after = record after { lengths = before.lengths }

-- in a lawful turn the north wrapper makes its calls to TCP, between the news and the flush
pub record TurnsNorth {S : Type 0} (service : Machine S) (boot u i delta : ℕ) (news : News) (p q : Point) (sent : List Packet) (given : ℕ)
    (old new : NorthState S) (reads : List ReadRecord) (e t : Tcb) : Type 0 where
  pub fits : NewsFit p news
  pub goes : LiveTurn service e.local boot news p q sent
  pub lengths : q.lengths ≡ p.lengths ++ lengths_of reads
  pub unreset : p.reset ≡ false
  pub goes_unreset : reset_after news p ≡ false
  pub kept : e.reset ≡ false
  pub shut : e.sending.closed ≡ old.shut
  pub short : released service q ≤ longest_stream
  pub feeds : Feeds service u p given e
  pub stands : NorthStands service (before_reads p q) given old
  pub turn : NorthTurn service tcp_reader tcp_writer (before_reads p q) given old (arrived (news_inside delta p news) e) reads new t

-- how much output it has given then, in all
abbrev pub given_after : {S : Type 0} → Machine S → (p q : Point) → (given : ℕ) → Tcb → ℕ
given_after service p q given arrived_tcp = given + given_more service (before_reads p q) (write_room arrived_tcp) given

-- TCP, before the flush, after these calls: its user is the service without the swallowed output, and `given` bytes are given to it in all
pub record FedBy {S : Type 0} (service : Machine S) (u i : ℕ) (q : Point) (given : ℕ) (new : NorthState S) (calls : List Call) (m : Tcb) : Type 0 where
  pub may : MayUse calls m
  pub is_used : IsUsedAt (swallowing u service) (inside u i q) (used calls m)
  pub feeds : Feeds service u q given (flushed (used calls m))
  pub kept : (flushed (used calls m)).reset ≡ false
  pub shut : (flushed (used calls m)).sending.closed ≡ new.shut
  pub exact : new.shut ≡ is_all_given service q given
  pub all_or_full : (given ≡ released service q) ⊎ (length (flushed (used calls m)).sending.held ≡ buffer_size)

-- the north wrapper's turn, as TCP sees it
pub record FedInside {S : Type 0} (service : Machine S) (u i delta : ℕ) (news : News) (p q : Point) (given : ℕ) (new : NorthState S) (calls : List Call)
    (e t : Tcb) : Type 0 where
  pub calls_are : t ≡ before_flush (news_inside delta p news) calls e
  pub released : u ≤ released service q
  pub by : FedBy service u i q given new calls (arrived (news_inside delta p news) e)
