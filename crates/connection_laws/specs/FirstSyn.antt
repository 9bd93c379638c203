-- How a new connection begins: its TCP receives the SYN with the logged numbers, and sends the SYN-ACK (RFC 9293, 3.10.7.2).
use Rattle.tcp_rules.specs.declared.timestamping.Timestamping.{Timestamping}
use Rattle.limits.specs.Limits.{largest_segment, least_segment, longest_stream}
use Rattle.std.specs.Prelude.{Bool, ◌≡◌, ◌≤◌, ◌<◌, ◌^◌, List, [], ◌∷◌}
use Rattle.ft_io.specs.declared.Addr.{Addr}
use Rattle.seq_arith.specs.Message.{Numbers}
use Rattle.seq_arith.specs.Packet.{Segment}
use Rattle.server_trait.specs.Service.{Machine}
use Rattle.tcp_rules.specs.Profile.{Profile}
use Rattle.ft_model.specs.News.News.{Comes, Begins}
use Rattle.ft_model.specs.Opening.{point_opened}
use Rattle.ft_model.specs.Point.{Point}
use Rattle.ft_model.specs.Segments.{segments_of, syn_ack}
use Rattle.tcp_endpoint.specs.Tcb.{Tcb, listening_measuring}
use Rattle.endpoint_laws.specs.ConnectionEnd.{IsNamedRightly}
use Rattle.endpoint_laws.specs.Turn.{Call, turned, sent_in}
use Rattle.connection_laws.specs.Traffic.{passed}
use Rattle.connection_laws.specs.Splice.{forged_syn}
use Rattle.connection_laws.specs.Turn.{StandsInside}

-- numbers with which a connection may open
pub record MayOpen (numbers : Numbers) : Type 0 where
  pub least : least_segment ≤ numbers.mss
  pub most : numbers.mss ≤ largest_segment
  pub cisn : numbers.cisn < 2 ^ 32
  pub sisn : numbers.sisn < 2 ^ 32

-- its TCP listens with the server's own initial sequence number and the limit of a complete stream, and receives a forged SYN of the client
abbrev pub opened_syn : Addr → Numbers → Segment
opened_syn local numbers = forged_syn numbers.key local numbers.cisn 0 numbers.mss

abbrev pub listens_with : (measures : Bool) → Addr → Numbers → Tcb
listens_with measures local numbers = listening_measuring measures local numbers.sisn longest_stream

-- output begins at its start, with the initial sequence number that the client knows. What is sent, as the client receives it, is what the law says, and the
-- connection adds nothing
pub record BeginsInside {State : Type 0} (service : Machine State) (profile : Profile) (timestamping : Timestamping) (local : Addr) (numbers : Numbers)
    (q : Point) (calls : List Call) : Type 0 where
  pub stands : StandsInside 0 numbers.sisn 0 q (turned (Comes (opened_syn local numbers)) calls (listens_with profile.measures local numbers))
  pub named : IsNamedRightly (turned (Comes (opened_syn local numbers)) calls (listens_with profile.measures local numbers))
  pub segments : passed 0 q (sent_in (Comes (opened_syn local numbers)) calls (listens_with profile.measures local numbers))
      ≡ segments_of service local Begins (point_opened profile timestamping numbers) q
  pub alone : segments_of service local Begins (point_opened profile timestamping numbers) q ≡ syn_ack local q ∷ []
