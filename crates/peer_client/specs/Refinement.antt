-- How the client machine of the model corresponds to a live client: the machine has accepted what the client's TCP has taken, and has sent and advertised what
-- TCP has. Every call preserves this, and each segment that is sent is a move of the machine.
use Rattle.limits.specs.Limits.{largest_segment, least_segment, longest_stream}
use Rattle.std.specs.Prelude.{◌≡◌, ◌⊎◌, ℕ, Bool, true, false, pos, ◌+◌, ◌-ℤ◌, ◌≤ℤ◌, ◌^◌, ◌<◌, ◌≤◌, ◌==◌, ◌&&◌, Option, None, Some, Result, Ok, Err}
use Rattle.std.specs.Prelude.{List, [], ◌∷◌, length, take, drop, if◌then◌else◌}
use Rattle.tcp_rules.specs.Coming.{StandsBehind}
use Rattle.seq_arith.specs.Number.{number_at}
use Rattle.seq_arith.specs.Offset.{one_if, ack_of}
use Rattle.seq_arith.specs.Packet.{Segment, has_ack}
use Rattle.seq_arith.specs.declared.BadPacket.{BadPacket}
use Rattle.segment_codec.specs.declared.Head.{Head}
use Rattle.tcp_endpoint.specs.declared.states.StateName.TheVariants as names
use Rattle.tcp_endpoint.specs.States.{has_begun}
use Rattle.tcp_endpoint.specs.ReceiveHalf.{Receiving, taken, receive_edge}
use Rattle.tcp_endpoint.specs.SendHalf.{Sending}
use Rattle.tcp_endpoint.specs.Tcb.{Tcb}
use Rattle.endpoint_laws.specs.ConnectionEnd.{IsNamedRightly, is_over}
use Rattle.ft_model.specs.Client.{Client, IsMove, received, is_opening, is_ended, is_open}
use Rattle.ft_model.specs.Client.ClientKind.{Live}
use Rattle.ft_model.specs.declared.phase.Phase.{Phase}
use Rattle.ft_model.specs.declared.phase.Phase.TheVariants as phases
use Rattle.peer_client.specs.declared.live.ClientEnd.{ClientEnd}
use Rattle.peer_client.specs.declared.live.ClientEnd.TheVariants as ends
use Rattle.peer_client.specs.Live.{LiveState, is_of}
use Rattle.peer_client.specs.Stamping.{EchoFits}

-- the segments are moves of the machine, one after another
abbrev pub AreMoves : Client → List Segment → Client → Type 0
AreMoves before [] after = after ≡ before
AreMoves before (segment ∷ segments) after = (between : Client) × IsMove before segment between × AreMoves between segments after

-- how the machine's connection has ended, if it has: by a RST, or with the server's FIN accepted and the client's acknowledged
abbrev pub is_reset : Phase → Bool
is_reset phases.Reset = true
is_reset phase = false

abbrev pub outcome_of : Client → Option ClientEnd
outcome_of c =
    if is_reset c.phase then Some ends.Reset
    else (if is_ended c.phase && c.acknowledged == length c.script + 1 then Some ends.Closed else None)

-- the same connection
pub record IsSame (l : LiveState) (c : Client) : Type 0 where
  pub kind : c.kind ≡ Live
  pub ip : c.key.ip ≡ l.local.ip
  pub port : c.key.port ≡ l.local.port
  pub server : c.server ≡ l.server
  pub script : c.script ≡ l.script
  pub isn : c.isn ≡ l.tcb.sending.iss
  pub local : l.tcb.local ≡ l.local
  pub remote : l.tcb.remote ≡ l.server

-- the machine has accepted what TCP has taken, and holds what TCP holds
pub record OnReceipt (r : Receiving) (c : Client) : Type 0 where
  pub sisn : c.sisn ≡ r.irs
  pub limit : r.limit ≡ longest_stream
  pub count : length c.accepted ≡ taken r
  pub rest : drop r.read c.accepted ≡ r.unread
  pub fin : is_ended c.phase ≡ r.fin
  pub early : c.early ≡ r.early
  pub behind : StandsBehind (taken r) (receive_edge r) r.fin r.early
  pub within : taken r ≤ r.limit
  pub queued : length r.unread ≤ 65535

-- TCP and the machine have sent the same, and TCP's send queue has the bytes of the script that were written and aren't acknowledged. A FIN is sent after the
-- complete script
pub record Sends (s : Sending) (written : ℕ) (c : Client) : Type 0 where
  pub sent : c.sent ≡ s.sent
  pub acknowledged : c.acknowledged ≡ s.una
  pub held : s.held ≡ drop s.una (take written c.script)
  pub order : s.una ≤ s.sent
  pub wl2 : s.wl2 ≤ s.sent
  pub within : written ≤ length c.script
  pub script : length c.script ≤ longest_stream
  pub text : s.fin_sent ≡ false → s.sent ≤ written
  pub ended : s.fin_sent ≡ true → (s.closed ≡ true) × (s.sent ≡ written + 1)
  pub shut : s.closed ≡ true → written ≡ length c.script
  pub least : least_segment ≤ s.mss
  pub most : s.mss ≤ largest_segment

pub record Agrees (l : LiveState) (c : Client) : Type 0 where
  pub same : IsSame l c
  pub on_receipt : OnReceipt l.tcb.receiving c
  pub sends : Sends l.tcb.sending l.written c

-- the RST sent in reply is the refusal of a wrong acknowledgement of the SYN, and has that number
pub record Refuses (l : LiveState) (c : Client) (head : Head) : Type 0 where
  pub src : head.src ≡ l.local.ip
  pub dst : head.dst ≡ l.server.ip
  pub sport : head.sport ≡ l.local.port
  pub dport : head.dport ≡ l.server.port
  pub seq : head.seq.0 < 2 ^ 32
  pub wrong : (head.seq.0 == number_at c.isn 0) ≡ false
  pub ack : head.ack.0 ≡ 0
  pub flags : head.flags ≡ 4
  pub window : head.window ≡ 0
  pub mss : head.mss ≡ None
  pub timestamps : head.timestamps ≡ None

abbrev pub AnswersBy : LiveState → Client → Option Head → Type 0
AnswersBy l c None = Unit {0}
AnswersBy l c (Some head) = (is_opening c.phase ≡ true) × Refuses l c head

-- the SYN is due, or waits for its answer
pub record Waits (l : LiveState) (c : Client) : Type 0 where
  pub agrees : Agrees l c
  pub name : l.tcb.name ≡ names.SynSent
  pub phase : (c.phase ≡ phases.New) ⊎ (c.phase ≡ phases.Opening)
  pub due : c.phase ≡ phases.New → l.tcb.retransmission_due ≡ true
  pub syn_acked : l.tcb.sending.syn_acked ≡ false
  pub closed : l.tcb.sending.closed ≡ false
  pub nothing_sent : l.tcb.sending.sent ≡ 0
  pub nothing_taken : taken l.tcb.receiving ≡ 0
  pub unreset : l.tcb.reset ≡ false
  pub probe : l.tcb.probe ≡ false
  pub reset_reply : AnswersBy l c l.tcb.reset_reply
  pub edge : c.edge ≤ receive_edge l.tcb.receiving
  pub reported : c.phase ≡ phases.Opening → c.edge ≡ receive_edge l.tcb.receiving
  pub outcome : l.outcome ≡ None

-- what was advertised last: an acknowledgement of this many bytes, with a FIN or without, and the right edge
pub record Reported (e : Tcb) (c : Client) : Type 0 where
  pub bytes : ℕ
  pub fin : Bool
  pub next_is : e.last_ack_sent ≡ bytes + one_if fin
  pub edge_is : e.last_advertised_edge ≡ c.edge + one_if fin
  pub bytes_taken : bytes ≤ taken e.receiving
  pub fin_taken : fin ≡ true → e.receiving.fin ≡ true

-- the client's SYN is acknowledged: the connection has begun, or both sides have closed it
pub record IsConnected (l : LiveState) (c : Client) : Type 0 where
  pub agrees : Agrees l c
  pub syn_acked : l.tcb.sending.syn_acked ≡ true
  pub phase : is_open c.phase ≡ true
  pub named : IsNamedRightly l.tcb
  pub over : has_begun l.tcb.name ≡ false → (l.tcb.name ≡ names.Closed) × (l.tcb.sending.closed ≡ true) × (is_over l.tcb ≡ true)
  pub unreset : l.tcb.reset ≡ false
  pub reset_reply : l.tcb.reset_reply ≡ None
  pub edge : c.edge ≤ receive_edge l.tcb.receiving
  pub reported : (l.tcb.ack_pending ≡ true) ⊎ Reported l.tcb c
  pub outcome : l.outcome ≡ outcome_of c

-- the machine has accepted as much as TCP has taken, and TCP's unread bytes are the last of the accepted ones
pub record HasReceived (r : Receiving) (c : Client) : Type 0 where
  pub count : length c.accepted ≡ taken r
  pub rest : drop r.read c.accepted ≡ r.unread

-- a RST arrived
pub record IsReset (l : LiveState) (c : Client) : Type 0 where
  pub phase : c.phase ≡ phases.Reset
  pub name : l.tcb.name ≡ names.Closed
  pub reset : l.tcb.reset ≡ true
  pub reset_reply : l.tcb.reset_reply ≡ None
  pub outcome : l.outcome ≡ Some ends.Reset
  pub receipt : HasReceived l.tcb.receiving c

-- between two turns nothing is due, and all is advertised
pub record IsWaiting (l : LiveState) (c : Client) : Type 0 where
  pub waits : Waits l c
  pub phase : c.phase ≡ phases.Opening
  pub retransmission_due : l.tcb.retransmission_due ≡ false
  pub reset_reply : l.tcb.reset_reply ≡ None

pub record IsStanding (l : LiveState) (c : Client) : Type 0 where
  pub stands : IsConnected l c
  pub begun : has_begun l.tcb.name ≡ true
  pub edge : c.edge ≡ receive_edge l.tcb.receiving
  pub reported : Reported l.tcb c

abbrev pub RestsBeside : LiveState → Client → Type 0
RestsBeside l c = IsWaiting l c ⊎ IsStanding l c

abbrev pub IsBetween : LiveState → Client → Type 0
IsBetween l c = EchoFits l.stamps.timestamping × RestsBeside l c

-- within a turn, until its flush
abbrev pub RunsBeside : LiveState → Client → Type 0
RunsBeside l c = Waits l c ⊎ (IsConnected l c ⊎ IsReset l c)

abbrev pub IsDue : LiveState → Client → Type 0
IsDue l c = EchoFits l.stamps.timestamping × RunsBeside l c

-- a packet of the client's own connection
abbrev pub is_for_client : Client → Segment → Bool
is_for_client c segment = is_of (record { ip = c.key.ip; port = c.key.port }) c.server segment

-- what arrives from the client's server acknowledges nothing far before the client's stream
abbrev pub AcksNear : Client → Result Segment BadPacket → Type 0
AcksNear c (Ok segment) = is_for_client c segment ≡ true → has_ack segment ≡ true → (pos 0 -ℤ pos (2 ^ 30)) ≤ℤ ack_of c.isn segment
AcksNear c (Err bad) = Unit {0}

-- an acknowledgement is a number of 32 bits
abbrev pub AckFits : Result Segment BadPacket → Type 0
AckFits (Ok segment) = segment.head.ack < 2 ^ 32
AckFits (Err bad) = Unit {0}

-- the machine with bytes that arrive: it receives a packet of the connection, and drops all else
abbrev pub receiving : LiveState → Client → Result Segment BadPacket → Client
receiving l c (Ok segment) = if is_of l.local l.server segment then received c segment else c
receiving l c (Err bad) = c

-- at the end of a turn: the segments sent are moves of the machine, the bytes that weren't handed out are still there, and as long as there is no outcome the
-- machine corresponds to the client as before
pub record Moves (after : LiveState) (segments : List Segment) (c : Client) : Type 0 where
  pub later : Client
  pub moves : AreMoves c segments later
  pub receipt : HasReceived after.tcb.receiving later
  pub proceeds : after.outcome ≡ None → IsBetween after later

-- how many bytes were handed out
abbrev pub handed_out : LiveState → ℕ
handed_out l = l.tcb.receiving.read + l.seen
