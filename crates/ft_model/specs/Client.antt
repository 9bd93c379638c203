-- The client: what it may send, and what it does with what arrives (RFC 9293, 3.10). Its offsets are units: bytes, and one more for a FIN.
use Rattle.limits.specs.Limits.{largest_segment}
use Rattle.std.specs.Prelude.{◌≡◌, ℕ, ℤ, Bool, true, false, pos, ◌+◌, ◌-◌, ◌^◌, ◌==◌, ◌&&◌, ◌||◌, not, nat_lt, nat_le, int_lt, max, min, Option, Some}
use Rattle.std.specs.Prelude.{None, option_map, List, [], ◌++◌, length, take, drop, nat_abs, if◌then◌else◌}
use Rattle.ft_io.specs.declared.Addr.{Addr}
use Rattle.ft_io.specs.declared.Key.{Key}
use Rattle.seq_arith.specs.Number.{number_at}
use Rattle.tcp_rules.specs.Arrival.{int_eq, is_acceptable, is_usable}
use Rattle.tcp_rules.specs.Coming.{Early, Came, nothing_early, comes}
use Rattle.seq_arith.specs.declared.options.Timestamps.{Timestamps}
use Rattle.seq_arith.specs.Packet.{Segment, has_syn, has_rst, has_ack, timestamps_length, with_timestamps}
use Rattle.ft_model.specs.Offset.{first_of, ack_of, text_of, fin_of, length_of, one_if}
use Rattle.ft_model.specs.declared.phase.Phase.{Phase}
use Rattle.ft_model.specs.declared.phase.Phase.TheVariants.{New, Opening, Established, Ended, Reset}
use Rattle.ft_model.specs.declared.event.Event.{Event}
use Rattle.ft_model.specs.declared.event.Event.TheVariants as events
use Rattle.ft_model.specs.declared.event.EventWhy.{EventWhy}
use Rattle.ft_model.specs.declared.event.EventWhy.TheVariants.{State, Range}

-- The two kinds of clients. A client is of one kind from its start on. A scripted one makes exactly the moves that the events of a schedule ask for. A live
-- one is a TCP of its own
pub data ClientKind : Type 0 where
  Scripted : ClientKind
  Live : ClientKind

pub record Client : Type 0 where
  pub kind : ClientKind
  pub key : Key
  pub server : Addr
  pub isn : ℕ
  pub script : List ℕ
  pub phase : Phase
  pub sisn : ℕ  -- the server's initial sequence number; 0 until it is known
  pub sent : ℕ  -- units sent, from the first on
  pub acknowledged : ℕ  -- how many of these units the server has acknowledged
  pub accepted : List ℕ  -- the server's bytes
  pub edge : ℕ  -- the right edge: no byte from here on is accepted
  pub early : Early  -- of a live client: the server's text after the accepted bytes, and its FIN, that are held

abbrev pub new_client : ClientKind → Addr → Key → ℕ → List ℕ → Client
new_client kind server key isn script = record {
  kind = kind;
  key = key;
  server = server;
  isn = isn;
  script = script;
  phase = New;
  sisn = 0;
  sent = 0;
  acknowledged = 0;
  accepted = [];
  edge = 0;
  early = nothing_early;
}

abbrev pub is_new : Phase → Bool
is_new New = true
is_new _ = false

abbrev pub is_opening : Phase → Bool
is_opening Opening = true
is_opening _ = false

abbrev pub is_ended : Phase → Bool
is_ended Ended = true
is_ended _ = false

-- the connection is open in at least one direction
abbrev pub is_open : Phase → Bool
is_open Established = true
is_open Ended = true
is_open _ = false

-- the accepted units: the server's FIN counts as one
abbrev pub accepted_units : Client → ℕ
accepted_units client = length client.accepted + one_if (is_ended client.phase)

-- What a client may send (RFC 9293, 3.10.4 and 3.10.7.3). A refusal is a RST that answers a wrong acknowledgement of the client's SYN, and has that number.
-- The client is then opening as before.
pub data Move : Type 0 where
  Syn : (mss : Option ℕ) → Move
  Text : (from len : ℕ) → Move
  Fin : Move
  Acknowledge : Move
  Rst : Move
  Refuse : (number : ℕ) → Move

abbrev pub is_live : ClientKind → Bool
is_live Scripted = false
is_live Live = true

-- a live client's SYN may offer a segment size, of 16 bits (RFC 9293, 3.2)
abbrev pub may_offer : ClientKind → Option ℕ → Bool
may_offer kind None = true
may_offer kind (Some mss) = is_live kind && nat_lt mss (2 ^ 16)

-- only a live client offers a segment size, and only a live client refuses
abbrev pub suits_kind : ClientKind → Move → Bool
suits_kind kind (Syn mss) = may_offer kind mss
suits_kind kind (Refuse number) = is_live kind
suits_kind kind move = true

-- the phases in which the move may be made. Once its FIN is acknowledged a client sends neither text nor FIN
abbrev pub suits_phase : Client → Move → Bool
suits_phase client (Syn mss) = is_new client.phase || is_opening client.phase
suits_phase client (Text from len) = is_open client.phase && nat_le client.acknowledged (length client.script)
suits_phase client Fin = is_open client.phase && nat_le client.acknowledged (length client.script)
suits_phase client Acknowledge = is_open client.phase
suits_phase client Rst = is_opening client.phase || is_open client.phase
suits_phase client (Refuse number) = is_opening client.phase

-- text begins no earlier than at the first unacknowledged unit and no later than at the first unsent one, has 1 to 1,460 bytes and stays within the script. A
-- FIN comes once the whole script is sent. A refused acknowledgement is any but that of the SYN (RFC 9293, 3.10.7.3)
abbrev pub suits_range : Client → Move → Bool
suits_range client (Text from len) = nat_le client.acknowledged from && nat_le from client.sent && nat_le 1 len && nat_le len largest_segment
    && nat_le (from + len) (length client.script)
suits_range client Fin = nat_le (length client.script) client.sent
suits_range client (Refuse number) = nat_lt number (2 ^ 32) && not (number == number_at client.isn 0)
suits_range client _ = true

abbrev pub may_move : Client → Move → Bool
may_move client move = suits_kind client.kind move && suits_phase client move && suits_range client move

-- the flags of a move: SYN 2, FIN 1, RST 4, ACK 16
abbrev pub flags_of : Move → ℕ
flags_of (Syn mss) = 2
flags_of (Text from len) = 16
flags_of Fin = 17
flags_of Acknowledge = 16
flags_of Rst = 4
flags_of (Refuse number) = 4

-- the sequence number of a move
abbrev pub seq_of : Client → Move → ℕ
seq_of client (Syn mss) = client.isn
seq_of client (Text from len) = number_at client.isn from
seq_of client Fin = number_at client.isn (length client.script)
seq_of client Acknowledge = number_at client.isn client.sent
seq_of client Rst = number_at client.isn client.sent
seq_of client (Refuse number) = number

abbrev pub is_acknowledging : Move → Bool
is_acknowledging (Text from len) = true
is_acknowledging Fin = true
is_acknowledging Acknowledge = true
is_acknowledging _ = false

-- text, FIN and ACK acknowledge all that is accepted; other moves acknowledge nothing
abbrev pub ack_number_of : Client → Move → ℕ
ack_number_of client move = if is_acknowledging move then number_at client.sisn (accepted_units client) else 0

abbrev pub mss_of : Move → Option ℕ
mss_of (Syn mss) = mss
mss_of _ = None

abbrev pub payload_of : Client → Move → List ℕ
payload_of client (Text from len) = take len (drop from client.script)
payload_of client _ = []

-- at most how many bytes of text a move has
abbrev pub text_length : Move → ℕ
text_length (Text from len) = len
text_length _ = 0

-- the packet of a move, with the window that it advertises and without timestamps
abbrev pub segment_of : Client → Move → ℕ → Segment
segment_of client move window = record {
  head = record {
    src = client.key.ip;
    dst = client.server.ip;
    sport = client.key.port;
    dport = client.server.port;
    seq = seq_of client move;
    ack = ack_number_of client move;
    flags = flags_of move;
    window = window;
    mss = mss_of move;
    timestamps = None;
  };
  payload = payload_of client move;
}

abbrev pub sent_after : Client → Move → ℕ
sent_after client (Text from len) = max client.sent (from + len)
sent_after client Fin = length client.script + 1
sent_after client _ = client.sent

abbrev pub phase_after : Phase → Move → Phase
phase_after phase (Syn mss) = Opening
phase_after phase Rst = Reset
phase_after phase _ = phase

-- the client after a move: the advertised window raises its right edge and never lowers it
abbrev pub moved : Client → Move → ℕ → Client
moved client move window = record client {
  phase = phase_after client.phase move;
  sent = sent_after client move;
  edge = max client.edge (length client.accepted + window);
}

-- a move advertises a window that a header can hold. A RST advertises none: its window is 0
abbrev pub may_advertise : Move → ℕ → Bool
may_advertise Rst window = window == 0
may_advertise (Refuse number) window = window == 0
may_advertise _ window = nat_lt window (2 ^ 16)

-- a live client's packet may carry timestamps, of 32 bits each, where they leave room for its text (RFC 7323, 3.2)
abbrev pub may_carry : ClientKind → Move → Option Timestamps → Bool
may_carry kind move None = true
may_carry kind move (Some timestamps) =
    is_live kind && nat_lt timestamps.value (2 ^ 32) && nat_lt timestamps.echo (2 ^ 32) && nat_le (text_length move + timestamps_length) largest_segment

-- a packet is a move of the client, which is then `after`
pub record IsMove (client : Client) (segment : Segment) (after : Client) : Type 0 where
  pub move : Move
  pub window : ℕ
  pub timestamps : Option Timestamps
  pub may : may_move client move ≡ true
  pub fits : may_advertise move window ≡ true
  pub carries : may_carry client.kind move timestamps ≡ true
  pub segment_is : segment ≡ with_timestamps timestamps (segment_of client move window)
  pub after_is : after ≡ moved client move window

-- The scripted client: which move an event of the schedule asks for, and of which client ..
abbrev pub move_asked : Event → Option (ℕ × Move)
move_asked (events.Begin client window) = Some (client, Syn None)
move_asked (events.Send client from len) = Some (client, Text from len)
move_asked (events.Fin client) = Some (client, Fin)
move_asked (events.Ack client window) = Some (client, Acknowledge)
move_asked (events.Reset client) = Some (client, Rst)
move_asked (events.Boot boot isn) = None
move_asked events.Crash = None
move_asked events.Tick = None
move_asked (events.Deliver packet) = None
move_asked (events.Flip packet bit) = None
move_asked (events.Stop part) = None

-- the client alone, and the move alone
abbrev pub mover_of : Event → Option ℕ
mover_of event = option_map (λ a. a.0) (move_asked event)

abbrev pub move_of : Event → Option Move
move_of event = option_map (λ a. a.1) (move_asked event)

-- .. and with which window: that of the event; for text and FIN the room that is left of what was advertised; 0 with a RST
abbrev pub window_of : Client → Event → ℕ
window_of client (events.Begin number window) = window
window_of client (events.Ack number window) = window
window_of client (events.Send number from len) = min 65535 (client.edge - length client.accepted)
window_of client (events.Fin number) = min 65535 (client.edge - length client.accepted)
window_of client (events.Reset number) = 0
window_of client (events.Boot boot isn) = 0
window_of client events.Crash = 0
window_of client events.Tick = 0
window_of client (events.Deliver packet) = 0
window_of client (events.Flip packet bit) = 0
window_of client (events.Stop part) = 0

-- why the client's state doesn't allow the move
abbrev pub refusal_of_move : Client → Move → Option EventWhy
refusal_of_move client move = if suits_phase client move then (if suits_range client move then None else Some Range) else Some State

-- RCV.NXT and RCV.WND of the client, in units
abbrev pub next_of : Client → ℕ
next_of client = accepted_units client

abbrev pub room_of : Client → ℕ
room_of client = client.edge - length client.accepted

-- the answer to the SYN arrives: a SYN-ACK opens and a RST resets, if it acknowledges the SYN
abbrev pub opened_by : Client → Segment → Client
opened_by client segment =
    if has_ack segment && segment.head.ack == number_at client.isn 0
    then (if has_rst segment then record client { phase = Reset }
    else (if has_syn segment then record client { phase = Established; sisn = segment.head.seq } else client))
    else client

-- whether the acknowledgement of a segment may be used. A scripted client uses only segments that are acceptable by TCP's four cases. A live one also uses
-- those of length 0 at its right edge, and those that a zero window allows
abbrev pub may_use : Client → Segment → Bool
may_use client segment =
    if is_live client.kind
    then is_usable (next_of client) (room_of client) (first_of client.sisn segment) (length_of segment)
    else is_acceptable (next_of client) (room_of client) (first_of client.sisn segment) (length_of segment)

abbrev pub with_ack : Client → ℤ → Client
with_ack client ack = record client { acknowledged = if int_lt (pos client.acknowledged) ack then nat_abs ack else client.acknowledged }

-- a live client holds out-of-order data, as a server does; a scripted one drops it
abbrev pub holds : ClientKind → Early → Early
holds Scripted early = nothing_early
holds Live early = early

-- the client accepts what a segment adds to the server's stream, and the server's FIN ends it
abbrev pub with_added : Client → Came → Client
with_added client came = record client {
  accepted = client.accepted ++ came.added;
  early = holds client.kind came.early;
  phase = if came.fin then Ended else client.phase;
}

abbrev pub came : Client → Segment → Came
came client segment =
    comes (length client.accepted) client.edge (is_ended client.phase) (holds client.kind client.early) (first_of client.sisn segment) (text_of segment)
    (fin_of segment)

-- a segment with ACK that may be used arrives in an open connection. If it acknowledges what was not sent, it is dropped
abbrev pub used : Client → Segment → Client
used client segment =
    if int_lt (pos client.sent) (ack_of client.isn segment) then client else with_added (with_ack client (ack_of client.isn segment)) (came client segment)

-- RFC 9293, 3.10.7.4, as far as it concerns a client that never answers: acceptability, RST at exactly the next number, SYN, ACK
abbrev pub arrived : Client → Segment → Client
arrived client segment =
    if may_use client segment
    then (if has_rst segment
    then (if int_eq (first_of client.sisn segment) (pos (next_of client)) then record client { phase = Reset } else client)
    else (if has_syn segment || not (has_ack segment) then client else used client segment))
    else client

-- a client of either kind receives a packet. A new or reset client drops it
abbrev pub received : Client → Segment → Client
received client segment = if is_opening client.phase then opened_by client segment else (if is_open client.phase then arrived client segment else client)
