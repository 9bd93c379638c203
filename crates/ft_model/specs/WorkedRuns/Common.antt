-- What the worked runs share: the addresses, the service, and the packets of client 1 and of its server.
use Rattle.std.specs.Prelude.{ℕ, Bool, true, false, ◌==◌, Option, None, List, [], ◌∷◌, length}
use Rattle.ft_io.specs.declared.Addr.{Addr}
use Rattle.ft_io.specs.declared.Key.{Key}
use Rattle.tcp_rules.specs.declared.timestamping.Timestamping.TheVariants.{Off}
use Rattle.tcp_rules.specs.Congestion.{Congestion}
use Rattle.seq_arith.specs.Packet.{Segment}
use Rattle.seq_arith.specs.Message.{Numbers, Kept, EntryHead, Part, Body}
use Rattle.tcp_rules.specs.Profile.{Profile, plain}
use Rattle.server_trait.specs.Service.{Served, Machine}
use Rattle.ft_model.specs.Client.{Client, new_client}
use Rattle.ft_model.specs.Client.ClientKind.{Scripted}
use Rattle.ft_model.specs.Log.{empty_log}
use Rattle.ft_model.specs.Network.{Packet}
use Rattle.ft_model.specs.Network.Packet.{To_server, To_client, To_logger, From_logger}
use Rattle.ft_model.specs.Point.{Point}
use Rattle.ft_model.specs.Restart.{Fetched}
use Rattle.ft_model.specs.Node.{Node, Input}
use Rattle.ft_model.specs.Node.Place.{Opens, Lives}
use Rattle.ft_model.specs.Node.Stage.{Fetching, Serving}
use Rattle.ft_model.specs.Node.Input.{Packet_comes, Message_comes, Tick_comes}
use Rattle.ft_model.specs.Lawful.{Turn, LawfulTurn}
use Rattle.ft_model.specs.World.{World}

-- 192.0.2.100:7
abbrev pub server : Addr
server = record { ip = 3221226084; port = 7 }

-- 192.0.2.1:40000
abbrev pub key : Key
key = record { ip = 3221225985; port = 40000 }

-- the echo service: what it reads it writes, and it closes at the end of input
abbrev pub echoed : Bool → List ℕ → Served Bool
echoed state chunk = record { next = state; output = chunk; closed = length chunk == 0 }

abbrev pub echo : Machine Bool
echo = record { fresh = false; greeting = []; after = echoed }

-- the bytes of "hello"
abbrev pub hello_text : List ℕ
hello_text = 104 ∷ 101 ∷ 108 ∷ 108 ∷ 111 ∷ []

-- client 1, with initial sequence number 1000
abbrev pub client_with : List ℕ → Client
client_with script = new_client Scripted server key 1000 script

abbrev pub start_in : Profile → List ℕ → World
start_in profile script = record { server = server; profile = profile; clients = client_with script ∷ []; log = empty_log; packets = []; boot = 0; node = None }

abbrev pub start_with : List ℕ → World
start_with script = start_in plain script

-- a segment of client 1. Flags: FIN 1, SYN 2, RST 4, ACK 16
abbrev pub client_segment : (flags seq ack window : ℕ) → List ℕ → Segment
client_segment flags seq ack window payload = record {
  head = record {
    src = key.ip;
    dst = server.ip;
    sport = key.port;
    dport = server.port;
    seq = seq;
    ack = ack;
    flags = flags;
    window = window;
    mss = None;
    timestamps = None;
  };
  payload = payload;
}

abbrev pub from_client : (flags seq ack window : ℕ) → List ℕ → Packet
from_client flags seq ack window payload = To_server (client_segment flags seq ack window payload)

-- a packet to client 1
abbrev pub to_client : (flags seq ack window : ℕ) → Option ℕ → List ℕ → Packet
to_client flags seq ack window mss payload = To_client (record {
  head = record {
    src = server.ip;
    dst = key.ip;
    sport = server.port;
    dport = key.port;
    seq = seq;
    ack = ack;
    flags = flags;
    window = window;
    mss = mss;
    timestamps = None;
  };
  payload = payload;
})

-- a message to the logger, and one from it, of this boot
abbrev pub to_log : ℕ → Body → Packet
to_log boot body = To_logger (record { boot = boot; body = body })

abbrev pub from_log : ℕ → Body → Packet
from_log boot body = From_logger (record { boot = boot; body = body })

-- the numbers of client 1's connection
abbrev pub numbers : Numbers
numbers = record { key = key; cisn = 1000; sisn = 5000; mss = 536 }

abbrev pub kept_with : (len : ℕ) → (fin : Bool) → (reads : ℕ) → Kept
kept_with len fin reads = record { key = key; length = len; fin = fin; reads = reads }

abbrev pub part_with : (offset acked : ℕ) → (fin : Bool) → List ℕ → Part
part_with offset acked fin bytes = record { key = key; offset = offset; acked = acked; fin = fin; more = false; bytes = bytes }

-- a turn in which a message of this boot comes, or a segment of client 1, or a tick
abbrev pub on_message : ℕ → Body → List Packet → Node → Turn
on_message boot body sent node = record { input = Message_comes (record { boot = boot; body = body }); sent = sent; node = node }

abbrev pub on_segment : Segment → List Packet → Node → Turn
on_segment segment sent node = record { input = Packet_comes segment; sent = sent; node = node }

abbrev pub on_tick : List Packet → Node → Turn
on_tick sent node = record { input = Tick_comes; sent = sent; node = node }

-- an incarnation with only client 1's connection, the first that it restarted or opened
abbrev pub serving_in : Profile → (boot isn : ℕ) → Point → Node
serving_in profile boot isn p = record { server = server; profile = profile; boot = boot; isn = isn; stage = Serving 1 (Lives p ∷ []) }

abbrev pub serving_at : (boot isn : ℕ) → Point → Node
serving_at boot isn p = serving_in plain boot isn p

-- an incarnation that serves no client, and one that has asked for client 1's opening
abbrev pub idle : (boot isn : ℕ) → Node
idle boot isn = record { server = server; profile = plain; boot = boot; isn = isn; stage = Serving 0 [] }

abbrev pub opening_at : (boot isn : ℕ) → Node
opening_at boot isn = record { server = server; profile = plain; boot = boot; isn = isn; stage = Serving 1 (Opens numbers Off ∷ []) }

-- an incarnation that fetches a log with one entry
abbrev pub fetching : (boot isn : ℕ) → List Fetched → Node
fetching boot isn fetched = record { server = server; profile = plain; boot = boot; isn = isn; stage = Fetching 1 fetched }

-- the head of client 1's entry
abbrev pub head_with : (len : ℕ) → (fin : Bool) → (reads acked : ℕ) → EntryHead
head_with len fin reads acked = record { key = key; cisn = 1000; sisn = 5000; mss = 536; length = len; fin = fin; done = false; reads = reads; acked = acked }

abbrev pub fetched_with : EntryHead → List ℕ → List ℕ → Fetched
fetched_with head bytes lengths = record { head = head; bytes = bytes; lengths = lengths }

-- a congestion window, a slow start threshold, and a count of duplicate acknowledgements
abbrev pub congestion_with : (cwnd ssthresh dups : ℕ) → Congestion
congestion_with cwnd ssthresh dups = record { cwnd = cwnd; ssthresh = ssthresh; dups = dups; recovers = false; lost = 0 }

-- the same of a sender that recovers the losses of one flight one after another, with what was sent when a loss was noticed
abbrev pub recovery_with : (cwnd ssthresh dups lost : ℕ) → Congestion
recovery_with cwnd ssthresh dups lost = record { cwnd = cwnd; ssthresh = ssthresh; dups = dups; recovers = true; lost = lost }

-- no lawful turn from this state, by this input, sends these packets
abbrev pub IsUnlawful : Node → Input → List Packet → Type 0
IsUnlawful before input sent = (after : Node) → LawfulTurn echo before input sent after → ⊥
