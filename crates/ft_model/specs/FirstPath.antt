-- Packets of a worked run: a client at 192.0.2.1:40000 with initial sequence number 1000 says hello to an echo service at 192.0.2.100:7. The first boot
-- has initial sequence number 5000. A second boot then fetches the log.
use Rattle.std.specs.Prelude.{ℕ, codes, false, Option, None, List, [], ◌∷◌}
use Rattle.ft_io.specs.declared.Key.{Key}
use Rattle.seq_arith.specs.Message.Body.{HelloMsg, EntryMsg, PartMsg, CutsMsg, LensMsg, OpenMsg, DataMsg, StableMsg, ReadMsg, ReadsMsg}
use Rattle.seq_arith.specs.Message.{Body}
use Rattle.ft_model.specs.Network.{Packet}
use Rattle.ft_model.specs.Network.Packet.{To_server, To_client, To_logger, From_logger}

abbrev pub client_key : Key
client_key = record { ip = 3221225985; port = 40000 }

-- from the client, with these numbers and flags
abbrev pub from_client : ℕ → ℕ → ℕ → List ℕ → Packet
from_client seq ack flags payload = To_server (record {
  head = record {
    src = 3221225985;
    dst = 3221226084;
    sport = 40000;
    dport = 7;
    seq = seq;
    ack = ack;
    flags = flags;
    window = 65535;
    mss = None;
    timestamps = None;
  };
  payload = payload;
})

-- to the client
abbrev pub from_server : ℕ → ℕ → ℕ → Option ℕ → List ℕ → Packet
from_server seq ack flags mss payload = To_client (record {
  head = record {
    src = 3221226084;
    dst = 3221225985;
    sport = 7;
    dport = 40000;
    seq = seq;
    ack = ack;
    flags = flags;
    window = 65535;
    mss = mss;
    timestamps = None;
  };
  payload = payload;
})

-- from the server with this boot number
abbrev pub to_logger : ℕ → Body → Packet
to_logger boot body = To_logger (record { boot = boot; body = body })

abbrev pub from_logger : ℕ → Body → Packet
from_logger boot body = From_logger (record { boot = boot; body = body })

abbrev pub hello : Packet
hello = to_logger 1 HelloMsg

abbrev pub opening : Packet
opening = to_logger 1 (OpenMsg (record { key = client_key; cisn = 1000; sisn = 5000; mss = 536 }))

abbrev pub bytes_to_log : Packet
bytes_to_log = to_logger 1 (DataMsg (record { key = client_key; offset = 0; acked = 0; fin = false; more = false; bytes = codes "hello" }))

abbrev pub read : Packet
read = to_logger 1 (ReadMsg client_key 0 5)

abbrev pub stable : Packet
stable = from_logger 1 (StableMsg (record { key = client_key; length = 5; fin = false; reads = 0 }))

abbrev pub reads : Packet
reads = from_logger 1 (ReadsMsg (record { key = client_key; length = 5; fin = false; reads = 1 }))

abbrev pub entry : Packet
entry = from_logger 2 (EntryMsg 0 (record {
  key = client_key;
  cisn = 1000;
  sisn = 5000;
  mss = 536;
  length = 5;
  fin = false;
  done = false;
  reads = 1;
  acked = 0;
}))

abbrev pub part : Packet
part = from_logger 2 (PartMsg client_key 0 (codes "hello"))

abbrev pub cuts : Packet
cuts = to_logger 2 (CutsMsg client_key 0)

abbrev pub lens : Packet
lens = from_logger 2 (LensMsg client_key 0 (2 ∷ 1 ∷ []))
