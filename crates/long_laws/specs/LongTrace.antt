-- Long traces, of a service that lives for years. To the events of a joint trace they add five steps: the log recycles the entry of a connection that is done,
-- the server forgets its key, a new client arrives, also at an address and port that were used before, the server sends a silent client a keep-alive, and it
-- lets go of one that is gone. The one premise more is on the network: whatever of a connection is still under way when its entry is recycled is lost (RFC
-- 9293, 3.4.2: no segment outlives MSL, the maximum segment lifetime). A server makes it true by a quarantine: it waits that long before it has the entry
-- recycled.
use Rattle.std.specs.Prelude.{◌≡◌, ◌<◌, ◌+◌, ◌%◌, ◌^◌, ℕ, Bool, true, false, map, filter, if◌then◌else◌, Option, Some, None, List, [], ◌∷◌, ◌++◌}
use Rattle.std.specs.List.{AllByRecursion}
use Rattle.ft_io.specs.declared.Addr.{Addr}
use Rattle.ft_io.specs.declared.Key.{Key}
use Rattle.ft_io.specs.Key.{key_eq}
use Rattle.seq_arith.specs.Number.{number_at}
use Rattle.seq_arith.specs.declared.flags.TheConstants.{RST, ACK}
use Rattle.seq_arith.specs.Packet.{Segment}
use Rattle.seq_arith.specs.Message.{Body}
use Rattle.seq_arith.specs.Message.Body.{HelloMsg, SummaryMsg, ListMsg, EntryMsg, BytesMsg, PartMsg, CutsMsg, LensMsg, OpenMsg, OpenedMsg, DataMsg}
use Rattle.seq_arith.specs.Message.Body.{StableMsg, ReadMsg, ReadsMsg, DoneMsg, EndedMsg, StaleMsg, FullMsg}
use Rattle.server_trait.specs.Service.{Machine, reference}
use Rattle.ft_model.specs.Client.{Client, is_ended}
use Rattle.ft_model.specs.Growth.{IsPrefix, logged_lengths}
use Rattle.ft_model.specs.Lawful.{LawfulTurn}
use Rattle.ft_model.specs.Log.{Log, Entry, entry_of}
use Rattle.ft_model.specs.Masked.{SeesFront, AcknowledgesLogged, RestartIsExact, AllAreReported, is_restarting}
use Rattle.ft_model.specs.Network.{Packet, source_of, destination_of}
use Rattle.ft_model.specs.Network.Packet.{To_server, To_client, To_logger, From_logger}
use Rattle.ft_model.specs.Node.{Node, Place, Stage, key_of, place_at}
use Rattle.ft_model.specs.Node.Input.{Packet_comes}
use Rattle.ft_model.specs.Node.Place.{Lives, Ended}
use Rattle.ft_model.specs.Node.Stage.{Serving}
use Rattle.ft_model.specs.Point.{Point, taken_units, acknowledgement, window}
use Rattle.ft_model.specs.World.{World, Moment, Happens, IsStart, IsNewClient, is_apart}
use Rattle.ft_model.specs.declared.event.Event.{Event}

-- those that don't pass the test
abbrev pub others : {A : Type 0} → (A → Bool) → List A → List A
others passes [] = []
others passes (x ∷ xs) = if passes x then others passes xs else x ∷ others passes xs

-- the message is about the connection of a key
abbrev pub is_about : Key → Body → Bool
is_about key (EntryMsg index head) = key_eq head.key key
is_about key (BytesMsg k offset) = key_eq k key
is_about key (PartMsg k offset bytes) = key_eq k key
is_about key (CutsMsg k first) = key_eq k key
is_about key (LensMsg k first lens) = key_eq k key
is_about key (OpenMsg n) = key_eq n.key key
is_about key (OpenedMsg n) = key_eq n.key key
is_about key (DataMsg part) = key_eq part.key key
is_about key (StableMsg kept) = key_eq kept.key key
is_about key (ReadMsg k index n) = key_eq k key
is_about key (ReadsMsg kept) = key_eq kept.key key
is_about key (DoneMsg k) = key_eq k key
is_about key (EndedMsg k) = key_eq k key
is_about key (FullMsg k) = key_eq k key
is_about key HelloMsg = false
is_about key (SummaryMsg count) = false
is_about key (ListMsg index) = false
is_about key (StaleMsg newer) = false

-- the packet is one of the connection of a key: a segment from or to its client, or a message about it
abbrev pub concerns : Key → Packet → Bool
concerns key (To_server segment) = key_eq (source_of segment) key
concerns key (To_client segment) = key_eq (destination_of segment) key
concerns key (To_logger message) = is_about key message.body
concerns key (From_logger message) = is_about key message.body

-- the packet is a message to the log about the connection of a key
abbrev pub asks_about : Key → Packet → Bool
asks_about key (To_logger message) = is_about key message.body
asks_about key _ = false

abbrev pub places_at : Stage → List Place
places_at (Serving opened places) = places
places_at _ = []

abbrev pub IsEnded : Place → Type 0
IsEnded (Ended key) = Unit {0}
IsEnded _ = ⊥

-- the server has no connection of a key, neither a live one nor a pending opening. It may still know that one is done
abbrev pub IsClear : Key → World → Type 0
IsClear key w = (node : Node) → w.node ≡ Some node → AllByRecursion (λ place. key_eq (key_of place) key ≡ true → IsEnded place) (places_at node.stage)

-- The log recycles an entry: the entry is dropped, its client is gone, and whatever of its connection is under way is lost
abbrev pub without_entry : Key → Log → Log
without_entry key log = record log { entries = others (λ e. key_eq e.key key) log.entries }

abbrev pub recycled : Key → World → World
recycled key w = record w { clients = others (λ c. key_eq c.key key) w.clients; log = without_entry key w.log; packets = others (concerns key) w.packets }

-- It may do so if the entry is done, the server has no connection of this key, and no restart is asking this log: the Hello of a server that restarts hasn't
-- reached it yet. A client that has no entry, because its SYN was refused or never arrived, may be gone in the same way
pub record MayRecycle (key : Key) (w : World) : Type 0 where
  pub done : (e : Entry) → entry_of key w.log ≡ Some e → e.done ≡ true
  pub clear : IsClear key w
  pub settled : (node : Node) → w.node ≡ Some node → is_restarting node.stage ≡ true → w.log.boot < node.boot

-- The server forgets a key: the place that says that its connection is done
abbrev pub stage_without : Key → Stage → Stage
stage_without key (Serving opened places) = Serving opened (others (λ p. key_eq (key_of p) key) places)
stage_without key stage = stage

abbrev pub node_without : Key → Option Node → Option Node
node_without key (Some node) = Some (record node { stage = stage_without key node.stage })
node_without key None = None

abbrev pub forgotten : Key → World → World
forgotten key w = record w { node = node_without key w.node }

-- It may do so once the log has recycled the entry, and none of its messages about the key is under way
pub record MayForget (key : Key) (w : World) : Type 0 where
  pub absent : entry_of key w.log ≡ None
  pub clear : IsClear key w
  pub unasked : AllByRecursion (λ p. asks_about key p ≡ false) w.packets

-- A new client arrives
abbrev pub with_new : Client → World → World
with_new c w = record w { clients = w.clients ++ c ∷ [] }

-- It may have any address and port that are nobody's now: they aren't the server's, no other client has them, the log has no entry and the server no connection
-- of them, and nothing of an earlier connection is under way
pub record MayArrive (c : Client) (w : World) : Type 0 where
  pub new : IsNewClient w.server c
  pub apart : is_apart w.server c.key w.clients ≡ true
  pub absent : entry_of c.key w.log ≡ None
  pub clear : IsClear c.key w
  pub unreceived : AllByRecursion (λ p. concerns c.key p ≡ false) w.packets

-- The server lets go of a client that is silent for too long (RFC 9293, 3.8.3: the second threshold is reached; 3.8.4: keep-alives stay unanswered),
-- half-open or established. It takes the turn of a RST at exactly the next number, which nobody sent: the connection is reset, and the client isn't told
abbrev pub last_rst : Addr → Point → Segment
last_rst server p = record {
  head = record {
    src = p.key.ip;
    dst = server.ip;
    sport = p.key.port;
    dport = server.port;
    seq = number_at p.cisn (taken_units p);
    ack = 0;
    flags = RST;
    window = 0;
    mss = None;
    timestamps = None;
  };
  payload = [];
}

pub record LetsGo {State : Type 0} (service : Machine State) (key : Key) (before : World) (sent : List Packet) (after : World) : Type 0 where
  pub node : Node
  pub up : before.node ≡ Some node
  pub point : Point
  pub lives : place_at key (places_at node.stage) ≡ Some (Lives point)
  pub later : Node
  pub turn : LawfulTurn service node (Packet_comes (last_rst node.server point)) sent later
  pub after_is : after ≡ record before { node = Some later; packets = before.packets ++ sent }

-- The server sends a silent client a keep-alive (RFC 9293, 3.8.4): SEG.SEQ is SND.NXT - 1, so the segment isn't acceptable, and a client that has the
-- connection answers it by an ACK. Acknowledgement and window are those that it was told last
abbrev pub keep_alive : Addr → Point → Segment
keep_alive server p = record {
  head = record {
    src = server.ip;
    dst = p.key.ip;
    sport = server.port;
    dport = p.key.port;
    seq = (p.sisn + p.sent) % 2 ^ 32;
    ack = number_at p.cisn (acknowledgement p);
    flags = ACK;
    window = window p;
    mss = None;
    timestamps = None;
  };
  payload = [];
}

-- It may do so of any live connection that its client hasn't reset
pub record SendsKeepAlive (key : Key) (before : World) (sent : List Packet) (after : World) : Type 0 where
  pub node : Node
  pub up : before.node ≡ Some node
  pub point : Point
  pub lives : place_at key (places_at node.stage) ≡ Some (Lives point)
  pub unreset : point.reset ≡ false
  pub sent_is : sent ≡ To_client (keep_alive node.server point) ∷ []
  pub after_is : after ≡ record before { packets = before.packets ++ To_client (keep_alive node.server point) ∷ [] }

-- a client that is gone, with the lengths of the reads that its entry had when it was recycled
pub record Gone : Type 0 where
  pub client : Client
  pub lengths : List ℕ

-- the world, and the clients that are gone
pub record LongWorld : Type 0 where
  pub now : World
  pub past : List Gone

abbrev pub gone_with : List ℕ → List Client → List Gone
gone_with lengths clients = map (λ c. record { client = c; lengths = lengths }) clients

pub data LongStep : Type 0 where
  Joint_event : Event → LongStep  -- an event of a joint trace
  Recycles : Key → LongStep
  Forgets : Key → LongStep
  Arrives : Client → LongStep
  Lets_go : Key → LongStep
  Keeps_alive : Key → LongStep

-- what may happen in a long trace: from the world before, by this step, with these packets sent, to the world after
abbrev pub MayPass : {State : Type 0} → Machine State → LongWorld → LongStep → List Packet → LongWorld → Type 0
MayPass service before (Joint_event event) sent after = Happens service before.now event sent after.now × (after.past ≡ before.past)
MayPass service before (Recycles key) sent after =
    MayRecycle key before.now × (sent ≡ []) × (after.now ≡ recycled key before.now)
    × (after.past ≡ before.past ++ gone_with (logged_lengths key before.now.log) (filter (λ c. key_eq c.key key) before.now.clients))
MayPass service before (Forgets key) sent after = MayForget key before.now × (sent ≡ []) × (after.now ≡ forgotten key before.now) × (after.past ≡ before.past)
MayPass service before (Arrives c) sent after = MayArrive c before.now × (sent ≡ []) × (after.now ≡ with_new c before.now) × (after.past ≡ before.past)
MayPass service before (Lets_go key) sent after = LetsGo service key before.now sent after.now × (after.past ≡ before.past)
MayPass service before (Keeps_alive key) sent after = SendsKeepAlive key before.now sent after.now × (after.past ≡ before.past)

pub record LongMoment : Type 0 where
  pub step : LongStep
  pub sent : List Packet
  pub world : LongWorld

-- the world at the end of a long trace
abbrev pub long_after : World → List LongMoment → LongWorld
long_after start [] = record { now = start; past = [] }
long_after start (moment ∷ earlier) = moment.world

-- a moment of a joint trace, as one of a long trace
abbrev pub as_long : Moment → LongMoment
as_long moment = record { step = Joint_event moment.event; sent = moment.sent; world = record { now = moment.world; past = [] } }

-- A long trace, newest moment first: every moment happens in the world after the earlier ones, from a start on
abbrev pub LongJoint : {State : Type 0} → Machine State → World → List LongMoment → Type 0
LongJoint service start [] = IsStart start
LongJoint service start (moment ∷ earlier) = LongJoint service start earlier × MayPass service (long_after start earlier) moment.step moment.sent moment.world

-- a client that is gone has accepted a prefix of the uncrashed server's output over its script, cut into the reads that its entry had, and where the server's
-- FIN has ended the stream, that run has closed and all its output is accepted
pub record SawFront {State : Type 0} (service : Machine State) (gone : Gone) : Type 0 where
  pub accepted : IsPrefix gone.client.accepted (reference service gone.client.script gone.lengths).output
  pub ended : is_ended gone.client.phase ≡ true → ((reference service gone.client.script gone.lengths).closed ≡ true)
      × (gone.client.accepted ≡ (reference service gone.client.script gone.lengths).output)

-- Masked, after a moment: the four facts of the headline hold of what is present, and the clients that are gone have seen no failure either
pub record IsMaskedMoment {State : Type 0} (service : Machine State) (before : World) (sent : List Packet) (after : LongWorld) : Type 0 where
  pub clients : AllByRecursion (SeesFront service after.now.log) after.now.clients
  pub past : AllByRecursion (SawFront service) after.past
  pub acknowledged : AllByRecursion (AcknowledgesLogged after.now.log after.now.clients) sent
  pub restart : RestartIsExact service after.now.log before.node after.now.node
  pub reported : AllAreReported after.now.packets after.now.node

-- .. and after every moment of a trace
abbrev pub AreMasked : {State : Type 0} → Machine State → World → List LongMoment → Type 0
AreMasked service start [] = Unit {0}
AreMasked service start (moment ∷ earlier) = AreMasked service start earlier × IsMaskedMoment service (long_after start earlier).now moment.sent moment.world
