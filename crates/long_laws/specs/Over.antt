-- Done means over: the client of an entry that is done has all that the server wrote until it closed, or it has reset the connection, or the server let go of
-- it.
use Rattle.std.specs.Prelude.{◌≡◌, ◌⊎◌, Bool, true, false, ◌&&◌, ◌||◌, if◌then◌else◌, Some, List, [], ◌∷◌}
use Rattle.std.specs.List.{list_any}
use Rattle.ft_io.specs.declared.Key.{Key}
use Rattle.ft_io.specs.Key.{key_eq}
use Rattle.seq_arith.specs.Packet.{has_rst}
use Rattle.server_trait.specs.Service.{Machine, reference}
use Rattle.ft_model.specs.Client.{Client, is_live}
use Rattle.ft_model.specs.declared.phase.Phase.{Phase}
use Rattle.ft_model.specs.declared.phase.Phase.TheVariants.{Ended, Reset}
use Rattle.ft_model.specs.Log.{Log, Entry, entry_of}
use Rattle.ft_model.specs.Masked.{unfailing}
use Rattle.ft_model.specs.Network.{Packet, source_of}
use Rattle.ft_model.specs.Network.Packet.{To_server, To_client, To_logger, From_logger}
use Rattle.ft_model.specs.World.{World}
use Rattle.long_laws.specs.LongTrace.{LongStep, LongMoment, Gone}
use Rattle.long_laws.specs.LongTrace.LongStep.{Joint_event, Recycles, Forgets, Arrives, Lets_go, Keeps_alive}

abbrev pub is_reset : Phase → Bool
is_reset Reset = true
is_reset _ = false

-- nothing is open any more: the server's FIN was accepted, or there was a RST. A server that has forgotten all but that the connection is done answers by a
-- RST, if the client sends its FIN again (RFC 9293, 3.10.7.1)
abbrev pub is_at_end : Phase → Bool
is_at_end Ended = true
is_at_end Reset = true
is_at_end _ = false

-- the client has all that the uncrashed server wrote until it closed, and its own connection isn't open any more
pub record HasAll {State : Type 0} (service : Machine State) (log : Log) (client : Client) : Type 0 where
  pub closed : (unfailing service log client).closed ≡ true
  pub all : client.accepted ≡ (unfailing service log client).output
  pub at_end : is_at_end client.phase ≡ true

-- a RST of the client at this address and port
abbrev pub is_rst_of : Key → Packet → Bool
is_rst_of key (To_server segment) = key_eq (source_of segment) key && has_rst segment
is_rst_of key (To_client segment) = false
is_rst_of key (To_logger message) = false
is_rst_of key (From_logger message) = false

-- The client has sent a RST, and so reset the connection. A live client may have sent it earlier, when it refused a wrong acknowledgement of its SYN (RFC 9293,
-- 3.10.7.3): if that RST is late, and has exactly the number that is next by then, it ends a connection that its client believes open
pub record HasReset (packets : List Packet) (client : Client) : Type 0 where
  pub sent : list_any (is_rst_of client.key) packets ≡ true
  pub reset : is_live client.kind ≡ false → is_reset client.phase ≡ true

-- the connection is over, at the client's end too
abbrev pub IsOver : {State : Type 0} → Machine State → World → Client → Type 0
IsOver service w client = HasAll service w.log client ⊎ HasReset w.packets client

abbrev pub IsOverWhenDone : {State : Type 0} → Machine State → World → Client → Type 0
IsOverWhenDone service w client = (e : Entry) → entry_of client.key w.log ≡ Some e → e.done ≡ true → IsOver service w client

-- the server let go of the client of a key, since that key was last recycled. The newest moment comes first
abbrev pub let_go_by : LongStep → Key → Bool → Bool
let_go_by (Lets_go gone) key before = key_eq key gone || before
let_go_by (Recycles gone) key before = if key_eq key gone then false else before
let_go_by (Joint_event event) key before = before
let_go_by (Forgets gone) key before = before
let_go_by (Arrives client) key before = before
let_go_by (Keeps_alive gone) key before = before

abbrev pub was_let_go : List LongMoment → Key → Bool
was_let_go [] key = false
was_let_go (moment ∷ earlier) key = let_go_by moment.step key (was_let_go earlier key)

-- .. or the server let go of the client
abbrev pub IsOverOrLetGo : {State : Type 0} → Machine State → List LongMoment → World → Client → Type 0
IsOverOrLetGo service trace w client =
    (e : Entry) → entry_of client.key w.log ≡ Some e → e.done ≡ true → IsOver service w client ⊎ (was_let_go trace client.key ≡ true)

-- a client that is gone had all that the uncrashed server wrote until it closed, on its script, in the reads that its entry had
pub record SawAll {State : Type 0} (service : Machine State) (gone : Gone) : Type 0 where
  pub closed : (reference service gone.client.script gone.lengths).closed ≡ true
  pub all : gone.client.accepted ≡ (reference service gone.client.script gone.lengths).output

-- .. or it had reset the connection, or the server had let go of it
abbrev pub WentOver : {State : Type 0} → Machine State → List LongMoment → World → Key → Gone → Type 0
WentOver service trace w key gone = SawAll service gone ⊎ (HasReset w.packets gone.client ⊎ (was_let_go trace key ≡ true))
