-- Quarantine: a server keeps the place of a connection that is done for `wait` ticks, until no packet of the connection is under way any more (RFC 9293, 3.6.1,
-- TIME-WAIT; RFC 791, 3.2: the time to live). Then it has the log recycle the entry, and forgets the key.
use Rattle.std.specs.Prelude.{◌≡◌, ◌⊎◌, ◌≤◌, ℕ, ◌+◌, ◌==◌, ◌&&◌, nat_le, max, Bool, false, map, if◌then◌else◌, find, Option, Some, None, option_map}
use Rattle.std.specs.Prelude.{List, [], ◌∷◌, filter}
use Rattle.std.specs.List.{list_any, flat_map}
use Rattle.ft_io.specs.declared.Addr.{Addr}
use Rattle.ft_io.specs.declared.Key.{Key}
use Rattle.ft_io.specs.Key.{key_eq}
use Rattle.seq_arith.specs.Message.{EntryHead}
use Rattle.ft_model.specs.Lawful.{fetched_then}
use Rattle.ft_model.specs.Network.{source_of}
use Rattle.ft_model.specs.Node.{Node, Place, Stage, Input, place_at, is_for}
use Rattle.ft_model.specs.Node.Input.{Packet_comes, Message_comes, Noise_comes, Tick_comes}
use Rattle.ft_model.specs.Node.Place.{Opens, Lives, Ended}
use Rattle.ft_model.specs.Node.Stage.{Asking, Fetching, Serving, Fenced}
use Rattle.ft_model.specs.Point.{Point}
use Rattle.ft_model.specs.Restart.{Fetched}
use Rattle.long_laws.specs.Forgetting.{Named, ForgetBody, ForgetMessage, forget}
use Rattle.long_laws.specs.Forgetting.ForgetBody.{ForgetMsg, ForgottenMsg}
use Rattle.long_laws.specs.LongTrace.{places_at}

-- a connection that is done: its numbers, and for how many ticks it is done
pub record Quarantined : Type 0 where
  pub named : Named
  pub age : ℕ

abbrev pub begun : Named → Quarantined
begun named = record { named = named; age = 0 }

-- a tick raises the age
abbrev pub aged : Input → Quarantined → Quarantined
aged Tick_comes q = record q { age = q.age + 1 }
aged (Packet_comes segment) q = q
aged (Message_comes message) q = q
aged Noise_comes q = q

-- from the age `wait` on it is leaving
abbrev pub is_leaving : (wait : ℕ) → Quarantined → Bool
is_leaving wait q = nat_le wait q.age

-- the numbers of a live connection, and of a fetched entry
abbrev pub named_point : Point → Named
named_point p = record { key = p.key; cisn = p.cisn; sisn = p.sisn }

abbrev pub named_head : EntryHead → Named
named_head head = record { key = head.key; cisn = head.cisn; sisn = head.sisn }

abbrev pub named_place : Option Place → Option Named
named_place (Some (Lives p)) = Some (named_point p)
named_place _ = None

-- what is fetched once this input has come
abbrev pub or_nothing : Option (List Fetched) → List Fetched
or_nothing (Some fetched) = fetched
or_nothing None = []

abbrev pub fetched_now : Node → Input → (count : ℕ) → List Fetched → List Fetched
fetched_now node (Message_comes message) count fetched = or_nothing (fetched_then node message count fetched)
fetched_now node (Packet_comes segment) count fetched = []
fetched_now node Noise_comes count fetched = []
fetched_now node Tick_comes count fetched = []

-- the numbers of a key's connection in the turn that ends it, or that ends the restart in which it was fetched as done
abbrev pub named_in : Node → Input → Stage → Key → Option Named
named_in node input (Serving opened places) key = named_place (place_at key places)
named_in node input (Fetching count fetched) key = option_map (λ f. named_head f.head)
    (find (λ f. key_eq f.head.key key) (fetched_now node input count fetched))
named_in node input Asking key = None
named_in node input (Fenced newer) key = None

abbrev pub quarantined_at : Key → List Quarantined → Option Quarantined
quarantined_at key qs = find (λ q. key_eq q.named.key key) qs

-- the quarantine of a connection goes on, or begins
abbrev pub proceeds_or_begins : Input → Option Quarantined → Option Named → List Quarantined
proceeds_or_begins input (Some q) named = aged input q ∷ []
proceeds_or_begins input None (Some named) = begun named ∷ []
proceeds_or_begins input None None = []

abbrev pub quarantine_of : Node → Input → List Quarantined → Place → List Quarantined
quarantine_of node input qs (Ended key) = proceeds_or_begins input (quarantined_at key qs) (named_in node input node.stage key)
quarantine_of node input qs (Lives p) = []
quarantine_of node input qs (Opens numbers timestamping) = []

-- the quarantine after a turn: one for each place that is done then
abbrev pub quarantine_after : Node → Input → Stage → List Quarantined → List Quarantined
quarantine_after node input later qs = flat_map (quarantine_of node input qs) (places_at later)

-- a Forget goes out for each that is leaving, at every tick, last in the turn
abbrev pub forgets : (wait boot : ℕ) → Input → List Quarantined → List ForgetMessage
forgets wait boot Tick_comes qs = map (λ q. forget boot q.named) (filter (is_leaving wait) qs)
forgets wait boot (Packet_comes segment) qs = []
forgets wait boot (Message_comes message) qs = []
forgets wait boot Noise_comes qs = []

-- A server may end a quarantine early, when it learns that the client has a new connection (RFC 9293, 3.6.1): from then on the old one is leaving
abbrev pub early : (wait : ℕ) → Key → Quarantined → Quarantined
early wait key q = if key_eq q.named.key key then record q { age = max wait q.age } else q

abbrev pub ended_early : (wait : ℕ) → Key → List Quarantined → List Quarantined
ended_early wait key qs = map (early wait key) qs

-- a segment of a connection that is leaving is dropped: no RST answers it. So a new client's SYN is merely lost, and its repetition opens
abbrev pub is_dropped : (wait : ℕ) → Addr → Input → List Quarantined → Bool
is_dropped wait server (Packet_comes segment) qs = is_for server segment && list_any (λ q. key_eq q.named.key (source_of segment) && is_leaving wait q) qs
is_dropped wait server (Message_comes message) qs = false
is_dropped wait server Noise_comes qs = false
is_dropped wait server Tick_comes qs = false

-- Forgotten of the server's own boot, with the numbers of a connection in quarantine, takes its place away
abbrev pub is_same : Named → Named → Bool
is_same n m = key_eq n.key m.key && (n.cisn == m.cisn && n.sisn == m.sisn)

abbrev pub named_by : ForgetBody → List Quarantined → Option Key
named_by (ForgottenMsg n) qs = if list_any (λ q. is_same q.named n) qs then Some n.key else None
named_by (ForgetMsg n) qs = None

abbrev pub taken_away : Option Node → ForgetMessage → List Quarantined → Option Key
taken_away (Some node) message qs = if message.boot == node.boot then named_by message.body qs else None
taken_away None message qs = None

-- a Forget is sent at a tick, for a connection that is in quarantine for `wait` ticks
abbrev pub HasWaited : (wait boot : ℕ) → Input → ForgetMessage → Type 0
HasWaited wait boot input message = (q : Quarantined) × (message ≡ forget boot q.named) × (wait ≤ q.age) × (input ≡ Tick_comes)

-- it was in quarantine before the turn, and a tick has raised its age by one; or its quarantine begins, with the age 0
abbrev pub ProceedsOrBegins : Input → List Quarantined → Quarantined → Type 0
ProceedsOrBegins input qs r = ((key : Key) × (q : Quarantined) × (quarantined_at key qs ≡ Some q) × (r ≡ aged input q)) ⊎ (r.age ≡ 0)
