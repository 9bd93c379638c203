-- A connection as the node sees it. `Begins`, `IsOursAt` and `IsSound` are opaque to the node.
use Rattle.limits.specs.Limits.{largest_segment}
use Rattle.std.specs.Prelude.{◌≡◌, ◌<◌, ◌≤◌, ◌^◌, ℕ, Bool, List, ◌++◌, map}
use Rattle.std.specs.List.{AllByRecursion, AllByRecursion-prop}
use Rattle.std.proofs.Math.Nat.{ℕ_set}
use Rattle.std.proofs.Props.{props}
use Rattle.ft_io.specs.declared.Addr.{Addr}
use Rattle.ft_io.specs.declared.Key.{Key}
use Rattle.seq_arith.specs.declared.kinds.Grammar.{Grammar}
use Rattle.server_trait.specs.Service.{Machine}
use Rattle.tcp_rules.specs.Profiles.{profile_of}
use Rattle.ft_model.specs.Network.{Packet}
use Rattle.ft_model.specs.Point.{Point}
use Rattle.ft_model.specs.News.{News}
use Rattle.ft_model.specs.Connection.{ConnectionTurn}
use Rattle.ft_model.specs.Wire.{Wire, wire_by, HasWireBy}
use Rattle.north_wrap.specs.declared.read_record.ReadRecord.{ReadRecord}
use Rattle.wrapped_conn.specs.ConnState.{ConnState}
use Rattle.wrapped_conn.specs.Sound.{IsSound as IsSoundConn, LeavesRoom, echoed}
use Rattle.wrapped_conn.specs.Refinement.{StandsBefore, Stands as StandsConn}
use Rattle.wrapped_conn.specs.LoggerMessages.{IsWritable, AreWritable}
use Rattle.node_serving.specs.declared.identity.Identity.{Identity}
use Rattle.node_serving.specs.SentBytes.{wires_of}

-- a connection of the incarnation with this address and boot number, whose segments fit a packet
pub record IsOurs {S : Type 0} (server : Addr) (boot : ℕ) (c : ConnState S) (p : Point) : Type 0 where
  pub local : c.local ≡ server
  pub incarnation : c.boot ≡ boot
  pub size : p.mss ≤ largest_segment
  pub room : LeavesRoom p.mss p.timestamping
  pub echo : echoed p.timestamping < 2 ^ 32

-- before the turn in which it becomes live at the end of a restart a connection begins at a point, ..
unfoldable pub Begins : {S : Type 0} → Machine S → Addr → (boot : ℕ) → ConnState S → Point → Type 0
Begins service server boot c p = StandsBefore service c p × IsOurs server boot c p

-- .. and after each turn it corresponds to one
unfoldable pub IsOursAt : {S : Type 0} → Machine S → Addr → (boot : ℕ) → ConnState S → Point → Type 0
IsOursAt service server boot c p = StandsConn service c p × IsOurs server boot c p

-- what its calls require of it, whatever has arrived
unfoldable pub IsSound : {S : Type 0} → ConnState S → Type 0
IsSound c = IsSoundConn c

-- a sound connection of this client, in this incarnation
pub record Belongs {S : Type 0} (who : Identity) (key : Key) (c : ConnState S) : Type 0 where
  pub sound : IsSound c
  pub client : c.key ≡ key
  pub incarnation : c.boot ≡ who.boot
  pub batches : c.batches ≡ (profile_of who.profile).batches

writable-prop : (reads : List ReadRecord) → IsProp (AreWritable reads)
writable-prop reads = AllByRecursion-prop IsWritable (λ read. hlevel props) reads

pub IsSound-prop : {S : Type 0} (c : ConnState S) → IsProp (IsSound c)
unfolding IsSound
IsSound-prop c = hlevel (props, writable-prop)

key-set : (a b : Key) → IsProp (a ≡ b)
key-set a b = hlevel props

bool-set : (a b : Bool) → IsProp (a ≡ b)
bool-set a b = hlevel props

pub Belongs-prop : {S : Type 0} (who : Identity) (key : Key) (c : ConnState S) → IsProp (Belongs who key c)
Belongs-prop who key c = λ a b i. record {
  sound = IsSound-prop c a.sound b.sound i;
  client = key-set c.key key a.client b.client i;
  incarnation = ℕ_set c.boot who.boot a.incarnation b.incarnation i;
  batches = bool-set c.batches (profile_of who.profile).batches a.batches b.batches i;
}

-- a turn of a connection: it then corresponds to a next point, and what it sends is what a lawful turn sends
pub record Acts {S : Type 0} (grammar : Grammar) (service : Machine S) (server : Addr) (boot : ℕ) (news : News) (p : Point) (c : ConnState S)
    (segments messages : List (List ℕ)) : Type 0 where
  pub after : Point
  pub packets : List Packet
  pub stands : IsOursAt service server boot c after
  pub key : after.key ≡ p.key
  pub turn : ConnectionTurn service server boot news p after packets
  pub wires : wires_of p.key segments messages ≡ map (wire_by grammar) packets
  pub spelled : AllByRecursion (HasWireBy grammar) packets

-- the same, with its packets after those sent before
pub record ConnGoes {S : Type 0} (grammar : Grammar) (service : Machine S) (server : Addr) (boot : ℕ) (news : News) (p : Point) (c : ConnState S)
    (old new : List Wire) : Type 0 where
  pub after : Point
  pub packets : List Packet
  pub stands : IsOursAt service server boot c after
  pub key : after.key ≡ p.key
  pub turn : ConnectionTurn service server boot news p after packets
  pub wires : new ≡ old ++ map (wire_by grammar) packets
  pub spelled : AllByRecursion (HasWireBy grammar) packets
