-- A whole turn, layer by layer: what a function promises of the connection, the slot, the slots or the serving node that it is given, and of what it
-- sends. By the law: if it corresponds to a place in the model, it corresponds after the turn to a place that the model's turn leads to. Alone: each key by
-- itself, whatever the other clients send and in whatever state their connections are.
use Rattle.std.specs.Prelude.{◌≡◌, ℕ, List, Some}
use Rattle.std.specs.List.{AllByRecursion}
use Rattle.ft_io.specs.declared.Addr.{Addr}
use Rattle.ft_io.specs.declared.Key.{Key}
use Rattle.seq_arith.specs.declared.kinds.Grammar.{Grammar}
use Rattle.seq_arith.specs.Message.{Numbers}
use Rattle.seq_arith.specs.Packet.{Segment}
use Rattle.server_trait.specs.declared.Service.{Ghosts}
use Rattle.tcp_rules.specs.Profiles.{profile_of}
use Rattle.tcp_rules.specs.declared.timestamping.Timestamping.{Timestamping}
use Rattle.ft_model.specs.Lawful.{IsNearTo}
use Rattle.ft_model.specs.Network.{Packet, source_of}
use Rattle.ft_model.specs.News.{News}
use Rattle.ft_model.specs.News.News.{Begins as Becomes_live, Comes}
use Rattle.ft_model.specs.Node.{Place, Stage as law_stage, Input}
use Rattle.ft_model.specs.Node.Input.{Packet_comes}
use Rattle.ft_model.specs.Offset.{IsNear}
use Rattle.ft_model.specs.Opening.{initial_number, point_opened}
use Rattle.ft_model.specs.Point.{Point}
use Rattle.wrapped_conn.specs.ConnState.{ConnState}
use Rattle.node_serving.specs.declared.identity.Identity.{Identity}
use Rattle.node_serving.specs.declared.serving.Serving.{Serving}
use Rattle.node_serving.specs.declared.slot.Slot.{Slot}
use Rattle.node_serving.specs.declared.turn.Turn.{Turn}
use Rattle.node_serving.specs.Alone.{IsNearFor, SlotsAlone, ServesAlone}
use Rattle.node_serving.specs.Conn.{Begins, IsOursAt, ConnGoes}
use Rattle.node_serving.specs.Identity.{node_of, service_of, grammar_in}
use Rattle.node_serving.specs.Openings.{all_opens, Admits, Knocks}
use Rattle.node_serving.specs.RefusalPackets.{AreSent}
use Rattle.node_serving.specs.SentBytes.{ArePut}
use Rattle.node_serving.specs.ServingStage.{ServingStands, ServingGoes}
use Rattle.node_serving.specs.Slots.{SlotStands, SlotGoes, AllStand, AllSlotsGo}
use Rattle.node_serving.specs.Ownership.{IsOnlyFor}

-- these packets are sent, after what was sent, each in its one spelling in this grammar
abbrev pub Sends : Grammar → List Packet → (old new : Turn) → Type 0
Sends grammar packets old new = ArePut grammar packets old.sent.items new.sent.items

-- these segments are sent to clients
abbrev pub SendsSegments : List Segment → (old new : Turn) → Type 0
SendsSegments segments old new = AreSent segments old.sent.items new.sent.items

-- nothing is sent but packets of this key alone
abbrev pub SendsFor : Identity → Key → (old new : Turn) → Type 0
SendsFor who key old new = IsOnlyFor (grammar_in who) key old.sent.items new.sent.items

-- a segment is near to a connection's point. Of other news nothing is required
abbrev pub IsNearNews : News → Point → Type 0
IsNearNews (Comes segment) p = IsNear p.cisn p.sisn segment
IsNearNews _ p = Unit {0}

-- a packet is near to the place of its own client
abbrev pub IsNearForAll : Addr → Input → List Place → Type 0
IsNearForAll server (Packet_comes segment) places = AllByRecursion (IsNearTo server segment) places
IsNearForAll server _ places = Unit {0}

-- the Opens with which a turn ends are sent
abbrev pub SendsOpens : {S : Type 0} → Identity → Input → List (Key × Slot S) → (old new : Turn) → Type 0
SendsOpens who input slots old new = (standing : law_stage) → Sends (grammar_in who) (all_opens (node_of who standing) input slots) old new

-- what a segment of an unknown client does to the slots and to the next initial sequence number
abbrev pub TurnAdmitsAlone : {S : Type 0} → Identity → Segment → (number next : ℕ) → (was now : List (Key × Slot S)) → (old new : Turn) → Type 0
TurnAdmitsAlone who segment number next was now old new =
    (standing : law_stage) → Knocks (node_of who standing) segment (source_of segment) number next was now old.sent.items new.sent.items

-- for a service, given by its ghost members, and an incarnation
module _ {S : Type 0} (s : Ghosts S) (who : Identity) where
  -- a connection's turn
  abbrev pub ConnTurns : News → Key → (was now : ConnState S) → (old new : Turn) → Type 0
  ConnTurns news key was now old new =
      (p : Point) → IsNearNews news p → p.key ≡ key → IsOursAt (service_of s who) who.local who.boot was p
      → ConnGoes (grammar_in who) (service_of s who) who.local who.boot news p now old.sent.items new.sent.items

  -- the first turn of a new connection, from the point of its numbers
  abbrev pub ConnBegins : Timestamping → Numbers → (now : ConnState S) → (old new : Turn) → Type 0
  ConnBegins timestamping numbers now old new =
      ConnGoes (grammar_in who) (service_of s who) who.local who.boot Becomes_live (point_opened (profile_of who.profile) timestamping numbers) now
      old.sent.items new.sent.items

  -- the first turn of a connection that a restart has put together
  abbrev pub ConnRevives : Key → (was now : ConnState S) → (old new : Turn) → Type 0
  ConnRevives key was now old new =
      (p : Point) → p.key ≡ key → Begins (service_of s who) who.local who.boot was p
      → ConnGoes (grammar_in who) (service_of s who) who.local who.boot Becomes_live p now old.sent.items new.sent.items

  -- a slot's turn
  abbrev pub SlotTurns : Input → Key → (was now : Slot S) → (old new : Turn) → Type 0
  SlotTurns input key was now old new =
      (standing : law_stage) (place : Place) → IsNearFor who.local input (Some place) → SlotStands (service_of s who) (node_of who standing) key was place
      → SlotGoes (service_of s who) (node_of who standing) input key place now old.sent.items new.sent.items

  -- the turn of all slots
  abbrev pub SlotsTurn : Input → (was now : List (Key × Slot S)) → (old new : Turn) → Type 0
  SlotsTurn input was now old new =
      (standing : law_stage) (places : List Place) → IsNearForAll who.local input places → AllStand (service_of s who) (node_of who standing) was places
      → AllSlotsGo (service_of s who) (node_of who standing) input places now old.sent.items new.sent.items

  abbrev pub SlotsTurnAlone : Input → (was now : List (Key × Slot S)) → (old new : Turn) → Type 0
  SlotsTurnAlone input was now old new = (standing : law_stage)
      → SlotsAlone (service_of s who) (node_of who standing) input was now old.sent.items new.sent.items

  -- a segment of an unknown client, where `opened` initial sequence numbers are used up
  abbrev pub TurnAdmits : Segment → (number next : ℕ) → (was now : List (Key × Slot S)) → (old new : Turn) → Type 0
  TurnAdmits segment number next was now old new =
      (standing : law_stage) (opened : ℕ) (places : List Place) → number ≡ initial_number who.isn opened
      → AllStand (service_of s who) (node_of who standing) was places
      → Admits (service_of s who) (node_of who standing) segment opened places next now old.sent.items new.sent.items

  -- the turn of a node that serves
  abbrev pub ServingTurns : Input → (was now : Serving S) → (old new : Turn) → Type 0
  ServingTurns input was now old new =
      (standing : law_stage) (opened : ℕ) (places : List Place) → IsNearForAll who.local input places
      → ServingStands (service_of s who) (node_of who standing) opened places was
      → ServingGoes (service_of s who) (node_of who standing) input opened places now old.sent.items new.sent.items

  abbrev pub ServingTurnsAlone : Input → (was now : Serving S) → (old new : Turn) → Type 0
  ServingTurnsAlone input was now old new = (standing : law_stage)
      → ServesAlone (service_of s who) (node_of who standing) input was now old.sent.items new.sent.items
