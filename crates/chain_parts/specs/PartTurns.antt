-- The turns of one of two loggers over its link. In each turn it receives once, and hands to send all datagrams with which it reacts, before it receives
-- again. A datagram from the other logger's address is the other's; any other is the server's. An Alone counts from any address.
use Rattle.std.specs.Prelude.{ℕ, Bool, true, false, ◌≡◌, map, flat_map, Option, None, Some, Result, Ok, List, [], ◌∷◌, ◌++◌, if◌then◌else◌}
use Rattle.ft_io.specs.declared.Addr.{Addr}
use Rattle.ft_io.specs.declared.link_call.LinkCall.{LinkCall}
use Rattle.ft_io.specs.declared.link_call.LinkCall.TheVariants.{Handed}
use Rattle.seq_arith.specs.declared.kinds.Grammar.{Grammar}
use Rattle.seq_arith.specs.TwinDatagram.{TwinDatagram}
use Rattle.seq_arith.specs.TwinDatagram.{TwinDatagram as datagrams}
use Rattle.seq_arith.specs.TwinGrammar as twins
use Rattle.seq_arith.specs.declared.twin.BadTwin.{BadTwin}
use Rattle.twin_laws.specs.StoredState.{Kept, new_kept, left_alone, kept_does}
use Rattle.twin_laws.specs.declared.part.Part.{Part}
use Rattle.twin_laws.specs.declared.part.Side.{Side}
use Rattle.twin_laws.specs.declared.part.Side.TheVariants as sides
use Rattle.link_parts.specs.LoggerParts.{grammar_for}
use Rattle.link_parts.specs.Receipt.{is_from, Received, datagram, silence, failure, received_as}
use Rattle.chain_parts.specs.declared.pair_role.PartRole.{PartRole}

-- a logger of a pair, and the server's address, once it is known
pub record Standing : Type 0 where
  pub kept : Kept
  pub server : Option Addr

abbrev pub at_start : Grammar → Part → Standing
at_start grammar part = record { kept = new_kept grammar part; server = None }

abbrev pub is_alone : Result TwinDatagram BadTwin → Bool
is_alone (Ok datagrams.Alone) = true
is_alone _ = false

-- the bytes are an Alone, by which a logger learns that the other has stopped. It is the same in either grammar
abbrev pub says_alone : List ℕ → Bool
says_alone bytes = is_alone (twins.reading bytes)

abbrev pub side_of : (other from : Addr) → Side
side_of other from = if is_from other from then sides.Other else sides.Server

-- the server's address: the last one, apart from the other logger's, that sent a datagram which isn't an Alone
abbrev pub server_after : Side → (from : Addr) → Option Addr → Option Addr
server_after sides.Server from server = Some from
server_after sides.Other from server = server

-- the logger's next state, and what it sends: each datagram with the side to which it is sent
pub record OnReceipt : Type 0 where
  pub next : Standing
  pub sent : List (Side × List ℕ)

abbrev pub delivered : Side → (from : Addr) → List ℕ → Standing → OnReceipt
delivered side from bytes s =
    record { next = record { kept = (kept_does side bytes s.kept).next; server = server_after side from s.server }; sent = (kept_does side bytes s.kept).sent }

-- A datagram comes. After an Alone a logger serves alone from then on, however many of them come
abbrev pub receipt : (other from : Addr) → List ℕ → Standing → OnReceipt
receipt other from bytes s =
    if says_alone bytes then record { next = record s { kept = left_alone s.kept }; sent = [] } else delivered (side_of other from) from bytes s

abbrev pub received_in : Addr → Received → Standing → OnReceipt
received_in other (datagram from bytes) s = receipt other from bytes s
received_in other silence s = record { next = s; sent = [] }
received_in other failure s = record { next = s; sent = [] }

abbrev pub address_for : (server : Option Addr) → (other : Addr) → Side → Option Addr
address_for server other sides.Server = server
address_for server other sides.Other = Some other

abbrev pub addressed_to : Option Addr → List ℕ → List (Addr × List ℕ)
addressed_to None bytes = []
addressed_to (Some to) bytes = (to, bytes) ∷ []

-- the datagrams with their addresses. Those for a server whose address isn't known yet aren't sent
abbrev pub addressed : (server : Option Addr) → (other : Addr) → List (Side × List ℕ) → List (Addr × List ℕ)
addressed server other sent = flat_map (λ s. addressed_to (address_for server other s.0) s.1) sent

-- what a turn sends by its logger's definition
abbrev pub sends : (other : Addr) → Received → Standing → List (Addr × List ℕ)
sends other received s = addressed (received_in other received s).next.server other (received_in other received s).sent

-- a datagram that was handed to send, and whether that failed: then it is lost
pub record Outgoing : Type 0 where
  pub to : Addr
  pub bytes : List ℕ
  pub is_lost : Bool

abbrev pub datagrams_in : List Outgoing → List (Addr × List ℕ)
datagrams_in sent = map (λ o. (o.to, o.bytes)) sent

abbrev pub sending : List Outgoing → List LinkCall
sending sent = map (λ o. Handed o.to o.bytes o.is_lost) sent

-- what was received, and what was handed to send then
pub record PartTurn : Type 0 where
  pub received : Received
  pub sent : List Outgoing

abbrev pub turn_calls : PartTurn → List LinkCall
turn_calls turn = received_as turn.received ∷ sending turn.sent

-- the calls of turns, the newest first; the oldest call first
abbrev pub calls_of : List PartTurn → List LinkCall
calls_of [] = []
calls_of (turn ∷ earlier) = calls_of earlier ++ turn_calls turn

-- the state of a logger of these words after turns, the newest first, from an empty log on
abbrev pub standing_at : PartRole → List PartTurn → Standing
standing_at role [] = at_start (grammar_for role.logger) role.part
standing_at role (turn ∷ earlier) = (received_in role.other turn.received (standing_at role earlier)).next

-- each turn sends what the logger's definition says
abbrev pub AreByDefinition : PartRole → List PartTurn → Type 0
AreByDefinition role [] = Unit {0}
AreByDefinition role (turn ∷ earlier) = AreByDefinition role earlier × (datagrams_in turn.sent ≡ sends role.other turn.received (standing_at role earlier))
