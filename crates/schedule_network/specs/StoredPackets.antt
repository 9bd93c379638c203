-- The packets as the network stores them: the direction of each, and its bytes.
use Rattle.std.specs.Prelude.{ℕ, ◌+◌, List, [], ◌∷◌, ◌++◌, map, position}
use Rattle.std.specs.Option.{option_map_or}
use Rattle.ft_io.specs.declared.Key.{Key}
use Rattle.ft_io.specs.Key.{key_eq}
use Rattle.ft_model.specs.Wire.{Wire, Party}
use Rattle.ft_model.specs.Wire.Party.{A_client, The_server, The_logger}
use Rattle.ft_model.specs.declared.way.Way.{Way}
use Rattle.ft_model.specs.declared.way.Way.TheVariants.{ClientToServer, ServerToClient, ServerToLogger, LoggerToServer}

pub record Carried : Type 0 where
  pub ways : List Way
  pub bytes : List (List ℕ)

abbrev pub no_packets : Carried
no_packets = record { ways = []; bytes = [] }

-- the stored packets, and one more
abbrev pub with_packet : Carried → Way → List ℕ → Carried
with_packet kept way bytes = record { ways = kept.ways ++ way ∷ []; bytes = kept.bytes ++ bytes ∷ [] }

-- the number of the client with this key, counted from 1; 0 where there is none
abbrev pub number_in : List Key → Key → ℕ
number_in keys key = option_map_or (λ i. i + 1) (position (λ k. key_eq k key) keys) 0

-- the direction of a packet from the server to this party
abbrev pub way_to : List Key → Party → Way
way_to keys (A_client key) = ServerToClient (number_in keys key)
way_to keys The_server = ServerToLogger
way_to keys The_logger = ServerToLogger

-- the direction of a packet to the server from this party
abbrev pub way_from : List Key → Party → Way
way_from keys (A_client key) = ClientToServer (number_in keys key)
way_from keys The_server = LoggerToServer
way_from keys The_logger = LoggerToServer

abbrev pub way_between : List Key → (from to : Party) → Way
way_between keys from The_server = way_from keys from
way_between keys from (A_client key) = way_to keys (A_client key)
way_between keys from The_logger = way_to keys The_logger

-- the direction of a wire
abbrev pub way_along : List Key → Wire → Way
way_along keys wire = way_between keys wire.from wire.to

-- wires as the network stores them
abbrev pub carried : List Key → List Wire → Carried
carried keys wires = record { ways = map (way_along keys) wires; bytes = map (λ w. w.bytes) wires }

-- .. after the packets that were stored before
abbrev pub with_wires : List Key → Carried → List Wire → Carried
with_wires keys kept wires = record { ways = kept.ways ++ map (way_along keys) wires; bytes = kept.bytes ++ map (λ w. w.bytes) wires }

-- the stored packets, and then the logger's answer, if it has bytes
abbrev pub with_answer : Carried → List ℕ → Carried
with_answer kept [] = kept
with_answer kept (b ∷ bytes) = with_packet kept LoggerToServer (b ∷ bytes)
