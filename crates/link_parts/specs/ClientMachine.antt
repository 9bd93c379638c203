-- The model's client machine, which follows a client over its link: each segment of a flush is a move of the machine, and it receives what the client
-- receives.
use Rattle.std.specs.Prelude.{◌≡◌, List, [], ◌∷◌}
use Rattle.std.specs.List.{AllByRecursion}
use Rattle.seq_arith.specs.PacketGrammar.{reading}
use Rattle.ft_model.specs.Client.{Client}
use Rattle.peer_client.specs.Live.{LiveState, sent_by, turned}
use Rattle.peer_client.specs.Refinement.{AreMoves, AcksNear, receiving, outcome_of}
use Rattle.link_parts.specs.Receipt.{Received, datagram, silence, failure}
use Rattle.link_parts.specs.ClientTurns.{ClientTurn, due_at, accepted_in}

-- what comes from the client's server acknowledges nothing far after the client's stream
abbrev pub IsNear : Client → Received → Type 0
IsNear c (datagram from bytes) = AcksNear c (reading bytes)
IsNear c silence = Unit {0}
IsNear c failure = Unit {0}

abbrev pub AreNear : Client → List ClientTurn → Type 0
AreNear c turns = AllByRecursion (λ turn. IsNear c turn.received) turns

-- the machine after it has received the same as the client
abbrev pub machine_then : LiveState → Client → Received → Client
machine_then l c (datagram from bytes) = receiving l c (reading bytes)
machine_then l c silence = c
machine_then l c failure = c

-- the machine, which began as `first`, when the client's last flush is due
unfoldable pub GoesBeside : LiveState → (first : Client) → List ClientTurn → Client → Type 0
GoesBeside start first [] c = c ≡ first
GoesBeside start first (turn ∷ earlier) c =
    (before : Client) × (between : Client) × GoesBeside start first earlier before × AreMoves before (sent_by (due_at start earlier)) between
    × (c ≡ machine_then (turned (due_at start earlier)) between turn.received)

-- the machine has accepted the same bytes as the client, and has the same outcome
pub record HasMachine (start : LiveState) (first : Client) (turns : List ClientTurn) : Type 0 where
  pub machine : Client  -- when the last flush is due
  pub later : Client  -- and after it
  pub goes : GoesBeside start first turns machine
  pub moves : AreMoves machine (sent_by (due_at start turns)) later
  pub accepted : accepted_in start turns ≡ machine.accepted
  pub outcome : (due_at start turns).outcome ≡ outcome_of machine
