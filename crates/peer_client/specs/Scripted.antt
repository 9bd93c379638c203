-- The scripted client over bytes: what it sends at an event of a schedule, and what it does with bytes that arrive.
use Rattle.std.specs.Prelude.{◌≡◌, ℕ, ℤ, Bool, pos, ◌-◌, ◌<◌, ◌^◌, ◌&&◌, ◌||◌, ◌++◌, nat_lt, int_lt, List, [], length, take, drop, Some, None, Result}
use Rattle.std.specs.Prelude.{Ok, Err, if◌then◌else◌}
use Rattle.tcp_rules.specs.Arrival.{int_eq, below}
use Rattle.tcp_rules.specs.Coming.{Came, nothing_early, comes}
use Rattle.seq_arith.specs.Packet.{Segment}
use Rattle.seq_arith.specs.PacketGrammar.{reading, spelling}
use Rattle.seq_arith.specs.declared.BadPacket.{BadPacket}
use Rattle.ft_model.specs.Client.{Client, Move as Moves, move_of, window_of, refusal_of_move, segment_of, moved, received, is_ended}
use Rattle.ft_model.specs.declared.event.Event.{Event}
use Rattle.ft_model.specs.declared.event.EventWhy.{EventWhy}

-- the client makes the move that the event asks for, which is allowed, and writes that move's packet over the beginning of the room
pub record Makes (before : Client) (event : Event) (room : List ℕ) (count : ℕ) (written : List ℕ) (after : Client) : Type 0 where
  pub move : Moves
  pub asked : move_of event ≡ Some move
  pub allowed : refusal_of_move before move ≡ None
  pub fits : window_of before event < 2 ^ 16
  pub packet : written ≡ spelling (segment_of before move (window_of before event)) ++ drop count room
  -- the packet is read as the move's segment
  pub read : reading (take count written) ≡ Ok (segment_of before move (window_of before event))
  pub after_is : after ≡ moved before move (window_of before event)

-- the client machine refuses the move that the event asks for, for this reason
pub record Refuses (client : Client) (event : Event) (why : EventWhy) : Type 0 where
  pub move : Moves
  pub asked : move_of event ≡ Some move
  pub refused : refusal_of_move client move ≡ Some why

-- what a text that begins at `first`, and a FIN after it, add to what the client has accepted
abbrev pub added : Client → ℤ → List ℕ → Bool → Came
added client first text fin = comes (length client.accepted) client.edge (is_ended client.phase) nothing_early first text fin

-- the same written out, for a client that holds nothing: of the text the part from the end of the accepted bytes up to the right edge. It is empty if the
-- text begins after a gap, and once the FIN is accepted
unfoldable pub next_text : (n edge : ℕ) → Bool → ℤ → List ℕ → List ℕ
next_text n edge fin first text = if fin || int_lt (pos n) first then [] else take (edge - n) (drop (below n first) text)

-- a FIN is accepted at the end of all accepted bytes, below the right edge
unfoldable pub is_fin_at : (n edge : ℕ) → ℤ → Bool
is_fin_at n edge place = int_eq place (pos n) && nat_lt n edge

-- the client with bytes that arrive: it receives the segment that they spell, and drops bytes that spell none
abbrev pub arrivals : Client → Result Segment BadPacket → Client
arrivals client (Ok segment) = received client segment
arrivals client (Err bad) = client

abbrev pub delivered : Client → List ℕ → Client
delivered client bytes = arrivals client (reading bytes)
