-- The turns of a client over its link. One flush comes before the first receive. In each turn the client receives once, accepts all bytes that its
-- TCP then has for it, and hands all segments of a flush to send, addressed to its server, before it receives again.
use Rattle.std.specs.Prelude.{◌≡◌, ℕ, Bool, false, None, List, [], ◌∷◌, ◌++◌, length}
use Rattle.ft_io.specs.declared.Addr.{Addr}
use Rattle.ft_io.specs.declared.link_call.LinkCall.{LinkCall}
use Rattle.ft_io.specs.declared.link_call.LinkCall.TheVariants.{Handed}
use Rattle.tcp_endpoint.specs.Output.{packets}
use Rattle.peer_client.specs.Live.{LiveState, after_packet, ticked, unread, handed, sent_by, turned}
use Rattle.link_parts.specs.Receipt.{Received, datagram, silence, failure, received_as}

-- what was received, and whether each send of the flush after it fails; sends past the end of the list don't
pub record ClientTurn : Type 0 where
  pub received : Received
  pub losses : List Bool

-- a datagram or a tick comes
abbrev pub after_receive : LiveState → Received → LiveState
after_receive l (datagram from bytes) = after_packet l bytes
after_receive l silence = ticked l
after_receive l failure = ticked l

-- all accepted bytes are handed out
abbrev pub emptied : LiveState → LiveState
emptied l = handed l (length (unread l))

-- the client when its last flush is due: the first flush, or that of the last of these turns (the newest first)
unfoldable pub due_at : LiveState → List ClientTurn → LiveState
due_at start [] = start
due_at start (turn ∷ earlier) = emptied (after_receive (turned (due_at start earlier)) turn.received)

-- the bytes that were accepted in these turns
unfoldable pub accepted_in : LiveState → List ClientTurn → List ℕ
accepted_in start [] = []
accepted_in start (turn ∷ earlier) = accepted_in start earlier ++ unread (after_receive (turned (due_at start earlier)) turn.received)

-- packets are handed to send, one by one
abbrev pub handings : Addr → List (List ℕ) → List Bool → List LinkCall
handings to [] losses = []
handings to (packet ∷ others) [] = Handed to packet false ∷ handings to others []
handings to (packet ∷ others) (is_lost ∷ losses) = Handed to packet is_lost ∷ handings to others losses

-- the calls of a flush
abbrev pub flush_calls : Addr → LiveState → List Bool → List LinkCall
flush_calls server l losses = handings server (packets (sent_by l)) losses

-- all calls after the bind, the oldest first; `first` are the losses of the first flush
unfoldable pub client_calls : Addr → LiveState → (first : List Bool) → List ClientTurn → List LinkCall
client_calls server start first [] = flush_calls server start first
client_calls server start first (turn ∷ earlier) =
    client_calls server start first earlier ++ received_as turn.received ∷ flush_calls server (due_at start (turn ∷ earlier)) turn.losses

-- the connection had no outcome before the last of these turns
unfoldable pub WasOpen : LiveState → List ClientTurn → Type 0
WasOpen start [] = Unit {0}
WasOpen start (turn ∷ earlier) = (due_at start earlier).outcome ≡ None
