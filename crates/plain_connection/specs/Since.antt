-- What a turn sends to the client, given the connection after it and what it compares: the model's definitions, over the few fields of the point before that
-- they read.
use Rattle.std.specs.Prelude.{◌≡◌, ℕ, Bool, true, false, ◌==◌, ◌&&◌, ◌||◌, not, nat_lt, is_none, List, [], ◌∷◌, ◌++◌, length, map, if◌then◌else◌}
use Rattle.ft_io.specs.declared.Addr.{Addr}
use Rattle.seq_arith.specs.Packet.{Segment}
use Rattle.server_trait.specs.Service.{Machine}
use Rattle.ft_model.specs.Network.Packet.{To_client}
use Rattle.ft_model.specs.Wire.{Wire}
use Rattle.ft_model.specs.Point.{Point, taken_units, advertised_edge, acknowledgement, window}
use Rattle.ft_model.specs.Segments.{syn_ack, is_unacknowledged, first_unacknowledged, probe, new_texts, new_fin, or_bare, bare_segment}
use Rattle.plain_packets.specs.Sent.{Appends}
use Rattle.plain_connection.specs.declared.before.Before.{Before}

-- the point, as if it had sent only so much
abbrev pub having_sent : ℕ → Point → Point
having_sent n p = record p { sent = n }

-- the SYN-ACK, if it answers the news
abbrev pub syn_acks_since : Addr → Before → Point → List Segment
syn_acks_since server before p = if before.opens then syn_ack server p ∷ [] else []

-- one more segment if the timer expires, and where an acknowledgement shows a loss: a retransmission or a probe
abbrev pub resent_since : {State : Type 0} → Machine State → Addr → Before → Point → List Segment
resent_since service server before p =
    if before.resends
    then (if is_unacknowledged (having_sent before.sent p) p then first_unacknowledged service server (having_sent before.sent p) p
    else probe service server (having_sent before.sent p) p)
    else []

-- all segments except a pure ACK, in order
unfoldable pub full_segments_since : {State : Type 0} → Machine State → Addr → Before → Point → List Segment
full_segments_since service server before p =
    syn_acks_since server before p
    ++ (resent_since service server before p ++ (new_texts service server (having_sent before.sent p) p
    ++ new_fin service server (having_sent before.sent p) p))

-- the ACK of what is taken waits for the log: nothing is held after a gap, and the ACK would repeat the last acknowledgement and the last window
abbrev pub is_delayed_since : Before → Point → Bool
is_delayed_since before p =
    before.delays && before.arrives && nat_lt before.units (taken_units p) && length p.early.text == 0 && is_none p.early.fin
    && before.acknowledged == acknowledgement p && before.window == window p

-- an ACK is due: the news requires a segment, more is known to be logged, or RCV.NXT or the advertised right edge has changed
abbrev pub is_ack_due_since : Before → Point → Bool
is_ack_due_since before p =
    before.asks || nat_lt before.answered p.answered || not (before.units == taken_units p) || not (before.edge == advertised_edge p)

-- an ACK is pending: it is due, and doesn't wait
abbrev pub is_ack_pending_since : Before → Point → Bool
is_ack_pending_since before p = not (is_delayed_since before p) && is_ack_due_since before p

-- all segments: a pure ACK exactly if an ACK is pending and there is no other segment
unfoldable pub segments_since : {State : Type 0} → Machine State → Addr → Before → Point → List Segment
segments_since service server before p = or_bare (is_ack_pending_since before p) (bare_segment server p) (full_segments_since service server before p)

-- whether a list has an element
abbrev pub has_some : {A : Type 0} → List A → Bool
has_some [] = false
has_some (x ∷ xs) = true

-- these segments are sent; and whether there are any
pub record Sends (any : Bool) (old new : List Wire) (segments : List Segment) : Type 0 where
  pub any_is : any ≡ has_some segments
  pub packets : Appends old new (map To_client segments)
