-- Clients that say nothing (RFC 9293, 3.8.3 and 3.8.4). A server counts the ticks since it last got a packet from the client of a live connection. From a first
-- threshold on, `silence`, it sends keep-alives, and at twice that it lets go of the connection. A connection whose SYN is never acknowledged is half-open:
-- it is let go of after 250 ticks. Without a threshold, where `silence` is 0, no established connection is let go of.
use Rattle.std.specs.Prelude.{ℕ, ◌+◌, ◌-◌, ◌*◌, ◌/◌, ◌%◌, ◌==◌, ◌&&◌, not, nat_le, nat_lt, max, Bool, true, false, Option, Some, length, if◌then◌else◌}
use Rattle.ft_io.specs.declared.Key.{Key}
use Rattle.ft_model.specs.Node.{Node, Place, Stage, Input, place_at}
use Rattle.ft_model.specs.Node.Input.{Packet_comes, Message_comes, Noise_comes, Tick_comes}
use Rattle.ft_model.specs.Node.Place.{Lives}
use Rattle.ft_model.specs.Node.Stage.{Serving}
use Rattle.ft_model.specs.Point.{Point, taken_units}
use Rattle.ft_model.specs.ServingTurn.{concerns}
use Rattle.long_laws.specs.LongTrace.{places_at}

-- how the server got a connection
pub data Origin : Type 0 where
  Opened_here : Origin  -- this incarnation opened it
  -- it was restored from an entry in which nothing is logged, and its client has sent nothing since: it may be half-open or established
  Restored_empty : Origin
  Restored : Origin  -- any other

pub record Watch : Type 0 where
  pub origin : Origin
  pub age : ℕ  -- in ticks since it became live
  pub silent : ℕ  -- in ticks since its client last sent a packet, or since it became live

abbrev pub begun_watch : Origin → Watch
begun_watch origin = record { origin = origin; age = 0; silent = 0 }

-- a packet of its client comes
abbrev pub received_origin : Origin → Origin
received_origin Restored_empty = Restored
received_origin origin = origin

abbrev pub received_from : Watch → Watch
received_from w = record { origin = received_origin w.origin; age = w.age; silent = 0 }

abbrev pub one_tick_older : Watch → Watch
one_tick_older w = record { origin = w.origin; age = w.age + 1; silent = w.silent + 1 }

abbrev pub watched : Node → Input → Key → Watch → Watch
watched node (Packet_comes segment) key w = if concerns node (Packet_comes segment) key then received_from w else w
watched node Tick_comes key w = one_tick_older w
watched node (Message_comes message) key w = w
watched node Noise_comes key w = w

-- nothing is logged of a connection: no byte and no FIN of its client, no read, no acknowledgement
abbrev pub is_empty : Point → Bool
is_empty p = taken_units p == 0 && length p.lengths == 0 && p.una == 0

abbrev pub new_origin : Stage → Point → Origin
new_origin (Serving opened places) p = Opened_here
new_origin stage p = if is_empty p then Restored_empty else Restored

abbrev pub is_live : Option Place → Bool
is_live (Some (Lives p)) = true
is_live _ = false

-- the watch of a key after a turn, by what is then at the key's place. It begins once the place is live
abbrev pub watch_of : Node → Input → Key → Watch → Option Place → Watch
watch_of node input key w (Some (Lives p)) =
    if is_live (place_at key (places_at node.stage)) then watched node input key w else begun_watch (new_origin node.stage p)
watch_of node input key w _ = w

abbrev pub watches_after : Node → Input → Stage → (Key → Watch) → Key → Watch
watches_after node input later watches key = watch_of node input key (watches key) (place_at key (places_at later))

abbrev pub is_opened_here : Origin → Bool
is_opened_here Opened_here = true
is_opened_here _ = false

abbrev pub is_half_open : Watch → Point → Bool
is_half_open w p = is_opened_here w.origin && not p.syn_acked

abbrev pub is_unreceived : Origin → Bool
is_unreceived Restored_empty = true
is_unreceived _ = false

-- Whether the server lets go of a connection. A half-open one and one that may be half-open are let go of after 250 ticks, whatever `silence` is
abbrev pub half_open_ticks : ℕ
half_open_ticks = 250

abbrev pub is_silent : (silence : ℕ) → Watch → Bool
is_silent silence w = nat_lt 0 silence && nat_le (2 * silence) w.silent

abbrev pub is_let_go : (silence : ℕ) → Watch → Point → Bool
is_let_go silence w p =
    not p.reset
    && (if is_half_open w p then nat_le half_open_ticks w.age else (if is_unreceived w.origin then nat_le half_open_ticks w.silent else is_silent silence w))

-- When a keep-alive is due. One that may be half-open is asked at every fiftieth tick, any other first at `silence` and then each eighth part of it
abbrev pub interval : (silence : ℕ) → ℕ
interval silence = max 1 (silence / 8)

abbrev pub is_due : (silence : ℕ) → Watch → Bool
is_due silence w =
    if is_unreceived w.origin then w.silent % 50 == 0
    else nat_lt 0 silence && (nat_le silence w.silent && (w.silent - silence) % interval silence == 0)

-- While something is unacknowledged, its retransmission asks, and no keep-alive is sent
abbrev pub is_all_acknowledged : Point → Bool
is_all_acknowledged p = p.syn_acked && p.una == p.sent

abbrev pub is_asked : (silence : ℕ) → Watch → Point → Bool
is_asked silence w p = not p.reset && (not (is_let_go silence w p) && (is_all_acknowledged p && is_due silence w))
