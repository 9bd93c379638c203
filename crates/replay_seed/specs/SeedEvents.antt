-- Which event is drawn, given the state of the generator and of the world.
use Rattle.std.specs.Prelude.{ℕ, ◌+◌, ◌-◌, ◌%◌, ◌==◌, ◌||◌, ◌&&◌, min, is_some, length, nat_lt, Option, None, Some, List, if◌then◌else◌}
use Rattle.ft_model.specs.Client.{Client, is_new, is_opening, is_open}
use Rattle.ft_model.specs.World.{World, client_at}
use Rattle.ft_model.specs.declared.event.Event.{Event}
use Rattle.ft_model.specs.declared.event.Event.TheVariants.{Boot, Crash, Tick, Deliver, Begin, Send, Fin, Ack}
use Rattle.pseudorandom.specs.Generator.{stepped}
use Rattle.replay_seed.specs.Draws.{draw}
use Rattle.replay_seed.specs.declared.dice.ServerNow.{ServerNow}

-- an event, and the generator's state after the draws for it
pub record Drawn : Type 0 where
  pub event : Event
  pub state : ℕ

-- the server's clock ticks; if the server is down, it starts with the next boot number
abbrev pub server_event : ℕ → ServerNow → Drawn
server_event state server =
    if server.is_up then record { event = Tick; state = state }
    else record { event = Boot (server.boots + 1) (draw state); state = stepped state }

-- the same, but if the server is up, it crashes in one of 64 cases
abbrev pub risky_event : ℕ → ServerNow → Drawn
risky_event state server =
    if server.is_up then record { event = if draw state % 64 == 0 then Crash else Tick; state = stepped state }
    else server_event state server

-- one of the last 64 packets is delivered
abbrev pub delivery : ℕ → (packets : ℕ) → Drawn
delivery state packets = record { event = Deliver (packets - draw state % min packets 64); state = stepped state }

-- where text begins: at the first byte that isn't acknowledged or, as often, at the first that wasn't sent, if there is one
abbrev pub text_start : ℕ → Client → ℕ
text_start state client =
    if draw state % 2 == 1 || min client.sent (length client.script) == length client.script then client.acknowledged
    else min client.sent (length client.script)

-- a client sends up to 536 bytes of its script
abbrev pub text_event : ℕ → ℕ → Client → Drawn
text_event state number client =
    record { event = Send number (text_start state client) (min 536 (length client.script - text_start state client)); state = stepped state }

-- what advances a client: its SYN, text while some isn't acknowledged, then its FIN. If there is nothing to advance, it is an event of the server
abbrev pub progress : ℕ → ℕ → Client → ServerNow → Drawn
progress state number client server =
    if is_new client.phase || is_opening client.phase then record { event = Begin number 65535; state = state }
    else (if is_open client.phase && nat_lt client.acknowledged (length client.script) then text_event state number client
    else (if is_open client.phase && client.acknowledged == length client.script then record { event = Fin number; state = state }
    else server_event state server))

-- an open client acknowledges what it has accepted; for any other it is an event of the server
abbrev pub acknowledgement : ℕ → ℕ → Client → ServerNow → Drawn
acknowledgement state number client server =
    if is_open client.phase then record { event = Ack number 65535; state = state } else server_event state server

-- an event of a client. Four sides of the die select it: two advance the client, or all four if it isn't open yet; at the others it acknowledges
abbrev pub client_event : (die : ℕ) → ℕ → ℕ → Option Client → ServerNow → Drawn
client_event die state number None server = server_event state server
client_event die state number (Some client) server =
    if nat_lt die 11 || is_new client.phase || is_opening client.phase then progress state number client server else acknowledgement state number client server

-- the event by a die of sixteen sides, counted from 0: nine sides deliver, four are a client's, three the server's
abbrev pub event_by : (die : ℕ) → ℕ → (number packets : ℕ) → List Client → ServerNow → Drawn
event_by die state number packets clients server =
    if nat_lt die 9 then delivery state packets
    else (if nat_lt die 13 then client_event die state number (client_at clients number) server
    else (if nat_lt die 15 then server_event state server else risky_event state server))

-- The event that is drawn. Before anything was sent it is the server's, which boots. Otherwise the die is drawn first, then the number of a client, and then
-- what the event needs.
abbrev pub next_event : ℕ → (packets : ℕ) → List Client → ServerNow → Drawn
next_event state packets clients server =
    if packets == 0 then server_event state server
    else event_by (draw state % 16) (stepped (stepped state)) (1 + draw (stepped state) % length clients) packets clients server

abbrev pub server_of : World → ServerNow
server_of w = record { is_up = is_some w.node; boots = w.boot }

-- the event that is drawn in a world
abbrev pub next_event_in : ℕ → World → Drawn
next_event_in state w = next_event state (length w.packets) w.clients (server_of w)
