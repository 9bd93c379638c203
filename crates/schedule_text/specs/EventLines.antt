-- Which events a schedule can ask for, and the line that asks for each.
use Rattle.std.specs.Prelude.{ℕ, ◌<◌, ◌≤◌, ◌^◌, ⊤, List}
use Rattle.std.specs.List.{join_with_byte}
use Rattle.ft_model.specs.Report.{event_words}
use Rattle.ft_model.specs.declared.event.Event.{Event}
use Rattle.ft_model.specs.declared.event.Event.TheVariants.{Boot, Crash, Tick, Deliver, Flip, Begin, Send, Fin, Ack, Reset, Stop}

-- one of the 16 clients
abbrev pub IsClient : ℕ → Type 0
IsClient n = (1 ≤ n) × (n ≤ 16)

-- the number of a packet, counted from 1
abbrev pub IsPacket : ℕ → Type 0
IsPacket n = (1 ≤ n) × (n < 2 ^ 32)

-- the numbers of an event are in the ranges that a schedule allows
abbrev pub IsAskable : Event → Type 0
IsAskable (Boot boot isn) = (1 ≤ boot) × (boot < 2 ^ 64) × (isn < 2 ^ 32)
IsAskable Crash = ⊤
IsAskable Tick = ⊤
IsAskable (Deliver packet) = IsPacket packet
IsAskable (Flip packet bit) = IsPacket packet × (bit < 2 ^ 32)
IsAskable (Begin client window) = IsClient client × (window < 2 ^ 16)
IsAskable (Send client from len) = IsClient client × (from < 2 ^ 32) × (len < 2 ^ 32)
IsAskable (Fin client) = IsClient client
IsAskable (Ack client window) = IsClient client × (window < 2 ^ 16)
IsAskable (Reset client) = IsClient client
IsAskable (Stop part) = (1 ≤ part) × (part ≤ 2)

-- the words of an event, separated by spaces
abbrev pub asked_line : Event → List ℕ
asked_line e = join_with_byte 32 (event_words e)
