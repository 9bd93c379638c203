-- No false reset in long traces: a RST ends a connection for good (RFC 9293, 3.5.2), so none may be sent to a client whose connection the log keeps. In a
-- joint trace none is ever under way. In a long trace one may be, for two reasons. A log that is full has room again once an entry is recycled. An opening is
-- asked for at each tick, so the log may say Full and take it later: if the server hears that Full afterwards, it resets a client that has an entry; and the
-- RST for a Full that it heard in time may reach the client when the log has taken the opening. And a new client may come at a key whose entry is recycled
-- and that the server has not forgotten yet: it gets CLOSED's RST, which may reach it when its own connection is in the log.
use Rattle.limits.specs.Limits.{most_entries}
use Rattle.std.specs.Prelude.{◌≡◌, ◌<◌, Bool, true, false, is_some, List, [], ◌∷◌, length}
use Rattle.std.specs.List.{AllByRecursion, list_any}
use Rattle.std.specs.Option.{option_to_list}
use Rattle.seq_arith.specs.Packet.{has_rst}
use Rattle.seq_arith.specs.Message.{Body}
use Rattle.seq_arith.specs.Message.Body.{FullMsg}
use Rattle.ft_model.specs.Log.{Log, entry_of}
use Rattle.ft_model.specs.Network.{Packet, packet_at, destination_of}
use Rattle.ft_model.specs.Network.Packet.{To_server, To_client, To_logger, From_logger}
use Rattle.ft_model.specs.World.{World}
use Rattle.ft_model.specs.declared.event.Event.{Event}
use Rattle.ft_model.specs.declared.event.Event.TheVariants.{Boot, Crash, Tick, Deliver, Flip, Begin, Send, Fin, Ack, Reset, Stop}
use Rattle.long_laws.specs.LongTrace.{LongStep, LongMoment, long_after}
use Rattle.long_laws.specs.LongTrace.LongStep.{Joint_event}

-- the log says that it has no room for a connection
abbrev pub says_full : Body → Bool
says_full (FullMsg key) = true
says_full _ = false

abbrev pub is_full : Packet → Bool
is_full (From_logger message) = says_full message.body
is_full _ = false

-- the server hears it in this event, ..
abbrev pub brings_full : World → Event → Bool
brings_full w (Deliver number) = list_any is_full (option_to_list (packet_at w.packets number))
brings_full w (Boot boot isn) = false
brings_full w Crash = false
brings_full w Tick = false
brings_full w (Flip number bit) = false
brings_full w (Begin client window) = false
brings_full w (Send client from len) = false
brings_full w (Fin client) = false
brings_full w (Ack client window) = false
brings_full w (Reset client) = false
brings_full w (Stop part) = false

-- .. and in this step
abbrev pub receives_full : World → LongStep → Bool
receives_full w (Joint_event event) = brings_full w event
receives_full w _ = false

abbrev pub is_reset : Packet → Bool
is_reset (To_client segment) = has_rst segment
is_reset _ = false

-- a RST goes only to a client that has an entry
abbrev pub ResetsOnlyLogged : Log → Packet → Type 0
ResetsOnlyLogged log (To_client segment) = has_rst segment ≡ true → is_some (entry_of (destination_of segment) log) ≡ true
ResetsOnlyLogged log (To_server segment) = Unit {0}
ResetsOnlyLogged log (To_logger message) = Unit {0}
ResetsOnlyLogged log (From_logger message) = Unit {0}

-- A server is discreet in a moment: when it hears that the log is full it sends no RST, and it resets no client that has no entry, so that a new client's SYN
-- at a key that is not forgotten yet is merely lost. The SYN is sent again (RFC 9293, 3.8.1). By the law of a turn a pending opening answers Full with a RST:
-- so the first says that no Full reaches one
pub record IsDiscreet (before : World) (moment : LongMoment) : Type 0 where
  pub full : receives_full before moment.step ≡ true → AllByRecursion (λ packet. is_reset packet ≡ false) moment.sent
  pub unlogged : AllByRecursion (ResetsOnlyLogged moment.world.now.log) moment.sent

-- .. in every moment of a trace
abbrev pub AreDiscreet : World → List LongMoment → Type 0
AreDiscreet start [] = Unit {0}
AreDiscreet start (moment ∷ earlier) = AreDiscreet start earlier × IsDiscreet (long_after start earlier).now moment

-- the log has room for one more connection after every moment of a trace
abbrev pub HasRoom : List LongMoment → Type 0
HasRoom [] = Unit {0}
HasRoom (moment ∷ earlier) = HasRoom earlier × (length moment.world.now.log.entries < most_entries)
