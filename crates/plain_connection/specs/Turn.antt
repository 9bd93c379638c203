-- A turn: what it sends, and the point after it.
use Rattle.std.specs.Prelude.{ℕ, true, List}
use Rattle.ft_io.specs.declared.Addr.{Addr}
use Rattle.server_trait.specs.Service.{Machine}
use Rattle.ft_model.specs.Answered.{answered_after, reads_answered_after}
use Rattle.ft_model.specs.Connection.{ConnectionTurn}
use Rattle.ft_model.specs.Network.{Packet}
use Rattle.ft_model.specs.News.{News}
use Rattle.ft_model.specs.Point.{Point}
use Rattle.ft_model.specs.ResetAndEnd.{end_ticks_after}
use Rattle.ft_model.specs.Sending.{sent_at_once, sent_after}
use Rattle.ft_model.specs.Timer.{interval_after, rest_after}
use Rattle.ft_model.specs.Wire.{Wire}
use Rattle.plain_packets.specs.Sent.{Appends}
use Rattle.plain_point.specs.Turn.{timing_since}

-- the turn is lawful, and what it sends is appended to the packets from before
pub record TakesTurn {State : Type 0} (service : Machine State) (server : Addr) (boot : ℕ) (news : News) (before after : Point)
    (old new : List Wire) : Type 0 where
  pub sent : List Packet
  pub lawful : ConnectionTurn service server boot news before after sent
  pub packets : Appends old new sent

-- the first unit that is sent for the first time is timed, if none is
abbrev pub timed_since : {State : Type 0} → Machine State → (before noted : Point) → Point
timed_since service before noted = record noted { timing = timing_since before.sent (sent_at_once service before noted) noted }

-- what is settled at the end of a turn, after the news is noted and the reads are made: how much is sent, the measurement of
-- a round trip, the timer, and the end ticks
abbrev pub settled_since : {State : Type 0} → Machine State → News → (before noted : Point) → Point
settled_since service news before noted = record (timed_since service before noted) {
  sent = sent_after service news before noted;
  interval = interval_after news before (timed_since service before noted);
  rest = rest_after service news before (record (timed_since service before noted) { sent = sent_after service news before noted });
  end_ticks = end_ticks_after service news noted noted;
}

-- a connection that its client resets, or has reset, only notes what is logged
abbrev pub reset_noted : News → Point → Point
reset_noted news p = record p { answered = answered_after news p; reads_answered = reads_answered_after news p; reset = true }
