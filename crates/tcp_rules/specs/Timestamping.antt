-- The timestamps that the segments to a peer carry (RFC 7323, 3.2 and 4.3). The sender's own clock stands still: TSval is always 1, so it can't run backwards
-- over a restart. The peer takes equal values as in order (RFC 7323, 5.3), and measures its round trips by what it is echoed.
use Rattle.limits.specs.Limits.{largest_segment}
use Rattle.std.specs.Prelude.{ℕ, Bool, true, false, ◌+◌, nat_le, Option, None, Some, if◌then◌else◌}
use Rattle.seq_arith.specs.Number.{precedes_or_is}
use Rattle.seq_arith.specs.Packet.{timestamps_length}
use Rattle.seq_arith.specs.declared.options.Timestamps.{Timestamps}
use Rattle.tcp_rules.specs.declared.timestamping.Timestamping.{Timestamping}
use Rattle.tcp_rules.specs.declared.timestamping.Timestamping.TheVariants.{Off, Awaited, Echoes}

-- TSval
abbrev pub own_value : ℕ
own_value = 1

-- TS.Recent: a value of the peer replaces one that isn't newer (RFC 7323, 4.3, step 2)
abbrev pub newest : (recent value : ℕ) → ℕ
newest recent value = if precedes_or_is recent value then value else recent

-- after a segment with these timestamps. Only one that is `timely` counts: it is in the window, and begins at or before the last acknowledgement sent
abbrev pub echo_after : Timestamping → (timely : Bool) → Option Timestamps → Timestamping
echo_after Off timely timestamps = Off
echo_after Awaited timely None = Awaited
echo_after Awaited timely (Some timestamps) = if timely then Echoes timestamps.value else Awaited
echo_after (Echoes recent) timely None = Echoes recent
echo_after (Echoes recent) timely (Some timestamps) = if timely then Echoes (newest recent timestamps.value) else Echoes recent

-- the timestamps of a segment to the peer
abbrev pub timestamps_sent : Timestamping → Option Timestamps
timestamps_sent Off = None
timestamps_sent Awaited = None
timestamps_sent (Echoes recent) = Some (record { value = own_value; echo = recent })

-- a SYN asks for timestamps by having them: where the profile uses them, its value is the first that is echoed
abbrev pub asked_by : (uses : Bool) → Option Timestamps → Timestamping
asked_by false timestamps = Off
asked_by true None = Off
asked_by true (Some timestamps) = Echoes timestamps.value

-- only a connection whose segments leave room for timestamps was opened with them
abbrev pub fitting : Timestamping → (mss : ℕ) → Timestamping
fitting Off mss = Off
fitting Awaited mss = if nat_le (mss + timestamps_length) largest_segment then Awaited else Off
fitting (Echoes recent) mss = if nat_le (mss + timestamps_length) largest_segment then Echoes recent else Off

-- after a restart no value of the peer is known
abbrev pub resumed_with : (uses : Bool) → (mss : ℕ) → Timestamping
resumed_with false mss = Off
resumed_with true mss = fitting Awaited mss
