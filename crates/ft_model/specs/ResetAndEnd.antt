-- The law Reset and end, for a live connection: when its client resets it, and when the server reports to the logger that it is done.
use Rattle.std.specs.Prelude.{ℕ, Bool, pos, ◌+◌, ◌==◌, ◌&&◌, ◌||◌, not, min, List, [], ◌∷◌, if◌then◌else◌}
use Rattle.tcp_rules.specs.Arrival.{int_eq}
use Rattle.seq_arith.specs.Packet.{has_rst}
use Rattle.seq_arith.specs.Message.{Body}
use Rattle.seq_arith.specs.Message.Body.{DoneMsg}
use Rattle.server_trait.specs.Service.{Machine}
use Rattle.ft_model.specs.Offset.{first_of}
use Rattle.ft_model.specs.Point.{Point, taken_units, acknowledgement, is_over}
use Rattle.ft_model.specs.News.{News}
use Rattle.ft_model.specs.News.News.{Comes, Logged, Ticks, Begins}
use Rattle.ft_model.specs.Timer.{is_tick}

-- RFC 5961, 3.2: only a RST at exactly the next number resets, in every state
unfoldable pub reset_after : News → Point → Bool
reset_after (Comes segment) p = p.reset || (has_rst segment && int_eq (first_of p.cisn segment) (pos (taken_units p)))
reset_after (Logged kept) p = p.reset
reset_after Ticks p = p.reset
reset_after Begins p = p.reset

-- an end tick: the connection is over, and all that is taken is known to be logged
abbrev pub is_end_tick : {State : Type 0} → Machine State → News → Point → Bool
is_end_tick service news after = is_tick news && is_over service after && acknowledgement after == taken_units after

-- the end ticks so far, counted up to four
unfoldable pub end_ticks_after : {State : Type 0} → Machine State → News → Point → Point → ℕ
end_ticks_after service news before after = if is_end_tick service news after then min 4 (before.end_ticks + 1) else before.end_ticks

-- Done is sent in the turn of the reset, or at the fourth end tick, and in either case at each tick from then on
abbrev pub reports_done : News → Point → Point → Bool
reports_done news before after = (after.reset && not before.reset) || (is_tick news && (after.reset || after.end_ticks == 4))

unfoldable pub dones : News → Point → Point → List Body
dones news before after = if reports_done news before after then DoneMsg after.key ∷ [] else []
