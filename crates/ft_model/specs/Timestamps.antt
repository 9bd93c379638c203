-- The law Timestamps: which value of the client is echoed (RFC 7323, 4.3). It is read from the point before the turn.
use Rattle.std.specs.Prelude.{Bool, pos, ◌&&◌, not, int_le}
use Rattle.seq_arith.specs.Packet.{Segment, has_rst}
use Rattle.tcp_rules.specs.Timestamping.{echo_after}
use Rattle.tcp_rules.specs.declared.timestamping.Timestamping.{Timestamping}
use Rattle.ft_model.specs.Offset.{first_of}
use Rattle.ft_model.specs.Point.{Point, acknowledgement}
use Rattle.ft_model.specs.News.{News}
use Rattle.ft_model.specs.News.News.{Comes, Logged, Ticks, Begins}
use Rattle.ft_model.specs.Taken.{accepts}

-- the segment's value counts: it is acceptable, no RST, and begins at or before the last acknowledgement sent. Every turn that raises what may be acknowledged
-- sends a segment, so the last acknowledgement sent is that of the point
unfoldable pub is_timely : Point → Segment → Bool
is_timely p segment = accepts p segment && not (has_rst segment) && int_le (first_of p.cisn segment) (pos (acknowledgement p))

-- TS.Recent
abbrev pub timestamping_after : News → Point → Timestamping
timestamping_after (Comes segment) p = echo_after p.timestamping (is_timely p segment) segment.head.timestamps
timestamping_after (Logged kept) p = p.timestamping
timestamping_after Ticks p = p.timestamping
timestamping_after Begins p = p.timestamping
