-- The law Taken: which bytes of a segment are taken, which are held, and when its FIN is taken (RFC 9293, 3.10.7.4: first, seventh and eighth check). All tests
-- are made at the point before the turn.
use Rattle.std.specs.Prelude.{ℕ, ℤ, Bool, pos, ◌+ℤ◌, ◌&&◌, ◌||◌, not, int_le, List, ◌++◌, length, if◌then◌else◌}
use Rattle.tcp_rules.specs.Arrival.{is_acceptable_or_at_edge, is_usable, is_beyond}
use Rattle.seq_arith.specs.Packet.{Segment, has_syn, has_rst, has_ack}
use Rattle.tcp_rules.specs.Coming.{Early, Came, nothing_came, comes}
use Rattle.ft_model.specs.Offset.{first_of, ack_of, text_of, fin_of, length_of}
use Rattle.ft_model.specs.Point.{Point, taken_units, most, receive_edge, room}
use Rattle.ft_model.specs.News.{News}
use Rattle.ft_model.specs.News.News.{Comes, Logged, Ticks, Begins}

-- acceptable: by TCP's four cases, with the next number and the window of the point, or at the right edge
unfoldable pub accepts : Point → Segment → Bool
accepts p segment = is_acceptable_or_at_edge (taken_units p) (room p) (first_of p.cisn segment) (length_of segment)

-- the segment is used: it is acceptable, or begins at the next number while the window is zero
unfoldable pub uses : Point → Segment → Bool
uses p segment = is_usable (taken_units p) (room p) (first_of p.cisn segment) (length_of segment)

-- the segment acknowledges something that was never sent (RFC 9293, 3.10.7.4, fifth check), neither by this incarnation nor by an earlier one
unfoldable pub acknowledges_unsent : Point → Segment → Bool
acknowledges_unsent p segment = is_beyond (most p) (ack_of p.sisn segment)

-- The segment counts: it is used, has ACK and neither SYN nor RST, and acknowledges nothing that was never sent. The first one to count acknowledges the SYN
unfoldable pub counts : Point → Segment → Bool
counts p segment =
    has_ack segment && not (has_syn segment) && not (has_rst segment) && uses p segment && (p.syn_acked || int_le (pos 0) (ack_of p.sisn segment))
    && not (acknowledges_unsent p segment)

-- where the segment's text ends
abbrev pub end_of : Point → Segment → ℤ
end_of p segment = first_of p.cisn segment +ℤ pos (length (text_of segment))

-- what the segment's text and FIN do to the client's stream, if the segment counts
unfoldable pub came : Point → Segment → Came
came p segment =
    if counts p segment
    then comes (length p.taken) (receive_edge p) p.fin p.early (first_of p.cisn segment) (text_of segment) (fin_of segment)
    else nothing_came p.early p.fin

-- Taken: the bytes taken, ..
unfoldable pub taken_after : News → Point → List ℕ
taken_after (Comes segment) p = p.taken ++ (came p segment).added
taken_after (Logged kept) p = p.taken
taken_after Ticks p = p.taken
taken_after Begins p = p.taken

-- .. what is held, ..
unfoldable pub early_after : News → Point → Early
early_after (Comes segment) p = (came p segment).early
early_after (Logged kept) p = p.early
early_after Ticks p = p.early
early_after Begins p = p.early

-- .. and the FIN
unfoldable pub fin_after : News → Point → Bool
fin_after (Comes segment) p = (came p segment).fin
fin_after (Logged kept) p = p.fin
fin_after Ticks p = p.fin
fin_after Begins p = p.fin
