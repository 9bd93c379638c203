-- What reaches the inner TCP in a turn of a wrapped connection, what comes out of it, and what the connection adds.
use Rattle.std.specs.Prelude.{ℕ, Bool, true, false, ◌&&◌, ◌||◌, not, nat_lt, List, [], ◌++◌, map, if◌then◌else◌}
use Rattle.std.specs.List.{list_any}
use Rattle.ft_io.specs.declared.Addr.{Addr}
use Rattle.seq_arith.specs.Packet.{Segment, has_rst}
use Rattle.server_trait.specs.Service.{Machine}
use Rattle.ft_model.specs.Point.{Point, is_over}
use Rattle.ft_model.specs.News.{News}
use Rattle.ft_model.specs.News.News.{Comes, Begins}
use Rattle.ft_model.specs.PendingAck.{is_delayed}
use Rattle.ft_model.specs.Segments.{syn_acks, bare_segment, or_bare}
use Rattle.tcp_endpoint.specs.Output.{full_out, leaving}
use Rattle.tcp_endpoint.specs.Tcb.{Tcb}
use Rattle.south_wrap.specs.Translation.{inward, outward, repeats_syn}
use Rattle.south_wrap.specs.SouthPoint.{south_at}

-- a segment is passed in as the south wrapper changes it. A SYN for which `repeats_syn` holds isn't passed in. TCP gets all other news as it is
abbrev pub news_inside : (delta : ℕ) → Point → News → News
news_inside delta before (Comes segment) = if repeats_syn (south_at delta before) segment then Begins else Comes (inward (south_at delta before) segment)
news_inside delta before news = news

-- TCP's segments are passed out as the south wrapper changes them. A RST, which TCP sends alone, isn't
abbrev pub passed : (delta : ℕ) → Point → List Segment → List Segment
passed delta after segments = if list_any has_rst segments then [] else map (outward (south_at delta after)) segments

-- what TCP sends, where it is t before its flush: where the ACK waits for the log, the connection has TCP delay it
abbrev pub tcp_out : News → (before after : Point) → Tcb → List Segment
tcp_out news before after t = if is_delayed news before after then full_out t else leaving t

-- an ACK is pending for a reason that TCP doesn't know: the connection was over before, or just became live ..
abbrev pub asks_besides : {State : Type 0} → Machine State → News → Point → Bool
asks_besides service (Comes segment) before = is_over service before && not (has_rst segment)
asks_besides service Begins before = true
asks_besides service _ before = false

-- .. or more is known to be logged
abbrev pub needs_ack_besides : {State : Type 0} → Machine State → News → (before after : Point) → Bool
needs_ack_besides service news before after = asks_besides service news before || nat_lt before.answered after.answered

-- what is sent: the SYN-ACK with the logged numbers, then what comes out of TCP; or else a pure ACK, if such an ACK is pending
abbrev pub leaves : {State : Type 0} → Machine State → Addr → News → (before after : Point) → List Segment → List Segment
leaves service server news before after passed_on =
    or_bare (needs_ack_besides service news before after) (bare_segment server after) (syn_acks server news before after ++ passed_on)
