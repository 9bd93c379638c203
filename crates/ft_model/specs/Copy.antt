-- The law Copy: which part of a segment is sent to the logger, and which part of the held text that is taken in the same turn (FT-TCP, INFOCOM 2001: the
-- south side wrapper). No Data is stored for retransmission: where one is lost, the client gets no acknowledgement, and so retransmits. Whether the segment
-- was acceptable doesn't matter.
use Rattle.limits.specs.Limits.{largest_segment}
use Rattle.std.specs.Prelude.{ℕ, ℤ, Bool, true, false, zero, suc, pos, negsuc, ◌+◌, ◌-◌, ◌&&◌, ◌||◌, not, nat_lt, nat_le, max, min, List, [], ◌∷◌}
use Rattle.std.specs.Prelude.{◌++◌, length, take, drop, if◌then◌else◌}
use Rattle.ft_io.specs.declared.Key.{Key}
use Rattle.tcp_rules.specs.Arrival.{int_eq, below}
use Rattle.seq_arith.specs.Packet.{Segment}
use Rattle.seq_arith.specs.Message.{Part, Body}
use Rattle.seq_arith.specs.Message.Body.{DataMsg}
use Rattle.ft_model.specs.Offset.{first_of, text_of, fin_of}
use Rattle.ft_model.specs.Point.{Point}
use Rattle.ft_model.specs.News.{News}
use Rattle.ft_model.specs.News.News.{Comes, Logged, Ticks, Begins}
use Rattle.ft_model.specs.Taken.{end_of}

-- an offset of the stream. A segment that begins before the stream's first byte, as a keep-alive may, counts from that byte
abbrev pub from_start : ℤ → ℕ
from_start (pos offset) = offset
from_start (negsuc before) = 0

-- where the part of the text that isn't known to be logged begins
abbrev pub copy_start : Point → Segment → ℕ
copy_start p segment = max p.answered (from_start (first_of p.cisn segment))

-- the text from there up to the end of the bytes taken
abbrev pub copied_text : Point → Segment → List ℕ
copied_text p segment = take (length p.taken - copy_start p segment) (drop (below p.answered (first_of p.cisn segment)) (text_of segment))

-- whether the FIN that is taken is this segment's, and isn't known to be logged
abbrev pub copies_fin : Point → Segment → Bool
copies_fin p segment = fin_of segment && p.fin && int_eq (end_of p segment) (pos (length p.taken)) && nat_le p.answered (length p.taken)

-- Data that only reports the acknowledgement. Its offset is the end of the bytes known to be logged
abbrev pub una_part : Point → Part
una_part p = record { key = p.key; offset = min p.answered (length p.taken); acked = p.una; fin = false; more = false; bytes = [] }

abbrev pub copied_part : Point → Segment → Part
copied_part p segment =
    record { key = p.key; offset = copy_start p segment; acked = p.una; fin = copies_fin p segment; more = false; bytes = copied_text p segment }

-- the part of the segment that isn't known to be logged and is taken after the turn, as one Data, if there is such a part
unfoldable pub own_data : Point → Segment → List Body
own_data p segment = if nat_lt 0 (length (copied_text p segment)) || copies_fin p segment then DataMsg (copied_part p segment) ∷ [] else []

-- where the text begins that was held, is taken in this turn and isn't known to be logged: it is past the bytes that were taken before the turn, and past the
-- segment's own text
abbrev pub further_start : (before after : Point) → Segment → ℕ
further_start before after segment = max after.answered (max (length before.taken) (min (from_start (end_of after segment)) (length after.taken)))

abbrev pub further_text : (before after : Point) → Segment → List ℕ
further_text before after segment = drop (further_start before after segment) after.taken

-- whether a FIN is taken that isn't in the segment's own part: it was held
abbrev pub takes_held_fin : (before after : Point) → Segment → Bool
takes_held_fin before after segment = after.fin && not before.fin && not (copies_fin after segment) && nat_le after.answered (length after.taken)

-- these bytes, from an offset on, as at most k Data: 1,460 bytes each except the last, which has the FIN if there is one
unfoldable pub datas : (k : ℕ) → Key → (acked offset : ℕ) → List ℕ → Bool → List Body
datas zero key acked offset bytes fin = []
datas (suc k) key acked offset bytes fin =
    if nat_lt largest_segment (length bytes)
    then DataMsg (record { key = key; offset = offset; acked = acked; fin = false; more = false; bytes = take largest_segment bytes })
    ∷ datas k key acked (offset + largest_segment) (drop largest_segment bytes) fin
    else (if nat_lt 0 (length bytes) || fin
    then DataMsg (record { key = key; offset = offset; acked = acked; fin = fin; more = false; bytes = bytes }) ∷ [] else [])

unfoldable pub further_data : (before after : Point) → Segment → List Body
further_data before after segment =
    datas (length (further_text before after segment) + 1) after.key after.una (further_start before after segment) (further_text before after segment)
    (takes_held_fin before after segment)

-- where no Data is sent and SND.UNA rose, a Data without bytes reports that
abbrev pub or_una : (before after : Point) → List Body → List Body
or_una before after [] = if nat_lt before.una after.una then DataMsg (una_part after) ∷ [] else []
or_una before after (first ∷ others) = first ∷ others

-- a Data that a later one of the same turn follows
abbrev pub with_more : Body → Body
with_more (DataMsg part) = DataMsg (record part { fin = false; more = true })
with_more body = body

-- the Data of a turn as a batch, of which the log answers the last: each but the last says that a later one follows
unfoldable pub batch : List Body → List Body
batch [] = []
batch (last ∷ []) = last ∷ []
batch (first ∷ next ∷ others) = with_more first ∷ batch (next ∷ others)

-- Copy: the segment's own part is sent as one Data. The text and FIN that were held and are taken in this turn follow in further Data, in order. Every Data
-- carries SND.UNA
unfoldable pub copies : News → Point → Point → List Body
copies (Comes segment) before after =
    let datas_sent = or_una before after (own_data after segment ++ further_data before after segment) in if after.batches then batch datas_sent else datas_sent
copies (Logged kept) before after = []
copies Ticks before after = []
copies Begins before after = []
