-- What a connection sends to the logger in a turn.
use Rattle.limits.specs.Limits.{largest_segment, most_units}
use Rattle.std.specs.Prelude.{ℕ, ℤ, Bool, true, false, pos, ◌≤◌, ◌+◌, ◌-◌, ◌*◌, ◌^◌, ◌+ℤ◌, ◌&&◌, ◌||◌, not, min, max, nat_lt, nat_le, List, [], ◌∷◌}
use Rattle.std.specs.Prelude.{◌++◌, map, length, drop, if◌then◌else◌}
use Rattle.std.specs.List.{AllByRecursion}
use Rattle.seq_arith.specs.Offset.{first_of, text_of}
use Rattle.seq_arith.specs.Packet.{Segment}
use Rattle.seq_arith.specs.Message.{Part, Body}
use Rattle.seq_arith.specs.Message.Body.{DataMsg, DoneMsg}
use Rattle.seq_arith.specs.declared.kinds.Grammar.{Grammar}
use Rattle.seq_arith.specs.declared.kinds.Grammar.TheVariants.{Plain, Wide}
use Rattle.seq_arith.specs.MessageGrammar.{spelling_by, behind_of}
use Rattle.ft_model.specs.Copy.{from_start, datas, with_more, batch}
use Rattle.logger_wire.specs.declared.Body.{Body as Said}
use Rattle.logger_wire.specs.Value.{body_of}
use Rattle.south_wrap.specs.Translation.{Copied, copied, is_some_copied}
use Rattle.tcp_endpoint.specs.Packets.{byte_count}
use Rattle.north_wrap.specs.declared.read_record.ReadRecord.{ReadRecord}
use Rattle.wrapped_conn.specs.declared.stage.Before.{Before}
use Rattle.wrapped_conn.specs.declared.stage.ConnStage.{ConnStage}
use Rattle.wrapped_conn.specs.declared.stage.ConnStage.TheVariants.{Done, Ending}
use Rattle.wrapped_conn.specs.ConnState.{ConnState}
use Rattle.wrapped_conn.specs.Numbers.{has_fin, fetched_or_read, una_units, bytes_taken, logged_units}

-- a connection that sends batches writes its messages in the wide grammar
abbrev pub grammar_by : (wide : Bool) → Grammar
grammar_by wide = if wide then Wide else Plain

-- messages of this boot, as bytes
abbrev pub spelled : (wide : Bool) (boot : ℕ) → List Body → List (List ℕ)
spelled wide boot bodies = map (λ body. spelling_by (grammar_by wide) (record { boot = boot; body = body })) bodies

abbrev pub part_of : {S : Type 0} → ConnState S → Copied → Part
part_of c copy = record { key = c.key; offset = copy.offset; acked = una_units c; fin = copy.fin; more = false; bytes = copy.text }

-- the part that only reports the acknowledgement
abbrev pub acked_part : {S : Type 0} → ConnState S → Part
acked_part c = record { key = c.key; offset = min (logged_units c) (bytes_taken c); acked = una_units c; fin = false; more = false; bytes = [] }

-- the copied part of a segment
abbrev pub own_data : {S : Type 0} → Segment → ConnState S → List Body
own_data segment c = if is_some_copied (copied c.south segment) then DataMsg (part_of c (copied c.south segment)) ∷ [] else []

-- where a segment's text ends
abbrev pub end_of : {S : Type 0} → Segment → ConnState S → ℤ
end_of segment c = first_of c.south.cisn segment +ℤ pos (length (text_of segment))

-- where the text begins that was held and is taken now, and isn't known to be logged: after the bytes taken before and after the segment's own
unfoldable pub further_start : {S : Type 0} → Before → Segment → ConnState S → ℕ
further_start before segment c = max (logged_units c) (max before.taken (min (from_start (end_of segment c)) (bytes_taken c)))

-- the text that the service hasn't read, from an offset in the client's stream on
abbrev pub unread_from : {S : Type 0} → ConnState S → ℕ → List ℕ
unread_from c start = drop (start - fetched_or_read c) c.endpoint.receiving.unread

-- a FIN is taken now, and isn't in the segment's own part: it was held
abbrev pub takes_held_fin : {S : Type 0} → Before → (own : Bool) → ConnState S → Bool
takes_held_fin before own c = has_fin c.endpoint.name && not before.fin && not own && nat_le (logged_units c) (bytes_taken c)

-- text from an offset on, in Data of 1,460 bytes each except the last, which has the FIN if there is one
abbrev pub datas_of : {S : Type 0} → ConnState S → (offset : ℕ) → List ℕ → Bool → List Body
datas_of c offset text fin = datas (length text + 1) c.key (una_units c) offset text fin

-- the text and the FIN that were held and are taken now
abbrev pub further_data : {S : Type 0} → Before → Segment → ConnState S → List Body
further_data before segment c =
    datas_of c (further_start before segment c) (unread_from c (further_start before segment c)) (takes_held_fin before (copied c.south segment).fin c)

-- if no other Data is sent, one without bytes reports that the client has acknowledged more, if that is so
abbrev pub or_una : {S : Type 0} → (una : ℕ) → ConnState S → List Body → List Body
or_una una c [] = if nat_lt una (una_units c) then DataMsg (acked_part c) ∷ [] else []
or_una una c (first ∷ others) = first ∷ others

-- the Data of a turn, each but the last of which says that another follows if the connection sends batches
abbrev pub in_batch : (batches : Bool) → List Body → List Body
in_batch batches bodies = if batches then batch bodies else bodies

-- a Data that another follows
abbrev pub followed : (more : Bool) → Body → Body
followed more body = if more then with_more body else body

-- whether text or a FIN that was held is sent now
abbrev pub follows : {S : Type 0} → (start : ℕ) → (fin : Bool) → ConnState S → Bool
follows start fin c = nat_lt 0 (length (unread_from c start)) || fin

-- all that is sent to the logger when a segment arrives
unfoldable pub copies : {S : Type 0} → Before → Segment → ConnState S → List Body
copies before segment c = in_batch c.batches (or_una before.una c (own_data segment c ++ further_data before segment c))

-- a read whose numbers a message can hold
pub record IsWritable (read : ReadRecord) : Type 0 where
  pub index : read.index ≤ most_units
  pub length : read.length ≤ 2048

abbrev pub AreWritable : List ReadRecord → Type 0
AreWritable reads = AllByRecursion IsWritable reads

-- Done is sent, unless Ended has arrived
abbrev pub is_done : ConnStage → Bool
is_done Done = true
is_done stage = false

abbrev pub dones : {S : Type 0} → ConnState S → List Body
dones c = if is_done c.stage then [] else DoneMsg c.key ∷ []

abbrev pub with_done : {S : Type 0} → ConnState S → ConnState S
with_done c = record c { stage = if is_done c.stage then Done else Ending }

-- the text that a message carries after its numbers
abbrev pub text_length : Said → ℕ
text_length body = length (behind_of (body_of body))

-- the messages of a turn have no more text than one segment and a full buffer have ..
abbrev pub most_text : ℕ
most_text = largest_segment + 65535

-- .. and headers of at most 64 bytes
abbrev pub AreShort : List (List ℕ) → Type 0
AreShort messages = byte_count messages ≤ 64 * length messages + most_text

-- a message about a mark may be sent before Done: its state has at most this many bytes
abbrev pub most_state : ℕ
most_state = 1100

abbrev pub AreShortWithMark : List (List ℕ) → Type 0
AreShortWithMark messages = byte_count messages ≤ 64 * length messages + most_text + most_state
