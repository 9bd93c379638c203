-- The tests that TCP makes on an arriving segment (RFC 9293, 3.10.7.4), over offsets in the receiver's and the sender's streams. `first` is SEG.SEQ as an
-- offset, `len` is SEG.LEN, `next` is RCV.NXT as an offset and `window` is RCV.WND.
use Rattle.std.specs.Prelude.{ℕ, ℤ, Bool, false, pos, negsuc, ◌+◌, ◌-◌, ◌+ℤ◌, ◌==◌, ◌&&◌, ◌||◌, nat_lt, nat_le, int_lt, int_le, List, take, drop, if◌then◌else◌}

-- equal integers
abbrev pub int_eq : ℤ → ℤ → Bool
int_eq x y = int_le x y && int_le y x

-- whether an offset lies in the window that begins at `next`
abbrev pub lies_in : ℕ → ℕ → ℤ → Bool
lies_in next window offset = int_le (pos next) offset && int_lt offset (pos (next + window))

-- RFC 9293, 3.10.7.4, first check, table 6: the four cases by length and window
abbrev pub is_acceptable : ℕ → ℕ → ℤ → ℕ → Bool
is_acceptable next window first len =
    if len == 0
    then (if window == 0 then int_eq first (pos next) else lies_in next window first)
    else (if window == 0 then false else (lies_in next window first || lies_in next window (first +ℤ pos (len - 1))))

-- a segment of length 0 at exactly the right edge, RCV.NXT + RCV.WND, of an open window. After a sender has filled the window and a segment was lost, its
-- ACKs have this sequence number. The four cases leave it out
unfoldable pub is_at_right_edge : ℕ → ℕ → ℤ → ℕ → Bool
is_at_right_edge next window first len = len == 0 && nat_lt 0 window && int_eq first (pos (next + window))

-- acceptable by the four cases, or at the right edge
abbrev pub is_acceptable_or_at_edge : ℕ → ℕ → ℤ → ℕ → Bool
is_acceptable_or_at_edge next window first len = is_acceptable next window first len || is_at_right_edge next window first len

-- RFC 9293, 3.10.7.4, first check, special allowance: at a zero window the acknowledgement and the window of a segment at exactly RCV.NXT are used, whatever
-- its length
unfoldable pub is_allowed_at_zero : ℕ → ℕ → ℤ → Bool
is_allowed_at_zero next window first = window == 0 && int_eq first (pos next)

-- a segment is used: it is acceptable, at the right edge, or allowed at a zero window
abbrev pub is_usable : ℕ → ℕ → ℤ → ℕ → Bool
is_usable next window first len = is_acceptable_or_at_edge next window first len || is_allowed_at_zero next window first

-- how much of a text that begins at `first` is below `next`
abbrev pub below : ℕ → ℤ → ℕ
below next (pos first) = next - first
below next (negsuc first) = next + first + 1

-- the part of a text between the offsets `from` and `to`. The text begins at `first`
unfoldable pub text_between : (from to : ℕ) → (first : ℤ) → List ℕ → List ℕ
text_between from to first text = drop (below from first) (take (below to first) text)

-- SND.UNA < SEG.ACK =< SND.NXT
abbrev pub is_new_ack : ℕ → ℕ → ℤ → Bool
is_new_ack una sent ack = int_lt (pos una) ack && int_le ack (pos sent)

-- SEG.ACK > SND.NXT
abbrev pub is_beyond : ℕ → ℤ → Bool
is_beyond sent ack = int_lt (pos sent) ack

-- SND.UNA after an acknowledgement that isn't beyond what was sent
abbrev pub una_after : ℕ → ℕ → ℕ
una_after una ack = if nat_lt una ack then ack else una

-- RFC 9293, 3.10.7.4, fifth check: the window is updated where SND.UNA =< SEG.ACK =< SND.NXT and either SND.WL1 < SEG.SEQ, or
-- SND.WL1 = SEG.SEQ and SND.WL2 =< SEG.ACK. Here the acknowledgement is already known to be at most SND.NXT
abbrev pub updates_window : ℕ → ℤ → ℕ → ℤ → ℕ → Bool
updates_window una wl1 wl2 first ack = nat_le una ack && (int_lt wl1 first || (int_eq wl1 first && nat_le wl2 ack))
