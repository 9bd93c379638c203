-- The receiving half of a connection, in offsets of the peer's stream: byte k has offset k, and a FIN that is taken counts as one more unit (RFC 9293, 3.3.1,
-- receive sequence variables, and 3.10.7.4, first, seventh and eighth check).
use Rattle.limits.specs.Limits.{buffer_size}
use Rattle.std.specs.Prelude.{ℕ, ℤ, Bool, false, ◌+◌, ◌-◌, ◌^◌, ◌≤◌, min, Option, List, [], ◌++◌, length, drop}
use Rattle.tcp_rules.specs.Coming.{Early, Came, nothing_early, comes, StandsBehind}
use Rattle.seq_arith.specs.Offset.{one_if}
use Rattle.tcp_buffers.specs.Queue.{Queue}

pub record Receiving : Type 0 where
  pub irs : ℕ  -- IRS: the peer's initial sequence number
  pub read : ℕ  -- how many bytes the user has read
  pub unread : List ℕ  -- the bytes taken and not read
  pub fin : Bool  -- whether the peer's FIN is taken
  pub early : Early  -- the peer's text after the bytes taken, and its FIN, that are held until the gap before them is filled
  pub limit : ℕ  -- the right edge of the receive window never passes this

-- how many bytes are taken
abbrev pub taken : Receiving → ℕ
taken r = r.read + length r.unread

-- RCV.NXT
abbrev pub next : Receiving → ℕ
next r = taken r + one_if r.fin

-- the right edge of the receive window, as an offset: 65,535 bytes past what is read, and at most the limit. No byte from there on is taken
abbrev pub receive_edge : Receiving → ℕ
receive_edge r = min (r.read + buffer_size) r.limit

-- the right edge that is advertised: a FIN that is taken has used up one number
abbrev pub advertised_edge : Receiving → ℕ
advertised_edge r = receive_edge r + one_if r.fin

-- RCV.WND
abbrev pub window : Receiving → ℕ
window r = receive_edge r - taken r

-- nothing is received yet
abbrev pub receiving_up_to : ℕ → Receiving
receiving_up_to limit = record { irs = 0; read = 0; unread = []; fin = false; early = nothing_early; limit = limit }

-- what the text and the FIN of a segment do to the stream
abbrev pub came : Receiving → ℤ → List ℕ → Bool → Came
came r first text fin = comes (taken r) (receive_edge r) r.fin r.early first text fin

-- seventh and eighth check: both are taken, or held
unfoldable pub with_came : Receiving → Came → Receiving
with_came r c = record r { unread = r.unread ++ c.added; early = c.early; fin = c.fin }

abbrev pub with_segment : Receiving → ℤ → List ℕ → Bool → Receiving
with_segment r first text fin = with_came r (came r first text fin)

-- the user reads `n` bytes
abbrev pub read_out : Receiving → ℕ → Receiving
read_out r n = record r { read = r.read + n; unread = drop n r.unread }

-- the invariant of a receiver's fields
pub record ReceiverInvariant (read : ℕ) (queue : Queue) (fin : Bool) (held_fin : Option ℕ) (limit : ℕ) : Type 0 where
  pub within : read + length queue.unread ≤ limit
  pub queued : length queue.unread ≤ buffer_size
  pub near : limit ≤ 2 ^ 30
  pub behind : StandsBehind (read + length queue.unread) (min (read + buffer_size) limit) fin (record { text = queue.early; fin = held_fin })
