-- The north wrapper's state, and what it does with it: the reads of a turn over any socket, and the output that it gives to TCP.
use Rattle.limits.specs.Limits.{buffer_size, longest_stream}
use Rattle.std.specs.Prelude.{◌≡◌, ℕ, ◌+◌, ◌-◌, ◌^◌, ◌<◌, ◌≤◌, ◌==◌, Bool, false, ◌&&◌, ◌||◌, not, min, nat_lt, nat_le, Option, Some, None, List, []}
use Rattle.std.specs.Prelude.{◌∷◌, ◌++◌, length, take, drop, get_or, if◌then◌else◌}
use Rattle.server_trait.specs.Service.{Served}
use Rattle.north_wrap.specs.declared.read_record.ReadRecord.{ReadRecord}
use Rattle.north_wrap.specs.RunState.{RunState, run_on, gives, given_to}
use Rattle.north_wrap.specs.Sockets.{Reader, Writer}

pub record NorthState (S : Type 0) : Type 0 where
  pub run : RunState S  -- the service, with its output that isn't given to TCP yet
  pub rest : List ℕ  -- the bytes that a restart fetched beyond the fetched reads, as far as they aren't read yet
  pub last : ReadRecord  -- the last read that is known to be logged
  pub reads : List ReadRecord  -- those that aren't known to be logged
  pub read : ℕ  -- the bytes of all reads
  pub count : ℕ  -- how many reads there are
  pub ended : Bool  -- whether a read of length 0 was made
  pub shut : Bool  -- whether the socket was closed

abbrev pub is_empty : List ℕ → Bool
is_empty bytes = length bytes == 0

-- the length of the next read
abbrev pub length_of_next : (rest readable : ℕ) → (at_end ended : Bool) → Option ℕ
length_of_next rest readable at_end ended =
    if nat_lt 0 rest then Some (min 2048 rest)
    else (if nat_lt 0 readable then Some (min 2048 readable)
    else (if at_end && not ended then Some 0 else None))

-- whether a read may be made
abbrev pub is_free_to_read : {S : Type 0} → (una : ℕ) → NorthState S → Bool
is_free_to_read una n = nat_le n.run.made (min n.last.made (una + buffer_size)) && nat_le n.run.made (longest_stream - 2 ^ 20) && nat_lt (length n.reads) 32

unfoldable pub next_length : {S : Type 0} → (una readable : ℕ) → (at_end : Bool) → NorthState S → Option ℕ
next_length una readable at_end n = if is_free_to_read una n then length_of_next (length n.rest) readable at_end n.ended else None

-- what is known of a next read of this length
pub record Allows {S : Type 0} (readable k : ℕ) (n : NorthState S) : Type 0 where
  pub most : k ≤ 2048
  pub room : n.run.made ≤ longest_stream - 2 ^ 20
  pub fewer : length n.reads < 32
  pub rest : 0 < length n.rest → k ≤ length n.rest
  pub socket : length n.rest ≡ 0 → k ≤ readable
  pub once : k ≡ 0 → n.ended ≡ false

-- the bytes of a read: those of the rest while any is left
abbrev pub chunk_of : {S : Type 0} → (unread : List ℕ) → ℕ → NorthState S → List ℕ
chunk_of unread k n = if nat_lt 0 (length n.rest) then take k n.rest else take k unread

abbrev pub record_of : {S : Type 0} → ℕ → NorthState S → RunState S → ReadRecord
record_of k n run = record { index = n.count; length = k; made = run.made; closed = run.closed }

abbrev pub noted : {S : Type 0} → ℕ → NorthState S → RunState S → NorthState S
noted k n run = record n {
  run = run;
  rest = drop k n.rest;
  reads = n.reads ++ record_of k n run ∷ [];
  read = n.read + k;
  count = n.count + 1;
  ended = n.ended || k == 0;
}

-- the wrapper after a read of this length ..
unfoldable pub read_on : {S : Type 0} → (S → List ℕ → Served S) → (unread : List ℕ) → ℕ → NorthState S → NorthState S
read_on after unread k n = noted k n (run_on after n.run (chunk_of unread k n))

-- .. and the socket. A read of the rest and the one of length 0 take no bytes from it
unfoldable pub socket_on : {S K : Type 0} → Reader K → ℕ → NorthState S → K → K
socket_on reader k n s = if nat_lt 0 (length n.rest) || k == 0 then s else reader.after_read s k

abbrev pub next_at : {S K : Type 0} → Reader K → (una : ℕ) → NorthState S → K → Option ℕ
next_at reader una n s = next_length una (length (reader.unread s)) (reader.has_end s && is_empty (reader.unread s)) n

-- exactly these reads are made, one after another, until none is due; `m` and `t` are wrapper and socket then
abbrev pub Reads : {S K : Type 0} → (S → List ℕ → Served S) → Reader K → (una : ℕ) → NorthState S → K → List ℕ → NorthState S → K → Type 0
Reads after reader una n s [] m t = (next_at reader una n s ≡ None) × (m ≡ n) × (t ≡ s)
Reads after reader una n s (k ∷ ks) m t = (next_at reader una n s ≡ Some k)
    × Reads after reader una (read_on after (reader.unread s) k n) (socket_on reader k n s) ks m t

abbrev pub lengths_of : List ReadRecord → List ℕ
lengths_of [] = []
lengths_of (read ∷ reads) = read.length ∷ lengths_of reads

-- a turn's reads while they are made: what completes them from here completes them from the start
pub record HasRead {S K : Type 0} (after : S → List ℕ
    → Served S) (r : Reader K) (una : ℕ) (start : NorthState S) (first : K) (news : List ReadRecord) (now : NorthState S) (socket : K) : Type 0 where
  pub proceeds : (ks : List ℕ) (end : NorthState S) (last : K) → Reads after r una now socket ks end last
      → Reads after r una start first (lengths_of news ++ ks) end last
  pub reads : now.reads ≡ start.reads ++ news

-- the output of reads that aren't known to be logged
abbrev pub unstable : {S : Type 0} → NorthState S → ℕ
unstable n = n.run.made - n.last.made

-- output is given, except the unstable, as much as there is room for
abbrev pub given_north : {S K : Type 0} → Writer K → NorthState S → K → NorthState S
given_north w n s = record n { run = given_to (w.room s) (unstable n) n.run }

abbrev pub given_socket : {S K : Type 0} → Writer K → NorthState S → K → K
given_socket w n s = w.after_write s (gives (w.room s) (unstable n) n.run)

-- the socket is closed where the read that closed the service is known to be logged and all output is given
abbrev pub closes : {S : Type 0} → NorthState S → Bool
closes n = not n.shut && n.last.closed && length n.run.pending == 0

abbrev pub shut_north : {S : Type 0} → NorthState S → NorthState S
shut_north n = record n { shut = n.shut || closes n }

abbrev pub shut_socket : {S K : Type 0} → Writer K → NorthState S → K → K
shut_socket w n s = if closes n then w.after_close s else s

-- a turn: output is given, the socket is closed or not, and the reads that are due are made
pub record Turns {S K : Type 0} (after : S → List ℕ
    → Served S) (r : Reader K) (w : Writer K) (una : ℕ) (old : NorthState S) (socket : K) (news : List ReadRecord) (new : NorthState S)
    (last : K) : Type 0 where
  pub reads : Reads after r una (shut_north (given_north w old socket)) (shut_socket w (given_north w old socket) (given_socket w old socket))
      (lengths_of news) new last
  pub reported : new.reads ≡ old.reads ++ news

-- how many reads are known to be logged
abbrev pub answered : {S : Type 0} → NorthState S → ℕ
answered n = n.count - length n.reads

abbrev pub newly : {S : Type 0} → ℕ → NorthState S → ℕ
newly count n = min (count - answered n) (length n.reads)

-- the logger has answered that it has this many reads
unfoldable pub answered_on : {S : Type 0} → ℕ → NorthState S → NorthState S
answered_on count n = record n { last = get_or (n.last ∷ n.reads) (newly count n) n.last; reads = drop (newly count n) n.reads }

-- a resumed wrapper: all its output so far is that of answered reads
abbrev pub resumed_north : {S : Type 0} → S → (rest pending : List ℕ) → (reads read made : ℕ) → (ended closed : Bool) → NorthState S
resumed_north service rest pending reads read made ended closed = record {
  run = record { service = service; pending = pending; made = made; closed = closed };
  rest = rest;
  last = record { index = 0; length = 0; made = made; closed = closed };
  reads = [];
  read = read;
  count = reads;
  ended = ended;
  shut = false;
}

abbrev pub fresh_north : {S : Type 0} → S → (greeting : List ℕ) → NorthState S
fresh_north service greeting = resumed_north service [] greeting 0 0 (length greeting) false false
