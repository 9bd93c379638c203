-- Line: the input is split at line feeds, and each line comes back with its number. It is a fold over the bytes, so that a line may
-- be cut over any number of chunks.
use Rattle.std.specs.Prelude.{◌≡◌, ℕ, ◌<◌, ◌≤◌, drop, Bool, true, false, not, List, [], ◌∷◌, ◌++◌, ◌+◌, ◌-◌, ◌^◌, min, take, length, decimal, codes}
use Rattle.std.specs.Prelude.{bytes_eq, nat_lt, nat_le, ◌==◌, ◌&&◌, Option, Some, None, if◌then◌else◌}
use Rattle.std.specs.List.{All, list_any}
use Rattle.std.specs.Int.{w64, to_be_bytes, from_be_bytes}
use Rattle.server_trait.specs.Service.{Served, Machine, silent}
use Rattle.sample_servers.specs.Stream.{waiting, and_then, each_byte}
use Rattle.sample_servers.specs.declared.line.Piece.{Piece}
use Rattle.sample_servers.specs.declared.line.Piece.TheVariants.{Ends, Proceeds}

-- the number of finished lines, and the bytes of the unfinished one
pub record LineState : Type 0 where
  pub finished : ℕ
  pub held : List ℕ

-- no line yet
abbrev pub line_started : LineState
line_started = record { finished = 0; held = [] }

-- the number of the next line. At the maximum of 64 bits it stays
abbrev pub number_after : ℕ → ℕ
number_after finished = min (finished + 1) (2 ^ 64 - 1)

-- a line as it is written: its number, a space, its bytes, and a line feed. Its bytes are at most 1,024, even in a state that no run reaches
unfoldable pub numbered : ℕ → List ℕ → List ℕ
numbered number line = decimal number ++ codes " " ++ take 1024 line ++ codes "\n"

-- a line ends. `quit` is answered by `bye` and closes. Any other line comes back with its number
unfoldable pub line_finished : ℕ → List ℕ → Served LineState
line_finished finished line =
    if bytes_eq line (codes "quit")
    then record { next = record { finished = finished; held = [] }; output = codes "bye\n"; closed = true }
    else record {
      next = record { finished = number_after finished; held = [] };
      output = numbered (number_after finished) line;
      closed = false;
    }

-- a byte that is no line feed lengthens the line, which ends where it has 1,024 bytes
abbrev pub line_longer : ℕ → List ℕ → Served LineState
line_longer finished line =
    if nat_lt (length line) 1024 then waiting (record { finished = finished; held = line }) else line_finished finished line

-- what one byte does: a line feed ends the line, and another byte lengthens it
abbrev pub line_byte : LineState → ℕ → Served LineState
line_byte state byte =
    if byte == 10 then line_finished state.finished state.held else line_longer state.finished (state.held ++ byte ∷ [])

-- the end of input ends a line that isn't empty, and closes
abbrev pub line_end : LineState → Served LineState
line_end state =
    if length state.held == 0
    then record { next = state; output = []; closed = true }
    else record (line_finished state.finished state.held) { closed = true }

-- what a chunk does. An empty one is the end of input
abbrev pub line_after : LineState → List ℕ → Served LineState
line_after state chunk = if length chunk == 0 then line_end state else each_byte line_byte state chunk

-- the service as runs see it
abbrev pub line_machine : Machine LineState
line_machine = silent line_started line_after

-- its saved form: how many lines are finished, in 8 bytes, and then the bytes of the unfinished one
abbrev pub line_form : LineState → List ℕ
line_form state = to_be_bytes w64 state.finished ++ state.held

-- an unfinished line has fewer than 1,024 bytes, and no line feed among them
abbrev pub is_unfinished : List ℕ → Bool
is_unfinished line = nat_lt (length line) 1024 && not (list_any (λ byte. byte == 10) line)

-- the state whose form these bytes are. Any number of lines may be finished
abbrev pub line_state_of : List ℕ → Option LineState
line_state_of bytes =
    if nat_le 8 (length bytes) && is_unfinished (drop 8 bytes)
    then Some (record { finished = from_be_bytes w64 (take 8 bytes); held = drop 8 bytes })
    else None

-- no line feed is among the bytes
abbrev pub NoFeed : List ℕ → Type 0
NoFeed = All (λ byte. (byte == 10) ≡ false)

-- the unfinished line ends with `len` more bytes, which uses up `used` bytes
pub record EndsAt (state : LineState) (bytes : List ℕ) (len used : ℕ) : Type 0 where
  pub fits : length state.held + len ≤ 1024
  pub within : len ≤ used
  pub some : 0 < used
  pub enough : used ≤ length bytes
  pub served : each_byte line_byte state bytes
      ≡ and_then (line_finished state.finished (state.held ++ take len bytes)) (λ next. each_byte line_byte next (drop used bytes))

-- the unfinished line continues through all the bytes
pub record StaysOpen (state : LineState) (bytes : List ℕ) : Type 0 where
  pub fits : length state.held + length bytes < 1024
  pub no_feed : NoFeed bytes
  pub served : each_byte line_byte state bytes ≡ waiting (record { finished = state.finished; held = state.held ++ bytes })

-- where the unfinished line ends in the bytes that follow it
abbrev pub Splits : LineState → List ℕ → Piece → Type 0
Splits state bytes (Ends len used) = EndsAt state bytes len used
Splits state bytes Proceeds = StaysOpen state bytes
