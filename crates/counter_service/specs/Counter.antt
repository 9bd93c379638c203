-- Counter: the bytes of the input are counted, and each line feed is answered by the count. The empty chunk closes.
use Rattle.std.specs.Prelude.{ℕ, ◌+◌, ◌-◌, ◌^◌, min, List, [], ◌∷◌, ◌++◌, length, decimal, codes, ◌==◌, Option, Some, None, if◌then◌else◌}
use Rattle.std.specs.Int.{w64, to_be_bytes, from_be_bytes}
use Rattle.server_trait.specs.Service.{Served, Machine, silent}
use Rattle.counter_service.specs.declared.counter.Counter.{Counter}

-- nothing is counted yet
abbrev pub counter_started : Counter
counter_started = record { count = 0 }

-- the count after one more byte. It stays at 2^64 - 1
abbrev pub counted : ℕ → ℕ
counted count = min (count + 1) (2 ^ 64 - 1)

-- a line feed is answered by the count that includes it. Any other byte has no answer
abbrev pub answer : ℕ → ℕ → List ℕ
answer count byte = if byte == 10 then decimal count ++ codes "\n" else []

-- the count after these bytes
abbrev pub count_after : ℕ → List ℕ → ℕ
count_after count [] = count
count_after count (byte ∷ bytes) = count_after (counted count) bytes

-- the answers to these bytes
abbrev pub answers : ℕ → List ℕ → List ℕ
answers count [] = []
answers count (byte ∷ bytes) = answer (counted count) byte ++ answers (counted count) bytes

-- what a chunk does
abbrev pub counter_after : Counter → List ℕ → Served Counter
counter_after counter chunk =
    record { next = record { count = count_after counter.count chunk }; output = answers counter.count chunk; closed = length chunk == 0 }

-- the service as runs see it
abbrev pub counter_machine : Machine Counter
counter_machine = silent counter_started counter_after

-- its saved form: the count, in 8 bytes
abbrev pub counter_form : Counter → List ℕ
counter_form counter = to_be_bytes w64 counter.count

-- the counter whose form these bytes are
abbrev pub counter_of : List ℕ → Option Counter
counter_of bytes = if length bytes == 8 then Some (record { count = from_be_bytes w64 bytes }) else None
