-- Transfer: the input is requests of four bytes, each a number, big-endian. A request gives as many bytes as it says, at most 2,047,
-- of the pattern whose byte i, over the whole output, is i modulo 251. Request 0 closes.
use Rattle.std.specs.Prelude.{sum_by, ℕ, zero, suc, true, false, List, [], ◌∷◌, ◌++◌, ◌+◌, ◌*◌, ◌%◌, min, length, nat_lt, ◌==◌, Option, Some, None}
use Rattle.std.specs.Prelude.{if◌then◌else◌}
use Rattle.std.specs.List.{before_first}
use Rattle.std.specs.Option.{option_map}
use Rattle.server_trait.specs.Service.{Served, Machine, silent}
use Rattle.sample_servers.specs.Stream.{waiting, and_then}
use Rattle.sample_servers.specs.declared.transfer.Held.{Held}
use Rattle.sample_servers.specs.declared.transfer.Held.TheVariants.{Nothing, One, Two, Three}

-- how many bytes are written, modulo 251, and the bytes of an incomplete request
pub record TransferState : Type 0 where
  pub place : ℕ
  pub held : Held

-- nothing is written or read yet
abbrev pub transfer_started : TransferState
transfer_started = record { place = 0; held = Nothing }

-- the bytes of an incomplete request: at most three
abbrev pub held_bytes : Held → List ℕ
held_bytes Nothing = []
held_bytes (One a) = a ∷ []
held_bytes (Two a b) = a ∷ b ∷ []
held_bytes (Three a b c) = a ∷ b ∷ c ∷ []

-- the number that four bytes spell, big-endian
abbrev pub request_of : ℕ → ℕ → ℕ → ℕ → ℕ
request_of a b c d = ((a * 256 + b) * 256 + c) * 256 + d

-- how many bytes answer a request
abbrev pub size_of : ℕ → ℕ
size_of request = min request 2047

-- `size` bytes of the pattern, from this place on
unfoldable pub pattern : ℕ → ℕ → List ℕ
pattern place zero = []
pattern place (suc size) = place % 251 ∷ pattern (place + 1) size

-- the service continues from this place, with these bytes of an incomplete request
abbrev pub holding : ℕ → Held → Served TransferState
holding place held = waiting (record { place = place; held = held })

-- what one request does: 0 closes, and any other gets its bytes of the pattern
unfoldable pub request_served : ℕ → ℕ → Served TransferState
request_served place request =
    if request == 0
    then record { next = record { place = place; held = Nothing }; output = []; closed = true }
    else record {
      next = record { place = (place + size_of request) % 251; held = Nothing };
      output = pattern place (size_of request);
      closed = false;
    }

-- what bytes do from a place of the pattern on: request after request, and an incomplete one waits for its other bytes
abbrev pub requests_served : ℕ → List ℕ → Served TransferState
requests_served place [] = holding place Nothing
requests_served place (a ∷ []) = holding place (One a)
requests_served place (a ∷ b ∷ []) = holding place (Two a b)
requests_served place (a ∷ b ∷ c ∷ []) = holding place (Three a b c)
requests_served place (a ∷ b ∷ c ∷ d ∷ bytes) =
    and_then (request_served place (request_of a b c d)) (λ next. requests_served next.place bytes)

-- what bytes do after those of an incomplete request
unfoldable pub bytes_served : TransferState → List ℕ → Served TransferState
bytes_served transfer bytes = requests_served transfer.place (held_bytes transfer.held ++ bytes)

-- what a chunk does. An empty one is the end of input, which closes. An incomplete request is ignored there
abbrev pub transfer_after : TransferState → List ℕ → Served TransferState
transfer_after transfer chunk =
    if length chunk == 0
    then record { next = transfer; output = []; closed = true }
    else bytes_served transfer chunk

-- the service as runs see it
abbrev pub transfer_machine : Machine TransferState
transfer_machine = silent transfer_started transfer_after

-- its saved form: how many bytes are written, modulo 251, in one byte, and then the bytes of an incomplete request
abbrev pub transfer_form : TransferState → List ℕ
transfer_form state = state.place ∷ held_bytes state.held

-- these bytes as an incomplete request, if they are fewer than four
abbrev pub held_of : List ℕ → Option Held
held_of [] = Some Nothing
held_of (a ∷ []) = Some (One a)
held_of (a ∷ b ∷ []) = Some (Two a b)
held_of (a ∷ b ∷ c ∷ []) = Some (Three a b c)
held_of _ = None

-- the state whose form these bytes are
abbrev pub transfer_state_of : List ℕ → Option TransferState
transfer_state_of [] = None
transfer_state_of (place ∷ bytes) =
    if nat_lt place 251 then option_map (λ held. record { place = place; held = held }) (held_of bytes) else None

-- the requests that these bytes spell, without an incomplete one
abbrev pub requests : List ℕ → List ℕ
requests [] = []
requests (a ∷ []) = []
requests (a ∷ b ∷ []) = []
requests (a ∷ b ∷ c ∷ []) = []
requests (a ∷ b ∷ c ∷ d ∷ bytes) = request_of a b c d ∷ requests bytes

-- how many bytes answer them in all: each its own, up to the first request 0
abbrev pub total_size : List ℕ → ℕ
total_size bytes = sum_by size_of (before_first (λ request. request == 0) (requests bytes))
