-- The output of a chunk is short: proofs for the laws of the services.
use Rattle.std.proofs.Common.{◌≡◌, ℕ, zero, suc, ◌+◌, ◌*◌, ◌/◌, ◌^◌, ◌≤◌, ◌==◌, Bool, true, false, List, [], ◌∷◌, ◌++◌, length, min, refl, ap, arith}
use Rattle.std.proofs.Common.{length-append, length-take}
use Rattle.std.specs.Prelude.{decimal, if◌then◌else◌}
use Rattle.std.proofs.lemmas.Fmt.{length-decimal-le}
use Rattle.server_trait.specs.Service.{Served}
use Rattle.sample_servers.specs.Stream.{and_then, each_byte}
use Rattle.sample_servers.specs.Meter.{length_line}
use Rattle.sample_servers.specs.AnyService.{any_after}
use Rattle.sample_servers.specs.declared.any_service.AnyService.{AnyService}
use Rattle.sample_servers.specs.declared.any_service.AnyService.TheVariants.{Echo, Line, Transfer, Meter}
use Rattle.sample_servers.specs.Line.{LineState, number_after, numbered, line_finished, line_byte, line_end, line_after}
use Rattle.sample_servers.specs.Transfer.{held_bytes, request_of, pattern, request_served, requests_served, bytes_served, transfer_after}
use Rattle.sample_servers.specs.Transfer as transfer
use Rattle.sample_servers.specs.declared.transfer.Held.{Held}
use Rattle.sample_servers.specs.declared.transfer.Held.TheVariants.{Nothing, One, Two, Three}

-- a choice is no longer than either side
pub length-if-le : {S : Type 0} (b : Bool) (s t : Served S) (n : ℕ) → length s.output ≤ n → length t.output ≤ n → length (if b then s else t).output ≤ n
length-if-le true s t n left right = left
length-if-le false s t n left right = right

pub length-length_line-le : (chunk : List ℕ) → length chunk ≤ 2048 → length (length_line chunk) ≤ 5
length-length_line-le chunk short =
    let digits : length (decimal (length chunk)) ≤ 4 = length-decimal-le 4 (length chunk) (omega arith) (omega arith) (omega arith) in
    grind (arith, length-append {A = ℕ})

-- a step and what comes after it are no longer than both
pub length-and_then-le : {S : Type 0} (next : S) (output : List ℕ) (closed : Bool) (f : S → Served S) (n : ℕ) → length output + length (f next).output ≤ n
    → length (and_then (record { next = next; output = output; closed = closed }) f).output ≤ n
length-and_then-le next output true f n within = omega arith
length-and_then-le next output false f n within = rw length-append within

pub length-pattern : (place size : ℕ) → length (pattern place size) ≡ size
unfolding pattern
length-pattern place zero = refl
length-pattern place (suc size) = ap suc (length-pattern (place + 1) size)

-- a request is given 2,047 bytes at most
pub length-request_served-le : (place request : ℕ) → length (request_served place request).output ≤ 2047
unfolding request_served
length-request_served-le place request = grind (arith, length-pattern)

pub length-requests_served-le : (place : ℕ) (bytes : List ℕ) → length (requests_served place bytes).output ≤ 2047 * (length bytes / 4)
length-requests_served-le place [] = omega arith
length-requests_served-le place (a ∷ []) = omega arith
length-requests_served-le place (a ∷ b ∷ []) = omega arith
length-requests_served-le place (a ∷ b ∷ c ∷ []) = omega arith
length-requests_served-le place (a ∷ b ∷ c ∷ d ∷ bytes) =
    let t = request_served place (request_of a b c d) in
    let rest = λ (next : transfer.TransferState). requests_served next.place bytes in
    let first : length t.output ≤ 2047 = length-request_served-le place (request_of a b c d) in
    let later : length (rest t.next).output ≤ 2047 * (length bytes / 4) = length-requests_served-le t.next.place bytes in
    length-and_then-le t.next t.output t.closed rest (2047 * (length (a ∷ b ∷ c ∷ d ∷ bytes) / 4)) (omega arith)

pub length-held_bytes-le : (held : Held) → length (held_bytes held) ≤ 3
length-held_bytes-le Nothing = omega arith
length-held_bytes-le (One a) = omega arith
length-held_bytes-le (Two a b) = omega arith
length-held_bytes-le (Three a b c) = omega arith

pub length-bytes_served-le : (s : transfer.TransferState) (chunk : List ℕ) → length chunk ≤ 2048 → length (bytes_served s chunk).output ≤ 2 ^ 20
unfolding bytes_served
length-bytes_served-le s chunk short =
    let held = length-held_bytes-le s.held in
    let all : length (held_bytes s.held ++ chunk) ≡ length (held_bytes s.held) + length chunk = length-append (held_bytes s.held) chunk in
    let most = length-requests_served-le s.place (held_bytes s.held ++ chunk) in
    omega arith

pub length-transfer_after-le : (s : transfer.TransferState) (chunk : List ℕ) → length chunk ≤ 2048 → length (transfer_after s chunk).output ≤ 2 ^ 20
length-transfer_after-le s chunk short =
    length-if-le (length chunk == 0) (record {
      next = s;
      output = [];
      closed = true;
    }) (bytes_served s chunk) (2 ^ 20) (omega arith) (length-bytes_served-le s chunk short)

-- a line comes back with at most 22 more bytes around it
pub length-line_finished-le : (finished : ℕ) (line : List ℕ) → length (line_finished finished line).output ≤ min 1024 (length line) + 22
unfolding line_finished numbered
length-line_finished-le finished line =
    let digits : length (decimal (number_after finished)) ≤ 20 = length-decimal-le 20 (number_after finished) (omega arith) (omega arith) (omega arith) in
    grind (arith, length-append {A = ℕ}, length-take {A = ℕ})

-- after a finished line the next one has no bytes yet
pub held-line_finished : (finished : ℕ) (line : List ℕ) → (line_finished finished line).next.held ≡ []
unfolding line_finished
held-line_finished finished line = grind arith

-- one byte adds at most 23 bytes to the output and the unfinished line together
pub length-line_byte-le : (s : LineState) (byte : ℕ)
    → length (line_byte s byte).output + min 1024 (length (line_byte s byte).next.held) ≤ min 1024 (length s.held) + 23
length-line_byte-le s byte =
    let line = s.held ++ byte ∷ [] in
    let longer : length line ≡ length s.held + 1 = length-append s.held (byte ∷ []) in
    let ended = length-line_finished-le s.finished s.held in
    let ended_longer = length-line_finished-le s.finished line in
    grind (arith, held-line_finished)

pub length-each_byte-le : (s : LineState) (bytes : List ℕ) → length (each_byte line_byte s bytes).output ≤ min 1024 (length s.held) + 23 * length bytes
length-each_byte-le s [] = omega arith
length-each_byte-le s (x ∷ xs) =
    let t = line_byte s x in
    let rest = λ (next : LineState). each_byte line_byte next xs in
    let first = length-line_byte-le s x in
    let later : length (rest t.next).output ≤ min 1024 (length t.next.held) + 23 * length xs = length-each_byte-le t.next xs in
    length-and_then-le t.next t.output t.closed rest (min 1024 (length s.held) + 23 * length (x ∷ xs)) (omega arith)

pub length-line_end-le : (s : LineState) → length (line_end s).output ≤ 2 ^ 20
length-line_end-le s = let ended = length-line_finished-le s.finished s.held in grind arith

pub length-line_after-le : (s : LineState) (chunk : List ℕ) → length chunk ≤ 2048 → length (line_after s chunk).output ≤ 2 ^ 20
length-line_after-le s chunk short =
    let most = length-each_byte-le s chunk in
    length-if-le (length chunk == 0) (line_end s) (each_byte line_byte s chunk) (2 ^ 20) (length-line_end-le s) (omega arith)

-- the end of input closes
pub closed-line_after : (s : LineState) → (line_after s []).closed ≡ true
closed-line_after s = grind arith

pub closed-any_after : (s : AnyService) → (any_after s []).closed ≡ true
closed-any_after (Echo echo) = refl
closed-any_after (Line line) = closed-line_after line
closed-any_after (Transfer transfer) = refl
closed-any_after (Meter meter) = refl

pub length-any_after-le : (s : AnyService) (chunk : List ℕ) → length chunk ≤ 2048 → length (any_after s chunk).output ≤ 2 ^ 20
length-any_after-le (Echo echo) chunk short = omega arith
length-any_after-le (Line line) chunk short = length-line_after-le line chunk short
length-any_after-le (Transfer transfer) chunk short = length-transfer_after-le transfer chunk short
length-any_after-le (Meter meter) chunk short = omega (arith, length-length_line-le chunk short)
