-- Whole runs of each service.
use Rattle.std.proofs.Common.{◌≡◌, ℕ, suc, ◌+◌, ◌%◌, ◌==◌, Bool, true, false, List, [], ◌∷◌, ◌++◌, refl, sym, ◌∙◌, ap, arith, append-nil}
use Rattle.std.specs.Prelude.{not}
use Rattle.std.specs.List.{before_first, prefix_len}
use Rattle.std.proofs.lemmas.List.Sums.{sum_by-cons}
use Rattle.server_trait.specs.Service.{Served, fold}
use Rattle.sample_servers.specs.Stream.{and_then, each_byte}
use Rattle.sample_servers.specs.Cuts.{joined, NoneEmpty, chunks_of}
use Rattle.sample_servers.specs.Echo.{echo_machine}
use Rattle.sample_servers.specs.Line.{line_byte, line_machine}
use Rattle.sample_servers.specs.Transfer.{pattern, size_of, request_of, request_served, requests_served, bytes_served, transfer_machine, requests, total_size}
use Rattle.sample_servers.specs.declared.echo.Echo.{Echo}
use Rattle.sample_servers.specs.Transfer.{TransferState}
use Rattle.sample_servers.specs.declared.transfer.Held.TheVariants.{Nothing}
use Rattle.sample_servers.proofs.Patterns.{pattern_none, pattern-append, pattern_round}
use Rattle.sample_servers.proofs.Streams.{each_byte-append}
use Rattle.sample_servers.proofs.Requests.{bytes_served-append, bytes_served-nil}
use Rattle.sample_servers.proofs.Cuts.{IsStream, run_of, fold_joined, length_test}

abbrev pub echoed : Echo → List ℕ → Served Echo
echoed echo bytes = record { next = echo; output = bytes; closed = false }

pub echo_is_stream : IsStream echo_machine echoed
echo_is_stream = record {
  chunk = λ s bytes some. rw (length_test bytes some) refl;
  none = λ s. refl;
  parts = λ s xs ys. refl;
}

pub line_is_stream : IsStream line_machine (each_byte line_byte)
line_is_stream = record {
  chunk = λ s bytes some. rw (length_test bytes some) refl;
  none = λ s. refl;
  parts = each_byte-append line_byte;
}

pub transfer_is_stream : IsStream transfer_machine bytes_served
transfer_is_stream = record {
  chunk = λ s bytes some. rw (length_test bytes some) refl;
  none = λ s. bytes_served-nil s.place s.held;
  parts = bytes_served-append;
}

pub echo_whole : (chunks : List (List ℕ)) (ended : Bool) → NoneEmpty chunks → (fold echo_machine (chunks_of chunks ended)).output ≡ joined chunks
echo_whole chunks true some = ap (λ run. run.output) (fold_joined echo_machine echoed echo_is_stream chunks true some) ∙ append-nil (joined chunks)
echo_whole chunks false some = ap (λ run. run.output) (fold_joined echo_machine echoed echo_is_stream chunks false some)

pub echo_closes : (chunks : List (List ℕ)) (ended : Bool) → NoneEmpty chunks → (fold echo_machine (chunks_of chunks ended)).closed ≡ ended
echo_closes chunks true some = ap (λ run. run.closed) (fold_joined echo_machine echoed echo_is_stream chunks true some)
echo_closes chunks false some = ap (λ run. run.closed) (fold_joined echo_machine echoed echo_is_stream chunks false some)

-- the empty chunk adds nothing to what Transfer writes
pub transfer_run : (bytes : List ℕ) (ended : Bool) → (run_of transfer_machine bytes_served bytes ended).output ≡ (requests_served 0 bytes).output
unfolding bytes_served
transfer_run bytes ended = grind (arith, append-nil {A = ℕ})

-- a request 0 ends what is given, and another is given its size
pub total_size_zero : (a b c d : ℕ) (bytes : List ℕ) → (request_of a b c d == 0) ≡ true → total_size (a ∷ b ∷ c ∷ d ∷ bytes) ≡ 0
total_size_zero a b c d bytes is = rw is refl

pub total_size_more : (a b c d : ℕ) (bytes : List ℕ) → (request_of a b c d == 0) ≡ false → total_size (a ∷ b ∷ c ∷ d ∷ bytes) ≡ size_of (request_of a b c d) + total_size bytes
total_size_more a b c d bytes is =
    let first : 1 + prefix_len (λ request. not (request == 0)) (requests bytes) ≡ suc (prefix_len (λ request. not (request == 0)) (requests bytes)) = omega arith in
    rw (is, first) (sum_by-cons size_of (request_of a b c d) (before_first (λ request. request == 0) (requests bytes)))

pub request_served_zero : (place request : ℕ) → (request == 0) ≡ true → request_served place request ≡ record { next = record { place = place; held = Nothing }; output = []; closed = true }
unfolding request_served
request_served_zero place request is = rw is refl

pub request_served_more : (place request : ℕ) → (request == 0) ≡ false → request_served place request ≡ record { next = record { place = (place + size_of request) % 251; held = Nothing }; output = pattern place (size_of request); closed = false }
unfolding request_served
request_served_more place request is = rw is refl

-- one request and those after it
pub requests_served_split : (place a b c d : ℕ) (bytes : List ℕ) (zero : Bool) → (request_of a b c d == 0) ≡ zero → (requests_served ((place + size_of (request_of a b c d)) % 251) bytes).output ≡ pattern ((place + size_of (request_of a b c d)) % 251) (total_size bytes) → (requests_served place (a ∷ b ∷ c ∷ d ∷ bytes)).output ≡ pattern place (total_size (a ∷ b ∷ c ∷ d ∷ bytes))
requests_served_split place a b c d bytes true is behind =
    ap (λ served. (and_then served (λ (next : TransferState). requests_served next.place bytes)).output) (request_served_zero place (request_of a b c d) is)
    ∙ sym (pattern_none place)
    ∙ ap (pattern place) (sym (total_size_zero a b c d bytes is))
requests_served_split place a b c d bytes false is behind =
    let size = size_of (request_of a b c d) in
    ap (λ served. (and_then served (λ (next : TransferState). requests_served next.place bytes)).output) (request_served_more place (request_of a b c d) is)
    ∙ ap (λ rest. pattern place size ++ rest) (behind ∙ pattern_round (place + size) (total_size bytes))
    ∙ pattern-append place size (total_size bytes)
    ∙ ap (pattern place) (sym (total_size_more a b c d bytes is))

pub requests_served_output : (place : ℕ) (bytes : List ℕ) → (requests_served place bytes).output ≡ pattern place (total_size bytes)
unfolding pattern
requests_served_output place [] = refl
requests_served_output place (a ∷ []) = refl
requests_served_output place (a ∷ b ∷ []) = refl
requests_served_output place (a ∷ b ∷ c ∷ []) = refl
requests_served_output place (a ∷ b ∷ c ∷ d ∷ bytes) =
    requests_served_split place a b c d bytes (request_of a b c d == 0) refl (requests_served_output ((place + size_of (request_of a b c d)) % 251) bytes)

pub transfer_whole : (chunks : List (List ℕ)) (ended : Bool) → NoneEmpty chunks → (fold transfer_machine (chunks_of chunks ended)).output ≡ pattern 0 (total_size (joined chunks))
transfer_whole chunks ended some =
    ap (λ run. run.output) (fold_joined transfer_machine bytes_served transfer_is_stream chunks ended some)
    ∙ transfer_run (joined chunks) ended
    ∙ requests_served_output 0 (joined chunks)
