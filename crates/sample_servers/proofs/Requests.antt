-- How Transfer's requests come out of bytes in parts.
use Rattle.std.proofs.Common.{◌≡◌, ℕ, ◌+◌, ◌<◌, ◌≤◌, get_or, drop, false, List, [], ◌∷◌, ◌++◌, length, refl, sym, ◌∙◌, ap, append_assoc, append-nil, arith}
use Rattle.std.proofs.lemmas.List.{drop_more, drop_all}
use Rattle.sample_servers.specs.Stream.{waiting, written, and_then}
use Rattle.sample_servers.specs.Transfer.{held_bytes, request_of, holding, request_served, requests_served, bytes_served}
use Rattle.sample_servers.specs.declared.transfer.Held.{Held}
use Rattle.sample_servers.specs.declared.transfer.Held.TheVariants.{Nothing, One, Two, Three}
use Rattle.sample_servers.specs.Transfer.{TransferState}
use Rattle.sample_servers.proofs.Streams.{and_then_assoc, and_then_same}

-- requests in two parts of the bytes
pub requests_served-append : (place : ℕ) (xs ys : List ℕ) → requests_served place (xs ++ ys) ≡ and_then (requests_served place xs) (λ next. requests_served next.place (held_bytes next.held ++ ys))
requests_served-append place [] ys = refl
requests_served-append place (a ∷ []) ys = refl
requests_served-append place (a ∷ b ∷ []) ys = refl
requests_served-append place (a ∷ b ∷ c ∷ []) ys = refl
requests_served-append place (a ∷ b ∷ c ∷ d ∷ xs) ys =
    let t = request_served place (request_of a b c d) in
    let front = λ (next : TransferState). requests_served next.place xs in
    let back = λ (next : TransferState). requests_served next.place (held_bytes next.held ++ ys) in
    and_then_same t.next t.output t.closed (λ next. requests_served next.place (xs ++ ys)) (λ next. and_then (front next) back) (λ next. requests_served-append next.place xs ys)
    ∙ sym (and_then_assoc t.next t.output t.closed front back)

pub bytes_served-append : (s : TransferState) (xs ys : List ℕ) → bytes_served s (xs ++ ys) ≡ and_then (bytes_served s xs) (λ next. bytes_served next ys)
unfolding bytes_served
bytes_served-append s xs ys =
    ap (λ bytes. requests_served s.place bytes) (sym (append_assoc (held_bytes s.held) xs ys))
    ∙ requests_served-append s.place (held_bytes s.held ++ xs) ys

-- without bytes nothing comes
pub bytes_served-nil : (place : ℕ) (held : Held) → bytes_served (record { place = place; held = held }) [] ≡ waiting (record { place = place; held = held })
unfolding bytes_served
bytes_served-nil place Nothing = refl
bytes_served-nil place (One a) = refl
bytes_served-nil place (Two a b) = refl
bytes_served-nil place (Three a b c) = refl

-- a request and no byte more
pub request_alone : (place request : ℕ) → and_then (request_served place request) (λ next. holding next.place Nothing) ≡ request_served place request
unfolding request_served
request_alone place request = grind (arith, append-nil {A = ℕ})

-- one byte of some, and then those after it
pub bytes_served_at : (s : TransferState) (bytes : List ℕ) (i : ℕ) → i < length bytes → bytes_served s (drop i bytes) ≡ and_then (bytes_served s (get_or bytes i 0 ∷ [])) (λ next. bytes_served next (drop (i + 1) bytes))
bytes_served_at s bytes i below =
    ap (bytes_served s) (drop_more bytes i 0 below) ∙ bytes_served-append s (get_or bytes i 0 ∷ []) (drop (i + 1) bytes)

-- after the last byte nothing more is written
pub bytes_served_end : (before : List ℕ) (s : TransferState) (bytes : List ℕ) (i : ℕ) → length bytes ≤ i → written before (bytes_served s (drop i bytes)) ≡ record { next = s; output = before; closed = false }
bytes_served_end before s bytes i end = rw (drop_all i bytes end, bytes_served-nil s.place s.held) (rw append-nil refl)
