-- Packets as pieces of one string: what a packet that is put after them changes, and where each of them stands.
use Rattle.std.proofs.Common.{◌≡◌, ℕ, ◌<◌, ◌≤◌, ◌+◌, ◌-◌, List, [], ◌∷◌, ◌++◌, length, take, drop, refl, sym, ap, arith, ◌∙◌, length-append, length-drop, suc, zero}
use Rattle.std.specs.Prelude.{Some, slice_get, slice_index, slice_set}
use Rattle.std.proofs.lemmas.List.{take_at, drop_at, drop_all, take_all, take-append-le, drop-append-le, take-append-drop, drop-take, drop-drop, take-take, length-take-le}
use Rattle.std.specs.List.{refill}
use Rattle.tcp_endpoint.specs.Packets.{byte_count, pieces, joined, recut, with_bytes_at, ClimbsTo}

pub length_pieces : (start : ℕ) (ends bytes : List ℕ) → length (pieces start ends bytes) ≡ length ends
length_pieces start [] bytes = refl
length_pieces start (end ∷ ends) bytes = omega (arith, length_pieces end ends bytes)

climbs_over : (start : ℕ) (ends : List ℕ) (end : ℕ) → ClimbsTo start ends end → start ≤ end
climbs_over start [] end h = omega arith
climbs_over start (place ∷ places) end h = omega (arith, climbs_over place places end h.1)

-- the first piece lies within the string
fits_first : (start end : ℕ) (bytes : List ℕ) → start ≤ end → end ≤ length bytes → end - start ≤ length (drop start bytes)
fits_first start end bytes up within = omega (arith, length-drop start bytes)

pub byte_count_pieces : (start : ℕ) (ends bytes : List ℕ) → ClimbsTo start ends (length bytes) → byte_count (pieces start ends bytes) + start ≡ length bytes
byte_count_pieces start [] bytes h = omega arith
byte_count_pieces start (end ∷ ends) bytes h =
    let within : end ≤ length bytes = climbs_over end ends (length bytes) h.1
    in omega (arith, byte_count_pieces end ends bytes h.1, length-take-le (end - start) (drop start bytes) (fits_first start end bytes h.0 within))

pub climbs_push : (start : ℕ) (ends : List ℕ) (end next : ℕ) → ClimbsTo start ends end → end ≤ next → ClimbsTo start (ends ++ next ∷ []) next
climbs_push start [] end next h up = (omega arith, refl)
climbs_push start (place ∷ places) end next h up = (h.0, climbs_push place places end next h.1 up)

first_behind : (start : ℕ) (bytes packet : List ℕ) → start ≡ length bytes → take (length bytes + length packet - start) (drop start (bytes ++ packet)) ≡ packet
first_behind start bytes packet is =
    let n : length bytes + length packet - start ≡ length packet = omega arith
    in rw (n, drop_at bytes packet start (sym is)) (take_all (length packet) packet (omega arith))

first_kept : (start end : ℕ) (bytes packet : List ℕ) → start ≤ end → end ≤ length bytes → take (end - start) (drop start (bytes ++ packet)) ≡ take (end - start) (drop start bytes)
first_kept start end bytes packet up within =
    rw (drop-append-le start bytes packet (omega arith)) (take-append-le (end - start) (drop start bytes) packet (fits_first start end bytes up within))

pub pieces_push : (start : ℕ) (ends bytes packet : List ℕ) → ClimbsTo start ends (length bytes)
    → pieces start (ends ++ (length bytes + length packet) ∷ []) (bytes ++ packet) ≡ pieces start ends bytes ++ packet ∷ []
pieces_push start [] bytes packet h = ap (λ piece. piece ∷ []) (first_behind start bytes packet h)
pieces_push start (end ∷ ends) bytes packet h =
    let within : end ≤ length bytes = climbs_over end ends (length bytes) h.1
    in rw (first_kept start end bytes packet h.0 within, pieces_push end ends bytes packet h.1) refl

-- a packet that is appended, and its end noted, is one more piece
pub appended : (ends bytes packet ends' bytes' : List ℕ) (end : ℕ) → ClimbsTo 0 ends (length bytes) → bytes' ≡ bytes ++ packet → ends' ≡ ends ++ end ∷ [] → end ≡ length bytes'
    → pieces 0 ends' bytes' ≡ pieces 0 ends bytes ++ packet ∷ []
appended ends bytes packet ends' bytes' end h bytes_is ends_is is =
    let size : end ≡ length bytes + length packet = is ∙ ap length bytes_is ∙ length-append bytes packet
    in rw (ends_is, bytes_is, size) (pieces_push 0 ends bytes packet h)

pub appended_climbs : (ends bytes packet ends' bytes' : List ℕ) (end : ℕ) → ClimbsTo 0 ends (length bytes) → bytes' ≡ bytes ++ packet → ends' ≡ ends ++ end ∷ [] → end ≡ length bytes'
    → ClimbsTo 0 ends' (length bytes')
appended_climbs ends bytes packet ends' bytes' end h bytes_is ends_is is =
    let up : length bytes ≤ length bytes' = omega (arith, ap length bytes_is, length-append bytes packet)
    in rw (ends_is, is) (climbs_push 0 ends (length bytes) (length bytes') h up)

-- piece i begins where the one before it ends, and lies within the string
pub bounds_at : (start : ℕ) (ends : List ℕ) (end i : ℕ) → ClimbsTo start ends end → i < length ends
    → (slice_index (start ∷ ends) i ≤ slice_index ends i) × (slice_index ends i ≤ end)
bounds_at start [] end i h within = absurd (omega arith)
bounds_at start (place ∷ places) end zero h within = (h.0, climbs_over place places end h.1)
bounds_at start (place ∷ places) end (suc i) h within = bounds_at place places end i h.1 (omega arith)

pub piece_at : (start : ℕ) (ends bytes : List ℕ) (i : ℕ) → i < length ends
    → slice_get (pieces start ends bytes) i ≡ Some (take (slice_index ends i - slice_index (start ∷ ends) i) (drop (slice_index (start ∷ ends) i) bytes))
piece_at start [] bytes i within = absurd (omega arith)
piece_at start (place ∷ places) bytes zero within = refl
piece_at start (place ∷ places) bytes (suc i) within = piece_at place places bytes i (omega arith)

-- bytes written over a string from a place on
abbrev pub written : ℕ → List ℕ → List ℕ → List ℕ
written place new bytes = take place bytes ++ (new ++ drop (length new) (drop place bytes))

pub first_length : (start end : ℕ) (bytes : List ℕ) → start ≤ end → end ≤ length bytes → length (take (end - start) (drop start bytes)) ≡ end - start
first_length start end bytes up within = length-take-le (end - start) (drop start bytes) (fits_first start end bytes up within)

rest_behind : (start end : ℕ) (bytes : List ℕ) → start ≤ end → drop (end - start) (drop start bytes) ≡ drop end bytes
rest_behind start end bytes up = let sum : start + (end - start) ≡ end = omega arith in drop-drop (end - start) start bytes ∙ ap (λ n. drop n bytes) sum

joined_pieces : (start : ℕ) (ends bytes : List ℕ) → ClimbsTo start ends (length bytes) → joined (pieces start ends bytes) ≡ drop start bytes
joined_pieces start [] bytes h = sym (drop_all start bytes (omega arith))
joined_pieces start (end ∷ ends) bytes h =
    ap (λ xs. take (end - start) (drop start bytes) ++ xs) (joined_pieces end ends bytes h.1 ∙ sym (rest_behind start end bytes h.0))
    ∙ take-append-drop (end - start) (drop start bytes)

recut_pieces : (start : ℕ) (ends bytes new : List ℕ) → ClimbsTo start ends (length bytes) → recut (pieces start ends bytes) (drop start new) ≡ pieces start ends new
recut_pieces start [] bytes new h = refl
recut_pieces start (end ∷ ends) bytes new h =
    let size : length (take (end - start) (drop start bytes)) ≡ end - start = first_length start end bytes h.0 (climbs_over end ends (length bytes) h.1)
    in rw (size, rest_behind start end new h.0, recut_pieces end ends bytes new h.1) refl

place_is : (start : ℕ) (ends bytes : List ℕ) (i : ℕ) → ClimbsTo start ends (length bytes) → i < length ends
    → byte_count (take i (pieces start ends bytes)) + start ≡ slice_index (start ∷ ends) i
place_is start [] bytes i h within = absurd (omega arith)
place_is start (end ∷ ends) bytes zero h within = omega arith
place_is start (end ∷ ends) bytes (suc i) h within =
    omega (arith, place_is end ends bytes i h.1 (omega arith), first_length start end bytes h.0 (climbs_over end ends (length bytes) h.1))

-- what is written over a packet, by the string
pub lent_is : (ends bytes new : List ℕ) (n i : ℕ) → ClimbsTo 0 ends (length bytes) → i < length ends → n ≡ length bytes
    → pieces 0 ends (refill n bytes (written (slice_index (0 ∷ ends) i) new bytes)) ≡ with_bytes_at (pieces 0 ends bytes) i new
unfolding with_bytes_at
lent_is ends bytes new n i h within is =
    let all : joined (pieces 0 ends bytes) ≡ bytes = joined_pieces 0 ends bytes h in
    let place : byte_count (take i (pieces 0 ends bytes)) ≡ slice_index (0 ∷ ends) i = omega (arith, place_is 0 ends bytes i h within) in
    rw (all, place, is) (sym (recut_pieces 0 ends bytes (refill (length bytes) bytes (written (slice_index (0 ∷ ends) i) new bytes)) h))

-- pieces of strings that agree from where they begin
pieces_same : (start : ℕ) (ends xs ys : List ℕ) (end : ℕ) → ClimbsTo start ends end → drop start xs ≡ drop start ys → pieces start ends xs ≡ pieces start ends ys
pieces_same start [] xs ys end h same = refl
pieces_same start (place ∷ places) xs ys end h same =
    let rest : drop place xs ≡ drop place ys = sym (rest_behind start place xs h.0) ∙ ap (drop (place - start)) same ∙ rest_behind start place ys h.0
    in rw (same, pieces_same place places xs ys end h.1 rest) refl

written_front : (k place : ℕ) (new bytes : List ℕ) → k ≤ place → place ≤ length bytes → take k (written place new bytes) ≡ take k bytes
written_front k place new bytes up within =
    take-append-le k (take place bytes) (new ++ drop (length new) (drop place bytes)) (omega (arith, length-take-le place bytes within))
    ∙ take-take k place bytes up

written_at : (place : ℕ) (new bytes : List ℕ) → place ≤ length bytes → drop place (written place new bytes) ≡ new ++ drop (length new) (drop place bytes)
written_at place new bytes within = drop_at (take place bytes) (new ++ drop (length new) (drop place bytes)) place (length-take-le place bytes within)

-- a part that ends before the place
part_of_front : (start end : ℕ) (xs : List ℕ) → start ≤ end → take (end - start) (drop start xs) ≡ drop start (take end xs)
part_of_front start end xs up =
    let sum : start + (end - start) ≡ end = omega arith in sym (drop-take start (end - start) xs) ∙ ap (λ n. drop start (take n xs)) sum

first_before : (start end place : ℕ) (new bytes : List ℕ) → start ≤ end → end ≤ place → place ≤ length bytes
    → take (end - start) (drop start (written place new bytes)) ≡ take (end - start) (drop start bytes)
first_before start end place new bytes up before within =
    part_of_front start end (written place new bytes) up ∙ ap (drop start) (written_front end place new bytes before within)
    ∙ sym (part_of_front start end bytes up)

begins_after : (start : ℕ) (ends : List ℕ) (end i : ℕ) → ClimbsTo start ends end → i < length ends → start ≤ slice_index (start ∷ ends) i
begins_after start [] end i h within = absurd (omega arith)
begins_after start (place ∷ places) end zero h within = omega arith
begins_after start (place ∷ places) end (suc i) h within = omega (arith, h.0, begins_after place places end i h.1 (omega arith))

refilled : (n : ℕ) (bytes new : List ℕ) → length new ≡ n → refill n bytes new ≡ new
refilled n bytes new is = take_at new (drop (length new) bytes) n is

piece_set : (start : ℕ) (ends bytes new : List ℕ) (i : ℕ) → ClimbsTo start ends (length bytes) → i < length ends
    → length new ≡ slice_index ends i - slice_index (start ∷ ends) i
    → pieces start ends (written (slice_index (start ∷ ends) i) new bytes) ≡ slice_set (pieces start ends bytes) i new
piece_set start [] bytes new i h within size = absurd (omega arith)
piece_set start (end ∷ ends) bytes new zero h within size =
    let inside : end ≤ length bytes = climbs_over end ends (length bytes) h.1 in
    let start_in : start ≤ length bytes = omega arith in
    let whole : drop start (written start new bytes) ≡ new ++ drop (length new) (drop start bytes) = written_at start new bytes start_in in
    let rest : drop end (written start new bytes) ≡ drop end bytes =
    sym (rest_behind start end (written start new bytes) h.0) ∙ ap (drop (end - start)) whole
    ∙ drop_at new (drop (length new) (drop start bytes)) (end - start) size
    ∙ ap (λ n. drop n (drop start bytes)) size ∙ rest_behind start end bytes h.0
    in rw (whole, take_at new (drop (length new) (drop start bytes)) (end - start) size, pieces_same end ends (written start new bytes) bytes (length bytes) h.1 rest) refl
piece_set start (end ∷ ends) bytes new (suc i) h within size =
    let fits = bounds_at end ends (length bytes) i h.1 (omega arith) in
    let place_in : slice_index (end ∷ ends) i ≤ length bytes = omega (arith, fits.0, fits.1) in
    let after : end ≤ slice_index (end ∷ ends) i = begins_after end ends (length bytes) i h.1 (omega arith) in
    rw (first_before start end (slice_index (end ∷ ends) i) new bytes h.0 after place_in, piece_set end ends bytes new i h.1 (omega arith) size) refl

-- bytes of the packet's own length take its place
pub same_length_is : (ends bytes new : List ℕ) (i : ℕ) → ClimbsTo 0 ends (length bytes) → i < length ends
    → length new ≡ slice_index ends i - slice_index (0 ∷ ends) i → with_bytes_at (pieces 0 ends bytes) i new ≡ slice_set (pieces 0 ends bytes) i new
same_length_is ends bytes new i h within size =
    let place : ℕ = slice_index (0 ∷ ends) i in
    let fits = bounds_at 0 ends (length bytes) i h within in
    let whole : length (written place new bytes) ≡ length bytes =
    omega (arith, length-append (take place bytes) (new ++ drop (length new) (drop place bytes)), length-append new (drop (length new) (drop place bytes)), length-drop (length new) (drop place bytes), length-drop place bytes, length-take-le place bytes (omega (arith, fits.0, fits.1)), fits.0, fits.1)
    in sym (lent_is ends bytes new (length bytes) i h within refl)
    ∙ ap (pieces 0 ends) (refilled (length bytes) bytes (written place new bytes) whole)
    ∙ piece_set 0 ends bytes new i h within size
