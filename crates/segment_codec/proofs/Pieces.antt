-- A packet written piece by piece is the one string of its pieces.
use Rattle.std.proofs.Common.{◌≡◌, ℕ, ◌<◌, ◌≤◌, ◌+◌, ◌*◌, ◌/◌, ◌%◌, List, [], ◌∷◌, ◌++◌, length, length-append, length-take-le, take, drop, ap, refl, sym, subst, arith, append_assoc, append-nil, add-zero, ◌∙◌}
use Rattle.std.proofs.lemmas.List.{take-append-drop, drop-drop, take_at, drop_at}
use Rattle.std.proofs.Math.Seq.{take-append_seam, drop-append-add}
use Rattle.std.specs.Prelude.{Some}
use Rattle.seq_arith.proofs.Spelling.{size}
use Rattle.seq_arith.specs.Bytes.{two, four}
use Rattle.seq_arith.specs.Packet.{Head, Segment}
use Rattle.seq_arith.specs.declared.options.Timestamps.{Timestamps}
use Rattle.seq_arith.specs.PacketGrammar.{mss_option, timestamps_option, options_of, packet_length, spelled, spelling, tcp_text}
use Rattle.segment_codec.specs.Change.{put, sealed}
use Rattle.segment_codec.specs.Spelling.{ip_start, places, numbers, with_checksums}
use Rattle.segment_codec.proofs.Cells.{front, front_is}

by_cells : (n : ℕ) (P : List ℕ → Type 0) (bytes : List ℕ) → n ≤ length bytes → P (front n bytes) → P bytes
by_cells n P bytes long holds = subst P (front_is n bytes long) holds

pub start_put : (out : List ℕ) (len : ℕ) → 40 ≤ length out
    → put 8 (four 1074135040) (put 4 (four 16384) (put 2 (two len) (put 0 (two 17664) out))) ≡ put 0 (ip_start len) out
unfolding put two four ip_start
start_put out len long =
    by_cells 40 (λ b. put 8 (four 1074135040) (put 4 (four 16384) (put 2 (two len) (put 0 (two 17664) b))) ≡ put 0 (ip_start len) b) out long refl

pub places_put : (out : List ℕ) (head : Head) → 40 ≤ length out
    → put 22 (two head.dport) (put 20 (two head.sport) (put 16 (four head.dst) (put 12 (four head.src) out))) ≡ put 12 (places head) out
unfolding put two four places
places_put out head long =
    by_cells 40 (λ b. put 22 (two head.dport) (put 20 (two head.sport) (put 16 (four head.dst) (put 12 (four head.src) b))) ≡ put 12 (places head) b) out long refl

pub options_put : (out : List ℕ) (mss : ℕ) → 44 ≤ length out → put 42 (two mss) (put 40 (two 516) out) ≡ put 40 (mss_option (Some mss)) out
unfolding put two
options_put out mss long = by_cells 44 (λ b. put 42 (two mss) (put 40 (two 516) b) ≡ put 40 (2 ∷ 4 ∷ two mss) b) out long refl

pub nothing_put : (at : ℕ) (out : List ℕ) → put at [] out ≡ out
unfolding put
nothing_put at out = rw (append-nil (take at out), add-zero at) (take-append-drop at out)

-- the byte of the header's length and the byte of flags
pub control_word : (words flags : ℕ) → words ≤ 9 → flags < 256 → two (words * 4096 + flags) ≡ 16 * words ∷ flags ∷ []
unfolding two
control_word words flags few small =
    let high : (words * 4096 + flags) / 256 % 256 ≡ 16 * words = omega arith
    in let low : (words * 4096 + flags) % 256 ≡ flags = omega arith
    in cc (high, low)

pub numbers_put : (out : List ℕ) (head : Head) (words : ℕ) → 40 ≤ length out → words ≡ 5 + length (options_of head) / 4 → words ≤ 9 → head.flags < 256
    → put 36 (four 0) (put 34 (two head.window) (put 32 (two (words * 4096 + head.flags)) (put 28 (four head.ack) (put 24 (four head.seq) out)))) ≡ put 24 (numbers head) out
unfolding put two four numbers
numbers_put out head words long is few small =
    ap (λ control. put 36 (four 0) (put 34 (two head.window) (put 32 control (put 28 (four head.ack) (put 24 (four head.seq) out))))) (control_word words head.flags few small)
    ∙ ap (λ n. put 36 (four 0) (put 34 (two head.window) (put 32 (16 * n ∷ head.flags ∷ []) (put 28 (four head.ack) (put 24 (four head.seq) out))))) is
    ∙ by_cells 40 (λ b. put 36 (four 0) (put 34 (two head.window) (put 32 (16 * (5 + length (options_of head) / 4) ∷ head.flags ∷ []) (put 28 (four head.ack) (put 24 (four head.seq) b))))
    ≡ put 24 (numbers head) b) out long refl

-- two strings put one after the other are one
put_put : (at next : ℕ) (a b out : List ℕ) → next ≡ at + length a → next + length b ≤ length out → put next b (put at a out) ≡ put at (a ++ b) out
unfolding put
put_put at next a b out is within =
    let head : length (take at out ++ a) ≡ next =
    simp (length-append, length-take-le at out (omega arith)) (sym is)
    in let front : take next (take at out ++ a ++ drop (at + length a) out) ≡ take at out ++ a =
    ap (λ n. take n (take at out ++ a ++ drop (at + length a) out)) (sym head) ∙ take-append_seam (take at out ++ a) (drop (at + length a) out)
    in let count : at + length a + length b ≡ at + length (a ++ b) = omega (arith, length-append a b)
    in let rest : drop (next + length b) (take at out ++ a ++ drop (at + length a) out) ≡ drop (at + length (a ++ b)) out =
    ap (λ n. drop (n + length b) (take at out ++ a ++ drop (at + length a) out)) (sym head)
    ∙ drop-append-add (take at out ++ a) (drop (at + length a) out) (length b)
    ∙ drop-drop (length b) (at + length a) out ∙ ap (λ n. drop n out) count
    in ap (λ xs. xs ++ b ++ drop (next + length b) (put at a out)) front ∙ ap (λ xs. take at out ++ a ++ b ++ xs) rest
    ∙ ap (λ xs. xs ++ drop (at + length (a ++ b)) out) (append_assoc (take at out) a b)

-- the three words of the timestamps
pub timestamps_put : (at : ℕ) (out : List ℕ) (t : Timestamps) → at + 12 ≤ length out
    → put (at + 8) (four t.echo) (put (at + 4) (four t.value) (put at (four 16844810) out)) ≡ put at (timestamps_option (Some t)) out
unfolding four
timestamps_put at out t long =
    let first : put (at + 4) (four t.value) (put at (four 16844810) out) ≡ put at (four 16844810 ++ four t.value) out =
    put_put at (at + 4) (four 16844810) (four t.value) out refl (omega arith)
    in ap (put (at + 8) (four t.echo)) first
    ∙ put_put at (at + 8) (four 16844810 ++ four t.value) (four t.echo) out refl (omega arith)

-- both options, one after the other
pub both_put : (head : Head) (at : ℕ) (out once twice : List ℕ) → at ≡ 40 + length (mss_option head.mss) → 40 + length (options_of head) ≤ length out
    → once ≡ put 40 (mss_option head.mss) out → twice ≡ put at (timestamps_option head.timestamps) once → twice ≡ put 40 (options_of head) out
both_put head at out once twice is long first second =
    second ∙ ap (put at (timestamps_option head.timestamps)) first
    ∙ put_put 40 at (mss_option head.mss) (timestamps_option head.timestamps) out is
    (omega (arith, is, long, length-append (mss_option head.mss) (timestamps_option head.timestamps)))

-- the headers in front of a payload make a packet with zero for its checksums
pub header_put : (segment : Segment) (out : List ℕ) → segment.payload ≡ drop (40 + length (options_of segment.head)) out → packet_length segment ≡ length out
    → put 40 (options_of segment.head) (put 24 (numbers segment.head) (put 12 (places segment.head) (put 0 (ip_start (packet_length segment)) out)))
    ≡ spelled segment 0 0
unfolding put spelled ip_start places numbers two four
header_put segment out stands size =
    let head : Head = segment.head
    in let opt : List ℕ = options_of head
    in let start : List ℕ = ip_start (packet_length segment)
    in let one : put 12 (places head) (put 0 start out) ≡ put 0 (start ++ places head) out = put_put 0 12 start (places head) out refl (omega arith)
    in let two' : put 24 (numbers head) (put 0 (start ++ places head) out) ≡ put 0 (start ++ places head ++ numbers head) out =
    put_put 0 24 (start ++ places head) (numbers head) out refl (omega arith)
    in let three : put 40 opt (put 0 (start ++ places head ++ numbers head) out) ≡ put 0 (start ++ places head ++ numbers head ++ opt) out =
    put_put 0 40 (start ++ places head ++ numbers head) opt out refl (omega arith)
    in let all : put 40 opt (put 24 (numbers head) (put 12 (places head) (put 0 start out))) ≡ put 0 (start ++ places head ++ numbers head ++ opt) out =
    cc (one, two', three)
    in let count : 0 + length (start ++ places head ++ numbers head ++ opt) ≡ 40 + length opt = omega arith
    in all ∙ ap (λ n. start ++ places head ++ numbers head ++ opt ++ drop n out) count ∙ ap (λ xs. start ++ places head ++ numbers head ++ opt ++ xs) (sym stands)

-- the two checksums of a blank packet make its spelling
checksums_spelled : (segment : Segment) → with_checksums (spelled segment 0 0) ≡ spelling segment
unfolding with_checksums sealed put two four spelling spelled tcp_text
checksums_spelled segment = refl

-- what stands where the headers were written and sealed
pub headed : (segment : Segment) (whole packet : List ℕ) → whole ≡ spelled segment 0 0 → packet ≡ with_checksums whole → packet ≡ spelling segment
headed segment whole packet whole_is packet_is = packet_is ∙ ap with_checksums whole_is ∙ checksums_spelled segment

-- a payload that was put in its place, and what comes after it
pub payload_put : (start : ℕ) (payload out : List ℕ) → start + length payload ≤ length out → drop start (take (start + length payload) (put start payload out)) ≡ payload
unfolding put
payload_put start payload out within =
    let size : length (take start out) ≡ start = length-take-le start out (omega arith)
    in let both : length (take start out ++ payload) ≡ start + length payload = omega (arith, length-append (take start out) payload, size)
    in ap (drop start) (take_at (take start out ++ payload) (drop (start + length payload) out) (start + length payload) both)
    ∙ drop_at (take start out) payload start size

pub behind_put : (start : ℕ) (payload out : List ℕ) → start + length payload ≤ length out → drop (start + length payload) (put start payload out) ≡ drop (start + length payload) out
unfolding put
behind_put start payload out within =
    let both : length (take start out ++ payload) ≡ start + length payload = omega (arith, length-append (take start out) payload, length-take-le start out (omega arith))
    in drop_at (take start out ++ payload) (drop (start + length payload) out) (start + length payload) both

-- a packet at the front of a string
pub front_written : (segment : Segment) (packet rest : List ℕ) (len : ℕ) → len ≡ packet_length segment → packet ≡ spelling segment → take len (packet ++ rest) ≡ spelling segment
front_written segment packet rest len is packet_is =
    take_at packet rest len (ap length packet_is ∙ size segment ∙ sym is) ∙ packet_is
