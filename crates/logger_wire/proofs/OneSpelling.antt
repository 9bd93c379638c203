-- A header with its checksum and a body after it are the one spelling of a message, and it is read.
use Rattle.std.proofs.Common.{◌≡◌, ℕ, ◌≤◌, ◌+◌, ◌-◌, List, [], ◌∷◌, ◌++◌, length, length-append, length-drop, length-take-le, take, drop, ap, refl, sym, arith, append_assoc, zero-add, ◌∙◌}
use Rattle.std.specs.Prelude.{Ok}
use Rattle.std.proofs.lemmas.List.{drop-drop, drop-take, take-append-drop}
use Rattle.std.proofs.Math.Seq.{take-append_seam, take-append-add, take-add, drop-append_seam, drop-append-add}
use Rattle.seq_arith.specs.declared.kinds.Grammar.{Grammar}
use Rattle.seq_arith.specs.declared.kinds.Kind.{Kind}
use Rattle.seq_arith.specs.Bytes.{two}
use Rattle.seq_arith.specs.Checksum.{checksum}
use Rattle.seq_arith.specs.Message.{Body, Message}
use Rattle.seq_arith.specs.Message.{Body as bodies}
use Rattle.seq_arith.specs.MessageGrammar.{version, kind_number, kind_of, message_length, number_bytes, header, spelled, spelling_by, reading_by, IsSpellableBy}
use Rattle.seq_arith.proofs.MessageSpelling.{bounded, room, spelled_length, message_is_read}
use Rattle.logger_wire.specs.Spelling.{put, body_bytes, text, sealed, framed}
use Rattle.logger_wire.proofs.Placing.{by_cells}

-- a body has as many bytes as the grammar says
pub size : (body : Body) → 16 + length (body_bytes body) ≡ message_length body
unfolding body_bytes number_bytes
size bodies.HelloMsg = refl
size (bodies.SummaryMsg count) = refl
size (bodies.ListMsg index) = refl
size (bodies.EntryMsg index entry) = refl
size (bodies.BytesMsg key offset) = refl
size (bodies.PartMsg key offset bytes) = omega arith
size (bodies.CutsMsg key first) = refl
size (bodies.LensMsg key first lens) = omega arith
size (bodies.OpenMsg numbers) = refl
size (bodies.OpenedMsg numbers) = refl
size (bodies.DataMsg part) = omega arith
size (bodies.StableMsg kept) = refl
size (bodies.ReadMsg key index length) = refl
size (bodies.ReadsMsg kept) = refl
size (bodies.DoneMsg key) = refl
size (bodies.EndedMsg key) = refl
size (bodies.StaleMsg newer) = refl
size (bodies.FullMsg key) = refl

pub not_longer : {grammar : Grammar} (message : Message) → IsSpellableBy grammar message → message_length message.body ≤ 1491
not_longer message spellable =
    let within = (bounded (kind_of message.body) (message_length message.body) spellable.size).1 in omega (arith, room (kind_of message.body))

abbrev header_steps : Grammar → Kind → (boot len : ℕ) → List ℕ → List ℕ
header_steps grammar kind boot len out =
    put 8 (number_bytes 8 boot) (put 6 (number_bytes 2 0) (put 4 (number_bytes 2 len) (put 2 (version grammar ∷ kind_number kind ∷ []) (put 0 (number_bytes 2 18004) out))))

pub header_put : (grammar : Grammar) (kind : Kind) (boot len : ℕ) (out : List ℕ) → 16 ≤ length out → header_steps grammar kind boot len out ≡ put 0 (header grammar kind len 0 boot) out
unfolding put header two number_bytes
header_put grammar kind boot len out long = by_cells 16 (λ b. header_steps grammar kind boot len b ≡ put 0 (header grammar kind len 0 boot) b) out long refl

check_put : (grammar : Grammar) (kind : Kind) (boot len check : ℕ) (out : List ℕ) → 16 ≤ length out
    → put 6 (number_bytes 2 check) (put 0 (header grammar kind len 0 boot) out) ≡ header grammar kind len check boot ++ drop 16 out
unfolding put header two number_bytes
check_put grammar kind boot len check out long =
    by_cells 16 (λ b. put 6 (number_bytes 2 check) (put 0 (header grammar kind len 0 boot) b) ≡ header grammar kind len check boot ++ drop 16 b) out long refl

header_length : (grammar : Grammar) (kind : Kind) (len check boot : ℕ) → length (header grammar kind len check boot) ≡ 16
unfolding header two number_bytes
header_length grammar kind len check boot = refl

sealed_length : (grammar : Grammar) (kind : Kind) (boot : ℕ) (behind : List ℕ) → length (sealed grammar kind boot behind) ≡ 16 + length behind
unfolding sealed text
sealed_length grammar kind boot behind =
    let check : ℕ = checksum (text grammar kind boot behind 0)
    in omega (arith, length-append (header grammar kind (16 + length behind) check boot) behind, header_length grammar kind (16 + length behind) check boot)

put_first : (new out : List ℕ) (len : ℕ) → length new ≡ len → put 0 new out ≡ new ++ drop len out
unfolding put
put_first new out len is = ap (λ n. new ++ drop n out) (zero-add (length new) ∙ is)

put_apart : (at : ℕ) (new out : List ℕ) → put at new out ≡ (take at out ++ new) ++ drop (at + length new) out
unfolding put
put_apart at new out = refl

-- what comes after a header, and after the message
behind_header : (len : ℕ) (out : List ℕ) → 16 ≤ len → drop 16 (take len out) ++ drop len out ≡ drop 16 out
behind_header len out long =
    let count : 16 + (len - 16) ≡ len = omega arith
    in let part : drop 16 (take len out) ≡ take (len - 16) (drop 16 out) = ap (λ n. drop 16 (take n out)) (sym count) ∙ drop-take 16 (len - 16) out
    in let rest : drop len out ≡ drop (len - 16) (drop 16 out) = ap (λ n. drop n out) (sym count) ∙ sym (drop-drop (len - 16) 16 out)
    in ap (λ xs. xs ++ drop len out) part ∙ ap (λ xs. take (len - 16) (drop 16 out) ++ xs) rest ∙ take-append-drop (len - 16) (drop 16 out)

blank_summed : (grammar : Grammar) (kind : Kind) (boot len : ℕ) (out : List ℕ) → 16 ≤ len
    → take len (header grammar kind len 0 boot ++ drop 16 out) ≡ header grammar kind len 0 boot ++ drop 16 (take len out)
blank_summed grammar kind boot len out long =
    let head : List ℕ = header grammar kind len 0 boot
    in let count : length head + (len - 16) ≡ len = omega (arith, header_length grammar kind len 0 boot)
    in let whole : 16 + (len - 16) ≡ len = omega arith
    in ap (λ n. take n (head ++ drop 16 out)) (sym count) ∙ take-append-add head (drop 16 out) (len - 16)
    ∙ ap (λ xs. head ++ xs) (sym (ap (λ n. drop 16 (take n out)) (sym whole) ∙ drop-take 16 (len - 16) out))

-- a blank header in front of a body, and then the checksum in its place
pub finished : (grammar : Grammar) (kind : Kind) (boot len check : ℕ) (out blank : List ℕ) → 16 ≤ len → len ≤ length out → blank ≡ put 0 (header grammar kind len 0 boot) out
    → check ≡ checksum (take len blank) → put 6 (number_bytes 2 check) blank ≡ framed grammar kind boot len out
unfolding framed sealed text
finished grammar kind boot len check out blank long within blank_is check_is =
    let behind : List ℕ = drop 16 (take len out)
    in let count : 16 + length behind ≡ len = omega (arith, length-drop 16 (take len out), length-take-le len out within)
    in let blank_text : take len blank ≡ header grammar kind len 0 boot ++ behind =
    ap (take len) (blank_is ∙ put_first (header grammar kind len 0 boot) out 16 (header_length grammar kind len 0 boot)) ∙ blank_summed grammar kind boot len out long
    in let sum : checksum (header grammar kind len 0 boot ++ behind) ≡ check = sym (check_is ∙ ap checksum blank_text)
    in let Text : ℕ → List ℕ = λ n. header grammar kind n (checksum (header grammar kind n 0 boot ++ behind)) boot ++ behind
    in let with_sum : Text len ≡ header grammar kind len check boot ++ behind = ap (λ c. header grammar kind len c boot ++ behind) sum
    in let size : length (header grammar kind len check boot ++ behind) ≡ len =
    omega (arith, length-append (header grammar kind len check boot) behind, header_length grammar kind len check boot)
    in ap (put 6 (number_bytes 2 check)) blank_is ∙ check_put grammar kind boot len check out (omega arith)
    ∙ sym (
    ap (λ n. put 0 (Text n) out) count ∙ ap (λ xs. put 0 xs out) with_sum ∙ put_first (header grammar kind len check boot ++ behind) out len size
    ∙ append_assoc (header grammar kind len check boot) behind (drop len out) ∙ ap (λ xs. header grammar kind len check boot ++ xs) (behind_header len out long)
    )

-- bytes after the fields are summed where they come from
pub behind_summed : (grammar : Grammar) (kind : Kind) (boot len at : ℕ) (behind out blank : List ℕ) → 16 ≤ at → at + length behind ≤ length out
    → blank ≡ put 0 (header grammar kind len 0 boot) (put at behind out) → take at blank ++ behind ≡ take (at + length behind) blank
behind_summed grammar kind boot len at behind out blank long within blank_is =
    let head : List ℕ = header grammar kind len 0 boot
    in let there : List ℕ = put at behind out
    in let rest : List ℕ = drop (at + length behind) out
    in let whole : blank ≡ head ++ drop 16 there = blank_is ∙ put_first head there 16 (header_length grammar kind len 0 boot)
    in let count : length head + (at - 16) ≡ at = omega (arith, header_length grammar kind len 0 boot)
    in let same : 16 + (at - 16) ≡ at = omega arith
    in let after : drop at blank ≡ drop at there =
    ap (drop at) whole ∙ ap (λ n. drop n (head ++ drop 16 there)) (sym count) ∙ drop-append-add head (drop 16 there) (at - 16) ∙ drop-drop (at - 16) 16 there
    ∙ ap (λ n. drop n there) same
    in let start : length (take at out) ≡ at = length-take-le at out (omega arith)
    in let stands : drop at there ≡ behind ++ rest =
    ap (drop at) (put_apart at behind out ∙ append_assoc (take at out) behind rest) ∙ ap (λ n. drop n (take at out ++ (behind ++ rest))) (sym start)
    ∙ drop-append_seam (take at out) (behind ++ rest)
    in let part : take (length behind) (drop at blank) ≡ behind = ap (take (length behind)) (after ∙ stands) ∙ take-append_seam behind rest
    in sym (take-add at (length behind) blank ∙ ap (λ xs. take at blank ++ xs) part)

-- a header in front of a body that was put after it
pub written : (grammar : Grammar) (kind : Kind) (boot len : ℕ) (body : Body) (out : List ℕ) → len ≡ message_length body → len ≤ length out
    → framed grammar kind boot len (put 16 (body_bytes body) out) ≡ put 0 (sealed grammar kind boot (body_bytes body)) out
unfolding framed
written grammar kind boot len body out is within =
    let bytes : List ℕ = body_bytes body
    in let whole : List ℕ = sealed grammar kind boot bytes
    in let front : List ℕ = take 16 out ++ bytes
    in let rest : List ℕ = drop (16 + length bytes) out
    in let len_is : 16 + length bytes ≡ len = omega (arith, size body)
    in let start : length (take 16 out) ≡ 16 = length-take-le 16 out (omega arith)
    in let count : length front ≡ len = omega (arith, length-append (take 16 out) bytes)
    in let length_is : length whole ≡ len = sealed_length grammar kind boot bytes ∙ len_is
    in let taken : take len (front ++ rest) ≡ front = ap (λ n. take n (front ++ rest)) (sym count) ∙ take-append_seam front rest
    in let there : drop 16 (take len (front ++ rest)) ≡ bytes = ap (drop 16) taken ∙ ap (λ n. drop n front) (sym start) ∙ drop-append_seam (take 16 out) bytes
    in let left : drop len (front ++ rest) ≡ drop len out =
    ap (λ n. drop n (front ++ rest)) (sym count) ∙ drop-append_seam front rest ∙ ap (λ n. drop n out) len_is
    in ap (framed grammar kind boot len) (put_apart 16 bytes out) ∙ ap (λ b. put 0 (sealed grammar kind boot b) (front ++ rest)) there
    ∙ put_first whole (front ++ rest) len length_is ∙ ap (λ xs. whole ++ xs) left ∙ sym (put_first whole out len length_is)

-- the whole is the one spelling
pub spelled_whole : (grammar : Grammar) (message : Message) → sealed grammar (kind_of message.body) message.boot (body_bytes message.body) ≡ spelling_by grammar message
unfolding sealed text spelling_by spelled body_bytes
spelled_whole grammar message =
    let kind : Kind = kind_of message.body
    in let bytes : List ℕ = body_bytes message.body
    in ap (λ n. header grammar kind n (checksum (header grammar kind n 0 message.boot ++ bytes)) message.boot ++ bytes) (size message.body)

pub message_written : (grammar : Grammar) (message : Message) (out new : List ℕ) → new ≡ put 0 (sealed grammar (kind_of message.body) message.boot (body_bytes message.body)) out
    → new ≡ spelling_by grammar message ++ drop (message_length message.body) out
message_written grammar message out new is =
    let kind : Kind = kind_of message.body
    in let bytes : List ℕ = body_bytes message.body
    in is ∙ put_first (sealed grammar kind message.boot bytes) out (message_length message.body) (sealed_length grammar kind message.boot bytes ∙ size message.body)
    ∙ ap (λ xs. xs ++ drop (message_length message.body) out) (spelled_whole grammar message)

pub read_back : (grammar : Grammar) (message : Message) (out : List ℕ) (len : ℕ) → IsSpellableBy grammar message → len ≡ message_length message.body
    → reading_by grammar (take len (spelling_by grammar message ++ drop len out)) ≡ Ok message
unfolding spelling_by
read_back grammar message out len spellable is =
    let size : len ≡ length (spelling_by grammar message) = is ∙ sym (spelled_length grammar message (checksum (spelled grammar message 0)) spellable.numbers)
    in ap (reading_by grammar) (ap (λ n. take n (spelling_by grammar message ++ drop len out)) size ∙ take-append_seam (spelling_by grammar message) (drop len out)) ∙ message_is_read message spellable
