-- A header with its checksum, the numbers and the state are the one spelling of a message, and it is read.
use Rattle.std.proofs.Common.{◌≡◌, ◌∙◌, ℕ, ◌≤◌, ◌+◌, List, [], ◌∷◌, ◌++◌, length, take, drop, ap, refl, sym, append_assoc, arith, length-append}
use Rattle.std.specs.Prelude.{Ok, nat_le}
use Rattle.std.proofs.Math.Seq.{take-append_seam}
use Rattle.std.proofs.lemmas.Bool.{leb-true, and_parts}
use Rattle.std.proofs.lemmas.List.{drop-drop}
use Rattle.ft_io.specs.declared.Key.{Key}
use Rattle.seq_arith.specs.declared.mark.MarkKind.{MarkKind}
use Rattle.seq_arith.specs.declared.mark.MarkKind.TheVariants as kinds
use Rattle.seq_arith.specs.Bytes.{two}
use Rattle.seq_arith.specs.Checksum.{checksum}
use Rattle.seq_arith.specs.Header.{headed}
use Rattle.seq_arith.specs.Mark.{MarkMessage}
use Rattle.seq_arith.specs.MessageGrammar.{number_bytes, numbers_bytes, key_and}
use Rattle.seq_arith.specs.MarkGrammar.{kind_of, kind_number, marking, fields_of, most_behind, behind_at, behind_of, numbers_of, behind_header, has_length, message_length, spelled, spelling, reading, IsSpellable}
use Rattle.seq_arith.proofs.Headed.{headed_length}
use Rattle.seq_arith.proofs.MarkSpelling.{mark_is_read, room}
use Rattle.seq_arith.proofs.MessageSpelling.{numbers_length}
use Rattle.logger_wire.specs.MarkSpelling.{header_of, sealed}

pub header_length : (kind : MarkKind) (len check boot : ℕ) → length (header_of kind len check boot) ≡ 16
unfolding header_of two number_bytes
header_length kind len check boot = refl

headed_is : (kind : MarkKind) (len check boot : ℕ) (behind : List ℕ) → len ≡ 16 + length behind
    → header_of kind len check boot ++ behind ≡ headed 86 (kind_number kind) boot behind check
unfolding header_of headed two number_bytes
headed_is kind len check boot behind is = rw is refl

pub assembled : (kind : MarkKind) (boot len check : ℕ) (numbers state blank front written rest out : List ℕ) → len ≡ 16 + length numbers + length state
    → written ≡ (numbers ++ state) ++ drop (length numbers + length state) rest → blank ≡ header_of kind len 0 boot → check ≡ checksum (blank ++ numbers ++ state)
    → front ≡ header_of kind len check boot → rest ≡ drop 16 out → front ++ written ≡ sealed kind boot (numbers ++ state) ++ drop len out
unfolding sealed
assembled kind boot len check numbers state blank front written rest out len_is written_is blank_is check_is front_is rest_is =
    let behind : List ℕ = numbers ++ state in
    let size : length behind ≡ length numbers + length state = length-append numbers state in
    let whole : len ≡ 16 + length behind = omega (arith, size, len_is) in
    let zero : blank ++ behind ≡ headed 86 (kind_number kind) boot behind 0 = ap (λ xs. xs ++ behind) blank_is ∙ headed_is kind len 0 boot behind whole in
    let sum : check ≡ checksum (headed 86 (kind_number kind) boot behind 0) = check_is ∙ ap checksum (append_assoc blank numbers state ∙ zero) in
    let later : drop (length numbers + length state) rest ≡ drop len out =
    ap (drop (length numbers + length state)) rest_is ∙ drop-drop (length numbers + length state) 16 out ∙ ap (λ n. drop n out) (omega (arith, len_is)) in
    ap (λ xs. xs ++ written) front_is ∙ ap (λ xs. header_of kind len check boot ++ xs) (written_is ∙ ap (λ xs. behind ++ xs) later)
    ∙ sym (append_assoc (header_of kind len check boot) behind (drop len out))
    ∙ ap (λ xs. xs ++ drop len out) (headed_is kind len check boot behind whole ∙ ap (headed 86 (kind_number kind) boot behind) sum)

-- the first numbers of a mark are those of a shorter body
pub marked_numbers : (key : Key) (reads : ℕ) → take 10 (numbers_bytes marking (key_and key (reads ∷ 0 ∷ 0 ∷ []))) ≡ numbers_bytes (fields_of kinds.Marked) (key_and key (reads ∷ []))
unfolding number_bytes
marked_numbers key reads = refl

pub ask_numbers : (key : Key) → take 6 (numbers_bytes marking (key_and key (0 ∷ 0 ∷ 0 ∷ []))) ≡ numbers_bytes (fields_of kinds.Ask) (key_and key [])
unfolding number_bytes
ask_numbers key = refl

-- no message is longer than this
pub message_fits : (m : MarkMessage) → IsSpellable m → message_length m.body ≤ 1134
unfolding has_length
message_fits m spellable =
    let kind : MarkKind = kind_of m.body in
    let n : ℕ = message_length m.body in
    let most : n ≤ behind_at kind + most_behind kind = leb-true n (behind_at kind + most_behind kind) (and_parts (nat_le (behind_at kind) n) (nat_le n (behind_at kind + most_behind kind)) spellable.size).1 in
    omega (arith, most, room kind)

pub spelling_is : (m : MarkMessage) → sealed (kind_of m.body) m.boot (behind_header m.body) ≡ spelling m
unfolding sealed spelling spelled
spelling_is m = refl

spelling_length : (m : MarkMessage) → IsSpellable m → length (spelling m) ≡ message_length m.body
unfolding spelling spelled
spelling_length m spellable =
    let behind : List ℕ = behind_header m.body in
    let whole = headed_length 86 (kind_number (kind_of m.body)) m.boot behind (checksum (headed 86 (kind_number (kind_of m.body)) m.boot behind 0)) in
    let parts = length-append (numbers_bytes (fields_of (kind_of m.body)) (numbers_of m.body)) (behind_of m.body) in
    let fields = numbers_length (fields_of (kind_of m.body)) (numbers_of m.body) spellable.numbers in
    omega (arith, whole, parts, fields)

pub read_back : (m : MarkMessage) (rest : List ℕ) (len : ℕ) → IsSpellable m → len ≡ message_length m.body → reading (take len (spelling m ++ rest)) ≡ Ok m
read_back m rest len spellable is =
    let long : length (spelling m) ≡ len = spelling_length m spellable ∙ sym is in
    ap reading (ap (λ n. take n (spelling m ++ rest)) (sym long) ∙ take-append_seam (spelling m) rest) ∙ mark_is_read m spellable
