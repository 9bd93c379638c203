-- A header with its checksum and what is after it are the one spelling of a datagram, and it is read.
use Rattle.std.proofs.Common.{◌≡◌, ◌∙◌, ℕ, ◌+◌, ◌≤◌, true, List, ◌++◌, length, take, drop, ap, refl, sym, append_assoc}
use Rattle.std.specs.Prelude.{Ok}
use Rattle.std.proofs.Math.Seq.{take-append_seam}
use Rattle.std.proofs.lemmas.List.{drop-drop}
use Rattle.seq_arith.specs.declared.kinds.Grammar.{Grammar}
use Rattle.seq_arith.specs.declared.twin.TwinKind.{TwinKind}
use Rattle.seq_arith.specs.Bytes.{two}
use Rattle.seq_arith.specs.Checksum.{checksum}
use Rattle.seq_arith.specs.Header.{headed}
use Rattle.seq_arith.specs.MessageGrammar.{number_bytes}
use Rattle.seq_arith.specs.TwinDatagram.{TwinDatagram}
use Rattle.seq_arith.specs.TwinGrammar.{kind_of, kind_number, number_of, behind_of, has_length, spelled, spelling, reading_by, IsSpellableBy}
use Rattle.seq_arith.proofs.TwinSpelling.{bounded, length_of, twin_is_read}
use Rattle.logger_wire.specs.TwinHeader.{header_of}

-- no datagram is longer than the room for one
pub datagram_fits : (d : TwinDatagram) → has_length (kind_of d) (16 + length (behind_of d)) ≡ true → 16 + length (behind_of d) ≤ 1507
datagram_fits d fits = bounded (kind_of d) (16 + length (behind_of d)) fits

-- what was written at the front is the whole datagram
pub datagram_whole : (d : TwinDatagram) (rest : List ℕ) (len : ℕ) → len ≡ 16 + length (behind_of d) → take len (spelling d ++ rest) ≡ spelling d
unfolding spelling
datagram_whole d rest len is =
    let long : length (spelling d) ≡ len = length_of d (checksum (spelled d 0)) ∙ sym is
    in ap (λ n. take n (spelling d ++ rest)) (sym long) ∙ take-append_seam (spelling d) rest

pub header_length : (kind : TwinKind) (len check number : ℕ) → length (header_of kind len check number) ≡ 16
unfolding header_of two number_bytes
header_length kind len check number = refl

headed_is : (kind : TwinKind) (number : ℕ) (behind : List ℕ) (check : ℕ)
    → header_of kind (16 + length behind) check number ++ behind ≡ headed 85 (kind_number kind) number behind check
unfolding header_of headed two number_bytes
headed_is kind number behind check = refl

with_header : (d : TwinDatagram) (kind : TwinKind) (len number check : ℕ) (behind : List ℕ) → kind ≡ kind_of d → number ≡ number_of d → behind ≡ behind_of d
    → len ≡ 16 + length behind → header_of kind len check number ++ behind ≡ spelled d check
unfolding spelled
with_header d kind len number check behind kind_is number_is behind_is len_is =
    ap (λ n. header_of kind n check number ++ behind) len_is ∙ headed_is kind number behind check
    ∙ rw (kind_is, number_is, behind_is) refl

pub assembled : (d : TwinDatagram) (kind : TwinKind) (len number check : ℕ) (behind blank front written rest out : List ℕ) → kind ≡ kind_of d → number ≡ number_of d
    → behind ≡ behind_of d → len ≡ 16 + length behind → written ≡ behind ++ drop (length behind) rest → blank ≡ header_of kind len 0 number
    → check ≡ checksum (blank ++ behind) → front ≡ header_of kind len check number → rest ≡ drop 16 out → front ++ written ≡ spelling d ++ drop len out
unfolding spelling
assembled d kind len number check behind blank front written rest out kind_is number_is behind_is len_is written_is blank_is check_is front_is rest_is =
    let zero : blank ++ behind ≡ spelled d 0 = ap (λ xs. xs ++ behind) blank_is ∙ with_header d kind len number 0 behind kind_is number_is behind_is len_is
    in let sum : check ≡ checksum (spelled d 0) = check_is ∙ ap checksum zero
    in let later : drop (length behind) rest ≡ drop len out =
    ap (drop (length behind)) rest_is ∙ drop-drop (length behind) 16 out ∙ ap (λ n. drop n out) (sym len_is)
    in ap (λ xs. xs ++ written) front_is ∙ ap (λ xs. header_of kind len check number ++ xs) (written_is ∙ ap (λ xs. behind ++ xs) later)
    ∙ sym (append_assoc (header_of kind len check number) behind (drop len out))
    ∙ ap (λ xs. xs ++ drop len out) (with_header d kind len number check behind kind_is number_is behind_is len_is ∙ ap (spelled d) sum)

pub read_back : (grammar : Grammar) (d : TwinDatagram) (out : List ℕ) (len : ℕ) → IsSpellableBy grammar d → len ≡ 16 + length (behind_of d)
    → reading_by grammar (take len (spelling d ++ drop len out)) ≡ Ok d
read_back grammar d out len spellable is = ap (reading_by grammar) (datagram_whole d (drop len out) len is) ∙ twin_is_read d spellable
