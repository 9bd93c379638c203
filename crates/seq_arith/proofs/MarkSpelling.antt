-- A spelling says its message about marks: each test of the grammar fails at it, and each number is read where it was put.
use Rattle.std.proofs.Common.{◌≡◌, ℕ, ◌<◌, ◌≤◌, ◌+◌, ◌^◌, true, false, not, List, length, length-append, drop, ap, refl, sym, arith, ◌∙◌}
use Rattle.std.specs.Prelude.{Some, Ok, slice_index, nat_eq, nat_le, nat_lt}
use Rattle.std.proofs.Math.Seq.{drop-append_seam}
use Rattle.std.proofs.lemmas.List.{drop-drop}
use Rattle.std.proofs.lemmas.Bool.{le-ltb, leb-true, and_parts}
use Rattle.seq_arith.specs.declared.mark.MarkKind.{MarkKind}
use Rattle.seq_arith.specs.declared.mark.MarkKind.TheVariants as kinds
use Rattle.seq_arith.specs.Bytes.{word_at}
use Rattle.seq_arith.specs.Checksum.{checksum}
use Rattle.seq_arith.specs.Mark.{MarkBody, MarkMessage}
use Rattle.seq_arith.specs.Mark.{MarkBody as bodies}
use Rattle.seq_arith.specs.MessageGrammar.{number_in, fields_length, numbers_in, numbers_bytes, AllFit}
use Rattle.seq_arith.specs.MarkGrammar.{kind_number, kind_numbered, fields_of, most_behind, behind_at, has_length, is_sound_in, body_in, message_in, reading_of, reading, kind_of, numbers_of, behind_of, behind_header, message_length, spelled, spelling, IsSpellable}
use Rattle.seq_arith.proofs.Headed.{headed_length, headed_behind, headed_number, headed_sums, headed_whole, headed_magic, headed_version, headed_kind}
use Rattle.seq_arith.proofs.MessageSpelling.{numbers_length, numbers_back}
use Rattle.seq_arith.proofs.Passing.{no_difference}

kind_back : (kind : MarkKind) → kind_numbered (kind_number kind) ≡ Some kind
unfolding kind_numbered
kind_back kinds.Mark = refl
kind_back kinds.Marked = refl
kind_back kinds.Ask = refl
kind_back kinds.Held = refl

body_back : (body : MarkBody) → body_in (kind_of body) (numbers_of body) (behind_of body) ≡ body
body_back (bodies.MarkMsg key mark) = refl
body_back (bodies.MarkedMsg key reads) = refl
body_back (bodies.AskMsg key) = refl
body_back (bodies.HeldMsg key mark) = refl

-- no message about marks is longer than this
pub room : (kind : MarkKind) → behind_at kind + most_behind kind ≤ 1134
room kinds.Mark = omega arith
room kinds.Marked = omega arith
room kinds.Ask = omega arith
room kinds.Held = omega arith

bounded : (kind : MarkKind) (n : ℕ) → has_length kind n ≡ true → n ≤ 1134
unfolding has_length
bounded kind n is =
    let most : n ≤ behind_at kind + most_behind kind = leb-true n (behind_at kind + most_behind kind) (and_parts (nat_le (behind_at kind) n) (nat_le n (behind_at kind + most_behind kind)) is).1
    in omega (arith, most, room kind)

abbrev fields_part : MarkBody → List ℕ
fields_part body = numbers_bytes (fields_of (kind_of body)) (numbers_of body)

header_length : (body : MarkBody) → AllFit (fields_of (kind_of body)) (numbers_of body) → 16 + length (behind_header body) ≡ message_length body
header_length body fit =
    omega (arith, length-append (fields_part body) (behind_of body), numbers_length (fields_of (kind_of body)) (numbers_of body) fit)

length_of : (m : MarkMessage) (check : ℕ) → AllFit (fields_of (kind_of m.body)) (numbers_of m.body) → length (spelled m check) ≡ message_length m.body
unfolding spelled
length_of m check fit = headed_length 86 (kind_number (kind_of m.body)) m.boot (behind_header m.body) check ∙ header_length m.body fit

boot_read : (m : MarkMessage) (check : ℕ) → m.boot < 256 ^ 8 → number_in 8 (drop 8 (spelled m check)) ≡ m.boot
unfolding spelled
boot_read m check small = headed_number 86 (kind_number (kind_of m.body)) m.boot (behind_header m.body) check small

header_read : (m : MarkMessage) (check : ℕ) → drop 16 (spelled m check) ≡ behind_header m.body
unfolding spelled
header_read m check = headed_behind 86 (kind_number (kind_of m.body)) m.boot (behind_header m.body) check

fields_read : (m : MarkMessage) (check : ℕ) → AllFit (fields_of (kind_of m.body)) (numbers_of m.body)
    → numbers_in (fields_of (kind_of m.body)) (drop 16 (spelled m check)) ≡ numbers_of m.body
fields_read m check fit =
    ap (numbers_in (fields_of (kind_of m.body))) (header_read m check) ∙ numbers_back (fields_of (kind_of m.body)) (numbers_of m.body) (behind_of m.body) fit

behind_read : (m : MarkMessage) (check : ℕ) → AllFit (fields_of (kind_of m.body)) (numbers_of m.body)
    → drop (behind_at (kind_of m.body)) (spelled m check) ≡ behind_of m.body
behind_read m check fit =
    sym (drop-drop (fields_length (fields_of (kind_of m.body))) 16 (spelled m check))
    ∙ ap (drop (fields_length (fields_of (kind_of m.body)))) (header_read m check)
    ∙ ap (λ n. drop n (behind_header m.body)) (sym (numbers_length (fields_of (kind_of m.body)) (numbers_of m.body) fit))
    ∙ drop-append_seam (fields_part m.body) (behind_of m.body)

abbrev message_of : ℕ → MarkBody → MarkMessage
message_of boot body = record { boot = boot; body = body }

joined : {boot : ℕ} {body : MarkBody} {m : MarkMessage} → boot ≡ m.boot → body ≡ m.body → message_of boot body ≡ message_of m.boot m.body
joined boot body = cc

says : (m : MarkMessage) (check : ℕ) → IsSpellable m → message_in (kind_of m.body) (spelled m check) ≡ m
unfolding message_in
says m check spellable =
    let body : body_in (kind_of m.body) (numbers_in (fields_of (kind_of m.body)) (drop 16 (spelled m check))) (drop (behind_at (kind_of m.body)) (spelled m check)) ≡ m.body =
    ap (λ numbers. body_in (kind_of m.body) numbers (drop (behind_at (kind_of m.body)) (spelled m check))) (fields_read m check spellable.numbers)
    ∙ ap (body_in (kind_of m.body) (numbers_of m.body)) (behind_read m check spellable.numbers) ∙ body_back m.body
    in joined (boot_read m check spellable.boot) body

sound : (m : MarkMessage) (check : ℕ) → IsSpellable m → is_sound_in (kind_of m.body) (spelled m check) ≡ true
unfolding is_sound_in
sound m check spellable =
    rw (boot_read m check spellable.boot, fields_read m check spellable.numbers, behind_read m check spellable.numbers) spellable.sound

-- the tests that hold of no spelling leave what it says
passes : (kind : MarkKind) (bytes : List ℕ) → nat_lt (length bytes) 16 ≡ false → not (nat_eq (word_at bytes 0) 18006) ≡ false
    → not (nat_eq (slice_index bytes 2) 1) ≡ false → kind_numbered (slice_index bytes 3) ≡ Some kind → not (nat_eq (word_at bytes 4) (length bytes)) ≡ false
    → has_length kind (length bytes) ≡ true → not (nat_eq (checksum bytes) 0) ≡ false → is_sound_in kind bytes ≡ true → reading bytes ≡ Ok (message_in kind bytes)
unfolding reading reading_of
passes kind bytes long magic version is same size sum sound = rw (long, magic, version, is, same, size, sum, sound) refl

spelled_is_read : (m : MarkMessage) (check : ℕ) → IsSpellable m → check ≡ checksum (spelled m 0) → reading (spelled m check) ≡ Ok m
unfolding spelled
spelled_is_read m check spellable is =
    let kind : ℕ = kind_number (kind_of m.body)
    in let behind : List ℕ = behind_header m.body
    in let long : length (spelled m check) ≡ message_length m.body = length_of m check spellable.numbers
    in let same : 16 + length behind ≡ message_length m.body = header_length m.body spellable.numbers
    in let within : message_length m.body ≤ 1134 = bounded (kind_of m.body) (message_length m.body) spellable.size
    in passes (kind_of m.body) (spelled m check) (le-ltb (length (spelled m check)) 16 (omega arith)) (no_difference _ _ (headed_magic 86 kind m.boot behind check))
    (no_difference _ _ (headed_version 86 kind m.boot behind check)) (ap kind_numbered (headed_kind 86 kind m.boot behind check) ∙ kind_back (kind_of m.body))
    (no_difference _ _ (headed_whole 86 kind m.boot behind check (omega arith) ∙ same ∙ sym long)) (ap (has_length (kind_of m.body)) long ∙ spellable.size)
    (no_difference _ _ (headed_sums 86 kind m.boot behind check is)) (sound m check spellable) ∙ ap Ok (says m check spellable)

pub mark_is_read : (m : MarkMessage) → IsSpellable m → reading (spelling m) ≡ Ok m
unfolding spelling
mark_is_read m spellable = spelled_is_read m (checksum (spelled m 0)) spellable refl
