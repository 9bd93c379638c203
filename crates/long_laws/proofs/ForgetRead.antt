-- A spelling says its message about forgetting: each test of the grammar fails at it, and each number is read where it was put. So it says no other.
use Rattle.std.proofs.Common.{◌≡◌, ℕ, ◌<◌, ◌+◌, ◌^◌, false, not, List, [], length, drop, ap, refl, sym, arith, ◌∙◌}
use Rattle.std.specs.Prelude.{Some, Ok, Result, slice_index, nat_eq, nat_lt}
use Rattle.std.proofs.lemmas.Bool.{le-ltb}
use Rattle.std.proofs.lemmas.List.{append-nil}
use Rattle.seq_arith.specs.Bytes.{word_at}
use Rattle.seq_arith.specs.Checksum.{checksum}
use Rattle.seq_arith.specs.MessageGrammar.{numbers_in, AllFit}
use Rattle.seq_arith.proofs.Headed.{headed_length, headed_behind, headed_number, headed_sums, headed_whole, headed_magic, headed_version, headed_kind}
use Rattle.seq_arith.proofs.MessageSpelling.{numbers_length, numbers_back}
use Rattle.seq_arith.proofs.Passing.{no_difference}
use Rattle.long_laws.specs.Forgetting.{ForgetBody, ForgetMessage, named_of}
use Rattle.long_laws.specs.Forgetting.ForgetBody.{ForgetMsg, ForgottenMsg}
use Rattle.long_laws.specs.ForgetGrammar.{ForgetKind, kind_number, kind_numbered, naming, kind_of, numbers_of, named_in, body_in, boot_in, message_in, reading_of, reading, behind_header, spelled, spelling, IsSpellable}
use Rattle.long_laws.specs.ForgetGrammar.ForgetKind.{Forget, Forgotten}

kind_back : (kind : ForgetKind) → kind_numbered (kind_number kind) ≡ Some kind
unfolding kind_numbered
kind_back Forget = refl
kind_back Forgotten = refl

body_back : (body : ForgetBody) → body_in (kind_of body) (named_in (numbers_of (named_of body))) ≡ body
body_back (ForgetMsg n) = refl
body_back (ForgottenMsg n) = refl

header_length : (body : ForgetBody) → AllFit naming (numbers_of (named_of body)) → 16 + length (behind_header body) ≡ 30
header_length body fit = ap (λ n. 16 + n) (numbers_length naming (numbers_of (named_of body)) fit)

length_of : (m : ForgetMessage) (check : ℕ) → AllFit naming (numbers_of (named_of m.body)) → length (spelled m check) ≡ 30
unfolding spelled
length_of m check fit = headed_length 87 (kind_number (kind_of m.body)) m.boot (behind_header m.body) check ∙ header_length m.body fit

boot_read : (m : ForgetMessage) (check : ℕ) → m.boot < 256 ^ 8 → boot_in (spelled m check) ≡ m.boot
unfolding spelled boot_in
boot_read m check small = headed_number 87 (kind_number (kind_of m.body)) m.boot (behind_header m.body) check small

numbers_read : (m : ForgetMessage) (check : ℕ) → AllFit naming (numbers_of (named_of m.body)) → numbers_in naming (drop 16 (spelled m check)) ≡ numbers_of (named_of m.body)
unfolding spelled
numbers_read m check fit =
    ap (numbers_in naming) (headed_behind 87 (kind_number (kind_of m.body)) m.boot (behind_header m.body) check ∙ sym (append-nil (behind_header m.body)))
    ∙ numbers_back naming (numbers_of (named_of m.body)) [] fit

abbrev message_of : ℕ → ForgetBody → ForgetMessage
message_of boot body = record { boot = boot; body = body }

joined : {boot : ℕ} {body : ForgetBody} {m : ForgetMessage} → boot ≡ m.boot → body ≡ m.body → message_of boot body ≡ message_of m.boot m.body
joined boot body = cc

says : (m : ForgetMessage) (check : ℕ) → IsSpellable m → message_in (kind_of m.body) (spelled m check) ≡ m
unfolding message_in
says m check spellable =
    joined (boot_read m check spellable.boot)
    (ap (λ numbers. body_in (kind_of m.body) (named_in numbers)) (numbers_read m check spellable.numbers) ∙ body_back m.body)

-- the tests that hold of no spelling leave what it says
passes : (kind : ForgetKind) (bytes : List ℕ) → nat_lt (length bytes) 16 ≡ false → not (nat_eq (word_at bytes 0) 18007) ≡ false
    → not (nat_eq (slice_index bytes 2) 1) ≡ false → kind_numbered (slice_index bytes 3) ≡ Some kind → not (nat_eq (word_at bytes 4) (length bytes)) ≡ false
    → not (nat_eq (length bytes) 30) ≡ false → not (nat_eq (checksum bytes) 0) ≡ false → nat_lt (boot_in bytes) 1 ≡ false → reading bytes ≡ Ok (message_in kind bytes)
unfolding reading reading_of
passes kind bytes long magic version is same size sum begun = rw (long, magic, version, is, same, size, sum, begun) refl

spelled_is_read : (m : ForgetMessage) (check : ℕ) → IsSpellable m → check ≡ checksum (spelled m 0) → reading (spelled m check) ≡ Ok m
unfolding spelled
spelled_is_read m check spellable is =
    let kind : ℕ = kind_number (kind_of m.body)
    in let behind : List ℕ = behind_header m.body
    in let long : length (spelled m check) ≡ 30 = length_of m check spellable.numbers
    in let same : 16 + length behind ≡ 30 = header_length m.body spellable.numbers
    in passes (kind_of m.body) (spelled m check) (le-ltb (length (spelled m check)) 16 (omega (arith, long))) (no_difference _ _ (headed_magic 87 kind m.boot behind check))
    (no_difference _ _ (headed_version 87 kind m.boot behind check)) (ap kind_numbered (headed_kind 87 kind m.boot behind check) ∙ kind_back (kind_of m.body))
    (no_difference _ _ (headed_whole 87 kind m.boot behind check (omega (arith, same)) ∙ same ∙ sym long)) (no_difference _ _ long)
    (no_difference _ _ (headed_sums 87 kind m.boot behind check is)) (le-ltb (boot_in (spelled m check)) 1 (omega (arith, spellable.begun, boot_read m check spellable.boot)))
    ∙ ap Ok (says m check spellable)

pub forget_is_read : (m : ForgetMessage) → IsSpellable m → reading (spelling m) ≡ Ok m
unfolding spelling
forget_is_read m spellable = spelled_is_read m (checksum (spelled m 0)) spellable refl

-- what two readings of the same bytes say
says_one : {V E : Type 0} (r : Result V E) (m n : V) → r ≡ Ok m → r ≡ Ok n → m ≡ n
says_one r m n a b = cc (a, b)

pub spelled_once : (m n : ForgetMessage) → IsSpellable m → IsSpellable n → spelling m ≡ spelling n → m ≡ n
spelled_once m n a b same = says_one (reading (spelling m)) m n (forget_is_read m a) (ap reading same ∙ forget_is_read n b)
