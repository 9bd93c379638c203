-- Messages about forgetting with one changed bit are refused: were one accepted, it would hold its checksum twice. And no other grammar reads one: the magics
-- differ.
use Rattle.std.proofs.Common.{◌≡◌, ℕ, ◌<◌, ◌*◌, Bool, false, true, true≢false, not, arith, List, length}
use Rattle.std.specs.Prelude.{Option, None, Some, Result, Ok, Err, IsOk, IsErr, nat_eq, nat_lt, ◌||◌, slice_index, if◌then◌else◌}
use Rattle.seq_arith.specs.declared.kinds.Grammar.{Grammar}
use Rattle.seq_arith.specs.Bytes.{word_at}
use Rattle.seq_arith.specs.Checksum.{checksum}
use Rattle.seq_arith.specs.Damage.{flipped}
use Rattle.seq_arith.specs.declared.kinds.BadMsg.{BadMsg}
use Rattle.seq_arith.specs.declared.kinds.BadMsg.TheVariants as bad
use Rattle.seq_arith.specs.declared.mark.BadMark.TheVariants as bad_mark
use Rattle.seq_arith.specs.declared.twin.BadTwin.TheVariants as bad_twin
use Rattle.seq_arith.specs.MarkGrammar as marks
use Rattle.seq_arith.specs.MessageGrammar as messages
use Rattle.seq_arith.specs.TwinGrammar as twins
use Rattle.seq_arith.proofs.Damaged.{flip_is_seen}
use Rattle.seq_arith.proofs.Flipped.{kind_comes, sum_held}
use Rattle.seq_arith.proofs.Passing.{same_from}
use Rattle.seq_arith.proofs.Refused.{refused, accepted, proceeds}
use Rattle.long_laws.specs.Forgetting.{ForgetMessage}
use Rattle.long_laws.specs.ForgetGrammar.{ForgetKind, kind_numbered, boot_in, message_in, reading_of, reading_if, reading}

sum_if : (kind : Option ForgetKind) (bytes : List ℕ) → IsOk (reading_if kind bytes) → checksum bytes ≡ 0
unfolding reading_of
sum_if None bytes ok = absurd (cc)
sum_if (Some kind) bytes ok =
    sum_held (not (nat_eq (word_at bytes 4) (length bytes)) || not (nat_eq (length bytes) 30)) bad.Length bad.Sum bytes
    (if nat_lt (boot_in bytes) 1 then Err bad.Field else Ok (message_in kind bytes)) ok

pub sum_of : (bytes : List ℕ) → IsOk (reading bytes) → checksum bytes ≡ 0
unfolding reading
sum_of bytes ok =
    sum_if (kind_numbered (slice_index bytes 3)) bytes
    (kind_comes (nat_lt (length bytes) 16) (not (nat_eq (word_at bytes 0) 18007)) (not (nat_eq (slice_index bytes 2) 1)) bad.Short bad.Magic bad.Version
    (reading_if (kind_numbered (slice_index bytes 3)) bytes) ok)

pub flipped_forget_is_refused : (bit : ℕ) (bytes : List ℕ) (m : ForgetMessage) → reading bytes ≡ Ok m → bit < 8 * length bytes → IsErr (reading (flipped bit bytes))
flipped_forget_is_refused bit bytes m is within =
    refused (reading (flipped bit bytes)) (λ ok. flip_is_seen bit bytes within (sum_of bytes (accepted is)) (sum_of (flipped bit bytes) ok))

-- the magic of what is read
magic_held : {V E : Type 0} (short : Bool) (n magic : ℕ) (short_why magic_why : E) (last : Result V E)
    → IsOk (if short then Err short_why else (if not (nat_eq n magic) then Err magic_why else last)) → n ≡ magic
magic_held short n magic short_why magic_why last ok =
    same_from n magic (proceeds (not (nat_eq n magic)) magic_why last (proceeds short short_why (if not (nat_eq n magic) then Err magic_why else last) ok).1).0

magic : (bytes : List ℕ) → IsOk (reading bytes) → word_at bytes 0 ≡ 18007
unfolding reading
magic bytes ok =
    magic_held (nat_lt (length bytes) 16) (word_at bytes 0) 18007 bad.Short bad.Magic
    (if not (nat_eq (slice_index bytes 2) 1) then Err bad.Version else reading_if (kind_numbered (slice_index bytes 3)) bytes) ok

message_magic : (grammar : Grammar) (bytes : List ℕ) → IsOk (messages.reading_by grammar bytes) → word_at bytes 0 ≡ 18004
unfolding messages.reading_by
message_magic grammar bytes ok =
    magic_held (nat_lt (length bytes) 16) (word_at bytes 0) 18004 bad.Short bad.Magic
    (if not (nat_eq (slice_index bytes 2) (messages.version grammar)) then Err bad.Version else messages.reading_if grammar (messages.kind_numbered (slice_index bytes 3)) bytes) ok

mark_magic : (bytes : List ℕ) → IsOk (marks.reading bytes) → word_at bytes 0 ≡ 18006
unfolding marks.reading
mark_magic bytes ok =
    magic_held (nat_lt (length bytes) 16) (word_at bytes 0) 18006 bad_mark.Short bad_mark.Magic
    (if not (nat_eq (slice_index bytes 2) 1) then Err bad_mark.Version else marks.reading_if (marks.kind_numbered (slice_index bytes 3)) bytes) ok

twin_magic : (grammar : Grammar) (bytes : List ℕ) → IsOk (twins.reading_by grammar bytes) → word_at bytes 0 ≡ 18005
unfolding twins.reading_by
twin_magic grammar bytes ok =
    magic_held (nat_lt (length bytes) 16) (word_at bytes 0) 18005 bad_twin.Short bad_twin.Magic
    (if not (nat_eq (slice_index bytes 2) 1) then Err bad_twin.Version else twins.reading_if grammar (twins.kind_numbered (slice_index bytes 3)) bytes) ok

pub no_message : (grammar : Grammar) (bytes : List ℕ) (m : ForgetMessage) → reading bytes ≡ Ok m → IsErr (messages.reading_by grammar bytes)
no_message grammar bytes m is = refused (messages.reading_by grammar bytes) (λ ok. omega (arith, magic bytes (accepted is), message_magic grammar bytes ok))

pub no_mark : (bytes : List ℕ) (m : ForgetMessage) → reading bytes ≡ Ok m → IsErr (marks.reading bytes)
no_mark bytes m is = refused (marks.reading bytes) (λ ok. omega (arith, magic bytes (accepted is), mark_magic bytes ok))

pub no_twin : (grammar : Grammar) (bytes : List ℕ) (m : ForgetMessage) → reading bytes ≡ Ok m → IsErr (twins.reading_by grammar bytes)
no_twin grammar bytes m is = refused (twins.reading_by grammar bytes) (λ ok. omega (arith, magic bytes (accepted is), twin_magic grammar bytes ok))

-- its length
length_if : (kind : Option ForgetKind) (bytes : List ℕ) → IsOk (reading_if kind bytes) → length bytes ≡ 30
unfolding reading_of
length_if None bytes ok = absurd (cc)
length_if (Some kind) bytes ok =
    let a : Bool = not (nat_eq (word_at bytes 4) (length bytes)) in
    let b : Bool = not (nat_eq (length bytes) 30) in
    let last : Result ForgetMessage BadMsg = if not (nat_eq (checksum bytes) 0) then Err bad.Sum else (if nat_lt (boot_in bytes) 1 then Err bad.Field else Ok (message_in kind bytes)) in
    same_from (length bytes) 30 (right_false a b (proceeds (a || b) bad.Length last ok).0)
  where
    right_false : (a b : Bool) → (a || b) ≡ false → b ≡ false
    right_false false b e = e
    right_false true b e = absurd (true≢false e)

pub has_its_length : (bytes : List ℕ) (m : ForgetMessage) → reading bytes ≡ Ok m → length bytes ≡ 30
unfolding reading
has_its_length bytes m is =
    length_if (kind_numbered (slice_index bytes 3)) bytes
    (kind_comes (nat_lt (length bytes) 16) (not (nat_eq (word_at bytes 0) 18007)) (not (nat_eq (slice_index bytes 2) 1)) bad.Short bad.Magic bad.Version
    (reading_if (kind_numbered (slice_index bytes 3)) bytes) (accepted is))
