-- Datagrams between two loggers and messages about marks with one changed bit are refused: were one accepted, it would hold its checksum twice.
use Rattle.std.proofs.Common.{◌≡◌, ℕ, ◌<◌, ◌*◌, Bool, not, List, length}
use Rattle.std.specs.Prelude.{Option, None, Some, Result, Ok, Err, IsOk, IsErr, nat_eq, nat_lt, ◌||◌, slice_index, if◌then◌else◌}
use Rattle.seq_arith.specs.Bytes.{word_at}
use Rattle.seq_arith.specs.Checksum.{checksum}
use Rattle.seq_arith.specs.Damage.{flipped}
use Rattle.seq_arith.specs.declared.kinds.Grammar.{Grammar}
use Rattle.seq_arith.specs.declared.kinds.Grammar.TheVariants as grammars
use Rattle.seq_arith.specs.declared.twin.BadTwin.TheVariants as bad_twin
use Rattle.seq_arith.specs.declared.twin.TwinKind.{TwinKind}
use Rattle.seq_arith.specs.declared.mark.BadMark.TheVariants as bad_mark
use Rattle.seq_arith.specs.declared.mark.MarkKind.{MarkKind}
use Rattle.seq_arith.specs.Mark.{MarkMessage}
use Rattle.seq_arith.specs.MarkGrammar as marks
use Rattle.seq_arith.specs.TwinDatagram.{TwinDatagram}
use Rattle.seq_arith.specs.TwinGrammar as twins
use Rattle.seq_arith.proofs.Damaged.{flip_is_seen}
use Rattle.seq_arith.proofs.Passing.{same_from}
use Rattle.seq_arith.proofs.Refused.{refused, accepted, proceeds}

-- what is refused last is a field: a string that comes so far holds its checksum
pub sum_held : {V E : Type 0} (length_test : Bool) (length_why sum_why : E) (bytes : List ℕ) (last : Result V E)
    → IsOk (if length_test then Err length_why else (if not (nat_eq (checksum bytes) 0) then Err sum_why else last)) → checksum bytes ≡ 0
sum_held length_test length_why sum_why bytes last ok =
    let sum_test : Bool = not (nat_eq (checksum bytes) 0)
    in same_from _ _ (proceeds sum_test sum_why last (proceeds length_test length_why (if sum_test then Err sum_why else last) ok).1).0

-- what comes to the kind was refused by none of the first three tests
pub kind_comes : {V E : Type 0} (short magic version : Bool) (short_why magic_why version_why : E) (last : Result V E)
    → IsOk (if short then Err short_why else (if magic then Err magic_why else (if version then Err version_why else last))) → IsOk last
kind_comes {V = V} {E = E} short magic version short_why magic_why version_why last ok =
    let third : Result V E = if version then Err version_why else last
    in (proceeds version version_why last (proceeds magic magic_why third (proceeds short short_why (if magic then Err magic_why else third) ok).1).1).1

twin_sum_if : (grammar : Grammar) (kind : Option TwinKind) (bytes : List ℕ) → IsOk (twins.reading_if grammar kind bytes) → checksum bytes ≡ 0
unfolding twins.reading_of
twin_sum_if grammar None bytes ok = absurd (cc)
twin_sum_if grammar (Some kind) bytes ok =
    sum_held (not (nat_eq (word_at bytes 4) (length bytes)) || not (twins.has_length kind (length bytes))) bad_twin.Length bad_twin.Sum bytes
    (if not (twins.is_sound_in grammar kind bytes) then Err bad_twin.Field else Ok (twins.datagram_in kind bytes)) ok

twin_sum : (grammar : Grammar) (bytes : List ℕ) → IsOk (twins.reading_by grammar bytes) → checksum bytes ≡ 0
unfolding twins.reading_by
twin_sum grammar bytes ok =
    twin_sum_if grammar (twins.kind_numbered (slice_index bytes 3)) bytes
    (kind_comes (nat_lt (length bytes) 16) (not (nat_eq (word_at bytes 0) 18005)) (not (nat_eq (slice_index bytes 2) 1)) bad_twin.Short bad_twin.Magic bad_twin.Version
    (twins.reading_if grammar (twins.kind_numbered (slice_index bytes 3)) bytes) ok)

pub mark_sum_if : (kind : Option MarkKind) (bytes : List ℕ) → IsOk (marks.reading_if kind bytes) → checksum bytes ≡ 0
unfolding marks.reading_of
mark_sum_if None bytes ok = absurd (cc)
mark_sum_if (Some kind) bytes ok =
    sum_held (not (nat_eq (word_at bytes 4) (length bytes)) || not (marks.has_length kind (length bytes))) bad_mark.Length bad_mark.Sum bytes
    (if not (marks.is_sound_in kind bytes) then Err bad_mark.Field else Ok (marks.message_in kind bytes)) ok

pub mark_sum : (bytes : List ℕ) → IsOk (marks.reading bytes) → checksum bytes ≡ 0
unfolding marks.reading
mark_sum bytes ok =
    mark_sum_if (marks.kind_numbered (slice_index bytes 3)) bytes
    (kind_comes (nat_lt (length bytes) 16) (not (nat_eq (word_at bytes 0) 18006)) (not (nat_eq (slice_index bytes 2) 1)) bad_mark.Short bad_mark.Magic bad_mark.Version
    (marks.reading_if (marks.kind_numbered (slice_index bytes 3)) bytes) ok)

pub flipped_twin_is_refused_by : (grammar : Grammar) (bit : ℕ) (bytes : List ℕ) (d : TwinDatagram) → twins.reading_by grammar bytes ≡ Ok d → bit < 8 * length bytes
    → IsErr (twins.reading_by grammar (flipped bit bytes))
flipped_twin_is_refused_by grammar bit bytes d is within =
    refused (twins.reading_by grammar (flipped bit bytes))
    (λ ok. flip_is_seen bit bytes within (twin_sum grammar bytes (accepted is)) (twin_sum grammar (flipped bit bytes) ok))

pub flipped_twin_is_refused : (bit : ℕ) (bytes : List ℕ) (d : TwinDatagram) → twins.reading bytes ≡ Ok d → bit < 8 * length bytes → IsErr (twins.reading (flipped bit bytes))
flipped_twin_is_refused = flipped_twin_is_refused_by grammars.Plain

pub flipped_mark_is_refused : (bit : ℕ) (bytes : List ℕ) (m : MarkMessage) → marks.reading bytes ≡ Ok m → bit < 8 * length bytes → IsErr (marks.reading (flipped bit bytes))
flipped_mark_is_refused bit bytes m is within =
    refused (marks.reading (flipped bit bytes)) (λ ok. flip_is_seen bit bytes within (mark_sum bytes (accepted is)) (mark_sum (flipped bit bytes) ok))
