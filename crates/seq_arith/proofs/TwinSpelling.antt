-- A spelling says its datagram between two loggers: each test of the grammar fails at it.
use Rattle.std.proofs.Common.{◌≡◌, ℕ, ◌<◌, ◌≤◌, ◌+◌, ◌^◌, true, false, not, List, length, drop, ap, refl, sym, arith, ◌∙◌}
use Rattle.std.specs.Prelude.{Some, Ok, slice_index, nat_eq, nat_le, nat_lt}
use Rattle.std.proofs.lemmas.Bool.{le-ltb, leb-true, eqb-true, and_parts}
use Rattle.seq_arith.specs.declared.kinds.Grammar.{Grammar}
use Rattle.seq_arith.specs.declared.twin.TwinKind.{TwinKind}
use Rattle.seq_arith.specs.declared.twin.TwinKind.TheVariants as kinds
use Rattle.seq_arith.specs.Bytes.{word_at}
use Rattle.seq_arith.specs.Checksum.{checksum}
use Rattle.seq_arith.specs.MessageGrammar.{number_in}
use Rattle.seq_arith.specs.TwinDatagram.{TwinDatagram}
use Rattle.seq_arith.specs.TwinDatagram.{TwinDatagram as datagrams}
use Rattle.seq_arith.specs.TwinGrammar.{kind_number, kind_numbered, has_length, is_sound_in, datagram_of, datagram_in, reading_of, reading_by, kind_of, number_of, behind_of, spelled, spelling, IsSpellableBy}
use Rattle.seq_arith.proofs.Headed.{headed_length, headed_behind, headed_number, headed_sums, headed_whole, headed_magic, headed_version, headed_kind}
use Rattle.seq_arith.proofs.Passing.{no_difference}

kind_back : (kind : TwinKind) → kind_numbered (kind_number kind) ≡ Some kind
unfolding kind_numbered
kind_back kinds.Forward = refl
kind_back kinds.Got = refl
kind_back kinds.Alone = refl

datagram_back : (d : TwinDatagram) → datagram_of (kind_of d) (number_of d) (behind_of d) ≡ d
datagram_back (datagrams.Forward number message) = refl
datagram_back (datagrams.Got number) = refl
datagram_back datagrams.Alone = refl

-- no datagram is longer than a Forward
pub bounded : (kind : TwinKind) (n : ℕ) → has_length kind n ≡ true → n ≤ 1507
unfolding has_length
bounded kinds.Forward n is = leb-true n 1507 (and_parts (nat_le 32 n) (nat_le n 1507) is).1
bounded kinds.Got n is = omega (arith, eqb-true n 16 is)
bounded kinds.Alone n is = omega (arith, eqb-true n 16 is)

pub length_of : (d : TwinDatagram) (check : ℕ) → length (spelled d check) ≡ 16 + length (behind_of d)
unfolding spelled
length_of d check = headed_length 85 (kind_number (kind_of d)) (number_of d) (behind_of d) check

number_read : (d : TwinDatagram) (check : ℕ) → number_of d < 256 ^ 8 → number_in 8 (drop 8 (spelled d check)) ≡ number_of d
unfolding spelled
number_read d check small = headed_number 85 (kind_number (kind_of d)) (number_of d) (behind_of d) check small

behind_read : (d : TwinDatagram) (check : ℕ) → drop 16 (spelled d check) ≡ behind_of d
unfolding spelled
behind_read d check = headed_behind 85 (kind_number (kind_of d)) (number_of d) (behind_of d) check

says : {grammar : Grammar} (d : TwinDatagram) (check : ℕ) → IsSpellableBy grammar d → datagram_in (kind_of d) (spelled d check) ≡ d
unfolding datagram_in
says d check spellable = rw (number_read d check spellable.number, behind_read d check) (datagram_back d)

sound : {grammar : Grammar} (d : TwinDatagram) (check : ℕ) → IsSpellableBy grammar d → is_sound_in grammar (kind_of d) (spelled d check) ≡ true
unfolding is_sound_in
sound d check spellable = rw (number_read d check spellable.number, behind_read d check) spellable.sound

-- the tests that hold of no spelling leave what it says
passes : (grammar : Grammar) (kind : TwinKind) (bytes : List ℕ) → nat_lt (length bytes) 16 ≡ false → not (nat_eq (word_at bytes 0) 18005) ≡ false
    → not (nat_eq (slice_index bytes 2) 1) ≡ false → kind_numbered (slice_index bytes 3) ≡ Some kind → not (nat_eq (word_at bytes 4) (length bytes)) ≡ false
    → has_length kind (length bytes) ≡ true → not (nat_eq (checksum bytes) 0) ≡ false → is_sound_in grammar kind bytes ≡ true → reading_by grammar bytes ≡ Ok (datagram_in kind bytes)
unfolding reading_by reading_of
passes grammar kind bytes long magic version is same size sum sound = rw (long, magic, version, is, same, size, sum, sound) refl

spelled_is_read : (grammar : Grammar) (d : TwinDatagram) (check : ℕ) → IsSpellableBy grammar d → check ≡ checksum (spelled d 0) → reading_by grammar (spelled d check) ≡ Ok d
unfolding spelled
spelled_is_read grammar d check spellable is =
    let number : ℕ = number_of d
    in let kind : ℕ = kind_number (kind_of d)
    in let behind : List ℕ = behind_of d
    in let long : length (spelled d check) ≡ 16 + length behind = length_of d check
    in let within : 16 + length behind ≤ 1507 = bounded (kind_of d) (16 + length behind) spellable.size
    in passes grammar (kind_of d) (spelled d check) (le-ltb (length (spelled d check)) 16 (omega arith)) (no_difference _ _ (headed_magic 85 kind number behind check))
    (no_difference _ _ (headed_version 85 kind number behind check)) (ap kind_numbered (headed_kind 85 kind number behind check) ∙ kind_back (kind_of d))
    (no_difference _ _ (headed_whole 85 kind number behind check (omega arith) ∙ sym long)) (ap (has_length (kind_of d)) long ∙ spellable.size)
    (no_difference _ _ (headed_sums 85 kind number behind check is)) (sound d check spellable) ∙ ap Ok (says d check spellable)

pub twin_is_read : {grammar : Grammar} (d : TwinDatagram) → IsSpellableBy grammar d → reading_by grammar (spelling d) ≡ Ok d
unfolding spelling
twin_is_read {grammar} d spellable = spelled_is_read grammar d (checksum (spelled d 0)) spellable refl
