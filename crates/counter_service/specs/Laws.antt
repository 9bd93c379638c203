-- What the traits require of Counter: the output of a chunk is short and consists of bytes, and the saved form is read back.
use Rattle.std.proofs.Common.{ℕ, ◌*◌, ◌^◌, ◌<◌, ◌≤◌, ◌==◌, Bool, true, false, List, [], ◌∷◌, ◌++◌, length, refl, sym, ap, ◌∙◌, arith, length-append}
use Rattle.std.specs.Prelude.{decimal, codes, IsAscii, if◌then◌else◌}
use Rattle.std.proofs.lemmas.Fmt.{length-decimal-le, IsAscii-decimal}
use Rattle.std.proofs.lemmas.Str.{IsAscii-append}
use Rattle.std.proofs.lemmas.List.Elements.{All-from_get_or, recursion_from_All}
use Rattle.std.specs.Int.{w64, from_be_bytes}
use Rattle.std.proofs.lemmas.Nat.{from_be_bytes-to_be_bytes_8, be_bytes_8}
use Rattle.ft_io.proofs.Choices.{same_some}
use Rattle.server_trait.specs.Service.{AreBytes, WritesBytes, fold}
use Rattle.server_trait.specs.Saved.{writing, ReadsBack, HasOneForm}
use Rattle.sample_servers.specs.WrittenBytes.{IsServed, bytes_fold, run_kept}
use Rattle.sample_servers.specs.ReadBack.{when_some, bytes_at, bytes_of_64}
use Rattle.counter_service.specs.declared.counter.Counter.{Counter}
use Rattle.counter_service.specs.Counter.{counted, answer, count_after, answers, counter_after, counter_machine, counter_form, counter_of}

-- a byte is answered by at most 20 digits and a line feed
length-answer-le : (count byte : ℕ) → length (answer (counted count) byte) ≤ 21
length-answer-le count byte =
    let digits : length (decimal (counted count)) ≤ 20 = length-decimal-le 20 (counted count) (omega arith) (omega arith) (omega arith) in
    grind (arith, length-append {A = ℕ})

length-answers-le : (count : ℕ) (bytes : List ℕ) → length (answers count bytes) ≤ 21 * length bytes
length-answers-le count [] = omega arith
length-answers-le count (byte ∷ bytes) =
    let first = length-answer-le count byte in
    let more = length-answers-le (counted count) bytes in
    grind (arith, length-append {A = ℕ})

pub length-counter_after-le : (s : Counter) (chunk : List ℕ) → length chunk ≤ 2048 → length (counter_after s chunk).output ≤ 2 ^ 20
length-counter_after-le s chunk short = let most = length-answers-le s.count chunk in omega arith

ascii-if : (b : Bool) (text : List ℕ) → IsAscii text → IsAscii (if b then text else [])
ascii-if true text ascii = ascii
ascii-if false text ascii = λ i. omega arith

ascii-answer : (count byte : ℕ) → IsAscii (answer (counted count) byte)
ascii-answer count byte =
    let digits : IsAscii (decimal (counted count)) = IsAscii-decimal (counted count) (omega arith) in
    let feed : IsAscii (codes "\n") = λ i. grind arith in
    ascii-if (byte == 10) (decimal (counted count) ++ codes "\n") (IsAscii-append (decimal (counted count)) (codes "\n") digits feed)

ascii-answers : (count : ℕ) (bytes : List ℕ) → IsAscii (answers count bytes)
ascii-answers count [] = λ i. omega arith
ascii-answers count (byte ∷ bytes) =
    IsAscii-append (answer (counted count) byte) (answers (counted count) bytes) (ascii-answer count byte) (ascii-answers (counted count) bytes)

bytes-ascii : (text : List ℕ) → IsAscii text → AreBytes text
bytes-ascii text ascii =
    recursion_from_All (λ n. n < 256) text (All-from_get_or (λ n. n < 256) text 0 (λ i within. let below = ascii i in omega arith))

-- the count fits in 64 bits
abbrev pub IsCounter : Counter → Type 0
IsCounter s = s.count < 2 ^ 64

small-count_after : (count : ℕ) (bytes : List ℕ) → count < 2 ^ 64 → count_after count bytes < 2 ^ 64
small-count_after count [] small = small
small-count_after count (byte ∷ bytes) small = small-count_after (counted count) bytes (omega arith)

served : (s : Counter) (chunk : List ℕ) → IsCounter s → AreBytes chunk → IsServed IsCounter (counter_after s chunk)
served s chunk small given = (bytes-ascii (answers s.count chunk) (ascii-answers s.count chunk), small-count_after s.count chunk small)

pub bytes-counter : WritesBytes counter_machine
bytes-counter = bytes_fold counter_machine IsCounter tt (omega arith) served

pub counter_reads_back : ReadsBack counter_machine (writing counter_form counter_of)
counter_reads_back chunks given running =
    let s = (fold counter_machine chunks).state in
    let small : s.count < 2 ^ 64 = (run_kept counter_machine IsCounter tt (omega arith) served chunks given).1 in
    record { same = rw (from_be_bytes-to_be_bytes_8 s.count small) refl; short = omega arith; bytes = bytes_of_64 s.count }

pub counter_one_form : HasOneForm (writing counter_form counter_of)
counter_one_form bytes s given same =
    let there = when_some (length bytes == 8) (record { count = from_be_bytes w64 bytes }) s same in
    ap counter_form (sym (same_some there.1))
    ∙ be_bytes_8 bytes (from_be_bytes w64 bytes) (let eight = there.0 in grind arith) (bytes_at bytes given) refl
