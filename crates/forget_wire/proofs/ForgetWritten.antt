-- A header with its checksum, and the connection, are the one spelling of a message.
use Rattle.std.proofs.Common.{◌≡◌, ◌∙◌, ℕ, List, ◌++◌, ap, refl}
use Rattle.seq_arith.specs.Bytes.{two}
use Rattle.seq_arith.specs.Checksum.{checksum}
use Rattle.seq_arith.specs.Header.{headed}
use Rattle.seq_arith.specs.MessageGrammar.{number_bytes, numbers_bytes}
use Rattle.long_laws.specs.Forgetting.{ForgetMessage, named_of}
use Rattle.long_laws.specs.ForgetGrammar.{naming, numbers_of, kind_of, behind_header, spelled, spelling}
use Rattle.forget_wire.specs.Spelling.{header_of}

-- what follows the header has 14 bytes
headed_is : (m : ForgetMessage) (check : ℕ) → header_of (kind_of m.body) check m.boot ++ behind_header m.body ≡ spelled m check
unfolding header_of spelled headed two number_bytes
headed_is m check = refl

pub assembled : (m : ForgetMessage) (check : ℕ) (blank front named : List ℕ) → named ≡ numbers_bytes naming (numbers_of (named_of m.body))
    → blank ≡ header_of (kind_of m.body) 0 m.boot → check ≡ checksum (blank ++ named) → front ≡ header_of (kind_of m.body) check m.boot → front ++ named ≡ spelling m
unfolding spelling
assembled m check blank front named named_is blank_is check_is front_is =
    let zero : blank ++ named ≡ spelled m 0 = rw (blank_is, named_is) (headed_is m 0) in
    let sum : check ≡ checksum (spelled m 0) = check_is ∙ ap checksum zero in
    rw (front_is, named_is) (headed_is m check) ∙ ap (spelled m) sum
