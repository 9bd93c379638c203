-- What stands in a header is read where it was put, and a header with its checksum holds it.
use Rattle.std.proofs.Common.{◌≡◌, ℕ, ◌<◌, ◌+◌, ◌^◌, List, length, take, drop, refl, arith}
use Rattle.std.specs.Prelude.{slice_index}
use Rattle.seq_arith.specs.Bytes.{two, word_at}
use Rattle.seq_arith.specs.Checksum.{checksum}
use Rattle.seq_arith.specs.Header.{headed}
use Rattle.seq_arith.specs.MessageGrammar.{number_bytes, number_in}
use Rattle.seq_arith.proofs.MessageSpelling.{number_back}
use Rattle.seq_arith.proofs.Spelling.{word_back}
use Rattle.seq_arith.proofs.Sums.{checked_in_place}

pub headed_length : (magic kind number : ℕ) (behind : List ℕ) (check : ℕ) → length (headed magic kind number behind check) ≡ 16 + length behind
unfolding headed two number_bytes
headed_length magic kind number behind check = omega arith

pub headed_behind : (magic kind number : ℕ) (behind : List ℕ) (check : ℕ) → drop 16 (headed magic kind number behind check) ≡ behind
unfolding headed two number_bytes
headed_behind magic kind number behind check = refl

pub headed_number : (magic kind number : ℕ) (behind : List ℕ) (check : ℕ) → number < 256 ^ 8 → number_in 8 (drop 8 (headed magic kind number behind check)) ≡ number
unfolding headed two
headed_number magic kind number behind check small = number_back 8 number behind small

pub headed_sums : (magic kind number : ℕ) (behind : List ℕ) (check : ℕ) → check ≡ checksum (headed magic kind number behind 0)
    → checksum (headed magic kind number behind check) ≡ 0
unfolding headed two
headed_sums magic kind number behind check is =
    checked_in_place (take 6 (headed magic kind number behind 0)) (drop 8 (headed magic kind number behind 0)) check refl is

pub headed_whole : (magic kind number : ℕ) (behind : List ℕ) (check : ℕ) → 16 + length behind < 2 ^ 16
    → word_at (headed magic kind number behind check) 4 ≡ 16 + length behind
unfolding headed two word_at
headed_whole magic kind number behind check small = word_back (16 + length behind) small

pub headed_magic : (magic kind number : ℕ) (behind : List ℕ) (check : ℕ) → word_at (headed magic kind number behind check) 0 ≡ 17920 + magic
unfolding headed two word_at
headed_magic magic kind number behind check = refl

pub headed_version : (magic kind number : ℕ) (behind : List ℕ) (check : ℕ) → slice_index (headed magic kind number behind check) 2 ≡ 1
unfolding headed two
headed_version magic kind number behind check = refl

pub headed_kind : (magic kind number : ℕ) (behind : List ℕ) (check : ℕ) → slice_index (headed magic kind number behind check) 3 ≡ kind
unfolding headed two
headed_kind magic kind number behind check = refl
