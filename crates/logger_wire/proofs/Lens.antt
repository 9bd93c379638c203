-- Lengths of two bytes each.
use Rattle.std.proofs.Common.{◌≡◌, ℕ, zero, suc, ◌<◌, ◌≤◌, ◌+◌, ◌*◌, ◌/◌, ◌%◌, List, [], ◌∷◌, length, drop, refl, arith}
use Rattle.std.specs.Prelude.{slice_index}
use Rattle.seq_arith.specs.MessageGrammar.{lens_in, lens_bytes}
use Rattle.seq_arith.specs.Bytes.{two}
use Rattle.byteorder.specs.Endian.{big_number}

pub len_found : (bytes : List ℕ) (i : ℕ) → 2 * i + 1 < length bytes → big_number 2 (drop (2 * i) bytes) ≡ slice_index (lens_in bytes) i
len_found [] i h = absurd (omega arith)
len_found (high ∷ []) i h = absurd (omega arith)
len_found (high ∷ low ∷ bytes) zero h = omega arith
len_found (high ∷ low ∷ bytes) (suc i) h =
    let next : 2 * suc i ≡ suc (suc (2 * i)) = omega arith in rw next (len_found bytes i (omega arith))

pub lens_step : (bytes : List ℕ) → 2 ≤ length bytes → lens_in bytes ≡ big_number 2 bytes ∷ lens_in (drop 2 bytes)
lens_step [] h = absurd (omega arith)
lens_step (high ∷ []) h = absurd (omega arith)
lens_step (high ∷ low ∷ bytes) h =
    let first : 256 * high + low ≡ big_number 2 (high ∷ low ∷ bytes) = omega arith in cc first

pub lens_end : (bytes : List ℕ) → length bytes < 2 → lens_in bytes ≡ []
lens_end [] h = refl
lens_end (high ∷ []) h = refl
lens_end (high ∷ low ∷ bytes) h = absurd (omega arith)

-- the bytes of lengths are what the lengths were read from
pub lens_whole : (bytes : List ℕ) → ((i : ℕ) → slice_index bytes i < 256) → length bytes % 2 ≡ 0 → lens_bytes (lens_in bytes) ≡ bytes
unfolding two
lens_whole [] are even = refl
lens_whole (high ∷ []) are even = absurd (omega arith)
lens_whole (high ∷ low ∷ bytes) are even =
    let first : (256 * high + low) / 256 % 256 ≡ high = omega (arith, are 0, are 1)
    in let second : (256 * high + low) % 256 ≡ low = omega (arith, are 0, are 1)
    in cc (first, second, lens_whole bytes (λ i. are (suc (suc i))) (omega arith))
