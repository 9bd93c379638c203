-- The numbers of the kit's reader and writer are the grammar's.
use Rattle.std.proofs.Common.{◌≡◌, ℕ, zero, suc, ◌<◌, ◌+◌, ◌^◌, List, drop, get_or, add-zero, ap, refl, sym, arith, ◌∙◌}
use Rattle.std.specs.Prelude.{slice_index}
use Rattle.std.proofs.lemmas.List.{drop-drop, get_or-drop}
use Rattle.seq_arith.specs.MessageGrammar.{number_from, number_in}
use Rattle.byteorder.specs.Endian.{big_from, big_number}
use Rattle.byteorder.specs.Numbers.{big_from-lt}

big_at : (at width : ℕ) (bytes : List ℕ) → big_from at width bytes ≡ number_from width (drop at bytes)
big_at at zero bytes = refl
big_at at (suc width) bytes =
    let first : slice_index bytes at ≡ slice_index (drop at bytes) 0 = sym (get_or-drop at bytes 0 0 ∙ ap (λ n. get_or bytes n 0) (add-zero at))
    in let next : suc at ≡ at + 1 = omega arith
    in let rest : drop (suc at) bytes ≡ drop 1 (drop at bytes) = ap (λ n. drop n bytes) next ∙ sym (drop-drop 1 at bytes)
    in let later : big_from (suc at) width bytes ≡ number_from width (drop 1 (drop at bytes)) = big_at (suc at) width bytes ∙ ap (number_from width) rest
    in cc (first, later)

pub byte_is : (bytes : List ℕ) (at : ℕ) → slice_index bytes at ≡ number_in 1 (drop at bytes)
unfolding number_in
byte_is bytes at =
    let same : slice_index (drop at bytes) 0 ≡ slice_index bytes at = get_or-drop at bytes 0 0 ∙ ap (λ n. get_or bytes n 0) (add-zero at) in omega (arith, same)

-- every byte is below 256
abbrev pub AreBytes : List ℕ → Type 0
AreBytes bytes = (i : ℕ) → slice_index bytes i < 256

pub bytes_left : (n : ℕ) (bytes : List ℕ) → AreBytes bytes → AreBytes (drop n bytes)
bytes_left n bytes are i = let same : slice_index (drop n bytes) i ≡ slice_index bytes (n + i) = get_or-drop n bytes i 0 in omega (arith, are (n + i))

pub number_small : (width : ℕ) (bytes : List ℕ) → AreBytes bytes → number_in width bytes < 256 ^ width
unfolding number_in
number_small width bytes are = let same : big_number width bytes ≡ number_from width bytes = big_at 0 width bytes in omega (arith, same, big_from-lt 0 width bytes are)
