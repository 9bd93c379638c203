-- Copies of words.
use Rattle.std.proofs.Common.{◌≡◌, List, [], ◌∷◌, map, ap, ◌∙◌, refl}
use Rattle.std.specs.declared.string.String.{String}
use Rattle.std.specs.String.{string_bytes}
use Rattle.std.specs.List.{AllZip}

-- words that were copied one by one have the same bytes
pub same_bytes : {Z : Type 0} (words copies : List (String Z)) → AllZip (λ word copy. string_bytes copy ≡ string_bytes word) words copies
    → map string_bytes copies ≡ map string_bytes words
same_bytes [] [] same = refl
same_bytes [] (copy ∷ copies) same = absurd same
same_bytes (word ∷ words) [] same = absurd same
same_bytes (word ∷ words) (copy ∷ copies) same =
    ap (λ first. first ∷ map string_bytes copies) same.0 ∙ ap (λ rest. string_bytes word ∷ rest) (same_bytes words copies same.1)
