-- What is known after a message that isn't about marks, where no mark is awaited.
use Rattle.std.proofs.Common.{◌≡◌, true, false, true≢false, Option, Some, None, MatchOption, option_map, refl, ap, sym}
use Rattle.reincarnate.specs.declared.marks.Marks.{Marks}
use Rattle.reincarnate.specs.Questions.{FetchingState, noted}

-- an answer
pub answer_noted : {S : Type 0} (o : Option (FetchingState S)) (code : Marks) (s t : FetchingState S) → MatchOption o ((true ≡ false) × (t ≡ s)) (λ x. (true ≡ true) × (t ≡ x))
    → MatchOption (option_map (noted code) o) ((true ≡ false) × (noted code t ≡ s)) (λ x. (true ≡ true) × (noted code t ≡ x))
answer_noted None code s t m = absurd (true≢false m.0)
answer_noted (Some x) code s t m = (refl, ap (noted code) m.1)

-- no answer
pub nothing_noted : {S : Type 0} (o : Option (FetchingState S)) (code : Marks) (s t : FetchingState S) → MatchOption o ((false ≡ false) × (t ≡ s)) (λ x. (false ≡ true) × (t ≡ x))
    → MatchOption (option_map (noted code) o) ((false ≡ false) × (t ≡ s)) (λ x. (false ≡ true) × (t ≡ x))
nothing_noted None code s t m = m
nothing_noted (Some x) code s t m = absurd (true≢false (sym m.0))
