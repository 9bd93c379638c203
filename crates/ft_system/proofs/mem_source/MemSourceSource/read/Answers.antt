-- The bytes that were left are those that the read moved, and after them those that it left.
use Rattle.std.proofs.Common.{◌≡◌, ℕ, ◌+◌, ◌<◌, min, List, [], ◌++◌, length, take, drop, sym, ap, ◌∙◌, arith, length-drop, take-append-drop, drop_of_length-le}
use Rattle.std.proofs.lemmas.List.{drop-drop}
use Rattle.ft_system.proofs.mem_source.MemSourceSource.read.Goals as goal

front_moved : (all left moved : List ℕ) (at n : ℕ) → drop at all ≡ left → take n moved ≡ take n left → left ≡ take n moved ++ drop (at + n) all
front_moved all left moved at n e copied =
    sym (take-append-drop n left) ∙ ap (λ l. l ++ drop n left) (sym copied)
    ∙ ap (λ l. take n moved ++ drop n l) (sym e) ∙ ap (λ l. take n moved ++ l) (drop-drop n at all)

none_left : (all left : List ℕ) (at n room : ℕ) → drop at all ≡ left → n ≡ min (length left) room → n ≡ 0 → 0 < room → drop (at + n) all ≡ []
none_left all left at n room e count zero some =
    let short = length-drop at all in
    let same = ap length e in
    drop_of_length-le all {i = at + n} (omega arith)

pub returns-clause-bytes : goal.returns-clause-bytes
returns-clause-bytes c =
    let left = ap (λ s. s.left) c.self.view_is in
    let gave = c.rest.ensures ∙ left in
    let count = c.copy_front-n.ensures.count in
    let copied = c.copy_front-n.ensures.copied ∙ ap (take c.copy_front-n.result) gave in
    (front_moved _ _ _ _ _ left copied, none_left _ _ _ _ _ (sym c.rest.ensures) count)
