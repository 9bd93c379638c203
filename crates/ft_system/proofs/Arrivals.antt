-- Lists of which a front is used up.
use Rattle.std.proofs.Common.{◌≡◌, ℕ, ◌+◌, List, drop, sym}
use Rattle.std.proofs.lemmas.List.{drop-drop}

-- one element more is used up
pub drop_next : {A : Type 0} → (count : ℕ) (list : List A) → drop (count + 1) list ≡ drop 1 (drop count list)
drop_next count list = sym (drop-drop 1 count list)
