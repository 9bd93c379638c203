-- What a write into the middle of a slice leaves.
use Rattle.std.proofs.Common.{◌≡◌, ℕ, ◌≤◌, ◌+◌, ◌-◌, List, [], ◌++◌, length, take, drop, ap, sym, arith, append_assoc, append-nil, ◌∙◌}
use Rattle.std.proofs.lemmas.List.{take_rest, drop-drop, drop_all}
use borrow.Rule.Slice.PartMut.{put_mid, post_of}
use Rattle.segment_codec.specs.Change.{put}

pub placed : (at : ℕ) (bytes new part : List ℕ) → at + length new ≤ length bytes
    → part ≡ new ++ drop (length new) (take (length bytes - at) (drop at bytes))
    → put_mid at (length bytes - at) bytes part ≡ put at new bytes
unfolding put
placed at bytes new part within is =
    let rest : part ≡ new ++ drop (at + length new) bytes = is ∙ ap (λ xs. new ++ drop (length new) xs) (take_rest bytes at) ∙ ap (λ xs. new ++ xs) (drop-drop (length new) at bytes)
    in let gone : post_of at (length bytes - at) bytes ≡ [] =
    drop-drop (length bytes - at) at bytes ∙ drop_all (at + (length bytes - at)) bytes (omega arith)
    in ap (λ xs. take at bytes ++ xs) (ap (λ xs. part ++ xs) gone ∙ append-nil part ∙ rest) ∙ sym (append_assoc (take at bytes) new (drop (at + length new) bytes))

pub placed_all : (at : ℕ) (bytes new part : List ℕ) → part ≡ new → put_mid at (at + length new - at) bytes part ≡ put at new bytes
unfolding put
placed_all at bytes new part is =
    let rest : post_of at (at + length new - at) bytes ≡ drop (at + length new) bytes =
    let count : at + (at + length new - at) ≡ at + length new = omega arith
    in drop-drop (at + length new - at) at bytes ∙ ap (λ n. drop n bytes) count
    in ap (λ xs. take at bytes ++ (xs ++ post_of at (at + length new - at) bytes)) is
    ∙ ap (λ xs. take at bytes ++ (new ++ xs)) rest ∙ sym (append_assoc (take at bytes) new (drop (at + length new) bytes))
