-- What a write at a place of a slice leaves, and writes one after the other. With the first bytes written out, writes at constant places compute.
use Rattle.std.proofs.Common.{◌≡◌, ℕ, zero, suc, ◌≤◌, ◌<◌, ◌%◌, ◌+◌, ◌-◌, Bool, true, false, List, [], ◌∷◌, ◌++◌, length, length-append, length-take-le, take, drop, get_or, ap, refl, sym, subst, arith, append_assoc, append-nil, ◌∙◌}
use Rattle.std.proofs.lemmas.List.{take_rest, drop-drop, drop_all}
use Rattle.std.proofs.Math.Seq.{take-append_seam, drop-append-add}
use borrow.Rule.Slice.PartMut.{put_mid, post_of}
use mir.Val.{bool_byte}
use Rattle.seq_arith.specs.MessageGrammar.{number_bytes, flag}
use Rattle.logger_wire.specs.Spelling.{put}

pub placed : (at : ℕ) (bytes new part : List ℕ) → at + length new ≤ length bytes
    → part ≡ new ++ drop (length new) (take (length bytes - at) (drop at bytes))
    → put_mid at (length bytes - at) bytes part ≡ put at new bytes
unfolding put
placed at bytes new part within is =
    let rest : part ≡ new ++ drop (at + length new) bytes =
    is ∙ ap (λ xs. new ++ drop (length new) xs) (take_rest bytes at) ∙ ap (λ xs. new ++ xs) (drop-drop (length new) at bytes)
    in let gone : post_of at (length bytes - at) bytes ≡ [] =
    drop-drop (length bytes - at) at bytes ∙ drop_all (at + (length bytes - at)) bytes (omega arith)
    in ap (λ xs. take at bytes ++ xs) (ap (λ xs. part ++ xs) gone ∙ append-nil part ∙ rest) ∙ sym (append_assoc (take at bytes) new (drop (at + length new) bytes))

pub placed_all : (at : ℕ) (bytes new part : List ℕ) → part ≡ new → put_mid at (at + length new - at) bytes part ≡ put at new bytes
unfolding put
placed_all at bytes new part is =
    let rest : post_of at (at + length new - at) bytes ≡ drop (at + length new) bytes =
    let count : at + (at + length new - at) ≡ at + length new = omega arith
    in drop-drop (at + length new - at) at bytes ∙ ap (λ n. drop n bytes) count
    in ap (λ xs. take at bytes ++ (xs ++ post_of at (at + length new - at) bytes)) is
    ∙ ap (λ xs. take at bytes ++ (new ++ xs)) rest ∙ sym (append_assoc (take at bytes) new (drop (at + length new) bytes))

pub flag_byte : (is_set : Bool) → (bool_byte is_set ∷ []) ≡ number_bytes 1 (flag is_set)
unfolding number_bytes
flag_byte true = refl
flag_byte false = refl

pub byte_bytes : (n : ℕ) → n < 256 → (n ∷ []) ≡ number_bytes 1 n
unfolding number_bytes
byte_bytes n small = let same : n ≡ n % 256 = omega (arith, small) in cc same

-- the first n bytes written out
abbrev front : ℕ → List ℕ → List ℕ
front zero bytes = bytes
front (suc n) bytes = get_or bytes 0 0 ∷ front n (drop 1 bytes)

front_is : (n : ℕ) (bytes : List ℕ) → n ≤ length bytes → front n bytes ≡ bytes
front_is zero bytes h = refl
front_is (suc n) [] h = absurd (omega arith)
front_is (suc n) (byte ∷ bytes) h = ap (λ xs. byte ∷ xs) (front_is n bytes (omega arith))

pub by_cells : (n : ℕ) (P : List ℕ → Type 0) (bytes : List ℕ) → n ≤ length bytes → P (front n bytes) → P bytes
by_cells n P bytes long holds = subst P (front_is n bytes long) holds

-- two strings put one after the other are one
pub put_put : (at next : ℕ) (a b out : List ℕ) → next ≡ at + length a → next + length b ≤ length out → put next b (put at a out) ≡ put at (a ++ b) out
unfolding put
put_put at next a b out is within =
    let head : length (take at out ++ a) ≡ next =
    simp (length-append, length-take-le at out (omega arith)) (sym is)
    in let front : take next (take at out ++ a ++ drop (at + length a) out) ≡ take at out ++ a =
    ap (λ n. take n (take at out ++ a ++ drop (at + length a) out)) (sym head) ∙ take-append_seam (take at out ++ a) (drop (at + length a) out)
    in let count : at + length a + length b ≡ at + length (a ++ b) = omega (arith, length-append a b)
    in let rest : drop (next + length b) (take at out ++ a ++ drop (at + length a) out) ≡ drop (at + length (a ++ b)) out =
    ap (λ n. drop (n + length b) (take at out ++ a ++ drop (at + length a) out)) (sym head)
    ∙ drop-append-add (take at out ++ a) (drop (at + length a) out) (length b)
    ∙ drop-drop (length b) (at + length a) out ∙ ap (λ n. drop n out) count
    in ap (λ xs. xs ++ b ++ drop (next + length b) (put at a out)) front ∙ ap (λ xs. take at out ++ a ++ b ++ xs) rest
    ∙ ap (λ xs. xs ++ drop (at + length (a ++ b)) out) (append_assoc (take at out) a b)
