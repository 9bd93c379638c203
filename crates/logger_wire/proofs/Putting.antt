-- Numbers written one after the other, each where the one before it ends, are the bytes that the grammar gives them.
use Rattle.std.proofs.Common.{◌≡◌, ℕ, ◌≤◌, ◌+◌, List, [], ◌∷◌, ◌++◌, length, length-append, length-drop, length-take-le, take, drop, refl, ap, sym, arith, append-nil, add-zero, ◌∙◌}
use Rattle.std.proofs.lemmas.List.{take-append-drop}
use Rattle.seq_arith.specs.declared.kinds.Field.{Field}
use Rattle.seq_arith.specs.Message.{Body}
use Rattle.seq_arith.specs.MessageGrammar.{width, number_bytes, numbers_bytes, fields_length, fields_of, behind_at, kind_of, numbers_of, behind_of, message_length}
use Rattle.seq_arith.proofs.MessageSpelling.{number_length}
use Rattle.logger_wire.specs.Spelling.{put, body_bytes}
use Rattle.logger_wire.proofs.OneSpelling.{size}
use Rattle.logger_wire.proofs.Placing.{put_put}

abbrev pub put_numbers : List Field → (at : ℕ) → (numbers out : List ℕ) → List ℕ
put_numbers [] at numbers out = out
put_numbers (field ∷ rest) at [] out = out
put_numbers (field ∷ rest) at (n ∷ numbers) out = put_numbers rest (at + width field) numbers (put at (number_bytes (width field) n) out)

put_nothing : (at : ℕ) (out : List ℕ) → put at [] out ≡ out
unfolding put
put_nothing at out = rw (append-nil (take at out), add-zero at) (take-append-drop at out)

put_length : (at : ℕ) (new out : List ℕ) → at + length new ≤ length out → length (put at new out) ≡ length out
unfolding put
put_length at new out room =
    let whole : length (put at new out) ≡ length ((take at out ++ new) ++ drop (at + length new) out) = refl
    in omega (
      arith,
      whole,
      length-append (take at out ++ new) (drop (at + length new) out),
      length-append (take at out) new,
      length-take-le at out (omega arith),
      length-drop (at + length new) out,
    )

fits : (fields : List Field) (numbers : List ℕ) → length (numbers_bytes fields numbers) ≤ fields_length fields
fits [] numbers = omega arith
fits (field ∷ rest) [] = omega arith
fits (field ∷ rest) (n ∷ numbers) =
    omega (arith, length-append (number_bytes (width field) n) (numbers_bytes rest numbers), number_length (width field) n, fits rest numbers)

pub numbers_put : (fields : List Field) (at : ℕ) (numbers out : List ℕ) → at + fields_length fields ≤ length out
    → put_numbers fields at numbers out ≡ put at (numbers_bytes fields numbers) out
numbers_put [] at numbers out room = sym (put_nothing at out)
numbers_put (field ∷ rest) at [] out room = sym (put_nothing at out)
numbers_put (field ∷ rest) at (n ∷ numbers) out room =
    let first : List ℕ = number_bytes (width field) n
    in let long : length first ≡ width field = number_length (width field) n
    in let same : length (put at first out) ≡ length out = put_length at first out (omega arith)
    in numbers_put rest (at + width field) numbers (put at first out) (omega arith)
    ∙ put_put at (at + width field) first (numbers_bytes rest numbers) out (omega arith) (omega (arith, fits rest numbers))

-- the numbers of a body, behind the header
abbrev pub fields_bytes : Body → List ℕ
fields_bytes body = numbers_bytes (fields_of (kind_of body)) (numbers_of body)

abbrev pub put_fields : Body → List ℕ → List ℕ
put_fields body out = put_numbers (fields_of (kind_of body)) 16 (numbers_of body) out

pub fields_put : (body : Body) (out : List ℕ) → behind_at (kind_of body) ≤ length out → put_fields body out ≡ put 16 (fields_bytes body) out
fields_put body out room = numbers_put (fields_of (kind_of body)) 16 (numbers_of body) out room

-- and all that follows the header: nothing more, or bytes behind the numbers
pub fields_are_all : (body : Body) (out : List ℕ) → behind_of body ≡ [] → behind_at (kind_of body) ≤ length out → put_fields body out ≡ put 16 (body_bytes body) out
unfolding body_bytes
fields_are_all body out nothing room =
    fields_put body out room
    ∙ ap (λ xs. put 16 xs out) (sym (ap (λ xs. fields_bytes body ++ xs) nothing ∙ append-nil (fields_bytes body)))

pub behind_put : (body : Body) (out : List ℕ) → message_length body ≤ length out
    → put (behind_at (kind_of body)) (behind_of body) (put 16 (fields_bytes body) out) ≡ put 16 (body_bytes body) out
unfolding body_bytes
behind_put body out room =
    let ends : behind_at (kind_of body) ≡ 16 + length (fields_bytes body) = omega (arith, size body, length-append (fields_bytes body) (behind_of body))
    in put_put 16 (behind_at (kind_of body)) (fields_bytes body) (behind_of body) out ends room

pub body_put : (body : Body) (out : List ℕ) → message_length body ≤ length out
    → put (behind_at (kind_of body)) (behind_of body) (put_fields body out) ≡ put 16 (body_bytes body) out
body_put body out room =
    ap (put (behind_at (kind_of body)) (behind_of body)) (fields_put body out (omega arith)) ∙ behind_put body out room
