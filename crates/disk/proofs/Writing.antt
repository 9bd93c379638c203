-- Writes one after the other, and what writes at a file's end make of it.
use Rattle.std.proofs.Common.{◌≡◌, ◌∙◌, ℕ, ◌+◌, ◌≤◌, refl, sym, ap, ap₂, Option, None, Some, List, ◌++◌, length, take, drop, append_assoc, length-append, arith}
use Rattle.std.proofs.lemmas.List.{length-take-le, take_all, take_at, drop-drop, drop_at, take-append-drop}
use Rattle.std.proofs.Math.Seq.{take-add}
use Rattle.disk.specs.FileContent.{written, written_in, HasPlace}

-- a write that begins where another one ended is one write of both
two_writes : (at : ℕ) (a b file : List ℕ) → at ≤ length file → written (at + length a) b (written at a file) ≡ written at (a ++ b) file
two_writes at a b file within =
    let front = take at file in
    let rest = drop (at + length a) file in
    let long : length (front ++ a) ≡ at + length a = length-append front a ∙ ap (λ n. n + length a) (length-take-le at file within) in
    let apart : front ++ (a ++ rest) ≡ (front ++ a) ++ rest = sym (append_assoc front a rest) in
    let first : take (at + length a) (front ++ (a ++ rest)) ≡ front ++ a = ap (take (at + length a)) apart ∙ take_at (front ++ a) rest (at + length a) long in
    let behind : drop (at + length a) (front ++ (a ++ rest)) ≡ rest = ap (drop (at + length a)) apart ∙ drop_at (front ++ a) rest (at + length a) long in
    let last : drop (at + length a + length b) (front ++ (a ++ rest)) ≡ drop (at + length (a ++ b)) file =
    sym (drop-drop (length b) (at + length a) (front ++ (a ++ rest))) ∙ (ap (drop (length b)) behind ∙ (drop-drop (length b) (at + length a) file
    ∙ ap (λ n. drop n file) (omega (arith, length-append a b)))) in
    ap₂ (λ x y. x ++ (b ++ y)) first last
    ∙ (append_assoc front a (b ++ drop (at + length (a ++ b)) file) ∙ ap (λ l. front ++ l) (sym (append_assoc a b (drop (at + length (a ++ b)) file))))

pub nothing_written : (at : ℕ) (bytes : List ℕ) (content : Option (List ℕ)) → HasPlace content at → content ≡ written_in at (take 0 bytes) content
nothing_written at bytes None there = refl
nothing_written at bytes (Some file) there =
    let none : at + 0 ≡ at = omega arith in
    ap Some (sym (ap (λ n. take at file ++ drop n file) none ∙ take-append-drop at file))

pub more_written : (at done more : ℕ) (bytes : List ℕ) (old mid new : Option (List ℕ)) → done ≤ length bytes → HasPlace old at → mid ≡ written_in at (take done bytes) old
    → new ≡ written_in (at + done) (take more (drop done bytes)) mid → new ≡ written_in at (take (done + more) bytes) old
more_written at done more bytes None mid new le there first then = then ∙ ap (written_in (at + done) (take more (drop done bytes))) first
more_written at done more bytes (Some file) mid new le there first then =
    let long : length (take done bytes) ≡ done = length-take-le done bytes le in
    let place : at + done ≡ at + length (take done bytes) = ap (λ n. at + n) (sym long) in
    then ∙ (ap (written_in (at + done) (take more (drop done bytes))) first
    ∙ ap Some (ap (λ n. written n (take more (drop done bytes)) (written at (take done bytes) file)) place
    ∙ (two_writes at (take done bytes) (take more (drop done bytes)) file there ∙ ap (λ l. written at l file) (sym (take-add done more bytes)))))

pub all_written : (at done : ℕ) (bytes : List ℕ) (old new : Option (List ℕ)) → length bytes ≤ done → new ≡ written_in at (take done bytes) old → new ≡ written_in at bytes old
all_written at done bytes old new all is = is ∙ ap (λ l. written_in at l old) (take_all done bytes all)
