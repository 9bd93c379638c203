-- What a write and a cut make of a file that ends where its disk takes it to end.
use Rattle.std.proofs.Common.{◌≡◌, ◌∙◌, ℕ, ◌+◌, ◌-◌, min, max, sym, ap, ap₂, subst, Option, None, Some, List, [], ◌∷◌, ◌++◌, length, take, drop, append-nil, length-append, length-drop, drop_of_length-le, arith}
use Rattle.std.proofs.lemmas.List.{length-take, take_all, take_min, drop_min}
use Rattle.std.specs.Prelude.{option_map, false}
use Rattle.disk.specs.FileContent.{written, written_in, HasPlace, EndsAt, Becomes}
use Rattle.disk.specs.declared.calls.DiskCall.TheVariants.{Appended, Put, Cut}

has_end : (content : Option (List ℕ)) (count : ℕ) → EndsAt content count → HasPlace content count
has_end None count ends = tt
has_end (Some file) count ends = omega (arith, ends)

pub appended : (old new : Option (List ℕ)) (count : ℕ) (bytes : List ℕ) → (HasPlace old count → new ≡ written_in count bytes old) → Becomes old count new (count + length bytes) (Appended bytes false)
appended None new count bytes is ends = (is tt, subst (λ c. EndsAt c (count + length bytes)) (sym (is tt)) tt)
appended (Some file) new count bytes is ends =
    let now = is (has_end (Some file) count ends) in
    let rest : drop (count + length bytes) file ≡ [] = drop_of_length-le file {i = count + length bytes} (omega (arith, ends)) in
    let all : written count bytes file ≡ file ++ bytes =
    ap₂ (λ x y. x ++ (bytes ++ y)) (take_all count file (omega (arith, ends))) rest ∙ ap (λ l. file ++ l) (append-nil bytes) in
    (now ∙ ap Some all, subst (λ c. EndsAt c (count + length bytes)) (sym (now ∙ ap Some all)) (length-append file bytes ∙ ap (λ n. n + length bytes) ends))

pub put : (old new : Option (List ℕ)) (count at : ℕ) (byte : ℕ) → (HasPlace old (min at count) → new ≡ written_in (min at count) (byte ∷ []) old)
    → Becomes old count new (max count (min at count + 1)) (Put at byte false)
put None new count at byte is ends = (is tt, subst (λ c. EndsAt c (max count (min at count + 1))) (sym (is tt)) tt)
put (Some file) new count at byte is ends =
    let now = is (omega (arith, ends)) in
    let front : take (min at count) file ≡ take at file = ap (λ n. take (min at n) file) (sym ends) ∙ take_min at file in
    let rest : drop (min at count + 1) file ≡ drop (at + 1) file = same_rest file at count ends in
    let all : written (min at count) (byte ∷ []) file ≡ take at file ++ byte ∷ drop (at + 1) file = ap₂ (λ x y. x ++ byte ∷ y) front rest in (
      now ∙ ap Some all,
      subst (λ c. EndsAt c (max count (min at count + 1))) (sym (now ∙ ap Some all))
          (length-append (take at file) (byte ∷ drop (at + 1) file) ∙ omega (arith, length-take at file, length-drop (at + 1) file, ends)),
    )
  where
    same_rest : (file : List ℕ) (at count : ℕ) → length file ≡ count → drop (min at count + 1) file ≡ drop (at + 1) file
    same_rest file at count ends =
        sym (drop_min (min at count + 1) file) ∙ (ap (λ n. drop n file) (omega (arith, ends)) ∙ drop_min (at + 1) file)

pub cut : (old new : Option (List ℕ)) (count at : ℕ) → new ≡ option_map (take (min at count)) old → Becomes old count new (min at count) (Cut at false)
cut None new count at is ends = (is, subst (λ c. EndsAt c (min at count)) (sym is) tt)
cut (Some file) new count at is ends =
    let front : take (min at count) file ≡ take at file = ap (λ n. take (min at n) file) (sym ends) ∙ take_min at file in
    (is ∙ ap Some front, subst (λ c. EndsAt c (min at count)) (sym is) (length-take (min at count) file ∙ omega (arith, ends)))
