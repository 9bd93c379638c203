-- A further receive of a round waits only if it is the first.
use Rattle.std.proofs.Common.{◌≡◌, ◌∙◌, ℕ, zero, suc, Bool, true, false, ◌+◌, ◌==◌, refl, sym, ap, subst, arith, Option, List, [], ◌∷◌, ◌++◌, replicate}
use Rattle.std.proofs.Math.Numerals.{add-one}
use Rattle.std.proofs.lemmas.Bool.Decides.{nat_tests}
use Rattle.std.proofs.lemmas.List.{replicate_more}
use Rattle.ft_io.specs.Reported.{Reports}
use Rattle.ft_io.proofs.Recordings.{reports_on, none_reported}
use Rattle.journal_parts.specs.Waits.{waits_in}

is_not_first : (more : ℕ) → (suc more == 0) ≡ false
is_not_first more = grind (arith, nat_tests)

waits_more : (count : ℕ) → waits_in count ++ (count == 0) ∷ [] ≡ waits_in (count + 1)
waits_more zero = refl
waits_more (suc more) =
    ap (λ b. (true ∷ replicate more false) ++ b ∷ []) (is_not_first more)
    ∙ (ap (λ l. true ∷ l) (replicate_more more false ∙ ap (λ n. replicate n false) (add-one more)) ∙ ap waits_in (sym (add-one (suc more))))

pub waited_on : (count : ℕ) (old mid new : Option (List Bool)) → Reports old mid (waits_in count) → Reports mid new ((count == 0) ∷ []) → Reports old new (waits_in (count + 1))
waited_on count old mid new before last = subst (Reports old new) (waits_more count) (reports_on old mid new (waits_in count) ((count == 0) ∷ []) before last)

pub none_waited : (waits : Option (List Bool)) → Reports waits waits (waits_in 0)
none_waited waits = none_reported waits
