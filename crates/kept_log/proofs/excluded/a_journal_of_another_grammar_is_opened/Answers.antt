use Rattle.std.proofs.Common.{◌≡◌, ◌∙◌, refl, false, Result, Ok, Err, OnOk}
use Rattle.std.proofs.lemmas.Result.{on_ok_weaker}
use Rattle.std.specs.Result.{is_ok}
use Rattle.kept_log.proofs.excluded.a_journal_of_another_grammar_is_opened.Goals as goal

none_ok : {T E : Type 0} (r : Result T E) → OnOk r ⊥ → is_ok r ≡ false
none_ok (Ok x) never = absurd never
none_ok (Err e) never = refl

pub returns : goal.returns
returns g c =
    let (file, known, other) = c.requires in
    c.is_ok.ensures.value ∙ none_ok c.open.result (on_ok_weaker c.open.result (λ has. has file known other) c.open.ensures.has_grammar)
