-- A text that was appended, or a dash where it is empty.
use Rattle.std.proofs.Common.{◌≡◌, ℕ, zero, suc, ◌<◌, List, [], ◌∷◌, ◌++◌, length, take, drop, refl, sym, ap, ◌∙◌, arith, append_assoc}
use Rattle.std.proofs.Math.Seq.{take-length, drop-length, take-append_seam, drop-append_seam}
use Rattle.std.proofs.lemmas.List.{take-append-drop}
use Rattle.ft_model.specs.Texts.{or_dash}
use Rattle.ft_model.proofs.ReportParts.{or_dash_cons}

pub dash_for_none : (line new : List ℕ) (start : ℕ) → new ≡ line ++ 45 ∷ [] → length line ≡ start → new ≡ take start line ++ or_dash (drop start line)
dash_for_none line new start pushed e = pushed ∙ rw (← e) (rw (take-length line, drop-length line) refl)

or_dash_some : (text : List ℕ) → 0 < length text → or_dash text ≡ text
or_dash_some [] some = absurd (omega arith)
or_dash_some (x ∷ text) some = or_dash_cons x text

some_behind : (line : List ℕ) (start : ℕ) → start < length line → 0 < length (drop start line)
some_behind [] start behind = absurd (omega arith)
some_behind (x ∷ line) zero behind = omega arith
some_behind (x ∷ line) (suc start) behind = some_behind line start (omega arith)

pub itself_for_some : (line : List ℕ) (start : ℕ) → start < length line → line ≡ take start line ++ or_dash (drop start line)
itself_for_some line start behind =
    sym (take-append-drop start line) ∙ ap (λ text. take start line ++ text) (sym (or_dash_some (drop start line) (some_behind line start behind)))

-- what is kept and what was appended
pub ruleset seams = (take-append_seam, drop-append_seam, append_assoc)
