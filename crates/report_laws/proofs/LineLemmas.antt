-- The lines of a text make up the text, and a trace has as many moments as events.
use Rattle.std.proofs.Common.{◌≡◌, ℕ, ◌+◌, ◌==◌, Bool, true, false, refl, ap, ◌∙◌, arith, List, [], ◌∷◌, ◌++◌, length, length-append, if◌then◌else◌}
use Rattle.std.specs.List.{concat}
use Rattle.ft_model.specs.World.{Moment, events_of}
use Rattle.report_laws.specs.Lines.{lines_in, onto_first}

-- the lines of a text make up the text
pub lines_join : (text : List ℕ) → concat (lines_in text) ≡ text
unfolding lines_in
lines_join [] = refl
lines_join (c ∷ text) = by_feed (c == 10) (lines_in text) ∙ ap (λ t. c ∷ t) (lines_join text)
  where
    front : (lines : List (List ℕ)) → concat (onto_first c lines) ≡ c ∷ concat lines
    front [] = refl
    front (line ∷ lines) = refl

    by_feed : (b : Bool) (lines : List (List ℕ)) → concat (if b then (c ∷ []) ∷ lines else onto_first c lines) ≡ c ∷ concat lines
    by_feed true lines = refl
    by_feed false lines = front lines

pub events_count : (trace : List Moment) → length (events_of trace) ≡ length trace
events_count [] = refl
events_count (m ∷ earlier) =
    let more : length (events_of earlier ++ m.event ∷ []) ≡ length (events_of earlier) + 1 = length-append (events_of earlier) (m.event ∷ []) in
    let before : length (events_of earlier) ≡ length earlier = events_count earlier in
    omega (arith, more, before)
