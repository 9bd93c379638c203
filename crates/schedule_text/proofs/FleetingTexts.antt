-- A reader without lasting servers reads what the grammar reads: where it has no objection, no line says `lasting`.
use Rattle.std.proofs.Common.{◌≡◌, ℕ, ◌+◌, List, [], ◌∷◌, length, refl, sym, ap, ◌∙◌, Bool, true, false}
use Rattle.std.specs.Prelude.{Option, None, Some, Result, Ok, Err, nat_le, if◌then◌else◌}
use Rattle.ft_model.specs.Words.{lines_of}
use Rattle.ft_model.specs.Grammar.{◌>>=◌, Refusal, no_objection, unless_objected, line_of, with_line, is_passed_over, is_too_much, at_line, after_line, read_lines, read_with, read_text}
use Rattle.ft_model.specs.Grammar.Refusal.{TooLong}
use Rattle.ft_model.specs.declared.line.Draft.{Draft}
use Rattle.ft_model.specs.declared.line.Draft.TheVariants.{Empty, Named, Begun}
use Rattle.ft_model.specs.declared.line.Line.{Line}
use Rattle.ft_model.specs.declared.line.Line.TheVariants as line
use Rattle.ft_model.specs.declared.schedule.Limit.TheVariants as limit
use Rattle.ft_model.specs.declared.schedule.LineWhy.{LineWhy}
use Rattle.ft_model.specs.declared.schedule.Schedule.{Schedule}
use Rattle.ft_model.proofs.AcceptedLemmas.{bind_ok, text_keeps}
use Rattle.schedule_text.specs.Fleeting.{no_lasting, refusal_of_lasting, read_fleeting}

not_refused : (o : Option LineWhy) (next later : Draft) → unless_objected o next ≡ Ok later → unless_objected None next ≡ Ok later
not_refused None next later e = e
not_refused (Some why) next later e = absurd (cc)

after_passes : (n : ℕ) (draft later : Draft) (text : List ℕ) → after_line no_lasting n draft text ≡ Ok later → after_line no_objection n draft text ≡ Ok later
unfolding after_line
after_passes n draft later text e = by_tests (is_passed_over text) (is_too_much draft text) (line_of draft text) e
  where
    at_end : (r : Result Draft LineWhy) → at_line n r ≡ Ok later → r ≡ Ok later
    at_end (Ok next) f = let same : next ≡ later = cc in ap Ok same
    at_end (Err why) f = absurd (cc)

    by_tests : (a b : Bool) (r : Result Line LineWhy)
        → (if a then Ok draft else (if b then Err (TooLong limit.Events) else at_line n (r >>= λ l. unless_objected (no_lasting draft l) (with_line draft l)))) ≡ Ok later
        → (if a then Ok draft else (if b then Err (TooLong limit.Events) else at_line n (r >>= λ l. unless_objected (no_objection draft l) (with_line draft l)))) ≡ Ok later
    by_tests true b r f = f
    by_tests false true r f = absurd (cc)
    by_tests false false (Ok l) f =
        ap (at_line n) (not_refused (refusal_of_lasting l) (with_line draft l) later (at_end (unless_objected (refusal_of_lasting l) (with_line draft l)) f))
    by_tests false false (Err why) f = f

lines_pass : (n : ℕ) (draft : Draft) (texts : List (List ℕ)) (s : Schedule) → read_lines no_lasting n draft texts ≡ Ok s → read_lines no_objection n draft texts ≡ Ok s
unfolding read_lines
lines_pass n draft [] s e = e
lines_pass n draft (text ∷ more) s e =
    let b = bind_ok (after_line no_lasting n draft text) (λ later. read_lines no_lasting (n + 1) later more) s e in
    ap (λ r. r >>= λ later. read_lines no_objection (n + 1) later more) (after_passes n draft b.0 text b.1) ∙ lines_pass (n + 1) b.0 more s b.2

pub spelled : (text : List ℕ) (s : Schedule) → read_fleeting text ≡ Ok s → read_text text ≡ Ok s
unfolding read_with
spelled text s e = by_size (nat_le (length text) 8388608) e
  where
    by_size : (b : Bool) → (if b then read_lines no_lasting 1 Empty (lines_of text) else Err (TooLong limit.Text)) ≡ Ok s
        → (if b then read_lines no_objection 1 Empty (lines_of text) else Err (TooLong limit.Text)) ≡ Ok s
    by_size true f = lines_pass 1 Empty (lines_of text) s f
    by_size false f = absurd (cc)

-- each line that passes keeps the server from lasting
abbrev Fleets : Draft → Type 0
Fleets Empty = Unit {0}
Fleets (Named kind) = Unit {0}
Fleets (Begun s) = s.lasting ≡ None

line_keeps : (draft : Draft) (l : Line) → Fleets draft → refusal_of_lasting l ≡ None → Fleets (with_line draft l)
line_keeps Empty (line.Service kind) h free = tt
line_keeps Empty (line.Server addr) h free = tt
line_keeps Empty (line.Profile profile) h free = tt
line_keeps Empty line.Twin h free = tt
line_keeps Empty (line.Marks every) h free = tt
line_keeps Empty (line.Lasting waits) h free = tt
line_keeps Empty (line.Client c) h free = tt
line_keeps Empty (line.Event e) h free = tt
line_keeps (Named kind) (line.Service name) h free = tt
line_keeps (Named kind) (line.Server addr) h free = refl
line_keeps (Named kind) (line.Profile profile) h free = tt
line_keeps (Named kind) line.Twin h free = tt
line_keeps (Named kind) (line.Marks every) h free = tt
line_keeps (Named kind) (line.Lasting waits) h free = tt
line_keeps (Named kind) (line.Client c) h free = tt
line_keeps (Named kind) (line.Event e) h free = tt
line_keeps (Begun s) (line.Service kind) h free = h
line_keeps (Begun s) (line.Server addr) h free = h
line_keeps (Begun s) (line.Profile profile) h free = h
line_keeps (Begun s) line.Twin h free = h
line_keeps (Begun s) (line.Marks every) h free = h
line_keeps (Begun s) (line.Lasting waits) h free = absurd (cc)
line_keeps (Begun s) (line.Client c) h free = h
line_keeps (Begun s) (line.Event e) h free = h

pub fleeting : (text : List ℕ) (s : Schedule) → read_fleeting text ≡ Ok s → s.lasting ≡ None
fleeting text s e = text_keeps no_lasting Fleets (λ draft text l h few p free. line_keeps draft l h free) text s tt e
