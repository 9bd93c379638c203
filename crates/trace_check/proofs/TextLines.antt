-- The first line of a text ends with its first line feed, and the last at the text's end.
use Rattle.std.proofs.Common.{◌≡◌, ℕ, suc, ◌+◌, ◌<◌, Bool, true, false, if◌then◌else◌, codes, decimal, List, [], ◌∷◌, take, drop, length, refl, sym, ap, ap₂, ◌∙◌, arith}
use Rattle.std.specs.Prelude.{◌&&◌, ◌||◌}
use Rattle.std.specs.Str.{bytes_eq}
use Rattle.std.specs.List.{position_or_len}
use Rattle.std.proofs.Math.Numerals.{one-add}
use Rattle.std.proofs.Math.Seq.{take-length, drop-length}
use Rattle.std.proofs.lemmas.List.{drop-take, drop-drop}
use Rattle.ft_model.specs.Words.{is}
use Rattle.ft_model.specs.declared.schedule.Schedule.{Schedule}
use Rattle.report_laws.specs.Lines.{lines_in, onto_first}
use Rattle.report_laws.specs.Transitions.{is_lone_word, is_header_line, pieces}

first_by : (c : ℕ) (text : List ℕ) (b : Bool) → is 10 c ≡ b
    → (position_or_len (is 10) text < length text → lines_in text ≡ take (position_or_len (is 10) text + 1) text ∷ lines_in (drop (position_or_len (is 10) text + 1) text))
    → position_or_len (is 10) (c ∷ text) < length (c ∷ text)
    → lines_in (c ∷ text) ≡ take (position_or_len (is 10) (c ∷ text) + 1) (c ∷ text) ∷ lines_in (drop (position_or_len (is 10) (c ∷ text) + 1) (c ∷ text))
unfolding lines_in
first_by c text true e ih few = rw e refl
first_by c text false e ih few =
    let n : ℕ = position_or_len (is 10) text in
    let place : position_or_len (is 10) (c ∷ text) ≡ suc n = rw (e, one-add) refl in
    let less : n < length text = omega (arith, place, few) in
    let line : lines_in (c ∷ text) ≡ (c ∷ take (n + 1) text) ∷ lines_in (drop (n + 1) text) =
    ap (λ b. if b then (c ∷ []) ∷ lines_in text else onto_first c (lines_in text)) e ∙ ap (onto_first c) (ih less) in
    let more : position_or_len (is 10) (c ∷ text) + 1 ≡ suc (n + 1) = omega (arith, place) in
    line ∙ ap (λ k. take k (c ∷ text) ∷ lines_in (drop k (c ∷ text))) (sym more)

first_at : (text : List ℕ) → position_or_len (is 10) text < length text
    → lines_in text ≡ take (position_or_len (is 10) text + 1) text ∷ lines_in (drop (position_or_len (is 10) text + 1) text)
first_at [] few = absurd (omega (arith, few))
first_at (c ∷ text) few = first_by c text (is 10 c) refl (first_at text) few

pub first_line : (text : List ℕ) (end : ℕ) → end ≡ position_or_len (is 10) text → end < length text → lines_in text ≡ take (end + 1) text ∷ lines_in (drop (end + 1) text)
first_line text end place few =
    let below : position_or_len (is 10) text < length text = omega (arith, place, few) in
    first_at text below ∙ ap (λ k. take (k + 1) text ∷ lines_in (drop (k + 1) text)) (sym place)

whole_by : (c : ℕ) (text : List ℕ) (b : Bool) → is 10 c ≡ b → (0 < length text → position_or_len (is 10) text ≡ length text → lines_in text ≡ text ∷ [])
    → position_or_len (is 10) (c ∷ text) ≡ length (c ∷ text) → lines_in (c ∷ text) ≡ (c ∷ text) ∷ []
unfolding lines_in
whole_by c text true e ih all = (let place : position_or_len (is 10) (c ∷ text) ≡ 0 = rw e refl in absurd (omega (arith, place, all)))
whole_by c [] false e ih all = ap (λ b. if b then (c ∷ []) ∷ [] else onto_first c []) e
whole_by c (d ∷ text) false e ih all =
    let place : position_or_len (is 10) (c ∷ d ∷ text) ≡ suc (position_or_len (is 10) (d ∷ text)) = rw (e, one-add) refl in
    let rest : position_or_len (is 10) (d ∷ text) ≡ length (d ∷ text) = omega (arith, place, all) in
    ap (λ b. if b then (c ∷ []) ∷ lines_in (d ∷ text) else onto_first c (lines_in (d ∷ text))) e ∙ ap (onto_first c) (ih (omega arith) rest)

whole_line : (text : List ℕ) → 0 < length text → position_or_len (is 10) text ≡ length text → lines_in text ≡ text ∷ []
whole_line [] some all = absurd (omega (arith, some))
whole_line (c ∷ text) some all = whole_by c text (is 10 c) refl (whole_line text) all

pub no_lines : lines_in [] ≡ []
unfolding lines_in
no_lines = refl

pub last_line : (text : List ℕ) (end : ℕ) → 0 < length text → end ≡ position_or_len (is 10) text → end ≡ length text → lines_in text ≡ take end text ∷ lines_in (drop end text)
last_line text end some place all =
    whole_line text some (sym place ∙ all)
    ∙ (ap (λ lines. text ∷ lines) (sym no_lines)
    ∙ ap₂ (λ line rest. line ∷ lines_in rest) (sym (ap (λ k. take k text) all ∙ take-length text)) (sym (ap (λ k. drop k text) all ∙ drop-length text)))

-- a line that begins at a place
pub line_from : (text rest : List ℕ) (at len : ℕ) → rest ≡ drop at text → lines_in rest ≡ take len rest ∷ lines_in (drop len rest)
    → lines_in (drop at text) ≡ drop at (take (at + len) text) ∷ lines_in (drop (at + len) text)
line_from text rest at len is e =
    ap lines_in (sym is) ∙ (e ∙ ap₂ (λ line rest. line ∷ lines_in rest) (ap (take len) is ∙ sym (drop-take at len text)) (ap (drop len) is ∙ drop-drop len at text))

pub nothing_after : (text : List ℕ) (at : ℕ) → at ≡ length text → lines_in (drop at text) ≡ []
nothing_after text at e = ap lines_in (ap (λ k. drop k text) e ∙ drop-length text) ∙ no_lines

-- the pieces of a line decide whether it belongs to a header
pub one_piece : (schedule : Schedule) (line : List ℕ) (test : Bool) → pieces line ≡ line ∷ [] → test ≡ is_lone_word line
    → test ≡ is_header_line schedule (pieces line)
one_piece schedule line test cut e = e ∙ sym (ap (is_header_line schedule) cut)

pub two_pieces : (schedule : Schedule) (line first rest second : List ℕ) (n : ℕ) (test : Bool) → pieces line ≡ first ∷ pieces rest
    → (more : List (List ℕ)) × (pieces rest ≡ second ∷ more) → n ≡ length schedule.clients + 1
    → test ≡ (is_lone_word first || bytes_eq first (codes "client") && bytes_eq second (decimal n))
    → test ≡ is_header_line schedule (pieces line)
two_pieces schedule line first rest second n test cut (more, behind) count e =
    e ∙ (ap (λ k. is_lone_word first || bytes_eq first (codes "client") && bytes_eq second (decimal k)) count
    ∙ sym (ap (is_header_line schedule) (cut ∙ ap (λ ps. first ∷ ps) behind)))
