-- Each closing line leads on where it is the one that is due, and decides about the text where it isn't. A text whose lines are all due ends with what is due.
use Rattle.std.proofs.Common.{◌≡◌, ℕ, ◌+◌, ◌<◌, ◌==◌, Bool, true, false, if◌then◌else◌, Some, None, ◌≤◌, List, [], ◌∷◌, ◌++◌, take, drop, length, refl, sym, ap, ap₂, ◌∙◌, subst, arith}
use Rattle.std.proofs.lemmas.List.{take-append-drop, drop-append-le, length-take-le, drop_all}
use Rattle.std.specs.Str.{bytes_eq}
use Rattle.server_trait.specs.Service.{Machine}
use Rattle.report_laws.specs.declared.Law.TheVariants as law
use Rattle.report_laws.specs.Lines.{lines_in, onto_first}
use Rattle.report_laws.specs.Transitions.{ClosingLine}
use Rattle.report_laws.specs.Transitions.Position.{InClosing}
use Rattle.report_laws.specs.Transitions.Step.{Continues, Rejects}
use Rattle.report_laws.specs.Verdict.{IsRejected}
use Rattle.report_laws.proofs.Turns.{if_true, if_false}
use Rattle.line_check.proofs.Spelled.{same_bytes}
use Rattle.trace_check.specs.Leads.{Leads}
use Rattle.trace_check.proofs.HeaderLines.{leads_on, line_decides, end_decides}
use Rattle.trace_check.proofs.TextLines.{nothing_after, no_lines}

no_due : (due : List ℕ) → length due ≡ 0 → lines_in due ≡ []
no_due [] e = no_lines
no_due (c ∷ due) e = absurd (omega (arith, e))

some_due : (due : List ℕ) → 0 < length due → (first : List ℕ) × (more : List (List ℕ)) × (lines_in due ≡ first ∷ more)
unfolding lines_in
some_due [] some = absurd (omega (arith, some))
some_due (c ∷ due) some = by_feed (c == 10) (lines_in due)
  where
    by_first : (lines : List (List ℕ)) → (first : List ℕ) × (more : List (List ℕ)) × (onto_first c lines ≡ first ∷ more)
    by_first [] = (c ∷ [], [], refl)
    by_first (line ∷ lines) = (c ∷ line, lines, refl)

    by_feed : (b : Bool) (lines : List (List ℕ)) → (first : List ℕ) × (more : List (List ℕ)) × ((if b then (c ∷ []) ∷ lines else onto_first c lines) ≡ first ∷ more)
    by_feed true lines = (c ∷ [], lines, refl)
    by_feed false lines = by_first lines

module _ {State : Type 0} (service : ℕ → Machine State) where
  pub line_closes : (text due : List ℕ) (at end len lines : ℕ) → lines_in (drop at text) ≡ drop at (take end text) ∷ lines_in (drop end text)
      → lines_in due ≡ take len due ∷ lines_in (drop len due) → bytes_eq (drop at (take end text)) (take len due) ≡ true
      → Leads service text (InClosing (lines_in due)) (drop at text) lines → Leads service text (InClosing (lines_in (drop len due))) (drop end text) (lines + 1)
  line_closes text due at end len lines cut first same l =
      leads_on service text (drop at (take end text)) (drop at text) (drop end text) (InClosing (lines_in due)) (InClosing (lines_in (drop len due))) lines l cut
      (subst (λ ds. ClosingLine ds (Some (drop at (take end text))) (Continues (InClosing (lines_in (drop len due))))) (sym first)
      (if_true (bytes_eq (drop at (take end text)) (take len due)) _ _ same refl))

  pub other_line_is_rejected : (text due : List ℕ) (at end len lines : ℕ) → lines_in (drop at text) ≡ drop at (take end text) ∷ lines_in (drop end text)
      → lines_in due ≡ take len due ∷ lines_in (drop len due) → bytes_eq (drop at (take end text)) (take len due) ≡ false
      → Leads service text (InClosing (lines_in due)) (drop at text) lines → IsRejected service text (lines + 1) law.End
  other_line_is_rejected text due at end len lines cut first other l =
      line_decides service text (drop at (take end text)) (drop at text) (drop end text) (InClosing (lines_in due)) lines law.End l cut
      (subst (λ ds. ClosingLine ds (Some (drop at (take end text))) (Rejects law.End)) (sym first) (if_false (bytes_eq (drop at (take end text)) (take len due)) _ _ other refl))

  pub late_line_is_rejected : (text due : List ℕ) (at end lines : ℕ) → lines_in (drop at text) ≡ drop at (take end text) ∷ lines_in (drop end text) → length due ≡ 0
      → Leads service text (InClosing (lines_in due)) (drop at text) lines → IsRejected service text (lines + 1) law.End
  late_line_is_rejected text due at end lines cut none l =
      line_decides service text (drop at (take end text)) (drop at text) (drop end text) (InClosing (lines_in due)) lines law.End l cut
      (subst (λ ds. ClosingLine ds (Some (drop at (take end text))) (Rejects law.End)) (sym (no_due due none)) refl)

  pub early_end_is_rejected : (text due : List ℕ) (at lines : ℕ) → at ≡ length text → 0 < length due
      → Leads service text (InClosing (lines_in due)) (drop at text) lines → IsRejected service text (lines + 1) law.End
  early_end_is_rejected text due at lines ends some l =
      let first = some_due due some in
      end_decides service text (drop at text) (InClosing (lines_in due)) lines law.End l (nothing_after text at ends)
      (subst (λ ds. ClosingLine ds None (Rejects law.End)) (sym first.2) refl)

-- where the lines after a line are those that are due, so are the lines from it on
pub line_is_same : (text due : List ℕ) (at end len : ℕ) → at ≤ end → end ≤ length text → bytes_eq (drop at (take end text)) (take len due) ≡ true → drop end text ≡ drop len due
    → drop at text ≡ due
line_is_same text due at end len more within same rest =
    let size : length (take end text) ≡ end = length-take-le end text within in
    let there : drop at (take end text) ≡ take len due = same_bytes (drop at (take end text)) (take len due) same in
    ap (drop at) (sym (take-append-drop end text)) ∙ (drop-append-le at (take end text) (drop end text) (omega (arith, size, more))
    ∙ (ap₂ ◌++◌ there rest ∙ take-append-drop len due))

pub nothing_is_left : (text due : List ℕ) (at : ℕ) → at ≡ length text → length due ≡ 0 → drop at text ≡ due
nothing_is_left text [] at ends none = drop_all at text (omega (arith, ends))
nothing_is_left text (c ∷ due) at ends none = absurd (omega (arith, none))
