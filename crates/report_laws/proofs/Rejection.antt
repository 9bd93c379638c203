-- A text is rejected at one line, by one law, whatever follows that line.
use Rattle.std.proofs.Common.{◌≡◌, ℕ, zero, suc, inl, inr, sym, ap, ◌∙◌, subst, arith, Option, Some, None, List, [], ◌∷◌}
use Rattle.server_trait.specs.Service.{Machine}
use Rattle.report_laws.specs.declared.Law.{Law}
use Rattle.report_laws.specs.Transitions.{Position, Step, LineGives}
use Rattle.report_laws.specs.Transitions.Step.{Continues, Rejects, Accepts}
use Rattle.report_laws.specs.Verdict.{RejectedFrom, AcceptedFrom, SameLines}
use Rattle.report_laws.proofs.OneOutcome.{step_once}

-- the kind of a step
abbrev pub kind_of : Step → ℕ
kind_of (Continues position) = 0
kind_of (Rejects law) = 1
kind_of Accepts = 2

abbrev pub position_in : Step → Position → Position
position_in (Continues position) other = position
position_in _ other = other

abbrev pub law_in : Step → Law → Law
law_in (Rejects law) other = law
law_in _ other = other

abbrev less_one : ℕ → ℕ
less_one zero = zero
less_one (suc n) = n

module _ {State : Type 0} (service : ℕ → Machine State) where
  same_next : (position : Position) (text : Option (List ℕ)) (a b : Position) → LineGives service position text (Continues a) → LineGives service position text (Continues b) → a ≡ b
  same_next position text a b p q = ap (λ s. position_in s a) (step_once service position text (Continues a) (Continues b) p q)

  same_law : (position : Position) (text : Option (List ℕ)) (a b : Law) → LineGives service position text (Rejects a) → LineGives service position text (Rejects b) → a ≡ b
  same_law position text a b p q = ap (λ s. law_in s a) (step_once service position text (Rejects a) (Rejects b) p q)

  -- no line both continues a report and is rejected, ..
  on_or_fails : {P : Type 0} (position : Position) (text : Option (List ℕ)) (a : Position) (law : Law) → LineGives service position text (Continues a) → LineGives service position text (Rejects law) → P
  on_or_fails position text a law p q =
      let e : 0 ≡ 1 = ap kind_of (step_once service position text (Continues a) (Rejects law) p q) in
      absurd (omega (arith, e))

  -- .. nor is one both rejected and the end of an accepted report
  ends_or_fails : {P : Type 0} (position : Position) (text : Option (List ℕ)) (law : Law) → LineGives service position text Accepts → LineGives service position text (Rejects law) → P
  ends_or_fails position text law p q =
      let e : 2 ≡ 1 = ap kind_of (step_once service position text Accepts (Rejects law) p q) in
      absurd (omega (arith, e))

  -- the rejected line and its law are unique
  pub fails_once : (position : Position) (lines : List (List ℕ)) (m n : ℕ) (a b : Law) → RejectedFrom service position lines m a → RejectedFrom service position lines n b → (m ≡ n) × (a ≡ b)
  fails_once position [] m n a b p q = (p.0 ∙ sym q.0, same_law position None a b p.1 q.1)
  fails_once position (text ∷ lines) m n a b (inl p) (inl q) = (p.0 ∙ sym q.0, same_law position (Some text) a b p.1 q.1)
  fails_once position (text ∷ lines) m n a b (inl p) (inr (next, k, e, on, rest)) = on_or_fails position (Some text) next a on p.1
  fails_once position (text ∷ lines) m n a b (inr (next, k, e, on, rest)) (inl q) = on_or_fails position (Some text) next b on q.1
  fails_once position (text ∷ lines) m n a b (inr (next, k, e, on, rest)) (inr (other, j, f, too, more)) =
      let same : next ≡ other = same_next position (Some text) next other on too in
      let both : (k ≡ j) × (a ≡ b) = fails_once other lines k j a b (subst (λ s. RejectedFrom service s lines k a) same rest) more in
      (e ∙ (ap suc both.0 ∙ sym f), both.1)

  -- a text that has the same lines up to the rejected one isn't accepted
  by_count : (position : Position) (text : List ℕ) (lines others : List (List ℕ)) (n k : ℕ) (law : Law) → n ≡ suc k → SameLines n (text ∷ lines) others
      → (P : Type 0) → ((other : List ℕ) (more : List (List ℕ)) → text ≡ other → SameLines k lines more → AcceptedFrom service position (other ∷ more) → P)
      → AcceptedFrom service position others → P
  by_count position text lines [] n k law e same P found ends = absurd (subst (λ i. SameLines i (text ∷ lines) []) e same)
  by_count position text lines (other ∷ more) n k law e same P found ends =
      let first : SameLines (suc k) (text ∷ lines) (other ∷ more) = subst (λ i. SameLines i (text ∷ lines) (other ∷ more)) e same in
      found other more first.0 first.1 ends

  at_end : (position : Position) (others : List (List ℕ)) (n : ℕ) (law : Law) → n ≡ 1 → LineGives service position None (Rejects law) → AcceptedFrom service position others → SameLines n [] others → ⊥
  at_end position [] n law e fails ends same = ends_or_fails position None law ends fails
  at_end position (other ∷ more) n law e fails ends same = subst (λ i. SameLines i [] (other ∷ more)) e same

  pub no_end : (position : Position) (lines others : List (List ℕ)) (n : ℕ) (law : Law) → RejectedFrom service position lines n law → AcceptedFrom service position others → SameLines n lines others → ⊥
  no_end position [] others n law p ends same = at_end position others n law p.0 p.1 ends same
  no_end position (text ∷ lines) others n law (inl p) ends same =
      by_count position text lines others n 0 law p.0 same ⊥
      (λ other more e rest go. on_or_fails position (Some text) go.0 law (subst (λ t. LineGives service position (Some t) (Continues go.0)) (sym e) go.1) p.1) ends
  no_end position (text ∷ lines) others n law (inr (next, k, e, on, behind)) ends same =
      by_count position text lines others n k law e same ⊥
      (λ other more f rest go. let on_too : LineGives service position (Some text) (Continues go.0) = subst (λ t. LineGives service position (Some t) (Continues go.0)) (sym f) go.1 in
      no_end next lines more k law behind (subst (λ s. AcceptedFrom service s more) (same_next position (Some text) go.0 next on_too on) go.2) rest) ends

  -- so no text is both rejected and accepted
  all_same : (n : ℕ) (lines : List (List ℕ)) → SameLines n lines lines
  all_same zero lines = tt
  all_same (suc n) [] = tt
  all_same (suc n) (line ∷ lines) = (λ i. line, all_same n lines)

  pub never_both : (position : Position) (lines : List (List ℕ)) (n : ℕ) (law : Law) → RejectedFrom service position lines n law → AcceptedFrom service position lines → ⊥
  never_both position lines n law p ends = no_end position lines lines n law p ends (all_same n lines)
