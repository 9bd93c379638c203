-- The verdict on a text: it is accepted at its end, or rejected at the first line that the relation rejects.
use Rattle.std.specs.Prelude.{◌≡◌, ℕ, zero, suc, ◌⊎◌, Some, None, List, [], ◌∷◌}
use Rattle.server_trait.specs.Service.{Machine}
use Rattle.report_laws.specs.declared.Law.{Law}
use Rattle.report_laws.specs.Lines.{lines_in}
use Rattle.report_laws.specs.Transitions.{Position, LineGives}
use Rattle.report_laws.specs.Transitions.Position.{AtStart}
use Rattle.report_laws.specs.Transitions.Step.{Continues, Rejects, Accepts}

-- from a position on, these lines are rejected at line `line`, counted from 1, by this law
abbrev pub RejectedFrom : {State : Type 0} → (ℕ → Machine State) → Position → List (List ℕ) → (line : ℕ) → Law → Type 0
RejectedFrom service position [] line law = (line ≡ 1) × LineGives service position None (Rejects law)
RejectedFrom service position (text ∷ lines) line law =
    ((line ≡ 1) × LineGives service position (Some text) (Rejects law))
    ⊎ ((next : Position) × (before : ℕ) × (line ≡ suc before) × LineGives service position (Some text) (Continues next)
    × RejectedFrom service next lines before law)

-- .. or accepted at their end
abbrev pub AcceptedFrom : {State : Type 0} → (ℕ → Machine State) → Position → List (List ℕ) → Type 0
AcceptedFrom service position [] = LineGives service position None Accepts
AcceptedFrom service position (text ∷ lines) = (next : Position) × LineGives service position (Some text) (Continues next) × AcceptedFrom service next lines

-- the text is rejected at this line, by this law
abbrev pub IsRejected : {State : Type 0} → (ℕ → Machine State) → List ℕ → (line : ℕ) → Law → Type 0
IsRejected service text line law = RejectedFrom service AtStart (lines_in text) line law

-- two texts have the same first n lines; the end of a text counts as a line
abbrev pub SameLines : ℕ → List (List ℕ) → List (List ℕ) → Type 0
SameLines zero lines others = Unit {0}
SameLines (suc n) [] [] = Unit {0}
SameLines (suc n) (line ∷ lines) (other ∷ others) = (line ≡ other) × SameLines n lines others
SameLines (suc n) lines others = ⊥

-- these lines lead from one position to another
abbrev pub LeadsTo : {State : Type 0} → (ℕ → Machine State) → Position → List (List ℕ) → Position → Type 0
LeadsTo service position [] last = position ≡ last
LeadsTo service position (text ∷ lines) last = (next : Position) × LineGives service position (Some text) (Continues next) × LeadsTo service next lines last
