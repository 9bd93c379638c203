-- A service whose state can be saved as bytes, in place of the input that led to it.
use Rattle.std.specs.Prelude.{◌≡◌, ℕ, ◌≤◌, true, false, List, [], length, Option, Some, None}
use Rattle.std.specs.List.{AllByRecursion}
use Rattle.std.proofs.Common.{arith}
use Rattle.std.proofs.lemmas.Option.{none-some}
use Rattle.server_trait.specs.Service.{Machine, fold, AreBytes}

-- how states are written: the bytes of each, its form; and back, the state whose form some bytes are, if there is one
pub record Writing (State : Type 0) : Type 0 where
  pub form : State → List ℕ
  pub state_of : List ℕ → Option State

abbrev pub writing : {State : Type 0} → (State → List ℕ) → (List ℕ → Option State) → Writing State
writing form state_of = record { form = form; state_of = state_of }

-- a state's form has at most 1,100 bytes, and the state is read back from it
pub record IsReadBack {State : Type 0} (written : Writing State) (state : State) : Type 0 where
  pub same : written.state_of (written.form state) ≡ Some state
  pub short : length (written.form state) ≤ 1100
  pub bytes : AreBytes (written.form state)

-- each state that a run reaches before it closes is read back. A closed run is never saved
abbrev pub ReadsBack : {State : Type 0} → Machine State → Writing State → Type 0
ReadsBack service written =
    (chunks : List (List ℕ)) → AllByRecursion AreBytes chunks → (fold service chunks).closed ≡ false → IsReadBack written (fold service chunks).state

-- one state has one form: no other bytes are read as it
abbrev pub HasOneForm : {State : Type 0} → Writing State → Type 0
HasOneForm {State} written = (bytes : List ℕ) (state : State) → AreBytes bytes → written.state_of bytes ≡ Some state → written.form state ≡ bytes

-- A service whose states can't be saved: no bytes are the form of any
abbrev pub no_form : {State : Type 0} → State → List ℕ
no_form state = []

abbrev pub no_state : {State : Type 0} → ℕ → List ℕ → Option State
no_state kind bytes = None

-- it satisfies both laws, since neither says anything of it
pub unsaved_reads_back : {State : Type 0} (service : ℕ → Machine State) → false ≡ true → (kind : ℕ) → ReadsBack (service kind) (writing no_form (no_state kind))
unsaved_reads_back service savable kind = absurd (grind (arith, savable))

pub unsaved_one_form : {State : Type 0} (kind : ℕ) → HasOneForm {State = State} (writing no_form (no_state kind))
unsaved_one_form kind bytes state given same = absurd (none-some state same)
