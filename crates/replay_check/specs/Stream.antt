-- A stream before and after a call.
use Rattle.std.specs.Prelude.{◌≡◌, ℕ, List, Option}
use Rattle.ft_io.specs.Faults.{Rose}

-- Its content, which is what remains to be read from a source, or what a sink has taken; the number of its failed calls; and the statement that it is
-- unchanged, so that no call was made on it
pub record Stream : Type 1 where
  pub before : Option (List ℕ)
  pub after : Option (List ℕ)
  pub faults_before : ℕ
  pub faults_after : ℕ
  pub Untouched : Type 0

abbrev pub stream : {S : Type 0} → (content : S → Option (List ℕ)) → (fault_count : S → ℕ) → (old new : S) → Stream
stream content fault_count old new = record {
  before = content old;
  after = content new;
  faults_before = fault_count old;
  faults_after = fault_count new;
  Untouched = new ≡ old;
}

-- one of its calls failed
abbrev pub HasFailed : Stream → Type 0
HasFailed s = Rose s.faults_before s.faults_after

-- none of its calls failed
abbrev pub HasNotFailed : Stream → Type 0
HasNotFailed s = s.faults_after ≡ s.faults_before

-- a count of faults doesn't rise
abbrev pub IsStill : ℕ → ℕ → Type 0
IsStill before after = Rose before after → ⊥

-- no faults: a stream's count of faults doesn't rise
abbrev pub IsQuiet : Stream → Type 0
IsQuiet s = IsStill s.faults_before s.faults_after
