-- What is below a mark: a restart that begins at the mark doesn't fetch it.
use Rattle.std.specs.Prelude.{◌≡◌, ℕ, false, Some, List, length, sum, take}
use Rattle.seq_arith.specs.Mark.{Mark}
use Rattle.server_trait.specs.Service.{Machine, reference}
use Rattle.server_trait.specs.Saved.{Writing}
use Rattle.ft_model.specs.Log.{Entry}
use Rattle.mark_laws.specs.MarkedLog.{has_closing}

-- bytes and lengths of a mark's reads: the uncrashed server's run over them has the state that is read back from the mark, and the output that the mark
-- counts
pub record IsBelow {State : Type 0} (service : Machine State) (writing : Writing State) (m : Mark) (bytes lengths : List ℕ) : Type 0 where
  pub reads : length lengths ≡ m.reads
  pub size : length bytes ≡ m.length
  pub whole : sum lengths ≡ length bytes
  pub reads_on : has_closing lengths ≡ false
  pub state : writing.state_of m.state ≡ Some (reference service bytes lengths).state
  pub made : m.made ≡ length (reference service bytes lengths).output
  pub running : (reference service bytes lengths).closed ≡ false

-- the bytes and lengths of an entry below a mark
abbrev pub bytes_below : Mark → Entry → List ℕ
bytes_below m e = take m.length e.bytes

abbrev pub lengths_below : Mark → Entry → List ℕ
lengths_below m e = take m.reads e.lengths
