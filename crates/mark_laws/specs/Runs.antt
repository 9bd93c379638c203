-- When a mark is true: it has the state of the uncrashed server's run over the first logged reads.
use Rattle.std.specs.Prelude.{◌≡◌, ◌≤◌, false, length, sum, take}
use Rattle.seq_arith.specs.Mark.{Mark}
use Rattle.server_trait.specs.Service.{Machine, reference}
use Rattle.server_trait.specs.Saved.{Writing}
use Rattle.ft_model.specs.Log.{Entry}
use Rattle.mark_laws.specs.MarkedLog.{has_closing}

-- its reads are logged, no closing read is among them, and the service hasn't closed after them; it has the form of the service's state after them, and
-- counts the output made by then
pub record IsRunOf {State : Type 0} (service : Machine State) (writing : Writing State) (e : Entry) (m : Mark) : Type 0 where
  pub count : m.reads ≤ length e.lengths
  pub bytes : m.length ≡ sum (take m.reads e.lengths)
  pub enough : sum (take m.reads e.lengths) ≤ length e.bytes
  pub reads_on : has_closing (take m.reads e.lengths) ≡ false
  pub state : m.state ≡ writing.form (reference service e.bytes (take m.reads e.lengths)).state
  pub made : m.made ≡ length (reference service e.bytes (take m.reads e.lengths)).output
  pub running : (reference service e.bytes (take m.reads e.lengths)).closed ≡ false
