use Rattle.server_trait.specs.Service.{machine}
use Rattle.conn_marks.proofs.Marked.{tick_sends_again}
use Rattle.conn_marks.proofs.laws.outstanding_marks_go_out_again.Goals as goal

pub returns : goal.returns
returns g c = λ fresh writing every server boot p q m packets settled turn. tick_sends_again (machine fresh g.S.Service.after g.S.Service.greeting) writing every server boot p q m packets settled turn
