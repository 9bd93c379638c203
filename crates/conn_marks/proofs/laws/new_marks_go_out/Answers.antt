use Rattle.server_trait.specs.Service.{machine}
use Rattle.conn_marks.proofs.Marked.{turn_marks}
use Rattle.conn_marks.proofs.laws.new_marks_go_out.Goals as goal

pub returns : goal.returns
returns g c = λ fresh writing every server boot news p q m packets still turn. turn_marks (machine fresh g.S.Service.after g.S.Service.greeting) writing every server boot news p q m packets still turn
