use Rattle.endpoint_laws.proofs.ReportedLaw.{bare_law}
use Rattle.endpoint_laws.proofs.laws.bare_segments_go_out_where_owed.Goals as goal

pub returns : goal.returns
returns c = λ e u p begun begun_after b usual none unrefused ack_pending. bare_law e u p begun begun_after b usual none unrefused ack_pending
