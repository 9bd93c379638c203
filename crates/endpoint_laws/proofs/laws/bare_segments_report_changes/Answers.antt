use Rattle.endpoint_laws.proofs.ReportedLaw.{leaving_by}
use Rattle.std.specs.Prelude.{false}
use Rattle.endpoint_laws.proofs.laws.bare_segments_report_changes.Goals as goal

pub returns : goal.returns
returns c = λ u begun none. leaving_by u false begun none
