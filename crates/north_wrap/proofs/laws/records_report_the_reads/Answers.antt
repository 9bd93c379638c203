use Rattle.north_wrap.proofs.ReadSequence.{reported_reads}
use Rattle.north_wrap.proofs.laws.records_report_the_reads.Goals as goal

pub returns : goal.returns
returns c key first reads numbered = reported_reads key first reads numbered
