-- Each line computes.
use Rattle.std.proofs.Common.{refl}
use Rattle.ft_model.proofs.ReportOnLiterals.{report_on_literals}
use Rattle.ft_model.proofs.report.worked_lines.Goals as goal

pub returns : goal.returns
unfolding report_on_literals
returns c = record {
  boot = refl;
  deliver = refl;
  begin = refl;
  send = refl;
  stop = refl;
  syn = refl;
  syn_ack = refl;
  text = refl;
  hello = refl;
  opening = refl;
  bytes = refl;
  read = refl;
  stable = refl;
  reads = refl;
  entry = refl;
  part = refl;
  cuts = refl;
  lens = refl;
  forward = refl;
  got = refl;
  profile = refl;
  plain_profile = refl;
  lasting = refl;
  not_lasting = refl;
  client = refl;
  log = refl;
  end = refl;
}
