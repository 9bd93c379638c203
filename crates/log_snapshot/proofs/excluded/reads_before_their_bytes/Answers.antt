use Rattle.log_snapshot.proofs.excluded.reads_before_their_bytes.Goals as goal

pub returns : goal.returns
returns c = (c.write_step.ensures.says.0, c.write_step.ensures.says.1, λ rest is. c.write_step.ensures.says.2 rest is)
