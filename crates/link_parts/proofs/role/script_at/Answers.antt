use Rattle.std.proofs.Common.{◌∙◌, sym}
use Rattle.ft_model.proofs.AcceptedLemmas.{script_bound}
use Rattle.link_parts.proofs.role.script_at.Goals as goal

pub returns-in-Some-2-clause-short : goal.returns-in-Some-2-clause-short
returns-in-Some-2-clause-short c = script_bound c.as_bytes.result.now c.in-Some-2.script (sym c.in_ok-script.ensures ∙ c.in-Some-2.is)
