use Rattle.sample_servers.proofs.Whole.{echo_whole, echo_closes}
use Rattle.sample_servers.proofs.laws.echo_returns_its_input.Goals as goal

pub returns-clause-output : goal.returns-clause-output
returns-clause-output c = echo_whole

pub returns-clause-closed : goal.returns-clause-closed
returns-clause-closed c = echo_closes
