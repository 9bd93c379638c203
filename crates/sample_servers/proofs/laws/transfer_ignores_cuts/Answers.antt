use Rattle.sample_servers.specs.Transfer.{bytes_served, transfer_machine}
use Rattle.sample_servers.proofs.Cuts.{ignores_cuts}
use Rattle.sample_servers.proofs.Whole.{transfer_is_stream}
use Rattle.sample_servers.proofs.laws.transfer_ignores_cuts.Goals as goal

pub returns : goal.returns
returns c = ignores_cuts transfer_machine bytes_served transfer_is_stream
