use Rattle.std.proofs.Common.{◌∙◌, ap, length}
use Rattle.sample_servers.specs.Cuts.{joined}
use Rattle.sample_servers.specs.Lengths.{length-pattern}
use Rattle.sample_servers.specs.Transfer.{total_size}
use Rattle.sample_servers.proofs.Whole.{transfer_whole}
use Rattle.sample_servers.proofs.laws.transfer_gives_what_is_asked.Goals as goal

pub returns-clause-size : goal.returns-clause-size
returns-clause-size c chunks ended some = ap length (transfer_whole chunks ended some) ∙ length-pattern 0 (total_size (joined chunks))

pub returns-clause-pattern : goal.returns-clause-pattern
returns-clause-pattern c = transfer_whole
