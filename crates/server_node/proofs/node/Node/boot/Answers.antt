use Rattle.std.proofs.Common.{refl}
use Rattle.ft_io.proofs.Outcomes.{if_ok}
use Rattle.server_node.proofs.node.Node.boot.Goals as goal

pub returns-clause-stands : goal.returns-clause-stands
returns-clause-stands g c = if_ok c.boot_marked.result (λ n h. h refl) c.boot_marked.ensures.plain
