use Rattle.std.proofs.Common.{◌∙◌, ap}
use Rattle.tcp_endpoint.specs.Output.{leaving, flushed}
use Rattle.tcp_endpoint.proofs.Delayed.{delayed_leaves, delayed_ends}
use Rattle.tcp_endpoint.proofs.endpoint.Endpoint.delay_ack.Goals as goal

pub returns-clause-sent : goal.returns-clause-sent
returns-clause-sent c = ap leaving c.count_as_sent.ensures ∙ delayed_leaves c.args.self.now

pub returns-clause-ended : goal.returns-clause-ended
returns-clause-ended c = ap flushed c.count_as_sent.ensures ∙ delayed_ends c.args.self.now
