use Rattle.std.proofs.Common.{if◌then◌else◌}
use Rattle.ft_io.specs.Key.{key_eq}
use Rattle.segment_codec.specs.Value.{segment_of}
use Rattle.ft_model.specs.Client.{received}
use Rattle.plain_log.proofs.Mapped.{IsMapped}
use Rattle.plain_world.proofs.clients.receive_among.Given as goal

abbrev pub invariant-loop-client : goal.invariant-loop-client
invariant-loop-client l = IsMapped (λ c. if key_eq c.key l.fn.key then received c (segment_of l.fn.segment) else c) l.client-index l.initial.clients l.clients
