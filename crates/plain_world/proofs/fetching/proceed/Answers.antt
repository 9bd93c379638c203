use Rattle.std.proofs.Common.{sym}
use Rattle.ft_model.specs.Node.{Stage}
use Rattle.plain_world.specs.Values.{node_of}
use Rattle.plain_world.proofs.Fetched.{all_whole}
use Rattle.plain_world.proofs.Fetches.{serves_now}
use Rattle.plain_world.proofs.fetching.proceed.Goals as goal

pub restore_all-requires-clause-whole : goal.restore_all-requires-clause-whole
restore_all-requires-clause-whole g c = all_whole c.args.count c.args.fetched.now c.requires (sym c.in_default.ensures)

pub returns-clause-turn : goal.returns-clause-turn
returns-clause-turn g c =
    λ (stage : Stage).
    serves_now _ (node_of c.args.who stage) c.args.count c.args.fetched.now c.in_ok-serving.serving c.args.sent.now c.restore_all.new.sent (sym c.in_default.ensures)
    (c.in_ok-serving.ensures.turn stage)
