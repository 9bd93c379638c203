use Rattle.std.proofs.Common.{◌∙◌, sym}
use Rattle.ft_model.specs.Legal.{machines}
use Rattle.plain_world.specs.Values.{input_in, node_in}
use Rattle.plain_world.proofs.Reaching.{passed_over}
use Rattle.plain_world.proofs.server.serve.Goals as goal

pub returns-then-fences : goal.returns-then-fences
returns-then-fences g c =
    passed_over (machines g.S.Service.started g.S.Service.after g.S.Service.greeting) (input_in c.args.input.now) c.args.node.now c.in-Some.up c.args.sent.now c.in-Some.is c.requires.served
    (sym (c.fences.ensures (node_in c.in-Some.up) (sym c.boot.ensures)) ∙ c.if-fences.true)
