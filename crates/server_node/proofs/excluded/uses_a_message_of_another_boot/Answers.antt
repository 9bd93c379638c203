use Rattle.std.proofs.Common.{◌≡◌, ◌==◌, false}
use Rattle.std.proofs.lemmas.Bool.{ne_eqb}
use Rattle.ft_io.proofs.Outcomes.{if_ok}
use Rattle.ft_model.specs.Node.Stage.{Asking}
use Rattle.server_node.proofs.excluded.uses_a_message_of_another_boot.Goals as goal

pub returns : goal.returns
returns g c =
    let other : (c.args.m.now.boot == c.args.who.boot) ≡ false = ne_eqb c.args.m.now.boot c.args.who.boot c.requires.other in
    if_ok c.receive.result (λ after apart. rw other at (apart.restarts Asking)) c.receive.ensures.apart
