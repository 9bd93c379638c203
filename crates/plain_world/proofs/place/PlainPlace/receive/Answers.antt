use Rattle.server_trait.specs.Service.{machine}
use Rattle.ft_model.specs.Node.{Stage}
use Rattle.plain_world.specs.Values.{node_of}
use Rattle.plain_world.proofs.Places.{if_ok_more, sends_nothing}
use Rattle.plain_world.proofs.place.PlainPlace.receive.Goals as goal

pub returns-in-Opened-clause-turn : goal.returns-in-Opened-clause-turn
returns-in-Opened-clause-turn g c = rw c.in-Opened.is c.receive_opened.ensures.turn

pub returns-in-Full-clause-turn : goal.returns-in-Full-clause-turn
returns-in-Full-clause-turn g c =
    rw c.in-Full.is (if_ok_more _ _ c.receive_full.result (λ stays h (stage : Stage). h (machine (g.S.Service.started c.args.who.kind) g.S.Service.after g.S.Service.greeting) stage c.in-Full.key) c.receive_full.ensures)

pub returns-in-Ended-clause-turn : goal.returns-in-Ended-clause-turn
returns-in-Ended-clause-turn g c =
    rw c.in-Ended.is
    (λ (stage : Stage). sends_nothing _ _
    (c.receive_ended.ensures.turn (machine (g.S.Service.started c.args.who.kind) g.S.Service.after g.S.Service.greeting) (node_of c.args.who stage) c.in-Ended.key))

pub returns-in-Ended-clause-served : goal.returns-in-Ended-clause-served
returns-in-Ended-clause-served g c = c.receive_ended.ensures.served _ _

pub returns-in_ok-receive_logged-in-Stable-clause-turn : goal.returns-in_ok-receive_logged-in-Stable-clause-turn
returns-in_ok-receive_logged-in-Stable-clause-turn g c = rw c.in-Stable.is c.in_ok-receive_logged-in-Stable.ensures.stable

pub returns-in_ok-receive_logged-in-Reads-clause-turn : goal.returns-in_ok-receive_logged-in-Reads-clause-turn
returns-in_ok-receive_logged-in-Reads-clause-turn g c = rw c.in-Reads.is c.in_ok-receive_logged-in-Reads.ensures.reads
