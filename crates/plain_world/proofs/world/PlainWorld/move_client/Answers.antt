use Rattle.std.proofs.Common.{ap, subst}
use Rattle.std.proofs.lemmas.Result.{on_ok_weaker}
use Rattle.ft_model.specs.Legal.{machines}
use Rattle.plain_world.specs.Turns.{MovesClient}
use Rattle.plain_world.specs.WorldState.{actors_of}
use Rattle.plain_world.proofs.Events.{client_moves}
use Rattle.plain_world.proofs.world.PlainWorld.move_client.Goals as goal

pub returns : goal.returns
returns g c =
    on_ok_weaker c.make.result
    (λ moves. client_moves (machines g.S.Service.started g.S.Service.after g.S.Service.greeting) c.args.self.now _ c.args.event.now c.args.number c.requires.mover
    (subst (λ w. MovesClient c.args.number c.args.event.now (actors_of w) c.make.new.self w.packets c.make.new.sent) c.self.view_is moves)
    (record { kind = ap (λ w. w.kind) c.self.view_is; turns = ap (λ w. w.turns) c.self.view_is; server = ap (λ w. w.server) c.self.view_is; profile = ap (λ w. w.profile) c.self.view_is })
    (ap (λ w. w.boot) c.self.view_is) c.requires.served)
    c.make.ensures
