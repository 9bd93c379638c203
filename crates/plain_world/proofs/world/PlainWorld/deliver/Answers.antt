use Rattle.std.proofs.Common.{◌∙◌, ◌++◌, [], ap, subst}
use Rattle.std.proofs.lemmas.Result.{on_ok_weaker}
use Rattle.ft_model.specs.Legal.{machines}
use Rattle.plain_packets.specs.Sent.{wire_at}
use Rattle.plain_world.specs.Turns.{Brings}
use Rattle.plain_world.specs.WorldState.{actors_of}
use Rattle.plain_world.proofs.Events.{delivers}
use Rattle.plain_world.proofs.world.PlainWorld.deliver.Goals as goal

pub returns : goal.returns
returns g c =
    let service = machines g.S.Service.started g.S.Service.after g.S.Service.greeting in
    let brings = subst (λ ps. Brings service c.in-Some.wire.now c.self.inside.actors c.bring.new.self ps c.bring.new.sent) c.new-sent.ensures c.in_ok-bring.ensures in
    on_ok_weaker c.append.result
    (λ follow. delivers service c.args.self.now _ c.args.number c.in-Some.wire.now c.bring.new.sent
    (c.in-Some.ensures ∙ ap (λ w. wire_at w.packets c.args.number) c.self.view_is)
    (record { kind = ap (λ w. w.kind) c.self.view_is; turns = ap (λ w. w.turns) c.self.view_is; server = ap (λ w. w.server) c.self.view_is; profile = ap (λ w. w.profile) c.self.view_is })
    (ap (λ w. w.boot) c.self.view_is)
    (subst (λ w. Brings service c.in-Some.wire.now (actors_of w) c.bring.new.self [] c.bring.new.sent) c.self.view_is brings)
    (follow ∙ ap (λ w. w.packets ++ c.bring.new.sent) c.self.view_is))
    c.append.ensures
