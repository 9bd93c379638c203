use Rattle.std.proofs.Common.{◌∙◌, ap, subst}
use Rattle.std.proofs.lemmas.Result.{on_ok_weaker}
use Rattle.ft_model.specs.Legal.{machines}
use Rattle.ft_model.specs.Node.Input.{Tick_comes}
use Rattle.plain_world.specs.Turns.{Serves}
use Rattle.plain_world.proofs.Events.{ticks}
use Rattle.plain_world.proofs.world.PlainWorld.tick.Goals as goal

pub returns : goal.returns
returns g c =
    let service = machines g.S.Service.started g.S.Service.after g.S.Service.greeting in
    on_ok_weaker c.tick.result
    (λ serves. ticks service c.args.self.now _
    (record { kind = ap (λ w. w.kind) c.self.view_is; turns = ap (λ w. w.turns) c.self.view_is; server = ap (λ w. w.server) c.self.view_is; profile = ap (λ w. w.profile) c.self.view_is })
    (ap (λ w. w.boot) c.self.view_is)
    (c.tick.ensures.clients ∙ ap (λ w. w.clients) c.self.view_is)
    (c.tick.ensures.log ∙ ap (λ w. w.log) c.self.view_is)
    (subst (λ w. Serves service Tick_comes w.node c.tick.new.self.node w.packets c.tick.new.sent) c.self.view_is serves))
    c.tick.ensures.serves
