use Rattle.std.proofs.Common.{◌≡◌, ◌∙◌, ap, sym, Some}
use Rattle.ft_model.specs.World.{client_at}
use Rattle.plain_world.specs.Moves.{move_value}
use Rattle.plain_world.proofs.Events.{asked_refusal}
use Rattle.plain_world.proofs.world.PlainWorld.move_refusal.Goals as goal

pub returns : goal.returns
returns g c =
    let clients = c.args.self.now.clients in
    let there : client_at clients c.args.number ≡ Some c.in-Some.client.now = sym (c.in-Some.ensures ∙ ap (λ cs. client_at cs c.args.number) c.clients.ensures) in
    c.refusal.ensures ∙ asked_refusal clients c.args.event.now c.args.number c.in-Some.client.now (move_value c.in_ok-move_of.field-0) c.requires c.in_ok-move_of.ensures there
