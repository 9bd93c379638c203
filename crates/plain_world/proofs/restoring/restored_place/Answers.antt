use Rattle.std.proofs.Common.{◌≡◌, ◌∙◌, false, ap, sym}
use Rattle.ft_model.specs.Node.{Stage}
use Rattle.plain_world.specs.Values.{node_of}
use Rattle.plain_world.proofs.Entries.{revived}
use Rattle.plain_world.proofs.restoring.restored_place.Goals as goal

pub returns-clause-turn : goal.returns-clause-turn
returns-clause-turn g c =
    let live : c.args.entry.head.done ≡ false = ap (λ h. h.done) (sym c.head-head.ensures) ∙ c.if-head.false in
    λ (stage : Stage).
    revived _ (node_of c.args.who stage) c.args.entry _ c.args.sent.now c.turn_live.new.sent live (rw c.in_ok-connection.ensures.point at (c.in_ok-turn_live.ensures.turn stage))
