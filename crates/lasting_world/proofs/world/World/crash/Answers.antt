use Rattle.std.proofs.Common.{ap, refl, option_map}
use Rattle.lasting_world.proofs.Outcomes.{is_up, is_down}
use Rattle.lasting_world.specs.WorldView.{kept, server_of, service_of}
use Rattle.lasting_world.proofs.Happenings.{crashed, down_refused}
use Rattle.lasting_world.proofs.world.World.crash.Goals as goal

pub returns-then-is_none-clause-ends : goal.returns-then-is_none-clause-ends
returns-then-is_none-clause-ends g c =
    let w = c.args.self.now in
    ((λ v st. (down_refused (service_of w) (kept w) (kept w) (is_down server_of w.node c.is_none.result c.is_none.ensures c.if-is_none.true) v st).0), refl)

pub returns-clause-done : goal.returns-clause-done
returns-clause-done g c =
    let w = c.args.self.now in
    crashed (service_of w) (kept w) _ (is_up server_of w.node c.is_none.result c.is_none.ensures c.if-is_none.false)
    (ap (λ n. record (kept w) { node = option_map server_of n }) c.take.ensures.after)
