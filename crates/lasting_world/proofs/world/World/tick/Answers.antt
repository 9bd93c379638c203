use Rattle.std.proofs.Common.{refl}
use Rattle.lasting_world.specs.WorldView.{kept, server_of, service_of}
use Rattle.lasting_world.proofs.Happenings.{ticked, down_refused}
use Rattle.lasting_world.proofs.Outcomes.{is_up, is_down}
use Rattle.lasting_world.proofs.world.World.tick.Goals as goal

pub returns-then-is_none-clause-ends : goal.returns-then-is_none-clause-ends
returns-then-is_none-clause-ends g c =
    let w = c.args.self.now in
    ((λ v st. (down_refused (service_of w) (kept w) (kept w) (is_down server_of w.node c.is_none.result c.is_none.ensures c.if-is_none.true) v st).1), refl)

pub returns-clause-done : goal.returns-clause-done
returns-clause-done g c =
    let w = c.args.self.now in
    ticked (service_of w) (kept w) (kept c.serve.new.self) (is_up server_of w.node c.is_none.result c.is_none.ensures c.if-is_none.false) c.in_ok-serve.ensures
