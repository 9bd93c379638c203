use Rattle.std.proofs.Common.{refl}
use Rattle.std.proofs.lemmas.Result.{on_ok_weaker}
use Rattle.lasting_world.specs.Around.{kept_around}
use Rattle.lasting_world.specs.WorldView.{kept, service_of}
use Rattle.lasting_world.proofs.Happenings.{made, declined}
use Rattle.lasting_world.proofs.world.World.make.Goals as goal

pub returns-clause-done : goal.returns-clause-done
returns-clause-done g c =
    let w = c.args.self.now in
    let after = record (kept w) { around = kept_around c.make.new.self } in
    on_ok_weaker c.make.result (λ m. made (service_of w) (kept w) after c.args.event.now c.args.number c.requires refl m) c.make.ensures.done

pub returns-clause-ends : goal.returns-clause-ends
returns-clause-ends g c =
    let w = c.args.self.now in
    let after = record (kept w) { around = kept_around c.make.new.self } in
    declined (service_of w) (kept w) after c.make.result c.args.event.now c.args.number c.requires refl c.make.ensures.ends
