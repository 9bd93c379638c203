use Rattle.ft_model.specs.Legal.{machines}
use Rattle.lasting_world.specs.WorldView.{kept, service_of}
use Rattle.lasting_world.proofs.Trace.{steps, limits, ends_so, keeps_refused}
use Rattle.lasting_world.proofs.world.World.step.Goals as goal

pub returns-in-Ok-clause-done : goal.returns-in-Ok-clause-done
returns-in-Ok-clause-done g c =
    steps (machines g.S.Service.started g.S.Service.after g.S.Service.greeting)
    (record {
      near = c.lasting_premises_hold.ensures.near;
      sound = c.lasting_premises_hold.ensures.sound;
      unfenced = c.lasting_premises_hold.ensures.unfenced;
      sent = c.lasting_parcels_are_written.ensures.sent;
      kept = c.lasting_parcels_are_written.ensures.kept;
    })
    (kept c.args.self.now) (kept c.act.new.self) c.args.event.now c.numbers_fit.ensures c.in-Ok.ensures.done c.counted.result c.len-before.result c.len-before.ensures c.counted.ensures.last
    c.counted.ensures.count c.counted.ensures.within

pub returns-in-Ok-clause-ends : goal.returns-in-Ok-clause-ends
returns-in-Ok-clause-ends g c =
    limits (machines g.S.Service.started g.S.Service.after g.S.Service.greeting)
    (record {
      near = c.lasting_premises_hold.ensures.near;
      sound = c.lasting_premises_hold.ensures.sound;
      unfenced = c.lasting_premises_hold.ensures.unfenced;
      sent = c.lasting_parcels_are_written.ensures.sent;
      kept = c.lasting_parcels_are_written.ensures.kept;
    })
    (kept c.args.self.now) (kept c.act.new.self) c.args.event.now c.numbers_fit.ensures c.in-Ok.ensures.done c.counted.result c.counted.ensures.over

pub returns-in-Err-clause-ends : goal.returns-in-Err-clause-ends
returns-in-Err-clause-ends g c =
    ends_so (machines g.S.Service.started g.S.Service.after g.S.Service.greeting) (kept c.args.self.now) (kept c.act.new.self) c.args.event.now c.in-Err.end c.in-Err.ensures.ends

pub returns-in-Err-clause-keeps : goal.returns-in-Err-clause-keeps
returns-in-Err-clause-keeps g c = keeps_refused (service_of c.args.self.now) (kept c.args.self.now) (kept c.act.new.self) c.args.event.now c.in-Err.end c.in-Err.ensures.ends
