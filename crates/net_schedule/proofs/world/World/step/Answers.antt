use Rattle.ft_model.specs.Legal.{machines}
use Rattle.node_serving.specs.Markers.{saving}
use Rattle.net_schedule.specs.Along.{StepsMarked, EndsMarked}
use Rattle.net_schedule.specs.MarkedRefinement.{marker_for}
use Rattle.net_schedule.specs.WorldView.{kept}
use Rattle.net_schedule.proofs.Trace.{laws_hold, steps, limits, ends_so, keeps_refused}
use Rattle.net_schedule.proofs.TwinTrace.{twin_laws_hold, twin_steps, twin_limits, twin_ends_so}
use Rattle.net_schedule.proofs.MarkedTrace.{marked_laws_hold, done_marked, ends_marked, marked_steps, marked_limits, marked_ends_so}
use Rattle.net_schedule.proofs.world.World.step.Goals as goal

pub returns-in-Ok-clause-done : goal.returns-in-Ok-clause-done
returns-in-Ok-clause-done g c =
    steps (machines g.S.Service.started g.S.Service.after g.S.Service.greeting)
    (laws_hold (machines g.S.Service.started g.S.Service.after g.S.Service.greeting) (λ kind. (g.met.S.Service.greets_shortly (g.S.Service.started kind), g.met.S.Service.is_short)) (λ kind. g.met.S.Service.writes_bytes kind))
    c.counted.result (kept c.args.self.now) (kept c.act.new.self) c.args.event.now c.len-before.result c.len-before.ensures c.in-Ok.ensures.done.continues.same_kind c.in-Ok.ensures.done.continues.same_profile
    c.in-Ok.ensures.done.one c.counted.ensures.first c.counted.ensures.count c.counted.ensures.within

pub returns-in-Ok-clause-ends : goal.returns-in-Ok-clause-ends
returns-in-Ok-clause-ends g c =
    limits (machines g.S.Service.started g.S.Service.after g.S.Service.greeting)
    (laws_hold (machines g.S.Service.started g.S.Service.after g.S.Service.greeting) (λ kind. (g.met.S.Service.greets_shortly (g.S.Service.started kind), g.met.S.Service.is_short)) (λ kind. g.met.S.Service.writes_bytes kind))
    c.counted.result (kept c.args.self.now) (kept c.act.new.self) c.args.event.now c.in-Ok.ensures.done.continues.same_kind c.in-Ok.ensures.done.continues.same_profile c.in-Ok.ensures.done.one c.counted.ensures.over

pub returns-in-Ok-clause-twin_done : goal.returns-in-Ok-clause-twin_done
returns-in-Ok-clause-twin_done g c =
    twin_steps (machines g.S.Service.started g.S.Service.after g.S.Service.greeting)
    (laws_hold (machines g.S.Service.started g.S.Service.after g.S.Service.greeting) (λ kind. (g.met.S.Service.greets_shortly (g.S.Service.started kind), g.met.S.Service.is_short)) (λ kind. g.met.S.Service.writes_bytes kind))
    (twin_laws_hold (machines g.S.Service.started g.S.Service.after g.S.Service.greeting) (laws_hold (machines g.S.Service.started g.S.Service.after g.S.Service.greeting) (λ kind. (g.met.S.Service.greets_shortly (g.S.Service.started kind), g.met.S.Service.is_short)) (λ kind. g.met.S.Service.writes_bytes kind)))
    c.counted.result (kept c.args.self.now) (kept c.act.new.self) c.args.event.now c.len-before.result c.len-before.ensures c.in-Ok.ensures.done.continues.same_kind c.in-Ok.ensures.done.continues.same_profile
    c.in-Ok.ensures.done.two c.counted.ensures.first c.counted.ensures.count c.counted.ensures.within

pub returns-in-Ok-clause-twin_ends : goal.returns-in-Ok-clause-twin_ends
returns-in-Ok-clause-twin_ends g c =
    twin_limits (machines g.S.Service.started g.S.Service.after g.S.Service.greeting)
    (laws_hold (machines g.S.Service.started g.S.Service.after g.S.Service.greeting) (λ kind. (g.met.S.Service.greets_shortly (g.S.Service.started kind), g.met.S.Service.is_short)) (λ kind. g.met.S.Service.writes_bytes kind))
    (twin_laws_hold (machines g.S.Service.started g.S.Service.after g.S.Service.greeting) (laws_hold (machines g.S.Service.started g.S.Service.after g.S.Service.greeting) (λ kind. (g.met.S.Service.greets_shortly (g.S.Service.started kind), g.met.S.Service.is_short)) (λ kind. g.met.S.Service.writes_bytes kind)))
    c.counted.result (kept c.args.self.now) (kept c.act.new.self) c.args.event.now c.in-Ok.ensures.done.continues.same_kind c.in-Ok.ensures.done.continues.same_profile c.in-Ok.ensures.done.two c.counted.ensures.over

pub returns-in-Err-clause-ends : goal.returns-in-Err-clause-ends
returns-in-Err-clause-ends g c =
    ends_so (saving g.S.Saved.form g.S.Saved.state_of g.S.Saved.is_savable) c.args.self.now c.act.new.self c.args.event.now c.in-Err.end
    (laws_hold (machines g.S.Service.started g.S.Service.after g.S.Service.greeting) (λ kind. (g.met.S.Service.greets_shortly (g.S.Service.started kind), g.met.S.Service.is_short)) (λ kind. g.met.S.Service.writes_bytes kind))
    c.in-Err.ensures.ends

pub returns-in-Err-clause-twin_ends : goal.returns-in-Err-clause-twin_ends
returns-in-Err-clause-twin_ends g c =
    twin_ends_so (saving g.S.Saved.form g.S.Saved.state_of g.S.Saved.is_savable) c.args.self.now c.act.new.self c.args.event.now c.in-Err.end
    (laws_hold (machines g.S.Service.started g.S.Service.after g.S.Service.greeting) (λ kind. (g.met.S.Service.greets_shortly (g.S.Service.started kind), g.met.S.Service.is_short)) (λ kind. g.met.S.Service.writes_bytes kind))
    (twin_laws_hold (machines g.S.Service.started g.S.Service.after g.S.Service.greeting) (laws_hold (machines g.S.Service.started g.S.Service.after g.S.Service.greeting) (λ kind. (g.met.S.Service.greets_shortly (g.S.Service.started kind), g.met.S.Service.is_short)) (λ kind. g.met.S.Service.writes_bytes kind)))
    c.in-Err.ensures.ends

pub returns-in-Err-clause-keeps : goal.returns-in-Err-clause-keeps
returns-in-Err-clause-keeps g c = keeps_refused (saving g.S.Saved.form g.S.Saved.state_of g.S.Saved.is_savable) c.args.self.now c.act.new.self c.args.event.now c.in-Err.end c.in-Err.ensures.ends

pub returns-in-Ok-clause-marked_done : goal.returns-in-Ok-clause-marked_done
returns-in-Ok-clause-marked_done g c =
    done_marked c.counted.result g.S.Saved.is_savable (λ every answer. StepsMarked (saving g.S.Saved.form g.S.Saved.state_of g.S.Saved.is_savable) every c.args.event.now answer c.args.self.now c.act.new.self)
    (λ savable every.
    marked_steps (marker_for (saving g.S.Saved.form g.S.Saved.state_of g.S.Saved.is_savable) (machines g.S.Service.started g.S.Service.after g.S.Service.greeting) every)
    (marked_laws_hold (marker_for (saving g.S.Saved.form g.S.Saved.state_of g.S.Saved.is_savable) (machines g.S.Service.started g.S.Service.after g.S.Service.greeting) every)
    (λ kind. (g.met.S.Service.greets_shortly (g.S.Service.started kind), g.met.S.Service.is_short)) (λ kind. g.met.S.Service.writes_bytes kind) (λ kind. g.met.S.Saved.reads_back savable kind))
    c.counted.result (kept c.args.self.now) (kept c.act.new.self) c.args.event.now c.len-before.result c.len-before.ensures c.in-Ok.ensures.done.continues.same_kind c.in-Ok.ensures.done.continues.same_profile
    (c.in-Ok.ensures.done.marked savable every) c.counted.ensures.first c.counted.ensures.count c.counted.ensures.within)

pub returns-in-Ok-clause-marked_ends : goal.returns-in-Ok-clause-marked_ends
returns-in-Ok-clause-marked_ends g c =
    ends_marked c.counted.result g.S.Saved.is_savable (λ every end. EndsMarked (saving g.S.Saved.form g.S.Saved.state_of g.S.Saved.is_savable) every c.args.event.now end c.args.self.now c.act.new.self)
    (λ savable every.
    marked_limits (marker_for (saving g.S.Saved.form g.S.Saved.state_of g.S.Saved.is_savable) (machines g.S.Service.started g.S.Service.after g.S.Service.greeting) every)
    (marked_laws_hold (marker_for (saving g.S.Saved.form g.S.Saved.state_of g.S.Saved.is_savable) (machines g.S.Service.started g.S.Service.after g.S.Service.greeting) every)
    (λ kind. (g.met.S.Service.greets_shortly (g.S.Service.started kind), g.met.S.Service.is_short)) (λ kind. g.met.S.Service.writes_bytes kind) (λ kind. g.met.S.Saved.reads_back savable kind))
    c.counted.result (kept c.args.self.now) (kept c.act.new.self) c.args.event.now c.in-Ok.ensures.done.continues.same_kind c.in-Ok.ensures.done.continues.same_profile (c.in-Ok.ensures.done.marked savable every) c.counted.ensures.over)

pub returns-in-Err-clause-marked_ends : goal.returns-in-Err-clause-marked_ends
returns-in-Err-clause-marked_ends g c =
    marked_ends_so (saving g.S.Saved.form g.S.Saved.state_of g.S.Saved.is_savable) c.args.self.now c.act.new.self c.args.event.now c.in-Err.end
    (λ savable every. (marked_laws_hold (marker_for (saving g.S.Saved.form g.S.Saved.state_of g.S.Saved.is_savable) (machines g.S.Service.started g.S.Service.after g.S.Service.greeting) every)
    (λ kind. (g.met.S.Service.greets_shortly (g.S.Service.started kind), g.met.S.Service.is_short)) (λ kind. g.met.S.Service.writes_bytes kind) (λ kind. g.met.S.Saved.reads_back savable kind)))
    c.in-Err.ensures.ends
