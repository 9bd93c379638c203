use Rattle.std.proofs.Common.{sym, subst, refl, rules}
use Rattle.std.proofs.lemmas.Result.{on_ok_weaker}
use Rattle.node_serving.specs.Markers.{saving}
use Rattle.net_schedule.specs.Turns.{Does, Declines}
use Rattle.net_schedule.proofs.TwinActors.{acted, acted_not, movers_are_actors}
use Rattle.net_schedule.proofs.world.World.act.Goals as goal
use Rattle.ft_io.proofs.Outcomes.{if_err}

pub returns-in-Boot-clause-done : goal.returns-in-Boot-clause-done
returns-in-Boot-clause-done g c = acted (saving g.S.Saved.form g.S.Saved.state_of g.S.Saved.is_savable) c.args.self.now c.boot.new.self c.boot.result c.args.event.now _ c.in-Boot.is tt c.boot.ensures.done

pub returns-in-Boot-clause-ends : goal.returns-in-Boot-clause-ends
returns-in-Boot-clause-ends g c = acted_not (saving g.S.Saved.form g.S.Saved.state_of g.S.Saved.is_savable) c.args.self.now c.boot.new.self c.boot.result c.args.event.now _ c.in-Boot.is tt c.boot.ensures.ends

pub returns-in-Crash-clause-done : goal.returns-in-Crash-clause-done
returns-in-Crash-clause-done g c = acted (saving g.S.Saved.form g.S.Saved.state_of g.S.Saved.is_savable) c.args.self.now c.crash.new.self c.crash.result c.args.event.now _ c.in-Crash.is tt c.crash.ensures.done

pub returns-in-Crash-clause-ends : goal.returns-in-Crash-clause-ends
returns-in-Crash-clause-ends g c = acted_not (saving g.S.Saved.form g.S.Saved.state_of g.S.Saved.is_savable) c.args.self.now c.crash.new.self c.crash.result c.args.event.now _ c.in-Crash.is tt c.crash.ensures.ends

pub returns-in-Tick-clause-done : goal.returns-in-Tick-clause-done
returns-in-Tick-clause-done g c = acted (saving g.S.Saved.form g.S.Saved.state_of g.S.Saved.is_savable) c.args.self.now c.tick.new.self c.tick.result c.args.event.now _ c.in-Tick.is tt c.tick.ensures.done

pub returns-in-Tick-clause-ends : goal.returns-in-Tick-clause-ends
returns-in-Tick-clause-ends g c = acted_not (saving g.S.Saved.form g.S.Saved.state_of g.S.Saved.is_savable) c.args.self.now c.tick.new.self c.tick.result c.args.event.now _ c.in-Tick.is tt c.tick.ensures.ends

pub returns-in-Begin-clause-done : goal.returns-in-Begin-clause-done
returns-in-Begin-clause-done g c =
    acted (saving g.S.Saved.form g.S.Saved.state_of g.S.Saved.is_savable) c.args.self.now c.make.new.self c.make.result c.args.event.now _ refl (movers_are_actors c.args.event.now c.in-Begin.client (search rules)) c.make.ensures.done

pub returns-in-Begin-clause-ends : goal.returns-in-Begin-clause-ends
returns-in-Begin-clause-ends g c =
    acted_not (saving g.S.Saved.form g.S.Saved.state_of g.S.Saved.is_savable) c.args.self.now c.make.new.self c.make.result c.args.event.now _ refl (movers_are_actors c.args.event.now c.in-Begin.client (search rules)) c.make.ensures.ends

pub returns-in-Deliver-clause-done : goal.returns-in-Deliver-clause-done
returns-in-Deliver-clause-done g c = on_ok_weaker c.deliver.result (subst (λ e. Does (saving g.S.Saved.form g.S.Saved.state_of g.S.Saved.is_savable) e c.args.self.now c.deliver.new.self) (sym c.in-Deliver.is)) c.deliver.ensures.done

pub returns-in-Deliver-clause-ends : goal.returns-in-Deliver-clause-ends
returns-in-Deliver-clause-ends g c = if_err c.deliver.result (λ end. subst (λ e. Declines (saving g.S.Saved.form g.S.Saved.state_of g.S.Saved.is_savable) e c.args.self.now c.deliver.new.self end) (sym c.in-Deliver.is)) c.deliver.ensures.ends

pub returns-in-Flip-clause-done : goal.returns-in-Flip-clause-done
returns-in-Flip-clause-done g c = on_ok_weaker c.flip.result (subst (λ e. Does (saving g.S.Saved.form g.S.Saved.state_of g.S.Saved.is_savable) e c.args.self.now c.flip.new.self) (sym c.in-Flip.is)) c.flip.ensures.done

pub returns-in-Flip-clause-ends : goal.returns-in-Flip-clause-ends
returns-in-Flip-clause-ends g c = if_err c.flip.result (λ end. subst (λ e. Declines (saving g.S.Saved.form g.S.Saved.state_of g.S.Saved.is_savable) e c.args.self.now c.flip.new.self end) (sym c.in-Flip.is)) c.flip.ensures.ends

pub returns-in-Stop-clause-done : goal.returns-in-Stop-clause-done
returns-in-Stop-clause-done g c = on_ok_weaker c.stop.result (subst (λ e. Does (saving g.S.Saved.form g.S.Saved.state_of g.S.Saved.is_savable) e c.args.self.now c.stop.new.self) (sym c.in-Stop.is)) c.stop.ensures.done

pub returns-in-Stop-clause-ends : goal.returns-in-Stop-clause-ends
returns-in-Stop-clause-ends g c = if_err c.stop.result (λ end. subst (λ e. Declines (saving g.S.Saved.form g.S.Saved.state_of g.S.Saved.is_savable) e c.args.self.now c.stop.new.self end) (sym c.in-Stop.is)) c.stop.ensures.ends
