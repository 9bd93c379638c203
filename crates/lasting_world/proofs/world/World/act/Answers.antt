use Rattle.std.proofs.Common.{ap, sym, subst, refl}
use Rattle.std.proofs.lemmas.Result.{on_ok_weaker}
use Rattle.ft_io.proofs.Outcomes.{if_err}
use Rattle.lasting_laws.specs.LastingLegal.{lasting_refusal}
use Rattle.lasting_world.specs.Steps.{Does, Declines}
use Rattle.lasting_world.specs.WorldView.{kept, service_of}
use Rattle.lasting_world.proofs.world.World.act.Goals as goal

pub returns-in-Boot-clause-done : goal.returns-in-Boot-clause-done
returns-in-Boot-clause-done g c = on_ok_weaker c.boot.result (subst (λ e. Does (service_of c.args.self.now) e (kept c.args.self.now) (kept c.boot.new.self)) (sym c.in-Boot.is)) c.boot.ensures.done

pub returns-in-Boot-clause-ends : goal.returns-in-Boot-clause-ends
returns-in-Boot-clause-ends g c = if_err c.boot.result (λ end. subst (λ e. Declines (service_of c.args.self.now) e (kept c.args.self.now) (kept c.boot.new.self) end) (sym c.in-Boot.is)) c.boot.ensures.ends

pub returns-in-Crash-clause-done : goal.returns-in-Crash-clause-done
returns-in-Crash-clause-done g c = on_ok_weaker c.crash.result (subst (λ e. Does (service_of c.args.self.now) e (kept c.args.self.now) (kept c.crash.new.self)) (sym c.in-Crash.is)) c.crash.ensures.done

pub returns-in-Crash-clause-ends : goal.returns-in-Crash-clause-ends
returns-in-Crash-clause-ends g c = if_err c.crash.result (λ end. subst (λ e. Declines (service_of c.args.self.now) e (kept c.args.self.now) (kept c.crash.new.self) end) (sym c.in-Crash.is)) c.crash.ensures.ends

pub returns-in-Tick-clause-done : goal.returns-in-Tick-clause-done
returns-in-Tick-clause-done g c = on_ok_weaker c.tick.result (subst (λ e. Does (service_of c.args.self.now) e (kept c.args.self.now) (kept c.tick.new.self)) (sym c.in-Tick.is)) c.tick.ensures.done

pub returns-in-Tick-clause-ends : goal.returns-in-Tick-clause-ends
returns-in-Tick-clause-ends g c = if_err c.tick.result (λ end. subst (λ e. Declines (service_of c.args.self.now) e (kept c.args.self.now) (kept c.tick.new.self) end) (sym c.in-Tick.is)) c.tick.ensures.ends

pub returns-in-Deliver-clause-done : goal.returns-in-Deliver-clause-done
returns-in-Deliver-clause-done g c = on_ok_weaker c.deliver.result (subst (λ e. Does (service_of c.args.self.now) e (kept c.args.self.now) (kept c.deliver.new.self)) (sym c.in-Deliver.is)) c.deliver.ensures.done

pub returns-in-Deliver-clause-ends : goal.returns-in-Deliver-clause-ends
returns-in-Deliver-clause-ends g c = if_err c.deliver.result (λ end. subst (λ e. Declines (service_of c.args.self.now) e (kept c.args.self.now) (kept c.deliver.new.self) end) (sym c.in-Deliver.is)) c.deliver.ensures.ends

pub returns-in-Flip-clause-done : goal.returns-in-Flip-clause-done
returns-in-Flip-clause-done g c = on_ok_weaker c.flip.result (subst (λ e. Does (service_of c.args.self.now) e (kept c.args.self.now) (kept c.flip.new.self)) (sym c.in-Flip.is)) c.flip.ensures.done

pub returns-in-Flip-clause-ends : goal.returns-in-Flip-clause-ends
returns-in-Flip-clause-ends g c = if_err c.flip.result (λ end. subst (λ e. Declines (service_of c.args.self.now) e (kept c.args.self.now) (kept c.flip.new.self) end) (sym c.in-Flip.is)) c.flip.ensures.ends

pub returns-in-Stop-clause-ends : goal.returns-in-Stop-clause-ends
returns-in-Stop-clause-ends g c = ((λ v st. ap (lasting_refusal v) c.in-Stop.is), refl)
