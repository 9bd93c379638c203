use Rattle.replay_run.proofs.RunEnds.{steady, rises, rest_goes, rest_fails}
use Rattle.replay_check.proofs.Fronts.{all_taken}
use Rattle.replay_run.proofs.play.write_rest.Goals as goal

pub returns-in-Ok : goal.returns-in-Ok
returns-in-Ok g c = record {
  stops = λ schedule old h.
      rest_goes schedule old (g.O.Sink.taken c.args.out.now) (g.O.Sink.taken c.flush.new.out) c.args.report.now.held.items c.args.end c.in_default.not-WriteFault h
      (λ text way. all_taken old (g.O.Sink.taken c.flush.new.out) c.flush.new.report.held.items text c.in-Ok.ensures.empty (c.in-Ok.ensures.ok old text way));
  faults = λ before counts. steady before (g.O.Sink.fault_count c.args.out.now) (g.O.Sink.fault_count c.flush.new.out) c.args.end c.in_default.not-WriteFault counts c.in-Ok.ensures.faults;
}

pub returns-in-Err : goal.returns-in-Err
returns-in-Err g c = record {
  stops = λ schedule old h.
      rest_fails schedule old (g.O.Sink.taken c.args.out.now) (g.O.Sink.taken c.flush.new.out) c.args.report.now.held.items c.args.end c.in_default.not-WriteFault h
      (λ text way. c.in-Err.ensures.err old text way);
  faults = λ before counts. rises before (g.O.Sink.fault_count c.args.out.now) (g.O.Sink.fault_count c.flush.new.out) c.args.end c.in_default.not-WriteFault counts c.in-Err.ensures.faults;
}
