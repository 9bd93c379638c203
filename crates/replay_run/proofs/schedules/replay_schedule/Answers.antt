use Rattle.std.proofs.Common.{refl, Ok, Err, ⊎_elim}
use Rattle.replay_check.specs.Stream.{stream}
use Rattle.replay_run.proofs.Settling.{in_order, is_reported_code, settles, settles_end}
use Rattle.replay_check.proofs.EndReported.{of_reported, reported_as, never_done}
use Rattle.replay_run.proofs.schedules.replay_schedule.Goals as goal

pub returns-in-Ok-clause-run : goal.returns-in-Ok-clause-run
returns-in-Ok-clause-run g c = record {
  ended = record { end = Ok tt; did = c.in-Ok.ensures.done; reported = (refl, refl) };
  settled = λ input out err. of_reported (g.I.Source.left c.args.input.now) (λ text reported.
      settles c.schedules_end_in_one_way.ensures.whole_or_refused c.schedules_end_in_one_way.ensures.whole_or_past c.schedules_end_in_one_way.ensures.refused_or_past
      text 0 refl (λ e. cc) (λ e. cc)
      (λ e. in_order text (stream g.I.Source.left g.I.Source.fault_count c.args.input.now c.run.new.input) (stream g.O.Sink.taken g.O.Sink.fault_count c.args.out.now c.run.new.out) reported c.in-Ok.ensures.done)
      (λ e. cc) (λ e. cc) (λ e. cc));
  codes = refl;
}

pub returns-in-Err-clause-run : goal.returns-in-Err-clause-run
returns-in-Err-clause-run g c = record {
  ended = record {
    end = Err c.in-Err.end;
    did = c.in-Err.ensures.stops;
    reported = reported_as c.in-Err.end (stream g.E.Sink.taken g.E.Sink.fault_count c.args.err.now c.report_end.new.err) c.report_end.result.code c.report_end.ensures.reported c.report_end.ensures.unreported;
  };
  settled = λ input out err. of_reported (g.I.Source.left c.args.input.now) (λ text reported. ⊎_elim
      (λ is. settles_end c.schedules_end_in_one_way.ensures.whole_or_refused c.schedules_end_in_one_way.ensures.whole_or_past c.schedules_end_in_one_way.ensures.refused_or_past
      text c.report_end.result.code (stream g.I.Source.left g.I.Source.fault_count c.args.input.now c.run.new.input) (stream g.O.Sink.taken g.O.Sink.fault_count c.args.out.now c.run.new.out) c.in-Err.end reported is.0 c.in-Err.ensures.stops
      input out)
      (λ fault. absurd (err fault.1))
      c.report_end.ensures.reported);
  codes = is_reported_code (stream g.I.Source.left g.I.Source.fault_count c.args.input.now c.run.new.input) (stream g.O.Sink.taken g.O.Sink.fault_count c.args.out.now c.run.new.out) c.in-Err.end
      (stream g.E.Sink.taken g.E.Sink.fault_count c.args.err.now c.report_end.new.err) c.report_end.result.code c.in-Err.ensures.stops c.report_end.ensures.reported;
}

pub returns-in-Err-clause-done : goal.returns-in-Err-clause-done
returns-in-Err-clause-done g c = λ e.
    absurd (never_done c.in-Err.end (stream g.E.Sink.taken g.E.Sink.fault_count c.args.err.now c.report_end.new.err) c.report_end.result.code c.report_end.ensures.reported e)
