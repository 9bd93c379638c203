use Rattle.std.proofs.Common.{refl, Ok, Err, ⊎_elim}
use Rattle.replay_check.specs.Stream.{stream}
use Rattle.replay_check.proofs.EndReported.{of_reported, reported_as, never_done}
use Rattle.replay_check.proofs.Checking.{is_reported_code, settles_found, settles_end}
use Rattle.replay_check.proofs.reports.check_report.Goals as goal

pub returns-in-Ok-clause-checked : goal.returns-in-Ok-clause-checked
returns-in-Ok-clause-checked g c = record {
  ended = record { end = Ok tt; did = c.in-Ok.ensures.done; reported = (refl, refl) };
  settled = λ input out err. of_reported (g.I.Source.left c.args.input.now) (λ text reported.
      settles_found c.no_report_has_a_rejected_prefix.ensures text 0
      (stream g.I.Source.left g.I.Source.fault_count c.args.input.now c.check.new.input) (stream g.O.Sink.taken g.O.Sink.fault_count c.args.out.now c.check.new.out) reported c.in-Ok.ensures.done refl);
  codes = refl;
}

pub returns-in-Err-clause-checked : goal.returns-in-Err-clause-checked
returns-in-Err-clause-checked g c = record {
  ended = record {
    end = Err c.in-Err.end;
    did = c.in-Err.ensures.stops;
    reported = reported_as c.in-Err.end (stream g.E.Sink.taken g.E.Sink.fault_count c.args.err.now c.report_end.new.err) c.report_end.result.code c.report_end.ensures.reported c.report_end.ensures.unreported;
  };
  settled = λ input out err. of_reported (g.I.Source.left c.args.input.now) (λ text reported. ⊎_elim
      (λ is. settles_end c.no_report_has_a_rejected_prefix.ensures text c.report_end.result.code
      (stream g.I.Source.left g.I.Source.fault_count c.args.input.now c.check.new.input) (stream g.O.Sink.taken g.O.Sink.fault_count c.args.out.now c.check.new.out) c.in-Err.end reported is.0 c.in-Err.ensures.stops
      input out)
      (λ fault. absurd (err fault.1))
      c.report_end.ensures.reported);
  codes = is_reported_code (stream g.I.Source.left g.I.Source.fault_count c.args.input.now c.check.new.input) (stream g.O.Sink.taken g.O.Sink.fault_count c.args.out.now c.check.new.out) c.in-Err.end
      (stream g.E.Sink.taken g.E.Sink.fault_count c.args.err.now c.report_end.new.err) c.report_end.result.code c.in-Err.ensures.stops c.report_end.ensures.reported;
}

pub returns-in-Err-clause-legal : goal.returns-in-Err-clause-legal
returns-in-Err-clause-legal g c = λ e.
    absurd (never_done c.in-Err.end (stream g.E.Sink.taken g.E.Sink.fault_count c.args.err.now c.report_end.new.err) c.report_end.result.code c.report_end.ensures.reported e)
