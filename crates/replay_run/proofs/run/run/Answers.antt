use Rattle.std.proofs.Common.{◌∙◌, ap, sym, subst, refl, Err}
use Rattle.schedule_text.specs.Fleeting.{read_fleeting}
use Rattle.replay_run.specs.PlayedRun.{ReportsAll}
use Rattle.replay_run.specs.Runs.{StopsReading, RunStops}
use Rattle.replay_check.specs.Stream.{stream}
use Rattle.replay_run.proofs.RunEnds.{source_stops, reading_stops, playing_stops, playing_reports, ok_counts, err_counts}
use Rattle.replay_run.proofs.run.run.Goals as goal
use Rattle.ft_io.proofs.Outcomes.{of_error}

pub returns-in_err-text-clause-stops : goal.returns-in_err-text-clause-stops
returns-in_err-text-clause-stops g c =
    of_error c.from_residual.result c.from_residual.ensures.1
    (λ end is. subst (RunStops (stream g.I.Source.left g.I.Source.fault_count c.args.input.now c.read_to_limit.new.input) (stream g.O.Sink.taken g.O.Sink.fault_count c.args.out.now c.args.out.now)) (sym is)
    (source_stops (stream g.I.Source.left g.I.Source.fault_count c.args.input.now c.read_to_limit.new.input) (stream g.O.Sink.taken g.O.Sink.fault_count c.args.out.now c.args.out.now) c.in_err-text.field-0.0
    refl refl (λ e. c.in_err-text.ensures.too_long (ap Err e)) (λ e. c.in_err-text.ensures.fault (ap Err e)) (λ e. c.in_err-text.ensures.no_fault_at_the_limit (ap Err e))
    (λ e. c.in_err-text.ensures.no_fault_of_memory (ap Err e))))

pub returns-in_err-schedule-clause-stops : goal.returns-in_err-schedule-clause-stops
returns-in_err-schedule-clause-stops g c =
    of_error c.from_residual-in_err-schedule.result c.from_residual-in_err-schedule.ensures.1
    (λ end is. subst (RunStops (stream g.I.Source.left g.I.Source.fault_count c.args.input.now c.read_to_limit.new.input) (stream g.O.Sink.taken g.O.Sink.fault_count c.args.out.now c.args.out.now)) (sym is)
    (reading_stops (stream g.I.Source.left g.I.Source.fault_count c.args.input.now c.read_to_limit.new.input) (stream g.O.Sink.taken g.O.Sink.fault_count c.args.out.now c.args.out.now) c.in_ok-text.text.items c.in_err-schedule.field-0.0
    refl refl c.in_ok-text.ensures.no_fault c.in_ok-text.ensures.whole (subst (λ text. StopsReading text c.in_err-schedule.field-0.0) c.deref.ensures.value c.in_err-schedule.ensures.stops)))

pub returns-clause-stops : goal.returns-clause-stops
returns-clause-stops g c =
    err_counts c.play.result (g.O.Sink.fault_count c.args.out.now) (g.O.Sink.fault_count c.play.new.out) c.play.ensures.faults
    (λ end counts s. playing_stops (stream g.I.Source.left g.I.Source.fault_count c.args.input.now c.read_to_limit.new.input) (stream g.O.Sink.taken g.O.Sink.fault_count c.args.out.now c.play.new.out) c.in_ok-text.text.items
    c.in_ok-schedule.schedule end c.in_ok-text.ensures.end c.in_ok-text.ensures.no_fault c.in_ok-text.ensures.whole (ap read_fleeting (sym c.deref.ensures.value) ∙ c.in_ok-schedule.ensures.spelled) counts s)
    c.play.ensures.stops

pub returns-clause-done : goal.returns-clause-done
returns-clause-done g c =
    ok_counts c.play.result (g.O.Sink.fault_count c.args.out.now) (g.O.Sink.fault_count c.play.new.out) c.play.ensures.faults
    (λ counts s. playing_reports (stream g.I.Source.left g.I.Source.fault_count c.args.input.now c.read_to_limit.new.input) (stream g.O.Sink.taken g.O.Sink.fault_count c.args.out.now c.play.new.out) c.in_ok-text.text.items
    c.in_ok-schedule.schedule ReportsAll c.in_ok-text.ensures.end c.in_ok-text.ensures.no_fault c.in_ok-text.ensures.whole (ap read_fleeting (sym c.deref.ensures.value) ∙ c.in_ok-schedule.ensures.spelled) counts s)
    c.play.ensures.done
