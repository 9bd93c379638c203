use Rattle.std.proofs.Common.{◌≤◌, length, refl, sym, subst, ap, Err, arith}
use Rattle.sample_servers.specs.AnyService.{any_machine}
use Rattle.trace_check.specs.Leads.{IsRejection}
use Rattle.replay_check.specs.Checks.{report_limit, CheckStops}
use Rattle.replay_check.specs.Stream.{stream}
use Rattle.replay_check.proofs.Checking.{IsCounted, source_stops, judging_stops, reporting_stops, finds}
use Rattle.replay_check.proofs.check.check.Goals as goal
use Rattle.ft_io.proofs.Outcomes.{of_error}

pub returns-in_err-text-clause-stops : goal.returns-in_err-text-clause-stops
returns-in_err-text-clause-stops g c =
    of_error c.from_residual.result c.from_residual.ensures.1
    (λ end is. subst (CheckStops (stream g.I.Source.left g.I.Source.fault_count c.args.input.now c.read_to_limit.new.input) (stream g.O.Sink.taken g.O.Sink.fault_count c.args.out.now c.args.out.now)) (sym is)
    (source_stops (stream g.I.Source.left g.I.Source.fault_count c.args.input.now c.read_to_limit.new.input) (stream g.O.Sink.taken g.O.Sink.fault_count c.args.out.now c.args.out.now) c.in_err-text.field-0.0
    (refl, refl) (λ e. c.in_err-text.ensures.too_long (ap Err e)) (λ e. c.in_err-text.ensures.fault (ap Err e)) (λ e. c.in_err-text.ensures.no_fault_at_the_limit (ap Err e))
    (λ e. c.in_err-text.ensures.no_fault_of_memory (ap Err e))))

pub returns-in_err-yes-clause-stops : goal.returns-in_err-yes-clause-stops
returns-in_err-yes-clause-stops g c =
    let few : length c.in_ok-text.text.items ≤ report_limit = omega (arith, c.in_ok-text.ensures.within, ap length c.deref.ensures.value, c.deref.ensures.len) in
    of_error c.from_residual-in_err-yes.result c.from_residual-in_err-yes.ensures.1
    (λ end is. subst (CheckStops (stream g.I.Source.left g.I.Source.fault_count c.args.input.now c.read_to_limit.new.input) (stream g.O.Sink.taken g.O.Sink.fault_count c.args.out.now c.args.out.now)) (sym is)
    (judging_stops (stream g.I.Source.left g.I.Source.fault_count c.args.input.now c.read_to_limit.new.input) (stream g.O.Sink.taken g.O.Sink.fault_count c.args.out.now c.args.out.now) c.in_ok-text.text.items
    c.in_err-yes.field-0.0 c.in_ok-text.ensures.end c.in_ok-text.ensures.no_fault c.in_ok-text.ensures.whole few (refl, refl)
    (subst (λ text. IsRejection any_machine text c.in_err-yes.field-0.0) c.deref.ensures.value c.in_err-yes.ensures.rejected)))

pub returns-in_err-write_legal-clause-stops : goal.returns-in_err-write_legal-clause-stops
returns-in_err-write_legal-clause-stops g c =
    let few : length c.in_ok-text.text.items ≤ report_limit = omega (arith, c.in_ok-text.ensures.within, ap length c.deref.ensures.value, c.deref.ensures.len) in
    of_error c.from_residual-in_err-write_legal.result c.from_residual-in_err-write_legal.ensures.1
    (λ end is. subst (CheckStops (stream g.I.Source.left g.I.Source.fault_count c.args.input.now c.read_to_limit.new.input) (stream g.O.Sink.taken g.O.Sink.fault_count c.args.out.now c.write_legal.new.out)) (sym is)
    (reporting_stops c.joint_traces_are_safe.ensures (stream g.I.Source.left g.I.Source.fault_count c.args.input.now c.read_to_limit.new.input)
    (stream g.O.Sink.taken g.O.Sink.fault_count c.args.out.now c.write_legal.new.out) c.in_ok-text.text.items c.in_ok-yes.yes.events c.in_ok-yes.yes.packets
    c.in_ok-text.ensures.end c.in_ok-text.ensures.no_fault c.in_ok-text.ensures.whole few
    (subst (λ text. IsCounted text c.in_ok-yes.yes.events c.in_ok-yes.yes.packets) c.deref.ensures.value c.in_ok-yes.ensures.legal)
    c.in_err-write_legal.ensures.front c.in_err-write_legal.ensures.fault))

pub returns-clause-done : goal.returns-clause-done
returns-clause-done g c =
    let few : length c.in_ok-text.text.items ≤ report_limit = omega (arith, c.in_ok-text.ensures.within, ap length c.deref.ensures.value, c.deref.ensures.len) in
    finds c.joint_traces_are_safe.ensures (stream g.I.Source.left g.I.Source.fault_count c.args.input.now c.read_to_limit.new.input)
    (stream g.O.Sink.taken g.O.Sink.fault_count c.args.out.now c.write_legal.new.out) c.in_ok-text.text.items c.in_ok-yes.yes.events c.in_ok-yes.yes.packets
    c.in_ok-text.ensures.end c.in_ok-text.ensures.no_fault c.in_ok-text.ensures.whole few
    (subst (λ text. IsCounted text c.in_ok-yes.yes.events c.in_ok-yes.yes.packets) c.deref.ensures.value c.in_ok-yes.ensures.legal)
    c.in_ok-write_legal.ensures.whole c.in_ok-write_legal.ensures.fault
