use Rattle.std.proofs.Common.{◌≡◌, ◌∙◌, Some, ap, sym, option_map}
use Rattle.ft_io.proofs.Outcomes.{at_err}
use Rattle.forget_store.specs.AnyMessage.{heeded_in, any_said}
use Rattle.link_parts.proofs.LoggerRun.{wants}
use Rattle.link_parts.proofs.logger.answer.Goals as goal

pub returns-in_err-take_any-clause-memory : goal.returns-in_err-take_any-clause-memory
returns-in_err-take_any-clause-memory c =
    let said : heeded_in c.args.heeded c.args.bytes.now ≡ Some (any_said c.in-Some.any) = sym (ap (option_map any_said) (sym c.in-Some.is) ∙ c.read_heeded.ensures.value) in
    at_err c.from_residual.result (wants c.args.store.now (heeded_in c.args.heeded c.args.bytes.now) (any_said c.in-Some.any) said c.in_err-take_any.ensures.memory)
