use Rattle.std.proofs.Common.{◌≡◌, ◌∙◌, Some, ap, sym, subst, option_map}
use Rattle.forget_store.specs.AnyMessage.{heeded_in, any_said}
use Rattle.ft_io.proofs.Outcomes.{at_err}
use Rattle.link_parts.proofs.LoggerRun.{wants}
use Rattle.journal_parts.proofs.rounds.answer.Goals as goal

pub returns-in_err-take-clause-memory : goal.returns-in_err-take-clause-memory
returns-in_err-take-clause-memory c =
    let said : heeded_in c.args.kept.now.heeded c.args.bytes.now ≡ Some (any_said c.in-Some.any) =
    subst (λ h. heeded_in h c.args.bytes.now ≡ Some (any_said c.in-Some.any)) c.heeded.ensures (sym (ap (option_map any_said) (sym c.in-Some.is) ∙ c.read_heeded.ensures.value)) in
    at_err c.from_residual.result (wants c.args.kept.now.log (heeded_in c.args.kept.now.heeded c.args.bytes.now) (any_said c.in-Some.any) said c.in_err-take.ensures.memory)
