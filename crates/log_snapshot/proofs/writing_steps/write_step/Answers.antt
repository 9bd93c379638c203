use Rattle.std.proofs.Common.{Some, sym, subst, ◌∷◌, ◌++◌}
use Rattle.std.specs.Option.{option_to_list}
use Rattle.seq_arith.specs.Message.Body.{OpenMsg, DataMsg}
use Rattle.ft_model.specs.Log.{numbers_of_entry}
use Rattle.long_laws.specs.Snapshot.{said, last_data}
use Rattle.log_snapshot.specs.Steps.{IsRest, done_at}
use Rattle.log_snapshot.proofs.Rests.{opening, state, end}
use Rattle.log_snapshot.proofs.writing_steps.write_step.Goals as goal

pub returns-in-Open-clause-says : goal.returns-in-Open-clause-says
returns-in-Open-clause-says c = (
  Some (said c.args.boot (OpenMsg (numbers_of_entry c.args.entry.now))),
  c.write_opening.ensures,
  λ rest is. subst (λ s. IsRest c.args.boot c.args.entry.now (Some s) (said c.args.boot (OpenMsg (numbers_of_entry c.args.entry.now)) ∷ rest)) (sym c.in-Open.is)
      (opening c.args.boot c.args.entry.now rest is),
)

pub returns-in-State-clause-says : goal.returns-in-State-clause-says
returns-in-State-clause-says c = (
  Some (said c.args.boot (DataMsg (last_data c.args.entry.now))),
  c.write_state.ensures,
  λ rest is. subst (λ s. IsRest c.args.boot c.args.entry.now (Some s) (said c.args.boot (DataMsg (last_data c.args.entry.now)) ∷ rest)) (sym c.in-State.is)
      (state c.args.boot c.args.entry.now rest is),
)

pub returns-in-Done-clause-says : goal.returns-in-Done-clause-says
returns-in-Done-clause-says c = (
  done_at c.args.boot c.args.entry.now,
  c.write_end.ensures,
  λ rest is. subst (λ s. IsRest c.args.boot c.args.entry.now (Some s) (option_to_list (done_at c.args.boot c.args.entry.now) ++ rest)) (sym c.in-Done.is)
      (end c.args.boot c.args.entry.now rest is),
)
