use Rattle.server_trait.specs.Service.{machine}
use Rattle.lasting_laws.proofs.Moments.{one_moment}
use Rattle.lasting_laws.proofs.Ticks.{tick_moments}
use Rattle.lasting_laws.proofs.lasting_turns_are_quarantine_steps.Goals as goal

pub returns-clause-delivery : goal.returns-clause-delivery
returns-clause-delivery g c = λ kind patience n after w number input sent own comes fresh turn.
    one_moment (machine (g.S.Service.started kind) g.S.Service.after g.S.Service.greeting) patience n w own number input comes fresh sent after turn

pub returns-clause-tick : goal.returns-clause-tick
returns-clause-tick g c = λ kind patience n after w sent own apart turn. tick_moments (machine (g.S.Service.started kind) g.S.Service.after g.S.Service.greeting) patience n w own sent after apart turn
