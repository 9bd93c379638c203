use Rattle.server_trait.specs.Service.{machine}
use Rattle.lasting_lives.proofs.Noted.{other_boot_serving, other_boot_asking, other_boot_fetching}
use Rattle.lasting_lives.proofs.laws.messages_of_other_boots_settle_nothing.Goals as goal

pub returns-clause-serving : goal.returns-clause-serving
returns-clause-serving g c = λ kind n message later opened places sent lives ends at was now unfenced turn other ends_by st.
    other_boot_serving (machine (g.S.Service.started kind) g.S.Service.after g.S.Service.greeting) n message later opened places sent at was now unfenced turn ends lives other ends_by st

pub returns-clause-asking : goal.returns-clause-asking
returns-clause-asking g c = λ kind n message later sent lives at unfenced turn other none.
    other_boot_asking (machine (g.S.Service.started kind) g.S.Service.after g.S.Service.greeting) n message later sent unfenced turn lives other at none

pub returns-clause-fetching : goal.returns-clause-fetching
returns-clause-fetching g c = λ kind n message later count fetched sent lives at unfenced turn other st.
    other_boot_fetching (machine (g.S.Service.started kind) g.S.Service.after g.S.Service.greeting) n message later sent unfenced turn lives count fetched other at st
