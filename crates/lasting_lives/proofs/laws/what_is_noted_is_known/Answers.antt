use Rattle.server_trait.specs.Service.{machine}
use Rattle.lasting_lives.proofs.Noted.{noted_serving, noted_asking, noted_fetching}
use Rattle.lasting_lives.proofs.laws.what_is_noted_is_known.Goals as goal

pub returns-clause-serving : goal.returns-clause-serving
returns-clause-serving g c = λ kind n message later opened places sent old new ends at was now unfenced turn own ends_by notes st.
    noted_serving (machine (g.S.Service.started kind) g.S.Service.after g.S.Service.greeting) n message later opened places sent at was now unfenced turn own old new ends ends_by notes st

pub returns-clause-asking : goal.returns-clause-asking
returns-clause-asking g c = λ kind n message later sent old new at unfenced turn notes none.
    noted_asking (machine (g.S.Service.started kind) g.S.Service.after g.S.Service.greeting) n message later sent unfenced turn at old new notes none

pub returns-clause-fetching : goal.returns-clause-fetching
returns-clause-fetching g c = λ kind n message later count fetched sent old new at unfenced apart turn empty notes st.
    noted_fetching (machine (g.S.Service.started kind) g.S.Service.after g.S.Service.greeting) n message later sent unfenced turn count fetched at empty apart old new notes st
