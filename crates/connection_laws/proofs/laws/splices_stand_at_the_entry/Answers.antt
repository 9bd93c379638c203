use Rattle.server_trait.specs.Service.{machine}
use Rattle.connection_laws.proofs.Spliced.{splices, splices_parts}
use Rattle.connection_laws.proofs.laws.splices_stand_at_the_entry.Goals as goal

pub returns-clause-tcp : goal.returns-clause-tcp
returns-clause-tcp g c = λ fresh profile i local e from. splices (machine fresh g.S.Service.after g.S.Service.greeting) profile local e i from

pub returns-clause-parts : goal.returns-clause-parts
returns-clause-parts g c = λ fresh profile i local e n from replayed. splices_parts (machine fresh g.S.Service.after g.S.Service.greeting) profile local e i n from replayed
