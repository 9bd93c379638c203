use Rattle.trace_laws.proofs.fetched_entries_are_sound.Goals as goal
use Rattle.server_trait.specs.Service.{machine}
use Rattle.trace_laws.proofs.Sound.{inputs_sound}

pub returns-clause-whole : goal.returns-clause-whole
returns-clause-whole g c = λ kind start trace node input joint up comes. (inputs_sound (machine (g.S.Service.started kind) g.S.Service.after g.S.Service.greeting) (g.met.S.Service.greets_shortly (g.S.Service.started kind), g.met.S.Service.is_short) start trace node input joint up comes).0

pub returns-clause-front : goal.returns-clause-front
returns-clause-front g c = λ kind start trace node input joint up comes. (inputs_sound (machine (g.S.Service.started kind) g.S.Service.after g.S.Service.greeting) (g.met.S.Service.greets_shortly (g.S.Service.started kind), g.met.S.Service.is_short) start trace node input joint up comes).1
