use Rattle.long_laws.proofs.premises.long_premises_hold.Goals as goal
use Rattle.server_trait.specs.Service.{machine}
use Rattle.long_laws.specs.LongTrace.{long_after}
use Rattle.long_laws.proofs.LongPremises.{premised_after, input_near, scripted_near, let_go_near, input_sound, no_fence}

pub returns-clause-near : goal.returns-clause-near
returns-clause-near g c = λ kind start trace node input joint up comes plain.
    input_near (machine (g.S.Service.started kind) g.S.Service.after g.S.Service.greeting) (long_after start trace).now node input
    (premised_after (machine (g.S.Service.started kind) g.S.Service.after g.S.Service.greeting) (g.met.S.Service.greets_shortly (g.S.Service.started kind), g.met.S.Service.is_short) start trace joint) up comes plain

pub returns-clause-scripted : goal.returns-clause-scripted
returns-clause-scripted g c = λ kind start trace node input joint up comes scripted.
    scripted_near (machine (g.S.Service.started kind) g.S.Service.after g.S.Service.greeting) (long_after start trace).now node input
    (premised_after (machine (g.S.Service.started kind) g.S.Service.after g.S.Service.greeting) (g.met.S.Service.greets_shortly (g.S.Service.started kind), g.met.S.Service.is_short) start trace joint) up comes scripted

pub returns-clause-let_go : goal.returns-clause-let_go
returns-clause-let_go g c = λ kind start trace node key point joint up lives.
    let_go_near (machine (g.S.Service.started kind) g.S.Service.after g.S.Service.greeting) (long_after start trace).now node key point
    (premised_after (machine (g.S.Service.started kind) g.S.Service.after g.S.Service.greeting) (g.met.S.Service.greets_shortly (g.S.Service.started kind), g.met.S.Service.is_short) start trace joint) up lives

pub returns-clause-sound : goal.returns-clause-sound
returns-clause-sound g c = λ kind start trace node input joint up comes.
    (input_sound (machine (g.S.Service.started kind) g.S.Service.after g.S.Service.greeting) (long_after start trace).now node input
    (premised_after (machine (g.S.Service.started kind) g.S.Service.after g.S.Service.greeting) (g.met.S.Service.greets_shortly (g.S.Service.started kind), g.met.S.Service.is_short) start trace joint) up comes).0

pub returns-clause-fronts : goal.returns-clause-fronts
returns-clause-fronts g c = λ kind start trace node input joint up comes.
    (input_sound (machine (g.S.Service.started kind) g.S.Service.after g.S.Service.greeting) (long_after start trace).now node input
    (premised_after (machine (g.S.Service.started kind) g.S.Service.after g.S.Service.greeting) (g.met.S.Service.greets_shortly (g.S.Service.started kind), g.met.S.Service.is_short) start trace joint) up comes).1

pub returns-clause-unfenced : goal.returns-clause-unfenced
returns-clause-unfenced g c = λ kind start trace node input joint up comes.
    no_fence (machine (g.S.Service.started kind) g.S.Service.after g.S.Service.greeting) (long_after start trace).now node input
    (premised_after (machine (g.S.Service.started kind) g.S.Service.after g.S.Service.greeting) (g.met.S.Service.greets_shortly (g.S.Service.started kind), g.met.S.Service.is_short) start trace joint) up comes
