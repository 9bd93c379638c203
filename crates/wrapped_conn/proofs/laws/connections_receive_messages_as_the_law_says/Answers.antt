use Rattle.server_trait.specs.Service.{machine}
use Rattle.logger_wire.specs.Records.{kept_said}
use Rattle.wrapped_conn.proofs.Arrivals.{on_receipt}
use Rattle.wrapped_conn.proofs.laws.connections_receive_messages_as_the_law_says.Goals as goal

pub returns-clause-stable : goal.returns-clause-stable
returns-clause-stable g c = λ fresh p kept old new segments messages sound sound_new stands turn.
    on_receipt (machine fresh g.S.Service.after g.S.Service.greeting) p old new (kept_said kept) segments messages sound sound_new stands turn

pub returns-clause-reads : goal.returns-clause-reads
returns-clause-reads g c = λ fresh p kept old new segments messages sound sound_new stands turn.
    on_receipt (machine fresh g.S.Service.after g.S.Service.greeting) p old new (kept_said kept) segments messages sound sound_new stands turn
