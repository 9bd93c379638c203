use Rattle.lasting_laws.proofs.Watches.{late, early, unasked}
use Rattle.lasting_laws.proofs.half_open_connections_are_let_go.Goals as goal

pub returns-clause-late : goal.returns-clause-late
returns-clause-late c = late

pub returns-clause-early : goal.returns-clause-early
returns-clause-early c = early

pub returns-clause-unasked : goal.returns-clause-unasked
returns-clause-unasked c = unasked
