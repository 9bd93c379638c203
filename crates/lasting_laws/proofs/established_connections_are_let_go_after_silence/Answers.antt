use Rattle.lasting_laws.proofs.Watches.{silent_then, never_reset}
use Rattle.lasting_laws.proofs.established_connections_are_let_go_after_silence.Goals as goal

pub returns-clause-silent : goal.returns-clause-silent
returns-clause-silent c = silent_then

pub returns-clause-reset : goal.returns-clause-reset
returns-clause-reset c = never_reset
