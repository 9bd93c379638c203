use Rattle.wrapped_conn.specs.Sound.{IsSound}
use Rattle.connection_script.proofs.most_output.turns_acknowledged.Given as goal

abbrev pub invariant-loop : goal.invariant-loop
invariant-loop l = IsSound l.conn
