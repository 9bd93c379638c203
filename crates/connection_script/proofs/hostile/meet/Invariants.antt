use Rattle.wrapped_conn.specs.Sound.{IsSound}
use Rattle.connection_script.proofs.hostile.meet.Given as goal

abbrev pub invariant-loop-i : goal.invariant-loop-i
invariant-loop-i l = IsSound l.conn
