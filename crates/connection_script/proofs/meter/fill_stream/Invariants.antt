use Rattle.wrapped_conn.specs.Sound.{IsSound}
use Rattle.connection_script.proofs.meter.fill_stream.Given as goal

abbrev pub invariant-loop-number : goal.invariant-loop-number
invariant-loop-number l = IsSound l.conn
