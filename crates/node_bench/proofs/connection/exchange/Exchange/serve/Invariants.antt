use Rattle.wrapped_conn.specs.Sound.{IsSound}
use Rattle.node_bench.proofs.connection.exchange.Exchange.serve.Given as goal

abbrev pub invariant-loop-i : goal.invariant-loop-i
invariant-loop-i l = IsSound l.self.server.conn
