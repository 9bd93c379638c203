use Rattle.wrapped_conn.specs.Sound.{IsSound}
use Rattle.node_bench.proofs.connection.exchange.Exchange.run.Given as goal

abbrev pub invariant-loop : goal.invariant-loop
invariant-loop l = IsSound l.self.server.conn
