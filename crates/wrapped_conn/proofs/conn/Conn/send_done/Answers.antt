use Rattle.wrapped_conn.proofs.Sendable.{done_sendable}
use Rattle.std.proofs.Common.{sym, subst, ◌≤◌}
use Rattle.logger_wire.specs.declared.Body.TheVariants as body
use Rattle.logger_wire.specs.Value.{IsSendableBy}
use Rattle.wrapped_conn.specs.ConnState.{ConnState}
use Rattle.wrapped_conn.proofs.conn.Conn.send_done.Goals as goal

pub send_message-requires-clause-sendable : goal.send_message-requires-clause-sendable
send_message-requires-clause-sendable g c =
    subst (λ g. IsSendableBy g (record { boot = c.self.inside.boot; body = body.Done c.self.inside.key })) (sym c.grammar.ensures)
    (done_sendable _ c.self.inside.boot c.self.inside.key (subst (λ (x : ConnState _). 1 ≤ x.boot) (sym c.self.view_is) c.requires.boot) c.fit.ensures.boot (record { ip = c.fit.ensures.ip; port = c.fit.ensures.port }))
