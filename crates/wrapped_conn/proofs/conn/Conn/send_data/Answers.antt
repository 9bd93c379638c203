use Rattle.std.proofs.Common.{◌≡◌, ◌≤◌, true, sym, ap, ◌∙◌, subst}
use Rattle.logger_wire.specs.declared.Body.TheVariants as body
use Rattle.logger_wire.specs.declared.records.Part.{Part}
use Rattle.logger_wire.specs.Value.{IsSendableBy}
use Rattle.wrapped_conn.specs.ConnState.{ConnState}
use Rattle.wrapped_conn.specs.LoggerMessages.{grammar_by}
use Rattle.wrapped_conn.proofs.Sendable.{data_sendable}
use Rattle.wrapped_conn.proofs.conn.Conn.send_data.Goals as goal

pub send_message-requires-clause-sendable : goal.send_message-requires-clause-sendable
send_message-requires-clause-sendable g c =
    let part : Part = record { key = c.self.inside.key; offset = c.args.offset; acked = c.args.acked; fin = c.args.fin; more = c.args.more; bytes = c.args.bytes } in
    subst (λ g. IsSendableBy g (record { boot = c.self.inside.boot; body = body.Data part })) (sym (c.grammar.ensures ∙ ap (λ (x : ConnState _). grammar_by x.batches) (sym c.self.view_is)))
    (data_sendable c.self.inside.batches c.self.inside.boot part (subst (λ (x : ConnState _). 1 ≤ x.boot) (sym c.self.view_is) c.requires.boot) c.fit.ensures.boot
    (record { ip = c.fit.ensures.ip; port = c.fit.ensures.port }) c.requires.within c.requires.acked c.requires.most c.requires.one
    (λ more. subst (λ (x : ConnState _). x.batches ≡ true) (sym c.self.view_is) (c.requires.wide more)))

pub send_message-requires-else-bytes-le-SHORT_TEXT-clause-sendable : goal.send_message-requires-else-bytes-le-SHORT_TEXT-clause-sendable
send_message-requires-else-bytes-le-SHORT_TEXT-clause-sendable g c =
    let part : Part = record { key = c.self.inside.key; offset = c.args.offset; acked = c.args.acked; fin = c.args.fin; more = c.args.more; bytes = c.args.bytes } in
    subst (λ g. IsSendableBy g (record { boot = c.self.inside.boot; body = body.Data part })) (sym (c.grammar-else-bytes-le-SHORT_TEXT.ensures ∙ ap (λ (x : ConnState _). grammar_by x.batches) (sym c.self.view_is)))
    (data_sendable c.self.inside.batches c.self.inside.boot part (subst (λ (x : ConnState _). 1 ≤ x.boot) (sym c.self.view_is) c.requires.boot) c.fit.ensures.boot
    (record { ip = c.fit.ensures.ip; port = c.fit.ensures.port }) c.requires.within c.requires.acked c.requires.most c.requires.one
    (λ more. subst (λ (x : ConnState _). x.batches ≡ true) (sym c.self.view_is) (c.requires.wide more)))
