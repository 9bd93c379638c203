use Rattle.std.proofs.Common.{◌∙◌, sym, ap}
use Rattle.logger_wire.specs.Value.{message_of}
use Rattle.logger_store.proofs.Changed.{own_differs}
use Rattle.logger_store.proofs.store.LogStore.changes_by.Goals as goal

pub returns-then-m-self-clause-differs : goal.returns-then-m-self-clause-differs
returns-then-m-self-clause-differs c = λ some.
    own_differs c.args.self.now (message_of c.args.m.now) (sym c.is_answer.ensures ∙ c.if-is_answer.false) (sym c.is_hello.ensures ∙ c.if-is_hello.false)
    (c.if-m-self.true ∙ ap (λ l. l.boot) c.self.view_is) (sym c.body_changes.ensures.value ∙ some)
