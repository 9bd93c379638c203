use Rattle.conn_marks.specs.Marks.{mark_with}
use Rattle.conn_marks.proofs.Writable.{mark_spellable}
use Rattle.conn_marks.proofs.marking.mark_message.Goals as goal

pub returns-clause-sendable : goal.returns-clause-sendable
returns-clause-sendable c =
    mark_spellable c.args.boot c.args.key (mark_with c.args.quiet c.args.state.now) c.requires.boot c.fit.ensures.boot c.fit.ensures.key c.requires.writable
