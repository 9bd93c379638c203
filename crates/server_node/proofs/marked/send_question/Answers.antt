use Rattle.std.proofs.Common.{◌∷◌, [], subst, sym}
use Rattle.std.proofs.lemmas.Result.{on_ok_weaker}
use Rattle.reincarnate.specs.Marking.{any_of, IsAnySendable}
use Rattle.node_serving.specs.Identity.{grammar_in}
use Rattle.mark_laws.specs.MarkedNode.{outgoing}
use Rattle.conn_marks.specs.MarkSends.{AreOut}
use Rattle.server_node.proofs.marked.send_question.Goals as goal

pub send_message-requires-clause-sendable : goal.send_message-requires-clause-sendable
send_message-requires-clause-sendable c = (subst IsAnySendable c.in-Log.is c.requires.sendable) (grammar_in c.args.who)

pub returns-in-Mark : goal.returns-in-Mark
returns-in-Mark c = on_ok_weaker c.ask_mark.result
    (λ sent. subst (λ question. AreOut (grammar_in c.args.who) (outgoing (any_of question) ∷ []) c.args.turn.now.sent.items c.ask_mark.new.turn.sent.items) (sym c.in-Mark.is)
    (sent (grammar_in c.args.who))) c.ask_mark.ensures
