use Rattle.std.proofs.Common.{◌≡◌, ◌∙◌, ◌∷◌, [], drop, filter, length, take, rules}
use Rattle.std.proofs.lemmas.Result.{on_ok_weaker}
use Rattle.seq_arith.specs.MarkGrammar.{spelling}
use Rattle.logger_wire.specs.MarkValue.{message_of}
use Rattle.conn_marks.specs.KeyMarks.{marking_in}
use Rattle.conn_marks.specs.MarkSends.{is_done_wire, put_before}
use Rattle.node_serving.specs.Identity.{grammar_in}
use Rattle.node_serving.specs.SentBytes.{message_to_logger}
use Rattle.node_serving.proofs.MarkedKeys.{sends_one, sends_nothing, text_is}
use Rattle.node_serving.proofs.marking.send_outstanding.Goals as goal

pub returns-in_default : goal.returns-in_default
returns-in_default c =
    sends_nothing (grammar_in c.args.who) c.args.who.boot c.args.key c.args.from c.message.result (marking_in c.args.marks.now c.args.key) c.args.turn.now.sent.items c.message.ensures.value c.in_default.is

pub returns : goal.returns
returns c =
    let text : take c.write_mark-len.result c.write_mark-len.new.out ≡ spelling (message_of c.in-Some.message) =
    text_is (message_of c.in-Some.message) c.write_mark-len.result c.write_mark-len.new.out _ c.write_mark-len.ensures.bytes c.write_mark-len.ensures.short c.write_mark-len.auto.out (search rules) in
    on_ok_weaker c.put.result
    (λ put. sends_one (grammar_in c.args.who) c.args.who.boot c.args.key c.args.from c.in-Some.message (marking_in c.args.marks.now c.args.key) c.args.turn.now.sent.items c.put.new.self.items c.in-Some.ensures.value c.in-Some.ensures.sendable
    (put ∙ ((λ j. put_before (c.dones_from-behind.ensures.value j) (message_to_logger (text j) ∷ []) c.args.turn.now.sent.items)
    ∙ (λ j. put_before (length (filter (is_done_wire (c.grammar.ensures j)) (drop c.args.from c.args.turn.now.sent.items)))
    (message_to_logger (spelling (message_of c.in-Some.message)) ∷ []) c.args.turn.now.sent.items)))) c.put.ensures
