use Rattle.std.proofs.Common.{◌≡◌, ◌∙◌, sym, ap, subst, rules}
use Rattle.std.specs.Prelude.{Ok}
use Rattle.std.proofs.lemmas.Result.{on_ok_weaker}
use Rattle.seq_arith.specs.MarkGrammar as marks
use Rattle.seq_arith.specs.MessageGrammar as messages
use Rattle.logger_wire.specs.Value.{message_of, seen}
use Rattle.mark_store.specs.Bytes.{after_reading, reply_to_reading, reply_bytes_by}
use Rattle.mark_store.specs.Refinement.{TrimmedAtMarks, IsLeftOfMarked}
use Rattle.mark_store.proofs.Steps.{after_given, answers_above}
use Rattle.mark_store.proofs.store.MarkStore.answer_by.Goals as goal

pub returns-in-Ok-clause-next : goal.returns-in-Ok-clause-next
returns-in-Ok-clause-next c =
    let ok : c.read_msg_by.result ≡ Ok c.in-Ok.m = search rules in
    let read : messages.reading_by c.args.grammar c.args.bytes.now ≡ Ok (message_of c.in-Ok.m) = sym c.read_msg_by.ensures.value ∙ ap seen ok in
    let s : TrimmedAtMarks = record { trimmed = c.self.inside.log; marks = c.self.inside.marks.items } in
    on_ok_weaker c.answer_by.result
    (λ is l a. subst (IsLeftOfMarked _) (sym (ap (λ r. after_reading r (marks.reading c.args.bytes.now) l) read))
    (after_given s l (message_of c.in-Ok.m) c.answer_by.new.self (subst (λ x. IsLeftOfMarked x l) (sym c.self.view_is) a) is c.answer_by.ensures.trims))
    c.answer_by.ensures.next

pub returns-in-Ok-clause-answer : goal.returns-in-Ok-clause-answer
returns-in-Ok-clause-answer c =
    let ok : c.read_msg_by.result ≡ Ok c.in-Ok.m = search rules in
    let read : messages.reading_by c.args.grammar c.args.bytes.now ≡ Ok (message_of c.in-Ok.m) = sym c.read_msg_by.ensures.value ∙ ap seen ok in
    let s : TrimmedAtMarks = record { trimmed = c.self.inside.log; marks = c.self.inside.marks.items } in
    on_ok_weaker c.answer_by.result
    (λ is l a. is ∙ (answers_above c.args.grammar s l (message_of c.in-Ok.m) (subst (λ x. IsLeftOfMarked x l) (sym c.self.view_is) a)
    ∙ ap (reply_bytes_by c.args.grammar) (sym (ap (λ r. reply_to_reading r (marks.reading c.args.bytes.now) l) read))))
    c.answer_by.ensures.answer
