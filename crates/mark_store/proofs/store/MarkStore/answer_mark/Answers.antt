use Rattle.std.proofs.Common.{◌≡◌, ◌∙◌, ◌==◌, ◌&&◌, not, nat_lt, false, sym, ap, subst, arith, Some, None, if◌then◌else◌}
use Rattle.seq_arith.specs.Message.Body.{StaleMsg}
use Rattle.logger_wire.specs.MarkValue.{body_of, message_of}
use Rattle.mark_laws.specs.MarkedLog.{with_mark_body, is_mark_answer, reported_of_mark}
use Rattle.mark_laws.specs.MarkedLog.AnyMessage.{Of_log}
use Rattle.mark_store.specs.Bytes.{reply_bytes_by}
use Rattle.mark_store.specs.Refinement.{IsLeftOfMarked}
use Rattle.mark_store.proofs.Steps.{own_after, own_answer, other_after, other_answer, some_boot, replies_alike}
use Rattle.mark_store.proofs.store.MarkStore.answer_mark.Goals as goal

pub returns-then-m-boot-clause-next : goal.returns-then-m-boot-clause-next
returns-then-m-boot-clause-next c =
    let own : c.args.m.now.boot ≡ c.args.self.now.trimmed.log.boot = grind arith in
    λ l a. subst (IsLeftOfMarked c.take.new.self) (sym (own_after l (message_of c.args.m.now) (own ∙ a.left.boot))) (c.in_ok-take.ensures.ok l a)

pub returns-then-m-boot-clause-answer : goal.returns-then-m-boot-clause-answer
returns-then-m-boot-clause-answer c =
    let own : c.args.m.now.boot ≡ c.args.self.now.trimmed.log.boot = grind arith in
    λ l a. c.write_answer.ensures (with_mark_body (body_of c.args.m.now.body) l) (c.in_ok-take.ensures.ok l a)
    ∙ replies_alike c.args.grammar c.args.m.now.boot (reported_of_mark (body_of c.args.m.now.body) (with_mark_body (body_of c.args.m.now.body) l))
    ∙ ap (reply_bytes_by c.args.grammar) (sym (own_answer l (message_of c.args.m.now) (own ∙ a.left.boot)))

pub returns-clause-next : goal.returns-clause-next
returns-clause-next c =
    let other : (c.args.m.now.boot == c.args.self.now.trimmed.log.boot) ≡ false = grind arith in
    λ l a. subst (IsLeftOfMarked c.args.self.now) (sym (other_after l (message_of c.args.m.now) (ap (λ n. c.args.m.now.boot == n) (sym a.left.boot) ∙ other))) a

pub returns-clause-answer : goal.returns-clause-answer
returns-clause-answer c =
    let other : (c.args.m.now.boot == c.args.self.now.trimmed.log.boot) ≡ false = grind arith in
    λ l a. c.answer_newer.ensures
    ∙ (ap (λ n. reply_bytes_by c.args.grammar (if nat_lt c.args.m.now.boot n && not (is_mark_answer (body_of c.args.m.now.body)) then Some (Of_log (record { boot = c.args.m.now.boot; body = StaleMsg n })) else None))
    (c.boot-boot.ensures ∙ a.left.boot)
    ∙ ap (reply_bytes_by c.args.grammar) (sym (other_answer l (message_of c.args.m.now) (ap (λ n. c.args.m.now.boot == n) (sym a.left.boot) ∙ other))))

pub answer_newer-requires-clause-boot : goal.answer_newer-requires-clause-boot
answer_newer-requires-clause-boot c = some_boot (message_of c.args.m.now) c.requires.spellable
