use Rattle.std.proofs.Common.{◌≡◌, sym, ap, subst, Some, None}
use Rattle.std.proofs.lemmas.Result.{on_ok_weaker}
use Rattle.seq_arith.specs.Mark.{Mark}
use Rattle.seq_arith.specs.MarkGrammar.{IsSpellable}
use Rattle.logger_wire.specs.MarkValue.{mark_said, body_of, message_of}
use Rattle.mark_laws.specs.MarkedLog.{after_mark}
use Rattle.mark_store.proofs.Steps.{mark_ranges, IsInRange, some_boot}
use Rattle.mark_store.specs.Refinement.{IsLeftOfMarked}
use Rattle.schedule_network.specs.FullLog.{StoreAndLog}
use Rattle.schedule_network.proofs.Entered.{entered, not_entered, unmarked, marking, other_body}
use Rattle.schedule_network.proofs.marked.MarkedLog.enter.Goals as goal

pub returns-in_default : goal.returns-in_default
returns-in_default c = λ l left full_log d.
    unmarked c.args.self.now l (message_of c.args.message.now) (other_body c.args.message.now.body c.in_default.not-Mark) left full_log

pub acknowledge-requires-clause-boot : goal.acknowledge-requires-clause-boot
acknowledge-requires-clause-boot c = some_boot (message_of c.args.message.now) c.requires

pub acknowledge-requires-clause-length : goal.acknowledge-requires-clause-length
acknowledge-requires-clause-length c =
    let m : Mark = mark_said c.in-Mark.mark in
    let ranges : IsInRange m =
    mark_ranges c.args.message.now.boot c.in-Mark.key m (subst (λ b. IsSpellable (record { boot = c.args.message.now.boot; body = body_of b })) c.in-Mark.is c.requires) in ranges.bytes

pub acknowledge-requires-clause-made : goal.acknowledge-requires-clause-made
acknowledge-requires-clause-made c =
    let m : Mark = mark_said c.in-Mark.mark in
    let ranges : IsInRange m =
    mark_ranges c.args.message.now.boot c.in-Mark.key m (subst (λ b. IsSpellable (record { boot = c.args.message.now.boot; body = body_of b })) c.in-Mark.is c.requires) in ranges.made

pub returns-in-Some : goal.returns-in-Some
returns-in-Some c =
    let m : Mark = mark_said c.in-Mark.mark in
    let is : message_of c.args.message.now ≡ marking c.args.message.now.boot c.in-Mark.key m = ap (λ b. record { boot = c.args.message.now.boot; body = body_of b }) c.in-Mark.is in
    on_ok_weaker c.acknowledge.result
    (λ e. λ l left full_log d.
    entered c.args.self.now c.acknowledge.new.self l (message_of c.args.message.now) c.args.message.now.boot c.in-Mark.key m c.in-Mark.mark.length c.in-Some.units is left full_log d
    (sym (c.in-Some.ensures (after_mark l (message_of c.args.message.now)) (subst (λ (x : StoreAndLog). IsLeftOfMarked x.store (after_mark l (message_of c.args.message.now))) (sym c.self.view_is) left))) c.if-units-mark.true e)
    c.acknowledge.ensures

pub returns-in_default-acknowledged : goal.returns-in_default-acknowledged
returns-in_default-acknowledged c = λ l left full_log d.
    let m : Mark = mark_said c.in-Mark.mark in
    let is : message_of c.args.message.now ≡ marking c.args.message.now.boot c.in-Mark.key m = ap (λ b. record { boot = c.args.message.now.boot; body = body_of b }) c.in-Mark.is in
    not_entered c.args.self.now l (message_of c.args.message.now) c.args.message.now.boot c.in-Mark.key m (Some c.in-Some.units) is left full_log
    (sym (c.in-Some.ensures (after_mark l (message_of c.args.message.now)) (subst (λ (x : StoreAndLog). IsLeftOfMarked x.store (after_mark l (message_of c.args.message.now))) (sym c.self.view_is) left))) c.if-units-mark.false

pub returns-in_default-acknowledged-2 : goal.returns-in_default-acknowledged-2
returns-in_default-acknowledged-2 c = λ l left full_log d.
    let m : Mark = mark_said c.in-Mark.mark in
    let is : message_of c.args.message.now ≡ marking c.args.message.now.boot c.in-Mark.key m = ap (λ b. record { boot = c.args.message.now.boot; body = body_of b }) c.in-Mark.is in
    not_entered c.args.self.now l (message_of c.args.message.now) c.args.message.now.boot c.in-Mark.key m None is left full_log
    (sym (c.in_default-acknowledged.ensures (after_mark l (message_of c.args.message.now)) (subst (λ (x : StoreAndLog). IsLeftOfMarked x.store (after_mark l (message_of c.args.message.now))) (sym c.self.view_is) left))) tt
